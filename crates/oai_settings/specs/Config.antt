-- The configuration of a repository, and its rules.
use Rattle.std.specs.Prelude.{◌≡◌, ℕ, ℤ, pos, neg_ℤ, Bool, true, ◌==◌, ◌||◌, ◌&&◌, not, int_lt, List, length}
use Rattle.std.specs.Char.{is_ascii_digit, is_ascii_lowercase}
use Rattle.std.specs.Int.{is_in_range}
use Rattle.std.specs.List.{list_all}
use Rattle.std.specs.Ordering.{int_eq}
use Rattle.oai_names.specs.Characters.{is_xml_text}
use Rattle.oai_time.specs.Stamp.{stamp_of}
use Rattle.oai_time.specs.declared.granularity.Granularity.{Granularity}
use Rattle.oai_time.specs.declared.clock.TheConstants.{LAST_TICK}
use Rattle.oai_xml.specs.Documents.{is_canonical}
use Rattle.oai_xml.specs.Named.{NamedList, are_canonical}
use Rattle.oai_item.specs.ShortTexts.{is_short_text}
use Rattle.oai_item.specs.declared.formats.Format.{Format}
use Rattle.oai_item.specs.declared.forms.Forms.{Forms}
use Rattle.oai_item.specs.declared.deleted_record.DeletedRecord.{DeletedRecord}

-- what Identify returns of a repository (OAI-PMH 2.0, section 4.2), its limits, its metadata formats, the forms that records may have, and the
-- elements in its containers `description`, and in `setDescription` of each set (section 4.6), in canonical text
pub record RepositoryConfig : Type 0 where
  pub base : List ℕ
  pub repository_name : List ℕ
  pub addresses : List (List ℕ)
  pub earliest : ℤ
  pub deleted : DeletedRecord
  pub granularity : Granularity
  pub chunk : ℕ
  pub lifetime : ℕ
  pub lists : ℕ
  pub items : ℕ
  pub formats : List Format
  pub forms : Forms
  pub descriptions : List (List ℕ)
  pub set_descriptions : List NamedList

-- a character of a repository's name: [a-z0-9-], this repository's own
abbrev pub is_repository_byte : ℕ → Bool
is_repository_byte b = is_ascii_lowercase b || is_ascii_digit b || b == 45

-- a repository's name in its base URL: 1 to 32 of these, this repository's own rule
unfoldable pub is_repository_name : List ℕ → Bool
is_repository_name name = is_in_range 1 32 (length name) && list_all is_repository_byte name

-- a repositoryName, and 1 to 16 addresses (OAI-PMH 2.0, section 4.2; the numbers are this repository's own)
unfoldable pub is_described : List ℕ → List (List ℕ) → Bool
is_described name addresses =
    is_short_text name && is_in_range 1 16 (length addresses) && list_all is_short_text addresses

-- a second of the years 0001 to 9998, this repository's own rule
abbrev pub is_in_years : ℤ → Bool
is_in_years seconds =
    not (int_lt seconds (neg_ℤ (pos 62_135_596_800))) && not (int_lt LAST_TICK seconds)

-- a datestamp at the granularity (OAI-PMH 2.0, section 2.7.1), in these years
unfoldable pub is_date : Granularity → ℤ → Bool
is_date granularity seconds = is_in_years seconds && int_eq (stamp_of granularity seconds) seconds

-- ---- the limits: their ranges are this repository's own

-- records in a part of a list
abbrev pub is_chunk : ℕ → Bool
is_chunk n = is_in_range 1 1_000 n

-- seconds that a list stays open: a year of 365 days
abbrev pub is_lifetime : ℕ → Bool
is_lifetime n = is_in_range 1 31_536_000 n

-- lists that are open at once
abbrev pub is_lists : ℕ → Bool
is_lists n = is_in_range 1 10_000 n

-- items, including deleted ones
abbrev pub is_items : ℕ → Bool
is_items n = is_in_range 1 1_000_000 n

-- each of the four is in its range
unfoldable pub are_limits : ℕ → ℕ → ℕ → ℕ → Bool
are_limits chunk lifetime lists items = is_chunk chunk && is_lifetime lifetime && is_lists lists && is_items items

-- the rules that a configuration satisfies
pub record IsConfig (config : RepositoryConfig) : Type 0 where
  pub based : is_xml_text config.base ≡ true
  pub described : is_described config.repository_name config.addresses ≡ true
  pub dated : is_date config.granularity config.earliest ≡ true
  pub limited : are_limits config.chunk config.lifetime config.lists config.items ≡ true
  pub containing : list_all is_canonical config.descriptions ≡ true
  pub set_containing : list_all are_canonical config.set_descriptions ≡ true
