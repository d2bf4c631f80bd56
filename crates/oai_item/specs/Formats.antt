-- Metadata formats. OAI-PMH 2.0, section 3.4.
use Rattle.std.specs.Prelude.{◌≡◌, ◌≤◌, ℕ, Bool, true, false, List, [], ◌∷◌, length, map, drop, slice_get, codes, Option, Some}
use Rattle.std.specs.List.{find, list_all}
use Rattle.std.specs.Str.{bytes_eq}
use Rattle.oai_names.specs.Names.{may_be_prefix}
use Rattle.oai_item.specs.Rules.{has_repeat, is_allowed}
use Rattle.oai_item.specs.declared.formats.Format.{Format}

-- oai_dc, which every repository has: unqualified Dublin Core (OAI-PMH 2.0, sections 2.5 and 3.4, and its guidelines
-- for oai_dc), with the fifteen elements of DCES 1.1
unfoldable pub dublin_core : Format
dublin_core = record {
  prefix = codes "oai_dc";
  schema = codes "http://www.openarchives.org/OAI/2.0/oai_dc.xsd";
  namespace = codes "http://www.openarchives.org/OAI/2.0/oai_dc/";
  root = codes "oai_dc:dc";
  fields = codes "title" ∷ codes "creator" ∷ codes "subject" ∷ codes "description"
      ∷ codes "publisher" ∷ codes "contributor" ∷ codes "date" ∷ codes "type" ∷ codes "format"
      ∷ codes "identifier" ∷ codes "source" ∷ codes "language" ∷ codes "relation"
      ∷ codes "coverage" ∷ codes "rights" ∷ [];
}

-- the format with that prefix
unfoldable pub format_named : List ℕ → List Format → Option Format
format_named prefix formats = find (λ format. bytes_eq format.prefix prefix) formats

-- the invariant of a repository's formats: oai_dc is the first, each after it satisfies the rules, the prefixes are
-- distinct, and there are at most 64
pub record AreRepositoryFormats (formats : List Format) : Type 0 where
  pub first : slice_get formats 0 ≡ Some dublin_core
  pub declared : list_all is_allowed (drop 1 formats) ≡ true
  pub apart : has_repeat (map (λ format. format.prefix) formats) ≡ false
  pub few : length formats ≤ 64

-- the prefix of each is valid, as its type says
unfoldable pub are_formats_prefixed : List Format → Bool
are_formats_prefixed formats = list_all (λ format. may_be_prefix format.prefix) formats

-- both
pub record AreFormats (formats : List Format) : Type 0 where
  pub repository : AreRepositoryFormats formats
  pub prefixed : are_formats_prefixed formats ≡ true
