-- The settings of a repository: what Identify returns of it (OAI-PMH 2.0, section 4.2), its formats and its limits; why
-- they make no configuration, and the configuration that they make.
use Rattle.std.specs.Prelude.{◌≡◌, ℕ, ℤ, Bool, true, false, ◌&&◌, ◌==◌, not, nat_le, List, ◌∷◌, ◌++◌, map, length, codes, Option, Some, None, is_none, option_and_then, if◌then◌else◌, Result, Ok, Err}
use Rattle.std.specs.List.{list_all}
use Rattle.oai_names.specs.Names.{is_among, may_be_prefix}
use Rattle.oai_time.specs.Bound.{bound_of}
use Rattle.oai_time.specs.declared.bound.Bound.{Bound}
use Rattle.oai_time.specs.declared.bound.Bound.TheVariants.{Day as WholeDay, Second as OneSecond}
use Rattle.oai_time.specs.declared.granularity.Granularity.{Granularity}
use Rattle.oai_time.specs.declared.granularity.Granularity.TheVariants.{Day, Second}
use Rattle.oai_item.specs.Formats.{dublin_core}
use Rattle.oai_item.specs.ShortTexts.{is_short_text}
use Rattle.oai_item.specs.Rules.{has_repeat, is_allowed}
use Rattle.oai_item.specs.declared.formats.Format.{Format}
use Rattle.oai_item.specs.declared.forms.Forms.{Forms}
use Rattle.oai_item.specs.declared.forms.Forms.TheVariants.{Fields, Elements}
use Rattle.oai_settings.specs.declared.settings.FormatSettings.{FormatSettings}
use Rattle.oai_settings.specs.declared.settings.Settings.{Settings}
use Rattle.oai_settings.specs.declared.settings.ConfigFault.{ConfigFault}
use Rattle.oai_settings.specs.declared.settings.ConfigFault.TheVariants.{BadShape, BadName, BadFormat, BadDate, BadNumber, NoMemory}
use Rattle.oai_settings.specs.Config.{RepositoryConfig, is_described, is_repository_name, is_in_years, is_chunk, is_lifetime, is_lists, is_items}

-- the base, the repositoryName and the addresses are valid in length, number and characters
abbrev pub has_shape : Settings → Bool
has_shape s = is_short_text s.base && is_described s.repository_name s.addresses

-- ---- the formats

-- the format that the settings describe
abbrev pub format_of : FormatSettings → Format
format_of s = record { prefix = s.prefix; schema = s.schema; namespace = s.namespace; root = s.root; fields = s.fields }

-- it has a metadataPrefix, and satisfies the rules of a declared format
abbrev pub is_good_format : FormatSettings → Bool
is_good_format s = may_be_prefix s.prefix && is_allowed (format_of s)

-- the metadataPrefixes of the formats
abbrev pub prefixes_of : List FormatSettings → List (List ℕ)
prefixes_of settings = map (λ s. s.prefix) settings

-- they are distinct, and none is that of oai_dc (OAI-PMH 2.0, section 3.4)
abbrev pub are_new : List (List ℕ) → Bool
are_new prefixes = not (is_among prefixes dublin_core.prefix) && not (has_repeat prefixes)

-- each format is a good one, their prefixes are new ones, and there are at most 63: this repository's own limit
unfoldable pub are_formats : List FormatSettings → Bool
are_formats settings =
    list_all is_good_format settings && are_new (prefixes_of settings) && nat_le (length settings) 63

-- the format has fields; one that has none takes elements alone
abbrev pub has_fields : FormatSettings → Bool
has_fields s = not (length s.fields == 0)

-- where records are lists of fields alone, each format has fields
abbrev pub have_forms : Forms → List FormatSettings → Bool
have_forms Fields settings = list_all has_fields settings
have_forms Elements settings = true

abbrev pub have_formats : Settings → Bool
have_formats s = have_forms s.forms s.formats && are_formats s.formats

-- the formats of a repository: oai_dc, and the described ones
abbrev pub formats_of : List FormatSettings → List Format
formats_of settings = dublin_core ∷ map format_of settings

-- ---- the earliest datestamp

-- the seconds, if they lie in the years 0001 to 9998
abbrev pub in_years : ℤ → Option ℤ
in_years seconds = if is_in_years seconds then Some seconds else None

-- the seconds of a bound with exactly the granularity, in these years
abbrev pub seconds_of : Granularity → Bound → Option ℤ
seconds_of Day (WholeDay midnight) = in_years midnight
seconds_of Day (OneSecond second) = None
seconds_of Second (WholeDay midnight) = None
seconds_of Second (OneSecond second) = in_years second

-- the seconds of the text, if it is such a bound (OAI-PMH 2.0, sections 2.7.1 and 3.3)
unfoldable pub earliest_of : Granularity → List ℕ → Option ℤ
earliest_of granularity text = option_and_then (seconds_of granularity) (bound_of text)

-- ---- the limits

-- there is a number, and it passes
abbrev pub passes_number : (ℕ → Bool) → Option ℕ → Bool
passes_number passes (Some n) = passes n
passes_number passes None = false

-- each limit is a number in its range
unfoldable pub are_numbers : Option ℕ → Option ℕ → Option ℕ → Option ℕ → Bool
are_numbers chunk lifetime lists items =
    passes_number is_chunk chunk && passes_number is_lifetime lifetime && passes_number is_lists lists && passes_number is_items items

-- ---- the configuration

-- the first fault of the settings, in the order of the faults' numbers
unfoldable pub config_fault : Settings → Option ConfigFault
config_fault s =
    if not (has_shape s) then Some BadShape
    else (if not (is_repository_name s.name) then Some BadName
    else (if not (have_formats s) then Some BadFormat
    else (if is_none (earliest_of s.granularity s.earliest) then Some BadDate
    else (if not (are_numbers s.chunk s.lifetime s.lists s.items) then Some BadNumber
    else None))))

-- the settings have no fault, and each part of the configuration is what they say; the base URL is the base, `/oai/`
-- and the name
pub record Configures (settings : Settings) (config : RepositoryConfig) : Type 0 where
  pub faultless : config_fault settings ≡ None
  pub base : config.base ≡ settings.base ++ codes "/oai/" ++ settings.name
  pub repository_name : config.repository_name ≡ settings.repository_name
  pub addresses : config.addresses ≡ settings.addresses
  pub earliest : earliest_of settings.granularity settings.earliest ≡ Some config.earliest
  pub deleted : config.deleted ≡ settings.deleted
  pub granularity : config.granularity ≡ settings.granularity
  pub chunk : settings.chunk ≡ Some config.chunk
  pub lifetime : settings.lifetime ≡ Some config.lifetime
  pub lists : settings.lists ≡ Some config.lists
  pub items : settings.items ≡ Some config.items
  pub formats : config.formats ≡ formats_of settings.formats
  pub forms : config.forms ≡ settings.forms
  pub descriptions : config.descriptions ≡ settings.descriptions
  pub set_descriptions : config.set_descriptions ≡ settings.set_descriptions

-- the result of making a configuration of the settings; out of memory is possible once shape and name are good
abbrev pub IsConfigured : Settings → Result RepositoryConfig ConfigFault → Type 0
IsConfigured settings (Ok config) = Configures settings config
IsConfigured settings (Err NoMemory) = (has_shape settings ≡ true) × (is_repository_name settings.name ≡ true)
IsConfigured settings (Err fault) = config_fault settings ≡ Some fault

-- the number and the name of a fault, this repository's own
abbrev pub fault_text : ConfigFault → List ℕ
fault_text BadShape = codes "2 BadShape"
fault_text BadName = codes "3 BadName"
fault_text BadFormat = codes "5 BadFormat"
fault_text BadDate = codes "6 BadDate"
fault_text BadNumber = codes "7 BadNumber"
fault_text NoMemory = codes "9 NoMemory"
