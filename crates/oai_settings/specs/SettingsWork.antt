-- The calls that make a configuration: each returns its value, or that the settings are bad, or out of memory.
use Rattle.std.specs.Prelude.{◌≡◌, ℕ, true, false, List, ◌∷◌, [], ◌++◌, Option, Some, None, is_none, Result, Ok, Err}
use Rattle.std.specs.Int.{is_in_range}
use Rattle.std.specs.List.{list_all}
use Rattle.oai_names.specs.Names.{may_be_prefix}
use Rattle.oai_xml.specs.Documents.{is_canonical}
use Rattle.oai_xml.specs.Named.{NamedList, are_canonical}
use Rattle.oai_item.specs.Declaring.{HasGoodTexts, declare_fault}
use Rattle.oai_item.specs.declared.formats.Format.{Format}
use Rattle.oai_settings.specs.declared.config.parts.Limits.{Limits}
use Rattle.oai_settings.specs.declared.config.parts.Made.{Made}
use Rattle.oai_settings.specs.declared.settings.FormatSettings.{FormatSettings}
use Rattle.oai_settings.specs.declared.settings.Settings.{Settings}
use Rattle.oai_settings.specs.declared.settings.ConfigFault.{ConfigFault}
use Rattle.oai_settings.specs.declared.settings.ConfigFault.TheVariants.{BadFormat, NoMemory}
use Rattle.oai_settings.specs.Config.{IsConfig, RepositoryConfig, are_limits}
use Rattle.oai_settings.specs.Settings.{Configures, IsConfigured, are_formats, are_numbers, format_of, formats_of, passes_number}

-- out of memory, and that much was good before it; or the format is a bad one
abbrev pub IsSettingsRefused : ConfigFault → Type 0 → Type 0 → Type 0
IsSettingsRefused NoMemory good bad = good
IsSettingsRefused fault good bad = (fault ≡ BadFormat) × bad

-- the prefix of a format
abbrev pub IsPrefixOf : List ℕ → Result (List ℕ) ConfigFault → Type 0
IsPrefixOf text (Ok prefix) = (prefix ≡ text) × (may_be_prefix text ≡ true)
IsPrefixOf text (Err fault) = IsSettingsRefused fault (may_be_prefix text ≡ true) (may_be_prefix text ≡ false)

-- the format that is described, if it has a valid prefix
abbrev pub IsFormatOf : FormatSettings → Result Format ConfigFault → Type 0
IsFormatOf settings (Ok format) = (format ≡ format_of settings) × (may_be_prefix settings.prefix ≡ true)
IsFormatOf settings (Err fault) = IsSettingsRefused fault (may_be_prefix settings.prefix ≡ true) (may_be_prefix settings.prefix ≡ false)

-- the formats with one more
abbrev pub IsDeclared : List Format → Format → Result (Unit {0}) ConfigFault → List Format → Type 0
IsDeclared old format (Ok _) new = (is_none (declare_fault old format) ≡ true) × (new ≡ old ++ format ∷ [])
IsDeclared old format (Err fault) new = IsSettingsRefused fault (HasGoodTexts old format) (is_none (declare_fault old format) ≡ false)

-- the formats of a repository
abbrev pub AreDeclared : List FormatSettings → Result (List Format) ConfigFault → Type 0
AreDeclared settings (Ok formats) = (are_formats settings ≡ true) × (formats ≡ formats_of settings)
AreDeclared settings (Err fault) = IsSettingsRefused fault (Unit {0}) (are_formats settings ≡ false)

-- the number, if it is one from 1 to the maximum
abbrev pub IsLimit : ℕ → Option ℕ → Option ℕ → Type 0
IsLimit most number (Some n) = (number ≡ Some n) × (is_in_range 1 most n ≡ true)
IsLimit most number None = passes_number (is_in_range 1 most) number ≡ false

-- the limits of the settings, if each is a number in its range
abbrev pub AreLimits : Option ℕ → Option ℕ → Option ℕ → Option ℕ → Option Limits → Type 0
AreLimits chunk lifetime lists items (Some limits) =
    (chunk ≡ Some limits.chunk) × (lifetime ≡ Some limits.lifetime) × (lists ≡ Some limits.lists) × (items ≡ Some limits.items)
    × (are_numbers chunk lifetime lists items ≡ true)
    × (are_limits limits.chunk limits.lifetime limits.lists limits.items ≡ true)
AreLimits chunk lifetime lists items None = are_numbers chunk lifetime lists items ≡ false

-- the configuration with the parts made from its settings
abbrev pub config_with : Settings → Made → RepositoryConfig
config_with settings made = record {
  base = made.base;
  repository_name = settings.repository_name;
  addresses = settings.addresses;
  earliest = made.earliest;
  deleted = settings.deleted;
  granularity = settings.granularity;
  chunk = made.limits.chunk;
  lifetime = made.limits.lifetime;
  lists = made.limits.lists;
  items = made.limits.items;
  formats = made.formats;
  forms = settings.forms;
  descriptions = settings.descriptions;
  set_descriptions = settings.set_descriptions;
}

-- what describes the repository and its sets are elements in canonical text
abbrev pub HaveElements : List (List ℕ) → List NamedList → Type 0
HaveElements descriptions set_descriptions = (list_all is_canonical descriptions ≡ true) × (list_all are_canonical set_descriptions ≡ true)

-- with these parts the settings make the configuration, which keeps its rules where elements are what they are; or they have the fault
abbrev pub IsAssembled : Settings → Result Made ConfigFault → Type 0
IsAssembled settings (Ok made) =
    Configures settings (config_with settings made) × (HaveElements settings.descriptions settings.set_descriptions → IsConfig (config_with settings made))
IsAssembled settings (Err fault) = IsConfigured settings (Err fault)
