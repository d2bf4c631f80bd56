-- The result of reading a configuration: the configuration, or the lowest cause that applies anywhere in the text.
use Rattle.std.specs.Prelude.{◌≡◌, ◌<◌, ℕ, Bool, true, false, List, codes, Some, Result, Ok, Err}
use Rattle.std.specs.List.{AllZip}
use Rattle.oai_item.specs.declared.forms.Forms.{Forms}
use Rattle.oai_json.specs.Json.{TakesMemory}
use Rattle.oai_settings.specs.declared.settings.Settings.{Settings}
use Rattle.oai_settings.specs.Settings.{Configures}
use Rattle.oai_config.specs.declared.faults.ReadFault.{ReadFault}
use Rattle.oai_config.specs.declared.faults.ReadFault.TheVariants.{BadJson, BadShape, BadName, DuplicateName, BadFormat, BadDate, BadNumber, TooMany, NoMemory}
use Rattle.oai_config.specs.declared.host_settings.HostSettings.{HostSettings}
use Rattle.oai_config.specs.Configs.{NamedConfig, HostConfig}
use Rattle.oai_config.specs.Causes.{applies, fault_number}
use Rattle.oai_config.specs.Shapes.{told_in}

-- the repository has that name, and is configured by the settings
pub record HasSettings (settings : Settings) (entry : NamedConfig) : Type 0 where
  pub name : entry.name ≡ settings.name
  pub config : Configures settings entry.config

-- the same of each, in the order of the text
abbrev pub HaveSettings : List Settings → List NamedConfig → Type 0
HaveSettings settings entries = AllZip HasSettings settings entries

-- the text has settings, where records have these forms, to which no cause applies, and the configuration is made of these
pub record IsConfigOf (forms : Forms) (text : List ℕ) (config : HostConfig) : Type 0 where
  pub told : HostSettings
  pub tells : told_in forms text ≡ Some told
  pub faultless : (fault : ReadFault) → applies forms fault text ≡ false
  pub cache : told.cache ≡ Some config.cache
  pub repositories : HaveSettings told.repositories config.repositories

-- of the causes the fault applies, and none with a lower number
pub record IsLowest (causes : ReadFault → Bool) (fault : ReadFault) : Type 0 where
  pub applies : causes fault ≡ true
  pub lowest : (other : ReadFault) → fault_number other < fault_number fault → causes other ≡ false

-- the result of reading a text; out of memory is possible for a text in UTF-8 that is not empty
abbrev pub IsRead : Forms → List ℕ → Result HostConfig ReadFault → Type 0
IsRead forms text (Ok config) = IsConfigOf forms text config
IsRead forms text (Err NoMemory) = TakesMemory text
IsRead forms text (Err fault) = IsLowest (λ cause. applies forms cause text) fault

-- the number and the name of a fault
abbrev pub read_fault_text : ReadFault → List ℕ
read_fault_text BadJson = codes "1 BadJson"
read_fault_text BadShape = codes "2 BadShape"
read_fault_text BadName = codes "3 BadName"
read_fault_text DuplicateName = codes "4 DuplicateName"
read_fault_text BadFormat = codes "5 BadFormat"
read_fault_text BadDate = codes "6 BadDate"
read_fault_text BadNumber = codes "7 BadNumber"
read_fault_text TooMany = codes "8 TooMany"
read_fault_text NoMemory = codes "9 NoMemory"
