-- What the calls return that read parts of a text, step by step. Words that tie the code to the definitions; the
-- contract of the whole (`Reading`) needs none of them.
use Rattle.std.specs.Prelude.{◌≡◌, ◌||◌, ℕ, Bool, false, nat_le, if◌then◌else◌, List, Option, Some, None, is_none, codes, Result, Ok, Err}
use Rattle.std.specs.List.{list_any}
use Rattle.serde_json.specs.Data.{Data}
use Rattle.oai_names.specs.Optional.{◌>>=◌}
use Rattle.oai_item.specs.declared.forms.Forms.{Forms}
use Rattle.oai_json.specs.Json.{TakesMemory, json_in, number_at, text_at, texts_at}
use Rattle.oai_settings.specs.declared.settings.ConfigFault.{ConfigFault}
use Rattle.oai_settings.specs.declared.settings.ConfigFault.TheVariants as alone
use Rattle.oai_settings.specs.declared.settings.FormatSettings.{FormatSettings}
use Rattle.oai_settings.specs.declared.settings.Settings.{Settings}
use Rattle.oai_config.specs.declared.faults.ReadFault.{ReadFault}
use Rattle.oai_config.specs.declared.faults.ReadFault.TheVariants.{BadJson, BadShape, BadName, DuplicateName, BadFormat, BadDate, BadNumber, TooMany, NoMemory}
use Rattle.oai_config.specs.declared.host_settings.HostSettings.{HostSettings}
use Rattle.oai_config.specs.declared.repositories.Described.{Described}
use Rattle.oai_config.specs.declared.repositories.Rules.{Rules}
use Rattle.oai_config.specs.declared.repositories.Texts.{Texts}
use Rattle.oai_config.specs.Configs.{NamedConfig, HostConfig}
use Rattle.oai_config.specs.Shapes.{deleted_at, descriptions_at, set_descriptions_at, granularity_at, told_in}
use Rattle.oai_config.specs.Causes.{is_wrong_alone, is_wrong_together, is_wrong, fault_number}
use Rattle.oai_config.specs.Reading.{HasSettings, HaveSettings, IsLowest}

-- ---- the shape

-- a call that allocates nothing returned the part, seen by the view
abbrev pub GivesView : {A B : Type 0} → (A → B) → Result A ReadFault → Option B → Type 0
GivesView view (Ok x) reading = reading ≡ Some (view x)
GivesView view (Err BadShape) reading = reading ≡ None
GivesView view (Err fault) reading = ⊥

-- a call returned the part, or out of memory
abbrev pub GivesRead : {A : Type 0} → Result A ReadFault → Option A → Type 0
GivesRead (Ok x) reading = reading ≡ Some x
GivesRead (Err BadShape) reading = reading ≡ None
GivesRead (Err NoMemory) reading = Unit {0}
GivesRead (Err fault) reading = ⊥

-- the texts of two members
abbrev pub two_texts : List ℕ → List ℕ → Data → Option (List ℕ × List ℕ)
two_texts first second d = do
  one ← text_at first d
  other ← text_at second d
  Some (one, other)

-- the texts of a repository, from these members
unfoldable pub texts_from : Data → Option Texts
texts_from d = do
  name ← text_at (codes "name") d
  repository_name ← text_at (codes "repositoryName") d
  addresses ← texts_at (codes "adminEmail") d
  earliest ← text_at (codes "earliestDatestamp") d
  Some (record { name = name; repository_name = repository_name; addresses = addresses; earliest = earliest })

-- its policies and its limits, from these
unfoldable pub rules_from : Data → Option Rules
rules_from d = do
  deleted ← deleted_at d
  granularity ← granularity_at d
  chunk ← number_at (codes "chunk") d
  lifetime ← number_at (codes "lifetime") d
  lists ← number_at (codes "lists") d
  items ← number_at (codes "items") d
  Some (record { deleted = deleted; granularity = granularity; chunk = chunk; lifetime = lifetime; lists = lists; items = items })

-- what describes it and its sets, from these
unfoldable pub described_from : Forms → Data → Option Described
described_from forms d = do
  descriptions ← descriptions_at forms d
  set_descriptions ← set_descriptions_at forms d
  Some (record { descriptions = descriptions; set_descriptions = set_descriptions })

-- its settings, of these parts
abbrev pub settings_with : Forms → List ℕ → Texts → Rules → List FormatSettings → Described → Settings
settings_with forms base texts rules formats described = record {
  base = base;
  name = texts.name;
  repository_name = texts.repository_name;
  addresses = texts.addresses;
  earliest = texts.earliest;
  deleted = rules.deleted;
  granularity = rules.granularity;
  chunk = rules.chunk;
  lifetime = rules.lifetime;
  lists = rules.lists;
  items = rules.items;
  formats = formats;
  forms = forms;
  descriptions = described.descriptions;
  set_descriptions = described.set_descriptions;
}

-- the settings in the text, or why it has none
abbrev pub IsJsonText : Forms → List ℕ → Result HostSettings ReadFault → Type 0
IsJsonText forms text (Ok told) = told_in forms text ≡ Some told
IsJsonText forms text (Err BadJson) = json_in text ≡ None
IsJsonText forms text (Err BadShape) = (is_none (json_in text) ≡ false) × (told_in forms text ≡ None)
IsJsonText forms text (Err NoMemory) = TakesMemory text
IsJsonText forms text (Err fault) = ⊥

-- ---- the causes

-- a fault of one repository is one of the text
abbrev pub read_fault_of : ConfigFault → ReadFault
read_fault_of alone.BadShape = BadShape
read_fault_of alone.BadName = BadName
read_fault_of alone.BadFormat = BadFormat
read_fault_of alone.BadDate = BadDate
read_fault_of alone.BadNumber = BadNumber
read_fault_of alone.NoMemory = NoMemory

-- the first cause in the whole, in the order of the numbers
unfoldable pub first_together : Option ℕ → List Settings → Option ReadFault
first_together cache repositories =
    if is_wrong_together BadShape cache repositories then Some BadShape
    else (if is_wrong_together DuplicateName cache repositories then Some DuplicateName
    else (if is_wrong_together BadNumber cache repositories then Some BadNumber
    else (if is_wrong_together TooMany cache repositories then Some TooMany
    else None)))

-- the result of testing the whole: the pages of the cache, or the first cause
abbrev pub IsWhole : Option ℕ → List Settings → Result ℕ ReadFault → Type 0
IsWhole cache repositories (Ok pages) = (first_together cache repositories ≡ None) × (cache ≡ Some pages)
IsWhole cache repositories (Err fault) = first_together cache repositories ≡ Some fault

-- this is the lowest of the causes that applies; none does, if there is none
abbrev pub IsLowestOf : (ReadFault → Bool) → Option ReadFault → Type 0
IsLowestOf causes (Some fault) = IsLowest causes fault
IsLowestOf causes None = (fault : ReadFault) → causes fault ≡ false

-- the fault, or the one before it if that is not higher
abbrev pub lower : Option ReadFault → ReadFault → ReadFault
lower None fault = fault
lower (Some lowest) fault = if nat_le (fault_number lowest) (fault_number fault) then lowest else fault

-- the repository of the settings, or the lowest fault in them
abbrev pub HasSettingsOr : Settings → Result NamedConfig ReadFault → Type 0
HasSettingsOr settings (Ok entry) = HasSettings settings entry
HasSettingsOr settings (Err NoMemory) = Unit {0}
HasSettingsOr settings (Err fault) = IsLowest (λ cause. is_wrong_alone cause settings) fault

-- causes, and those in any repository
abbrev pub or_alone : (ReadFault → Bool) → List Settings → ReadFault → Bool
or_alone causes settings cause = causes cause || list_any (is_wrong_alone cause) settings

-- the repositories of the settings, if there are no causes; or the lowest of those and of the faults in any repository
abbrev pub AreMade : (ReadFault → Bool) → List Settings → Result (List NamedConfig) ReadFault → Type 0
AreMade causes settings (Ok entries) = ((fault : ReadFault) → or_alone causes settings fault ≡ false) × HaveSettings settings entries
AreMade causes settings (Err NoMemory) = Unit {0}
AreMade causes settings (Err fault) = IsLowest (or_alone causes settings) fault

-- the configuration of the settings, or the lowest fault
abbrev pub IsMade : HostSettings → Result HostConfig ReadFault → Type 0
IsMade told (Ok config) =
    ((fault : ReadFault) → is_wrong fault told ≡ false)
    × (told.cache ≡ Some config.cache) × HaveSettings told.repositories config.repositories
IsMade told (Err NoMemory) = Unit {0}
IsMade told (Err fault) = IsLowest (λ cause. is_wrong cause told) fault
