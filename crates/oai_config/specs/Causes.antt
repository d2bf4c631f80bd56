-- What may be wrong with the settings in a text. The causes and their numbers are this repository's own.
use Rattle.std.specs.Prelude.{ℕ, Bool, true, false, ◌==◌, ◌||◌, not, nat_lt, List, map, length, Option, is_none}
use Rattle.std.specs.List.{list_any}
use Rattle.std.specs.Option.{option_map_or}
use Rattle.oai_item.specs.Rules.{has_repeat}
use Rattle.oai_item.specs.declared.forms.Forms.{Forms}
use Rattle.oai_json.specs.Json.{json_in}
use Rattle.oai_settings.specs.declared.settings.Settings.{Settings}
use Rattle.oai_settings.specs.Config.{is_repository_name}
use Rattle.oai_settings.specs.Settings.{has_shape, have_formats, earliest_of, passes_number, are_numbers}
use Rattle.oai_config.specs.declared.faults.ReadFault.{ReadFault}
use Rattle.oai_config.specs.declared.faults.ReadFault.TheVariants.{BadJson, BadShape, BadName, DuplicateName, BadFormat, BadDate, BadNumber, TooMany, NoMemory}
use Rattle.oai_config.specs.declared.host_settings.HostSettings.{HostSettings}
use Rattle.oai_config.specs.Configs.{is_cache}
use Rattle.oai_config.specs.Shapes.{told_in}

-- a cause in one repository
abbrev pub is_wrong_alone : ReadFault → Settings → Bool
is_wrong_alone BadShape s = not (has_shape s)
is_wrong_alone BadName s = not (is_repository_name s.name)
is_wrong_alone BadFormat s = not (have_formats s)
is_wrong_alone BadDate s = is_none (earliest_of s.granularity s.earliest)
is_wrong_alone BadNumber s = not (are_numbers s.chunk s.lifetime s.lists s.items)
is_wrong_alone fault s = false

-- the names of the repositories
abbrev pub names_told : List Settings → List (List ℕ)
names_told repositories = map (λ s. s.name) repositories

-- a cause in the whole: no repository, two with one name, a cache out of its range, more than 1,000 repositories
abbrev pub is_wrong_together : ReadFault → Option ℕ → List Settings → Bool
is_wrong_together BadShape cache repositories = length repositories == 0
is_wrong_together DuplicateName cache repositories = has_repeat (names_told repositories)
is_wrong_together BadNumber cache repositories = not (passes_number is_cache cache)
is_wrong_together TooMany cache repositories = nat_lt 1_000 (length repositories)
is_wrong_together fault cache repositories = false

-- a cause anywhere in the settings: in the whole, or in any repository
abbrev pub is_wrong : ReadFault → HostSettings → Bool
is_wrong fault told =
    is_wrong_together fault told.cache told.repositories || list_any (is_wrong_alone fault) told.repositories

-- a cause that applies to a text; one that is no JSON, or does not have the shape, has no settings: then 1 or 2
-- applies, and none of the others
abbrev pub applies : Forms → ReadFault → List ℕ → Bool
applies forms BadJson text = is_none (json_in text)
applies forms BadShape text = option_map_or (is_wrong BadShape) (told_in forms text) true
applies forms fault text = option_map_or (is_wrong fault) (told_in forms text) false

-- the number of each fault
abbrev pub fault_number : ReadFault → ℕ
fault_number BadJson = 1
fault_number BadShape = 2
fault_number BadName = 3
fault_number DuplicateName = 4
fault_number BadFormat = 5
fault_number BadDate = 6
fault_number BadNumber = 7
fault_number TooMany = 8
fault_number NoMemory = 9
