-- What is wrong with what a text tells applies to the text.
use Rattle.std.proofs.Common.{◌≡◌, ◌<◌, ℕ, Bool, true, false, Option, Some, None, is_none, List, [], ◌∷◌, Result, Ok, Err, refl, sym, ap, ◌∙◌, arith}
use Rattle.std.specs.List.{list_any}
use Rattle.std.specs.Option.{option_map_or}
use Rattle.serde_json.specs.Data.{Data}
use Rattle.serde_json.specs.View.{view}
use Rattle.serde_json.specs.declared.value.Value.{Value}
use Rattle.oai_item.specs.declared.forms.Forms.{Forms}
use Rattle.oai_json.specs.Json.{TakesMemory, json_in}
use Rattle.oai_settings.specs.declared.settings.Settings.{Settings}
use Rattle.oai_config.specs.declared.faults.ReadFault.{ReadFault}
use Rattle.oai_config.specs.declared.faults.ReadFault.TheVariants.{BadJson, BadShape, BadName, DuplicateName, BadFormat, BadDate, BadNumber, TooMany, NoMemory}
use Rattle.oai_config.specs.declared.host_settings.HostSettings.{HostSettings}
use Rattle.oai_config.specs.Configs.{HostConfig}
use Rattle.oai_names.specs.Optional.{◌>>=◌}
use Rattle.oai_config.specs.Shapes.{told_in, told_of}
use Rattle.oai_config.specs.Causes.{is_wrong_alone, is_wrong, applies, fault_number}
use Rattle.oai_config.specs.Reading.{IsLowest, IsRead}
use Rattle.oai_config.specs.ReadingWork.{GivesRead, IsJsonText, IsMade}
use Rattle.oai_config.proofs.CauseLemmas.{same_lowest}
use Rattle.oai_json.proofs.JsonLemmas.{takes-read}

-- ---- what the text tells

none_after : (forms : Forms) (o : Option Data) → o ≡ None → (o >>= told_of forms) ≡ None
none_after forms o none = ap (λ o. o >>= told_of forms) none

pub told_of_value : (forms : Forms) (text : List ℕ) (value : Value) (result : Result HostSettings ReadFault) → json_in text ≡ Some (view value)
    → GivesRead result (told_of forms (view value)) → IsJsonText forms text result
unfolding told_in
told_of_value forms text value (Ok told) is gives = ap (λ o. o >>= told_of forms) is ∙ gives
told_of_value forms text value (Err BadShape) is gives = (ap (λ o. is_none o) is, ap (λ o. o >>= told_of forms) is ∙ gives)
told_of_value forms text value (Err NoMemory) is gives = takes-read text (view value) is
told_of_value forms text value (Err BadJson) is gives = absurd gives
told_of_value forms text value (Err BadName) is gives = absurd gives
told_of_value forms text value (Err DuplicateName) is gives = absurd gives
told_of_value forms text value (Err BadFormat) is gives = absurd gives
told_of_value forms text value (Err BadDate) is gives = absurd gives
told_of_value forms text value (Err BadNumber) is gives = absurd gives
told_of_value forms text value (Err TooMany) is gives = absurd gives

-- ---- the causes

none_of : (settings : List Settings) → list_any (is_wrong_alone BadJson) settings ≡ false
none_of [] = refl
none_of (s ∷ settings) = none_of settings

there_is : (forms : Forms) (o : Option Data) (told : HostSettings) → (o >>= told_of forms) ≡ Some told → is_none o ≡ false
there_is forms (Some d) told is = refl
there_is forms None told is = absurd cc

-- where the text tells something, what applies to the text is what is wrong with that
pub applies_told : (forms : Forms) (text : List ℕ) (told : HostSettings) → told_in forms text ≡ Some told → (cause : ReadFault) → is_wrong cause told ≡ applies forms cause text
unfolding told_in
applies_told forms text told is BadJson = none_of told.repositories ∙ sym (there_is forms (json_in text) told is)
applies_told forms text told is BadShape = sym (ap (λ o. option_map_or (is_wrong BadShape) o true) is)
applies_told forms text told is BadName = sym (ap (λ o. option_map_or (is_wrong BadName) o false) is)
applies_told forms text told is DuplicateName = sym (ap (λ o. option_map_or (is_wrong DuplicateName) o false) is)
applies_told forms text told is BadFormat = sym (ap (λ o. option_map_or (is_wrong BadFormat) o false) is)
applies_told forms text told is BadDate = sym (ap (λ o. option_map_or (is_wrong BadDate) o false) is)
applies_told forms text told is BadNumber = sym (ap (λ o. option_map_or (is_wrong BadNumber) o false) is)
applies_told forms text told is TooMany = sym (ap (λ o. option_map_or (is_wrong TooMany) o false) is)
applies_told forms text told is NoMemory = sym (ap (λ o. option_map_or (is_wrong NoMemory) o false) is)

-- ---- the answer

lowest_told : (forms : Forms) (text : List ℕ) (told : HostSettings) (fault : ReadFault) → told_in forms text ≡ Some told → IsLowest (λ cause. is_wrong cause told) fault → IsLowest (λ cause. applies forms cause text) fault
lowest_told forms text told fault is lowest = same_lowest (λ cause. is_wrong cause told) (λ cause. applies forms cause text) fault (applies_told forms text told is) lowest

takes-told : (forms : Forms) (o : Option Data) (text : List ℕ) (told : HostSettings) → json_in text ≡ o → (o >>= told_of forms) ≡ Some told → TakesMemory text
takes-told forms (Some d) text told is tells = takes-read text d is
takes-told forms None text told is tells = absurd cc

memory_taken : (forms : Forms) (text : List ℕ) (told : HostSettings) → told_in forms text ≡ Some told → TakesMemory text
unfolding told_in
memory_taken forms text told is = takes-told forms (json_in text) text told refl is

pub made_of_told : (forms : Forms) (text : List ℕ) (told : HostSettings) (result : Result HostConfig ReadFault) → told_in forms text ≡ Some told → IsMade told result → IsRead forms text result
made_of_told forms text told (Ok config) is made = record {
  told = told;
  tells = is;
  faultless = λ cause. sym (applies_told forms text told is cause) ∙ made.0 cause;
  cache = made.1;
  repositories = made.2;
}
made_of_told forms text told (Err BadJson) is made = lowest_told forms text told BadJson is made
made_of_told forms text told (Err BadShape) is made = lowest_told forms text told BadShape is made
made_of_told forms text told (Err BadName) is made = lowest_told forms text told BadName is made
made_of_told forms text told (Err DuplicateName) is made = lowest_told forms text told DuplicateName is made
made_of_told forms text told (Err BadFormat) is made = lowest_told forms text told BadFormat is made
made_of_told forms text told (Err BadDate) is made = lowest_told forms text told BadDate is made
made_of_told forms text told (Err BadNumber) is made = lowest_told forms text told BadNumber is made
made_of_told forms text told (Err TooMany) is made = lowest_told forms text told TooMany is made
made_of_told forms text told (Err NoMemory) is made = memory_taken forms text told is

-- nothing is of a lower number than the first
first_of_all : (causes : ReadFault → Bool) (other : ReadFault) → fault_number other < 1 → causes other ≡ false
first_of_all causes BadJson low = absurd (omega arith)
first_of_all causes BadShape low = absurd (omega arith)
first_of_all causes BadName low = absurd (omega arith)
first_of_all causes DuplicateName low = absurd (omega arith)
first_of_all causes BadFormat low = absurd (omega arith)
first_of_all causes BadDate low = absurd (omega arith)
first_of_all causes BadNumber low = absurd (omega arith)
first_of_all causes TooMany low = absurd (omega arith)
first_of_all causes NoMemory low = absurd (omega arith)

-- and nothing but the first is of a lower number than the second
second_of_all : (causes : ReadFault → Bool) → causes BadJson ≡ false → (other : ReadFault) → fault_number other < 2 → causes other ≡ false
second_of_all causes is BadJson low = is
second_of_all causes is BadShape low = absurd (omega arith)
second_of_all causes is BadName low = absurd (omega arith)
second_of_all causes is DuplicateName low = absurd (omega arith)
second_of_all causes is BadFormat low = absurd (omega arith)
second_of_all causes is BadDate low = absurd (omega arith)
second_of_all causes is BadNumber low = absurd (omega arith)
second_of_all causes is TooMany low = absurd (omega arith)
second_of_all causes is NoMemory low = absurd (omega arith)

pub nothing_told : (forms : Forms) (text : List ℕ) (fault : ReadFault) → IsJsonText forms text (Err fault) → IsRead forms text (Err fault)
nothing_told forms text BadJson is = record {
  applies = ap (λ o. is_none o) is;
  lowest = first_of_all (λ cause. applies forms cause text);
}
nothing_told forms text BadShape is = record {
  applies = ap (λ o. option_map_or (is_wrong BadShape) o true) is.1;
  lowest = second_of_all (λ cause. applies forms cause text) is.0;
}
nothing_told forms text NoMemory is = is
nothing_told forms text BadName is = absurd is
nothing_told forms text DuplicateName is = absurd is
nothing_told forms text BadFormat is = absurd is
nothing_told forms text BadDate is = absurd is
nothing_told forms text BadNumber is = absurd is
nothing_told forms text TooMany is = absurd is
