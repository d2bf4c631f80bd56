-- What the value of a line asks for is what the line asks for.
use Rattle.std.proofs.Common.{◌≡◌, ◌<◌, ℕ, Option, Some, None, List, length, Result, Ok, Err, ap, refl, subst, sym, ◌∙◌}
use Rattle.std.specs.Str.{IsUtf8}
use Rattle.serde_json.specs.Data.{Data}
use Rattle.serde_json.specs.Read.{read}
use Rattle.oai_deposit.specs.declared.changes.Change.{Change}
use Rattle.oai_item.specs.declared.forms.Forms.{Forms}
use Rattle.oai_deposit.specs.declared.faults.LineFault.{LineFault}
use Rattle.oai_deposit.specs.declared.faults.LineFault.TheVariants.{NoMemory, Refused}
use Rattle.oai_json.specs.Json.{TakesMemory, json_in}
use Rattle.oai_item.specs.declared.refusals.LineRefusal.{LineRefusal}
use Rattle.oai_item.specs.declared.refusals.LineRefusal.TheVariants.{BadJson}
use Rattle.oai_names.specs.Optional.{◌>>=◌}
use Rattle.oai_deposit.specs.Calls.{Anywhere}
use Rattle.oai_deposit.specs.Lines.{LineAbout, Shape, asked_change, change_asked, line_of, shape_of, value_asked}
use Rattle.oai_deposit.specs.Readings.{Finds, ReturnsReading}
use Rattle.oai_json.proofs.JsonLemmas.{json_in-None, takes-read, takes-text}

pub line_gives : (forms : Forms) (line : List ℕ) (d : Data) (P : Type 0) (result : Result Change LineFault) → json_in line ≡ Some d
    → ReturnsReading P result (change_asked (shape_of forms d)) → ReturnsReading (TakesMemory line) result (line_of forms line)
unfolding line_of
line_gives forms line d P (Ok change) is gives = ap (value_asked forms) is ∙ gives
line_gives forms line d P (Err (Refused refusal)) is gives = ap (value_asked forms) is ∙ gives
line_gives forms line d P (Err NoMemory) is gives = takes-read line d is

-- a line that is not in UTF-8, or no JSON text
pub no_text : (forms : Forms) (line : List ℕ) → (IsUtf8 line → ⊥) → line_of forms line ≡ Err BadJson
unfolding line_of
no_text forms line none = ap (value_asked forms) (json_in-None line (λ utf8. absurd (none utf8)))

pub no_json : (forms : Forms) (line : List ℕ) → read line ≡ None → line_of forms line ≡ Err BadJson
unfolding line_of
no_json forms line none = ap (value_asked forms) (json_in-None line (λ utf8. none))

-- a line that is there, in UTF-8
pub takes : (line : List ℕ) → IsUtf8 line → 0 < length line → TakesMemory line
takes line utf8 some = takes-text line line refl utf8 some

-- ---- what is about records is the last that is read of a shape

pub shape_with : (shape : Option Shape) (o : Option (List LineAbout)) (make : List LineAbout → Shape) (a : List LineAbout) (result : Result Change LineFault)
    → shape ≡ (o >>= λ x. Some (make x)) → o ≡ Some a → ReturnsReading Anywhere result (asked_change (make a)) → ReturnsReading Anywhere result (change_asked shape)
shape_with shape o make a result is found returns =
    subst (λ (s : Option Shape). ReturnsReading Anywhere result (change_asked s)) (sym (is ∙ ap (λ x. x >>= λ y. Some (make y)) found)) returns

pub shape_without : (shape : Option Shape) (o : Option (List LineAbout)) (make : List LineAbout → Shape) (fault : LineFault)
    → shape ≡ (o >>= λ x. Some (make x)) → Finds {A = List LineAbout} ⊥ (Err fault) o → ReturnsReading {A = Change} Anywhere (Err fault) (change_asked shape)
shape_without shape o make (Refused cause) is finds =
    ap change_asked (is ∙ ap (λ x. x >>= λ y. Some (make y)) finds.0) ∙ ap (λ (r : LineRefusal). Err r) (sym finds.1)
shape_without shape o make NoMemory is finds = tt
