-- One member more.
use Rattle.std.proofs.Common.{◌≡◌, String, Global, Some, map, string_bytes, ap, sym, ◌∙◌}
use Rattle.serde_json.specs.declared.value.Value.{Value}
use Rattle.oai_names.specs.Optional.{each_of}
use Rattle.oai_config.specs.Shapes.{set_description_of}
use Rattle.oai_json.proofs.JsonLemmas.{seen}
use Rattle.oai_json.proofs.ReadingLemmas.{with_front, goes_on}
use Rattle.oai_config.proofs.SetLemmas.{set_description_of-Some}
use Rattle.oai_config.proofs.repositories.set_descriptions_in.Goals as goal

pub loop-spec-preserved : goal.loop-spec-preserved
loop-spec-preserved c =
    let e : String Global × Value = (c.in-Some.spec.now, c.in-Some.elements.now) in
    let spec : c.in_ok-new.field-0 ≡ string_bytes e.0 = c.in_ok-new.ensures ∙ c.as_str.ensures.value in
    let read : set_description_of (seen e) ≡ Some (c.in_ok-new.field-0, c.in_ok-elements.elements) =
    rw spec (set_description_of-Some (seen e) c.in_ok-elements.elements c.in_ok-elements.ensures) in
    let left = ap (λ es. with_front c.loop-spec.lists (each_of set_description_of (map seen es))) c.in-Some.ensures.steps in
    rw c.in_ok-push.ensures (goes_on set_description_of c.loop-spec.lists (seen e) (map seen c.next.new.self) _ _ read (sym left ∙ c.loop-spec.invariant))
