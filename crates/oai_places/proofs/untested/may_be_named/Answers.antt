use Rattle.std.proofs.Common.{◌∙◌, ap, sym}
use Rattle.std.proofs.lemmas.List.{take_rest}
use Rattle.std.specs.Str.{bytes_eq}
use Rattle.oai_places.proofs.PickingLemmas.{from_sets, sets_stand}
use Rattle.oai_places.proofs.untested.may_be_named.Goals as goal

pub returns-in-Some : goal.returns-in-Some
returns-in-Some c = λ item s no.
    let h = sets_stand c.args.spelling.now item s in
    let parts = c.in-Some.ensures.parts item.identifier (from_sets item) h.few (take_rest c.args.spelling.now 9 ∙ h.parts) in
    ap (λ n. bytes_eq n c.args.identifier.now) (sym parts.0) ∙ ap (bytes_eq c.in-Some.name.now) (sym c.as_bytes.ensures.value) ∙ sym c.eq.ensures ∙ no
