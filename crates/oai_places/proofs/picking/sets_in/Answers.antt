use Rattle.std.proofs.Common.{◌∙◌, ap, arith, length}
use Rattle.std.proofs.lemmas.List.{take_rest}
use Rattle.oai_item.specs.Encoding.{encoded_list, encoded_record}
use Rattle.oai_places.proofs.PickingLemmas.{from_sets, sets_stand}
use Rattle.oai_places.proofs.picking.sets_in.Goals as goal

pub returns-then-spelling-lt-STAMP_BYTES : goal.returns-then-spelling-lt-STAMP_BYTES
returns-then-spelling-lt-STAMP_BYTES c = λ item s. omega (arith, (sets_stand c.args.spelling.now item s).long, c.if-spelling-lt-STAMP_BYTES.true)

pub returns-in-Some : goal.returns-in-Some
returns-in-Some c = λ item s.
    let h = sets_stand c.args.spelling.now item s in
    let parts = c.in-Some.ensures.parts item.identifier (from_sets item) h.few (take_rest c.args.spelling.now 9 ∙ h.parts) in
    (encoded_list encoded_record item.formats, parts.1, omega (arith, h.short, ap length parts.1))

pub returns-in-None : goal.returns-in-None
returns-in-None c = λ item s.
    let h = sets_stand c.args.spelling.now item s in
    c.in-None.ensures.parts item.identifier (from_sets item) h.few (take_rest c.args.spelling.now 9 ∙ h.parts)
