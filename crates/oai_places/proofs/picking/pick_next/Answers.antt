use Rattle.oai_places.specs.Places.{is_wanted}
use Rattle.oai_places.proofs.PickingLemmas.{found_taken}
use Rattle.oai_places.proofs.picking.pick_next.Goals as goal

pub returns-in_ok-add-in-Ok-Some : goal.returns-in_ok-add-in-Ok-Some
returns-in_ok-add-in-Ok-Some c = λ item most s some.
    let p = is_wanted c.args.wanted.filter.now c.args.wanted.key.stamp c.args.wanted.key.identifier.now in
    found_taken p most c.args.part.now.items c.add.new.part.items c.args.skip _ item c.in-Ok-Some.item _
    (c.in-Ok-Some.ensures item s) c.in-Ok-Some.field-0-is (λ passes. c.in_ok-add-in-Ok-Some.ensures p most passes some)
