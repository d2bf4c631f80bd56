use Rattle.oai_places.specs.Places.{is_wanted}
use Rattle.oai_places.proofs.PickingLemmas.{not_given, picked_fails, picked_read}
use Rattle.oai_places.proofs.picking.pick.Goals as goal

pub returns-then-not-may_be_in : goal.returns-then-not-may_be_in
returns-then-not-may_be_in c = λ item s.
    not_given c.args.wanted.filter.now c.args.wanted.key.stamp c.args.wanted.key.identifier.now item (c.may_be_in.ensures item s c.if-not-may_be_in.true)

pub returns-in-Err : goal.returns-in-Err
returns-in-Err c = λ item s.
    picked_fails (is_wanted c.args.wanted.filter.now c.args.wanted.key.stamp c.args.wanted.key.identifier.now) c.args.spelling.now item c.in-Err.fault c.in-Err.ensures s

pub returns-in_ok-copy_wanted-in-Ok : goal.returns-in_ok-copy_wanted-in-Ok
returns-in_ok-copy_wanted-in-Ok c = λ item s.
    picked_read (is_wanted c.args.wanted.filter.now c.args.wanted.key.stamp c.args.wanted.key.identifier.now) c.args.spelling.now _ item _ c.in-Ok.ensures s c.in_ok-copy_wanted-in-Ok.ensures
