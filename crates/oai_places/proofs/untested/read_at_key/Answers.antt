use Rattle.oai_item.specs.Items.{is_at}
use Rattle.oai_places.proofs.PickingLemmas.{picked_fails, picked_read}
use Rattle.oai_places.proofs.untested.read_at_key.Goals as goal

pub returns-in-Err : goal.returns-in-Err
returns-in-Err c = λ item s. picked_fails (is_at c.args.key.stamp c.args.key.identifier.now) c.args.spelling.now item c.in-Err.fault c.in-Err.ensures s

pub returns-in_ok-copy_at_key-in-Ok : goal.returns-in_ok-copy_at_key-in-Ok
returns-in_ok-copy_at_key-in-Ok c = λ item s.
    picked_read (is_at c.args.key.stamp c.args.key.identifier.now) c.args.spelling.now _ item _ c.in-Ok.ensures s c.in_ok-copy_at_key-in-Ok.ensures
