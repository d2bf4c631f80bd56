use Rattle.oai_places.proofs.PartLemmas.{taken_over}
use Rattle.oai_places.proofs.PickingLemmas.{found_added}
use Rattle.oai_places.proofs.picking.add.Goals as goal

pub returns-then-skip-gt0 : goal.returns-then-skip-gt0
returns-then-skip-gt0 c = λ passes most is some. taken_over passes most c.args.part.now.items c.args.skip c.args.item is c.if-skip-gt0.true

pub returns : goal.returns
returns c = λ passes most is some. found_added passes most c.args.part.now.items c.push.new.self.items c.args.skip c.args.item is c.if-skip-gt0.false some c.in_ok-push.ensures.items
