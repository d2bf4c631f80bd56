use Rattle.std.proofs.Common.{arith}
use Rattle.oai_places.specs.Sums.{IsSoundGroup}
use Rattle.oai_places.proofs.GroupLemmas.{all_at}
use Rattle.oai_places.proofs.groups.Groups.stretch_at.Goals as goal

pub stretch_at-requires-clause-group : goal.stretch_at-requires-clause-group
stretch_at-requires-clause-group c =
    all_at (IsSoundGroup c.args.places.now) c.self.inside.groups.items c.group_of-near.result c.index.result.now (rw c.self.view_is c.requires.groups)
    (omega (arith, c.if-near-len.false, c.len.ensures, c.self.inside.groups.ok.0)) c.index.ensures
