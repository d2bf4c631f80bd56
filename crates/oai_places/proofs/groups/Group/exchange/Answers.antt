use Rattle.std.proofs.Common.{refl, subst, sym}
use Rattle.oai_places.specs.Sums.{IsSoundGroup}
use Rattle.oai_places.proofs.WindowLemmas.{group_before, group_behind}
use Rattle.oai_places.proofs.groups.Group.exchange.Goals as goal

pub returns-then-ends_by : goal.returns-then-ends_by
returns-then-ends_by c = λ before after e h. group_before c.args.at c.args.len c.args.count before after c.args.self.now e (c.ends_by.ensures c.if-ends_by.true) h

pub returns-in-Some : goal.returns-in-Some
returns-in-Some c = λ before after e h.
    group_behind c.args.at c.args.len c.args.count c.in-Some.first before after (record { first = c.self.inside.first; len = c.self.inside.len; sum = c.self.inside.sum }) _ e c.in-Some.ensures.0 c.in-Some.ensures.1 refl
    (subst (IsSoundGroup before) (sym c.self.view_is) h)
