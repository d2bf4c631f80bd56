use Rattle.std.proofs.Common.{◌≡◌, ◌∙◌, ◌+◌, List, Some, ap, arith, drop, inl, inr, subst, sym, take, ℕ}
use Rattle.std.proofs.lemmas.List.{take_rest}
use Rattle.oai_item.specs.Selection.{Filter}
use Rattle.oai_places.specs.Places.{PlaceState}
use Rattle.oai_places.specs.Sums.{GroupState, IsSum, IsSumInside, SumState, known_in_sum}
use Rattle.oai_places.proofs.GroupLemmas.{stretch_from}
use Rattle.oai_places.proofs.groups.Group.stretch_at.Goals as goal

pub returns-else-not-is_inside : goal.returns-else-not-is_inside
returns-else-not-is_inside c =
    let places : List PlaceState = c.args.places.now in
    let asked : Filter = c.args.wanted.filter.now in
    let sum : SumState = c.in-Some.sum in
    let own : IsSum sum (take c.self.inside.len (drop c.self.inside.first places)) =
    subst (λ (g : GroupState). IsSum sum (take g.len (drop g.first places))) (sym c.self.view_is) (c.requires.group sum (sym (ap (λ (g : GroupState). g.sum) c.self.view_is) ∙ c.in-Some.is)) in
    let here : IsSum sum (take c.self.inside.len (drop c.args.at places)) = subst (λ (f : ℕ). IsSum sum (take c.self.inside.len (drop f places))) c.if-self-at.false own in
    let known : known_in_sum sum asked.set ≡ Some c.in_ok-items.items = ap (known_in_sum sum) (sym (ap (λ (f : Filter). f.set) c.filter.view_is)) ∙ sym c.items_in.ensures ∙ c.in_ok-items.was in
    stretch_from sum places asked c.args.wanted.key.stamp c.args.wanted.key.identifier.now c.args.at c.self.inside.len c.in_ok-items.items (omega (arith, c.if-len-eq0.false)) (omega (arith, c.if-len-places.false, c.requires.within)) here
    known (inr (subst (λ (next : List PlaceState). IsSumInside sum next asked c.args.wanted.key.stamp c.args.wanted.key.identifier.now) (take_rest places (c.args.at + c.self.inside.len))
    (c.is_inside.ensures c.if-not-is_inside.false)))

pub returns-else-items-gt0 : goal.returns-else-items-gt0
returns-else-items-gt0 c =
    let places : List PlaceState = c.args.places.now in
    let asked : Filter = c.args.wanted.filter.now in
    let sum : SumState = c.in-Some.sum in
    let own : IsSum sum (take c.self.inside.len (drop c.self.inside.first places)) =
    subst (λ (g : GroupState). IsSum sum (take g.len (drop g.first places))) (sym c.self.view_is) (c.requires.group sum (sym (ap (λ (g : GroupState). g.sum) c.self.view_is) ∙ c.in-Some.is)) in
    let here : IsSum sum (take c.self.inside.len (drop c.args.at places)) = subst (λ (f : ℕ). IsSum sum (take c.self.inside.len (drop f places))) c.if-self-at.false own in
    let known : known_in_sum sum asked.set ≡ Some c.in_ok-items.items = ap (known_in_sum sum) (sym (ap (λ (f : Filter). f.set) c.filter.view_is)) ∙ sym c.items_in.ensures ∙ c.in_ok-items.was in
    stretch_from sum places asked c.args.wanted.key.stamp c.args.wanted.key.identifier.now c.args.at c.self.inside.len c.in_ok-items.items (omega (arith, c.if-len-eq0.false)) (omega (arith, c.if-len-places.false, c.requires.within)) here
    known (inl (omega (arith, c.if-items-gt0.false)))
