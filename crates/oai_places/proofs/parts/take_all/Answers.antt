use Rattle.std.proofs.Common.{◌∙◌, ◌<◌, ◌++◌, ◌∷◌, List, [], ap, arith, length, pos, refl}
use Rattle.oai_item.specs.Item.{ItemState}
use Rattle.oai_item.proofs.Around.{only_place}
use Rattle.oai_places.specs.Places.{is_wanted}
use Rattle.oai_places.proofs.PartLemmas.{one_taken, passes_at, taken_first, taken_stopped}
use Rattle.oai_places.proofs.parts.take_all.Goals as goal

pub entries-init : goal.entries-init
entries-init c = λ all.
    taken_first (is_wanted c.args.portion.wanted.filter.now c.args.portion.wanted.key.stamp c.args.portion.wanted.key.identifier.now) c.args.portion.most c.args.part.now.items c.args.portion.skip c.args.entries.now all (omega (arith, c.requires))

pub entries-preserved : goal.entries-preserved
entries-preserved c = λ all.
    let p = is_wanted c.args.portion.wanted.filter.now c.args.portion.wanted.key.stamp c.args.portion.wanted.key.identifier.now in
    let d : ItemState = only_place (pos 0) [] in
    let items : List ItemState = c.args.entries.now in
    let mid : List ItemState = c.entries.part.items in
    let within : c.entries.at < length items = omega (arith, c.entries-test.true, c.len-at-end.ensures.len) in
    let some : length mid < c.args.portion.most = omega (arith, c.if-len-portion.false, c.len.ensures, c.entries.part.ok.0) in
    one_taken p c.args.portion.most c.args.part.now.items mid c.push.new.self.items c.args.portion.skip 0 0 items c.entries.at d within (c.entries.invariant all)
    (passes_at p items c.entries.at d all within) refl some (c.in_ok-push.ensures.items ∙ ap (λ item. mid ++ item ∷ []) (c.in_ok-item.ensures d)) refl

pub returns-then-len-portion : goal.returns-then-len-portion
returns-then-len-portion c = λ all.
    taken_stopped (is_wanted c.args.portion.wanted.filter.now c.args.portion.wanted.key.stamp c.args.portion.wanted.key.identifier.now) c.args.portion.most c.args.part.now.items c.entries.part.items c.args.portion.skip 0 c.args.entries.now c.entries.at
    (c.entries.invariant all) (omega (arith, c.if-len-portion.true, c.len.ensures, c.entries.part.ok.0))
