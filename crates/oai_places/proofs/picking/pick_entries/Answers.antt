use Rattle.std.proofs.Common.{◌∙◌, ◌∷◌, ◌<◌, List, ℕ, [], arith, get_or, length, pos, subst, sym}
use Rattle.std.proofs.lemmas.Bool.{eqb-true}
use Rattle.oai_item.specs.Encoding.{Spells}
use Rattle.oai_item.specs.Item.{ItemState}
use Rattle.oai_item.proofs.Around.{only_place}
use Rattle.oai_places.specs.Places.{is_wanted}
use Rattle.oai_places.proofs.PickingLemmas.{next_item, none_picked, one_picked, picked_all, picked_enough, picking_ends, some_bytes}
use Rattle.oai_places.proofs.picking.pick_entries.Goals as goal

pub entries-init : goal.entries-init
entries-init c = none_picked (is_wanted c.args.portion.wanted.filter.now c.args.portion.wanted.key.stamp c.args.portion.wanted.key.identifier.now) c.args.portion.most c.args.part.now.items c.args.portion.skip c.args.entries.now

pub returns-in_default : goal.returns-in_default
returns-in_default c = λ items stored e.
    let d : ItemState = only_place (pos 0) [] in
    let some : 0 < length c.entries.rest.now = some_bytes (length c.entries.rest.now) (sym c.is_empty.ensures ∙ c.entries-test.true) in
    let so_far = c.entries.invariant items stored e in
    let x : ItemState = get_or items so_far.passed d in
    let next = next_item (is_wanted c.args.portion.wanted.filter.now c.args.portion.wanted.key.stamp c.args.portion.wanted.key.identifier.now) c.args.portion.most c.args.part.now.items c.entries.part.items c.args.portion.skip c.entries.left items d c.entries.rest.now stored some so_far in
    c.in_default.ensures.parts x _ next.spelled next.parts

pub returns-in-Err : goal.returns-in-Err
returns-in-Err c = λ items stored e.
    let d : ItemState = only_place (pos 0) [] in
    let some : 0 < length c.entries.rest.now = some_bytes (length c.entries.rest.now) (sym c.is_empty.ensures ∙ c.entries-test.true) in
    let so_far = c.entries.invariant items stored e in
    let x : ItemState = get_or items so_far.passed d in
    let next = next_item (is_wanted c.args.portion.wanted.filter.now c.args.portion.wanted.key.stamp c.args.portion.wanted.key.identifier.now) c.args.portion.most c.args.part.now.items c.entries.part.items c.args.portion.skip c.entries.left items d c.entries.rest.now stored some so_far in
    let room : length c.entries.part.items < c.args.portion.most = omega (arith, c.if-len-portion.true, c.len.ensures, c.entries.part.ok.0) in
    let parts = c.in-Some.ensures.parts x _ next.spelled next.parts in
    picking_ends (is_wanted c.args.portion.wanted.filter.now c.args.portion.wanted.key.stamp c.args.portion.wanted.key.identifier.now) c.args.portion.most c.args.part.now.items c.entries.part.items c.pick_next.new.part.items c.args.portion.skip c.entries.left (x ∷ []) items c.in-Err.fault
    (c.in-Err.ensures x c.args.portion.most (subst (λ (bs : List ℕ). Spells bs x) (sym parts.0) next.spelled) room)

pub entries-preserved : goal.entries-preserved
entries-preserved c = λ items stored e.
    let d : ItemState = only_place (pos 0) [] in
    let some : 0 < length c.entries.rest.now = some_bytes (length c.entries.rest.now) (sym c.is_empty.ensures ∙ c.entries-test.true) in
    let so_far = c.entries.invariant items stored e in
    let x : ItemState = get_or items so_far.passed d in
    let next = next_item (is_wanted c.args.portion.wanted.filter.now c.args.portion.wanted.key.stamp c.args.portion.wanted.key.identifier.now) c.args.portion.most c.args.part.now.items c.entries.part.items c.args.portion.skip c.entries.left items d c.entries.rest.now stored some so_far in
    let room : length c.entries.part.items < c.args.portion.most = omega (arith, c.if-len-portion.true, c.len.ensures, c.entries.part.ok.0) in
    let parts = c.in-Some.ensures.parts x _ next.spelled next.parts in
    one_picked (is_wanted c.args.portion.wanted.filter.now c.args.portion.wanted.key.stamp c.args.portion.wanted.key.identifier.now) c.args.portion.most c.args.part.now.items c.entries.part.items _ c.args.portion.skip c.entries.left _ items d c.entries.rest.now _ so_far next parts.1
    (c.in-Ok.ensures x c.args.portion.most (subst (λ (bs : List ℕ). Spells bs x) (sym parts.0) next.spelled) room)

pub returns-else-len-portion : goal.returns-else-len-portion
returns-else-len-portion c = λ items stored e.
    picked_enough (is_wanted c.args.portion.wanted.filter.now c.args.portion.wanted.key.stamp c.args.portion.wanted.key.identifier.now) c.args.portion.most c.args.part.now.items c.entries.part.items c.args.portion.skip c.entries.left items c.entries.rest.now
    (omega (arith, c.if-len-portion.false, c.len.ensures, c.entries.part.ok.0)) (c.entries.invariant items stored e)

pub returns-after-entries : goal.returns-after-entries
returns-after-entries c = λ items stored e.
    picked_all (is_wanted c.args.portion.wanted.filter.now c.args.portion.wanted.key.stamp c.args.portion.wanted.key.identifier.now) c.args.portion.most c.args.part.now.items c.entries.part.items c.args.portion.skip c.entries.left items c.entries.rest.now
    (eqb-true (length c.entries.rest.now) 0 (sym c.is_empty.ensures ∙ c.entries-test.false)) (c.entries.invariant items stored e)
