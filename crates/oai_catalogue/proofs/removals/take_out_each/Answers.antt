-- Each turn takes one of them out.
use Rattle.std.proofs.Common.{◌≡◌, ◌∙◌, FitsSigned, List, ap, arith, refl, sym, take, w64}
use Rattle.std.proofs.lemmas.Int.{to_z-of_z}
use Rattle.oai_item.specs.Item.{ItemState}
use Rattle.oai_item.specs.Items.{without_at}
use Rattle.oai_catalogue.specs.Store.{list_at, with_list, without_each}
use Rattle.oai_catalogue.proofs.Gone.{without_each-at, without_each-none}
use Rattle.oai_catalogue.proofs.ListsLemmas.{with_own, with_twice}
use Rattle.oai_catalogue.proofs.removals.take_out_each.Goals as goal

pub loop-item-init : goal.loop-item-init
loop-item-init g c =
    let lists = g.V.Versions.lists c.args.store.now in
    record {
      others = sym (with_own c.args.v lists c.requires);
      list = λ honest. sym (without_each-none (list_at lists c.args.v));
      count = omega arith;
      room = omega arith;
      honesty = refl;
    }

pub loop-item-preserved : goal.loop-item-preserved
loop-item-preserved g c =
    let V = g.V.Versions in
    let fits : FitsSigned w64 c.stamp.result = record { sfits = c.stamp.type_inv } in
    let v = c.args.v in
    let old = V.lists c.args.store.now in
    let mid = V.lists c.loop-item.store in
    let new = V.lists c.remove.new.self in
    let gone : List ItemState = c.args.gone.now in
    let i = c.loop-item.item-index in
    let so_far = c.loop-item.invariant in
    record {
      others = c.in_ok-remove.ensures.ok ∙ ap (with_list v (list_at new v)) so_far.others ∙ with_twice v (list_at new v) (list_at mid v) old;
      list = λ honest.
          let out : list_at new v ≡ without_at c.item-item.result.stamp c.item-item.result.identifier (list_at mid v) = rw (c.stamp.ensures.stamp, c.identifier.ensures) at (simp to_z-of_z at (c.in_ok-remove.ensures.list (so_far.honesty ∙ honest))) in
          out
          ∙ ap (without_at c.item-item.result.stamp c.item-item.result.identifier) (so_far.list honest)
          ∙ ap (λ (x : ItemState). without_at x.stamp x.identifier (without_each (take i gone) (list_at old v))) c.item-item.is
          ∙ sym (without_each-at gone i c.item-item.result (list_at old v) c.loop-item-test.true);
      count = let more = c.in_ok-remove.ensures.store.device.count in omega (arith, so_far.count);
      room = let used = c.in_ok-remove.ensures.store.room.used in omega (arith, used, so_far.room);
      honesty = c.in_ok-remove.ensures.store.honesty.same ∙ so_far.honesty;
    }
