-- Each turn reads a part more, behind the last item of the one before.
use Rattle.std.proofs.Common.{rules, ◌≡◌, ◌∙◌, ◌+◌, ◌-◌, ◌≤◌, ◌++◌, ℕ, FitsSigned, IsTrue, List, Option, ap, arith, drop, length, sym, take, w64}
use Rattle.std.specs.Prelude.{filter, nat_lt, option_map, slice_get, if◌then◌else◌}
use Rattle.std.specs.Option.{option_copied}
use Rattle.std.proofs.lemmas.Int.{to_z-of_z}
use Rattle.oai_item.specs.Item.{ItemState}
use Rattle.oai_item.specs.Selection.{Filter, selected}
use Rattle.oai_item.proofs.Selecting.{in_order-selected}
use Rattle.oai_catalogue.specs.Store.{list_at}
use Rattle.oai_holdings.specs.Missing.{items_past, sort_key_of}
use Rattle.oai_holdings.specs.Purges.{below, is_deleted}
use Rattle.oai_holdings.specs.declared.differences.OwnedKey.{OwnedKey}
use Rattle.oai_holdings.proofs.BatchLemmas.{from_first}
use Rattle.oai_holdings.proofs.PartLemmas.{part_behind}
use Rattle.oai_holdings.proofs.PurgeLemmas.{few_more, read_on}
use Rattle.oai_holdings.proofs.changes.purges.deleted_below.Goals as goal

pub loop-start-init : goal.loop-start-init
loop-start-init g c = record {
  read = search rules;
  behind = λ honest less. from_first _;
  few = search rules;
  within = search rules;
  same = search rules;
  room = search rules;
  count = search rules;
  honesty = search rules;
}

pub loop-start-preserved : goal.loop-start-preserved
loop-start-preserved g c =
    let V = g.V.Versions in
    let fits : FitsSigned w64 c.args.limit = c.ranges.limit in
    let at = c.loop-start in
    let some = c.min-some.result in
    let least = c.min-some.ensures in
    let so_far = at.invariant in
    let less = c.loop-start-test.true in
    let items : List ItemState = list_at (V.lists c.args.store.now) c.args.v in
    let all : List ItemState = selected (below c.args.limit) items in
    let asked : c.in_ok-asked.asked ≡ below c.args.limit = simp to_z-of_z at c.in_ok-asked.ensures.ok in
    let behind : option_copied c.as_ref.result ≡ at.behind = c.as_ref.ensures.value in
    let within : at.start + some ≤ c.args.most = omega (arith, least, so_far.within) in
    let part : IsTrue (V.honest c.args.store.now) → c.in_ok-part.part ≡ take some (drop at.start all) =
    λ honest.
    c.in_ok-part.ensures.part (so_far.honesty ∙ honest)
    ∙ ap (λ (o : Option OwnedKey). take some (items_past o (selected c.in_ok-asked.asked (list_at (V.lists at.store) c.args.v)))) behind
    ∙ ap (λ (f : Filter). take some (items_past at.behind (selected f (list_at (V.lists at.store) c.args.v)))) asked
    ∙ ap (λ lists. take some (items_past at.behind (selected (below c.args.limit) (list_at lists c.args.v)))) so_far.same
    ∙ ap (take some) (simp to_z-of_z at (so_far.behind honest less))
    in
    let next : c.after_part-next.result ≡ (if nat_lt (length c.in_ok-part.part) some then c.args.most else at.start + some) = rw c.as_slice-in-loop-start.ensures at c.after_part-next.ensures.read in
    record {
      read = λ honest.
          let read = simp to_z-of_z at (so_far.read honest) in
          let on : c.after_part-next.result ≡ (if nat_lt (length (take some (drop at.start all))) some then c.args.most else at.start + some) =
          next ∙ ap (λ (xs : List ItemState). if nat_lt (length xs) some then c.args.most else at.start + some) (part honest)
          in
          simp to_z-of_z
          (c.in_ok-add_deleted.ensures
          ∙ ap (λ (xs : List ItemState). xs ++ filter is_deleted c.in_ok-part.part) read
          ∙ ap (λ (xs : List ItemState). filter is_deleted (take at.start all) ++ filter is_deleted xs) (part honest)
          ∙ read_on at.start some c.args.most all within
          ∙ ap (λ (n : ℕ). filter is_deleted (take n all)) (sym on));
      behind = λ honest further.
          let last : c.in_ok-last.last ≡ option_map sort_key_of (slice_get c.in_ok-part.part (length c.in_ok-part.part - 1)) =
          c.in_ok-last.ensures ∙ ap (option_map sort_key_of) (rw c.as_slice.ensures at c.last.ensures.value)
          in
          let ordered = in_order-selected (below c.args.limit) items (g.met.V.Versions.rising c.args.store.now c.args.v) in
          simp to_z-of_z (part_behind all c.in_ok-part.part at.start some c.args.most c.after_part-next.result c.in_ok-last.last ordered (part honest) (omega (arith, least, less)) last next further);
      few = rw c.in_ok-add_deleted.ensures
          (few_more at.gone.items c.in_ok-part.part at.start some c.after_part-next.result so_far.few c.in_ok-part.ensures.few c.after_part-next.ensures.further);
      within = c.after_part-next.ensures.within;
      same = c.in_ok-part.ensures.reads.same ∙ so_far.same;
      room = let used = c.in_ok-part.ensures.reads.store.room.used in omega (arith, used, so_far.room);
      count = let more = c.in_ok-part.ensures.reads.store.device.count in omega (arith, so_far.count);
      honesty = c.in_ok-part.ensures.reads.store.honesty.same ∙ so_far.honesty;
    }
