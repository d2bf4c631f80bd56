use Rattle.std.proofs.Common.{◌≡◌, ◌∙◌, ◌+◌, ◌<◌, ◌≤◌, ◌++◌, ◌∷◌, [], ℕ, List, is_ok, true, ap, arith, get_or, length, subst, sym, take}
use Rattle.std.proofs.lemmas.List.{take_all, take_more}
use Rattle.oai_item.specs.Item.{ItemState}
use Rattle.oai_places.specs.Calls.{fault_of}
use Rattle.oai_places.specs.Pages.{between, overflow_of, pages_of}
use Rattle.oai_places.specs.Recounts.{AddsNumbers}
use Rattle.oai_paged.proofs.AddedLemmas.{adds_no_number, adds_number, recounts_kept}
use Rattle.oai_places.proofs.EntryLemmas.{storable-between}
use Rattle.oai_places.proofs.OverflowLemmas.{few_overflow, length-pages}
use Rattle.oai_places.proofs.RecountLemmas.{named_while_shared, undone_after}
use Rattle.oai_places.proofs.SpendingLemmas.{err_of, ok_of, spends_both, spends_call, spends_fault, spends_freed_err, spends_more, spends_none, spends_ok}
use Rattle.oai_paged.proofs.changes.add_numbers.Goals as goal

pub overflow_add-overflow : goal.overflow_add-overflow
overflow_add-overflow g c =
    let items : List ItemState = between c.args.range.from c.args.range.to c.args.range.entries.now in
    omega (arith, c.overflow-overflow.ensures, few_overflow items (storable-between c.args.range.from c.args.range.to c.args.range.entries.now c.len-all.ensures.storable) c.requires.range.alone)

pub loop-at-init : goal.loop-at-init
loop-at-init g c = record {
  added = subst (λ (ns : List ℕ). AddsNumbers g.P.PagePool [] ns c.args.pages.now c.args.pages.now) (sym c.in_ok-numbers.ensures.items) (adds_no_number g.P.PagePool c.args.pages.now);
  taken = spends_none g.P.PagePool 0 c.args.pages.now;
  len = c.in_ok-numbers.ensures.len;
  room = c.in_ok-numbers.ensures.capacity;
}

pub add_filled-requires-clause-there : goal.add_filled-requires-clause-there
add_filled-requires-clause-there g c =
    omega (arith, c.loop-at-test.true, c.overflow-overflow.ensures, length-pages (between c.args.range.from c.args.range.to c.args.range.entries.now))

pub unwrap-requires : goal.unwrap-requires
unwrap-requires g c = c.push.ensures.succeeds (omega (arith, c.loop-at-test.true, c.loop-at.invariant.len, c.loop-at.invariant.room))

pub loop-at-preserved : goal.loop-at-preserved
loop-at-preserved g c =
    let G = g.P.PagePool in
    let p = c.args.pages.now in
    let q = c.loop-at.pages in
    let r = c.add_filled.new.pages in
    let so_far = c.loop-at.invariant in
    let all : List (List ℕ) = pages_of (between c.args.range.from c.args.range.to c.args.range.entries.now) in
    let at = c.loop-at.at in
    let within : at < length all = omega (arith, c.loop-at-test.true, c.overflow-overflow.ensures, length-pages (between c.args.range.from c.args.range.to c.args.range.entries.now)) in
    let done : is_ok c.push.result ≡ true = c.push.ensures.succeeds (omega (arith, c.loop-at-test.true, so_far.len, so_far.room)) in
    let pushed : c.push.new.self.items ≡ c.loop-at.numbers.items ++ c.in-Ok.number ∷ [] = rw done at c.push.ensures.items in
    let next : take (at + 1) all ≡ take at all ++ get_or all at [] ∷ [] = take_more all at [] within in
    record {
      added = rw (next, pushed) (adds_number G (take at all) c.loop-at.numbers.items c.in-Ok.number (get_or all at []) p q r so_far.added (c.in-Ok.ensures.added []).free (c.in-Ok.ensures.added []).counts c.add_filled.ensures.kept (c.in-Ok.ensures.added []).page);
      taken = spends_both G at 1 at (ok_of (at + 1)) p q r so_far.taken (spends_call G 1 c.in-Ok.number (at + 1) q r c.in-Ok.ensures.pool);
      len = rw done at c.push.ensures.len ∙ ap (λ n. n + 1) so_far.len;
      room = omega (arith, so_far.room, c.push.ensures.capacity);
    }

pub drop_numbers-requires : goal.drop_numbers-requires
drop_numbers-requires g c =
    let G = g.P.PagePool in
    let q = c.loop-at.pages in
    let r = c.add_filled.new.pages in
    rw c.as_slice.ensures.value (named_while_shared G c.loop-at.numbers.items c.args.pages.now q r c.loop-at.invariant.added.names (recounts_kept G q r c.in-Err.ensures.err c.add_filled.ensures.kept))

pub returns-in-Err-clause-undone : goal.returns-in-Err-clause-undone
returns-in-Err-clause-undone g c =
    let G = g.P.PagePool in
    let q = c.loop-at.pages in
    let r = c.add_filled.new.pages in
    undone_after G c.loop-at.numbers.items c.args.pages.now q r c.drop_numbers.new.pages c.loop-at.invariant.added.names (recounts_kept G q r c.in-Err.ensures.err c.add_filled.ensures.kept)
    (rw c.as_slice.ensures.value at c.drop_numbers.ensures.names)

pub returns-in-Err-clause-pool : goal.returns-in-Err-clause-pool
returns-in-Err-clause-pool g c =
    let G = g.P.PagePool in
    let p = c.args.pages.now in
    let q = c.loop-at.pages in
    let r = c.add_filled.new.pages in
    let s = c.drop_numbers.new.pages in
    let items : List ItemState = between c.args.range.from c.args.range.to c.args.range.entries.now in
    let at = c.loop-at.at in
    let few : at + 1 ≤ 1 + overflow_of items = omega (arith, c.loop-at-test.true, c.overflow-overflow.ensures) in
    let failed = spends_fault G 1 c.in-Err.fault q r c.in-Err.ensures.pool in
    let all = spends_both G at 1 at (err_of (List ℕ) (fault_of c.in-Err.fault)) p q r c.loop-at.invariant.taken failed in
    rw c.fault_of.ensures
    (spends_freed_err G (1 + overflow_of items) (fault_of c.in-Err.fault) p r s (spends_more G (at + 1) (1 + overflow_of items) (err_of (List ℕ) (fault_of c.in-Err.fault)) p r few all) c.drop_numbers.ensures.pool)

pub returns-clause-added : goal.returns-clause-added
returns-clause-added g c =
    let all : List (List ℕ) = pages_of (between c.args.range.from c.args.range.to c.args.range.entries.now) in
    subst (λ (pages : List (List ℕ)). AddsNumbers g.P.PagePool pages c.loop-at.numbers.items c.args.pages.now c.loop-at.pages)
    (take_all c.loop-at.at all (omega (arith, c.loop-at-test.false, c.overflow-overflow.ensures, length-pages (between c.args.range.from c.args.range.to c.args.range.entries.now))))
    c.loop-at.invariant.added

pub returns-clause-pool : goal.returns-clause-pool
returns-clause-pool g c =
    let G = g.P.PagePool in
    let p = c.args.pages.now in
    let q = c.loop-at.pages in
    let items : List ItemState = between c.args.range.from c.args.range.to c.args.range.entries.now in
    let at = c.loop-at.at in
    let few : at ≤ 1 + overflow_of items = omega (arith, c.loop-at.auto.at-end, c.overflow-overflow.ensures) in
    spends_more G at (1 + overflow_of items) (ok_of c.loop-at.numbers) p q few (spends_ok G at at c.loop-at.numbers p q c.loop-at.invariant.taken)
