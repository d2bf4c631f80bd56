use Rattle.std.proofs.Common.{◌≡◌, ◌∙◌, ◌+◌, ◌≤◌, ℕ, List, ap, drop, length, subst, sym}
use Rattle.std.proofs.lemmas.List.{take_rest}
use Rattle.oai_pool.specs.Kinds.{leading_number, spells_item}
use Rattle.oai_places.specs.Entries.{HasEntry}
use Rattle.oai_places.proofs.ReadLemmas.{size_within}
use Rattle.oai_places.proofs.TestedLemmas.{AreKnown, more_known, next_known, none_known}
use Rattle.oai_places.proofs.entry_bytes.ends_of.Goals as goal

pub loop-init : goal.loop-init
loop-init c = subst (λ (ends : List ℕ). AreKnown c.args.bytes.now ends c.args.count 0 0) (sym c.in_ok-ends.ensures.items) (none_known c.args.bytes.now c.args.count c.requires)

pub slice_bounds-spelled_len-count : goal.slice_bounds-spelled_len-count
slice_bounds-spelled_len-count c = size_within c.args.bytes.now c.loop.ends.items c.loop.counter c.loop.end c.loop.invariant.entries

pub slice_bounds-spelled_len-start : goal.slice_bounds-spelled_len-start
slice_bounds-spelled_len-start c =
    let h : c.loop.end ≤ length c.args.bytes.now = size_within c.args.bytes.now c.loop.ends.items c.loop.counter c.loop.end c.loop.invariant.entries in
    h

pub spelled_len-end-requires : goal.spelled_len-end-requires
spelled_len-end-requires c =
    ap spells_item (take_rest c.args.bytes.now c.loop.end)
    ∙ next_known c.args.bytes.now c.loop.ends.items c.args.count c.loop.counter c.loop.end c.loop.invariant c.loop-test.true

pub loop-preserved : goal.loop-preserved
loop-preserved c =
    let bytes : List ℕ = c.args.bytes.now in
    let len : ℕ = c.spelled_len-end.result in
    let rest = take_rest bytes c.loop.end in
    let entry : HasEntry (drop c.loop.end bytes) len = subst (λ (bs : List ℕ). HasEntry bs len) rest c.spelled_len-end.ensures.entry in
    let is : len ≡ 4 + leading_number (drop c.loop.end bytes) = c.spelled_len-end.ensures.behind ∙ ap (λ (bs : List ℕ). 4 + leading_number bs) rest in
    subst (λ (ends : List ℕ). AreKnown bytes ends c.args.count (c.loop.counter + 1) (c.loop.end + len)) (sym c.in_ok-push_end.ensures)
    (more_known bytes c.loop.ends.items c.args.count c.loop.counter c.loop.end len c.loop.invariant c.loop-test.true entry is)
