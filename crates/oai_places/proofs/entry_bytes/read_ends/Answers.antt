use Rattle.std.proofs.Common.{◌≡◌, ◌+◌, ◌≤◌, ℕ, List, length, drop, subst, sym, arith}
use Rattle.std.proofs.lemmas.List.{take_rest}
use Rattle.std.proofs.lemmas.Result.{err_from_is_err_and}
use Rattle.oai_places.specs.Entries.{HasEntries, HasEntry, HasNoEntry}
use Rattle.oai_places.proofs.ReadLemmas.{no_entries, no_entry_read, no_more, one_more, size_within}
use Rattle.oai_places.proofs.entry_bytes.read_ends.Goals as goal

pub loop-init : goal.loop-init
loop-init c = subst (λ (ends : List ℕ). HasEntries c.args.bytes.now ends 0 0) (sym c.new-ends.ensures.items) (no_entries c.args.bytes.now)

pub slice_bounds-entry_len-count : goal.slice_bounds-entry_len-count
slice_bounds-entry_len-count c = size_within c.args.bytes.now c.loop.ends.items c.loop.counter c.loop.end c.loop.invariant

pub slice_bounds-entry_len-start : goal.slice_bounds-entry_len-start
slice_bounds-entry_len-start c =
    let h : c.loop.end ≤ length c.args.bytes.now = size_within c.args.bytes.now c.loop.ends.items c.loop.counter c.loop.end c.loop.invariant in
    h

pub returns-in_err-len-clause-damaged : goal.returns-in_err-len-clause-damaged
returns-in_err-len-clause-damaged c = λ damaged.
    let p = err_from_is_err_and c.from_residual.result c.from_residual.ensures.1 in
    no_more c.args.bytes.now c.loop.ends.items c.loop.counter c.loop.end c.args.count c.loop.invariant c.loop-test.true
    (subst (λ (bytes : List ℕ). HasNoEntry bytes) (take_rest c.args.bytes.now c.loop.end)
    (no_entry_read _ c.in_err-len.field-0.0 p.0 _ damaged p.1 p.2 c.in_err-len.ensures))

pub loop-preserved : goal.loop-preserved
loop-preserved c =
    let entry : HasEntry (drop c.loop.end c.args.bytes.now) c.in_ok-len.len =
    subst (λ (bytes : List ℕ). HasEntry bytes c.in_ok-len.len) (take_rest c.args.bytes.now c.loop.end) c.in_ok-len.ensures
    in
    subst (λ (ends : List ℕ). HasEntries c.args.bytes.now ends (c.loop.counter + 1) (c.loop.end + c.in_ok-len.len)) (sym c.in_ok-push_end.ensures)
    (one_more c.args.bytes.now c.loop.ends.items c.loop.counter c.loop.end c.in_ok-len.len c.loop.invariant entry)

pub returns-clause-read : goal.returns-clause-read
returns-clause-read c =
    let all : c.loop.counter ≡ c.args.count = omega (arith, c.loop.auto.counter-end, c.loop-test.false) in
    subst (λ n. HasEntries c.args.bytes.now c.loop.ends.items n c.loop.end) all c.loop.invariant
