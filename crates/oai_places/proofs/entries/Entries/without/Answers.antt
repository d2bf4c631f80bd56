use Rattle.std.proofs.Common.{◌≡◌, ◌∙◌, ◌+◌, ◌-◌, ◌≤◌, ◌++◌, ℕ, List, [], length, take, drop, sym, ap, arith}
use Rattle.std.proofs.lemmas.List.{length-take-le, take_rest}
use Rattle.oai_places.specs.Entries.{ends_from}
use Rattle.oai_places.specs.Pages.{entries_of}
use Rattle.oai_places.proofs.EntryLemmas.{between_back, between_front, fields_are, many_fields, size_is}
use Rattle.oai_places.proofs.PutLemmas.{ends_above, ends_fit, joined_size, without_one}
use Rattle.oai_places.proofs.entries.Entries.without.Goals as goal

pub overflow_sub-start : goal.overflow_sub-start
overflow_sub-start c = omega (arith, c.len.ensures, joined_size c.entries.result.now [] c.entries-back.result.now c.in_ok-bytes.bytes c.in_ok-bytes.ensures)

pub slice_bounds-copied_ends-end : goal.slice_bounds-copied_ends-end
slice_bounds-copied_ends-end c =
    let f = fields_are c.self.inside.bytes c.self.inside.ends.items c.args.self.now c.self.view_is c.self.invariant in
    sym (length-take-le c.args.at c.deref.result.now (omega (arith, c.requires, ap length c.deref.ensures.value, many_fields _ _ _ f)))

pub offset_bounds-deref-at : goal.offset_bounds-deref-at
offset_bounds-deref-at c =
    let f = fields_are c.self.inside.bytes c.self.inside.ends.items c.args.self.now c.self.view_is c.self.invariant in
    omega (arith, c.requires, ap length c.deref-2.ensures.value, many_fields _ _ _ f, c.deref-2.type_inv.1)

pub slice_bounds-push_moved-count : goal.slice_bounds-push_moved-count
slice_bounds-push_moved-count c =
    let f = fields_are c.self.inside.bytes c.self.inside.ends.items c.args.self.now c.self.view_is c.self.invariant in
    omega (arith, c.requires, ap length c.deref-2.ensures.value, many_fields _ _ _ f)

pub slice_bounds-push_moved-start : goal.slice_bounds-push_moved-start
slice_bounds-push_moved-start c =
    let f = fields_are c.self.inside.bytes c.self.inside.ends.items c.args.self.now c.self.view_is c.self.invariant in
    let h : c.args.at + 1 ≤ length c.deref-2.result.now = omega (arith, c.requires, ap length c.deref-2.ensures.value, many_fields _ _ _ f) in
    h

pub push_moved-requires-clause-above : goal.push_moved-requires-clause-above
push_moved-requires-clause-above c =
    let f = fields_are c.self.inside.bytes c.self.inside.ends.items c.args.self.now c.self.view_is c.self.invariant in
    ends_above (c.args.at + 1) c.end.result c.deref-2.result.now (take (length c.deref-2.result.now - (c.args.at + 1)) (drop (c.args.at + 1) c.deref-2.result.now)) c.args.self.now (omega (arith, c.requires))
    (c.deref-2.ensures.value ∙ f.ending) (take_rest c.deref-2.result.now (c.args.at + 1)) c.end.ensures

pub push_moved-requires-clause-fits : goal.push_moved-requires-clause-fits
push_moved-requires-clause-fits c =
    let f = fields_are c.self.inside.bytes c.self.inside.ends.items c.args.self.now c.self.view_is c.self.invariant in
    let ends : c.deref.result.now ≡ ends_from 0 c.args.self.now = c.deref.ensures.value ∙ f.ending in
    let more : take (length c.deref-2.result.now - (c.args.at + 1)) (drop (c.args.at + 1) c.deref-2.result.now) ≡ drop (c.args.at + 1) c.deref.result.now =
    take_rest c.deref-2.result.now (c.args.at + 1) ∙ ap (λ (ns : List ℕ). drop (c.args.at + 1) ns) (c.deref-2.ensures.value ∙ sym c.deref.ensures.value)
    in
    let front : c.entries.result.now ≡ entries_of (take c.args.at c.args.self.now) = c.entries.ensures ∙ ap entries_of (between_front c.args.at c.args.self.now) in
    let back : c.entries-back.result.now ≡ entries_of (drop (c.args.at + 1) c.args.self.now) = c.entries-back.ensures ∙ ap entries_of (between_back (c.args.at + 1) c.len-len.result c.args.self.now c.len-len.ensures.len) in
    let sizes = joined_size c.entries.result.now [] c.entries-back.result.now c.in_ok-bytes.bytes c.in_ok-bytes.ensures in
    ends_fit (c.args.at + 1) c.end.result (c.len.result - length c.entries-back.result.now) c.deref-2.result.now (take (length c.deref-2.result.now - (c.args.at + 1)) (drop (c.args.at + 1) c.deref-2.result.now))
    c.args.self.now (omega (arith, c.requires)) (c.deref-2.ensures.value ∙ f.ending) (take_rest c.deref-2.result.now (c.args.at + 1)) c.end.ensures
    (omega (arith, c.len.ensures, c.len.type_inv, sizes, size_is c.entries-back.result.now (drop (c.args.at + 1) c.args.self.now) back))

pub invariant_of-result : goal.invariant_of-result
invariant_of-result c =
    let f = fields_are c.self.inside.bytes c.self.inside.ends.items c.args.self.now c.self.view_is c.self.invariant in
    let ends : c.deref.result.now ≡ ends_from 0 c.args.self.now = c.deref.ensures.value ∙ f.ending in
    let more : take (length c.deref-2.result.now - (c.args.at + 1)) (drop (c.args.at + 1) c.deref-2.result.now) ≡ drop (c.args.at + 1) c.deref.result.now =
    take_rest c.deref-2.result.now (c.args.at + 1) ∙ ap (λ (ns : List ℕ). drop (c.args.at + 1) ns) (c.deref-2.ensures.value ∙ sym c.deref.ensures.value)
    in
    let front : c.entries.result.now ≡ entries_of (take c.args.at c.args.self.now) = c.entries.ensures ∙ ap entries_of (between_front c.args.at c.args.self.now) in
    let back : c.entries-back.result.now ≡ entries_of (drop (c.args.at + 1) c.args.self.now) = c.entries-back.ensures ∙ ap entries_of (between_back (c.args.at + 1) c.len-len.result c.args.self.now c.len-len.ensures.len) in
    let sizes = joined_size c.entries.result.now [] c.entries-back.result.now c.in_ok-bytes.bytes c.in_ok-bytes.ensures in
    (without_one c.deref.result.now c.in_ok-bytes.bytes c.push_moved.new.ends.items c.in_ok-ends.ends.items _ c.args.self.now c.args.at (c.len.result - length c.entries-back.result.now) c.end.result
    ends f.storable c.requires (omega (arith, sizes, c.len.ensures, size_is c.entries.result.now (take c.args.at c.args.self.now) front)) c.end.ensures
    (c.in_ok-bytes.ensures ∙ (λ k. front k ++ back k)) c.in_ok-ends.ensures more c.in_ok-push_moved.ensures).1

pub returns : goal.returns
returns c =
    let f = fields_are c.self.inside.bytes c.self.inside.ends.items c.args.self.now c.self.view_is c.self.invariant in
    let ends : c.deref.result.now ≡ ends_from 0 c.args.self.now = c.deref.ensures.value ∙ f.ending in
    let more : take (length c.deref-2.result.now - (c.args.at + 1)) (drop (c.args.at + 1) c.deref-2.result.now) ≡ drop (c.args.at + 1) c.deref.result.now =
    take_rest c.deref-2.result.now (c.args.at + 1) ∙ ap (λ (ns : List ℕ). drop (c.args.at + 1) ns) (c.deref-2.ensures.value ∙ sym c.deref.ensures.value)
    in
    let front : c.entries.result.now ≡ entries_of (take c.args.at c.args.self.now) = c.entries.ensures ∙ ap entries_of (between_front c.args.at c.args.self.now) in
    let back : c.entries-back.result.now ≡ entries_of (drop (c.args.at + 1) c.args.self.now) = c.entries-back.ensures ∙ ap entries_of (between_back (c.args.at + 1) c.len-len.result c.args.self.now c.len-len.ensures.len) in
    let sizes = joined_size c.entries.result.now [] c.entries-back.result.now c.in_ok-bytes.bytes c.in_ok-bytes.ensures in
    (without_one c.deref.result.now c.in_ok-bytes.bytes c.push_moved.new.ends.items c.in_ok-ends.ends.items _ c.args.self.now c.args.at (c.len.result - length c.entries-back.result.now) c.end.result
    ends f.storable c.requires (omega (arith, sizes, c.len.ensures, size_is c.entries.result.now (take c.args.at c.args.self.now) front)) c.end.ensures
    (c.in_ok-bytes.ensures ∙ (λ k. front k ++ back k)) c.in_ok-ends.ensures more c.in_ok-push_moved.ensures).0
