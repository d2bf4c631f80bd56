use Rattle.std.proofs.Common.{◌≡◌, ◌∙◌, ◌+◌, ◌-◌, ◌≤◌, ◌++◌, ℕ, List, length, take, drop, sym, ap, arith}
use Rattle.std.specs.Prelude.{map}
use Rattle.std.proofs.lemmas.List.{length-take-le, take_rest}
use Rattle.oai_places.specs.Entries.{ends_from}
use Rattle.oai_places.specs.Pages.{entries_of, entry_of}
use Rattle.oai_places.proofs.EntryLemmas.{between_back, between_front, fields_are, many_fields, size_is}
use Rattle.oai_places.proofs.PutLemmas.{ends_above, ends_fit, joined_size, with_one}
use Rattle.oai_places.proofs.entries.Entries.with.Goals as goal

pub overflow_sub-end : goal.overflow_sub-end
overflow_sub-end c = omega (arith, c.len.ensures, joined_size c.entries.result.now c.as_slice.result.now c.entries-back.result.now c.in_ok-bytes.bytes c.in_ok-bytes.ensures)

pub slice_bounds-copied_ends-end : goal.slice_bounds-copied_ends-end
slice_bounds-copied_ends-end c =
    let f = fields_are c.self.inside.bytes c.self.inside.ends.items c.args.self.now c.self.view_is c.self.invariant in
    sym (length-take-le c.args.at c.deref.result.now (omega (arith, c.requires.within, ap length c.deref.ensures.value, many_fields _ _ _ f)))

pub offset_bounds-deref-behind : goal.offset_bounds-deref-behind
offset_bounds-deref-behind c =
    let f = fields_are c.self.inside.bytes c.self.inside.ends.items c.args.self.now c.self.view_is c.self.invariant in
    omega (arith, c.requires.within, ap length c.deref-2.ensures.value, many_fields _ _ _ f, c.deref-2.type_inv.1)

pub slice_bounds-push_moved-count : goal.slice_bounds-push_moved-count
slice_bounds-push_moved-count c =
    let f = fields_are c.self.inside.bytes c.self.inside.ends.items c.args.self.now c.self.view_is c.self.invariant in
    omega (arith, c.requires.within, ap length c.deref-2.ensures.value, many_fields _ _ _ f)

pub slice_bounds-push_moved-start : goal.slice_bounds-push_moved-start
slice_bounds-push_moved-start c =
    let f = fields_are c.self.inside.bytes c.self.inside.ends.items c.args.self.now c.self.view_is c.self.invariant in
    let h : c.args.at + c.args.count ≤ length c.deref-2.result.now = omega (arith, c.requires.within, ap length c.deref-2.ensures.value, many_fields _ _ _ f) in
    h

pub push_moved-requires-clause-above : goal.push_moved-requires-clause-above
push_moved-requires-clause-above c =
    let f = fields_are c.self.inside.bytes c.self.inside.ends.items c.args.self.now c.self.view_is c.self.invariant in
    ends_above (c.args.at + c.args.count) c.start.result c.deref-2.result.now (take (length c.deref-2.result.now - (c.args.at + c.args.count)) (drop (c.args.at + c.args.count) c.deref-2.result.now)) c.args.self.now c.requires.within
    (c.deref-2.ensures.value ∙ f.ending) (take_rest c.deref-2.result.now (c.args.at + c.args.count)) c.start.ensures

pub push_moved-requires-clause-fits : goal.push_moved-requires-clause-fits
push_moved-requires-clause-fits c =
    let f = fields_are c.self.inside.bytes c.self.inside.ends.items c.args.self.now c.self.view_is c.self.invariant in
    let ends : c.deref.result.now ≡ ends_from 0 c.args.self.now = c.deref.ensures.value ∙ f.ending in
    let more : take (length c.deref-2.result.now - (c.args.at + c.args.count)) (drop (c.args.at + c.args.count) c.deref-2.result.now) ≡ drop (c.args.at + c.args.count) c.deref.result.now =
    take_rest c.deref-2.result.now (c.args.at + c.args.count) ∙ ap (λ (ns : List ℕ). drop (c.args.at + c.args.count) ns) (c.deref-2.ensures.value ∙ sym c.deref.ensures.value)
    in
    let front : c.entries.result.now ≡ entries_of (take c.args.at c.args.self.now) = c.entries.ensures ∙ ap entries_of (between_front c.args.at c.args.self.now) in
    let back : c.entries-back.result.now ≡ entries_of (drop (c.args.at + c.args.count) c.args.self.now) = c.entries-back.ensures ∙ ap entries_of (between_back (c.args.at + c.args.count) c.len-len.result c.args.self.now c.len-len.ensures.len) in
    ends_fit (c.args.at + c.args.count) c.start.result (c.len.result - length c.entries-back.result.now) c.deref-2.result.now (take (length c.deref-2.result.now - (c.args.at + c.args.count)) (drop (c.args.at + c.args.count) c.deref-2.result.now))
    c.args.self.now c.requires.within (c.deref-2.ensures.value ∙ f.ending) (take_rest c.deref-2.result.now (c.args.at + c.args.count)) c.start.ensures
    (omega (
      arith,
      c.len.ensures,
      c.len.type_inv,
      joined_size c.entries.result.now c.as_slice.result.now c.entries-back.result.now c.in_ok-bytes.bytes c.in_ok-bytes.ensures,
      size_is c.entries-back.result.now (drop (c.args.at + c.args.count) c.args.self.now) back,
    ))

pub invariant_of-result : goal.invariant_of-result
invariant_of-result c =
    let f = fields_are c.self.inside.bytes c.self.inside.ends.items c.args.self.now c.self.view_is c.self.invariant in
    let ends : c.deref.result.now ≡ ends_from 0 c.args.self.now = c.deref.ensures.value ∙ f.ending in
    let more : take (length c.deref-2.result.now - (c.args.at + c.args.count)) (drop (c.args.at + c.args.count) c.deref-2.result.now) ≡ drop (c.args.at + c.args.count) c.deref.result.now =
    take_rest c.deref-2.result.now (c.args.at + c.args.count) ∙ ap (λ (ns : List ℕ). drop (c.args.at + c.args.count) ns) (c.deref-2.ensures.value ∙ sym c.deref.ensures.value)
    in
    let front : c.entries.result.now ≡ entries_of (take c.args.at c.args.self.now) = c.entries.ensures ∙ ap entries_of (between_front c.args.at c.args.self.now) in
    let back : c.entries-back.result.now ≡ entries_of (drop (c.args.at + c.args.count) c.args.self.now) = c.entries-back.ensures ∙ ap entries_of (between_back (c.args.at + c.args.count) c.len-len.result c.args.self.now c.len-len.ensures.len) in
    let entry : c.as_slice.result.now ≡ entry_of c.args.item.now = c.as_slice.ensures.value ∙ c.in_ok-entry.ensures.entry in
    let sizes = joined_size c.entries.result.now c.as_slice.result.now c.entries-back.result.now c.in_ok-bytes.bytes c.in_ok-bytes.ensures in
    (with_one c.deref.result.now c.in_ok-bytes.bytes c.push_moved.new.ends.items c.in_ok-ends.ends.items (take (length c.deref-2.result.now - (c.args.at + c.args.count)) (drop (c.args.at + c.args.count) c.deref-2.result.now)) c.args.self.now c.args.at (c.args.at + c.args.count) c.start.result
    (c.len.result - length c.entries-back.result.now) c.args.item.now ends f.storable (omega arith) c.requires.within c.in_ok-entry.ensures.spells c.start.ensures
    (omega (arith, sizes, c.len.ensures, size_is c.entries.result.now (take c.args.at c.args.self.now) front, ap length entry))
    (c.in_ok-bytes.ensures ∙ (λ k. front k ++ (entry k ++ back k))) c.in_ok-ends.ensures more (c.in_ok-push_moved.ensures ∙ (λ k. c.in_ok-push.ensures.items k ++ map (λ n. n - c.start.result + (c.len.result - length c.entries-back.result.now)) (take (length c.deref-2.result.now - (c.args.at + c.args.count)) (drop (c.args.at + c.args.count) c.deref-2.result.now))))).1

pub returns : goal.returns
returns c =
    let f = fields_are c.self.inside.bytes c.self.inside.ends.items c.args.self.now c.self.view_is c.self.invariant in
    let ends : c.deref.result.now ≡ ends_from 0 c.args.self.now = c.deref.ensures.value ∙ f.ending in
    let more : take (length c.deref-2.result.now - (c.args.at + c.args.count)) (drop (c.args.at + c.args.count) c.deref-2.result.now) ≡ drop (c.args.at + c.args.count) c.deref.result.now =
    take_rest c.deref-2.result.now (c.args.at + c.args.count) ∙ ap (λ (ns : List ℕ). drop (c.args.at + c.args.count) ns) (c.deref-2.ensures.value ∙ sym c.deref.ensures.value)
    in
    let front : c.entries.result.now ≡ entries_of (take c.args.at c.args.self.now) = c.entries.ensures ∙ ap entries_of (between_front c.args.at c.args.self.now) in
    let back : c.entries-back.result.now ≡ entries_of (drop (c.args.at + c.args.count) c.args.self.now) = c.entries-back.ensures ∙ ap entries_of (between_back (c.args.at + c.args.count) c.len-len.result c.args.self.now c.len-len.ensures.len) in
    let entry : c.as_slice.result.now ≡ entry_of c.args.item.now = c.as_slice.ensures.value ∙ c.in_ok-entry.ensures.entry in
    let sizes = joined_size c.entries.result.now c.as_slice.result.now c.entries-back.result.now c.in_ok-bytes.bytes c.in_ok-bytes.ensures in
    (with_one c.deref.result.now c.in_ok-bytes.bytes c.push_moved.new.ends.items c.in_ok-ends.ends.items (take (length c.deref-2.result.now - (c.args.at + c.args.count)) (drop (c.args.at + c.args.count) c.deref-2.result.now)) c.args.self.now c.args.at (c.args.at + c.args.count) c.start.result
    (c.len.result - length c.entries-back.result.now) c.args.item.now ends f.storable (omega arith) c.requires.within c.in_ok-entry.ensures.spells c.start.ensures
    (omega (arith, sizes, c.len.ensures, size_is c.entries.result.now (take c.args.at c.args.self.now) front, ap length entry))
    (c.in_ok-bytes.ensures ∙ (λ k. front k ++ (entry k ++ back k))) c.in_ok-ends.ensures more (c.in_ok-push_moved.ensures ∙ (λ k. c.in_ok-push.ensures.items k ++ map (λ n. n - c.start.result + (c.len.result - length c.entries-back.result.now)) (take (length c.deref-2.result.now - (c.args.at + c.args.count)) (drop (c.args.at + c.args.count) c.deref-2.result.now))))).0
