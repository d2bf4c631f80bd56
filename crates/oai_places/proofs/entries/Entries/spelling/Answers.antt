use Rattle.std.proofs.Common.{◌≡◌, ◌∙◌, ◌+◌, ◌-◌, ◌≤◌, ℕ, List, length, take, drop, get_or, subst, sym, arith}
use Rattle.std.proofs.lemmas.List.{take_rest}
use Rattle.oai_item.specs.Encoding.{Spells}
use Rattle.oai_places.specs.Pages.{between, entries_of}
use Rattle.oai_places.proofs.EntryLemmas.{entries_part, entry_long, fields_are, size_is, size_of-between, size_of-cut, spelling_at}
use Rattle.oai_places.proofs.entries.Entries.spelling.Goals as goal

pub slice_bounds-entry-count : goal.slice_bounds-entry-count
slice_bounds-entry-count c = omega (arith, c.start-start.ensures, c.end-end.ensures, size_of-between c.args.self.now c.args.at (c.args.at + 1) (omega arith))

pub slice_bounds-entry-start : goal.slice_bounds-entry-start
slice_bounds-entry-start c =
    let h : c.start-start.result ≤ c.end-end.result =
    omega (arith, c.start-start.ensures, c.end-end.ensures, size_of-between c.args.self.now c.args.at (c.args.at + 1) (omega arith))
    in
    h

pub slice_bounds-entry-end : goal.slice_bounds-entry-end
slice_bounds-entry-end c =
    let f = fields_are c.self.inside.bytes c.self.inside.ends.items c.args.self.now c.self.view_is c.self.invariant in
    let h : c.end-end.result ≤ length c.as_slice.result.now =
    omega (arith, c.end-end.ensures, size_of-cut c.args.self.now (c.args.at + 1), size_is c.as_slice.result.now c.args.self.now (c.as_slice.ensures.value ∙ f.spelling))
    in
    h

pub slice_bounds-result-count : goal.slice_bounds-result-count
slice_bounds-result-count c =
    let f = fields_are c.self.inside.bytes c.self.inside.ends.items c.args.self.now c.self.view_is c.self.invariant in
    let entry : take (c.end-end.result - c.start-start.result) (drop c.start-start.result c.as_slice.result.now) ≡ entries_of (between c.args.at (c.args.at + 1) c.args.self.now) =
    entries_part c.as_slice.result.now c.args.self.now c.args.at (c.args.at + 1) c.start-start.result c.end-end.result (c.as_slice.ensures.value ∙ f.spelling) (omega arith) c.start-start.ensures c.end-end.ensures
    in
    entry_long _ c.args.self.now c.args.at entry c.requires

pub slice_bounds-result-start : goal.slice_bounds-result-start
slice_bounds-result-start c =
    let f = fields_are c.self.inside.bytes c.self.inside.ends.items c.args.self.now c.self.view_is c.self.invariant in
    let entry : take (c.end-end.result - c.start-start.result) (drop c.start-start.result c.as_slice.result.now) ≡ entries_of (between c.args.at (c.args.at + 1) c.args.self.now) =
    entries_part c.as_slice.result.now c.args.self.now c.args.at (c.args.at + 1) c.start-start.result c.end-end.result (c.as_slice.ensures.value ∙ f.spelling) (omega arith) c.start-start.ensures c.end-end.ensures
    in
    let h : 4 ≤ length (take (c.end-end.result - c.start-start.result) (drop c.start-start.result c.as_slice.result.now)) = entry_long _ c.args.self.now c.args.at entry c.requires in
    h

pub returns : goal.returns
returns c = λ d.
    let f = fields_are c.self.inside.bytes c.self.inside.ends.items c.args.self.now c.self.view_is c.self.invariant in
    let entry : take (c.end-end.result - c.start-start.result) (drop c.start-start.result c.as_slice.result.now) ≡ entries_of (between c.args.at (c.args.at + 1) c.args.self.now) =
    entries_part c.as_slice.result.now c.args.self.now c.args.at (c.args.at + 1) c.start-start.result c.end-end.result (c.as_slice.ensures.value ∙ f.spelling) (omega arith) c.start-start.ensures c.end-end.ensures
    in
    subst (λ (text : List ℕ). Spells text (get_or c.args.self.now c.args.at d)) (sym (take_rest (take (c.end-end.result - c.start-start.result) (drop c.start-start.result c.as_slice.result.now)) 4))
    (spelling_at _ c.args.self.now c.args.at d entry f.storable c.requires)
