use Rattle.std.proofs.Common.{◌∙◌, ◌≤◌, length, arith}
use Rattle.oai_places.proofs.EntryLemmas.{entries_part, fields_are, size_is, size_of-between, size_of-cut}
use Rattle.oai_places.proofs.entries.Entries.entries.Goals as goal

pub slice_bounds-result-count : goal.slice_bounds-result-count
slice_bounds-result-count c = omega (arith, c.start-start.ensures, c.start-end.ensures, size_of-between c.args.self.now c.args.from c.args.to c.requires.order)

pub slice_bounds-result-start : goal.slice_bounds-result-start
slice_bounds-result-start c =
    let h : c.start-start.result ≤ c.start-end.result =
    omega (arith, c.start-start.ensures, c.start-end.ensures, size_of-between c.args.self.now c.args.from c.args.to c.requires.order)
    in
    h

pub slice_bounds-result-end : goal.slice_bounds-result-end
slice_bounds-result-end c =
    let f = fields_are c.self.inside.bytes c.self.inside.ends.items c.args.self.now c.self.view_is c.self.invariant in
    let h : c.start-end.result ≤ length c.as_slice.result.now =
    omega (arith, c.start-end.ensures, size_of-cut c.args.self.now c.args.to, size_is c.as_slice.result.now c.args.self.now (c.as_slice.ensures.value ∙ f.spelling))
    in
    h

pub returns : goal.returns
returns c =
    let f = fields_are c.self.inside.bytes c.self.inside.ends.items c.args.self.now c.self.view_is c.self.invariant in
    entries_part c.as_slice.result.now c.args.self.now c.args.from c.args.to c.start-start.result c.start-end.result (c.as_slice.ensures.value ∙ f.spelling) c.requires.order c.start-start.ensures c.start-end.ensures
