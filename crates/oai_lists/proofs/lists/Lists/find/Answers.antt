use Rattle.std.proofs.Common.{rules, ◌≡◌, ◌∙◌, ◌<ℤ◌, ◌≤ℤ◌, FitsSigned, List, None, Some, ap, arith, cond, get_or, length, refl, sym, w64}
use Rattle.std.specs.Prelude.{slice_get}
use Rattle.std.proofs.lemmas.Bool.{cond-true, cond-false}
use Rattle.std.proofs.lemmas.Int.{ints}
use Rattle.std.proofs.lemmas.Option.{slice_get_read}
use Rattle.oai_lists.specs.HeldTable.{IsListPlace, no_list_numbered}
use Rattle.oai_lists.specs.OpenLists.{Table, is_open, open_numbered}
use Rattle.oai_lists.specs.declared.open_lists.OpenList.{OpenList}
use Rattle.oai_lists.proofs.Tables.{open_numbered-none, open_numbered-placed}
use Rattle.oai_lists.proofs.Ends.{closed_test, open_test}
use Rattle.oai_lists.proofs.lists.Lists.find.Goals as goal

pub returns-then-now-list-clause-found : goal.returns-then-now-list-clause-found
returns-then-now-list-clause-found c =
    let fits : FitsSigned w64 c.args.now = c.ranges.now in
    let x : OpenList = c.index-list.result.now in
    let fits_end : FitsSigned w64 x.end = search rules in
    let items : List OpenList = c.self.inside.lists.items in
    let place : IsListPlace c.args.number items (Some c.in-Some.at) = rw c.as_slice.ensures.value at c.in-Some.ensures in
    let early : c.args.now <ℤ x.end = omega (arith, ints, c.if-now-list.true) in
    let is : x ≡ get_or items c.in-Some.at x = c.index-list.ensures in
    sym (ap (λ (t : Table). open_numbered c.args.number c.args.now t.lists) (sym c.self.view_is)
    ∙ open_numbered-placed c.args.number c.args.now items c.in-Some.at x place
    ∙ ap (λ (y : OpenList). cond (is_open c.args.now y) (Some y) None) (sym is)
    ∙ cond-true (is_open c.args.now x) (Some x) None (open_test c.args.now x early))

pub returns-else-now-list-clause-found : goal.returns-else-now-list-clause-found
returns-else-now-list-clause-found c =
    let fits : FitsSigned w64 c.args.now = c.ranges.now in
    let x : OpenList = c.index-list.result.now in
    let fits_end : FitsSigned w64 x.end = search rules in
    let items : List OpenList = c.self.inside.lists.items in
    let place : IsListPlace c.args.number items (Some c.in-Some.at) = rw c.as_slice.ensures.value at c.in-Some.ensures in
    let late : x.end ≤ℤ c.args.now = omega (arith, ints, c.if-now-list.false) in
    let is : x ≡ get_or items c.in-Some.at x = c.index-list.ensures in
    sym (ap (λ (t : Table). open_numbered c.args.number c.args.now t.lists) (sym c.self.view_is)
    ∙ open_numbered-placed c.args.number c.args.now items c.in-Some.at x place
    ∙ ap (λ (y : OpenList). cond (is_open c.args.now y) (Some y) None) (sym is)
    ∙ cond-false (is_open c.args.now x) (Some x) None (closed_test c.args.now x late))

pub returns-in-None-clause-found : goal.returns-in-None-clause-found
returns-in-None-clause-found c =
    let items : List OpenList = c.self.inside.lists.items in
    let none : no_list_numbered c.args.number items = rw c.as_slice.ensures.value at c.in-None.ensures in
    sym (ap (λ (t : Table). open_numbered c.args.number c.args.now t.lists) (sym c.self.view_is) ∙ open_numbered-none c.args.number c.args.now items none)

pub returns-then-now-list-clause-placed : goal.returns-then-now-list-clause-placed
returns-then-now-list-clause-placed c =
    let items : List OpenList = c.self.inside.lists.items in
    let x : OpenList = c.index-list.result.now in
    let place : IsListPlace c.args.number items (Some c.in-Some.at) = rw c.as_slice.ensures.value at c.in-Some.ensures in
    ap (λ (t : Table). slice_get t.lists c.in-Some.at) (sym c.self.view_is) ∙ slice_get_read items (length items) c.in-Some.at x refl place.0 c.index-list.ensures
