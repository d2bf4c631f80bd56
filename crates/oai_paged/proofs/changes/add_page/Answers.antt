use Rattle.std.proofs.Common.{◌∙◌, FitsSigned, List, Option, ap, arith, subst, sym, [], pos, w64}
use Rattle.std.proofs.lemmas.Int.{to_z-of_z}
use Rattle.oai_item.specs.Item.{ItemState}
use Rattle.oai_item.proofs.Around.{only_place}
use Rattle.oai_pool.specs.Names.{times}
use Rattle.oai_places.specs.Calls.{Renames}
use Rattle.oai_places.specs.Pages.{begins_at, between}
use Rattle.oai_places.specs.Places.{AreSetCounts, PlaceState, have_records}
use Rattle.oai_sums.specs.Sums.{SetTotal}
use Rattle.oai_paged.proofs.AddedLemmas.{adds_page}
use Rattle.oai_places.proofs.BetweenLemmas.{begins-between, fit-between, length-between}
use Rattle.oai_places.proofs.CutLemmas.{few_between}
use Rattle.oai_places.proofs.ResultLemmas.{on_err_of}
use Rattle.oai_places.proofs.NameLemmas.{times-nil}
use Rattle.oai_places.proofs.RecountLemmas.{recounts_undone, renames_none}
use Rattle.oai_paged.proofs.changes.add_page.Goals as goal

pub returns-in-Ok-clause-added : goal.returns-in-Ok-clause-added
returns-in-Ok-clause-added g c =
    let fits : FitsSigned w64 c.stamp-stamp.result = record { sfits = c.stamp-stamp.type_inv } in
    let items : List ItemState = between c.args.range.from c.args.range.to c.args.range.entries.now in
    let place : PlaceState = c.in-Ok.place in
    let is = simp to_z-of_z at c.in-Ok.ensures in
    let d : ItemState = only_place (pos 0) [] in
    let few = few_between c.args.range.entries.now c.args.range.from c.args.range.to (omega (arith, c.requires.order)) c.requires.within c.len-all.ensures.storable c.requires.alone in
    adds_page g.P.PagePool items place c.in_ok-numbers.numbers.items c.args.pages.now c.add_numbers.new.pages c.in_ok-numbers.ensures.added
    (fit-between c.args.range.from c.args.range.to c.args.range.entries.now c.requires.order c.requires.within few.1 c.len-all.ensures.storable c.requires.rising) c.requires.alone
    (ap (λ (p : PlaceState). p.pages) is ∙ c.as_slice.ensures.value)
    (ap (λ (p : PlaceState). begins_at p.stamp p.identifier items) is
    ∙ begins-between c.stamp-stamp.result c.in_ok-identifier.identifier c.args.range.from c.args.range.to c.args.range.entries.now d c.requires.order c.requires.within (c.stamp-stamp.ensures d) (c.in_ok-identifier.ensures d))
    (ap (λ (p : PlaceState). p.len) is ∙ sym (length-between c.args.range.from c.args.range.to c.args.range.entries.now c.requires.within))
    (ap (λ (p : PlaceState). p.size) is ∙ c.size_between-size.ensures)
    (ap (λ (p : PlaceState). have_records p.prefixes items) is ∙ c.in_ok-prefixes.ensures)
    (subst (λ (sets : Option (List SetTotal)). AreSetCounts sets items) (sym (ap (λ (p : PlaceState). p.sets) is)) c.set_counts-sets.ensures)

pub returns-in_err-numbers-clause-undone : goal.returns-in_err-numbers-clause-undone
returns-in_err-numbers-clause-undone g c =
    on_err_of (Renames g.P.PagePool [] [] c.args.pages.now c.add_numbers.new.pages) c.from_residual-in_err-numbers.result
    (renames_none g.P.PagePool c.args.pages.now c.add_numbers.new.pages c.in_err-numbers.ensures.undone)

pub drop_numbers-requires : goal.drop_numbers-requires
drop_numbers-requires g c =
    let names = c.in_ok-numbers.ensures.added.names in
    λ n. omega (arith, ap (times n) c.as_slice-in-Err.ensures.value, names.counts n, times-nil n)

pub returns-clause-undone : goal.returns-clause-undone
returns-clause-undone g c =
    let G = g.P.PagePool in
    renames_none G c.args.pages.now c.drop_numbers.new.pages
    (recounts_undone G c.in_ok-numbers.numbers.items c.args.pages.now c.add_numbers.new.pages c.drop_numbers.new.pages c.in_ok-numbers.ensures.added.names (rw c.as_slice-in-Err.ensures.value at c.drop_numbers.ensures.names))
