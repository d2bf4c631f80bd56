use Rattle.std.proofs.Common.{◌≡◌, ◌∙◌, ◌+◌, ◌++◌, ◌∷◌, [], Err, List, ℕ, ap, append-nil, arith, is_ok, rules, subst, sym, true}
use Rattle.oai_item.specs.Item.{ItemState}
use Rattle.oai_paged.specs.Changes.{Adds}
use Rattle.oai_places.specs.Pages.{between, overflow_of}
use Rattle.oai_places.specs.Places.{PlaceState}
use Rattle.oai_places.proofs.BetweenLemmas.{between-none}
use Rattle.oai_places.proofs.ResultLemmas.{on_err_of}
use Rattle.oai_paged.proofs.RenamedLemmas.{adds_both, adds_then_nothing}
use Rattle.oai_places.proofs.SpendingLemmas.{spends_failed, spends_ok}
use Rattle.oai_paged.proofs.changes.add_part.Goals as goal

pub returns-then-from-to-clause-ok : goal.returns-then-from-to-clause-ok
returns-then-from-to-clause-ok g c =
    let entries : List ItemState = c.args.range.entries.now in
    let none : between c.args.range.from c.args.range.to entries ≡ [] = ap (λ n. between c.args.range.from n entries) (sym c.if-from-to.true) ∙ between-none c.args.range.from entries in
    λ items first h. subst (λ (zs : List ItemState). Adds g.P.PagePool zs c.args.added.now.items first c.args.pages.now) (sym (ap (λ zs. items ++ zs) none ∙ append-nil items)) h

pub returns-in_err-place-clause-err : goal.returns-in_err-place-clause-err
returns-in_err-place-clause-err g c =
    λ items first h. on_err_of (Adds g.P.PagePool items c.args.added.now.items first c.add_page.new.pages) c.from_residual.result
    (adds_then_nothing g.P.PagePool items c.args.added.now.items first c.args.pages.now c.add_page.new.pages h c.in_err-place.ensures.undone)

pub returns-clause-ok : goal.returns-clause-ok
returns-clause-ok g c =
    let place : PlaceState = c.in_ok-place.place in
    let items-new : List ItemState = between c.args.range.from c.args.range.to c.args.range.entries.now in
    let done : is_ok c.push.result ≡ true = c.push.ensures.succeeds c.requires.room in
    let pushed : c.push.new.self.items ≡ c.args.added.now.items ++ place ∷ [] = rw done at c.push.ensures.items in
    λ items first h. subst (λ (ps : List PlaceState). Adds g.P.PagePool (items ++ items-new) ps first c.add_page.new.pages) (sym pushed)
    (adds_both g.P.PagePool items items-new c.args.added.now.items (place ∷ []) first c.args.pages.now c.add_page.new.pages h c.in_ok-place.ensures.added)

pub returns-in_err-place-clause-pool : goal.returns-in_err-place-clause-pool
returns-in_err-place-clause-pool g c =
    let is : c.from_residual.result ≡ Err c.in_err-place.field-0.0 = search rules in
    let taken : ℕ = 1 + overflow_of (between c.args.range.from c.args.range.to c.args.range.entries.now) in
    spends_failed g.P.PagePool taken taken c.in_err-place.field-0.0 c.from_residual.result c.args.pages.now c.add_page.new.pages is (omega arith) c.in_err-place.ensures.pool

pub returns-clause-pool : goal.returns-clause-pool
returns-clause-pool g c =
    spends_ok g.P.PagePool (1 + overflow_of (between c.args.range.from c.args.range.to c.args.range.entries.now)) c.in_ok-place.place tt c.args.pages.now c.add_page.new.pages c.in_ok-place.ensures.pool
