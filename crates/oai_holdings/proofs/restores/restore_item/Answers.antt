-- The items are as the repository keeps them, whether one more was put among them or not.
use Rattle.std.proofs.Common.{◌≡◌, ◌∙◌, true, length, ap, sym}
use Rattle.oai_holdings.specs.Saved.{may_have_item}
use Rattle.oai_holdings.proofs.IndexLemmas.{on_ok}
use Rattle.oai_holdings.proofs.RestoreLemmas.{item_indexed}
use Rattle.oai_holdings.proofs.restores.restore_item.Goals as goal

pub returns-clause-indexed : goal.returns-clause-indexed
returns-clause-indexed g c = λ honest.
    let config = c.args.config.now in
    let sets = c.args.sets.now in
    let item = c.args.item.now in
    let old = c.args.index.now in
    let may : may_have_item config sets (length old.entries) item ≡ true =
    ap (λ n. may_have_item config sets n item) (sym c.len.ensures) ∙ sym c.in_ok-may_have_item.ensures.may ∙ c.if-not-branch.false in
    item_indexed config sets item c.put.result old c.put.new.self (g.V.Versions.lists c.args.store.now) (g.V.Versions.lists c.put.new.store)
    may c.may_have_item.ensures.stamped (c.requires.held.indexed honest)
    (on_ok c.put.result _ _ (λ made. made.list honest) c.put.ensures.made) (on_ok c.put.result _ _ (λ made. made.agrees honest) c.put.ensures.made)
    c.put.ensures.moves.err c.put.ensures.moves.err_lists
