-- The items are as the repository keeps them, whether one was taken out or not.
use Rattle.std.proofs.Common.{Bool, IsTrue, sym, subst}
use Rattle.oai_catalogue.specs.Store.{VersionLists}
use Rattle.oai_holdings.specs.Index.{IsIndexed}
use Rattle.oai_holdings.proofs.GoneLemmas.{gone_indexed}
use Rattle.oai_holdings.proofs.IndexLemmas.{on_ok}
use Rattle.oai_holdings.proofs.gone.restore_gone.Goals as goal

pub returns-in-Some-clause-indexed : goal.returns-in-Some-clause-indexed
returns-in-Some-clause-indexed g c = λ config sets honest held.
    let index = c.args.index.now in
    let between = g.V.Versions.lists c.find.new.store in
    let still : IsTrue (g.V.Versions.honest c.find.new.store) = subst (λ (b : Bool). IsTrue b) (sym c.find.ensures.reads.store.honesty.same) honest in
    let held_still : IsIndexed config index sets between = subst (λ (lists : VersionLists). IsIndexed config index sets lists) (sym c.find.ensures.reads.same) held in
    gone_indexed config sets c.in-Some.item.identifier c.remove.result index c.remove.new.self between (g.V.Versions.lists c.remove.new.store) held_still
    (on_ok c.remove.result _ _ (λ made. made.list still) c.remove.ensures.made) (on_ok c.remove.result _ _ (λ made. made.agrees still) c.remove.ensures.made)
    c.remove.ensures.moves.err c.remove.ensures.moves.err_lists
