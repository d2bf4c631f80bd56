-- What was read is what goes.
use Rattle.std.proofs.Common.{◌≡◌, ◌∙◌, Bool, List, IsTrue, ap, subst, FitsSigned, w64}
use Rattle.std.proofs.lemmas.Int.{to_z-of_z}
use Rattle.oai_catalogue.specs.Store.{VersionLists, without_each}
use Rattle.oai_item.specs.Item.{ItemState}
use Rattle.oai_holdings.specs.Changes.{purged}
use Rattle.oai_holdings.specs.Index.{stored_items}
use Rattle.oai_holdings.specs.Indexing.{IsMadeOn}
use Rattle.oai_holdings.proofs.PurgeLemmas.{IsPurge, purge_left}
use Rattle.oai_holdings.proofs.IndexLemmas.{on_ok}
use Rattle.oai_holdings.proofs.item_index.ItemIndex.purge.Goals as goal

pub remove_each-requires-clause-taken : goal.remove_each-requires-clause-taken
remove_each-requires-clause-taken g c = λ honest.
    let V = g.V.Versions in
    let fits : FitsSigned w64 c.args.limit = c.ranges.limit in
    let index = c.args.self.now in
    let items : List ItemState = stored_items index (V.lists c.args.store.now) in
    let was : IsTrue (V.honest c.args.store.now) = subst (λ (b : Bool). IsTrue b) c.in_ok-gone.ensures.reads.store.honesty.same honest in
    let is : IsPurge c.args.limit index.entries items c.in_ok-gone.gone.items = rw (c.version.ensures, c.len.ensures) at (simp to_z-of_z at (c.in_ok-gone.ensures.deleted was)) in
    let left = purge_left c.args.limit index.entries items c.in_ok-gone.gone.items (c.requires.stands.agrees was) (c.requires.core was) (c.requires.dated was) is in
    rw (c.as_slice.ensures.value, c.in_ok-gone.ensures.reads.same) left.0

pub returns-clause-made : goal.returns-clause-made
returns-clause-made g c =
    let V = g.V.Versions in
    let fits : FitsSigned w64 c.args.limit = c.ranges.limit in
    let index = c.args.self.now in
    let new = c.remove_each.new.self in
    let gone : List ItemState = c.in_ok-gone.gone.items in
    let items : List ItemState = stored_items index (V.lists c.args.store.now) in
    let same : V.lists c.deleted_below.new.store ≡ V.lists c.args.store.now = c.in_ok-gone.ensures.reads.same in
    let value : c.as_slice.result.now ≡ gone = c.as_slice.ensures.value in
    let from : IsMadeOn V (without_each c.as_slice.result.now) index c.deleted_below.new.store new c.remove_each.new.store
    → IsMadeOn V (purged c.args.limit) index c.args.store.now new c.remove_each.new.store = λ made.
    let purge : IsTrue (V.honest c.args.store.now) → stored_items new (V.lists c.remove_each.new.store) ≡ purged c.args.limit items = λ honest.
    let is : IsPurge c.args.limit index.entries items gone = rw (c.version.ensures, c.len.ensures) at (simp to_z-of_z at (c.in_ok-gone.ensures.deleted honest)) in
    made.list (c.in_ok-gone.ensures.reads.store.honesty.same ∙ honest)
    ∙ ap (λ (xs : List ItemState). without_each xs (stored_items index (V.lists c.deleted_below.new.store))) value
    ∙ ap (λ (lists : VersionLists). without_each gone (stored_items index lists)) same
    ∙ (purge_left c.args.limit index.entries items gone (c.requires.stands.agrees honest) (c.requires.core honest) (c.requires.dated honest) is).1
    in
    record { list = purge; agrees = λ honest. made.agrees (c.in_ok-gone.ensures.reads.store.honesty.same ∙ honest) }
    in
    on_ok c.remove_each.result _ _ from c.remove_each.ensures.made
