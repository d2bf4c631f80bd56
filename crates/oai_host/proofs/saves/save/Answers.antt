-- It begins, then its sets, then its items.
use Rattle.std.proofs.Common.{◌≡◌, ◌∙◌, ◌+◌, ℕ, IsTrue, List, [], ◌∷◌, OnOk, map, subst}
use Rattle.oai_holdings.specs.Index.{stored_items}
use Rattle.oai_repo.specs.Saved.{has_clock, has_item, has_named_set}
use Rattle.oai_host.specs.Saving.{TakesParts}
use Rattle.oai_host.proofs.SavedLemmas.{parts_all}
use Rattle.oai_host.proofs.saves.save.Goals as goal

pub returns-clause-saved : goal.returns-clause-saved
returns-clause-saved g c =
    let V = g.V.Versions in
    let one = c.args.one.now in
    let repo = one.repo in
    let name : c.as_bytes-name.result.now ≡ one.name = c.as_bytes-name.ensures.value ∙ c.as_str.ensures in
    parts_all g.S.Sink.has one.name repo.clock (has_clock repo.clock (repo.table.next + c.args.raise)) (map has_named_set repo.sets) (map has_item (stored_items repo.index (V.lists c.args.store.now)))
    (IsTrue (V.honest c.args.store.now)) c.save_items.result c.args.sink.now c.save_beginning.new.sink c.save_sets.new.sink c.save_items.new.sink
    (subst (λ (n : List ℕ). TakesParts g.S.Sink.has n repo.clock (has_clock repo.clock (repo.table.next + c.args.raise) ∷ []) c.args.sink.now c.save_beginning.new.sink) name c.in_ok-save_beginning.ensures)
    (subst (λ (n : List ℕ). TakesParts g.S.Sink.has n repo.clock (map has_named_set repo.sets) c.save_beginning.new.sink c.save_sets.new.sink) name c.in_ok-save_sets.ensures)
    (subst (λ (n : List ℕ). OnOk c.save_items.result (IsTrue (V.honest c.args.store.now) → TakesParts g.S.Sink.has n repo.clock (map has_item (stored_items repo.index (V.lists c.args.store.now))) c.save_sets.new.sink c.save_items.new.sink)) name
    c.save_items.ensures.saved)
