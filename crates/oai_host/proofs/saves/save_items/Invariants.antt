-- the first items were handed over, and those that stand behind the last one of them are the others
use Rattle.std.proofs.Common.{◌≡◌, ◌≤◌, ◌-◌, ◌<◌, IsTrue, drop, map, take}
use Rattle.oai_holdings.specs.Index.{stored_items}
use Rattle.oai_holdings.specs.Saved.{items_behind}
use Rattle.oai_repo.specs.Saved.{has_item}
use Rattle.oai_host.specs.Saving.{TakesParts}
use Rattle.oai_host.proofs.saves.save_items.Given as goal

abbrev pub invariant-loop-start : goal.invariant-loop-start
invariant-loop-start g l =
    let V = g.V.Versions in
    let items = stored_items l.repo.index (V.lists l.fn.store) in
    record {
      most : l.most ≡ l.repo.config.items;
      start : l.start ≤ l.most;
      same : V.lists l.store ≡ V.lists l.fn.store;
      honesty : V.honest l.store ≡ V.honest l.fn.store;
      taken : IsTrue (V.honest l.fn.store) → TakesParts g.S.Sink.has l.name l.repo.clock (map has_item (take l.start items)) l.fn.sink l.sink;
      behind : IsTrue (V.honest l.fn.store) → l.start < l.most → items_behind l.last items ≡ drop l.start items;
    }

abbrev pub decreases-loop-start : goal.decreases-loop-start
decreases-loop-start g l = l.most - l.start
