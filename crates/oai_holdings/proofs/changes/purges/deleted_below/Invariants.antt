use Rattle.std.proofs.Common.{◌≡◌, ◌<◌, ◌≤◌, ◌-◌, length, take, drop, IsTrue}
use Rattle.std.specs.Prelude.{filter}
use Rattle.oai_item.specs.Selection.{selected}
use Rattle.oai_catalogue.specs.Store.{list_at}
use Rattle.oai_holdings.specs.Missing.{items_past}
use Rattle.oai_holdings.specs.Purges.{below, is_deleted}
use Rattle.oai_holdings.proofs.changes.purges.deleted_below.Given as goal

-- the deleted ones of those that were read
abbrev pub invariant-loop-start : goal.invariant-loop-start
invariant-loop-start g l =
    let V = g.V.Versions in
    record {
      read : IsTrue (V.honest l.initial.store) → l.gone.items ≡ filter is_deleted (take l.start (selected (below l.limit) (list_at (V.lists l.initial.store) l.v)));
      behind : IsTrue (V.honest l.initial.store) → l.start < l.most → items_past l.behind (selected (below l.limit) (list_at (V.lists l.initial.store) l.v)) ≡ drop l.start (selected (below l.limit) (list_at (V.lists l.initial.store) l.v));
      few : length l.gone.items ≤ l.start;
      within : l.start ≤ l.most;
      same : V.lists l.store ≡ V.lists l.initial.store;
      room : V.room l.initial.store ≤ V.room l.store;
      count : V.failures l.initial.store ≤ V.failures l.store;
      honesty : V.honest l.store ≡ V.honest l.initial.store;
    }

abbrev pub decreases-loop-start : goal.decreases-loop-start
decreases-loop-start g l = l.most - l.start
