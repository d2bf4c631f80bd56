use Rattle.std.proofs.Common.{◌≡◌, ◌+◌, ◌≤◌, take, IsTrue}
use Rattle.oai_catalogue.specs.Store.{ChangesOnly, list_at, without_each}
use Rattle.oai_catalogue.proofs.removals.take_out_each.Given as goal

-- those so far are taken out, and no other list has changed
abbrev pub invariant-loop-item : goal.invariant-loop-item
invariant-loop-item g l =
    let V = g.V.Versions in
    record {
      others : ChangesOnly l.v (V.lists l.initial.store) (V.lists l.store);
      list : IsTrue (V.honest l.initial.store) → list_at (V.lists l.store) l.v ≡ without_each (take l.item-index l.gone) (list_at (V.lists l.initial.store) l.v);
      count : V.failures l.initial.store ≤ V.failures l.store;
      room : V.room l.initial.store ≤ V.room l.store + l.item-index;
      honesty : V.honest l.store ≡ V.honest l.initial.store;
    }
