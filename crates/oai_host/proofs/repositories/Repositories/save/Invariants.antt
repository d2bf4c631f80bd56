-- the parts of the first repositories were handed over
use Rattle.std.proofs.Common.{◌≡◌, IsTrue, take}
use Rattle.oai_host.specs.NamedRepos.{repositories_of}
use Rattle.oai_host.specs.Saving.{TakesAll}
use Rattle.oai_host.proofs.repositories.Repositories.save.Given as goal

abbrev pub invariant-loop-one : goal.invariant-loop-one
invariant-loop-one g l =
    let V = g.V.Versions in
    record {
      items : l.one-items ≡ l.self;
      same : V.lists l.store ≡ V.lists l.fn.store;
      honesty : V.honest l.store ≡ V.honest l.fn.store;
      saved : IsTrue (V.honest l.fn.store) → TakesAll g.S.Sink.has l.raise (repositories_of (take l.one-index l.self) (V.lists l.fn.store)) l.fn.sink l.sink;
    }
