use Rattle.std.proofs.Common.{◌≡◌, ◌≤◌, ◌+◌, length}
use Rattle.std.specs.Vec.Iter.{into_iter_items}
use Rattle.oai_config.specs.Configs.{AreNamed, repository_names}
use Rattle.oai_host.specs.NamedRepos.{AreNamedRepos, repositories_of}
use Rattle.oai_host.proofs.HostLemmas.{AreBegun}
use Rattle.oai_host.proofs.host.Host.new.Given as goal

-- some repositories have begun, and the others are left
abbrev pub invariant-loop-entry : goal.invariant-loop-entry
invariant-loop-entry g l =
    let V = g.V.Versions in
    record {
      begun : AreBegun l.fn.config.repositories (into_iter_items l.entry-iterator) (repositories_of l.repositories (V.lists l.store));
      repos : AreNamedRepos (V.honest l.store) l.repositories (V.lists l.store);
      room : V.room l.fn.store + length (into_iter_items l.entry-iterator) ≤ V.room l.store + length l.fn.config.repositories;
      count : V.failures l.fn.store ≤ V.failures l.store;
      honesty : V.honest l.store ≡ V.honest l.fn.store;
      named : AreNamed (repository_names l.fn.config.repositories);
    }
