-- The new repository stands under a number of its own.
use Rattle.oai_host.proofs.NamedRepoLemmas.{begun_last, repos_last}
use Rattle.oai_host.proofs.repositories.Repositories.begin.Goals as goal

pub returns-clause-begun : goal.returns-clause-begun
returns-clause-begun g c =
    let V = g.V.Versions in
    let entry = c.entry.inside in
    rw (c.in_ok-add.ensures.ok, ← c.entry.view_is)
    (begun_last (V.honest c.args.store.now) c.args.self.now (record { name = entry.name; config = entry.config }) c.in_ok-repo.repo (V.lists c.args.store.now) (V.lists c.new.new.store) c.requires.repos c.in_ok-repo.ensures.new)

pub returns-clause-repos : goal.returns-clause-repos
returns-clause-repos g c =
    let V = g.V.Versions in
    let entry = c.entry.inside in
    let named = rw (← c.entry.view_is) at c.requires.named in
    let unused = rw (← c.entry.view_is) at c.requires.unused in
    rw c.in_ok-add.ensures.ok
    (repos_last (V.honest c.args.store.now) (V.honest c.new.new.store) c.args.self.now entry.name entry.config c.in_ok-repo.repo (V.lists c.args.store.now) (V.lists c.new.new.store) c.in_ok-repo.ensures.store.honesty.same c.requires.repos named unused
    c.in_ok-repo.ensures.new)
