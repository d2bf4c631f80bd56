-- A checkpoint that is written is given up; then the repository of the name restores the part, or there is none.
use Rattle.std.proofs.Common.{◌≡◌, ◌∙◌, Bool, IsTrue, List, OnErr, OnOk, ap, subst, sym}
use Rattle.oai_replay.specs.Parts.{as_part}
use Rattle.oai_host.specs.Hosts.{HostState, Repository}
use Rattle.oai_host.specs.NamedRepos.{repositories_of}
use Rattle.oai_host.specs.Saved.{restored_in}
use Rattle.oai_host.proofs.HostSnapshotLemmas.{holds_none, none_left_in, repos_released}
use Rattle.oai_host.proofs.RestoreLemmas.{on_err, on_ok}
use Rattle.oai_host.proofs.host.Host.restore.Goals as goal

pub place_named-requires : goal.place_named-requires
place_named-requires g c = c.self.inside.repos.named.named

pub restore-requires-clause-repos : goal.restore-requires-clause-repos
restore-requires-clause-repos g c =
    let V = g.V.Versions in
    let host = c.self.inside in
    let store = c.release.new.store in
    (repos_released (V.honest host.store) (V.honest store) host.repositories host.snapshots c.release.new.self (V.lists host.store) (V.lists store) c.release.ensures.store.honesty host.left c.release.ensures.none c.release.ensures.released host.repos).0

pub invariant_of-self-inside : goal.invariant_of-self-inside
invariant_of-self-inside g c =
    let V = g.V.Versions in
    let store = c.restore.new.store in
    (c.restore.ensures.repos, (rw c.release.ensures.none (holds_none (V.honest store) c.restore.new.self (V.lists store)), tt))

pub invariant_of-self-inside-in-None : goal.invariant_of-self-inside-in-None
invariant_of-self-inside-in-None g c =
    let V = g.V.Versions in
    let host = c.self.inside in
    let store = c.release.new.store in
    let kept = repos_released (V.honest host.store) (V.honest store) host.repositories host.snapshots c.release.new.self (V.lists host.store) (V.lists store) c.release.ensures.store.honesty host.left c.release.ensures.none c.release.ensures.released host.repos in
    (kept.0, (kept.1.0, tt))

pub returns-in-Some-clause-restored : goal.returns-in-Some-clause-restored
returns-in-Some-clause-restored g c =
    let V = g.V.Versions in
    let host = c.self.inside in
    let store = c.release.new.store in
    let kept = repos_released (V.honest host.store) (V.honest store) host.repositories host.snapshots c.release.new.self (V.lists host.store) (V.lists store) c.release.ensures.store.honesty host.left c.release.ensures.none c.release.ensures.released host.repos in
    let new : List Repository = repositories_of c.restore.new.self (V.lists c.restore.new.store) in
    let part = as_part c.args.part.now in
    subst (λ (h : HostState). OnOk c.restore.result (IsTrue h.honest → new ≡ restored_in h.repositories part)) c.self.view_is
    (on_ok _ _ c.restore.result
    (λ (restored : IsTrue (V.honest store) → new ≡ restored_in (repositories_of host.repositories (V.lists store)) part) honest.
    restored (subst (λ (b : Bool). IsTrue b) (sym c.release.ensures.store.honesty) honest) ∙ ap (λ (rs : List Repository). restored_in rs part) kept.1.1) c.restore.ensures.restored)

pub returns-in-Some-clause-err : goal.returns-in-Some-clause-err
returns-in-Some-clause-err g c =
    let V = g.V.Versions in
    let host = c.self.inside in
    let store = c.release.new.store in
    let kept = repos_released (V.honest host.store) (V.honest store) host.repositories host.snapshots c.release.new.self (V.lists host.store) (V.lists store) c.release.ensures.store.honesty host.left c.release.ensures.none c.release.ensures.released host.repos in
    let new : List Repository = repositories_of c.restore.new.self (V.lists c.restore.new.store) in
    subst (λ (h : HostState). OnErr c.restore.result (new ≡ h.repositories)) c.self.view_is
    (on_err _ _ c.restore.result (λ (same : new ≡ repositories_of host.repositories (V.lists store)). same ∙ kept.1.1) c.restore.ensures.err)

pub returns-in-None-clause-err : goal.returns-in-None-clause-err
returns-in-None-clause-err g c =
    let V = g.V.Versions in
    let host = c.self.inside in
    let store = c.release.new.store in
    (repos_released (V.honest host.store) (V.honest store) host.repositories host.snapshots c.release.new.self (V.lists host.store) (V.lists store) c.release.ensures.store.honesty host.left c.release.ensures.none c.release.ensures.released host.repos).1.1
    ∙ ap (λ (h : HostState). h.repositories) c.self.view_is

pub returns-in-Some-clause-unsaved : goal.returns-in-Some-clause-unsaved
returns-in-Some-clause-unsaved g c =
    let V = g.V.Versions in
    rw c.release.ensures.none (none_left_in c.restore.new.self (V.lists c.restore.new.store))
