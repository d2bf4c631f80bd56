-- The snapshots have all parts of the repositories, and no repository loses a list.
use Rattle.std.proofs.Common.{◌∙◌, Bool, IsTrue, List, [], ap, subst, sym}
use Rattle.oai_host.specs.Hosts.{HostState, Repository}
use Rattle.oai_host.specs.HostSnapshots.{parts_left_in}
use Rattle.oai_host.specs.Unsaved.{AreSavedBy}
use Rattle.oai_host.proofs.HostSnapshotLemmas.{holds_none, leaves_taken, repos_beside, saved_taken}
use Rattle.oai_host.proofs.host.Host.begin_saving.Goals as goal

pub invariant_of-self-inside : goal.invariant_of-self-inside
invariant_of-self-inside g c =
    let V = g.V.Versions in
    let host = c.self.inside in
    let store = c.take.new.store in
    let taken = rw c.as_slice-repos.ensures at c.in-Ok.ensures.taken in
    let holds = rw c.as_slice-repos.ensures at c.in-Ok.ensures.holds in
    let leaves = leaves_taken (V.honest host.store) host.repositories (V.lists host.store) c.in-Ok.snapshots (V.lists store) holds taken in
    let kept = repos_beside (V.honest host.store) (V.honest store) host.repositories [] c.in-Ok.snapshots (V.lists host.store) (V.lists store) c.take.ensures.store.honesty.same
    (holds_none (V.honest host.store) host.repositories (V.lists host.store)) leaves host.repos in
    (kept.0, (kept.1.0, tt))

pub returns-in-Ok-clause-begun : goal.returns-in-Ok-clause-begun
returns-in-Ok-clause-begun g c = λ honest.
    let V = g.V.Versions in
    let host = c.self.inside in
    let store = c.take.new.store in
    let taken = rw c.as_slice-repos.ensures at c.in-Ok.ensures.taken in
    let sure : IsTrue (V.honest host.store) = subst (λ (b : Bool). IsTrue b) (sym (ap (λ (h : HostState). h.honest) c.self.view_is ∙ c.stop_saving.ensures.honesty)) honest in
    subst (λ (rs : List Repository). AreSavedBy (parts_left_in host.repositories (V.lists store) c.in-Ok.snapshots) rs []) (ap (λ (h : HostState). h.repositories) c.self.view_is ∙ c.stop_saving.ensures.same)
    (saved_taken (V.honest host.store) host.repositories (V.lists host.store) c.in-Ok.snapshots (V.lists store) sure (g.met.V.Versions.rising host.store) host.repos taken)

pub returns-in-Ok-clause-same : goal.returns-in-Ok-clause-same
returns-in-Ok-clause-same g c =
    let V = g.V.Versions in
    let host = c.self.inside in
    let store = c.take.new.store in
    let taken = rw c.as_slice-repos.ensures at c.in-Ok.ensures.taken in
    let holds = rw c.as_slice-repos.ensures at c.in-Ok.ensures.holds in
    let leaves = leaves_taken (V.honest host.store) host.repositories (V.lists host.store) c.in-Ok.snapshots (V.lists store) holds taken in
    (repos_beside (V.honest host.store) (V.honest store) host.repositories [] c.in-Ok.snapshots (V.lists host.store) (V.lists store) c.take.ensures.store.honesty.same
    (holds_none (V.honest host.store) host.repositories (V.lists host.store)) leaves host.repos).1.1
    ∙ ap (λ (h : HostState). h.repositories) c.self.view_is ∙ c.stop_saving.ensures.same
