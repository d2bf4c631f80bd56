-- What the snapshots handed out is what the sink took, and no repository loses a list.
use Rattle.std.proofs.Common.{◌≡◌, ◌∙◌, [], IfOk, IsTrue, ap, false, not, subst, sym}
use Rattle.std.specs.Prelude.{is_none, slice_get}
use Rattle.oai_holdings.proofs.IndexLemmas.{if_ok}
use Rattle.oai_host.specs.Hosts.{HostState}
use Rattle.oai_host.specs.HostSnapshots.{parts_left_in}
use Rattle.oai_replay.specs.Parts.{SavesMore}
use Rattle.oai_host.specs.Unsaved.{AreSavedBy}
use Rattle.oai_host.proofs.HostSnapshotLemmas.{none_saved, repos_beside, saved_some}
use Rattle.oai_host.proofs.RestoreLemmas.{if_both}
use Rattle.oai_host.proofs.host.Host.save_next.Goals as goal

pub invariant_of-self-inside : goal.invariant_of-self-inside
invariant_of-self-inside g c =
    let V = g.V.Versions in
    let host = c.self.inside in
    let store = c.save_next.new.store in
    let leaves = rw c.as_slice-repos.ensures at c.save_next.ensures.leaves in
    let kept = repos_beside (V.honest host.store) (V.honest store) host.repositories host.snapshots c.save_next.new.self (V.lists host.store) (V.lists store) c.save_next.ensures.honesty host.left leaves host.repos in
    (kept.0, (kept.1.0, tt))

pub returns-clause-saved : goal.returns-clause-saved
returns-clause-saved g c =
    let V = g.V.Versions in
    let has = g.S.Sink.has in
    let host = c.self.inside in
    let store = c.save_next.new.store in
    let saved = rw c.as_slice-repos.ensures at c.save_next.ensures.saved in
    let new = parts_left_in host.repositories (V.lists store) c.save_next.new.self in
    subst (λ (h : HostState). IfOk c.save_next.result (λ more. IsTrue h.honest → SavesMore has (AreSavedBy h.unsaved) c.args.sink.now (AreSavedBy new) c.save_next.new.sink)) c.self.view_is
    (if_ok c.save_next.result _ _
    (λ more some honest. saved_some has host.repositories host.snapshots (V.lists host.store) c.args.sink.now c.save_next.new.self (V.lists store) c.save_next.new.sink (some honest)) saved)

pub returns-clause-all : goal.returns-clause-all
returns-clause-all g c =
    let V = g.V.Versions in
    let has = g.S.Sink.has in
    let host = c.self.inside in
    let store = c.save_next.new.store in
    let saved = rw c.as_slice-repos.ensures at c.save_next.ensures.saved in
    let new = parts_left_in host.repositories (V.lists store) c.save_next.new.self in
    subst (λ (h : HostState). IfOk c.save_next.result (λ more. more ≡ false → IsTrue h.honest → new ≡ [])) c.self.view_is
    (if_both _ _ _ c.save_next.result
    (λ more some (end : not more ≡ is_none (slice_get host.snapshots 0)) last honest. none_saved has host.repositories host.snapshots (V.lists host.store) c.args.sink.now c.save_next.new.self (V.lists store) c.save_next.new.sink (some honest) (sym end ∙ ap not last))
    saved c.save_next.ensures.end)

pub returns-clause-same : goal.returns-clause-same
returns-clause-same g c =
    let V = g.V.Versions in
    let host = c.self.inside in
    let store = c.save_next.new.store in
    let leaves = rw c.as_slice-repos.ensures at c.save_next.ensures.leaves in
    (repos_beside (V.honest host.store) (V.honest store) host.repositories host.snapshots c.save_next.new.self (V.lists host.store) (V.lists store) c.save_next.ensures.honesty host.left leaves host.repos).1.1
    ∙ ap (λ (h : HostState). h.repositories) c.self.view_is
