-- What was performed is performed again by the repository of its name; or there is none.
use Rattle.std.proofs.Common.{◌∙◌, Bool, FitsSigned, ap₂, inl, inr, refl, subst, sym, w64}
use Rattle.std.proofs.lemmas.Int.{to_z-of_z}
use Rattle.std.specs.Prelude.{Err}
use Rattle.oai_item.specs.declared.faults.Fault.TheVariants.{Damaged}
use Rattle.oai_replay.specs.Redone.{call_again}
use Rattle.oai_host.specs.HostSnapshots.{HoldsSnapshots, parts_left_in}
use Rattle.oai_host.specs.Hosts.{HostState}
use Rattle.oai_host.specs.NamedRepos.{AreNamedRepos, repositories_of}
use Rattle.oai_host.specs.Props.{named_repo_props, snapshot_props}
use Rattle.oai_host.specs.Redone.{IsRedone}
use Rattle.oai_host.proofs.AgainLemmas.{again_place, lacks_name}
use Rattle.oai_host.proofs.HostLemmas.{owned_there}
use Rattle.oai_host.proofs.HostSnapshotLemmas.{snapshots_changed}
use Rattle.oai_host.proofs.host.Host.redo.Goals as goal

-- that repositories stand apart, and that snapshots hold, is one fact each, so a host that has not changed is the one that it was
pub same-self : goal.same-self
same-self g c =
    let V = g.V.Versions in
    let host = c.self.inside in
    let Stand : Type 0 = AreNamedRepos (V.honest host.store) host.repositories (V.lists host.store) in
    let Hold : Type 0 = HoldsSnapshots (V.honest host.store) host.repositories host.snapshots (V.lists host.store) in
    let one : IsProp Stand = hlevel named_repo_props in
    let other : IsProp Hold = hlevel snapshot_props in
    ap₂ (λ (stand : Stand) (hold : Hold). record { alloc = host.alloc; routes = host.routes; repositories = host.repositories; store = host.store; snapshots = host.snapshots; repos = stand; left = hold })
    (one _ host.repos) (other _ host.left)

pub place_named-requires : goal.place_named-requires
place_named-requires g c = c.self.inside.repos.named.named

pub invariant_of-self-inside : goal.invariant_of-self-inside
invariant_of-self-inside g c =
    let V = g.V.Versions in
    let host = c.self.inside in
    let store = c.redo.new.store in
    let held = (snapshots_changed (V.honest host.store) c.in-Some.place host.repositories c.redo.new.self host.snapshots (V.lists host.store) (V.lists store) c.redo.ensures.changed host.left).0 in
    (c.redo.ensures.repos, (subst (λ (b : Bool). HoldsSnapshots b c.redo.new.self host.snapshots (V.lists store)) (sym c.redo.ensures.steps.4.same) held, tt))

pub returns-in-Some : goal.returns-in-Some
returns-in-Some g c =
    let V = g.V.Versions in
    let fits : FitsSigned w64 c.args.moment = c.ranges.moment in
    let host = c.self.inside in
    let store = c.redo.new.store in
    let call = call_again c.args.moment c.args.performed.now in
    let found = sym c.place_named.ensures ∙ c.in-Some.is in
    let place = again_place c.args.moment c.args.performed.now host.repositories c.in-Some.place found host.repos.named.named in
    let after : HostState = record { repositories = repositories_of c.redo.new.self (V.lists store); honest = V.honest store; failures = V.failures store; room = V.room store; unsaved = parts_left_in c.redo.new.self (V.lists store) host.snapshots } in
    let redone = simp to_z-of_z at c.redo.ensures.steps in
    subst (λ (h : HostState). IsRedone c.args.moment c.args.performed.now c.redo.result h after) c.self.view_is (inl (
      redone.0,
      redone.1,
      record {
        each = redone.2;
        unsaved = (snapshots_changed (V.honest host.store) c.in-Some.place host.repositories c.redo.new.self host.snapshots (V.lists host.store) (V.lists store) c.redo.ensures.changed host.left).1;
        none = λ none. owned_there host.repositories c.in-Some.place c.args.performed.now.endpoint (V.lists host.store) call place none;
        device = redone.3;
        honesty = redone.4;
      },
    ))

pub returns-in-None : goal.returns-in-None
returns-in-None g c =
    let V = g.V.Versions in
    let host = c.self.inside in
    subst (λ (h : HostState). IsRedone c.args.moment c.args.performed.now (Err Damaged) h h) c.self.view_is
    (inr (lacks_name host.repositories (V.lists host.store) c.args.performed.now.name.now (sym c.place_named.ensures ∙ c.in-None.is), refl, refl))
