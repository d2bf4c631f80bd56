-- An exchange is done by the repository at the place, which says what is to be performed again; or it is no repository's.
use Rattle.std.proofs.Common.{Bool, FitsSigned, ap₂, refl, subst, sym, w64}
use Rattle.std.proofs.lemmas.Int.{to_z-of_z}
use Rattle.std.specs.Option.{option_copied}
use Rattle.std.specs.Prelude.{None}
use Rattle.oai_host.specs.HostSnapshots.{HoldsSnapshots, parts_left_in}
use Rattle.oai_host.specs.Hosts.{HostState}
use Rattle.oai_host.specs.NamedRepos.{AreNamedRepos, repositories_of}
use Rattle.oai_host.specs.Props.{named_repo_props, snapshot_props}
use Rattle.oai_host.specs.Redone.{IsRecorded}
use Rattle.oai_http.specs.Exchanges.{call_of}
use Rattle.oai_host.proofs.AgainLemmas.{left_performed, performed_name, performed_size}
use Rattle.oai_host.proofs.HostLemmas.{exchanged_nowhere, owned_there}
use Rattle.oai_host.proofs.HostSnapshotLemmas.{snapshots_changed}
use Rattle.oai_host.proofs.host.Host.exchange_recorded.Goals as goal

-- that repositories stand apart, and that snapshots hold, is one fact each, so a host that has not changed is the one that it was
pub same-self : goal.same-self
same-self g c =
    let V = g.V.Versions in
    let host = c.self.inside in
    let Stand : Type 0 = AreNamedRepos (V.honest host.store) host.repositories (V.lists host.store) in
    let Hold : Type 0 = HoldsSnapshots (V.honest host.store) host.repositories host.snapshots (V.lists host.store) in
    let one : IsProp Stand = hlevel named_repo_props in
    let other : IsProp Hold = hlevel snapshot_props in
    ap₂ (λ (stand : Stand) (hold : Hold). record { alloc = host.alloc; routes = host.routes; repositories = host.repositories; store = host.store; snapshots = host.snapshots; repos = stand; left = hold })
    (one _ host.repos) (other _ host.left)

pub find-requires : goal.find-requires
find-requires g c = c.self.inside.repos.named.named

pub invariant_of-self-inside : goal.invariant_of-self-inside
invariant_of-self-inside g c =
    let V = g.V.Versions in
    let host = c.self.inside in
    let store = c.exchange_at-answer.new.store in
    let held = (snapshots_changed (V.honest host.store) c.in-Some.place host.repositories c.exchange_at-answer.new.self host.snapshots (V.lists host.store) (V.lists store) c.exchange_at-answer.ensures.changed host.left).0 in
    (c.exchange_at-answer.ensures.repos, (subst (λ (b : Bool). HoldsSnapshots b c.exchange_at-answer.new.self host.snapshots (V.lists store)) (sym c.exchange_at-answer.ensures.faults.honesty.same) held, tt))

pub returns-in-Some : goal.returns-in-Some
returns-in-Some g c =
    let V = g.V.Versions in
    let fits : FitsSigned w64 c.args.moment = c.ranges.moment in
    let host = c.self.inside in
    let store = c.exchange_at-answer.new.store in
    let call = call_of c.args.moment c.args.exchange.now in
    let found = c.in-Some.ensures in
    let bytes = option_copied c.exchange_at-answer.result.bytes in
    let after : HostState = record { repositories = repositories_of c.exchange_at-answer.new.self (V.lists store); honest = V.honest store; failures = V.failures store; room = V.room store; unsaved = parts_left_in c.exchange_at-answer.new.self (V.lists store) host.snapshots } in
    let done = simp to_z-of_z at c.exchange_at-answer.ensures in
    subst (λ (h : HostState). IsRecorded c.args.moment c.args.exchange.now c.exchange_at-answer.result.answer c.performed_at-performed.result h after) c.self.view_is (record {
      exchanged = record {
        each = done.steps;
        unsaved = (snapshots_changed (V.honest host.store) c.in-Some.place host.repositories c.exchange_at-answer.new.self host.snapshots (V.lists host.store) (V.lists store) c.exchange_at-answer.ensures.changed host.left).1;
        none = λ none. owned_there host.repositories c.in-Some.place c.in-Some.endpoint (V.lists host.store) call found.place none;
        device = done.faults.device;
        honesty = done.faults.honesty;
      };
      left = λ honest. left_performed c.args.moment c.in-Some.endpoint c.in-Some.name.now bytes c.performed_at-performed.result (repositories_of host.repositories (V.lists host.store)) after.repositories c.performed_at-performed.ensures
          (done.left c.in-Some.name.now found.path honest);
      name = performed_name c.in-Some.endpoint c.in-Some.name.now bytes c.performed_at-performed.result c.performed_at-performed.ensures found.name;
      size = performed_size c.args.exchange.now c.in-Some.endpoint c.in-Some.name.now bytes c.performed_at-performed.result c.performed_at-performed.ensures done.size;
    })

pub returns-in-None : goal.returns-in-None
returns-in-None g c =
    let V = g.V.Versions in
    let host = c.self.inside in
    let answer = rw c.status_of.ensures at c.of_status.ensures in
    subst (λ (h : HostState). IsRecorded c.args.moment c.args.exchange.now c.of_status.result None h h) c.self.view_is (record {
      exchanged = exchanged_nowhere host.repositories (V.lists host.store) _ (call_of c.args.moment c.args.exchange.now) c.of_status.result refl c.in-None.ensures.nowhere answer;
      left = λ honest. refl;
      name = tt;
      size = tt;
    })
