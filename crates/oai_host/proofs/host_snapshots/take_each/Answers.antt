-- Each turn takes one more.
use Rattle.std.proofs.Common.{◌≡◌, ◌+◌, [], ◌∷◌, ◌++◌, Bool, Err, List, Ok, Result, arith, length, refl, rules, subst, sym, take}
use Rattle.std.proofs.SliceLists.{take_long}
use Rattle.oai_item.specs.declared.faults.Fault.{Fault}
use Rattle.oai_item.specs.declared.faults.Fault.TheVariants.{NoMemory}
use Rattle.oai_catalogue.specs.Store.{Spends}
use Rattle.oai_host.specs.HostSnapshots.{AreSnapshotsTaken, calls_for}
use Rattle.oai_host.specs.declared.repositories.NamedRepo.{NamedRepo}
use Rattle.oai_lists.specs.OpenLists.{open_ones}
use Rattle.oai_snapshots.specs.Batches.{HoldsSnapshot}
use Rattle.oai_snapshots.specs.Snapshots.{SnapshotFields}
use Rattle.oai_host.proofs.HostSnapshotLemmas.{calls_more, calls_within, none_taken, spends_failed, spends_more, spends_stopped, still_owns, taken_more}
use Rattle.oai_host.proofs.host_snapshots.take_each.Goals as goal

pub loop-one-init : goal.loop-one-init
loop-one-init g c =
    let V = g.V.Versions in
    let lists = V.lists c.args.store.now in
    record {
      taken = subst (λ (xs : List SnapshotFields). AreSnapshotsTaken (V.honest c.args.store.now) [] lists xs lists) (sym c.requires.empty) (none_taken (V.honest c.args.store.now) lists);
      store = record {
        room = record { enough = tt; used = omega arith };
        device = record { count = omega arith; device = tt };
        honesty = record { same = refl; damaged = tt };
      };
    }

pub take-requires : goal.take-requires
take-requires g c =
    let V = g.V.Versions in
    let at = c.loop-one in
    still_owns (V.honest c.args.store.now) (V.honest at.store) c.args.repos.now (take at.one-index c.args.repos.now) at.one-index c.one-item.result (V.lists c.args.store.now) at.snapshots.items (V.lists at.store)
    c.loop-one-test.true c.one-item.is at.invariant.store.honesty.same c.requires.repos at.invariant.taken

pub loop-one-preserved : goal.loop-one-preserved
loop-one-preserved g c =
    let V = g.V.Versions in
    let honest = V.honest c.args.store.now in
    let at = c.loop-one in
    let i = at.one-index in
    let repos : List NamedRepo = c.args.repos.now in
    let one : NamedRepo = c.one-item.result in
    let s : SnapshotFields = c.in_ok-snapshot.snapshot in
    let before = V.lists c.args.store.now in
    let after = V.lists c.take.new.store in
    let new = c.in_ok-snapshot.ensures in
    record {
      taken = subst (λ (all : List SnapshotFields). AreSnapshotsTaken honest (take (i + 1) repos) before all after) (sym c.append.ensures)
          (subst (λ (all : List SnapshotFields). AreSnapshotsTaken honest (take (i + 1) repos) before (all ++ s ∷ []) after) (sym c.in_ok-try_reserve.ensures.items)
          (taken_more honest repos i one before at.snapshots.items (V.lists at.store) s after c.loop-one-test.true c.one-item.is c.requires.repos.stand at.invariant.taken new.taken
          (subst (λ (b : Bool). HoldsSnapshot b s after) at.invariant.store.honesty.same new.holds) new.others));
      store = spends_more V (calls_for (take i repos)) (length (open_ones one.repo.clock one.repo.table.lists) + 1) (calls_for (take (i + 1) repos)) s c.args.store.now at.store c.take.new.store
          (calls_more repos i one c.loop-one-test.true c.one-item.is) at.invariant.store new.store;
    }

pub returns-in_err-try_reserve-clause-store : goal.returns-in_err-try_reserve-clause-store
returns-in_err-try_reserve-clause-store g c =
    let V = g.V.Versions in
    let at = c.loop-one in
    let repos : List NamedRepo = c.args.repos.now in
    let one : NamedRepo = c.one-item.result in
    let is : c.from_residual.result ≡ Err NoMemory = search rules in
    subst (λ (r : Result (Unit {0}) Fault). Spends V.room V.failures V.honest (calls_for repos) r c.args.store.now at.store) (sym is)
    (spends_stopped V (calls_for (take at.one-index repos)) (length (open_ones one.repo.clock one.repo.table.lists) + 1) (calls_for repos) c.args.store.now at.store
    (calls_within repos at.one-index one c.loop-one-test.true c.one-item.is) at.invariant.store)

pub returns-in_err-snapshot-clause-store : goal.returns-in_err-snapshot-clause-store
returns-in_err-snapshot-clause-store g c =
    let V = g.V.Versions in
    let at = c.loop-one in
    let repos : List NamedRepo = c.args.repos.now in
    let one : NamedRepo = c.one-item.result in
    let cause : Fault = c.in_err-snapshot.field-0.0 in
    let is : c.from_residual-in_err-snapshot.result ≡ Err cause = search rules in
    subst (λ (r : Result (Unit {0}) Fault). Spends V.room V.failures V.honest (calls_for repos) r c.args.store.now c.take.new.store) (sym is)
    (spends_failed V (calls_for (take at.one-index repos)) (length (open_ones one.repo.clock one.repo.table.lists) + 1) (calls_for repos) cause c.args.store.now at.store c.take.new.store
    (calls_within repos at.one-index one c.loop-one-test.true c.one-item.is) at.invariant.store c.in_err-snapshot.ensures.store)

pub returns-clause-taken : goal.returns-clause-taken
returns-clause-taken g c =
    let V = g.V.Versions in
    let at = c.loop-one in
    subst (λ (front : List NamedRepo). AreSnapshotsTaken (V.honest c.args.store.now) front (V.lists c.args.store.now) at.snapshots.items (V.lists at.store)) (take_long c.args.repos.now at.one-index c.loop-one-test.false) at.invariant.taken

pub returns-clause-store : goal.returns-clause-store
returns-clause-store g c =
    let V = g.V.Versions in
    let at = c.loop-one in
    subst (λ (front : List NamedRepo). Spends {A = Unit {0}} V.room V.failures V.honest (calls_for front) (Ok tt) c.args.store.now at.store) (take_long c.args.repos.now at.one-index c.loop-one-test.false) at.invariant.store
