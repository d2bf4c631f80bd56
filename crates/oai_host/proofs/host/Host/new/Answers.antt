-- Each repository of the configuration begins beside those that have begun.
use Rattle.std.proofs.Common.{◌≡◌, ◌∙◌, ◌∷◌, ap, arith, length, refl, rules}
use Rattle.std.specs.Vec.Iter.{into_iter_items}
use Rattle.oai_host.specs.NamedRepos.{repositories_of}
use Rattle.oai_host.proofs.HostLemmas.{begun_more, begun_none, next_named, next_unused}
use Rattle.oai_host.proofs.HostSnapshotLemmas.{holds_none}
use Rattle.oai_host.proofs.host.Host.new.Goals as goal

pub loop-entry-init : goal.loop-entry-init
loop-entry-init g c =
    let items : into_iter_items c.into_iter-entry-iterator.result ≡ c.args.config.repositories = search rules in
    record {
      begun = rw (items, c.new-repositories.ensures) (begun_none c.args.config.repositories);
      repos = rw c.new-repositories.ensures (record { named = record { named = refl; distinct = refl }; stand = tt; held = λ _. tt; apart = tt });
      room = omega (arith, ap length items);
      count = omega arith;
      honesty = refl;
      named = c.into_repositories.ensures.named;
    }

pub begin-requires-clause-named : goal.begin-requires-clause-named
begin-requires-clause-named g c =
    let next : into_iter_items c.loop-entry.entry-iterator ≡ c.in-Some.entry ∷ into_iter_items c.next.new.self = c.in-Some.ensures.steps.0 in
    let so_far = rw next at c.loop-entry.invariant.begun in
    next_named c.args.config.repositories so_far.front (into_iter_items c.next.new.self) c.in-Some.entry c.loop-entry.invariant.named so_far.whole

pub begin-requires-clause-unused : goal.begin-requires-clause-unused
begin-requires-clause-unused g c =
    let V = g.V.Versions in
    let next : into_iter_items c.loop-entry.entry-iterator ≡ c.in-Some.entry ∷ into_iter_items c.next.new.self = c.in-Some.ensures.steps.0 in
    let so_far = rw next at c.loop-entry.invariant.begun in
    next_unused c.args.config.repositories so_far.front (into_iter_items c.next.new.self) c.in-Some.entry c.loop-entry.repositories (V.lists c.loop-entry.store) c.loop-entry.invariant.named so_far.whole so_far.begun_so

pub loop-entry-preserved : goal.loop-entry-preserved
loop-entry-preserved g c =
    let V = g.V.Versions in
    let next : into_iter_items c.loop-entry.entry-iterator ≡ c.in-Some.entry ∷ into_iter_items c.next.new.self = c.in-Some.ensures.steps.0 in
    let so_far = rw next at c.loop-entry.invariant.begun in
    record {
      begun = begun_more c.args.config.repositories (into_iter_items c.next.new.self) c.in-Some.entry (repositories_of c.loop-entry.repositories (V.lists c.loop-entry.store)) (repositories_of c.begin.new.self (V.lists c.begin.new.store))
          so_far c.in_ok-begin.ensures.begun;
      repos = c.in_ok-begin.ensures.repos;
      room = omega (arith, ap length next, c.loop-entry.invariant.room, c.begin.ensures.store.room.used);
      count = omega (arith, c.loop-entry.invariant.count, c.begin.ensures.store.device.count);
      honesty = c.begin.ensures.store.honesty.same ∙ c.loop-entry.invariant.honesty;
      named = c.loop-entry.invariant.named;
    }

pub invariant_of-result : goal.invariant_of-result
invariant_of-result g c =
    let V = g.V.Versions in
    let store = c.loop-entry.store in
    (c.loop-entry.invariant.repos, (rw c.none.ensures (holds_none (V.honest store) c.loop-entry.repositories (V.lists store)), tt))

pub returns-clause-cause : goal.returns-clause-cause
returns-clause-cause g c = record {
  last = c.loop-entry.store;
  device = record { count = c.loop-entry.invariant.count; device = tt };
  honesty = record { same = c.loop-entry.invariant.honesty; damaged = tt };
}

pub returns-in_err-routes-clause-cause : goal.returns-in_err-routes-clause-cause
returns-in_err-routes-clause-cause g c = record { last = c.args.store; device = search rules; honesty = search rules }

pub returns-in_err-begin-clause-cause : goal.returns-in_err-begin-clause-cause
returns-in_err-begin-clause-cause g c = record { last = c.begin.new.store; device = search rules; honesty = search rules }

pub returns-clause-count : goal.returns-clause-count
returns-clause-count g c = c.loop-entry.invariant.count
