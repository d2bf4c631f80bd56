-- The first snapshot is the one of the first repository that is left.
use Rattle.std.proofs.Common.{◌≡◌, ◌∙◌, ◌-◌, ◌<◌, true, List, ap, arith, length, rules, sym}
use Rattle.oai_snapshots.specs.Batches.{has_nothing_left}
use Rattle.oai_snapshots.specs.Snapshots.{SnapshotFields}
use Rattle.oai_host.proofs.HostSnapshotLemmas.{at_front, few_left, front_ended, front_further, front_holds, front_left, front_released, front_saved, some_there}
use Rattle.oai_host.proofs.host_snapshots.HostSnapshots.save_next.Goals as goal

pub overflow_sub-one : goal.overflow_sub-one
overflow_sub-one g c =
    let few = few_left c.args.repos.now c.args.self.now c.requires.sets in
    let long : length c.self.inside.left.items ≡ length c.args.self.now = ap length c.self.view_is in
    let is : c.len.result ≡ c.self.inside.left.len = c.len.ensures in
    let own : c.self.inside.left.len ≡ length c.self.inside.left.items = c.self.inside.left.ok.0 in
    omega (arith, few, long, is, own)

pub save_one-requires : goal.save_one-requires
save_one-requires g c =
    let V = g.V.Versions in
    let items : List SnapshotFields = c.self.inside.left.items in
    let some : 0 < length items = some_there c.self.inside.left.len (length items) (sym c.is_empty.ensures ∙ c.if-is_empty.false) c.self.inside.left.ok.0 in
    let front = at_front items c.args.self.now c.index_mut.result.now c.self.view_is some c.index_mut.ensures.value in
    front_holds (V.honest c.args.store.now) c.args.repos.now items c.args.self.now c.index_mut.result.now (V.lists c.args.store.now) front c.requires

pub returns-in_err-more-clause-leaves : goal.returns-in_err-more-clause-leaves
returns-in_err-more-clause-leaves g c =
    let V = g.V.Versions in
    let items : List SnapshotFields = c.self.inside.left.items in
    let some : 0 < length items = some_there c.self.inside.left.len (length items) (sym c.is_empty.ensures ∙ c.if-is_empty.false) c.self.inside.left.ok.0 in
    let front = at_front items c.args.self.now c.index_mut.result.now c.self.view_is some c.index_mut.ensures.value in
    front_left (V.honest c.args.store.now) c.args.repos.now items c.args.self.now c.index_mut.result.now (V.lists c.args.store.now) front c.requires
    c.save_one.new.snapshot (V.lists c.save_one.new.store) c.save_one.ensures.leaves

pub release_first-requires : goal.release_first-requires
release_first-requires g c =
    let V = g.V.Versions in
    let items : List SnapshotFields = c.self.inside.left.items in
    let some : 0 < length items = some_there c.self.inside.left.len (length items) (sym c.is_empty.ensures ∙ c.if-is_empty.false) c.self.inside.left.ok.0 in
    let front = at_front items c.args.self.now c.index_mut.result.now c.self.view_is some c.index_mut.ensures.value in
    (front_left (V.honest c.args.store.now) c.args.repos.now items c.args.self.now c.index_mut.result.now (V.lists c.args.store.now) front c.requires
    c.save_one.new.snapshot (V.lists c.save_one.new.store) c.save_one.ensures.leaves).holds.stands

pub returns-then-not-more-clause-saved : goal.returns-then-not-more-clause-saved
returns-then-not-more-clause-saved g c = λ honest.
    let V = g.V.Versions in
    let items : List SnapshotFields = c.self.inside.left.items in
    let some : 0 < length items = some_there c.self.inside.left.len (length items) (sym c.is_empty.ensures ∙ c.if-is_empty.false) c.self.inside.left.ok.0 in
    let front = at_front items c.args.self.now c.index_mut.result.now c.self.view_is some c.index_mut.ensures.value in
    let at : length c.args.repos.now - c.len.result ≡ length c.args.repos.now - length c.args.self.now = ap (λ n. length c.args.repos.now - n) (c.len.ensures ∙ c.self.inside.left.ok.0 ∙ ap length c.self.view_is) in
    let none : has_nothing_left c.index_mut.result.now ≡ true = search rules in
    front_ended g.S.Sink.has (V.honest c.args.store.now) c.args.repos.now items c.args.self.now c.index_mut.result.now (V.lists c.args.store.now) front c.requires
    c.args.sink.now c.save_one.new.sink c.index-repos-repos.result (length c.args.repos.now - c.len.result) at c.index-repos-repos.is
    c.save_one.new.snapshot (V.lists c.save_one.new.store) c.save_one.ensures.leaves (c.in_ok-more.ensures.saved honest)
    c.release_first.new.self (V.lists c.release_first.new.store) none
    (c.release_first.ensures.first c.save_one.new.snapshot front.others (front.set c.save_one.new.snapshot))
    (c.release_first.ensures.released c.save_one.new.snapshot front.others (front.set c.save_one.new.snapshot))

pub returns-then-not-more-clause-leaves : goal.returns-then-not-more-clause-leaves
returns-then-not-more-clause-leaves g c =
    let V = g.V.Versions in
    let items : List SnapshotFields = c.self.inside.left.items in
    let some : 0 < length items = some_there c.self.inside.left.len (length items) (sym c.is_empty.ensures ∙ c.if-is_empty.false) c.self.inside.left.ok.0 in
    let front = at_front items c.args.self.now c.index_mut.result.now c.self.view_is some c.index_mut.ensures.value in
    front_released (V.honest c.args.store.now) c.args.repos.now items c.args.self.now c.index_mut.result.now (V.lists c.args.store.now) front c.requires
    c.save_one.new.snapshot (V.lists c.save_one.new.store) c.release_first.new.self (V.lists c.release_first.new.store) c.save_one.ensures.leaves
    (c.release_first.ensures.first c.save_one.new.snapshot front.others (front.set c.save_one.new.snapshot))
    (c.release_first.ensures.released c.save_one.new.snapshot front.others (front.set c.save_one.new.snapshot))

pub returns-else-not-more-clause-saved : goal.returns-else-not-more-clause-saved
returns-else-not-more-clause-saved g c = λ honest.
    let V = g.V.Versions in
    let items : List SnapshotFields = c.self.inside.left.items in
    let some : 0 < length items = some_there c.self.inside.left.len (length items) (sym c.is_empty.ensures ∙ c.if-is_empty.false) c.self.inside.left.ok.0 in
    let front = at_front items c.args.self.now c.index_mut.result.now c.self.view_is some c.index_mut.ensures.value in
    let at : length c.args.repos.now - c.len.result ≡ length c.args.repos.now - length c.args.self.now = ap (λ n. length c.args.repos.now - n) (c.len.ensures ∙ c.self.inside.left.ok.0 ∙ ap length c.self.view_is) in
    front_saved g.S.Sink.has (V.honest c.args.store.now) c.args.repos.now items c.args.self.now c.index_mut.result.now (V.lists c.args.store.now) front c.requires
    c.args.sink.now c.save_one.new.sink c.index-repos-repos.result (length c.args.repos.now - c.len.result) at c.index-repos-repos.is
    c.save_one.new.snapshot (V.lists c.save_one.new.store) c.save_one.ensures.leaves (c.in_ok-more.ensures.saved honest)

pub returns-else-not-more-clause-further : goal.returns-else-not-more-clause-further
returns-else-not-more-clause-further g c = λ _ honest.
    let V = g.V.Versions in
    let items : List SnapshotFields = c.self.inside.left.items in
    let some : 0 < length items = some_there c.self.inside.left.len (length items) (sym c.is_empty.ensures ∙ c.if-is_empty.false) c.self.inside.left.ok.0 in
    let front = at_front items c.args.self.now c.index_mut.result.now c.self.view_is some c.index_mut.ensures.value in
    let more : c.in_ok-more.more ≡ true = search rules in
    front_further items c.args.self.now c.index_mut.result.now front c.save_one.new.snapshot (c.in_ok-more.ensures.further more honest)

pub returns-else-not-more-clause-leaves : goal.returns-else-not-more-clause-leaves
returns-else-not-more-clause-leaves g c =
    let V = g.V.Versions in
    let items : List SnapshotFields = c.self.inside.left.items in
    let some : 0 < length items = some_there c.self.inside.left.len (length items) (sym c.is_empty.ensures ∙ c.if-is_empty.false) c.self.inside.left.ok.0 in
    let front = at_front items c.args.self.now c.index_mut.result.now c.self.view_is some c.index_mut.ensures.value in
    front_left (V.honest c.args.store.now) c.args.repos.now items c.args.self.now c.index_mut.result.now (V.lists c.args.store.now) front c.requires
    c.save_one.new.snapshot (V.lists c.save_one.new.store) c.save_one.ensures.leaves
