use Rattle.std.proofs.Common.{ap}
use Rattle.oai_paged.proofs.StoreLemmas.{stored_fresh}
use Rattle.oai_paged.proofs.VersionLemmas.{puts_in}
use Rattle.oai_paged.proofs.store.VersionsOverVersions.fresh.Goals as goal

pub invariant_of-self-2 : goal.invariant_of-self-2
invariant_of-self-2 g c =
    let G = g.P.PagePool in
    let self = c.args.self.now in
    let versions = puts_in self.versions c.reserve.new.self c.insert_reserved.new.self c.insert_reserved.result c.insert_reserved-number.result
    (ap (λ s. s.slots) c.reserve.ensures.rest_kept) c.insert_reserved.ensures.was_vacant c.insert_reserved.ensures.updates in
    let shelves = puts_in self.directories c.reserve-2.new.self c.insert_reserved-number.new.self c.insert_reserved-number.result c.new.result
    (ap (λ s. s.slots) c.reserve-2.ensures.rest_kept) c.insert_reserved-number.ensures.was_vacant c.insert_reserved-number.ensures.updates in
    let stored = stored_fresh G c.insert_reserved.result self.versions.slots c.insert_reserved.new.self.slots self.directories.slots
    c.insert_reserved-number.new.self.slots self.pool self.shelved self.shared versions.others c.insert_reserved-number.result c.new.result
    c.new.ensures shelves.others versions.vacant versions.stands shelves.vacant shelves.stands in
    record { shelved = stored.shelved; shared = stored.shared }

pub returns-clause-ok : goal.returns-clause-ok
returns-clause-ok g c =
    let G = g.P.PagePool in
    let self = c.args.self.now in
    let versions = puts_in self.versions c.reserve.new.self c.insert_reserved.new.self c.insert_reserved.result c.insert_reserved-number.result
    (ap (λ s. s.slots) c.reserve.ensures.rest_kept) c.insert_reserved.ensures.was_vacant c.insert_reserved.ensures.updates in
    let shelves = puts_in self.directories c.reserve-2.new.self c.insert_reserved-number.new.self c.insert_reserved-number.result c.new.result
    (ap (λ s. s.slots) c.reserve-2.ensures.rest_kept) c.insert_reserved-number.ensures.was_vacant c.insert_reserved-number.ensures.updates in
    let stored = stored_fresh G c.insert_reserved.result self.versions.slots c.insert_reserved.new.self.slots self.directories.slots
    c.insert_reserved-number.new.self.slots self.pool self.shelved self.shared versions.others c.insert_reserved-number.result c.new.result
    c.new.ensures shelves.others versions.vacant versions.stands shelves.vacant shelves.stands in
    stored.lists
