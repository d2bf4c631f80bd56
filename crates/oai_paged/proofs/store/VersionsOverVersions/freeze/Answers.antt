use Rattle.std.proofs.Common.{◌≡◌, ◌∙◌, ◌+◌, ◌≤◌, Some, ap, arith, refl, sym}
use Rattle.std.specs.Prelude.{count_by, is_some, slice_set}
use Rattle.oai_paged.specs.Versions.{DirectoryState, references_to, shelf_at}
use Rattle.oai_paged.proofs.StoreLemmas.{set_but, set_stands, stored_more}
use Rattle.oai_paged.proofs.VersionLemmas.{few_names, puts_in, told_of}
use Rattle.oai_paged.proofs.store.VersionsOverVersions.freeze.Goals as goal

pub prove-unreachable-requires : goal.prove-unreachable-requires
prove-unreachable-requires g c =
    let self = c.args.self.now in
    let number = c.number_of-number.result in
    let was : DirectoryState = record { places = c.directory.inside.leaves.places.items; versions = c.directory.inside.versions } in
    let found : Some c.in-Some.directory.now ≡ shelf_at self.directories.slots number = c.in-Some.ensures.value in
    let stood : shelf_at self.directories.slots number ≡ Some was = sym found ∙ ap Some (cc (c.directory.view_is)) in
    let told : references_to number self.versions.slots ≡ c.directory.inside.versions = told_of self.versions.slots self.directories.slots number was
    self.shared stood in
    let few : references_to number self.versions.slots ≤ count_by is_some self.versions.slots = few_names number self.versions.slots in
    let same : count_by is_some c.reserve.new.self.slots ≡ count_by is_some self.versions.slots = ap (λ s. count_by is_some s.slots)
    c.reserve.ensures.rest_kept in
    let room = c.in_ok-reserve.ensures.room in
    let value = c.capacity.ensures.value in
    let full = c.if-prove.true in
    omega (arith, told, few, same, room, value, full)

pub invariant_of-self-2 : goal.invariant_of-self-2
invariant_of-self-2 g c =
    let G = g.P.PagePool in
    let self = c.args.self.now in
    let number = c.number_of-number.result in
    let was : DirectoryState = record { places = c.directory.inside.leaves.places.items; versions = c.directory.inside.versions } in
    let more : DirectoryState = record { places = c.directory.inside.leaves.places.items; versions = c.directory.inside.versions + 1 } in
    let found : Some c.in-Some.directory.now ≡ shelf_at self.directories.slots number = c.in-Some.ensures.value in
    let stood : shelf_at self.directories.slots number ≡ Some was = sym found ∙ ap Some (cc (c.directory.view_is)) in
    let versions = puts_in self.versions c.reserve.new.self c.insert_reserved.new.self c.insert_reserved.result number
    (ap (λ s. s.slots) c.reserve.ensures.rest_kept) c.insert_reserved.ensures.was_vacant c.insert_reserved.ensures.updates in
    let stored = stored_more G c.insert_reserved.result self.versions.slots c.insert_reserved.new.self.slots self.directories.slots
    (slice_set self.directories.slots number (Some more)) self.pool self.shelved self.shared versions.others number was more
    (set_but self.directories.slots number more) stood (set_stands self.directories.slots number was more stood) refl c.args.v refl
    c.number_of-number.ensures.named versions.vacant versions.stands in
    record { shelved = stored.shelved; shared = stored.shared }

pub returns-clause-ok : goal.returns-clause-ok
returns-clause-ok g c =
    let G = g.P.PagePool in
    let self = c.args.self.now in
    let number = c.number_of-number.result in
    let was : DirectoryState = record { places = c.directory.inside.leaves.places.items; versions = c.directory.inside.versions } in
    let more : DirectoryState = record { places = c.directory.inside.leaves.places.items; versions = c.directory.inside.versions + 1 } in
    let found : Some c.in-Some.directory.now ≡ shelf_at self.directories.slots number = c.in-Some.ensures.value in
    let stood : shelf_at self.directories.slots number ≡ Some was = sym found ∙ ap Some (cc (c.directory.view_is)) in
    let versions = puts_in self.versions c.reserve.new.self c.insert_reserved.new.self c.insert_reserved.result number
    (ap (λ s. s.slots) c.reserve.ensures.rest_kept) c.insert_reserved.ensures.was_vacant c.insert_reserved.ensures.updates in
    let stored = stored_more G c.insert_reserved.result self.versions.slots c.insert_reserved.new.self.slots self.directories.slots
    (slice_set self.directories.slots number (Some more)) self.pool self.shelved self.shared versions.others number was more
    (set_but self.directories.slots number more) stood (set_stands self.directories.slots number was more stood) refl c.args.v refl
    c.number_of-number.ensures.named versions.vacant versions.stands in
    stored.lists
