use Rattle.std.proofs.Common.{◌≡◌, ◌∙◌, ◌-◌, ◌≤◌, ℕ, List, [], Some, ap, arith, refl, subst, sym}
use Rattle.std.specs.Prelude.{slice_set}
use Rattle.std.proofs.lemmas.Option.{same_Some}
use Rattle.oai_pool.specs.Counts.{count_of}
use Rattle.oai_places.specs.Calls.{Renames}
use Rattle.oai_places.specs.Places.{PlaceState, named_in}
use Rattle.oai_paged.specs.Versions.{DirectoryState, shelf_at}
use Rattle.oai_paged.proofs.RoomLemmas.{dropped_left}
use Rattle.oai_paged.proofs.StoreLemmas.{set_but, set_stands, store_stands, stored_less, stored_none}
use Rattle.oai_paged.proofs.store.VersionsOverVersions.release.Goals as goal

pub invariant_of-self : goal.invariant_of-self
invariant_of-self g c =
    let G = g.P.PagePool in
    let self = c.args.self.now in
    let number = c.number_of-number.result in
    let was : DirectoryState = record { places = c.directory.inside.leaves.places.items; versions = c.directory.inside.versions } in
    let left : DirectoryState = record { places = c.directory.inside.leaves.places.items; versions = c.directory.inside.versions - 1 } in
    let found : Some c.in-Some.directory.now ≡ shelf_at self.directories.slots number = c.in-Some.ensures.value in
    let stood : shelf_at self.directories.slots number ≡ Some was = sym found ∙ ap Some (cc (c.directory.view_is)) in
    let more = c.if-directory-gt0.true in
    let stored = stored_less G c.args.v self.versions.slots c.remove.new.self.slots self.directories.slots
    (slice_set self.directories.slots number (Some left)) self.pool self.shelved self.shared c.remove.ensures.updates.others number was left
    (set_but self.directories.slots number left) stood (set_stands self.directories.slots number was left stood) refl (omega (arith, more))
    (omega (arith, more)) c.number_of-number.ensures.named c.remove.ensures.updates.changed in
    record { shelved = stored.shelved; shared = stored.shared }

pub returns-then-directory-gt0-clause-ok : goal.returns-then-directory-gt0-clause-ok
returns-then-directory-gt0-clause-ok g c =
    let G = g.P.PagePool in
    let self = c.args.self.now in
    let number = c.number_of-number.result in
    let was : DirectoryState = record { places = c.directory.inside.leaves.places.items; versions = c.directory.inside.versions } in
    let left : DirectoryState = record { places = c.directory.inside.leaves.places.items; versions = c.directory.inside.versions - 1 } in
    let found : Some c.in-Some.directory.now ≡ shelf_at self.directories.slots number = c.in-Some.ensures.value in
    let stood : shelf_at self.directories.slots number ≡ Some was = sym found ∙ ap Some (cc (c.directory.view_is)) in
    let more = c.if-directory-gt0.true in
    let stored = stored_less G c.args.v self.versions.slots c.remove.new.self.slots self.directories.slots
    (slice_set self.directories.slots number (Some left)) self.pool self.shelved self.shared c.remove.ensures.updates.others number was left
    (set_but self.directories.slots number left) stood (set_stands self.directories.slots number was left stood) refl (omega (arith, more))
    (omega (arith, more)) c.number_of-number.ensures.named c.remove.ensures.updates.changed in
    stored.lists

pub drop_all-requires : goal.drop_all-requires
drop_all-requires g c =
    let G = g.P.PagePool in
    let self = c.args.self.now in
    let number = c.number_of-number.result in
    let was : DirectoryState = record { places = c.directory.inside.leaves.places.items; versions = c.directory.inside.versions } in
    let left : DirectoryState = record { places = c.directory.inside.leaves.places.items; versions = c.directory.inside.versions - 1 } in
    let found : Some c.in-Some.directory.now ≡ shelf_at self.directories.slots number = c.in-Some.ensures.value in
    let stood : shelf_at self.directories.slots number ≡ Some was = sym found ∙ ap Some (cc (c.directory.view_is)) in
    let stands = set_stands self.directories.slots number was left stood in
    let out : Some c.remove-directory.result ≡ Some left = sym c.remove-directory.ensures.value ∙ stands in
    let shown : record { places = c.directory-2.inside.leaves.places.items; versions = c.directory-2.inside.versions } ≡ c.remove-directory.result
    = cc (c.directory-2.view_is) in
    let same : c.directory-2.inside.leaves.places.items ≡ was.places = ap (λ (directory : DirectoryState). directory.places)
    (shown ∙ same_Some c.remove-directory.result left out) in
    subst (λ (places : List PlaceState). (n : ℕ) → named_in places n ≤ count_of (G.counts self.pool) n) (sym same)
    (store_stands G self.directories.slots number was self.pool self.shelved stood).named

pub invariant_of-self-2 : goal.invariant_of-self-2
invariant_of-self-2 g c =
    let G = g.P.PagePool in
    let self = c.args.self.now in
    let number = c.number_of-number.result in
    let was : DirectoryState = record { places = c.directory.inside.leaves.places.items; versions = c.directory.inside.versions } in
    let left : DirectoryState = record { places = c.directory.inside.leaves.places.items; versions = c.directory.inside.versions - 1 } in
    let found : Some c.in-Some.directory.now ≡ shelf_at self.directories.slots number = c.in-Some.ensures.value in
    let stood : shelf_at self.directories.slots number ≡ Some was = sym found ∙ ap Some (cc (c.directory.view_is)) in
    let stands = set_stands self.directories.slots number was left stood in
    let out : Some c.remove-directory.result ≡ Some left = sym c.remove-directory.ensures.value ∙ stands in
    let shown : record { places = c.directory-2.inside.leaves.places.items; versions = c.directory-2.inside.versions } ≡ c.remove-directory.result
    = cc (c.directory-2.view_is) in
    let same : c.directory-2.inside.leaves.places.items ≡ was.places = ap (λ (directory : DirectoryState). directory.places)
    (shown ∙ same_Some c.remove-directory.result left out) in
    let last = c.if-directory-gt0.false in
    let some = self.shared.named number was stood in
    let names : Renames G was.places [] self.pool c.drop_all.new.pages = subst (λ (places : List PlaceState). Renames G places [] self.pool
    c.drop_all.new.pages) same c.drop_all.ensures.names in
    let stored = stored_none G c.args.v self.versions.slots c.remove.new.self.slots self.directories.slots c.remove-directory.new.self.slots
    self.pool self.shelved self.shared c.remove.ensures.updates.others number was c.drop_all.new.pages
    (λ e apart. c.remove-directory.ensures.updates.others e apart ∙ set_but self.directories.slots number left e apart) stood
    (omega (arith, last, some)) c.remove-directory.ensures.updates.changed c.number_of-number.ensures.named c.remove.ensures.updates.changed
    names in
    record { shelved = stored.shelved; shared = stored.shared }

pub returns-clause-ok : goal.returns-clause-ok
returns-clause-ok g c =
    let G = g.P.PagePool in
    let self = c.args.self.now in
    let number = c.number_of-number.result in
    let was : DirectoryState = record { places = c.directory.inside.leaves.places.items; versions = c.directory.inside.versions } in
    let left : DirectoryState = record { places = c.directory.inside.leaves.places.items; versions = c.directory.inside.versions - 1 } in
    let found : Some c.in-Some.directory.now ≡ shelf_at self.directories.slots number = c.in-Some.ensures.value in
    let stood : shelf_at self.directories.slots number ≡ Some was = sym found ∙ ap Some (cc (c.directory.view_is)) in
    let stands = set_stands self.directories.slots number was left stood in
    let out : Some c.remove-directory.result ≡ Some left = sym c.remove-directory.ensures.value ∙ stands in
    let shown : record { places = c.directory-2.inside.leaves.places.items; versions = c.directory-2.inside.versions } ≡ c.remove-directory.result
    = cc (c.directory-2.view_is) in
    let same : c.directory-2.inside.leaves.places.items ≡ was.places = ap (λ (directory : DirectoryState). directory.places)
    (shown ∙ same_Some c.remove-directory.result left out) in
    let last = c.if-directory-gt0.false in
    let some = self.shared.named number was stood in
    let names : Renames G was.places [] self.pool c.drop_all.new.pages = subst (λ (places : List PlaceState). Renames G places [] self.pool
    c.drop_all.new.pages) same c.drop_all.ensures.names in
    let stored = stored_none G c.args.v self.versions.slots c.remove.new.self.slots self.directories.slots c.remove-directory.new.self.slots
    self.pool self.shelved self.shared c.remove.ensures.updates.others number was c.drop_all.new.pages
    (λ e apart. c.remove-directory.ensures.updates.others e apart ∙ set_but self.directories.slots number left e apart) stood
    (omega (arith, last, some)) c.remove-directory.ensures.updates.changed c.number_of-number.ensures.named c.remove.ensures.updates.changed
    names in
    stored.lists

pub returns-clause-store : goal.returns-clause-store
returns-clause-store g c =
    let G = g.P.PagePool in
    let p = c.args.self.now.pool in
    let q = c.drop_all.new.pages in
    record {
      room = dropped_left G c.directory-2.inside.leaves.places.items p q c.drop_all.ensures.names c.drop_all.ensures.pool.room;
      count = c.drop_all.ensures.pool.count;
      honesty = c.drop_all.ensures.pool.honesty;
    }
