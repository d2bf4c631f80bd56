use Rattle.std.proofs.Common.{◌≡◌, ◌∙◌, ℕ, Bool, FitsSigned, List, Some, Err, ap, arith, refl, rules, subst, sym, w64}
use Rattle.std.proofs.lemmas.Int.{to_z-of_z}
use Rattle.std.specs.Prelude.{slice_set}
use Rattle.oai_catalogue.specs.Store.{IsHonest, VersionLists, list_at}
use Rattle.oai_device.specs.Device.{CountsFailures}
use Rattle.oai_item.specs.declared.faults.Fault.TheVariants.{Device}
use Rattle.oai_places.specs.Places.{PlaceState, items_on, named_in}
use Rattle.oai_paged.specs.Store.{places_at}
use Rattle.oai_paged.specs.Versions.{DirectoryState, shelf_at}
use Rattle.oai_paged.proofs.RoomLemmas.{copied_room, refused_count, refused_honest, refused_room}
use Rattle.oai_paged.proofs.StoreLemmas.{changed_shared, changed_shelved, changed_turned, if_ok_after, list_by, lists_by, on_ok_after, set_stands, store_stands}
use Rattle.oai_paged.proofs.VersionLemmas.{places_by}
use Rattle.oai_paged.proofs.store.VersionsOverVersions.remove.Goals as goal

pub returns-in_err-number-clause-store : goal.returns-in_err-number-clause-store
returns-in_err-number-clause-store g c =
    let G = g.P.PagePool in
    let self = c.args.self.now in
    let cause = c.in_err-number.field-0.0 in
    let is : c.from_residual.result ≡ Err cause = search rules in
    let places = places_at self c.args.v in
    let fault = c.in_err-number.ensures.fault in
    let pool = c.own.ensures.pool in
    record {
      room = refused_room G c.from_residual.result cause is places self.pool c.own.new.self.pool fault c.in_err-number.ensures.undone pool.room;
      device = refused_count G c.from_residual.result cause is places self.pool c.own.new.self.pool fault pool.count;
      honesty = refused_honest G c.from_residual.result cause is places self.pool c.own.new.self.pool fault pool.honesty;
    }

pub remove-requires : goal.remove-requires
remove-requires g c =
    let G = g.P.PagePool in
    let self = c.args.self.now in
    let made = c.own.new.self in
    let number = c.in_ok-number.number in
    let was : DirectoryState = record { places = c.directory.inside.leaves.places.items; versions = c.directory.inside.versions } in
    let found : Some c.in-Some.directory.now ≡ shelf_at made.directories.slots number = c.in-Some.ensures.value in
    let stood : shelf_at made.directories.slots number ≡ Some was = sym found ∙ ap Some (cc (c.directory.view_is)) in
    store_stands G made.directories.slots number was made.pool made.shelved stood

pub invariant_of-self : goal.invariant_of-self
invariant_of-self g c =
    let G = g.P.PagePool in
    let self = c.args.self.now in
    let made = c.own.new.self in
    let number = c.in_ok-number.number in
    let was : DirectoryState = record { places = c.directory.inside.leaves.places.items; versions = c.directory.inside.versions } in
    let found : Some c.in-Some.directory.now ≡ shelf_at made.directories.slots number = c.in-Some.ensures.value in
    let stood : shelf_at made.directories.slots number ≡ Some was = sym found ∙ ap Some (cc (c.directory.view_is)) in
    let is : DirectoryState = record { places = c.remove.new.self.places.items; versions = c.directory.inside.versions } in
    record {
      shelved = changed_shelved G 1 c.args.v number made.versions.slots made.directories.slots was is made.pool c.remove.new.pages made.shelved made.shared stood
          c.remove.result c.remove.ensures.changes;
      shared = changed_shared G 1 c.args.v number made.versions.slots made.directories.slots was is made.pool c.remove.new.pages made.shelved made.shared stood
          c.remove.result c.remove.ensures.changes refl;
    }

pub returns-clause-found : goal.returns-clause-found
returns-clause-found g c =
    let G = g.P.PagePool in
    let self = c.args.self.now in
    let made = c.own.new.self in
    let number = c.in_ok-number.number in
    let was : DirectoryState = record { places = c.directory.inside.leaves.places.items; versions = c.directory.inside.versions } in
    let found : Some c.in-Some.directory.now ≡ shelf_at made.directories.slots number = c.in-Some.ensures.value in
    let stood : shelf_at made.directories.slots number ≡ Some was = sym found ∙ ap Some (cc (c.directory.view_is)) in
    let own = c.in_ok-number.ensures.own in
    let before : list_at (lists_by (G.pages self.pool) self.versions.slots self.directories.slots) c.args.v ≡ items_on (G.pages made.pool) was.places
    = ap (λ (lists : VersionLists). list_at lists c.args.v) (sym c.own.ensures.lists)
    ∙ list_by (G.pages made.pool) made.versions.slots made.directories.slots c.args.v number was own.named stood in
    let fits : FitsSigned w64 c.args.stamp = c.ranges.stamp in
    let stamp = to_z-of_z w64 c.args.stamp fits in
    if_ok_after c.remove.result c.remove.ensures.found
    (λ found told honest. told (c.own.ensures.pool.honesty ∙ honest) ∙ cc (before, c.as_str-identifier.ensures.text, stamp))

pub returns-clause-ok : goal.returns-clause-ok
returns-clause-ok g c =
    let G = g.P.PagePool in
    let self = c.args.self.now in
    let made = c.own.new.self in
    let number = c.in_ok-number.number in
    let was : DirectoryState = record { places = c.directory.inside.leaves.places.items; versions = c.directory.inside.versions } in
    let found : Some c.in-Some.directory.now ≡ shelf_at made.directories.slots number = c.in-Some.ensures.value in
    let stood : shelf_at made.directories.slots number ≡ Some was = sym found ∙ ap Some (cc (c.directory.view_is)) in
    let is : DirectoryState = record { places = c.remove.new.self.places.items; versions = c.directory.inside.versions } in
    let own = c.in_ok-number.ensures.own in
    let turned = changed_turned G 1 c.args.v number made.versions.slots made.directories.slots was is made.pool c.remove.new.pages made.shelved made.shared stood
    c.remove.result c.remove.ensures.changes (lists_by (G.pages self.pool) self.versions.slots self.directories.slots) c.own.ensures.lists own.alone
    own.named in
    turned.ok

pub returns-clause-err : goal.returns-clause-err
returns-clause-err g c =
    let G = g.P.PagePool in
    let self = c.args.self.now in
    let made = c.own.new.self in
    let number = c.in_ok-number.number in
    let was : DirectoryState = record { places = c.directory.inside.leaves.places.items; versions = c.directory.inside.versions } in
    let found : Some c.in-Some.directory.now ≡ shelf_at made.directories.slots number = c.in-Some.ensures.value in
    let stood : shelf_at made.directories.slots number ≡ Some was = sym found ∙ ap Some (cc (c.directory.view_is)) in
    let is : DirectoryState = record { places = c.remove.new.self.places.items; versions = c.directory.inside.versions } in
    let own = c.in_ok-number.ensures.own in
    let turned = changed_turned G 1 c.args.v number made.versions.slots made.directories.slots was is made.pool c.remove.new.pages made.shelved made.shared stood
    c.remove.result c.remove.ensures.changes (lists_by (G.pages self.pool) self.versions.slots self.directories.slots) c.own.ensures.lists own.alone
    own.named in
    turned.err

pub returns-clause-list : goal.returns-clause-list
returns-clause-list g c =
    let G = g.P.PagePool in
    let self = c.args.self.now in
    let made = c.own.new.self in
    let number = c.in_ok-number.number in
    let was : DirectoryState = record { places = c.directory.inside.leaves.places.items; versions = c.directory.inside.versions } in
    let found : Some c.in-Some.directory.now ≡ shelf_at made.directories.slots number = c.in-Some.ensures.value in
    let stood : shelf_at made.directories.slots number ≡ Some was = sym found ∙ ap Some (cc (c.directory.view_is)) in
    let is : DirectoryState = record { places = c.remove.new.self.places.items; versions = c.directory.inside.versions } in
    let own = c.in_ok-number.ensures.own in
    let before : list_at (lists_by (G.pages self.pool) self.versions.slots self.directories.slots) c.args.v ≡ items_on (G.pages made.pool) was.places
    = ap (λ (lists : VersionLists). list_at lists c.args.v) (sym c.own.ensures.lists)
    ∙ list_by (G.pages made.pool) made.versions.slots made.directories.slots c.args.v number was own.named stood in
    let after = list_by (G.pages c.remove.new.pages) made.versions.slots (slice_set made.directories.slots number (Some is)) c.args.v number is own.named
    (set_stands made.directories.slots number was is stood) in
    let fits : FitsSigned w64 c.args.stamp = c.ranges.stamp in
    let stamp = to_z-of_z w64 c.args.stamp fits in
    on_ok_after c.remove.result c.remove.ensures.list
    (λ told honest. after ∙ told (c.own.ensures.pool.honesty ∙ honest) ∙ cc (before, c.as_str-identifier.ensures.text, stamp))

pub returns-clause-store : goal.returns-clause-store
returns-clause-store g c =
    let G = g.P.PagePool in
    let self = c.args.self.now in
    let made = c.own.new.self in
    let number = c.in_ok-number.number in
    let was : DirectoryState = record { places = c.directory.inside.leaves.places.items; versions = c.directory.inside.versions } in
    let found : Some c.in-Some.directory.now ≡ shelf_at made.directories.slots number = c.in-Some.ensures.value in
    let stood : shelf_at made.directories.slots number ≡ Some was = sym found ∙ ap Some (cc (c.directory.view_is)) in
    let is : DirectoryState = record { places = c.remove.new.self.places.items; versions = c.directory.inside.versions } in
    let own = c.in_ok-number.ensures.own in
    let stands = store_stands G made.directories.slots number was made.pool made.shelved stood in
    let places = places_by made.versions.slots made.directories.slots c.args.v number was own.named stood in
    let changes = c.remove.ensures.changes in
    record {
      room = copied_room G 1 c.remove.result was.places is.places self.pool made.pool c.remove.new.pages (omega arith) c.own.ensures.pool.room stands.directory.once
          (λ n. let same = ap (λ (places : List PlaceState). named_in places n) places in let few = own.pages n in omega (arith, same, few)) changes;
      device = subst (λ (failures : ℕ). CountsFailures Device c.remove.result failures (G.failures c.remove.new.pages)) c.own.ensures.pool.count changes.pool.device;
      honesty = subst (λ (honest : Bool). IsHonest c.remove.result honest (G.honest c.remove.new.pages)) c.own.ensures.pool.honesty changes.pool.honesty;
    }
