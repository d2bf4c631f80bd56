use Rattle.std.proofs.Common.{◌≡◌, ◌∙◌, ◌-◌, List, Some, ap, arith, subst, sym}
use Rattle.std.specs.Prelude.{slice_set}
use Rattle.oai_paged.specs.Shelves.{AreShelved}
use Rattle.oai_places.specs.Places.{PlaceState, named_in}
use Rattle.oai_paged.specs.Versions.{AreShared, DirectoryNumbers, DirectoryState, Shelves, places_of, references_to, shelf_at}
use Rattle.oai_paged.proofs.StoreLemmas.{lists_by, set_but, set_stands, store_stands, stored_again, stored_moved}
use Rattle.oai_paged.proofs.VersionLemmas.{places_by, set_beside, set_named, told_of}
use Rattle.oai_paged.proofs.store.VersionsOver.move_to_copy.Goals as goal

pub copy-requires-clause-named : goal.copy-requires-clause-named
copy-requires-clause-named g c =
    let G = g.P.PagePool in
    let self = c.args.self.now in
    let number = c.args.number in
    let before : Shelves = c.reserve.new.self.slots in
    let same : before ≡ self.directories.slots = ap (λ s. s.slots) c.reserve.ensures.rest_kept in
    let h : AreShelved (G.counts self.pool) (G.pages self.pool) (places_of before) = subst (λ (shelves : Shelves). AreShelved (G.counts self.pool)
    (G.pages self.pool) (places_of shelves)) (sym same) self.shelved in
    let stood : shelf_at before number ≡ Some c.in-Some.directory.now = sym c.in-Some.ensures.value in
    (store_stands G before number c.in-Some.directory.now self.pool h stood).named

pub copy-requires-clause-once : goal.copy-requires-clause-once
copy-requires-clause-once g c =
    let G = g.P.PagePool in
    let self = c.args.self.now in
    let number = c.args.number in
    let before : Shelves = c.reserve.new.self.slots in
    let same : before ≡ self.directories.slots = ap (λ s. s.slots) c.reserve.ensures.rest_kept in
    let h : AreShelved (G.counts self.pool) (G.pages self.pool) (places_of before) = subst (λ (shelves : Shelves). AreShelved (G.counts self.pool)
    (G.pages self.pool) (places_of shelves)) (sym same) self.shelved in
    let stood : shelf_at before number ≡ Some c.in-Some.directory.now = sym c.in-Some.ensures.value in
    (store_stands G before number c.in-Some.directory.now self.pool h stood).directory.once

pub invariant_of-self-in-Break-branch-2 : goal.invariant_of-self-in-Break-branch-2
invariant_of-self-in-Break-branch-2 g c =
    let G = g.P.PagePool in
    let self = c.args.self.now in
    let number = c.args.number in
    let before : Shelves = c.reserve.new.self.slots in
    let same : before ≡ self.directories.slots = ap (λ s. s.slots) c.reserve.ensures.rest_kept in
    let h : AreShelved (G.counts self.pool) (G.pages self.pool) (places_of before) = subst (λ (shelves : Shelves). AreShelved (G.counts self.pool)
    (G.pages self.pool) (places_of shelves)) (sym same) self.shelved in
    let s : AreShared self.versions.slots before = subst (λ (shelves : Shelves). AreShared self.versions.slots shelves) (sym same) self.shared in
    let stood : shelf_at before number ≡ Some c.in-Some.directory.now = sym c.in-Some.ensures.value in
    let stored = stored_again G self.versions.slots before number c.in-Some.directory.now self.pool c.copy.new.pages h s stood
    c.in_err-copy.ensures.undone in
    record { shelved = stored.shelved; shared = stored.shared }

pub returns-in_err-copy-clause-lists : goal.returns-in_err-copy-clause-lists
returns-in_err-copy-clause-lists g c =
    let G = g.P.PagePool in
    let self = c.args.self.now in
    let number = c.args.number in
    let before : Shelves = c.reserve.new.self.slots in
    let same : before ≡ self.directories.slots = ap (λ s. s.slots) c.reserve.ensures.rest_kept in
    let h : AreShelved (G.counts self.pool) (G.pages self.pool) (places_of before) = subst (λ (shelves : Shelves). AreShelved (G.counts self.pool)
    (G.pages self.pool) (places_of shelves)) (sym same) self.shelved in
    let s : AreShared self.versions.slots before = subst (λ (shelves : Shelves). AreShared self.versions.slots shelves) (sym same) self.shared in
    let lists : lists_by (G.pages self.pool) self.versions.slots before ≡ lists_by (G.pages self.pool) self.versions.slots self.directories.slots
    = ap (λ (shelves : Shelves). lists_by (G.pages self.pool) self.versions.slots shelves) same in
    let stood : shelf_at before number ≡ Some c.in-Some.directory.now = sym c.in-Some.ensures.value in
    let stored = stored_again G self.versions.slots before number c.in-Some.directory.now self.pool c.copy.new.pages h s stood
    c.in_err-copy.ensures.undone in
    stored.lists ∙ lists

pub invariant_of-self-in-Some-get_mut : goal.invariant_of-self-in-Some-get_mut
invariant_of-self-in-Some-get_mut g c =
    let G = g.P.PagePool in
    let self = c.args.self.now in
    let number = c.args.number in
    let before : Shelves = c.reserve.new.self.slots in
    let same : before ≡ self.directories.slots = ap (λ s. s.slots) c.reserve.ensures.rest_kept in
    let h : AreShelved (G.counts self.pool) (G.pages self.pool) (places_of before) = subst (λ (shelves : Shelves). AreShelved (G.counts self.pool)
    (G.pages self.pool) (places_of shelves)) (sym same) self.shelved in
    let s : AreShared self.versions.slots before = subst (λ (shelves : Shelves). AreShared self.versions.slots shelves) (sym same) self.shared in
    let stood : shelf_at before number ≡ Some c.in-Some.directory.now = sym c.in-Some.ensures.value in
    let own = c.insert_reserved-own.result in
    let was : DirectoryState = c.in-Some.directory.now in
    let made : DirectoryState = c.in_ok-copy.copy in
    let left : DirectoryState = record { places = c.directory.inside.leaves.places.items; versions = c.directory.inside.versions - 1 } in
    let mid : Shelves = slice_set before number (Some left) in
    let after : Shelves = c.insert_reserved-own.new.self.slots in
    let versions : DirectoryNumbers = slice_set self.versions.slots c.args.v (Some own) in
    let seen : DirectoryState = record { places = c.directory.inside.leaves.places.items; versions = c.directory.inside.versions } in
    let view : seen ≡ was = cc (c.directory.view_is) in
    let same_places : left.places ≡ was.places = ap (λ (directory : DirectoryState). directory.places) view in
    let same_count : c.directory.inside.versions ≡ was.versions = ap (λ (directory : DirectoryState). directory.versions) view in
    let told : references_to number self.versions.slots ≡ was.versions = told_of self.versions.slots before number was s stood in
    let several = c.requires.shared in
    let copied : made.places ≡ was.places = ap (λ (directory : DirectoryState). directory.places) c.in_ok-copy.ensures.copy in
    let one : made.versions ≡ 1 = ap (λ (directory : DirectoryState). directory.versions) c.in_ok-copy.ensures.copy in
    let named = set_named self.versions.slots c.args.v number own c.requires.named in
    let stored = stored_moved G c.args.v self.versions.slots versions before after self.pool h s (set_beside self.versions.slots c.args.v own)
    number own was left made mid c.copy.new.pages (set_but before number left) c.insert_reserved-own.ensures.updates.others stood
    (set_stands before number was left stood) same_places (omega (arith, several, told, same_count)) (omega (arith, several, told, same_count))
    c.insert_reserved-own.ensures.was_vacant c.insert_reserved-own.ensures.updates.changed copied one c.requires.named named
    c.in_ok-copy.ensures.names in
    record { shelved = stored.shelved; shared = stored.shared }

pub returns-in-Some-get_mut-clause-own : goal.returns-in-Some-get_mut-clause-own
returns-in-Some-get_mut-clause-own g c =
    let G = g.P.PagePool in
    let self = c.args.self.now in
    let number = c.args.number in
    let before : Shelves = c.reserve.new.self.slots in
    let same : before ≡ self.directories.slots = ap (λ s. s.slots) c.reserve.ensures.rest_kept in
    let h : AreShelved (G.counts self.pool) (G.pages self.pool) (places_of before) = subst (λ (shelves : Shelves). AreShelved (G.counts self.pool)
    (G.pages self.pool) (places_of shelves)) (sym same) self.shelved in
    let s : AreShared self.versions.slots before = subst (λ (shelves : Shelves). AreShared self.versions.slots shelves) (sym same) self.shared in
    let stood : shelf_at before number ≡ Some c.in-Some.directory.now = sym c.in-Some.ensures.value in
    let own = c.insert_reserved-own.result in
    let was : DirectoryState = c.in-Some.directory.now in
    let made : DirectoryState = c.in_ok-copy.copy in
    let left : DirectoryState = record { places = c.directory.inside.leaves.places.items; versions = c.directory.inside.versions - 1 } in
    let mid : Shelves = slice_set before number (Some left) in
    let after : Shelves = c.insert_reserved-own.new.self.slots in
    let versions : DirectoryNumbers = slice_set self.versions.slots c.args.v (Some own) in
    let seen : DirectoryState = record { places = c.directory.inside.leaves.places.items; versions = c.directory.inside.versions } in
    let view : seen ≡ was = cc (c.directory.view_is) in
    let same_places : left.places ≡ was.places = ap (λ (directory : DirectoryState). directory.places) view in
    let same_count : c.directory.inside.versions ≡ was.versions = ap (λ (directory : DirectoryState). directory.versions) view in
    let told : references_to number self.versions.slots ≡ was.versions = told_of self.versions.slots before number was s stood in
    let several = c.requires.shared in
    let copied : made.places ≡ was.places = ap (λ (directory : DirectoryState). directory.places) c.in_ok-copy.ensures.copy in
    let one : made.versions ≡ 1 = ap (λ (directory : DirectoryState). directory.versions) c.in_ok-copy.ensures.copy in
    let named = set_named self.versions.slots c.args.v number own c.requires.named in
    let stored = stored_moved G c.args.v self.versions.slots versions before after self.pool h s (set_beside self.versions.slots c.args.v own)
    number own was left made mid c.copy.new.pages (set_but before number left) c.insert_reserved-own.ensures.updates.others stood
    (set_stands before number was left stood) same_places (omega (arith, several, told, same_count)) (omega (arith, several, told, same_count))
    c.insert_reserved-own.ensures.was_vacant c.insert_reserved-own.ensures.updates.changed copied one c.requires.named named
    c.in_ok-copy.ensures.names in
    let places = places_by versions after c.args.v own made named c.insert_reserved-own.ensures.updates.changed ∙ copied in
    record {
      named = named;
      alone = told_of versions after own made stored.shared c.insert_reserved-own.ensures.updates.changed ∙ one;
      pages = λ n.
          let same_names = ap (λ (places : List PlaceState). named_in places n) places in
          let counts = c.in_ok-copy.ensures.names.counts n in
          omega (arith, same_names, counts);
    }

pub returns-in-Some-get_mut-clause-lists : goal.returns-in-Some-get_mut-clause-lists
returns-in-Some-get_mut-clause-lists g c =
    let G = g.P.PagePool in
    let self = c.args.self.now in
    let number = c.args.number in
    let before : Shelves = c.reserve.new.self.slots in
    let same : before ≡ self.directories.slots = ap (λ s. s.slots) c.reserve.ensures.rest_kept in
    let h : AreShelved (G.counts self.pool) (G.pages self.pool) (places_of before) = subst (λ (shelves : Shelves). AreShelved (G.counts self.pool)
    (G.pages self.pool) (places_of shelves)) (sym same) self.shelved in
    let s : AreShared self.versions.slots before = subst (λ (shelves : Shelves). AreShared self.versions.slots shelves) (sym same) self.shared in
    let lists : lists_by (G.pages self.pool) self.versions.slots before ≡ lists_by (G.pages self.pool) self.versions.slots self.directories.slots
    = ap (λ (shelves : Shelves). lists_by (G.pages self.pool) self.versions.slots shelves) same in
    let stood : shelf_at before number ≡ Some c.in-Some.directory.now = sym c.in-Some.ensures.value in
    let own = c.insert_reserved-own.result in
    let was : DirectoryState = c.in-Some.directory.now in
    let made : DirectoryState = c.in_ok-copy.copy in
    let left : DirectoryState = record { places = c.directory.inside.leaves.places.items; versions = c.directory.inside.versions - 1 } in
    let mid : Shelves = slice_set before number (Some left) in
    let after : Shelves = c.insert_reserved-own.new.self.slots in
    let versions : DirectoryNumbers = slice_set self.versions.slots c.args.v (Some own) in
    let seen : DirectoryState = record { places = c.directory.inside.leaves.places.items; versions = c.directory.inside.versions } in
    let view : seen ≡ was = cc (c.directory.view_is) in
    let same_places : left.places ≡ was.places = ap (λ (directory : DirectoryState). directory.places) view in
    let same_count : c.directory.inside.versions ≡ was.versions = ap (λ (directory : DirectoryState). directory.versions) view in
    let told : references_to number self.versions.slots ≡ was.versions = told_of self.versions.slots before number was s stood in
    let several = c.requires.shared in
    let copied : made.places ≡ was.places = ap (λ (directory : DirectoryState). directory.places) c.in_ok-copy.ensures.copy in
    let one : made.versions ≡ 1 = ap (λ (directory : DirectoryState). directory.versions) c.in_ok-copy.ensures.copy in
    let named = set_named self.versions.slots c.args.v number own c.requires.named in
    let stored = stored_moved G c.args.v self.versions.slots versions before after self.pool h s (set_beside self.versions.slots c.args.v own)
    number own was left made mid c.copy.new.pages (set_but before number left) c.insert_reserved-own.ensures.updates.others stood
    (set_stands before number was left stood) same_places (omega (arith, several, told, same_count)) (omega (arith, several, told, same_count))
    c.insert_reserved-own.ensures.was_vacant c.insert_reserved-own.ensures.updates.changed copied one c.requires.named named
    c.in_ok-copy.ensures.names in
    stored.lists ∙ lists
