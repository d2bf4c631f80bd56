-- The one list at the position is changed, and its end is looked at with the others'.
use Rattle.std.proofs.Common.{rules, ◌≡◌, ◌∙◌, ◌<◌, ℕ, ℤ, FitsSigned, List, ap, arith, is_some, length, refl, set, subst, sym, w64}
use Rattle.std.specs.Prelude.{slice_get}
use Rattle.std.specs.Int.{int_min}
use Rattle.std.proofs.lemmas.Int.{to_z-of_z}
use Rattle.oai_lists.specs.HeldTable.{IsHeldTable}
use Rattle.oai_lists.specs.OpenLists.{Table, highest_given, kept_open, with_change}
use Rattle.oai_lists.specs.declared.open_lists.OpenList.{OpenList}
use Rattle.oai_lists.proofs.Changes.{at_place, change-at, held_changed, within_some}
use Rattle.oai_lists.proofs.Ends.{min_left, min_right}
use Rattle.oai_lists.proofs.lists.Lists.carry_on.Goals as goal

pub index_mut-list-requires : goal.index_mut-list-requires
index_mut-list-requires c =
    let within = within_some c.self.inside.lists.items c.args.at (ap (λ (t : Table). is_some (slice_get t.lists c.args.at)) c.self.view_is ∙ c.requires) in
    omega (arith, within, c.self.inside.lists.ok.0)

pub invariant_of-self : goal.invariant_of-self
invariant_of-self c =
    let fits : FitsSigned w64 c.args.end = c.ranges.end in
    let fits_old : FitsSigned w64 c.self.inside.earliest = search rules in
    let fits_new : FitsSigned w64 c.min-self-inside.result = record { sfits = c.min-self-inside.type_inv } in
    let inside = c.self.inside in
    let items : List OpenList = inside.lists.items in
    let x : OpenList = c.index_mut-list.result.now in
    let change : OpenList → OpenList = kept_open c.args.end c.args.next c.args.mark in
    let within : c.args.at < length items =
    within_some items c.args.at (ap (λ (t : Table). is_some (slice_get t.lists c.args.at)) c.self.view_is ∙ c.requires) in
    let bound : c.min-self-inside.result ≡ int_min inside.earliest c.args.end = simp to_z-of_z at c.min-self-inside.ensures.value in
    let raised : c.highest_given-list.result ≡ highest_given c.args.next x.given = c.highest_given-list.ensures in
    let one : with_change x.number change items ≡ set items c.args.at (change x) = change-at change items c.args.at x c.self.invariant.numbers.numbered within c.index_mut-list.ensures.value in
    let held = held_changed inside.limit inside.next x.number change items inside.earliest (int_min inside.earliest c.args.end) (λ y. refl)
    (λ y h. (min_left inside.earliest c.args.end y.end h, min_right inside.earliest c.args.end)) c.self.invariant in
    simp to_z-of_z
    (subst (λ (n : ℕ). IsHeldTable (record { limit = inside.limit; next = inside.next; lists = set items c.args.at (record x { end = c.args.end; given = n; mark = c.args.mark }) }) c.min-self-inside.result) (sym raised)
    (subst (λ (e : ℤ). IsHeldTable (record { limit = inside.limit; next = inside.next; lists = set items c.args.at (change x) }) e) (sym bound)
    (subst (λ (lists : List OpenList). IsHeldTable (record { limit = inside.limit; next = inside.next; lists = lists }) (int_min inside.earliest c.args.end)) one held)))

pub returns : goal.returns
returns c = λ list there.
    let fits : FitsSigned w64 c.args.end = c.ranges.end in
    let inside = c.self.inside in
    let items : List OpenList = inside.lists.items in
    let x : OpenList = c.index_mut-list.result.now in
    let change : OpenList → OpenList = kept_open c.args.end c.args.next c.args.mark in
    let within : c.args.at < length items =
    within_some items c.args.at (ap (λ (t : Table). is_some (slice_get t.lists c.args.at)) c.self.view_is ∙ c.requires) in
    let raised : c.highest_given-list.result ≡ highest_given c.args.next x.given = c.highest_given-list.ensures in
    let one : with_change x.number change items ≡ set items c.args.at (change x) = change-at change items c.args.at x c.self.invariant.numbers.numbered within c.index_mut-list.ensures.value in
    let same : x ≡ list = at_place items c.args.at x list within c.index_mut-list.ensures.value (ap (λ (t : Table). slice_get t.lists c.args.at) c.self.view_is ∙ there) in
    simp to_z-of_z
    (ap (λ (n : ℕ). record { limit = inside.limit; next = inside.next; lists = set items c.args.at (record x { end = c.args.end; given = n; mark = c.args.mark }) }) raised
    ∙ ap (λ (lists : List OpenList). record { limit = inside.limit; next = inside.next; lists = lists }) (sym one)
    ∙ ap (λ (y : OpenList). record { limit = inside.limit; next = inside.next; lists = with_change y.number change items }) same
    ∙ ap (λ (t : Table). record t { lists = with_change list.number change t.lists }) c.self.view_is)
