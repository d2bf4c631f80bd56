use Rattle.std.proofs.Common.{rules, ◌≡◌, ◌∙◌, ◌<ℤ◌, ◌++◌, ℕ, FitsSigned, List, None, Some, arith, ap, option_map, subst, sym, true, w64}
use Rattle.std.specs.Prelude.{find, int_le, position}
use Rattle.std.specs.List.{after_first, before_first, list_all}
use Rattle.std.proofs.lemmas.Int.{ints, to_z-of_z}
use Rattle.oai_lists.specs.OpenLists.{IsEarliest, Table, has_ended, open_ones}
use Rattle.oai_lists.specs.declared.open_lists.OpenList.{OpenList}
use Rattle.oai_names.proofs.Lists.{find_none}
use Rattle.oai_lists.proofs.Ends.{all_last, earliest_bounds, first_left, first_place, found_first, held_removed, none_ended, none_left, none_passes, some_item}
use Rattle.oai_lists.proofs.lists.Lists.expire.Goals as goal

pub returns-then-now-self-clause-version : goal.returns-then-now-self-clause-version
returns-then-now-self-clause-version c =
    let fits : FitsSigned w64 c.args.now = c.ranges.now in
    let fits_end : FitsSigned w64 c.self.inside.earliest = search rules in
    let early : c.args.now <ℤ c.self.inside.earliest = omega (arith, ints, c.if-now-self.true) in
    sym (ap (λ (t : Table). option_map (λ (list : OpenList). list.version) (find (has_ended c.args.now) t.lists)) (sym c.self.view_is)
    ∙ ap (option_map (λ (list : OpenList). list.version)) (find_none (has_ended c.args.now) c.self.inside.lists.items (none_ended c.self.inside.earliest c.args.now c.self.inside.lists.items c.self.invariant.bound early)))

pub returns-then-now-self-clause-left : goal.returns-then-now-self-clause-left
returns-then-now-self-clause-left c =
    let fits : FitsSigned w64 c.args.now = c.ranges.now in
    let fits_end : FitsSigned w64 c.self.inside.earliest = search rules in
    let early : c.args.now <ℤ c.self.inside.earliest = omega (arith, ints, c.if-now-self.true) in
    let same : before_first (has_ended c.args.now) c.self.inside.lists.items ++ after_first (has_ended c.args.now) c.self.inside.lists.items ≡ c.self.inside.lists.items =
    none_left (has_ended c.args.now) c.self.inside.lists.items (none_ended c.self.inside.earliest c.args.now c.self.inside.lists.items c.self.invariant.bound early) in
    sym (ap (λ (t : Table). record t { lists = before_first (has_ended c.args.now) t.lists ++ after_first (has_ended c.args.now) t.lists }) (sym c.self.view_is)
    ∙ ap (λ (lists : List OpenList). record { limit = c.self.inside.limit; next = c.self.inside.next; lists = lists }) same ∙ c.self.view_is)

pub invariant_of-self : goal.invariant_of-self
invariant_of-self c =
    let fits : FitsSigned w64 c.args.now = c.ranges.now in
    let items : List OpenList = c.self.inside.lists.items in
    let place : position (has_ended c.args.now) items ≡ Some c.in-Some.at = sym (rw c.as_slice.ensures.value at (simp to_z-of_z at c.in-Some.ensures)) in
    rw c.drop_at.ensures.left (held_removed c.self.inside.limit c.self.inside.next items c.self.inside.earliest c.in-Some.at (first_place (has_ended c.args.now) items c.in-Some.at place).0 c.self.invariant)

pub invariant_of-self-in-None : goal.invariant_of-self-in-None
invariant_of-self-in-None c =
    let fits : FitsSigned w64 c.args.now = c.ranges.now in
    let fits_end : FitsSigned w64 c.unwrap_or-self-inside.result = record { sfits = c.unwrap_or-self-inside.type_inv } in
    let items : List OpenList = c.self.inside.lists.items in
    let place : position (has_ended c.args.now) items ≡ None = sym (rw c.as_slice.ensures.value at (simp to_z-of_z at c.in-None.ensures)) in
    let of_open : IsEarliest (open_ones c.args.now items) c.earliest.result = rw c.as_slice-in-None.ensures.value at (simp to_z-of_z at c.earliest.ensures) in
    let of_all : IsEarliest items c.earliest.result = subst (λ (ls : List OpenList). IsEarliest ls c.earliest.result) (all_last c.args.now items (none_passes (has_ended c.args.now) items place)) of_open in
    let bounds : list_all (λ (list : OpenList). int_le c.unwrap_or-self-inside.result list.end) items ≡ true = rw c.unwrap_or-self-inside.ensures (earliest_bounds items c.earliest.result _ of_all) in
    simp to_z-of_z (record { numbers = c.self.invariant.numbers; bound = bounds })

pub returns-in-Some-clause-version : goal.returns-in-Some-clause-version
returns-in-Some-clause-version c =
    let fits : FitsSigned w64 c.args.now = c.ranges.now in
    let items : List OpenList = c.self.inside.lists.items in
    let place : position (has_ended c.args.now) items ≡ Some c.in-Some.at = sym (rw c.as_slice.ensures.value at (simp to_z-of_z at c.in-Some.ensures)) in
    let first : (d : OpenList) → Some c.drop_at.result ≡ option_map (λ (list : OpenList). list.version) (find (has_ended c.args.now) items) = λ d.
    ap (λ (n : ℕ). Some n) (c.drop_at.ensures.version d) ∙ sym (ap (option_map (λ (list : OpenList). list.version)) (found_first (has_ended c.args.now) items c.in-Some.at d place)) in
    some_item items c.in-Some.at (first_place (has_ended c.args.now) items c.in-Some.at place).0 (Some c.drop_at.result ≡ option_map (λ (list : OpenList). list.version) (find (has_ended c.args.now) items)) first
    ∙ ap (λ (t : Table). option_map (λ (list : OpenList). list.version) (find (has_ended c.args.now) t.lists)) c.self.view_is

pub returns-in-Some-clause-left : goal.returns-in-Some-clause-left
returns-in-Some-clause-left c =
    let fits : FitsSigned w64 c.args.now = c.ranges.now in
    let items : List OpenList = c.self.inside.lists.items in
    let place : position (has_ended c.args.now) items ≡ Some c.in-Some.at = sym (rw c.as_slice.ensures.value at (simp to_z-of_z at c.in-Some.ensures)) in
    ap (λ (lists : List OpenList). record { limit = c.self.inside.limit; next = c.self.inside.next; lists = lists }) (c.drop_at.ensures.left ∙ first_left (has_ended c.args.now) items c.in-Some.at place)
    ∙ ap (λ (t : Table). record t { lists = before_first (has_ended c.args.now) t.lists ++ after_first (has_ended c.args.now) t.lists }) c.self.view_is

pub returns-in-None-clause-version : goal.returns-in-None-clause-version
returns-in-None-clause-version c =
    let fits : FitsSigned w64 c.args.now = c.ranges.now in
    let items : List OpenList = c.self.inside.lists.items in
    let place : position (has_ended c.args.now) items ≡ None = sym (rw c.as_slice.ensures.value at (simp to_z-of_z at c.in-None.ensures)) in
    sym (ap (λ (t : Table). option_map (λ (list : OpenList). list.version) (find (has_ended c.args.now) t.lists)) (sym c.self.view_is)
    ∙ ap (option_map (λ (list : OpenList). list.version)) (find_none (has_ended c.args.now) items (none_passes (has_ended c.args.now) items place)))

pub returns-in-None-clause-left : goal.returns-in-None-clause-left
returns-in-None-clause-left c =
    let fits : FitsSigned w64 c.args.now = c.ranges.now in
    let items : List OpenList = c.self.inside.lists.items in
    let place : position (has_ended c.args.now) items ≡ None = sym (rw c.as_slice.ensures.value at (simp to_z-of_z at c.in-None.ensures)) in
    ap (λ (lists : List OpenList). record { limit = c.self.inside.limit; next = c.self.inside.next; lists = lists }) (sym (none_left (has_ended c.args.now) items (none_passes (has_ended c.args.now) items place)))
    ∙ ap (λ (t : Table). record t { lists = before_first (has_ended c.args.now) t.lists ++ after_first (has_ended c.args.now) t.lists }) c.self.view_is
