-- The earliest of the ends of open lists.
use Rattle.std.proofs.Common.{◌≡◌, ◌∙◌, ℕ, suc, zero, ◌<◌, ℤ, ◌-ℤ◌, ◌≤ℤ◌, Bool, true, List, [], ◌∷◌, map, length, get_or, Some, sym, ap, subst, arith}
use Rattle.std.specs.Int.{int_min}
use Rattle.std.specs.List.{list_all}
use Rattle.std.proofs.lemmas.List.Sums.{AllPass-from_list_all}
use Rattle.std.proofs.lemmas.Int.{ints}
use Rattle.oai_catalogue.specs.Store.{VersionLists}
use Rattle.oai_lists.specs.OpenLists.{IsEarliest}
use Rattle.oai_lists.specs.declared.open_lists.OpenList.{OpenList}
use Rattle.oai_repo.specs.Fields.{frozen_in}
use Rattle.oai_repo.specs.Listing.{earliest_end, seconds_to_end}

-- ---- numbers of moments

min_first : (a b : ℤ) → int_min a b ≤ℤ a
min_first a b = grind (arith, ints)

min_second : (a b c : ℤ) → b ≤ℤ c → int_min a b ≤ℤ c
min_second a b c h = grind (arith, ints)

min_above : (e a b : ℤ) → e ≤ℤ a → e ≤ℤ b → e ≤ℤ int_min a b
min_above e a b h k = grind (arith, ints)

one_moment : (a b : ℤ) → a ≤ℤ b → b ≤ℤ a → a ≡ b
one_moment a b h k = grind (arith, ints)

itself : (a : ℤ) → a ≤ℤ a
itself a = grind (arith, ints)

-- ---- the earliest of the ends

first_end : (all : VersionLists) (x : OpenList) (lists : List OpenList) → ℤ
first_end all x lists = earliest_end (frozen_in all x) (map (frozen_in all) lists)

none_earlier : (all : VersionLists) (x : OpenList) (lists : List OpenList) (k : ℕ) (d : OpenList) → k < length (x ∷ lists) → first_end all x lists ≤ℤ (get_or (x ∷ lists) k d).end
unfolding first_end
none_earlier all x [] zero d within = itself x.end
none_earlier all x [] (suc k) d within = absurd (omega (arith, within))
none_earlier all x (y ∷ lists) zero d within = min_first x.end (first_end all y lists)
none_earlier all x (y ∷ lists) (suc k) d within =
    min_second x.end (first_end all y lists) (get_or (y ∷ lists) k d).end (none_earlier all y lists k d (omega (arith, within)))

not_later : (all : VersionLists) (x : OpenList) (lists : List OpenList) (e : ℤ) → ((k : ℕ) (d : OpenList) → k < length (x ∷ lists) → e ≤ℤ (get_or (x ∷ lists) k d).end) → e ≤ℤ first_end all x lists
unfolding first_end
not_later all x [] e h = h 0 x (omega arith)
not_later all x (y ∷ lists) e h =
    min_above e x.end (first_end all y lists) (h 0 x (omega arith)) (not_later all y lists e (λ k d within. h (suc k) d (omega (arith, within))))

earliest_is : (all : VersionLists) (x : OpenList) (lists : List OpenList) (e : ℤ) → IsEarliest (x ∷ lists) (Some e) → first_end all x lists ≡ e
earliest_is all x lists e is =
    let one = is.0 in
    let place = one.1 in
    one_moment (first_end all x lists) e
    (subst (λ (m : ℤ). first_end all x lists ≤ℤ m) (ap (λ (list : OpenList). list.end) place.2 ∙ one.2) (none_earlier all x lists place.0 one.0 place.1))
    (not_later all x lists e is.1)

pub seconds_is : (all : VersionLists) (now e : ℤ) (lists : List OpenList) → IsEarliest lists (Some e) → seconds_to_end now (map (frozen_in all) lists) ≡ e -ℤ now
unfolding first_end
seconds_is all now e [] is = absurd (omega (arith, is.0.1.1))
seconds_is all now e (x ∷ lists) is = ap (λ (m : ℤ). m -ℤ now) (earliest_is all x lists e is)

-- the end is one of a list, of which each test of all holds
pub end_passes : (p : ℤ → Bool) (lists : List OpenList) (e : ℤ) → IsEarliest lists (Some e) → list_all (λ list. p list.end) lists ≡ true → p e ≡ true
end_passes p lists e is h =
    let one = is.0 in
    let place = one.1 in
    ap p (sym (ap (λ (list : OpenList). list.end) place.2 ∙ one.2)) ∙ AllPass-from_list_all (λ list. p list.end) lists h place.0 one.0 place.1
