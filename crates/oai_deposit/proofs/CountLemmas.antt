-- An object has at least as many members as it has distinct names.
use Rattle.std.proofs.Common.{◌≡◌, ◌≤◌, ◌∙◌, ℕ, Bool, true, false, ◌||◌, cond, eqb, List, [], ◌∷◌, length, Option, Some, IsSome, refl, ap, sym, subst, arith}
use Rattle.std.proofs.lemmas.Bool.{eqb-true}
use Rattle.std.specs.Ordering.{is_eq, match_ordering, nat_cmp}
use Rattle.std.specs.Cmp.Lexicographic.{slice_cmp}
use Rattle.std.specs.declared.cmp.Ordering.{Ordering}
use Rattle.std.specs.declared.cmp.Ordering.TheVariants.{Less, Equal, Greater}
use Rattle.std.specs.List.{AllByRecursion, IsDistinct, list_any}
use Rattle.std.specs.Str.{bytes_eq}
use Rattle.std.proofs.lemmas.Cmp.{nat_list_eq_equiv}
use Rattle.std.proofs.lemmas.Map.Steps.{length-le_from_keys}
use Rattle.std.proofs.lemmas.Map.Text.{is_eq-slice_cmp}
use Rattle.std.proofs.lemmas.Slice.Eq.{bytes_eq-Decides}
use Rattle.std.specs.Map.{lookup}
use Rattle.serde_json.specs.Data.{Data, Members, array, boolean, member, no_members, null, number, object, string}
use Rattle.serde_json.specs.Find.{get, get_member}
use Rattle.oai_json.specs.Json.{members_in, size}

-- what a name leads to among the members is what it leads to in the list of them
pub in_list : (k : List ℕ) (ms : Members) → get_member k ms ≡ lookup (bytes_eq k) (members_in ms)
in_list k no_members = refl
in_list k (member l e ms) =
    by_order (slice_cmp nat_cmp k l) (get_member k ms) (lookup (bytes_eq k) (members_in ms)) (in_list k ms)
    ∙ ap (λ (b : Bool). cond b (Some e) (lookup (bytes_eq k) (members_in ms))) (is_eq-slice_cmp k l)
  where
    by_order : (o : Ordering) (a b : Option Data) → a ≡ b → match_ordering o a (Some e) a ≡ cond (is_eq o) (Some e) b
    by_order Less a b same = same
    by_order Equal a b same = refl
    by_order Greater a b same = same

-- one of the names leads to something, or one of those behind it does
one_there : (q name : List ℕ) (names : List (List ℕ)) (ms : Members) → IsSome (get_member name ms)
    → (list_any (bytes_eq q) names ≡ true → IsSome (lookup (bytes_eq q) (members_in ms)))
    → (b : Bool) → bytes_eq q name ≡ b → (b || list_any (bytes_eq q) names) ≡ true → IsSome (lookup (bytes_eq q) (members_in ms))
one_there q name names ms there others true same has =
    let is : q ≡ name = (bytes_eq-Decides q name).0 same in
    subst (λ (t : List ℕ). IsSome (lookup (bytes_eq t) (members_in ms))) (sym is) (subst (λ (o : Option Data). IsSome o) (in_list name ms) there)
one_there q name names ms there others false same has = others has

each_there : (names : List (List ℕ)) (ms : Members) → AllByRecursion (λ name. IsSome (get_member name ms)) names
    → (q : List ℕ) → list_any (bytes_eq q) names ≡ true → IsSome (lookup (bytes_eq q) (members_in ms))
each_there [] ms all q has = absurd cc
each_there (name ∷ names) ms all q has = one_there q name names ms all.0 (each_there names ms all.1 q) (bytes_eq q name) refl has

pub as_many : (names : List (List ℕ)) (d : Data) → IsDistinct bytes_eq names → AllByRecursion (λ name. IsSome (get name d)) names → length names ≤ size d
as_many [] d distinct all = omega arith
as_many (name ∷ names) null distinct all = let none = all.0 in cc
as_many (name ∷ names) (boolean b) distinct all = let none = all.0 in cc
as_many (name ∷ names) (number n) distinct all = let none = all.0 in cc
as_many (name ∷ names) (string s) distinct all = let none = all.0 in cc
as_many (name ∷ names) (array ds) distinct all = let none = all.0 in cc
as_many (name ∷ names) (object ms) distinct all =
    length-le_from_keys nat_list_eq_equiv (name ∷ names) (members_in ms) distinct (each_there (name ∷ names) ms all)

-- a list of something is not of no length
pub not_empty : {A : Type 0} (x : A) (xs : List A) → eqb (length (x ∷ xs)) 0 ≡ false
not_empty x xs = by_test (eqb (length (x ∷ xs)) 0) refl
  where
    by_test : (b : Bool) → eqb (length (x ∷ xs)) 0 ≡ b → b ≡ false
    by_test true is = let none : length (x ∷ xs) ≡ 0 = eqb-true (length (x ∷ xs)) 0 is in absurd (omega arith)
    by_test false is = refl

pub is_empty : {A : Type 0} (x : A) (xs : List A) → eqb (length (x ∷ xs)) 0 ≡ true → ⊥
is_empty x xs is = let none : length (x ∷ xs) ≡ 0 = eqb-true (length (x ∷ xs)) 0 is in absurd (omega arith)
