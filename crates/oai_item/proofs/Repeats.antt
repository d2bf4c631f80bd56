-- Texts that stand twice in a list, found by a set of those that were met.
use Rattle.std.proofs.Common.{◌≡◌, ◌∙◌, ap, sym, ℕ, ◌+◌, ◌<◌, Bool, true, false, cond, ◌||◌, List, [], ◌∷◌, ◌++◌, length, take, drop, get_or, refl, Bor, inl, inr}
use Rattle.std.specs.Ordering.{nat_cmp}
use Rattle.std.specs.Cmp.Lexicographic.{slice_cmp}
use Rattle.std.specs.List.{list_any}
use Rattle.std.specs.Str.{bytes_eq}
use Rattle.std.specs.BTreeSet.{BTreeSet, Updates, contains_by}
use Rattle.std.proofs.lemmas.Bool.{false≢true, or_cases, or_left, or_right}
use Rattle.std.proofs.lemmas.Cmp.{nat_list_eq_equiv}
use Rattle.std.proofs.lemmas.List.{take_more, take-append-drop}
use Rattle.std.proofs.lemmas.List.Folds.{list_any-append}
use Rattle.std.proofs.lemmas.Map.Text.{is_eq-slice_cmp}
use Rattle.oai_item.specs.Rules.{has_repeat}

or_shuffle : (a b c d : Bool) → ((a || (b || false)) || (c || d)) ≡ ((b || c) || (a || d))
or_shuffle true true c d = refl
or_shuffle true false true d = refl
or_shuffle true false false d = refl
or_shuffle false true c d = refl
or_shuffle false false c d = refl

-- one more text
pub has_repeat-push : (texts : List (List ℕ)) (text : List ℕ) → has_repeat (texts ++ text ∷ []) ≡ (list_any (bytes_eq text) texts || has_repeat texts)
has_repeat-push [] text = refl
has_repeat-push (first ∷ texts) text =
    rw (list_any-append (bytes_eq first) texts (text ∷ []), has_repeat-push texts text, nat_list_eq_equiv.symm first text)
    (or_shuffle (list_any (bytes_eq first) texts) (bytes_eq text first) (list_any (bytes_eq text) texts) (has_repeat texts))

-- what repeats in the front repeats in the whole
has_repeat-front : (front texts : List (List ℕ)) → has_repeat front ≡ true → has_repeat (front ++ texts) ≡ true
has_repeat-front [] texts h = absurd (false≢true h)
has_repeat-front (first ∷ front) texts h =
    elim (or_cases (list_any (bytes_eq first) front) (has_repeat front) h) [
      | inl here ↦ or_left _ _ (list_any-append (bytes_eq first) front texts ∙ or_left _ _ here)
      | inr later ↦ or_right _ _ (has_repeat-front front texts later)
    ]

-- a text that stands before its place repeats
pub has_repeat_at : (texts : List (List ℕ)) (i : ℕ) (d : List ℕ) → i < length texts → list_any (bytes_eq (get_or texts i d)) (take i texts) ≡ true → has_repeat texts ≡ true
has_repeat_at texts i d within before =
    let pushed : has_repeat (take (i + 1) texts) ≡ true = ap has_repeat (take_more texts i d within) ∙ has_repeat-push (take i texts) (get_or texts i d) ∙ or_left _ _ before in
    sym (ap has_repeat (take-append-drop (i + 1) texts)) ∙ has_repeat-front (take (i + 1) texts) (drop (i + 1) texts) pushed

cond_or : (a b : Bool) → cond b true a ≡ (a || (b || false))
cond_or true true = refl
cond_or true false = refl
cond_or false true = refl
cond_or false false = refl

-- the set of the texts so far, with one more text
pub seen_more : (s n : BTreeSet (Bor (List ℕ))) (key : Bor (List ℕ)) (texts : List (List ℕ)) → Updates (λ x y. slice_cmp nat_cmp x.now y.now) s n key true → ((q : List ℕ) → contains_by (λ k. slice_cmp nat_cmp q k.now) s ≡ list_any (bytes_eq q) texts) → (q : List ℕ) → contains_by (λ k. slice_cmp nat_cmp q k.now) n ≡ list_any (bytes_eq q) (texts ++ key.now ∷ [])
seen_more s n key texts updates seen q =
    updates.0 (record { ref_ptr = key.ref_ptr; now = q })
    ∙ rw (is_eq-slice_cmp key.now q, nat_list_eq_equiv.symm key.now q, seen q, list_any-append (bytes_eq q) texts (key.now ∷ []))
    (cond_or (list_any (bytes_eq q) texts) (bytes_eq q key.now))
