-- SetSpecs are all new, put one after the other to the names above them, just where none of them covers another.
use Rattle.std.proofs.Common.{◌≡◌, ◌∙◌, ℕ, Bool, true, false, ◌||◌, ◌&&◌, not, List, [], ◌∷◌, inl, inr, refl, sym, ap, subst, Bor}
use Rattle.std.specs.BTreeSet.{BTreeSet, Updates}
use Rattle.std.specs.Cmp.Lexicographic.{slice_cmp}
use Rattle.std.specs.List.{list_all, list_any}
use Rattle.std.specs.Ordering.{nat_cmp}
use Rattle.std.specs.Str.{bytes_eq}
use Rattle.std.proofs.lemmas.Bool.{and_from, and_parts, both_ways, false≢true, false_from_ne_true, not-true, not_from_false, or_cases, or_from, or_left, or_parts, or_right}
use Rattle.std.proofs.lemmas.Slice.Eq.{bytes_eq-Decides}
use Rattle.oai_names.specs.Sets.{covers}
use Rattle.oai_item.specs.Membership.{is_above, neither_covers, none_covers}
use Rattle.oai_item.specs.Reductions.{are_fresh, holds}
use Rattle.oai_item.specs.Rules.{has_repeat}
use Rattle.oai_item.proofs.Above.{holds_more}
use Rattle.oai_item.proofs.Apart.{none_test}
use Rattle.oai_item.proofs.Kept.{Has, any_has, apart_from, bytes_eq_itself, has_any}
use Rattle.oai_item.proofs.SetLaws.{covers_itself, same_from_both}

-- ---- what it says that texts are new

-- none is taken, and none stands twice
record AreFree (taken : List ℕ → Bool) (texts : List (List ℕ)) : Type 0 where
  pub once : has_repeat texts ≡ false
  pub free : (t : List ℕ) → Has texts t → taken t ≡ false

new_are_free : (taken : List ℕ → Bool) (texts : List (List ℕ)) → are_fresh taken texts ≡ true → AreFree taken texts
new_are_free taken [] new = record { once = refl; free = λ t has. absurd (false≢true has) }
new_are_free taken (x ∷ texts) new =
    let more : List ℕ → Bool = λ q. bytes_eq q x || taken q in
    let parts = and_parts (not (taken x)) (are_fresh more texts) new in
    let rest = new_are_free more texts parts.1 in
    record {
      once = or_from _ _
          (false_from_ne_true _ (λ has. both_ways _ (or_parts (bytes_eq x x) (taken x) (rest.free x has)).0 (bytes_eq_itself x)))
          rest.once;
      free = λ t has. elim (or_cases (bytes_eq t x) (list_any (bytes_eq t) texts) has) [
        | inl here ↦ subst (λ u. taken u ≡ false) (sym ((bytes_eq-Decides t x).0 here)) (not-true _ parts.0)
        | inr later ↦ (or_parts (bytes_eq t x) (taken t) (rest.free t later)).1
      ];
    }

free_are_new : (taken : List ℕ → Bool) (texts : List (List ℕ)) → AreFree taken texts → are_fresh taken texts ≡ true
free_are_new taken [] are = refl
free_are_new taken (x ∷ texts) are =
    let more : List ℕ → Bool = λ q. bytes_eq q x || taken q in
    let parts = or_parts (list_any (bytes_eq x) texts) (has_repeat texts) are.once in
    and_from _ _
    (not_from_false _ (are.free x (or_left _ _ (bytes_eq_itself x))))
    (free_are_new more texts (record {
      once = parts.1;
      free = λ t has. or_from _ _
          (false_from_ne_true _ (λ same. both_ways _ parts.0 (subst (Has texts) ((bytes_eq-Decides t x).0 same) has)))
          (are.free t (or_right _ _ has));
    }))

-- ---- what it says that of setSpecs none covers another

all_has : (test : List ℕ → Bool) (texts : List (List ℕ)) (t : List ℕ) → list_all test texts ≡ true → Has texts t → test t ≡ true
all_has test [] t all has = absurd (false≢true has)
all_has test (x ∷ texts) t all has =
    let parts = and_parts (test x) (list_all test texts) all in
    elim (or_cases (bytes_eq t x) (list_any (bytes_eq t) texts) has) [
      | inl here ↦ ap test ((bytes_eq-Decides t x).0 here) ∙ parts.0
      | inr later ↦ all_has test texts t parts.1 later
    ]

above_covers : (s t : List ℕ) → is_above s t ≡ true → (covers s t ≡ true) × (bytes_eq s t ≡ false)
unfolding is_above
above_covers s t above = let parts = and_parts (covers s t) (not (bytes_eq s t)) above in (parts.0, not-true _ parts.1)

not_above : (s t : List ℕ) → covers s t ≡ false → is_above s t ≡ false
not_above s t free = false_from_ne_true _ (λ above. both_ways _ free (above_covers s t above).0)

not_above_itself : (s : List ℕ) → is_above s s ≡ false
not_above_itself s = false_from_ne_true _ (λ above. both_ways _ (above_covers s s above).1 (bytes_eq_itself s))

neither_parts : (s t : List ℕ) → neither_covers s t ≡ true → (covers s t ≡ false) × (covers t s ≡ false)
neither_parts s t neither =
    let parts = and_parts (not (covers s t)) (not (covers t s)) neither in
    (not-true _ parts.0, not-true _ parts.1)

-- a setSpec is above none of others of which it covers none
above_none : (s : List ℕ) (sets : List (List ℕ)) → ((t : List ℕ) → Has sets t → is_above s t ≡ false) → list_any (is_above s) sets ≡ false
above_none s sets free = false_from_ne_true _ (λ some. let found = any_has (is_above s) sets some in both_ways _ (free found.0 found.1) found.2)

apart_are_free : (sets : List (List ℕ)) → none_covers sets ≡ true → AreFree (λ q. list_any (is_above q) sets) sets
apart_are_free [] apart = record { once = refl; free = λ t has. absurd (false≢true has) }
apart_are_free (x ∷ sets) apart =
    let parts = and_parts (list_all (neither_covers x) sets) (none_covers sets) apart in
    let beside : (t : List ℕ) → Has sets t → (covers x t ≡ false) × (covers t x ≡ false) = λ t has. neither_parts x t (all_has (neither_covers x) sets t parts.0 has) in
    let rest = apart_are_free sets parts.1 in
    record {
      once = or_from _ _ (false_from_ne_true _ (λ has. both_ways _ (beside x has).0 (covers_itself x))) rest.once;
      free = λ t has. elim (or_cases (bytes_eq t x) (list_any (bytes_eq t) sets) has) [
        | inl here ↦
            let same = (bytes_eq-Decides t x).0 here in
            subst (λ u. list_any (is_above u) (x ∷ sets) ≡ false) (sym same)
            (or_from _ _ (not_above_itself x) (above_none x sets (λ u found. not_above x u (beside u found).0)))
        | inr later ↦ or_from _ _ (not_above t x (beside t later).1) (rest.free t later)
      ];
    }

pub new_is_apart : (sets : List (List ℕ)) → are_fresh (λ q. list_any (is_above q) sets) sets ≡ none_covers sets
new_is_apart sets =
    same_from_both _ _
    (λ new.
    let are = new_are_free (λ q. list_any (is_above q) sets) sets new in
    none_test sets (apart_from sets are.once (λ s t has_s has_t. false_from_ne_true _ (λ above. both_ways _ (are.free s has_s) (has_any (is_above s) sets t has_t above)))))
    (λ apart. free_are_new (λ q. list_any (is_above q) sets) sets (apart_are_free sets apart))

-- ---- one name more

-- the rest is new to a set of names that took in the first, just where all are new to those that it had
pub new_more : (old new : BTreeSet (Bor (List ℕ))) (key : Bor (List ℕ)) (texts rest : List (List ℕ)) → Updates (λ x y. slice_cmp nat_cmp x.now y.now) old new key true
    → not (holds old key.now) ≡ true → texts ≡ key.now ∷ rest → are_fresh (holds new) rest ≡ are_fresh (holds old) texts
new_more old new key texts rest updates first is =
    (λ k. are_fresh (λ q. holds_more old new key updates q k) rest)
    ∙ sym (ap (λ b. b && are_fresh (λ q. bytes_eq q key.now || holds old q) rest) first)
    ∙ ap (are_fresh (holds old)) (sym is)
