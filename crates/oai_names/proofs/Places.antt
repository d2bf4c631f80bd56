-- The index of the sets: what a place says of the sets, and the place of a set that is added at the end.
use Rattle.std.proofs.Common.{◌≡◌, ◌∙◌, ℕ, suc, zero, true, false, cond, if◌then◌else◌, List, [], ◌∷◌, ◌++◌, length, Option, None, Some, is_some, inl, inr, refl, sym, ap, subst}
use Rattle.std.proofs.lemmas.Bool.{cases_Bool, cond-true, cond-false, or_from, or_left, or_right}
use Rattle.std.proofs.lemmas.List.Folds.{list_any-append}
use Rattle.std.proofs.lemmas.Map.Text.{btree_map_updates_text}
use Rattle.std.proofs.lemmas.Option.{none-some, same_Some}
use Rattle.std.proofs.lemmas.Slice.Eq.{bytes_eq-Decides}
use Rattle.std.specs.BTreeMap.{BTreeMap, UpdatesBy, get_by_text}
use Rattle.std.specs.Str.{bytes_eq}
use Rattle.std.specs.String.{string_bytes, string_cmp}
use Rattle.std.specs.declared.string.String.{String}
use Rattle.oai_names.proofs.Covering.{same_test}
use Rattle.oai_names.specs.SetPlaces.{IsSetPlace, spec_at}
use Rattle.oai_names.specs.Sets.{has_set}

-- the set at a place is one of the sets
set_there : (sets : List (List ℕ × List ℕ)) (place : ℕ) (spec : List ℕ) → spec_at sets place ≡ Some spec → has_set sets spec ≡ true
set_there [] place spec h = absurd (none-some spec h)
set_there (set ∷ sets) zero spec h = or_left _ _ ((bytes_eq-Decides spec set.0).1 (sym (same_Some set.0 spec h)))
set_there (set ∷ sets) (suc place) spec h = or_right _ _ (set_there sets place spec h)

-- whether there is a place says whether there is a set
pub place_tells : (sets : List (List ℕ × List ℕ)) (spec : List ℕ) (place : Option ℕ) → IsSetPlace sets spec place → is_some place ≡ has_set sets spec
place_tells sets spec None none = sym none
place_tells sets spec (Some place) there = sym (set_there sets place spec there)

-- what stands at the place, or nowhere, is the setSpec if it is that of a set
pub found_at : (sets : List (List ℕ × List ℕ)) (spec : List ℕ) (place : ℕ) → spec_at sets place ≡ Some spec → spec_at sets place ≡ (if has_set sets spec then Some spec else None)
found_at sets spec place there = there ∙ sym (cond-true _ _ _ (set_there sets place spec there))

pub found_none : (sets : List (List ℕ × List ℕ)) (spec : List ℕ) → has_set sets spec ≡ false → None ≡ (if has_set sets spec then Some spec else None)
found_none sets spec none = sym (cond-false _ _ _ none)

bytes_eq_sym : (xs ys : List ℕ) → bytes_eq xs ys ≡ bytes_eq ys xs
bytes_eq_sym xs ys =
    let back = bytes_eq-Decides ys xs in
    same_test {P = xs ≡ ys} _ _ (bytes_eq-Decides xs ys) ((λ h. sym (back.0 h)), λ e. back.1 (sym e))

last_there : (sets : List (List ℕ × List ℕ)) (set : List ℕ × List ℕ) → spec_at (sets ++ set ∷ []) (length sets) ≡ Some set.0
last_there [] set = refl
last_there (first ∷ sets) set = last_there sets set

still_there : (sets : List (List ℕ × List ℕ)) (set : List ℕ × List ℕ) (place : ℕ) (spec : List ℕ) → spec_at sets place ≡ Some spec → spec_at (sets ++ set ∷ []) place ≡ Some spec
still_there [] set place spec h = absurd (none-some spec h)
still_there (first ∷ sets) set zero spec h = h
still_there (first ∷ sets) set (suc place) spec h = still_there sets set place spec h

-- a place among the sets is one among them and a set behind them, of another setSpec
place_kept : (sets : List (List ℕ × List ℕ)) (spec name q : List ℕ) (place : Option ℕ) → bytes_eq spec q ≡ false → IsSetPlace sets q place → IsSetPlace (sets ++ (spec, name) ∷ []) q place
place_kept sets spec name q None other none =
    list_any-append (λ set. bytes_eq q set.0) sets ((spec, name) ∷ []) ∙ or_from _ _ none (or_from _ _ (bytes_eq_sym q spec ∙ other) refl)
place_kept sets spec name q (Some place) other there = still_there sets (spec, name) place q there

-- the index with one more place is that of the sets with one more
pub place_push : {Y : Type 0} (sets : List (List ℕ × List ℕ)) (spec name : List ℕ) (old new : BTreeMap (String Y) ℕ) (key : String Y) (place : ℕ)
    → string_bytes key ≡ spec → place ≡ length sets → UpdatesBy string_cmp (string_cmp key) old new (Some place)
    → ((q : List ℕ) → IsSetPlace sets q (get_by_text old q)) → (q : List ℕ) → IsSetPlace (sets ++ (spec, name) ∷ []) q (get_by_text new q)
place_push sets spec name old new key place is last updates held q =
    let updated : get_by_text new q ≡ cond (bytes_eq spec q) (Some place) (get_by_text old q) =
    btree_map_updates_text (string_bytes key) old new (Some place) updates q ∙ ap (λ s. cond (bytes_eq s q) (Some place) (get_by_text old q)) is
    in
    elim (cases_Bool (bytes_eq spec q)) [
      | inl same ↦
          let there : spec_at (sets ++ (spec, name) ∷ []) place ≡ Some q =
          ap (spec_at (sets ++ (spec, name) ∷ [])) last ∙ last_there sets (spec, name) ∙ ap Some ((bytes_eq-Decides spec q).0 same)
          in
          subst (IsSetPlace (sets ++ (spec, name) ∷ []) q) (sym (updated ∙ cond-true _ _ _ same)) there
      | inr other ↦
          subst (IsSetPlace (sets ++ (spec, name) ∷ []) q) (sym (updated ∙ cond-false _ _ _ other)) (place_kept sets spec name q (get_by_text old q) other (held q))
    ]
