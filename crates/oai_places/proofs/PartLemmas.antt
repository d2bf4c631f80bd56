-- Parts of what is wanted, item by item and place by place.
use Rattle.std.proofs.Common.{◌≡◌, ◌∙◌, ◌+◌, ◌-◌, ◌<◌, ◌≤◌, inl, inr, ℕ, suc, zero, Bool, true, false, cond, ◌&&◌, List, [], ◌∷◌, ◌++◌, length, take, drop, get_or, refl, sym, ap, subst, arith, append_assoc, append-nil, length-append}
use Rattle.std.specs.Prelude.{filter}
use Rattle.std.specs.List.{list_all}
use Rattle.std.proofs.lemmas.Bool.{and_parts, cases_Bool, cond-false, cond-true}
use Rattle.std.proofs.lemmas.List.{take-append-drop, take_more}
use Rattle.std.proofs.lemmas.List.Elements.{filter-append}
use Rattle.oai_item.specs.Item.{ItemState}
use Rattle.oai_item.specs.Encoding.{Spells, encoded}
use Rattle.oai_places.specs.Pages.{AreStorable}
use Rattle.oai_places.specs.Parts.{IsPartTaken}

-- one after the other
pub taken_both : (p : ItemState → Bool) (most : ℕ) (old mid new : List ItemState) (skip between left : ℕ) (xs ys : List ItemState)
    → IsPartTaken p most old mid skip between xs → IsPartTaken p most mid new between left ys → IsPartTaken p most old new skip left (xs ++ ys)
taken_both p most old mid new skip between left xs ys h k rest =
    k rest ∙ h (ys ++ rest) ∙ ap (λ zs. old ++ take (most - length old) (drop skip (filter p zs))) (sym (append_assoc xs ys rest))

-- where there are enough, nothing more is taken
pub taken_enough : (p : ItemState → Bool) (most : ℕ) (part : List ItemState) (skip left : ℕ) (items : List ItemState) → most ≤ length part → IsPartTaken p most part part skip left items
taken_enough p most part skip left items enough rest =
    let none : most - length part ≡ 0 = omega arith in
    rw none refl

-- an item that is not wanted
pub taken_not : (p : ItemState → Bool) (most : ℕ) (part : List ItemState) (skip : ℕ) (x : ItemState) → p x ≡ false → IsPartTaken p most part part skip skip (x ∷ [])
taken_not p most part skip x fails rest =
    ap (λ zs. part ++ take (most - length part) (drop skip zs)) (sym (cond-false (p x) (x ∷ filter p rest) (filter p rest) fails))

-- one that is passed over
pub taken_over : (p : ItemState → Bool) (most : ℕ) (part : List ItemState) (skip : ℕ) (x : ItemState) → p x ≡ true → 0 < skip → IsPartTaken p most part part skip (skip - 1) (x ∷ [])
taken_over p most part skip x passes some rest =
    let n : skip ≡ suc (skip - 1) = omega arith in
    ap (λ zs. part ++ take (most - length part) zs)
    (ap (λ m. drop m (x ∷ filter p rest)) (sym n) ∙ ap (λ zs. drop skip zs) (sym (cond-true (p x) (x ∷ filter p rest) (filter p rest) passes)))

-- one that is taken
pub taken_one : (p : ItemState → Bool) (most : ℕ) (part : List ItemState) (skip : ℕ) (x : ItemState) → p x ≡ true → skip ≡ 0 → length part < most → IsPartTaken p most part (part ++ x ∷ []) skip skip (x ∷ [])
taken_one p most part skip x passes none some rest =
    let n : most - length part ≡ suc (most - length (part ++ x ∷ [])) = omega (arith, length-append part (x ∷ [])) in
    append_assoc part (x ∷ []) (take (most - length (part ++ x ∷ [])) (drop skip (filter p rest)))
    ∙ ap (λ m. part ++ (x ∷ take (most - length (part ++ x ∷ [])) (drop m (filter p rest)))) none
    ∙ ap (λ m. part ++ take m (x ∷ filter p rest)) (sym n)
    ∙ ap (λ zs. part ++ take (most - length part) zs) (sym (cond-true (p x) (x ∷ filter p rest) (filter p rest) passes))
    ∙ ap (λ m. part ++ take (most - length part) (drop m (filter p (x ∷ rest)))) (sym none)

none_of : (n : ℕ) → drop {A = ItemState} n [] ≡ []
none_of zero = refl
none_of (suc n) = refl

none_taken : (n : ℕ) → take {A = ItemState} n [] ≡ []
none_taken zero = refl
none_taken (suc n) = refl

-- no item is left, or the part has as many as it may
pub part_ends : (most skip : ℕ) (part rest whole : List ItemState) → rest ≡ [] → part ++ take most (drop skip rest) ≡ whole → part ≡ whole
part_ends most skip part rest whole none h =
    sym (append-nil part) ∙ ap (λ zs. part ++ zs) (sym (none_taken most) ∙ ap (λ zs. take most zs) (sym (none_of skip) ∙ ap (λ zs. drop skip zs) (sym none))) ∙ h

pub part_full : (most : ℕ) (part rest whole : List ItemState) → most ≤ length part → part ++ take (most - length part) rest ≡ whole → part ≡ whole
part_full most part rest whole enough h =
    let none : most - length part ≡ 0 = omega arith in
    sym (append-nil part) ∙ ap (λ m. part ++ take m rest) (sym none) ∙ h

-- items of which no more are wanted than are to be skipped
pub taken_past : (p : ItemState → Bool) (most : ℕ) (part : List ItemState) (skip : ℕ) (items : List ItemState) → length (filter p items) ≤ skip
    → IsPartTaken p most part part skip (skip - length (filter p items)) items
taken_past p most part skip items few rest =
    ap (λ zs. part ++ take (most - length part) zs)
    (sym (ap (λ zs. drop skip zs) (filter-append p items rest) ∙ drop_past (filter p items) (filter p rest) skip few)) where
      drop_past : (xs ys : List ItemState) (n : ℕ) → length xs ≤ n → drop n (xs ++ ys) ≡ drop (n - length xs) ys
      drop_past [] ys n few = let e : n ≡ n - 0 = omega arith in ap (λ m. drop m ys) e
      drop_past (x ∷ xs) ys zero few = absurd (omega arith)
      drop_past (x ∷ xs) ys (suc n) few = let e : suc n - length (x ∷ xs) ≡ n - length xs = omega arith in drop_past xs ys n (omega arith) ∙ ap (λ m. drop m ys) (sym e)

-- a test that is weaker passes no fewer
pub fewer : {X : Type 0} (p q : X → Bool) → ((x : X) → p x ≡ true → q x ≡ true) → (items : List X) → length (filter p items) ≤ length (filter q items)
fewer p q so [] = omega arith
fewer p q so (x ∷ items) =
    let rest = fewer p q so items in
    elim (cases_Bool (p x)) [
      | inl passes ↦
          omega (arith, rest, ap length (cond-true (p x) (x ∷ filter p items) (filter p items) passes), ap length (cond-true (q x) (x ∷ filter q items) (filter q items) (so x passes)))
      | inr fails ↦
          omega (arith, rest, ap length (cond-false (p x) (x ∷ filter p items) (filter p items) fails), no_less (q x))
    ] where
      no_less : (b : Bool) → length (filter q items) ≤ length (cond b (x ∷ filter q items) (filter q items))
      no_less true = omega arith
      no_less false = omega arith

-- what passes two tests
pub filter_both : (p q : ItemState → Bool) (items : List ItemState) → filter p (filter q items) ≡ filter (λ x. q x && p x) items
filter_both p q [] = refl
filter_both p q (x ∷ items) =
    elim (cases_Bool (q x)) [
      | inl passes ↦
          ap (filter p) (cond-true (q x) (x ∷ filter q items) (filter q items) passes)
          ∙ ap (λ zs. cond (p x) (x ∷ zs) zs) (filter_both p q items)
          ∙ ap (λ b. cond (b && p x) (x ∷ filter (λ y. q y && p y) items) (filter (λ y. q y && p y) items)) (sym passes)
      | inr fails ↦
          ap (filter p) (cond-false (q x) (x ∷ filter q items) (filter q items) fails)
          ∙ filter_both p q items
          ∙ ap (λ b. cond (b && p x) (x ∷ filter (λ y. q y && p y) items) (filter (λ y. q y && p y) items)) (sym fails)
    ]

-- two tests that agree on items that are stored
pub filter_alike : (p q : ItemState → Bool) → ((x : ItemState) → Spells (encoded x) x → p x ≡ q x) → (items : List ItemState) → AreStorable items → filter p items ≡ filter q items
filter_alike p q same [] h = refl
filter_alike p q same (x ∷ items) h =
    ap (λ b. cond b (x ∷ filter p items) (filter p items)) (same x h.0) ∙ ap (λ zs. cond (q x) (x ∷ zs) zs) (filter_alike p q same items h.1)

-- ---- items one after the other

filter_more : (p : ItemState → Bool) (items : List ItemState) (i : ℕ) (d : ItemState) → i < length items → filter p (take (i + 1) items) ≡ filter p (take i items) ++ filter p (get_or items i d ∷ [])
filter_more p items i d within = ap (filter p) (take_more items i d within) ∙ filter-append p (take i items) (get_or items i d ∷ [])

pub counted_yes : (p : ItemState → Bool) (items : List ItemState) (i : ℕ) (d : ItemState) → i < length items → p (get_or items i d) ≡ true → length (filter p (take (i + 1) items)) ≡ length (filter p (take i items)) + 1
counted_yes p items i d within passes =
    ap length (filter_more p items i d within) ∙ length-append (filter p (take i items)) (filter p (get_or items i d ∷ []))
    ∙ ap (λ zs. length (filter p (take i items)) + length zs) (cond-true (p (get_or items i d)) (get_or items i d ∷ []) [] passes)

pub counted_no : (p : ItemState → Bool) (items : List ItemState) (i : ℕ) (d : ItemState) → i < length items → p (get_or items i d) ≡ false → length (filter p (take (i + 1) items)) ≡ length (filter p (take i items))
counted_no p items i d within fails =
    let n : length (filter p (take i items)) + 0 ≡ length (filter p (take i items)) = omega arith in
    ap length (filter_more p items i d within) ∙ length-append (filter p (take i items)) (filter p (get_or items i d ∷ []))
    ∙ ap (λ zs. length (filter p (take i items)) + length zs) (cond-false (p (get_or items i d)) (get_or items i d ∷ []) [] fails) ∙ n

pub taken_more : (p : ItemState → Bool) (most : ℕ) (old mid new : List ItemState) (skip between left : ℕ) (items : List ItemState) (i : ℕ) (d : ItemState) → i < length items
    → IsPartTaken p most old mid skip between (take i items) → IsPartTaken p most mid new between left (get_or items i d ∷ []) → IsPartTaken p most old new skip left (take (i + 1) items)
taken_more p most old mid new skip between left items i d within h k =
    subst (λ (xs : List ItemState). IsPartTaken p most old new skip left xs) (sym (take_more items i d within)) (taken_both p most old mid new skip between left (take i items) (get_or items i d ∷ []) h k)

pub taken_stopped : (p : ItemState → Bool) (most : ℕ) (old part : List ItemState) (skip left : ℕ) (items : List ItemState) (i : ℕ)
    → IsPartTaken p most old part skip left (take i items) → most ≤ length part → IsPartTaken p most old part skip left items
taken_stopped p most old part skip left items i h enough =
    subst (λ (xs : List ItemState). IsPartTaken p most old part skip left xs) (take-append-drop i items)
    (taken_both p most old part part skip left left (take i items) (drop i items) h (taken_enough p most part left left (drop i items) enough))

-- ---- one item more: taken, passed over, or not wanted

pub one_taken : (p : ItemState → Bool) (most : ℕ) (old mid new : List ItemState) (skip between left : ℕ) (items : List ItemState) (i : ℕ) (d : ItemState) → i < length items
    → IsPartTaken p most old mid skip between (take i items) → p (get_or items i d) ≡ true → between ≡ 0 → length mid < most → new ≡ mid ++ get_or items i d ∷ [] → left ≡ between
    → IsPartTaken p most old new skip left (take (i + 1) items)
one_taken p most old mid new skip between left items i d within h passes none some new_is left_is =
    subst (λ (l : ℕ). IsPartTaken p most old new skip l (take (i + 1) items)) (sym left_is)
    (subst (λ (xs : List ItemState). IsPartTaken p most old xs skip between (take (i + 1) items)) (sym new_is)
    (taken_more p most old mid (mid ++ get_or items i d ∷ []) skip between between items i d within h (taken_one p most mid between (get_or items i d) passes none some)))

not_none : (n : ℕ) → (n ≡ 0 → ⊥) → 0 < n
not_none zero h = absurd (h refl)
not_none (suc n) h = omega arith

pub one_over : (p : ItemState → Bool) (most : ℕ) (old mid new : List ItemState) (skip between left : ℕ) (items : List ItemState) (i : ℕ) (d : ItemState) → i < length items
    → IsPartTaken p most old mid skip between (take i items) → p (get_or items i d) ≡ true → (between ≡ 0 → ⊥) → new ≡ mid → left ≡ between - 1
    → IsPartTaken p most old new skip left (take (i + 1) items)
one_over p most old mid new skip between left items i d within h passes some new_is left_is =
    subst (λ (l : ℕ). IsPartTaken p most old new skip l (take (i + 1) items)) (sym left_is)
    (subst (λ (xs : List ItemState). IsPartTaken p most old xs skip (between - 1) (take (i + 1) items)) (sym new_is)
    (taken_more p most old mid mid skip between (between - 1) items i d within h (taken_over p most mid between (get_or items i d) passes (not_none between some))))

pub one_not : (p : ItemState → Bool) (most : ℕ) (old mid new : List ItemState) (skip between left : ℕ) (items : List ItemState) (i : ℕ) (d : ItemState) → i < length items
    → IsPartTaken p most old mid skip between (take i items) → p (get_or items i d) ≡ false → new ≡ mid → left ≡ between
    → IsPartTaken p most old new skip left (take (i + 1) items)
one_not p most old mid new skip between left items i d within h fails new_is left_is =
    subst (λ (l : ℕ). IsPartTaken p most old new skip l (take (i + 1) items)) (sym left_is)
    (subst (λ (xs : List ItemState). IsPartTaken p most old xs skip between (take (i + 1) items)) (sym new_is)
    (taken_more p most old mid mid skip between between items i d within h (taken_not p most mid between (get_or items i d) fails)))

-- ---- items that are all wanted

passed_all : (p : ItemState → Bool) (items : List ItemState) (n : ℕ) → list_all p items ≡ true → n ≤ length items → length (filter p (take n items)) ≡ n
passed_all p [] zero all within = refl
passed_all p (x ∷ items) zero all within = refl
passed_all p [] (suc n) all within = absurd (omega (arith, within))
passed_all p (x ∷ items) (suc n) all within =
    let parts = and_parts (p x) (list_all p items) all in
    ap length (cond-true (p x) (x ∷ filter p (take n items)) (filter p (take n items)) parts.0) ∙ ap (λ m. suc m) (passed_all p items n parts.1 (omega (arith, within)))

-- the first ones are skipped
pub taken_first : (p : ItemState → Bool) (most : ℕ) (part : List ItemState) (skip : ℕ) (items : List ItemState) → list_all p items ≡ true → skip ≤ length items
    → IsPartTaken p most part part skip 0 (take skip items)
taken_first p most part skip items all within =
    let is = passed_all p items skip all within in
    let none : skip - length (filter p (take skip items)) ≡ 0 = omega (arith, is) in
    subst (λ (m : ℕ). IsPartTaken p most part part skip m (take skip items)) none (taken_past p most part skip (take skip items) (omega (arith, is)))

pub passes_at : (p : ItemState → Bool) (items : List ItemState) (i : ℕ) (d : ItemState) → list_all p items ≡ true → i < length items → p (get_or items i d) ≡ true
passes_at p [] i d all within = absurd (omega (arith, within))
passes_at p (x ∷ items) zero d all within = (and_parts (p x) (list_all p items) all).0
passes_at p (x ∷ items) (suc i) d all within = passes_at p items i d (and_parts (p x) (list_all p items) all).1 (omega (arith, within))
