-- Elements that stay by a flag for each, and how they are moved to the front.
use Rattle.std.proofs.Common.{length-set, ◌≡◌, ◌∙◌, ℕ, ◌+◌, ◌<◌, ◌≤◌, Bool, true, false, cond, List, [], ◌∷◌, ◌++◌, length, take, drop, get_or, set, inl, inr, refl, sym, ap, arith, append-nil}
use Rattle.std.specs.List.{list_all, swap}
use Rattle.std.proofs.lemmas.Bool.{and_from, and_parts, cases_lt, cond_both}
use Rattle.std.proofs.lemmas.List.Edits.{length-swap}
use Rattle.std.proofs.lemmas.List.{take_all, drop-set-lt, drop_more, get_or_default, get_or-drop, length-take-le, take-set, take-set-le, take_more, take_more_set}
use Rattle.oai_item.specs.Reductions.{flagged}

after_cond : {X : Type 0} (b : Bool) (x : X) (xs ys : List X) → cond b (x ∷ (xs ++ ys)) (xs ++ ys) ≡ cond b (x ∷ xs) xs ++ ys
after_cond true x xs ys = refl
after_cond false x xs ys = refl

-- one more element
pub flagged-push : {X : Type 0} (flags : List Bool) (xs : List X) (b : Bool) (x : X) → length flags ≡ length xs → flagged (flags ++ b ∷ []) (xs ++ x ∷ []) ≡ flagged flags xs ++ cond b (x ∷ []) []
flagged-push [] [] b x long = refl
flagged-push [] (y ∷ xs) b x long = absurd (omega arith)
flagged-push (flag ∷ flags) [] b x long = absurd (omega arith)
flagged-push (flag ∷ flags) (y ∷ xs) b x long =
    ap (λ ys. cond flag (y ∷ ys) ys) (flagged-push flags xs b x (omega arith)) ∙ after_cond flag y (flagged flags xs) (cond b (x ∷ []) [])

-- what is true of each element is true of those that stay
pub all-flagged : {X : Type 0} (p : X → Bool) (flags : List Bool) (xs : List X) → list_all p xs ≡ true → list_all p (flagged flags xs) ≡ true
all-flagged p [] xs h = refl
all-flagged p (flag ∷ flags) [] h = refl
all-flagged p (flag ∷ flags) (x ∷ xs) h =
    let parts = and_parts (p x) (list_all p xs) h in
    let rest = all-flagged p flags xs parts.1 in
    cond_both flag (x ∷ flagged flags xs) (flagged flags xs) (λ ys. list_all p ys ≡ true) (λ _. and_from (p x) (list_all p (flagged flags xs)) parts.0 rest) (λ _. rest)

-- the element at i takes the place k, in front of it or at it
pub front-swap : {X : Type 0} (xs : List X) (k i : ℕ) (d : X) → k ≤ i → i < length xs → take (k + 1) (swap xs k i) ≡ take k xs ++ get_or xs i d ∷ []
front-swap [] k i d before within = absurd (omega arith)
front-swap {X} (x ∷ xs) k i d before within =
    let all : List X = x ∷ xs in
    let a : X = get_or all i x in
    let b : X = get_or all k x in
    let same : a ≡ get_or all i d = get_or_default all i x d within in
    elim (cases_lt k i) [
      | inl less ↦
          take-set-le (k + 1) (set all k a) i b (omega arith) ∙ take_more_set all k a (omega arith) ∙ ap (λ y. take k all ++ y ∷ []) same
      | inr least ↦
          let here : k ≡ i = omega arith in
          ap (λ n. take (n + 1) (swap all n i)) here
          ∙ take_more_set (set all i a) i (get_or all i x) (omega (arith, length-set all i a))
          ∙ ap (λ ys. ys ++ a ∷ []) (take-set all i a)
          ∙ ap (λ n. take n all ++ a ∷ []) (sym here) ∙ ap (λ y. take k all ++ y ∷ []) same
    ]

-- what stands behind both is as it was
pub rest-swap : {X : Type 0} (xs : List X) (k i : ℕ) → k ≤ i → drop (i + 1) (swap xs k i) ≡ drop (i + 1) xs
rest-swap [] k i before = refl
rest-swap {X} (x ∷ xs) k i before =
    let all : List X = x ∷ xs in
    drop-set-lt (i + 1) (set all k (get_or all i x)) i (get_or all k x) (omega arith) ∙ drop-set-lt (i + 1) all k (get_or all i x) (omega arith)

at_same : {X : Type 0} (xs ys : List X) (i : ℕ) (d : X) → drop i ys ≡ drop i xs → get_or ys i d ≡ get_or xs i d
at_same xs ys i d same =
    let e : i + 0 ≡ i = omega arith in
    ap (λ n. get_or ys n d) (sym e) ∙ sym (get_or-drop i ys 0 d) ∙ ap (λ zs. get_or zs 0 d) same ∙ get_or-drop i xs 0 d ∙ ap (λ n. get_or xs n d) e

one_more : {X : Type 0} (flags : List Bool) (xs : List X) (i : ℕ) (d : X) (flag : Bool) → i < length flags → length flags ≡ length xs → get_or flags i false ≡ flag
    → flagged (take (i + 1) flags) (take (i + 1) xs) ≡ flagged (take i flags) (take i xs) ++ cond flag (get_or xs i d ∷ []) []
one_more flags xs i d flag within long is =
    let front : take (i + 1) flags ≡ take i flags ++ flag ∷ [] = take_more flags i false within ∙ ap (λ b. take i flags ++ b ∷ []) is in
    rw (front, take_more xs i d (omega arith)) (flagged-push (take i flags) (take i xs) flag (get_or xs i d) (omega (arith, length-take-le i flags, length-take-le i xs)))

-- what a loop keeps that has come to i, with k elements in front
pub record Keeps {X : Type 0} (flags : List Bool) (xs ys : List X) (k i : ℕ) : Type 0 where
  pub behind : k ≤ i
  pub long : length ys ≡ length xs
  pub front : take k ys ≡ flagged (take i flags) (take i xs)
  pub rest : drop i ys ≡ drop i xs

rest_more : {X : Type 0} (xs ys : List X) (i : ℕ) (d : X) → i < length xs → length ys ≡ length xs → drop i ys ≡ drop i xs → drop (i + 1) ys ≡ drop (i + 1) xs
rest_more xs ys i d within long same =
    let e : get_or ys i d ∷ drop (i + 1) ys ≡ get_or xs i d ∷ drop (i + 1) xs = sym (drop_more ys i d (omega arith)) ∙ same ∙ drop_more xs i d within in
    cc

pub Keeps-stays : {X : Type 0} (flags : List Bool) (xs ys : List X) (k i : ℕ) (d : X) → i < length flags → length flags ≡ length xs → get_or flags i false ≡ true → Keeps flags xs ys k i → Keeps flags xs (swap ys k i) (k + 1) (i + 1)
Keeps-stays flags xs ys k i d within long is keeps =
    let here : i < length xs = omega arith in
    record {
      behind = omega (arith, keeps.behind);
      long = length-swap ys k i ∙ keeps.long;
      front = front-swap ys k i d keeps.behind (omega (arith, keeps.long)) ∙ ap (λ zs. zs ++ get_or ys i d ∷ []) keeps.front
          ∙ ap (λ z. flagged (take i flags) (take i xs) ++ z ∷ []) (at_same xs ys i d keeps.rest) ∙ sym (one_more flags xs i d true within long is);
      rest = rest-swap ys k i keeps.behind ∙ rest_more xs ys i d here keeps.long keeps.rest;
    }

pub Keeps-goes : {X : Type 0} (flags : List Bool) (xs ys : List X) (k i : ℕ) (d : X) → i < length flags → length flags ≡ length xs → get_or flags i false ≡ false → Keeps flags xs ys k i → Keeps flags xs ys k (i + 1)
Keeps-goes flags xs ys k i d within long is keeps =
    record {
      behind = omega (arith, keeps.behind);
      long = keeps.long;
      front = keeps.front ∙ sym (append-nil (flagged (take i flags) (take i xs))) ∙ sym (one_more flags xs i d false within long is);
      rest = rest_more xs ys i d (omega arith) keeps.long keeps.rest;
    }

pub Keeps-all : {X : Type 0} (flags : List Bool) (xs ys : List X) (k i : ℕ) → length flags ≤ i → length flags ≡ length xs → Keeps flags xs ys k i → take k ys ≡ flagged flags xs
Keeps-all flags xs ys k i past long keeps = keeps.front ∙ rw (take_all i flags past, take_all i xs (omega arith)) refl
