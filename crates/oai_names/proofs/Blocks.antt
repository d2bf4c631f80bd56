-- A test of bytes in blocks, the last of which may overlap the one before it.
use Rattle.std.proofs.Common.{◌≡◌, ◌∙◌, ◌+◌, ◌-◌, ◌≤◌, ℕ, Bool, true, false, List, ◌++◌, length, take, drop, refl, sym, ap, arith, take-add}
use Rattle.std.specs.List.{list_all}
use Rattle.std.specs.Prelude.{◌&&◌}
use Rattle.std.proofs.lemmas.List.{drop-append-le, length-take-le, take-append-drop}
use Rattle.std.proofs.lemmas.List.Folds.{list_all-append}

-- what stands in both tests counts once
once : (front both back : Bool) → ((front && both) && (both && back)) ≡ ((front && both) && back)
once true true back = refl
once true false back = refl
once false both back = refl

-- the bytes up to one place, and those from a place before it on, are all bytes
pub all_of_blocks : (p : ℕ → Bool) (bytes : List ℕ) (at last : ℕ) → last ≤ at → at ≤ length bytes
    → (list_all p (take at bytes) && list_all p (drop last bytes)) ≡ list_all p bytes
all_of_blocks p bytes at last order within =
    let front : List ℕ = take at bytes in
    let back : List ℕ = drop at bytes in
    let whole : front ++ back ≡ bytes = take-append-drop at bytes in
    let len : length front ≡ at = length-take-le at bytes within in
    let later : drop last bytes ≡ drop last front ++ back = ap (drop last) (sym whole) ∙ drop-append-le last front back (omega (arith, order, len)) in
    let parts : list_all p front ≡ (list_all p (take last front) && list_all p (drop last front)) = ap (list_all p) (sym (take-append-drop last front)) ∙ list_all-append p (take last front) (drop last front) in
    let two : list_all p (drop last bytes) ≡ (list_all p (drop last front) && list_all p back) = ap (list_all p) later ∙ list_all-append p (drop last front) back in
    (λ k. parts k && two k) ∙ once (list_all p (take last front)) (list_all p (drop last front)) (list_all p back)
    ∙ ap (λ b. b && list_all p back) (sym parts) ∙ sym (list_all-append p front back) ∙ ap (list_all p) whole

-- and one block more
pub all_of_next : (p : ℕ → Bool) (bytes : List ℕ) (at n : ℕ) → (list_all p (take at bytes) && list_all p (take (at + n - at) (drop at bytes))) ≡ list_all p (take (at + n) bytes)
all_of_next p bytes at n =
    let block : at + n - at ≡ n = omega arith in
    sym (ap (list_all p) (take-add at n bytes ∙ ap (λ (k : ℕ). take at bytes ++ take k (drop at bytes)) (sym block)) ∙ list_all-append p (take at bytes) (take (at + n - at) (drop at bytes)))
