-- Bytes of which each is ASCII.
use Rattle.std.proofs.Common.{◌≡◌, ◌∙◌, ℕ, ◌+◌, ◌-◌, ◌*◌, ◌/◌, ◌%◌, ◌<◌, ◌≤◌, zero, suc, Bool, true, false, ◌&&◌, nat_lt, List, [], ◌∷◌, length, take, drop, refl, sym, ap, ap₂, arith}
use Rattle.std.specs.List.{list_all}
use Rattle.std.specs.Simd.{first_chunks}
use Rattle.std.specs.Str.{IsAscii}
use Rattle.std.proofs.Math.Bool.{and_assoc}
use Rattle.std.proofs.Math.Nat.{div-add-mod', mod-lt, suc-mul, zero-mul}
use Rattle.std.proofs.Math.Seq.{take-add}
use Rattle.std.proofs.lemmas.Bool.{and_parts, ltb-true}
use Rattle.std.proofs.lemmas.List.Folds.{list_all-append}

pub ascii_from : (bytes : List ℕ) → list_all (λ byte. nat_lt byte 128) bytes ≡ true → IsAscii bytes
ascii_from [] all zero = omega arith
ascii_from [] all (suc i) = omega arith
ascii_from (b ∷ bytes) all zero = ltb-true b 128 (and_parts (nat_lt b 128) (list_all (λ byte. nat_lt byte 128) bytes) all).0
ascii_from (b ∷ bytes) all (suc i) = ascii_from bytes (and_parts (nat_lt b 128) (list_all (λ byte. nat_lt byte 128) bytes) all).1 i

-- whole chunks from the front on are the front
pub all_chunks : {A : Type 0} (p : A → Bool) (n k : ℕ) (xs : List A) → list_all (list_all p) (first_chunks n k xs) ≡ list_all p (take (k * n) xs)
all_chunks p n zero xs = ap (λ m. list_all p (take m xs)) (sym (zero-mul n))
all_chunks p n (suc k) xs =
    let rest : list_all (list_all p) (first_chunks n k (drop n xs)) ≡ list_all p (take (k * n) (drop n xs)) = all_chunks p n k (drop n xs) in
    let more : suc k * n ≡ k * n + n = suc-mul k n in
    let size : suc k * n ≡ n + k * n = omega arith in
    ap (λ b. list_all p (take n xs) && b) rest ∙ sym (list_all-append p (take n xs) (take (k * n) (drop n xs))) ∙ ap (list_all p) (sym (take-add n (k * n) xs)) ∙ ap (λ m. list_all p (take m xs)) (sym size)

and_twice : (a b c : Bool) → ((a && b) && (a && c)) ≡ (a && (b && c))
and_twice true b c = refl
and_twice false b c = refl

-- a front and a back that meet, or that have some in common, are all
pub all_overlapping : {A : Type 0} (p : A → Bool) (xs : List A) (front back : ℕ) → back ≤ front → (list_all p (take front xs) && list_all p (drop back xs)) ≡ list_all p xs
all_overlapping p [] zero zero meet = refl
all_overlapping p [] (suc front) zero meet = refl
all_overlapping p [] zero (suc back) meet = refl
all_overlapping p [] (suc front) (suc back) meet = refl
all_overlapping p (x ∷ xs) zero zero meet = refl
all_overlapping p (x ∷ xs) zero (suc back) meet = absurd (omega arith)
all_overlapping p (x ∷ xs) (suc front) zero meet =
    let rest : (list_all p (take front xs) && list_all p xs) ≡ list_all p xs = all_overlapping p xs front 0 (omega arith) in
    and_twice (p x) (list_all p (take front xs)) (list_all p xs) ∙ ap (λ b. p x && b) rest
all_overlapping p (x ∷ xs) (suc front) (suc back) meet =
    and_assoc (p x) (list_all p (take front xs)) (list_all p (drop back xs)) ∙ ap (λ b. p x && b) (all_overlapping p xs front back (omega arith))

-- as many whole chunks of n as there are, and then the last n, are all
pub all_by_chunks : {A : Type 0} (p : A → Bool) (n : ℕ) (xs last : List A) (chunks : List (List A)) → 0 < n → chunks ≡ first_chunks n (length xs / n) xs → last ≡ drop (length xs - n) xs
    → (list_all (list_all p) chunks && list_all p last) ≡ list_all p xs
all_by_chunks p n xs last chunks some front back =
    let parts : length xs / n * n + length xs % n ≡ length xs = div-add-mod' (length xs) n in
    let few : length xs % n < n = mod-lt (length xs) some in
    ap₂ (λ a b. a && list_all p b) (ap (list_all (list_all p)) front ∙ all_chunks p n (length xs / n) xs) back ∙ all_overlapping p xs (length xs / n * n) (length xs - n) (omega arith)
