-- Numbers in the spelling of an item, and the bytes that they are read from.
use Rattle.std.proofs.Common.{◌≡◌, ◌∙◌, ℕ, ℤ, pos, negsuc, ◌-◌, ◌^◌, ◌<◌, ◌≤◌, List, [], ◌∷◌, ◌++◌, length, get_or, take, drop, refl, sym, ap, subst, arith, FitsSigned, w32, w64, inl, inr, length-append}
use Rattle.std.specs.Int.{from_be_bytes, to_be_bytes, cast_signed, cast_unsigned}
use Rattle.std.proofs.lemmas.Bool.{cases_lt}
use Rattle.std.proofs.lemmas.Int.{ints, of_z-to_z, to_z-of_z}
use Rattle.std.proofs.lemmas.List.{length-take, length-drop, take-append-drop, take_all, get_or-take, get_or_past}
use Rattle.std.proofs.Math.Facts.{Fits-of_z}
use Rattle.std.proofs.lemmas.Nat.{be_bytes_4, be_bytes_8, from_be_bytes-to_be_bytes_8}
use Rattle.oai_item.specs.Encoding.{encoded_count, encoded_stamp}
use Rattle.oai_item.specs.Item.{IsStamp}
use Rattle.oai_item.specs.SpellingParts.{Stands}
use Rattle.oai_item.proofs.Lengths.{length-encoded_count}
use Rattle.oai_item.proofs.Spellings.{same_front}

-- each is a byte
abbrev pub AreBytes : List ℕ → Type 0
AreBytes bytes = (i : ℕ) → get_or bytes i 0 < 256

bytes_taken : (n : ℕ) (bytes : List ℕ) → AreBytes bytes → AreBytes (take n bytes)
bytes_taken n bytes h i =
    elim (cases_lt i n) [
      | inl lt ↦ rw (get_or-take n bytes i 0 lt) (h i)
      | inr le ↦ rw (get_or_past (take n bytes) i 0 (omega (arith, length-take n bytes))) (omega arith)
    ]

-- the first four bytes, and the first eight
abbrev pub four : List ℕ → List ℕ
four bytes = get_or bytes 0 0 ∷ get_or bytes 1 0 ∷ get_or bytes 2 0 ∷ get_or bytes 3 0 ∷ []

abbrev pub eight : List ℕ → List ℕ
eight bytes = get_or bytes 0 0 ∷ get_or bytes 1 0 ∷ get_or bytes 2 0 ∷ get_or bytes 3 0 ∷ get_or bytes 4 0 ∷ get_or bytes 5 0 ∷ get_or bytes 6 0 ∷ get_or bytes 7 0 ∷ []

take_four : (bytes : List ℕ) → 4 ≤ length bytes → take 4 bytes ≡ four bytes
take_four (a ∷ b ∷ c ∷ d ∷ r) h = refl
take_four (a ∷ b ∷ c ∷ []) h = absurd (omega arith)
take_four (a ∷ b ∷ []) h = absurd (omega arith)
take_four (a ∷ []) h = absurd (omega arith)
take_four [] h = absurd (omega arith)

take_eight : (bytes : List ℕ) → 8 ≤ length bytes → take 8 bytes ≡ eight bytes
take_eight (a ∷ b ∷ c ∷ d ∷ e ∷ f ∷ g ∷ h ∷ r) l = refl
take_eight (a ∷ b ∷ c ∷ d ∷ e ∷ f ∷ g ∷ []) l = absurd (omega arith)
take_eight (a ∷ b ∷ c ∷ d ∷ e ∷ f ∷ []) l = absurd (omega arith)
take_eight (a ∷ b ∷ c ∷ d ∷ e ∷ []) l = absurd (omega arith)
take_eight (a ∷ b ∷ c ∷ d ∷ []) l = absurd (omega arith)
take_eight (a ∷ b ∷ c ∷ []) l = absurd (omega arith)
take_eight (a ∷ b ∷ []) l = absurd (omega arith)
take_eight (a ∷ []) l = absurd (omega arith)
take_eight [] l = absurd (omega arith)

-- the bytes of a pattern are those in front, and the rest
parts_at : (n : ℕ) (bytes piece : List ℕ) → piece ≡ take n bytes → bytes ≡ piece ++ take (length bytes - n) (drop n bytes)
parts_at n bytes piece e =
    let all : take (length bytes - n) (drop n bytes) ≡ drop n bytes = take_all (length bytes - n) (drop n bytes) (omega (arith, length-drop n bytes)) in
    rw (e, all) (sym (take-append-drop n bytes))

pub count_read : (bytes : List ℕ) (n : ℕ) → AreBytes bytes → 4 ≤ length bytes → n ≡ from_be_bytes w32 (four bytes) → (n < 2 ^ 32) × (bytes ≡ encoded_count n ++ take (length bytes - 4) (drop 4 bytes))
unfolding encoded_count
count_read bytes n fits long e =
    let e' : n ≡ from_be_bytes w32 (take 4 bytes) = e ∙ ap (from_be_bytes w32) (sym (take_four bytes long)) in
    let back : to_be_bytes w32 n ≡ take 4 bytes = be_bytes_4 (take 4 bytes) n (omega (arith, length-take 4 bytes)) (bytes_taken 4 bytes fits) e' in
    (omega (arith, e, fits 0, fits 1, fits 2, fits 3), parts_at 4 bytes (encoded_count n) back)

pub stamp_read : (bytes : List ℕ) (z : ℤ) → AreBytes bytes → 8 ≤ length bytes → z ≡ cast_signed w64 (from_be_bytes w64 (eight bytes)) → bytes ≡ encoded_stamp z ++ take (length bytes - 8) (drop 8 bytes)
unfolding encoded_stamp
stamp_read bytes z fits long e =
    let n = from_be_bytes w64 (eight bytes) in
    let n-fits : n < 2 ^ 64 = omega (arith, fits 0, fits 1, fits 2, fits 3, fits 4, fits 5, fits 6, fits 7) in
    let n-is : n ≡ from_be_bytes w64 (take 8 bytes) = ap (from_be_bytes w64) (sym (take_eight bytes long)) in
    let back : to_be_bytes w64 n ≡ take 8 bytes = be_bytes_8 (take 8 bytes) n (omega (arith, length-take 8 bytes)) (bytes_taken 8 bytes fits) n-is in
    let unsigned : cast_unsigned w64 z ≡ n = ap (cast_unsigned w64) e ∙ of_z-to_z w64 n n-fits in
    parts_at 8 bytes (encoded_stamp z) (ap (to_be_bytes w64) unsigned ∙ back)

-- fewer bytes than four spell no count, fewer than eight no datestamp
pub no_count : (Good : ℕ → Type 0) (bytes : List ℕ) → length bytes < 4 → Stands encoded_count Good bytes → ⊥
no_count Good bytes short s = omega (arith, ap length s.parts, length-append (encoded_count s.value) s.rest, length-encoded_count s.value)

stamp_length : (z : ℤ) → length (encoded_stamp z) ≡ 8
unfolding encoded_stamp
stamp_length z = refl

pub no_stamp : (Good : ℤ → Type 0) (bytes : List ℕ) → length bytes < 8 → Stands encoded_stamp Good bytes → ⊥
no_stamp Good bytes short s = omega (arith, ap length s.parts, length-append (encoded_stamp s.value) s.rest, stamp_length s.value)

pub stamp_fits : (z : ℤ) → IsStamp z → FitsSigned w64 z
stamp_fits (pos n) h = record { sfits = omega (arith, ints, h.1) }
stamp_fits (negsuc n) h = record { sfits = omega (arith, ints, h.0) }

-- bytes spell one datestamp at most
pub stamp_cut : (x y : ℤ) (r s : List ℕ) → FitsSigned w64 x → FitsSigned w64 y → encoded_stamp x ++ r ≡ encoded_stamp y ++ s → (x ≡ y) × (r ≡ s)
unfolding encoded_stamp
stamp_cut x y r s x-fits y-fits e =
    let both = same_front (encoded_stamp x) (encoded_stamp y) r s refl e in
    let unsigned : cast_unsigned w64 x ≡ cast_unsigned w64 y =
    sym (from_be_bytes-to_be_bytes_8 (cast_unsigned w64 x) (Fits-of_z x-fits).fits) ∙ ap (from_be_bytes w64) both.0 ∙ from_be_bytes-to_be_bytes_8 (cast_unsigned w64 y) (Fits-of_z y-fits).fits in
    (sym (to_z-of_z w64 x x-fits) ∙ ap (cast_signed w64) unsigned ∙ to_z-of_z w64 y y-fits, both.1)

-- bytes that spell another number spell no datestamp
pub no_such_stamp : (bytes rest : List ℕ) (z : ℤ) → FitsSigned w64 z → bytes ≡ encoded_stamp z ++ rest → (IsStamp z → ⊥) → Stands encoded_stamp IsStamp bytes → ⊥
no_such_stamp bytes rest z fits e out s =
    let same = stamp_cut s.value z s.rest rest (stamp_fits s.value s.good) fits (sym s.parts ∙ e) in
    out (subst IsStamp same.0 s.good)
