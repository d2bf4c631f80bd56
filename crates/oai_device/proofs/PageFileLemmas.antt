-- A file that is read and written at offsets, a part after the other.
use Rattle.std.proofs.Common.{Bool, Result, Ok, IfOk, IsTrue, ◌≡◌, ◌⊎◌, ◌+◌, ◌-◌, ◌<◌, ◌≤◌, ℕ, List, Some, ◌++◌, length, take, drop, get_or, [], inl, inr, refl, sym, ap, ◌∙◌, subst, arith}
use Rattle.std.proofs.lemmas.List.{same_lists, get_or_append_left, get_or-append_right, get_or_default, get_or-drop, get_or-take, length-append, length-drop, length-take, length-take-le, take-append-le, take-take}
use Rattle.std.proofs.Math.Seq.{take-add, take-append-add}
use borrow.Rule.Slice.PartMut.{mid_of, post_of, put_mid}
use Rattle.std.proofs.lemmas.Bool.{cases_lt}
use Rattle.oai_device.specs.PageFile.{Bytes, KeepsOtherBytes, Stand, WereRead}

-- two parts that were read, the second behind the first, were read as one
pub read_join : (file : Bytes) (at : ℕ) (xs ys : List ℕ) → WereRead file at xs → WereRead file (at + length xs) ys → WereRead file at (xs ++ ys)
read_join file at xs ys first second = record {
  each = λ i byte within is. elim (cases_lt i (length xs)) [
    | inl below ↦ get_or_append_left xs ys 0 i below ∙ first.each i byte below is
    | inr above ↦
        let place : at + i ≡ at + length xs + (i - length xs) = omega arith in
        let inside : i - length xs < length ys = omega (arith, length-append xs ys) in
        get_or-append_right xs ys (length xs) i 0 refl above
        ∙ second.each (i - length xs) byte inside (subst (λ (p : ℕ). file p ≡ Some byte) place is)
  ];
}

-- two parts that stand, the second behind the first, stand as one
pub stand_join : (file : Bytes) (at : ℕ) (xs ys : List ℕ) → Stand file at xs → Stand file (at + length xs) ys → Stand file at (xs ++ ys)
stand_join file at xs ys first second = record {
  each = λ i within. elim (cases_lt i (length xs)) [
    | inl below ↦ first.each i below ∙ ap Some (sym (get_or_append_left xs ys 0 i below))
    | inr above ↦
        let place : at + length xs + (i - length xs) ≡ at + i = omega arith in
        let inside : i - length xs < length ys = omega (arith, length-append xs ys) in
        subst (λ (p : ℕ). file p ≡ Some (get_or (xs ++ ys) i 0)) place
        (second.each (i - length xs) inside ∙ ap Some (sym (get_or-append_right xs ys (length xs) i 0 refl above)))
  ];
}

-- what stands before or behind a part that is written still stands
pub stand_kept : (old new : Bytes) (part count at : ℕ) (bytes : List ℕ) → KeepsOtherBytes part count old new
    → (at + length bytes ≤ part) ⊎ (part + count ≤ at) → Stand old at bytes → Stand new at bytes
stand_kept old new part count at bytes kept apart stood = record {
  each = λ i within. kept.each (at + i) (outside apart i within) ∙ stood.each i within;
} where
  outside : (at + length bytes ≤ part) ⊎ (part + count ≤ at) → (i : ℕ) → i < length bytes → (at + i < part) ⊎ (part + count ≤ at + i)
  outside (inl before) i within = inl (omega arith)
  outside (inr behind) i within = inr (omega arith)

-- nothing changed
pub keeps_all : (old new : Bytes) (at count : ℕ) → new ≡ old → KeepsOtherBytes at count old new
keeps_all old new at count same = record { each = λ place outside. ap (λ (file : Bytes). file place) same }

-- a change of a part within is one of the whole
pub keeps_next : (first old new : Bytes) (at count done : ℕ) (left : ℕ) → done + left ≤ count → KeepsOtherBytes at count first old
    → KeepsOtherBytes (at + done) left old new → KeepsOtherBytes at count first new
keeps_next first old new at count done left within before now = record {
  each = λ place outside. now.each place (further outside) ∙ before.each place outside;
} where
  further : {place : ℕ} → (place < at) ⊎ (at + count ≤ place) → (place < at + done) ⊎ (at + done + left ≤ place)
  further (inl front) = inl (omega arith)
  further (inr back) = inr (omega arith)

-- so many bytes of those that stand, from one of them on, stand where they are
pub stand_part : (file : Bytes) (at from len : ℕ) (bytes : List ℕ) → from + len ≤ length bytes → Stand file at bytes
    → Stand file (at + from) (take len (drop from bytes))
stand_part file at from len bytes within stood = record {
  each = λ i below.
      let inside : i < len = subst (λ (n : ℕ). i < n) (length-take-le len (drop from bytes) (omega (arith, length-drop from bytes))) below in
      let place : at + (from + i) ≡ at + from + i = omega arith in
      subst (λ (p : ℕ). file p ≡ Some (get_or (take len (drop from bytes)) i 0)) place
      (stood.each (from + i) (omega arith) ∙ ap Some (sym (get_or-take len (drop from bytes) i 0 inside ∙ get_or-drop from bytes i 0)));
}

-- what was read where bytes stand is these bytes
pub read_is : (file : Bytes) (at : ℕ) (bytes into : List ℕ) → Stand file at bytes → WereRead file at into → length bytes ≡ length into → bytes ≡ into
read_is file at bytes into stood read same = same_lists bytes into same (λ k d within.
    get_or_default bytes k d 0 within
    ∙ sym (read.each k (get_or bytes k 0) (subst (λ (n : ℕ). k < n) same within) (stood.each k within))
    ∙ get_or_default into k 0 d (subst (λ (n : ℕ). k < n) same within))

-- what holds where a call moved nothing, and of what it moved, holds of what is counted
moved : {E : Type 0} (P : ℕ → Type 0) (answer : Result ℕ E) (count : ℕ) → (count ≡ 0) ⊎ (answer ≡ Ok count) → P 0 → IfOk answer P → P count
moved P answer count (inl none) zero is = subst P (sym none) zero
moved P answer count (inr some) zero is = subst (λ (r : Result ℕ _). IfOk r P) some is

-- no more was counted than the call could move
pub moved_within : {E : Type 0} (answer : Result ℕ E) (count most : ℕ) → (count ≡ 0) ⊎ (answer ≡ Ok count) → IfOk answer (λ n. n ≤ most) → count ≤ most
moved_within answer count most counted short = moved (λ n. n ≤ most) answer count counted (omega arith) short

-- the list with another part in its middle, cut within that part
front_put : (done left count : ℕ) (page into : List ℕ) → done ≤ length page → count ≤ length into
    → take (done + count) (put_mid done left page into) ≡ take done page ++ take count into
front_put done left count page into within short =
    let long : length (take done page) ≡ done = length-take-le done page within in
    subst (λ (n : ℕ). take (n + count) (put_mid done left page into) ≡ take done page ++ take count into) long
    (take-append-add (take done page) (into ++ post_of done left page) count
    ∙ ap (λ (xs : List ℕ). take done page ++ xs) (take-append-le count into (post_of done left page) short))

-- a call reads on: what is there of the page by then was read
pub read_on : {E : Type 0} (honest honest_now : Bool) (file now : Bytes) (at done left count : ℕ) (page into : List ℕ) (answer : Result ℕ E)
    → honest_now ≡ honest → now ≡ file → done ≤ length page → (count ≡ 0) ⊎ (answer ≡ Ok count)
    → IfOk answer (λ n. n ≤ length into) → IfOk answer (λ n. IsTrue honest_now → WereRead now (at + done) (take n into))
    → (IsTrue honest → WereRead file at (take done page)) → IsTrue honest
    → WereRead file at (take (done + count) (put_mid done left page into))
read_on honest honest_now file now at done left count page into answer still same within counted short value before is =
    let shorter : count ≤ length into = moved (λ n. n ≤ length into) answer count counted (omega arith) short in
    let next : WereRead now (at + done) (take count into) =
    moved (λ n. IsTrue honest_now → WereRead now (at + done) (take n into)) answer count counted (λ _. nothing) value
    (subst (λ (b : Bool). IsTrue b) (sym still) is) in
    let there : WereRead file (at + length (take done page)) (take count into) =
    subst (λ (n : ℕ). WereRead file (at + n) (take count into)) (sym (length-take-le done page within))
    (subst (λ (f : Bytes). WereRead f (at + done) (take count into)) same next) in
    subst (λ (xs : List ℕ). WereRead file at xs) (sym (front_put done left count page into within shorter))
    (read_join file at (take done page) (take count into) (before is) there)
  where
    nothing : WereRead now (at + done) []
    nothing = record { each = λ i byte below is. absurd (omega arith) }

-- a call writes on: what is there of the page by then stands
pub write_on : {E : Type 0} (honest honest_now : Bool) (now new : Bytes) (at done left count : ℕ) (page : List ℕ) (answer : Result ℕ E)
    → honest_now ≡ honest → done ≤ length page → (count ≡ 0) ⊎ (answer ≡ Ok count)
    → IfOk answer (λ n. n ≤ length (mid_of done left page))
    → IfOk answer (λ n. IsTrue honest_now → Stand new (at + done) (take n (mid_of done left page)))
    → KeepsOtherBytes (at + done) (length (mid_of done left page)) now new
    → (IsTrue honest → Stand now at (take done page)) → IsTrue honest
    → Stand new at (take (done + count) page)
write_on honest honest_now now new at done left count page answer still within counted short written others before is =
    let long : length (take done page) ≡ done = length-take-le done page within in
    let shorter : count ≤ length (mid_of done left page) = moved (λ n. n ≤ length (mid_of done left page)) answer count counted (omega arith) short in
    let fits : count ≤ left = omega (arith, length-take left (drop done page)) in
    let next : Stand new (at + done) (take count (mid_of done left page)) =
    moved (λ n. IsTrue honest_now → Stand new (at + done) (take n (mid_of done left page))) answer count counted (λ _. nothing) written
    (subst (λ (b : Bool). IsTrue b) (sym still) is) in
    let there : Stand new (at + length (take done page)) (take count (drop done page)) =
    subst (λ (n : ℕ). Stand new (at + n) (take count (drop done page))) (sym long)
    (subst (λ (xs : List ℕ). Stand new (at + done) xs) (take-take count left (drop done page) fits) next) in
    subst (λ (xs : List ℕ). Stand new at xs) (sym (take-add done count page))
    (stand_join new at (take done page) (take count (drop done page))
    (stand_kept now new (at + done) (length (mid_of done left page)) at (take done page) others (inl (omega arith)) (before is)) there)
  where
    nothing : Stand new (at + done) []
    nothing = record { each = λ i below. absurd (omega arith) }
