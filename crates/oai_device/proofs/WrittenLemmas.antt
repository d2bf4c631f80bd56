-- The pages of a file device are in its file.
use Rattle.std.proofs.Common.{Bool, true, false, nat_eq, Option, None, Some, Result, Ok, Err, IsSome, OnOk, is_ok, ◌≡◌, ◌≢◌, ◌⊎◌, ◌+◌, ◌*◌, ◌<◌, ◌≤◌, ℕ, List, ◌∷◌, [], length, drop, take, inl, inr, refl, sym, ap, ◌∙◌, subst, eqb, eq-eqb, cond, arith}
use Rattle.std.proofs.lemmas.Bool.{cases_lt, eqb-true, false≢true}
use Rattle.std.proofs.lemmas.List.{length-drop, length-take-le}
use Rattle.std.specs.Map.{lookup}
use Rattle.std.specs.Option.{option_flatten}
use mir.Val.{bool_byte}
use Rattle.oai_device.specs.Device.{range_of}
use Rattle.oai_device.specs.PageFile.{Bytes, KeepsOtherBytes, Stand, WereRead}
use Rattle.oai_device.specs.Written.{AreInFile, PageWrites, page_under, with_page}
use Rattle.oai_device.proofs.PageFileLemmas.{read_is, stand_kept, stand_part}

-- what holds of each answer that is Ok
pub on_ok : {T E : Type 0} (P : Type 0) (answer : Result T E) → (is_ok answer ≡ true → P) → OnOk answer P
on_ok P (Ok value) holds = holds refl
on_ok P (Err cause) holds = tt

-- a page that was read is the one that was written last
pub page_read : (file : Bytes) (pages : PageWrites) (number start : ℕ) (into : List ℕ) → start ≡ number * 16384 → length into ≡ 16384
    → IsSome (page_under pages number) → AreInFile file pages → WereRead file start into → page_under pages number ≡ Some into
page_read file pages number start into here long some placed read = found (page_under pages number) refl some where
  found : (kept : Option (List ℕ)) → page_under pages number ≡ kept → IsSome kept → kept ≡ Some into
  found None is none = absurd (false≢true none)
  found (Some page) is given = ap Some (read_is file start page into
      (subst (λ (n : ℕ). Stand file n page) (sym here) (placed.place number page is)) read (placed.whole number page is ∙ sym long))

-- bytes of a page that were read are those of the page that was written last
pub range_read : (file : Bytes) (pages : PageWrites) (number start from : ℕ) (into : List ℕ) → start ≡ number * 16384 → from + length into ≤ 16384
    → IsSome (page_under pages number) → AreInFile file pages → WereRead file (start + from) into
    → range_of from (length into) (page_under pages number) ≡ Some into
range_read file pages number start from into here within some placed read = found (page_under pages number) refl some where
  found : (kept : Option (List ℕ)) → page_under pages number ≡ kept → IsSome kept → range_of from (length into) kept ≡ Some into
  found None is none = absurd (false≢true none)
  found (Some page) is given =
      let inside : from + length into ≤ length page = omega (arith, placed.whole number page is) in
      let stands : Stand file start page = subst (λ (n : ℕ). Stand file n page) (sym here) (placed.place number page is) in
      ap Some (read_is file (start + from) (take (length into) (drop from page)) into (stand_part file start from (length into) page inside stands) read
      (length-take-le (length into) (drop from page) (omega (arith, length-drop from page))))

-- pages of two numbers are apart in the file
apart : (one other length_ : ℕ) → one ≢ other → length_ ≡ 16384 → (one * 16384 + length_ ≤ other * 16384) ⊎ (other * 16384 + 16384 ≤ one * 16384)
apart one other length_ differ long = elim (cases_lt one other) [
  | inl below ↦ inl (omega arith)
  | inr above ↦ let past : other < one = omega (arith, differ) in inr (omega arith)
]

-- a write under a number that leaves a page there, or none that is known
noted : (old new : Bytes) (pages : PageWrites) (number : ℕ) (kept : Option (List ℕ))
    → ((page : List ℕ) → kept ≡ Some page → (length page ≡ 16384) × Stand new (number * 16384) page)
    → KeepsOtherBytes (number * 16384) 16384 old new → AreInFile old pages → AreInFile new ((number, kept) ∷ pages)
noted old new pages number kept stands others placed = record {
  whole = λ n page is. (under n page (eqb n number) refl is).0;
  place = λ n page is. (under n page (eqb n number) refl is).1;
} where
  under : (n : ℕ) (page : List ℕ) (same : Bool) → eqb n number ≡ same
      → option_flatten (cond same (Some kept) (lookup (nat_eq n) pages)) ≡ Some page → (length page ≡ 16384) × Stand new (n * 16384) page
  under n page true same is =
      let here : n ≡ number = eqb-true n number same in
      (((stands page is).0), subst (λ (m : ℕ). Stand new (m * 16384) page) (sym here) (stands page is).1)
  under n page false differs is =
      let long : length page ≡ 16384 = placed.whole n page is in
      let differ : n ≢ number = λ same. false≢true (sym differs ∙ eq-eqb n number same) in
      (long, stand_kept old new (number * 16384) 16384 (n * 16384) page others (apart n number (length page) differ long) (placed.place n page is))

-- what a write leaves of the pages, whether it was done or failed
pub page_written : (old new : Bytes) (pages : PageWrites) (number start : ℕ) (done : Bool) (page : List ℕ) → start ≡ number * 16384 → length page ≡ 16384
    → (done ≡ true → Stand new start page) → KeepsOtherBytes start 16384 old new → AreInFile old pages
    → AreInFile new (with_page (number ∷ bool_byte done ∷ []) page pages)
page_written old new pages number start true page here long stands others placed =
    noted old new pages number (Some page)
    (λ kept same. let equal : page ≡ kept = cc in (
      subst (λ (xs : List ℕ). length xs ≡ 16384) equal long,
      subst (λ (xs : List ℕ). Stand new (number * 16384) xs) equal (subst (λ (n : ℕ). Stand new n page) here (stands refl)),
    ))
    (subst (λ (n : ℕ). KeepsOtherBytes n 16384 old new) here others) placed
page_written old new pages number start false page here long stands others placed =
    noted old new pages number None (λ kept same. absurd cc)
    (subst (λ (n : ℕ). KeepsOtherBytes n 16384 old new) here others) placed
