-- What reads and writes do to bytes that are known, and what stands in the buffer of a read.
use Rattle.std.proofs.Common.{◌≡◌, ◌∙◌, ◌≤◌, ℕ, zero, suc, List, [], ◌∷◌, ◌++◌, length, take, Option, None, Some, IfSome, refl, sym, ap, arith, append_assoc, append-nil}
use Rattle.std.specs.Io.KnownBytes.{Appends, Consumes, IsAtEnd, Keeps, append_known}
use Rattle.std.specs.Prelude.{OnOk, Result, Ok, Err}
use Rattle.std.proofs.lemmas.List.{take-append-le}

pub appends_both : (a b c : Option (List ℕ)) (bs cs : List ℕ) → Appends a b bs → Appends b c cs → Appends a c (bs ++ cs)
appends_both None b c bs cs p q = tt
appends_both (Some x) None c bs cs p q = absurd p
appends_both (Some x) (Some y) None bs cs p q = absurd q
appends_both (Some x) (Some y) (Some z) bs cs p q = q ∙ ap (λ (l : List ℕ). l ++ cs) p ∙ append_assoc x bs cs

pub appends_none : (a : Option (List ℕ)) → Appends a a []
appends_none None = tt
appends_none (Some x) = sym (append-nil x)

pub appends_kept : (a b c : Option (List ℕ)) (bs : List ℕ) → Appends a b bs → Keeps b c → Appends a c bs
appends_kept None b c bs p q = tt
appends_kept (Some x) None c bs p q = absurd p
appends_kept (Some x) (Some y) None bs p q = absurd q
appends_kept (Some x) (Some y) (Some z) bs p q = q ∙ p

pub consumes_none : (a : Option (List ℕ)) → Consumes a a []
consumes_none None = tt
consumes_none (Some x) = refl

pub consumes_both : (a b c : Option (List ℕ)) (bs cs : List ℕ) → Consumes a b bs → Consumes b c cs → Consumes a c (bs ++ cs)
consumes_both None b c bs cs p q = tt
consumes_both (Some x) None c bs cs p q = absurd p
consumes_both (Some x) (Some y) None bs cs p q = absurd q
consumes_both (Some x) (Some y) (Some z) bs cs p q = p ∙ ap (λ (l : List ℕ). bs ++ l) q ∙ sym (append_assoc bs cs z)

-- at the end all was consumed
consumed_all : (a b : Option (List ℕ)) (bs : List ℕ) → Consumes a b bs → IsAtEnd b → IfSome a (λ (input : List ℕ). bs ≡ input)
consumed_all None b bs p end = tt
consumed_all (Some x) None bs p end = absurd p
consumed_all (Some x) (Some y) bs p end = sym (p ∙ ap (λ (l : List ℕ). bs ++ l) end ∙ append-nil bs)

-- a read of nothing was the last
pub consumed_end : (known left after : Option (List ℕ)) (bytes piece : List ℕ) → Consumes known left bytes → Consumes left after piece → piece ≡ [] → IsAtEnd after
    → IfSome known (λ (input : List ℕ). bytes ≡ input)
consumed_end known left after bytes piece read last none end =
    over known (consumed_all known after (bytes ++ piece) (consumes_both known left after bytes piece read last) end)
  where
    over : (input : Option (List ℕ)) → IfSome input (λ (text : List ℕ). bytes ++ piece ≡ text) → IfSome input (λ (text : List ℕ). bytes ≡ text)
    over None is = tt
    over (Some text) is = sym (ap (λ (l : List ℕ). bytes ++ l) none ∙ append-nil bytes) ∙ is

take_shorter : (n len : ℕ) (xs : List ℕ) → n ≤ len → take n (take len xs) ≡ take n xs
take_shorter zero len xs less = refl
take_shorter (suc n) zero xs less = absurd (omega (arith, less))
take_shorter (suc n) (suc len) [] less = refl
take_shorter (suc n) (suc len) (x ∷ xs) less = ap (λ (l : List ℕ). x ∷ l) (take_shorter n len xs (omega (arith, less)))

-- what was read stands at the front of the buffer
pub read_front : (count len : ℕ) (buf items : List ℕ) → count ≤ length buf → length buf ≤ len → take count (take len (buf ++ items)) ≡ take count buf
read_front count len buf items within all = take_shorter count len (buf ++ items) (omega (arith, within, all)) ∙ take-append-le count buf items within

-- ---- bytes that are gathered behind those of a writer

-- the gathered bytes were written
pub gathered_written : (a b : Option (List ℕ)) (old new : List ℕ) → Appends a b old → new ≡ [] → Keeps (append_known a old) (append_known b new)
gathered_written None b old new p none = tt
gathered_written (Some x) None old new p none = absurd p
gathered_written (Some x) (Some y) old new p none = ap (λ (l : List ℕ). y ++ l) none ∙ append-nil y ∙ p

pub gathered_so : {A E : Type 0} (result : Result A E) (a b : Option (List ℕ)) (old new : List ℕ) → OnOk result (Appends a b old) → OnOk result (new ≡ [])
    → OnOk result (Keeps (append_known a old) (append_known b new))
gathered_so (Ok x) a b old new p none = gathered_written a b old new p none
gathered_so (Err e) a b old new p none = tt

-- more bytes were gathered behind the others
pub gathered_more : (a b : Option (List ℕ)) (old mid new bytes : List ℕ) → Keeps (append_known a old) (append_known b mid) → new ≡ mid ++ bytes
    → Appends (append_known a old) (append_known b new) bytes
gathered_more None b old mid new bytes p e = tt
gathered_more (Some x) None old mid new bytes p e = absurd p
gathered_more (Some x) (Some y) old mid new bytes p e = ap (λ (l : List ℕ). y ++ l) e ∙ sym (append_assoc y mid bytes) ∙ ap (λ (l : List ℕ). l ++ bytes) p

-- the gathered bytes were written, and more behind them
pub gathered_passed : (a b c : Option (List ℕ)) (old new bytes : List ℕ) → Appends a b old → Appends b c bytes → new ≡ []
    → Appends (append_known a old) (append_known c new) bytes
gathered_passed None b c old new bytes p q none = tt
gathered_passed (Some x) None c old new bytes p q none = absurd p
gathered_passed (Some x) (Some y) None old new bytes p q none = absurd q
gathered_passed (Some x) (Some y) (Some z) old new bytes p q none = ap (λ (l : List ℕ). z ++ l) none ∙ append-nil z ∙ q ∙ ap (λ (l : List ℕ). l ++ bytes) p

-- nothing of what is to be put out was put
pub put_none : (a : Option (List ℕ)) (bytes : List ℕ) → Appends a (append_known a bytes) bytes
put_none None bytes = tt
put_none (Some x) bytes = refl

-- a front of it more
pub put_on : (a t u : Option (List ℕ)) (front rest out all : List ℕ) → Appends a (append_known t out) all → Appends t u front → out ≡ front ++ rest
    → Appends a (append_known u rest) all
put_on None t u front rest out all p q e = tt
put_on (Some x) None u front rest out all p q e = absurd p
put_on (Some x) (Some y) None front rest out all p q e = absurd q
put_on (Some x) (Some y) (Some z) front rest out all p q e = ap (λ (l : List ℕ). l ++ rest) q ∙ append_assoc y front rest ∙ ap (λ (l : List ℕ). y ++ l) (sym e) ∙ p

-- all of it, and what is gathered was written
pub put_whole : (a b c : Option (List ℕ)) (gathered bytes all : List ℕ) → Appends (append_known a gathered) (append_known (append_known b bytes) []) all → Appends b c bytes
    → Appends a c (gathered ++ all)
put_whole None b c gathered bytes all p q = tt
put_whole (Some x) None c gathered bytes all p q = absurd p
put_whole (Some x) (Some y) None gathered bytes all p q = absurd q
put_whole (Some x) (Some y) (Some z) gathered bytes all p q = q ∙ sym (append-nil (y ++ bytes)) ∙ p ∙ append_assoc x gathered all

-- what is so is so where a call succeeds
pub on_ok_so : {A E : Type 0} (result : Result A E) (P : Type 0) → P → OnOk result P
on_ok_so (Ok x) P p = p
on_ok_so (Err e) P p = tt

-- what is so where a call succeeds
pub on_ok : {A E : Type 0} (result : Result A E) (P Q : Type 0) → (P → Q) → OnOk result P → OnOk result Q
on_ok (Ok x) P Q f p = f p
on_ok (Err e) P Q f p = tt
