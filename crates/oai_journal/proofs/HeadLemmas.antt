-- What is read of a head that was written, whatever stands behind it.
use Rattle.std.proofs.Common.{◌≡◌, ◌∙◌, ℕ, suc, ◌+◌, ◌<◌, ◌≤◌, ◌^◌, ◌==◌, ℤ, pos, negsuc, true, false, nat_le, List, [], ◌∷◌, ◌++◌, length, take, drop, Some, FitsSigned, w64, codes, decimal, refl, ap, arith, lit≤, lit<, append_assoc}
use Rattle.std.specs.Fmt.{signed_decimal}
use Rattle.std.specs.Int.{IsInRange}
use Rattle.std.specs.List.{All, list_all, position_or_len}
use Rattle.std.proofs.Math.Seq.{drop-append-add, get_or-append_seam, take-append_seam}
use Rattle.std.proofs.lemmas.Bool.{and_parts, false_from_ne_true, eqb-true, leb-true}
use Rattle.std.proofs.lemmas.Fmt.{length-decimal-le, length_signed_le}
use Rattle.std.proofs.lemmas.List.{get_or_append_left, length-append}
use Rattle.std.proofs.lemmas.List.Elements.{All-cons, All-nil}
use Rattle.std.proofs.lemmas.List.Sums.{position_or_len_is}
use Rattle.oai_journal.specs.Heads.{RecordHeadFields, CanBeSpelled, head_front, head_in, kind_in, plain}
use Rattle.oai_bytes.specs.Parts.{is_separator, part, rest}
use Rattle.oai_bytes.specs.Numbers.{moment_of, number_in}
use Rattle.oai_journal.specs.Records.{is_visible_ascii, word_of}
use Rattle.oai_journal.specs.declared.heads.TheConstants.{MAX_HEAD}
use Rattle.oai_journal.specs.declared.records.Kind.{Kind}
use Rattle.oai_journal.specs.declared.records.Kind.TheVariants.{Journal, Oai, Deposit, Tick, Begin, Set, Item, List as OpenList, Gone}
use Rattle.oai_bytes.proofs.NumeralLemmas.{moment_avoids, moment_written, number_avoids, number_written}

-- ---- what stands before a space, and after it

abbrev HasNo : List ℕ → Type 0
HasNo text = All (λ b. is_separator b ≡ false) text

first_space : (front back : List ℕ) → HasNo front → position_or_len is_separator (front ++ 32 ∷ back) ≡ length front
first_space front back none =
    position_or_len_is is_separator (front ++ 32 ∷ back) (length front) 0 (omega (arith, length-append front (32 ∷ back)))
    (λ k h. ap is_separator (get_or_append_left front (32 ∷ back) 0 k h) ∙ none k 0 h) (λ h. ap is_separator (get_or-append_seam front 32 back 0))

part_of : (front back : List ℕ) → HasNo front → part (front ++ 32 ∷ back) ≡ front
part_of front back none = ap (λ n. take n (front ++ 32 ∷ back)) (first_space front back none) ∙ take-append_seam front (32 ∷ back)

rest_of : (front back : List ℕ) → HasNo front → rest (front ++ 32 ∷ back) ≡ back
rest_of front back none = ap (λ n. drop (n + 1) (front ++ 32 ∷ back)) (first_space front back none) ∙ drop-append-add front (32 ∷ back) 1

digit_no_space : (b : ℕ) → IsInRange 48 57 b → is_separator b ≡ false
digit_no_space b within = false_from_ne_true (b == 32) (λ e. omega (arith, eqb-true b 32 e, within.0))

name_no_space : (name : List ℕ) → list_all is_visible_ascii name ≡ true → HasNo name
name_no_space [] h = All-nil (λ b. is_separator b ≡ false)
name_no_space (b ∷ bs) h =
    let q = and_parts (is_visible_ascii b) (list_all is_visible_ascii bs) h in
    All-cons (λ x. is_separator x ≡ false) b bs
    (false_from_ne_true (b == 32) (λ e. omega (arith, eqb-true b 32 e, leb-true 33 b (and_parts (nat_le 33 b) (nat_le b 126) q.0).0))) (name_no_space bs q.1)

word_no_space : (kind : Kind) → HasNo (word_of kind)
word_no_space kind = name_no_space (word_of kind) (seen kind)
  where
    seen : (kind : Kind) → list_all is_visible_ascii (word_of kind) ≡ true
    seen Journal = refl
    seen Oai = refl
    seen Deposit = refl
    seen Tick = refl
    seen Begin = refl
    seen Set = refl
    seen Item = refl
    seen OpenList = refl
    seen Gone = refl

kind_written : (kind : Kind) → kind_in (word_of kind) ≡ Some kind
unfolding kind_in
kind_written Journal = refl
kind_written Oai = refl
kind_written Deposit = refl
kind_written Tick = refl
kind_written Begin = refl
kind_written Set = refl
kind_written Item = refl
kind_written OpenList = refl
kind_written Gone = refl

-- ---- a head

-- a head, as one field before a space and then the next
front_is : (h : RecordHeadFields) (tail : List ℕ)
    → head_front h ++ tail ≡ signed_decimal h.moment ++ 32 ∷ (word_of h.kind ++ 32 ∷ (h.name ++ 32 ∷ (decimal h.size ++ 32 ∷ tail)))
unfolding head_front plain
front_is h tail =
    let a : List ℕ = signed_decimal h.moment in
    let b : List ℕ = word_of h.kind in
    let c : List ℕ = h.name in
    let d : List ℕ = decimal h.size in
    let s : List ℕ = codes " " in
    append_assoc (a ++ s ++ b ++ s ++ c ++ s ++ d) s tail
    ∙ append_assoc (a ++ s ++ b ++ s ++ c ++ s) d (32 ∷ tail)
    ∙ append_assoc (a ++ s ++ b ++ s ++ c) s (d ++ 32 ∷ tail)
    ∙ append_assoc (a ++ s ++ b ++ s) c (32 ∷ (d ++ 32 ∷ tail))
    ∙ append_assoc (a ++ s ++ b) s (c ++ 32 ∷ (d ++ 32 ∷ tail))
    ∙ append_assoc (a ++ s) b (32 ∷ (c ++ 32 ∷ (d ++ 32 ∷ tail)))
    ∙ append_assoc a s (b ++ 32 ∷ (c ++ 32 ∷ (d ++ 32 ∷ tail)))

read_all : (bytes : List ℕ) (moment : ℤ) (kind : Kind) (size : ℕ) → moment_of (part bytes) ≡ Some moment → kind_in (part (rest bytes)) ≡ Some kind
    → number_in (part (rest (rest (rest bytes)))) ≡ Some size
    → head_in bytes ≡ Some (record { moment = moment; kind = kind; name = part (rest (rest bytes)); size = size })
unfolding head_in
read_all bytes moment kind size a b c = rw (a, b, c) refl

pub head_written : (h : RecordHeadFields) (tail : List ℕ) → CanBeSpelled h → head_in (head_front h ++ tail) ≡ Some h
head_written h tail is =
    let first : List ℕ = signed_decimal h.moment in
    let fourth : List ℕ = decimal h.size ++ 32 ∷ tail in
    let third : List ℕ = h.name ++ 32 ∷ fourth in
    let second : List ℕ = word_of h.kind ++ 32 ∷ third in
    let line : List ℕ = first ++ 32 ∷ second in
    let no_first : HasNo first = moment_avoids is_separator digit_no_space refl h.moment is.moment in
    let no_size : HasNo (decimal h.size) = number_avoids is_separator digit_no_space h.size is.size in
    let no_name : HasNo h.name = name_no_space h.name is.name in
    let behind : rest line ≡ second = rest_of first second no_first in
    let behind_kind : rest (rest line) ≡ third = ap rest behind ∙ rest_of (word_of h.kind) third (word_no_space h.kind) in
    let behind_name : rest (rest (rest line)) ≡ fourth = ap rest behind_kind ∙ rest_of h.name fourth no_name in
    let name : part (rest (rest line)) ≡ h.name = ap part behind_kind ∙ part_of h.name fourth no_name in
    ap head_in (front_is h tail)
    ∙ read_all line h.moment h.kind h.size (ap moment_of (part_of first second no_first) ∙ moment_written h.moment is.moment)
    (ap (λ t. kind_in (part t)) behind ∙ ap kind_in (part_of (word_of h.kind) third (word_no_space h.kind)) ∙ kind_written h.kind)
    (ap (λ t. number_in (part t)) behind_name ∙ ap number_in (part_of (decimal h.size) tail no_size) ∙ number_written h.size is.size)
    ∙ ap (λ (n : List ℕ). Some (record { moment = h.moment; kind = h.kind; name = n; size = h.size })) name

-- ---- how long one is

length_word : (kind : Kind) → length (word_of kind) ≤ 7
length_word Journal = lit≤ tt
length_word Oai = lit≤ tt
length_word Deposit = lit≤ tt
length_word Tick = lit≤ tt
length_word Begin = lit≤ tt
length_word Set = lit≤ tt
length_word Item = lit≤ tt
length_word OpenList = lit≤ tt
length_word Gone = lit≤ tt

length_moment : (m : ℤ) → FitsSigned w64 m → length (signed_decimal m) ≤ 20
length_moment (pos n) fits = let below : n < 2 ^ 63 = fits.sfits in length_signed_le 19 (pos n) (omega (arith, below)) below
length_moment (negsuc n) fits =
    let below : n < 2 ^ 63 = fits.sfits in
    let size : length (decimal (suc n)) ≤ 19 = length-decimal-le 19 (suc n) (lit< tt) (omega (arith, below)) (omega (arith, below)) in
    omega (arith, size)

pub length_front : (h : RecordHeadFields) → CanBeSpelled h → length (head_front h) ≤ MAX_HEAD
unfolding head_front plain
length_front h is =
    let a : List ℕ = signed_decimal h.moment in
    let b : List ℕ = word_of h.kind in
    let c : List ℕ = h.name in
    let d : List ℕ = decimal h.size in
    let s : List ℕ = codes " " in
    omega (
      arith,
      length-append (a ++ s ++ b ++ s ++ c ++ s ++ d) s,
      length-append (a ++ s ++ b ++ s ++ c ++ s) d,
      length-append (a ++ s ++ b ++ s ++ c) s,
      length-append (a ++ s ++ b ++ s) c,
      length-append (a ++ s ++ b) s,
      length-append (a ++ s) b,
      length-append a s,
      length_moment h.moment is.moment,
      length_word h.kind,
      is.short,
      length-decimal-le 20 h.size (lit< tt) (omega (arith, is.size)) is.size,
    )
