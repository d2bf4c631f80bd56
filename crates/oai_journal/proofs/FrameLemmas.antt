-- What is read of a frame that was written; and that bytes begin with one frame at most.
use Rattle.std.proofs.Common.{◌≡◌, ◌∙◌, ℕ, ◌+◌, ◌-◌, ◌≤◌, nat_lt, true, List, [], ◌++◌, length, take, drop, Option, Some, None, refl, sym, ap, arith, append_assoc, w64}
use Rattle.std.specs.Int.{to_be_bytes}
use Rattle.std.proofs.Common.{inl, inr}
use Rattle.std.proofs.lemmas.Bool.{cases_lt, cond-false, cond-true, le-ltb, lt-ltb}
use Rattle.std.proofs.lemmas.List.{drop_at, length-append, length-drop, length-take-le, take_at, append-nil}
use Rattle.std.proofs.Math.Seq.{take-append-add}
use Rattle.hex.proofs.HexLemmas.{length-encode_with}
use Rattle.hex.specs.Hex.{lower_digits}
use Rattle.oai_journal.specs.Frames.{body_in, digest_text, entry_in, frame, frame_front, head_of, len_in, next_digest, plain_line_end}
use Rattle.oai_journal.specs.Heads.{RecordHeadFields, head_front, head_in, plain}
use Rattle.oai_journal.specs.Records.{Entry, IsFit, is_within}
use Rattle.oai_journal.specs.declared.heads.TheConstants.{MAX_HEAD}
use Rattle.oai_journal.proofs.FitLemmas.{spellable}
use Rattle.oai_journal.proofs.HeadLemmas.{head_written, length_front}

length_digest : (d : ℕ) → length (digest_text d) ≡ 16
unfolding digest_text
length_digest d = length-encode_with lower_digits (to_be_bytes w64 d)

-- the head in front, and the record's bytes before the last one
abbrev middle : ℕ → Entry → List ℕ
middle before e = digest_text (next_digest before e) ++ plain_line_end

frame_is : (before : ℕ) (e : Entry) (rest : List ℕ) → frame before e ++ rest ≡ head_front (head_of e) ++ (middle before e ++ ((e.body ++ plain_line_end) ++ rest))
unfolding frame frame_front
frame_is before e rest =
    let a : List ℕ = head_front (head_of e) in
    let b : List ℕ = digest_text (next_digest before e) in
    append_assoc (a ++ b ++ plain_line_end) (e.body ++ plain_line_end) rest ∙ ap (λ (l : List ℕ). l ++ ((e.body ++ plain_line_end) ++ rest)) (append_assoc a b plain_line_end)
    ∙ append_assoc a (b ++ plain_line_end) ((e.body ++ plain_line_end) ++ rest)

pub length_frame : (before : ℕ) (e : Entry) → length (frame before e) ≡ length (head_front (head_of e)) + 16 + length e.body + 2
unfolding frame frame_front plain
length_frame before e =
    let a : List ℕ = head_front (head_of e) in
    let b : List ℕ = digest_text (next_digest before e) in
    omega (arith, length-append (a ++ b ++ plain_line_end) (e.body ++ plain_line_end), length-append (a ++ b) plain_line_end, length-append a b, length-append e.body plain_line_end, length_digest (next_digest before e))

take_past : (n : ℕ) (front tail : List ℕ) → length front ≤ n → take n (front ++ tail) ≡ front ++ take (n - length front) tail
take_past n front tail short =
    let sum : n ≡ length front + (n - length front) = omega (arith, short) in
    ap (λ m. take m (front ++ tail)) sum ∙ take-append-add front tail (n - length front)

read_len : (bytes : List ℕ) (h : RecordHeadFields) → head_in bytes ≡ Some h → is_within h.kind h.name h.size ≡ true → len_in bytes ≡ Some (length (head_front h) + 16 + h.size + 2)
unfolding len_in
read_len bytes h is within = rw (is, within) refl

-- the first bytes of a frame are enough to read its head, and to see how long it is
pub frame_head : (n before : ℕ) (e : Entry) (rest : List ℕ) → MAX_HEAD ≤ n → IsFit e → head_in (take n (frame before e ++ rest)) ≡ Some (head_of e)
frame_head n before e rest enough is =
    let h : RecordHeadFields = head_of e in
    let front : List ℕ = head_front h in
    let tail : List ℕ = middle before e ++ ((e.body ++ plain_line_end) ++ rest) in
    let short : length front ≤ n = omega (arith, length_front h (spellable e is)) in
    let begins : take n (frame before e ++ rest) ≡ front ++ take (n - length front) tail = ap (take n) (frame_is before e rest) ∙ take_past n front tail short in
    ap head_in begins ∙ head_written h (take (n - length front) tail) (spellable e is)

pub frame_len : (n before : ℕ) (e : Entry) (rest : List ℕ) → MAX_HEAD ≤ n → IsFit e → len_in (take n (frame before e ++ rest)) ≡ Some (length (frame before e))
frame_len n before e rest enough is =
    read_len _ (head_of e) (frame_head n before e rest enough is) is.fit ∙ ap (λ m. Some m) (sym (length_frame before e))

pub read_body : (front body : List ℕ) → body_in (length body) (front ++ (body ++ plain_line_end)) ≡ Some body
unfolding body_in plain
read_body front body =
    let whole : List ℕ = front ++ (body ++ plain_line_end) in
    let size : length whole ≡ length front + (length body + 1) = omega (arith, length-append front (body ++ plain_line_end), length-append body plain_line_end) in
    let at : length whole - length body - 1 ≡ length front = omega (arith, size) in
    cond-true (nat_lt (length body) (length whole)) _ None (lt-ltb _ _ (omega (arith, size)))
    ∙ ap (λ m. Some (take (length body) (drop m whole))) at
    ∙ ap (λ (l : List ℕ). Some (take (length body) l)) (drop_at front (body ++ plain_line_end) (length front) refl)
    ∙ ap (λ (l : List ℕ). Some l) (take_at body plain_line_end (length body) refl)

read_entry : (bytes : List ℕ) (h : RecordHeadFields) (body : List ℕ) → head_in bytes ≡ Some h → body_in h.size bytes ≡ Some body
    → entry_in bytes ≡ Some (record { moment = h.moment; kind = h.kind; name = h.name; body = body })
unfolding entry_in
read_entry bytes h body is body_is = rw (is, body_is) refl

whole_frame : (before : ℕ) (e : Entry) → frame before e ≡ head_front (head_of e) ++ (middle before e ++ (e.body ++ plain_line_end))
whole_frame before e =
    sym (append-nil (frame before e)) ∙ frame_is before e [] ∙ ap (λ (l : List ℕ). head_front (head_of e) ++ (middle before e ++ l)) (append-nil (e.body ++ plain_line_end))

pub body_of : (before : ℕ) (e : Entry) → body_in (length e.body) (frame before e) ≡ Some e.body
unfolding frame
body_of before e = read_body (frame_front before e) e.body

abbrev or_else : {A : Type 0} → Option A → A → A
or_else None d = d
or_else (Some x) d = x

pub some_same : {A : Type 0} (a b : A) → Some a ≡ Some b → a ≡ b
some_same a b is = ap (λ o. or_else o a) is

-- bytes before the last one are as many as were wanted
pub length_body : (size : ℕ) (bytes body : List ℕ) → body_in size bytes ≡ Some body → length body ≡ size
unfolding body_in
length_body size bytes body is = elim (cases_lt size (length bytes)) [
  | inl less ↦
      let there : size ≤ length (drop (length bytes - size - 1) bytes) = omega (arith, length-drop (length bytes - size - 1) bytes, less) in
      ap length (sym (some_same _ _ (sym (cond-true (nat_lt size (length bytes)) _ None (lt-ltb _ _ less)) ∙ is))) ∙ length-take-le size (drop (length bytes - size - 1) bytes) there
  | inr more ↦
      let none : None ≡ Some body = sym (cond-false (nat_lt size (length bytes)) _ None (le-ltb _ _ more)) ∙ is in cc
]

pub frame_read : (before : ℕ) (e : Entry) → IsFit e → entry_in (frame before e) ≡ Some e
frame_read before e is =
    let head : head_in (frame before e) ≡ Some (head_of e) = ap head_in (whole_frame before e) ∙ head_written (head_of e) (middle before e ++ (e.body ++ plain_line_end)) (spellable e is) in
    read_entry (frame before e) (head_of e) e.body head (body_of before e)

-- bytes that begin with two frames behind the same digest begin with one, and the same stands behind it
pub record IsSame (e e' : Entry) (rest rest' : List ℕ) : Type 0 where
  pub entry : e ≡ e'
  pub behind : rest ≡ rest'

pub frame_same : (before : ℕ) (e e' : Entry) (rest rest' : List ℕ) → IsFit e → IsFit e' → frame before e ++ rest ≡ frame before e' ++ rest' → IsSame e e' rest rest'
frame_same before e e' rest rest' fit fit' is =
    let size : length (frame before e) ≡ length (frame before e') =
    some_same _ _ (sym (frame_len MAX_HEAD before e rest (omega arith) fit) ∙ ap (λ (l : List ℕ). len_in (take MAX_HEAD l)) is ∙ frame_len MAX_HEAD before e' rest' (omega arith) fit') in
    let one : frame before e ≡ frame before e' =
    sym (take_at (frame before e) rest (length (frame before e)) refl) ∙ ap (take (length (frame before e))) is
    ∙ take_at (frame before e') rest' (length (frame before e)) (sym size) in
    record {
      entry = some_same e e' (sym (frame_read before e fit) ∙ ap entry_in one ∙ frame_read before e' fit');
      behind = sym (drop_at (frame before e) rest (length (frame before e)) refl) ∙ ap (drop (length (frame before e))) is
          ∙ drop_at (frame before e') rest' (length (frame before e)) (sym size);
    }
