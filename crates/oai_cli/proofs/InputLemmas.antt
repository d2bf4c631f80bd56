-- The lines of an input, as its bytes come.
use Rattle.std.proofs.Common.{◌≡◌, ◌∙◌, ◌<◌, ◌≤◌, inl, inr, ℕ, zero, suc, ◌+◌, ◌-◌, Bool, true, false, nat_lt, List, [], ◌∷◌, ◌++◌, length, take, drop, cond, Option, None, Some, Ok, refl, sym, ap, subst, arith, append_assoc, append-nil}
use Rattle.std.specs.Io.KnownBytes.{Consumes, IsAtEnd, prepend_known}
use Rattle.std.specs.List.{after_first, before_first, onto_first, position_or_len}
use Rattle.std.specs.Option.{option_map}
use Rattle.std.proofs.lemmas.Bool.{cases_Bool, lt-ltb}
use Rattle.std.proofs.lemmas.List.{drop-take, length-take}
use Rattle.std.proofs.lemmas.List.Splits.{slice_split_first, slice_split_none, slice_split-cons_no, slice_split-cons_yes}
use Rattle.std.proofs.lemmas.List.Sums.{fails_before_first, prefix_len-le-length}
use Rattle.oai_host.specs.Bodies.{is_line_end}
use Rattle.oai_cli.specs.NumberedLines.{lines_of}
use Rattle.oai_cli.specs.Inputs.{Input, IsGoing, IsNextLine, IsLinePiece, left, onto_line}

-- there is a first line
first_of : (text : List ℕ) → (line : List ℕ) × (lines : List (List ℕ)) × (lines_of text ≡ line ∷ lines)
first_of [] = ([], [], refl)
first_of (b ∷ text) =
    let others = first_of text in
    elim (cases_Bool (is_line_end b)) [
      | inl ends ↦ ([], lines_of text, slice_split-cons_yes is_line_end b text ends)
      | inr goes ↦ (b ∷ others.0, others.1, slice_split-cons_no is_line_end b text goes ∙ ap (onto_first b) others.2)
    ]

onto_none : (text : List ℕ) → onto_line [] (lines_of text) ≡ lines_of text
onto_none text = let first = first_of text in ap (onto_line []) first.2 ∙ sym first.2

-- the lines of two texts, one behind the other: the last of the one goes on with the first of the other
abbrev joined : List (List ℕ) → List (List ℕ) → List (List ℕ)
joined [] ys = ys
joined (x ∷ []) ys = onto_line x ys
joined (x ∷ y ∷ xs) ys = x ∷ joined (y ∷ xs) ys

joined_onto : (b : ℕ) (s t : List ℕ) (ss ts : List (List ℕ)) → onto_first b (joined (s ∷ ss) (t ∷ ts)) ≡ joined ((b ∷ s) ∷ ss) (t ∷ ts)
joined_onto b s t [] ts = refl
joined_onto b s t (r ∷ ss) ts = refl

lines_of_both : (a b : List ℕ) → lines_of (a ++ b) ≡ joined (lines_of a) (lines_of b)
lines_of_both [] b = sym (onto_none b)
lines_of_both (x ∷ a) b =
    let one = first_of a in
    let other = first_of b in
    elim (cases_Bool (is_line_end x)) [
      | inl ends ↦
          slice_split-cons_yes is_line_end x (a ++ b) ends
          ∙ ap (λ (ls : List (List ℕ)). [] ∷ ls) (lines_of_both a b)
          ∙ ap (λ (ls : List (List ℕ)). [] ∷ joined ls (lines_of b)) one.2
          ∙ sym (ap (λ (ls : List (List ℕ)). joined ([] ∷ ls) (lines_of b)) one.2)
          ∙ sym (ap (λ (ls : List (List ℕ)). joined ls (lines_of b)) (slice_split-cons_yes is_line_end x a ends))
      | inr goes ↦
          slice_split-cons_no is_line_end x (a ++ b) goes
          ∙ ap (onto_first x) (lines_of_both a b)
          ∙ ap (λ (ls : List (List ℕ)). onto_first x (joined ls (lines_of b))) one.2
          ∙ ap (λ (ls : List (List ℕ)). onto_first x (joined (one.0 ∷ one.1) ls)) other.2
          ∙ joined_onto x one.0 other.0 one.1 other.1
          ∙ sym (ap (λ (ls : List (List ℕ)). joined ((x ∷ one.0) ∷ one.1) ls) other.2)
          ∙ sym (ap (λ (ls : List (List ℕ)). joined (onto_first x ls) (lines_of b)) one.2)
          ∙ sym (ap (λ (ls : List (List ℕ)). joined ls (lines_of b)) (slice_split-cons_no is_line_end x a goes))
    ]

some_at : (at n len : ℕ) → Some at ≡ cond (nat_lt n len) (Some n) None → (at ≡ n) × (n < len)
some_at at n len is = grind (arith, lt-ltb)

none_before : (n len : ℕ) → n ≤ len → None ≡ cond (nat_lt n len) (Some n) None → n ≡ len
none_before n len within is = grind (arith, lt-ltb)

-- a line end was read ahead
piece_ends : (begun ahead rest : List ℕ) (at : ℕ) → Some at ≡ cond (nat_lt (position_or_len is_line_end ahead) (length ahead)) (Some (position_or_len is_line_end ahead)) None
    → onto_line begun (lines_of (ahead ++ rest)) ≡ (begun ++ take at ahead) ∷ lines_of (drop (at + 1) ahead ++ rest)
piece_ends begun ahead rest at found =
    let is = some_at at (position_or_len is_line_end ahead) (length ahead) found in
    let first = first_of (after_first is_line_end ahead) in
    let whole : lines_of (ahead ++ rest) ≡ before_first is_line_end ahead ∷ lines_of (after_first is_line_end ahead ++ rest) =
    lines_of_both ahead rest
    ∙ ap (λ (ls : List (List ℕ)). joined ls (lines_of rest)) (slice_split_first is_line_end ahead 0 is.1)
    ∙ ap (λ (ls : List (List ℕ)). joined (before_first is_line_end ahead ∷ ls) (lines_of rest)) first.2
    ∙ ap (λ (ls : List (List ℕ)). before_first is_line_end ahead ∷ joined ls (lines_of rest)) (sym first.2)
    ∙ ap (λ (ls : List (List ℕ)). before_first is_line_end ahead ∷ ls) (sym (lines_of_both (after_first is_line_end ahead) rest)) in
    rw is.0 (ap (onto_line begun) whole)

onto_joined : (begun line : List ℕ) (ys : List (List ℕ)) (y : List ℕ) → onto_line begun (onto_line line (y ∷ ys)) ≡ onto_line (begun ++ line) (y ∷ ys)
onto_joined begun line ys y = ap (λ (l : List ℕ). l ∷ ys) (sym (append_assoc begun line y))

-- none was
pub piece_goes_on : (begun ahead rest : List ℕ) → None ≡ cond (nat_lt (position_or_len is_line_end ahead) (length ahead)) (Some (position_or_len is_line_end ahead)) None
    → onto_line begun (lines_of (ahead ++ rest)) ≡ onto_line (begun ++ ahead) (lines_of rest)
piece_goes_on begun ahead rest none =
    let all = none_before (position_or_len is_line_end ahead) (length ahead) (prefix_len-le-length _ ahead) none in
    let one : lines_of ahead ≡ ahead ∷ [] = slice_split_none is_line_end ahead (λ k d within. fails_before_first is_line_end ahead k d (omega (arith, all, within))) in
    let first = first_of rest in
    let whole : lines_of (ahead ++ rest) ≡ onto_line ahead (lines_of rest) = lines_of_both ahead rest ∙ ap (λ (ls : List (List ℕ)). joined ls (lines_of rest)) one in
    ap (onto_line begun) (whole ∙ ap (onto_line ahead) first.2) ∙ onto_joined begun ahead first.1 first.0 ∙ ap (onto_line (begun ++ ahead)) (sym first.2)

drop_none : (n : ℕ) → drop {A = ℕ} n [] ≡ []
drop_none zero = refl
drop_none (suc n) = refl

drop_both : (n m : ℕ) (xs : List ℕ) → drop n (drop m xs) ≡ drop (m + n) xs
drop_both n zero xs = let same : n ≡ 0 + n = omega arith in ap (λ (k : ℕ). drop k xs) same
drop_both n (suc m) [] = drop_none n ∙ sym (drop_none (suc m + n))
drop_both n (suc m) (x ∷ xs) = let same : suc m + n ≡ suc (m + n) = omega arith in rw same (drop_both n m xs)

-- a front of a part is taken away
shrunk : (given filled n : ℕ) (xs : List ℕ) → n ≤ filled - given → drop n (take (filled - given) (drop given xs)) ≡ take (filled - (given + n)) (drop (given + n) xs)
shrunk given filled n xs within =
    let parts : (filled - given) ≡ n + (filled - (given + n)) = omega (arith, within) in
    ap (λ (k : ℕ). drop n (take k (drop given xs))) parts ∙ drop-take n (filled - (given + n)) (drop given xs) ∙ ap (take (filled - (given + n))) (drop_both n given xs)

pub piece_ends_in : (begun buffer rest : List ℕ) (given filled at : ℕ)
    → Some at ≡ cond (nat_lt (position_or_len is_line_end (take (filled - given) (drop given buffer))) (length (take (filled - given) (drop given buffer))))
    (Some (position_or_len is_line_end (take (filled - given) (drop given buffer)))) None
    → onto_line begun (lines_of (take (filled - given) (drop given buffer) ++ rest))
    ≡ (begun ++ take at (take (filled - given) (drop given buffer))) ∷ lines_of (take (filled - (given + (at + 1))) (drop (given + (at + 1)) buffer) ++ rest)
piece_ends_in begun buffer rest given filled at found =
    let ahead = take (filled - given) (drop given buffer) in
    let is = some_at at (position_or_len is_line_end ahead) (length ahead) found in
    let within : at + 1 ≤ filled - given = omega (arith, is.0, is.1, length-take (filled - given) (drop given buffer)) in
    piece_ends begun ahead rest at found
    ∙ ap (λ (l : List ℕ). (begun ++ take at ahead) ∷ lines_of (l ++ rest)) (shrunk given filled (at + 1) buffer within)

-- ---- the next line

-- a line begins
going_begins : (text : Option (List ℕ)) → IsGoing (option_map lines_of text) [] text
going_begins None = tt
going_begins (Some text) = sym (onto_none text)

pub going_starts : (input : Input) (line : List ℕ) (known : Option (List ℕ)) → input.is_over ≡ false → line ≡ [] → IsGoing (left input known) line (prepend_known input.ahead known)
going_starts input line known over none =
    let text = prepend_known input.ahead known in
    subst (λ (l : List ℕ). IsGoing (left input known) l text) (sym none)
    (subst (λ (b : Bool). IsGoing (cond b (Some []) (option_map lines_of text)) [] text) (sym over) (going_begins text))

-- it ends
pub going_ends : (lines : Option (List (List ℕ))) (known : Option (List ℕ)) (old new : Input) → IsGoing lines old.line (prepend_known old.ahead known) → IsLinePiece old (Ok true) new
    → IsNextLine lines (Ok true) new.line (option_map lines_of (prepend_known new.ahead known))
going_ends None known old new going piece = tt
going_ends (Some lines) None old new going piece = absurd going
going_ends (Some lines) (Some rest) old new going piece = going ∙ piece rest

-- it goes on with what is read next
pub going_on : (lines : Option (List (List ℕ))) (known after : Option (List ℕ)) (old new : Input) (ahead : List ℕ) → IsGoing lines old.line (prepend_known old.ahead known)
    → IsLinePiece old (Ok false) new → Consumes known after ahead → IsGoing lines new.line (prepend_known ahead after)
going_on None known after old new ahead going piece consumed = tt
going_on (Some lines) None after old new ahead going piece consumed = absurd going
going_on (Some lines) (Some rest) None old new ahead going piece consumed = absurd consumed
going_on (Some lines) (Some rest) (Some more) old new ahead going piece consumed = going ∙ piece rest ∙ ap (λ (text : List ℕ). onto_line new.line (lines_of text)) consumed

-- nothing more is read: it is the last
pub going_is_over : (lines : Option (List (List ℕ))) (known after : Option (List ℕ)) (old new : Input) (ahead : List ℕ) → IsGoing lines old.line (prepend_known old.ahead known)
    → IsLinePiece old (Ok false) new → Consumes known after ahead → ahead ≡ [] → IsAtEnd after → IsNextLine lines (Ok true) new.line (Some [])
going_is_over None known after old new ahead going piece consumed none end = tt
going_is_over (Some lines) None after old new ahead going piece consumed none end = absurd going
going_is_over (Some lines) (Some rest) None old new ahead going piece consumed none end = absurd consumed
going_is_over (Some lines) (Some rest) (Some more) old new ahead going piece consumed none end =
    let nothing : rest ≡ [] = consumed ∙ ap (λ (text : List ℕ). text ++ more) none ∙ end in
    going ∙ piece rest ∙ ap (λ (text : List ℕ). onto_line new.line (lines_of text)) nothing ∙ ap (λ (l : List ℕ). l ∷ []) (append-nil new.line)
