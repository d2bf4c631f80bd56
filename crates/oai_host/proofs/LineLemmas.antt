-- The lines of a body, one after the other.
use Rattle.std.proofs.Common.{◌≡◌, ◌∙◌, ◌++◌, ◌≤◌, ◌<◌, ℕ, zero, suc, ◌+◌, ◌-◌, Bool, true, false, not, get_or, List, [], ◌∷◌, length, filter, take, drop, cond, refl, subst, sym, ap, arith}
use Rattle.std.specs.List.{All, after_first, before_first, position_or_len, slice_split}
use Rattle.std.proofs.lemmas.List.{take_all}
use Rattle.std.proofs.lemmas.Bool.{cond-true, eqb-true}
use Rattle.std.proofs.lemmas.List.{get_or-take, length-drop}
use Rattle.std.proofs.lemmas.List.Splits.{slice_split_at, slice_split_first, slice_split_none}
use Rattle.std.proofs.lemmas.List.Sums.{fails_before_first, passes_at_first}
use Rattle.oai_host.specs.Bodies.{is_blank, is_line_end, lines_in}
use Rattle.oai_host.specs.DepositLines.{AreTaken, FollowsLines, from_line}

from_blank : (line : List ℕ) (pieces : List (List ℕ)) → filter (λ (text : List ℕ). not (is_blank text)) (line ∷ pieces) ≡ from_line line (filter (λ (text : List ℕ). not (is_blank text)) pieces)
from_blank line pieces = turned (is_blank line)
  where
    turned : (b : Bool) → cond (not b) (line ∷ filter (λ (text : List ℕ). not (is_blank text)) pieces) (filter (λ (text : List ℕ). not (is_blank text)) pieces)
        ≡ cond b (filter (λ (text : List ℕ). not (is_blank text)) pieces) (line ∷ filter (λ (text : List ℕ). not (is_blank text)) pieces)
    turned true = refl
    turned false = refl

-- a line that ends
pub first_line : (text : List ℕ) → position_or_len is_line_end text < length text → lines_in text ≡ from_line (before_first is_line_end text) (lines_in (after_first is_line_end text))
first_line text ends =
    ap (filter (λ (text : List ℕ). not (is_blank text))) (slice_split_first is_line_end text 0 ends)
    ∙ from_blank (before_first is_line_end text) (slice_split is_line_end (after_first is_line_end text))

-- a line that does not
pub last_line : (text : List ℕ) → position_or_len is_line_end text ≡ length text → lines_in text ≡ from_line text []
last_line text all =
    ap (filter (λ (text : List ℕ). not (is_blank text))) (slice_split_none is_line_end text (λ k d within. fails_before_first is_line_end text k d (omega (arith, all, within))))
    ∙ from_blank text []

-- a slice to the end
pub to_end : (n : ℕ) (text : List ℕ) → take (length text - n) (drop n text) ≡ drop n text
to_end zero [] = refl
to_end zero (b ∷ text) = take_all (length (b ∷ text) - 0) (b ∷ text) (omega arith)
to_end (suc n) [] = take_all (0 - suc n) [] (omega arith)
to_end (suc n) (b ∷ text) = let less : (suc (length text) - suc n) ≡ (length text - n) = omega arith in rw less (to_end n text)

-- ---- the first lines, byte for byte

-- a text is cut at a byte
joined_at : (n : ℕ) (text : List ℕ) → n < length text → take n text ++ get_or text n 0 ∷ drop (suc n) text ≡ text
joined_at zero [] within = absurd (omega (arith, within))
joined_at zero (b ∷ text) within = refl
joined_at (suc n) [] within = absurd (omega (arith, within))
joined_at (suc n) (b ∷ text) within = ap (λ (others : List ℕ). b ∷ others) (joined_at n text (omega (arith, within)))

-- a line that ends, and what stands behind it
lines_at : (front rest : List ℕ) → All (λ (b : ℕ). is_line_end b ≡ false) front → lines_in (front ++ 10 ∷ rest) ≡ from_line front (lines_in rest)
lines_at front rest clean =
    ap (filter (λ (text : List ℕ). not (is_blank text))) (slice_split_at is_line_end front 10 rest clean refl)
    ∙ from_blank front (slice_split is_line_end rest)

take_past : (front : List ℕ) (size k : ℕ) (b : ℕ) (rest : List ℕ) → k ≡ suc (length front) + size → take k (front ++ b ∷ rest) ≡ front ++ b ∷ take size rest
take_past [] size zero b rest is = absurd (omega (arith, is))
take_past [] size (suc k) b rest is = let same : k ≡ size = omega (arith, is) in ap (λ (n : ℕ). b ∷ take n rest) same
take_past (x ∷ front) size zero b rest is = absurd (omega (arith, is))
take_past (x ∷ front) size (suc k) b rest is = ap (λ (others : List ℕ). x ∷ others) (take_past front size k b rest (omega (arith, is)))

-- of a line and others as many are taken as of the others, and it, where it is one
from_taken : (blank : Bool) (front : List ℕ) (lines : List (List ℕ)) (left others : ℕ) → left ≡ cond blank others (others + 1)
    → cond blank (take others lines) (front ∷ take others lines) ≡ take left (cond blank lines (front ∷ lines))
from_taken true front lines left others is = ap (λ (n : ℕ). take n lines) (sym is)
from_taken false front lines left others is = let next : left ≡ suc others = omega (arith, is) in ap (λ (n : ℕ). take n (front ∷ lines)) (sym next)

pub taken_line : (n size left others : ℕ) (text : List ℕ) → n ≡ position_or_len is_line_end text → n < length text → left ≡ cond (is_blank (take n text)) others (others + 1)
    → AreTaken (drop (suc n) text) size others → AreTaken text (suc n + size) left
taken_line n size left others text at within is taken =
    let front : List ℕ = take n text in
    let rest : List ℕ = drop (suc n) text in
    let ended : get_or text n 0 ≡ 10 =
    eqb-true (get_or text n 0) 10 (ap (λ (k : ℕ). is_line_end (get_or text k 0)) at ∙ passes_at_first is_line_end text 0 (omega (arith, at, within)))
    in
    let whole : front ++ 10 ∷ rest ≡ text = ap (λ (b : ℕ). front ++ b ∷ rest) (sym ended) ∙ joined_at n text within in
    let many : length front ≡ n = length_taken n text within in
    let clean : All (λ (b : ℕ). is_line_end b ≡ false) front = λ k d below.
    let early : k < n = omega (arith, below, many) in
    ap is_line_end (get_or-take n text k d early) ∙ fails_before_first is_line_end text k d (omega (arith, early, at))
    in
    ap (λ (t : List ℕ). lines_in (take (suc n + size) t)) (sym whole)
    ∙ ap lines_in (take_past front size (suc n + size) 10 rest (omega (arith, many)))
    ∙ lines_at front (take size rest) clean
    ∙ ap (from_line front) taken
    ∙ from_taken (is_blank front) front (lines_in rest) left others is
    ∙ ap (take left) (sym (lines_at front rest clean) ∙ ap lines_in whole)
  where
    length_taken : (n : ℕ) (text : List ℕ) → n < length text → length (take n text) ≡ n
    length_taken zero [] within = refl
    length_taken zero (b ∷ text) within = refl
    length_taken (suc n) [] within = absurd (omega (arith, within))
    length_taken (suc n) (b ∷ text) within = ap suc (length_taken n text (omega (arith, within)))

none_taken : (n : ℕ) → take {A = List ℕ} n [] ≡ []
none_taken zero = refl
none_taken (suc n) = refl

one_taken : (blank : Bool) (text : List ℕ) (left others : ℕ) → left ≡ cond blank others (others + 1) → cond blank [] (text ∷ []) ≡ take left (cond blank [] (text ∷ []))
one_taken true text left others is = sym (none_taken left)
one_taken false text left others is =
    let next : left ≡ suc others = omega (arith, is) in
    ap (λ (xs : List (List ℕ)). text ∷ xs) (sym (none_taken others)) ∙ ap (λ (n : ℕ). take n (text ∷ [])) (sym next)

pub taken_last : (size left others : ℕ) (text : List ℕ) → position_or_len is_line_end text ≡ length text → left ≡ cond (is_blank text) others (others + 1) → AreTaken text (length text + size) left
taken_last size left others text all is =
    ap lines_in (take_all (length text + size) text (omega arith))
    ∙ last_line text all
    ∙ one_taken (is_blank text) text left others is
    ∙ ap (take left) (sym (last_line text all))

-- nothing more is taken
taken_none : (text : List ℕ) → AreTaken text 0 0
taken_none [] = refl
taken_none (b ∷ text) = none_first (lines_in (b ∷ text))
  where
    none_first : (lines : List (List ℕ)) → [] ≡ take 0 lines
    none_first [] = refl
    none_first (line ∷ lines) = refl

-- ---- what stands behind the first lines

pub behind_start : (body : List ℕ) → FollowsLines body body 0
behind_start body size more taken =
    let none : size ≡ length body - length body + size = omega arith in
    let all : more ≡ 0 + more = omega arith in
    subst (λ (k : ℕ). AreTaken body k (0 + more)) none (subst (λ (k : ℕ). AreTaken body size k) all taken)

pub behind_on : (body between rest : List ℕ) (n m : ℕ) → length between ≤ length body → length rest ≤ length between → FollowsLines body between n → FollowsLines between rest m → FollowsLines body rest (n + m)
behind_on body between rest n m one two first last size more taken =
    let sizes : length body - length between + (length between - length rest + size) ≡ length body - length rest + size = omega (arith, one, two) in
    let counts : n + (m + more) ≡ n + m + more = omega arith in
    subst (λ (k : ℕ). AreTaken body k (n + m + more)) sizes
    (subst (λ (k : ℕ). AreTaken body (length body - length between + (length between - length rest + size)) k) counts (first (length between - length rest + size) (m + more) (last size more taken)))

-- what stands before it are these lines
pub behind_taken : (body rest : List ℕ) (n : ℕ) → FollowsLines body rest n → AreTaken body (length body - length rest) n
behind_taken body rest n behind =
    let size : length body - length rest + 0 ≡ length body - length rest = omega arith in
    let count : n + 0 ≡ n = omega arith in
    subst (λ (k : ℕ). AreTaken body k n) size (subst (λ (k : ℕ). AreTaken body (length body - length rest + 0) k) count (behind 0 0 (taken_none rest)))

counted : (blank : Bool) (more : ℕ) → cond blank 0 1 + more ≡ cond blank more (more + 1)
counted true more = let none : 0 + more ≡ more = omega arith in none
counted false more = let one : 1 + more ≡ more + 1 = omega arith in one

pub behind_line : (n : ℕ) (text : List ℕ) → n ≡ position_or_len is_line_end text → n < length text → FollowsLines text (drop (suc n) text) (cond (is_blank (take n text)) 0 1)
behind_line n text at within size more taken =
    let passed : suc n + size ≡ length text - length (drop (suc n) text) + size = omega (arith, within, length-drop (suc n) text) in
    subst (λ (k : ℕ). AreTaken text k (cond (is_blank (take n text)) 0 1 + more)) passed
    (taken_line n size (cond (is_blank (take n text)) 0 1 + more) more text at within (counted (is_blank (take n text)) more) taken)

pub behind_last : (text : List ℕ) → position_or_len is_line_end text ≡ length text → FollowsLines text [] (cond (is_blank text) 0 1)
behind_last text all size more taken =
    let passed : length text + size ≡ length text - 0 + size = omega arith in
    subst (λ (k : ℕ). AreTaken text k (cond (is_blank text) 0 1 + more)) passed (taken_last size (cond (is_blank text) 0 1 + more) more text all (counted (is_blank text) more))

pub no_lines : (text : List ℕ) → length text ≡ 0 → lines_in text ≡ []
no_lines [] none = refl
no_lines (b ∷ text) none = absurd (omega (arith, none))

pub from_empty : (line : List ℕ) (lines : List (List ℕ)) → is_blank line ≡ true → from_line line lines ≡ lines
from_empty line lines blank = cond-true (is_blank line) lines (line ∷ lines) blank
