-- The lines of an input are read one after the other: what is so of those in front, and what comes of it for all.
use Rattle.std.proofs.Common.{◌≡◌, ◌∙◌, ℕ, ◌+◌, ◌-◌, ◌^◌, min, true, false, List, [], ◌∷◌, ◌++◌, length, Option, None, Some, IfSome, Ok, refl, sym, ap, subst, arith, append_assoc, append-nil}
use Rattle.oai_cli.specs.Inputs.{IsNextLine, left, unread, IsReadSoFar}
use Rattle.oai_cli.specs.NumberedLines.{lines_of}

-- nothing is read
pub read_none : (known : Option (List ℕ)) (Done : List (List ℕ) → Type 0) → Done [] → IsReadSoFar known (left unread known) Done
read_none None Done done = tt
read_none (Some input) Done done = ([], refl, done)

-- one line more
pub read_more : (known : Option (List ℕ)) (lines others : Option (List (List ℕ))) (line : List ℕ) (Before Done : List (List ℕ) → Type 0) → IsNextLine lines (Ok true) line others
    → ((front : List (List ℕ)) → Before front → Done (front ++ line ∷ [])) → IsReadSoFar known lines Before → IsReadSoFar known others Done
read_more None lines others line Before Done next goes so_far = tt
read_more (Some input) None others line Before Done next goes so_far = absurd so_far
read_more (Some input) (Some ls) None line Before Done next goes so_far = absurd next
read_more (Some input) (Some ls) (Some os) line Before Done next goes so_far =
    (so_far.0 ++ line ∷ [], so_far.1 ∙ ap (λ (xs : List (List ℕ)). so_far.0 ++ xs) next ∙ sym (append_assoc so_far.0 (line ∷ []) os), goes so_far.0 so_far.2)

-- it stops at a line
pub read_to : (known : Option (List ℕ)) (lines others : Option (List (List ℕ))) (line : List ℕ) (Before All : List (List ℕ) → Type 0) → IsNextLine lines (Ok true) line others
    → ((front rest all : List (List ℕ)) → all ≡ front ++ line ∷ rest → Before front → All all) → IsReadSoFar known lines Before
    → IfSome known (λ (input : List ℕ). All (lines_of input))
read_to None lines others line Before All next goes so_far = tt
read_to (Some input) None others line Before All next goes so_far = absurd so_far
read_to (Some input) (Some ls) None line Before All next goes so_far = absurd next
read_to (Some input) (Some ls) (Some os) line Before All next goes so_far =
    goes so_far.0 os (lines_of input) (so_far.1 ∙ ap (λ (xs : List (List ℕ)). so_far.0 ++ xs) next) so_far.2

-- there is no line more
pub read_whole : (known : Option (List ℕ)) (lines others : Option (List (List ℕ))) (line : List ℕ) (Done : List (List ℕ) → Type 0) → IsNextLine lines (Ok false) line others
    → IsReadSoFar known lines Done → IfSome known (λ (input : List ℕ). Done (lines_of input))
read_whole None lines others line Done next so_far = tt
read_whole (Some input) None others line Done next so_far = absurd so_far
read_whole (Some input) (Some ls) others line Done next so_far =
    subst Done (sym (so_far.1 ∙ ap (λ (xs : List (List ℕ)). so_far.0 ++ xs) next ∙ append-nil so_far.0)) so_far.2

-- the input is not read to its end
pub read_front : (known : Option (List ℕ)) (lines : Option (List (List ℕ))) (Done All : List (List ℕ) → Type 0)
    → ((front others all : List (List ℕ)) → all ≡ front ++ others → Done front → All all) → IsReadSoFar known lines Done → IfSome known (λ (input : List ℕ). All (lines_of input))
read_front None lines Done All goes so_far = tt
read_front (Some input) None Done All goes so_far = absurd so_far
read_front (Some input) (Some ls) Done All goes so_far = goes so_far.0 ls (lines_of input) so_far.1 so_far.2

-- what is so of a known input
pub known_so : (known : Option (List ℕ)) (P Q : List ℕ → Type 0) → ((input : List ℕ) → P input → Q input) → IfSome known P → IfSome known Q
known_so None P Q f p = tt
known_so (Some input) P Q f p = f input p

pub known_all : (known : Option (List ℕ)) (P : List ℕ → Type 0) → ((input : List ℕ) → P input) → IfSome known P
known_all None P f = tt
known_all (Some input) P f = f input

-- ---- how many lines

pub number_next : (ended lines : ℕ) → ended ≡ min lines (2 ^ 64 - 1) → min (ended + 1) (2 ^ 64 - 1) ≡ min (lines + 1) (2 ^ 64 - 1)
number_next ended lines is = omega (arith, is)

pub length_next : (front : List (List ℕ)) (line : List ℕ) → length (front ++ line ∷ []) ≡ length front + 1
length_next [] line = refl
length_next (f ∷ front) line = omega (arith, length_next front line)

-- the number of one line more
pub counted_next : (front : List (List ℕ)) (line : List ℕ) (was is : ℕ) → is ≡ min (was + 1) (2 ^ 64 - 1) → was ≡ min (length front) (2 ^ 64 - 1)
    → is ≡ min (length (front ++ line ∷ [])) (2 ^ 64 - 1)
counted_next front line was is counted before =
    counted ∙ number_next was (length front) before ∙ ap (λ (n : ℕ). min n (2 ^ 64 - 1)) (sym (length_next front line))
