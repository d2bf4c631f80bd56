-- A block of a line made its own, and changed by one element.
use Rattle.std.proofs.Common.{true≢false, false, ◌≡◌, ◌∙◌, ◌+◌, ◌<◌, ◌≤◌, ℕ, suc, Bool, List, [], ◌∷◌, ◌++◌, Option, None, Some, get_or, length, set, take, drop, refl, sym, subst, ap, arith, inl, inr}
use Rattle.std.specs.Prelude.{◌==◌, slice_get, sum_by, unwrap_or}
use Rattle.std.specs.List.{insert, remove}
use Rattle.std.proofs.lemmas.Bool.{cases_eq, cond-false, eq-eqb}
use Rattle.std.proofs.lemmas.List.{length-append, nil_from_length, set-get_or}
use Rattle.std.proofs.lemmas.List.Sums.{sum_by-append}
use Rattle.std.proofs.lemmas.Option.{none-some, same_Some}
use Rattle.oai_blocks.specs.Calls.{BeginsBy, spliced}
use Rattle.oai_blocks.specs.Store.{HasBlock, SetsLine, block_of, copied_of, line_at, lines_of, names_of}
use Rattle.oai_blocks.specs.declared.lines.BlockLines.{BlockLines}

-- a number that is neither none nor one
pub more_than_one : (n : ℕ) → 0 < n → (n == 1) ≡ false → 1 < n
more_than_one n some other =
    elim (cases_eq n 1) [
      | inl same ↦ absurd (true≢false (sym (eq-eqb n 1 same) ∙ other))
      | inr apart ↦ omega (arith, some, apart)
    ]

module _ {T : Type 0} where
  pub begins : (test : T → Bool → Type 0) (block shown : List T) (x : T) (answer : Bool) → shown ≡ block → Some x ≡ slice_get shown 0 → test x answer → BeginsBy test block answer
  begins test [] shown x answer same is h = absurd (none-some x (sym (is ∙ ap (λ (l : List T). slice_get l 0) same)))
  begins test (y ∷ ys) shown x answer same is h = subst (λ z. test z answer) (same_Some x y (is ∙ ap (λ (l : List T). slice_get l 0) same)) h

  line_some : (o : Option (List (List T))) (j : ℕ) → j < length (unwrap_or o []) → Some (unwrap_or o []) ≡ o
  line_some None j within = absurd (omega (arith, within))
  line_some (Some line) j within = refl

  -- one element put in, and one taken out
  put_one : (block others : List T) (i : ℕ) (item : T) → others ≡ item ∷ [] → spliced i 0 others block ≡ insert block i item
  put_one block others i item is =
      let n : i + 0 ≡ i = omega arith in
      ap (λ l. take i block ++ (l ++ drop (i + 0) block)) is ∙ ap (λ k. take i block ++ item ∷ drop k block) n

  take_one : (block none : List T) (i : ℕ) → none ≡ [] → spliced i 1 none block ≡ remove block i
  take_one block none i is =
      let n : i + 1 ≡ suc i = omega arith in
      ap (λ l. take i block ++ (l ++ drop (i + 1) block)) is ∙ ap (λ k. take i block ++ drop k block) n

  -- of at most one element
  only_one : (gone rest : List T) (item : T) → gone ≡ rest ++ item ∷ [] → length gone ≤ 1 → gone ≡ item ∷ []
  only_one gone rest item is few =
      let long : length gone ≡ length (rest ++ item ∷ []) = ap (λ (l : List T). length l) is in
      let none : rest ≡ [] = nil_from_length rest (omega (arith, few, long, length-append rest (item ∷ []))) in
      is ∙ ap (λ l. l ++ item ∷ []) none

  few_of : (l : List T) → length (take 1 l) ≤ 1
  few_of [] = omega arith
  few_of (x ∷ xs) = omega arith

module _ {T S : Type 0} where
  -- copies of a block that other lines name
  pub copied_sets : (v j : ℕ) (copies : List T) (old new : BlockLines T S) → SetsLine v (Some (set (line_at old v) j copies)) copies [] old new → copies ≡ block_of old v j → HasBlock old v j
      → (names_of old v j == 1) ≡ false → SetsLine v (lines_of old v) (copied_of old v j) [] old new
  copied_sets v j copies old new sets is within other =
      let copied : copied_of old v j ≡ block_of old v j = cond-false (names_of old v j == 1) [] (block_of old v j) other in
      record {
        lines = record {
          this = sets.lines.this ∙ ap (λ (c : List T). Some (set (line_at old v) j c)) is ∙ ap Some (set-get_or (line_at old v) j []) ∙ line_some (lines_of old v) j within;
          others = sets.lines.others;
        };
        weight = λ weigh.
            let same : sum_by weigh (copied_of old v j) ≡ sum_by weigh copies = ap (sum_by weigh) (copied ∙ sym is) in
            omega (arith, sets.weight weigh, same);
        steps = sets.steps;
        notes = sets.notes;
      }

  -- a block is made the line's own, and then elements of it are exchanged
  then_exchanged : (v j : ℕ) (items block copied added gone : List T) (old mid new : BlockLines T S) → SetsLine v (lines_of old v) copied [] old mid
      → SetsLine v (Some (set (line_at mid v) j items)) added gone mid new → items ≡ block → SetsLine v (Some (set (line_at old v) j block)) (added ++ copied) gone old new
  then_exchanged v j items block copied added gone old mid new first next is =
      let line : line_at mid v ≡ line_at old v = ap (λ (o : Option (List (List T))). unwrap_or o []) first.lines.this in
      record {
        lines = record {
          this = next.lines.this ∙ ap (λ (l : List (List T)). Some (set l j items)) line ∙ ap (λ (b : List T). Some (set (line_at old v) j b)) is;
          others = λ w apart. next.lines.others w apart ∙ first.lines.others w apart;
        };
        weight = λ weigh.
            let nothing : sum_by weigh [] ≡ 0 = refl in
            omega (arith, first.weight weigh, next.weight weigh, sum_by-append weigh added copied, nothing);
        steps = next.steps ∙ first.steps;
        notes = λ note items noted. first.notes note items (next.notes note items noted);
      }

  same_block : (v j : ℕ) (copied : List T) (old mid : BlockLines T S) → SetsLine v (lines_of old v) copied [] old mid → block_of mid v j ≡ block_of old v j
  same_block v j copied old mid first = ap (λ (o : Option (List (List T))). get_or (unwrap_or o []) j []) first.lines.this

  pub put_sets : (v j i : ℕ) (item : T) (copied others gone : List T) (old mid new : BlockLines T S) → SetsLine v (lines_of old v) copied [] old mid
      → SetsLine v (Some (set (line_at mid v) j (spliced i 0 others (block_of mid v j)))) others gone mid new → others ≡ item ∷ [] → gone ≡ []
      → SetsLine v (Some (set (line_at old v) j (insert (block_of old v j) i item))) (item ∷ copied) [] old new
  put_sets v j i item copied others gone old mid new first next is none =
      let items = ap (λ (b : List T). spliced i 0 others b) (same_block v j copied old mid first) ∙ put_one (block_of old v j) others i item is in
      let both = then_exchanged v j (spliced i 0 others (block_of mid v j)) (insert (block_of old v j) i item) copied others gone old mid new first next items in
      subst (λ (added : List T). SetsLine v (Some (set (line_at old v) j (insert (block_of old v j) i item))) added [] old new) (ap (λ l. l ++ copied) is)
      (subst (λ (out : List T). SetsLine v (Some (set (line_at old v) j (insert (block_of old v j) i item))) (others ++ copied) out old new) none both)

  pub take_sets : (v j i : ℕ) (item : T) (copied none gone rest : List T) (old mid new : BlockLines T S) → SetsLine v (lines_of old v) copied [] old mid
      → SetsLine v (Some (set (line_at mid v) j (spliced i 1 none (block_of mid v j)))) none gone mid new → none ≡ [] → gone ≡ rest ++ item ∷ [] → gone ≡ take 1 (drop i (block_of mid v j))
      → SetsLine v (Some (set (line_at old v) j (remove (block_of old v j) i))) copied (item ∷ []) old new
  take_sets v j i item copied none gone rest old mid new first next is one out =
      let items = ap (λ (b : List T). spliced i 1 none b) (same_block v j copied old mid first) ∙ take_one (block_of old v j) none i is in
      let both = then_exchanged v j (spliced i 1 none (block_of mid v j)) (remove (block_of old v j) i) copied none gone old mid new first next items in
      let long : length gone ≡ length (take 1 (drop i (block_of mid v j))) = ap (λ (l : List T). length l) out in
      let only = only_one gone rest item one (omega (arith, long, few_of (drop i (block_of mid v j)))) in
      subst (λ (added : List T). SetsLine v (Some (set (line_at old v) j (remove (block_of old v j) i))) added (item ∷ []) old new) (ap (λ l. l ++ copied) is)
      (subst (λ (o : List T). SetsLine v (Some (set (line_at old v) j (remove (block_of old v j) i))) (none ++ copied) o old new) only both)
