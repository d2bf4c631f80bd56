-- Lines that were dropped and wait.
use Rattle.std.proofs.Common.{◌≡◌, ◌∙◌, ◌+◌, ◌<◌, ◌≤◌, ℕ, suc, zero, List, [], ◌∷◌, ◌++◌, Option, None, Some, get_or, length, refl, ap, arith, inl, inr}
use Rattle.std.specs.Prelude.{count_by, is_some, option_map, sum_by}
use Rattle.std.proofs.lemmas.Bool.{cases_eq}
use Rattle.std.proofs.lemmas.List.Sums.{sum_by-cons, sum_by_push}
use Rattle.oai_blocks.specs.Blocks.{AreBlocked, Numbers, Shelf, blocks_of, lines_on, named_by, names_at, numbers_at, steps_for, times_named, times_in}
use Rattle.oai_blocks.specs.Calls.{IsLineSet}
use Rattle.oai_blocks.specs.Naming.{IsSlotSet, Turns}
use Rattle.oai_blocks.proofs.FrameLemmas.{same_blocks}
use Rattle.oai_blocks.proofs.SlotLemmas.{sum-changed, sum-few, sum-part}
use Rattle.oai_blocks.proofs.TimesLemmas.{times-append, times-nil}

-- what is so of each element, of one more, and of the default
each-push : {X : Type 0} (P : X → Type 0) (d y : X) (xs : List X) → ((k : ℕ) → P (get_or xs k d)) → P y → P d → (k : ℕ) → P (get_or (xs ++ y ∷ []) k d)
each-push P d y [] h p q zero = p
each-push P d y [] h p q (suc k) = q
each-push P d y (x ∷ xs) h p q zero = h 0
each-push P d y (x ∷ xs) h p q (suc k) = each-push P d y xs (λ j. h (suc j)) p q k

each-front : {X : Type 0} (P : X → Type 0) (d y : X) (xs : List X) → ((k : ℕ) → P (get_or (xs ++ y ∷ []) k d)) → P d → (k : ℕ) → P (get_or xs k d)
each-front P d y [] h q k = q
each-front P d y (x ∷ xs) h q zero = h 0
each-front P d y (x ∷ xs) h q (suc k) = each-front P d y xs (λ j. h (suc j)) q k

each-last : {X : Type 0} (P : X → Type 0) (d y : X) (xs : List X) → ((k : ℕ) → P (get_or (xs ++ y ∷ []) k d)) → P y
each-last P d y [] h = h 0
each-last P d y (x ∷ xs) h = each-last P d y xs (λ j. h (suc j))

few_waiting : (b : ℕ) (waiting : List (List ℕ)) → ((k : ℕ) → times_named b (get_or waiting k []) ≤ 1) → sum_by (times_named b) waiting ≤ length waiting
few_waiting b [] h = omega arith
few_waiting b (numbers ∷ waiting) h = omega (arith, sum_by-cons (times_named b) numbers waiting, h 0, few_waiting b waiting (λ k. h (suc k)))

pub steps-push : (waiting : List (List ℕ)) (numbers : List ℕ) → steps_for (waiting ++ numbers ∷ []) ≡ steps_for waiting + (1 + length numbers)
unfolding steps_for
steps-push waiting numbers = sum_by_push (λ (l : List ℕ). 1 + length l) waiting numbers

module _ {T S : Type 0} where
  -- no more lines name a block than there are
  pub few_named : (shelf : Shelf T S) (lines : Numbers) (waiting : List (List ℕ)) → AreBlocked shelf lines waiting → (b : ℕ) → names_at shelf b ≤ count_by is_some lines + length waiting
  unfolding named_by
  few_named shelf lines waiting h b =
      omega (arith, h.counted b, sum-few (times_in b) (times-nil b) lines (λ k. h.once k b), few_waiting b waiting (λ k. h.once_waiting k b))

  -- a line is dropped
  pub gone_blocked : (shelf : Shelf T S) (lines new_lines : Numbers) (waiting : List (List ℕ)) (v : ℕ) (numbers : List ℕ) → AreBlocked shelf lines waiting
      → numbers_at lines v ≡ Some numbers → IsSlotSet v None lines new_lines → AreBlocked shelf new_lines (waiting ++ numbers ∷ [])
  unfolding named_by
  gone_blocked shelf lines new_lines waiting v numbers h stands set = record {
    counted = λ b.
        let changed = sum-changed (times_in b) (times-nil b) v lines new_lines set.others in
        let was : times_in b (numbers_at lines v) ≡ times_named b numbers = ap (times_in b) stands in
        let is : times_in b (numbers_at new_lines v) ≡ times_named b [] = ap (times_in b) set.this in
        omega (arith, h.counted b, changed, was, is, times-nil b, sum_by_push (times_named b) waiting numbers);
    named = h.named;
    once = λ w b. elim (cases_eq w v) [
      | inl same ↦
          let is : times_in b (numbers_at new_lines w) ≡ times_named b [] = ap (λ x. times_in b (numbers_at new_lines x)) same ∙ ap (times_in b) set.this in
          omega (arith, is, times-nil b)
      | inr apart ↦
          let is : times_in b (numbers_at new_lines w) ≡ times_in b (numbers_at lines w) = ap (times_in b) (set.others w apart) in
          omega (arith, is, h.once w b)
    ];
    once_waiting = λ k b.
        let own : times_named b numbers ≤ 1 = (let was : times_in b (numbers_at lines v) ≡ times_named b numbers = ap (times_in b) stands in omega (arith, was, h.once v b)) in
        each-push (λ (l : List ℕ). times_named b l ≤ 1) [] numbers waiting (λ j. h.once_waiting j b) own (omega (arith, times-nil b)) k;
  }

  pub gone_lines : (shelf : Shelf T S) (lines new_lines : Numbers) (v : ℕ) → IsSlotSet v None lines new_lines → IsLineSet v None (lines_on shelf lines) (lines_on shelf new_lines)
  gone_lines shelf lines new_lines v set = record {
    this = ap (option_map (blocks_of shelf)) set.this;
    others = λ w apart. ap (option_map (blocks_of shelf)) (set.others w apart);
  }

  -- a line that waits has no block any more
  pub ended : (shelf : Shelf T S) (lines : Numbers) (rest : List (List ℕ)) → AreBlocked shelf lines (rest ++ [] ∷ []) → AreBlocked shelf lines rest
  unfolding named_by
  ended shelf lines rest h = record {
    counted = λ b. omega (arith, h.counted b, sum_by_push (times_named b) rest [], times-nil b);
    named = h.named;
    once = h.once;
    once_waiting = λ k b. each-front (λ (l : List ℕ). times_named b l ≤ 1) [] [] rest (λ j. h.once_waiting j b) (omega (arith, times-nil b)) k;
  }

  -- a block of a line that waits is named once less
  module _ (old new : Shelf T S) (lines : Numbers) (rest : List (List ℕ)) (front : List ℕ) (n : ℕ) (h : AreBlocked old lines (rest ++ (front ++ n ∷ []) ∷ []))
      (added gone : List T) where
    last_times : (b : ℕ) → sum_by (times_named b) (rest ++ (front ++ n ∷ []) ∷ []) ≡ sum_by (times_named b) (rest ++ front ∷ []) + times_named b (n ∷ [])
    last_times b = omega (arith, sum_by_push (times_named b) rest (front ++ n ∷ []), sum_by_push (times_named b) rest front, times-append b front (n ∷ []))

    pub last_named : times_named n (n ∷ []) ≡ 1 → 0 < names_at old n
    unfolding named_by
    last_named one = omega (arith, h.counted n, last_times n, one)

    module _ (turns : Turns (n ∷ []) [] added gone old new) where
      pub less_blocked : AreBlocked new lines (rest ++ front ∷ [])
      unfolding named_by
      less_blocked = record {
        counted = λ b. omega (arith, h.counted b, turns.renames.counts b, last_times b, times-nil b);
        named = turns.renames.named h.named;
        once = h.once;
        once_waiting = λ k b.
            let few = each-last (λ (l : List ℕ). times_named b l ≤ 1) [] (front ++ n ∷ []) rest (λ j. h.once_waiting j b) in
            each-push (λ (l : List ℕ). times_named b l ≤ 1) [] front rest
            (each-front (λ (l : List ℕ). times_named b l ≤ 1) [] (front ++ n ∷ []) rest (λ j. h.once_waiting j b) (omega (arith, times-nil b)))
            (omega (arith, few, times-append b front (n ∷ []))) (omega (arith, times-nil b)) k;
      }

      kept_line : (w : ℕ) (slot : Option (List ℕ)) → numbers_at lines w ≡ slot → option_map (blocks_of new) slot ≡ option_map (blocks_of old) slot
      unfolding named_by
      kept_line w None is = refl
      kept_line w (Some numbers) is =
          ap Some (same_blocks old new numbers (λ b among. turns.renames.kept b
          (let same : times_in b (numbers_at lines w) ≡ times_named b numbers = ap (times_in b) is in
          omega (arith, among, same, h.counted b, sum-part (times_in b) (times-nil b) w lines, last_times b))))

      pub kept_lines : (w : ℕ) → lines_on new lines w ≡ lines_on old lines w
      kept_lines w = kept_line w (numbers_at lines w) refl

pub steps-nil : steps_for [] ≡ 0
unfolding steps_for
steps-nil = refl
