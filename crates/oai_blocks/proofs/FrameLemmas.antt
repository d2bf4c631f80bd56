-- What a call that names blocks, or names them no more, does to all lines.
use Rattle.std.proofs.Common.{◌≡◌, ◌≢◌, ◌∙◌, ◌+◌, ◌<◌, ◌≤◌, ℕ, List, [], ◌∷◌, ◌++◌, Option, None, Some, refl, sym, ap, arith, inl, inr}
use Rattle.std.specs.Prelude.{option_map}
use Rattle.std.proofs.lemmas.Bool.{cases_eq}
use Rattle.std.proofs.lemmas.Option.{none-some}
use Rattle.oai_blocks.specs.Blocks.{AreBlocked, BlockState, Numbers, Shelf, block_at, blocks_of, items_in, names_in, weight, weight_in, items_at, lines_on, named_by, names_at, numbers_at, numbers_in, times_named, times_in}
use Rattle.oai_blocks.specs.Naming.{AreBut, IsSlotSet, IsNamedAnew}
use Rattle.oai_blocks.proofs.SlotLemmas.{sum-changed, sum-two}
use Rattle.oai_blocks.proofs.TimesLemmas.{times-append, times-cons, times-nil, times-same}

module _ {T S : Type 0} where
  pub renames_none : (shelf : Shelf T S) → IsNamedAnew [] [] shelf shelf
  renames_none shelf = record { counts = λ b. refl; kept = λ b h. refl; named = λ h. h }

  pub renames_same : (numbers : List ℕ) (shelf : Shelf T S) → IsNamedAnew numbers numbers shelf shelf
  renames_same numbers shelf = record { counts = λ b. refl; kept = λ b h. refl; named = λ h. h }

  -- one block set
  pub renames_set : (k : ℕ) (slot : Option (BlockState T S)) (before after : List ℕ) (old new : Shelf T S) → IsSlotSet k slot old new
      → names_in slot + times_named k before ≡ names_at old k + times_named k after → ((b : ℕ) → b ≢ k → times_named b before ≡ times_named b after)
      → (times_named k before < names_at old k → items_in slot ≡ items_at old k) → ((block : BlockState T S) → slot ≡ Some block → 0 < block.names)
      → IsNamedAnew before after old new
  renames_set k slot before after old new set here there kept named = record {
    counts = λ b. elim (cases_eq b k) [
      | inl same ↦
          let now : names_at new k ≡ names_in slot = ap names_in set.this in
          let moved : names_at new b ≡ names_at new k = ap (names_at new) same in
          let was : names_at old b ≡ names_at old k = ap (names_at old) same in
          let some : times_named b before ≡ times_named k before = ap (λ x. times_named x before) same in
          let others : times_named b after ≡ times_named k after = ap (λ x. times_named x after) same in
          omega (arith, here, now, moved, was, some, others)
      | inr apart ↦
          let same : names_at new b ≡ names_at old b = ap names_in (set.others b apart) in
          omega (arith, same, there b apart)
    ];
    kept = λ b more. elim (cases_eq b k) [
      | inl same ↦
          let was : names_at old b ≡ names_at old k = ap (names_at old) same in
          let some : times_named b before ≡ times_named k before = ap (λ x. times_named x before) same in
          ap (items_at new) same ∙ ap items_in set.this ∙ kept (omega (arith, more, was, some)) ∙ sym (ap (items_at old) same)
      | inr apart ↦ ap items_in (set.others b apart)
    ];
    named = λ h b block is. elim (cases_eq b k) [
      | inl same ↦ named block (sym set.this ∙ sym (ap (block_at new) same) ∙ is)
      | inr apart ↦ h b block (sym (set.others b apart) ∙ is)
    ];
  }

  pub weight_set : (weigh : T → ℕ) (k : ℕ) (slot : Option (BlockState T S)) (old new : Shelf T S) → IsSlotSet k slot old new
      → weight weigh new + weight_in weigh (block_at old k) ≡ weight weigh old + weight_in weigh slot
  unfolding weight
  weight_set weigh k slot old new set =
      let changed = sum-changed (weight_in weigh) refl k old new set.others in
      let now : weight_in weigh (block_at new k) ≡ weight_in weigh slot = ap (weight_in weigh) set.this in
      omega (arith, changed, now)

  -- with more numbers on both sides
  pub renames_within : (before after less_before less_after : List ℕ) (old new : Shelf T S) → IsNamedAnew less_before less_after old new
      → ((b : ℕ) → times_named b before + times_named b less_after ≡ times_named b after + times_named b less_before) → ((b : ℕ) → times_named b less_before ≤ times_named b before)
      → IsNamedAnew before after old new
  renames_within before after less_before less_after old new h same few = record {
    counts = λ b. omega (arith, h.counts b, same b, few b);
    kept = λ b more. h.kept b (omega (arith, few b, more));
    named = h.named;
  }

  -- one after the other
  pub renames_then : (a b c d : List ℕ) (old mid new : Shelf T S) → IsNamedAnew a b old mid → IsNamedAnew c d mid new → IsNamedAnew (a ++ c) (b ++ d) old new
  renames_then a b c d old mid new first next = record {
    counts = λ x. omega (arith, first.counts x, next.counts x, times-append x a c, times-append x b d);
    kept = λ x more.
        next.kept x (omega (arith, more, first.counts x, times-append x a c)) ∙ first.kept x (omega (arith, more, times-append x a c));
    named = λ h. next.named (first.named h);
  }

  -- numbers whose blocks have what they had
  pub same_blocks : (old new : Shelf T S) (numbers : List ℕ) → ((b : ℕ) → 0 < times_named b numbers → items_at new b ≡ items_at old b)
      → blocks_of new numbers ≡ blocks_of old numbers
  same_blocks old new [] same = refl
  same_blocks old new (n ∷ numbers) same =
      let here : items_at new n ≡ items_at old n = same n (omega (arith, times-cons n n numbers, times-same n)) in
      let rest = same_blocks old new numbers (λ b among. same b (omega (arith, among, times-cons b n numbers))) in
      ap (λ x. x ∷ blocks_of new numbers) here ∙ ap (λ xs. items_at old n ∷ xs) rest

  module _ (old new : Shelf T S) (lines new_lines : Numbers) (waiting : List (List ℕ)) (v : ℕ) (h : AreBlocked old lines waiting) where
    -- what one line names, another does not name alone
    beside : (w b : ℕ) → w ≢ v → 0 < times_in b (numbers_at lines w) → times_in b (numbers_at lines v) < names_at old b
    unfolding named_by
    beside w b apart among =
        let two = sum-two (times_in b) (times-nil b) w v lines apart in
        omega (arith, h.counted b, among, two)

    other_line : (w : ℕ) → ((b : ℕ) → times_in b (numbers_at lines v) < names_at old b → items_at new b ≡ items_at old b)
        → w ≢ v → (slot : Option (List ℕ)) → numbers_at lines w ≡ slot → option_map (blocks_of new) slot ≡ option_map (blocks_of old) slot
    other_line w kept apart None is = refl
    other_line w kept apart (Some numbers) is =
        ap Some (same_blocks old new numbers (λ b among.
        let same : times_in b (numbers_at lines w) ≡ times_named b numbers = ap (times_in b) is in
        kept b (beside w b apart (omega (arith, same, among)))))

    module _ (renames : IsNamedAnew (numbers_in (numbers_at lines v)) (numbers_in (numbers_at new_lines v)) old new) (others : AreBut v lines new_lines) where
      pub other_lines : (w : ℕ) → w ≢ v → lines_on new new_lines w ≡ lines_on old lines w
      other_lines w apart =
          ap (option_map (blocks_of new)) (others w apart) ∙ other_line w renames.kept apart (numbers_at lines w) refl

      pub turned : ((b : ℕ) → times_in b (numbers_at new_lines v) ≤ 1) → AreBlocked new new_lines waiting
      unfolding named_by
      turned once = record {
        counted = λ b.
            let changed = sum-changed (times_in b) (times-nil b) v lines new_lines others in
            omega (arith, changed, h.counted b, renames.counts b);
        named = renames.named h.named;
        once = λ w b. elim (cases_eq w v) [
          | inl same ↦
              let here : times_in b (numbers_at new_lines w) ≡ times_in b (numbers_at new_lines v) = ap (λ x. times_in b (numbers_at new_lines x)) same in
              omega (arith, here, once b)
          | inr apart ↦
              let there : times_in b (numbers_at new_lines w) ≡ times_in b (numbers_at lines w) = ap (times_in b) (others w apart) in
              omega (arith, there, h.once w b)
        ];
        once_waiting = h.once_waiting;
      }

-- no lines of no blocks
pub blocked_none : {T S : Type 0} → AreBlocked {T = T} {S = S} [] [] []
unfolding named_by times_named
blocked_none = record {
  counted = λ b. refl;
  named = λ b block is. absurd (none-some block is);
  once = λ v b. omega arith;
  once_waiting = λ k b. omega arith;
}
