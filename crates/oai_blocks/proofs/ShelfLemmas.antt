-- One block that is named once more or once less, is new, gone, or has other elements.
use Rattle.std.proofs.Common.{true≢false, true, false, Result, OnErr, OnOk, ◌≡◌, ◌≢◌, ◌∙◌, ◌+◌, ◌<◌, ◌≤◌, ℕ, List, [], ◌∷◌, ◌++◌, Option, None, Some, get_or, length, drop, take, refl, sym, subst, ap, arith, inl, inr}
use Rattle.std.specs.Prelude.{Ok, Err, is_err, slice_set, sum_by}
use Rattle.slab.specs.Slab.{Slab, Updates, get}
use Rattle.std.proofs.lemmas.Bool.{cases_eq, cases_lt}
use Rattle.std.proofs.lemmas.List.{drop-drop, get_or-set_other, get_or-set_same, get_or_past, take_more}
use Rattle.std.proofs.lemmas.List.Sums.{sum_by-append, sum_by-take-drop}
use Rattle.std.proofs.lemmas.Option.{none-some}
use Rattle.oai_blocks.specs.Blocks.{BlockState, KeepsNotesOn, Shelf, block_at, items_at, items_in, names_at, names_in, note_in, room_at, room_in, times_named, weight, weight_in}
use Rattle.oai_blocks.specs.Calls.{spliced}
use Rattle.oai_blocks.specs.Naming.{Alters, IsSlotSet, Turns}
use Rattle.oai_blocks.proofs.FrameLemmas.{renames_none, renames_set, renames_then, weight_set}
use Rattle.oai_blocks.proofs.NoteLemmas.{notes_set}
use Rattle.oai_blocks.proofs.TimesLemmas.{times-nil, times-other, times-same}

module _ {X : Type 0} where
  slot_within : (slots : List (Option X)) (k : ℕ) (was : X) → get_or slots k None ≡ Some was → k < length slots
  slot_within slots k was is =
      elim (cases_lt k (length slots)) [
        | inl within ↦ within
        | inr past ↦ absurd (none-some was (sym (get_or_past slots k None past) ∙ is))
      ]

  pub set_is : (slots : List (Option X)) (k : ℕ) (was x : X) → get_or slots k None ≡ Some was → IsSlotSet k (Some x) slots (slice_set slots k (Some x))
  set_is slots k was x is = record {
    this = get_or-set_same slots k (Some x) None (slot_within slots k was is);
    others = λ j apart. get_or-set_other slots k j (Some x) None apart;
  }

alone : (k b : ℕ) → b ≢ k → times_named b [] ≡ times_named b (k ∷ [])
alone k b apart = times-nil b ∙ sym (times-other b k apart)

module _ {T S : Type 0} where
  -- a block, and whether it is there, by its slot
  pub stands : (slot : Option (BlockState T S)) → 0 < names_in slot → (block : BlockState T S) × (slot ≡ Some block)
  stands None h = absurd (omega (arith, h))
  stands (Some block) h = (block, refl)

  some_named : (was : BlockState T S) → 0 < was.names → (block : BlockState T S) → Some was ≡ Some block → 0 < block.names
  some_named was h block is =
      let same : names_in (Some was) ≡ names_in (Some block) = ap names_in is in
      omega (arith, h, same)

  module _ (old new : Shelf T S) (k : ℕ) where
    same_weight : (was now : BlockState T S) → block_at old k ≡ Some was → now.items ≡ was.items → IsSlotSet k (Some now) old new
        → (weigh : T → ℕ) → weight weigh new + sum_by weigh [] ≡ weight weigh old + sum_by weigh []
    same_weight was now stood same set weigh =
        let changed = weight_set weigh k (Some now) old new set in
        let before : weight_in weigh (block_at old k) ≡ sum_by weigh was.items = ap (weight_in weigh) stood in
        let after : sum_by weigh now.items ≡ sum_by weigh was.items = ap (sum_by weigh) same in
        omega (arith, changed, before, after)

    -- a block of the same elements weighs what it weighed
    pub weight_same : (was now : BlockState T S) → block_at old k ≡ Some was → now.items ≡ was.items → IsSlotSet k (Some now) old new
        → (weigh : T → ℕ) → weight weigh new ≡ weight weigh old
    weight_same was now stood same set weigh =
        let nothing : sum_by weigh [] ≡ 0 = refl in
        omega (arith, nothing, same_weight was now stood same set weigh)

    same_notes : (was now : BlockState T S) → block_at old k ≡ Some was → now.items ≡ was.items → now.note ≡ was.note → IsSlotSet k (Some now) old new
        → KeepsNotesOn old new
    same_notes was now stood same noted set =
        notes_set k (Some now) old new set (λ note is. (k, ap note_in stood ∙ sym noted ∙ is, ap items_in stood ∙ sym same))

    pub named_more : (was now : BlockState T S) → block_at old k ≡ Some was → now.items ≡ was.items → now.names ≡ was.names + 1 → now.note ≡ was.note
        → IsSlotSet k (Some now) old new → Turns [] (k ∷ []) [] [] old new
    named_more was now stood same more noted set =
        let before : names_at old k ≡ was.names = ap names_in stood in
        record {
          renames = renames_set k (Some now) [] (k ∷ []) old new set
              (omega (arith, before, more, times-same k, times-nil k))
              (alone k)
              (λ h. same ∙ sym (ap items_in stood))
              (some_named now (omega (arith, more)));
          weight = same_weight was now stood same set;
          notes = same_notes was now stood same noted set;
        }

    pub named_less : (was now : BlockState T S) → block_at old k ≡ Some was → now.items ≡ was.items → now.names + 1 ≡ was.names → 0 < now.names → now.note ≡ was.note
        → IsSlotSet k (Some now) old new → Turns (k ∷ []) [] [] [] old new
    named_less was now stood same less some noted set =
        let before : names_at old k ≡ was.names = ap names_in stood in
        record {
          renames = renames_set k (Some now) (k ∷ []) [] old new set
              (omega (arith, before, less, times-same k, times-nil k))
              (λ b apart. sym (alone k b apart))
              (λ h. same ∙ sym (ap items_in stood))
              (some_named now some);
          weight = same_weight was now stood same set;
          notes = same_notes was now stood same noted set;
        }

    pub named_last : (was : BlockState T S) → block_at old k ≡ Some was → was.names ≡ 1
        → IsSlotSet k None old new → Turns (k ∷ []) [] [] was.items old new
    named_last was stood one set =
        let before : names_at old k ≡ was.names = ap names_in stood in
        record {
          renames = renames_set k None (k ∷ []) [] old new set
              (omega (arith, before, one, times-same k, times-nil k))
              (λ b apart. sym (alone k b apart))
              (λ h. absurd (omega (arith, h, before, one, times-same k)))
              (λ block is. absurd (none-some block is));
          weight = λ weigh.
              let changed = weight_set weigh k None old new set in
              let held : weight_in weigh (block_at old k) ≡ sum_by weigh was.items = ap (weight_in weigh) stood in
              omega (arith, changed, held);
          notes = notes_set k None old new set (λ note is. absurd (none-some note is));
        }

    pub named_first : (now : BlockState T S) → block_at old k ≡ None → now.names ≡ 1 → now.note ≡ None
        → IsSlotSet k (Some now) old new → Turns [] (k ∷ []) now.items [] old new
    named_first now vacant one none set =
        let before : names_at old k ≡ 0 = ap names_in vacant in
        record {
          renames = renames_set k (Some now) [] (k ∷ []) old new set
              (omega (arith, before, one, times-same k, times-nil k))
              (alone k)
              (λ h. absurd (omega (arith, h, before, times-nil k)))
              (some_named now (omega (arith, one)));
          weight = λ weigh.
              let changed = weight_set weigh k (Some now) old new set in
              let held : weight_in weigh (block_at old k) ≡ 0 = ap (weight_in weigh) vacant in
              omega (arith, changed, held);
          notes = notes_set k (Some now) old new set (λ note is. absurd (none-some note (sym none ∙ is)));
        }

  pub turns_none : (shelf : Shelf T S) → Turns [] [] [] [] shelf shelf
  turns_none shelf = record { renames = renames_none shelf; weight = λ weigh. refl; notes = λ note items noted. noted }

  -- one step after the other
  pub turns_then : (a b c d : List ℕ) (added gone added_next gone_next : List T) (old mid new : Shelf T S) → Turns a b added gone old mid → Turns c d added_next gone_next mid new
      → Turns (a ++ c) (b ++ d) (added ++ added_next) (gone ++ gone_next) old new
  turns_then a b c d added gone added_next gone_next old mid new first next = record {
    renames = renames_then a b c d old mid new first.renames next.renames;
    weight = λ weigh. omega (arith, first.weight weigh, next.weight weigh, sum_by-append weigh added added_next, sum_by-append weigh gone gone_next);
    notes = λ note items noted. first.notes note items (next.notes note items noted);
  }

  pub turns_more : (numbers : List ℕ) (i n : ℕ) (old mid new : Shelf T S) → i < length numbers → n ≡ get_or numbers i 0 → Turns [] (take i numbers) [] [] old mid → Turns [] (n ∷ []) [] [] mid new
      → Turns [] (take (i + 1) numbers) [] [] old new
  turns_more numbers i n old mid new within is first next =
      subst (λ (after : List ℕ). Turns [] after [] [] old new) (ap (λ x. take i numbers ++ x ∷ []) is ∙ sym (take_more numbers i 0 within))
      (turns_then [] (take i numbers) [] (n ∷ []) [] [] [] [] old mid new first next)

-- ---- what calls of a slab, and results, say

module _ {X : Type 0} where
  pub updated : (old mid new : Slab X) (k key : ℕ) (slot : Option X) → mid.slots ≡ old.slots → key ≡ k → Updates mid new key slot → IsSlotSet k slot old.slots new.slots
  updated old mid new k key slot same is updates =
      subst (λ x. IsSlotSet x slot old.slots new.slots) is
      (record {
        this = updates.changed;
        others = λ j apart. updates.others j apart ∙ ap (λ (slots : List (Option X)). get_or slots j None) same;
      })

  pub updated_by : (old mid new : Slab X) (k key : ℕ) (was is : X) → was ≡ is → mid.slots ≡ old.slots → key ≡ k → Updates mid new key (Some was) → IsSlotSet k (Some is) old.slots new.slots
  updated_by old mid new k key was is equal same at updates =
      subst (λ (x : X). IsSlotSet k (Some x) old.slots new.slots) equal (updated old mid new k key (Some was) same at updates)

  pub vacant_in : (old mid : Slab X) (k : ℕ) → mid.slots ≡ old.slots → get mid k ≡ None → get_or old.slots k None ≡ None
  vacant_in old mid k same is = sym (ap (λ (slots : List (Option X)). get_or slots k None) same) ∙ is

pub not_err : {A E P : Type 0} (r : Result A E) → is_err r ≡ false → OnOk r P → P
not_err (Ok x) is p = p
not_err (Err e) is p = absurd (true≢false is)

pub kept_on_err : {A E P : Type 0} (r : Result A E) → P → OnErr r P
kept_on_err (Ok x) p = tt
kept_on_err (Err e) p = p

pub was_err : {A E P : Type 0} (r : Result A E) → is_err r ≡ true → OnErr r P → P
was_err (Ok x) is p = absurd (true≢false (sym is))
was_err (Err e) is p = p

-- ---- a block of other elements

module _ {T : Type 0} where
  pub splice_weighs : (weigh : T → ℕ) (i len : ℕ) (others block : List T)
      → sum_by weigh (spliced i len others block) + sum_by weigh (take len (drop i block)) ≡ sum_by weigh block + sum_by weigh others
  splice_weighs weigh i len others block =
      let behind : sum_by weigh (drop len (drop i block)) ≡ sum_by weigh (drop (i + len) block) = ap (sum_by weigh) (drop-drop len i block) in
      omega (
        arith,
        behind,
        sum_by-append weigh (take i block) (others ++ drop (i + len) block),
        sum_by-append weigh others (drop (i + len) block),
        sum_by-take-drop weigh block i,
        sum_by-take-drop weigh (drop i block) len,
      )

module _ {T S : Type 0} where
  module _ (k : ℕ) (items : List T) (old new : Shelf T S) (h : Alters k items old new) where
    pub altered_names : (b : ℕ) → names_at new b ≡ names_at old b
    altered_names b =
        elim (cases_eq b k) [
          | inl same ↦ ap (names_at new) same ∙ h.names ∙ sym (ap (names_at old) same)
          | inr apart ↦ ap names_in (h.others b apart)
        ]

    pub altered_room : (b : ℕ) → room_at old b ≤ room_at new b
    altered_room b =
        elim (cases_eq b k) [
          | inl same ↦
              let was : room_at old b ≡ room_at old k = ap (room_at old) same in
              let is : room_at new b ≡ room_at new k = ap (room_at new) same in
              omega (arith, was, is, h.room)
          | inr apart ↦
              let is : room_at new b ≡ room_at old b = ap room_in (h.others b apart) in
              omega (arith, is)
        ]

    pub altered : (numbers : List ℕ) (added gone : List T) → names_at old k ≤ times_named k numbers → 0 < names_at old k
        → ((weigh : T → ℕ) → sum_by weigh items + sum_by weigh gone ≡ sum_by weigh (items_at old k) + sum_by weigh added) → Turns numbers numbers added gone old new
    altered numbers added gone own some weights = record {
      renames = renames_set k (block_at new k) numbers numbers old new (record { this = refl; others = h.others })
          (omega (arith, h.names)) (λ b apart. refl) (λ more. absurd (omega (arith, more, own)))
          (λ block is. let same : names_at new k ≡ block.names = ap names_in is in omega (arith, same, h.names, some));
      weight = λ weigh.
          let changed = weight_set weigh k (block_at new k) old new (record { this = refl; others = h.others }) in
          let is : weight_in weigh (block_at new k) ≡ sum_by weigh items = ap (sum_by weigh) h.items_are in
          omega (arith, changed, is, weights weigh);
      notes = h.notes;
    }

  -- blocks of which none has other elements
  pub altered_same : (k : ℕ) (old new : Shelf T S) → Alters k (items_at old k) old new → (b : ℕ) → items_at new b ≡ items_at old b
  altered_same k old new h b =
      elim (cases_eq b k) [
        | inl same ↦ ap (items_at new) same ∙ h.items_are ∙ sym (ap (items_at old) same)
        | inr apart ↦ ap items_in (h.others b apart)
      ]

  -- ---- copies in place of a block that others name

  pub owned_turns : (n c : ℕ) (old mid new : Shelf T S) (copies out : List T) → Turns (n ∷ []) [] [] out old mid → out ≡ [] → Turns [] (c ∷ []) copies [] mid new
      → Turns (n ∷ []) (c ∷ []) copies [] old new
  owned_turns n c old mid new copies out first none next = record {
    renames = renames_then (n ∷ []) [] [] (c ∷ []) old mid new first.renames next.renames;
    weight = λ weigh.
        let nothing : sum_by weigh out ≡ sum_by weigh [] = ap (sum_by weigh) none in
        omega (arith, first.weight weigh, next.weight weigh, nothing);
    notes = λ note items noted. first.notes note items (next.notes note items noted);
  }

  pub still_free : (n c : ℕ) (old mid : Shelf T S) (out : List T) → Turns (n ∷ []) [] [] out old mid → 1 < names_at old n → names_at mid c ≡ 0 → names_at old c ≡ 0
  still_free n c old mid out turns shared free =
      elim (cases_eq c n) [
        | inl same ↦
            let was : names_at old c ≡ names_at old n = ap (names_at old) same in
            let own : times_named c (n ∷ []) ≡ times_named n (n ∷ []) = ap (λ x. times_named x (n ∷ [])) same in
            absurd (omega (arith, turns.renames.counts c, was, own, shared, free, times-same n, times-nil c))
        | inr apart ↦ omega (arith, turns.renames.counts c, free, times-other c n apart, times-nil c)
      ]

-- a block is altered in its slot
pub alters_set : {T S : Type 0} (old : Shelf T S) (k : ℕ) (was now : BlockState T S) (items : List T) → block_at old k ≡ Some was → now.items ≡ items → now.names ≡ was.names → was.room ≤ now.room
    → ((note : S) → now.note ≡ Some note → (was.note ≡ Some note) × (was.items ≡ now.items)) → Alters k items old (slice_set old k (Some now))
alters_set old k was now items stood same names room noted =
    let set = set_is old k was now stood in
    let before : room_at old k ≡ was.room = ap room_in stood in
    let after : room_at (slice_set old k (Some now)) k ≡ now.room = ap room_in set.this in
    record {
      others = set.others;
      items_are = ap items_in set.this ∙ same;
      names = ap names_in set.this ∙ names ∙ sym (ap names_in stood);
      room = omega (arith, before, after, room);
      notes = notes_set k (Some now) old _ set (λ note is. let was_is = noted note is in (k, ap note_in stood ∙ was_is.0, ap items_in stood ∙ was_is.1));
    }

module _ {T S : Type 0} where
  -- a block that has other memory
  pub altered_kept : (k : ℕ) (old new : Shelf T S) → Alters k (items_at old k) old new → 0 < names_at old k → Turns [] [] [] [] old new
  altered_kept k old new h some = record {
    renames = renames_set k (block_at new k) [] [] old new (record { this = refl; others = h.others })
        (omega (arith, h.names)) (λ b apart. refl) (λ more. h.items_are)
        (λ block is. let same : names_at new k ≡ block.names = ap names_in is in omega (arith, same, h.names, some));
    weight = λ weigh.
        let changed = weight_set weigh k (block_at new k) old new (record { this = refl; others = h.others }) in
        let is : weight_in weigh (block_at new k) ≡ weight_in weigh (block_at old k) = ap (sum_by weigh) h.items_are in
        omega (arith, changed, is);
    notes = h.notes;
  }

pub on_ok_after : {A E P Q : Type 0} (r : Result A E) → OnOk r P → (P → Q) → OnOk r Q
on_ok_after (Ok x) p f = f p
on_ok_after (Err e) p f = tt
