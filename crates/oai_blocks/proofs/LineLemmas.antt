-- What the elements of a line are after a call, block by block, and that all other lines stay.
use Rattle.std.proofs.Common.{true≢false, ◌≡◌, ◌≢◌, ◌∙◌, ◌+◌, ◌<◌, ◌≤◌, ℕ, suc, zero, List, [], ◌∷◌, ◌++◌, Option, None, Some, get_or, length, map, set, take, drop, refl, sym, subst, ap, arith, inl, inr}
use Rattle.std.specs.Prelude.{IsSome, option_map, sum_by, unwrap_or, ◌==◌}
use Rattle.std.specs.List.{insert, remove}
use Rattle.std.proofs.lemmas.Bool.{cases_eq, ne_eqb}
use Rattle.std.proofs.lemmas.List.{drop-map, get_or_append_left, get_or-set_other, get_or-take, length-take-le, get_or-map, get_or_default, length-map, map-append, map-set, take-map}
use Rattle.std.proofs.lemmas.List.Sums.{sum_by-cons, sum_by-take-drop}
use Rattle.std.proofs.lemmas.List.Edits.{get_or-insert_at}
use Rattle.oai_blocks.specs.Blocks.{AreBlocked, BlockState, block_at, names_in, Numbers, Shelf, blocks_of, items_at, items_in, lines_on, named_by, names_at, numbers_at, numbers_in, steps_for, times_named, times_in, weight}
use Rattle.oai_blocks.specs.Calls.{IsLineSet, spliced}
use Rattle.oai_blocks.specs.Naming.{Alters, AreBut, IsSlotSet, IsNamedAnew, Turns}
use Rattle.oai_blocks.proofs.FrameLemmas.{other_lines, renames_same, renames_within, same_blocks, turned}
use Rattle.oai_blocks.proofs.ShelfLemmas.{altered, owned_turns, splice_weighs, still_free}
use Rattle.oai_blocks.proofs.SlotLemmas.{sum-part}
use Rattle.oai_blocks.proofs.TimesLemmas.{times-cons, times-insert, times-nil, times-other, times-remove, times-same, times-set, times-within}

module _ {T S : Type 0} where
  -- blocks are counted as before, and one line is set
  pub record Holds (v : ℕ) (line : Option (List (List T))) (waiting : List (List ℕ)) (old new : Shelf T S) (lines new_lines : Numbers) : Type 0 where
    pub blocked : AreBlocked new new_lines waiting
    pub lines_set : IsLineSet v line (lines_on old lines) (lines_on new new_lines)

  -- elements of numbers of which one is put in, taken out, or another
  pub put_blocks : (new : Shelf T S) (numbers : List ℕ) (j c : ℕ) → blocks_of new (insert numbers j c) ≡ insert (blocks_of new numbers) j (items_at new c)
  put_blocks new numbers j c =
      map-append (items_at new) (take j numbers) (c ∷ drop j numbers)
      ∙ ap (λ xs. xs ++ (items_at new c ∷ map (items_at new) (drop j numbers))) (sym (take-map (items_at new) j numbers))
      ∙ ap (λ xs. take j (blocks_of new numbers) ++ (items_at new c ∷ xs)) (sym (drop-map (items_at new) j numbers))

  pub taken_blocks : (new : Shelf T S) (numbers : List ℕ) (j : ℕ) → blocks_of new (remove numbers j) ≡ remove (blocks_of new numbers) j
  taken_blocks new numbers j =
      map-append (items_at new) (take j numbers) (drop (suc j) numbers)
      ∙ ap (λ xs. xs ++ map (items_at new) (drop (suc j) numbers)) (sym (take-map (items_at new) j numbers))
      ∙ ap (λ xs. take j (blocks_of new numbers) ++ xs) (sym (drop-map (items_at new) (suc j) numbers))

  -- one block has other elements, and is named once
  pub changed_blocks : (old new : Shelf T S) (numbers : List ℕ) (j : ℕ) → times_named (get_or numbers j 0) numbers ≤ 1 → j < length numbers
      → ((b : ℕ) → b ≢ get_or numbers j 0 → items_at new b ≡ items_at old b)
      → blocks_of new numbers ≡ set (blocks_of old numbers) j (items_at new (get_or numbers j 0))
  changed_blocks old new [] j once within same = absurd (omega (arith, within))
  changed_blocks old new (n ∷ numbers) zero once within same =
      ap (λ xs. items_at new n ∷ xs)
      (same_blocks old new numbers (λ b among. elim (cases_eq b n) [
        | inl is ↦
            let more : times_named b numbers ≡ times_named n numbers = ap (λ x. times_named x numbers) is in
            absurd (omega (arith, among, more, once, times-cons n n numbers, times-same n))
        | inr apart ↦ same b apart
      ]))
  changed_blocks old new (n ∷ numbers) (suc j) once within same =
      let b = get_or numbers j 0 in
      let inside : j < length numbers = omega (arith, within) in
      let some = times-within numbers j 0 inside in
      let rest = changed_blocks old new numbers j (omega (arith, once, times-cons b n numbers)) inside same in
      let here : items_at new n ≡ items_at old n =
      same n (λ is.
      let more : times_named b (n ∷ []) ≡ times_named n (n ∷ []) = ap (λ x. times_named x (n ∷ [])) (sym is) in
      omega (arith, more, some, once, times-cons b n numbers, times-same n)) in
      ap (λ x. x ∷ blocks_of new numbers) here ∙ ap (λ xs. items_at old n ∷ xs) rest

  module _ (old : Shelf T S) (lines : Numbers) (waiting : List (List ℕ)) (v : ℕ) (h : AreBlocked old lines waiting) where
    pub named_at : (b : ℕ) → times_in b (numbers_at lines v) ≤ names_at old b
    unfolding named_by
    named_at b = omega (arith, h.counted b, sum-part (times_in b) (times-nil b) v lines)

    -- a block that nobody names, added
    pub once_more : (c b : ℕ) → names_at old c ≡ 0 → times_in b (numbers_at lines v) + times_named b (c ∷ []) ≤ 1
    once_more c b free =
        elim (cases_eq b c) [
          | inl is ↦
              let own : times_named b (c ∷ []) ≡ times_named c (c ∷ []) = ap (λ x. times_named x (c ∷ [])) is in
              let none : times_in b (numbers_at lines v) ≡ times_in c (numbers_at lines v) = ap (λ x. times_in x (numbers_at lines v)) is in
              omega (arith, own, none, free, times-same c, named_at c)
          | inr apart ↦ omega (arith, times-other b c apart, h.once v b)
        ]

    module _ (new : Shelf T S) (new_lines : Numbers) where
      pub holds : (slot : Option (List ℕ)) (line : Option (List (List T))) → IsNamedAnew (numbers_in (numbers_at lines v)) (numbers_in slot) old new
          → IsSlotSet v slot lines new_lines → ((b : ℕ) → times_in b slot ≤ 1) → option_map (blocks_of new) slot ≡ line
          → Holds v line waiting old new lines new_lines
      holds slot line renames set once is =
          let moved = subst (λ (s : Option (List ℕ)). IsNamedAnew (numbers_in (numbers_at lines v)) (numbers_in s) old new) (sym set.this) renames in
          record {
            blocked = turned old new lines new_lines waiting v h moved set.others
                (λ b. let same : times_in b (numbers_at new_lines v) ≡ times_in b slot = ap (times_in b) set.this in omega (arith, same, once b));
            lines_set = record {
              this = ap (option_map (blocks_of new)) set.this ∙ is;
              others = other_lines old new lines new_lines waiting v h moved set.others;
            };
          }

      -- numbers that stay
      pub unset : IsSlotSet v (numbers_at lines v) lines new_lines → Holds v (lines_on old lines v) waiting old old lines new_lines
      unset set =
          let same = renames_same (numbers_in (numbers_at lines v)) old in
          let moved = subst (λ (s : Option (List ℕ)). IsNamedAnew (numbers_in (numbers_at lines v)) (numbers_in s) old old) (sym set.this) same in
          record {
            blocked = turned old old lines new_lines waiting v h moved set.others
                (λ b. let same : times_in b (numbers_at new_lines v) ≡ times_in b (numbers_at lines v) = ap (times_in b) set.this in omega (arith, same, h.once v b));
            lines_set = record {
              this = ap (option_map (blocks_of old)) set.this;
              others = other_lines old old lines new_lines waiting v h moved set.others;
            };
          }

      -- a line that was not in use, of blocks of another one
      pub begun : (added gone : List T) (numbers : List ℕ) (line : List (List T)) → numbers_at lines v ≡ None → Turns [] numbers added gone old new
          → IsSlotSet v (Some numbers) lines new_lines → ((b : ℕ) → times_named b numbers ≤ 1) → blocks_of new numbers ≡ line → Holds v (Some line) waiting old new lines new_lines
      begun added gone numbers line vacant turns set once is =
          holds (Some numbers) (Some line)
          (subst (λ (before : List ℕ). IsNamedAnew before numbers old new) (sym (ap numbers_in vacant)) turns.renames)
          set once (ap Some is)

      module _ (numbers : List ℕ) (j : ℕ) (stands : numbers_at lines v ≡ Some numbers) where
        same_times : (b : ℕ) → times_in b (numbers_at lines v) ≡ times_named b numbers
        same_times b = ap (times_in b) stands

        renamed : (after less_before less_after : List ℕ) → IsNamedAnew less_before less_after old new
            → ((b : ℕ) → times_named b numbers + times_named b less_after ≡ times_named b after + times_named b less_before) → ((b : ℕ) → times_named b less_before ≤ times_named b numbers)
            → IsNamedAnew (numbers_in (numbers_at lines v)) after old new
        renamed after less_before less_after renames same few =
            subst (λ (before : List ℕ). IsNamedAnew before after old new) (sym (ap numbers_in stands))
            (renames_within numbers after less_before less_after old new renames same few)

        -- a block is put in
        pub put : (c : ℕ) (items added gone : List T) → names_at old c ≡ 0 → items_at new c ≡ items → Turns [] (c ∷ []) added gone old new
            → IsSlotSet v (Some (insert numbers j c)) lines new_lines → Holds v (Some (insert (blocks_of old numbers) j items)) waiting old new lines new_lines
        put c items added gone free is turns set =
            holds (Some (insert numbers j c)) (Some (insert (blocks_of old numbers) j items))
            (renamed (insert numbers j c) [] (c ∷ []) turns.renames
            (λ b. omega (arith, times-insert b numbers j c, times-nil b)) (λ b. omega (arith, times-nil b)))
            set
            (λ b. omega (arith, times-insert b numbers j c, once_more c b free, same_times b))
            (ap Some
            (put_blocks new numbers j c
            ∙ ap (λ x. insert (blocks_of new numbers) j x) is
            ∙ ap (λ (l : List (List T)). insert l j items)
            (same_blocks old new numbers (λ b among. turns.renames.kept b (omega (arith, among, times-nil b, named_at b, same_times b))))))

        module _ (within : j < length numbers) where
          -- a block is taken out
          pub taken : (added gone : List T) → Turns (get_or numbers j 0 ∷ []) [] added gone old new → IsSlotSet v (Some (remove numbers j)) lines new_lines
              → Holds v (Some (remove (blocks_of old numbers) j)) waiting old new lines new_lines
          taken added gone turns set =
              let n = get_or numbers j 0 in
              holds (Some (remove numbers j)) (Some (remove (blocks_of old numbers) j))
              (renamed (remove numbers j) (n ∷ []) [] turns.renames
              (λ b. omega (arith, times-remove b numbers j 0 within, times-nil b)) (λ b. omega (arith, times-remove b numbers j 0 within)))
              set
              (λ b. omega (arith, times-remove b numbers j 0 within, h.once v b, same_times b))
              (ap Some
              (same_blocks old new (remove numbers j) (λ b among. turns.renames.kept b (omega (arith, among, times-remove b numbers j 0 within, named_at b, same_times b)))
              ∙ taken_blocks old numbers j))

          -- a block of copies in place of one
          pub owned : (c : ℕ) (copies added gone : List T) → names_at old c ≡ 0 → 1 < names_at old (get_or numbers j 0) → items_at new c ≡ copies
              → Turns (get_or numbers j 0 ∷ []) (c ∷ []) added gone old new → IsSlotSet v (Some (set numbers j c)) lines new_lines
              → Holds v (Some (set (blocks_of old numbers) j copies)) waiting old new lines new_lines
          owned c copies added gone free shared is turns set_line =
              let n = get_or numbers j 0 in
              holds (Some (set numbers j c)) (Some (set (blocks_of old numbers) j copies))
              (renamed (set numbers j c) (n ∷ []) (c ∷ []) turns.renames
              (λ b. omega (arith, times-set b numbers j c 0 within)) (λ b. omega (arith, times-remove b numbers j 0 within)))
              set_line
              (λ b. omega (arith, times-set b numbers j c 0 within, once_more c b free, same_times b))
              (ap Some
              (map-set (items_at new) numbers j c
              ∙ ap (λ x. set (blocks_of new numbers) j x) is
              ∙ ap (λ (l : List (List T)). set l j copies)
              (same_blocks old new numbers (λ b among. turns.renames.kept b (elim (cases_eq b n) [
                | inl same ↦
                    let own : times_named b (n ∷ []) ≡ times_named n (n ∷ []) = ap (λ x. times_named x (n ∷ [])) same in
                    let names : names_at old b ≡ names_at old n = ap (names_at old) same in
                    omega (arith, own, names, shared, times-same n)
                | inr apart ↦ omega (arith, times-other b n apart, among, named_at b, same_times b)
              ])))))

          -- a block that no other line names has other elements
          pub changed : (items added gone : List T) → AreBut (get_or numbers j 0) old new → items_at new (get_or numbers j 0) ≡ items → Turns numbers numbers added gone old new
              → IsSlotSet v (Some numbers) lines new_lines → Holds v (Some (set (blocks_of old numbers) j items)) waiting old new lines new_lines
          changed items added gone others is turns set_line =
              let n = get_or numbers j 0 in
              holds (Some numbers) (Some (set (blocks_of old numbers) j items))
              (renamed numbers numbers numbers turns.renames (λ b. refl) (λ b. omega arith))
              set_line
              (λ b. omega (arith, h.once v b, same_times b))
              (ap Some
              (changed_blocks old new numbers j (omega (arith, h.once v n, same_times n)) within
              (λ b apart. ap items_in (others b apart))
              ∙ ap (λ x. set (blocks_of old numbers) j x) is))

-- a line waits if and only if a step is left
pub steps-none : (waiting : List (List ℕ)) → (length waiting == 0) ≡ (steps_for waiting == 0)
unfolding steps_for
steps-none [] = refl
steps-none (numbers ∷ waiting) =
    ne_eqb (length (numbers ∷ waiting)) 0 (λ e. omega (arith, e))
    ∙ sym (ne_eqb (steps_for (numbers ∷ waiting)) 0 (λ e. omega (arith, e, sum_by-cons (λ (l : List ℕ). 1 + length l) numbers waiting)))

-- ---- a line that is in use, and its numbers

module _ {T S : Type 0} (shelf : Shelf T S) (lines : Numbers) (v : ℕ) (numbers : List ℕ) (stands : numbers_at lines v ≡ Some numbers) where
  pub line_is : unwrap_or (lines_on shelf lines v) [] ≡ blocks_of shelf numbers
  line_is = ap (λ (o : Option (List ℕ)). unwrap_or (option_map (blocks_of shelf) o) []) stands

  pub line_length : length (unwrap_or (lines_on shelf lines v) []) ≡ length numbers
  line_length = ap (λ (l : List (List T)). length l) line_is ∙ length-map numbers (items_at shelf)

  pub number_is : (j d : ℕ) → j < length numbers → get_or (numbers_in (numbers_at lines v)) j d ≡ get_or numbers j d
  number_is j d within = ap (λ (o : Option (List ℕ)). get_or (numbers_in o) j d) stands

  pub number_stands : (waiting : List (List ℕ)) (j n : ℕ) → AreBlocked shelf lines waiting → j < length (unwrap_or (lines_on shelf lines v) []) → n ≡ get_or numbers j n → 0 < names_at shelf n
  number_stands waiting j n h within is =
      let inside : j < length numbers = omega (arith, within, line_length) in
      let some : 1 ≤ times_named n numbers = subst (λ x. 1 ≤ times_named x numbers) (sym is) (times-within numbers j n inside) in
      omega (arith, some, named_at shelf lines waiting v h n, ap (times_in n) stands)

-- a line in use has numbers
pub in_use : {T S : Type 0} (shelf : Shelf T S) (slot : Option (List ℕ)) → IsSome (option_map (blocks_of shelf) slot) → (numbers : List ℕ) × (slot ≡ Some numbers)
in_use shelf None h = absurd (true≢false (sym h))
in_use shelf (Some numbers) h = (numbers, refl)

block_in : {T S : Type 0} (shelf : Shelf T S) (slot : Option (List ℕ)) (j : ℕ) → j < length (unwrap_or (option_map (blocks_of shelf) slot) []) → (numbers : List ℕ) × (slot ≡ Some numbers)
block_in shelf None j within = absurd (omega (arith, within))
block_in shelf (Some numbers) j within = (numbers, refl)

-- the number of a block of a line
abbrev pub number_in : Numbers → ℕ → ℕ → ℕ
number_in lines v j = get_or (numbers_in (numbers_at lines v)) j 0

pub number_now : (lines : Numbers) (v j : ℕ) (numbers : List ℕ) → numbers_at lines v ≡ Some numbers → number_in lines v j ≡ get_or numbers j 0
number_now lines v j numbers is = ap (λ (o : Option (List ℕ)). get_or (numbers_in o) j 0) is

-- what is known where a line has a block at `j`
pub has_block : {T S : Type 0} (shelf : Shelf T S) (lines : Numbers) (waiting : List (List ℕ)) (v j : ℕ) → AreBlocked shelf lines waiting → j < length (unwrap_or (lines_on shelf lines v) [])
    → (numbers : List ℕ) × (numbers_at lines v ≡ Some numbers) × (j < length numbers) × (number_in lines v j ≡ get_or numbers j 0) × (0 < names_at shelf (number_in lines v j))
    × (items_at shelf (get_or numbers j 0) ≡ get_or (unwrap_or (lines_on shelf lines v) []) j [])
has_block {T} shelf lines waiting v j h within =
    let found = block_in shelf (numbers_at lines v) j within in
    let numbers = found.0 in
    let stands = found.1 in
    let inside : j < length numbers = omega (arith, within, line_length shelf lines v numbers stands) in
    let is = number_now lines v j numbers stands in
    let named = number_stands shelf lines v numbers stands waiting j (number_in lines v j) h within (is ∙ get_or_default numbers j 0 (number_in lines v j) inside) in (
      numbers,
      stands,
      inside,
      is,
      named,
      sym (ap (λ (l : List (List T)). get_or l j []) (line_is shelf lines v numbers stands) ∙ get_or-map (items_at shelf) numbers j 0 [] inside),
    )

-- ---- calls on a line that is in use

module _ {T S : Type 0} (old new : Shelf T S) (lines : Numbers) (waiting : List (List ℕ)) (v : ℕ) (h : AreBlocked old lines waiting) where
  -- a copy of the line
  pub copied : (w : ℕ) (new_lines : Numbers) (numbers : List ℕ) (added gone : List T) → numbers_at lines v ≡ Some numbers → numbers_at lines w ≡ None → Turns [] numbers added gone old new
      → IsSlotSet w (Some numbers) lines new_lines → Holds w (lines_on old lines v) waiting old new lines new_lines
  copied w new_lines numbers added gone stands vacant turns set =
      let own : (b : ℕ) → times_in b (numbers_at lines v) ≡ times_named b numbers = λ b. ap (times_in b) stands in
      subst (λ (line : Option (List (List T))). Holds w line waiting old new lines new_lines) (sym (ap (option_map (blocks_of old)) stands))
      (begun old lines waiting w h new new_lines added gone numbers (blocks_of old numbers) vacant turns set
      (λ b. omega (arith, own b, h.once v b))
      (same_blocks old new numbers (λ b among. turns.renames.kept b (omega (arith, among, own b, times-nil b, named_at old lines waiting v h b)))))

  -- other elements in a block that no other line names
  module _ (j : ℕ) (items added gone : List T) (alters : Alters (number_in lines v j) items old new) (within : j < length (unwrap_or (lines_on old lines v) [])) (own : names_at old (number_in lines v j) ≡ 1)
      (weights : (weigh : T → ℕ) → sum_by weigh items + sum_by weigh gone ≡ sum_by weigh (items_at old (number_in lines v j)) + sum_by weigh added) where
    pub altered_turns : (numbers : List ℕ) → numbers_at lines v ≡ Some numbers → j < length numbers → Turns numbers numbers added gone old new
    altered_turns numbers stands inside =
        let n = number_in lines v j in
        let is = number_now lines v j numbers stands in
        let some : 1 ≤ times_named n numbers = subst (λ x. 1 ≤ times_named x numbers) (sym is) (times-within numbers j 0 inside) in
        altered n items old new alters numbers added gone (omega (arith, own, some)) (omega (arith, own)) weights

    pub altered_holds : Holds v (Some (set (unwrap_or (lines_on old lines v) []) j items)) waiting old new lines lines
    altered_holds =
        let has = has_block old lines waiting v j h within in
        let numbers = has.0 in
        let is = number_now lines v j numbers has.1 in
        let at_place = subst (λ k. Alters k items old new) is alters in
        subst (λ (line : List (List T)). Holds v (Some (set line j items)) waiting old new lines lines) (sym (line_is old lines v numbers has.1))
        (changed old lines waiting v h new lines numbers j has.1 has.2 items added gone at_place.others at_place.items_are
        (altered_turns numbers has.1 has.2) (record { this = has.1; others = λ w apart. refl }))

    pub altered_weight : (weigh : T → ℕ) → weight weigh new + sum_by weigh gone ≡ weight weigh old + sum_by weigh added
    altered_weight =
        let has = has_block old lines waiting v j h within in
        (altered_turns has.0 has.1 has.2).weight

  -- some elements of it are exchanged for others
  module _ (j i len n : ℕ) (others gone block : List T) (number : n ≡ number_in lines v j) (items : items_at old n ≡ block)
      (alters : Alters n (spliced i len others (items_at old n)) old new) (gone_is : gone ≡ take len (drop i (items_at old n)))
      (within : j < length (unwrap_or (lines_on old lines v) [])) (own : names_at old (number_in lines v j) ≡ 1) where
    at_place : Alters (number_in lines v j) (spliced i len others block) old new
    at_place = subst (λ k. Alters k (spliced i len others block) old new) number (subst (λ b. Alters n (spliced i len others b) old new) items alters)

    weights : (weigh : T → ℕ) → sum_by weigh (spliced i len others block) + sum_by weigh gone ≡ sum_by weigh (items_at old (number_in lines v j)) + sum_by weigh others
    weights weigh =
        let out : sum_by weigh gone ≡ sum_by weigh (take len (drop i block)) = ap (sum_by weigh) (gone_is ∙ ap (λ b. take len (drop i b)) items) in
        let was : sum_by weigh (items_at old (number_in lines v j)) ≡ sum_by weigh block = ap (λ k. sum_by weigh (items_at old k)) (sym number) ∙ ap (sum_by weigh) items in
        omega (arith, out, was, splice_weighs weigh i len others block)

    pub exchanged_holds : Holds v (Some (set (unwrap_or (lines_on old lines v) []) j (spliced i len others block))) waiting old new lines lines
    exchanged_holds = altered_holds j (spliced i len others block) others gone at_place within own weights

    pub exchanged_weight : (weigh : T → ℕ) → weight weigh new + sum_by weigh gone ≡ weight weigh old + sum_by weigh others
    exchanged_weight = altered_weight j (spliced i len others block) others gone at_place within own weights

-- ---- lines of which no block has other elements

module _ {T S : Type 0} (old new : Shelf T S) where
  same_slot : ((b : ℕ) → items_at new b ≡ items_at old b) → (slot : Option (List ℕ)) → option_map (blocks_of new) slot ≡ option_map (blocks_of old) slot
  same_slot same None = refl
  same_slot same (Some numbers) = ap Some (same_blocks old new numbers (λ b among. same b))

  pub same_lines : (lines : Numbers) → ((b : ℕ) → items_at new b ≡ items_at old b) → (w : ℕ) → lines_on new lines w ≡ lines_on old lines w
  same_lines lines same w = same_slot same (numbers_at lines w)

  pub kept_blocked : (lines : Numbers) (waiting : List (List ℕ)) → AreBlocked old lines waiting → Turns [] [] [] [] old new → AreBlocked new lines waiting
  kept_blocked lines waiting h turns =
      let numbers = numbers_in (numbers_at lines 0) in
      turned old new lines lines waiting 0 h (renames_within numbers numbers [] [] old new turns.renames (λ b. refl) (λ b. omega (arith, times-nil b))) (λ w apart. refl) (λ b. h.once 0 b)

-- one after the other
pub holds_then : {T S : Type 0} (v : ℕ) (first next : Option (List (List T))) (waiting : List (List ℕ)) (old mid new : Shelf T S) (lines mid_lines new_lines : Numbers)
    → Holds v first waiting old mid lines mid_lines → Holds v next waiting mid new mid_lines new_lines → Holds v next waiting old new lines new_lines
holds_then v first next waiting old mid new lines mid_lines new_lines h g = record {
  blocked = g.blocked;
  lines_set = record {
    this = g.lines_set.this;
    others = λ w apart. g.lines_set.others w apart ∙ h.lines_set.others w apart;
  };
}

-- a block of a line is cut in two: its tail goes to a new one
module _ {T S : Type 0} (old mid new : Shelf T S) (lines new_lines : Numbers) (waiting : List (List ℕ)) (v j i n k : ℕ) (block tail : List T) (h : AreBlocked old lines waiting)
    (within : j < length (unwrap_or (lines_on old lines v) [])) (own : names_at old (number_in lines v j) ≡ 1) (number : n ≡ number_in lines v j) (items : items_at old n ≡ block)
    (alters : Alters n (take i (items_at old n)) old mid) (tail_is : tail ≡ drop i (items_at old n)) (turns : Turns [] (k ∷ []) tail [] mid new) where
  cut_at : Alters (number_in lines v j) (take i block) old mid
  cut_at = subst (λ m. Alters m (take i block) old mid) number (subst (λ b. Alters n (take i b) old mid) items alters)

  cut_weights : (weigh : T → ℕ) → sum_by weigh (take i block) + sum_by weigh tail ≡ sum_by weigh (items_at old (number_in lines v j)) + sum_by weigh []
  cut_weights weigh =
      let out : sum_by weigh tail ≡ sum_by weigh (drop i block) = ap (sum_by weigh) (tail_is ∙ ap (λ b. drop i b) items) in
      let was : sum_by weigh (items_at old (number_in lines v j)) ≡ sum_by weigh block = ap (λ m. sum_by weigh (items_at old m)) (sym number) ∙ ap (sum_by weigh) items in
      let nothing : sum_by weigh [] ≡ 0 = refl in
      omega (arith, out, was, nothing, sum_by-take-drop weigh block i)

  shorter : Holds v (Some (set (unwrap_or (lines_on old lines v) []) j (take i block))) waiting old mid lines lines
  shorter = altered_holds old mid lines waiting v h j (take i block) [] tail cut_at within own cut_weights

  pub cut_weight : (weigh : T → ℕ) → weight weigh new + sum_by weigh [] ≡ weight weigh old + sum_by weigh []
  cut_weight weigh =
      let nothing : sum_by weigh [] ≡ 0 = refl in
      omega (arith, nothing, altered_weight old mid lines waiting v h j (take i block) [] tail cut_at within own cut_weights weigh, turns.weight weigh)

  pub cut_holds : names_at mid k ≡ 0 → items_at new k ≡ tail → IsSlotSet v (Some (insert (numbers_in (numbers_at lines v)) (j + 1) k)) lines new_lines
      → Holds v (Some (insert (set (unwrap_or (lines_on old lines v) []) j (take i block)) (j + 1) (drop i block))) waiting old new lines new_lines
  cut_holds free is set_line =
      let has = has_block old lines waiting v j h within in
      let numbers = has.0 in
      let line_set = subst (λ (o : Option (List ℕ)). IsSlotSet v (Some (insert (numbers_in o) (j + 1) k)) lines new_lines) has.1 set_line in
      let next = put mid lines waiting v shorter.blocked new new_lines numbers (j + 1) has.1 k tail tail [] free is turns line_set in
      let line : blocks_of mid numbers ≡ set (unwrap_or (lines_on old lines v) []) j (take i block) =
      sym (line_is mid lines v numbers has.1) ∙ ap (λ (o : Option (List (List T))). unwrap_or o []) shorter.lines_set.this in
      let behind : tail ≡ drop i block = tail_is ∙ ap (λ b. drop i b) items in
      holds_then v _ _ waiting old mid new lines lines new_lines shorter
      (subst (λ (t : List T). Holds v (Some (insert (set (unwrap_or (lines_on old lines v) []) j (take i block)) (j + 1) t)) waiting mid new lines new_lines) behind
      (subst (λ (l : List (List T)). Holds v (Some (insert l (j + 1) tail)) waiting mid new lines new_lines) line next))

-- copies in place of a block that others name
module _ {T S : Type 0} (old mid new : Shelf T S) (lines new_lines : Numbers) (waiting : List (List ℕ)) (v j n own : ℕ) (copies out : List T) (h : AreBlocked old lines waiting)
    (within : j < length (unwrap_or (lines_on old lines v) [])) (number : n ≡ number_in lines v j) (shared : 1 < names_at old n)
    (first : Turns (n ∷ []) [] [] out old mid) (none : out ≡ []) (next : Turns [] (own ∷ []) copies [] mid new) where
  pub own_weight : (weigh : T → ℕ) → weight weigh new + sum_by weigh [] ≡ weight weigh old + sum_by weigh copies
  own_weight = (owned_turns n own old mid new copies out first none next).weight

  pub own_holds : names_at mid own ≡ 0 → items_at new own ≡ copies → IsSlotSet v (Some (set (numbers_in (numbers_at lines v)) j own)) lines new_lines
      → Holds v (Some (set (unwrap_or (lines_on old lines v) []) j copies)) waiting old new lines new_lines
  own_holds free is set_line =
      let has = has_block old lines waiting v j h within in
      let numbers = has.0 in
      let place : n ≡ get_or numbers j 0 = number ∙ has.3 in
      let line_set = subst (λ (o : Option (List ℕ)). IsSlotSet v (Some (set (numbers_in o) j own)) lines new_lines) has.1 set_line in
      subst (λ (line : List (List T)). Holds v (Some (set line j copies)) waiting old new lines new_lines) (sym (line_is old lines v numbers has.1))
      (owned old lines waiting v h new new_lines numbers j has.1 has.2 own copies copies [] (still_free n own old mid out first shared free)
      (subst (λ m. 1 < names_at old m) place shared) is
      (subst (λ m. Turns (m ∷ []) (own ∷ []) copies [] old new) place (owned_turns n own old mid new copies out first none next)) line_set)

-- ---- how often blocks of a line are named

-- two places of a line have two blocks
pub apart_at : (numbers : List ℕ) (j k : ℕ) → j < length numbers → k < length numbers → j ≢ k → ((b : ℕ) → times_named b numbers ≤ 1) → get_or numbers j 0 ≢ get_or numbers k 0
apart_at [] j k within inside apart once same = omega (arith, within)
apart_at (n ∷ ns) zero zero within inside apart once same = apart refl
apart_at (n ∷ ns) zero (suc k) within inside apart once same =
    let there : k < length ns = omega (arith, inside) in
    let more : times_named n ns ≡ times_named (get_or ns k 0) ns = ap (λ x. times_named x ns) same in
    omega (arith, times-within ns k 0 there, more, once n, times-cons n n ns, times-same n)
apart_at (n ∷ ns) (suc j) zero within inside apart once same =
    let there : j < length ns = omega (arith, within) in
    let more : times_named n ns ≡ times_named (get_or ns j 0) ns = ap (λ x. times_named x ns) (sym same) in
    omega (arith, times-within ns j 0 there, more, once n, times-cons n n ns, times-same n)
apart_at (n ∷ ns) (suc j) (suc k) within inside apart once same =
    apart_at ns j k (omega (arith, within)) (omega (arith, inside)) (λ e. apart (ap suc e)) (λ b. omega (arith, once b, times-cons b n ns)) same

module _ {T S : Type 0} (old new : Shelf T S) (lines new_lines : Numbers) (waiting : List (List ℕ)) (v : ℕ) (h : AreBlocked old lines waiting) (numbers : List ℕ) (stands : numbers_at lines v ≡ Some numbers)
    (j : ℕ) (within : j < length numbers) where
  once_in : (b : ℕ) → times_named b numbers ≤ 1
  once_in b =
      let own : times_in b (numbers_at lines v) ≡ times_named b numbers = ap (times_in b) stands in
      omega (arith, own, h.once v b)

  -- one block is taken out, and those before it are named as often
  pub taken_names : IsNamedAnew (get_or numbers j 0 ∷ []) [] old new → IsSlotSet v (Some (remove numbers j)) lines new_lines
      → (k : ℕ) → k < j → names_at new (number_in new_lines v k) ≡ names_at old (number_in lines v k)
  taken_names renames set_line k less =
      let b = get_or numbers k 0 in
      let now : number_in new_lines v k ≡ b =
      number_now new_lines v k (remove numbers j) set_line.this
      ∙ get_or_append_left (take j numbers) (drop (suc j) numbers) 0 k (omega (arith, less, length-take-le j numbers (omega (arith, within))))
      ∙ get_or-take j numbers k 0 less in
      let was : number_in lines v k ≡ b = number_now lines v k numbers stands in
      let apart = apart_at numbers k j (omega (arith, less, within)) within (λ e. omega (arith, e, less)) once_in in
      let same : names_at new b ≡ names_at old b = omega (arith, renames.counts b, times-other b (get_or numbers j 0) apart, times-nil b) in
      ap (names_at new) now ∙ same ∙ sym (ap (names_at old) was)

  -- one block is another, and all others are named as often
  pub owned_names : (own : ℕ) → names_at old own ≡ 0 → IsNamedAnew (get_or numbers j 0 ∷ []) (own ∷ []) old new → IsSlotSet v (Some (set numbers j own)) lines new_lines
      → (k : ℕ) → k < length numbers → k ≢ j → names_at new (number_in new_lines v k) ≡ names_at old (number_in lines v k)
  owned_names own free renames set_line k inside other =
      let b = get_or numbers k 0 in
      let now : number_in new_lines v k ≡ b = number_now new_lines v k (set numbers j own) set_line.this ∙ get_or-set_other numbers j k own 0 other in
      let was : number_in lines v k ≡ b = number_now lines v k numbers stands in
      let apart = apart_at numbers k j inside within other once_in in
      let same_times : times_in b (numbers_at lines v) ≡ times_named b numbers = ap (times_in b) stands in
      let fresh : b ≢ own =
      λ e. let none : names_at old b ≡ names_at old own = ap (names_at old) e in omega (arith, none, free, named_at old lines waiting v h b, same_times, times-within numbers k 0 inside) in
      let same : names_at new b ≡ names_at old b = omega (arith, renames.counts b, times-other b (get_or numbers j 0) apart, times-other b own fresh) in
      ap (names_at new) now ∙ same ∙ sym (ap (names_at old) was)

module _ {T S : Type 0} (old new : Shelf T S) (lines new_lines : Numbers) (v : ℕ) (numbers : List ℕ) (j : ℕ) (within : j < length numbers) where
  -- a block that is cut in two, of which no other line names either part
  pub cut_names : (k : ℕ) (now : BlockState T S) → block_at old k ≡ None → names_at old (get_or numbers j 0) ≡ 1 → now.names ≡ 1 → IsSlotSet k (Some now) old new
      → IsSlotSet v (Some (insert numbers (j + 1) k)) lines new_lines → (names_at new (number_in new_lines v j) ≡ 1) × (names_at new (number_in new_lines v (j + 1)) ≡ 1)
  cut_names k now vacant own one set_block set_line =
      let n = get_or numbers j 0 in
      let inside : j + 1 ≤ length numbers = omega (arith, within) in
      let first : number_in new_lines v j ≡ n =
      number_now new_lines v j (insert numbers (j + 1) k) set_line.this
      ∙ get_or_append_left (take (j + 1) numbers) (k ∷ drop (j + 1) numbers) 0 j (omega (arith, length-take-le (j + 1) numbers inside))
      ∙ get_or-take (j + 1) numbers j 0 (omega arith) in
      let next : number_in new_lines v (j + 1) ≡ k = number_now new_lines v (j + 1) (insert numbers (j + 1) k) set_line.this ∙ get_or-insert_at numbers (j + 1) k 0 inside in
      let apart : n ≢ k =
      λ e. let none : names_at old n ≡ names_at old k = ap (names_at old) e in let free : names_at old k ≡ 0 = ap names_in vacant in omega (arith, none, free, own) in (
        ap (names_at new) first ∙ ap names_in (set_block.others n apart) ∙ own,
        ap (names_at new) next ∙ ap names_in set_block.this ∙ one,
      )
