-- The elements of one line weigh no more than those of all blocks.
use Rattle.std.proofs.Common.{◌≡◌, ◌<◌, ◌≤◌, ℕ, List, [], ◌∷◌, Option, None, Some, length, set, ap, arith, inl, inr}
use Rattle.std.specs.Prelude.{option_map, sum_by, unwrap_or}
use Rattle.std.proofs.lemmas.Bool.{cases_eq, cases_lt}
use Rattle.std.proofs.lemmas.List.{get_or-set_other, get_or-set_same, get_or_past, length-set}
use Rattle.std.proofs.lemmas.List.Sums.{sum_by-append}
use Rattle.oai_blocks.specs.Blocks.{AreBlocked, Numbers, Shelf, blocks_of, items_at, items_in, lines_on, numbers_at, times_named, times_in, weight}
use Rattle.oai_blocks.specs.Calls.{listed}
use Rattle.oai_blocks.specs.Naming.{IsSlotSet}
use Rattle.oai_blocks.proofs.FrameLemmas.{same_blocks, weight_set}
use Rattle.oai_blocks.proofs.TimesLemmas.{times-cons, times-same}

module _ {T S : Type 0} where
  emptied : (shelf : Shelf T S) (k : ℕ) → IsSlotSet k None shelf (set shelf k None)
  emptied shelf k = record {
    this = elim (cases_lt k (length shelf)) [
      | inl within ↦ get_or-set_same shelf k None None within
      | inr past ↦ get_or_past (set shelf k None) k None (omega (arith, past, length-set shelf k None))
    ];
    others = λ j apart. get_or-set_other shelf k j None None apart;
  }

  pub line_weighs : (weigh : T → ℕ) (numbers : List ℕ) (shelf : Shelf T S) → ((b : ℕ) → times_named b numbers ≤ 1) → sum_by weigh (listed (blocks_of shelf numbers)) ≤ weight weigh shelf
  line_weighs weigh [] shelf once = omega arith
  line_weighs weigh (n ∷ numbers) shelf once =
      let left = set shelf n None in
      let set_none = emptied shelf n in
      let apart : (b : ℕ) → 0 < times_named b numbers → items_at left b ≡ items_at shelf b =
      λ b among. elim (cases_eq b n) [
        | inl same ↦
            let own : times_named b (n ∷ []) ≡ times_named n (n ∷ []) = ap (λ x. times_named x (n ∷ [])) same in
            absurd (omega (arith, among, own, once b, times-cons b n numbers, times-same n))
        | inr other ↦ ap items_in (set_none.others b other)
      ] in
      let rest = line_weighs weigh numbers left (λ b. omega (arith, once b, times-cons b n numbers)) in
      let same : sum_by weigh (listed (blocks_of left numbers)) ≡ sum_by weigh (listed (blocks_of shelf numbers)) =
      ap (λ (l : List (List T)). sum_by weigh (listed l)) (same_blocks shelf left numbers apart) in
      omega (arith, rest, same, weight_set weigh n None shelf left set_none, sum_by-append weigh (items_at shelf n) (listed (blocks_of shelf numbers)))

  weighs_slot : (weigh : T → ℕ) (slot : Option (List ℕ)) (shelf : Shelf T S) → ((b : ℕ) → times_in b slot ≤ 1) → sum_by weigh (listed (unwrap_or (option_map (blocks_of shelf) slot) [])) ≤ weight weigh shelf
  weighs_slot weigh None shelf once = omega arith
  weighs_slot weigh (Some numbers) shelf once = line_weighs weigh numbers shelf once

  pub weighs : (weigh : T → ℕ) (shelf : Shelf T S) (lines : Numbers) (waiting : List (List ℕ)) (v : ℕ) → AreBlocked shelf lines waiting
      → sum_by weigh (listed (unwrap_or (lines_on shelf lines v) [])) ≤ weight weigh shelf
  weighs weigh shelf lines waiting v h = weighs_slot weigh (numbers_at lines v) shelf (λ b. h.once v b)
