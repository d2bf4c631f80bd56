-- Items that are read part by part, each behind the last item of the one before.
use Rattle.std.proofs.Common.{◌≡◌, ◌∙◌, inl, inr, ℕ, pos, ◌+◌, ◌-◌, ◌<◌, Bool, true, List, [], ◌∷◌, length, take, drop, get_or, IfOk, Option, None, Some, Result, Ok, Err, refl, sym, ap, subst, arith}
use Rattle.std.specs.List.{HoldsAt}
use Rattle.std.specs.Ordering.{int_eq}
use Rattle.std.specs.Prelude.{filter, nat_lt, option_map, slice_get, if◌then◌else◌}
use Rattle.std.specs.Str.{bytes_eq}
use Rattle.std.specs.declared.cmp.Ordering.TheVariants.{Equal}
use Rattle.std.proofs.Math.Seq.{get_or-take, get_or-drop}
use Rattle.std.proofs.lemmas.Bool.{and_from, cases_Bool, cond-false, cond-true, ltb-false}
use Rattle.std.proofs.lemmas.Bool.Decides.{Decides-int_eq}
use Rattle.std.proofs.lemmas.List.{length-drop, length-take}
use Rattle.std.proofs.lemmas.Option.{get_or_from_slice_get, slice_get-get_or}
use Rattle.std.proofs.lemmas.Slice.Eq.{bytes_eq-Decides}
use Rattle.oai_item.specs.Item.{ItemState}
use Rattle.oai_item.specs.declared.faults.Fault.{Fault}
use Rattle.oai_item.specs.Items.{is_at, items_after}
use Rattle.oai_item.specs.Order.{are_in_order, place_cmp}
use Rattle.oai_item.specs.Selection.{Filter, passes, selected}
use Rattle.oai_item.proofs.Around.{found_place, items_after-found}
use Rattle.oai_item.proofs.OrderLemmas.{is_at-Equal, is_equal}
use Rattle.oai_holdings.specs.Missing.{is_after, items_past, sort_key_of}
use Rattle.oai_holdings.specs.declared.differences.OwnedKey.{OwnedKey}
use Rattle.oai_holdings.proofs.BatchLemmas.{from_first, from_key}

-- ---- a selection

pub filter_swap : (p q : ItemState → Bool) (items : List ItemState) → filter p (filter q items) ≡ filter q (filter p items)
filter_swap p q [] = refl
filter_swap p q (x ∷ items) =
    let rest = filter_swap p q items in
    elim (cases_Bool (p x)) [
      | inl is_p ↦
          elim (cases_Bool (q x)) [
            | inl is_q ↦
                ap (filter p) (cond-true (q x) (x ∷ filter q items) (filter q items) is_q)
                ∙ cond-true (p x) (x ∷ filter p (filter q items)) (filter p (filter q items)) is_p
                ∙ ap (λ ys. x ∷ ys) rest
                ∙ sym (cond-true (q x) (x ∷ filter q (filter p items)) (filter q (filter p items)) is_q)
                ∙ ap (filter q) (sym (cond-true (p x) (x ∷ filter p items) (filter p items) is_p))
            | inr not_q ↦
                ap (filter p) (cond-false (q x) (x ∷ filter q items) (filter q items) not_q)
                ∙ rest
                ∙ sym (cond-false (q x) (x ∷ filter q (filter p items)) (filter q (filter p items)) not_q)
                ∙ ap (filter q) (sym (cond-true (p x) (x ∷ filter p items) (filter p items) is_p))
          ]
      | inr not_p ↦
          elim (cases_Bool (q x)) [
            | inl is_q ↦
                ap (filter p) (cond-true (q x) (x ∷ filter q items) (filter q items) is_q)
                ∙ cond-false (p x) (x ∷ filter p (filter q items)) (filter p (filter q items)) not_p
                ∙ rest
                ∙ ap (filter q) (sym (cond-false (p x) (x ∷ filter p items) (filter p items) not_p))
            | inr not_q ↦
                ap (filter p) (cond-false (q x) (x ∷ filter q items) (filter q items) not_q)
                ∙ rest
                ∙ ap (filter q) (sym (cond-false (p x) (x ∷ filter p items) (filter p items) not_p))
          ]
    ]

-- what is selected of the items after a key stands after it in the selection
pub selected_past : (asked : Filter) (behind : Option OwnedKey) (items : List ItemState) → selected asked (items_past behind items) ≡ items_past behind (selected asked items)
unfolding selected items_past
selected_past asked behind items = filter_swap (passes asked) (λ (item : ItemState). is_after (sort_key_of item) behind) items

-- what is read after a key, and from the first on
pub read_after : (result : Result (List ItemState) Fault) (Honest : Type 0) (asked : Filter) (key : OwnedKey) (most : ℕ) (items : List ItemState)
    → IfOk result (λ part. Honest → part ≡ take most (selected asked (items_after key.stamp key.identifier items))) → IfOk result (λ part. Honest → part ≡ take most (items_past (Some key) (selected asked items)))
read_after (Ok part) Honest asked key most items read = λ honest. read honest ∙ ap (take most) (ap (selected asked) (from_key key items) ∙ selected_past asked (Some key) items)
read_after (Err fault) Honest asked key most items read = read

pub read_first : (result : Result (List ItemState) Fault) (Honest : Type 0) (most : ℕ) (items : List ItemState)
    → IfOk result (λ part. Honest → part ≡ take most items) → IfOk result (λ part. Honest → part ≡ take most (items_past None items))
read_first (Ok part) Honest most items read = λ honest. read honest ∙ ap (take most) (sym (from_first items))
read_first (Err fault) Honest most items read = read

-- ---- what stands behind an item

at_itself : (x : ItemState) → place_cmp x x.stamp x.identifier ≡ Equal
at_itself x =
    let there : is_at x.stamp x.identifier x ≡ true =
    and_from (int_eq x.stamp x.stamp) (bytes_eq x.identifier x.identifier) ((Decides-int_eq x.stamp x.stamp).1 refl) ((bytes_eq-Decides x.identifier x.identifier).1 refl)
    in
    is_equal (place_cmp x x.stamp x.identifier) (sym (is_at-Equal x.stamp x.identifier x) ∙ there)

pub behind_item : (all : List ItemState) (at : ℕ) (x : ItemState) → are_in_order all ≡ true → at < length all → ((d : ItemState) → get_or all at d ≡ x) → items_after x.stamp x.identifier all ≡ drop (at + 1) all
behind_item all at x order within here =
    let equal : HoldsAt (λ (item : ItemState). place_cmp item x.stamp x.identifier ≡ Equal) all at =
    λ d. subst (λ (y : ItemState). place_cmp y x.stamp x.identifier ≡ Equal) (sym (here d)) (at_itself x)
    in
    sym (items_after-found x.stamp x.identifier all at (within, equal, found_place x.stamp x.identifier all at order within equal))

any_item : ItemState
any_item = record { identifier = []; stamp = pos 0; live = true; sets = []; formats = [] }

-- a part that is as long as was asked for ends before the next
pub part_behind : (all part : List ItemState) (start some most next : ℕ) (behind : Option OwnedKey) → are_in_order all ≡ true → part ≡ take some (drop start all) → 0 < some
    → behind ≡ option_map sort_key_of (slice_get part (length part - 1)) → next ≡ (if nat_lt (length part) some then most else start + some) → next < most
    → items_past behind all ≡ drop next all
part_behind all part start some most next behind order is many ends next_is below = elim (cases_Bool (nat_lt (length part) some)) [
  | inl short ↦
      let last : next ≡ most = next_is ∙ cond-true (nat_lt (length part) some) most (start + some) short in
      absurd (omega (arith, below, last))
  | inr long ↦
      let on : next ≡ start + some = next_is ∙ cond-false (nat_lt (length part) some) most (start + some) long in
      let full = ltb-false (length part) some long in
      let size : length part ≡ length (take some (drop start all)) = ap length is in
      let cut = length-take some (drop start all) in
      let rest = length-drop start all in
      let exact : length part ≡ some = omega (arith, full, size, cut) in
      let at : ℕ = start + (some - 1) in
      let x : ItemState = get_or part (length part - 1) any_item in
      let within : at < length all = omega (arith, exact, size, cut, rest, many) in
      let index : length part - 1 ≡ some - 1 = omega (arith, exact) in
      let low : some - 1 < some = omega (arith, many) in
      let found : slice_get part (length part - 1) ≡ Some x = slice_get-get_or part (length part - 1) any_item (omega (arith, many, exact)) in
      let here : (d : ItemState) → get_or all at d ≡ x =
      λ d.
      sym (get_or-drop start all (some - 1) d) ∙ sym (get_or-take some (drop start all) (some - 1) d low)
      ∙ ap (λ (ys : List ItemState). get_or ys (some - 1) d) (sym is)
      ∙ ap (λ (k : ℕ). get_or part k d) (sym index)
      ∙ get_or_from_slice_get part (length part - 1) x d found
      in
      let upto : at + 1 ≡ start + some = omega (arith, many) in
      ap (λ (o : Option OwnedKey). items_past o all) (ends ∙ ap (option_map sort_key_of) found)
      ∙ sym (from_key (sort_key_of x) all) ∙ behind_item all at x order within here ∙ ap (λ (n : ℕ). drop n all) (upto ∙ sym on)
]
