-- Items that are read piece by piece, each behind the last item of the one before.
use Rattle.std.proofs.Common.{◌≡◌, ◌∙◌, inl, inr, ℕ, ℤ, pos, ◌+◌, ◌-◌, ◌<◌, ◌≤◌, arith, true, cond, List, [], ◌∷◌, ◌++◌, length, take, drop, get_or, map, Option, Some, refl, sym, ap, subst, length-take, length-drop, take-append-drop}
use Rattle.std.specs.List.{HoldsAt}
use Rattle.std.specs.Ordering.{int_eq}
use Rattle.std.specs.Prelude.{nat_lt}
use Rattle.std.specs.Str.{bytes_eq}
use Rattle.std.specs.declared.cmp.Ordering.TheVariants.{Equal}
use Rattle.std.proofs.SliceLists.{take_long}
use Rattle.std.proofs.Math.Seq.{take-add, get_or-take, get_or-drop}
use Rattle.std.proofs.lemmas.Bool.{and_from, cases_Bool, cond-false, cond-true, ltb-false, ltb-true}
use Rattle.std.proofs.lemmas.Bool.Decides.{Decides-int_eq}
use Rattle.std.proofs.lemmas.List.{get_or_default, map-append, map_more}
use Rattle.oai_item.specs.Item.{ItemState}
use Rattle.oai_item.specs.Items.{is_at, items_after}
use Rattle.oai_item.specs.Order.{are_in_order, place_cmp}
use Rattle.oai_item.proofs.Around.{found_place, items_after-found}
use Rattle.oai_item.proofs.OrderLemmas.{is_at-Equal, is_equal}
use Rattle.oai_holdings.specs.Saved.{items_behind}
use Rattle.oai_repo.specs.Saved.{SavedPartState, has_item}
use Rattle.oai_replay.specs.Parts.{PartState}
use Rattle.oai_http.proofs.TargetLemmas.{bytes_same}
use Rattle.oai_host.specs.Saving.{TakesParts}
use Rattle.oai_host.proofs.SavedLemmas.{parts_then}

-- ---- one more

-- the part of one element more behind those before it
pub parts_more : {S A : Type 0} (has : S → List PartState → Type 0) (f : A → SavedPartState) (name : List ℕ) (clock : ℤ) (xs : List A) (i : ℕ) (x : A) (a b c : S) → i < length xs → x ≡ get_or xs i x
    → TakesParts has name clock (map f (take i xs)) a b → TakesParts has name clock (f x ∷ []) b c → TakesParts has name clock (map f (take (i + 1) xs)) a c
parts_more has f name clock xs i x a b c within is front last =
    let more : map f (take i xs) ++ f x ∷ [] ≡ map f (take (i + 1) xs) = ap (λ y. map f (take i xs) ++ f y ∷ []) is ∙ sym (map_more f xs i x within) in
    subst (λ (ps : List SavedPartState). TakesParts has name clock ps a c) more (parts_then has name clock (map f (take i xs)) (f x ∷ []) a b c front last)

-- ---- a piece

-- how many were read once it was
abbrev pub next_start : ℕ → ℕ → ℕ → ℕ → ℕ
next_start start some read most = cond (nat_lt read some) most (start + some)

piece_read : (all piece : List ItemState) (start some most : ℕ) → piece ≡ take some (drop start all) → start + some ≤ most
    → take start all ++ piece ≡ take (next_start start some (length piece) most) all
piece_read all piece start some most is within = elim (cases_Bool (nat_lt (length piece) some)) [
  | inl short ↦
      let few = ltb-true (length piece) some short in
      let size : length piece ≡ length (take some (drop start all)) = ap length is in
      let cut = length-take some (drop start all) in
      let rest = length-drop start all in
      let least : length all ≤ most = omega (arith, few, size, cut, rest, within) in
      let left : length (drop start all) ≤ some = omega (arith, few, size, cut) in
      let whole : piece ≡ drop start all = is ∙ take_long (drop start all) some left in
      ap (λ (ys : List ItemState). take start all ++ ys) whole ∙ take-append-drop start all
      ∙ sym (ap (λ (n : ℕ). take n all) (cond-true (nat_lt (length piece) some) most (start + some) short) ∙ take_long all most least)
  | inr long ↦
      ap (λ (ys : List ItemState). take start all ++ ys) is ∙ sym (take-add start some all)
      ∙ sym (ap (λ (n : ℕ). take n all) (cond-false (nat_lt (length piece) some) most (start + some) long))
]

-- the items of a piece are handed over behind those before it
pub piece_taken : {S : Type 0} (has : S → List PartState → Type 0) (name : List ℕ) (clock : ℤ) (all piece : List ItemState) (start some most next : ℕ) (a b c : S) → piece ≡ take some (drop start all) → start + some ≤ most
    → next ≡ next_start start some (length piece) most → TakesParts has name clock (map has_item (take start all)) a b → TakesParts has name clock (map has_item piece) b c
    → TakesParts has name clock (map has_item (take next all)) a c
piece_taken has name clock all piece start some most next a b c is within next_is front more =
    let upto : map has_item (take start all) ++ map has_item piece ≡ map has_item (take next all) =
    sym (map-append has_item (take start all) piece)
    ∙ ap (map has_item) (piece_read all piece start some most is within ∙ ap (λ (n : ℕ). take n all) (sym next_is)) in
    subst (λ (ps : List SavedPartState). TakesParts has name clock ps a c) upto (parts_then has name clock (map has_item (take start all)) (map has_item piece) a b c front more)

-- ---- what stands behind its last item

at_itself : (x : ItemState) → place_cmp x x.stamp x.identifier ≡ Equal
at_itself x =
    let there : is_at x.stamp x.identifier x ≡ true =
    and_from (int_eq x.stamp x.stamp) (bytes_eq x.identifier x.identifier) ((Decides-int_eq x.stamp x.stamp).1 refl) (bytes_same x.identifier)
    in
    is_equal (place_cmp x x.stamp x.identifier) (sym (is_at-Equal x.stamp x.identifier x) ∙ there)

behind_item : (all : List ItemState) (at : ℕ) (x : ItemState) → are_in_order all ≡ true → at < length all → ((d : ItemState) → get_or all at d ≡ x) → items_after x.stamp x.identifier all ≡ drop (at + 1) all
behind_item all at x order within here =
    let equal : HoldsAt (λ (item : ItemState). place_cmp item x.stamp x.identifier ≡ Equal) all at =
    λ d. subst (λ (y : ItemState). place_cmp y x.stamp x.identifier ≡ Equal) (sym (here d)) (at_itself x)
    in
    sym (items_after-found x.stamp x.identifier all at (within, equal, found_place x.stamp x.identifier all at order within equal))

any_item : ItemState
any_item = record { identifier = []; stamp = pos 0; live = true; sets = []; formats = [] }

pub piece_behind : (all piece : List ItemState) (start some most : ℕ) (last : Option ItemState) → are_in_order all ≡ true → piece ≡ take some (drop start all) → 0 < some
    → ((d : ItemState) → 0 < length piece → last ≡ Some (get_or piece (length piece - 1) d)) → next_start start some (length piece) most < most
    → items_behind last all ≡ drop (next_start start some (length piece) most) all
piece_behind all piece start some most last order is many ends below = elim (cases_Bool (nat_lt (length piece) some)) [
  | inl short ↦
      let next : next_start start some (length piece) most ≡ most = cond-true (nat_lt (length piece) some) most (start + some) short in
      absurd (omega (arith, below, next))
  | inr long ↦
      let next : next_start start some (length piece) most ≡ start + some = cond-false (nat_lt (length piece) some) most (start + some) long in
      let full = ltb-false (length piece) some long in
      let size : length piece ≡ length (take some (drop start all)) = ap length is in
      let cut = length-take some (drop start all) in
      let rest = length-drop start all in
      let exact : length piece ≡ some = omega (arith, full, size, cut) in
      let at : ℕ = start + (some - 1) in
      let x : ItemState = get_or piece (length piece - 1) any_item in
      let within : at < length all = omega (arith, exact, size, cut, rest, many) in
      let index : length piece - 1 ≡ some - 1 = omega (arith, exact) in
      let low : some - 1 < some = omega (arith, many) in
      let inside : some - 1 < length piece = omega (arith, many, exact) in
      let here : (d : ItemState) → get_or all at d ≡ x =
      λ d.
      sym (get_or-drop start all (some - 1) d) ∙ sym (get_or-take some (drop start all) (some - 1) d low)
      ∙ ap (λ (ys : List ItemState). get_or ys (some - 1) d) (sym is)
      ∙ get_or_default piece (some - 1) d any_item inside
      ∙ ap (λ (k : ℕ). get_or piece k any_item) (sym index)
      in
      let upto : at + 1 ≡ start + some = omega (arith, many) in
      ap (λ (o : Option ItemState). items_behind o all) (ends any_item (omega (arith, exact, many)))
      ∙ behind_item all at x order within here ∙ ap (λ (n : ℕ). drop n all) (upto ∙ sym next)
]

-- the whole, where it has no more
pub pieces_end : (all : List ItemState) (start most : ℕ) → length all ≤ most → most ≤ start → take start all ≡ all
pieces_end all start most few end = take_long all start (omega (arith, few, end))
