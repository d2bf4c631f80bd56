-- Differences that are read in batches, from a version or from nothing.
use Rattle.std.proofs.Common.{◌≡◌, ◌∙◌, ◌<◌, ◌++◌, ℕ, Bool, true, false, not, cond, List, [], ◌∷◌, append-nil, take, Option, None, Some, IfSome, refl, sym, ap, subst, zero, suc}
use Rattle.std.specs.Prelude.{nat_lt, option_map}
use Rattle.std.specs.List.{list_all}
use Rattle.std.proofs.lemmas.Bool.{and_parts, false_from_ne_true}
use Rattle.oai_item.specs.Item.{ItemState}
use Rattle.oai_item.specs.Order.{are_in_order, precedes}
use Rattle.oai_item.proofs.Around.{in_order-append}
use Rattle.oai_item.proofs.OrderLemmas.{behind-precedes, precedes-itself, precedes-trans}
use Rattle.oai_names.proofs.Lists.{all-weaker, filter_all}
use Rattle.std.proofs.lemmas.List.Folds.{list_all-append}
use Rattle.std.proofs.lemmas.Bool.{and_from, both_ways}
use Rattle.oai_holdings.specs.Missing.{IsBatch, is_after, is_up_to, items_past, items_up_to, missing_in, sort_key_of}
use Rattle.oai_holdings.specs.MissingParts.{earlier_of, last_in_batch}
use Rattle.oai_holdings.specs.declared.differences.MissingItems.{MissingItems}
use Rattle.oai_holdings.specs.declared.differences.OwnedKey.{OwnedKey}
use Rattle.oai_holdings.proofs.BatchLemmas.{Ends, batch_read, from_first, is_next_further, last_ends, next_after, next_of, read_ordered}
use Rattle.oai_snapshots.specs.Batches.{all_come, all_go, is_place_after}
use Rattle.oai_snapshots.specs.Reading.{AreNextDifferences, coming_of, going_of, key_of_place, left_after_key, place_after, place_in_differences}
use Rattle.oai_snapshots.specs.Snapshots.{SnapshotPlace, after_gone, arriving, differences_left, going, left_to_come}
use Rattle.oai_snapshots.specs.declared.places.DifferencePlace.{DifferencePlace}
use Rattle.oai_snapshots.specs.declared.places.DifferencePlace.TheVariants.{Going, Arriving}
use Rattle.oai_snapshots.specs.declared.places.Differences.TheVariants.{Come}
use Rattle.oai_snapshots.proofs.SnapshotLemmas.{batch_comes, batch_goes}

-- ---- the next place

place_gone : (next : Option OwnedKey) → place_in_differences (place_after next) ≡ after_gone next
place_gone None = refl
place_gone (Some key) = refl

pub next_goes : (items others : List ItemState) (place : SnapshotPlace) (batch : MissingItems)
    → differences_left place items others ≡ all_go batch.items ++ differences_left (after_gone batch.next) items others → is_place_after place (after_gone batch.next) ≡ true
    → AreNextDifferences place items others (going_of batch)
next_goes items others place batch is further = (
  is ∙ ap (λ (p : SnapshotPlace). all_go batch.items ++ differences_left p items others) (sym (place_gone batch.next)),
  ap (is_place_after place) (place_gone batch.next) ∙ further,
)

pub next_comes : (items others : List ItemState) (place : SnapshotPlace) (batch : MissingItems)
    → differences_left place items others ≡ all_come batch.items ++ left_to_come batch.next items others → IfSome batch.next (λ key. is_place_after place (arriving (Some key)) ≡ true)
    → AreNextDifferences place items others (coming_of batch)
next_comes items others place batch is further = by_next batch.next is further
  where
    by_next : (next : Option OwnedKey) → differences_left place items others ≡ all_come batch.items ++ left_to_come next items others
        → IfSome next (λ key. is_place_after place (arriving (Some key)) ≡ true) → AreNextDifferences place items others (Come batch.items (left_after_key next))
    by_next None h f = h ∙ append-nil (all_come batch.items)
    by_next (Some key) h f = (h, f)

gone_further : (behind next : Option OwnedKey) → IfSome next (λ key. is_after key behind ≡ true) → is_place_after (going behind) (after_gone next) ≡ true
gone_further behind None h = refl
gone_further behind (Some key) h = h

nothing_further : (place : SnapshotPlace) (next : Option OwnedKey) → IfSome next (λ key. is_after key (key_of_place place) ≡ true)
    → IfSome next (λ key. is_place_after place (arriving (Some key)) ≡ true)
nothing_further place None h = tt
nothing_further (going behind) (Some key) h = refl
nothing_further (arriving behind) (Some key) h = h

-- ---- from nothing

missing_none : (items : List ItemState) → missing_in [] items ≡ items
unfolding missing_in
missing_none [] = refl
missing_none (x ∷ items) = ap (λ (xs : List ItemState). x ∷ xs) (missing_none items)

past_none : (behind : Option OwnedKey) → items_past behind [] ≡ []
unfolding items_past
past_none behind = refl

missing_in_none : (others : List ItemState) → missing_in others [] ≡ []
unfolding missing_in
missing_in_none others = refl

-- nothing goes
pub from_nothing : (place : SnapshotPlace) (others : List ItemState) → differences_left place [] others ≡ differences_left (arriving (key_of_place place)) [] others
from_nothing (going behind) others =
    ap (λ (xs : List ItemState). all_go (missing_in others xs) ++ all_come (missing_in [] others)) (past_none behind)
    ∙ ap (λ (xs : List ItemState). all_go xs ++ all_come (missing_in [] others)) (missing_in_none others)
    ∙ ap (λ (xs : List ItemState). all_come (missing_in [] xs)) (sym (from_first others))
from_nothing (arriving behind) others = refl

-- items in order are all up to the last one
up_to_last : (x z : ItemState) → precedes z x ≡ true → is_up_to (Some (sort_key_of x)) z ≡ true
up_to_last x z before =
    ap not (behind-precedes z x
    ∙ false_from_ne_true (precedes x z) (λ turned. both_ways (precedes x x) (precedes-itself x) (precedes-trans x z x turned before)))

up_to_itself : (x : ItemState) → is_up_to (Some (sort_key_of x)) x ≡ true
up_to_itself x = ap not (behind-precedes x x ∙ precedes-itself x)

first_precedes : (x : ItemState) (front : List ItemState) → list_all (λ y. list_all (precedes y) (x ∷ [])) front ≡ true → list_all (is_up_to (Some (sort_key_of x))) front ≡ true
first_precedes x front h =
    all-weaker (λ y. list_all (precedes y) (x ∷ [])) (is_up_to (Some (sort_key_of x))) (λ y g. up_to_last x y (and_parts (precedes y x) true g).0) front h

all_up_to : (most : ℕ) (read : List ItemState) → are_in_order read ≡ true → items_up_to (option_map sort_key_of (last_in_batch most read)) read ≡ read
unfolding items_up_to
all_up_to most read ordered = by_last (last_in_batch most read) refl
  where
    none : (items : List ItemState) → items_up_to None items ≡ items
    none [] = refl
    none (x ∷ items) = ap (λ (xs : List ItemState). x ∷ xs) (none items)

    some : (x : ItemState) → Ends x read → items_up_to (Some (sort_key_of x)) read ≡ read
    some x ends =
        let parts = in_order-append ends.front (x ∷ []) (ap are_in_order (sym ends.split) ∙ ordered) in
        filter_all (is_up_to (Some (sort_key_of x))) read
        (ap (list_all (is_up_to (Some (sort_key_of x)))) ends.split
        ∙ list_all-append (is_up_to (Some (sort_key_of x))) ends.front (x ∷ [])
        ∙ and_from (list_all (is_up_to (Some (sort_key_of x))) ends.front) (list_all (is_up_to (Some (sort_key_of x))) (x ∷ [])) (first_precedes x ends.front parts.2) (and_from (is_up_to (Some (sort_key_of x)) x) true (up_to_itself x) refl))

    by_last : (last : Option ItemState) → last_in_batch most read ≡ last → items_up_to (option_map sort_key_of last) read ≡ read
    by_last None e = none read
    by_last (Some x) e = some x (last_ends most x read e)

-- the next key is that of the last item, since nothing else was read
next_alone : (most : ℕ) (read : List ItemState) → next_of most read [] ≡ option_map sort_key_of (last_in_batch most read)
next_alone most read =
    ap (λ (o : Option ItemState). option_map sort_key_of (earlier_of (last_in_batch most read) o)) (nothing_last (nat_lt 0 most))
    ∙ ap (option_map sort_key_of) (earlier_alone (last_in_batch most read))
  where
    nothing_last : (b : Bool) → cond {A = Option ItemState} b None None ≡ None
    nothing_last true = refl
    nothing_last false = refl

    earlier_alone : (o : Option ItemState) → earlier_of o None ≡ o
    earlier_alone None = refl
    earlier_alone (Some x) = refl

take_nothing : (most : ℕ) → take {A = ItemState} most [] ≡ []
take_nothing zero = refl
take_nothing (suc most) = refl

pub first_further : (most : ℕ) (others : List ItemState) (behind : Option OwnedKey) (batch : MissingItems) → batch.items ≡ take most (items_past behind others)
    → batch.next ≡ option_map sort_key_of (last_in_batch most batch.items) → IfSome batch.next (λ key. is_after key behind ≡ true)
first_further most others behind batch read last =
    let read_too : [] ≡ take most (items_past behind []) = sym (ap (take most) (past_none behind) ∙ take_nothing most) in
    subst (λ (o : Option OwnedKey). IfSome o (λ key. is_after key behind ≡ true)) (sym (last ∙ sym (next_alone most batch.items)))
    (next_after (earlier_of (last_in_batch most batch.items) (last_in_batch most [])) behind (is_next_further most behind others [] batch.items [] read read_too))

pub first_comes : (most : ℕ) (others : List ItemState) (behind : Option OwnedKey) (batch : MissingItems) → 0 < most → are_in_order others ≡ true
    → batch.items ≡ take most (items_past behind others) → batch.next ≡ option_map sort_key_of (last_in_batch most batch.items)
    → differences_left (arriving behind) [] others ≡ all_come batch.items ++ left_to_come batch.next [] others
first_comes most others behind batch some ordered read last =
    let read_too : [] ≡ take most (items_past behind []) = sym (ap (take most) (past_none behind) ∙ take_nothing most) in
    let next : batch.next ≡ next_of most batch.items [] = last ∙ sym (next_alone most batch.items) in
    let is : IsBatch others [] behind batch =
    sym (
    ap (λ (o : Option OwnedKey). missing_in [] (items_up_to o (items_past behind others))) next
    ∙ sym (batch_read most behind others [] batch.items [] some ordered refl read read_too)
    ∙ missing_none (items_up_to (next_of most batch.items []) batch.items)
    ∙ ap (λ (o : Option OwnedKey). items_up_to o batch.items) (next_alone most batch.items)
    ∙ all_up_to most batch.items (read_ordered most behind others batch.items ordered read)
    ) in
    batch_comes [] others behind batch ordered is (first_further most others behind batch read last)

-- ---- between two versions

pub between_goes : (items others : List ItemState) (place : DifferencePlace) (behind : Option OwnedKey) (batch : MissingItems) → place ≡ Going behind → are_in_order items ≡ true
    → IsBatch items others behind batch → IfSome batch.next (λ next. is_after next behind ≡ true) → AreNextDifferences (place_in_differences place) items others (going_of batch)
between_goes items others place behind batch is ordered batched further =
    subst (λ (p : DifferencePlace). AreNextDifferences (place_in_differences p) items others (going_of batch)) (sym is)
    (next_goes items others (going behind) batch (batch_goes items others behind batch ordered batched further) (gone_further behind batch.next further))

pub between_comes : (items others : List ItemState) (place : DifferencePlace) (behind : Option OwnedKey) (batch : MissingItems) → place ≡ Arriving behind → are_in_order others ≡ true
    → IsBatch others items behind batch → IfSome batch.next (λ next. is_after next behind ≡ true) → AreNextDifferences (place_in_differences place) items others (coming_of batch)
between_comes items others place behind batch is ordered batched further =
    subst (λ (p : DifferencePlace). AreNextDifferences (place_in_differences p) items others (coming_of batch)) (sym is)
    (next_comes items others (arriving behind) batch (batch_comes items others behind batch ordered batched further) further)

pub nothing_comes : (others : List ItemState) (place : SnapshotPlace) (batch : MissingItems)
    → differences_left (arriving (key_of_place place)) [] others ≡ all_come batch.items ++ left_to_come batch.next [] others
    → IfSome batch.next (λ key. is_after key (key_of_place place) ≡ true) → AreNextDifferences place [] others (coming_of batch)
nothing_comes others place batch is further = next_comes [] others place batch (from_nothing place others ∙ is) (nothing_further place batch.next further)
