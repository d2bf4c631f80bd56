-- Two lists that are merged from their ends: what is left of them, and what was moved out so far, the last one first.
use Rattle.std.proofs.Common.{◌≡◌, ◌∙◌, ◌⊎◌, inl, inr, ℕ, ◌-◌, Bool, true, false, not, ◌&&◌, cond, List, [], ◌∷◌, ◌++◌, length, Option, None, Some, refl, sym, ap, arith, length-append}
use Rattle.std.specs.Prelude.{find, reverse, slice_get}
use Rattle.std.specs.List.{list_all}
use Rattle.std.specs.Option.{option_or}
use Rattle.std.proofs.lemmas.Bool.{and_from, and_parts, cases_Bool, cond-true, cond-false, cond_both, false≢true}
use Rattle.std.proofs.lemmas.List.{append_assoc, reverse-append}
use Rattle.std.proofs.lemmas.List.Folds.{list_all-append}
use Rattle.oai_names.proofs.Lists.{all-weaker}
use Rattle.oai_item.specs.Item.{ItemState}
use Rattle.oai_item.specs.Items.{is_named}
use Rattle.oai_copy.specs.Copies.{are_listed, caught_up, is_listed_before}
use Rattle.oai_copy.specs.Merges.{IsLastPopped, goes_first, is_not_behind, is_same_named, last_of, never_fall, with_first}
use Rattle.oai_copy.proofs.OrderLemmas.{before-after, before-apart, before-unnamed, eq-turned, eq_is, listed-trans, not_behind, not_behind-after}
use Rattle.oai_copy.proofs.ListedLemmas.{find_caught, find_front, find_joined, find_last, last_is_first, listed_caught, none_under, pushed, same_listed}

-- ---- tests of whole lists

all_both : (p q : ItemState → Bool) (xs : List ItemState) → list_all p xs ≡ true → list_all q xs ≡ true → list_all (λ x. p x && q x) xs ≡ true
all_both p q [] h g = refl
all_both p q (x ∷ xs) h g =
    let hs = and_parts (p x) (list_all p xs) h in
    let gs = and_parts (q x) (list_all q xs) g in
    and_from (p x && q x) (list_all (λ y. p y && q y) xs) (and_from (p x) (q x) hs.0 gs.0) (all_both p q xs hs.1 gs.1)

all_joined : (p : ItemState → Bool) (xs ys : List ItemState) → list_all p xs ≡ true → list_all p ys ≡ true → list_all p (xs ++ ys) ≡ true
all_joined p xs ys h g = list_all-append p xs ys ∙ and_from (list_all p xs) (list_all p ys) h g

all_parts : (p : ItemState → Bool) (xs ys : List ItemState) → list_all p (xs ++ ys) ≡ true → (list_all p xs ≡ true) × (list_all p ys ≡ true)
all_parts p xs ys h = and_parts (list_all p xs) (list_all p ys) (sym (list_all-append p xs ys) ∙ h)

all_last : (p : ItemState → Bool) (xs : List ItemState) (x : ItemState) → list_all p (xs ++ x ∷ []) ≡ true → (list_all p xs ≡ true) × (p x ≡ true)
all_last p xs x h = let parts = all_parts p xs (x ∷ []) h in (parts.0, (and_parts (p x) true parts.1).0)

-- ---- lists in order, and their last items

listed_back : (xs : List ItemState) (x : ItemState) → are_listed (xs ++ x ∷ []) ≡ true → (list_all (λ y. is_listed_before y x) xs ≡ true) × (are_listed xs ≡ true)
listed_back [] x h = (refl, refl)
listed_back (y ∷ ys) x h =
    let parts = and_parts (list_all (is_listed_before y) (ys ++ x ∷ [])) (are_listed (ys ++ x ∷ [])) h in
    let ends = all_last (is_listed_before y) ys x parts.0 in
    let rest = listed_back ys x parts.1 in
    (and_from (is_listed_before y x) (list_all (λ z. is_listed_before z x) ys) ends.1 rest.0, and_from (list_all (is_listed_before y) ys) (are_listed ys) ends.0 rest.1)

unfallen_back : (xs : List ItemState) (x : ItemState) → never_fall (xs ++ x ∷ []) ≡ true → (list_all (λ y. is_not_behind y x) xs ≡ true) × (never_fall xs ≡ true)
unfallen_back [] x h = (refl, refl)
unfallen_back (y ∷ ys) x h =
    let parts = and_parts (list_all (is_not_behind y) (ys ++ x ∷ [])) (never_fall (ys ++ x ∷ [])) h in
    let ends = all_last (is_not_behind y) ys x parts.0 in
    let rest = unfallen_back ys x parts.1 in
    (and_from (is_not_behind y x) (list_all (λ z. is_not_behind z x) ys) ends.1 rest.0, and_from (list_all (is_not_behind y) ys) (never_fall ys) ends.0 rest.1)

slice_get_at : (xs : List ItemState) (x : ItemState) → slice_get (xs ++ x ∷ []) (length xs) ≡ Some x
slice_get_at [] x = refl
slice_get_at (y ∷ ys) x = slice_get_at ys x

pub last_is : (xs : List ItemState) (x : ItemState) → last_of (xs ++ x ∷ []) ≡ Some x
last_is xs x =
    let long : length (xs ++ x ∷ []) - 1 ≡ length xs = omega (arith, length-append xs (x ∷ [])) in
    ap (slice_get (xs ++ x ∷ [])) long ∙ slice_get_at xs x

-- a list is empty, or has a last item
has_last : (xs : List ItemState) → (xs ≡ []) ⊎ ((front : List ItemState) × (last : ItemState) × (xs ≡ front ++ last ∷ []))
has_last [] = inl refl
has_last (x ∷ xs) =
    elim (has_last xs) [
      | inl none ↦ inr ([], x, ap (λ ys. x ∷ ys) none)
      | inr some ↦ inr (x ∷ some.0, some.1, ap (λ ys. x ∷ ys) some.2)
    ]

-- ---- an item that is taken out

-- the item stands behind what is left, or beside it; it is the last of its identifier; and each of the lists stays in order
pub record IsLastTaken (older newer : List ItemState) (item : ItemState) (older_left newer_left : List ItemState) : Type 0 where
  pub near : list_all (λ left. is_not_behind left item) (older_left ++ newer_left) ≡ true
  pub known : (q : List ℕ) → find (is_named q) (reverse (older ++ newer)) ≡ cond (is_named q item) (Some item) (find (is_named q) (reverse (older_left ++ newer_left)))
  pub listed : are_listed older_left ≡ true
  pub ordered : never_fall newer_left ≡ true
  pub kept : (p : ItemState → Bool) → list_all p (older ++ newer) ≡ true → (p item ≡ true) × (list_all p (older_left ++ newer_left) ≡ true)

near_older : (older : List ItemState) (item : ItemState) → are_listed older ≡ true → goes_first (last_of older) (Some item) ≡ true → list_all (λ left. is_not_behind left item) older ≡ true
near_older older item h first =
    elim (has_last older) [
      | inl none ↦ rw none refl
      | inr some ↦
          let in_order : are_listed (some.0 ++ some.1 ∷ []) ≡ true = ap are_listed (sym some.2) ∙ h in
          let beside : is_not_behind some.1 item ≡ true = ap (λ o. goes_first o (Some item)) (sym (last_is some.0 some.1) ∙ ap last_of (sym some.2)) ∙ first in
          ap (list_all (λ left. is_not_behind left item)) some.2
          ∙ all_joined (λ left. is_not_behind left item) some.0 (some.1 ∷ [])
          (all-weaker (λ y. is_listed_before y some.1) (λ left. is_not_behind left item) (λ y before. not_behind-after y some.1 item before beside) some.0 (listed_back some.0 some.1 in_order).0)
          (and_from (is_not_behind some.1 item) true beside refl)
    ]

pub newer_taken : (older newer : List ItemState) (item : ItemState) → are_listed older ≡ true → never_fall (newer ++ item ∷ []) ≡ true → goes_first (last_of older) (last_of (newer ++ item ∷ [])) ≡ true
    → IsLastTaken older (newer ++ item ∷ []) item older newer
newer_taken older newer item a b first =
    let whole : older ++ (newer ++ item ∷ []) ≡ (older ++ newer) ++ item ∷ [] = sym (append_assoc older newer (item ∷ [])) in
    record {
      near = all_joined (λ left. is_not_behind left item) older newer
          (near_older older item a (ap (goes_first (last_of older)) (sym (last_is newer item)) ∙ first))
          (unfallen_back newer item b).0;
      known = λ q. ap (λ xs. find (is_named q) (reverse xs)) whole ∙ find_last (is_named q) (older ++ newer) item;
      listed = a;
      ordered = (unfallen_back newer item b).1;
      kept = λ p h. let ends = all_last p (older ++ newer) item (ap (list_all p) (sym whole) ∙ h) in (ends.1, ends.0);
    }

not-false : (b : Bool) → not b ≡ false → b ≡ true
not-false true h = refl
not-false false h = absurd (false≢true (sym h))

before_newer : (item : ItemState) (newer : List ItemState) → never_fall newer ≡ true → goes_first (Some item) (last_of newer) ≡ false → list_all (λ left. is_listed_before left item) newer ≡ true
before_newer item newer h first =
    elim (has_last newer) [
      | inl none ↦ rw none refl
      | inr some ↦
          let in_order : never_fall (some.0 ++ some.1 ∷ []) ≡ true = ap never_fall (sym some.2) ∙ h in
          let behind : is_not_behind item some.1 ≡ false = ap (goes_first (Some item)) (sym (last_is some.0 some.1) ∙ ap last_of (sym some.2)) ∙ first in
          let before : is_listed_before some.1 item ≡ true = not-false (is_listed_before some.1 item) behind in
          ap (list_all (λ left. is_listed_before left item)) some.2
          ∙ all_joined (λ left. is_listed_before left item) some.0 (some.1 ∷ [])
          (all-weaker (λ y. is_not_behind y some.1) (λ left. is_listed_before left item) (λ y h. before-after y some.1 item h before) some.0 (unfallen_back some.0 some.1 in_order).0)
          (and_from (is_listed_before some.1 item) true before refl)
    ]

-- what stands before an item has another identifier
none_back : (q : List ℕ) (item : ItemState) (xs : List ItemState) → list_all (λ left. is_listed_before left item) xs ≡ true → is_named q item ≡ true → find (is_named q) (reverse xs) ≡ None
none_back q item [] h named = refl
none_back q item (x ∷ xs) h named =
    let parts = and_parts (is_listed_before x item) (list_all (λ left. is_listed_before left item) xs) h in
    let other : is_named q x ≡ false = ap (λ (t : List ℕ). is_named t x) (sym (eq_is item.identifier q named)) ∙ (eq-turned x.identifier item.identifier ∙ before-apart x item parts.0) in
    find_front (is_named q) x xs ∙ rw (none_back q item xs parts.1 named) (cond-false (is_named q x) (Some x) None other)

taken_over : (b : Bool) (x : ItemState) (late rest : Option ItemState) → (b ≡ true → late ≡ None) → option_or late (cond b (Some x) rest) ≡ cond b (Some x) (option_or late rest)
taken_over true x late rest none = rw (none refl) refl
taken_over false x late rest none = refl

pub older_taken : (older newer : List ItemState) (item : ItemState) → are_listed (older ++ item ∷ []) ≡ true → never_fall newer ≡ true → goes_first (last_of (older ++ item ∷ [])) (last_of newer) ≡ false
    → IsLastTaken (older ++ item ∷ []) newer item older newer
older_taken older newer item a b first =
    let before : list_all (λ left. is_listed_before left item) newer ≡ true = before_newer item newer b (ap (λ o. goes_first o (last_of newer)) (sym (last_is older item)) ∙ first) in
    let back = listed_back older item a in
    let weaker : (y : ItemState) → is_listed_before y item ≡ true → is_not_behind y item ≡ true = λ y h. not_behind y item h in
    record {
      near = all_joined (λ left. is_not_behind left item) older newer
          (all-weaker (λ y. is_listed_before y item) (λ left. is_not_behind left item) weaker older back.0)
          (all-weaker (λ y. is_listed_before y item) (λ left. is_not_behind left item) weaker newer before);
      known = λ q.
          find_joined (is_named q) (older ++ item ∷ []) newer
          ∙ ap (option_or (find (is_named q) (reverse newer))) (find_last (is_named q) older item)
          ∙ taken_over (is_named q item) item (find (is_named q) (reverse newer)) (find (is_named q) (reverse older)) (none_back q item newer before)
          ∙ ap (cond (is_named q item) (Some item)) (sym (find_joined (is_named q) older newer));
      listed = back.1;
      ordered = b;
      kept = λ p h.
          let parts = all_parts p (older ++ item ∷ []) newer h in
          let ends = all_last p older item parts.0 in
          (ends.1, all_joined p older newer ends.0 parts.1);
    }

-- ---- the merge

-- what is left of the two lists, and what was moved out, the last one first: under each identifier stands what stood there at the beginning;
-- both lists, and what was moved out, are in order; and nothing is left that is behind what was moved out
pub record IsMerging (older newer older_left newer_left moved : List ItemState) : Type 0 where
  pub known : (q : List ℕ) → option_or (find (is_named q) moved) (find (is_named q) (reverse (older_left ++ newer_left))) ≡ find (is_named q) (reverse (older ++ newer))
  pub listed : are_listed older_left ≡ true
  pub ordered : never_fall newer_left ≡ true
  pub done : are_listed moved ≡ true
  pub near : list_all (λ left. list_all (is_not_behind left) moved) (older_left ++ newer_left) ≡ true

none_moved : (xs : List ItemState) → list_all (λ left. list_all (is_not_behind left) []) xs ≡ true
none_moved [] = refl
none_moved (x ∷ xs) = none_moved xs

pub merging_begins : (older newer : List ItemState) → are_listed older ≡ true → never_fall newer ≡ true → IsMerging older newer older newer []
merging_begins older newer a b = record { known = λ q. refl; listed = a; ordered = b; done = refl; near = none_moved (older ++ newer) }

skipped : (b c : Bool) (x r : ItemState) (w rest : Option ItemState) → (b ≡ true → c ≡ true) → option_or (cond c (Some r) w) rest ≡ option_or (cond c (Some r) w) (cond b (Some x) rest)
skipped true true x r w rest h = refl
skipped true false x r w rest h = absurd (false≢true (h refl))
skipped false c x r w rest h = refl

-- the item is moved: it is in front, unless the first one has its identifier
pub merging_goes_on : (older newer older_left newer_left moved : List ItemState) (item : ItemState) (older_after newer_after : List ItemState) → IsMerging older newer older_left newer_left moved
    → IsLastTaken older_left newer_left item older_after newer_after → IsMerging older newer older_after newer_after (with_first item moved)
merging_goes_on older newer older_left newer_left [] item older_after newer_after m t = record {
  known = λ q. pushed (is_named q item) item None (find (is_named q) (reverse (older_after ++ newer_after))) (λ _. refl) ∙ sym (t.known q) ∙ m.known q;
  listed = t.listed;
  ordered = t.ordered;
  done = refl;
  near = all-weaker (λ left. is_not_behind left item) (λ left. list_all (is_not_behind left) (item ∷ [])) (λ left h. and_from (is_not_behind left item) true h refl) (older_after ++ newer_after) t.near;
}
merging_goes_on older newer older_left newer_left (r ∷ moved) item older_after newer_after m t =
    let rest : List ItemState = older_after ++ newer_after in
    let kept = t.kept (λ left. list_all (is_not_behind left) (r ∷ moved)) m.near in
    cond_both (is_named item.identifier r) (r ∷ moved) (item ∷ r ∷ moved) (λ zs. IsMerging older newer older_after newer_after zs)
    (λ same. record {
      known = λ q.
          skipped (is_named q item) (is_named q r) item r (find (is_named q) moved) (find (is_named q) (reverse rest))
          (λ named. ap (λ (t : List ℕ). is_named t r) (sym (eq_is item.identifier q named)) ∙ same)
          ∙ ap (option_or (find (is_named q) (r ∷ moved))) (sym (t.known q)) ∙ m.known q;
      listed = t.listed;
      ordered = t.ordered;
      done = m.done;
      near = kept.1;
    })
    (λ other.
    let before_r : is_listed_before item r ≡ true = before-unnamed item r other (and_parts (is_not_behind item r) (list_all (is_not_behind item) moved) kept.0).0 in
    let parts = and_parts (list_all (is_listed_before r) moved) (are_listed moved) m.done in
    let before : list_all (is_listed_before item) (r ∷ moved) ≡ true =
    and_from (is_listed_before item r) (list_all (is_listed_before item) moved) before_r (all-weaker (is_listed_before r) (is_listed_before item) (λ z later. listed-trans item r z before_r later) moved parts.0) in
    record {
      known = λ q.
          pushed (is_named q item) item (find (is_named q) (r ∷ moved)) (find (is_named q) (reverse rest)) (none_under q item (r ∷ moved) before)
          ∙ ap (option_or (find (is_named q) (r ∷ moved))) (sym (t.known q)) ∙ m.known q;
      listed = t.listed;
      ordered = t.ordered;
      done = and_from (list_all (is_listed_before item) (r ∷ moved)) (are_listed (r ∷ moved)) before m.done;
      near = all_both (λ left. is_not_behind left item) (λ left. list_all (is_not_behind left) (r ∷ moved)) rest t.near kept.1;
    })

-- what was taken by the code
pub merging_taken : (older newer older_left newer_left moved : List ItemState) (item : ItemState) (older_after newer_after : List ItemState) → IsMerging older newer older_left newer_left moved
    → IsLastPopped older_left newer_left (Some item) older_after newer_after → IsMerging older newer older_after newer_after (with_first item moved)
merging_taken older newer older_left newer_left moved item older_after newer_after m taken =
    elim (cases_Bool (goes_first (last_of older_left) (last_of newer_left))) [
      | inl first ↦
          let left = taken.0 first in
          merging_goes_on older newer older_left newer_left moved item older_after newer_after m
          (rw (left.1, left.0) (newer_taken older_left newer_after item m.listed (ap never_fall (sym left.0) ∙ m.ordered) (ap (λ xs. goes_first (last_of older_left) (last_of xs)) (sym left.0) ∙ first)))
      | inr second ↦
          let left = taken.1 second in
          merging_goes_on older newer older_left newer_left moved item older_after newer_after m
          (rw (left.1, left.0) (older_taken older_after newer_left item (ap are_listed (sym left.0) ∙ m.listed) m.ordered (ap (λ xs. goes_first (last_of xs) (last_of newer_left)) (sym left.0) ∙ second)))
    ]

or_none : (o : Option ItemState) → option_or o None ≡ o
or_none None = refl
or_none (Some x) = refl

-- nothing is left
pub merged : (older newer older_left newer_left moved : List ItemState) → older_left ≡ [] → newer_left ≡ [] → are_listed older ≡ true → IsMerging older newer older_left newer_left moved → moved ≡ caught_up older newer
merged older newer older_left newer_left moved no_older no_newer h m =
    let none : (q : List ℕ) → find (is_named q) (reverse (older_left ++ newer_left)) ≡ None =
    λ q. ap (λ xs. find (is_named q) (reverse (xs ++ newer_left))) no_older ∙ ap (λ xs. find (is_named q) (reverse xs)) no_newer in
    same_listed moved (caught_up older newer) m.done (listed_caught older newer h)
    (λ q.
    sym (or_none (find (is_named q) moved)) ∙ ap (option_or (find (is_named q) moved)) (sym (none q)) ∙ m.known q ∙ find_joined (is_named q) older newer
    ∙ ap (option_or (find (is_named q) (reverse newer))) (last_is_first q older h) ∙ sym (find_caught q older newer))

-- ---- an item that is pushed, unless the last one has its identifier

turned : (xs : List ItemState) (x : ItemState) → reverse (xs ++ x ∷ []) ≡ x ∷ reverse xs
turned xs x = reverse-append xs (x ∷ [])

pub push_kept : (xs : List ItemState) (item : ItemState) → is_same_named (last_of xs) item ≡ true → reverse xs ≡ with_first item (reverse xs)
push_kept xs item same =
    elim (has_last xs) [
      | inl none ↦ absurd (false≢true (ap (λ o. is_same_named o item) (sym (ap last_of none)) ∙ same))
      | inr some ↦
          let named : is_named item.identifier some.1 ≡ true = ap (λ o. is_same_named o item) (sym (last_is some.0 some.1) ∙ ap last_of (sym some.2)) ∙ same in
          let back : reverse xs ≡ some.1 ∷ reverse some.0 = ap reverse some.2 ∙ turned some.0 some.1 in
          back ∙ sym (cond-true (is_named item.identifier some.1) (some.1 ∷ reverse some.0) (item ∷ some.1 ∷ reverse some.0) named) ∙ ap (with_first item) (sym back)
    ]

pub push_added : (xs : List ItemState) (item : ItemState) → is_same_named (last_of xs) item ≡ false → reverse (xs ++ item ∷ []) ≡ with_first item (reverse xs)
push_added xs item other =
    turned xs item
    ∙ elim (has_last xs) [
      | inl none ↦ rw none refl
      | inr some ↦
          let not_named : is_named item.identifier some.1 ≡ false = ap (λ o. is_same_named o item) (sym (last_is some.0 some.1) ∙ ap last_of (sym some.2)) ∙ other in
          let back : reverse xs ≡ some.1 ∷ reverse some.0 = ap reverse some.2 ∙ turned some.0 some.1 in
          ap (λ ys. item ∷ ys) back ∙ sym (cond-false (is_named item.identifier some.1) (some.1 ∷ reverse some.0) (item ∷ some.1 ∷ reverse some.0) not_named) ∙ ap (with_first item) (sym back)
    ]
