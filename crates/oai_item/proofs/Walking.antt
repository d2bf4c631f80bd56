-- Lists that are read in place, element by element.
use Rattle.std.proofs.Common.{◌≡◌, ◌∙◌, ◌≢◌, ℕ, zero, suc, ◌+◌, ◌-◌, ◌^◌, ◌<◌, ◌≤◌, Bool, true, List, [], ◌∷◌, ◌++◌, length, Option, Some, None, IsSome, refl, sym, ap, subst, arith, length-append}
use Rattle.std.specs.List.{flat_map, list_all}
use Rattle.std.proofs.lemmas.Bool.{and_parts}
use Rattle.oai_item.specs.declared.sizes.TheConstants.{MAX_ITEM_BYTES}
use Rattle.oai_item.specs.Decoding.{first_elements, first_list}
use Rattle.oai_item.specs.Encoding.{encoded_count, encoded_list}
use Rattle.oai_item.specs.Walks.{AreSpelled}
use Rattle.oai_item.specs.SpellingParts.{Reads, HasRead, Stands}
use Rattle.oai_item.proofs.ReadBack.{ReadsBack, count_back, elements_back}
use Rattle.oai_item.proofs.Spellings.{all_more, element_splits, few_behind, list_behind, list_more, list_of_parts}

-- ---- what was found

-- where a value stands, one is found
pub reads_some : {A B : Type 0} (see : A → B × List ℕ) (spelled : B → List ℕ) (Good : B → Type 0) (bytes : List ℕ) (found : Option A) → Reads see spelled Good bytes found → Stands spelled Good bytes → IsSome found
reads_some see spelled Good bytes (Some a) h s = refl
reads_some see spelled Good bytes None h s = absurd (h s)

pub reads_value : {A B : Type 0} (see : A → B × List ℕ) (spelled : B → List ℕ) (Good : B → Type 0) (bytes : List ℕ) (found : Option A) (a : A) → found ≡ Some a → Reads see spelled Good bytes found → Good (see a).0 × (bytes ≡ spelled (see a).0 ++ (see a).1)
reads_value see spelled Good bytes found a is h = subst (λ (o : Option _). Reads see spelled Good bytes o) is h

-- ---- a list that is read

pub none_read : {A : Type 0} (spelled : A → List ℕ) (test : A → Bool) (bytes : List ℕ) → HasRead spelled test bytes 0 bytes
none_read spelled test bytes = record { elements = []; good = refl; parts = refl; many = refl }

pub one_more : {A : Type 0} (spelled : A → List ℕ) (test : A → Bool) (bytes rest after : List ℕ) (n : ℕ) (x : A) → HasRead spelled test bytes n rest → (test x ≡ true) × (rest ≡ spelled x ++ after) → HasRead spelled test bytes (n + 1) after
one_more spelled test bytes rest after n x h one = record {
  elements = h.elements ++ x ∷ [];
  good = all_more test h.elements x h.good one.0;
  parts = list_more spelled bytes rest after h.elements x h.parts one.1;
  many = omega (arith, length-append h.elements (x ∷ []), h.many);
}

-- the elements that were read are those that the function of the definitions reads
same_elements : {A : Type 0} (first : List ℕ → A × List ℕ) (spelled : A → List ℕ) (test : A → Bool) → ReadsBack first spelled → (start rest : List ℕ) (count : ℕ) → length start ≤ MAX_ITEM_BYTES → (h : HasRead spelled test start count rest)
    → (first_elements first count start).0 ≡ h.elements
same_elements first spelled test reads start rest count few h =
    ap (λ n. (first_elements first n start).0) (sym h.many) ∙ (elements_back first spelled reads start h.elements rest few h.parts).0

pub all_spelled : {A : Type 0} (first : List ℕ → A × List ℕ) (spelled : A → List ℕ) (test : A → Bool) → ReadsBack first spelled → (start rest : List ℕ) (count : ℕ) → length start ≤ MAX_ITEM_BYTES → HasRead spelled test start count rest
    → AreSpelled spelled test start (first_elements first count start).0
all_spelled first spelled test reads start rest count few h =
    let is = same_elements first spelled test reads start rest count few h in
    record {
      good = ap (list_all test) is ∙ h.good;
      behind = rest;
      parts = h.parts ∙ ap (λ xs. flat_map spelled xs ++ rest) (sym is);
      few = few;
    }

pub list_found : {A : Type 0} (first : List ℕ → A × List ℕ) (spelled : A → List ℕ) (test : A → Bool) → ReadsBack first spelled → (bytes start rest : List ℕ) (count : ℕ) (seen : List A) → length start ≤ MAX_ITEM_BYTES → bytes ≡ encoded_count count ++ start
    → HasRead spelled test start count rest → seen ≡ (first_elements first count start).0 → (list_all test seen ≡ true) × (bytes ≡ encoded_list spelled seen ++ rest)
list_found first spelled test reads bytes start rest count seen few e h seen_is =
    let is = seen_is ∙ same_elements first spelled test reads start rest count few h in (
      ap (list_all test) is ∙ h.good,
      list_of_parts spelled bytes start rest h.elements count e h.parts h.many ∙ ap (λ xs. encoded_list spelled xs ++ rest) (sym is),
    )

-- ---- what is known to stand in front

-- what the function of the definitions reads there is the value that stands there
pub front_is : {A : Type 0} (first : List ℕ → A × List ℕ) (spelled : A → List ℕ) (Good : A → Type 0) → ReadsBack first spelled → (bytes rest : List ℕ) (x : A) → length bytes ≤ MAX_ITEM_BYTES → Good x × (bytes ≡ spelled x ++ rest)
    → Good (first bytes).0 × (bytes ≡ spelled (first bytes).0 ++ rest)
front_is first spelled Good reads bytes rest x few found =
    let is = (reads.back bytes x rest few found.1).0 in
    (subst Good (sym is) found.0, found.1 ∙ ap (λ y. spelled y ++ rest) (sym is))

-- behind the count of a list that stands there, so many elements are spelled
pub list_spelled : {A : Type 0} (first : List ℕ → A × List ℕ) (spelled : A → List ℕ) (test : A → Bool) → ReadsBack first spelled → ((x : A) → 4 ≤ length (spelled x)) → (bytes start : List ℕ) (n : ℕ) → n < 2 ^ 32 → bytes ≡ encoded_count n ++ start
    → Stands (encoded_list spelled) (λ xs. list_all test xs ≡ true) bytes → AreSpelled spelled test start (first_elements first n start).0
list_spelled first spelled test reads four bytes start n fits e s =
    let h = list_behind spelled four (λ xs. list_all test xs ≡ true) bytes start n fits e s in
    let few = few_behind bytes (encoded_count n) start e s.few in
    let is = ap (λ k. (first_elements first k start).0) (sym h.0) ∙ (elements_back first spelled reads start s.value s.rest few (sym h.1)).0 in
    record {
      good = ap (list_all test) is ∙ s.good;
      behind = s.rest;
      parts = sym h.1 ∙ ap (λ xs. flat_map spelled xs ++ s.rest) (sym is);
      few = few;
    }

-- and these are the list
pub list_left : {A : Type 0} (first : List ℕ → A × List ℕ) (bytes start : List ℕ) (n : ℕ) → n < 2 ^ 32 → bytes ≡ encoded_count n ++ start → (first_list first bytes).0 ≡ (first_elements first n start).0
unfolding first_list
list_left first bytes start n fits e = let c = count_back bytes n start fits e in rw (c.0, c.1) refl

-- ---- a walk over a list that is known to be spelled

stands_first : {A : Type 0} (first : List ℕ → A × List ℕ) (spelled : A → List ℕ) (test : A → Bool) (bytes : List ℕ) (n : ℕ) → AreSpelled spelled test bytes (first_elements first (suc n) bytes).0 → Stands spelled (λ x. test x ≡ true) bytes
unfolding first_elements
stands_first first spelled test bytes n h =
    let x = (first bytes).0 in
    let xs = (first_elements first n (first bytes).1).0 in
    record {
      value = x;
      rest = flat_map spelled xs ++ h.behind;
      good = (and_parts (test x) (list_all test xs) h.good).0;
      parts = h.parts ∙ element_splits spelled x xs h.behind;
      few = h.few;
    }

-- where some are to come, the next one stands
pub next_stands : {A : Type 0} (first : List ℕ → A × List ℕ) (spelled : A → List ℕ) (test : A → Bool) (bytes : List ℕ) (left : ℕ) → left ≢ 0 → AreSpelled spelled test bytes (first_elements first left bytes).0 → Stands spelled (λ x. test x ≡ true) bytes
next_stands first spelled test bytes zero some h = absurd (some refl)
next_stands first spelled test bytes (suc n) some h = stands_first first spelled test bytes n h

-- the walk after it
pub record IsNext {A : Type 0} (first : List ℕ → A × List ℕ) (spelled : A → List ℕ) (test : A → Bool) (bytes rest : List ℕ) (left behind : ℕ) (x : A) : Type 0 where
  pub is : (first_elements first left bytes).0 ≡ x ∷ (first_elements first behind rest).0
  pub spelled_behind : AreSpelled spelled test rest (first_elements first behind rest).0

next_one : {A : Type 0} (first : List ℕ → A × List ℕ) (spelled : A → List ℕ) (test : A → Bool) → ReadsBack first spelled → (bytes rest : List ℕ) (n : ℕ) (x : A) → AreSpelled spelled test bytes (first_elements first (suc n) bytes).0 → bytes ≡ spelled x ++ rest
    → IsNext first spelled test bytes rest (suc n) n x
unfolding first_elements
next_one first spelled test reads bytes rest n x h e =
    let one = reads.back bytes x rest h.few e in
    let y = (first bytes).0 in
    let xs = (first_elements first n (first bytes).1).0 in
    let behind = (reads.back bytes y (flat_map spelled xs ++ h.behind) h.few (h.parts ∙ element_splits spelled y xs h.behind)).1 in
    let few : length (first bytes).1 ≤ MAX_ITEM_BYTES = subst (λ b. length b ≤ MAX_ITEM_BYTES) (sym one.1) (few_behind bytes (spelled x) rest e h.few) in
    let there : AreSpelled spelled test (first bytes).1 xs = record { good = (and_parts (test y) (list_all test xs) h.good).1; behind = h.behind; parts = behind; few = few } in
    record {
      is = ap (λ z. z ∷ xs) one.0 ∙ ap (λ b. x ∷ (first_elements first n b).0) one.1;
      spelled_behind = subst (λ b. AreSpelled spelled test b (first_elements first n b).0) one.1 there;
    }

pub next_is : {A : Type 0} (first : List ℕ → A × List ℕ) (spelled : A → List ℕ) (test : A → Bool) → ReadsBack first spelled → (bytes rest : List ℕ) (left : ℕ) (x : A) → left ≢ 0 → AreSpelled spelled test bytes (first_elements first left bytes).0 → bytes ≡ spelled x ++ rest
    → IsNext first spelled test bytes rest left (left - 1) x
next_is first spelled test reads bytes rest zero x some h e = absurd (some refl)
next_is first spelled test reads bytes rest (suc n) x some h e =
    let less : n ≡ suc n - 1 = omega arith in
    subst (λ m. IsNext first spelled test bytes rest (suc n) m x) less (next_one first spelled test reads bytes rest n x h e)

-- where none is to come, any bytes remain
pub none_spelled : {A : Type 0} (first : List ℕ → A × List ℕ) (spelled : A → List ℕ) (test : A → Bool) (bytes : List ℕ) → length bytes ≤ MAX_ITEM_BYTES → AreSpelled spelled test bytes (first_elements first 0 bytes).0
unfolding first_elements
none_spelled first spelled test bytes few = record { good = refl; behind = bytes; parts = refl; few = few }

last_one : {A : Type 0} (first : List ℕ → A × List ℕ) (spelled : A → List ℕ) → ReadsBack first spelled → (bytes rest : List ℕ) (x : A) → length bytes ≤ MAX_ITEM_BYTES → bytes ≡ spelled x ++ rest → (first_elements first 1 bytes).0 ≡ x ∷ (first_elements first 0 bytes).0
unfolding first_elements
last_one first spelled reads bytes rest x few e = ap (λ y. y ∷ []) (reads.back bytes x rest few e).0

-- where one is to come, it is the last
pub last_is : {A : Type 0} (first : List ℕ → A × List ℕ) (spelled : A → List ℕ) → ReadsBack first spelled → (bytes rest : List ℕ) (left : ℕ) (x : A) → left ≡ 1 → length bytes ≤ MAX_ITEM_BYTES → bytes ≡ spelled x ++ rest
    → (first_elements first left bytes).0 ≡ x ∷ (first_elements first 0 bytes).0
last_is first spelled reads bytes rest left x one few e =
    ap (λ n. (first_elements first n bytes).0) one ∙ last_one first spelled reads bytes rest x few e

-- ---- how many are to come

pub length_left : {A : Type 0} (first : List ℕ → A × List ℕ) (left : ℕ) (bytes : List ℕ) → length (first_elements first left bytes).0 ≡ left
unfolding first_elements
length_left first zero bytes = refl
length_left first (suc n) bytes = omega (arith, length_left first n (first bytes).1)

pub none_left : {A : Type 0} (first : List ℕ → A × List ℕ) (left : ℕ) (bytes : List ℕ) → left ≡ 0 → (first_elements first left bytes).0 ≡ []
unfolding first_elements
none_left first zero bytes e = refl
none_left first (suc n) bytes e = absurd (omega (arith, e))
