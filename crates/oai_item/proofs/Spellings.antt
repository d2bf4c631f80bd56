-- What stands in front of bytes determines what was spelled there, and where its spelling ends.
use Rattle.std.proofs.Common.{◌≡◌, ◌∙◌, ℕ, ◌*◌, ◌^◌, ◌<◌, ◌≤◌, Bool, true, false, List, [], ◌∷◌, ◌++◌, length, take, drop, refl, sym, ap, subst, append_assoc, arith, length-append}
use Rattle.std.specs.Int.{w32, from_be_bytes}
use Rattle.std.specs.List.{flat_map, list_all}
use Rattle.std.specs.Str.{is_utf8}
use Rattle.std.proofs.lemmas.Bool.{and_from, and_parts, false≢true}
use Rattle.std.proofs.lemmas.List.{append-nil, take_at, drop_at, length-take, take-append-drop}
use Rattle.std.proofs.lemmas.List.Concat.{flat_map-append}
use Rattle.std.proofs.lemmas.Nat.{from_be_bytes-to_be_bytes_4}
use Rattle.oai_names.specs.Names.{may_be_prefix}
use Rattle.oai_item.specs.declared.fields.Field.{Field}
use Rattle.oai_item.specs.declared.sizes.TheConstants.{MAX_ITEM_BYTES}
use Rattle.oai_item.specs.Encoding.{encoded_count, encoded_field, encoded_list, encoded_record, encoded_text, is_text_field}
use Rattle.oai_item.specs.Item.{Metadata}
use Rattle.oai_item.specs.SpellingParts.{IsCount, IsNamed, IsText, Stands}
use Rattle.oai_item.specs.Walks.{are_fields, is_name_text, is_record}
use Rattle.oai_item.proofs.Lengths.{length-encoded_field, length-encoded_list, length-encoded_record, length-encoded_text}

-- two lists that begin with lists of one length
pub same_front : (a b r s : List ℕ) → length a ≡ length b → a ++ r ≡ b ++ s → (a ≡ b) × (r ≡ s)
same_front a b r s len e = (
  sym (take_at a r (length a) refl) ∙ ap (take (length a)) e ∙ take_at b s (length a) (sym len),
  sym (drop_at a r (length a) refl) ∙ ap (drop (length a)) e ∙ drop_at b s (length a) (sym len),
)

-- bytes of which one value stands in front have no other one there
pub record IsCut {A : Type 0} (spelled : A → List ℕ) : Type 0 where
  pub cut : (bytes : List ℕ) (x y : A) (r s : List ℕ) → length bytes ≤ MAX_ITEM_BYTES → bytes ≡ spelled x ++ r → bytes ≡ spelled y ++ s → (x ≡ y) × (r ≡ s)

-- what is behind a value is no longer than the whole
pub few_behind : (bytes piece rest : List ℕ) → bytes ≡ piece ++ rest → length bytes ≤ MAX_ITEM_BYTES → length rest ≤ MAX_ITEM_BYTES
few_behind bytes piece rest e few = omega (arith, length-append piece rest, ap length e)

-- ---- one part after another

-- the first part stands in front
pub front_of : {Z X : Type 0} (whole tail : Z → List ℕ) (one : X → List ℕ) (first : Z → X) (Good : Z → Type 0) (Good' : X → Type 0)
    → ((z : Z) (r : List ℕ) → whole z ++ r ≡ one (first z) ++ (tail z ++ r)) → ((z : Z) → Good z → Good' (first z))
    → (bytes : List ℕ) → Stands whole Good bytes → Stands one Good' bytes
front_of whole tail one first Good Good' splits keeps bytes s = record {
  value = first s.value;
  rest = tail s.value ++ s.rest;
  good = keeps s.value s.good;
  parts = s.parts ∙ splits s.value s.rest;
  few = s.few;
}

-- where the first part was read, the others stand behind it, and it is the value's
pub behind : {Z X : Type 0} (whole tail : Z → List ℕ) (one : X → List ℕ) (first : Z → X) (Good : Z → Type 0) → IsCut one
    → ((z : Z) (r : List ℕ) → whole z ++ r ≡ one (first z) ++ (tail z ++ r))
    → (bytes rest : List ℕ) (x : X) → bytes ≡ one x ++ rest → Stands whole Good bytes → Stands tail (λ z. Good z × (first z ≡ x)) rest
behind whole tail one first Good is_cut splits bytes rest x e s =
    let both = is_cut.cut bytes (first s.value) x (tail s.value ++ s.rest) rest s.few (s.parts ∙ splits s.value s.rest) e in
    record {
      value = s.value;
      rest = s.rest;
      good = (s.good, both.0);
      parts = sym both.1;
      few = few_behind bytes (one x) rest e s.few;
    }

-- ---- counts and texts

pub count_cut : (m n : ℕ) (r s : List ℕ) → m < 2 ^ 32 → n < 2 ^ 32 → encoded_count m ++ r ≡ encoded_count n ++ s → (m ≡ n) × (r ≡ s)
unfolding encoded_count
count_cut m n r s m-fits n-fits e =
    let both = same_front (encoded_count m) (encoded_count n) r s refl e in
    (sym (from_be_bytes-to_be_bytes_4 m m-fits) ∙ ap (from_be_bytes w32) both.0 ∙ from_be_bytes-to_be_bytes_4 n n-fits, both.1)

pub text_splits : (text r : List ℕ) → encoded_text text ++ r ≡ encoded_count (length text) ++ (text ++ r)
unfolding encoded_text
text_splits text r = append_assoc (encoded_count (length text)) text r

-- a text in bytes that are not too many is not too long
pub text_fits : (bytes text r : List ℕ) → length bytes ≤ MAX_ITEM_BYTES → bytes ≡ encoded_text text ++ r → length text < 2 ^ 32
text_fits bytes text r few e = omega (arith, ap length e, length-append (encoded_text text) r, length-encoded_text text)

pub text_is_cut : IsCut encoded_text
text_is_cut = record {
  cut = λ bytes t u r s few e f.
      let c = count_cut (length t) (length u) (t ++ r) (u ++ s) (text_fits bytes t r few e) (text_fits bytes u s few f)
      (sym (text_splits t r) ∙ sym e ∙ f ∙ text_splits u s) in
      same_front t u r s c.0 c.1;
}

-- where a text stands, its length does
pub count_of_text : (Good : List ℕ → Type 0) (bytes : List ℕ) → Stands encoded_text Good bytes → Stands encoded_count IsCount bytes
count_of_text Good bytes s = record {
  value = length s.value;
  rest = s.value ++ s.rest;
  good = text_fits bytes s.value s.rest s.few s.parts;
  parts = s.parts ∙ text_splits s.value s.rest;
  few = s.few;
}

-- and behind its length the text
pub text_behind : (Good : List ℕ → Type 0) (bytes rest : List ℕ) (n : ℕ) → n < 2 ^ 32 → bytes ≡ encoded_count n ++ rest → (s : Stands encoded_text Good bytes) → (length s.value ≡ n) × (s.value ++ s.rest ≡ rest)
text_behind Good bytes rest n fits e s =
    count_cut (length s.value) n (s.value ++ s.rest) rest (text_fits bytes s.value s.rest s.few s.parts) fits (sym (text_splits s.value s.rest) ∙ sym s.parts ∙ e)

-- a text is its length, and so many bytes behind it
pub text_of_parts : (bytes rest text after : List ℕ) (n : ℕ) → n ≤ length rest → bytes ≡ encoded_count n ++ rest → text ≡ take n rest → after ≡ drop n rest → bytes ≡ encoded_text text ++ after
text_of_parts bytes rest text after n within e front back =
    let len : length text ≡ n = omega (arith, ap length front, length-take n rest) in
    e ∙ ap (λ k. encoded_count k ++ rest) (sym len)
    ∙ ap (λ b. encoded_count (length text) ++ b) (sym (take-append-drop n rest) ∙ ap (λ t. t ++ drop n rest) (sym front) ∙ ap (λ t. text ++ t) (sym back))
    ∙ sym (text_splits text after)

-- ---- lists

-- elements of at least so many bytes fill at least so many
pub fill : {A : Type 0} (spelled : A → List ℕ) (least : ℕ) → ((x : A) → least ≤ length (spelled x)) → (xs : List A) → least * length xs ≤ length (flat_map spelled xs)
fill spelled least some [] = omega arith
fill spelled least some (x ∷ xs) = omega (arith, some x, fill spelled least some xs, length-append (spelled x) (flat_map spelled xs))

pub list_splits : {A : Type 0} (spelled : A → List ℕ) (xs : List A) (r : List ℕ) → encoded_list spelled xs ++ r ≡ encoded_count (length xs) ++ (flat_map spelled xs ++ r)
unfolding encoded_list
list_splits spelled xs r = append_assoc (encoded_count (length xs)) (flat_map spelled xs) r

pub list_fits : {A : Type 0} (spelled : A → List ℕ) → ((x : A) → 4 ≤ length (spelled x)) → (bytes : List ℕ) (xs : List A) (r : List ℕ) → length bytes ≤ MAX_ITEM_BYTES → bytes ≡ encoded_list spelled xs ++ r → length xs < 2 ^ 32
list_fits spelled some bytes xs r few e =
    omega (arith, ap length e, length-append (encoded_list spelled xs) r, length-encoded_list spelled xs, fill spelled 4 some xs)

pub element_splits : {A : Type 0} (spelled : A → List ℕ) (x : A) (xs : List A) (r : List ℕ) → flat_map spelled (x ∷ xs) ++ r ≡ spelled x ++ (flat_map spelled xs ++ r)
element_splits spelled x xs r = append_assoc (spelled x) (flat_map spelled xs) r

-- as many elements are the same
elements_cut : {A : Type 0} (spelled : A → List ℕ) → IsCut spelled → (xs ys : List A) (bytes r s : List ℕ) → length bytes ≤ MAX_ITEM_BYTES → length xs ≡ length ys
    → bytes ≡ flat_map spelled xs ++ r → bytes ≡ flat_map spelled ys ++ s → (xs ≡ ys) × (r ≡ s)
elements_cut spelled is_cut [] [] bytes r s few len e f = (refl, sym e ∙ f)
elements_cut spelled is_cut [] (y ∷ ys) bytes r s few len e f = absurd (omega arith)
elements_cut spelled is_cut (x ∷ xs) [] bytes r s few len e f = absurd (omega arith)
elements_cut spelled is_cut (x ∷ xs) (y ∷ ys) bytes r s few len e f =
    let e' = e ∙ element_splits spelled x xs r in
    let one = is_cut.cut bytes x y (flat_map spelled xs ++ r) (flat_map spelled ys ++ s) few e' (f ∙ element_splits spelled y ys s) in
    let others = elements_cut spelled is_cut xs ys (flat_map spelled xs ++ r) r s (few_behind bytes (spelled x) (flat_map spelled xs ++ r) e' few) (omega arith) refl one.1 in
    (ap (λ z. z ∷ xs) one.0 ∙ ap (λ zs. y ∷ zs) others.0, others.1)

-- behind fewer elements the next one stands
next_of : {A : Type 0} (spelled : A → List ℕ) → IsCut spelled → (test : A → Bool) (few_xs xs : List A) (bytes r s : List ℕ) → length bytes ≤ MAX_ITEM_BYTES → length few_xs < length xs
    → list_all test xs ≡ true → bytes ≡ flat_map spelled few_xs ++ r → bytes ≡ flat_map spelled xs ++ s → Stands spelled (λ x. test x ≡ true) r
next_of spelled is_cut test few_xs [] bytes r s few less all e f = absurd (omega arith)
next_of spelled is_cut test [] (x ∷ xs) bytes r s few less all e f = record {
  value = x;
  rest = flat_map spelled xs ++ s;
  good = (and_parts (test x) (list_all test xs) all).0;
  parts = sym e ∙ f ∙ element_splits spelled x xs s;
  few = subst (λ b. length b ≤ MAX_ITEM_BYTES) e few;
}
next_of spelled is_cut test (y ∷ ys) (x ∷ xs) bytes r s few less all e f =
    let e' = e ∙ element_splits spelled y ys r in
    let one = is_cut.cut bytes y x (flat_map spelled ys ++ r) (flat_map spelled xs ++ s) few e' (f ∙ element_splits spelled x xs s) in
    next_of spelled is_cut test ys xs (flat_map spelled ys ++ r) r s (few_behind bytes (spelled y) (flat_map spelled ys ++ r) e' few) (omega arith) (and_parts (test x) (list_all test xs) all).1 refl one.1

-- ---- names

-- a name that stands is a text
pub text_of_name : (grammar : List ℕ → Bool) (bytes : List ℕ) → Stands encoded_text (IsNamed grammar) bytes → Stands encoded_text IsText bytes
text_of_name grammar bytes s = record {
  value = s.value;
  rest = s.rest;
  good = (and_parts (grammar s.value) (is_utf8 s.value) s.good).1;
  parts = s.parts;
  few = s.few;
}

-- a text that is not of the grammar is no name
pub no_name : (grammar : List ℕ → Bool) (bytes rest text : List ℕ) → bytes ≡ encoded_text text ++ rest → grammar text ≡ false → Stands encoded_text (IsNamed grammar) bytes → ⊥
no_name grammar bytes rest text e refused s =
    let same = text_is_cut.cut bytes s.value text s.rest rest s.few s.parts e in
    false≢true (sym refused ∙ ap grammar (sym same.0) ∙ (and_parts (grammar s.value) (is_utf8 s.value) s.good).0)

-- ---- fields

pub field_splits : (field : Field) (r : List ℕ) → encoded_field field ++ r ≡ encoded_text field.name ++ (encoded_text field.text ++ r)
unfolding encoded_field
field_splits field r = append_assoc (encoded_text field.name) (encoded_text field.text) r

-- where a field stands, its name does
pub name_of_field : (bytes : List ℕ) → Stands encoded_field (λ field. is_text_field field ≡ true) bytes → Stands encoded_text IsText bytes
name_of_field bytes s =
    front_of encoded_field (λ field. encoded_text field.text) encoded_text (λ field. field.name) (λ field. is_text_field field ≡ true) IsText
    field_splits (λ field good. (and_parts (is_utf8 field.name) (is_utf8 field.text) good).0) bytes s

-- and behind its name its text
pub text_of_field : (bytes rest name : List ℕ) → bytes ≡ encoded_text name ++ rest → Stands encoded_field (λ field. is_text_field field ≡ true) bytes → Stands encoded_text IsText rest
text_of_field bytes rest name e s =
    let t = behind encoded_field (λ field. encoded_text field.text) encoded_text (λ field. field.name) (λ field. is_text_field field ≡ true) text_is_cut field_splits bytes rest name e s in
    record {
      value = t.value.text;
      rest = t.rest;
      good = (and_parts (is_utf8 t.value.name) (is_utf8 t.value.text) t.good.0).1;
      parts = t.parts;
      few = t.few;
    }

-- a field is its name and its text
pub field_of_parts : (bytes rest after name text : List ℕ) (field : Field) → field.name ≡ name → field.text ≡ text → IsText name × (bytes ≡ encoded_text name ++ rest) → IsText text × (rest ≡ encoded_text text ++ after)
    → (is_text_field field ≡ true) × (bytes ≡ encoded_field field ++ after)
field_of_parts bytes rest after name text field name-is text-is first second = (
  and_from _ _ (ap is_utf8 name-is ∙ first.0) (ap is_utf8 text-is ∙ second.0),
  first.1 ∙ ap (λ b. encoded_text name ++ b) second.1 ∙ ap (λ n. encoded_text n ++ (encoded_text text ++ after)) (sym name-is)
      ∙ ap (λ t. encoded_text field.name ++ (encoded_text t ++ after)) (sym text-is) ∙ sym (field_splits field after),
)

pub field_is_cut : IsCut encoded_field
field_is_cut = record {
  cut = λ bytes x y r s few e f.
      let name = text_is_cut.cut bytes x.name y.name (encoded_text x.text ++ r) (encoded_text y.text ++ s) few (e ∙ field_splits x r) (f ∙ field_splits y s) in
      let text = text_is_cut.cut (encoded_text x.text ++ r) x.text y.text r s (few_behind bytes (encoded_text x.name) (encoded_text x.text ++ r) (e ∙ field_splits x r) few) refl name.1 in
      let named : List ℕ → Field = λ n. record { name = n; text = x.text } in
      let with_text : List ℕ → Field = λ t. record { name = y.name; text = t } in
      let same : x ≡ y = ap named name.0 ∙ ap with_text text.0 in
      (same, text.1);
}

-- ---- lists, as they are read

pub list_is_cut : {A : Type 0} (spelled : A → List ℕ) → IsCut spelled → ((x : A) → 4 ≤ length (spelled x)) → IsCut (encoded_list spelled)
list_is_cut spelled is_cut some = record {
  cut = λ bytes xs ys r s few e f.
      let count = count_cut (length xs) (length ys) (flat_map spelled xs ++ r) (flat_map spelled ys ++ s) (list_fits spelled some bytes xs r few e) (list_fits spelled some bytes ys s few f)
      (sym (list_splits spelled xs r) ∙ sym e ∙ f ∙ list_splits spelled ys s) in
      elements_cut spelled is_cut xs ys (flat_map spelled xs ++ r) r s
      (few_behind bytes (encoded_count (length xs)) (flat_map spelled xs ++ r) (e ∙ list_splits spelled xs r) few) count.0 refl count.1;
}

-- where a list stands, the number of its elements does
pub count_of_list : {A : Type 0} (spelled : A → List ℕ) → ((x : A) → 4 ≤ length (spelled x)) → (Good : List A → Type 0) (bytes : List ℕ) → Stands (encoded_list spelled) Good bytes → Stands encoded_count IsCount bytes
count_of_list spelled some Good bytes s = record {
  value = length s.value;
  rest = flat_map spelled s.value ++ s.rest;
  good = list_fits spelled some bytes s.value s.rest s.few s.parts;
  parts = s.parts ∙ list_splits spelled s.value s.rest;
  few = s.few;
}

-- and behind it the elements
pub list_behind : {A : Type 0} (spelled : A → List ℕ) → ((x : A) → 4 ≤ length (spelled x)) → (Good : List A → Type 0) (bytes elements : List ℕ) (n : ℕ) → n < 2 ^ 32
    → bytes ≡ encoded_count n ++ elements → (s : Stands (encoded_list spelled) Good bytes) → (length s.value ≡ n) × (flat_map spelled s.value ++ s.rest ≡ elements)
list_behind spelled some Good bytes elements n fits e s =
    count_cut (length s.value) n (flat_map spelled s.value ++ s.rest) elements (list_fits spelled some bytes s.value s.rest s.few s.parts) fits
    (sym (list_splits spelled s.value s.rest) ∙ sym s.parts ∙ e)

-- no list of so many elements stands where there is no room for them
pub no_room : {A : Type 0} (spelled : A → List ℕ) (least : ℕ) → ((x : A) → least ≤ length (spelled x)) → ((x : A) → 4 ≤ length (spelled x)) → (Good : List A → Type 0) (bytes elements : List ℕ) (n : ℕ) → n < 2 ^ 32
    → bytes ≡ encoded_count n ++ elements → length elements < least * n → Stands (encoded_list spelled) Good bytes → ⊥
no_room spelled least some four Good bytes elements n fits e less s =
    let h = list_behind spelled four Good bytes elements n fits e s in
    let filled : least * n ≤ length (flat_map spelled s.value) = subst (λ k. least * k ≤ length (flat_map spelled s.value)) h.0 (fill spelled least some s.value) in
    omega (arith, filled, ap length h.1, length-append (flat_map spelled s.value) s.rest)

-- behind fewer elements than were counted the next one stands
pub next_in_list : {A : Type 0} (spelled : A → List ℕ) → IsCut spelled → ((x : A) → 4 ≤ length (spelled x)) → (test : A → Bool) (bytes elements rest : List ℕ) (xs : List A) (n : ℕ) → n < 2 ^ 32
    → bytes ≡ encoded_count n ++ elements → elements ≡ flat_map spelled xs ++ rest → length xs < n
    → Stands (encoded_list spelled) (λ ys. list_all test ys ≡ true) bytes → Stands spelled (λ x. test x ≡ true) rest
next_in_list spelled is_cut some test bytes elements rest xs n fits e f less s =
    let h = list_behind spelled some (λ ys. list_all test ys ≡ true) bytes elements n fits e s in
    next_of spelled is_cut test xs s.value elements rest s.rest (few_behind bytes (encoded_count n) elements e s.few) (omega (arith, h.0)) s.good f (sym h.1)

-- one more element
pub list_more : {A : Type 0} (spelled : A → List ℕ) (elements rest after : List ℕ) (xs : List A) (x : A) → elements ≡ flat_map spelled xs ++ rest → rest ≡ spelled x ++ after → elements ≡ flat_map spelled (xs ++ x ∷ []) ++ after
list_more spelled elements rest after xs x e f =
    e ∙ ap (λ b. flat_map spelled xs ++ b) f ∙ sym (append_assoc (flat_map spelled xs) (spelled x) after)
    ∙ ap (λ b. (flat_map spelled xs ++ b) ++ after) (sym (append-nil (spelled x))) ∙ ap (λ b. b ++ after) (sym (flat_map-append spelled xs (x ∷ [])))

pub all_more : {A : Type 0} (test : A → Bool) (xs : List A) (x : A) → list_all test xs ≡ true → test x ≡ true → list_all test (xs ++ x ∷ []) ≡ true
all_more test [] x all one = and_from _ _ one refl
all_more test (y ∷ ys) x all one = let h = and_parts (test y) (list_all test ys) all in and_from _ _ h.0 (all_more test ys x h.1 one)

-- a list is its count and so many elements
pub list_of_parts : {A : Type 0} (spelled : A → List ℕ) (bytes elements rest : List ℕ) (xs : List A) (n : ℕ) → bytes ≡ encoded_count n ++ elements → elements ≡ flat_map spelled xs ++ rest → length xs ≡ n → bytes ≡ encoded_list spelled xs ++ rest
list_of_parts spelled bytes elements rest xs n e f len =
    e ∙ ap (λ k. encoded_count k ++ elements) (sym len) ∙ ap (λ b. encoded_count (length xs) ++ b) f ∙ sym (list_splits spelled xs rest)

-- ---- how many bytes an element has at least

pub text_has_four : (text : List ℕ) → 4 ≤ length (encoded_text text)
text_has_four text = omega (arith, length-encoded_text text)

pub field_has_eight : (field : Field) → 8 ≤ length (encoded_field field)
field_has_eight field = omega (arith, length-encoded_field field, length-encoded_text field.name, length-encoded_text field.text)

pub field_has_four : (field : Field) → 4 ≤ length (encoded_field field)
field_has_four field = omega (arith, field_has_eight field)

pub record_has_eight : (format : Metadata) → 8 ≤ length (encoded_record format)
record_has_eight format = omega (arith, length-encoded_record format, length-encoded_text format.0, length-encoded_list encoded_field format.1)

pub record_has_four : (format : Metadata) → 4 ≤ length (encoded_record format)
record_has_four format = omega (arith, record_has_eight format)

-- ---- records

pub fields_are_cut : IsCut (encoded_list encoded_field)
fields_are_cut = list_is_cut encoded_field field_is_cut field_has_four

pub record_splits : (format : Metadata) (r : List ℕ) → encoded_record format ++ r ≡ encoded_text format.0 ++ (encoded_list encoded_field format.1 ++ r)
unfolding encoded_record
record_splits format r = append_assoc (encoded_text format.0) (encoded_list encoded_field format.1) r

-- where a record stands, its prefix does
pub prefix_of_record : (bytes : List ℕ) → Stands encoded_record (λ format. is_record format ≡ true) bytes → Stands encoded_text (IsNamed may_be_prefix) bytes
prefix_of_record bytes s =
    front_of encoded_record (λ format. encoded_list encoded_field format.1) encoded_text (λ format. format.0) (λ format. is_record format ≡ true) (IsNamed may_be_prefix)
    record_splits (λ format good. (and_parts (is_name_text may_be_prefix format.0) (are_fields format.1) good).0) bytes s

-- and behind it its fields
pub fields_of_record : (bytes rest prefix : List ℕ) → bytes ≡ encoded_text prefix ++ rest → Stands encoded_record (λ format. is_record format ≡ true) bytes → Stands (encoded_list encoded_field) (λ fields. are_fields fields ≡ true) rest
fields_of_record bytes rest prefix e s =
    let t = behind encoded_record (λ format. encoded_list encoded_field format.1) encoded_text (λ format. format.0) (λ format. is_record format ≡ true) text_is_cut record_splits bytes rest prefix e s in
    record {
      value = t.value.1;
      rest = t.rest;
      good = (and_parts (is_name_text may_be_prefix t.value.0) (are_fields t.value.1) t.good.0).1;
      parts = t.parts;
      few = t.few;
    }

-- a record is its prefix and its fields
pub record_of_parts : (bytes rest after : List ℕ) (format : Metadata) → IsNamed may_be_prefix format.0 → bytes ≡ encoded_text format.0 ++ rest → are_fields format.1 ≡ true → rest ≡ encoded_list encoded_field format.1 ++ after
    → (is_record format ≡ true) × (bytes ≡ encoded_record format ++ after)
record_of_parts bytes rest after format prefix e fields f =
    (and_from _ _ prefix fields, e ∙ ap (λ b. encoded_text format.0 ++ b) f ∙ sym (record_splits format after))

pub record_is_cut : IsCut encoded_record
record_is_cut = record {
  cut = λ bytes x y r s few e f.
      let prefix = text_is_cut.cut bytes x.0 y.0 (encoded_list encoded_field x.1 ++ r) (encoded_list encoded_field y.1 ++ s) few (e ∙ record_splits x r) (f ∙ record_splits y s) in
      let fields = fields_are_cut.cut (encoded_list encoded_field x.1 ++ r) x.1 y.1 r s (few_behind bytes (encoded_text x.0) (encoded_list encoded_field x.1 ++ r) (e ∙ record_splits x r) few) refl prefix.1 in
      let named : List ℕ → Metadata = λ n. (n, x.1) in
      let with_fields : List Field → Metadata = λ fields. (y.0, fields) in
      let same : x ≡ y = ap named prefix.0 ∙ ap with_fields fields.0 in
      (same, fields.1);
}
