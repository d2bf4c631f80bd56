-- Writing one piece behind another at the front of bytes.
use Rattle.std.proofs.Common.{◌≡◌, ◌∙◌, ℕ, ℤ, ◌+◌, ◌-◌, ◌<◌, ◌≤◌, Bool, true, List, [], ◌∷◌, ◌++◌, length, take, drop, get_or, refl, sym, ap, subst, append_assoc, arith, length-append}
use Rattle.std.specs.List.{flat_map, list_all}
use Rattle.std.proofs.lemmas.Bool.{and_from}
use Rattle.std.proofs.lemmas.List.{append-nil, drop_all, drop_at, drop-drop, length-drop, take_all, take_at, take_more}
use Rattle.std.proofs.lemmas.List.Concat.{flat_map-append}
use Rattle.std.proofs.lemmas.List.Folds.{length-flat_map-take, list_all_more}
use borrow.Rule.Slice.PartMut.{put_mid}
use Rattle.oai_item.specs.Encoding.{encoded, encoded_bool, encoded_count, encoded_field, encoded_list, encoded_record, encoded_stamp, encoded_text}
use Rattle.oai_item.specs.Item.{Metadata}
use Rattle.oai_item.specs.declared.fields.Field.{Field}
use Rattle.oai_item.specs.SpellingParts.{Writes, item_with}
use Rattle.oai_item.proofs.Lengths.{length-encoded_count, length-encoded_list}

-- what is behind the first piece is what was there
behind_is : (a old mid : List ℕ) (n : ℕ) → Writes a old n mid → take (length mid - n) (drop n mid) ≡ drop (length a) old
behind_is a old mid n first =
    let rest : drop n mid ≡ drop (length a) old = ap (drop n) first.1 ∙ drop_at a (drop (length a) old) n (sym first.0) in
    take_all (length mid - n) (drop n mid) (omega (arith, length-drop n mid)) ∙ rest

-- so there is room for the second
pub room_behind : (a b old mid : List ℕ) (n : ℕ) → length (a ++ b) ≤ length old → Writes a old n mid → length b ≤ length (take (length mid - n) (drop n mid))
room_behind a b old mid n room first =
    omega (arith, ap length (behind_is a old mid n first), length-drop (length a) old, length-append a b)

-- both are written
pub writes_behind : (a b old mid sub : List ℕ) (n m : ℕ) → Writes a old n mid → Writes b (take (length mid - n) (drop n mid)) m sub → Writes (a ++ b) old (n + m) (put_mid n (length mid - n) mid sub)
writes_behind a b old mid sub n m first second =
    let behind = behind_is a old mid n first in
    let front : take n mid ≡ a = ap (take n) first.1 ∙ take_at a (drop (length a) old) n (sym first.0) in
    let left : drop (length b) (take (length mid - n) (drop n mid)) ≡ drop (length (a ++ b)) old =
    ap (drop (length b)) behind ∙ drop-drop (length b) (length a) old ∙ ap (λ k. drop k old) (sym (length-append a b)) in
    let sub-is : sub ≡ b ++ drop (length (a ++ b)) old = second.1 ∙ ap (λ r. b ++ r) left in
    let none : drop (length mid - n) (drop n mid) ≡ [] = drop_all (length mid - n) (drop n mid) (omega (arith, length-drop n mid)) in (
      omega (arith, first.0, second.0, length-append a b),
      ap (λ r. take n mid ++ (sub ++ r)) none ∙ ap (λ r. take n mid ++ r) (append-nil sub ∙ sub-is) ∙ ap (λ r. r ++ (b ++ drop (length (a ++ b)) old)) front
          ∙ sym (append_assoc a b (drop (length (a ++ b)) old)),
    )

-- the same of a piece that is known to be both
pub room_in : (whole a b old mid : List ℕ) (n : ℕ) → a ++ b ≡ whole → length whole ≤ length old → Writes a old n mid → length b ≤ length (take (length mid - n) (drop n mid))
room_in whole a b old mid n is room first = room_behind a b old mid n (subst (λ piece. length piece ≤ length old) (sym is) room) first

pub written_in : (whole a b old mid sub : List ℕ) (n m : ℕ) → a ++ b ≡ whole → Writes a old n mid → Writes b (take (length mid - n) (drop n mid)) m sub → Writes whole old (n + m) (put_mid n (length mid - n) mid sub)
written_in whole a b old mid sub n m is first second =
    let P : List ℕ → Type 0 = λ piece. Writes piece old (n + m) (put_mid n (length mid - n) mid sub) in
    subst P is (writes_behind a b old mid sub n m first second)

-- there is room for a front of the piece
pub front_room : (whole a b old : List ℕ) → a ++ b ≡ whole → length whole ≤ length old → length a ≤ length old
front_room whole a b old is room = omega (arith, ap length is, length-append a b)

pub text_parts : (text bytes : List ℕ) → bytes ≡ text → encoded_count (length text) ++ bytes ≡ encoded_text text
unfolding encoded_text
text_parts text bytes is = ap (λ b. encoded_count (length text) ++ b) is

pub field_parts : (field : Field) (name text : List ℕ) → name ≡ field.name → text ≡ field.text → encoded_text name ++ encoded_text text ≡ encoded_field field
unfolding encoded_field
field_parts field name text name-is text-is = ap (λ t. encoded_text t ++ encoded_text text) name-is ∙ ap (λ t. encoded_text field.name ++ encoded_text t) text-is

pub record_parts : (format : Metadata) (prefix : List ℕ) (fields : List Field) → prefix ≡ format.0 → fields ≡ format.1 → encoded_text prefix ++ encoded_list encoded_field fields ≡ encoded_record format
unfolding encoded_record
record_parts format prefix fields prefix-is fields-is =
    ap (λ t. encoded_text t ++ encoded_list encoded_field fields) prefix-is ∙ ap (λ fs. encoded_text format.0 ++ encoded_list encoded_field fs) fields-is

-- ---- lists

abbrev pub so_far : {A : Type 0} → (A → List ℕ) → List A → ℕ → List ℕ
so_far spelled xs i = encoded_count (length xs) ++ flat_map spelled (take i xs)

pub list_room : {A : Type 0} (spelled : A → List ℕ) (xs : List A) (i : ℕ) (d : A) (old : List ℕ) → i < length xs → length (encoded_list spelled xs) ≤ length old
    → length (so_far spelled xs i ++ spelled (get_or xs i d)) ≤ length old
list_room spelled xs i d old within room =
    omega (
      arith,
      room,
      length-encoded_list spelled xs,
      length-encoded_count (length xs),
      length-flat_map-take spelled xs i d within,
      length-append (so_far spelled xs i) (spelled (get_or xs i d)),
      length-append (encoded_count (length xs)) (flat_map spelled (take i xs)),
    )

more_is : {A : Type 0} (spelled : A → List ℕ) (xs : List A) (i : ℕ) (d : A) → i < length xs → so_far spelled xs i ++ spelled (get_or xs i d) ≡ so_far spelled xs (i + 1)
more_is spelled xs i d within =
    append_assoc (encoded_count (length xs)) (flat_map spelled (take i xs)) (spelled (get_or xs i d))
    ∙ ap (λ r. encoded_count (length xs) ++ (flat_map spelled (take i xs) ++ r)) (sym (append-nil (spelled (get_or xs i d))))
    ∙ ap (λ r. encoded_count (length xs) ++ r) (sym (flat_map-append spelled (take i xs) (get_or xs i d ∷ [])))
    ∙ ap (λ ys. encoded_count (length xs) ++ flat_map spelled ys) (sym (take_more xs i d within))

-- the count is written first
pub count_written : {A : Type 0} (spelled : A → List ℕ) (xs : List A) (old new : List ℕ) (n : ℕ) → Writes (encoded_count (length xs)) old n new → Writes (so_far spelled xs 0) old n new
count_written spelled xs old new n h =
    let P : List ℕ → Type 0 = λ piece. Writes piece old n new in
    subst P (sym (append-nil (encoded_count (length xs)))) h

-- there is room for one more element
pub element_room : {A : Type 0} (spelled : A → List ℕ) (xs : List A) (i : ℕ) (d : A) (piece old mid : List ℕ) (n : ℕ) → i < length xs → length (encoded_list spelled xs) ≤ length old
    → piece ≡ spelled (get_or xs i d) → Writes (so_far spelled xs i) old n mid → length piece ≤ length (take (length mid - n) (drop n mid))
element_room spelled xs i d piece old mid n within room is first =
    room_in (so_far spelled xs i ++ spelled (get_or xs i d)) (so_far spelled xs i) piece old mid n (ap (λ r. so_far spelled xs i ++ r) is) (list_room spelled xs i d old within room) first

-- one more element is written
pub element_written : {A : Type 0} (spelled : A → List ℕ) (xs : List A) (i : ℕ) (d : A) (piece old mid sub : List ℕ) (n m : ℕ) → i < length xs → piece ≡ spelled (get_or xs i d)
    → Writes (so_far spelled xs i) old n mid → Writes piece (take (length mid - n) (drop n mid)) m sub → Writes (so_far spelled xs (i + 1)) old (n + m) (put_mid n (length mid - n) mid sub)
element_written spelled xs i d piece old mid sub n m within is first second =
    let whole : so_far spelled xs i ++ piece ≡ so_far spelled xs (i + 1) = ap (λ r. so_far spelled xs i ++ r) is ∙ more_is spelled xs i d within in
    let P : List ℕ → Type 0 = λ bytes. Writes bytes old (n + m) (put_mid n (length mid - n) mid sub) in
    subst P whole (writes_behind (so_far spelled xs i) piece old mid sub n m first second)

-- all elements are written
pub list_written : {A : Type 0} (spelled : A → List ℕ) (xs : List A) (i : ℕ) (old new : List ℕ) (n : ℕ) → length xs ≤ i → Writes (so_far spelled xs i) old n new → Writes (encoded_list spelled xs) old n new
unfolding encoded_list
list_written spelled xs i old new n past h =
    let P : List ℕ → Type 0 = λ piece. Writes piece old n new in
    subst P (ap (λ ys. encoded_count (length xs) ++ flat_map spelled ys) (take_all i xs past)) h

-- there is room for the count
pub count_room : {A : Type 0} (spelled : A → List ℕ) (xs : List A) (old : List ℕ) → length (encoded_list spelled xs) ≤ length old → 4 ≤ length old
count_room spelled xs old room = omega (arith, length-encoded_list spelled xs)

-- one more element passes
pub all_at : {A : Type 0} (test : A → Bool) (xs : List A) (i : ℕ) (x d : A) → i < length xs → x ≡ get_or xs i d → list_all test (take i xs) ≡ true → test x ≡ true → list_all test (take (i + 1) xs) ≡ true
all_at test xs i x d within is all passes = list_all_more test xs i d within ∙ and_from _ _ all (ap test (sym is) ∙ passes)

-- ---- an item

abbrev pub parts2 : Bool → ℤ → List ℕ
parts2 live stamp = encoded_bool live ++ encoded_stamp stamp

abbrev pub parts3 : Bool → ℤ → List ℕ → List ℕ
parts3 live stamp identifier = parts2 live stamp ++ encoded_text identifier

abbrev pub parts4 : Bool → ℤ → List ℕ → List (List ℕ) → List ℕ
parts4 live stamp identifier sets = parts3 live stamp identifier ++ encoded_list encoded_text sets

abbrev pub parts5 : Bool → ℤ → List ℕ → List (List ℕ) → List Metadata → List ℕ
parts5 live stamp identifier sets formats = parts4 live stamp identifier sets ++ encoded_list encoded_record formats

pub parts_are : (live : Bool) (stamp : ℤ) (identifier : List ℕ) (sets : List (List ℕ)) (formats : List Metadata) → parts5 live stamp identifier sets formats ≡ encoded (item_with live stamp identifier sets formats)
unfolding encoded
parts_are live stamp identifier sets formats = refl

pub length-stamp : (stamp : ℤ) → length (encoded_stamp stamp) ≡ 8
unfolding encoded_stamp
length-stamp stamp = refl

-- there is room for each front of it
pub record HasRoom (old : List ℕ) (live : Bool) (stamp : ℤ) (identifier : List ℕ) (sets : List (List ℕ)) (formats : List Metadata) : Type 0 where
  pub room1 : length (encoded_bool live) ≤ length old
  pub room2 : length (parts2 live stamp) ≤ length old
  pub room3 : length (parts3 live stamp identifier) ≤ length old
  pub room4 : length (parts4 live stamp identifier sets) ≤ length old
  pub room5 : length (parts5 live stamp identifier sets formats) ≤ length old

pub has_room : (old : List ℕ) (live : Bool) (stamp : ℤ) (identifier : List ℕ) (sets : List (List ℕ)) (formats : List Metadata)
    → length (encoded (item_with live stamp identifier sets formats)) ≤ length old → HasRoom old live stamp identifier sets formats
has_room old live stamp identifier sets formats room =
    let r5 : length (parts5 live stamp identifier sets formats) ≤ length old = subst (λ piece. length piece ≤ length old) (sym (parts_are live stamp identifier sets formats)) room in
    let r4 = front_room (parts5 live stamp identifier sets formats) (parts4 live stamp identifier sets) (encoded_list encoded_record formats) old refl r5 in
    let r3 = front_room (parts4 live stamp identifier sets) (parts3 live stamp identifier) (encoded_list encoded_text sets) old refl r4 in
    let r2 = front_room (parts3 live stamp identifier) (parts2 live stamp) (encoded_text identifier) old refl r3 in
    let r1 = front_room (parts2 live stamp) (encoded_bool live) (encoded_stamp stamp) old refl r2 in
    record { room1 = r1; room2 = r2; room3 = r3; room4 = r4; room5 = r5 }
