-- What is read from the front of bytes is what was spelled there.
use Rattle.std.proofs.Common.{◌≡◌, ◌∙◌, ℕ, ℤ, ◌^◌, ◌<◌, ◌≤◌, Bool, true, false, List, [], ◌∷◌, ◌++◌, length, take, drop, refl, sym, ap, FitsSigned, w32, w64}
use Rattle.std.specs.Int.{cast_signed, cast_unsigned, from_be_bytes}
use Rattle.std.specs.List.{flat_map}
use Rattle.std.proofs.lemmas.Int.{to_z-of_z}
use Rattle.std.proofs.lemmas.List.{append-nil, take_at, drop_at}
use Rattle.std.proofs.lemmas.Nat.{from_be_bytes-to_be_bytes_4, from_be_bytes-to_be_bytes_8}
use Rattle.std.proofs.Math.Facts.{Fits-of_z}
use Rattle.oai_item.specs.declared.sizes.TheConstants.{MAX_ITEM_BYTES}
use Rattle.oai_item.specs.Decoding.{first_bool, first_count, first_elements, first_field, first_item, first_list, first_record, first_stamp, first_text}
use Rattle.oai_item.specs.Encoding.{encoded_bool, encoded_count, encoded_field, encoded_list, encoded_record, encoded_stamp, encoded_text}
use Rattle.oai_item.specs.Encoding.{Spells}
use Rattle.oai_item.specs.Item.{ItemState}
use Rattle.oai_item.proofs.Numbers.{stamp_fits}
use Rattle.oai_item.proofs.Spellings.{element_splits, few_behind, field_has_four, field_splits, list_fits, list_splits, record_has_four, record_splits, text_fits, text_has_four, text_splits}
use Rattle.oai_item.proofs.Wholes.{behind_identifier, behind_live, behind_stamp, encoded_is}

-- a reader gives the value that is spelled in front of bytes, which are not too many, and what is behind it
pub record ReadsBack {A : Type 0} (first : List ℕ → A × List ℕ) (spelled : A → List ℕ) : Type 0 where
  pub back : (bytes : List ℕ) (x : A) (rest : List ℕ) → length bytes ≤ MAX_ITEM_BYTES → bytes ≡ spelled x ++ rest → ((first bytes).0 ≡ x) × ((first bytes).1 ≡ rest)

pub bool_back : (bytes : List ℕ) (live : Bool) (rest : List ℕ) → bytes ≡ encoded_bool live ++ rest → ((first_bool bytes).0 ≡ live) × ((first_bool bytes).1 ≡ rest)
unfolding first_bool
bool_back bytes true rest e = (rw e refl, rw e refl)
bool_back bytes false rest e = (rw e refl, rw e refl)

pub stamp_back : (bytes : List ℕ) (stamp : ℤ) (rest : List ℕ) → FitsSigned w64 stamp → bytes ≡ encoded_stamp stamp ++ rest → ((first_stamp bytes).0 ≡ stamp) × ((first_stamp bytes).1 ≡ rest)
unfolding first_stamp encoded_stamp
stamp_back bytes stamp rest fits e =
    let front : take 8 bytes ≡ encoded_stamp stamp = ap (take 8) e ∙ take_at (encoded_stamp stamp) rest 8 refl in (
      ap (λ piece. cast_signed w64 (from_be_bytes w64 piece)) front ∙ ap (cast_signed w64) (from_be_bytes-to_be_bytes_8 (cast_unsigned w64 stamp) (Fits-of_z fits).fits) ∙ to_z-of_z w64 stamp fits,
      ap (drop 8) e ∙ drop_at (encoded_stamp stamp) rest 8 refl,
    )

pub count_back : (bytes : List ℕ) (n : ℕ) (rest : List ℕ) → n < 2 ^ 32 → bytes ≡ encoded_count n ++ rest → ((first_count bytes).0 ≡ n) × ((first_count bytes).1 ≡ rest)
unfolding first_count encoded_count
count_back bytes n rest fits e =
    let front : take 4 bytes ≡ encoded_count n = ap (take 4) e ∙ take_at (encoded_count n) rest 4 refl in
    (ap (from_be_bytes w32) front ∙ from_be_bytes-to_be_bytes_4 n fits, ap (drop 4) e ∙ drop_at (encoded_count n) rest 4 refl)

pub text_back : ReadsBack first_text encoded_text
unfolding first_text
text_back = record {
  back = λ bytes text rest few e.
      let c = count_back bytes (length text) (text ++ rest) (text_fits bytes text rest few e) (e ∙ text_splits text rest) in
      (rw (c.0, c.1) (take_at text rest (length text) refl), rw (c.0, c.1) (drop_at text rest (length text) refl));
}

-- ---- lists

pub elements_back : {A : Type 0} (first : List ℕ → A × List ℕ) (spelled : A → List ℕ) → ReadsBack first spelled → (bytes : List ℕ) (xs : List A) (rest : List ℕ) → length bytes ≤ MAX_ITEM_BYTES → bytes ≡ flat_map spelled xs ++ rest
    → ((first_elements first (length xs) bytes).0 ≡ xs) × ((first_elements first (length xs) bytes).1 ≡ rest)
unfolding first_elements
elements_back first spelled reads bytes [] rest few e = (refl, e)
elements_back first spelled reads bytes (x ∷ xs) rest few e =
    let e' = e ∙ element_splits spelled x xs rest in
    let one = reads.back bytes x (flat_map spelled xs ++ rest) few e' in
    let others = elements_back first spelled reads (flat_map spelled xs ++ rest) xs rest (few_behind bytes (spelled x) (flat_map spelled xs ++ rest) e' few) refl in
    (rw (one.0, one.1, others.0) refl, ap (λ (bs : List ℕ). (first_elements first (length xs) bs).1) one.1 ∙ others.1)

pub list_back : {A : Type 0} (first : List ℕ → A × List ℕ) (spelled : A → List ℕ) → ReadsBack first spelled → ((x : A) → 4 ≤ length (spelled x)) → ReadsBack (first_list first) (encoded_list spelled)
unfolding first_list
list_back first spelled reads four = record {
  back = λ bytes xs rest few e.
      let e' = e ∙ list_splits spelled xs rest in
      let c = count_back bytes (length xs) (flat_map spelled xs ++ rest) (list_fits spelled four bytes xs rest few e) e' in
      let els = elements_back first spelled reads (flat_map spelled xs ++ rest) xs rest (few_behind bytes (encoded_count (length xs)) (flat_map spelled xs ++ rest) e' few) refl in
      (rw (c.0, c.1) els.0, rw (c.0, c.1) els.1);
}

-- ---- fields, records and items

pub field_back : ReadsBack first_field encoded_field
unfolding first_field
field_back = record {
  back = λ bytes field rest few e.
      let e' = e ∙ field_splits field rest in
      let name = text_back.back bytes field.name (encoded_text field.text ++ rest) few e' in
      let text = text_back.back (encoded_text field.text ++ rest) field.text rest (few_behind bytes (encoded_text field.name) (encoded_text field.text ++ rest) e' few) refl in
      (rw (name.0, name.1, text.0) refl, rw (name.1, text.1) refl);
}

pub sets_back : ReadsBack (first_list first_text) (encoded_list encoded_text)
sets_back = list_back first_text encoded_text text_back text_has_four

pub fields_back : ReadsBack (first_list first_field) (encoded_list encoded_field)
fields_back = list_back first_field encoded_field field_back field_has_four

pub record_back : ReadsBack first_record encoded_record
unfolding first_record
record_back = record {
  back = λ bytes format rest few e.
      let e' = e ∙ record_splits format rest in
      let prefix = text_back.back bytes format.0 (encoded_list encoded_field format.1 ++ rest) few e' in
      let fields = fields_back.back (encoded_list encoded_field format.1 ++ rest) format.1 rest (few_behind bytes (encoded_text format.0) (encoded_list encoded_field format.1 ++ rest) e' few) refl in
      (rw (prefix.0, prefix.1, fields.0) refl, rw (prefix.1, fields.1) refl);
}

pub records_back : ReadsBack (first_list first_record) (encoded_list encoded_record)
records_back = list_back first_record encoded_record record_back record_has_four

pub item_back : (bytes : List ℕ) (item : ItemState) → Spells bytes item → first_item bytes ≡ item
unfolding first_item
item_back bytes item s =
    let e = s.spelling ∙ encoded_is item in
    let few1 = few_behind bytes (encoded_bool item.live) (behind_live item) e s.few in
    let few2 = few_behind (behind_live item) (encoded_stamp item.stamp) (behind_stamp item) refl few1 in
    let few3 = few_behind (behind_stamp item) (encoded_text item.identifier) (behind_identifier item) refl few2 in
    let few4 = few_behind (behind_identifier item) (encoded_list encoded_text item.sets) (encoded_list encoded_record item.formats) refl few3 in
    let live = bool_back bytes item.live (behind_live item) e in
    let stamp = stamp_back (behind_live item) item.stamp (behind_stamp item) (stamp_fits item.stamp s.valid.stamped) refl in
    let identifier = text_back.back (behind_stamp item) item.identifier (behind_identifier item) few2 refl in
    let sets = sets_back.back (behind_identifier item) item.sets (encoded_list encoded_record item.formats) few3 refl in
    let formats = records_back.back (encoded_list encoded_record item.formats) item.formats [] few4 (sym (append-nil (encoded_list encoded_record item.formats))) in
    rw (live.0, live.1, stamp.0, stamp.1, identifier.0, identifier.1, sets.0, sets.1, formats.0) refl
