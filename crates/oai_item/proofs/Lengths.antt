-- How many bytes the parts of an item's spelling have.
use Rattle.std.proofs.Common.{◌≡◌, ℕ, ◌+◌, ◌<◌, ◌≤◌, Bool, true, false, List, [], ◌∷◌, ◌++◌, length, take, get_or, Ok, refl, ap, arith, length-append}
use Rattle.std.specs.List.{flat_map}
use Rattle.std.proofs.lemmas.List.{take_all, take_more}
use Rattle.std.proofs.lemmas.List.Concat.{flat_map-append}
use Rattle.std.proofs.lemmas.List.Folds.{length-flat_map-take}
use Rattle.oai_item.specs.declared.fields.Field.{Field}
use Rattle.oai_item.specs.declared.sizes.TheConstants.{MAX_ITEM_BYTES}
use Rattle.oai_item.specs.Encoding.{IsMeasure, encoded, encoded_bool, encoded_count, encoded_field, encoded_list, encoded_record, encoded_stamp, encoded_text}
use Rattle.oai_item.specs.Item.{ItemState, Metadata}

pub length-encoded_count : (n : ℕ) → length (encoded_count n) ≡ 4
unfolding encoded_count
length-encoded_count n = refl

pub length-encoded_stamp : (item : ItemState) → length (encoded_stamp item.stamp) ≡ 8
unfolding encoded_stamp
length-encoded_stamp item = refl

pub length-encoded_bool : (live : Bool) → length (encoded_bool live) ≡ 1
length-encoded_bool true = refl
length-encoded_bool false = refl

pub length-encoded_text : (text : List ℕ) → length (encoded_text text) ≡ 4 + length text
unfolding encoded_text
length-encoded_text text = omega (arith, length-append (encoded_count (length text)) text, length-encoded_count (length text))

pub length-encoded_list : {A : Type 0} (spelled : A → List ℕ) (elements : List A) → length (encoded_list spelled elements) ≡ 4 + length (flat_map spelled elements)
unfolding encoded_list
length-encoded_list spelled elements =
    omega (arith, length-append (encoded_count (length elements)) (flat_map spelled elements), length-encoded_count (length elements))

pub length-encoded_field : (field : Field) → length (encoded_field field) ≡ length (encoded_text field.name) + length (encoded_text field.text)
unfolding encoded_field
length-encoded_field field = length-append (encoded_text field.name) (encoded_text field.text)

pub length-encoded_record : (format : Metadata) → length (encoded_record format) ≡ length (encoded_text format.0) + length (encoded_list encoded_field format.1)
unfolding encoded_record
length-encoded_record format = length-append (encoded_text format.0) (encoded_list encoded_field format.1)

-- the spelling of an item has as many bytes as its parts: nine for the first two, and those of the others
pub length-encoded : (item : ItemState) → length (encoded item) ≡ 9 + length (encoded_text item.identifier) + length (encoded_list encoded_text item.sets) + length (encoded_list encoded_record item.formats)
unfolding encoded
length-encoded item =
    simp length-append (omega (arith, length-encoded_bool item.live, length-encoded_stamp item))

-- one more element of a list that is measured
pub length-flat_map-more : {A : Type 0} (spelled : A → List ℕ) (elements : List A) (i : ℕ) (d : A) → i < length elements → length (flat_map spelled (take (i + 1) elements)) ≡ length (flat_map spelled (take i elements)) + length (spelled (get_or elements i d))
length-flat_map-more spelled elements i d within =
    rw (take_more elements i d within, flat_map-append spelled (take i elements) (get_or elements i d ∷ []))
    (omega (arith, length-append (flat_map spelled (take i elements)) (spelled (get_or elements i d) ++ []), length-append (spelled (get_or elements i d)) []))

-- a list is measured from `start` on, and is too long with the element at i
pub too_long_at : {A : Type 0} (spelled : A → List ℕ) (elements : List A) (i : ℕ) (d : A) (start : ℕ) → i < length elements
    → MAX_ITEM_BYTES < start + 4 + length (flat_map spelled (take i elements)) + length (spelled (get_or elements i d)) → MAX_ITEM_BYTES < start + length (encoded_list spelled elements)
too_long_at spelled elements i d start within over =
    omega (arith, length-encoded_list spelled elements, length-flat_map-take spelled elements i d within)

-- it was measured whole
pub measured_whole : {A : Type 0} (spelled : A → List ℕ) (elements : List A) (i start sum : ℕ) → length elements ≤ i
    → IsMeasure (start + 4 + length (flat_map spelled (take i elements))) (Ok sum) → IsMeasure (start + length (encoded_list spelled elements)) (Ok sum)
measured_whole spelled elements i start sum past measured =
    let whole : take i elements ≡ elements = take_all i elements past in
    let length_is : length (flat_map spelled (take i elements)) ≡ length (flat_map spelled elements) = ap (λ ys. length (flat_map spelled ys)) whole in
    (omega (arith, length-encoded_list spelled elements, measured.0), omega (arith, length-encoded_list spelled elements, measured.1))
