-- Records that an item holds as the bytes of their spelling.
use Rattle.std.proofs.Common.{◌≡◌, ◌∙◌, ◌+◌, ◌≤◌, ℕ, true, List, [], ◌++◌, length, take, drop, ◌-◌, Ok, refl, sym, ap, subst, arith}
use Rattle.std.specs.List.{list_all}
use Rattle.std.proofs.lemmas.List.{append-nil, drop_all, drop_at, length-append, length-drop, length-take-le, take_all, take_at}
use Rattle.oai_item.specs.Encoding.{IsMeasure, Spells, encoded, encoded_list, encoded_record, encoded_text, is_text_record}
use Rattle.oai_item.specs.Held.{AreWhole, records_in}
use Rattle.oai_item.specs.Item.{ItemState, Metadata, are_prefixed}
use Rattle.oai_item.specs.declared.sizes.TheConstants.{MAX_ITEM_BYTES}
use Rattle.oai_item.specs.SpellingParts.{Stands, Writes, are_records}
use Rattle.oai_item.specs.Walks.{is_record}
use Rattle.oai_device.proofs.HeldLemmas.{part_of_part}
use Rattle.oai_item.proofs.Placed.{few_left}
use Rattle.oai_item.proofs.ReadBack.{records_back}
use Rattle.oai_item.proofs.Spelled.{all_so, parts_spelled, records_from, text_record_from}
use Rattle.oai_item.proofs.Spellings.{few_behind}
use Rattle.oai_item.proofs.Wholes.{after_sets, behind_identifier}

-- their texts are UTF-8
pub whole_texts : (bytes : List ℕ) → AreWhole bytes → list_all is_text_record (records_in bytes) ≡ true
whole_texts bytes whole = all_so is_record is_text_record text_record_from (records_in bytes) whole.good

-- they stand in front of the bytes
pub whole_stands : (bytes : List ℕ) → AreWhole bytes → Stands (encoded_list encoded_record) (λ formats. are_records formats ≡ true) bytes
whole_stands bytes whole = record {
  value = records_in bytes;
  rest = [];
  good = whole.good;
  parts = whole.parts ∙ sym (append-nil (encoded_list encoded_record (records_in bytes)));
  few = whole.few;
}

-- the bytes spell these records, and nothing else
pub record AreRecordsOf (formats : List Metadata) (bytes : List ℕ) : Type 0 where
  pub whole : AreWhole bytes
  pub same : records_in bytes ≡ formats

-- so does their spelling, where they may be an item's
pub records_whole : (formats : List Metadata) (bytes : List ℕ) → bytes ≡ encoded_list encoded_record formats → length bytes ≤ MAX_ITEM_BYTES → are_records formats ≡ true → AreRecordsOf formats bytes
records_whole formats bytes is few good =
    let same : records_in bytes ≡ formats = (records_back.back bytes formats [] few (is ∙ sym (append-nil (encoded_list encoded_record formats)))).0 in
    record {
      whole = record {
        good = ap (list_all is_record) same ∙ good;
        parts = is ∙ ap (encoded_list encoded_record) (sym same);
        few = few;
      };
      same = same;
    }

-- so do the bytes behind the sets in an item's spelling
pub records_end : (bytes rest after : List ℕ) (item : ItemState) (sets : List (List ℕ)) → Spells bytes item → rest ≡ behind_identifier item → rest ≡ encoded_list encoded_text sets ++ after → AreRecordsOf item.formats after
records_end bytes rest after item sets s e f =
    let few = few_left bytes rest item s e in
    records_whole item.formats after (sym (after_sets item rest after sets few (sym e) f).1) (few_behind rest (encoded_list encoded_text sets) after f few) (parts_spelled bytes item s).parts.of_formats

-- so do the bytes of a vector of that length, into which it was written
pub records_written : (formats : List Metadata) (old new items bytes : List ℕ) (n size len : ℕ) → are_prefixed formats ≡ true → list_all is_text_record formats ≡ true → IsMeasure (0 + length (encoded_list encoded_record formats)) (Ok size) → length old ≡ len → len ≡ size
    → Writes (encoded_list encoded_record formats) old n new → bytes ≡ take len (new ++ drop (length new) items) → AreRecordsOf formats bytes
records_written formats old new items bytes n size len prefixed texts measure long made written same =
    let piece = encoded_list encoded_record formats in
    let few : length piece ≤ MAX_ITEM_BYTES = omega (arith, measure.1) in
    let is : new ≡ piece = written.1 ∙ ap (λ rest. piece ++ rest) (drop_all (length piece) old (omega (arith, measure.0))) ∙ append-nil piece in
    let size_is : length new ≡ length piece = ap length is in
    let whole : bytes ≡ piece = same ∙ take_at new (drop (length new) items) len (omega (arith, measure.0)) ∙ is in
    records_whole formats bytes whole (subst (λ m. m ≤ MAX_ITEM_BYTES) (sym (ap length whole)) few) (records_from formats prefixed texts)

-- the end of bytes that spell an item, as long as its records' spelling, is that
pub record IsEnd (piece bytes : List ℕ) : Type 0 where
  pub few : length piece ≤ length bytes
  pub end : take (length piece) (drop (length bytes - length piece) bytes) ≡ piece

end_is : (front piece bytes : List ℕ) → bytes ≡ front ++ piece → IsEnd piece bytes
end_is front piece bytes is =
    let long : length bytes ≡ length front + length piece = ap length is ∙ length-append front piece in
    let place : length bytes - length piece ≡ length front = omega (arith, long) in
    record {
      few = omega (arith, long);
      end = ap (λ (n : ℕ). take (length piece) (drop n bytes)) place
          ∙ ap (λ (b : List ℕ). take (length piece) (drop (length front) b)) is
          ∙ ap (take (length piece)) (drop_at front piece (length front) refl)
          ∙ take_all (length piece) piece (omega arith);
    }

pub records_are_end : (bytes : List ℕ) (item : ItemState) → Spells bytes item → IsEnd (encoded_list encoded_record item.formats) bytes
unfolding encoded
records_are_end bytes item s = end_is _ (encoded_list encoded_record item.formats) bytes s.spelling

-- where bytes from one place to another spell an item, the end of them, as long as its records' spelling, is that
pub record IsRecordsEnd (piece bytes : List ℕ) (to : ℕ) : Type 0 where
  pub few : length piece ≤ to
  pub within : to - length piece + length piece ≤ length bytes
  pub is : take (length piece) (drop (to - length piece) bytes) ≡ piece

pub records_at_end : (bytes : List ℕ) (from to : ℕ) (item : ItemState) → from ≤ to → to ≤ length bytes → Spells (take (to - from) (drop from bytes)) item
    → IsRecordsEnd (encoded_list encoded_record item.formats) bytes to
records_at_end bytes from to item order within s =
    let text : List ℕ = take (to - from) (drop from bytes) in
    let piece : List ℕ = encoded_list encoded_record item.formats in
    let long : length text ≡ to - from = length-take-le (to - from) (drop from bytes) (omega (arith, length-drop from bytes)) in
    let e : IsEnd piece text = records_are_end text item s in
    let few : length piece ≤ length text = e.few in
    let place : from + (length text - length piece) ≡ to - length piece = omega (arith, long, few) in
    record {
      few = omega (arith, long, few);
      within = omega (arith, long, few);
      is = ap (λ (n : ℕ). take (length piece) (drop n bytes)) (sym place)
          ∙ part_of_part bytes from (to - from) (length text - length piece) (length piece) (omega (arith, few))
          ∙ e.end;
    }
