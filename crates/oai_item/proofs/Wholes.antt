-- The spelling of a whole item, part by part: bytes spell one item at most.
use Rattle.std.proofs.Common.{◌≡◌, ◌∙◌, ℕ, ℤ, ◌≤◌, Bool, true, false, List, [], ◌++◌, length, refl, sym, ap, append_assoc}
use Rattle.std.proofs.lemmas.List.{append-nil}
use Rattle.oai_names.specs.Names.{may_be_identifier}
use Rattle.oai_item.specs.declared.sizes.TheConstants.{MAX_ITEM_BYTES}
use Rattle.oai_item.specs.Encoding.{encoded, encoded_bool, encoded_list, encoded_record, encoded_stamp, encoded_text}
use Rattle.oai_item.specs.Item.{IsStamp, ItemState, Metadata}
use Rattle.oai_item.specs.SpellingParts.{IsAny, IsNamed, SpellsParts, Stands, are_records, are_sets}
use Rattle.oai_item.proofs.Numbers.{stamp_cut, stamp_fits}
use Rattle.oai_item.proofs.Spellings.{IsCut, few_behind, list_is_cut, record_has_four, record_is_cut, text_has_four, text_is_cut}

-- ---- what is behind the first part, the first two, and so on

abbrev pub behind_live : ItemState → List ℕ
behind_live item = encoded_stamp item.stamp ++ (encoded_text item.identifier ++ (encoded_list encoded_text item.sets ++ encoded_list encoded_record item.formats))

abbrev pub behind_stamp : ItemState → List ℕ
behind_stamp item = encoded_text item.identifier ++ (encoded_list encoded_text item.sets ++ encoded_list encoded_record item.formats)

abbrev pub behind_identifier : ItemState → List ℕ
behind_identifier item = encoded_list encoded_text item.sets ++ encoded_list encoded_record item.formats

five : (a b c d e : List ℕ) → (((a ++ b) ++ c) ++ d) ++ e ≡ a ++ (b ++ (c ++ (d ++ e)))
five a b c d e = simp append_assoc

pub encoded_is : (item : ItemState) → encoded item ≡ encoded_bool item.live ++ behind_live item
unfolding encoded
encoded_is item = five (encoded_bool item.live) (encoded_stamp item.stamp) (encoded_text item.identifier) (encoded_list encoded_text item.sets) (encoded_list encoded_record item.formats)

bool_cut : (a b : Bool) (r s : List ℕ) → encoded_bool a ++ r ≡ encoded_bool b ++ s → (a ≡ b) × (r ≡ s)
bool_cut true true r s e = (refl, cc)
bool_cut false false r s e = (refl, cc)
bool_cut true false r s e = absurd cc
bool_cut false true r s e = absurd cc

pub sets_are_cut : IsCut (encoded_list encoded_text)
sets_are_cut = list_is_cut encoded_text text_is_cut text_has_four

pub records_are_cut : IsCut (encoded_list encoded_record)
records_are_cut = list_is_cut encoded_record record_is_cut record_has_four

-- ---- where the bytes spell an item, and parts of it were read: they are the item's, and what is left is its rest

pub after_live : (item : ItemState) (bytes rest : List ℕ) (live : Bool) → bytes ≡ encoded item → bytes ≡ encoded_bool live ++ rest → (item.live ≡ live) × (behind_live item ≡ rest)
after_live item bytes rest live e f = bool_cut item.live live (behind_live item) rest (sym (encoded_is item) ∙ sym e ∙ f)

pub after_stamp : (item : ItemState) (bytes rest : List ℕ) (stamp : ℤ) → IsStamp item.stamp → IsStamp stamp → behind_live item ≡ bytes → bytes ≡ encoded_stamp stamp ++ rest → (item.stamp ≡ stamp) × (behind_stamp item ≡ rest)
after_stamp item bytes rest stamp is_stamp read e f =
    stamp_cut item.stamp stamp (behind_stamp item) rest (stamp_fits item.stamp is_stamp) (stamp_fits stamp read) (e ∙ f)

pub after_identifier : (item : ItemState) (bytes rest identifier : List ℕ) → length bytes ≤ MAX_ITEM_BYTES → behind_stamp item ≡ bytes → bytes ≡ encoded_text identifier ++ rest → (item.identifier ≡ identifier) × (behind_identifier item ≡ rest)
after_identifier item bytes rest identifier few e f =
    text_is_cut.cut bytes item.identifier identifier (behind_identifier item) rest few (sym e) f

pub after_sets : (item : ItemState) (bytes rest : List ℕ) (sets : List (List ℕ)) → length bytes ≤ MAX_ITEM_BYTES → behind_identifier item ≡ bytes → bytes ≡ encoded_list encoded_text sets ++ rest → (item.sets ≡ sets) × (encoded_list encoded_record item.formats ≡ rest)
after_sets item bytes rest sets few e f =
    sets_are_cut.cut bytes item.sets sets (encoded_list encoded_record item.formats) rest few (sym e) f

pub after_formats : (item : ItemState) (bytes rest : List ℕ) (formats : List Metadata) → length bytes ≤ MAX_ITEM_BYTES → encoded_list encoded_record item.formats ≡ bytes → bytes ≡ encoded_list encoded_record formats ++ rest → (item.formats ≡ formats) × ([] ≡ rest)
after_formats item bytes rest formats few e f =
    records_are_cut.cut bytes item.formats formats [] rest few (sym e ∙ sym (append-nil (encoded_list encoded_record item.formats))) f

-- ---- the parts that were read one after the other

pub record AreRead (bytes r1 r2 r3 r4 r5 : List ℕ) (item : ItemState) : Type 0 where
  pub live : bytes ≡ encoded_bool item.live ++ r1
  pub stamp : IsStamp item.stamp × (r1 ≡ encoded_stamp item.stamp ++ r2)
  pub identifier : IsNamed may_be_identifier item.identifier × (r2 ≡ encoded_text item.identifier ++ r3)
  pub sets : (are_sets item.sets ≡ true) × (r3 ≡ encoded_list encoded_text item.sets ++ r4)
  pub formats : (are_records item.formats ≡ true) × (r4 ≡ encoded_list encoded_record item.formats ++ r5)

pub whole_read : (bytes r1 r2 r3 r4 r5 : List ℕ) (item : ItemState) → length bytes ≤ MAX_ITEM_BYTES → AreRead bytes r1 r2 r3 r4 r5 item → r5 ≡ [] → SpellsParts bytes item
whole_read bytes r1 r2 r3 r4 r5 item few read none = record {
  spelling =
      read.live ∙ ap (λ r. encoded_bool item.live ++ r) (read.stamp.1
      ∙ ap (λ r. encoded_stamp item.stamp ++ r) (read.identifier.1
      ∙ ap (λ r. encoded_text item.identifier ++ r) (read.sets.1
      ∙ ap (λ r. encoded_list encoded_text item.sets ++ r) (read.formats.1
      ∙ ap (λ r. encoded_list encoded_record item.formats ++ r) none ∙ append-nil (encoded_list encoded_record item.formats)))))
      ∙ sym (encoded_is item);
  few = few;
  parts = record { stamped = read.stamp.0; identified = read.identifier.0; in_sets = read.sets.0; of_formats = read.formats.0 };
}

pub live_stands : (bytes : List ℕ) (item : ItemState) → SpellsParts bytes item → Stands encoded_bool IsAny bytes
live_stands bytes item s = record { value = item.live; rest = behind_live item; good = tt; parts = s.spelling ∙ encoded_is item; few = s.few }

pub stamp_stands : (bytes r1 : List ℕ) (live : Bool) → bytes ≡ encoded_bool live ++ r1 → (item : ItemState) → SpellsParts bytes item → Stands encoded_stamp IsStamp r1
stamp_stands bytes r1 live e1 item s =
    let a = after_live item bytes r1 live s.spelling e1 in
    record { value = item.stamp; rest = behind_stamp item; good = s.parts.stamped; parts = sym a.1; few = few_behind bytes (encoded_bool live) r1 e1 s.few }

pub identifier_stands : (bytes r1 r2 : List ℕ) (live : Bool) (stamp : ℤ) → bytes ≡ encoded_bool live ++ r1 → IsStamp stamp × (r1 ≡ encoded_stamp stamp ++ r2)
    → (item : ItemState) → SpellsParts bytes item → Stands encoded_text (IsNamed may_be_identifier) r2
identifier_stands bytes r1 r2 live stamp e1 e2 item s =
    let a = after_live item bytes r1 live s.spelling e1 in
    let b = after_stamp item r1 r2 stamp s.parts.stamped e2.0 a.1 e2.1 in
    let few1 = few_behind bytes (encoded_bool live) r1 e1 s.few in
    record { value = item.identifier; rest = behind_identifier item; good = s.parts.identified; parts = sym b.1; few = few_behind r1 (encoded_stamp stamp) r2 e2.1 few1 }

pub sets_stand : (bytes r1 r2 r3 : List ℕ) (live : Bool) (stamp : ℤ) (identifier : List ℕ) → bytes ≡ encoded_bool live ++ r1 → IsStamp stamp × (r1 ≡ encoded_stamp stamp ++ r2)
    → r2 ≡ encoded_text identifier ++ r3 → (item : ItemState) → SpellsParts bytes item → Stands (encoded_list encoded_text) (λ sets. are_sets sets ≡ true) r3
sets_stand bytes r1 r2 r3 live stamp identifier e1 e2 e3 item s =
    let a = after_live item bytes r1 live s.spelling e1 in
    let b = after_stamp item r1 r2 stamp s.parts.stamped e2.0 a.1 e2.1 in
    let few1 = few_behind bytes (encoded_bool live) r1 e1 s.few in
    let few2 = few_behind r1 (encoded_stamp stamp) r2 e2.1 few1 in
    let d = after_identifier item r2 r3 identifier few2 b.1 e3 in
    record { value = item.sets; rest = encoded_list encoded_record item.formats; good = s.parts.in_sets; parts = sym d.1; few = few_behind r2 (encoded_text identifier) r3 e3 few2 }

pub records_stand : (bytes r1 r2 r3 r4 : List ℕ) (live : Bool) (stamp : ℤ) (identifier : List ℕ) (sets : List (List ℕ)) → bytes ≡ encoded_bool live ++ r1 → IsStamp stamp × (r1 ≡ encoded_stamp stamp ++ r2)
    → r2 ≡ encoded_text identifier ++ r3 → r3 ≡ encoded_list encoded_text sets ++ r4 → (item : ItemState) → SpellsParts bytes item → Stands (encoded_list encoded_record) (λ formats. are_records formats ≡ true) r4
records_stand bytes r1 r2 r3 r4 live stamp identifier sets e1 e2 e3 e4 item s =
    let t = sets_stand bytes r1 r2 r3 live stamp identifier e1 e2 e3 in
    let a = after_live item bytes r1 live s.spelling e1 in
    let b = after_stamp item r1 r2 stamp s.parts.stamped e2.0 a.1 e2.1 in
    let few1 = few_behind bytes (encoded_bool live) r1 e1 s.few in
    let few2 = few_behind r1 (encoded_stamp stamp) r2 e2.1 few1 in
    let d = after_identifier item r2 r3 identifier few2 b.1 e3 in
    let few3 = few_behind r2 (encoded_text identifier) r3 e3 few2 in
    let f = after_sets item r3 r4 sets few3 d.1 e4 in
    record { value = item.formats; rest = []; good = s.parts.of_formats; parts = sym f.1 ∙ sym (append-nil (encoded_list encoded_record item.formats)); few = few_behind r3 (encoded_list encoded_text sets) r4 e4 few3 }

-- two items whose parts are the same
pub same_parts : (a b : ItemState) → a.live ≡ b.live → a.stamp ≡ b.stamp → a.identifier ≡ b.identifier → a.sets ≡ b.sets → a.formats ≡ b.formats → a ≡ b
same_parts a b live stamp identifier sets formats =
    let with_live : Bool → ItemState = λ x. record { identifier = a.identifier; stamp = a.stamp; live = x; sets = a.sets; formats = a.formats } in
    let with_stamp : ℤ → ItemState = λ x. record { identifier = a.identifier; stamp = x; live = b.live; sets = a.sets; formats = a.formats } in
    let with_identifier : List ℕ → ItemState = λ x. record { identifier = x; stamp = b.stamp; live = b.live; sets = a.sets; formats = a.formats } in
    let with_sets : List (List ℕ) → ItemState = λ x. record { identifier = b.identifier; stamp = b.stamp; live = b.live; sets = x; formats = a.formats } in
    let with_formats : List Metadata → ItemState = λ x. record { identifier = b.identifier; stamp = b.stamp; live = b.live; sets = b.sets; formats = x } in
    ap with_live live ∙ ap with_stamp stamp ∙ ap with_identifier identifier ∙ ap with_sets sets ∙ ap with_formats formats

-- bytes of which parts were read spell no other item, and leave nothing
pub same_item : (bytes r1 r2 r3 r4 r5 : List ℕ) (other item : ItemState) → AreRead bytes r1 r2 r3 r4 r5 item → length bytes ≤ MAX_ITEM_BYTES → IsStamp other.stamp → bytes ≡ encoded other → (other ≡ item) × ([] ≡ r5)
same_item bytes r1 r2 r3 r4 r5 other item read few is_stamp e =
    let a = after_live other bytes r1 item.live e read.live in
    let b = after_stamp other r1 r2 item.stamp is_stamp read.stamp.0 a.1 read.stamp.1 in
    let few1 = few_behind bytes (encoded_bool item.live) r1 read.live few in
    let few2 = few_behind r1 (encoded_stamp item.stamp) r2 read.stamp.1 few1 in
    let d = after_identifier other r2 r3 item.identifier few2 b.1 read.identifier.1 in
    let few3 = few_behind r2 (encoded_text item.identifier) r3 read.identifier.1 few2 in
    let f = after_sets other r3 r4 item.sets few3 d.1 read.sets.1 in
    let few4 = few_behind r3 (encoded_list encoded_text item.sets) r4 read.sets.1 few3 in
    let g = after_formats other r4 r5 item.formats few4 f.1 read.formats.1 in
    (same_parts other item a.0 b.0 d.0 f.0 g.0, g.1)
