-- What is known of a `Spelling`: its bytes spell the item, and what is behind the identifier is the end of them.
use Rattle.std.proofs.Common.{◌≡◌, ◌∙◌, ℕ, ℤ, ◌≤◌, Bool, true, false, ◌&&◌, List, [], ◌++◌, length, Option, Some, None, is_some, IsSome, refl, sym, ap, subst}
use Rattle.std.proofs.lemmas.Bool.{and_from, and_parts, false≢true}
use Rattle.std.proofs.lemmas.List.{append-nil}
use Rattle.oai_item.specs.declared.sizes.TheConstants.{MAX_ITEM_BYTES}
use Rattle.oai_item.specs.Decoding.{first_list, first_record, first_text, item_in}
use Rattle.oai_item.specs.Encoding.{Spells, encoded_bool, encoded_list, encoded_record, encoded_stamp, encoded_text}
use Rattle.oai_item.specs.Item.{IsStamp, ItemState, Metadata, may_be_records}
use Rattle.oai_item.specs.Membership.{none_covers}
use Rattle.oai_item.specs.SpellingParts.{SpellsParts, Stands, are_records, are_sets, item_with}
use Rattle.oai_item.proofs.Apart.{none_from, none_test}
use Rattle.oai_item.proofs.Decoded.{item_in-none, item_in-spelled, spelled-item_in}
use Rattle.oai_item.proofs.ReadBack.{records_back, sets_back}
use Rattle.oai_item.proofs.Spelled.{item_spelled, one_item, parts_spelled, records_of_item}
use Rattle.oai_item.proofs.Spellings.{few_behind}
use Rattle.oai_item.proofs.Wholes.{after_formats, after_identifier, after_live, after_sets, after_stamp, behind_identifier, encoded_is, same_parts}

some_is : {A : Type 0} (o : Option A) → IsSome o → (x : A) × (o ≡ Some x)
some_is (Some x) h = (x, refl)
some_is None h = absurd (false≢true h)

-- an item that the bytes spell
pub item_of_bytes : (bytes : List ℕ) → IsSome (item_in bytes) → (item : ItemState) × Spells bytes item
item_of_bytes bytes h = let found = some_is (item_in bytes) h in (found.0, spelled-item_in bytes found.0 found.1)

-- the item of three parts, and of what is read from the bytes behind them
abbrev pub item_before : Bool → ℤ → List ℕ → List ℕ → ItemState
item_before live stamp identifier rest = item_with live stamp identifier (first_list first_text rest).0 (first_list first_record (first_list first_text rest).1).0

pub record IsPlaced (bytes : List ℕ) (live : Bool) (stamp : ℤ) (identifier rest : List ℕ) : Type 0 where
  pub spells : Spells bytes (item_before live stamp identifier rest)
  pub rest_is : rest ≡ behind_identifier (item_before live stamp identifier rest)

few_at_end : (bytes r1 r2 r3 : List ℕ) (live : Bool) (stamp : ℤ) (identifier : List ℕ) → length bytes ≤ MAX_ITEM_BYTES → bytes ≡ encoded_bool live ++ r1 → r1 ≡ encoded_stamp stamp ++ r2 → r2 ≡ encoded_text identifier ++ r3
    → (length r2 ≤ MAX_ITEM_BYTES) × (length r3 ≤ MAX_ITEM_BYTES)
few_at_end bytes r1 r2 r3 live stamp identifier few e1 e2 e3 =
    let few1 = few_behind bytes (encoded_bool live) r1 e1 few in
    let few2 = few_behind r1 (encoded_stamp stamp) r2 e2 few1 in
    (few2, few_behind r2 (encoded_text identifier) r3 e3 few2)

pub placed : (bytes r1 r2 r3 : List ℕ) (live : Bool) (stamp : ℤ) (identifier : List ℕ) (item : ItemState) → Spells bytes item → bytes ≡ encoded_bool live ++ r1 → IsStamp stamp × (r1 ≡ encoded_stamp stamp ++ r2) → r2 ≡ encoded_text identifier ++ r3
    → IsPlaced bytes live stamp identifier r3
placed bytes r1 r2 r3 live stamp identifier item s e1 e2 e3 =
    let few = few_at_end bytes r1 r2 r3 live stamp identifier s.few e1 e2.1 e3 in
    let a = after_live item bytes r1 live s.spelling e1 in
    let b = after_stamp item r1 r2 stamp s.valid.stamped e2.0 a.1 e2.1 in
    let d = after_identifier item r2 r3 identifier few.0 b.1 e3 in
    let sets = sets_back.back r3 item.sets (encoded_list encoded_record item.formats) few.1 (sym d.1) in
    let few4 = few_behind r3 (encoded_list encoded_text item.sets) (encoded_list encoded_record item.formats) (sym d.1) few.1 in
    let formats = records_back.back (encoded_list encoded_record item.formats) item.formats [] few4 (sym (append-nil (encoded_list encoded_record item.formats))) in
    let made : ItemState = item_before live stamp identifier r3 in
    let formats_are : made.formats ≡ item.formats = ap (λ b. (first_list first_record b).0) sets.1 ∙ formats.0 in
    let is : item ≡ made = same_parts item made a.0 b.0 d.0 (sym sets.0) (sym formats_are) in
    record {
      spells = subst (λ (i : ItemState). Spells bytes i) is s;
      rest_is = sym d.1 ∙ ap behind_identifier is;
    }

-- what is behind the identifier is not too much
pub few_left : (bytes rest : List ℕ) (item : ItemState) → Spells bytes item → rest ≡ behind_identifier item → length rest ≤ MAX_ITEM_BYTES
few_left bytes rest item s e =
    let few = few_at_end bytes _ _ (behind_identifier item) item.live item.stamp item.identifier s.few (s.spelling ∙ encoded_is item) refl refl in
    subst (λ b. length b ≤ MAX_ITEM_BYTES) (sym e) few.1

-- the sets stand there
pub sets_left_stand : (bytes rest : List ℕ) (item : ItemState) → Spells bytes item → rest ≡ behind_identifier item → Stands (encoded_list encoded_text) (λ sets. are_sets sets ≡ true) rest
sets_left_stand bytes rest item s e = record {
  value = item.sets;
  rest = encoded_list encoded_record item.formats;
  good = (parts_spelled bytes item s).parts.in_sets;
  parts = e;
  few = few_left bytes rest item s e;
}

-- they are those of the item, and its records stand behind them
pub record AreSetsOf (item : ItemState) (sets : List (List ℕ)) (after : List ℕ) : Type 0 where
  pub same : sets ≡ item.sets
  pub few : length after ≤ MAX_ITEM_BYTES
  pub records : Stands (encoded_list encoded_record) (λ formats. are_records formats ≡ true) after
  pub only : (formats : List Metadata) (last : List ℕ) → after ≡ encoded_list encoded_record formats ++ last → formats ≡ item.formats

pub sets_found : (bytes rest after : List ℕ) (item : ItemState) (sets : List (List ℕ)) → Spells bytes item → rest ≡ behind_identifier item → rest ≡ encoded_list encoded_text sets ++ after → AreSetsOf item sets after
sets_found bytes rest after item sets s e f =
    let few = few_left bytes rest item s e in
    let few_after = few_behind rest (encoded_list encoded_text sets) after f few in
    let both = after_sets item rest after sets few (sym e) f in
    record {
      same = sym both.0;
      few = few_after;
      records = record { value = item.formats; rest = []; good = (parts_spelled bytes item s).parts.of_formats; parts = sym both.1 ∙ sym (append-nil (encoded_list encoded_record item.formats)); few = few_after };
      only = λ formats last g. sym (after_formats item after last formats few_after both.1 g).0;
    }

-- ---- whether bytes spell an item

is_so : (b test : Bool) → (b ≡ true → test ≡ true) → (b ≡ false → test ≡ false) → b ≡ test
is_so true test so otherwise = sym (so refl)
is_so false test so otherwise = sym (otherwise refl)

-- bytes of parts that were found spell an item just where the parts agree
pub agree_is : (bytes : List ℕ) (made : ItemState) → SpellsParts bytes made → (none_covers made.sets && may_be_records made.live made.formats) ≡ is_some (item_in bytes)
agree_is bytes made found =
    is_so (none_covers made.sets && may_be_records made.live made.formats) (is_some (item_in bytes))
    (λ agree.
    let both = and_parts (none_covers made.sets) (may_be_records made.live made.formats) agree in
    ap is_some (item_in-spelled bytes made (item_spelled bytes made found (none_from made.sets both.0) both.1)))
    (λ differ.
    ap is_some (item_in-none bytes (λ item s.
    let same : item ≡ made = one_item bytes made item found (parts_spelled bytes item s) in
    let valid = subst (λ (i : ItemState). Spells bytes i) same s in
    false≢true (sym differ ∙ and_from _ _ (none_test made.sets valid.valid.apart) (records_of_item made valid.valid)))))

-- bytes of no parts spell none
pub none_is : (bytes : List ℕ) → ((item : ItemState) → SpellsParts bytes item → ⊥) → is_some (item_in bytes) ≡ false
none_is bytes none = ap is_some (item_in-none bytes (λ item s. none item (parts_spelled bytes item s)))
