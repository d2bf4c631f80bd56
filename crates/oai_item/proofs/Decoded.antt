-- The item that bytes spell is what `item_in` reads from them.
use Rattle.std.proofs.Common.{◌≡◌, ℕ, ◌≤◌, leb, Bool, true, false, ◌&&◌, List, length, Option, Some, None, Err, refl, sym, ap, ◌∙◌, subst, arith}
use Rattle.std.specs.Prelude.{int_le, neg_ℤ, pos, if◌then◌else◌}
use Rattle.std.specs.Str.{bytes_eq}
use Rattle.std.proofs.lemmas.Bool.{and_from, and_parts, le-leb, leb-true}
use Rattle.std.proofs.lemmas.Option.{same_Some}
use Rattle.std.proofs.lemmas.Slice.Eq.{bytes_eq-Decides}
use Rattle.oai_names.specs.Names.{may_be_identifier}
use Rattle.oai_item.specs.declared.decodings.DecodeFault.{DecodeFault}
use Rattle.oai_item.specs.declared.decodings.DecodeFault.TheVariants.{Damaged, NoMemory}
use Rattle.oai_item.specs.declared.sizes.TheConstants.{MAX_ITEM_BYTES}
use Rattle.oai_item.specs.Decoding.{IsReadInPlace, first_item, is_item, is_stamp, item_in, spells}
use Rattle.oai_item.specs.Encoding.{IsDecoding, Spells, encoded, is_text_item}
use Rattle.oai_item.specs.Item.{IsItem, ItemState, are_prefixed, are_set_specs, may_be_records}
use Rattle.oai_item.specs.Membership.{none_covers}
use Rattle.oai_item.proofs.Apart.{none_from, none_test}
use Rattle.oai_item.proofs.Lengths.{length-encoded}
use Rattle.oai_item.proofs.ReadBack.{item_back}
use Rattle.oai_item.proofs.Selecting.{le_from, le_test}
use Rattle.oai_item.proofs.Spelled.{records_of_item, records_rules}

-- ---- the rules of items, and `Spells`, as tests

is_item_from : (item : ItemState) → IsItem item → is_item item ≡ true
is_item_from item valid =
    let stamped : is_stamp item.stamp ≡ true = and_from _ _ (le_test _ _ valid.stamped.0) (le_test _ _ valid.stamped.1) in
    and_from _ _ (and_from _ _ (and_from _ _ (and_from _ _ (and_from _ _ valid.identified stamped) valid.in_sets) (none_test item.sets valid.apart)) valid.prefixed) (records_of_item item valid)

item_from_test : (item : ItemState) → is_item item ≡ true → IsItem item
item_from_test item h =
    let a = and_parts (may_be_identifier item.identifier && is_stamp item.stamp && are_set_specs item.sets && none_covers item.sets && are_prefixed item.formats) (may_be_records item.live item.formats) h in
    let b = and_parts (may_be_identifier item.identifier && is_stamp item.stamp && are_set_specs item.sets && none_covers item.sets) (are_prefixed item.formats) a.0 in
    let d = and_parts (may_be_identifier item.identifier && is_stamp item.stamp && are_set_specs item.sets) (none_covers item.sets) b.0 in
    let e = and_parts (may_be_identifier item.identifier && is_stamp item.stamp) (are_set_specs item.sets) d.0 in
    let f = and_parts (may_be_identifier item.identifier) (is_stamp item.stamp) e.0 in
    let g = and_parts (int_le (neg_ℤ (pos 62_167_219_200)) item.stamp) (int_le item.stamp (pos 253_402_300_799)) f.1 in
    let rules = records_rules item a.1 in
    record {
      identified = f.0;
      stamped = (le_from _ _ g.0, le_from _ _ g.1);
      in_sets = e.1;
      apart = none_from item.sets d.1;
      prefixed = b.1;
      rising = rules.rising;
      carries = rules.carries;
      deleted = rules.deleted;
    }

spells_from : (bytes : List ℕ) (item : ItemState) → Spells bytes item → spells bytes item ≡ true
spells_from bytes item s =
    and_from _ _ (and_from _ _ (and_from _ _ ((bytes_eq-Decides bytes (encoded item)).1 s.spelling) (le-leb (length bytes) MAX_ITEM_BYTES s.few)) (is_item_from item s.valid)) s.texts

spells_test : (bytes : List ℕ) (item : ItemState) → spells bytes item ≡ true → Spells bytes item
spells_test bytes item h =
    let a = and_parts (bytes_eq bytes (encoded item) && leb (length bytes) MAX_ITEM_BYTES && is_item item) (is_text_item item) h in
    let b = and_parts (bytes_eq bytes (encoded item) && leb (length bytes) MAX_ITEM_BYTES) (is_item item) a.0 in
    let d = and_parts (bytes_eq bytes (encoded item)) (leb (length bytes) MAX_ITEM_BYTES) b.0 in
    record {
      spelling = (bytes_eq-Decides bytes (encoded item)).0 d.0;
      few = leb-true (length bytes) MAX_ITEM_BYTES d.1;
      valid = item_from_test item b.1;
      texts = a.1;
    }

-- ---- the item that bytes spell

some_where : {A : Type 0} (test : Bool) (a x : A) → (if test then Some a else None) ≡ Some x → (test ≡ true) × (a ≡ x)
some_where true a x h = (refl, same_Some a x h)
some_where false a x h = absurd cc

pub item_in-spelled : (bytes : List ℕ) (item : ItemState) → Spells bytes item → item_in bytes ≡ Some item
unfolding item_in
item_in-spelled bytes item s =
    let is : first_item bytes ≡ item = item_back bytes item s in
    rw (is, spells_from bytes item s) refl

pub spelled-item_in : (bytes : List ℕ) (item : ItemState) → item_in bytes ≡ Some item → Spells bytes item
unfolding item_in
spelled-item_in bytes item h =
    let found = some_where (spells bytes (first_item bytes)) (first_item bytes) item h in
    subst (λ (i : ItemState). Spells bytes i) found.1 (spells_test bytes (first_item bytes) found.0)

none_where : (bytes : List ℕ) (found : Option ItemState) → item_in bytes ≡ found → ((item : ItemState) → Spells bytes item → ⊥) → found ≡ None
none_where bytes None h none = refl
none_where bytes (Some item) h none = absurd (none item (spelled-item_in bytes item h))

-- bytes that spell no item
pub item_in-none : (bytes : List ℕ) → ((item : ItemState) → Spells bytes item → ⊥) → item_in bytes ≡ None
item_in-none bytes none = none_where bytes (item_in bytes) refl none

pub item_in-few : (bytes : List ℕ) (item : ItemState) → item_in bytes ≡ Some item → length bytes ≤ MAX_ITEM_BYTES
item_in-few bytes item h = (spelled-item_in bytes item h).few

pub item_in-bytes : (bytes : List ℕ) (item : ItemState) → item_in bytes ≡ Some item → bytes ≡ encoded item
item_in-bytes bytes item h = (spelled-item_in bytes item h).spelling

pub encoded-some : (item : ItemState) → 1 ≤ length (encoded item)
encoded-some item = omega (arith, length-encoded item)

pub item_in-some : (bytes : List ℕ) (item : ItemState) → item_in bytes ≡ Some item → 1 ≤ length bytes
item_in-some bytes item h = omega (arith, ap length (item_in-bytes bytes item h), encoded-some item)

-- what is not read in place is not decoded
pub place_fails : (bytes : List ℕ) (fault : DecodeFault) → IsReadInPlace bytes (Err fault) → IsDecoding bytes (Err fault)
place_fails bytes Damaged none = λ item s.
    let differ : None ≡ Some item = sym none ∙ item_in-spelled bytes item s in
    absurd cc
place_fails bytes NoMemory few = few
