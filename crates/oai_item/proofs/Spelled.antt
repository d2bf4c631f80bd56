-- Items of parts that are good by themselves, and the rules of items.
use Rattle.std.proofs.Common.{◌≡◌, ◌∙◌, ◌≢◌, ℕ, Bool, true, false, ◌&&◌, ◌||◌, not, eqb, List, [], ◌∷◌, length, take, drop, Result, Err, Ok, refl, sym, ap, subst, arith}
use Rattle.std.specs.List.{list_all}
use Rattle.std.specs.Str.{is_utf8}
use Rattle.std.proofs.lemmas.Bool.{and_from, and_parts, eqb-true, false_from_ne_true, false≢true, not_from_false}
use Rattle.std.proofs.lemmas.List.{append-nil, take_at}
use Rattle.oai_names.specs.Names.{may_be_identifier, may_be_prefix}
use Rattle.oai_names.specs.Sets.{may_be_set_spec}
use Rattle.oai_item.specs.declared.decodings.DecodeFault.{DecodeFault}
use Rattle.oai_item.specs.declared.decodings.DecodeFault.TheVariants as reading
use Rattle.oai_item.specs.Encoding.{GivesBack, IsDecoding, IsEncoding, Spells, encoded, encoded_list, encoded_record, is_text_item, is_text_record}
use Rattle.oai_item.specs.Item.{IsItem, ItemState, Metadata, are_prefixed, are_rising, are_set_specs, have_no_fields, may_be_records}
use Rattle.oai_item.specs.Membership.{NoneCovers}
use Rattle.oai_item.specs.SpellingParts.{HasParts, SpellsParts, are_records, are_sets}
use Rattle.oai_item.specs.Walks.{are_fields, is_name_text, is_record}
use Rattle.oai_item.proofs.Wholes.{AreRead, behind_identifier, behind_live, behind_stamp, encoded_is, same_item}

-- two tests of each element
all_both : {A : Type 0} (p q : A → Bool) (xs : List A) → list_all p xs ≡ true → list_all q xs ≡ true → list_all (λ x. p x && q x) xs ≡ true
all_both p q [] h k = refl
all_both p q (x ∷ xs) h k =
    let a = and_parts (p x) (list_all p xs) h in
    let b = and_parts (q x) (list_all q xs) k in
    and_from _ _ (and_from _ _ a.0 b.0) (all_both p q xs a.1 b.1)

-- a test that others imply
pub all_so : {A : Type 0} (p q : A → Bool) → ((x : A) → p x ≡ true → q x ≡ true) → (xs : List A) → list_all p xs ≡ true → list_all q xs ≡ true
all_so p q so [] h = refl
all_so p q so (x ∷ xs) h = let a = and_parts (p x) (list_all p xs) h in and_from _ _ (so x a.0) (all_so p q so xs a.1)

-- ---- an item within the rules, whose texts are UTF-8, has good parts

record_from : (format : Metadata) → (may_be_prefix format.0 && is_text_record format) ≡ true → is_record format ≡ true
record_from format h =
    let a = and_parts (may_be_prefix format.0) (is_text_record format) h in
    let b = and_parts (is_utf8 format.0) (are_fields format.1) a.1 in
    and_from _ _ (and_from _ _ a.0 b.0) b.1

pub records_from : (formats : List Metadata) → are_prefixed formats ≡ true → list_all is_text_record formats ≡ true → are_records formats ≡ true
unfolding are_prefixed
records_from formats prefixed texts =
    all_so (λ format. may_be_prefix format.0 && is_text_record format) is_record record_from formats (all_both (λ format. may_be_prefix format.0) is_text_record formats prefixed texts)

sets_from : (sets : List (List ℕ)) → are_set_specs sets ≡ true → list_all is_utf8 sets ≡ true → are_sets sets ≡ true
unfolding are_set_specs
sets_from sets specs texts = all_both may_be_set_spec is_utf8 sets specs texts

parts_from : (item : ItemState) → IsItem item → is_text_item item ≡ true → HasParts item
parts_from item valid texts =
    let a = and_parts (is_utf8 item.identifier && list_all is_utf8 item.sets) (list_all is_text_record item.formats) texts in
    let b = and_parts (is_utf8 item.identifier) (list_all is_utf8 item.sets) a.0 in
    record {
      stamped = valid.stamped;
      identified = and_from _ _ valid.identified b.0;
      in_sets = sets_from item.sets valid.in_sets b.1;
      of_formats = records_from item.formats valid.prefixed a.1;
    }

pub parts_spelled : (bytes : List ℕ) (item : ItemState) → Spells bytes item → SpellsParts bytes item
parts_spelled bytes item s = record { spelling = s.spelling; few = s.few; parts = parts_from item s.valid s.texts }

-- ---- and the other way round

pub text_record_from : (format : Metadata) → is_record format ≡ true → is_text_record format ≡ true
text_record_from format h =
    let a = and_parts (is_name_text may_be_prefix format.0) (are_fields format.1) h in
    and_from _ _ (and_parts (may_be_prefix format.0) (is_utf8 format.0) a.0).1 a.1

prefixed_from : (formats : List Metadata) → are_records formats ≡ true → are_prefixed formats ≡ true
unfolding are_prefixed
prefixed_from formats h =
    all_so is_record (λ format. may_be_prefix format.0) (λ format r.
    (and_parts (may_be_prefix format.0) (is_utf8 format.0) (and_parts (is_name_text may_be_prefix format.0) (are_fields format.1) r).0).0) formats h

set_specs_from : (sets : List (List ℕ)) → are_sets sets ≡ true → are_set_specs sets ≡ true
unfolding are_set_specs
set_specs_from sets h = all_so (is_name_text may_be_set_spec) may_be_set_spec (λ s r. (and_parts (may_be_set_spec s) (is_utf8 s) r).0) sets h

pub texts_from : (item : ItemState) → HasParts item → is_text_item item ≡ true
texts_from item parts =
    and_from _ _ (and_from _ _ (and_parts (may_be_identifier item.identifier) (is_utf8 item.identifier) parts.identified).1
    (all_so (is_name_text may_be_set_spec) is_utf8 (λ s r. (and_parts (may_be_set_spec s) (is_utf8 s) r).1) item.sets parts.in_sets))
    (all_so is_record is_text_record text_record_from item.formats parts.of_formats)

some_from : (formats : List Metadata) → not (eqb (length formats) 0) ≡ true → formats ≢ []
some_from [] h = absurd (false≢true h)
some_from (format ∷ formats) h = λ e. absurd cc

deleted_from : (live none : Bool) → (live || none) ≡ true → live ≡ false → none ≡ true
deleted_from true none h deleted = absurd (false≢true (sym deleted))
deleted_from false none h deleted = h

-- the rules that an item's records keep together
pub record KeepRules (item : ItemState) : Type 0 where
  pub rising : are_rising item.formats ≡ true
  pub carries : item.formats ≢ []
  pub deleted : item.live ≡ false → have_no_fields item.formats ≡ true

pub records_rules : (item : ItemState) → may_be_records item.live item.formats ≡ true → KeepRules item
records_rules item h =
    let a = and_parts (not (eqb (length item.formats) 0) && are_rising item.formats) (item.live || have_no_fields item.formats) h in
    let b = and_parts (not (eqb (length item.formats) 0)) (are_rising item.formats) a.0 in
    record {
      rising = b.1;
      carries = some_from item.formats b.0;
      deleted = deleted_from item.live (have_no_fields item.formats) a.1;
    }

pub item_from : (item : ItemState) → HasParts item → NoneCovers item.sets → may_be_records item.live item.formats ≡ true → IsItem item
item_from item parts apart h =
    let rules = records_rules item h in
    record {
      identified = (and_parts (may_be_identifier item.identifier) (is_utf8 item.identifier) parts.identified).0;
      stamped = parts.stamped;
      in_sets = set_specs_from item.sets parts.in_sets;
      apart = apart;
      prefixed = prefixed_from item.formats parts.of_formats;
      rising = rules.rising;
      carries = rules.carries;
      deleted = rules.deleted;
    }

some_test : (formats : List Metadata) → formats ≢ [] → not (eqb (length formats) 0) ≡ true
some_test [] h = absurd (h refl)
some_test (format ∷ formats) h = not_from_false _ (false_from_ne_true _ (λ e. absurd (omega (arith, eqb-true _ _ e))))

deleted_test : (live none : Bool) → (live ≡ false → none ≡ true) → (live || none) ≡ true
deleted_test true none h = refl
deleted_test false none h = h refl

pub records_of_item : (item : ItemState) → IsItem item → may_be_records item.live item.formats ≡ true
records_of_item item valid =
    and_from _ _ (and_from _ _ (some_test item.formats valid.carries) valid.rising) (deleted_test item.live (have_no_fields item.formats) valid.deleted)

-- ---- bytes spell one item

all_read : (bytes : List ℕ) (item : ItemState) → SpellsParts bytes item → AreRead bytes (behind_live item) (behind_stamp item) (behind_identifier item) (encoded_list encoded_record item.formats) [] item
all_read bytes item s = record {
  live = s.spelling ∙ encoded_is item;
  stamp = (s.parts.stamped, refl);
  identifier = (s.parts.identified, refl);
  sets = (s.parts.in_sets, refl);
  formats = (s.parts.of_formats, sym (append-nil (encoded_list encoded_record item.formats)));
}

pub one_item : (bytes : List ℕ) (item other : ItemState) → SpellsParts bytes item → SpellsParts bytes other → other ≡ item
one_item bytes item other s t = (same_item bytes _ _ _ _ _ other item (all_read bytes item s) s.few t.parts.stamped t.spelling).0

pub item_spelled : (bytes : List ℕ) (item : ItemState) → SpellsParts bytes item → NoneCovers item.sets → may_be_records item.live item.formats ≡ true → Spells bytes item
item_spelled bytes item s apart h = record {
  spelling = s.spelling;
  few = s.few;
  valid = item_from item s.parts apart h;
  texts = texts_from item s.parts;
}

-- ---- the laws of both

pub same_spelled : (bytes : List ℕ) (item other : ItemState) → Spells bytes item → Spells bytes other → other ≡ item
same_spelled bytes item other s t = one_item bytes item other (parts_spelled bytes item s) (parts_spelled bytes other t)

given_back : (bytes : List ℕ) (item : ItemState) (answer : Result ItemState DecodeFault) → Spells bytes item → IsDecoding bytes answer → GivesBack item answer
given_back bytes item (Ok read) s h = same_spelled bytes item read s h
given_back bytes item (Err reading.Damaged) s h = h item s
given_back bytes item (Err reading.NoMemory) s h = tt

pub round_trip : (item : ItemState) (old new : List ℕ) (n : ℕ) (answer : Result ItemState DecodeFault) → IsEncoding item old (Ok n) new → IsDecoding (take n new) answer → GivesBack item answer
round_trip item old new n answer written h =
    let front : take n new ≡ encoded item = ap (take n) written.2 ∙ take_at (encoded item) (drop n old) n (sym written.1) in
    given_back (encoded item) item answer written.0 (subst (λ bytes. IsDecoding bytes answer) front h)
