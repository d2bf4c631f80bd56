-- What a repository keeps true of its items stays true under each change that is not refused.
use Rattle.std.proofs.Common.{◌≡◌, ◌<◌, ◌≤◌, ◌+◌, ℕ, ℤ, Bool, true, false, not, ◌&&◌, cond, List, [], ◌∷◌, ◌++◌, length, length-append, map, codes, Option, None, Some, is_some, is_none, Result, Ok, Err, is_err, refl, ap, ◌∙◌, arith}
use Rattle.std.specs.Prelude.{◌||◌, filter, find, nat_lt, nat_le}
use Rattle.std.specs.List.{flat_map, list_all, list_any}
use Rattle.std.specs.Option.{option_or}
use Rattle.std.specs.Str.{bytes_eq}
use Rattle.std.proofs.lemmas.Bool.{and_parts, eqb-true, or_left, or_right}
use Rattle.std.proofs.lemmas.Bool.Decides.{nat_tests}
use Rattle.std.proofs.lemmas.List.Elements.{All-filter}
use Rattle.std.proofs.lemmas.List.Folds.{list_all-map, list_any-append}
use Rattle.std.proofs.lemmas.List.Sums.{AllPass-from_list_all, list_all-from_AllPass}
use Rattle.oai_names.specs.Names.{is_among}
use Rattle.oai_names.specs.Sets.{has_set}
use Rattle.oai_xml.specs.Documents.{is_canonical}
use Rattle.oai_item.specs.Item.{ItemState, Metadata, emptied, has_record, live_item, record_named, tombstone_of}
use Rattle.oai_item.specs.Items.{is_named, item_named, without, placed}
use Rattle.oai_item.specs.Order.{precedes}
use Rattle.oai_item.specs.Formats.{format_named}
use Rattle.oai_item.specs.Encoding.{IsMeasure, encoded, encoded_field, encoded_record}
use Rattle.oai_item.specs.Givens.{GivenRecord, kept as as_kept, kept_fields}
use Rattle.oai_item.specs.Known.{are_fields_of, are_given_in, are_listed_in, has_format, has_known_fields, has_listed_fields, is_given_in, is_listed_in, is_of_format, may_have_about}
use Rattle.oai_item.specs.Elements.{element_field, element_of_content, is_about, is_element_of, keeps_element_of}
use Rattle.oai_item.specs.Membership.{reduced, distinct, is_above}
use Rattle.oai_item.specs.declared.givens.Given.{Given}
use Rattle.oai_item.specs.declared.givens.Given.TheVariants.{Listed, Whole}
use Rattle.oai_deposit.specs.declared.changes.Change.{Change}
use Rattle.oai_deposit.specs.declared.changes.Change.TheVariants as change
use Rattle.oai_item.specs.declared.fields.Field.{Field}
use Rattle.oai_item.specs.declared.formats.Format.{Format}
use Rattle.oai_item.specs.declared.refusals.ChangeRefusal.{ChangeRefusal}
use Rattle.oai_item.specs.declared.sizes.TheConstants.{MAX_ITEM_BYTES}
use Rattle.oai_item.specs.declared.sizes.TooLarge.{TooLarge as LengthFault}
use Rattle.oai_item.specs.declared.refusals.ChangeRefusal.TheVariants.{UnknownSet, UnknownFormat, NoDc, UnknownField, NotOfFormat, DropsFormat, TooLarge, TooManyItems}
use Rattle.oai_item.proofs.Contents.{behind_again, canonical_about, content_again, has_name}
use Rattle.oai_item.proofs.Lengths.{length-encoded, length-encoded_list, length-encoded_record}
use Rattle.oai_item.proofs.Named.{found_name, of_found}
use Rattle.oai_names.proofs.Lists.{all-filter, all-weaker}
use Rattle.oai_item.proofs.OrderLemmas.{all-placed, placed-cons, placed-nil, in_order-changed, apart-changed, in_order-filter, apart-filter}
use Rattle.oai_holdings.specs.Changes.{after_deletion, after_purge, with_tombstone, deposit_refusal, item_refusal, is_past, limit_of, purged, refusal_of, changed, drops_format, is_held_so, is_one_too_many, with_new}
use Rattle.oai_item.specs.declared.deleted_record.DeletedRecord.{DeletedRecord}
use Rattle.oai_item.specs.declared.deleted_record.DeletedRecord.TheVariants.{No, Transient, Persistent}
use Rattle.oai_settings.specs.Config.{RepositoryConfig}
use Rattle.oai_holdings.specs.Entries.{count_with}
use Rattle.oai_holdings.specs.Kept.{AreKept, is_too_large, is_well_kept}
use Rattle.oai_holdings.specs.Holdings.{Holdings, NamedSet, no_holdings}

-- ---- tests

-- a test that gave no cause, and what was tested after it
pub passed : (test : Bool) (cause : ChangeRefusal) (later : Option ChangeRefusal) → cond test (Some cause) later ≡ None → (test ≡ false) × (later ≡ None)
passed true cause later h = cc
passed false cause later h = (refl, h)

pub is_true : (b : Bool) → not b ≡ false → b ≡ true
is_true true h = refl
is_true false h = cc

-- neither the one nor the other
pub no_cause : (early late : Option ChangeRefusal) → option_or early late ≡ None → (early ≡ None) × (late ≡ None)
no_cause None late h = (refl, h)
no_cause (Some cause) late h = cc

all_five : (a b c d e : Bool) → a ≡ true → b ≡ true → c ≡ true → d ≡ true → e ≡ true → (a && b && c && d && e) ≡ true
all_five a b c d e one two three four five = rw (one, two, three, four, five) refl

-- ---- the limit of items

-- an item that is not one too many, by the datestamp that its identifier has and by the item of it that was found
pub few_put : (config : RepositoryConfig) (replaced : Option ItemState) (stamp : Option ℤ) (old new : ℕ) → (is_some replaced ≡ true → is_some stamp ≡ true) → is_one_too_many config replaced old ≡ false
    → new ≡ count_with stamp old → old ≤ config.items → new ≤ config.items
unfolding is_one_too_many
few_put config replaced (Some stamp) old new there one many few = omega (arith, many, few)
few_put config (Some item) None old new there one many few = let some = there refl in cc
few_put config None None old new there one many few = let more : old < config.items = grind (arith, nat_tests, one) in omega (arith, many, more)

-- ---- a deposit that is not refused

-- what is given may be kept in the format, if there is one: a list has fields of it, or the element is one of it, and what is about them are elements
abbrev all_fields : Given → List (List ℕ) → List Field
all_fields given about = kept_fields given ++ map element_field about

in_format : (format : Format) (field : Field) (fields : List Field) (about : List (List ℕ)) → list_all has_name fields ≡ true
    → (are_listed_in format (field ∷ fields) || keeps_element_of format (element_of_content (field ∷ fields))) ≡ true → list_all is_canonical about ≡ true
    → are_fields_of (Some format) ((field ∷ fields) ++ map element_field about) ≡ true
in_format format field fields about named own all =
    both _ _
    (ap (λ (w : List Field). are_listed_in format w || keeps_element_of format (element_of_content w)) (content_again field fields about named) ∙ own)
    (ap (list_all is_about) (behind_again field fields about named) ∙ canonical_about about all)
  where
    both : (a b : Bool) → a ≡ true → b ≡ true → (a && b) ≡ true
    both a b one other = rw (one, other) refl

listed_named : (format : Format) (field : Field) → is_listed_in format field ≡ true → has_name field ≡ true
listed_named format field is = (and_parts (has_name field) (is_among format.fields field.name) is).0

known_given : (format : Option Format) (given : Given) (about : List (List ℕ)) → are_given_in format given ≡ true → is_given_in format given ≡ true → may_have_about given about ≡ true
    → are_fields_of format (all_fields given about) ≡ true
known_given None given about listed own may = refl
known_given (Some format) (Listed []) [] listed own may = refl
known_given (Some format) (Listed []) (text ∷ about) listed own may = absurd (omega (arith, eqb-true (length (text ∷ about)) 0 may))
known_given (Some format) (Listed (field ∷ fields)) about listed own may =
    let others = and_parts (is_listed_in format field) (are_listed_in format fields) listed in
    in_format format field fields about (all-weaker (is_listed_in format) has_name (listed_named format) fields others.1)
    (or_left (are_listed_in format (field ∷ fields)) _ listed) may
known_given (Some format) (Whole text) about listed own may =
    in_format format (element_field text) [] about refl (or_right (are_listed_in format (element_field text ∷ [])) (is_element_of format text) own) may

known_all : (formats : List Format) (records : List GivenRecord) → list_all (has_listed_fields formats) records ≡ true → list_all (is_of_format formats) records ≡ true
    → list_all (has_known_fields formats) (map as_kept records) ≡ true
known_all formats [] listed own = refl
known_all formats (r ∷ records) listed own =
    let one = and_parts (has_listed_fields formats r) (list_all (has_listed_fields formats) records) listed in
    let other = and_parts (is_of_format formats r) (list_all (is_of_format formats) records) own in
    let parts = and_parts (is_given_in (format_named r.0 formats) r.1) (may_have_about r.1 r.2) other.0 in
    rw (known_given (format_named r.0 formats) r.1 r.2 one.0 parts.0 parts.1, known_all formats records one.1 other.1) refl

-- what the first tests of a deposit say
pub record Stands (config : RepositoryConfig) (sets : List NamedSet) (specs : List (List ℕ)) (records : List GivenRecord) : Type 0 where
  pub in_sets : list_all (has_set sets) specs ≡ true
  pub known : list_all (has_format config.formats) (map as_kept records) ≡ true
  pub core : has_record (codes "oai_dc") (map as_kept records) ≡ true
  pub fields : list_all (has_known_fields config.formats) (map as_kept records) ≡ true

pub stands : (config : RepositoryConfig) (sets : List NamedSet) (specs : List (List ℕ)) (records : List GivenRecord)
    → deposit_refusal config sets specs records ≡ None → Stands config sets specs records
unfolding deposit_refusal
stands config sets specs records h =
    let after_sets = passed (not (list_all (has_set sets) specs)) UnknownSet _ h in
    let after_formats = passed (not (list_all (has_format config.formats) (map as_kept records))) UnknownFormat _ after_sets.1 in
    let after_core = passed (not (has_record (codes "oai_dc") (map as_kept records))) NoDc _ after_formats.1 in
    let after_fields = passed (not (list_all (has_listed_fields config.formats) records)) UnknownField _ after_core.1 in
    let after_roots = passed (not (list_all (is_of_format config.formats) records)) NotOfFormat _ after_fields.1 in
    record {
      in_sets = is_true (list_all (has_set sets) specs) after_sets.0;
      known = is_true (list_all (has_format config.formats) (map as_kept records)) after_formats.0;
      core = is_true (has_record (codes "oai_dc") (map as_kept records)) after_core.0;
      fields = known_all config.formats records (is_true (list_all (has_listed_fields config.formats) records) after_fields.0)
          (is_true (list_all (is_of_format config.formats) records) after_roots.0);
    }

-- and what the later ones say
pub record Fits (config : RepositoryConfig) (replaced : Option ItemState) (count : ℕ) (item : ItemState) : Type 0 where
  pub formats : drops_format replaced item.formats ≡ false
  pub small : is_too_large item ≡ false
  pub room : is_one_too_many config replaced count ≡ false

pub fits : (config : RepositoryConfig) (replaced : Option ItemState) (count : ℕ) (item : ItemState) → item_refusal config replaced count item ≡ None → Fits config replaced count item
unfolding item_refusal
fits config replaced count item h =
    let after_drops = passed (drops_format replaced item.formats) DropsFormat _ h in
    let after_size = passed (is_too_large item) TooLarge _ after_drops.1 in
    let after_room = passed (is_one_too_many config replaced count) TooManyItems _ after_size.1 in
    record { formats = after_drops.0; small = after_size.0; room = after_room.0 }

-- ---- the sets of an item

all_of_filter : (p q : List ℕ → Bool) (texts : List (List ℕ)) → list_all p texts ≡ true → list_all p (filter q texts) ≡ true
all_of_filter p q texts h = list_all-from_AllPass p (filter q texts) (All-filter q (λ t. p t ≡ true) texts (AllPass-from_list_all p texts h))

all_of_distinct : (p : List ℕ → Bool) (texts : List (List ℕ)) → list_all p texts ≡ true → list_all p (distinct texts) ≡ true
unfolding distinct
all_of_distinct p [] h = refl
all_of_distinct p (t ∷ texts) h =
    let parts = and_parts (p t) (list_all p texts) h in
    let others = all_of_filter p (λ s. not (bytes_eq t s)) (distinct texts) (all_of_distinct p texts parts.1) in
    rw (parts.0, others) refl

-- those that are kept of sets of the repository are such
all_of_reduced : (p : List ℕ → Bool) (texts : List (List ℕ)) → list_all p texts ≡ true → list_all p (reduced texts) ≡ true
unfolding reduced
all_of_reduced p texts h = all_of_filter p (λ s. not (list_any (is_above s) texts)) (distinct texts) (all_of_distinct p texts h)

-- ---- how many items there are

pub length-placed : (item : ItemState) (items : List ItemState) → length (placed item items) ≡ length items + 1
length-placed item [] = ap length (placed-nil item)
length-placed item (x ∷ items) = ap length (placed-cons item x items) ∙ by_test (precedes item x) (length-placed item items)
  where
    by_test : (b : Bool) → length (placed item items) ≡ length items + 1 → length (cond b (item ∷ x ∷ items) (x ∷ placed item items)) ≡ length (x ∷ items) + 1
    by_test true h = omega arith
    by_test false h = omega arith

pub at_most : (p : ItemState → Bool) (items : List ItemState) → length (filter p items) ≤ length items
at_most p [] = omega arith
at_most p (x ∷ items) = by_test (p x) (at_most p items)
  where
    by_test : (b : Bool) → length (filter p items) ≤ length items → length (cond b (x ∷ filter p items) (filter p items)) ≤ length (x ∷ items)
    by_test true h = omega arith
    by_test false h = omega arith

-- where one is found, fewer are left without it
fewer : (p : ItemState → Bool) (items : List ItemState) → is_none (find p items) ≡ false → length (filter (λ x. not (p x)) items) < length items
fewer p [] h = cc
fewer p (x ∷ items) h = by_test (p x) h (fewer p items) (at_most (λ y. not (p y)) items)
  where
    by_test : (b : Bool) → is_none (cond b (Some x) (find p items)) ≡ false
        → (is_none (find p items) ≡ false → length (filter (λ y. not (p y)) items) < length items)
        → length (filter (λ y. not (p y)) items) ≤ length items
        → length (cond (not b) (x ∷ filter (λ y. not (p y)) items) (filter (λ y. not (p y)) items)) < length (x ∷ items)
    by_test true found less most = omega arith
    by_test false found less most = let l = less found in omega arith

pub without-at_most : (identifier : List ℕ) (items : List ItemState) → length (without identifier items) ≤ length items
unfolding without
without-at_most identifier items = at_most (λ item. not (is_named identifier item)) items

pub without-fewer : (identifier : List ℕ) (items : List ItemState) → is_none (item_named identifier items) ≡ false
    → length (without identifier items) < length items
unfolding without item_named
without-fewer identifier items h = fewer (is_named identifier) items h

room : (items left most : ℕ) (missing : Bool) → (missing && nat_le most items) ≡ false → left ≤ items → (missing ≡ false → left < items) → items ≤ most → left + 1 ≤ most
room items left most true full few fewer' within = grind (arith, nat_tests)
room items left most false full few fewer' within = let less = fewer' refl in omega arith

pub few-new : (config : RepositoryConfig) (items : List ItemState) (item : ItemState) → is_one_too_many config (item_named item.identifier items) (length items) ≡ false
    → length items ≤ config.items → length (with_new item items) ≤ config.items
unfolding is_one_too_many
few-new config items item full within =
    let left : length (without item.identifier items) + 1 ≤ config.items =
    room (length items) (length (without item.identifier items)) config.items (is_none (item_named item.identifier items)) full
    (without-at_most item.identifier items) (without-fewer item.identifier items) within
    in
    let all : length (placed item (without item.identifier items)) ≡ length (without item.identifier items) + 1 = length-placed item (without item.identifier items) in
    omega arith

-- ---- a deposit

pub well-without : (p : ItemState → Bool) (identifier : List ℕ) (items : List ItemState) → list_all p items ≡ true → list_all p (without identifier items) ≡ true
unfolding without
well-without p identifier items h = all-filter p (λ item. not (is_named identifier item)) items h

-- the item of a deposit is as a repository keeps its items
pub well-deposited : (config : RepositoryConfig) (holdings : Holdings) (identifier : List ℕ) (stamp : ℤ) (specs : List (List ℕ)) (records : List GivenRecord)
    → Stands config holdings.sets specs records → Fits config (item_named identifier holdings.items) (length holdings.items) (live_item identifier stamp (reduced specs) (map as_kept records))
    → is_well_kept config holdings.sets (live_item identifier stamp (reduced specs) (map as_kept records)) ≡ true
well-deposited config holdings identifier stamp specs records s f =
    all_five _ _ _ _ _ s.core s.known s.fields (all_of_reduced (has_set holdings.sets) specs s.in_sets) (ap not f.small)

deposited : (config : RepositoryConfig) (holdings : Holdings) (identifier : List ℕ) (stamp : ℤ) (specs : List (List ℕ)) (records : List GivenRecord)
    → Stands config holdings.sets specs records → Fits config (item_named identifier holdings.items) (length holdings.items) (live_item identifier stamp (reduced specs) (map as_kept records)) → AreKept config holdings
    → AreKept config (record holdings { items = with_new (live_item identifier stamp (reduced specs) (map as_kept records)) holdings.items })
deposited config holdings identifier stamp specs records s f kept =
    let item : ItemState = live_item identifier stamp (reduced specs) (map as_kept records) in
    record {
      ordered = in_order-changed item holdings.items kept.ordered;
      apart = apart-changed item holdings.items kept.apart;
      few = few-new config holdings.items item f.room kept.few;
      well = all-placed (is_well_kept config holdings.sets) item (without identifier holdings.items) (well-deposited config holdings identifier stamp specs records s f)
          (well-without (is_well_kept config holdings.sets) identifier holdings.items kept.well);
    }

-- ---- a deletion

pub emptied-record : (prefix : List ℕ) (formats : List Metadata) → has_record prefix (map emptied formats) ≡ has_record prefix formats
unfolding record_named
emptied-record prefix [] = refl
emptied-record prefix (format ∷ formats) = by_test (bytes_eq format.0 prefix) (emptied-record prefix formats)
  where
    by_test : (b : Bool) → is_some (find (λ (f : Metadata). bytes_eq f.0 prefix) (map emptied formats)) ≡ is_some (find (λ (f : Metadata). bytes_eq f.0 prefix) formats)
        → is_some (cond b (Some (emptied format)) (find (λ (f : Metadata). bytes_eq f.0 prefix) (map emptied formats)))
        ≡ is_some (cond b (Some format) (find (λ (f : Metadata). bytes_eq f.0 prefix) formats))
    by_test true h = refl
    by_test false h = h

no_unknown : (format : Option Format) → are_fields_of format [] ≡ true
no_unknown None = refl
no_unknown (Some format) = refl

emptied-known : (formats : List Format) (records : List Metadata) → list_all (has_known_fields formats) (map emptied records) ≡ true
emptied-known formats [] = refl
emptied-known formats (record' ∷ records) = rw (no_unknown (format_named record'.0 formats), emptied-known formats records) refl

shorter : (formats : List Metadata) → length (flat_map encoded_record (map emptied formats)) ≤ length (flat_map encoded_record formats)
shorter [] = omega arith
shorter (format ∷ formats) =
    let left = length-encoded_record (emptied format) in
    let right = length-encoded_record format in
    let nothing : List Field = [] in
    let none = length-encoded_list encoded_field nothing in
    let some = length-encoded_list encoded_field format.1 in
    omega (arith, shorter formats, length-append (encoded_record (emptied format)) (flat_map encoded_record (map emptied formats)), length-append (encoded_record format) (flat_map encoded_record formats))

pub smaller : (stamp : ℤ) (item : ItemState) → length (encoded (tombstone_of stamp item)) ≤ length (encoded item)
smaller stamp item =
    omega (
      arith,
      length-encoded (tombstone_of stamp item),
      length-encoded item,
      shorter item.formats,
      length-encoded_list encoded_record item.formats,
      length-encoded_list encoded_record (map emptied item.formats),
    )

too_long : (n : ℕ) (r : Result ℕ LengthFault) → IsMeasure n r → is_err r ≡ true → MAX_ITEM_BYTES < n
too_long n (Ok m) h e = cc
too_long n (Err m) h e = h

is_small : (n most : ℕ) → not (nat_lt most n) ≡ true → n ≤ most
is_small n most h = grind (arith, nat_tests)

-- an item that is not too large can be stored
pub small_fits : (item : ItemState) (r : Result ℕ LengthFault) → not (is_too_large item) ≡ true → IsMeasure (length (encoded item)) r → is_err r ≡ true → ⊥
small_fits item r small measure err = omega (arith, too_long (length (encoded item)) r measure err, is_small (length (encoded item)) MAX_ITEM_BYTES small)

still_small : (a b most : ℕ) → a ≤ b → not (nat_lt most b) ≡ true → not (nat_lt most a) ≡ true
still_small a b most h small = grind (arith, nat_tests)

-- what is left of one that is not too large is not either
pub small-tombstone : (stamp : ℤ) (item left : ItemState) → left ≡ tombstone_of stamp item → not (is_too_large item) ≡ true → not (is_too_large left) ≡ true
small-tombstone stamp item left is small = rw is (still_small (length (encoded (tombstone_of stamp item))) (length (encoded item)) MAX_ITEM_BYTES (smaller stamp item) small)

pub well-tombstone : (config : RepositoryConfig) (sets : List NamedSet) (stamp : ℤ) (item : ItemState)
    → is_well_kept config sets item ≡ true → is_well_kept config sets (tombstone_of stamp item) ≡ true
well-tombstone config sets stamp item h =
    let size = and_parts _ (not (is_too_large item)) h in
    let in_sets = and_parts _ (list_all (has_set sets) item.sets) size.0 in
    let fields = and_parts _ (list_all (has_known_fields config.formats) item.formats) in_sets.0 in
    let core = and_parts (has_record (codes "oai_dc") item.formats) (list_all (has_format config.formats) item.formats) fields.0 in
    all_five _ _ _ _ _ (emptied-record (codes "oai_dc") item.formats ∙ core.0) (list_all-map (has_format config.formats) emptied item.formats ∙ core.1)
    (emptied-known config.formats item.formats) in_sets.1
    (still_small (length (encoded (tombstone_of stamp item))) (length (encoded item)) MAX_ITEM_BYTES (smaller stamp item) size.1)

-- one of the items in a new state
replaced : (config : RepositoryConfig) (holdings : Holdings) (item : ItemState) → is_none (item_named item.identifier holdings.items) ≡ false
    → is_well_kept config holdings.sets item ≡ true → AreKept config holdings → AreKept config (record holdings { items = with_new item holdings.items })
replaced config holdings item there well kept = record {
  ordered = in_order-changed item holdings.items kept.ordered;
  apart = apart-changed item holdings.items kept.apart;
  few = let less = without-fewer item.identifier holdings.items there in
      let all = length-placed item (without item.identifier holdings.items) in
      omega (arith, kept.few);
  well = all-placed (is_well_kept config holdings.sets) item (without item.identifier holdings.items) well
      (well-without (is_well_kept config holdings.sets) item.identifier holdings.items kept.well);
}

-- the items without one of them
pub taken : (config : RepositoryConfig) (holdings : Holdings) (identifier : List ℕ) → AreKept config holdings → AreKept config (record holdings { items = without identifier holdings.items })
unfolding without
taken config holdings identifier kept = record {
  ordered = in_order-filter (λ item. not (is_named identifier item)) holdings.items kept.ordered;
  apart = apart-filter (λ item. not (is_named identifier item)) holdings.items kept.apart;
  few = let less = at_most (λ item. not (is_named identifier item)) holdings.items in omega (arith, kept.few);
  well = all-filter (is_well_kept config holdings.sets) (λ item. not (is_named identifier item)) holdings.items kept.well;
}

pub buried : (config : RepositoryConfig) (holdings : Holdings) (identifier : List ℕ) (stamp : ℤ) (found : Option ItemState) → item_named identifier holdings.items ≡ found
    → AreKept config holdings → AreKept config (record holdings { items = with_tombstone stamp found holdings.items })
buried config holdings identifier stamp None is kept = kept
buried config holdings identifier stamp (Some item) is kept =
    let there : is_none (item_named item.identifier holdings.items) ≡ false = ap (λ (id : List ℕ). is_none (item_named id holdings.items)) (found_name identifier holdings.items item is) ∙ ap is_none is in
    replaced config holdings (tombstone_of stamp item) there
    (well-tombstone config holdings.sets stamp item (of_found (is_well_kept config holdings.sets) identifier holdings.items item is kept.well)) kept

deleted : (config : RepositoryConfig) (holdings : Holdings) (identifier : List ℕ) (stamp : ℤ) (policy : DeletedRecord)
    → AreKept config holdings → AreKept config (record holdings { items = after_deletion policy stamp identifier holdings.items })
deleted config holdings identifier stamp No kept = taken config holdings identifier kept
deleted config holdings identifier stamp Transient kept = buried config holdings identifier stamp (item_named identifier holdings.items) refl kept
deleted config holdings identifier stamp Persistent kept = buried config holdings identifier stamp (item_named identifier holdings.items) refl kept

-- ---- a purge

-- fewer items stand, in their order, and each is as it was
pub purged_kept : (config : RepositoryConfig) (holdings : Holdings) (limit : ℤ) → AreKept config holdings → AreKept config (record holdings { items = purged limit holdings.items })
unfolding purged
purged_kept config holdings limit kept = record {
  ordered = in_order-filter (λ item. not (is_past limit item)) holdings.items kept.ordered;
  apart = apart-filter (λ item. not (is_past limit item)) holdings.items kept.apart;
  few = let less = at_most (λ item. not (is_past limit item)) holdings.items in omega (arith, kept.few);
  well = all-filter (is_well_kept config holdings.sets) (λ item. not (is_past limit item)) holdings.items kept.well;
}

after_purge_kept : (config : RepositoryConfig) (holdings : Holdings) (limit : Option ℤ) → AreKept config holdings → AreKept config (record holdings { items = after_purge limit holdings.items })
after_purge_kept config holdings None kept = kept
after_purge_kept config holdings (Some limit) kept = purged_kept config holdings limit kept

-- ---- a new set

still_there : (set : NamedSet) (sets : List NamedSet) (spec : List ℕ) → has_set sets spec ≡ true → has_set (sets ++ set ∷ []) spec ≡ true
still_there set sets spec h = list_any-append (λ other. bytes_eq spec other.0) sets (set ∷ []) ∙ or_left (has_set sets spec) (has_set (set ∷ []) spec) h

still_in : (set : NamedSet) (sets : List NamedSet) (specs : List (List ℕ)) → list_all (has_set sets) specs ≡ true → list_all (has_set (sets ++ set ∷ [])) specs ≡ true
still_in set sets [] h = refl
still_in set sets (spec ∷ specs) h =
    let parts = and_parts (has_set sets spec) (list_all (has_set sets) specs) h in
    rw (still_there set sets spec parts.0, still_in set sets specs parts.1) refl

still_well : (config : RepositoryConfig) (set : NamedSet) (sets : List NamedSet) (item : ItemState)
    → is_well_kept config sets item ≡ true → is_well_kept config (sets ++ set ∷ []) item ≡ true
still_well config set sets item h =
    let size = and_parts _ (not (is_too_large item)) h in
    let in_sets = and_parts _ (list_all (has_set sets) item.sets) size.0 in
    let fields = and_parts _ (list_all (has_known_fields config.formats) item.formats) in_sets.0 in
    let core = and_parts (has_record (codes "oai_dc") item.formats) (list_all (has_format config.formats) item.formats) fields.0 in
    all_five _ _ _ _ _ core.0 core.1 fields.1 (still_in set sets item.sets in_sets.1) size.1

pub set_kept : (config : RepositoryConfig) (holdings : Holdings) (set : NamedSet) → AreKept config holdings → AreKept config (record holdings { sets = holdings.sets ++ set ∷ [] })
set_kept config holdings set kept = record {
  ordered = kept.ordered;
  apart = kept.apart;
  few = kept.few;
  well = all-weaker (is_well_kept config holdings.sets) (is_well_kept config (holdings.sets ++ set ∷ [])) (still_well config set holdings.sets) holdings.items kept.well;
}

-- ---- a change

pub kept-changed : (config : RepositoryConfig) (stamp : ℤ) (holdings : Holdings) (asked : Change)
    → refusal_of config stamp holdings asked ≡ None → AreKept config holdings → AreKept config (changed config stamp holdings asked)
unfolding refusal_of changed
kept-changed config stamp holdings (change.Deposit identifier sets records) none kept =
    let item : ItemState = live_item identifier stamp (reduced sets) (map as_kept records) in
    let causes = no_cause (deposit_refusal config holdings.sets sets records) (item_refusal config (item_named identifier holdings.items) (length holdings.items) item) none in
    deposited config holdings identifier stamp sets records (stands config holdings.sets sets records causes.0) (fits config (item_named identifier holdings.items) (length holdings.items) item causes.1) kept
kept-changed config stamp holdings (change.Put identifier sets records) none kept = by_test (is_held_so item (item_named identifier holdings.items))
  where
    item : ItemState
    item = live_item identifier stamp (reduced sets) (map as_kept records)

    by_test : (b : Bool) → AreKept config (record holdings { items = cond b holdings.items (with_new item holdings.items) })
    by_test true = record { ordered = kept.ordered; apart = kept.apart; few = kept.few; well = kept.well }
    by_test false =
        let causes = no_cause (deposit_refusal config holdings.sets sets records) (item_refusal config (item_named identifier holdings.items) (length holdings.items) item) none in
        deposited config holdings identifier stamp sets records (stands config holdings.sets sets records causes.0) (fits config (item_named identifier holdings.items) (length holdings.items) item causes.1) kept
kept-changed config stamp holdings (change.Delete identifier) none kept = deleted config holdings identifier stamp config.deleted kept
kept-changed config stamp holdings (change.Purge before) none kept = after_purge_kept config holdings (limit_of config.granularity before) kept
kept-changed config stamp holdings (change.AddSet spec name) none kept = set_kept config holdings (spec, name) kept

-- nothing is held, and all of it is as it should be
pub kept-none : (config : RepositoryConfig) → AreKept config no_holdings
kept-none config = record { ordered = refl; apart = refl; few = omega arith; well = refl }
