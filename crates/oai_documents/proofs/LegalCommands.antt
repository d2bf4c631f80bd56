-- The texts that requests and deposit lines carry are legal, whatever bytes they were read from.
use Rattle.std.proofs.Common.{◌≡◌, ◌∙◌, ◌+◌, ◌<◌, ◌≤◌, inl, inr, ℕ, zero, suc, Bool, true, false, cond, ◌&&◌, ◌||◌, not, eqb, List, [], ◌∷◌, ◌++◌, length, map, take, drop, get_or, codes, Option, None, Some, Result, Ok, Err, refl, sym, ap, subst, arith}
use Rattle.std.specs.Prelude.{nat_le, nat_lt, slice_index}
use Rattle.std.specs.Int.{is_in_range}
use Rattle.std.specs.Option.{unwrap_or}
use Rattle.std.specs.Char.{is_ascii_alphabetic, is_ascii_alphanumeric}
use Rattle.std.specs.List.{after_first, before_first, list_all, onto_first, position_or_len, slice_split}
use Rattle.std.specs.Ordering.{match_ordering, nat_cmp}
use Rattle.std.specs.Cmp.Lexicographic.{slice_cmp}
use Rattle.std.specs.declared.cmp.Ordering.{Ordering}
use Rattle.std.specs.declared.cmp.Ordering.TheVariants.{Less, Equal, Greater}
use Rattle.std.specs.Str.{IsUtf8, bytes_eq, is_utf8}
use Rattle.std.specs.Str.Lossy.{after_first_chunk, error_len_after_one, error_len_after_two, error_len_of_some, replacement_bytes, second_byte_max, second_byte_min, utf8_error_len, utf8_invalid_len, utf8_lossy, utf8_valid_len, valid_len_up_to}
use Rattle.std.proofs.lemmas.Bool.{and_parts, cases_Bool, cases_lt, cond-false, cond-true, eq-eqb, eqb-true, true≢false}
use Rattle.std.proofs.lemmas.Bool.Decides.{nat_tests}
use Rattle.std.proofs.lemmas.List.{length-drop, take_all}
use Rattle.std.proofs.lemmas.List.Folds.{list_all-append}
use Rattle.std.proofs.lemmas.List.Sums.{passes_at_first, split_at_first}
use Rattle.std.proofs.lemmas.Str.{IsUtf8-append, IsUtf8-from_is_utf8, IsUtf8-nil, is_utf8-from_IsUtf8, utf8_lossy-IsUtf8, utf8_lossy_step, utf8_valid_len_le}
use lib.Utf8.{encode}
use Rattle.serde_json.specs.Data.{Data, Members, array, boolean, member, no_members, null, number, object, string}
use Rattle.serde_json.specs.Find.{get, get_member}
use Rattle.serde_json.specs.Read.{read}
use Rattle.oai_names.specs.Characters.{is_xml_text}
use Rattle.oai_names.specs.Names.{is_colon, is_identifier, is_one_of, is_prefix, is_prefix_byte, is_scheme, is_scheme_byte, is_some_of, is_uri_byte, may_be_identifier}
use Rattle.oai_names.specs.Sets.{is_set_spec, may_be_set_spec}
use Rattle.oai_names.specs.declared.limits.TheConstants.{MAX_IDENTIFIER_BYTES, MAX_SET_SPEC_BYTES}
use Rattle.oai_names.specs.declared.list_verbs.ListVerb.{ListVerb}
use Rattle.oai_names.specs.declared.list_verbs.ListVerb.TheVariants as list
use Rattle.oai_names.proofs.Lists.{all-filter, all-weaker}
use Rattle.oai_time.specs.declared.granularity.Granularity.{Granularity}
use Rattle.oai_item.specs.Elements.{element_field}
use Rattle.oai_item.specs.Givens.{GivenRecord, kept, kept_fields}
use Rattle.oai_item.specs.declared.forms.Forms.{Forms}
use Rattle.oai_item.specs.declared.givens.Given.{Given}
use Rattle.oai_item.specs.declared.givens.Given.TheVariants.{Listed, Whole}
use Rattle.oai_item.specs.ShortTexts.{is_short_text}
use Rattle.oai_deposit.specs.declared.changes.Change.{Change}
use Rattle.oai_deposit.specs.declared.changes.Change.TheVariants as change
use Rattle.oai_item.specs.declared.fields.Field.{Field}
use Rattle.oai_item.specs.declared.refusals.LineRefusal.{LineRefusal}
use Rattle.oai_item.specs.declared.refusals.LineRefusal.TheVariants.{BadIdentifier, BadSetSpec, BadText}
use Rattle.oai_json.specs.Json.{items_of, json_in, members_of}
use Rattle.oai_deposit.specs.Lines.{DepositParts, LineAbout, LineRecord, Shape, about_read, adds_set, as_deposit, as_given, as_put, asked_change, asked_parts, before_about, before_others, change_asked, deletes, deposits, puts, element_read, elements_read, given_element, have_xml_texts, line_of, purges, read_as_element, record_read, shape_of, texts_about, value_asked, with_about, with_abouts}
use Rattle.oai_deposit.specs.Shapes.{IsShape, written_field, written_given, written_record, written_records}
use Rattle.oai_deposit.proofs.ShapeLemmas.{shape_law_holds}
use Rattle.oai_args.specs.Arguments.{given, occurrence_of}
use Rattle.oai_args.specs.Asks.{AskOrError, IsAskOrError, asks, at_most_once, bad_argument, bad_verb}
use Rattle.oai_args.specs.Pairs.{Pair, decoded_pair, decoded_pairs, decoded_text, has_xml_values, values_of}
use Rattle.oai_args.specs.Requests.{request_of}
use Rattle.oai_args.specs.Verbs.{name_of, verb_of_list}
use Rattle.oai_args.specs.declared.requests.Ask.TheVariants as ask
use Rattle.oai_args.proofs.RequestLemmas.{gives_the_answer}
use Rattle.oai_xml.specs.Documents.{canonical}
use Rattle.oai_xml.specs.LegalTexts.{is_legal_text}
use Rattle.oai_item.proofs.ElementLemmas.{canonical_element}
use Rattle.oai_xml.proofs.LegalSpellings.{is_plain}
use Rattle.oai_repo.specs.Answers.{arguments_of_request}
use Rattle.oai_repo.specs.Machine.{command_of, line, query}
use Rattle.oai_documents.specs.Texts.{have_legal_arguments, is_legal_argument, is_legal_change, is_legal_command, is_legal_field, is_legal_record}
use Rattle.oai_documents.proofs.JsonTexts.{are_text_elements, are_text_values, is_text_data, read_text}
use Rattle.oai_documents.proofs.LegalTrees.{plain_text}
use Rattle.oai_documents.proofs.Tags.{both}

-- ---- names: characters of ASCII alone

one_plain : (ms : List ℕ) (b : ℕ) → list_all is_plain ms ≡ true → is_one_of ms b ≡ true → is_plain b ≡ true
one_plain [] b all is = cc
one_plain (m ∷ ms) b all is =
    let parts = and_parts (is_plain m) (list_all is_plain ms) all in by_test (eqb m b) refl parts.0 (one_plain ms b parts.1) is
  where
    by_test : (t : Bool) → eqb m b ≡ t → is_plain m ≡ true → (is_one_of ms b ≡ true → is_plain b ≡ true) → (t || is_one_of ms b) ≡ true → is_plain b ≡ true
    by_test true same here later is = subst (λ (n : ℕ). is_plain n ≡ true) (eqb-true m b same) here
    by_test false same here later is = later is

alphanumeric_plain : (b : ℕ) → is_ascii_alphanumeric b ≡ true → is_plain b ≡ true
alphanumeric_plain b is = grind (arith, nat_tests, is)

alphabetic_plain : (b : ℕ) → is_ascii_alphabetic b ≡ true → is_plain b ≡ true
alphabetic_plain b is = grind (arith, nat_tests, is)

class_plain : (ms : List ℕ) → list_all is_plain ms ≡ true → (b : ℕ) → (is_ascii_alphanumeric b || is_one_of ms b) ≡ true → is_plain b ≡ true
class_plain ms all b is = by_test (is_ascii_alphanumeric b) refl is
  where
    by_test : (t : Bool) → is_ascii_alphanumeric b ≡ t → (t || is_one_of ms b) ≡ true → is_plain b ≡ true
    by_test true here is = alphanumeric_plain b here
    by_test false here is = one_plain ms b all is

pub prefix_plain : (b : ℕ) → is_prefix_byte b ≡ true → is_plain b ≡ true
prefix_plain b is = class_plain (codes "-_.!~*'()") refl b is

scheme_plain : (bytes : List ℕ) → is_scheme bytes ≡ true → list_all is_plain bytes ≡ true
unfolding is_scheme
scheme_plain [] is = cc
scheme_plain (b ∷ bytes) is =
    let parts = and_parts (is_ascii_alphabetic b) (list_all is_scheme_byte bytes) is in
    both (alphabetic_plain b parts.0) (all-weaker is_scheme_byte is_plain (class_plain (codes "+-.") refl) bytes parts.1)

some_left : (bytes : List ℕ) → not (eqb (length bytes) 0) ≡ true → 0 < length bytes
some_left [] is = cc
some_left (b ∷ bytes) is = omega arith

identifier_plain : (text : List ℕ) → is_identifier text ≡ true → list_all is_plain text ≡ true
unfolding is_identifier
identifier_plain text is =
    let parts = and_parts (is_scheme (before_first is_colon text)) (is_some_of is_uri_byte (after_first is_colon text)) is in
    let behind = and_parts (not (eqb (length (after_first is_colon text)) 0)) (list_all is_uri_byte (after_first is_colon text)) parts.1 in
    let at : ℕ = position_or_len is_colon text in
    let some = some_left (after_first is_colon text) behind.0 in
    let left = length-drop (at + 1) text in
    let within : at < length text = omega (arith, some, left) in
    let colon : get_or text at 0 ≡ 58 = eqb-true (get_or text at 0) 58 (passes_at_first is_colon text 0 within) in
    ap (list_all is_plain) (split_at_first is_colon text 0 within)
    ∙ (list_all-append is_plain (before_first is_colon text) (get_or text at 0 ∷ after_first is_colon text)
    ∙ both (scheme_plain (before_first is_colon text) parts.0)
    (both (subst (λ (n : ℕ). is_plain n ≡ true) (sym colon) refl) (all-weaker is_uri_byte is_plain (class_plain (codes "-._~:/?#[]@!$&'()*+,;=%") refl) (after_first is_colon text) behind.1)))

pub identifier_legal : (text : List ℕ) → may_be_identifier text ≡ true → is_legal_text text ≡ true
identifier_legal text is = plain_text text (identifier_plain text (and_parts (is_identifier text) (nat_le (length text) MAX_IDENTIFIER_BYTES) is).0)

abbrev are_plain : List ℕ → Bool
are_plain bytes = list_all is_plain bytes

parts_plain : (parts : List (List ℕ)) → list_all is_prefix parts ≡ true → list_all are_plain parts ≡ true
unfolding is_prefix
parts_plain [] all = refl
parts_plain (part ∷ parts) all =
    let first = and_parts (is_prefix part) (list_all is_prefix parts) all in
    let bytes = and_parts (not (eqb (length part) 0)) (list_all is_prefix_byte part) first.0 in
    both (all-weaker is_prefix_byte is_plain prefix_plain part bytes.1) (parts_plain parts first.1)

onto_plain : (b : ℕ) (parts : List (List ℕ)) → list_all are_plain (onto_first b parts) ≡ true → (is_plain b ≡ true) × (list_all are_plain parts ≡ true)
onto_plain b [] all = let first = and_parts (are_plain (b ∷ [])) true all in ((and_parts (is_plain b) true first.0).0, refl)
onto_plain b (part ∷ parts) all =
    let first = and_parts (are_plain (b ∷ part)) (list_all are_plain parts) all in
    let one = and_parts (is_plain b) (are_plain part) first.0 in
    (one.0, both one.1 first.1)

split_plain : (text : List ℕ) → list_all are_plain (slice_split is_colon text) ≡ true → list_all is_plain text ≡ true
split_plain [] all = refl
split_plain (b ∷ text) all =
    elim (cases_Bool (is_colon b)) [
      | inl colon ↦
          let behind : list_all are_plain ([] ∷ slice_split is_colon text) ≡ true =
          sym (ap (list_all are_plain) (cond-true (is_colon b) ([] ∷ slice_split is_colon text) (onto_first b (slice_split is_colon text)) colon)) ∙ all in
          both (subst (λ (n : ℕ). is_plain n ≡ true) (sym (eqb-true b 58 colon)) refl) (split_plain text behind)
      | inr goes ↦
          let onto : list_all are_plain (onto_first b (slice_split is_colon text)) ≡ true =
          sym (ap (list_all are_plain) (cond-false (is_colon b) ([] ∷ slice_split is_colon text) (onto_first b (slice_split is_colon text)) goes)) ∙ all in
          let parts = onto_plain b (slice_split is_colon text) onto in
          both parts.0 (split_plain text parts.1)
    ]

pub set_spec_legal : (text : List ℕ) → may_be_set_spec text ≡ true → is_legal_text text ≡ true
unfolding is_set_spec
set_spec_legal text is = plain_text text (split_plain text (parts_plain (slice_split is_colon text) (and_parts (is_set_spec text) (nat_le (length text) MAX_SET_SPEC_BYTES) is).0))

-- ---- what is found in a JSON object

abbrev OnText : Option Data → Type 0
OnText None = Unit {0}
OnText (Some d) = is_text_data d ≡ true

ordered_text : (o : Ordering) (x y z : Option Data) → OnText x → OnText y → OnText z → OnText (match_ordering o x y z)
ordered_text Less x y z first second third = first
ordered_text Equal x y z first second third = second
ordered_text Greater x y z first second third = third

member_text : (k : List ℕ) (ms : Members) → are_text_values ms ≡ true → OnText (get_member k ms)
member_text k no_members all = tt
member_text k (member l e ms) all =
    let parts = and_parts (is_text_data e) (are_text_values ms) all in
    ordered_text (slice_cmp nat_cmp k l) (get_member k ms) (Some e) (get_member k ms) (member_text k ms parts.1) parts.0 (member_text k ms parts.1)

get_text : (k : List ℕ) (d : Data) → is_text_data d ≡ true → OnText (get k d)
get_text k null is = tt
get_text k (boolean b) is = tt
get_text k (number n) is = tt
get_text k (string s) is = tt
get_text k (array ds) is = tt
get_text k (object ms) is = member_text k ms is

found_text : (k : List ℕ) (d e : Data) → is_text_data d ≡ true → get k d ≡ Some e → is_text_data e ≡ true
found_text k d e is found = subst OnText found (get_text k d is)

-- ---- a deposit line

-- the texts of fields that are written in JSON
field_legal : (field : Field) → is_text_data (written_field field) ≡ true → is_xml_text field.text ≡ true → is_legal_field field ≡ true
field_legal field is characters =
    let parts = and_parts (is_utf8 field.name) (is_utf8 field.text && true) is in both (and_parts (is_utf8 field.text) true parts.1).0 characters

fields_legal : (fields : List Field) → are_text_elements (items_of (map written_field fields)) ≡ true → list_all (λ (field : Field). is_xml_text field.text) fields ≡ true → list_all is_legal_field fields ≡ true
fields_legal [] is all = refl
fields_legal (field ∷ fields) is all =
    let texts = and_parts (is_text_data (written_field field)) (are_text_elements (items_of (map written_field fields))) is in
    let parts = and_parts (is_xml_text field.text) (list_all (λ (field : Field). is_xml_text field.text) fields) all in
    both (field_legal field texts.0 parts.0) (fields_legal fields texts.1 parts.1)

-- the canonical text of an element is in UTF-8
element_legal : (text element : List ℕ) → canonical text ≡ Ok element → is_xml_text element ≡ true → is_legal_text element ≡ true
element_legal text element is characters = both (is_utf8-from_IsUtf8 element (canonical_element text element is).1.utf8) characters

-- what is given for a format, and how an item keeps it
given_legal : (written given : Given) → is_text_data (written_given written) ≡ true → given_element written ≡ Ok given
    → list_all (λ (field : Field). is_xml_text field.text) (kept_fields given) ≡ true → list_all is_legal_field (kept_fields given) ≡ true
given_legal (Listed fields) given texts is all =
    let same : Listed fields ≡ given = cc in
    subst (λ (w : Given). list_all is_legal_field (kept_fields w) ≡ true) same
    (fields_legal fields texts (subst (λ (w : Given). list_all (λ (field : Field). is_xml_text field.text) (kept_fields w) ≡ true) (sym same) all))
given_legal (Whole text) given texts is all = by_canonical (canonical text) refl is
  where
    by_canonical : (c : Result (List ℕ) ℕ) → canonical text ≡ c → as_given (read_as_element c) ≡ Ok given → list_all is_legal_field (kept_fields given) ≡ true
    by_canonical (Ok element) found is =
        let same : Whole element ≡ given = cc in
        let characters : list_all (λ (field : Field). is_xml_text field.text) (element_field element ∷ []) ≡ true =
        subst (λ (w : Given). list_all (λ (field : Field). is_xml_text field.text) (kept_fields w) ≡ true) (sym same) all in
        subst (λ (w : Given). list_all is_legal_field (kept_fields w) ≡ true) same
        (both (element_legal text element found (and_parts (is_xml_text element) true characters).0) refl)
    by_canonical (Err at) found is = cc

-- the texts of fields are of XML's characters
abbrev is_xml_field : Field → Bool
is_xml_field field = is_xml_text field.text

-- an element that was read
read_legal : (text element : List ℕ) → element_read text ≡ Ok element → is_xml_text element ≡ true → is_legal_text element ≡ true
read_legal text element is characters = by_canonical (canonical text) refl is
  where
    by_canonical : (c : Result (List ℕ) ℕ) → canonical text ≡ c → read_as_element c ≡ Ok element → is_legal_text element ≡ true
    by_canonical (Ok e) found is =
        let same : e ≡ element = cc in
        element_legal text element (found ∙ ap (λ (w : List ℕ). Ok w) same) characters
    by_canonical (Err at) found is = cc

-- those about a record
about_legal : (texts elements : List (List ℕ)) → about_read texts ≡ Ok elements → list_all is_xml_field (map element_field elements) ≡ true → list_all is_legal_field (map element_field elements) ≡ true
unfolding about_read
about_legal [] [] is all = refl
about_legal [] (e ∷ elements) is all = cc
about_legal (text ∷ texts) elements is all = by_parts (λ es later fine. about_legal texts es later fine) (element_read text) (about_read texts) refl refl is
  where
    by_parts : ((es : List (List ℕ)) → about_read texts ≡ Ok es → list_all is_xml_field (map element_field es) ≡ true → list_all is_legal_field (map element_field es) ≡ true)
        → (one : Result (List ℕ) LineRefusal) (others : Result (List (List ℕ)) LineRefusal) → element_read text ≡ one → about_read texts ≡ others → before_others one others ≡ Ok elements
        → list_all is_legal_field (map element_field elements) ≡ true
    by_parts legal_others (Ok e) (Ok es) first later is =
        let same : e ∷ es ≡ elements = cc in
        let fine : list_all is_xml_field (map element_field (e ∷ es)) ≡ true = subst (λ (ws : List (List ℕ)). list_all is_xml_field (map element_field ws) ≡ true) (sym same) all in
        let each = and_parts (is_xml_text e) (list_all is_xml_field (map element_field es)) fine in
        subst (λ (ws : List (List ℕ)). list_all is_legal_field (map element_field ws) ≡ true) same (both (read_legal text e first each.0) (legal_others es later each.1))
    by_parts legal_others (Ok e) (Err cause) first later is = cc
    by_parts legal_others (Err cause) others first later is = cc

-- what is kept of a record and what is about it
record_legal : (prefix : List ℕ) (written : Given) (texts : List (List ℕ)) (r : GivenRecord) → is_text_data (written_given written) ≡ true → record_read (prefix, written, texts) ≡ Ok r
    → list_all is_xml_field (kept r).1 ≡ true → is_legal_record (kept r) ≡ true
record_legal prefix written texts r its is all = by_parts (given_element written) (about_read texts) refl refl is
  where
    by_parts : (one : Result Given LineRefusal) (others : Result (List (List ℕ)) LineRefusal) → given_element written ≡ one → about_read texts ≡ others → before_about prefix one others ≡ Ok r
        → is_legal_record (kept r) ≡ true
    by_parts (Ok g) (Ok about) first later is =
        let whole : GivenRecord = (prefix, g, about) in
        let same : whole ≡ r = cc in
        let fine : list_all is_xml_field (kept_fields g ++ map element_field about) ≡ true = subst (λ (w : GivenRecord). list_all is_xml_field (kept w).1 ≡ true) (sym same) all in
        let parts = and_parts (list_all is_xml_field (kept_fields g)) (list_all is_xml_field (map element_field about)) (sym (list_all-append is_xml_field (kept_fields g) (map element_field about)) ∙ fine) in
        subst (λ (w : GivenRecord). is_legal_record (kept w) ≡ true) same
        (list_all-append is_legal_field (kept_fields g) (map element_field about) ∙ both (given_legal written g its first parts.0) (about_legal texts about later parts.1))
    by_parts (Ok g) (Err cause) first later is = cc
    by_parts (Err cause) others first later is = cc

records_legal : (abouts : List LineAbout) (written : List LineRecord) (given : List GivenRecord) → are_text_values (members_of (map written_record written)) ≡ true
    → elements_read (with_abouts written abouts) ≡ Ok given → have_xml_texts (map kept given) ≡ true → list_all is_legal_record (map kept given) ≡ true
unfolding have_xml_texts elements_read
records_legal abouts [] [] texts is all = refl
records_legal abouts [] (r ∷ given) texts is all = cc
records_legal abouts (w ∷ written) given texts is all =
    let parts = and_parts (is_text_data (written_record w).1) (are_text_values (members_of (map written_record written))) texts in
    by_parts (λ gs later fine. records_legal abouts written gs parts.1 later fine) (record_read (with_about abouts w)) (elements_read (with_abouts written abouts)) refl refl is
  where
    by_parts : ((gs : List GivenRecord) → elements_read (with_abouts written abouts) ≡ Ok gs → have_xml_texts (map kept gs) ≡ true → list_all is_legal_record (map kept gs) ≡ true)
        → (one : Result GivenRecord LineRefusal) (others : Result (List GivenRecord) LineRefusal) → record_read (with_about abouts w) ≡ one → elements_read (with_abouts written abouts) ≡ others
        → before_others one others ≡ Ok given → list_all is_legal_record (map kept given) ≡ true
    by_parts legal_others (Ok r) (Ok rs) first later is =
        let same : r ∷ rs ≡ given = cc in
        let parts = and_parts (is_text_data (written_record w).1) (are_text_values (members_of (map written_record written))) texts in
        let fine : have_xml_texts (map kept (r ∷ rs)) ≡ true = subst (λ (gs : List GivenRecord). have_xml_texts (map kept gs) ≡ true) (sym same) all in
        let each = and_parts (list_all is_xml_field (kept r).1) (have_xml_texts (map kept rs)) fine in
        subst (λ (gs : List GivenRecord). list_all is_legal_record (map kept gs) ≡ true) same
        (both (record_legal w.0 w.1 (texts_about abouts w.0) r parts.0 first each.0) (legal_others rs later each.1))
    by_parts legal_others (Ok r) (Err cause) first later is = cc
    by_parts legal_others (Err cause) others first later is = cc

pub short_characters : (text : List ℕ) → is_short_text text ≡ true → is_xml_text text ≡ true
unfolding is_short_text
short_characters text is = (and_parts _ (is_xml_text text) is).1

-- the parts of a deposit, whose texts are tested
parts_legal : (d : Data) (written : List LineRecord) (abouts : List LineAbout) (identifier : List ℕ) (sets : List (List ℕ)) (parts : DepositParts) → get (codes "records") d ≡ Some (written_records written) → is_text_data d ≡ true
    → asked_parts identifier sets (elements_read (with_abouts written abouts)) ≡ Ok parts → is_legal_change (change.Deposit parts.0 parts.1 parts.2) ≡ true
parts_legal d written abouts identifier sets parts found text is = by_elements (elements_read (with_abouts written abouts)) refl is
  where
    by_tests : (records : List GivenRecord) (a b c : Bool) → elements_read (with_abouts written abouts) ≡ Ok records
        → may_be_identifier identifier ≡ a → list_all may_be_set_spec sets ≡ b → have_xml_texts (map kept records) ≡ c
        → cond (not a) (Err BadIdentifier) (cond (not b) (Err BadSetSpec) (cond (not c) (Err BadText) (Ok (identifier, sets, records)))) ≡ Ok parts
        → is_legal_change (change.Deposit parts.0 parts.1 parts.2) ≡ true
    by_tests records true true true read named specs texts is =
        let whole : DepositParts = (identifier, sets, records) in
        let same : whole ≡ parts = cc in
        let told : is_text_data (written_records written) ≡ true = found_text (codes "records") d (written_records written) text found in
        subst (λ (p : DepositParts). is_legal_change (change.Deposit p.0 p.1 p.2) ≡ true) same
        (both (both (identifier_legal identifier named) (all-weaker may_be_set_spec is_legal_text set_spec_legal sets specs)) (records_legal abouts written records told read texts))
    by_tests records true true false read named specs texts is = cc
    by_tests records true false c read named specs texts is = cc
    by_tests records false b c read named specs texts is = cc

    by_elements : (r : Result (List GivenRecord) LineRefusal) → elements_read (with_abouts written abouts) ≡ r → asked_parts identifier sets r ≡ Ok parts → is_legal_change (change.Deposit parts.0 parts.1 parts.2) ≡ true
    by_elements (Ok records) read is = by_tests records (may_be_identifier identifier) (list_all may_be_set_spec sets) (have_xml_texts (map kept records)) read refl refl refl is
    by_elements (Err cause) read is = cc

asked_legal : (forms : Forms) (shape : Shape) (d : Data) (asked : Change) → IsShape forms shape d → is_text_data d ≡ true → asked_change shape ≡ Ok asked → is_legal_change asked ≡ true
unfolding asked_change
asked_legal forms (deposits identifier sets written abouts) d asked shape text is = by_parts (asked_parts identifier sets (elements_read (with_abouts written abouts))) refl is
  where
    by_parts : (r : Result DepositParts LineRefusal) → asked_parts identifier sets (elements_read (with_abouts written abouts)) ≡ r → as_deposit r ≡ Ok asked → is_legal_change asked ≡ true
    by_parts (Ok parts) read is =
        let same : change.Deposit parts.0 parts.1 parts.2 ≡ asked = cc in
        subst (λ (c : Change). is_legal_change c ≡ true) same (parts_legal d written abouts identifier sets parts shape.records text read)
    by_parts (Err cause) read is = cc
asked_legal forms (puts identifier sets written abouts) d asked shape text is = by_parts (asked_parts identifier sets (elements_read (with_abouts written abouts))) refl is
  where
    by_parts : (r : Result DepositParts LineRefusal) → asked_parts identifier sets (elements_read (with_abouts written abouts)) ≡ r → as_put r ≡ Ok asked → is_legal_change asked ≡ true
    by_parts (Ok parts) read is =
        let same : change.Put parts.0 parts.1 parts.2 ≡ asked = cc in
        subst (λ (c : Change). is_legal_change c ≡ true) same (parts_legal d written abouts identifier sets parts shape.records text read)
    by_parts (Err cause) read is = cc
asked_legal forms (deletes identifier) d asked shape text is = by_test (may_be_identifier identifier) is
  where
    by_test : (a : Bool) → cond a (Ok (change.Delete identifier)) (Err BadIdentifier) ≡ Ok asked → is_legal_change asked ≡ true
    by_test true is = let same : change.Delete identifier ≡ asked = cc in subst (λ (c : Change). is_legal_change c ≡ true) same refl
    by_test false is = cc
asked_legal forms (purges before) d asked shape text is = let same : change.Purge before ≡ asked = cc in subst (λ (c : Change). is_legal_change c ≡ true) same refl
asked_legal forms (adds_set spec name) d asked shape text is = by_tests (may_be_set_spec spec) (is_short_text name) refl refl is
  where
    by_tests : (a b : Bool) → may_be_set_spec spec ≡ a → is_short_text name ≡ b → cond (not a) (Err BadSetSpec) (cond (not b) (Err BadText) (Ok (change.AddSet spec name))) ≡ Ok asked → is_legal_change asked ≡ true
    by_tests true true named short is =
        let same : change.AddSet spec name ≡ asked = cc in
        let utf8 : is_utf8 name ≡ true = found_text (codes "name") d (string name) text shape.name in
        subst (λ (c : Change). is_legal_change c ≡ true) same (both (set_spec_legal spec named) (both utf8 (short_characters name short)))
    by_tests true false named short is = cc
    by_tests false b named short is = cc

line_legal : (forms : Forms) (text : List ℕ) (asked : Change) → line_of forms text ≡ Ok asked → is_legal_change asked ≡ true
unfolding line_of json_in
line_legal forms text asked is = by_json (is_utf8 text) (read text) refl refl is
  where
    by_shape : (d : Data) (shape : Option Shape) → shape_of forms d ≡ shape → is_text_data d ≡ true → change_asked shape ≡ Ok asked → is_legal_change asked ≡ true
    by_shape d None found its is = cc
    by_shape d (Some shape) found its is = asked_legal forms shape d asked (((shape_law_holds forms d).fits shape).0 found) its is

    by_json : (t : Bool) (r : Option Data) → is_utf8 text ≡ t → read text ≡ r → value_asked forms (cond t r None) ≡ Ok asked → is_legal_change asked ≡ true
    by_json true (Some d) utf8 found is = by_shape d (shape_of forms d) refl (read_text text d (IsUtf8-from_is_utf8 text utf8) found) is
    by_json true None utf8 found is = cc
    by_json false r utf8 found is = cc

pub line_command : (g : Granularity) (forms : Forms) (text : List ℕ) → is_legal_command (command_of g (line (line_of forms text))) ≡ true
line_command g forms text = by_read (line_of forms text) refl
  where
    by_read : (r : Result Change LineRefusal) → line_of forms text ≡ r → is_legal_command (command_of g (line r)) ≡ true
    by_read (Ok asked) is = line_legal forms text asked is
    by_read (Err cause) is = refl

-- ---- bytes with U+FFFD for what is not UTF-8

valid_front : (bytes : List ℕ) (n : ℕ) → IsUtf8 (take (valid_len_up_to bytes n) bytes)
valid_front bytes zero = IsUtf8-nil
valid_front bytes (suc n) = by_test (is_utf8 (take (suc n) bytes)) refl (valid_front bytes n)
  where
    by_test : (t : Bool) → is_utf8 (take (suc n) bytes) ≡ t → IsUtf8 (take (valid_len_up_to bytes n) bytes) → IsUtf8 (take (cond t (suc n) (valid_len_up_to bytes n)) bytes)
    by_test true is later = IsUtf8-from_is_utf8 (take (suc n) bytes) is
    by_test false is later = later

valid_taken : (bytes : List ℕ) → IsUtf8 (take (utf8_valid_len bytes) bytes)
unfolding utf8_valid_len
valid_taken bytes = valid_front bytes (length bytes)

replacement_text : IsUtf8 replacement_bytes
unfolding encode
replacement_text = (65533 ∷ [], (refl, refl))

-- what is cut off behind the front has a byte
in_both : {A : Type 0} (P : A → Type 0) (b : Bool) (x y : A) → P x → P y → P (cond b x y)
in_both P true x y first second = first
in_both P false x y first second = second

invalid_some : (bytes : List ℕ) → 0 < length bytes → 0 < utf8_invalid_len bytes
unfolding utf8_error_len
invalid_some bytes some =
    let P : Option ℕ → Type 0 = λ o. 0 < unwrap_or o (length bytes) in
    let one : P (Some 1) = omega arith in
    let two : P (Some 2) = omega arith in
    let three : P (Some 3) = omega arith in
    let x = slice_index bytes 0 in
    let third = is_in_range 0x80 0xBF (slice_index bytes 2) in
    let after_three = in_both P (nat_lt (length bytes) 4) None (Some 3) some three in
    let after_two : P (error_len_after_two bytes) =
    in_both P (nat_lt (length bytes) 3) None (cond third (cond (nat_lt (length bytes) 4) None (Some 3)) (Some 2)) some
    (in_both P third (cond (nat_lt (length bytes) 4) None (Some 3)) (Some 2) after_three two) in
    let second = is_in_range (second_byte_min x) (second_byte_max x) (slice_index bytes 1) in
    let after_one : P (error_len_after_one bytes) =
    in_both P (nat_lt (length bytes) 2) None (cond second (error_len_after_two bytes) (Some 1)) some
    (in_both P second (error_len_after_two bytes) (Some 1) after_two one) in
    in_both P (eqb (length bytes) 0) None (error_len_of_some bytes) some (in_both P (is_in_range 0xC2 0xF4 x) (error_len_after_one bytes) (Some 1) after_one one)

shorter : (bytes : List ℕ) → (utf8_valid_len bytes ≡ length bytes → ⊥) → length (after_first_chunk bytes) < length bytes
shorter bytes faulty =
    let n : ℕ = utf8_valid_len bytes in
    let within = utf8_valid_len_le bytes in
    let left = length-drop n bytes in
    let below : n < length bytes = apart n (length bytes) within faulty in
    let invalid = invalid_some (drop n bytes) (omega (arith, left, below)) in
    let cut = length-drop (n + utf8_invalid_len (drop n bytes)) bytes in
    omega (arith, cut, invalid, below)
  where
    apart : (a b : ℕ) → a ≤ b → (a ≡ b → ⊥) → a < b
    apart a b within other = elim (cases_lt a b) [
      | inl below ↦ below
      | inr above ↦ let same : a ≡ b = omega (arith, within, above) in absurd (other same)
    ]

lossy_step : (bytes : List ℕ) → ((rest : List ℕ) → length rest < length bytes → IsUtf8 (utf8_lossy rest)) → IsUtf8 (utf8_lossy bytes)
lossy_step bytes later = by_test (eqb (utf8_valid_len bytes) (length bytes)) refl
  where
    by_test : (t : Bool) → eqb (utf8_valid_len bytes) (length bytes) ≡ t → IsUtf8 (utf8_lossy bytes)
    by_test true is =
        let whole : utf8_valid_len bytes ≡ length bytes = eqb-true (utf8_valid_len bytes) (length bytes) is in
        let text : IsUtf8 bytes = subst IsUtf8 (ap (λ (k : ℕ). take k bytes) whole ∙ take_all (length bytes) bytes (omega arith)) (valid_taken bytes) in
        subst IsUtf8 (sym (utf8_lossy-IsUtf8 bytes text)) text
    by_test false is =
        let faulty : utf8_valid_len bytes ≡ length bytes → ⊥ = λ same. true≢false (sym (eq-eqb (utf8_valid_len bytes) (length bytes) same) ∙ is) in
        let rest : List ℕ = after_first_chunk bytes in
        subst IsUtf8 (sym (utf8_lossy_step bytes faulty))
        (IsUtf8-append (take (utf8_valid_len bytes) bytes) (replacement_bytes ++ utf8_lossy rest) (valid_taken bytes)
        (IsUtf8-append replacement_bytes (utf8_lossy rest) replacement_text (later rest (shorter bytes faulty))))

lossy_text : (n : ℕ) (bytes : List ℕ) → length bytes ≤ n → IsUtf8 (utf8_lossy bytes)
lossy_text zero bytes short = lossy_step bytes (λ rest less. absurd (omega (arith, short, less)))
lossy_text (suc n) bytes short = lossy_step bytes (λ rest less. lossy_text n rest (omega (arith, short, less)))

lossy_any : (bytes : List ℕ) → IsUtf8 (utf8_lossy bytes)
lossy_any bytes = lossy_text (length bytes) bytes (omega arith)

-- ---- a request

decoded_utf8 : (pairs : List Pair) → list_all (λ (pair : Pair). is_utf8 pair.1) (map decoded_pair pairs) ≡ true
decoded_utf8 [] = refl
decoded_utf8 (pair ∷ pairs) = both (is_utf8-from_IsUtf8 (decoded_text pair.1) (lossy_any _)) (decoded_utf8 pairs)

-- the values of pairs
abbrev are_legal_values : List Pair → Bool
are_legal_values pairs = list_all (λ (pair : Pair). is_legal_text pair.1) pairs

values_legal : (pairs : List Pair) → list_all (λ (pair : Pair). is_utf8 pair.1) pairs ≡ true → has_xml_values pairs ≡ true → are_legal_values pairs ≡ true
unfolding has_xml_values
values_legal [] first second = refl
values_legal (pair ∷ pairs) first second =
    let one = and_parts (is_utf8 pair.1) (list_all (λ (pair : Pair). is_utf8 pair.1) pairs) first in
    let two = and_parts (is_xml_text pair.1) (list_all (λ (pair : Pair). is_xml_text pair.1) pairs) second in
    both (both one.0 two.0) (values_legal pairs one.1 two.1)

of_values : (pairs : List Pair) → are_legal_values pairs ≡ true → list_all is_legal_text (map (λ (pair : Pair). pair.1) pairs) ≡ true
of_values [] all = refl
of_values (pair ∷ pairs) all = let parts = and_parts (is_legal_text pair.1) (are_legal_values pairs) all in both parts.0 (of_values pairs parts.1)

once_legal : (values : List (List ℕ)) (value : List ℕ) → list_all is_legal_text values ≡ true → occurrence_of values ≡ at_most_once (Some value) → is_legal_text value ≡ true
once_legal [] value all is = cc
once_legal (v ∷ []) value all is = let same : v ≡ value = cc in subst (λ (w : List ℕ). is_legal_text w ≡ true) same (and_parts (is_legal_text v) true all).0
once_legal (v ∷ other ∷ values) value all is = cc

value_legal : (k : List ℕ) (pairs : List Pair) (value : List ℕ) → are_legal_values pairs ≡ true → given k pairs ≡ at_most_once (Some value) → is_legal_text value ≡ true
unfolding given values_of
value_legal k pairs value all is =
    once_legal _ value (of_values _ (all-filter (λ (pair : Pair). is_legal_text pair.1) (λ (pair : Pair). bytes_eq pair.0 k) pairs all)) is

maybe_legal : (k : List ℕ) (pairs : List Pair) (value : Option (List ℕ)) → are_legal_values pairs ≡ true → given k pairs ≡ at_most_once value → is_legal_argument value ≡ true
maybe_legal k pairs None all is = refl
maybe_legal k pairs (Some value) all is = value_legal k pairs value all is

seven : {a b c d e f g : Bool} → a ≡ true → b ≡ true → c ≡ true → d ≡ true → e ≡ true → f ≡ true → g ≡ true → (a && b && c && d && e && f && g) ≡ true
seven a b c d e f g = both (both (both (both (both (both a b) c) d) e) f) g

verb_legal : (verb : ListVerb) → is_legal_text (name_of (verb_of_list verb)) ≡ true
verb_legal list.Identifiers = plain_text (codes "ListIdentifiers") refl
verb_legal list.Records = plain_text (codes "ListRecords") refl
verb_legal list.Sets = plain_text (codes "ListSets") refl

arguments_legal : (g : Granularity) (pairs : List Pair) (asked : AskOrError) → list_all (λ (pair : Pair). is_utf8 pair.1) pairs ≡ true → IsAskOrError g pairs asked
    → have_legal_arguments (arguments_of_request asked) ≡ true
arguments_legal g pairs bad_verb utf8 is = refl
arguments_legal g pairs bad_argument utf8 is = refl
arguments_legal g pairs (asks ask.Identify) utf8 is = seven (plain_text (codes "Identify") refl) refl refl refl refl refl refl
arguments_legal g pairs (asks ask.Sets) utf8 is = seven (plain_text (codes "ListSets") refl) refl refl refl refl refl refl
arguments_legal g pairs (asks (ask.Formats identifier)) utf8 is =
    seven (plain_text (codes "ListMetadataFormats") refl) (maybe_legal (codes "identifier") pairs identifier (values_legal pairs utf8 is.0.texts) is.1) refl refl refl refl refl
arguments_legal g pairs (asks (ask.Get identifier prefix)) utf8 is =
    let all = values_legal pairs utf8 is.asked.texts in
    seven (plain_text (codes "GetRecord") refl) (value_legal (codes "identifier") pairs identifier all is.identified) (value_legal (codes "metadataPrefix") pairs prefix all is.formatted) refl refl refl refl
arguments_legal g pairs (asks (ask.List verb prefix from until set)) utf8 is =
    let all = values_legal pairs utf8 is.asked.texts in
    seven (verb_legal verb) refl (value_legal (codes "metadataPrefix") pairs prefix all is.formatted) (maybe_legal (codes "from") pairs from all is.starts) (maybe_legal (codes "until") pairs until all is.ends)
    (maybe_legal (codes "set") pairs set all is.selected) refl
arguments_legal g pairs (asks (ask.Resume verb token)) utf8 is =
    seven (verb_legal verb) refl refl refl refl refl (value_legal (codes "resumptionToken") pairs token (values_legal pairs utf8 is.0.texts) is.1)

pub query_command : (g : Granularity) (arguments : List ℕ) → is_legal_command (command_of g (query arguments)) ≡ true
unfolding decoded_pairs
query_command g arguments =
    let pairs : List Pair = decoded_pairs arguments in
    arguments_legal g pairs (request_of g pairs) (decoded_utf8 _) ((gives_the_answer g pairs (request_of g pairs)).0 refl)
