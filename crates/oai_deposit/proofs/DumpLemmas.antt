-- Lines that a dump prints, and the changes that they request.
use Rattle.std.proofs.Common.{◌≡◌, ◌&&◌, ◌||◌, ℕ, Bool, true, false, cond, not, Option, None, List, [], ◌∷◌, ◌++◌, map, codes, if◌then◌else◌, Some, Result, Ok, refl, ap, sym, ◌∙◌}
use Rattle.std.proofs.lemmas.List.{map-append}
use Rattle.std.proofs.lemmas.List.Concat.{flat_map-cons}
use Rattle.std.proofs.lemmas.List.Elements.{All-head, All-tail}
use Rattle.std.specs.Cmp.Lexicographic.{slice_cmp}
use Rattle.std.specs.List.{All, AllZip, filter, flat_map, list_all}
use Rattle.std.specs.Map.{lookup}
use Rattle.std.specs.Ordering.{is_eq, is_lt, nat_cmp}
use Rattle.std.specs.Str.{bytes_eq}
use Rattle.std.specs.declared.cmp.Ordering.TheVariants.{Less}
use Rattle.std.proofs.lemmas.Cmp.{nat_list_cmp_total}
use Rattle.std.proofs.lemmas.Map.Text.{is_eq-slice_cmp}
use Rattle.std.proofs.lemmas.Slice.Eq.{bytes_eq-Decides}
use Rattle.std.proofs.lemmas.Bool.{and_from, and_parts}
use Rattle.serde_json.specs.Data.{Data, string}
use Rattle.serde_json.specs.Written.{has_float, items_have_float, members_have_float}
use Rattle.serde_json.proofs.OnLiterals.{serde_json_on_literals}
use Rattle.oai_xml.specs.Documents.{canonical, is_canonical}
use Rattle.oai_xml.proofs.CanonicalLemmas.{canonical_again, element_tested}
use Rattle.oai_item.specs.Elements.{about_in, behind_content, content_in, element_in, is_about, is_nameless}
use Rattle.oai_item.specs.Givens.{GivenRecord, given_back, given_of, is_none_or_canonical, kept}
use Rattle.oai_item.specs.Item.{ItemState, Metadata, are_rising, are_set_specs, is_before}
use Rattle.oai_item.specs.declared.forms.Forms.{Forms}
use Rattle.oai_item.specs.declared.forms.Forms.TheVariants.{Elements, Fields}
use Rattle.oai_item.specs.declared.givens.Given.{Given}
use Rattle.oai_item.specs.declared.givens.Given.TheVariants.{Listed, Whole}
use Rattle.oai_item.proofs.GivenLemmas.{kept_back}
use Rattle.oai_deposit.specs.declared.changes.Change.{Change}
use Rattle.oai_deposit.specs.declared.changes.Change.TheVariants as change
use Rattle.oai_item.specs.declared.fields.Field.{Field}
use Rattle.oai_item.specs.declared.refusals.LineRefusal.{LineRefusal}
use Rattle.oai_deposit.specs.Dumps.{about_member, has_about, line_about, line_abouts, line_record, IsHeldItem, IsHeldSet, IsLineOf, deletion_value, deposit_value, dump_changes, dump_values, item_changes, item_values, set_value}
use Rattle.oai_names.specs.Names.{is_among}
use Rattle.oai_json.specs.Json.{items_of, json_in, members_of, object_of}
use Rattle.oai_deposit.specs.Lines.{LineAbout, LineRecord, about_read, adds_set, are_about_records, are_of_forms, are_records_of, as_given, before_about, is_of_forms, may_be_about, texts_about, texts_or_none, with_abouts, as_deposit, asked_change, asked_parts, before_others, change_asked, deletes, deposits, elements_read, given_element, have_xml_texts, line_of, read_as_element, shape_of, value_asked}
use Rattle.oai_deposit.specs.Shapes.{IsDeposit, written_about, written_field, written_given, written_record, written_records, written_texts}
use Rattle.oai_deposit.proofs.CountLemmas.{not_empty}
use Rattle.oai_deposit.proofs.ShapeLemmas.{shape_law_holds}
use Rattle.oai_deposit.proofs.ValueLemmas.{less}

-- ---- what a value requests

abbrev asked : Forms → Data → Result Change LineRefusal
asked forms d = change_asked (shape_of forms d)

-- each prefix about whose record something is printed is that of a record that is printed
under_more : (r : LineRecord) (rs : List LineRecord) (ts : List LineAbout) → are_about_records rs ts ≡ true → are_about_records (r ∷ rs) ts ≡ true
under_more r rs [] is = refl
under_more r rs (a ∷ ts) is =
    let parts = and_parts (is_among (map (λ (x : LineRecord). x.0) rs) a.0) (are_about_records rs ts) is in
    and_from (is_among (map (λ (x : LineRecord). x.0) (r ∷ rs)) a.0) (are_about_records (r ∷ rs) ts) (or_more (bytes_eq a.0 r.0) _ parts.0) (under_more r rs ts parts.1)
  where
    or_more : (b c : Bool) → c ≡ true → (b || c) ≡ true
    or_more true c is = refl
    or_more false c is = is

same_bytes : (p : List ℕ) → bytes_eq p p ≡ true
same_bytes p = (bytes_eq-Decides p p).1 refl

under_all : (records : List GivenRecord) → are_about_records (map line_record records) (line_abouts records) ≡ true
under_all [] = refl
under_all (r ∷ records) =
    by_test (has_about r) (under_more (line_record r) (map line_record records) (line_abouts records) (under_all records))
  where
    here : is_among (map (λ (x : LineRecord). x.0) (map line_record (r ∷ records))) r.0 ≡ true
    here = ap (λ b. b || is_among (map (λ (x : LineRecord). x.0) (map line_record records)) r.0) (same_bytes r.0)

    by_test : (b : Bool) → are_about_records (map line_record (r ∷ records)) (line_abouts records) ≡ true
        → are_about_records (map line_record (r ∷ records)) (map line_about (cond b (r ∷ filter has_about records) (filter has_about records))) ≡ true
    by_test true others = and_from (is_among (map (λ (x : LineRecord). x.0) (map line_record (r ∷ records))) r.0) _ here others
    by_test false others = others

-- with `Fields` nothing is printed about a record
none_printed : (records : List GivenRecord) → are_of_forms Fields records ≡ true → line_abouts records ≡ []
none_printed [] formed = refl
none_printed (r ∷ records) formed =
    let parts = and_parts (is_of_forms Fields r.1 && may_be_about Fields r.2) (are_of_forms Fields records) formed in
    let own = and_parts (is_of_forms Fields r.1) (may_be_about Fields r.2) parts.0 in
    ap (λ b. map line_about (cond (not b) (r ∷ filter has_about records) (filter has_about records))) own.1 ∙ none_printed records parts.1

lists_printed : (forms : Forms) (records : List GivenRecord) → are_of_forms forms records ≡ true → are_records_of forms (map line_record records) ≡ true
lists_printed forms [] formed = refl
lists_printed forms (r ∷ records) formed =
    let parts = and_parts (is_of_forms forms r.1 && may_be_about forms r.2) (are_of_forms forms records) formed in
    and_from (is_of_forms forms r.1) (are_records_of forms (map line_record records)) (and_parts (is_of_forms forms r.1) (may_be_about forms r.2) parts.0).0 (lists_printed forms records parts.1)

-- the object of these members is the deposit
abbrev pub value_of : List LineAbout → List ℕ → List (List ℕ) → List LineRecord → Data
value_of abouts identifier sets records =
    object_of (about_member abouts ++ (codes "deposit", string identifier) ∷ (codes "records", written_records records) ∷ (codes "sets", written_texts sets) ∷ [])

value_is : (forms : Forms) (identifier : List ℕ) (sets : List (List ℕ)) (records : List LineRecord) (abouts : List LineAbout)
    → (forms ≡ Fields → abouts ≡ []) → are_about_records records abouts ≡ true → are_records_of forms records ≡ true
    → IsDeposit forms identifier sets records abouts (value_of abouts identifier sets records)
unfolding serde_json_on_literals
value_is Fields identifier sets records [] none under formed =
    record { deposit = refl; sets = refl; records = refl; about = refl; under = under; formed = formed; no_other = refl }
value_is Elements identifier sets records [] none under formed =
    record { deposit = refl; sets = refl; records = refl; about = refl; under = under; formed = formed; no_other = refl }
value_is Fields identifier sets records (a ∷ ts) none under formed = let wrong = none refl in absurd cc
value_is Elements identifier sets records (a ∷ ts) none under formed =
    record { deposit = refl; sets = refl; records = refl; about = refl; under = under; formed = formed; no_other = refl }

no_abouts : (forms : Forms) (records : List GivenRecord) → are_of_forms forms records ≡ true → forms ≡ Fields → line_abouts records ≡ []
no_abouts Fields records formed fields = none_printed records formed
no_abouts Elements records formed fields = absurd cc

pub deposit_asked : (forms : Forms) (identifier : List ℕ) (sets : List (List ℕ)) (records : List GivenRecord) → are_of_forms forms records ≡ true
    → asked forms (deposit_value identifier sets records) ≡ asked_change (deposits identifier sets (map line_record records) (line_abouts records))
deposit_asked forms identifier sets records formed =
    ap change_asked (((shape_law_holds forms (deposit_value identifier sets records)).fits (deposits identifier sets (map line_record records) (line_abouts records))).1
    (value_is forms identifier sets (map line_record records) (line_abouts records) (no_abouts forms records formed) (under_all records) (lists_printed forms records formed)))

pub deletion_asked : (forms : Forms) (identifier : List ℕ) → asked forms (deletion_value identifier) ≡ asked_change (deletes identifier)
unfolding serde_json_on_literals
deletion_asked forms identifier =
    ap change_asked (((shape_law_holds forms (deletion_value identifier)).fits (deletes identifier)).1 (record { delete = refl; no_other = refl }))

pub set_asked : (forms : Forms) (spec name : List ℕ) → asked forms (set_value spec name) ≡ asked_change (adds_set spec name)
unfolding serde_json_on_literals
set_asked forms spec name =
    ap change_asked (((shape_law_holds forms (set_value spec name)).fits (adds_set spec name)).1 (record { set = refl; name = refl; no_other = refl }))

-- ---- of what is held nothing is refused

own_canonical : (text : List ℕ) → is_canonical text ≡ true → canonical text ≡ Ok text
own_canonical text is = canonical_again text (element_tested text is)

given_back_read : (fields : List Field) (o : Option (List ℕ)) → is_none_or_canonical o ≡ true → given_element (given_of fields o) ≡ Ok (given_of fields o)
given_back_read fields None is = refl
given_back_read fields (Some text) is = ap (λ (r : Result (List ℕ) ℕ). as_given (read_as_element r)) (own_canonical text is)

about_back : (fields : List Field) → list_all is_about fields ≡ true → about_read (map (λ (field : Field). field.text) fields) ≡ Ok (map (λ (field : Field). field.text) fields)
unfolding about_read
about_back [] is = refl
about_back (field ∷ fields) is =
    let parts = and_parts (is_about field) (list_all is_about fields) is in
    let own = and_parts (is_nameless field) (is_canonical field.text) parts.0 in
    ap (λ (r : Result (List ℕ) ℕ). before_others (read_as_element r) (about_read (map (λ (f : Field). f.text) fields))) (own_canonical field.text own.1)
    ∙ ap (before_others (Ok field.text)) (about_back fields parts.1)

-- each element that is kept is read as itself
elements_back : (records : List Metadata) → list_all (λ (m : Metadata). is_none_or_canonical (element_in m.1)) records ≡ true
    → list_all (λ (m : Metadata). list_all is_about (behind_content m.1)) records ≡ true
    → elements_read (map given_back records) ≡ Ok (map given_back records)
unfolding elements_read
elements_back [] is about = refl
elements_back (m ∷ records) is about =
    let parts = and_parts (is_none_or_canonical (element_in m.1)) (list_all (λ (m : Metadata). is_none_or_canonical (element_in m.1)) records) is in
    let abouts = and_parts (list_all is_about (behind_content m.1)) (list_all (λ (m : Metadata). list_all is_about (behind_content m.1)) records) about in
    ap (λ (g : Result Given LineRefusal). before_others (before_about m.0 g (about_read (about_in m.1))) (elements_read (map given_back records)))
    (given_back_read (content_in m.1) (element_in m.1) parts.0)
    ∙ ap (λ (a : Result (List (List ℕ)) LineRefusal). before_others (before_about m.0 (Ok (given_of (content_in m.1) (element_in m.1))) a) (elements_read (map given_back records)))
    (about_back (behind_content m.1) abouts.0)
    ∙ ap (before_others (Ok (given_back m))) (elements_back records parts.1 abouts.1)

-- ---- what is printed about records is joined to them as it was

-- a record whose prefix is not that of another
abbrev is_other : List ℕ → GivenRecord → Bool
is_other p r = not (bytes_eq r.0 p)

abbrev have_other : List ℕ → List GivenRecord → Bool
have_other p records = list_all (is_other p) records

not_same : (p q : List ℕ) → slice_cmp nat_cmp p q ≡ Less → bytes_eq p q ≡ false
not_same p q is = sym (is_eq-slice_cmp p q) ∙ ap is_eq is

turned : (p q : List ℕ) → bytes_eq p q ≡ false → bytes_eq q p ≡ false
turned p q is = by_test (bytes_eq q p) refl
  where
    by_test : (b : Bool) → bytes_eq q p ≡ b → b ≡ false
    by_test true same = absurd (wrong (sym is ∙ (bytes_eq-Decides p q).1 (sym ((bytes_eq-Decides q p).0 same))))
      where
        wrong : false ≡ true → ⊥
        wrong is = absurd cc
    by_test false same = refl

-- the first prefix is before each other one
skipped : (a b : Metadata) (records : List Metadata) → are_rising (a ∷ b ∷ records) ≡ true → are_rising (a ∷ records) ≡ true
skipped a b [] rise = refl
skipped a b (m ∷ records) rise =
    let first = and_parts (is_before a.0 b.0) (are_rising (b ∷ m ∷ records)) rise in
    let second = and_parts (is_before b.0 m.0) (are_rising (m ∷ records)) first.1 in
    let past = nat_list_cmp_total.trans a.0 b.0 m.0 (less _ first.0) (less _ second.0) in
    and_from (is_before a.0 m.0) (are_rising (m ∷ records)) (ap is_lt past) second.1

apart : (a : Metadata) (records : List Metadata) → are_rising (a ∷ records) ≡ true → have_other a.0 (map given_back records) ≡ true
apart a [] rise = refl
apart a (b ∷ records) rise =
    let first = and_parts (is_before a.0 b.0) (are_rising (b ∷ records)) rise in
    and_from (is_other a.0 (given_back b)) (have_other a.0 (map given_back records)) (ap not (turned a.0 b.0 (not_same a.0 b.0 (less _ first.0)))) (apart a records (skipped a b records rise))

tail_rises : (a : Metadata) (records : List Metadata) → are_rising (a ∷ records) ≡ true → are_rising records ≡ true
tail_rises a [] rise = refl
tail_rises a (b ∷ records) rise = (and_parts (is_before a.0 b.0) (are_rising (b ∷ records)) rise).1

is_not : (b : Bool) → not b ≡ true → b ≡ false
is_not true is = absurd cc
is_not false is = refl

-- under another prefix nothing is found
none_found : (p : List ℕ) (records : List GivenRecord) → have_other p records ≡ true → lookup (bytes_eq p) (line_abouts records) ≡ None
none_found p [] others = refl
none_found p (r ∷ records) others =
    let parts = and_parts (is_other p r) (have_other p records) others in
    by_test (has_about r) (turned r.0 p (is_not (bytes_eq r.0 p) parts.0)) (none_found p records parts.1)
  where
    by_test : (b : Bool) → bytes_eq p r.0 ≡ false → lookup (bytes_eq p) (line_abouts records) ≡ None
        → lookup (bytes_eq p) (map line_about (cond b (r ∷ filter has_about records) (filter has_about records))) ≡ None
    by_test true other none = ap (λ b. cond b (Some r.2) (lookup (bytes_eq p) (line_abouts records))) other ∙ none
    by_test false other none = none

first_found : (r : GivenRecord) (records : List GivenRecord) → have_other r.0 records ≡ true → texts_about (line_abouts (r ∷ records)) r.0 ≡ r.2
first_found r records others = by_texts r.2
  where
    by_texts : (texts : List (List ℕ))
        → texts_or_none (lookup (bytes_eq r.0) (map line_about (cond (has_about (r.0, r.1, texts)) ((r.0, r.1, texts) ∷ filter has_about records) (filter has_about records)))) ≡ texts
    by_texts [] = ap texts_or_none (none_found r.0 records others)
    by_texts (text ∷ texts) =
        ap (λ b. texts_or_none (lookup (bytes_eq r.0) (map line_about (cond (not b) ((r.0, r.1, text ∷ texts) ∷ filter has_about records) (filter has_about records))))) (not_empty text texts)
        ∙ ap (λ b. texts_or_none (cond b (Some (text ∷ texts)) (lookup (bytes_eq r.0) (line_abouts records)))) (same_bytes r.0)

-- what is about the first is not found under another prefix
past_first : (r : GivenRecord) (records : List GivenRecord) (p : List ℕ) → bytes_eq p r.0 ≡ false → texts_about (line_abouts (r ∷ records)) p ≡ texts_about (line_abouts records) p
past_first r records p other = by_test (has_about r)
  where
    by_test : (b : Bool) → texts_or_none (lookup (bytes_eq p) (map line_about (cond b (r ∷ filter has_about records) (filter has_about records)))) ≡ texts_about (line_abouts records) p
    by_test true = ap (λ b. texts_or_none (cond b (Some r.2) (lookup (bytes_eq p) (line_abouts records)))) other
    by_test false = refl

others_joined : (r : GivenRecord) (all records : List GivenRecord) → have_other r.0 records ≡ true
    → with_abouts (map line_record records) (line_abouts (r ∷ all)) ≡ with_abouts (map line_record records) (line_abouts all)
others_joined r all [] others = refl
others_joined r all (m ∷ records) others =
    let parts = and_parts (is_other r.0 m) (have_other r.0 records) others in
    ap (λ (texts : List (List ℕ)). (m.0, m.1, texts) ∷ with_abouts (map line_record records) (line_abouts (r ∷ all))) (past_first r all m.0 (is_not (bytes_eq m.0 r.0) parts.0))
    ∙ ap (λ (rs : List GivenRecord). (m.0, m.1, texts_about (line_abouts all) m.0) ∷ rs) (others_joined r all records parts.1)

joined : (records : List Metadata) → are_rising records ≡ true
    → with_abouts (map line_record (map given_back records)) (line_abouts (map given_back records)) ≡ map given_back records
joined [] rise = refl
joined (m ∷ records) rise =
    let others : List GivenRecord = map given_back records in
    let other = apart m records rise in
    ap (λ (texts : List (List ℕ)). (m.0, (given_back m).1, texts) ∷ with_abouts (map line_record others) (line_abouts (given_back m ∷ others))) (first_found (given_back m) others other)
    ∙ ap (λ (rs : List GivenRecord). given_back m ∷ rs) (others_joined (given_back m) others others other)
    ∙ ap (λ (rs : List GivenRecord). given_back m ∷ rs) (joined records (tail_rises m records rise))

held_deposit : (forms : Forms) (item : ItemState) → IsHeldItem forms item
    → asked forms (deposit_value item.identifier item.sets (map given_back item.formats)) ≡ Ok (change.Deposit item.identifier item.sets (map given_back item.formats))
unfolding asked_change are_set_specs
held_deposit forms item held =
    let given : List GivenRecord = map given_back item.formats in
    let texts : have_xml_texts (map kept given) ≡ true = ap have_xml_texts (kept_back item.formats held.about) ∙ held.texts in
    deposit_asked forms item.identifier item.sets given held.formed
    ∙ ap (λ (rs : List GivenRecord). as_deposit (asked_parts item.identifier item.sets (elements_read rs))) (joined item.formats held.valid.rising)
    ∙ ap (λ (read : Result (List GivenRecord) LineRefusal). as_deposit (asked_parts item.identifier item.sets read)) (elements_back item.formats held.canonical held.about)
    ∙ rw (held.valid.identified, held.valid.in_sets, texts) refl

held_deletion : (forms : Forms) (item : ItemState) → IsHeldItem forms item → asked forms (deletion_value item.identifier) ≡ Ok (change.Delete item.identifier)
unfolding asked_change
held_deletion forms item held = deletion_asked forms item.identifier ∙ rw held.valid.identified refl

held_set : (forms : Forms) (set : List ℕ × List ℕ) → IsHeldSet set → asked forms (set_value set.0 set.1) ≡ Ok (change.AddSet set.0 set.1)
unfolding asked_change
held_set forms set held = set_asked forms set.0 set.1 ∙ rw (held.spec, held.name) refl

-- a deposit, and where it is deleted its deletion
one_or_both : (forms : Forms) (live : Bool) (d e : Data) (c b : Change) → asked forms d ≡ Ok c → asked forms e ≡ Ok b
    → map (asked forms) (d ∷ (if live then [] else e ∷ [])) ≡ map (λ (x : Change). Ok x) (c ∷ (if live then [] else b ∷ []))
one_or_both forms true d e c b first second = rw first refl
one_or_both forms false d e c b first second = rw (first, second) refl

held_item : (forms : Forms) (item : ItemState) → IsHeldItem forms item → map (asked forms) (item_values item) ≡ map (λ (x : Change). Ok x) (item_changes item)
held_item forms item held = one_or_both forms item.live _ _ _ _ (held_deposit forms item held) (held_deletion forms item held)

held_items : (forms : Forms) (items : List ItemState) → All (IsHeldItem forms) items → map (asked forms) (flat_map item_values items) ≡ map (λ (x : Change). Ok x) (flat_map item_changes items)
held_items forms [] all = refl
held_items forms (item ∷ items) all =
    ap (map (asked forms)) (flat_map-cons item_values item items) ∙ map-append (asked forms) (item_values item) (flat_map item_values items)
    ∙ ap (λ (vs : List (Result Change LineRefusal)). vs ++ map (asked forms) (flat_map item_values items)) (held_item forms item (All-head (IsHeldItem forms) item items all))
    ∙ ap (λ (vs : List (Result Change LineRefusal)). map (λ (x : Change). Ok x) (item_changes item) ++ vs) (held_items forms items (All-tail (IsHeldItem forms) item items all))
    ∙ sym (map-append (λ (x : Change). Ok x) (item_changes item) (flat_map item_changes items)) ∙ ap (map (λ (x : Change). Ok x)) (sym (flat_map-cons item_changes item items))

held_sets : (forms : Forms) (sets : List (List ℕ × List ℕ)) → All IsHeldSet sets
    → map (asked forms) (map (λ (s : List ℕ × List ℕ). set_value s.0 s.1) sets) ≡ map (λ (x : Change). Ok x) (map (λ (s : List ℕ × List ℕ). change.AddSet s.0 s.1) sets)
held_sets forms [] all = refl
held_sets forms (s ∷ sets) all = rw (held_set forms s (All-head IsHeldSet s sets all), held_sets forms sets (All-tail IsHeldSet s sets all)) refl

held_all : (forms : Forms) (sets : List (List ℕ × List ℕ)) (items : List ItemState) → All IsHeldSet sets → All (IsHeldItem forms) items
    → map (asked forms) (dump_values sets items) ≡ map (λ (x : Change). Ok x) (dump_changes sets items)
held_all forms sets items ss is =
    map-append (asked forms) (map (λ (s : List ℕ × List ℕ). set_value s.0 s.1) sets) (flat_map item_values items)
    ∙ ap (λ (vs : List (Result Change LineRefusal)). vs ++ map (asked forms) (flat_map item_values items)) (held_sets forms sets ss)
    ∙ ap (λ (vs : List (Result Change LineRefusal)). map (λ (x : Change). Ok x) (map (λ (s : List ℕ × List ℕ). change.AddSet s.0 s.1) sets) ++ vs) (held_items forms items is)
    ∙ sym (map-append (λ (x : Change). Ok x) (map (λ (s : List ℕ × List ℕ). change.AddSet s.0 s.1) sets) (flat_map item_changes items))

-- ---- a line is read as the value that it is written for

pub read_line : (forms : Forms) (line : List ℕ) (d : Data) → json_in line ≡ Some d → line_of forms line ≡ asked forms d
unfolding line_of
read_line forms line d is = ap (value_asked forms) is

read_lines : (forms : Forms) (values : List Data) (lines : List (List ℕ)) → AllZip IsLineOf values lines → map (line_of forms) lines ≡ map (asked forms) values
read_lines forms [] [] all = refl
read_lines forms [] (line ∷ lines) all = absurd all
read_lines forms (d ∷ values) [] all = absurd all
read_lines forms (d ∷ values) (line ∷ lines) all = rw (read_line forms line d all.0.reads, read_lines forms values lines all.1) refl

pub dump_read : (forms : Forms) (sets : List (List ℕ × List ℕ)) (items : List ItemState) (lines : List (List ℕ)) → All IsHeldSet sets → All (IsHeldItem forms) items
    → AllZip IsLineOf (dump_values sets items) lines → map (line_of forms) lines ≡ map (λ (x : Change). Ok x) (dump_changes sets items)
dump_read forms sets items lines ss is all = read_lines forms (dump_values sets items) lines all ∙ held_all forms sets items ss is

-- ---- texts have no numbers

texts_without : (ts : List (List ℕ)) → items_have_float (items_of (map string ts)) ≡ false
texts_without [] = refl
texts_without (t ∷ ts) = texts_without ts

fields_without : (fs : List Field) → items_have_float (items_of (map written_field fs)) ≡ false
fields_without [] = refl
fields_without (f ∷ fs) = fields_without fs

given_without : (given : Given) → has_float (written_given given) ≡ false
given_without (Listed fields) = fields_without fields
given_without (Whole text) = refl

records_without : (ms : List LineRecord) → members_have_float (members_of (map written_record ms)) ≡ false
records_without [] = refl
records_without (m ∷ ms) = rw (given_without m.1, records_without ms) refl

abouts_without : (ts : List LineAbout) → members_have_float (members_of (map written_about ts)) ≡ false
abouts_without [] = refl
abouts_without (a ∷ ts) = rw (texts_without a.1, abouts_without ts) refl

value_without : (abouts : List LineAbout) (identifier : List ℕ) (sets : List (List ℕ)) (records : List LineRecord) → has_float (value_of abouts identifier sets records) ≡ false
value_without [] identifier sets records = rw (records_without records, texts_without sets) refl
value_without (a ∷ ts) identifier sets records = rw (abouts_without (a ∷ ts), records_without records, texts_without sets) refl

pub deposit_without : (identifier : List ℕ) (sets : List (List ℕ)) (records : List GivenRecord) → has_float (deposit_value identifier sets records) ≡ false
deposit_without identifier sets records = value_without (line_abouts records) identifier sets (map line_record records)
