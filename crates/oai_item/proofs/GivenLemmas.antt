-- What a deposit gives, and how an item keeps it.
use Rattle.std.proofs.Common.{◌≡◌, ◌∙◌, ◌≤◌, ℕ, ◌-◌, Bool, true, false, ◌&&◌, cond, eqb, List, [], ◌∷◌, ◌++◌, map, length, take, drop, Option, Some, None, refl, sym, ap, arith}
use Rattle.std.specs.List.{list_all}
use Rattle.std.proofs.lemmas.Bool.{and_parts, eqb-true}
use Rattle.std.proofs.lemmas.List.{drop_all, take-append-drop, take_all}
use Rattle.oai_xml.specs.Documents.{is_canonical}
use Rattle.oai_xml.specs.Roots.{RootName}
use Rattle.oai_item.specs.Elements.{about_in, behind_content, content_in, element_field, element_in, element_of_content, has_root_of, is_about, is_element_of, is_nameless, is_root_of, nameless_text, root_in}
use Rattle.oai_item.specs.Givens.{AreNoted, GivenRecord, IsElementWith, IsNoted, IsNotedContent, all_given, field_texts, first_noted, given_back, given_of, kept, kept_fields, listed_record, no_note, noted_about, noted_content, noted_given, noted_record}
use Rattle.oai_item.specs.Item.{Metadata, are_rising}
use Rattle.oai_item.specs.Known.{is_given_in, may_have_about}
use Rattle.oai_item.specs.declared.fields.Field.{Field}
use Rattle.oai_item.specs.declared.formats.Format.{Format}
use Rattle.oai_item.specs.declared.givens.Given.TheVariants.{Listed}
use Rattle.oai_item.specs.declared.notes.Note.{Note}
use Rattle.oai_item.proofs.Contents.{content_and_behind}

-- ---- an element is kept as one field, which has no name

no_name : (name : List ℕ) → eqb (length name) 0 ≡ true → name ≡ []
no_name [] is = refl
no_name (b ∷ name) is = let none : length (b ∷ name) ≡ 0 = eqb-true (length (b ∷ name)) 0 is in absurd (omega arith)

by_test : (b : Bool) (name given text : List ℕ) → (b ≡ true → name ≡ []) → cond b (Some given) None ≡ Some text → (name ≡ []) × (given ≡ text)
by_test true name given text none is = (none refl, cc)
by_test false name given text none is = absurd cc

nameless : (field : Field) (text : List ℕ) → nameless_text field ≡ Some text → field ≡ element_field text
nameless field text is =
    let p = by_test (eqb (length field.name) 0) field.name field.text text (no_name field.name) is in
    let made : List ℕ → List ℕ → Field = λ a b. record { name = a; text = b } in
    ap (λ (w : List ℕ). made w field.text) p.0 ∙ ap (made []) p.1

pub kept_element : (fields : List Field) (text : List ℕ) → element_of_content fields ≡ Some text → fields ≡ element_field text ∷ []
kept_element [] text is = absurd cc
kept_element (field ∷ []) text is = ap (λ (w : Field). w ∷ []) (nameless field text is)
kept_element (field ∷ other ∷ fields) text is = absurd cc

-- and is found there
pub element_again : (text : List ℕ) → element_of_content (element_field text ∷ []) ≡ Some text
element_again text = refl

-- ---- an element about a record is kept as a field without a name

about_field : (field : Field) → is_nameless field ≡ true → element_field field.text ≡ field
about_field field is =
    let made : List ℕ → List ℕ → Field = λ a b. record { name = a; text = b } in
    sym (ap (λ (w : List ℕ). made w field.text) (no_name field.name is))

pub all_about : (fields : List Field) → list_all is_nameless fields ≡ true → map element_field (field_texts fields) ≡ fields
all_about [] is = refl
all_about (field ∷ fields) is =
    let p = and_parts (is_nameless field) (list_all is_nameless fields) is in
    ap (λ (w : Field). w ∷ map element_field (field_texts fields)) (about_field field p.0) ∙ ap (λ (ws : List Field). field ∷ ws) (all_about fields p.1)

pub all_nameless : (fields : List Field) → list_all is_about fields ≡ true → list_all is_nameless fields ≡ true
all_nameless [] is = refl
all_nameless (field ∷ fields) is =
    let p = and_parts (is_about field) (list_all is_about fields) is in
    let n = and_parts (is_nameless field) _ p.0 in
    ap (λ b. b && list_all is_nameless fields) n.0 ∙ all_nameless fields p.1

-- ---- what is given is kept as it was held

kept_given : (fields : List Field) (o : Option (List ℕ)) → element_of_content fields ≡ o → kept_fields (given_of fields o) ≡ fields
kept_given fields None is = refl
kept_given fields (Some text) is = sym (kept_element fields text is)

pub kept_noted : (fields : List Field) (root : Option RootName) → kept_fields (noted_given fields root) ≡ fields
kept_noted fields None = refl
kept_noted fields (Some root) = kept_given fields (element_of_content fields) refl

record_again : (r : Metadata) (note : Note) → IsNoted r.1 note → kept (noted_record r note) ≡ r
record_again r note is =
    let content : List Field = noted_content r.1 note in
    let about : List Field = noted_about r.1 note in
    ap (λ (fields : List Field). (r.0, fields ++ map element_field (field_texts about))) (kept_noted content note.root)
    ∙ ap (λ (fields : List Field). (r.0, content ++ fields)) (all_about about (all_nameless about is.about))
    ∙ ap (λ (fields : List Field). (r.0, fields)) (take-append-drop (length r.1 - note.about) r.1)

pub kept_again : (records : List Metadata) (notes : List Note) → AreNoted records notes → map kept (all_given records notes) ≡ records
kept_again [] notes noted = refl
kept_again (r ∷ records) notes noted =
    let others : List GivenRecord = all_given records (first_noted notes).1 in
    ap (λ (w : Metadata). w ∷ map kept others) (record_again r (first_noted notes).0 noted.0)
    ∙ ap (λ (rs : List Metadata). r ∷ rs) (kept_again records (first_noted notes).1 noted.1)

pub rising_kept : (records : List Metadata) (notes : List Note) → AreNoted records notes → are_rising records ≡ true → are_rising (map kept (all_given records notes)) ≡ true
rising_kept records notes noted rise = ap are_rising (kept_again records notes noted) ∙ rise

-- ---- where nothing is noted, each record is a list

all_content : (fields : List Field) → noted_content fields no_note ≡ fields
all_content fields = take_all (length fields - 0) fields (omega arith)

no_about : (fields : List Field) → noted_about fields no_note ≡ []
no_about fields = drop_all (length fields - 0) fields (omega arith)

unnoted : (r : Metadata) → noted_record r no_note ≡ listed_record r
unnoted r =
    ap (λ (fields : List Field). (r.0, Listed fields, field_texts (noted_about r.1 no_note))) (all_content r.1)
    ∙ ap (λ (fields : List Field). (r.0, Listed r.1, field_texts fields)) (no_about r.1)

pub all_listed : (records : List Metadata) → all_given records [] ≡ map listed_record records
all_listed [] = refl
all_listed (r ∷ records) =
    ap (λ (w : GivenRecord). w ∷ all_given records []) (unnoted r)
    ∙ ap (λ (rs : List GivenRecord). listed_record r ∷ rs) (all_listed records)

pub none_noted : (records : List Metadata) → AreNoted records []
none_noted [] = tt
none_noted (r ∷ records) =
    let one : IsNoted r.1 no_note = record { content = tt; few = omega arith; about = ap (list_all is_about) (no_about r.1) } in
    (one, none_noted records)

-- ---- what is kept was given so

back_again : (r : Metadata) → list_all is_about (behind_content r.1) ≡ true → kept (given_back r) ≡ r
back_again r is =
    let content : List Field = content_in r.1 in
    let about : List Field = behind_content r.1 in
    ap (λ (fields : List Field). (r.0, fields ++ map element_field (field_texts about))) (kept_given content (element_in r.1) refl)
    ∙ ap (λ (fields : List Field). (r.0, content ++ fields)) (all_about about (all_nameless about is))
    ∙ ap (λ (fields : List Field). (r.0, fields)) (content_and_behind r.1)

pub kept_back : (records : List Metadata) → list_all (λ (r : Metadata). list_all is_about (behind_content r.1)) records ≡ true → map kept (map given_back records) ≡ records
kept_back [] is = refl
kept_back (r ∷ records) is =
    let p = and_parts (list_all is_about (behind_content r.1)) (list_all (λ (m : Metadata). list_all is_about (behind_content m.1)) records) is in
    ap (λ (w : Metadata). w ∷ map kept (map given_back records)) (back_again r p.0)
    ∙ ap (λ (rs : List Metadata). r ∷ rs) (kept_back records p.1)

-- ---- an element is one of a format if the root is that is noted of it

element_with : (format : Format) (fields : List Field) (root : RootName) (o : Option (List ℕ)) → IsElementWith root o
    → is_root_of format root ≡ is_given_in (Some format) (given_of fields o)
unfolding is_element_of
element_with format fields root None noted = absurd noted
element_with format fields root (Some text) noted =
    sym (ap (λ b. b && has_root_of format (root_in text)) noted.0 ∙ ap (has_root_of format) noted.1)

pub noted_root : (format : Format) (fields : List Field) (root : RootName) → IsNotedContent fields (Some root)
    → is_root_of format root ≡ is_given_in (Some format) (noted_given fields (Some root))
noted_root format fields root noted = element_with format fields root (element_of_content fields) noted

-- ---- about a record that is given something may be given

canonical_texts : (about : List Field) → list_all is_about about ≡ true → list_all is_canonical (field_texts about) ≡ true
canonical_texts [] all = refl
canonical_texts (field ∷ about) all =
    let p = and_parts (is_about field) (list_all is_about about) all in
    rw ((and_parts (is_nameless field) (is_canonical field.text) p.0).1, canonical_texts about p.1) refl

about_some : (field : Field) (fields : List Field) (root : Option RootName) (about : List Field) → list_all is_about about ≡ true
    → may_have_about (noted_given (field ∷ fields) root) (field_texts about) ≡ true
about_some field fields None about all = canonical_texts about all
about_some field fields (Some root) about all = by_element (element_of_content (field ∷ fields))
  where
    by_element : (o : Option (List ℕ)) → may_have_about (given_of (field ∷ fields) o) (field_texts about) ≡ true
    by_element None = canonical_texts about all
    by_element (Some text) = canonical_texts about all

pub about_more : (fields : List Field) (root : Option RootName) (about : List Field) → eqb (length fields) 0 ≡ false → list_all is_about about ≡ true
    → may_have_about (noted_given fields root) (field_texts about) ≡ true
about_more [] root about some all = absurd cc
about_more (field ∷ fields) root about some all = about_some field fields root about all
