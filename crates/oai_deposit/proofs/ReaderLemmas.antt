-- The readers of a record's parts undo the writers.
use Rattle.std.proofs.Common.{◌≡◌, ◌⊎◌, inl, inr, ⊎_elim, ℕ, Bool, true, Option, None, Some, List, [], ◌∷◌, map, refl, sym, ap, ◌∙◌}
use Rattle.std.specs.List.{list_all}
use Rattle.std.proofs.lemmas.Bool.{and_from, and_parts}
use Rattle.serde_json.specs.Data.{Data, string}
use Rattle.serde_json.specs.Find.{as_str}
use Rattle.oai_item.specs.declared.fields.Field.{Field}
use Rattle.oai_names.specs.Optional.{◌>>=◌, each_of}
use Rattle.oai_item.specs.declared.forms.Forms.{Forms}
use Rattle.oai_item.specs.declared.forms.Forms.TheVariants as form
use Rattle.oai_item.specs.declared.givens.Given.{Given}
use Rattle.oai_item.specs.declared.givens.Given.TheVariants.{Listed, Whole}
use Rattle.oai_json.specs.Json.{array_of, elements_of, object_of}
use Rattle.oai_json.proofs.ReaderLemmas.{Undoes, each, list, members, members_from, text, texts, then}
use Rattle.oai_json.proofs.ReadingLemmas.{bind-Some, Some-injective}
use Rattle.oai_deposit.specs.Lines.{LineAbout, LineRecord, about_of, abouts_of, are_records_of, field_list_of, field_of, given_as, given_read, is_of_forms, pair_of, record_of, records_of, text_list_of}
use Rattle.oai_deposit.specs.Shapes.{written_about, written_abouts, written_field, written_given, written_record, written_records, written_texts}

abbrev two_strings : Field → List Data
two_strings field = string field.name ∷ string field.text ∷ []

pair : Undoes pair_of two_strings
unfolding pair_of
pair = record {
  takes = takes;
  again = λ field.
      ap (λ r. r >>= λ name. as_str (string field.text) >>= λ text. Some (record { name = name; text = text })) (text.again field.name)
      ∙ ap (λ r. r >>= λ text. Some (record { name = field.name; text = text })) (text.again field.text);
}
  where
    takes : (ds : List Data) (field : Field) → pair_of ds ≡ Some field → ds ≡ two_strings field
    takes [] field is = absurd cc
    takes (a ∷ []) field is = absurd cc
    takes (a ∷ b ∷ []) field is =
        let p = bind-Some (as_str a) (λ name. as_str b >>= λ text. Some (record { name = name; text = text })) field is in
        let q = bind-Some (as_str b) (λ text. Some (record { name = p.0; text = text })) field p.2 in
        let made : Field = record { name = p.0; text = q.0 } in
        ap (λ d. d ∷ b ∷ []) (text.takes a p.0 p.1) ∙ ap (λ d. string p.0 ∷ d ∷ []) (text.takes b q.0 q.1) ∙ ap two_strings (Some-injective made field q.2)
    takes (a ∷ b ∷ e ∷ ds) field is = absurd cc

one_field : Undoes field_of written_field
unfolding field_of
one_field = then elements_of array_of pair_of two_strings list pair

fields : Undoes field_list_of (λ xs. array_of (map written_field xs))
unfolding field_list_of
fields = then elements_of array_of (each_of field_of) (map written_field) list (each field_of written_field one_field)

-- ---- readers of some of the values alone

-- what the reader takes is what was written, and passes the test; and what passes it and was written is read
pub record UndoesOf {A B : Type 0} (good : B → Bool) (read : A → Option B) (written : B → A) : Type 0 where
  pub takes : (x : A) (y : B) → read x ≡ Some y → x ≡ written y
  pub is_good : (x : A) (y : B) → read x ≡ Some y → good y ≡ true
  pub again : (y : B) → good y ≡ true → read (written y) ≡ Some y

-- one reader after another
then_of : {A B C : Type 0} (good : C → Bool) (f : A → Option B) (g : B → A) (h : B → Option C) (k : C → B)
    → Undoes f g → UndoesOf good h k → UndoesOf good (λ x. f x >>= h) (λ z. g (k z))
then_of good f g h k first second = record {
  takes = λ x z is. let p = bind-Some (f x) h z is in first.takes x p.0 p.1 ∙ ap g (second.takes p.0 z p.2);
  is_good = λ x z is. let p = bind-Some (f x) h z is in second.is_good p.0 z p.2;
  again = λ z is. ap (λ r. r >>= h) (first.again (k z)) ∙ second.again z is;
}

each_takes : {A B : Type 0} (good : B → Bool) (f : A → Option B) (g : B → A) → UndoesOf good f g → (xs : List A) (ys : List B)
    → each_of f xs ≡ Some ys → (xs ≡ map g ys) × (list_all good ys ≡ true)
each_takes good f g one [] ys is = (ap (map g) (Some-injective [] ys is), ap (list_all good) (sym (Some-injective [] ys is)))
each_takes good f g one (x ∷ xs) ys is =
    let p = bind-Some (f x) (λ y. each_of f xs >>= λ ys. Some (y ∷ ys)) ys is in
    let q = bind-Some (each_of f xs) (λ ys. Some (p.0 ∷ ys)) ys p.2 in
    let others = each_takes good f g one xs q.0 q.1 in
    let same = Some-injective (p.0 ∷ q.0) ys q.2 in (
      ap (λ v. v ∷ xs) (one.takes x p.0 p.1) ∙ ap (λ vs. g p.0 ∷ vs) others.0 ∙ ap (map g) same,
      ap (list_all good) (sym same) ∙ and_from (good p.0) (list_all good q.0) (one.is_good x p.0 p.1) others.1,
    )

each_again : {A B : Type 0} (good : B → Bool) (f : A → Option B) (g : B → A) → UndoesOf good f g → (ys : List B) → list_all good ys ≡ true
    → each_of f (map g ys) ≡ Some ys
each_again good f g one [] is = refl
each_again good f g one (y ∷ ys) is =
    let parts = and_parts (good y) (list_all good ys) is in
    ap (λ r. r >>= λ z. each_of f (map g ys) >>= λ zs. Some (z ∷ zs)) (one.again y parts.0)
    ∙ ap (λ r. r >>= λ zs. Some (y ∷ zs)) (each_again good f g one ys parts.1)

each_one_of : {A B : Type 0} (good : B → Bool) (f : A → Option B) (g : B → A) → UndoesOf good f g → UndoesOf (list_all good) (each_of f) (map g)
each_one_of good f g one = record {
  takes = λ xs ys is. (each_takes good f g one xs ys is).0;
  is_good = λ xs ys is. (each_takes good f g one xs ys is).1;
  again = each_again good f g one;
}

-- ---- what is given

abbrev IsWholeText : Option (List ℕ) → Given → Type 0
IsWholeText t given = (text : List ℕ) × (t ≡ Some text) × (given ≡ Whole text)

abbrev IsFieldList : Option (List ℕ) → Option (List Field) → Given → Type 0
IsFieldList t o given = (fields : List Field) × (t ≡ None) × (o ≡ Some fields) × (given ≡ Listed fields)

given_parts : (t : Option (List ℕ)) (o : Option (List Field)) (given : Given) → given_as t o ≡ Some given → IsWholeText t given ⊎ IsFieldList t o given
given_parts (Some text) o given is = inl (text, refl, sym (Some-injective (Whole text) given is))
given_parts None (Some fields) given is = inr (fields, refl, refl, sym (Some-injective (Listed fields) given is))
given_parts None None given is = absurd cc

given_takes : (forms : Forms) (d : Data) (given : Given) → given_read forms d ≡ Some given → d ≡ written_given given
unfolding given_read
given_takes form.Fields d given is =
    ⊎_elim (λ (w : IsWholeText None given). absurd cc) (λ (l : IsFieldList None (field_list_of d) given). fields.takes d l.0 l.2 ∙ ap written_given (sym l.3))
    (given_parts None (field_list_of d) given is)
given_takes form.Elements d given is =
    ⊎_elim (λ (w : IsWholeText (as_str d) given). text.takes d w.0 w.1 ∙ ap written_given (sym w.2))
    (λ (l : IsFieldList (as_str d) (field_list_of d) given). fields.takes d l.0 l.2 ∙ ap written_given (sym l.3))
    (given_parts (as_str d) (field_list_of d) given is)

given_good : (forms : Forms) (d : Data) (given : Given) → given_read forms d ≡ Some given → is_of_forms forms given ≡ true
unfolding given_read
given_good form.Fields d given is =
    ⊎_elim (λ (w : IsWholeText None given). absurd cc) (λ (l : IsFieldList None (field_list_of d) given). ap (is_of_forms form.Fields) l.3)
    (given_parts None (field_list_of d) given is)
given_good form.Elements d given is = refl

given_again : (forms : Forms) (given : Given) → is_of_forms forms given ≡ true → given_read forms (written_given given) ≡ Some given
unfolding given_read
given_again form.Fields (Listed xs) is = ap (given_as None) (fields.again xs)
given_again form.Fields (Whole t) is = absurd cc
given_again form.Elements (Listed xs) is = ap (given_as None) (fields.again xs)
given_again form.Elements (Whole t) is = refl

one_given : (forms : Forms) → UndoesOf (is_of_forms forms) (given_read forms) written_given
one_given forms = record { takes = given_takes forms; is_good = given_good forms; again = given_again forms }

-- ---- records

abbrev is_record_of : Forms → LineRecord → Bool
is_record_of forms r = is_of_forms forms r.1

one_record : (forms : Forms) → UndoesOf (is_record_of forms) (record_of forms) written_record
unfolding record_of
one_record forms = record {
  takes = takes;
  is_good = is_good;
  again = λ r is. ap (λ read. read >>= λ given. Some (r.0, given)) (given_again forms r.1 is);
}
  where
    takes : (m : List ℕ × Data) (r : LineRecord) → record_of forms m ≡ Some r → m ≡ written_record r
    takes m r is =
        let p = bind-Some (given_read forms m.1) (λ given. Some (m.0, given)) r is in
        ap (λ d. (m.0, d)) (given_takes forms m.1 p.0 p.1) ∙ ap written_record (Some-injective (m.0, p.0) r p.2)

    is_good : (m : List ℕ × Data) (r : LineRecord) → record_of forms m ≡ Some r → is_record_of forms r ≡ true
    is_good m r is =
        let p = bind-Some (given_read forms m.1) (λ given. Some (m.0, given)) r is in
        ap (is_record_of forms) (sym (Some-injective (m.0, p.0) r p.2)) ∙ given_good forms m.1 p.0 p.1

pub records : (forms : Forms) → UndoesOf (are_records_of forms) (records_of forms) written_records
unfolding records_of
records forms =
    then_of (are_records_of forms) members_from object_of (each_of (record_of forms)) (map written_record) members
    (each_one_of (is_record_of forms) (record_of forms) written_record (one_record forms))

-- ---- what is about them

text_list : Undoes text_list_of written_texts
unfolding text_list_of
text_list = then elements_of array_of (each_of as_str) (map string) list texts

one_about : Undoes about_of written_about
unfolding about_of
one_about = record { takes = takes; again = λ about. ap (λ read. read >>= λ texts. Some (about.0, texts)) (text_list.again about.1) }
  where
    takes : (m : List ℕ × Data) (about : LineAbout) → about_of m ≡ Some about → m ≡ written_about about
    takes m about is =
        let p = bind-Some (text_list_of m.1) (λ texts. Some (m.0, texts)) about is in
        ap (λ d. (m.0, d)) (text_list.takes m.1 p.0 p.1) ∙ ap written_about (Some-injective (m.0, p.0) about p.2)

pub abouts : Undoes abouts_of written_abouts
unfolding abouts_of
abouts = then members_from object_of (each_of about_of) (map written_about) members (each about_of written_about one_about)
