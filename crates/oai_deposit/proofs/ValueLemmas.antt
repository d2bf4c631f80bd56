-- Values that are built element by element and member by member.
use Rattle.std.proofs.Common.{◌≡◌, ℕ, Bool, true, false, not, cond, eqb, List, [], ◌∷◌, ◌++◌, length, map, Vec, String, Global, BTreeMap, Ordering, Less, Equal, Greater, refl, sym, ap, ◌∙◌}
use Rattle.std.proofs.lemmas.Bool.{and_parts}
use Rattle.std.proofs.lemmas.List.{append-nil, append_assoc}
use Rattle.std.proofs.lemmas.Cmp.{nat_list_cmp_total}
use Rattle.std.specs.Cmp.Lexicographic.{slice_cmp}
use Rattle.std.specs.List.{filter}
use Rattle.std.specs.Ordering.{is_lt, nat_cmp, ordering_reverse}
use Rattle.serde_json.specs.Data.{Data, Members, array, member, object, put, string}
use Rattle.serde_json.specs.View.{items_of as viewed_items, members_view, view}
use Rattle.serde_json.specs.declared.value.Value.{Value, Array, Object}
use Rattle.serde_json.proofs.Views.{view-Array, view-Object}
use Rattle.oai_json.specs.Json.{array_of, items_of, members_of}
use Rattle.oai_deposit.proofs.CountLemmas.{is_empty, not_empty}
use Rattle.oai_deposit.specs.Calls.{put_texts}
use Rattle.oai_deposit.specs.Dumps.{has_about, line_about, line_abouts, line_record}
use Rattle.oai_deposit.specs.Lines.{LineAbout, LineRecord}
use Rattle.oai_deposit.specs.Shapes.{written_about, written_field, written_given, written_record, written_texts}
use Rattle.oai_item.specs.Elements.{about_in, content_in, element_in}
use Rattle.oai_item.specs.Givens.{given_back, given_of}
use Rattle.oai_item.specs.Item.{Metadata, are_rising, is_before}
use Rattle.oai_item.specs.declared.fields.Field.{Field}

-- ---- arrays

same_items : (ds : List Data) → viewed_items ds ≡ items_of ds
same_items [] = refl
same_items (d ∷ ds) = rw (same_items ds) refl

pub array_is : (v : Vec Value Global) (ds : List Data) → map view v.items ≡ ds → view (Array v) ≡ array_of ds
array_is v ds is = view-Array v ∙ ap (λ all. array (viewed_items all)) is ∙ ap array (same_items ds)

-- one element more
pub pushed : (vs : List Value) (v : Value) (ds : List Data) (d : Data) → map view vs ≡ ds → view v ≡ d → map view (vs ++ v ∷ []) ≡ ds ++ d ∷ []
pushed [] v ds d is last = rw (← is, last) refl
pushed (x ∷ vs) v [] d is last = absurd cc
pushed (x ∷ vs) v (e ∷ ds) d is last =
    let front : view x ≡ e = cc in
    let others : map view vs ≡ ds = cc in
    rw (front, pushed vs v ds d others last) refl

-- what is written of one thing more
pub written_more : {A : Type 0} (write : A → Data) (done : List A) (a : A) → map write done ++ write a ∷ [] ≡ map write (done ++ a ∷ [])
written_more write [] a = refl
written_more write (x ∷ done) a = rw (written_more write done a) refl

-- fields behind what is there
pub fields_more : (front : List Data) (done : List Field) (field : Field) → (front ++ map written_field done) ++ written_field field ∷ [] ≡ front ++ map written_field (done ++ field ∷ [])
fields_more front done field = append_assoc front (map written_field done) (written_field field ∷ []) ∙ ap (λ ds. front ++ ds) (written_more written_field done field)

pub fields_end : (values front : List Data) (done all left : List Field) → all ≡ done ++ left → left ≡ [] → values ≡ front ++ map written_field done
    → values ≡ front ++ map written_field all
fields_end values front done all left is none so_far =
    so_far ∙ ap (λ (fields : List Field). front ++ map written_field fields) (sym (is ∙ ap (λ (fields : List Field). done ++ fields) none ∙ append-nil done))

pub texts_more : (done : List Field) (field : Field) → map string (map (λ (f : Field). f.text) done) ++ string field.text ∷ [] ≡ map string (map (λ (f : Field). f.text) (done ++ field ∷ []))
texts_more [] field = refl
texts_more (f ∷ done) field = ap (λ (ds : List Data). string f.text ∷ ds) (texts_more done field)

-- ---- objects

pub less : (o : Ordering) → is_lt o ≡ true → o ≡ Less
less Less is = refl
less Equal is = absurd cc
less Greater is = absurd cc

-- the first prefix stands before every later one
first_before : {A : Type 0} (a : List ℕ × A) (done : List (List ℕ × A)) (m : List ℕ × A) (rest : List (List ℕ × A)) → are_rising (a ∷ (done ++ m ∷ rest)) ≡ true
    → slice_cmp nat_cmp a.0 m.0 ≡ Less
first_before a [] m rest rising = less _ (and_parts (is_before a.0 m.0) (are_rising (m ∷ rest)) rising).0
first_before a (b ∷ done) m rest rising =
    let p = and_parts (is_before a.0 b.0) (are_rising (b ∷ (done ++ m ∷ rest))) rising in
    nat_list_cmp_total.trans a.0 b.0 m.0 (less _ p.0) (first_before b done m rest p.1)

others_rise : {A : Type 0} (a : List ℕ × A) (done : List (List ℕ × A)) (m : List ℕ × A) (rest : List (List ℕ × A)) → are_rising (a ∷ (done ++ m ∷ rest)) ≡ true
    → are_rising (done ++ m ∷ rest) ≡ true
others_rise a [] m rest rising = (and_parts (is_before a.0 m.0) (are_rising (m ∷ rest)) rising).1
others_rise a (b ∷ done) m rest rising = (and_parts (is_before a.0 b.0) (are_rising (b ∷ (done ++ m ∷ rest))) rising).1

above : {A : Type 0} (a : List ℕ × A) (done : List (List ℕ × A)) (m : List ℕ × A) (rest : List (List ℕ × A)) → are_rising (a ∷ (done ++ m ∷ rest)) ≡ true
    → slice_cmp nat_cmp m.0 a.0 ≡ Greater
above a done m rest rising = nat_list_cmp_total.antisymm m.0 a.0 ∙ ap ordering_reverse (first_before a done m rest rising)

-- what stands under each prefix, as it is written
abbrev written_as : {A : Type 0} → (A → Data) → List (List ℕ × A) → List (List ℕ × Data)
written_as write ms = map (λ m. (m.0, write m.1)) ms

-- a member whose name is above those before it stands last
put_last : {A : Type 0} (write : A → Data) (done : List (List ℕ × A)) (m : List ℕ × A) (rest : List (List ℕ × A)) (d : Data) → d ≡ write m.1 → are_rising (done ++ m ∷ rest) ≡ true
    → put m.0 d (members_of (written_as write done)) ≡ members_of (written_as write (done ++ m ∷ []))
put_last write [] m rest d is rising = rw is refl
put_last write (a ∷ done) m rest d is rising =
    rw (above a done m rest rising) (ap (member a.0 (write a.1)) (put_last write done m rest d is (others_rise a done m rest rising)))

pub put_above : (done : List LineRecord) (m : LineRecord) (rest : List LineRecord) (d : Data) → d ≡ (written_record m).1 → are_rising (done ++ m ∷ rest) ≡ true
    → put m.0 d (members_of (map written_record done)) ≡ members_of (map written_record (done ++ m ∷ []))
put_above done m rest d is rising = put_last written_given done m rest d is rising

-- the record itself, as it is kept
abbrev own_written : List Field → Data
own_written fields = written_given (given_of (content_in fields) (element_in fields))

own_members : (ms : List Metadata) → written_as own_written ms ≡ map written_record (map line_record (map given_back ms))
own_members [] = refl
own_members (m ∷ ms) = ap (λ (xs : List (List ℕ × Data)). (m.0, own_written m.1) ∷ xs) (own_members ms)

-- and so is the member of one of the records that an item keeps the last
pub put_back : (done : List Metadata) (m : Metadata) (rest : List Metadata) (d : Data) → d ≡ own_written m.1 → are_rising (done ++ m ∷ rest) ≡ true
    → put m.0 d (members_of (map written_record (map line_record (map given_back done)))) ≡ members_of (map written_record (map line_record (map given_back (done ++ m ∷ []))))
put_back done m rest d is rising =
    ap (λ (xs : List (List ℕ × Data)). put m.0 d (members_of xs)) (sym (own_members done)) ∙ put_last own_written done m rest d is rising
    ∙ ap members_of (own_members (done ++ m ∷ []))

-- ---- what is about records

abbrev abouts_back : List Metadata → List LineAbout
abouts_back ms = line_abouts (map given_back ms)

about_last : (done : List Metadata) (m : Metadata) (rest : List Metadata) (d : Data) → d ≡ written_texts (about_in m.1) → are_rising (done ++ m ∷ rest) ≡ true
    → put m.0 d (members_of (map written_about (abouts_back done))) ≡ members_of (map written_about (abouts_back done ++ line_about (given_back m) ∷ []))
about_last [] m rest d is rising = rw is refl
about_last (a ∷ done) m rest d is rising =
    by_test (has_about (given_back a)) (about_last done m rest d is (others_rise a done m rest rising))
  where
    by_test : (b : Bool) → put m.0 d (members_of (map written_about (abouts_back done))) ≡ members_of (map written_about (abouts_back done ++ line_about (given_back m) ∷ []))
        → put m.0 d (members_of (map written_about (map line_about (cond b (given_back a ∷ filter has_about (map given_back done)) (filter has_about (map given_back done))))))
        ≡ members_of (map written_about (map line_about (cond b (given_back a ∷ filter has_about (map given_back done)) (filter has_about (map given_back done))) ++ line_about (given_back m) ∷ []))
    by_test true others = rw (above a done m rest rising) (ap (member a.0 (written_texts (about_in a.1))) others)
    by_test false others = others

abouts_more : (done : List Metadata) (m : Metadata) (b : Bool) → has_about (given_back m) ≡ b → abouts_back (done ++ m ∷ []) ≡ abouts_back done ++ cond b (line_about (given_back m) ∷ []) []
abouts_more [] m true is = ap (λ b. map line_about (cond b (given_back m ∷ []) [])) is
abouts_more [] m false is = ap (λ b. map line_about (cond b (given_back m ∷ []) [])) is
abouts_more (a ∷ done) m b is = by_test (has_about (given_back a)) (abouts_more done m b is)
  where
    by_test : (c : Bool) → abouts_back (done ++ m ∷ []) ≡ abouts_back done ++ cond b (line_about (given_back m) ∷ []) []
        → map line_about (cond c (given_back a ∷ filter has_about (map given_back (done ++ m ∷ []))) (filter has_about (map given_back (done ++ m ∷ []))))
        ≡ map line_about (cond c (given_back a ∷ filter has_about (map given_back done)) (filter has_about (map given_back done))) ++ cond b (line_about (given_back m) ∷ []) []
    by_test true others = ap (λ (ts : List LineAbout). line_about (given_back a) ∷ ts) others
    by_test false others = others

-- what is about one record more, if something is
pub about_put : (done : List Metadata) (m : Metadata) (rest : List Metadata) → are_rising (done ++ m ∷ rest) ≡ true
    → put_texts m.0 (about_in m.1) (members_of (map written_about (abouts_back done))) ≡ members_of (map written_about (abouts_back (done ++ m ∷ [])))
about_put done m rest rising = by_texts (about_in m.1) refl
  where
    by_texts : (texts : List (List ℕ)) → about_in m.1 ≡ texts
        → put_texts m.0 texts (members_of (map written_about (abouts_back done))) ≡ members_of (map written_about (abouts_back (done ++ m ∷ [])))
    by_texts [] is =
        ap (λ (ts : List LineAbout). members_of (map written_about ts))
        (sym (append-nil (abouts_back done)) ∙ sym (abouts_more done m false (ap (λ (ts : List (List ℕ)). not (eqb (length ts) 0)) is)))
    by_texts (text ∷ texts) is =
        about_last done m rest (written_texts (text ∷ texts)) (ap written_texts (sym is)) rising
        ∙ ap (λ (ts : List LineAbout). members_of (map written_about ts))
        (sym (abouts_more done m true (ap (λ (ts : List (List ℕ)). not (eqb (length ts) 0)) is ∙ ap not (not_empty text texts))))

-- texts that are put, and none
pub texts_not_put : (prefix : List ℕ) (fields : List Field) (others : Members) → eqb (length fields) 0 ≡ true
    → put_texts prefix (map (λ (field : Field). field.text) fields) others ≡ others
texts_not_put prefix [] others none = refl
texts_not_put prefix (field ∷ fields) others none = absurd (is_empty field fields none)

pub texts_put : (prefix : List ℕ) (fields : List Field) (others : Members) → eqb (length fields) 0 ≡ false
    → put_texts prefix (map (λ (field : Field). field.text) fields) others ≡ put prefix (written_texts (map (λ (field : Field). field.text) fields)) others
texts_put prefix [] others some = absurd cc
texts_put prefix (field ∷ fields) others some = refl

pub object_is : (m : BTreeMap (String Global) Value) (ms : List (List ℕ × Data)) → members_view m.entries ≡ members_of ms → view (Object m) ≡ object (members_of ms)
object_is m ms is = view-Object m ∙ ap object is
