-- The elements of a deposit, read one after the other.
use Rattle.std.proofs.Common.{◌≡◌, ◌∙◌, ◌&&◌, ◌≤◌, ◌<◌, ◌+◌, ◌-◌, ℕ, Bool, suc, true, false, List, [], ◌∷◌, ◌++◌, map, length, get_or, take, drop, drop-cons, add-one, Bor, Option, Some, Result, Ok, Err, refl, sym, ap, subst, append_assoc, append-nil, length-append, arith}
use Rattle.std.specs.List.{list_all}
use Rattle.std.proofs.lemmas.Bool.{and_from, and_parts}
use Rattle.std.proofs.lemmas.List.{drop_all, map-append}
use Rattle.std.proofs.lemmas.List.Folds.{list_all-append}
use Rattle.oai_names.specs.Characters.{is_xml_text}
use Rattle.oai_xml.proofs.CanonicalLemmas.{canonical_tree}
use Rattle.oai_xml.specs.Documents.{canonical}
use Rattle.oai_xml.specs.Roots.{RootName, root_of}
use Rattle.oai_xml.specs.Trees.{Tree}
use Rattle.oai_xml.specs.Whole.{SpellsTree}
use Rattle.oai_item.specs.Elements.{element_field, is_about}
use Rattle.oai_item.specs.Givens.{AreNoted, GivenRecord, IsNoted, IsNotedContent, all_given, field_texts, kept, kept_fields, noted_about, noted_content, noted_given, noted_record}
use Rattle.oai_item.specs.Item.{Metadata, are_rising, is_before}
use Rattle.oai_item.specs.declared.fields.Field.{Field}
use Rattle.oai_item.specs.declared.givens.Given.{Given}
use Rattle.oai_item.specs.declared.givens.Given.TheVariants.{Listed, Whole}
use Rattle.oai_item.specs.declared.notes.Note.{Note}
use Rattle.oai_item.specs.declared.refusals.LineRefusal.{LineRefusal}
use Rattle.oai_item.proofs.ElementLemmas.{canonical_again, canonical_element, root_found}
use Rattle.oai_deposit.specs.Calls.{Anywhere, has_xml_fields, have_xml_fields}
use Rattle.oai_deposit.specs.Lines.{LineAbout, LineRecord, about_read, as_given, before_about, before_others, element_read, elements_read, given_element, have_xml_texts, read_as_element, record_read, texts_about, with_about, with_abouts}
use Rattle.oai_deposit.specs.Readings.{GivesBy, ReturnsReading}
use Rattle.oai_deposit.specs.declared.faults.LineFault.{LineFault}
use Rattle.oai_deposit.specs.declared.faults.LineFault.TheVariants.{NoMemory, Refused}

-- ---- reading in steps

-- those that were read, before what is read of the others
abbrev pub behind : {A : Type 0} → List A → Result (List A) LineRefusal → Result (List A) LineRefusal
behind done (Ok others) = Ok (done ++ others)
behind done (Err refusal) = Err refusal

pub behind_none : {A : Type 0} (r : Result (List A) LineRefusal) → behind [] r ≡ r
behind_none (Ok others) = refl
behind_none (Err refusal) = refl

behind_more : {A : Type 0} (done : List A) (one : A) (r : Result (List A) LineRefusal) → behind (done ++ one ∷ []) r ≡ behind done (before_others (Ok one) r)
behind_more done one (Ok others) = ap (λ rs. Ok rs) (append_assoc done (one ∷ []) others)
behind_more done one (Err refusal) = refl

-- so many texts, and as many records with what is noted of them, and what is read of all is what is read of the others behind these
pub record AreReadSoFar (abouts : List LineAbout) (texts done left : List LineRecord) (records : List Metadata) (notes : List Note) : Type 0 where
  pub all : texts ≡ done ++ left
  pub names : map (λ (r : Metadata). r.0) records ≡ map (λ (r : LineRecord). r.0) done
  pub many : length records ≡ length notes
  pub noted : AreNoted records notes
  pub read : behind (all_given records notes) (elements_read (with_abouts left abouts)) ≡ elements_read (with_abouts texts abouts)

pub none_read : (abouts : List LineAbout) (texts : List LineRecord) → AreReadSoFar abouts texts [] texts [] []
none_read abouts texts = record { all = refl; names = refl; many = refl; noted = tt; read = behind_none (elements_read (with_abouts texts abouts)) }

-- ---- one more record

given_more : (records : List Metadata) (notes : List Note) (r : Metadata) (note : Note) → length records ≡ length notes
    → all_given (records ++ r ∷ []) (notes ++ note ∷ []) ≡ all_given records notes ++ noted_record r note ∷ []
given_more [] [] r note many = refl
given_more [] (other ∷ notes) r note many = absurd (omega (arith, many))
given_more (one ∷ records) [] r note many = absurd (omega (arith, many))
given_more (one ∷ records) (other ∷ notes) r note many =
    ap (λ (rs : List GivenRecord). noted_record one other ∷ rs) (given_more records notes r note (omega (arith, many)))

noted_more : (records : List Metadata) (notes : List Note) (r : Metadata) (note : Note) → length records ≡ length notes
    → AreNoted records notes → IsNoted r.1 note → AreNoted (records ++ r ∷ []) (notes ++ note ∷ [])
noted_more [] [] r note many all one = (one, tt)
noted_more [] (other ∷ notes) r note many all one = absurd (omega (arith, many))
noted_more (first ∷ records) [] r note many all one = absurd (omega (arith, many))
noted_more (first ∷ records) (other ∷ notes) r note many all one = (all.0, noted_more records notes r note (omega (arith, many)) all.1 one)

names_more : {A : Type 0} (xs : List (List ℕ × A)) (x : List ℕ × A) → map (λ (r : List ℕ × A). r.0) (xs ++ x ∷ []) ≡ map (λ (r : List ℕ × A). r.0) xs ++ x.0 ∷ []
names_more [] x = refl
names_more (y ∷ xs) x = ap (λ (ns : List (List ℕ)). y.0 ∷ ns) (names_more xs x)

length_more : {A : Type 0} (xs : List A) (x : A) → length (xs ++ x ∷ []) ≡ suc (length xs)
length_more [] x = refl
length_more (y ∷ xs) x = ap suc (length_more xs x)

pub more_read : (abouts : List LineAbout) (texts done left : List LineRecord) (records : List Metadata) (notes : List Note) (r : LineRecord) (fields : List Field) (note : Note)
    → AreReadSoFar abouts texts done (r ∷ left) records notes → record_read (with_about abouts r) ≡ Ok (noted_record (r.0, fields) note) → IsNoted fields note
    → AreReadSoFar abouts texts (done ++ r ∷ []) left (records ++ (r.0, fields) ∷ []) (notes ++ note ∷ [])
unfolding elements_read
more_read abouts texts done left records notes r fields note so_far is noted = record {
  all = so_far.all ∙ sym (append_assoc done (r ∷ []) left);
  names = names_more records (r.0, fields) ∙ ap (λ (ns : List (List ℕ)). ns ++ r.0 ∷ []) so_far.names ∙ sym (names_more done r);
  many = length_more records (r.0, fields) ∙ ap suc so_far.many ∙ sym (length_more notes note);
  noted = noted_more records notes (r.0, fields) note so_far.many so_far.noted noted;
  read =
      ap (λ (rs : List GivenRecord). behind rs (elements_read (with_abouts left abouts))) (given_more records notes (r.0, fields) note so_far.many)
      ∙ behind_more (all_given records notes) (noted_record (r.0, fields) note) (elements_read (with_abouts left abouts))
      ∙ ap (λ g. behind (all_given records notes) (before_others g (elements_read (with_abouts left abouts)))) (sym is) ∙ so_far.read;
}

-- a record with a text that is no element
pub refused_read : (abouts : List LineAbout) (texts done left : List LineRecord) (records : List Metadata) (notes : List Note) (r : LineRecord) (refusal : LineRefusal)
    → AreReadSoFar abouts texts done (r ∷ left) records notes → record_read (with_about abouts r) ≡ Err refusal → elements_read (with_abouts texts abouts) ≡ Err refusal
unfolding elements_read
refused_read abouts texts done left records notes r refusal so_far is =
    sym so_far.read ∙ ap (λ g. behind (all_given records notes) (before_others g (elements_read (with_abouts left abouts)))) is

-- or no memory for one
pub fault_read : (abouts : List LineAbout) (texts done left : List LineRecord) (records : List Metadata) (notes : List Note) (r : LineRecord) (fault : LineFault)
    → AreReadSoFar abouts texts done (r ∷ left) records notes
    → GivesBy {A = List Field × Note} (λ kept. noted_record (r.0, kept.0) kept.1) Anywhere (Err fault) (record_read (with_about abouts r))
    → ReturnsReading {A = List GivenRecord} Anywhere (Err fault) (elements_read (with_abouts texts abouts))
fault_read abouts texts done left records notes r (Refused refusal) so_far is = refused_read abouts texts done left records notes r refusal so_far is
fault_read abouts texts done left records notes r NoMemory so_far is = tt

-- ---- all of them

pub all_read : (abouts : List LineAbout) (texts done left : List LineRecord) (records : List Metadata) (notes : List Note) → AreReadSoFar abouts texts done left records notes → left ≡ []
    → elements_read (with_abouts texts abouts) ≡ Ok (all_given records notes)
unfolding elements_read
all_read abouts texts done [] records notes so_far none = sym so_far.read ∙ ap (λ (rs : List GivenRecord). Ok rs) (append-nil (all_given records notes))
all_read abouts texts done (r ∷ left) records notes so_far none = absurd cc

-- prefixes that are the same rise in the same way
same_rising : {A B : Type 0} (xs : List (List ℕ × A)) (ys : List (List ℕ × B)) → map (λ (x : List ℕ × A). x.0) xs ≡ map (λ (y : List ℕ × B). y.0) ys → are_rising xs ≡ are_rising ys
same_rising [] [] same = refl
same_rising [] (y ∷ ys) same = absurd cc
same_rising (x ∷ xs) [] same = absurd cc
same_rising (x ∷ []) (y ∷ []) same = refl
same_rising (x ∷ []) (y ∷ z ∷ ys) same = absurd cc
same_rising (x ∷ w ∷ xs) (y ∷ []) same = absurd cc
same_rising (x ∷ w ∷ xs) (y ∷ z ∷ ys) same =
    let first : x.0 ≡ y.0 = cc in
    let second : w.0 ≡ z.0 = cc in
    let others : map (λ (x : List ℕ × _). x.0) (w ∷ xs) ≡ map (λ (y : List ℕ × _). y.0) (z ∷ ys) = cc in
    ap (λ (n : List ℕ). is_before n w.0 && are_rising (w ∷ xs)) first ∙ ap (λ (n : List ℕ). is_before y.0 n && are_rising (w ∷ xs)) second
    ∙ ap (λ b. is_before y.0 z.0 && b) (same_rising (w ∷ xs) (z ∷ ys) others)

pub all_rising : (abouts : List LineAbout) (texts done left : List LineRecord) (records : List Metadata) (notes : List Note) → AreReadSoFar abouts texts done left records notes → left ≡ []
    → are_rising texts ≡ true → are_rising records ≡ true
all_rising abouts texts done [] records notes so_far none rise =
    same_rising records done so_far.names ∙ ap are_rising (sym (append-nil done) ∙ sym so_far.all) ∙ rise
all_rising abouts texts done (r ∷ left) records notes so_far none rise = absurd cc

-- ---- the element of a text, as an item keeps it

as_canonical : (r : Result (List ℕ) ℕ) (element : List ℕ) → read_as_element r ≡ Ok element → r ≡ Ok element
as_canonical (Ok text) element is = cc
as_canonical (Err at) element is = absurd cc

pub element_noted : (text element : List ℕ) (root : RootName) → element_read text ≡ Ok element → ((t : Tree) → SpellsTree element t → root ≡ root_of t)
    → IsNotedContent (element_field element ∷ []) (Some root)
element_noted text element root is told =
    let same = as_canonical (canonical text) element is in
    (canonical_again text element same, root_found element root (canonical_element text element same) told)

-- it is in canonical text
pub element_about : (text element : List ℕ) → element_read text ≡ Ok element → is_about (element_field element) ≡ true
element_about text element is = canonical_again text element (as_canonical (canonical text) element is)

-- ---- the elements about a record

pub texts_more : (fields : List Field) (text element : List ℕ) (texts : List (List ℕ)) (total : Result (List (List ℕ)) LineRefusal) → element_read text ≡ Ok element
    → behind (field_texts fields) (about_read (text ∷ texts)) ≡ total → behind (field_texts (fields ++ element_field element ∷ [])) (about_read texts) ≡ total
unfolding about_read
texts_more fields text element texts total is so_far =
    ap (λ ts. behind ts (about_read texts)) (map-append (λ (field : Field). field.text) fields (element_field element ∷ []))
    ∙ behind_more (field_texts fields) element (about_read texts)
    ∙ ap (λ e. behind (field_texts fields) (before_others e (about_read texts))) (sym is) ∙ so_far

pub texts_refused : (fields : List Field) (text : List ℕ) (refusal : LineRefusal) (texts : List (List ℕ)) (total : Result (List (List ℕ)) LineRefusal) → element_read text ≡ Err refusal
    → behind (field_texts fields) (about_read (text ∷ texts)) ≡ total → total ≡ Err refusal
unfolding about_read
texts_refused fields text refusal texts total is so_far =
    sym so_far ∙ ap (λ e. behind (field_texts fields) (before_others e (about_read texts))) is

-- .. of a slice of texts
pub next_more : (fields : List Field) (texts : List (Bor (List ℕ))) (i : ℕ) (d : Bor (List ℕ)) (element : List ℕ) (total : Result (List (List ℕ)) LineRefusal) → i < length texts
    → element_read (get_or texts i d).now ≡ Ok element → behind (field_texts fields) (about_read (map (λ (text : Bor (List ℕ)). text.now) (drop i texts))) ≡ total
    → behind (field_texts (fields ++ element_field element ∷ [])) (about_read (map (λ (text : Bor (List ℕ)). text.now) (drop (i + 1) texts))) ≡ total
next_more fields texts i d element total inside is so_far =
    rw add-one (texts_more fields (get_or texts i d).now element (map (λ (text : Bor (List ℕ)). text.now) (drop (suc i) texts)) total is (rw (drop-cons texts i d inside) at so_far))

pub next_fault : {A : Type 0} (see : A → List (List ℕ)) (fields : List Field) (texts : List (Bor (List ℕ))) (i : ℕ) (d : Bor (List ℕ)) (fault : LineFault) (total : Result (List (List ℕ)) LineRefusal) → i < length texts
    → ReturnsReading {A = List ℕ} Anywhere (Err fault) (element_read (get_or texts i d).now) → behind (field_texts fields) (about_read (map (λ (text : Bor (List ℕ)). text.now) (drop i texts))) ≡ total
    → GivesBy see Anywhere (Err fault) total
next_fault see fields texts i d (Refused refusal) total inside is so_far =
    texts_refused fields (get_or texts i d).now refusal (map (λ (text : Bor (List ℕ)). text.now) (drop (suc i) texts)) total is (rw (drop-cons texts i d inside) at so_far)
next_fault see fields texts i d NoMemory total inside is so_far = tt

pub texts_done : (fields : List Field) (texts : List (List ℕ)) (total : Result (List (List ℕ)) LineRefusal) → texts ≡ []
    → behind (field_texts fields) (about_read texts) ≡ total → total ≡ Ok (field_texts fields)
unfolding about_read
texts_done fields [] total none so_far = sym so_far ∙ ap (λ ts. Ok ts) (append-nil (field_texts fields))
texts_done fields (text ∷ texts) total none so_far = absurd cc

pub texts_end : (fields : List Field) (texts : List (Bor (List ℕ))) (i : ℕ) (total : Result (List (List ℕ)) LineRefusal) → length texts ≤ i
    → behind (field_texts fields) (about_read (map (λ (text : Bor (List ℕ)). text.now) (drop i texts))) ≡ total → total ≡ Ok (field_texts fields)
texts_end fields texts i total past so_far =
    texts_done fields (map (λ (text : Bor (List ℕ)). text.now) (drop i texts)) total (ap (map (λ (text : Bor (List ℕ)). text.now)) (drop_all i texts past)) so_far

pub about_more : (fields : List Field) (field : Field) → list_all is_about fields ≡ true → is_about field ≡ true → list_all is_about (fields ++ field ∷ []) ≡ true
about_more [] field all is = and_from (is_about field) true is refl
about_more (one ∷ fields) field all is =
    let parts = and_parts (is_about one) (list_all is_about fields) all in
    and_from (is_about one) (list_all is_about (fields ++ field ∷ [])) parts.0 (about_more fields field parts.1 is)

-- ---- a record with what is about it

abbrev note_of : Option RootName → List Field → Note
note_of root elements = record { root = root; about = length elements }

front_length : (own elements : List Field) → length (own ++ elements) - length elements ≡ length own
front_length own elements = let sum = length-append own elements in omega (arith, sum)

front_taken : {A : Type 0} (xs ys : List A) → take (length xs) (xs ++ ys) ≡ xs
front_taken [] ys = refl
front_taken (x ∷ xs) ys = ap (λ zs. x ∷ zs) (front_taken xs ys)

front_dropped : {A : Type 0} (xs ys : List A) → drop (length xs) (xs ++ ys) ≡ ys
front_dropped [] ys = refl
front_dropped (x ∷ xs) ys = front_dropped xs ys

own_again : (own elements : List Field) (root : Option RootName) → noted_content (own ++ elements) (note_of root elements) ≡ own
own_again own elements root = ap (λ n. take n (own ++ elements)) (front_length own elements) ∙ front_taken own elements

about_again : (own elements : List Field) (root : Option RootName) → noted_about (own ++ elements) (note_of root elements) ≡ elements
about_again own elements root = ap (λ n. drop n (own ++ elements)) (front_length own elements) ∙ front_dropped own elements

pub kept_noted : (own elements : List Field) (root : Option RootName) → IsNotedContent own root → list_all is_about elements ≡ true
    → IsNoted (own ++ elements) (note_of root elements)
kept_noted own elements root content about = record {
  content = subst (λ (fields : List Field). IsNotedContent fields root) (sym (own_again own elements root)) content;
  few = let sum = length-append own elements in omega (arith, sum);
  about = ap (list_all is_about) (about_again own elements root) ∙ about;
}

pub kept_read : (prefix : List ℕ) (given : Given) (texts : List (List ℕ)) (own elements : List Field) (root : Option RootName)
    → given_element given ≡ Ok (noted_given own root) → about_read texts ≡ Ok (field_texts elements)
    → record_read (prefix, given, texts) ≡ Ok (noted_record (prefix, own ++ elements) (note_of root elements))
kept_read prefix given texts own elements root is are =
    ap (λ g. before_about prefix g (about_read texts)) is ∙ ap (before_about prefix (Ok (noted_given own root))) are
    ∙ ap (λ (fields : List Field). Ok (prefix, noted_given fields root, field_texts elements)) (sym (own_again own elements root))
    ∙ ap (λ (fields : List Field). Ok (prefix, noted_given (noted_content (own ++ elements) (note_of root elements)) root, field_texts fields)) (sym (about_again own elements root))

pub own_refused : (prefix : List ℕ) (given : Given) (texts : List (List ℕ)) (refusal : LineRefusal) → given_element given ≡ Err refusal → record_read (prefix, given, texts) ≡ Err refusal
own_refused prefix given texts refusal is = ap (λ g. before_about prefix g (about_read texts)) is

pub about_refused : (prefix : List ℕ) (given : Given) (texts : List (List ℕ)) (found : Given) (refusal : LineRefusal)
    → given_element given ≡ Ok found → about_read texts ≡ Err refusal → record_read (prefix, given, texts) ≡ Err refusal
about_refused prefix given texts found refusal is are =
    ap (λ g. before_about prefix g (about_read texts)) is ∙ ap (before_about prefix (Ok found)) are

-- a refusal of one of them is that of the record, and memory may run out anywhere
pub own_fault : {A : Type 0} (see : A → Given) (given : Given) (texts : List (List ℕ)) (fault : LineFault) → GivesBy see Anywhere (Err fault) (given_element given)
    → (prefix : List ℕ) → GivesBy {A = List Field × Note} (λ kept. noted_record (prefix, kept.0) kept.1) Anywhere (Err fault) (record_read (prefix, given, texts))
own_fault see given texts (Refused refusal) is prefix = own_refused prefix given texts refusal is
own_fault see given texts NoMemory is prefix = tt

pub about_fault : {A : Type 0} (see : A → List (List ℕ)) (given : Given) (texts : List (List ℕ)) (found : Given) (fault : LineFault) → given_element given ≡ Ok found
    → GivesBy see Anywhere (Err fault) (about_read texts)
    → (prefix : List ℕ) → GivesBy {A = List Field × Note} (λ kept. noted_record (prefix, kept.0) kept.1) Anywhere (Err fault) (record_read (prefix, given, texts))
about_fault see given texts found (Refused refusal) own is prefix = about_refused prefix given texts found refusal own is
about_fault see given texts found NoMemory own is prefix = tt

-- what is about a record is refused by none, so that memory ran out
pub only_memory : {A B C : Type 0} (see : A → B) (y : B) (fault : LineFault) (reading : Result C LineRefusal) → GivesBy see Anywhere (Err fault) (Ok y)
    → ReturnsReading {A = C} Anywhere (Err fault) reading
only_memory see y (Refused refusal) reading is = absurd cc
only_memory see y NoMemory reading is = tt

pub kept_with : (abouts : List LineAbout) (r : LineRecord) (texts : List (List ℕ)) (read : Result GivenRecord LineRefusal) → ◌≡◌ {A = Result (List (List ℕ)) LineRefusal} (Ok (texts_about abouts r.0)) (Ok texts)
    → record_read (r.0, r.1, texts) ≡ read → record_read (with_about abouts r) ≡ read
kept_with abouts r texts read same is =
    let texts_are : texts_about abouts r.0 ≡ texts = cc in
    ap (λ (ts : List (List ℕ)). record_read (r.0, r.1, ts)) texts_are ∙ is

pub fault_with : (abouts : List LineAbout) (r : LineRecord) (texts : List (List ℕ)) (fault : LineFault) → ◌≡◌ {A = Result (List (List ℕ)) LineRefusal} (Ok (texts_about abouts r.0)) (Ok texts)
    → GivesBy {A = List Field × Note} (λ kept. noted_record (r.0, kept.0) kept.1) Anywhere (Err fault) (record_read (r.0, r.1, texts))
    → GivesBy {A = List Field × Note} (λ kept. noted_record (r.0, kept.0) kept.1) Anywhere (Err fault) (record_read (with_about abouts r))
fault_with abouts r texts (Refused refusal) same is = kept_with abouts r texts (Err refusal) same is
fault_with abouts r texts NoMemory same is = tt

-- ---- the texts of fields, tested before the elements are read

abbrev is_xml_field : Field → Bool
is_xml_field field = is_xml_text field.text

-- an element is of XML's characters
element_xml : (text element : List ℕ) → element_read text ≡ Ok element → is_xml_text element ≡ true
element_xml text element is = let t = canonical_tree text element (as_canonical (canonical text) element is) in t.2.characters

some_given : (given found : Given) → ◌≡◌ {A = Result Given LineRefusal} (Ok given) (Ok found) → given ≡ found
some_given given found is = cc

given_xml : (given found : Given) → given_element given ≡ Ok found → list_all is_xml_field (kept_fields found) ≡ has_xml_fields given
given_xml (Listed fields) found is = ap (λ (g : Given). list_all is_xml_field (kept_fields g)) (sym (some_given (Listed fields) found is))
given_xml (Whole text) found is = by_read (element_read text) refl is
  where
    by_read : (r : Result (List ℕ) LineRefusal) → element_read text ≡ r → as_given r ≡ Ok found → list_all is_xml_field (kept_fields found) ≡ true
    by_read (Ok element) read same =
        ap (λ (g : Given). list_all is_xml_field (kept_fields g)) (sym (some_given (Whole element) found same))
        ∙ and_from (is_xml_text element) true (element_xml text element read) refl
    by_read (Err refusal) read same = absurd cc

about_xml : (texts elements : List (List ℕ)) → about_read texts ≡ Ok elements → list_all is_xml_field (map element_field elements) ≡ true
unfolding about_read
about_xml [] [] is = refl
about_xml [] (e ∷ elements) is = absurd cc
about_xml (text ∷ texts) elements is = by_parts (about_xml texts) (element_read text) (about_read texts) refl refl is
  where
    by_parts : ((es : List (List ℕ)) → about_read texts ≡ Ok es → list_all is_xml_field (map element_field es) ≡ true)
        → (one : Result (List ℕ) LineRefusal) (others : Result (List (List ℕ)) LineRefusal) → element_read text ≡ one → about_read texts ≡ others → before_others one others ≡ Ok elements
        → list_all is_xml_field (map element_field elements) ≡ true
    by_parts of_others (Ok e) (Ok es) first later same =
        let all : e ∷ es ≡ elements = cc in
        subst (λ (ws : List (List ℕ)). list_all is_xml_field (map element_field ws) ≡ true) all
        (and_from (is_xml_text e) (list_all is_xml_field (map element_field es)) (element_xml text e first) (of_others es later))
    by_parts of_others (Ok e) (Err refusal) first later same = absurd cc
    by_parts of_others (Err refusal) others first later same = absurd cc

and_so : (b : Bool) → (b && true) ≡ b
and_so true = refl
and_so false = refl

record_xml : (prefix : List ℕ) (given : Given) (texts : List (List ℕ)) (r : GivenRecord) → record_read (prefix, given, texts) ≡ Ok r → list_all is_xml_field (kept r).1 ≡ has_xml_fields given
record_xml prefix given texts r is = by_parts (given_element given) (about_read texts) refl refl is
  where
    by_parts : (one : Result Given LineRefusal) (others : Result (List (List ℕ)) LineRefusal) → given_element given ≡ one → about_read texts ≡ others → before_about prefix one others ≡ Ok r
        → list_all is_xml_field (kept r).1 ≡ has_xml_fields given
    by_parts (Ok found) (Ok about) first later same =
        let whole : GivenRecord = (prefix, found, about) in
        let its : whole ≡ r = cc in
        ap (λ (w : GivenRecord). list_all is_xml_field (kept w).1) (sym its)
        ∙ list_all-append is_xml_field (kept_fields found) (map element_field about)
        ∙ ap (λ b. list_all is_xml_field (kept_fields found) && b) (about_xml texts about later)
        ∙ and_so (list_all is_xml_field (kept_fields found)) ∙ given_xml given found first
    by_parts (Ok found) (Err refusal) first later same = absurd cc
    by_parts (Err refusal) others first later same = absurd cc

pub fields_xml : (abouts : List LineAbout) (texts : List LineRecord) (read : List GivenRecord) → elements_read (with_abouts texts abouts) ≡ Ok read → have_xml_texts (map kept read) ≡ have_xml_fields texts
unfolding elements_read have_xml_texts
fields_xml abouts [] [] is = refl
fields_xml abouts [] (r ∷ read) is = absurd cc
fields_xml abouts (w ∷ texts) read is = by_parts (fields_xml abouts texts) (record_read (with_about abouts w)) (elements_read (with_abouts texts abouts)) refl refl is
  where
    by_parts : ((rs : List GivenRecord) → elements_read (with_abouts texts abouts) ≡ Ok rs → have_xml_texts (map kept rs) ≡ have_xml_fields texts)
        → (one : Result GivenRecord LineRefusal) (others : Result (List GivenRecord) LineRefusal) → record_read (with_about abouts w) ≡ one → elements_read (with_abouts texts abouts) ≡ others
        → before_others one others ≡ Ok read → have_xml_texts (map kept read) ≡ (has_xml_fields w.1 && have_xml_fields texts)
    by_parts of_others (Ok r) (Ok rs) first later same =
        let all : r ∷ rs ≡ read = cc in
        ap (λ (gs : List GivenRecord). have_xml_texts (map kept gs)) (sym all)
        ∙ ap (λ b. b && have_xml_texts (map kept rs)) (record_xml w.0 w.1 (texts_about abouts w.0) r first)
        ∙ ap (λ b. has_xml_fields w.1 && b) (of_others rs later)
    by_parts of_others (Ok r) (Err refusal) first later same = absurd cc
    by_parts of_others (Err refusal) others first later same = absurd cc
