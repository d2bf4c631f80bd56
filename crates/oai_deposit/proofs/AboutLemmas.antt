-- What is about records, read in place in the value of a line.
use Rattle.std.proofs.Common.{◌≡◌, ◌∙◌, ℕ, Bool, true, false, ◌&&◌, ◌||◌, cond, is_some, List, [], ◌∷◌, map, codes, Option, Some, None, Result, Ok, Err, String, Global, BTreeMap, string_bytes, refl, sym, ap}
use Rattle.std.specs.List.{list_all, list_any}
use Rattle.std.specs.Map.{lookup}
use Rattle.std.specs.Str.{bytes_eq}
use Rattle.std.specs.Option.{option_map}
use Rattle.serde_json.specs.Data.{Data, Members, array, boolean, null, number, object, string}
use Rattle.serde_json.specs.Find.{as_object, as_str, get}
use Rattle.serde_json.specs.View.{members_view, view}
use Rattle.serde_json.specs.declared.value.Value.{Value, Object}
use Rattle.serde_json.proofs.Views.{view-Object}
use Rattle.oai_item.specs.declared.forms.Forms.{Forms}
use Rattle.oai_item.specs.declared.refusals.LineRefusal.{LineRefusal}
use Rattle.oai_names.specs.Names.{is_among}
use Rattle.oai_names.specs.Optional.{◌>>=◌, each_of, tested}
use Rattle.oai_json.specs.Json.{elements_of, members_in}
use Rattle.oai_json.proofs.JsonLemmas.{members_in-members_view, seen}
use Rattle.oai_json.proofs.ReadingLemmas.{Some-injective, bind-Some}
use Rattle.oai_deposit.specs.Calls.{Anywhere, texts_if_there, texts_of_list, those_there}
use Rattle.oai_deposit.specs.Lines.{LineAbout, LineRecord, about_of, abouts_at, abouts_if_there, abouts_of, are_about_records, records_at, records_of, text_list_of, texts_about, texts_or_none}
use Rattle.oai_deposit.specs.Readings.{FindsBy, GivesBy}
use Rattle.oai_deposit.specs.declared.faults.LineFault.{LineFault}
use Rattle.oai_deposit.specs.declared.faults.LineFault.TheVariants.{NoMemory, Refused}
use Rattle.oai_deposit.proofs.CountLemmas.{in_list}
use Rattle.oai_deposit.proofs.RecordLemmas.{names_kept}

-- ---- what is read, if it is

pub those_are : (o : Option (List LineAbout)) → is_some o ≡ true → o ≡ Some (those_there o)
those_are (Some ts) is = refl
those_are None is = absurd cc

pub none_are : (o : Option (List LineAbout)) → is_some o ≡ false → o ≡ None
none_are (Some ts) is = absurd cc
none_are None is = refl

-- ---- lists of strings

both_some : {A B C : Type 0} (o : Option A) (p : Option B) (f : A → B → C) → is_some (o >>= λ x. p >>= λ y. Some (f x y)) ≡ (is_some o && is_some p)
both_some (Some x) (Some y) f = refl
both_some (Some x) None f = refl
both_some None p f = refl

-- each of a list is read if each passes the test
pub each_some : {A B : Type 0} (read : A → Option B) (xs : List A) → is_some (each_of read xs) ≡ list_all (λ x. is_some (read x)) xs
each_some read [] = refl
each_some read (x ∷ xs) = both_some (read x) (each_of read xs) (λ y ys. y ∷ ys) ∙ ap (λ b. is_some (read x) && b) (each_some read xs)

pub are_strings : (vs : List Value) → is_some (each_of as_str (map view vs)) ≡ list_all (λ (v : Value). is_some (as_str (view v))) vs
are_strings [] = refl
are_strings (v ∷ vs) = both_some (as_str (view v)) (each_of as_str (map view vs)) (λ y ys. y ∷ ys) ∙ ap (λ b. is_some (as_str (view v)) && b) (are_strings vs)

pub text_list_some : (d : Data) (vs : List Value) → elements_of d ≡ Some (map view vs) → list_all (λ (v : Value). is_some (as_str (view v))) vs ≡ is_some (text_list_of d)
unfolding text_list_of
text_list_some d vs is = sym (ap (λ o. is_some (o >>= each_of as_str)) is ∙ are_strings vs)

-- a member is read if it is a list of strings
pub about_some : (m : List ℕ × Data) → is_some (about_of m) ≡ is_some (text_list_of m.1)
unfolding about_of
about_some m = by_list (text_list_of m.1)
  where
    by_list : (o : Option (List (List ℕ))) → is_some {T = LineAbout} (o >>= λ texts. Some (m.0, texts)) ≡ is_some o
    by_list (Some texts) = refl
    by_list None = refl

pub lists_more : (e : String Global × Value) (es : List (String Global × Value))
    → is_some (each_of about_of (map seen (e ∷ es))) ≡ (is_some (text_list_of (view e.1)) && is_some (each_of about_of (map seen es)))
lists_more e es =
    both_some (about_of (seen e)) (each_of about_of (map seen es)) (λ y ys. y ∷ ys) ∙ ap (λ b. b && is_some (each_of about_of (map seen es))) (about_some (seen e))

pub abouts_of-Object : (m : BTreeMap (String Global) Value) → abouts_of (view (Object m)) ≡ each_of about_of (map seen m.entries)
unfolding abouts_of
abouts_of-Object m = ap abouts_of (view-Object m) ∙ ap (each_of about_of) (members_in-members_view m.entries)

-- ---- a list of the members is what is read of the member that it is

list_found : (p : List ℕ) (ms : List (List ℕ × Data)) (ts : List LineAbout) → each_of about_of ms ≡ Some ts
    → texts_of_list (lookup (bytes_eq p) ms) ≡ Some (texts_or_none (lookup (bytes_eq p) ts))
unfolding about_of
list_found p [] ts is = ap (λ (xs : List LineAbout). Some (texts_or_none (lookup (bytes_eq p) xs))) (Some-injective [] ts is)
list_found p (m ∷ ms) ts is =
    let first = bind-Some (about_of m) (λ y. each_of about_of ms >>= λ ys. Some (y ∷ ys)) ts is in
    let others = bind-Some (each_of about_of ms) (λ ys. Some (first.0 ∷ ys)) ts first.2 in
    let texts = bind-Some (text_list_of m.1) (λ texts. Some (m.0, texts)) first.0 first.1 in
    let about : LineAbout = (m.0, texts.0) in
    by_test (bytes_eq p m.0) (lookup (bytes_eq p) ms) (lookup (bytes_eq p) others.0) texts.0 texts.1 (list_found p ms others.0 others.1)
    ∙ ap (λ (a : LineAbout). Some (texts_or_none (lookup (bytes_eq p) (a ∷ others.0)))) {x = about} (Some-injective about first.0 texts.2)
    ∙ ap (λ (xs : List LineAbout). Some (texts_or_none (lookup (bytes_eq p) xs))) (Some-injective (first.0 ∷ others.0) ts others.2)
  where
    by_test : (b : Bool) (o : Option Data) (l : Option (List (List ℕ))) (texts : List (List ℕ)) → text_list_of m.1 ≡ Some texts
        → texts_of_list o ≡ Some (texts_or_none l) → texts_of_list (cond b (Some m.1) o) ≡ Some (texts_or_none (cond b (Some texts) l))
    by_test true o l texts one others = one
    by_test false o l texts one others = others

found_in : (p : List ℕ) (d : Data) (ts : List LineAbout) → abouts_of d ≡ Some ts → texts_of_list (get p d) ≡ Some (texts_about ts p)
unfolding abouts_of
found_in p null ts is = absurd cc
found_in p (boolean b) ts is = absurd cc
found_in p (number n) ts is = absurd cc
found_in p (string s) ts is = absurd cc
found_in p (array ds) ts is = absurd cc
found_in p (object ms) ts is = ap texts_of_list (in_list p ms) ∙ list_found p (members_in ms) ts is

pub texts_found : (o : Option Data) (p : List ℕ) → is_some (abouts_if_there o) ≡ true → texts_if_there o p ≡ Some (texts_about (those_there (abouts_if_there o)) p)
texts_found None p is = refl
texts_found (Some d) p is = by_reading (abouts_of d) refl is
  where
    by_reading : (r : Option (List LineAbout)) → abouts_of d ≡ r → is_some r ≡ true → texts_of_list (get p d) ≡ Some (texts_about (those_there (abouts_of d)) p)
    by_reading (Some ts) found is = found_in p d ts found ∙ ap (λ (x : Option (List LineAbout)). Some (texts_about (those_there x) p)) (sym found)
    by_reading None found is = absurd cc

-- what is found is what is given
pub finds_gives : {A B : Type 0} (refusal : LineRefusal) (see : A → B) (r : Result A LineFault) (reading : Option B) (y : B) → reading ≡ Some y
    → FindsBy refusal see Anywhere r reading → GivesBy see Anywhere r (Ok y)
finds_gives refusal see (Ok x) reading y is finds = ap (λ z. Ok z) (Some-injective y (see x) (sym is ∙ finds))
finds_gives refusal see (Err (Refused cause)) reading y is finds = absurd (wrong (sym finds.0 ∙ is))
  where
    wrong : None ≡ Some y → ⊥
    wrong none = absurd cc
finds_gives refusal see (Err NoMemory) reading y is finds = tt

-- ---- each prefix is that of a record

there_among : (p : List ℕ) (ms : List (List ℕ × Data)) → is_some (lookup (bytes_eq p) ms) ≡ list_any (λ other. bytes_eq p other) (map (λ m. m.0) ms)
there_among p [] = refl
there_among p (m ∷ ms) = by_test (bytes_eq p m.0) (lookup (bytes_eq p) ms) _ (there_among p ms)
  where
    by_test : (b : Bool) (o : Option Data) (c : Bool) → is_some o ≡ c → is_some (cond b (Some m.1) o) ≡ (b || c)
    by_test true o c is = refl
    by_test false o c is = is

named : (forms : Forms) (p : List ℕ) (d : Data) (rs : List LineRecord) → records_of forms d ≡ Some rs → is_some (get p d) ≡ is_among (map (λ r. r.0) rs) p
unfolding records_of
named forms p null rs is = absurd cc
named forms p (boolean b) rs is = absurd cc
named forms p (number n) rs is = absurd cc
named forms p (string s) rs is = absurd cc
named forms p (array ds) rs is = absurd cc
named forms p (object ms) rs is =
    ap is_some (in_list p ms) ∙ there_among p (members_in ms) ∙ ap (λ names. is_among names p) (names_kept forms (members_in ms) rs is)

all_named : (forms : Forms) (d : Data) (rs : List LineRecord) (ts : List LineAbout) → records_of forms d ≡ Some rs
    → list_all (λ (about : LineAbout). is_some (get about.0 d)) ts ≡ are_about_records rs ts
all_named forms d rs [] is = refl
all_named forms d rs (a ∷ ts) is =
    ap (λ b. b && list_all (λ (about : LineAbout). is_some (get about.0 d)) ts) (named forms a.0 d rs is)
    ∙ ap (λ b. is_among (map (λ r. r.0) rs) a.0 && b) (all_named forms d rs ts is)

-- they are read where their prefixes are those of records, and otherwise nothing is
pub same_test : (forms : Forms) (d e : Data) (rs : List LineRecord) (ts : List LineAbout) → records_at forms d ≡ Some rs → get (codes "records") d ≡ Some e
    → tested (list_all (λ (about : LineAbout). is_some (get about.0 e))) ts ≡ tested (are_about_records rs) ts
unfolding records_at
same_test forms d e rs ts is there =
    let records : records_of forms e ≡ Some rs = sym (ap (λ o. o >>= records_of forms) there) ∙ is in
    ap (λ b. cond b (Some ts) None) (all_named forms e rs ts records)

pub abouts_read : (rs : List LineRecord) (d : Data) (ts : List LineAbout) → abouts_if_there (get (codes "about") d) ≡ Some ts → tested (are_about_records rs) ts ≡ abouts_at rs d
unfolding abouts_at
abouts_read rs d ts is = sym (ap (λ o. o >>= tested (are_about_records rs)) is)

pub abouts_none : (rs : List LineRecord) (d : Data) → abouts_if_there (get (codes "about") d) ≡ None → abouts_at rs d ≡ None
unfolding abouts_at
abouts_none rs d is = ap (λ o. o >>= tested (are_about_records rs)) is

pub no_records : (forms : Forms) (d : Data) (rs : List LineRecord) → get (codes "records") d ≡ None → records_at forms d ≡ Some rs → ⊥
unfolding records_at
no_records forms d rs none is = absurd (wrong (sym (ap (λ o. o >>= records_of forms) none) ∙ is))
  where
    wrong : None ≡ Some rs → ⊥
    wrong is = absurd cc

-- ---- the prefixes of what is given

about_named : (m : List ℕ × Data) (about : LineAbout) → about_of m ≡ Some about → m.0 ≡ about.0
unfolding about_of
about_named m about is =
    let p = bind-Some (text_list_of m.1) (λ texts. Some (m.0, texts)) about is in
    ap (λ (a : LineAbout). a.0) (Some-injective (m.0, p.0) about p.2)

all_there : (d : Data) (es : List (String Global × Value)) (ts : List LineAbout) → each_of about_of (map seen es) ≡ Some ts
    → list_all (λ (e : String Global × Value). is_some (get (string_bytes e.0) d)) es ≡ list_all (λ (about : LineAbout). is_some (get about.0 d)) ts
all_there d [] ts is = ap (list_all (λ (about : LineAbout). is_some (get about.0 d))) (Some-injective [] ts is)
all_there d (e ∷ es) ts is =
    let first = bind-Some (about_of (seen e)) (λ y. each_of about_of (map seen es) >>= λ ys. Some (y ∷ ys)) ts is in
    let others = bind-Some (each_of about_of (map seen es)) (λ ys. Some (first.0 ∷ ys)) ts first.2 in
    ap (λ (name : List ℕ). is_some (get name d) && list_all (λ (x : String Global × Value). is_some (get (string_bytes x.0) d)) es) (about_named (seen e) first.0 first.1)
    ∙ ap (λ b. is_some (get first.0.0 d) && b) (all_there d es others.0 others.1)
    ∙ ap (list_all (λ (about : LineAbout). is_some (get about.0 d))) (Some-injective (first.0 ∷ others.0) ts others.2)

pub names_there_are : (d o : Data) (es : List (String Global × Value)) (ts : List LineAbout) → as_object d ≡ Some (members_view es) → abouts_of d ≡ Some ts
    → list_all (λ (e : String Global × Value). is_some (get (string_bytes e.0) o)) es ≡ list_all (λ (about : LineAbout). is_some (get about.0 o)) ts
unfolding abouts_of
names_there_are d o es ts there is =
    all_there o es ts
    (ap (each_of about_of) (sym (members_in-members_view es)) ∙ ap (λ (m : Option Members). option_map members_in m >>= each_of about_of) (sym there) ∙ is)

pub no_object : (d : Data) (ts : List LineAbout) → as_object d ≡ None → abouts_of d ≡ Some ts → ⊥
unfolding abouts_of
no_object d ts none is = wrong (ap (λ (m : Option Members). option_map members_in m >>= each_of about_of) (sym none) ∙ is)
  where
    wrong : None ≡ Some ts → ⊥
    wrong is = absurd cc
