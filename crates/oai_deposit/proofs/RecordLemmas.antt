-- The records of a line: lists and objects as calls see them, and why the prefixes rise.
use Rattle.std.proofs.Common.{◌≡◌, ℕ, true, Some, is_some, List, [], ◌∷◌, map, String, Global, BTreeMap, string_bytes, Less, refl, sym, ap, ◌∙◌}
use Rattle.std.specs.List.Sorted.{IsStrictlySortedBy}
use Rattle.std.specs.Map.{keys_of}
use Rattle.std.specs.String.{string_cmp}
use Rattle.std.specs.Ordering.{nat_cmp, is_lt}
use Rattle.std.specs.Cmp.Lexicographic.{slice_cmp}
use Rattle.serde_json.specs.Data.{Data}
use Rattle.serde_json.specs.Find.{as_object}
use Rattle.serde_json.specs.View.{view}
use Rattle.serde_json.specs.declared.value.Value.{Value, Object}
use Rattle.serde_json.proofs.Views.{view-Object}
use Rattle.oai_item.specs.Item.{is_before, are_rising}
use Rattle.oai_item.specs.declared.forms.Forms.{Forms}
use Rattle.oai_item.specs.declared.givens.Given.{Given}
use Rattle.oai_names.specs.Optional.{◌>>=◌, each_of}
use Rattle.oai_deposit.specs.Lines.{LineRecord, given_read, record_of, records_of}
use Rattle.oai_json.proofs.JsonLemmas.{members_in-members_view, seen}
use Rattle.oai_json.proofs.ReadingLemmas.{bind-Some, Some-injective}

pub records_of-Object : (forms : Forms) (m : BTreeMap (String Global) Value) → records_of forms (view (Object m)) ≡ each_of (record_of forms) (map seen m.entries)
unfolding records_of
records_of-Object forms m = ap (records_of forms) (view-Object m) ∙ ap (each_of (record_of forms)) (members_in-members_view m.entries)

pub is_object : (m : BTreeMap (String Global) Value) → is_some (as_object (view (Object m))) ≡ true
is_object m = ap (λ d. is_some (as_object d)) (view-Object m)

pub record_of-Some : (forms : Forms) (m : List ℕ × Data) (given : Given) → given_read forms m.1 ≡ Some given → record_of forms m ≡ Some (m.0, given)
unfolding record_of
record_of-Some forms m given is = ap (λ r. r >>= λ given. Some (m.0, given)) is

-- a record keeps the name of its member
record_of-name : (forms : Forms) (m : List ℕ × Data) (r : LineRecord) → record_of forms m ≡ Some r → m.0 ≡ r.0
unfolding record_of
record_of-name forms m r is =
    let given = bind-Some (given_read forms m.1) (λ given. Some (m.0, given)) r is in
    ap (λ (x : LineRecord). x.0) (Some-injective (m.0, given.0) r given.2)

pub names_kept : (forms : Forms) (ms : List (List ℕ × Data)) (rs : List LineRecord) → each_of (record_of forms) ms ≡ Some rs → map (λ m. m.0) ms ≡ map (λ r. r.0) rs
names_kept forms [] rs is = ap (map (λ (r : LineRecord). r.0)) (Some-injective [] rs is)
names_kept forms (m ∷ ms) rs is =
    let first = bind-Some (record_of forms m) (λ y. each_of (record_of forms) ms >>= λ ys. Some (y ∷ ys)) rs is in
    let others = bind-Some (each_of (record_of forms) ms) (λ ys. Some (first.0 ∷ ys)) rs first.2 in
    ap (λ name. name ∷ map (λ (m : List ℕ × Data). m.0) ms) (record_of-name forms m first.0 first.1)
    ∙ ap (λ names. first.0.0 ∷ names) (names_kept forms ms others.0 others.1)
    ∙ ap (map (λ (r : LineRecord). r.0)) (Some-injective (first.0 ∷ others.0) rs others.2)

before : (a b : List ℕ) → slice_cmp nat_cmp a b ≡ Less → is_before a b ≡ true
before a b less = ap is_lt less

-- keys that ascend are prefixes that rise
rising_names : (es : List (String Global × Value)) (rs : List LineRecord) → map (λ e. string_bytes e.0) es ≡ map (λ r. r.0) rs
    → IsStrictlySortedBy string_cmp (keys_of es) → are_rising rs ≡ true
unfolding IsStrictlySortedBy
rising_names es [] same sorted = refl
rising_names es (r ∷ []) same sorted = refl
rising_names [] (r ∷ s ∷ rs) same sorted = absurd cc
rising_names (e ∷ []) (r ∷ s ∷ rs) same sorted = absurd cc
rising_names (e ∷ d ∷ es) (r ∷ s ∷ rs) same sorted =
    let first : string_bytes e.0 ≡ r.0 = cc in
    let second : string_bytes d.0 ≡ s.0 = cc in
    let others : map (λ e. string_bytes e.0) (d ∷ es) ≡ map (λ r. r.0) (s ∷ rs) = cc in
    let one : is_before r.0 s.0 ≡ true = before r.0 s.0 (rw (← first, ← second) sorted.0.0) in
    rw (one, rising_names (d ∷ es) (s ∷ rs) others sorted.1) refl

seen_names : (es : List (String Global × Value)) → map (λ m. m.0) (map seen es) ≡ map (λ e. string_bytes e.0) es
seen_names [] = refl
seen_names (e ∷ es) = ap (λ names. string_bytes e.0 ∷ names) (seen_names es)

-- the records of an object's members rise
pub rising : (forms : Forms) (es : List (String Global × Value)) (rs : List LineRecord) → each_of (record_of forms) (map seen es) ≡ Some rs
    → IsStrictlySortedBy string_cmp (keys_of es) → are_rising rs ≡ true
rising forms es rs is sorted = rising_names es rs (sym (seen_names es) ∙ names_kept forms (map seen es) rs is) sorted
