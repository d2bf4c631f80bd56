-- Lines of the members that they are written with.
use Rattle.std.proofs.Common.{◌≡◌, ◌≤◌, ◌∙◌, ℕ, true, false, eqb, List, [], ◌∷◌, length, map, codes, Some, Result, Ok, Err, IfOk, String, Global, BTreeMap, string_bytes, refl, sym, ap, arith, rules}
use Rattle.std.proofs.lemmas.Str.{IsUtf8-string_bytes}
use Rattle.serde_json.specs.Data.{Data, Members, depth, items_depth, members_depth, no_members, object, put, string}
use Rattle.serde_json.specs.Read.{max_depth, read}
use Rattle.serde_json.specs.View.{members_view, view}
use Rattle.serde_json.specs.Written.{compact_text, has_float}
use Rattle.serde_json.specs.declared.value.Value.{Value, Object}
use Rattle.serde_json.proofs.Views.{view-Object}
use Rattle.serde_json.proofs.OnLiterals.{serde_json_on_literals}
use Rattle.oai_item.specs.Givens.{GivenRecord}
use Rattle.oai_deposit.specs.declared.changes.Change.{Change}
use Rattle.oai_item.specs.declared.fields.Field.{Field}
use Rattle.oai_item.specs.declared.forms.Forms.{Forms}
use Rattle.oai_item.specs.declared.givens.Given.{Given}
use Rattle.oai_item.specs.declared.givens.Given.TheVariants.{Listed, Whole}
use Rattle.oai_item.specs.declared.refusals.LineRefusal.{LineRefusal}
use Rattle.oai_json.specs.Json.{items_of, json_in, members_of}
use Rattle.oai_deposit.specs.Calls.{with_about_put}
use Rattle.oai_deposit.specs.Lines.{LineAbout, LineRecord, change_asked, line_of, shape_of}
use Rattle.oai_deposit.specs.Shapes.{written_about, written_field, written_given, written_record, written_records, written_texts}
use Rattle.oai_json.proofs.JsonLemmas.{json_in-Some}
use Rattle.oai_deposit.specs.Dumps.{IsLineOf, deletion_value, deposit_value, line_abouts, line_record, set_value}
use Rattle.oai_deposit.proofs.CountLemmas.{is_empty}
use Rattle.oai_deposit.proofs.DumpLemmas.{read_line, value_of}

-- ---- the text that an equal value is written as

pub line_text : {E : Type 0} (written : Result (String Global) E) (d e : Data) → d ≡ e
    → IfOk written (λ s. has_float d ≡ false → string_bytes s ≡ compact_text d)
    → IfOk written (λ line. has_float e ≡ false → string_bytes line ≡ compact_text e)
line_text (Ok s) d e same texts = λ whole. texts (rw same whole) ∙ ap compact_text same
line_text (Err error) d e same texts = tt

-- and is read of
pub line_value : {E : Type 0} (written : Result (String Global) E) (d e : Data) → d ≡ e
    → IfOk written (λ s. depth d ≤ max_depth → read (string_bytes s) ≡ Some d)
    → IfOk written (λ line. depth e ≤ max_depth → json_in (string_bytes line) ≡ Some e)
line_value (Ok s) d e same reads = λ shallow. json_in-Some (string_bytes s) e (IsUtf8-string_bytes s) (rw (← same) (reads (rw same shallow)))
line_value (Err error) d e same reads = tt

-- a line that is written for an equal value
pub line_made : {E : Type 0} (written : Result (String Global) E) (made : Data) (d : Data) → made ≡ d → depth d ≤ max_depth → has_float d ≡ false
    → IfOk written (λ line. has_float made ≡ false → string_bytes line ≡ compact_text made)
    → IfOk written (λ line. depth made ≤ max_depth → json_in (string_bytes line) ≡ Some made)
    → IfOk written (λ line. IsLineOf d (string_bytes line))
line_made (Ok s) made d same shallow whole texts reads = record {
  text = texts (rw same whole) ∙ ap compact_text same;
  reads = reads (rw same shallow) ∙ ap Some same;
}
line_made (Err error) made d same shallow whole texts reads = tt

-- what it requests
pub line_asks : {E : Type 0} (written : Result (String Global) E) (d : Data) (P : Forms → Type 0) (asks : Result Change LineRefusal)
    → ((forms : Forms) → P forms → change_asked (shape_of forms d) ≡ asks)
    → IfOk written (λ line. IsLineOf d (string_bytes line)) → IfOk written (λ line. (forms : Forms) → P forms → line_of forms (string_bytes line) ≡ asks)
line_asks (Ok s) d P asks is line = λ forms formed. read_line forms (string_bytes s) d line.reads ∙ is forms formed
line_asks (Err error) d P asks is line = tt

pub line_asks_any : {E : Type 0} (written : Result (String Global) E) (d : Data) (asks : Result Change LineRefusal)
    → ((forms : Forms) → change_asked (shape_of forms d) ≡ asks)
    → IfOk written (λ line. IsLineOf d (string_bytes line)) → IfOk written (λ line. (forms : Forms) → line_of forms (string_bytes line) ≡ asks)
line_asks_any (Ok s) d asks is line = λ forms. read_line forms (string_bytes s) d line.reads ∙ is forms
line_asks_any (Err error) d asks is line = tt

-- ---- how deep they are

texts_depth : (ts : List (List ℕ)) → items_depth (items_of (map string ts)) ≡ 0
texts_depth [] = refl
texts_depth (t ∷ ts) = rw (texts_depth ts) refl

fields_depth : (fs : List Field) → items_depth (items_of (map written_field fs)) ≤ 1
fields_depth [] = omega arith
fields_depth (f ∷ fs) = let h = fields_depth fs in grind (arith, rules)

given_depth : (given : Given) → depth (written_given given) ≤ 2
given_depth (Listed fields) = let f = fields_depth fields in grind (arith, rules)
given_depth (Whole text) = omega arith

records_depth : (ms : List LineRecord) → members_depth (members_of (map written_record ms)) ≤ 2
records_depth [] = omega arith
records_depth (m ∷ ms) = let f = given_depth m.1 in let h = records_depth ms in grind (arith, rules)

abouts_depth : (ts : List LineAbout) → members_depth (members_of (map written_about ts)) ≤ 1
abouts_depth [] = omega arith
abouts_depth (a ∷ ts) = let t = texts_depth a.1 in let h = abouts_depth ts in grind (arith, rules)

-- ---- the members, put in one after the other

put_all : (abouts : List LineAbout) (identifier : List ℕ) (sets : List (List ℕ)) (records : List LineRecord)
    → object (with_about_put (members_of (map written_about abouts)) (put (codes "records") (written_records records) (put (codes "sets") (written_texts sets) (put (codes "deposit") (string identifier) no_members))))
    ≡ value_of abouts identifier sets records
unfolding serde_json_on_literals
put_all [] identifier sets records = refl
put_all (a ∷ ts) identifier sets records = refl

pub deposit_made : (one two three four abouts : Members) (d s r : Data) (identifier : List ℕ) (sets : List (List ℕ)) (records : List GivenRecord)
    → one ≡ put (codes "deposit") d no_members → two ≡ put (codes "sets") s one → three ≡ put (codes "records") r two → four ≡ with_about_put abouts three
    → d ≡ string identifier → s ≡ written_texts sets → r ≡ written_records (map line_record records) → abouts ≡ members_of (map written_about (line_abouts records))
    → object four ≡ deposit_value identifier sets records
deposit_made one two three four abouts d s r identifier sets records first second third fourth is_d is_s is_r is_a =
    ap object (fourth ∙ ap (with_about_put abouts) (third ∙ ap (put (codes "records") r) (second ∙ ap (put (codes "sets") s) first)))
    ∙ ap (λ (x : Members). object (with_about_put x (put (codes "records") r (put (codes "sets") s (put (codes "deposit") d no_members))))) is_a
    ∙ ap (λ (x : Data). object (with_about_put (members_of (map written_about (line_abouts records))) (put (codes "records") r (put (codes "sets") s (put (codes "deposit") x no_members))))) is_d
    ∙ ap (λ (x : Data). object (with_about_put (members_of (map written_about (line_abouts records))) (put (codes "records") r (put (codes "sets") x (put (codes "deposit") (string identifier) no_members))))) is_s
    ∙ ap (λ (x : Data). object (with_about_put (members_of (map written_about (line_abouts records))) (put (codes "records") x (put (codes "sets") (written_texts sets) (put (codes "deposit") (string identifier) no_members))))) is_r
    ∙ put_all (line_abouts records) identifier sets (map line_record records)

-- the member `about`, if there is one
pub about_not_put : (es : List (String Global × Value)) (others : Members) → eqb (length es) 0 ≡ true → with_about_put (members_view es) others ≡ others
about_not_put [] others none = refl
about_not_put (e ∷ es) others none = absurd (is_empty e es none)

some_put : (es : List (String Global × Value)) (others : Members) → eqb (length es) 0 ≡ false
    → with_about_put (members_view es) others ≡ put (codes "about") (object (members_view es)) others
some_put [] others some = absurd cc
some_put (e ∷ es) others some = refl

pub about_put : (m : BTreeMap (String Global) Value) (others : Members) → eqb (length m.entries) 0 ≡ false
    → with_about_put (members_view m.entries) others ≡ put (codes "about") (view (Object m)) others
about_put m others some = some_put m.entries others some ∙ ap (λ (d : Data). put (codes "about") d others) (sym (view-Object m))

pub deletion_made : (one : Members) (d : Data) (identifier : List ℕ) → one ≡ put (codes "delete") d no_members → d ≡ string identifier → object one ≡ deletion_value identifier
unfolding serde_json_on_literals
deletion_made one d identifier first is = ap object first ∙ rw is refl

pub set_made : (one two : Members) (s n : Data) (spec name : List ℕ)
    → one ≡ put (codes "set") s no_members → two ≡ put (codes "name") n one → s ≡ string spec → n ≡ string name → object two ≡ set_value spec name
unfolding serde_json_on_literals
set_made one two s n spec name first second is_s is_n = ap object (second ∙ ap (put (codes "name") n) first) ∙ rw (is_s, is_n) refl

-- ---- none of them is deeper than may be

shallow_value : (abouts : List LineAbout) (identifier : List ℕ) (sets : List (List ℕ)) (records : List LineRecord) → depth (value_of abouts identifier sets records) ≤ max_depth
shallow_value [] identifier sets records = let s = texts_depth sets in let r = records_depth records in grind (arith, rules)
shallow_value (a ∷ ts) identifier sets records =
    let h = abouts_depth (a ∷ ts) in let s = texts_depth sets in let r = records_depth records in grind (arith, rules)

pub shallow_deposit : (identifier : List ℕ) (sets : List (List ℕ)) (records : List GivenRecord) → depth (deposit_value identifier sets records) ≤ max_depth
shallow_deposit identifier sets records = shallow_value (line_abouts records) identifier sets (map line_record records)

pub shallow_deletion : (identifier : List ℕ) → depth (deletion_value identifier) ≤ max_depth
shallow_deletion identifier = omega arith

pub shallow_set : (spec name : List ℕ) → depth (set_value spec name) ≤ max_depth
shallow_set spec name = omega arith
