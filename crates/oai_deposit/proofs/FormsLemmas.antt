-- Where records are lists of fields alone, no line deposits an element, or gives anything about a record.
use Rattle.std.proofs.Common.{◌≡◌, ◌∙◌, ℕ, Bool, true, false, not, ◌&&◌, cond, List, [], ◌∷◌, map, Option, Some, None, Result, Ok, Err, refl, sym, ap, subst}
use Rattle.std.proofs.lemmas.Bool.{and_from, and_parts}
use Rattle.std.specs.List.{list_all}
use Rattle.serde_json.specs.Data.{Data}
use Rattle.oai_item.specs.Givens.{GivenRecord, kept}
use Rattle.oai_item.specs.ShortTexts.{is_short_text}
use Rattle.oai_deposit.specs.declared.changes.Change.TheVariants as change
use Rattle.oai_item.specs.declared.forms.Forms.TheVariants.{Fields}
use Rattle.oai_item.specs.declared.givens.Given.{Given}
use Rattle.oai_item.specs.declared.givens.Given.TheVariants.{Listed, Whole}
use Rattle.oai_item.specs.declared.refusals.LineRefusal.{LineRefusal}
use Rattle.oai_item.specs.declared.refusals.LineRefusal.TheVariants.{BadIdentifier, BadSetSpec, BadText}
use Rattle.oai_json.specs.Json.{json_in}
use Rattle.oai_names.specs.Names.{may_be_identifier}
use Rattle.oai_names.specs.Sets.{may_be_set_spec}
use Rattle.oai_deposit.specs.Lines.{DepositParts, LineAbout, LineRecord, Shape, about_read, are_records_of, before_about, may_be_about, with_abouts, adds_set, are_of_forms, as_deposit, as_put, asked_change, asked_parts, before_others, change_asked, deletes, deposits, puts, elements_read, given_element, have_xml_texts, is_of_forms, line_of, purges, shape_of, value_asked}
use Rattle.oai_deposit.proofs.CountLemmas.{is_empty}
use Rattle.oai_deposit.proofs.ShapeLemmas.{no_about, shape_law_holds}

-- a list is given as it is
listed_read : (given : Given) → is_of_forms Fields given ≡ true → given_element given ≡ Ok given
listed_read (Listed fields) is = refl
listed_read (Whole text) is = absurd cc

-- and nothing is given about it
none_read : (about : List (List ℕ)) → may_be_about Fields about ≡ true → about_read about ≡ Ok about
unfolding about_read
none_read [] is = refl
none_read (text ∷ about) is = absurd (is_empty text about is)

lists_read : (records : List GivenRecord) → are_of_forms Fields records ≡ true → elements_read records ≡ Ok records
unfolding elements_read
lists_read [] all = refl
lists_read (r ∷ records) all =
    let parts = and_parts (is_of_forms Fields r.1 && may_be_about Fields r.2) (are_of_forms Fields records) all in
    let own = and_parts (is_of_forms Fields r.1) (may_be_about Fields r.2) parts.0 in
    ap (λ g. before_others (before_about r.0 g (about_read r.2)) (elements_read records)) (listed_read r.1 own.0)
    ∙ ap (λ a. before_others (before_about r.0 (Ok r.1) a) (elements_read records)) (none_read r.2 own.1)
    ∙ ap (before_others (Ok r)) (lists_read records parts.1)

-- the records of a line, with nothing about them
alone : (records : List LineRecord) → are_records_of Fields records ≡ true → are_of_forms Fields (with_abouts records []) ≡ true
alone [] all = refl
alone (r ∷ records) all =
    let parts = and_parts (is_of_forms Fields r.1) (are_records_of Fields records) all in
    and_from (is_of_forms Fields r.1 && true) (are_of_forms Fields (with_abouts records [])) (and_from (is_of_forms Fields r.1) true parts.0 refl) (alone records parts.1)

records_same : (a b : Bool) (c : Bool) (identifier name : List ℕ) (sets specs : List (List ℕ)) (records given : List GivenRecord)
    → as_deposit (cond (not a) (Err BadIdentifier) (cond (not b) (Err BadSetSpec) (cond (not c) (Err BadText) (Ok (identifier, sets, records))))) ≡ Ok (change.Deposit name specs given)
    → records ≡ given
records_same true true true identifier name sets specs records given is = cc
records_same true true false identifier name sets specs records given is = absurd cc
records_same true false c identifier name sets specs records given is = absurd cc
records_same false b c identifier name sets specs records given is = absurd cc

deposit_listed : (identifier name : List ℕ) (sets specs : List (List ℕ)) (records given : List GivenRecord) → are_of_forms Fields records ≡ true
    → as_deposit (asked_parts identifier sets (elements_read records)) ≡ Ok (change.Deposit name specs given) → are_of_forms Fields given ≡ true
deposit_listed identifier name sets specs records given all is =
    let asked : as_deposit (asked_parts identifier sets (Ok records)) ≡ Ok (change.Deposit name specs given) =
    ap (λ (read : Result (List GivenRecord) LineRefusal). as_deposit (asked_parts identifier sets read)) (sym (lists_read records all)) ∙ is in
    let same = records_same (may_be_identifier identifier) (list_all may_be_set_spec sets) (have_xml_texts (map kept records)) identifier name sets specs records given asked in
    subst (λ (rs : List GivenRecord). are_of_forms Fields rs ≡ true) same all

shape_listed : (d : Data) (shape : Shape) (name : List ℕ) (specs : List (List ℕ)) (given : List GivenRecord) → shape_of Fields d ≡ Some shape
    → asked_change shape ≡ Ok (change.Deposit name specs given) → are_of_forms Fields given ≡ true
unfolding asked_change
shape_listed d (deposits identifier sets records abouts) name specs given found is =
    let fits = ((shape_law_holds Fields d).fits (deposits identifier sets records abouts)).0 found in
    let none : abouts ≡ [] = no_about d identifier sets records abouts fits in
    deposit_listed identifier name sets specs (with_abouts records abouts) given
    (ap (λ (ts : List LineAbout). are_of_forms Fields (with_abouts records ts)) none ∙ alone records fits.formed) is
shape_listed d (puts identifier sets records abouts) name specs given found is = absurd (no_put (asked_parts identifier sets (elements_read (with_abouts records abouts))) is)
  where
    no_put : (parts : Result DepositParts LineRefusal) → as_put parts ≡ Ok (change.Deposit name specs given) → ⊥
    no_put (Ok parts) is = cc
    no_put (Err refusal) is = cc
shape_listed d (deletes identifier) name specs given found is = absurd (by_test (may_be_identifier identifier) is)
  where
    by_test : (a : Bool) → cond a (Ok (change.Delete identifier)) (Err BadIdentifier) ≡ Ok (change.Deposit name specs given) → ⊥
    by_test true is = cc
    by_test false is = cc
shape_listed d (purges before) name specs given found is = absurd cc
shape_listed d (adds_set spec title) name specs given found is = absurd (by_tests (may_be_set_spec spec) (is_short_text title) is)
  where
    by_tests : (a b : Bool) → cond (not a) (Err BadSetSpec) (cond (not b) (Err BadText) (Ok (change.AddSet spec title))) ≡ Ok (change.Deposit name specs given) → ⊥
    by_tests true true is = cc
    by_tests true false is = cc
    by_tests false b is = cc

pub line_listed : (line name : List ℕ) (specs : List (List ℕ)) (given : List GivenRecord) → line_of Fields line ≡ Ok (change.Deposit name specs given) → are_of_forms Fields given ≡ true
unfolding line_of
line_listed line name specs given is = by_value (json_in line) is
  where
    by_shape : (d : Data) (shape : Option Shape) → shape_of Fields d ≡ shape → change_asked shape ≡ Ok (change.Deposit name specs given) → are_of_forms Fields given ≡ true
    by_shape d (Some shape) found is = shape_listed d shape name specs given found is
    by_shape d None found is = absurd cc

    by_value : (o : Option Data) → value_asked Fields o ≡ Ok (change.Deposit name specs given) → are_of_forms Fields given ≡ true
    by_value (Some d) is = by_shape d (shape_of Fields d) refl is
    by_value None is = absurd cc

-- and none is a put
shape_no_put : (d : Data) (shape : Shape) (name : List ℕ) (specs : List (List ℕ)) (given : List GivenRecord) → shape_of Fields d ≡ Some shape
    → asked_change shape ≡ Ok (change.Put name specs given) → ⊥
unfolding asked_change
shape_no_put d (deposits identifier sets records abouts) name specs given found is = no_deposit (asked_parts identifier sets (elements_read (with_abouts records abouts))) is
  where
    no_deposit : (parts : Result DepositParts LineRefusal) → as_deposit parts ≡ Ok (change.Put name specs given) → ⊥
    no_deposit (Ok parts) is = cc
    no_deposit (Err refusal) is = cc
shape_no_put d (puts identifier sets records abouts) name specs given found is =
    let none = (((shape_law_holds Fields d).fits (puts identifier sets records abouts)).0 found).allowed in cc
shape_no_put d (deletes identifier) name specs given found is = by_test (may_be_identifier identifier) is
  where
    by_test : (a : Bool) → cond a (Ok (change.Delete identifier)) (Err BadIdentifier) ≡ Ok (change.Put name specs given) → ⊥
    by_test true is = cc
    by_test false is = cc
shape_no_put d (purges before) name specs given found is = cc
shape_no_put d (adds_set spec title) name specs given found is = by_tests (may_be_set_spec spec) (is_short_text title) is
  where
    by_tests : (a b : Bool) → cond (not a) (Err BadSetSpec) (cond (not b) (Err BadText) (Ok (change.AddSet spec title))) ≡ Ok (change.Put name specs given) → ⊥
    by_tests true true is = cc
    by_tests true false is = cc
    by_tests false b is = cc

pub line_no_put : (line name : List ℕ) (specs : List (List ℕ)) (given : List GivenRecord) → line_of Fields line ≡ Ok (change.Put name specs given) → ⊥
unfolding line_of
line_no_put line name specs given is = by_value (json_in line) is
  where
    by_shape : (d : Data) (shape : Option Shape) → shape_of Fields d ≡ shape → change_asked shape ≡ Ok (change.Put name specs given) → ⊥
    by_shape d (Some shape) found is = shape_no_put d shape name specs given found is
    by_shape d None found is = cc

    by_value : (o : Option Data) → value_asked Fields o ≡ Ok (change.Put name specs given) → ⊥
    by_value (Some d) is = by_shape d (shape_of Fields d) refl is
    by_value None is = cc
