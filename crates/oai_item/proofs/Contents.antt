-- What fields keep as the record itself, and what about it.
use Rattle.std.proofs.Common.{◌≡◌, ◌∙◌, ℕ, suc, ◌+◌, Bool, true, false, ◌&&◌, not, cond, eqb, List, [], ◌∷◌, ◌++◌, map, length, take, drop, Option, Some, None, refl, sym, ap, arith}
use Rattle.std.specs.List.{before_first, list_all, position_or_len}
use Rattle.std.proofs.lemmas.Bool.{and_parts}
use Rattle.std.proofs.lemmas.List.{take-append-drop}
use Rattle.oai_item.specs.Elements.{about_in, behind_content, content_in, element_field, element_in, element_of_content, from_nameless, is_about, is_nameless, nameless_text}
use Rattle.oai_xml.specs.Documents.{is_canonical}
use Rattle.oai_item.specs.Walks.{IsAfterNamed, IsUpToNameless}
use Rattle.oai_item.specs.declared.fields.Field.{Field}

-- ---- up to the first field without a name

at_nameless : (field : Field) (fields : List Field) → is_nameless field ≡ true → position_or_len is_nameless (field ∷ fields) ≡ 0
at_nameless field fields is = ap (λ (w : Bool). cond (not w) (1 + position_or_len is_nameless fields) 0) is

past_named : (field : Field) (fields : List Field) → is_nameless field ≡ false → position_or_len is_nameless (field ∷ fields) ≡ suc (position_or_len is_nameless fields)
past_named field fields is =
    let more : 1 + position_or_len is_nameless fields ≡ suc (position_or_len is_nameless fields) = omega arith in
    ap (λ (w : Bool). cond (not w) (1 + position_or_len is_nameless fields) 0) is ∙ more

pub none_ahead : IsUpToNameless [] []
none_ahead = record { kept = refl; none = refl; all = refl }

pub nameless_ahead : (field : Field) (fields : List Field) → is_nameless field ≡ true → IsUpToNameless (field ∷ fields) (field ∷ fields)
nameless_ahead field fields is =
    let at = at_nameless field fields is in
    record {
      kept = refl;
      none = ap (λ n. take n (field ∷ fields)) at;
      all = ap (λ n. drop n (field ∷ fields)) at;
    }

pub named_skipped : (field : Field) (fields : List Field) → is_nameless field ≡ false → from_nameless (field ∷ fields) ≡ from_nameless fields
named_skipped field fields is = ap (λ n. drop n (field ∷ fields)) (past_named field fields is)

pub named_before : (field : Field) (fields : List Field) → is_nameless field ≡ false → before_first is_nameless (field ∷ fields) ≡ field ∷ before_first is_nameless fields
named_before field fields is = ap (λ n. take n (field ∷ fields)) (past_named field fields is)

-- ---- the record itself, and what is about it

pub content_and_behind : (fields : List Field) → content_in fields ++ behind_content fields ≡ fields
content_and_behind [] = refl
content_and_behind (field ∷ fields) = ap (λ (w : List Field). field ∷ w) (take-append-drop (position_or_len is_nameless fields) fields)

-- one field without a name, and no field with a name behind it, are an element
pub element_alone : (field : Field) (fields : List Field) → before_first is_nameless fields ≡ [] → element_in (field ∷ fields) ≡ nameless_text field
element_alone field fields none = ap (λ (w : List Field). element_of_content (field ∷ w)) none

-- another field with a name is none
pub element_of_more : (field other : Field) (fields : List Field) → is_nameless other ≡ false → element_in (field ∷ other ∷ fields) ≡ None
element_of_more field other fields is = ap (λ (w : List Field). element_of_content (field ∷ w)) (named_before other fields is)

-- a field with a name is none either
pub element_of_named : (field : Field) (fields : List Field) → nameless_text field ≡ None → element_in (field ∷ fields) ≡ None
element_of_named field fields is = by_more (before_first is_nameless fields)
  where
    by_more : (w : List Field) → element_of_content (field ∷ w) ≡ None
    by_more [] = is
    by_more (other ∷ w) = refl

pub skipped : (old new : List Field) (field : Field) → IsAfterNamed old field new → from_nameless new ≡ from_nameless old
skipped old new field is = sym (named_skipped field new is.named) ∙ sym (ap from_nameless is.taken)

-- ---- fields with names, or an element, and elements about them behind them

abbrev pub has_name : Field → Bool
has_name field = not (is_nameless field)

named : (b : Bool) → not b ≡ true → b ≡ false
named true is = absurd cc
named false is = refl

about_ahead : (about : List (List ℕ)) → IsUpToNameless (map element_field about) (map element_field about)
about_ahead [] = none_ahead
about_ahead (text ∷ about) = nameless_ahead (element_field text) (map element_field about) refl

before_about : (fields : List Field) (about : List (List ℕ)) → list_all has_name fields ≡ true → before_first is_nameless (fields ++ map element_field about) ≡ fields
before_about [] about all = (about_ahead about).none
before_about (field ∷ fields) about all =
    let p = and_parts (has_name field) (list_all has_name fields) all in
    named_before field (fields ++ map element_field about) (named (is_nameless field) p.0)
    ∙ ap (λ (w : List Field). field ∷ w) (before_about fields about p.1)

from_about : (fields : List Field) (about : List (List ℕ)) → list_all has_name fields ≡ true → from_nameless (fields ++ map element_field about) ≡ map element_field about
from_about [] about all = (about_ahead about).all
from_about (field ∷ fields) about all =
    let p = and_parts (has_name field) (list_all has_name fields) all in
    named_skipped field (fields ++ map element_field about) (named (is_nameless field) p.0) ∙ from_about fields about p.1

pub content_again : (field : Field) (fields : List Field) (about : List (List ℕ)) → list_all has_name fields ≡ true
    → content_in ((field ∷ fields) ++ map element_field about) ≡ field ∷ fields
content_again field fields about all = ap (λ (w : List Field). field ∷ w) (before_about fields about all)

pub behind_again : (field : Field) (fields : List Field) (about : List (List ℕ)) → list_all has_name fields ≡ true
    → behind_content ((field ∷ fields) ++ map element_field about) ≡ map element_field about
behind_again field fields about all = from_about fields about all

-- canonical texts are elements about a record
pub canonical_about : (about : List (List ℕ)) → list_all is_canonical about ≡ true → list_all is_about (map element_field about) ≡ true
canonical_about [] all = refl
canonical_about (text ∷ about) all =
    let p = and_parts (is_canonical text) (list_all is_canonical about) all in
    rw (p.0, canonical_about about p.1) refl
