-- Field lines, one more at the end of those that were read.
use Rattle.std.proofs.Common.{◌≡◌, ◌∙◌, ℕ, Bool, true, false, ◌||◌, if◌then◌else◌, List, [], ◌∷◌, ◌++◌, length, map, Option, None, Some, refl, sym, ap, arith}
use Rattle.std.specs.Prelude.{nat_lt, is_some, IfSome}
use Rattle.std.specs.List.{filter, list_any}
use Rattle.std.specs.Option.{option_map, option_or}
use Rattle.std.proofs.lemmas.Bool.Decides.{nat_tests}
use Rattle.std.proofs.lemmas.List.{append-nil, length-append, map-append}
use Rattle.std.proofs.lemmas.List.Elements.{filter-append}
use Rattle.std.proofs.lemmas.List.Folds.{list_any-append}
use Rattle.httparse.specs.Spans.{IsWithin, span_bytes}
use Rattle.httparse.specs.declared.spans.Span.{Span}
use Rattle.oai_front.specs.Fields.{any_close, first_value, is_field_named, lists_close, values_named}
use Rattle.oai_front.specs.HeadFields.{AreLines}
use Rattle.oai_front.specs.declared.fields.FieldLines.{FieldLines}
use Rattle.std.specs.Prelude.{codes}

-- ---- the values of a name

values_step : (name : List ℕ) (field : List ℕ × List ℕ) (named : Bool) → is_field_named name field ≡ named → values_named name (field ∷ []) ≡ (if named then field.1 ∷ [] else [])
unfolding values_named
values_step name field true e = rw e refl
values_step name field false e = rw e refl

values_append : (name : List ℕ) (fields more : List (List ℕ × List ℕ)) → values_named name (fields ++ more) ≡ values_named name fields ++ values_named name more
unfolding values_named
values_append name fields more =
    ap (map (λ (field : List ℕ × List ℕ). field.1)) (filter-append (is_field_named name) fields more)
    ∙ map-append (λ (field : List ℕ × List ℕ). field.1) (filter (is_field_named name) fields) (filter (is_field_named name) more)

pub values_more : (name : List ℕ) (fields : List (List ℕ × List ℕ)) (field : List ℕ × List ℕ) → is_field_named name field ≡ true
    → values_named name (fields ++ field ∷ []) ≡ values_named name fields ++ field.1 ∷ []
values_more name fields field named = values_append name fields (field ∷ []) ∙ ap (λ (more : List (List ℕ)). values_named name fields ++ more) (values_step name field true named)

-- a field of another name
pub values_same : (name : List ℕ) (fields : List (List ℕ × List ℕ)) (field : List ℕ × List ℕ) → is_field_named name field ≡ false
    → values_named name (fields ++ field ∷ []) ≡ values_named name fields
values_same name fields field named =
    values_append name fields (field ∷ []) ∙ ap (λ (more : List (List ℕ)). values_named name fields ++ more) (values_step name field false named) ∙ append-nil (values_named name fields)

-- ---- what is kept of the lines

two_lines : (x : List ℕ) (xs : List (List ℕ)) (y : List ℕ) → nat_lt 1 (length ((x ∷ xs) ++ y ∷ [])) ≡ true
two_lines x xs y = grind (arith, nat_tests, length-append (x ∷ xs) (y ∷ []))

-- one value more behind those of which the first is known
lines_with : (bytes : List ℕ) (values : List (List ℕ)) (first : Option Span) (value : Span) → IsWithin (length bytes) value
    → option_map (span_bytes bytes) first ≡ first_value values → IfSome first (IsWithin (length bytes))
    → AreLines bytes (values ++ span_bytes bytes value ∷ []) (record { first = option_or first (Some value); is_repeated = is_some first })
lines_with bytes [] None value within f inside = record { first = refl; within = within; repeated = refl }
lines_with bytes (x ∷ xs) None value within f inside = cc
lines_with bytes [] (Some s) value within f inside = cc
lines_with bytes (x ∷ xs) (Some s) value within f inside = record {
  first = f;
  within = inside;
  repeated = sym (two_lines x xs (span_bytes bytes value));
}

pub lines_more : (bytes : List ℕ) (values : List (List ℕ)) (lines : FieldLines) (value : Span) → IsWithin (length bytes) value → AreLines bytes values lines
    → AreLines bytes (values ++ span_bytes bytes value ∷ []) (record { first = option_or lines.first (Some value); is_repeated = is_some lines.first })
lines_more bytes values lines value within h = lines_with bytes values lines.first value within h.first h.within

-- ---- close

or_false : (b : Bool) → (b || false) ≡ b
or_false true = refl
or_false false = refl

pub close_more : (fields : List (List ℕ × List ℕ)) (field : List ℕ × List ℕ) → any_close (fields ++ field ∷ []) ≡ (any_close fields || any_close (field ∷ []))
unfolding any_close
close_more fields field =
    ap (list_any lists_close) (values_append (codes "Connection") fields (field ∷ []))
    ∙ list_any-append lists_close (values_named (codes "Connection") fields) (values_named (codes "Connection") (field ∷ []))

close_step : (field : List ℕ × List ℕ) (named : Bool) → is_field_named (codes "Connection") field ≡ named
    → any_close (field ∷ []) ≡ list_any lists_close (if named then field.1 ∷ [] else [])
unfolding any_close
close_step field named e = ap (list_any lists_close) (values_step (codes "Connection") field named e)

pub close_in : (field : List ℕ × List ℕ) → is_field_named (codes "Connection") field ≡ true → any_close (field ∷ []) ≡ lists_close field.1
close_in field named = close_step field true named ∙ or_false (lists_close field.1)

pub close_not_in : (field : List ℕ × List ℕ) → is_field_named (codes "Connection") field ≡ false → any_close (field ∷ []) ≡ false
close_not_in field named = close_step field false named
