-- What is read is the number of the digits; a text that is not all digits is no number.
use Rattle.std.proofs.Common.{◌≡◌, ◌∙◌, ℕ, ◌^◌, List, Result, ◌≢◌}
use Rattle.std.specs.Result.{result_ok}
use Rattle.std.specs.Str.Parse.{ParsesUnsigned}
use Rattle.std.proofs.lemmas.Str.{IsUtf8-from_ascii}
use Rattle.std.proofs.lemmas.Str.Parse.{parse_plain}
use Rattle.std.specs.Prelude.{slice_index}
use Rattle.oai_bytes.specs.Numbers.{number_in, numeral_below}
use Rattle.oai_bytes.proofs.NumeralLemmas.{begins_otherwise, begins_so, digits_ascii, map_same, none_below, none_of_plus, numerals, parsed_below}
use Rattle.oai_bytes.proofs.numbers.read_number.Goals as goal

parsed : {E : Type 0} (text : List ℕ) (r : Result ℕ E) → slice_index text 0 ≢ 43 → ParsesUnsigned 64 10 text r → result_ok r ≡ number_in text
parsed text r no_plus h = parsed_below (2 ^ 64) text (λ n. n) r (parse_plain numerals 64 text r h no_plus) ∙ map_same (numeral_below (2 ^ 64) text)

pub returns-then-starts_with : goal.returns-then-starts_with
returns-then-starts_with c = let text = c.args.text.now in none_of_plus (2 ^ 64) text (begins_so text c.if-starts_with.ensures.value)

pub returns-in_default : goal.returns-in_default
returns-in_default c =
    let text = c.args.text.now in
    none_below (2 ^ 64) text (λ all. c.in_default.ensures.cases.0 (IsUtf8-from_ascii text (digits_ascii text all)))

pub returns : goal.returns
returns c =
    let text = c.args.text.now in
    let same : c.in-Ok.text.now ≡ text = c.in-Ok.ensures.cases.0 in
    let h : ParsesUnsigned 64 10 text c.parse.result = rw same at c.parse.ensures.value.0 in
    c.ok.ensures.value ∙ parsed text c.parse.result (begins_otherwise text c.if-starts_with.ensures.value) h
