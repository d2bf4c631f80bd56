-- A line that was written is read as what it was written for.
use Rattle.std.proofs.Common.{◌≡◌, ◌≢◌, ◌∙◌, ℕ, suc, ◌+◌, ◌<◌, ◌^◌, ◌==◌, ℤ, Bool, true, false, nat_le, List, [], ◌∷◌, ◌++◌, length, slice_index_or, take, drop, Option, Some, None, IfSome, FitsSigned, w64, codes, decimal, refl, sym, ap, arith, append_assoc}
use Rattle.std.specs.Fmt.{signed_decimal}
use Rattle.std.specs.Int.{IsInRange}
use Rattle.std.specs.List.{All, AllPass, count_by, list_any, position_or_len, slice_split}
use Rattle.std.specs.Option.{option_map}
use Rattle.std.specs.Result.{result_ok}
use Rattle.std.specs.Str.{bytes_eq}
use Rattle.std.proofs.Math.Seq.{drop-append-add, get_or-append_seam, take-append_seam}
use Rattle.std.proofs.lemmas.Bool.{and_parts, cond-false, eq-eqb, eqb-true, false_from_ne_true, false≢true, le-leb, or_parts}
use Rattle.std.proofs.lemmas.List.{get_or_append_left, length-append}
use Rattle.std.proofs.lemmas.List.Elements.{All-append, All-cons, All-nil}
use Rattle.std.proofs.lemmas.List.Splits.{length-slice_split, slice_split_at, slice_split_none}
use Rattle.std.proofs.lemmas.List.Sums.{position_or_len_is}
use Rattle.hex.proofs.HexLemmas.{decode_of-encode_lower, decode_of-ok, length-encode_with}
use Rattle.hex.specs.Hex.{IsBytes, encode_lower, is_hex_digit, lower_digits}
use Rattle.oai_host.specs.Bodies.{is_line_end}
use Rattle.oai_http.specs.declared.exchanges.Call.{Call}
use Rattle.oai_cli.specs.NumberedLines.{lines_of}
use Rattle.oai_cli.specs.EventLines.{IsTraceable, IsWritableEvent, coming, coming_text, event_line, parse_event}
use Rattle.oai_bytes.specs.Parts.{is_separator, part, rest}
use Rattle.oai_cli.specs.ExchangeLines.{IsSpellable, call_line, parse_exchange, type_of}
use Rattle.oai_bytes.specs.Numbers.{moment_of, number_in}
use Rattle.oai_cli.specs.declared.trace.events.Event.{Event}
use Rattle.oai_cli.proofs.LineLemmas.{call_with, event_with, spelled_all, told_all}
use Rattle.oai_bytes.proofs.NumeralLemmas.{moment_avoids, moment_written, number_avoids, number_written}

-- ---- what stands before a space, and after it

abbrev HasNo : (ℕ → Bool) → List ℕ → Type 0
HasNo p text = All (λ b. p b ≡ false) text

first_space : (front back : List ℕ) → HasNo is_separator front → position_or_len is_separator (front ++ 32 ∷ back) ≡ length front
first_space front back none =
    position_or_len_is is_separator (front ++ 32 ∷ back) (length front) 0 (omega (arith, length-append front (32 ∷ back)))
    (λ k h. ap is_separator (get_or_append_left front (32 ∷ back) 0 k h) ∙ none k 0 h) (λ h. ap is_separator (get_or-append_seam front 32 back 0))

part_of : (front back : List ℕ) → HasNo is_separator front → part (front ++ 32 ∷ back) ≡ front
part_of front back none = ap (λ n. take n (front ++ 32 ∷ back)) (first_space front back none) ∙ take-append_seam front (32 ∷ back)

rest_of : (front back : List ℕ) → HasNo is_separator front → rest (front ++ 32 ∷ back) ≡ back
rest_of front back none = ap (λ n. drop (n + 1) (front ++ 32 ∷ back)) (first_space front back none) ∙ drop-append-add front (32 ∷ back) 1

spaces_more : (front back : List ℕ) → HasNo is_separator front → count_by is_separator (front ++ 32 ∷ back) ≡ count_by is_separator back + 1
spaces_more front back none =
    let cut : length (slice_split is_separator (front ++ 32 ∷ back)) ≡ suc (length (slice_split is_separator back)) = ap length (slice_split_at is_separator front 32 back none refl) in
    omega (arith, length-slice_split is_separator (front ++ 32 ∷ back), cut, length-slice_split is_separator back)

spaces_none : (text : List ℕ) → HasNo is_separator text → count_by is_separator text ≡ 0
spaces_none text none =
    let whole : length (slice_split is_separator text) ≡ 1 = ap length (slice_split_none is_separator text none) in
    omega (arith, length-slice_split is_separator text, whole)

none_from_any : (p : ℕ → Bool) (text : List ℕ) → list_any p text ≡ false → HasNo p text
none_from_any p [] h = All-nil (λ b. p b ≡ false)
none_from_any p (b ∷ bs) h = let q = or_parts (p b) (list_any p bs) h in All-cons (λ x. p x ≡ false) b bs q.0 (none_from_any p bs q.1)

-- ---- the bytes of numbers and of hexadecimal digits

digit_no_space : (b : ℕ) → IsInRange 48 57 b → is_separator b ≡ false
digit_no_space b within = false_from_ne_true (b == 32) (λ e. omega (arith, eqb-true b 32 e, within.0))

digit_no_end : (b : ℕ) → IsInRange 48 57 b → is_line_end b ≡ false
digit_no_end b within = false_from_ne_true (b == 10) (λ e. omega (arith, eqb-true b 10 e, within.0))

hex_no : (c : ℕ) → is_hex_digit c ≡ false → (b : ℕ) → is_hex_digit b ≡ true → (b == c) ≡ false
hex_no c not b is = false_from_ne_true (b == c) (λ e. false≢true (sym not ∙ ap is_hex_digit (sym (eqb-true b c e)) ∙ is))

hex_digits : (bytes : List ℕ) → IsBytes bytes → AllPass is_hex_digit (encode_lower bytes)
hex_digits bytes all = (decode_of-ok (encode_lower bytes) bytes (decode_of-encode_lower bytes all)).1

hex_avoids : (c : ℕ) → is_hex_digit c ≡ false → (bytes : List ℕ) → IsBytes bytes → HasNo (λ b. b == c) (encode_lower bytes)
hex_avoids c not bytes all = λ k d h. hex_no c not (slice_index_or (encode_lower bytes) k d) (hex_digits bytes all k d h)

same_length : (xs ys : List ℕ) → bytes_eq xs ys ≡ true → length xs ≡ length ys
same_length [] [] h = refl
same_length [] (y ∷ ys) h = absurd (false≢true h)
same_length (x ∷ xs) [] h = absurd (false≢true h)
same_length (x ∷ xs) (y ∷ ys) h = ap suc (same_length xs ys (and_parts (x == y) (bytes_eq xs ys) h).1)

-- no hexadecimal digits are the word `end`, which has three letters
hex_not_end : (bytes : List ℕ) → bytes_eq (encode_lower bytes) (codes "end") ≡ false
hex_not_end bytes =
    false_from_ne_true (bytes_eq (encode_lower bytes) (codes "end"))
    (λ e. omega (arith, same_length (encode_lower bytes) (codes "end") e, length-encode_with lower_digits bytes))

coming_bytes : (bytes : List ℕ) → IsBytes bytes → coming (encode_lower bytes) ≡ Some (Some bytes)
unfolding coming
coming_bytes bytes all =
    cond-false (bytes_eq (encode_lower bytes) (codes "end")) _ _ (hex_not_end bytes) ∙ ap (λ r. option_map Some (result_ok r)) (decode_of-encode_lower bytes all)

coming_written : (piece : Option (List ℕ)) → IfSome piece IsBytes → coming (coming_text piece) ≡ Some piece
unfolding coming
coming_written None all = refl
coming_written (Some bytes) all = coming_bytes bytes all

coming_no_space : (piece : Option (List ℕ)) → IfSome piece IsBytes → count_by is_separator (coming_text piece) ≡ 0
coming_no_space None all = refl
coming_no_space (Some bytes) all = spaces_none (encode_lower bytes) (hex_avoids 32 refl bytes all)

-- ---- three parts

joined : (first second third : List ℕ) → first ++ codes " " ++ second ++ codes " " ++ third ≡ first ++ 32 ∷ (second ++ 32 ∷ third)
joined first second third =
    append_assoc (first ++ codes " " ++ second) (codes " ") third ∙ append_assoc (first ++ codes " ") second (32 ∷ third) ∙ append_assoc first (codes " ") (second ++ 32 ∷ third)

event_parsed : (moment : ℤ) (label : ℕ) (piece : Option (List ℕ)) → FitsSigned w64 moment → label < 2 ^ 64 → IfSome piece IsBytes
    → parse_event (signed_decimal moment ++ 32 ∷ (decimal label ++ 32 ∷ coming_text piece)) ≡ Some (event_with moment label piece)
event_parsed moment label piece fits small all =
    let first : List ℕ = signed_decimal moment in
    let second : List ℕ = decimal label in
    let third : List ℕ = coming_text piece in
    let line : List ℕ = first ++ 32 ∷ (second ++ 32 ∷ third) in
    let no_first : HasNo is_separator first = moment_avoids is_separator digit_no_space refl moment fits in
    let no_second : HasNo is_separator second = number_avoids is_separator digit_no_space label small in
    let behind : rest line ≡ second ++ 32 ∷ third = rest_of first (second ++ 32 ∷ third) no_first in
    let spaces : count_by is_separator line ≡ 2 = omega (arith, spaces_more first (second ++ 32 ∷ third) no_first, spaces_more second third no_second, coming_no_space piece all) in
    told_all line moment label piece (eq-eqb (count_by is_separator line) 2 spaces) (ap moment_of (part_of first (second ++ 32 ∷ third) no_first) ∙ moment_written moment fits)
    (ap (λ text. number_in (part text)) behind ∙ ap number_in (part_of second third no_second) ∙ number_written label small)
    (ap (λ text. coming (rest text)) behind ∙ ap coming (rest_of second third no_second) ∙ coming_written piece all)

pub event_written : (event : Event) → IsWritableEvent event → parse_event (event_line event) ≡ Some event
event_written event is =
    ap parse_event (joined (signed_decimal event.moment) (decimal event.label) (coming_text event.piece)) ∙ event_parsed event.moment event.label event.piece is.moment is.label is.piece

-- ---- what a trace writes

module _ (moment : ℤ) (label : ℕ) (bytes : List ℕ) (fits : FitsSigned w64 moment) (small : label < 2 ^ 64) (all : IsBytes bytes) where
  abbrev line : List ℕ
  line = signed_decimal moment ++ 32 ∷ (decimal label ++ 32 ∷ encode_lower bytes)

  abbrev Stays : ℕ → Type 0
  Stays b = is_line_end b ≡ false

  no_end : HasNo is_line_end line
  no_end =
      All-append Stays (signed_decimal moment) (32 ∷ (decimal label ++ 32 ∷ encode_lower bytes)) (moment_avoids is_line_end digit_no_end refl moment fits)
      (All-cons Stays 32 (decimal label ++ 32 ∷ encode_lower bytes) refl
      (All-append Stays (decimal label) (32 ∷ encode_lower bytes) (number_avoids is_line_end digit_no_end label small)
      (All-cons Stays 32 (encode_lower bytes) refl (hex_avoids 10 refl bytes all))))

  behind_moment : signed_decimal moment ++ codes " " ++ (decimal label ++ codes " " ++ encode_lower bytes ++ codes "\n") ≡ line ++ 10 ∷ []
  behind_moment =
      sym (append_assoc (signed_decimal moment ++ codes " ") (decimal label ++ codes " " ++ encode_lower bytes) (codes "\n"))
      ∙ ap (λ (text : List ℕ). text ++ codes "\n")
      (sym (append_assoc (signed_decimal moment ++ codes " ") (decimal label ++ codes " ") (encode_lower bytes))
      ∙ ap (λ (text : List ℕ). text ++ encode_lower bytes) (sym (append_assoc (signed_decimal moment ++ codes " ") (decimal label) (codes " ")))
      ∙ joined (signed_decimal moment) (decimal label) (encode_lower bytes))

  one_line : lines_of (signed_decimal moment ++ codes " " ++ (decimal label ++ codes " " ++ encode_lower bytes ++ codes "\n")) ≡ line ∷ [] ∷ []
  one_line = ap lines_of behind_moment ∙ slice_split_at is_line_end line 10 [] no_end refl

pub output_written : (moment : ℤ) (label : ℕ) (bytes : List ℕ) → FitsSigned w64 moment → label < 2 ^ 64 → IsBytes bytes → bytes ≢ [] → IsTraceable moment label bytes
output_written moment label [] fits small all some = absurd (some refl)
output_written moment label (b ∷ bytes) fits small all some = record {
  line = line moment label (b ∷ bytes) fits small all;
  alone = one_line moment label (b ∷ bytes) fits small all;
  parsed_as = event_parsed moment label (Some (b ∷ bytes)) fits small all;
}

-- ---- a call

pub call_written : (call : Call) → IsSpellable call → parse_exchange (call_line call) ≡ Some call
call_written call is =
    let first : List ℕ = signed_decimal call.moment in
    let third : List ℕ = call.target ++ 32 ∷ call.body in
    let second : List ℕ = call.method ++ 32 ∷ third in
    let line : List ℕ = first ++ 32 ∷ second in
    let no_first : HasNo is_separator first = moment_avoids is_separator digit_no_space refl call.moment is.moment in
    let no_method : HasNo is_separator call.method = none_from_any is_separator call.method is.method in
    let no_target : HasNo is_separator call.target = none_from_any is_separator call.target is.target in
    let same : call_line call ≡ line =
    ap (λ (text : List ℕ). text ++ codes " " ++ call.body) (joined first call.method call.target)
    ∙ append_assoc (first ++ 32 ∷ (call.method ++ 32 ∷ call.target)) (codes " ") call.body
    ∙ append_assoc first (32 ∷ (call.method ++ 32 ∷ call.target)) (32 ∷ call.body)
    ∙ ap (λ (text : List ℕ). first ++ 32 ∷ text) (append_assoc call.method (32 ∷ call.target) (32 ∷ call.body)) in
    let behind : rest line ≡ second = rest_of first second no_first in
    let behind_method : rest (rest line) ≡ third = ap rest behind ∙ rest_of call.method third no_method in
    let method : part (rest line) ≡ call.method = ap part behind ∙ part_of call.method third no_method in
    let target : part (rest (rest line)) ≡ call.target = ap part behind_method ∙ part_of call.target call.body no_target in
    let body : rest (rest (rest line)) ≡ call.body = ap rest behind_method ∙ rest_of call.target call.body no_target in
    let enough : nat_le 2 (count_by is_separator line) ≡ true = le-leb 2 (count_by is_separator line) (omega (arith, spaces_more first second no_first, spaces_more call.method third no_method)) in
    let read = spelled_all line call.moment enough (ap moment_of (part_of first second no_first) ∙ moment_written call.moment is.moment) in
    ap parse_exchange same ∙ read
    ∙ ap (λ (text : List ℕ). Some (call_with call.moment text (part (rest (rest line))) (type_of text) (rest (rest (rest line))))) method
    ∙ ap (λ (text : List ℕ). Some (call_with call.moment call.method text (type_of call.method) (rest (rest (rest line))))) target
    ∙ ap (λ (text : List ℕ). Some (call_with call.moment call.method call.target (type_of call.method) text)) body
    ∙ ap (λ (kind : Option (List ℕ)). Some (call_with call.moment call.method call.target kind call.body)) (sym is.content_type)
