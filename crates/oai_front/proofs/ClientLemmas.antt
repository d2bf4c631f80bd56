-- What a client reads of an answer: each line of its head is a field of the grammar of `httparse`.
use Rattle.std.proofs.Common.{◌≡◌, ◌∙◌, ℕ, ℤ, pos, negsuc, zero, suc, ◌+◌, ◌<◌, ◌%◌, ◌/◌, Bool, true, false, eqb, cond, List, [], ◌∷◌, ◌++◌, append_assoc, length, map, reverse, Option, Some, None, refl, sym, ap, ap₂, subst, arith}
use Rattle.std.specs.Prelude.{codes, filter, nat_lt, All, IsTrue}
use Rattle.std.specs.Char.{is_ascii_digit}
use Rattle.std.specs.Fmt as fmt
use Rattle.std.specs.Fmt.{decimal, digit_glyph, digits_onto, signed_decimal}
use Rattle.std.specs.List.{flat_map, list_all, list_any}
use Rattle.std.specs.Str.Parse.{digits_value}
use Rattle.std.proofs.Math.Nat.{mod-lt}
use Rattle.std.proofs.lemmas.Bool.{and_from, and_parts, cond-false, cond_both, lt-ltb}
use Rattle.std.proofs.lemmas.Bool.Decides.{nat_tests}
use Rattle.std.proofs.lemmas.List.{append-nil, map-append, reverse-append}
use Rattle.std.proofs.lemmas.List.Concat.{flat_map-append}
use Rattle.std.proofs.lemmas.List.Elements.{All-append, All-cons, All-nil, filter-append}
use Rattle.std.proofs.lemmas.List.Folds.{list_all-append}
use Rattle.httparse.specs.Grammar.{Field, IsField, IsResponseHead, ResponseHead, crlf, is_ows, is_token_byte, is_value_byte, print_field, print_response, skip_ows, trim_ows}
use Rattle.httparse.specs.Spans.{name_and_value}
use Rattle.httparse.proofs.TrimLemmas.{trim_ows_space}
use Rattle.oai_http.specs.Statuses.{number_of, phrase_of}
use Rattle.oai_http.specs.declared.exchanges.Answer.{Answer}
use Rattle.oai_http.specs.declared.statuses.Status.{Status}
use Rattle.oai_http.specs.declared.statuses.Status.TheVariants as status
use Rattle.oai_front.specs.Clients.{BeginsWithResponse}
use Rattle.oai_front.specs.Fields.{any_close, is_alike, is_field_named, lists_close, values_named}
use Rattle.oai_front.specs.Heads.{allow_field, answer_bytes, answer_head, challenge_field, close_field, done_field, fault_bytes, field, head_told, length_field, plain, retry_field, status_fields, status_line, type_field}
use Rattle.oai_front.specs.declared.heads.AnswerHead.{AnswerHead}
use Rattle.oai_http.specs.declared.targets.Endpoint.{Endpoint}
use Rattle.oai_http.specs.declared.targets.Endpoint.TheVariants.{Requests, Deposits}

-- ---- numbers

glyph_is_digit : (n : ℕ) → is_ascii_digit (digit_glyph false (n % 10)) ≡ true
glyph_is_digit n = by_size (n % 10) (mod-lt n (omega arith)) (nat_lt (n % 10) 10) (lt-ltb (n % 10) 10 (mod-lt n (omega arith)))
  where
    by_size : (d : ℕ) → d < 10 → (b : Bool) → b ≡ true → is_ascii_digit (cond b (48 + d) (87 + d)) ≡ true
    by_size d small true h = grind (arith, nat_tests)
    by_size d small false h = cc

digits_pass : (k n : ℕ) (behind : List ℕ) → list_all is_ascii_digit behind ≡ true → list_all is_ascii_digit (digits_onto k 10 false n behind) ≡ true
digits_pass zero n behind h = h
digits_pass (suc k) n behind h =
    let more = and_from (is_ascii_digit (digit_glyph false (n % 10))) (list_all is_ascii_digit behind) (glyph_is_digit n) h in
    cond_both (eqb (n / 10) 0) (digit_glyph false (n % 10) ∷ behind) (digits_onto k 10 false (n / 10) (digit_glyph false (n % 10) ∷ behind)) (λ ds. list_all is_ascii_digit ds ≡ true)
    (λ _. more) (λ _. digits_pass k (n / 10) (digit_glyph false (n % 10) ∷ behind) more)

decimal_passes : (n : ℕ) → list_all is_ascii_digit (decimal n) ≡ true
unfolding fmt.digits
decimal_passes n = digits_pass 64 n [] refl

digit_is_value : (b : ℕ) → is_ascii_digit b ≡ true → is_value_byte b ≡ true
digit_is_value b h = grind (arith, nat_tests)

digit_is_no_space : (b : ℕ) → is_ascii_digit b ≡ true → is_ows b ≡ false
digit_is_no_space b h = grind (arith, nat_tests)

digits_are_value : (ds : List ℕ) → list_all is_ascii_digit ds ≡ true → list_all is_value_byte ds ≡ true
digits_are_value [] h = refl
digits_are_value (d ∷ ds) h =
    let parts = and_parts (is_ascii_digit d) (list_all is_ascii_digit ds) h in
    and_from (is_value_byte d) (list_all is_value_byte ds) (digit_is_value d parts.0) (digits_are_value ds parts.1)

signed_is_value : (z : ℤ) → list_all is_value_byte (signed_decimal z) ≡ true
signed_is_value (pos n) = digits_are_value (decimal n) (decimal_passes n)
signed_is_value (negsuc n) = digits_are_value (decimal (suc n)) (decimal_passes (suc n))

reversed_pass : (ds : List ℕ) → list_all is_ascii_digit ds ≡ true → list_all is_ascii_digit (reverse ds) ≡ true
reversed_pass [] h = refl
reversed_pass (d ∷ ds) h =
    let parts = and_parts (is_ascii_digit d) (list_all is_ascii_digit ds) h in
    ap (list_all is_ascii_digit) (reverse-append (d ∷ []) ds) ∙ list_all-append is_ascii_digit (reverse ds) (d ∷ [])
    ∙ and_from (list_all is_ascii_digit (reverse ds)) (list_all is_ascii_digit (d ∷ [])) (reversed_pass ds parts.1) (and_from (is_ascii_digit d) true parts.0 refl)

digits_stay : (ds : List ℕ) → list_all is_ascii_digit ds ≡ true → skip_ows ds ≡ ds
digits_stay [] h = refl
digits_stay (d ∷ ds) h = cond-false (is_ows d) (skip_ows ds) (d ∷ ds) (digit_is_no_space d (and_parts (is_ascii_digit d) (list_all is_ascii_digit ds) h).0)

-- a number is read back from behind the space that stands in front of it
number_stays : (n : ℕ) → trim_ows (32 ∷ decimal n) ≡ decimal n
number_stays n =
    trim_ows_space (decimal n) (digits_stay (decimal n) (decimal_passes n)) (digits_stay (reverse (decimal n)) (reversed_pass (decimal n) (decimal_passes n)))

-- ---- a line

passing : (test : ℕ → Bool) (bytes : List ℕ) → list_all test bytes ≡ true → All (λ b. IsTrue (test b)) bytes
passing test [] h = All-nil (λ (c : ℕ). IsTrue (test c))
passing test (b ∷ bytes) h = let parts = and_parts (test b) (list_all test bytes) h in All-cons (λ (c : ℕ). IsTrue (test c)) b bytes parts.0 (passing test bytes parts.1)

abbrev line : List ℕ → List ℕ → Field
line name value = record { name = name; raw = 32 ∷ value; end = crlf }

line_printed : (name value : List ℕ) → print_field (line name value) ≡ field name value
unfolding field plain
line_printed name value = sym (ap (λ (xs : List ℕ). xs ++ codes "\r\n") (append_assoc name (codes ": ") value))

line_valid : (name value : List ℕ) → 0 < length name → list_all is_token_byte name ≡ true → list_all is_value_byte value ≡ true → IsField (line name value)
line_valid name value some token h = record {
  name = (some, passing is_token_byte name token);
  raw = passing is_value_byte (32 ∷ value) h;
}

-- ---- lines

-- the values of that name in the fields
abbrev values : List ℕ → List Field → List (List ℕ)
values name fields = values_named name (map name_and_value fields)

-- the bytes are fields; those that say where the body ends and whether the connection is closed are these
record Tells (bytes : List ℕ) (sizes closes : List (List ℕ)) : Type 0 where
  fields : List Field
  printed : flat_map print_field fields ≡ bytes
  valid : All IsField fields
  sizes_are : values (codes "Content-Length") fields ≡ sizes
  codings_are : values (codes "Transfer-Encoding") fields ≡ []
  closes_are : values (codes "Connection") fields ≡ closes

values_join : (name : List ℕ) (fields others : List Field) → values name (fields ++ others) ≡ values name fields ++ values name others
unfolding values_named
values_join name fields others =
    ap (λ (xs : List (List ℕ × List ℕ)). map (λ field. field.1) (filter (is_field_named name) xs)) (map-append name_and_value fields others)
    ∙ ap (map (λ (field : List ℕ × List ℕ). field.1)) (filter-append (is_field_named name) (map name_and_value fields) (map name_and_value others))
    ∙ map-append (λ (field : List ℕ × List ℕ). field.1) (filter (is_field_named name) (map name_and_value fields)) (filter (is_field_named name) (map name_and_value others))

nothing : Tells [] [] []
unfolding values_named
nothing = record { fields = []; printed = refl; valid = All-nil IsField; sizes_are = refl; codings_are = refl; closes_are = refl }

both : (a b : List ℕ) (sizes lengths closes ends : List (List ℕ)) → Tells a sizes closes → Tells b lengths ends → Tells (a ++ b) (sizes ++ lengths) (closes ++ ends)
both a b sizes lengths closes ends x y = record {
  fields = x.fields ++ y.fields;
  printed = flat_map-append print_field x.fields y.fields ∙ ap₂ (λ (c d : List ℕ). c ++ d) x.printed y.printed;
  valid = All-append IsField x.fields y.fields x.valid y.valid;
  sizes_are = values_join (codes "Content-Length") x.fields y.fields ∙ ap₂ (λ (c d : List (List ℕ)). c ++ d) x.sizes_are y.sizes_are;
  codings_are = values_join (codes "Transfer-Encoding") x.fields y.fields ∙ ap₂ (λ (c d : List (List ℕ)). c ++ d) x.codings_are y.codings_are;
  closes_are = values_join (codes "Connection") x.fields y.fields ∙ ap₂ (λ (c d : List (List ℕ)). c ++ d) x.closes_are y.closes_are;
}

one : (name value : List ℕ) (sizes closes : List (List ℕ)) → IsField (line name value) → values (codes "Content-Length") (line name value ∷ []) ≡ sizes
    → values (codes "Transfer-Encoding") (line name value ∷ []) ≡ [] → values (codes "Connection") (line name value ∷ []) ≡ closes → Tells (field name value) sizes closes
one name value sizes closes valid size coding close = record {
  fields = line name value ∷ [];
  printed = append-nil (print_field (line name value)) ∙ line_printed name value;
  valid = All-cons IsField (line name value) [] valid (All-nil IsField);
  sizes_are = size;
  codings_are = coding;
  closes_are = close;
}

-- ---- the lines of a head

type_told : (endpoint : Option Endpoint) → Tells (type_field endpoint) [] []
unfolding type_field plain values_named is_alike is_token_byte
type_told (Some Requests) = one (codes "Content-Type") (codes "text/xml") [] [] (line_valid _ _ (omega arith) refl refl) refl refl refl
type_told (Some Deposits) = one (codes "Content-Type") (codes "text/plain; charset=utf-8") [] [] (line_valid _ _ (omega arith) refl refl) refl refl refl
type_told None = one (codes "Content-Type") (codes "text/plain; version=0.0.4") [] [] (line_valid _ _ (omega arith) refl refl) refl refl refl

allow_told : (endpoint : Option Endpoint) → Tells (allow_field endpoint) [] []
unfolding allow_field plain values_named is_alike is_token_byte
allow_told (Some Requests) = one (codes "Allow") (codes "GET, POST") [] [] (line_valid _ _ (omega arith) refl refl) refl refl refl
allow_told (Some Deposits) = one (codes "Allow") (codes "POST") [] [] (line_valid _ _ (omega arith) refl refl) refl refl refl
allow_told None = one (codes "Allow") (codes "GET") [] [] (line_valid _ _ (omega arith) refl refl) refl refl refl

challenge_told : Tells challenge_field [] []
unfolding challenge_field plain values_named is_alike is_token_byte
challenge_told = one (codes "WWW-Authenticate") (codes "Bearer realm=\"deposit\"") [] [] (line_valid _ _ (omega arith) refl refl) refl refl refl

retry_told : (seconds : Option ℤ) → Tells (retry_field seconds) [] []
unfolding retry_field values_named is_alike is_token_byte
retry_told None = nothing
retry_told (Some seconds) = one (codes "Retry-After") (signed_decimal seconds) [] [] (line_valid _ _ (omega arith) refl (signed_is_value seconds)) refl refl refl

done_told : (endpoint : Option Endpoint) (lines : Option ℕ) → Tells (done_field endpoint lines) [] []
unfolding done_field values_named is_alike is_token_byte
done_told (Some Deposits) (Some lines) =
    one (codes "X-Lines-Done") (decimal lines) [] [] (line_valid _ _ (omega arith) refl (digits_are_value (decimal lines) (decimal_passes lines))) refl refl refl
done_told (Some Deposits) None = nothing
done_told (Some Requests) lines = nothing
done_told None lines = nothing

status_told : (of : Status) (head : AnswerHead) → Tells (status_fields of head) [] []
unfolding status_fields
status_told status.Ok head = type_told head.endpoint
status_told status.Unauthorized head = challenge_told
status_told status.MethodNotAllowed head = allow_told head.endpoint
status_told status.InternalServerError head = done_told head.endpoint head.done
status_told status.ServiceUnavailable head = both (retry_field head.seconds) (done_field head.endpoint head.done) [] [] [] [] (retry_told head.seconds) (done_told head.endpoint head.done)
status_told other head = nothing

abbrev close_values : Bool → List (List ℕ)
close_values true = codes "close" ∷ []
close_values false = []

close_told : (last : Bool) → Tells (close_field last) [] (close_values last)
unfolding close_field plain values_named is_alike is_token_byte trim_ows
close_told true = one (codes "Connection") (codes "close") [] (codes "close" ∷ []) (line_valid _ _ (omega arith) refl refl) refl refl refl
close_told false = nothing

length_told : (size : ℕ) → Tells (length_field size) (decimal size ∷ []) []
unfolding length_field values_named is_alike is_token_byte
length_told size =
    one (codes "Content-Length") (decimal size) (decimal size ∷ []) [] (line_valid _ _ (omega arith) refl (digits_are_value (decimal size) (decimal_passes size)))
    (ap (λ (value : List ℕ). value ∷ []) (number_stays size)) refl refl

-- the lines behind that of the status
abbrev lines_of : AnswerHead → List ℕ
lines_of head = status_fields head.status head ++ close_field head.last ++ length_field head.size

lines_told : (head : AnswerHead) → Tells (lines_of head) (decimal head.size ∷ []) (close_values head.last ++ [])
lines_told head =
    both (status_fields head.status head ++ close_field head.last) (length_field head.size) [] (decimal head.size ∷ []) (close_values head.last) []
    (both (status_fields head.status head) (close_field head.last) [] [] [] (close_values head.last) (status_told head.status head) (close_told head.last)) (length_told head.size)

close_seen : (last : Bool) → list_any lists_close (close_values last ++ []) ≡ last
unfolding lists_close is_alike trim_ows
close_seen true = refl
close_seen false = refl

-- ---- the line of the status

number_told : (of : Status) → (length (decimal (number_of of)) ≡ 3) × (digits_value 10 (decimal (number_of of)) ≡ number_of of)
unfolding fmt.digits
number_told status.Ok = (refl, refl)
number_told status.BadRequest = (refl, refl)
number_told status.Unauthorized = (refl, refl)
number_told status.NotFound = (refl, refl)
number_told status.MethodNotAllowed = (refl, refl)
number_told status.ContentTooLarge = (refl, refl)
number_told status.UnsupportedMediaType = (refl, refl)
number_told status.InternalServerError = (refl, refl)
number_told status.NotImplemented = (refl, refl)
number_told status.ServiceUnavailable = (refl, refl)

phrase_is_value : (of : Status) → list_all is_value_byte (phrase_of of) ≡ true
phrase_is_value status.Ok = refl
phrase_is_value status.BadRequest = refl
phrase_is_value status.Unauthorized = refl
phrase_is_value status.NotFound = refl
phrase_is_value status.MethodNotAllowed = refl
phrase_is_value status.ContentTooLarge = refl
phrase_is_value status.UnsupportedMediaType = refl
phrase_is_value status.InternalServerError = refl
phrase_is_value status.NotImplemented = refl
phrase_is_value status.ServiceUnavailable = refl

-- ---- the head

abbrev response : Status → List Field → ResponseHead
response of fields = record { blank = []; minor = 1; digits = decimal (number_of of); reason = Some (phrase_of of); line_end = crlf; fields = fields; last = crlf }

response_valid : (of : Status) (fields : List Field) → All IsField fields → IsResponseHead (response of fields)
response_valid of fields valid = record {
  minor = omega arith;
  digits = ((number_told of).0, passing is_ascii_digit (decimal (number_of of)) (decimal_passes (number_of of)));
  reason = passing is_value_byte (phrase_of of) (phrase_is_value of);
  fields = valid;
}

-- the phrase stands behind a space
start_printed : (number phrase behind : List ℕ) → number ++ codes " " ++ phrase ++ codes "\r\n" ++ behind ≡ number ++ 32 ∷ phrase ++ codes "\r\n" ++ behind
start_printed number phrase behind = ap (λ (xs : List ℕ). xs ++ codes "\r\n" ++ behind) (append_assoc number (codes " ") phrase)

response_printed : (of : Status) (fields : List Field) (lines : List ℕ) → flat_map print_field fields ≡ lines
    → status_line of ++ (lines ++ codes "\r\n") ≡ print_response (response of fields)
unfolding status_line plain print_response
response_printed of fields lines e =
    start_printed (codes "HTTP/1.1 " ++ decimal (number_of of)) (phrase_of of) (lines ++ codes "\r\n")
    ∙ ap (λ (xs : List ℕ). codes "HTTP/1.1 " ++ decimal (number_of of) ++ 32 ∷ phrase_of of ++ codes "\r\n" ++ (xs ++ codes "\r\n")) (sym e)

-- the line of the status in front of the others
start_first : (start a b c end : List ℕ) → start ++ a ++ b ++ c ++ end ≡ start ++ (a ++ b ++ c ++ end)
start_first start a b c end =
    ap (λ (xs : List ℕ). xs ++ end) (ap (λ (xs : List ℕ). xs ++ c) (append_assoc start a b) ∙ append_assoc start (a ++ b) c) ∙ append_assoc start (a ++ b ++ c) end

head_printed : (head : AnswerHead) (t : Tells (lines_of head) (decimal head.size ∷ []) (close_values head.last ++ []))
    → answer_head head ≡ print_response (response head.status t.fields)
unfolding answer_head plain
head_printed head t =
    start_first (status_line head.status) (status_fields head.status head) (close_field head.last) (length_field head.size) (codes "\r\n")
    ∙ response_printed head.status t.fields (lines_of head) t.printed

-- ---- what is read

head_read : (head : AnswerHead) (body others : List ℕ) → head.size ≡ length body → BeginsWithResponse (answer_head head ++ (body ++ others)) head.status head.last body others
unfolding any_close
head_read head body others e =
    let t = lines_told head in record {
      head = response head.status t.fields;
      reads = (response_valid head.status t.fields t.valid, ap (λ (xs : List ℕ). xs ++ (body ++ others)) (head_printed head t));
      number = (number_told head.status).1;
      size = t.sizes_are ∙ ap (λ (n : ℕ). decimal n ∷ []) e;
      coding = t.codings_are;
      close = ap (list_any lists_close) t.closes_are ∙ close_seen head.last;
    }

pub answer_read : (target : List ℕ) (last : Bool) (answer : Answer) (others : List ℕ)
    → BeginsWithResponse (answer_bytes target last answer ++ others) answer.status last answer.body others
unfolding answer_bytes
answer_read target last answer others =
    subst (λ (bytes : List ℕ). BeginsWithResponse bytes answer.status last answer.body others) (sym (append_assoc (answer_head (head_told target last answer)) answer.body others))
    (head_read (head_told target last answer) answer.body others refl)

pub fault_read : (of : Status) (others : List ℕ) → BeginsWithResponse (fault_bytes of ++ others) of true [] others
unfolding fault_bytes
fault_read of others = head_read (record { endpoint = None; status = of; seconds = None; done = None; last = true; size = 0 }) [] others refl
