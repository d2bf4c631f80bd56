-- What the fields of a request's head say about its message: RFC 9112, sections 3.2, 6.1, 6.2, 6.3, 9.3 and 9.6. A
-- field is a name and a value, without the white space around it.
use Rattle.std.specs.Prelude.{ℕ, Bool, not, ◌&&◌, ◌||◌, ◌==◌, nat_le, nat_lt, if◌then◌else◌, List, [], ◌∷◌, length, map, filter, codes, Option, None, Some}
use Rattle.std.specs.Char.{is_ascii_digit}
use Rattle.std.specs.List.{list_all, list_any, slice_split}
use Rattle.std.specs.Str.{str_eq_ignore_ascii_case}
use Rattle.std.specs.Str.Parse.{digits_value}
use Rattle.httparse.specs.Ascii.{comma}
use Rattle.httparse.specs.Grammar.{trim_ows}
use Rattle.oai_http.specs.declared.statuses.Status.TheVariants.{BadRequest, ContentTooLarge, NotImplemented}
use Rattle.oai_front.specs.declared.framings.Framing.{Framing}
use Rattle.oai_front.specs.declared.framings.Framing.TheVariants.{Refused, Body}
use Rattle.oai_front.specs.declared.framings.TheConstants.{MAX_BODY_BYTES, MAX_DEPOSIT_BYTES, MAX_LENGTH_DIGITS}
use Rattle.oai_http.specs.Targets.{endpoint_of}
use Rattle.oai_http.specs.declared.targets.Endpoint.{Endpoint}
use Rattle.oai_http.specs.declared.targets.Endpoint.TheVariants.{Deposits, Requests}

-- the texts are equal up to the case of ASCII letters
unfoldable pub is_alike : List ℕ → List ℕ → Bool
is_alike a b = str_eq_ignore_ascii_case a b

-- the field has that name, ignoring case: RFC 9110, section 5.1
abbrev pub is_field_named : List ℕ → List ℕ × List ℕ → Bool
is_field_named name field = is_alike field.0 name

-- the values of the fields with that name, in order
unfoldable pub values_named : List ℕ → List (List ℕ × List ℕ) → List (List ℕ)
values_named name fields = map (λ field. field.1) (filter (is_field_named name) fields)

-- the first value, if there is one
abbrev pub first_value : List (List ℕ) → Option (List ℕ)
first_value [] = None
first_value (value ∷ values) = Some value

-- a head of HTTP/1.1, and of HTTP/1.0, may have that many fields Host: RFC 9112, section 3.2
abbrev pub is_host_count : ℕ → ℕ → Bool
is_host_count minor hosts = if minor == 0 then nat_le hosts 1 else hosts == 1

-- the number that a Content-Length writes, 1 to 19 digits: RFC 9110, section 8.6
abbrev pub are_digits : List ℕ → Bool
are_digits value = list_all is_ascii_digit value

unfoldable pub length_written : List ℕ → Option ℕ
length_written value =
    if nat_le 1 (length value) && nat_le (length value) MAX_LENGTH_DIGITS && are_digits value
    then Some (digits_value 10 value) else None

-- the length of the body by the fields Content-Length: 0 if there is no field, and none if there are several or one
-- that is no number. RFC 9112, section 6.3, lets a recipient take several with one length: that they are refused is
-- this repository's own
abbrev pub length_first : Option (List ℕ) → Option ℕ
length_first None = Some 0
length_first (Some value) = length_written value

abbrev pub length_given : List (List ℕ) → Option ℕ
length_given values = if nat_lt 1 (length values) then None else length_first (first_value values)

-- the element of a list is the option `close`, whatever its case: RFC 9110, section 7.6.1
abbrev pub is_close : List ℕ → Bool
is_close element = is_alike (trim_ows element) (codes "close")

-- a comma separates the elements: RFC 9110, section 5.6.1
abbrev pub is_comma : ℕ → Bool
is_comma b = b == comma

-- the value of a field Connection lists `close`
unfoldable pub lists_close : List ℕ → Bool
lists_close value = list_any is_close (slice_split is_comma value)

-- a field Connection lists `close`
unfoldable pub any_close : List (List ℕ × List ℕ) → Bool
any_close fields = list_any lists_close (values_named (codes "Connection") fields)

-- the connection is closed after the message: RFC 9112, section 9.3. That it always is after one of HTTP/1.0 is this
-- repository's own
abbrev pub is_last : ℕ → List (List ℕ × List ℕ) → Bool
is_last minor fields = minor == 0 || any_close fields

-- the maximum length of a message body, in bytes, by the endpoint of its target, whatever its method. That a body may
-- be too long is RFC 9110, section 15.5.14; the limits are this repository's own
abbrev pub max_body_at : Option Endpoint → ℕ
max_body_at (Some Deposits) = MAX_DEPOSIT_BYTES
max_body_at (Some Requests) = MAX_BODY_BYTES
max_body_at None = MAX_BODY_BYTES

abbrev pub max_body_of : List ℕ → ℕ
max_body_of target = max_body_at (endpoint_of target)

-- the framing if a body of that size is announced, and may have `most` bytes
abbrev pub framing_sized : ℕ → ℕ → Bool → Framing
framing_sized most size last = if nat_lt most size then Refused ContentTooLarge else Body size last

abbrev pub framing_by : ℕ → Option ℕ → Bool → Framing
framing_by most None last = Refused BadRequest
framing_by most (Some size) last = framing_sized most size last

-- the framing after a head of HTTP/1.minor with that target and these fields: the first fault, or the body of a
-- message. RFC 9112, sections 3.2, 6.1 and 6.3
unfoldable pub framing_of : ℕ → List ℕ → List (List ℕ × List ℕ) → Framing
framing_of minor target fields =
    if not (is_host_count minor (length (values_named (codes "Host") fields))) then Refused BadRequest
    else (if nat_lt 0 (length (values_named (codes "Transfer-Encoding") fields)) then Refused NotImplemented
    else framing_by (max_body_of target) (length_given (values_named (codes "Content-Length") fields)) (is_last minor fields))
