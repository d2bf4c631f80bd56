-- What a client of the worked lives sends is read as the messages that it asks.
use Rattle.std.proofs.Common.{◌≡◌, ◌∙◌, ◌<◌, ◌≤◌, ℕ, zero, suc, Bool, true, false, ◌&&◌, not, List, [], ◌∷◌, ◌++◌, append_assoc, codes, length, map, Option, Some, None, is_none, refl, sym, ap, arith}
use Rattle.std.specs.Fmt.{decimal}
use Rattle.std.specs.List.{flat_map, list_all}
use Rattle.std.specs.Prelude.{All, IsAscii, IsTrue, ◌==◌, nat_le, nat_lt}
use Rattle.std.proofs.lemmas.Bool.{and_from, and_parts, eqb-true, false≢true}
use Rattle.std.proofs.lemmas.Bool.Decides.{nat_tests}
use Rattle.std.proofs.lemmas.List.{append-nil}
use Rattle.std.proofs.lemmas.List.Elements.{All-cons, All-nil}
use Rattle.std.proofs.lemmas.Str.{IsUtf8-from_ascii}
use Rattle.httparse.specs.Grammar.{Field, IsField, RequestHead, crlf, is_token, is_token_byte, is_uri_byte, is_value_byte, print_request}
use Rattle.oai_http.specs.Exchanges.{Asked}
use Rattle.oai_front.specs.Fields.{is_alike, values_named}
use Rattle.oai_front.specs.Messages.{Message, ReadsMessages, Splits, framing_in}
use Rattle.oai_front.specs.declared.framings.Framing.{Framing}
use Rattle.oai_front.specs.declared.framings.Framing.TheVariants.{Body, Refused}
use Rattle.oai_front.specs.declared.request_heads.TheConstants.{MAX_HEAD_BYTES}
use Rattle.oai_service.specs.WorkedLives.{sent_as}

-- ---- the head of a message

abbrev host_line : Field
host_line = record { name = codes "Host"; raw = codes " localhost"; end = crlf }

abbrev size_line : ℕ → Field
size_line size = record { name = codes "Content-Length"; raw = 32 ∷ decimal size; end = crlf }

abbrev pub head_of : Asked → RequestHead
head_of asked =
    record { blank = []; method = asked.method; target = asked.target; minor = 1; line_end = crlf; fields = host_line ∷ size_line (length asked.body) ∷ []; last = crlf }

abbrev path_behind : Asked → List ℕ
path_behind asked = asked.method ++ codes " " ++ asked.target

-- what stands between the target and the size
abbrev between : List ℕ
between = codes " HTTP/1.1\r\nHost: localhost\r\nContent-Length: "

joined : (front others : List ℕ) → front ++ codes " HTTP/1.1" ++ codes "\r\n" ++ (codes "Host: localhost\r\nContent-Length: " ++ others) ≡ front ++ between ++ others
joined front others =
    append_assoc (front ++ codes " HTTP/1.1") (codes "\r\n") (codes "Host: localhost\r\nContent-Length: " ++ others)
    ∙ append_assoc front (codes " HTTP/1.1") (codes "\r\n" ++ (codes "Host: localhost\r\nContent-Length: " ++ others))
    ∙ sym (append_assoc front between others)

sized : (size : List ℕ) → size ++ codes "\r\n" ++ [] ++ codes "\r\n" ≡ size ++ codes "\r\n\r\n"
sized size = ap (λ (xs : List ℕ). xs ++ codes "\r\n") (append-nil (size ++ codes "\r\n")) ∙ append_assoc size (codes "\r\n") (codes "\r\n")

-- a head, as it is printed
unsized : (asked : Asked) → print_request (head_of asked)
    ≡ asked.method ++ (codes " " ++ asked.target) ++ codes " HTTP/1.1" ++ codes "\r\n"
    ++ (codes "Host: localhost\r\nContent-Length: " ++ (decimal (length asked.body) ++ codes "\r\n" ++ [] ++ codes "\r\n"))
unfolding print_request
unsized asked = refl

printed : (asked : Asked) → print_request (head_of asked) ≡ path_behind asked ++ between ++ decimal (length asked.body) ++ codes "\r\n\r\n"
printed asked =
    let size : List ℕ = decimal (length asked.body) in
    let others : List ℕ = codes "Host: localhost\r\nContent-Length: " ++ (size ++ codes "\r\n" ++ [] ++ codes "\r\n") in
    unsized asked
    ∙ ap (λ (xs : List ℕ). xs ++ codes " HTTP/1.1" ++ codes "\r\n" ++ others) (sym (append_assoc asked.method (codes " ") asked.target))
    ∙ joined (path_behind asked) (size ++ codes "\r\n" ++ [] ++ codes "\r\n")
    ∙ ap (λ (xs : List ℕ). path_behind asked ++ between ++ xs) (sized size)
    ∙ sym (append_assoc (path_behind asked ++ between) size (codes "\r\n\r\n"))

spelled : (asked : Asked) → sent_as asked ≡ print_request (head_of asked) ++ asked.body
spelled asked = ap (λ (xs : List ℕ). xs ++ asked.body) (sym (printed asked))

-- ---- what can be sent so

abbrev is_target_byte : ℕ → Bool
is_target_byte b = is_uri_byte b && nat_lt b 128

abbrev is_framed : ℕ → Framing → Bool
is_framed size (Body announced last) = (announced == size) && not last
is_framed size (Refused status) = false

abbrev pub is_sent : Asked → Bool
is_sent asked =
    is_token asked.method
    && ((nat_lt 0 (length asked.target) && list_all is_target_byte asked.target)
    && (list_all is_value_byte (decimal (length asked.body))
    && (nat_le (length (print_request (head_of asked))) MAX_HEAD_BYTES
    && (is_framed (length asked.body) (framing_in (head_of asked)) && (is_none asked.content_type && is_none asked.authorization)))))

passing : (test : ℕ → Bool) (bytes : List ℕ) → list_all test bytes ≡ true → All (λ b. IsTrue (test b)) bytes
passing test [] h = All-nil (λ (c : ℕ). IsTrue (test c))
passing test (b ∷ bytes) h = let parts = and_parts (test b) (list_all test bytes) h in All-cons (λ (c : ℕ). IsTrue (test c)) b bytes parts.0 (passing test bytes parts.1)

target_bytes : (bytes : List ℕ) → list_all is_target_byte bytes ≡ true → (list_all is_uri_byte bytes ≡ true) × IsAscii bytes
target_bytes [] h = (refl, λ i. omega arith)
target_bytes (b ∷ bytes) h =
    let parts = and_parts (is_target_byte b) (list_all is_target_byte bytes) h in
    let first = and_parts (is_uri_byte b) (nat_lt b 128) parts.0 in
    let others = target_bytes bytes parts.1 in
    (and_from (is_uri_byte b) (list_all is_uri_byte bytes) first.0 others.0, at first.1 others.1)
  where
    at : nat_lt b 128 ≡ true → IsAscii bytes → IsAscii (b ∷ bytes)
    at low more zero = grind (arith, nat_tests)
    at low more (suc i) = more i

more_than_none : (n : ℕ) → nat_lt 0 n ≡ true → 0 < n
more_than_none n h = grind (arith, nat_tests)

at_most : (n most : ℕ) → nat_le n most ≡ true → n ≤ most
at_most n most h = grind (arith, nat_tests)

framed : (size : ℕ) (framing : Framing) → is_framed size framing ≡ true → framing ≡ Body size false
framed size (Body announced true) h = absurd (false≢true (and_parts (announced == size) false h).1)
framed size (Body announced false) h = ap (λ (n : ℕ). Body n false) (eqb-true announced size (and_parts (announced == size) true h).0)
framed size (Refused status) h = absurd (false≢true h)

no_value : (given : Option (List ℕ)) → is_none given ≡ true → given ≡ None
no_value None h = refl
no_value (Some value) h = cc

-- ---- messages

abbrev pub message_of : Asked → Message
message_of asked = record { asked = asked; last = false }

head_fields_valid : (size : ℕ) → list_all is_value_byte (decimal size) ≡ true → All IsField (host_line ∷ size_line size ∷ [])
unfolding is_token_byte
head_fields_valid size digits =
    All-cons IsField host_line (size_line size ∷ []) (record { name = (omega arith, passing is_token_byte (codes "Host") refl); raw = passing is_value_byte (codes " localhost") refl })
    (All-cons IsField (size_line size) [] (record { name = (omega arith, passing is_token_byte (codes "Content-Length") refl); raw = passing is_value_byte (32 ∷ decimal size) digits })
    (All-nil IsField))

read_message : (asked : Asked) (after : List ℕ) → is_sent asked ≡ true → ReadsMessages (sent_as asked ++ after) (message_of asked) after
unfolding values_named is_alike
read_message asked after sent =
    let head : RequestHead = head_of asked in
    let method = and_parts (is_token asked.method) _ sent in
    let target = and_parts (nat_lt 0 (length asked.target) && list_all is_target_byte asked.target) _ method.1 in
    let digits = and_parts (list_all is_value_byte (decimal (length asked.body))) _ target.1 in
    let short = and_parts (nat_le (length (print_request head)) MAX_HEAD_BYTES) _ digits.1 in
    let framing = and_parts (is_framed (length asked.body) (framing_in head)) (is_none asked.content_type && is_none asked.authorization) short.1 in
    let none = and_parts (is_none asked.content_type) (is_none asked.authorization) framing.1 in
    let token = and_parts (nat_lt 0 (length asked.method)) (list_all is_token_byte asked.method) method.0 in
    let path = and_parts (nat_lt 0 (length asked.target)) (list_all is_target_byte asked.target) target.0 in
    let bytes = target_bytes asked.target path.1 in
    record {
      head = head;
      begins = record {
        reads = (
          record {
            method = (more_than_none (length asked.method) token.0, passing is_token_byte asked.method token.1);
            target = (more_than_none (length asked.target) path.0, passing is_uri_byte asked.target bytes.0);
            target_text = IsUtf8-from_ascii asked.target bytes.1;
            minor = omega arith;
            fields = head_fields_valid (length asked.body) digits.0;
          },
          ap (λ (xs : List ℕ). xs ++ after) (spelled asked) ∙ append_assoc (print_request head) asked.body after,
        );
        short = at_most (length (print_request head)) MAX_HEAD_BYTES short.0;
        few = omega arith;
      };
      framing = framed (length asked.body) (framing_in head) framing.0;
      method = refl;
      target = refl;
      content_type = no_value asked.content_type none.0;
      authorization = no_value asked.authorization none.1;
    }

pub read_all : (asks : List Asked) → list_all is_sent asks ≡ true → Splits (flat_map sent_as asks) (map message_of asks) []
read_all [] sent = refl
read_all (asked ∷ asks) sent =
    let parts = and_parts (is_sent asked) (list_all is_sent asks) sent in
    (flat_map sent_as asks, read_message asked (flat_map sent_as asks) parts.0, refl, read_all asks parts.1)
