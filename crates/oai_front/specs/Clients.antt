-- What a client reads of an answer: RFC 9112, sections 4, 5, 6.3 and 9.6. A head is one of the grammar of `httparse`.
use Rattle.std.specs.Prelude.{◌≡◌, ℕ, Bool, List, [], ◌∷◌, ◌++◌, length, map, codes}
use Rattle.std.specs.Fmt.{decimal}
use Rattle.httparse.specs.Grammar.{ReadsResponse, ResponseHead, status_code}
use Rattle.httparse.specs.Spans.{name_and_value}
use Rattle.oai_http.specs.Statuses.{number_of}
use Rattle.oai_http.specs.declared.statuses.Status.{Status}
use Rattle.oai_front.specs.Fields.{any_close, values_named}

-- the fields of the head, each its name and its value
abbrev pub response_fields : ResponseHead → List (List ℕ × List ℕ)
response_fields head = map name_and_value head.fields

-- the bytes begin with an answer that has that status and that body, and others follow: a head, which has the number of
-- the status, one length, in decimal digits, which is the body's, and no transfer coding; and `close` if the connection
-- is closed after it
pub record BeginsWithResponse (bytes : List ℕ) (status : Status) (last : Bool) (body others : List ℕ) : Type 0 where
  pub head : ResponseHead
  pub reads : ReadsResponse bytes head (body ++ others)
  pub number : status_code head ≡ number_of status
  pub size : values_named (codes "Content-Length") (response_fields head) ≡ decimal (length body) ∷ []
  pub coding : values_named (codes "Transfer-Encoding") (response_fields head) ≡ []
  pub close : any_close (response_fields head) ≡ last
