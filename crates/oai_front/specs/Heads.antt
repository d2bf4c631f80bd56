-- The bytes of an answer: RFC 9112, sections 4 and 5; RFC 9110, sections 8.3, 8.6, 10.2.1, 10.2.3, 11.6.1 and 7.6.1.
-- Which fields a head has, and in which order, is this repository's own, and so is X-Lines-Done.
use Rattle.std.specs.Prelude.{ℕ, ℤ, Bool, true, if◌then◌else◌, List, [], ◌++◌, length, codes, Option, Some, None}
use Rattle.std.specs.Fmt.{decimal, signed_decimal}
use Rattle.oai_http.specs.Statuses.{number_of, phrase_of}
use Rattle.oai_http.specs.declared.exchanges.Answer.{Answer}
use Rattle.oai_http.specs.declared.statuses.Status.{Status}
use Rattle.oai_http.specs.declared.statuses.Status.TheVariants as status
use Rattle.oai_http.specs.Targets.{endpoint_of}
use Rattle.oai_http.specs.declared.targets.Endpoint.{Endpoint}
use Rattle.oai_http.specs.declared.targets.Endpoint.TheVariants.{Requests, Deposits}
use Rattle.oai_front.specs.declared.heads.AnswerHead.{AnswerHead}

-- bytes as they are; named so that the search does not spell them out
unfoldable pub plain : List ℕ → List ℕ
plain bytes = bytes

-- a field: its name, a colon, a space, its value and a line end: RFC 9112, section 5
unfoldable pub field : List ℕ → List ℕ → List ℕ
field name value = plain name ++ plain (codes ": ") ++ value ++ plain (codes "\r\n")

-- the protocol, the number of the status and its reason phrase: RFC 9112, section 4
unfoldable pub status_line : Status → List ℕ
status_line status =
    plain (codes "HTTP/1.1 ") ++ decimal (number_of status) ++ plain (codes " ") ++ phrase_of status ++ plain (codes "\r\n")

-- the Content-Type of a 200: RFC 9110, section 8.3; of requests OAI-PMH 2.0, section 3.1.2.1. One that leads to no
-- repository is a page of figures, in Prometheus' text exposition format, version 0.0.4
unfoldable pub type_field : Option Endpoint → List ℕ
type_field (Some Requests) = field (codes "Content-Type") (plain (codes "text/xml"))
type_field (Some Deposits) = field (codes "Content-Type") (plain (codes "text/plain; charset=utf-8"))
type_field None = field (codes "Content-Type") (plain (codes "text/plain; version=0.0.4"))

-- what a 401 asks for, a key: RFC 9110, section 11.6.1; RFC 6750, section 3, which wants a parameter
unfoldable pub challenge_field : List ℕ
challenge_field = field (codes "WWW-Authenticate") (plain (codes "Bearer realm=\"deposit\""))

-- the methods that a target allows, if the request had another: RFC 9110, sections 10.2.1 and 15.5.6
unfoldable pub allow_field : Option Endpoint → List ℕ
allow_field (Some Requests) = field (codes "Allow") (plain (codes "GET, POST"))
allow_field (Some Deposits) = field (codes "Allow") (plain (codes "POST"))
allow_field None = field (codes "Allow") (plain (codes "GET"))

-- the seconds after which to retry: RFC 9110, section 10.2.3, and OAI-PMH 2.0, section 3.1.2.2
unfoldable pub retry_field : Option ℤ → List ℕ
retry_field None = []
retry_field (Some seconds) = field (codes "Retry-After") (signed_decimal seconds)

-- how many lines of a deposit were done before it failed
unfoldable pub done_field : Option Endpoint → Option ℕ → List ℕ
done_field (Some Deposits) (Some lines) = field (codes "X-Lines-Done") (decimal lines)
done_field endpoint lines = []

-- the fields that the status requires
unfoldable pub status_fields : Status → AnswerHead → List ℕ
status_fields status.Ok head = type_field head.endpoint
status_fields status.Unauthorized head = challenge_field
status_fields status.MethodNotAllowed head = allow_field head.endpoint
status_fields status.InternalServerError head = done_field head.endpoint head.done
status_fields status.ServiceUnavailable head = retry_field head.seconds ++ done_field head.endpoint head.done
status_fields other head = []

-- RFC 9110, section 7.6.1: the connection is closed after the answer
unfoldable pub close_field : Bool → List ℕ
close_field last = if last then field (codes "Connection") (plain (codes "close")) else []

-- RFC 9110, section 8.6
unfoldable pub length_field : ℕ → List ℕ
length_field size = field (codes "Content-Length") (decimal size)

-- the head of an answer, with the empty line after it
unfoldable pub answer_head : AnswerHead → List ℕ
answer_head head =
    status_line head.status
    ++ status_fields head.status head
    ++ close_field head.last
    ++ length_field head.size
    ++ plain (codes "\r\n")

-- the contents of the head of an answer to that target, whether or not the connection is closed after it
abbrev pub head_told : List ℕ → Bool → Answer → AnswerHead
head_told target last answer = record {
  endpoint = endpoint_of target;
  status = answer.status;
  seconds = answer.seconds;
  done = answer.done;
  last = last;
  size = length answer.body;
}

-- an answer: its head and its body
unfoldable pub answer_bytes : List ℕ → Bool → Answer → List ℕ
answer_bytes target last answer = answer_head (head_told target last answer) ++ answer.body

-- the answer to a connection fault, after which the connection is closed
unfoldable pub fault_bytes : Status → List ℕ
fault_bytes status = answer_head (record { endpoint = None; status = status; seconds = None; done = None; last = true; size = 0 })
