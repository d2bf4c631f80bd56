-- What a call asks of which only the body is another.
use Rattle.std.proofs.Common.{◌≡◌, ℕ, Bool, true, false, List, cond, Option, None, Some, refl}
use Rattle.oai_http.specs.Bodies.{is_form}
use Rattle.oai_http.specs.Targets.{endpoint_of, query_of}
use Rattle.oai_http.specs.declared.exchanges.Call.{Call}
use Rattle.oai_http.specs.declared.statuses.Status.{Status}
use Rattle.oai_http.specs.declared.statuses.Status.TheVariants as status
use Rattle.oai_http.specs.declared.targets.Endpoint.{Endpoint}
use Rattle.oai_http.specs.declared.targets.Endpoint.TheVariants.{Deposits, Requests}
use Rattle.oai_host.specs.Bodies.{lines_in}
use Rattle.oai_host.specs.Tasks.{asking, depositing, is_get, is_post, refusing, task_at, task_of}

request_is_none : {P : Type 0} (get post form : Bool) (arguments body : List ℕ) (lines : List (List ℕ))
    → cond get (asking arguments) (cond post (cond form (asking body) (refusing status.UnsupportedMediaType)) (refusing status.MethodNotAllowed)) ≡ depositing lines → P
request_is_none true post form arguments body lines is = cc
request_is_none false true true arguments body lines is = cc
request_is_none false true false arguments body lines is = cc
request_is_none false false form arguments body lines is = cc

nowhere_is_none : {P : Type 0} (why : Status) (lines : List (List ℕ)) → refusing why ≡ depositing lines → P
nowhere_is_none why lines is = cc

deposit_again : (post : Bool) (lines all others : List (List ℕ)) → cond post (depositing all) (refusing status.MethodNotAllowed) ≡ depositing lines
    → (lines ≡ all) × (cond post (depositing others) (refusing status.MethodNotAllowed) ≡ depositing others)
deposit_again true lines all others is = (cc, refl)
deposit_again false lines all others is = cc

cut_at : (endpoint : Option Endpoint) (call : Call) (lines : List (List ℕ)) (body : List ℕ) → task_at endpoint call ≡ depositing lines
    → (lines ≡ lines_in call.body) × (task_at endpoint (record call { body = body }) ≡ depositing (lines_in body))
cut_at None call lines body is = nowhere_is_none _ lines is
cut_at (Some Requests) call lines body is = request_is_none (is_get call.method) (is_post call.method) (is_form call.content_type) (query_of call.target) call.body lines is
cut_at (Some Deposits) call lines body is = deposit_again (is_post call.method) lines (lines_in call.body) (lines_in body) is

-- a deposit with another body is a deposit of its lines
pub other_lines : (call : Call) (lines : List (List ℕ)) (body : List ℕ) → task_of call ≡ depositing lines
    → (lines ≡ lines_in call.body) × (task_of (record call { body = body }) ≡ depositing (lines_in body))
other_lines call lines body is = cut_at (endpoint_of call.target) call lines body is
