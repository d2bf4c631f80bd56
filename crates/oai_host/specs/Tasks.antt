-- What an exchange asks of the repository that its path leads to: RFC 9110, sections 9.3, 15.5.6 and 15.5.16; OAI-PMH
-- 2.0, section 3.1.1.
use Rattle.std.specs.Prelude.{ℕ, Bool, if◌then◌else◌, List, codes, Option, None, Some}
use Rattle.std.specs.Str.{bytes_eq}
use Rattle.oai_http.specs.Bodies.{is_form}
use Rattle.oai_http.specs.Targets.{endpoint_of, is_rooted, query_of}
use Rattle.oai_http.specs.declared.exchanges.Call.{Call}
use Rattle.oai_http.specs.declared.statuses.Status.{Status}
use Rattle.oai_http.specs.declared.statuses.Status.TheVariants as status
use Rattle.oai_http.specs.declared.targets.Endpoint.{Endpoint}
use Rattle.oai_http.specs.declared.targets.Endpoint.TheVariants.{Deposits, Requests}
use Rattle.oai_host.specs.Bodies.{lines_in}

-- nothing, since its answer is that status; a request of OAI-PMH, by the bytes of its arguments; or deposit lines
pub data Task : Type 0 where
  refusing : Status → Task
  asking : List ℕ → Task
  depositing : List (List ℕ) → Task

abbrev pub is_get : List ℕ → Bool
is_get method = bytes_eq method (codes "GET")

abbrev pub is_post : List ℕ → Bool
is_post method = bytes_eq method (codes "POST")

-- a request is a GET with its arguments in the query, or a POST with a form in the body
abbrev pub request_task : Call → Task
request_task call =
    if is_get call.method then asking (query_of call.target)
    else (if is_post call.method then (if is_form call.content_type then asking call.body else refusing status.UnsupportedMediaType)
    else refusing status.MethodNotAllowed)

-- a deposit is a POST, whatever the type of its body
abbrev pub deposit_in : Call → Task
deposit_in call = if is_post call.method then depositing (lines_in call.body) else refusing status.MethodNotAllowed

abbrev pub task_in : Endpoint → Call → Task
task_in Requests call = request_task call
task_in Deposits call = deposit_in call

-- what a call asks, by the endpoint of its target; nothing if it has none
abbrev pub task_at : Option Endpoint → Call → Task
task_at None call = refusing (if is_rooted call.target then status.NotFound else status.BadRequest)
task_at (Some endpoint) call = task_in endpoint call

abbrev pub task_of : Call → Task
task_of call = task_at (endpoint_of call.target) call
