-- The answer to an exchange, and which answers there are: OAI-PMH 2.0, section 3.1.2, and this repository's own words.
use Rattle.std.specs.Prelude.{◌≡◌, ℕ, Bool, true, false, List, Option, None, Some, MatchOption, Result, Ok, Err}
use Rattle.std.specs.List.{AllByRecursion}
use Rattle.oai_catalogue.specs.Store.{IsHonest}
use Rattle.oai_device.specs.Device.{CountsFailures}
use Rattle.oai_item.specs.declared.faults.Fault.{Fault}
use Rattle.oai_item.specs.declared.faults.Fault.TheVariants.{Damaged, Device, NoMemory, TooManyPages}
use Rattle.oai_repo.specs.Machine.{Output, bytes, wait}
use Rattle.oai_http.specs.Answers.{answered_with, asked_to_wait}
use Rattle.oai_http.specs.declared.exchanges.Answer.{Answer}

-- the answer with which the output of a repository is sent
abbrev pub answer_of : Output → Answer
answer_of (bytes body) = answered_with body
answer_of (wait seconds) = asked_to_wait seconds

-- what a repository replies to a request: a document, or a time to wait
abbrev pub IsReply : Answer → Type 0
IsReply answer = MatchOption answer.seconds (answer ≡ answered_with answer.body) (λ seconds. answer ≡ asked_to_wait seconds)

-- ---- faults

-- Ok, or why an exchange failed
abbrev pub failure : Option Fault → Result (Unit {0}) Fault
failure None = Ok tt
failure (Some fault) = Err fault

-- Ok, or why the exchange with that answer failed, in the form that `CountsFailures` and `IsHonest` take
abbrev pub failure_in : Answer → Result (Unit {0}) Fault
failure_in answer = failure answer.fault

-- an answer reports a failed device only if it did fail, from the one count of failures to the other
abbrev pub AreCounted : List Answer → ℕ → ℕ → Type 0
AreCounted answers old new = AllByRecursion (λ (answer : Answer). CountsFailures Device (failure_in answer) old new) answers

-- an answer reports damage only over a device that does not return what was written to it
abbrev pub AreHonest : List Answer → Bool → Bool → Type 0
AreHonest answers old new = AllByRecursion (λ (answer : Answer). IsHonest (failure_in answer) old new) answers

-- the fault is that a device failed
abbrev pub is_of_device : Option Fault → Bool
is_of_device (Some Device) = true
is_of_device (Some Damaged) = false
is_of_device (Some NoMemory) = false
is_of_device (Some TooManyPages) = false
is_of_device None = false

-- the answer reports that a device failed
abbrev pub tells_of_device : Answer → Bool
tells_of_device answer = is_of_device answer.fault
