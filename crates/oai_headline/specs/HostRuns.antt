-- The effect of the calls of a front, on any number of connections, if a host performs the messages. This repository's
-- own.
use Rattle.std.specs.Prelude.{◌≡◌, ◌≤◌, List, map}
use Rattle.oai_host.specs.Answers.{AreCounted, AreHonest}
use Rattle.oai_host.specs.Exchanged.{IsHandled}
use Rattle.oai_host.specs.Hosts.{AreAloneUnlessFailed, AreAnswered, HostState}
use Rattle.oai_http.specs.declared.exchanges.Answer.{Answer}
use Rattle.oai_http.specs.declared.exchanges.Call.{Call}
use Rattle.oai_front.specs.Fronts.{State}
use Rattle.oai_http.specs.Exchanges.{call_at}
use Rattle.oai_front.specs.Runs.{AreServed, FrontCall, Served, all_served}

-- the messages that were performed, as calls of the host, and their answers
abbrev pub call_of_served : Served → Call
call_of_served s = call_at s.moment s.done.message.asked

abbrev pub calls_of_served : List Served → List Call
calls_of_served served = map call_of_served served

abbrev pub answers_of_served : List Served → List Answer
answers_of_served served = map (λ s. s.done.answer) served

-- calls came, and messages were performed as `AreServed` says. At each repository the answers are a run of its own
-- exchanges, whatever came between them, on the same connection or on others; if none of its own failed, they are what
-- that repository alone answers. A fault is reported only if it has its cause
pub record AreServedByHost (old new : State HostState) (calls : List FrontCall) : Type 0 where
  pub served : AreServed IsHandled old new calls
  pub answered : AreAnswered (calls_of_served (all_served served.each)) (answers_of_served (all_served served.each)) old.handler new.handler
  pub alone : AreAloneUnlessFailed (calls_of_served (all_served served.each)) (answers_of_served (all_served served.each)) old.handler.repositories
  pub device : AreCounted (answers_of_served (all_served served.each)) old.handler.failures new.handler.failures
  pub damaged : AreHonest (answers_of_served (all_served served.each)) old.handler.honest new.handler.honest
  pub honesty : new.handler.honest ≡ old.handler.honest
  pub count : old.handler.failures ≤ new.handler.failures
