-- The answer to an exchange: RFC 9110, sections 10.2.3 and 15; that a request has to be repeated later, OAI-PMH 2.0,
-- section 3.1.2.2.
use Rattle.std.specs.Prelude.{ℕ, ℤ, pos, List, [], Option, None, Some}
use Rattle.oai_item.specs.declared.faults.Fault.{Fault}
use Rattle.oai_item.specs.declared.faults.Fault.TheVariants.{Damaged, Device, NoMemory, TooManyPages}
use Rattle.oai_http.specs.declared.exchanges.Answer.{Answer}
use Rattle.oai_http.specs.declared.statuses.Status.{Status}
use Rattle.oai_http.specs.declared.statuses.Status.TheVariants as status

-- a status and nothing else
abbrev pub answered : Status → Answer
answered status = record { status = status; seconds = None; done = None; body = []; fault = None }

-- it was performed, and this is the body
abbrev pub answered_with : List ℕ → Answer
answered_with body = record { status = status.Ok; seconds = None; done = None; body = body; fault = None }

-- it may be repeated after that many seconds: OAI-PMH 2.0, section 3.1.2.2
abbrev pub asked_to_wait : ℤ → Answer
asked_to_wait seconds = record { status = status.ServiceUnavailable; seconds = Some seconds; done = None; body = []; fault = None }

-- it failed out of memory or pages, and may be repeated after a minute: OAI-PMH 2.0, section 3.1.2.2
abbrev pub without_room : Fault → Option ℕ → Answer
without_room fault done = record { status = status.ServiceUnavailable; seconds = Some (pos 60); done = done; body = []; fault = Some fault }

-- it failed
abbrev pub broken : Fault → Option ℕ → Answer
broken fault done = record { status = status.InternalServerError; seconds = None; done = done; body = []; fault = Some fault }

-- the answer to an exchange that failed; for a deposit, with the number of its lines that were done
abbrev pub failed : Fault → Option ℕ → Answer
failed NoMemory done = without_room NoMemory done
failed TooManyPages done = without_room TooManyPages done
failed Device done = broken Device done
failed Damaged done = broken Damaged done
