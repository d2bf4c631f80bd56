use Rattle.std.proofs.Common.{List, ℕ, subst, sym}
use Rattle.oai_front.specs.Queues.{IsTaken}
use Rattle.oai_front.proofs.queues.perform_message.Goals as goal

pub returns-clause-taken : goal.returns-clause-taken
returns-clause-taken g c = λ taken t. c.put_answer.ensures.taken taken (subst (λ (buffers : List (List ℕ)). IsTaken taken buffers) (sym c.in_ok-try_reserve.ensures.items) t)
