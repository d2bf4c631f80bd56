-- All records are durable, and give what the handler keeps.
use Rattle.oai_durable.proofs.recovery.resume.Goals as goal

pub returns-in-Some : goal.returns-in-Some
returns-in-Some g c = λ begun first entries had. record {
  records = rw c.new.ensures.journal (c.in-Some.ensures first entries had.read);
  kept = rw c.new.ensures.handler had.so;
}
