use Rattle.oai_front.proofs.MessageLemmas.{unfinished_without}
use Rattle.oai_front.proofs.messages.next_in.Goals as goal

pub returns-in-Unknown : goal.returns-in-Unknown
returns-in-Unknown c =
    let none = rw c.in-Unknown.is at c.read_head.ensures in
    (unfinished_without c.args.bytes.now none.0 none.1 none.2, tt)

pub returns-in-Fault : goal.returns-in-Fault
returns-in-Fault c = rw c.in-Fault.is at c.read_head.ensures
