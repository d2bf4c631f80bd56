use Rattle.oai_front.proofs.queues.put_answer.Goals as goal

pub returns-clause-taken : goal.returns-clause-taken
returns-clause-taken c = λ taken t. c.put-2.ensures.taken taken (c.put.ensures.taken taken t)
