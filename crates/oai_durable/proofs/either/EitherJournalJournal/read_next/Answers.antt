use Rattle.oai_durable.proofs.either.EitherJournalJournal.read_next.Goals as goal

pub returns-in-First-clause-next : goal.returns-in-First-clause-next
returns-in-First-clause-next g c = rw c.in-First.is c.read_next.ensures.next

pub returns-in-First-clause-end : goal.returns-in-First-clause-end
returns-in-First-clause-end g c = rw c.in-First.is c.read_next.ensures.end

pub returns-in-Second-clause-next : goal.returns-in-Second-clause-next
returns-in-Second-clause-next g c = rw c.in-Second.is c.read_next-in-Second.ensures.next

pub returns-in-Second-clause-end : goal.returns-in-Second-clause-end
returns-in-Second-clause-end g c = rw c.in-Second.is c.read_next-in-Second.ensures.end
