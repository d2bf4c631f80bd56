use Rattle.oai_durable.proofs.either.EitherJournalJournal.commit.Goals as goal

pub returns-in-First-clause-ok : goal.returns-in-First-clause-ok
returns-in-First-clause-ok g c = rw c.in-First.is c.commit.ensures.ok

pub returns-in-First-clause-tails : goal.returns-in-First-clause-tails
returns-in-First-clause-tails g c = rw c.in-First.is c.commit.ensures.tails

pub returns-in-Second-clause-ok : goal.returns-in-Second-clause-ok
returns-in-Second-clause-ok g c = rw c.in-Second.is c.commit-in-Second.ensures.ok

pub returns-in-Second-clause-tails : goal.returns-in-Second-clause-tails
returns-in-Second-clause-tails g c = rw c.in-Second.is c.commit-in-Second.ensures.tails
