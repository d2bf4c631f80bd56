use Rattle.oai_journal.proofs.TailLemmas.{tail_behind}
use Rattle.oai_journal.proofs.file.FileJournalJournal.tail.Goals as goal

pub returns-clause-behind : goal.returns-clause-behind
returns-clause-behind g c entries durable held =
    tail_behind _ _ _ c.args.self.now _ c.at.result entries durable held c.if-self.false c.forget.ensures.disk c.forget.ensures.block c.at.ensures.place c.at.ensures.last
