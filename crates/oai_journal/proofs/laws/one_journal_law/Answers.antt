use Rattle.oai_journal.proofs.FileLemmas.{ends_same}
use Rattle.oai_journal.proofs.laws.one_journal_law.Goals as goal

pub returns : goal.returns
returns c file first other entries found is also =
    let one = ends_same file first other entries found is also in
    (one.begins, one.are)
