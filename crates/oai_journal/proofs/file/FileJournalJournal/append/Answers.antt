use Rattle.std.proofs.Common.{◌∙◌, ℕ, List, [], ◌∷◌, ◌++◌, ap, append_assoc, rules}
use Rattle.std.proofs.lemmas.Int.{to_z-of_z}
use Rattle.oai_journal.specs.Frames as spec
use Rattle.oai_journal.specs.Records.{Entry, IsFit, as_entry}
use Rattle.oai_journal.proofs.KeptLemmas.{kept_append_one}
use Rattle.oai_journal.proofs.file.FileJournalJournal.append.Goals as goal

pub returns-clause-appended : goal.returns-clause-appended
returns-clause-appended g c entries durable held =
    let e : Entry = as_entry c.args.entry.now in
    let fit : IsFit e = record { moment = search (rules, to_z-of_z); fit = c.requires.fit } in
    kept_append_one _ _ c.args.self.now c.put.new.out c.write_frame-self.result entries durable e fit c.requires.kind
    (c.put.ensures.items ∙ ap (λ (l : List ℕ). l ++ 38 ∷ []) c.write_frame-self.ensures.items ∙ append_assoc c.args.self.now.pending.items (spec.frame c.args.self.now.last e) (38 ∷ []))
    c.write_frame-self.ensures.digest held
