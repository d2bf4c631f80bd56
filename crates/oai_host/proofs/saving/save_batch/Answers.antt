-- Each kind of batch is passed as its parts.
use Rattle.std.proofs.Common.{◌++◌, FitsSigned, List, OnOk, rules, subst, sym, w64}
use Rattle.std.proofs.lemmas.Int.{to_z-of_z}
use Rattle.oai_holdings.proofs.IndexLemmas.{on_ok}
use Rattle.oai_repo.specs.Saved.{SavedPartState}
use Rattle.oai_snapshots.specs.Snapshots.{list_parts}
use Rattle.oai_host.specs.Saving.{TakesParts}
use Rattle.oai_host.proofs.SavingLemmas.{parts_come, parts_gone}
use Rattle.oai_host.proofs.saving.save_batch.Goals as goal

pub returns-in-Begins : goal.returns-in-Begins
returns-in-Begins g c =
    let fits : FitsSigned w64 c.in-Begins.clock = search rules in
    rw c.in-Begins.is (on_ok c.save_start.result _ _ (λ taken. record { taken = taken.taken; readable = taken.readable }) (simp to_z-of_z at c.save_start.ensures))

pub returns-in-HasSet : goal.returns-in-HasSet
returns-in-HasSet g c = rw c.in-HasSet.is c.save_set_at.ensures

pub returns-in-Gone : goal.returns-in-Gone
returns-in-Gone g c =
    let repo = c.args.repo.now in
    rw c.in-Gone.is
    (subst (λ (ps : List SavedPartState). OnOk c.save_gone.result (TakesParts g.S.Sink.has repo.name.now repo.clock ps c.args.sink.now c.save_gone.new.sink)) (sym (parts_gone c.in-Gone.items))
    (rw c.as_slice.ensures at c.save_gone.ensures))

pub returns-in-Come : goal.returns-in-Come
returns-in-Come g c =
    let repo = c.args.repo.now in
    rw c.in-Come.is
    (subst (λ (ps : List SavedPartState). OnOk c.save_come.result (TakesParts g.S.Sink.has repo.name.now repo.clock (ps ++ list_parts c.in-Come.list) c.args.sink.now c.save_come.new.sink)) (sym (parts_come c.in-Come.items))
    (rw c.as_slice-in-Come.ensures at c.save_come.ensures))
