-- The set at the position is passed, if there is one.
use Rattle.std.proofs.Common.{FitsSigned, List, OnOk, map, rules, subst, sym, w64}
use Rattle.std.proofs.lemmas.Int.{to_z-of_z}
use Rattle.oai_repo.specs.Saved.{has_named_set}
use Rattle.oai_holdings.specs.Holdings.{NamedSet}
use Rattle.oai_host.specs.Saving.{TakesParts}
use Rattle.oai_host.proofs.SavedLemmas.{parts_none}
use Rattle.oai_host.proofs.SavingLemmas.{none_there, one_there}
use Rattle.oai_host.proofs.saving.save_set_at.Goals as goal

pub returns-in-Some : goal.returns-in-Some
returns-in-Some g c =
    let repo = c.args.repo.now in
    let fits : FitsSigned w64 repo.clock = search rules in
    subst (λ (sets : List NamedSet). OnOk c.save_set.result (TakesParts g.S.Sink.has repo.name.now repo.clock (map has_named_set sets) c.args.sink.now c.save_set.new.sink))
    (sym (one_there repo.sets.now c.args.at c.in-Some.set.now (sym c.in-Some.ensures))) (simp to_z-of_z at c.save_set.ensures)

pub returns-in-None : goal.returns-in-None
returns-in-None g c =
    let repo = c.args.repo.now in
    subst (λ (sets : List NamedSet). TakesParts g.S.Sink.has repo.name.now repo.clock (map has_named_set sets) c.args.sink.now c.args.sink.now)
    (sym (none_there repo.sets.now c.args.at (sym c.in-None.ensures))) (parts_none g.S.Sink.has repo.name.now repo.clock c.args.sink.now)
