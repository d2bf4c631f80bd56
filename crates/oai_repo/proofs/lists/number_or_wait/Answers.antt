-- Whether the list begins is decided by the table as by the state.
use Rattle.std.proofs.Common.{◌≡◌, ◌∙◌, ℤ, Err, Some, sym, ap, FitsSigned, w64}
use Rattle.std.proofs.lemmas.Int.{to_z-of_z}
use Rattle.oai_lists.specs.OpenLists.{number_or_fault, open_fault}
use Rattle.oai_lists.specs.declared.lists.OpenListFault.TheVariants.{Full, NoMemory, NumbersSpent}
use Rattle.oai_repo.proofs.ClockLemmas.{years_fit}
use Rattle.oai_repo.proofs.WaitLemmas.{may_begin, takes_no_memory, waits_full, waits_spent}
use Rattle.oai_repo.proofs.lists.number_or_wait.Goals as goal

pub returns-in-Ok-clause-number : goal.returns-in-Ok-clause-number
returns-in-Ok-clause-number c =
    let fits_now : FitsSigned w64 c.args.repo.now.clock = years_fit c.args.repo.now.clock c.requires.dated in
    simp to_z-of_z at (sym c.in-Ok.ensures)

pub returns-in-Ok-clause-wait : goal.returns-in-Ok-clause-wait
returns-in-Ok-clause-wait c = λ all.
    let fits_now : FitsSigned w64 c.args.repo.now.clock = years_fit c.args.repo.now.clock c.requires.dated in
    let repo = c.args.repo.now in
    (may_begin repo.config.now repo.clock c.args.lists.now all c.in-Ok.number c.requires.kept.limit (simp to_z-of_z at (sym c.in-Ok.ensures))).0

pub returns-in-Err-Full-clause-wait : goal.returns-in-Err-Full-clause-wait
returns-in-Err-Full-clause-wait c = λ all.
    let fits_now : FitsSigned w64 c.args.repo.now.clock = years_fit c.args.repo.now.clock c.requires.dated in
    let fits : FitsSigned w64 c.seconds_to_end.result = record { sfits = c.seconds_to_end.type_inv } in
    let repo = c.args.repo.now in
    let table = c.args.lists.now in
    let next : number_or_fault (open_fault table repo.clock) table.next ≡ Err Full = simp to_z-of_z at (sym c.next.ensures ∙ c.in-Err-Full.is ∙ ap (λ f. Err f) c.in-Err-Full.field-0-is) in
    let seconds = simp to_z-of_z at (c.seconds_to_end.ensures all) in
    simp to_z-of_z (waits_full repo.config.now repo.clock table all c.requires.kept.limit next ∙ ap (λ (s : ℤ). Some s) (sym seconds))

pub returns-in-Err-NumbersSpent-clause-wait : goal.returns-in-Err-NumbersSpent-clause-wait
returns-in-Err-NumbersSpent-clause-wait c = λ all.
    let fits_now : FitsSigned w64 c.args.repo.now.clock = years_fit c.args.repo.now.clock c.requires.dated in
    let repo = c.args.repo.now in
    let table = c.args.lists.now in
    let fits : FitsSigned w64 c.lifetime.result = record { sfits = c.lifetime.type_inv } in
    let next : number_or_fault (open_fault table repo.clock) table.next ≡ Err NumbersSpent = simp to_z-of_z at (sym c.next.ensures ∙ c.in-Err-NumbersSpent.is ∙ ap (λ f. Err f) c.in-Err-NumbersSpent.field-0-is) in
    simp to_z-of_z (waits_spent repo.config.now repo.clock table all c.requires.kept.limit next ∙ ap (λ (s : ℤ). Some s) (sym c.lifetime.ensures))

pub unreachable-requires : goal.unreachable-requires
unreachable-requires c =
    let fits_now : FitsSigned w64 c.args.repo.now.clock = years_fit c.args.repo.now.clock c.requires.dated in
    let repo = c.args.repo.now in
    let table = c.args.lists.now in
    let next : number_or_fault (open_fault table repo.clock) table.next ≡ Err NoMemory = simp to_z-of_z at (sym c.next.ensures ∙ c.in-Err-NoMemory.is ∙ ap (λ f. Err f) c.in-Err-NoMemory.field-0-is) in
    absurd (takes_no_memory table repo.clock next)
