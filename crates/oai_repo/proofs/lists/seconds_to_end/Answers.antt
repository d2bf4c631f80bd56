-- The first to end is one of the open lists.
use Rattle.std.proofs.Common.{◌∙◌, ℤ, pos, sym, FitsSigned, w64}
use Rattle.std.specs.Prelude.{int_le, int_lt}
use Rattle.std.proofs.lemmas.Int.{to_z-of_z}
use Rattle.oai_names.proofs.Lists.{all-filter, all-filter_same}
use Rattle.oai_lists.specs.OpenLists.{is_open, open_ones}
use Rattle.oai_repo.specs.Tables.{has_end}
use Rattle.oai_repo.proofs.EarliestLemmas.{end_passes, seconds_is}
use Rattle.oai_repo.proofs.lists.seconds_to_end.Goals as goal

pub seconds_until-requires-clause-later : goal.seconds_until-requires-clause-later
seconds_until-requires-clause-later c =
    let fits : FitsSigned w64 c.args.now = c.ranges.now in
    let fits_end : FitsSigned w64 c.in-Some.end = record { sfits = (rw c.in-Some.is at c.earliest_end.type_inv).1.1.1.1.0.1 } in
    let earliest = simp to_z-of_z at c.in-Some.ensures in
    simp to_z-of_z (end_passes (int_lt c.args.now) (open_ones c.args.now c.args.lists.now.lists) c.in-Some.end earliest (all-filter_same (is_open c.args.now) c.args.lists.now.lists))

pub seconds_until-requires-clause-ends : goal.seconds_until-requires-clause-ends
seconds_until-requires-clause-ends c =
    let fits : FitsSigned w64 c.args.now = c.ranges.now in
    let fits_end : FitsSigned w64 c.in-Some.end = record { sfits = (rw c.in-Some.is at c.earliest_end.type_inv).1.1.1.1.0.1 } in
    let earliest = simp to_z-of_z at c.in-Some.ensures in
    let last : ℤ = pos 253_402_300_799 in
    simp to_z-of_z
    (end_passes (λ end. int_le end last) (open_ones c.args.now c.args.lists.now.lists) c.in-Some.end earliest (all-filter has_end (is_open c.args.now) c.args.lists.now.lists c.requires.ends))

pub returns-in-Some : goal.returns-in-Some
returns-in-Some c = λ all.
    let fits : FitsSigned w64 c.args.now = c.ranges.now in
    let fits_end : FitsSigned w64 c.in-Some.end = record { sfits = (rw c.in-Some.is at c.earliest_end.type_inv).1.1.1.1.0.1 } in
    let fits_result : FitsSigned w64 c.seconds_until.result = record { sfits = c.seconds_until.type_inv } in
    let earliest = simp to_z-of_z at c.in-Some.ensures in
    simp to_z-of_z ((simp to_z-of_z at c.seconds_until.ensures) ∙ sym (seconds_is all c.args.now c.in-Some.end (open_ones c.args.now c.args.lists.now.lists) earliest))
