-- Each turn appends the version of the next list, if it is open.
use Rattle.std.proofs.Common.{FitsSigned, of_z, rules, to_z, w64, ◌≡◌, ◌∙◌, ◌<◌, ℕ, ℤ, length, subst, List, None, Some, ap, sym}
use Rattle.std.proofs.lemmas.Int.{to_z-of_z}
use Rattle.std.specs.Prelude.{slice_get}
use Rattle.std.specs.Option.{option_copied}
use Rattle.oai_lists.specs.declared.open_lists.OpenList.{OpenList}
use Rattle.oai_snapshots.specs.Taking.{with_open}
use Rattle.oai_snapshots.proofs.TakingLemmas.{found_within, open_more}
use Rattle.oai_snapshots.proofs.freezing.sources_of.Goals as goal
use Rattle.oai_snapshots.proofs.freezing.sources_of.Goals.{in-Some+in_ok-add_if_open-in-Some, in-None}

pub lists-preserved : goal.lists-preserved
lists-preserved c =
    let lists : List OpenList = c.args.repo.now.table.lists in
    let at = c.lists.at in
    let within : at < length lists = subst (λ (n : ℕ). at < n) c.open_lists-at-end.ensures c.lists-test.true in
    let fits : FitsSigned w64 c.clock-clock.result = record { sfits = c.clock-clock.type_inv } in
    let clock : to_z w64 (of_z w64 c.clock-clock.result) ≡ c.clock-clock.result = search (rules, to_z-of_z) in
    elim c.match-list_at.branch [
      | in-Some+in_ok-add_if_open-in-Some w ↦
          let list : OpenList = w.in-Some.list.now in
          let is : slice_get lists at ≡ Some list = sym c.list_at.ensures ∙ ap option_copied w.in-Some.is in
          rw w.sources-is (
          w.in_ok-add_if_open-in-Some.ensures
          ∙ ap (λ (now : ℤ). with_open now list c.lists.sources.items) (clock ∙ c.clock-clock.ensures.clock)
          ∙ ap (with_open c.args.repo.now.clock list) c.lists.invariant
          ∙ open_more c.args.repo.now.clock lists at list is within)
      | in-None w ↦
          let is : slice_get lists at ≡ None = sym c.list_at.ensures ∙ ap option_copied w.in-None.is in
          absurd (found_within lists at is within)
    ]
