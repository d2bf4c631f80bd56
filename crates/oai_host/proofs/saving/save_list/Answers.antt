-- The bytes of the part are those of the list, and can be read again.
use Rattle.std.proofs.Common.{◌≡◌, ◌∙◌, [], ◌∷◌, ℕ, FitsSigned, List, ap, rules, subst, true, w64}
use Rattle.std.proofs.lemmas.Int.{to_z-of_z}
use Rattle.oai_args.specs.Verbs.{is_of_records}
use Rattle.oai_holdings.proofs.IndexLemmas.{on_ok}
use Rattle.oai_repo.specs.Saved.{has_list}
use Rattle.oai_replay.specs.Parts.{PartState}
use Rattle.oai_replay.specs.declared.parts.PartKind.TheVariants.{List as OpenList}
use Rattle.oai_host.specs.Saved.{list_bytes}
use Rattle.oai_host.specs.Saving.{CanBeList, Takes}
use Rattle.oai_host.proofs.SavedLemmas.{parts_one}
use Rattle.oai_host.proofs.saving.save_list.Goals as goal

pub returns : goal.returns
returns g c =
    let has = g.S.Sink.has in
    let repo = c.args.repo.now in
    let fits_end : FitsSigned w64 c.list.inside.end = search rules in
    let fits_clock : FitsSigned w64 repo.clock = search rules in
    let items : is_of_records c.list.inside.verb ≡ true = search rules in
    let spelled : c.as_slice.result.now ≡ list_bytes c.args.list.now = (simp to_z-of_z at (c.as_slice.ensures ∙ c.in-Ok.ensures.bytes)) ∙ ap list_bytes c.list.view_is in
    let readable : CanBeList c.args.list.now = subst CanBeList c.list.view_is ((simp to_z-of_z at c.in-Ok.ensures.list) items) in
    let part : PartState = record { kind = OpenList; moment = repo.clock; name = repo.name.now; bytes = c.as_slice.result.now } in
    on_ok c.put.result _ _
    (λ (taken : Takes has (part ∷ []) c.args.sink.now c.put.new.sink).
    parts_one has repo.name.now repo.clock (has_list c.args.list.now) part c.args.sink.now c.put.new.sink (ap (λ (bytes : List ℕ). record { kind = OpenList; moment = repo.clock; name = repo.name.now; bytes = bytes }) spelled) readable taken)
    (simp to_z-of_z at c.put.ensures)
