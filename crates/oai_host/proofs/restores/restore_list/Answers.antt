-- A list that was read is spelled so.
use Rattle.std.proofs.Common.{◌≡◌, ◌∙◌, ap, refl, subst, sym}
use Rattle.oai_repo.specs.Saved.{has_list, list_state}
use Rattle.oai_replay.specs.Parts.{as_part}
use Rattle.oai_host.specs.Saved.{list_bytes}
use Rattle.oai_host.specs.Saving.{CanBeList}
use Rattle.oai_host.proofs.RestoreLemmas.{restores_part}
use Rattle.oai_host.proofs.SavedLemmas.{read_as}
use Rattle.oai_host.proofs.restores.restore_list.Goals as goal

pub returns-clause-restored : goal.returns-clause-restored
returns-clause-restored g c =
    let part = c.args.part.now in
    let list = list_state c.saved-list.result in
    let same : c.in_ok-list.list ≡ list = sym c.saved-list.ensures in
    restores_part g.V.Versions (as_part part) (has_list list) c.restore.result c.args.repo.now c.args.store.now c.restore.new.self c.restore.new.store
    (read_as part.kind part.moment part.name.now part.bytes.now (has_list list) c.requires.kind refl (c.in_ok-list.ensures.0 ∙ ap list_bytes same) (subst CanBeList same c.in_ok-list.ensures.1))
    c.restore.ensures.restored c.restore.ensures.err c.restore.ensures.keeps c.restore.ensures.store.honesty.same
