-- A set that was read is spelled so.
use Rattle.std.proofs.Common.{◌≡◌, ◌∙◌, ◌++◌, ◌∷◌, List, ℕ, refl, sym, ap}
use Rattle.oai_repo.specs.Saved.{has_named_set}
use Rattle.oai_replay.specs.Parts.{as_part}
use Rattle.oai_host.proofs.RestoreLemmas.{restores_part}
use Rattle.oai_host.proofs.SavedLemmas.{read_as}
use Rattle.oai_host.proofs.restores.restore_set.Goals as goal

pub returns : goal.returns
returns g c =
    let part = c.args.part.now in
    let p = has_named_set (c.in_ok-spec.spec, c.in-Some.name.now) in
    let spelled = c.in-Some.ensures in
    let spec : c.in_ok-spec.spec ≡ c.in-Some.spec.now = c.in_ok-spec.ensures.text in
    restores_part g.V.Versions (as_part part) p c.restore.result c.args.repo.now c.args.store.now c.restore.new.self c.restore.new.store
    (read_as part.kind part.moment part.name.now part.bytes.now p c.requires.kind refl (spelled ∙ ap (λ (s : List ℕ). s ++ 32 ∷ c.in-Some.name.now) (sym spec)) c.in_ok-spec.ensures.name)
    c.restore.ensures.restored c.restore.ensures.err c.restore.ensures.keeps c.restore.ensures.store.honesty.same
