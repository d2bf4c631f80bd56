-- An item that was read is spelled so.
use Rattle.std.proofs.Common.{◌≡◌, ◌∙◌, List, ℕ, ap, of_z, rules, subst, sym, to_z, w64}
use Rattle.std.proofs.lemmas.Int.{to_z-of_z}
use Rattle.oai_item.specs.Encoding.{Spells}
use Rattle.oai_repo.specs.Saved.{has_item}
use Rattle.oai_replay.specs.Parts.{as_part}
use Rattle.oai_host.proofs.RestoreLemmas.{restores_part}
use Rattle.oai_host.proofs.SavedLemmas.{read_as}
use Rattle.oai_host.proofs.restores.restore_item.Goals as goal

pub returns : goal.returns
returns g c =
    let part = c.args.part.now in
    let item = c.in_ok-item.item in
    let p = has_item item in
    let spells : Spells part.bytes.now item = c.in_ok-item.ensures in
    let read : to_z w64 (of_z w64 c.stamp.result) ≡ c.stamp.result = to_z-of_z w64 c.stamp.result (record { sfits = c.stamp.type_inv }) in
    let fits : to_z w64 (of_z w64 part.moment) ≡ part.moment = search (rules, to_z-of_z) in
    let moment : part.moment ≡ item.stamp = sym fits ∙ sym (ap (to_z w64) c.if-stamp-part.false) ∙ read ∙ c.stamp.ensures.stamp in
    restores_part g.V.Versions (as_part part) p c.restore.result c.args.repo.now c.args.store.now c.restore.new.self c.restore.new.store
    (read_as part.kind part.moment part.name.now part.bytes.now p c.requires.kind moment spells.spelling (subst (λ (bytes : List ℕ). Spells bytes item) spells.spelling spells))
    c.restore.ensures.restored c.restore.ensures.err c.restore.ensures.keeps c.restore.ensures.store.honesty.same
