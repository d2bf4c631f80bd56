-- A number that was read is spelled so.
use Rattle.std.proofs.Common.{◌≡◌, of_z, refl, rules, to_z, w64}
use Rattle.std.proofs.lemmas.Int.{to_z-of_z}
use Rattle.oai_repo.specs.Saved.{has_clock}
use Rattle.oai_replay.specs.Parts.{as_part}
use Rattle.oai_host.proofs.RestoreLemmas.{restores_part}
use Rattle.oai_host.proofs.SavedLemmas.{read_as}
use Rattle.oai_host.proofs.restores.restore_begin.Goals as goal

pub returns : goal.returns
returns g c =
    let part = c.args.part.now in
    let p = has_clock part.moment c.in-Some.next in
    let fits : to_z w64 (of_z w64 part.moment) ≡ part.moment = search (rules, to_z-of_z) in
    restores_part g.V.Versions (as_part part) p c.restore.result c.args.repo.now c.args.store.now c.restore.new.self c.restore.new.store
    (read_as part.kind part.moment part.name.now part.bytes.now p c.requires.kind refl c.in-Some.ensures (search rules))
    (rw fits at c.restore.ensures.restored) c.restore.ensures.err c.restore.ensures.keeps c.restore.ensures.store.honesty.same
