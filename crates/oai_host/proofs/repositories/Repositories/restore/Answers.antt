-- The repository of the name changes, and the others stay as they were.
use Rattle.std.proofs.Common.{◌≡◌, ◌∙◌}
use Rattle.std.proofs.lemmas.Option.{get_or_from_slice_get}
use Rattle.oai_replay.specs.Parts.{as_part}
use Rattle.oai_host.specs.Saved.{part_in}
use Rattle.oai_host.proofs.GrownLemmas.{changed_at, restored_adds}
use Rattle.oai_host.proofs.NamedRepoLemmas.{held_at, repos_set, stands_at}
use Rattle.oai_host.proofs.PlaceLemmas.{names_set, place_there}
use Rattle.oai_host.proofs.RestoreLemmas.{restored_err, restored_ok}
use Rattle.oai_host.proofs.repositories.Repositories.restore.Goals as goal

pub restore-requires : goal.restore-requires
restore-requires g c =
    let inside = c.self.inside.repos.items in
    let found = rw (← c.self.view_is) at c.requires.place in
    let p = place_there inside c.args.part.now.name.now c.args.place found in
    let one : c.index_mut.result.now ≡ p.0 = c.index_mut.ensures.value ∙ get_or_from_slice_get inside c.args.place p.0 c.index_mut.result.now p.1 in
    let repos = rw (← c.self.view_is) at c.requires.repos in
    let all = g.V.Versions.lists c.args.store.now in
    rw one (record {
      stands = stands_at inside c.args.place p.0 all p.1 repos.stand;
      held = λ honest. held_at inside c.args.place p.0 all p.1 (repos.held honest);
    })

pub invariant_of-self : goal.invariant_of-self
invariant_of-self g c =
    let inside = c.self.inside.repos.items in
    let found = rw (← c.self.view_is) at c.requires.place in
    let p = place_there inside c.args.part.now.name.now c.args.place found in
    let one : c.index_mut.result.now ≡ p.0 = c.index_mut.ensures.value ∙ get_or_from_slice_get inside c.args.place p.0 c.index_mut.result.now p.1 in
    rw (one, names_set inside c.args.place p.0 c.restore.new.repo p.1) c.self.invariant

pub returns-clause-restored : goal.returns-clause-restored
returns-clause-restored g c =
    let V = g.V.Versions in
    let inside = c.self.inside.repos.items in
    let found = rw (← c.self.view_is) at c.requires.place in
    let p = place_there inside c.args.part.now.name.now c.args.place found in
    let one : c.index_mut.result.now ≡ p.0 = c.index_mut.ensures.value ∙ get_or_from_slice_get inside c.args.place p.0 c.index_mut.result.now p.1 in
    let repos = rw (← c.self.view_is) at c.requires.repos in
    let restored = rw one at c.restore.ensures in
    rw (← c.self.view_is, one)
    (restored_ok (V.honest c.args.store.now) (as_part c.args.part.now) c.restore.result inside c.args.place p.0 c.restore.new.repo (V.lists c.args.store.now) (V.lists c.restore.new.store) p.1 p.2 repos restored.kept restored.restored)

pub returns-clause-err : goal.returns-clause-err
returns-clause-err g c =
    let V = g.V.Versions in
    let inside = c.self.inside.repos.items in
    let found = rw (← c.self.view_is) at c.requires.place in
    let p = place_there inside c.args.part.now.name.now c.args.place found in
    let one : c.index_mut.result.now ≡ p.0 = c.index_mut.ensures.value ∙ get_or_from_slice_get inside c.args.place p.0 c.index_mut.result.now p.1 in
    let repos = rw (← c.self.view_is) at c.requires.repos in
    let restored = rw one at c.restore.ensures in
    rw (← c.self.view_is, one)
    (restored_err (V.honest c.args.store.now) c.restore.result inside c.args.place p.0 c.restore.new.repo (V.lists c.args.store.now) (V.lists c.restore.new.store) p.1 repos restored.kept restored.err)

pub returns-clause-repos : goal.returns-clause-repos
returns-clause-repos g c =
    let V = g.V.Versions in
    let inside = c.self.inside.repos.items in
    let found = rw (← c.self.view_is) at c.requires.place in
    let p = place_there inside c.args.part.now.name.now c.args.place found in
    let one : c.index_mut.result.now ≡ p.0 = c.index_mut.ensures.value ∙ get_or_from_slice_get inside c.args.place p.0 c.index_mut.result.now p.1 in
    let repos = rw (← c.self.view_is) at c.requires.repos in
    let restored = rw one at c.restore.ensures in
    rw one (repos_set (V.honest c.args.store.now) (V.honest c.restore.new.store) inside c.args.place p.0 c.restore.new.repo (V.lists c.args.store.now) (V.lists c.restore.new.store) restored.honesty p.1 repos restored.kept)

pub returns-clause-changed : goal.returns-clause-changed
returns-clause-changed g c = λ honest.
    let V = g.V.Versions in
    let inside = c.self.inside.repos.items in
    let found = rw (← c.self.view_is) at c.requires.place in
    let p = place_there inside c.args.part.now.name.now c.args.place found in
    let one : c.index_mut.result.now ≡ p.0 = c.index_mut.ensures.value ∙ get_or_from_slice_get inside c.args.place p.0 c.index_mut.result.now p.1 in
    let restored = rw one at c.restore.ensures in
    rw (← c.self.view_is, one)
    (changed_at inside c.args.place p.0 c.restore.new.repo (V.lists c.args.store.now) (V.lists c.restore.new.store) p.1
    (restored_adds (V.honest c.args.store.now) (part_in (as_part c.args.part.now)) c.restore.result p.0.repo (V.lists c.args.store.now) c.restore.new.repo (V.lists c.restore.new.store) honest restored.restored restored.err) restored.kept.others)
