-- The repository of the name changes, and the others stay as they were.
use Rattle.std.proofs.Common.{◌≡◌, ◌∙◌, FitsSigned, w64}
use Rattle.std.proofs.lemmas.Int.{to_z-of_z}
use Rattle.std.proofs.lemmas.Option.{get_or_from_slice_get}
use Rattle.oai_host.proofs.AgainLemmas.{redone_set}
use Rattle.oai_host.proofs.GrownLemmas.{changed_at, performed_adds}
use Rattle.oai_host.proofs.NamedRepoLemmas.{held_at, repos_set, stands_at}
use Rattle.oai_host.proofs.PlaceLemmas.{names_set, place_there}
use Rattle.oai_host.proofs.repositories.Repositories.redo.Goals as goal

pub redo-requires : goal.redo-requires
redo-requires g c =
    let inside = c.self.inside.repos.items in
    let found = rw (← c.self.view_is) at c.requires.place in
    let p = place_there inside c.args.performed.now.name.now c.args.place found in
    let one : c.index_mut.result.now ≡ p.0 = c.index_mut.ensures.value ∙ get_or_from_slice_get inside c.args.place p.0 c.index_mut.result.now p.1 in
    let repos = rw (← c.self.view_is) at c.requires.repos in
    let all = g.V.Versions.lists c.args.store.now in
    rw one (record {
      owns = record {
        stands = stands_at inside c.args.place p.0 all p.1 repos.stand;
        held = λ honest. held_at inside c.args.place p.0 all p.1 (repos.held honest);
      };
    })

pub invariant_of-self : goal.invariant_of-self
invariant_of-self g c =
    let inside = c.self.inside.repos.items in
    let found = rw (← c.self.view_is) at c.requires.place in
    let p = place_there inside c.args.performed.now.name.now c.args.place found in
    let one : c.index_mut.result.now ≡ p.0 = c.index_mut.ensures.value ∙ get_or_from_slice_get inside c.args.place p.0 c.index_mut.result.now p.1 in
    rw (one, names_set inside c.args.place p.0 c.redo.new.repo p.1) c.self.invariant

pub returns-clause-steps : goal.returns-clause-steps
returns-clause-steps g c =
    let V = g.V.Versions in
    let fits : FitsSigned w64 c.args.moment = c.ranges.moment in
    let inside = c.self.inside.repos.items in
    let found = rw (← c.self.view_is) at c.requires.place in
    let p = place_there inside c.args.performed.now.name.now c.args.place found in
    let one : c.index_mut.result.now ≡ p.0 = c.index_mut.ensures.value ∙ get_or_from_slice_get inside c.args.place p.0 c.index_mut.result.now p.1 in
    let repos = rw (← c.self.view_is) at c.requires.repos in
    let redone = rw one at (simp to_z-of_z at c.redo.ensures) in
    let before = c.args.store.now in
    let after = c.redo.new.store in
    rw (← c.self.view_is, one)
    (redone_set V c.args.moment c.args.performed.now c.redo.result inside c.args.place p.0 c.redo.new.repo before after p.1 p.2 repos redone)

pub returns-clause-repos : goal.returns-clause-repos
returns-clause-repos g c =
    let V = g.V.Versions in
    let inside = c.self.inside.repos.items in
    let found = rw (← c.self.view_is) at c.requires.place in
    let p = place_there inside c.args.performed.now.name.now c.args.place found in
    let one : c.index_mut.result.now ≡ p.0 = c.index_mut.ensures.value ∙ get_or_from_slice_get inside c.args.place p.0 c.index_mut.result.now p.1 in
    let repos = rw (← c.self.view_is) at c.requires.repos in
    let kept = rw one at c.redo.ensures.2.kept in
    rw one (repos_set (V.honest c.args.store.now) (V.honest c.redo.new.store) inside c.args.place p.0 c.redo.new.repo (V.lists c.args.store.now) (V.lists c.redo.new.store) c.redo.ensures.2.performed.honesty.same p.1 repos kept)

pub returns-clause-changed : goal.returns-clause-changed
returns-clause-changed g c =
    let V = g.V.Versions in
    let inside = c.self.inside.repos.items in
    let found = rw (← c.self.view_is) at c.requires.place in
    let p = place_there inside c.args.performed.now.name.now c.args.place found in
    let one : c.index_mut.result.now ≡ p.0 = c.index_mut.ensures.value ∙ get_or_from_slice_get inside c.args.place p.0 c.index_mut.result.now p.1 in
    let kept = rw one at c.redo.ensures.2.kept in
    let performed = rw one at c.redo.ensures.2.performed in
    rw (← c.self.view_is, one)
    (changed_at inside c.args.place p.0 c.redo.new.repo (V.lists c.args.store.now) (V.lists c.redo.new.store) p.1 (performed_adds _ _ _ _ _ _ _ _ performed) kept.others)
