-- The repository at the place changes, and the others stay as they were; what is performed again at it changes it so.
use Rattle.std.proofs.Common.{◌≡◌, ◌∙◌, FitsSigned, sym, w64}
use Rattle.std.specs.Option.{option_copied}
use Rattle.std.proofs.lemmas.Int.{to_z-of_z}
use Rattle.std.proofs.lemmas.Option.{get_or_from_slice_get}
use Rattle.oai_http.specs.Exchanges.{call_of}
use Rattle.oai_host.specs.Exchanged.{store_state}
use Rattle.oai_host.proofs.GrownLemmas.{changed_at, performed_adds}
use Rattle.oai_host.proofs.NamedRepoLemmas.{held_at, repos_set, stands_at, steps_set}
use Rattle.oai_host.proofs.AgainLemmas.{set_left_by}
use Rattle.oai_host.proofs.PlaceLemmas.{named_at, names_set}
use Rattle.oai_host.proofs.RouteLemmas.{same_front}
use Rattle.oai_host.proofs.repositories.Repositories.exchange_at.Goals as goal

pub perform_exchange-requires : goal.perform_exchange-requires
perform_exchange-requires g c =
    let p = c.requires.place in
    let there = rw (← c.self.view_is) at p.there in
    let one : c.index_mut.result.now ≡ p.one = c.index_mut.ensures.value ∙ get_or_from_slice_get c.self.inside.repos.items c.args.place p.one c.index_mut.result.now there in
    let all = g.V.Versions.lists c.args.store.now in
    rw one (record {
      owns = record {
        stands = stands_at c.args.self.now c.args.place p.one all p.there c.requires.repos.stand;
        held = λ honest. held_at c.args.self.now c.args.place p.one all p.there (c.requires.repos.held honest);
      };
    })

pub invariant_of-self : goal.invariant_of-self
invariant_of-self g c =
    let p = c.requires.place in
    let there = rw (← c.self.view_is) at p.there in
    let one : c.index_mut.result.now ≡ p.one = c.index_mut.ensures.value ∙ get_or_from_slice_get c.self.inside.repos.items c.args.place p.one c.index_mut.result.now there in
    rw (one, names_set c.self.inside.repos.items c.args.place p.one c.perform_exchange.new.repo there) c.self.invariant

pub returns-clause-steps : goal.returns-clause-steps
returns-clause-steps g c =
    let V = g.V.Versions in
    let fits : FitsSigned w64 c.args.moment = c.ranges.moment in
    let p = c.requires.place in
    let inside = c.self.inside.repos.items in
    let there = rw (← c.self.view_is) at p.there in
    let one : c.index_mut.result.now ≡ p.one = c.index_mut.ensures.value ∙ get_or_from_slice_get inside c.args.place p.one c.index_mut.result.now there in
    let repos = rw (← c.self.view_is) at c.requires.repos in
    let kept = rw one at c.perform_exchange.ensures.performed.kept in
    let performed = rw one at (simp to_z-of_z at c.perform_exchange.ensures.performed.performed) in
    let before = c.args.store.now in
    let after = c.perform_exchange.new.store in
    rw (← c.self.view_is, one)
    (steps_set (V.honest before) (call_of c.args.moment c.args.exchange.now) c.perform_exchange.result.answer (store_state V before) (store_state V after) c.args.endpoint inside c.args.place p.one c.perform_exchange.new.repo (V.lists before) (V.lists after) there repos kept
    repos.named.distinct p.path performed)

pub returns-clause-repos : goal.returns-clause-repos
returns-clause-repos g c =
    let V = g.V.Versions in
    let p = c.requires.place in
    let inside = c.self.inside.repos.items in
    let there = rw (← c.self.view_is) at p.there in
    let one : c.index_mut.result.now ≡ p.one = c.index_mut.ensures.value ∙ get_or_from_slice_get inside c.args.place p.one c.index_mut.result.now there in
    let repos = rw (← c.self.view_is) at c.requires.repos in
    let kept = rw one at c.perform_exchange.ensures.performed.kept in
    rw one (repos_set (V.honest c.args.store.now) (V.honest c.perform_exchange.new.store) inside c.args.place p.one c.perform_exchange.new.repo (V.lists c.args.store.now) (V.lists c.perform_exchange.new.store) c.perform_exchange.ensures.performed.performed.honesty.same there repos kept)

pub returns-clause-left : goal.returns-clause-left
returns-clause-left g c = λ name path honest.
    let V = g.V.Versions in
    let fits : FitsSigned w64 c.args.moment = c.ranges.moment in
    let p = c.requires.place in
    let inside = c.self.inside.repos.items in
    let there = rw (← c.self.view_is) at p.there in
    let one : c.index_mut.result.now ≡ p.one = c.index_mut.ensures.value ∙ get_or_from_slice_get inside c.args.place p.one c.index_mut.result.now there in
    let repos = rw (← c.self.view_is) at c.requires.repos in
    let kept = rw one at c.perform_exchange.ensures.performed.kept in
    let performed = rw one at (simp to_z-of_z at c.perform_exchange.ensures.performed.performed) in
    let left = rw one at (simp to_z-of_z at c.perform_exchange.ensures.left) in
    let before = c.args.store.now in
    let after = c.perform_exchange.new.store in
    let call = call_of c.args.moment c.args.exchange.now in
    let steps = steps_set (V.honest before) call c.perform_exchange.result.answer (store_state V before) (store_state V after) c.args.endpoint inside c.args.place p.one c.perform_exchange.new.repo (V.lists before) (V.lists after) there repos kept
    repos.named.distinct p.path performed in
    let named = named_at inside c.args.place p.one there repos.named.named in
    let same : name ≡ p.one.name = same_front c.args.endpoint name p.one.name (sym path ∙ p.path) in
    rw (← c.self.view_is, one, same)
    (set_left_by call c.perform_exchange.result.answer (store_state V before) (store_state V after) c.args.endpoint p.one c.perform_exchange.new.repo (V.lists before) (V.lists after) p.path
    named inside c.args.place there repos.named.distinct steps kept.config c.args.moment (option_copied c.perform_exchange.result.bytes) (left honest))

pub returns-clause-faults : goal.returns-clause-faults
returns-clause-faults g c =
    let performed = c.perform_exchange.ensures.performed.performed in record { device = performed.device; honesty = performed.honesty }

pub returns-clause-changed : goal.returns-clause-changed
returns-clause-changed g c =
    let V = g.V.Versions in
    let p = c.requires.place in
    let inside = c.self.inside.repos.items in
    let there = rw (← c.self.view_is) at p.there in
    let one : c.index_mut.result.now ≡ p.one = c.index_mut.ensures.value ∙ get_or_from_slice_get inside c.args.place p.one c.index_mut.result.now there in
    let kept = rw one at c.perform_exchange.ensures.performed.kept in
    let performed = rw one at c.perform_exchange.ensures.performed.performed in
    rw (← c.self.view_is, one)
    (changed_at inside c.args.place p.one c.perform_exchange.new.repo (V.lists c.args.store.now) (V.lists c.perform_exchange.new.store) there (performed_adds _ _ _ _ _ _ _ _ performed) kept.others)
