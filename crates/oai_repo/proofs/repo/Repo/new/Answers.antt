-- A repository without items keeps all that it has to, and its clock begins in the years of its configuration.
use Rattle.std.proofs.Common.{◌≡◌, arith, FitsSigned, w64, ◌∙◌, ap, refl, [], ℕ}
use Rattle.std.proofs.lemmas.Int.{to_z-of_z}
use Rattle.oai_repo.proofs.ClockLemmas.{in_years-config}
use Rattle.oai_repo.proofs.NewLemmas.{is_new}
use Rattle.oai_repo.proofs.repo.Repo.new.Goals as goal

pub invariant_of-result : goal.invariant_of-result
invariant_of-result g c =
    let fits : FitsSigned w64 c.earliest.result = record { sfits = c.earliest.type_inv } in
    let clock : c.start-clock.result ≡ c.args.config.earliest = (simp to_z-of_z at c.start-clock.ensures) ∙ c.earliest.ensures.earliest in
    let limit : c.new-lists.result ≡ record { limit = c.args.config.lists; next = 1; lists = [] } = c.new-lists.ensures ∙ ap (λ (n : ℕ). record { limit = n; next = 1; lists = [] }) c.lists.ensures.lists in
    rw (clock, limit, c.new.ensures) (record { dated = in_years-config c.args.config c.earliest.ensures.valid; few = omega arith; open_lists = record { limit = refl; ends = refl; known = refl } })

pub returns-clause-new : goal.returns-clause-new
returns-clause-new g c =
    let fits : FitsSigned w64 c.earliest.result = record { sfits = c.earliest.type_inv } in
    let clock : c.start-clock.result ≡ c.args.config.earliest = (simp to_z-of_z at c.start-clock.ensures) ∙ c.earliest.ensures.earliest in
    let limit : c.new-lists.result ≡ record { limit = c.args.config.lists; next = 1; lists = [] } = c.new-lists.ensures ∙ ap (λ (n : ℕ). record { limit = n; next = 1; lists = [] }) c.lists.ensures.lists in
    is_new c.args.config c.start-clock.result c.new.result c.new-2.result c.new-lists.result c.in_ok-version.version (g.V.Versions.lists c.args.store.now) (g.V.Versions.lists c.fresh.new.self)
    clock c.new.ensures c.new-2.ensures limit c.in_ok-version.ensures.unused c.in_ok-version.ensures.ok
