-- A path leads to the repository whose name it ends with, or nowhere.
use Rattle.std.proofs.Common.{◌≡◌, ◌∙◌, ℕ, ◌++◌, List, ap, true, subst, sym}
use Rattle.oai_http.specs.Targets.{front_of}
use Rattle.oai_settings.specs.Config.{is_repository_name}
use Rattle.oai_host.proofs.HostLemmas.{nowhere_behind, nowhere_else, nowhere_name, one_end, place_found}
use Rattle.oai_host.proofs.PlaceLemmas.{named_at, place_there}
use Rattle.oai_host.proofs.host.find.Goals as goal

pub returns-in_err-endpoint-clause-nowhere : goal.returns-in_err-endpoint-clause-nowhere
returns-in_err-endpoint-clause-nowhere c =
    rw c.from_residual.ensures (nowhere_else c.args.repositories.now c.args.target.now c.requires c.in_err-endpoint.ensures.none)

pub returns-in_err-name-clause-nowhere : goal.returns-in_err-name-clause-nowhere
returns-in_err-name-clause-nowhere c =
    rw c.from_residual-in_err-name.ensures
    (nowhere_behind c.args.repositories.now c.in_ok-endpoint.endpoint c.in_ok-endpoint.behind.now c.args.target.now c.requires c.in_ok-endpoint.ensures.named c.in_err-name.ensures.none)

pub returns-in_err-place-clause-nowhere : goal.returns-in_err-place-clause-nowhere
returns-in_err-place-clause-nowhere c =
    let found : c.in_ok-name.name.now ≡ c.in_ok-endpoint.behind.now = c.in_ok-name.ensures.found in
    rw c.from_residual-in_err-place.ensures (nowhere_name c.args.repositories.now c.args.target.now c.in_ok-name.name.now c.requires (sym c.place_of.ensures ∙ c.in_err-place.was)
    (λ endpoint other named is. found ∙ one_end c.in_ok-endpoint.endpoint endpoint c.in_ok-endpoint.behind.now other c.args.target.now c.in_ok-endpoint.ensures.named is))

pub returns-clause-place : goal.returns-clause-place
returns-clause-place c =
    let path = c.in_ok-endpoint.ensures.named ∙ ap (λ (name : List ℕ). front_of c.in_ok-endpoint.endpoint ++ name) (sym c.in_ok-name.ensures.found) in
    place_found c.args.repositories.now c.args.target.now c.in_ok-name.name.now c.in_ok-place.place c.in_ok-endpoint.endpoint (sym c.place_of.ensures ∙ c.in_ok-place.was) path

pub returns-clause-name : goal.returns-clause-name
returns-clause-name c =
    let there = place_there c.args.repositories.now c.in_ok-name.name.now c.in_ok-place.place (sym c.place_of.ensures ∙ c.in_ok-place.was) in
    rw c.as_bytes.ensures.value (subst (λ (name : List ℕ). is_repository_name name ≡ true) there.2 (named_at c.args.repositories.now c.in_ok-place.place there.0 there.1 c.requires))
