-- Which messages keys admit.
use Rattle.std.proofs.Common.{◌≡◌, ◌∙◌, inl, inr, ℕ, ℤ, true, false, not, List, [], ◌∷◌, ◌++◌, Some, None, refl, sym, ap}
use Rattle.std.specs.Prelude.{Contains}
use Rattle.std.specs.List.{list_all}
use Rattle.std.proofs.lemmas.Bool.{and_from, false_from_ne_true, or_from, or_left}
use Rattle.std.proofs.lemmas.List.Sums.{AllPass-from_list_all}
use Rattle.oai_http.specs.Exchanges.{Asked}
use Rattle.oai_http.specs.Targets.{endpoint_of, front_of, leads_to, path_of}
use Rattle.oai_http.specs.declared.targets.Endpoint.TheVariants.{Deposits, Requests}
use Rattle.oai_http.specs.declared.targets.Endpoint.{Endpoint}
use Rattle.oai_http.proofs.TargetLemmas.{clash, endpoint_is, endpoint_leads}
use Rattle.oai_http.specs.declared.exchanges.Answer.{Answer}
use Rattle.oai_front.specs.Performing.{Steps}
use Rattle.oai_keys.specs.Guards.{Guard, IsGuarded, barred}
use Rattle.oai_keys.specs.Keys.{has_key, is_admitted, ring_allows, bearer_key}
use Rattle.oai_keys.specs.declared.rings.Ring.{Ring}

Requests≢Deposits : Some Requests ≡ Some Deposits → ⊥
Requests≢Deposits is = absurd cc

None≢Some : (endpoint : Endpoint) → None ≡ Some endpoint → ⊥
None≢Some endpoint is = absurd cc

-- what is no deposit is allowed by each
ring_allows_elsewhere : (asked : Asked) (ring : Ring) → (endpoint_of asked.target ≡ Some Deposits → ⊥) → ring_allows asked ring ≡ true
ring_allows_elsewhere asked ring apart =
    let leads : leads_to Deposits ring.name asked.target ≡ false = false_from_ne_true _ (λ is. apart (endpoint_leads Deposits ring.name asked.target is)) in
    or_left (not (leads_to Deposits ring.name asked.target)) (has_key ring.digests (bearer_key asked.authorization)) (ap not leads)

are_allowed_elsewhere : (asked : Asked) (rings : List Ring) → (endpoint_of asked.target ≡ Some Deposits → ⊥) → list_all (ring_allows asked) rings ≡ true
are_allowed_elsewhere asked [] apart = refl
are_allowed_elsewhere asked (ring ∷ rings) apart =
    and_from (ring_allows asked ring) (list_all (ring_allows asked) rings) (ring_allows_elsewhere asked ring apart) (are_allowed_elsewhere asked rings apart)

pub admitted_elsewhere : (asked : Asked) (rings : List Ring) → (endpoint_of asked.target ≡ Some Deposits → ⊥) → is_admitted rings asked ≡ true
unfolding is_admitted
admitted_elsewhere asked rings apart = are_allowed_elsewhere asked rings apart

-- such are requests, and what leads nowhere
pub requests_elsewhere : (name target : List ℕ) → path_of target ≡ front_of Requests ++ name → endpoint_of target ≡ Some Deposits → ⊥
requests_elsewhere name target path is = Requests≢Deposits (sym (endpoint_is Requests name target path) ∙ is)

pub nowhere_elsewhere : (target : List ℕ) → endpoint_of target ≡ None → endpoint_of target ≡ Some Deposits → ⊥
nowhere_elsewhere target none is = None≢Some Deposits (sym none ∙ is)

-- ---- who is barred

-- a ring does not allow a deposit into its repository without one of its keys
not_allowed : (asked : Asked) (ring : Ring) → leads_to Deposits ring.name asked.target ≡ true → has_key ring.digests (bearer_key asked.authorization) ≡ false → ring_allows asked ring ≡ false
not_allowed asked ring leads none =
    or_from (not (leads_to Deposits ring.name asked.target)) (has_key ring.digests (bearer_key asked.authorization)) (ap not leads) none

-- one that allows nothing is enough
not_all : (asked : Asked) (ring : Ring) (rings : List Ring) → Contains rings ring → ring_allows asked ring ≡ false → list_all (ring_allows asked) rings ≡ false
not_all asked ring rings is refused = false_from_ne_true _ (λ all.
    clash (ring_allows asked ring) (sym (ap (ring_allows asked) is.2) ∙ AllPass-from_list_all (ring_allows asked) rings all is.0 ring is.1) refused)

pub not_admitted : (asked : Asked) (ring : Ring) (rings : List Ring) → Contains rings ring → leads_to Deposits ring.name asked.target ≡ true
    → has_key ring.digests (bearer_key asked.authorization) ≡ false → is_admitted rings asked ≡ false
unfolding is_admitted
not_admitted asked ring rings is leads none = not_all asked ring rings is (not_allowed asked ring leads none)

abbrev with_rings : {H : Type 0} → H → List Ring → Guard H
with_rings handler rings = record { handler = handler; rings = rings }

same_guard : {H : Type 0} (before after : Guard H) → after.rings ≡ before.rings → after.handler ≡ before.handler → after ≡ before
same_guard before after rings handler =
    ap (λ h. with_rings h after.rings) handler ∙ ap (with_rings before.handler) rings

pub barred_by : {H : Type 0} (step : Steps H) (ring : Ring) (before : Guard H) (moment : ℤ) (asked : Asked) (answer : Answer) (after : Guard H)
    → Contains before.rings ring → leads_to Deposits ring.name asked.target ≡ true → has_key ring.digests (bearer_key asked.authorization) ≡ false
    → IsGuarded step before moment asked answer after → (answer ≡ barred) × (after ≡ before)
barred_by step ring before moment asked answer after is leads none guarded = elim guarded.1 [
  | inl admitted ↦ clash (is_admitted before.rings asked) admitted.0 (not_admitted asked ring before.rings is leads none)
  | inr refused ↦ (refused.1, same_guard before after guarded.0 refused.2)
]
