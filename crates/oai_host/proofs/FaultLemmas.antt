-- Faults that answers tell: they have their cause also where more calls came before, or come later.
use Rattle.std.proofs.Common.{◌≡◌, ◌∙◌, ◌<◌, ◌≤◌, ◌⊎◌, inl, inr, ℕ, Bool, List, [], ◌∷◌, Result, Ok, Err, sym, subst, arith}
use Rattle.std.proofs.lemmas.Bool.{cases_lt}
use Rattle.oai_item.specs.declared.faults.Fault.{Fault}
use Rattle.oai_catalogue.specs.Store.{IsHonest}
use Rattle.oai_device.specs.Device.{CountsFailures}
use Rattle.oai_item.specs.declared.faults.Fault.TheVariants.{Device}
use Rattle.oai_device.specs.declared.devices.TheConstants.{MAX_FAILURES}
use Rattle.oai_host.specs.Answers.{AreCounted, AreHonest, failure_in}
use Rattle.oai_http.specs.declared.exchanges.Answer.{Answer}

-- ---- the count of failures

-- the count rises later
pub counted_on : (r : Result (Unit {0}) Fault) (old mid new : ℕ) → CountsFailures Device r old mid → mid ≤ new → CountsFailures Device r old new
counted_on (Ok done) old mid new c later = record { count = omega (arith, c.count, later); device = tt }
counted_on (Err fault) old mid new c later = record {
  count = omega (arith, c.count, later);
  device = λ is. elim (c.device is) [
    | inl rose ↦ inl (omega (arith, rose, later))
    | inr last ↦ inr last
  ];
}

rose_since : (old mid new : ℕ) → old ≤ mid → (mid < new) ⊎ (mid ≡ MAX_FAILURES) → mid ≤ new → (old < new) ⊎ (old ≡ MAX_FAILURES)
rose_since old mid new before (inl rose) later = inl (omega (arith, before, rose))
rose_since old mid new before (inr last) later = elim (cases_lt old mid) [
  | inl less ↦ inl (omega (arith, less, later))
  | inr same ↦ let equal : old ≡ mid = omega (arith, before, same) in inr (equal ∙ last)
]

-- it rose before
pub counted_since : (r : Result (Unit {0}) Fault) (old mid new : ℕ) → old ≤ mid → CountsFailures Device r mid new → CountsFailures Device r old new
counted_since (Ok done) old mid new before c = record { count = omega (arith, before, c.count); device = tt }
counted_since (Err fault) old mid new before c =
    record { count = omega (arith, before, c.count); device = λ is. rose_since old mid new before (c.device is) c.count }

pub all_counted_since : (answers : List Answer) (old mid new : ℕ) → old ≤ mid → AreCounted answers mid new → AreCounted answers old new
all_counted_since [] old mid new before all = tt
all_counted_since (a ∷ answers) old mid new before all = (counted_since (failure_in a) old mid new before all.0, all_counted_since answers old mid new before all.1)

-- ---- honesty

pub honest_on : (r : Result (Unit {0}) Fault) (old mid new : Bool) → IsHonest r old mid → new ≡ mid → IsHonest r old new
honest_on r old mid new h later = subst (λ (b : Bool). IsHonest r old b) (sym later) h

pub honest_since : (r : Result (Unit {0}) Fault) (old mid new : Bool) → mid ≡ old → IsHonest r mid new → IsHonest r old new
honest_since r old mid new before h = subst (λ (b : Bool). IsHonest r b new) before h

pub all_honest_since : (answers : List Answer) (old mid new : Bool) → mid ≡ old → AreHonest answers mid new → AreHonest answers old new
all_honest_since [] old mid new before all = tt
all_honest_since (a ∷ answers) old mid new before all = (honest_since (failure_in a) old mid new before all.0, all_honest_since answers old mid new before all.1)
