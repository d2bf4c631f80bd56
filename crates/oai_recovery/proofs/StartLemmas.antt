-- A start, of a host and a journal.
use Rattle.std.proofs.Common.{◌≡◌, ℕ, Bool, IfOk, IfSome, IsTrue, List, Option, Result, Ok, Err, map, subst, sym}
use Rattle.oai_item.specs.declared.forms.Forms.{Forms}
use Rattle.oai_config.specs.Configs.{HostConfig}
use Rattle.oai_config.specs.Reading.{IsRead}
use Rattle.oai_startup.specs.Rules.{HaveRules}
use Rattle.oai_host.specs.Hosts.{HostState, Repository, begun}
use Rattle.oai_journal.specs.declared.recovery.Recovery.{Recovery}
use Rattle.oai_recovery.specs.Archives.{archived}
use Rattle.oai_recovery.specs.Starts.{HasReplayed, HasStarted}
use Rattle.oai_recovery.specs.declared.origins.Origin.{Origin}

-- equal bytes are those that are known
pub same_file : (held : Option (List ℕ)) (a b : List ℕ) → a ≡ b → IfSome held (λ (file : List ℕ). b ≡ file) → IfSome held (λ (file : List ℕ). a ≡ file)
same_file held a b same is = subst (λ (bytes : List ℕ). IfSome held (λ (file : List ℕ). bytes ≡ file)) (sym same) is

-- so where it is another file that is known
pub other_file : (held other : Option (List ℕ)) (a b : List ℕ) → held ≡ other → a ≡ b → IfSome other (λ (file : List ℕ). b ≡ file) → IfSome held (λ (file : List ℕ). a ≡ file)
other_file held other a b is same known = subst (λ (h : Option (List ℕ)). IfSome h (λ (file : List ℕ). a ≡ file)) (sym is) (same_file other a b same known)

-- a handler over honest pages is honest, and stays so
pub honest_over : {A E : Type 0} (P : Type 0) (honest : A → Bool) (first : Bool) (result : Result A E) → IfOk result (λ (a : A). honest a ≡ first) → (P → IsTrue first) → IfOk result (λ (a : A). P → IsTrue (honest a))
honest_over P honest first (Ok a) same is = λ p. subst (λ (b : Bool). IsTrue b) (sym same) (is p)
honest_over P honest first (Err e) nothing is = tt

-- the host of the configuration replayed all records
pub started_over : {D A E : Type 0} (seen : D → List ℕ) (may_leave : D → List ℕ → Type 0) (is_clean : D → Bool) (held : Origin → Option (List ℕ)) (forms : Forms) (text : List ℕ) (config : HostConfig) (host : HostState)
    (origin : A → Origin) (count : A → ℕ) (after : A → HostState) (recovery : A → Recovery D) (result : Result A E)
    → IsRead forms text (Ok config) → HaveRules config → host.repositories ≡ map begun config.repositories
    → IfOk result (λ (a : A). HasReplayed archived.kept archived.is_honest archived.leaving seen may_leave is_clean (held (origin a)) forms text host.repositories (origin a) (count a) (after a) (recovery a))
    → IfOk result (λ (a : A). HasStarted seen may_leave is_clean (held (origin a)) text (origin a) (count a) (after a) (recovery a))
started_over seen may_leave is_clean held forms text config host origin count after recovery (Ok a) read rules same replayed = record {
  forms = forms;
  config = config;
  read = read;
  rules = rules;
  replayed = subst (λ (k : List Repository). HasReplayed archived.kept archived.is_honest archived.leaving seen may_leave is_clean (held (origin a)) forms text k (origin a) (count a) (after a) (recovery a)) same replayed;
}
started_over seen may_leave is_clean held forms text config host origin count after recovery (Err e) read rules same nothing = nothing
