-- One record more is performed again.
use Rattle.std.proofs.Common.{◌≡◌, ◌⊎◌, ◌∙◌, ℕ, ◌+◌, ◌++◌, Bool, false, IsTrue, List, [], ◌∷◌, length, refl, sym, ap}
use Rattle.std.proofs.lemmas.Bool.{false≢true}
use Rattle.std.proofs.lemmas.List.{length-append}
use Rattle.oai_journal.specs.Changes.{IsChangedAt}
use Rattle.oai_journal.specs.Records.{Entry}
use Rattle.oai_journal.specs.Recovered.{HasRecovered}
use Rattle.oai_journal.specs.Recoveries.{IsDamagedAt}
use Rattle.oai_journal.specs.declared.recovery.Recovery.{Recovery}
use Rattle.oai_journal.specs.declared.recovery.RecoveryFault.{RecoveryFault}
use Rattle.oai_journal.specs.declared.recovery.RecoveryFault.TheVariants.{Damaged, Stopped}
use Rattle.oai_durable.specs.Records.{Leaving, left_by_entry}
use Rattle.oai_durable.specs.Recovered.{HasRedone, TellsDamage, is_of_journal}
use Rattle.oai_durable.specs.declared.recovery.RecoverFault.{RecoverFault}
use Rattle.oai_durable.specs.declared.recovery.RecoverFault.TheVariants.{Journal, Performing, UnknownKind}
use Rattle.oai_durable.proofs.RecordLemmas.{redone_append}

pub next_redone : {H K D : Type 0} (kept : H → K) (is_honest : H → Bool) (leaving : Leaving K) (seen : D → List ℕ) (may_leave : D → List ℕ → Type 0)
    (begun : K) (old new : H) (before after : Recovery D) (first : Entry) (entries : List Entry) (e : Entry)
    → HasRedone kept is_honest leaving seen may_leave begun old before first entries
    → HasRecovered seen may_leave after first (entries ++ e ∷ [])
    → (IsTrue (is_honest old) → kept new ≡ left_by_entry leaving (kept old) e)
    → is_honest new ≡ is_honest old
    → HasRedone kept is_honest leaving seen may_leave begun new after first (entries ++ e ∷ [])
next_redone kept is_honest leaving seen may_leave begun old new before after first entries e had read does same = record {
  read = read;
  so = λ honest.
      let was : IsTrue (is_honest old) = sym same ∙ honest in
      does was ∙ ap (λ k. left_by_entry leaving k e) (had.so was) ∙ sym (redone_append leaving begun entries (e ∷ []));
}

pub one_more : {A : Type 0} (n : ℕ) (items : List A) (x : A) → length items ≡ n → length (items ++ x ∷ []) ≡ n + 1
one_more n items x is = length-append items (x ∷ []) ∙ ap (λ (k : ℕ). k + 1) is

-- ---- damage

-- what the journal itself reports
pub tells_own : (file : List ℕ) (own : RecoveryFault) → ((at : ℕ) → own ≡ Damaged at → IsDamagedAt file at ⊎ IsChangedAt file at) → TellsDamage file (Journal own)
tells_own file (Damaged at) its = its at refl
tells_own file (Stopped cause) its = tt

-- what is not of the journal reports none
pub tells_nothing : (file : List ℕ) (cause : RecoverFault) → is_of_journal cause ≡ false → TellsDamage file cause
tells_nothing file (Journal cause) own = absurd (false≢true (sym own))
tells_nothing file (UnknownKind number) own = tt
tells_nothing file (Performing number cause) own = tt
