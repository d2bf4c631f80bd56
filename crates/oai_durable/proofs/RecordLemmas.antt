-- Records that are performed again.
use Rattle.std.proofs.Common.{◌≡◌, ◌∙◌, ℕ, ℤ, ◌++◌, List, [], ◌∷◌, Option, None, Some, refl, sym, ap}
use Rattle.oai_replay.specs.Redone.{call_again, left_again, own_call}
use Rattle.oai_replay.specs.declared.replays.Performed.{Performed}
use Rattle.oai_http.specs.declared.targets.Endpoint.{Endpoint}
use Rattle.oai_http.specs.declared.targets.Endpoint.TheVariants.{Deposits, Requests}
use Rattle.oai_journal.specs.Records.{Entry}
use Rattle.oai_durable.specs.Records.{Leaving, call_in, endpoint_of_kind, kind_of, left_as, left_by_entry, log_entries_of, log_entry_of, part_kind, redone_all}

-- the kind of a record tells what it was performed at
pub kind_endpoint : (endpoint : Endpoint) (bytes : List ℕ) → endpoint_of_kind (kind_of endpoint bytes) ≡ endpoint
kind_endpoint Deposits bytes = refl
kind_endpoint Requests [] = refl
kind_endpoint Requests (b ∷ bytes) = refl

pub redone_append : {K : Type 0} (leaving : Leaving K) (kept : K) (entries others : List Entry)
    → redone_all leaving kept (entries ++ others) ≡ redone_all leaving (redone_all leaving kept entries) others
redone_append leaving kept [] others = refl
redone_append leaving kept (entry ∷ entries) others = redone_append leaving (left_by_entry leaving kept entry) entries others

pub entry_again : (moment : ℤ) (p : Performed) → call_in (log_entry_of moment p) ≡ call_again moment p
entry_again moment p = ap (λ (e : Endpoint). own_call moment e p.name.now p.bytes.now) (kind_endpoint p.endpoint p.bytes.now)

-- the record of an exchange is of no part
pub no_part : (endpoint : Endpoint) (bytes : List ℕ) → part_kind (kind_of endpoint bytes) ≡ None
no_part Deposits bytes = refl
no_part Requests [] = refl
no_part Requests (b ∷ bytes) = refl

-- what was performed leaves what its record leaves
pub left_redone : {K : Type 0} (leaving : Leaving K) (kept : K) (moment : ℤ) (performed : Option Performed)
    → left_again leaving.redone kept moment performed ≡ redone_all leaving kept (log_entries_of moment performed)
left_redone leaving kept moment None = refl
left_redone leaving kept moment (Some p) =
    ap (leaving.redone kept) (sym (entry_again moment p)) ∙ sym (ap (left_as leaving kept (log_entry_of moment p)) (no_part p.endpoint p.bytes.now))
