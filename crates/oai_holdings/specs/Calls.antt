-- What a change returns, and how much room it needs, over any store: this repository's own.
use Rattle.std.specs.Prelude.{◌+◌, ℕ, Option, Result, Ok, Err}
use Rattle.oai_item.specs.Items.{item_named}
use Rattle.oai_deposit.specs.declared.changes.Change.{Change}
use Rattle.oai_deposit.specs.declared.changes.Change.TheVariants as change
use Rattle.oai_item.specs.declared.faults.Fault.{Fault}
use Rattle.oai_item.specs.declared.refusals.ChangeRefusal.{ChangeRefusal}
use Rattle.oai_item.specs.declared.refusals.Refusal.{Refusal}
use Rattle.oai_item.specs.declared.refusals.Refusal.TheVariants as refusal
use Rattle.oai_settings.specs.Config.{RepositoryConfig}
use Rattle.oai_holdings.specs.Changes.{deposit_refusal, missing_refusal, purge_refusal, set_refusal}
use Rattle.oai_holdings.specs.Holdings.{Holdings}

-- why a change is refused before anything is allocated or read: the first cause
abbrev pub early_refusal : RepositoryConfig → Holdings → Change → Option ChangeRefusal
early_refusal config holdings (change.Deposit identifier sets records) = deposit_refusal config holdings.sets sets records
early_refusal config holdings (change.Put identifier sets records) = deposit_refusal config holdings.sets sets records
early_refusal config holdings (change.Delete identifier) = missing_refusal (item_named identifier holdings.items)
early_refusal config holdings (change.Purge before) = purge_refusal config before
early_refusal config holdings (change.AddSet spec name) = set_refusal holdings.sets spec

-- for how many calls of the store a change needs room, if there are that many items: a deposit, a put and a deletion for one,
-- and a purge at most for a snapshot and the removal of each item
abbrev pub room_to_change : ℕ → Change → ℕ
room_to_change items (change.Deposit identifier sets records) = 1
room_to_change items (change.Put identifier sets records) = 1
room_to_change items (change.Delete identifier) = 1
room_to_change items (change.Purge before) = items + 1
room_to_change items (change.AddSet spec name) = 0

-- the fault of a call that may also refuse
abbrev pub fault_in : {A : Type 0} → Result A Refusal → Result (Unit {0}) Fault
fault_in (Ok _) = Ok tt
fault_in (Err (refusal.Refused cause)) = Ok tt
fault_in (Err (refusal.Fault fault)) = Err fault

-- a change was refused, which is no fault
abbrev pub OnRefused : {A : Type 0} → Result A Refusal → Type 0 → Type 0
OnRefused (Ok _) P = Unit {0}
OnRefused (Err (refusal.Refused cause)) P = P
OnRefused (Err (refusal.Fault fault)) P = Unit {0}

-- whether a change was made, or why it was not: its answer without the datestamp
abbrev pub unstamped : {A : Type 0} → Result A Refusal → Result (Unit {0}) Refusal
unstamped (Ok _) = Ok tt
unstamped (Err refusal) = Err refusal
