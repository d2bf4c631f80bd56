-- The store of all versions of all repositories' items: lists of items under numbers. This repository's own view of
-- OAI-PMH 2.0, sections 2.7 and 3.5: a list request is answered from a snapshot of the items.
use Rattle.std.specs.Prelude.{◌≡◌, ◌+◌, ◌<◌, ◌≤◌, ℕ, Bool, true, false, not, ◌==◌, if◌then◌else◌, List, [], Option, None, Some, filter, unwrap_or, Result, IfErr}
use Rattle.std.specs.List.{list_any}
use Rattle.oai_item.specs.Item.{ItemState}
use Rattle.oai_item.specs.Items.{is_at}
use Rattle.oai_item.specs.Order.{are_in_order}
use Rattle.oai_item.specs.declared.faults.Fault.{Fault}
use Rattle.oai_item.specs.declared.faults.Fault.TheVariants.{Device, Damaged, TooManyPages}
use Rattle.oai_device.specs.Device.{CountsFailures}

-- ---- the lists

-- the list of items under each number that is in use
abbrev pub VersionLists : Type 0
VersionLists = ℕ → Option (List ItemState)

-- no number is in use
abbrev pub no_lists : VersionLists
no_lists v = None

-- these lists, with that list under the number
abbrev pub with_list : ℕ → List ItemState → VersionLists → VersionLists
with_list v items lists n = if n == v then Some items else lists n

-- these lists, without that number
abbrev pub without_list : ℕ → VersionLists → VersionLists
without_list v lists n = if n == v then None else lists n

-- the list under that number, empty if it is not in use
abbrev pub list_at : VersionLists → ℕ → List ItemState
list_at lists v = unwrap_or (lists v) []

-- only the list under that number may have changed
abbrev pub ChangesOnly : ℕ → VersionLists → VersionLists → Type 0
ChangesOnly v old new = new ≡ with_list v (list_at new v) old

-- each list rises strictly by datestamp and identifier
abbrev pub AreInOrder : VersionLists → Type 0
AreInOrder lists = (v : ℕ) → are_in_order (list_at lists v) ≡ true

-- ---- the faults

-- the device is as honest as before; and Damaged comes only from one that is not
pub record IsHonest {A : Type 0} (result : Result A Fault) (old new : Bool) : Type 0 where
  pub same : new ≡ old
  pub damaged : IfErr result (λ fault. fault ≡ Damaged → old ≡ false)

-- room for that many calls is enough: TooManyPages comes only if the store was sure of room for fewer; and no more of
-- it is used up
pub record NeedsRoom {A : Type 0} (calls : ℕ) (result : Result A Fault) (old new : ℕ) : Type 0 where
  pub enough : IfErr result (λ fault. fault ≡ TooManyPages → old < calls)
  pub used : old ≤ new + calls

-- what a call of a store costs, in the store's room, its count of failures and its honesty: room for that many calls is
-- enough, failures are counted, and the device stays as honest as it was
pub record Spends {V A : Type 0} (room_of failures_of : V → ℕ) (honest_of : V → Bool) (calls : ℕ) (result : Result A Fault) (old new : V) : Type 0 where
  pub room : NeedsRoom calls result (room_of old) (room_of new)
  pub device : CountsFailures Device result (failures_of old) (failures_of new)
  pub honesty : IsHonest result (honest_of old) (honest_of new)

-- what a call that cannot fail costs: it leaves no less room, and the count of failures and the honesty unchanged
pub record Spares {V : Type 0} (room_of failures_of : V → ℕ) (honest_of : V → Bool) (old new : V) : Type 0 where
  pub room : room_of old ≤ room_of new
  pub count : failures_of new ≡ failures_of old
  pub honesty : honest_of new ≡ honest_of old

-- ---- removing several items from one list

-- the item has the datestamp and the identifier of one of these
abbrev pub is_at_one_of : List ItemState → ItemState → Bool
is_at_one_of gone item = list_any (λ (other : ItemState). is_at other.stamp other.identifier item) gone

-- the items without those
unfoldable pub without_each : List ItemState → List ItemState → List ItemState
without_each gone items = filter (λ item. not (is_at_one_of gone item)) items
