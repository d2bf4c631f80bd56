-- What is done to the items of a repository, in the store and in the index: this repository's own.
use Rattle.std.specs.Prelude.{◌≡◌, ◌⊎◌, ℕ, ℤ, Bool, true, false, not, List, map, Option, None, Some, Result, Ok, Err, IsSome, IsTrue, OnErr}
use Rattle.std.specs.Option.{option_or}
use Rattle.oai_deposit.specs.declared.changes.Change.{Change}
use Rattle.oai_item.specs.declared.refusals.ChangeRefusal.{ChangeRefusal}
use Rattle.oai_item.specs.Givens.{GivenRecord, kept}
use Rattle.oai_item.specs.Item.{ItemState, live_item}
use Rattle.oai_item.specs.Membership.{reduced}
use Rattle.oai_item.specs.Items.{is_named, item_named}
use Rattle.oai_catalogue.specs.Store.{VersionLists, list_at, with_list, without_list}
use Rattle.oai_catalogue.specs.declared.versions.Versions.{Ghosts}
use Rattle.oai_holdings.specs.Calls.{early_refusal}
use Rattle.oai_holdings.specs.Changes.{changed, deposit_refusal, refusal_of}
use Rattle.oai_settings.specs.Config.{RepositoryConfig}
use Rattle.oai_holdings.specs.Entries.{stamp_in}
use Rattle.oai_holdings.specs.Kept.{is_too_large}
use Rattle.oai_holdings.specs.Index.{IndexAgrees, IsIndexed, ItemIndex, holdings_of, stored_items}
use Rattle.oai_holdings.specs.Holdings.{Holdings, NamedSet}
use Rattle.oai_item.specs.declared.refusals.Refusal.{Refusal}
use Rattle.oai_item.specs.declared.refusals.Refusal.TheVariants as refusal

-- a change with that datestamp: it is made, or refused by the first cause, or it fails; the last two leave what is held
-- unchanged
abbrev pub MakesChange : RepositoryConfig → ℤ → Holdings → Change → Result (Unit {0}) Refusal → Holdings → Type 0
MakesChange config stamp old change (Ok _) new = (refusal_of config stamp old change ≡ None) × (new ≡ changed config stamp old change)
MakesChange config stamp old change (Err (refusal.Refused cause)) new = (refusal_of config stamp old change ≡ Some cause) × (new ≡ old)
MakesChange config stamp old change (Err (refusal.Fault fault)) new = (early_refusal config old change ≡ None) × (new ≡ old)

-- a deposit into these sets, with that datestamp, is refused by itself, or makes the item
abbrev pub IsDeposited : RepositoryConfig → ℤ → List NamedSet → List ℕ → List (List ℕ) → List GivenRecord → Result ItemState ChangeRefusal → Type 0
IsDeposited config stamp sets identifier specs records (Ok item) =
    (deposit_refusal config sets specs records ≡ None) × (item ≡ live_item identifier stamp (reduced specs) (map kept records))
IsDeposited config stamp sets identifier specs records (Err cause) = deposit_refusal config sets specs records ≡ Some cause

-- a part of what is held after a change that neither an early cause nor a late one refuses, that the first of them
-- refuses, or that fails if there is no early one
abbrev pub IsAfterChange : {A : Type 0} → Option ChangeRefusal → Option ChangeRefusal → A → A → Result (Unit {0}) Refusal → A → Type 0
IsAfterChange early late old made (Ok _) new = (option_or early late ≡ None) × (new ≡ made)
IsAfterChange early late old made (Err (refusal.Refused refused)) new = (option_or early late ≡ Some refused) × (new ≡ old)
IsAfterChange early late old made (Err (refusal.Fault fault)) new = (early ≡ None) × (new ≡ old)

-- a change over an honest store is made, refused or fails, and the index agrees with what is held then
pub record IsMadeIn (honest : Bool) (config : RepositoryConfig) (stamp : ℤ) (change : Change) (result : Result (Unit {0}) Refusal) (old : ItemIndex) (old_sets : List NamedSet) (before : VersionLists) (new : ItemIndex) (new_sets : List NamedSet) (after : VersionLists) : Type 0 where
  pub made : IsTrue honest → MakesChange config stamp (holdings_of old old_sets before) change result (holdings_of new new_sets after)
  pub indexed : IsTrue honest → IsIndexed config new new_sets after

-- ---- the index and the store

-- the lists after a version is changed, under its number or under one that was not in use
pub record IsMoved (v : ℕ) (before : VersionLists) (w : ℕ) (after : VersionLists) : Type 0 where
  pub lists : after ≡ with_list w (list_at after w) (without_list v before)
  pub number : (w ≡ v) ⊎ (before w ≡ None)

-- the index's version is in use, and an honest store holds the items of its entries there
pub record StandsOn {V : Type 0} (g : Ghosts V) (index : ItemIndex) (store : V) : Type 0 where
  pub stands : IsSome (g.lists store index.version)
  pub agrees : IsTrue (g.honest store) → IndexAgrees index.entries (stored_items index (g.lists store))

-- the index's version is in use, and an honest store holds the items there, which satisfy the repository's invariants
pub record HoldsItems {V : Type 0} (g : Ghosts V) (config : RepositoryConfig) (index : ItemIndex) (sets : List NamedSet) (store : V) : Type 0 where
  pub stands : IsSome (g.lists store index.version)
  pub indexed : IsTrue (g.honest store) → IsIndexed config index sets (g.lists store)

-- there is an item, and it has that identifier
abbrev pub is_one_named : List ℕ → Option ItemState → Bool
is_one_named identifier None = false
is_one_named identifier (Some item) = is_named identifier item

-- the item has an entry, and an honest store holds it, within its maximum size
pub record HoldsItem {V : Type 0} (g : Ghosts V) (index : ItemIndex) (item : ItemState) (store : V) : Type 0 where
  pub entered : IsSome (stamp_in item.identifier index.entries)
  pub small : IsTrue (g.honest store) → not (is_too_large item) ≡ true
  pub there : IsTrue (g.honest store) → item_named item.identifier (stored_items index (g.lists store)) ≡ Some item

-- the item is held, under an entry with that datestamp
pub record HoldsKnown {V : Type 0} (g : Ghosts V) (index : ItemIndex) (item : ItemState) (known : Option ℤ) (store : V) : Type 0 where
  pub held : HoldsItem g index item store
  pub entry : known ≡ stamp_in item.identifier index.entries

-- the items were made into others, over an honest store, and the index agrees with those
pub record IsMadeOn {V : Type 0} (g : Ghosts V) (make : List ItemState → List ItemState) (old : ItemIndex) (before : V) (new : ItemIndex) (after : V) : Type 0 where
  pub list : IsTrue (g.honest before) → stored_items new (g.lists after) ≡ make (stored_items old (g.lists before))
  pub agrees : IsTrue (g.honest before) → IndexAgrees new.entries (stored_items new (g.lists after))

-- the items after a change that neither an early cause nor a late one refuses, that the first of them refuses, or that
-- fails if there is no early one, over an honest store; and the index agrees with them
pub record IsDoneOn {V : Type 0} (g : Ghosts V) (early late : Option ChangeRefusal) (made : List ItemState) (result : Result (Unit {0}) Refusal) (old : ItemIndex) (before : V) (new : ItemIndex) (after : V) : Type 0 where
  pub done : IsTrue (g.honest before) → IsAfterChange early late (stored_items old (g.lists before)) made result (stored_items new (g.lists after))
  pub agrees : IsTrue (g.honest before) → IndexAgrees new.entries (stored_items new (g.lists after))

-- only the list of the index's version may have changed, which may get another number; a call that failed has left the
-- index and all lists unchanged
pub record Moves {V A E : Type 0} (g : Ghosts V) (result : Result A E) (old : ItemIndex) (before : V) (new : ItemIndex) (after : V) : Type 0 where
  pub moved : IsMoved old.version (g.lists before) new.version (g.lists after)
  pub err : OnErr result (new ≡ old)
  pub err_lists : OnErr result (g.lists after ≡ g.lists before)
