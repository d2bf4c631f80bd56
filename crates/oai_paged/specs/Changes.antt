-- What a call does to a directory, and to the pages of its leaves.
use Rattle.std.specs.Prelude.{◌≡◌, ◌+◌, ◌<◌, ◌≤◌, ℕ, ℤ, Bool, true, List, [], ◌++◌, length, take, drop, is_some, IfNone, IfOk, IfSome, IsTrue, Option, Result, OnErr, OnOk, Vec, vec_capacity, vec_len}
use Rattle.oai_catalogue.specs.Store.{Spends}
use Rattle.oai_item.specs.Item.{ItemState}
use Rattle.oai_item.specs.Items.{item_at, with_item, without_at}
use Rattle.oai_item.specs.Order.{are_in_order}
use Rattle.oai_item.specs.declared.faults.Fault.{Fault}
use Rattle.oai_pool.specs.Counts.{count_of}
use Rattle.oai_pool.specs.declared.pools.PagePool.{Ghosts}
use Rattle.oai_places.specs.Directory.{IsDirectory, StandsIn}
use Rattle.oai_places.specs.Pages.{FitAlone, between, fit_one}
use Rattle.oai_places.specs.Places.{IsSoundPlace, PlaceState, items_on, named_in}
use Rattle.oai_places.specs.Sums.{AreGroups, GroupState}
use Rattle.oai_paged.specs.declared.changes.Changed.{Changed}
use Rattle.oai_places.specs.declared.sizes.TheConstants.{MAX_OVERFLOW_PAGES}
use Rattle.std.specs.List.{AllByRecursion}
use Rattle.std.specs.declared.alloc.Global.{Global}
use Rattle.oai_places.specs.Calls.{Renames}

-- it leaves a directory and its pages unchanged
pub record ChangesNothing {P : Type 0} (g : Ghosts P) (before after : List PlaceState) (old new : P) : Type 0 where
  pub places : after ≡ before
  pub names : Renames g [] [] old new

-- it changes a directory, by at most that many new pages; if it fails, directory and pages are unchanged
pub record Changes {P A : Type 0} (g : Ghosts P) (numbers : ℕ) (result : Result A Fault) (before after : List PlaceState) (old new : P) : Type 0 where
  pub directory : OnOk result (IsDirectory (g.pages new) after)
  pub names : OnOk result (Renames g before after old new)
  pub err : OnErr result (ChangesNothing g before after old new)
  pub pool : Spends g.room g.failures g.honest numbers result old new

-- it adds the pages of entries: at most three and the overflow pages of one item, and at most one if all of them fit on
-- one
pub record AddsPages {P A : Type 0} (g : Ghosts P) (entries : List ItemState) (result : Result A Fault) (old new : P) : Type 0 where
  pub pool : Spends g.room g.failures g.honest (3 + MAX_OVERFLOW_PAGES) result old new
  pub few : fit_one entries ≡ true → Spends g.room g.failures g.honest 1 result old new

-- new pages were added for the items, and these leaves reference them
pub record Adds {P : Type 0} (g : Ghosts P) (added : List ItemState) (places : List PlaceState) (old new : P) : Type 0 where
  pub placed : AllByRecursion (IsSoundPlace (g.pages new)) places
  pub items : items_on (g.pages new) places ≡ added
  pub once : (n : ℕ) → named_in places n ≤ 1
  pub fresh : (n : ℕ) → 0 < count_of (g.counts old) n → named_in places n ≡ 0
  pub names : Renames g [] places old new

-- that many leaves from `at` on were swapped in for those of a directory that are gone, whose pages are still
-- referenced; swapped back, these make it what it was
pub record Stages {P : Type 0} (g : Ghosts P) (at len : ℕ) (gone before after : List PlaceState) (old new : P) : Type 0 where
  pub stands : StandsIn g new after
  pub back : take at after ++ (gone ++ drop (at + len) after) ≡ before
  pub names : Renames g [] (take len (drop at after)) old new
  pub traded : (n : ℕ) → named_in after n + named_in gone n ≡ named_in before n + named_in (take len (drop at after)) n
  pub within : (n : ℕ) → named_in gone n ≤ named_in before n

-- the leaves that are gone can be swapped back for the new ones, that many from `at` on of those that are there now:
-- each of the two has the capacity for the other's
pub record HasWayBack (at len stand room gone gone_room : ℕ) : Type 0 where
  pub within : at + len ≤ stand
  pub there : stand + gone ≤ room
  pub back : gone + len ≤ gone_room

-- the leaves and the others have at least the capacity that they had
pub record KeepCapacity (leaves_before others_before leaves_after others_after : Vec PlaceState Global) : Type 0 where
  pub leaves : vec_capacity leaves_before ≤ vec_capacity leaves_after
  pub others : vec_capacity others_before ≤ vec_capacity others_after

-- the items from one position up to another one, of items in order, can be put on pages: they fit on one, or are one
pub record IsRange (from to : ℕ) (items : List ItemState) : Type 0 where
  pub order : from ≤ to
  pub within : to ≤ length items
  pub alone : FitAlone (between from to items)
  pub rising : are_in_order items ≡ true

-- the items from one position up to another one are some, and can be put on pages: they fit on one, or are one
pub record HasPages (from to : ℕ) (items : List ItemState) : Type 0 where
  pub order : from < to
  pub within : to ≤ length items
  pub alone : FitAlone (between from to items)

-- they are the leaves of these items, in place of that many from `at` on
pub record IsDirectoryChanged {P : Type 0} (g : Ghosts P) (items : List ItemState) (at len new_at new_len : ℕ) (gone before after : List PlaceState) (old new : P) : Type 0 where
  pub place : new_at ≡ at
  pub taken : gone ≡ take len (drop at before)
  pub exchanged : after ≡ take at before ++ (take new_len (drop at after) ++ drop (at + len) before)
  pub added : Adds g items (take new_len (drop new_at after)) old new
  pub staged : Stages g new_at new_len gone before after old new

-- the item with a datestamp and identifier was removed, if there was one
pub record IsRemoved (stamp : ℤ) (identifier : List ℕ) (found : Bool) (old new : List ItemState) : Type 0 where
  pub was : found ≡ is_some (item_at stamp identifier old)
  pub left : new ≡ without_at stamp identifier old

-- these items are put in place of a run of leaves, that many from `at` on, by at most as many new pages as they may
-- need, and the pages of the leaves that are gone are still referenced; if it fails, directory and pages are unchanged.
-- The change can be undone, the leaves lose no capacity, and the statistics of groups are those of the new ones
pub record PutsRun {P : Type 0} (g : Ghosts P) (items : List ItemState) (at len : ℕ) (result : Result Changed Fault) (before after : Vec PlaceState Global) (known known_after : List GroupState) (old new : P) : Type 0 where
  pub ok : IfOk result (λ changed. IsDirectoryChanged g items at len changed.at changed.len changed.gone.items before.items after.items old new)
  pub back : IfOk result (λ changed. HasWayBack changed.at changed.len (vec_len after) (vec_capacity after) (vec_len changed.gone) (vec_capacity changed.gone))
  pub err : OnErr result (ChangesNothing g before.items after.items old new)
  pub capacity : vec_capacity before ≤ vec_capacity after
  pub pool : AddsPages g items result old new
  pub groups : AreGroups before.items known → AreGroups after.items known_after

-- the item is inserted, by at most as many new pages as it may need, and the pages of the leaves that are gone are
-- still referenced; if it fails, directory and pages are unchanged. The leaves lose no capacity, and the statistics of
-- groups are those of the new ones
pub record PutsItem {P : Type 0} (g : Ghosts P) (item : ItemState) (result : Result Changed Fault) (before after : Vec PlaceState Global) (known known_after : List GroupState) (old new : P) : Type 0 where
  pub list : OnOk result (IsTrue (g.honest old) → items_on (g.pages new) after.items ≡ with_item item (items_on (g.pages old) before.items))
  pub staged : IfOk result (λ changed. Stages g changed.at changed.len changed.gone.items before.items after.items old new)
  pub err : OnErr result (ChangesNothing g before.items after.items old new)
  pub capacity : vec_capacity before ≤ vec_capacity after
  pub pool : Spends g.room g.failures g.honest (3 + MAX_OVERFLOW_PAGES) result old new
  pub groups : AreGroups before.items known → AreGroups after.items known_after

-- the item with a datestamp and identifier is removed, if there is one, by at most one new page, and the pages that it
-- was on are still referenced; if there is none or it fails, directory and pages are unchanged. The change can be
-- undone, and the statistics of groups are those of the new leaves
pub record TakesItemOut {P : Type 0} (g : Ghosts P) (stamp : ℤ) (identifier : List ℕ) (result : Result (Option Changed) Fault) (before after : Vec PlaceState Global) (known known_after : List GroupState) (old new : P) : Type 0 where
  pub list : IfOk result (λ changed. IsTrue (g.honest old) → IsRemoved stamp identifier (is_some changed) (items_on (g.pages old) before.items) (items_on (g.pages new) after.items))
  pub staged : IfOk result (λ changed. IfSome changed (λ some. Stages g some.at some.len some.gone.items before.items after.items old new))
  pub back : IfOk result (λ changed. IfSome changed (λ some. HasWayBack some.at some.len (vec_len after) (vec_capacity after) (vec_len some.gone) (vec_capacity some.gone)))
  pub none : IfOk result (λ changed. IfNone changed (ChangesNothing g before.items after.items old new))
  pub err : OnErr result (ChangesNothing g before.items after.items old new)
  pub pool : Spends g.room g.failures g.honest 1 result old new
  pub groups : AreGroups before.items known → AreGroups after.items known_after
