-- The directories of a store after one of them changed.
use Rattle.std.proofs.Common.{◌≡◌, ◌≢◌, ◌∙◌, ◌+◌, ◌<◌, ◌≤◌, ℕ, eqb, List, [], Option, None, Some, Result, OnErr, OnOk, unwrap_or, refl, sym, ap, subst, arith, inl, inr}
use Rattle.std.specs.Prelude.{Ok, Err, option_map}
use Rattle.std.proofs.lemmas.Bool.{cases_Bool, cases_eq, cond-false, cond-true, eqb-false, eqb-true}
use Rattle.std.proofs.lemmas.Option.{none-some, same_Some}
use Rattle.oai_catalogue.specs.Store.{ChangesOnly, VersionLists, list_at, with_list, without_list}
use Rattle.oai_catalogue.proofs.ListsLemmas.{same_lists}
use Rattle.oai_item.specs.Item.{ItemState}
use Rattle.oai_item.specs.Order.{are_in_order}
use Rattle.oai_item.specs.declared.faults.Fault.{Fault}
use Rattle.oai_pool.specs.Counts.{count_of}
use Rattle.oai_pool.specs.declared.pools.PagePool.{Ghosts}
use Rattle.oai_places.specs.Calls.{Renames}
use Rattle.oai_paged.specs.Changes.{Changes}
use Rattle.oai_places.specs.Directory.{IsDirectory, StandsIn}
use Rattle.oai_places.specs.Places.{Pages, PlaceState, items_on, named_in}
use Rattle.oai_paged.specs.Shelves.{AreShelved, Directories, directory_at, lists_on, named_at, named_by_all}
use Rattle.oai_places.proofs.NameLemmas.{named_in-nil}
use Rattle.oai_places.proofs.PlaceLemmas.{AreKept, all_placed-same, items_on-nil, items_on-same}
use Rattle.oai_paged.proofs.SlotLemmas.{sum-changed, sum-part, sum-two}

-- ---- how often all directories name a number

-- no slot is another than it was but one
abbrev pub AreBut : ℕ → Directories → Directories → Type 0
AreBut v old new = (w : ℕ) → w ≢ v → directory_at new w ≡ directory_at old w

named_by_all-changed : (n v : ℕ) (old new : Directories) → AreBut v old new
    → named_by_all new n + named_at n (directory_at old v) ≡ named_by_all old n + named_at n (directory_at new v)
unfolding named_by_all
named_by_all-changed n v old new others = sum-changed (named_at n) refl v old new others

named_own : (n v : ℕ) (slots : Directories) → named_at n (directory_at slots v) ≤ named_by_all slots n
unfolding named_by_all
named_own n v slots = sum-part (named_at n) refl v slots

named_both : (n v w : ℕ) (slots : Directories) → v ≢ w
    → named_at n (directory_at slots v) + named_at n (directory_at slots w) ≤ named_by_all slots n
unfolding named_by_all
named_both n v w slots apart = sum-two (named_at n) refl v w slots apart

-- ---- directories over pages of which those that they name are as they were

pub directory_kept : (old new : Pages) (places : List PlaceState) → IsDirectory old places → AreKept old new places → IsDirectory new places
directory_kept old new places h kept =
    record {
      placed = all_placed-same old new places h.placed kept;
      rising = ap are_in_order (items_on-same old new places h.placed kept) ∙ h.rising;
      once = h.once;
    }

pub directory_of_none : (pages : Pages) → IsDirectory pages []
directory_of_none pages = record {
  placed = tt;
  rising = ap are_in_order (items_on-nil pages);
  once = λ n. omega (arith, named_in-nil n);
}

module _ (counts : List ℕ) (pages : Pages) (slots : Directories) (h : AreShelved counts pages slots) where
  pub shelved_named : (v : ℕ) (places : List PlaceState) → directory_at slots v ≡ Some places → (n : ℕ)
      → named_in places n ≤ count_of counts n
  shelved_named v places is n =
      let own : named_at n (directory_at slots v) ≡ named_in places n = ap (named_at n) is in
      omega (arith, own, named_own n v slots, h.counted n)

-- the list that stands under a number
pub list_of : (pages : Pages) (slots : Directories) (v : ℕ) (places : List PlaceState) → directory_at slots v ≡ Some places
    → list_at (lists_on pages slots) v ≡ items_on pages places
list_of pages slots v places is = ap (λ (o : Option (List PlaceState)). unwrap_or (option_map (items_on pages) o) []) is

-- what is so whatever the result is
pub on_ok : {T E Q : Type 0} (result : Result T E) → Q → OnOk result Q
on_ok (Ok x) q = q
on_ok (Err x) q = tt

-- what one call did to the directories of a store: to the one at that number, and to the pool
pub record Turns {P : Type 0} (g : Ghosts P) (v : ℕ) (old new : Directories) (p q : P) : Type 0 where
  pub others : AreBut v old new
  pub counts : (n : ℕ) → count_of (g.counts q) n + named_at n (directory_at old v) ≡ count_of (g.counts p) n + named_at n
      (directory_at new v)
  pub kept : (n : ℕ) → named_at n (directory_at old v) < count_of (g.counts p) n → g.pages q n ≡ g.pages p n
  pub own : (places : List PlaceState) → directory_at new v ≡ Some places → IsDirectory (g.pages q) places

module _ {P : Type 0} (g : Ghosts P) (v : ℕ) (old new : Directories) (p q : P) (h : AreShelved (g.counts p) (g.pages p) old)
    (turn : Turns g v old new p q) where
  -- the pages of another directory are as they were
  kept_other : (w : ℕ) (places : List PlaceState) → w ≢ v → directory_at old w ≡ Some places → AreKept (g.pages p) (g.pages q) places
  kept_other w places apart is n named =
      let here : named_at n (directory_at old w) ≡ named_in places n = ap (named_at n) is in
      let both = named_both n w v old apart in
      let counted = h.counted n in
      turn.kept n (omega (arith, here, both, counted, named))

  turned_directory : (w : ℕ) (places : List PlaceState) → directory_at new w ≡ Some places → IsDirectory (g.pages q) places
  turned_directory w places is =
      elim (cases_eq w v) [
        | inl same ↦ turn.own places (sym (ap (directory_at new) same) ∙ is)
        | inr apart ↦
            let was : directory_at old w ≡ Some places = sym (turn.others w apart) ∙ is in
            directory_kept (g.pages p) (g.pages q) places (h.directories w places was) (kept_other w places apart was)
      ]

  pub turned_shelved : AreShelved (g.counts q) (g.pages q) new
  turned_shelved = record {
    counted = λ n. omega (arith, named_by_all-changed n v old new turn.others, h.counted n, turn.counts n);
    directories = turned_directory;
  }

  other_list : (w : ℕ) (o : Option (List PlaceState)) → w ≢ v → directory_at old w ≡ o
      → option_map (items_on (g.pages q)) o ≡ option_map (items_on (g.pages p)) o
  other_list w None apart is = refl
  other_list w (Some places) apart is = ap Some (items_on-same (g.pages p) (g.pages q) places (h.directories w places is).placed
      (kept_other w places apart is))

  list_beside : (w : ℕ) → w ≢ v → lists_on (g.pages q) new w ≡ lists_on (g.pages p) old w
  list_beside w apart =
      ap (option_map (items_on (g.pages q))) (turn.others w apart) ∙ other_list w (directory_at old w) apart refl

  pub turned_lists : (after : List PlaceState) → directory_at new v ≡ Some after
      → lists_on (g.pages q) new ≡ with_list v (items_on (g.pages q) after) (lists_on (g.pages p) old)
  turned_lists after is =
      same_lists (lists_on (g.pages q) new) (with_list v (items_on (g.pages q) after) (lists_on (g.pages p) old))
      (λ w. elim (cases_Bool (eqb w v)) [
        | inl same ↦
            ap (option_map (items_on (g.pages q))) (ap (directory_at new) (eqb-true w v same) ∙ is)
            ∙ sym (cond-true (eqb w v) (Some (items_on (g.pages q) after)) (lists_on (g.pages p) old w) same)
        | inr other ↦
            list_beside w (eqb-false w v other)
            ∙ sym (cond-false (eqb w v) (Some (items_on (g.pages q) after)) (lists_on (g.pages p) old w) other)
      ])

  pub removed_lists : directory_at new v ≡ None → lists_on (g.pages q) new ≡ without_list v (lists_on (g.pages p) old)
  removed_lists is =
      same_lists (lists_on (g.pages q) new) (without_list v (lists_on (g.pages p) old))
      (λ w. elim (cases_Bool (eqb w v)) [
        | inl same ↦
            ap (option_map (items_on (g.pages q))) (ap (directory_at new) (eqb-true w v same) ∙ is)
            ∙ sym (cond-true (eqb w v) None (lists_on (g.pages p) old w) same)
        | inr other ↦
            list_beside w (eqb-false w v other)
            ∙ sym (cond-false (eqb w v) None (lists_on (g.pages p) old w) other)
      ])

-- ---- the ways in which a directory changes

module _ {P : Type 0} (g : Ghosts P) where
  -- one more, under a number that was not in use
  pub turn_put_in : (old new : Directories) (v : ℕ) (places : List PlaceState) (p q : P) → AreBut v old new
      → directory_at old v ≡ None → directory_at new v ≡ Some places
      → Renames g [] places p q → IsDirectory (g.pages q) places → Turns g v old new p q
  turn_put_in old new v places p q others vacant now names own =
      record {
        others = others;
        counts = λ n.
            let before : named_at n (directory_at old v) ≡ 0 = ap (named_at n) vacant in
            let after : named_at n (directory_at new v) ≡ named_in places n = ap (named_at n) now in
            omega (arith, before, after, names.counts n, named_in-nil n);
        kept = λ n below. names.kept n (let none = named_in-nil n in omega (arith, none, below));
        own = λ other is. subst (IsDirectory (g.pages q)) (same_Some places other (sym now ∙ is)) own;
      }

  -- another in the place of one
  pub turn_changed : (old new : Directories) (v : ℕ) (before after : List PlaceState) (p q : P) → AreBut v old new
      → directory_at old v ≡ Some before → directory_at new v ≡ Some after
      → Renames g before after p q → IsDirectory (g.pages q) after → Turns g v old new p q
  turn_changed old new v before after p q others was now names own =
      record {
        others = others;
        counts = λ n.
            let named_before : named_at n (directory_at old v) ≡ named_in before n = ap (named_at n) was in
            let named_after : named_at n (directory_at new v) ≡ named_in after n = ap (named_at n) now in
            omega (arith, named_before, named_after, names.counts n);
        kept = λ n below.
            let named_before : named_at n (directory_at old v) ≡ named_in before n = ap (named_at n) was in
            names.kept n (omega (arith, named_before, below));
        own = λ other is. subst (IsDirectory (g.pages q)) (same_Some after other (sym now ∙ is)) own;
      }

  -- one less
  pub turn_taken_out : (old new : Directories) (v : ℕ) (before : List PlaceState) (p q : P) → AreBut v old new
      → directory_at old v ≡ Some before → directory_at new v ≡ None
      → Renames g before [] p q → Turns g v old new p q
  turn_taken_out old new v before p q others was gone names =
      record {
        others = others;
        counts = λ n.
            let named_before : named_at n (directory_at old v) ≡ named_in before n = ap (named_at n) was in
            let named_after : named_at n (directory_at new v) ≡ 0 = ap (named_at n) gone in
            omega (arith, named_before, named_after, names.counts n, named_in-nil n);
        kept = λ n below.
            let named_before : named_at n (directory_at old v) ≡ named_in before n = ap (named_at n) was in
            names.kept n (omega (arith, named_before, below));
        own = λ other is. absurd (none-some other (sym gone ∙ is));
      }

  -- the same one, over pages of which those that are named are as they were
  pub turn_kept : (old new : Directories) (v : ℕ) (before after : List PlaceState) (p q : P) → AreShelved (g.counts p) (g.pages p) old
      → AreBut v old new → directory_at old v ≡ Some before
      → directory_at new v ≡ Some after → after ≡ before → Renames g [] [] p q → Turns g v old new p q
  turn_kept old new v before after p q h others was now same names =
      let kept : AreKept (g.pages p) (g.pages q) before = λ n named. names.kept n
      (let none = named_in-nil n in let most = shelved_named (g.counts p) (g.pages p) old h v before was n in omega
      (arith, none, most, named)) in
      let own : IsDirectory (g.pages q) before = directory_kept (g.pages p) (g.pages q) before (h.directories v before was) kept in
      let still : directory_at new v ≡ Some before = now ∙ ap Some same in
      record {
        others = others;
        counts = λ n.
            let named_before : named_at n (directory_at old v) ≡ named_in before n = ap (named_at n) was in
            let named_after : named_at n (directory_at new v) ≡ named_in before n = ap (named_at n) still in
            omega (arith, named_before, named_after, names.counts n, named_in-nil n);
        kept = λ n below. names.kept n (let none = named_in-nil n in omega (arith, none, below));
        own = λ other is. subst (IsDirectory (g.pages q)) (same_Some before other (sym still ∙ is)) own;
      }

  -- a directory stands in the pool
  pub shelved_stands : (slots : Directories) (v : ℕ) (places : List PlaceState) (p : P) → AreShelved (g.counts p) (g.pages p) slots
      → directory_at slots v ≡ Some places → StandsIn g p places
  shelved_stands slots v places p h is = record {
    directory = h.directories v places is;
    named = shelved_named (g.counts p) (g.pages p) slots h v places is;
  }

module _ {P : Type 0} (g : Ghosts P) where
  -- ---- a directory whose pages are named once more, under a number that was not in use

  still_kept : (old : Directories) (v : ℕ) (places : List PlaceState) (p q : P) → AreShelved (g.counts p) (g.pages p) old
      → directory_at old v ≡ Some places → Renames g [] places p q
      → AreKept (g.pages p) (g.pages q) places
  still_kept old v places p q h is names n named =
      names.kept n (let none = named_in-nil n in let most = shelved_named (g.counts p) (g.pages p) old h v places is n in omega
      (arith, none, most, named))

  pub turn_copied : (old new : Directories) (v w : ℕ) (places : List PlaceState) (p q : P)
      → AreShelved (g.counts p) (g.pages p) old → AreBut w old new
      → directory_at old v ≡ Some places → directory_at old w ≡ None → directory_at new w ≡ Some places → Renames g [] places p q
      → Turns g w old new p q
  turn_copied old new v w places p q h others stands vacant now names =
      turn_put_in g old new w places p q others vacant now names
      (directory_kept (g.pages p) (g.pages q) places (h.directories v places stands) (still_kept old v places p q h stands names))

  pub copied_lists : (old new : Directories) (v w : ℕ) (places : List PlaceState) (p q : P)
      → AreShelved (g.counts p) (g.pages p) old → AreBut w old new
      → directory_at old v ≡ Some places → directory_at old w ≡ None → directory_at new w ≡ Some places → Renames g [] places p q
      → lists_on (g.pages q) new ≡ with_list w (list_at (lists_on (g.pages p) old) v) (lists_on (g.pages p) old)
  copied_lists old new v w places p q h others stands vacant now names =
      let items : items_on (g.pages q) places ≡ list_at (lists_on (g.pages p) old) v
      = items_on-same (g.pages p) (g.pages q) places (h.directories v places stands).placed (still_kept old v places p q h stands names)
      ∙ sym (list_of (g.pages p) old v places stands) in
      turned_lists g w old new p q h (turn_copied old new v w places p q h others stands vacant now names) places now
      ∙ ap (λ (own : List ItemState). with_list w own (lists_on (g.pages p) old)) items

-- ---- a directory that is as it was

module _ {P : Type 0} (g : Ghosts P) (v : ℕ) (old new : Directories) (before after : List PlaceState) (p q : P)
    (h : AreShelved (g.counts p) (g.pages p) old) (others : AreBut v old new)
    (was : directory_at old v ≡ Some before) (now : directory_at new v ≡ Some after) where
  -- where nothing was changed
  unchanged_list : after ≡ before → Renames g [] [] p q → (w : ℕ) (o : Option (List PlaceState)) → directory_at old w ≡ o
      → option_map (items_on (g.pages q)) o ≡ option_map (items_on (g.pages p)) o
  unchanged_list same names w None is = refl
  unchanged_list same names w (Some places) is =
      ap Some (items_on-same (g.pages p) (g.pages q) places (h.directories w places is).placed
      (λ n named. names.kept n (let none = named_in-nil n in let most = shelved_named (g.counts p) (g.pages p) old h w places is n in omega
      (arith, none, most, named))))

  unchanged_slot : after ≡ before → (w : ℕ) → directory_at new w ≡ directory_at old w
  unchanged_slot same w =
      elim (cases_eq w v) [
        | inl here ↦ ap (directory_at new) here ∙ now ∙ ap Some same ∙ sym was ∙ ap (directory_at old) (sym here)
        | inr apart ↦ others w apart
      ]

  pub unchanged_lists : after ≡ before → Renames g [] [] p q → lists_on (g.pages q) new ≡ lists_on (g.pages p) old
  unchanged_lists same names =
      same_lists (lists_on (g.pages q) new) (lists_on (g.pages p) old)
      (λ w. ap (option_map (items_on (g.pages q))) (unchanged_slot same w) ∙ unchanged_list same names w (directory_at old w) refl)

-- ---- what a change of one directory is to the store

-- of the lists, where it ended well, that one alone may be another; where not, none is
pub record AreTurned {A : Type 0} (v : ℕ) (result : Result A Fault) (old new : VersionLists) : Type 0 where
  pub ok : OnOk result (ChangesOnly v old new)
  pub err : OnErr result (new ≡ old)

module _ {P A : Type 0} (g : Ghosts P) (numbers v : ℕ) (old new : Directories) (before after : List PlaceState) (p q : P)
    (h : AreShelved (g.counts p) (g.pages p) old) (others : AreBut v old new)
    (was : directory_at old v ≡ Some before) (now : directory_at new v ≡ Some after) where
  change_turns : (result : Result A Fault) → Changes g numbers result before after p q → Turns g v old new p q
  change_turns (Ok x) changes = turn_changed g old new v before after p q others was now changes.names changes.directory
  change_turns (Err x) changes = turn_kept g old new v before after p q h others was now changes.err.places changes.err.names

  pub change_shelved : (result : Result A Fault) → Changes g numbers result before after p q → AreShelved (g.counts q) (g.pages q) new
  change_shelved result changes = turned_shelved g v old new p q h (change_turns result changes)

  change_lists : (result : Result A Fault) → Changes g numbers result before after p q
      → lists_on (g.pages q) new ≡ with_list v (items_on (g.pages q) after) (lists_on (g.pages p) old)
  change_lists result changes = turned_lists g v old new p q h (change_turns result changes) after now

  changes_only : (result : Result A Fault) → Changes g numbers result before after p q
      → ChangesOnly v (lists_on (g.pages p) old) (lists_on (g.pages q) new)
  changes_only result changes =
      subst (λ (items : List ItemState). lists_on (g.pages q) new ≡ with_list v items (lists_on (g.pages p) old))
      (sym (list_of (g.pages q) new v after now)) (change_lists result changes)

  pub change_turned : (result : Result A Fault) → Changes g numbers result before after p q
      → AreTurned v result (lists_on (g.pages p) old) (lists_on (g.pages q) new)
  change_turned (Ok x) changes = record {
    ok = changes_only (Ok x) changes;
    err = tt;
  }
  change_turned (Err x) changes = record {
    ok = tt;
    err = unchanged_lists g v old new before after p q h others was now changes.err.places changes.err.names;
  }
