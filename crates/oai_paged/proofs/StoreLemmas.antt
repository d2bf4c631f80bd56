-- What the calls of a store do to its versions and to the directories that they name.
use Rattle.std.proofs.Common.{◌≡◌, ◌≢◌, ◌∙◌, ◌+◌, ◌<◌, ℕ, List, [], Option, None, Some, IsSome, Result, OnOk, IfOk, refl, sym, ap, subst, arith, inl, inr}
use Rattle.std.specs.Prelude.{Ok, Err, unwrap_or, option_map, slice_set, length}
use Rattle.std.proofs.lemmas.Bool.{cases_lt}
use Rattle.std.proofs.lemmas.List.{get_or-set_other, get_or-set_same, get_or_past}
use Rattle.std.proofs.lemmas.Option.{none-some}
use Rattle.oai_catalogue.specs.Store.{VersionLists, list_at, with_list, without_list}
use Rattle.oai_item.specs.Item.{ItemState}
use Rattle.oai_item.specs.declared.faults.Fault.{Fault}
use Rattle.oai_pool.specs.Counts.{count_of}
use Rattle.oai_pool.specs.declared.pools.PagePool.{Ghosts}
use Rattle.oai_places.specs.Calls.{ReadsPages, Renames}
use Rattle.oai_paged.specs.Changes.{Changes}
use Rattle.oai_places.specs.Directory.{StandsIn}
use Rattle.oai_places.specs.Places.{Pages, PlaceState, items_on, named_in}
use Rattle.oai_paged.specs.Shelves.{AreShelved, directory_at, lists_on}
use Rattle.oai_paged.specs.Versions.{AreShared, DirectoryNumbers, DirectoryState, Shelves, directories_named, directory_number_at, places_in, places_of, references_to, shelf_at, shelf_count}
use Rattle.oai_places.proofs.PlaceLemmas.{items_on-nil}
use Rattle.oai_places.proofs.RecountLemmas.{recounts_none, renames_none}
use Rattle.oai_paged.proofs.ShelfLemmas.{AreBut, AreTurned, Turns, change_shelved, change_turned, copied_lists, directory_of_none, list_of, removed_lists, shelved_stands, turn_copied, turn_kept, turn_put_in, turn_taken_out, turned_lists, turned_shelved, unchanged_lists}
use Rattle.oai_paged.proofs.VersionLemmas.{NameBut, StandBut, lists-named, lists_fresh, lists_less, lists_more, lists_moved, lists_named, lists_none, named_list, named_turned, places-at, places-some, shared_changed, shared_less, shared_more, shared_moved, shared_none, told_of, vacant_unnamed}

places_but : (d : ℕ) (before after : Shelves) → StandBut d before after → AreBut d (places_of before) (places_of after)
places_but d before after stand e apart = places-at after e ∙ ap places_in (stand e apart) ∙ sym (places-at before e)

places_none : (shelves : Shelves) (d : ℕ) → shelf_at shelves d ≡ None → directory_at (places_of shelves) d ≡ None
places_none shelves d is = places-at shelves d ∙ ap places_in is

-- no version of no directory
pub shared_empty : AreShared [] []
unfolding references_to
shared_empty = record {
  counted = λ d. refl;
  named = λ d directory is. absurd (none-some directory is);
}

-- ---- one directory in the place of another

shelf_within : (shelves : Shelves) (d : ℕ) (directory : DirectoryState) → shelf_at shelves d ≡ Some directory → d < length shelves
shelf_within shelves d directory was =
    elim (cases_lt d (length shelves)) [
      | inl within ↦ within
      | inr past ↦ absurd (none-some directory (sym (get_or_past shelves d None past) ∙ was))
    ]

pub set_but : (shelves : Shelves) (d : ℕ) (directory : DirectoryState) → StandBut d shelves (slice_set shelves d (Some directory))
set_but shelves d directory e apart = get_or-set_other shelves d e (Some directory) None apart

pub set_stands : (shelves : Shelves) (d : ℕ) (was directory : DirectoryState) → shelf_at shelves d ≡ Some was
    → shelf_at (slice_set shelves d (Some directory)) d ≡ Some directory
set_stands shelves d was directory stood = get_or-set_same shelves d (Some directory) None (shelf_within shelves d was stood)

-- ---- what is so of a result, by what is so of another list

pub on_ok_after : {A E P Q : Type 0} (result : Result A E) → OnOk result P → (P → Q) → OnOk result Q
on_ok_after (Ok x) p f = f p
on_ok_after (Err e) p f = tt

pub if_ok_after : {A E : Type 0} {P Q : A → Type 0} (result : Result A E) → IfOk result P → ((x : A) → P x → Q x) → IfOk result Q
if_ok_after (Ok x) p f = f x p
if_ok_after (Err e) p f = tt

-- ---- the lists of all versions

abbrev pub lists_by : Pages → DirectoryNumbers → Shelves → VersionLists
lists_by pages versions shelves = lists_on pages (directories_named versions shelves)

pub list_by : (pages : Pages) (versions : DirectoryNumbers) (shelves : Shelves) (v d : ℕ) (directory : DirectoryState) → directory_number_at versions v ≡ Some d
    → shelf_at shelves d ≡ Some directory → list_at (lists_by pages versions shelves) v ≡ items_on pages directory.places
list_by pages versions shelves v d directory named is =
    ap (λ (lists : VersionLists). list_at lists v) (lists-named pages versions shelves)
    ∙ ap (λ (o : Option (List ItemState)). unwrap_or o []) (named_list (lists_on pages (places_of shelves)) versions v d named)
    ∙ list_of pages (places_of shelves) d directory.places (places-some shelves d directory is)

module _ {P : Type 0} (g : Ghosts P) where
  pub store_stands : (shelves : Shelves) (d : ℕ) (directory : DirectoryState) (p : P) → AreShelved (g.counts p) (g.pages p) (places_of shelves)
      → shelf_at shelves d ≡ Some directory → StandsIn g p directory.places
  store_stands shelves d directory p h is = shelved_stands g (places_of shelves) d directory.places p h (places-some shelves d directory is)

  -- these versions and directories are those of a store, with these lists
  pub record AreStored (versions : DirectoryNumbers) (shelves : Shelves) (p : P) (stored : VersionLists) : Type 0 where
    pub shelved : AreShelved (g.counts p) (g.pages p) (places_of shelves)
    pub shared : AreShared versions shelves
    pub lists : lists_by (g.pages p) versions shelves ≡ stored

  -- ---- the same directories, over pages of which those that are named are as they were
  module _ (before after : Shelves) (d : ℕ) (was is : DirectoryState) (p q : P) (h : AreShelved (g.counts p) (g.pages p) (places_of before))
      (stand : StandBut d before after) (stood : shelf_at before d ≡ Some was) (stands : shelf_at after d ≡ Some is)
      (same : is.places ≡ was.places) (names : Renames g [] [] p q) where
    same_shelved : AreShelved (g.counts q) (g.pages q) (places_of after)
    same_shelved =
        turned_shelved g d (places_of before) (places_of after) p q h
        (turn_kept g (places_of before) (places_of after) d was.places is.places p q h (places_but d before after stand)
        (places-some before d was stood) (places-some after d is stands) same names)

    same_lists_on : lists_on (g.pages q) (places_of after) ≡ lists_on (g.pages p) (places_of before)
    same_lists_on =
        unchanged_lists g d (places_of before) (places_of after) was.places is.places p q h (places_but d before after stand)
        (places-some before d was stood) (places-some after d is stands) same names

  no_names : (p : P) → Renames g [] [] p p
  no_names p = renames_none g p p (recounts_none g p)

  some_at : (pages : Pages) (shelves : Shelves) (d : ℕ) (directory : DirectoryState) → shelf_at shelves d ≡ Some directory
      → IsSome (lists_on pages (places_of shelves) d)
  some_at pages shelves d directory is =
      subst (λ (o : Option (List PlaceState)). IsSome (option_map (items_on pages) o)) (sym (places-some shelves d directory is)) refl

  module _ (k : ℕ) (old new : DirectoryNumbers) (before after : Shelves) (p : P) (h : AreShelved (g.counts p) (g.pages p) (places_of before))
      (s : AreShared old before) (others : NameBut k old new) where
    -- a directory of no items, and a version of it
    pub stored_fresh : (d : ℕ) (made : DirectoryState) → made ≡ record { places = []; versions = 1 } → StandBut d before after
        → directory_number_at old k ≡ None → directory_number_at new k ≡ Some d → shelf_at before d ≡ None → shelf_at after d ≡ Some made
        → AreStored new after p (with_list k [] (lists_by (g.pages p) old before))
    stored_fresh d made is stand unused named vacant stands =
        let empty : made.places ≡ [] = ap (λ (directory : DirectoryState). directory.places) is in
        let one : made.versions ≡ 1 = ap (λ (directory : DirectoryState). directory.versions) is in
        let pages = g.pages p in
        let turn : Turns g d (places_of before) (places_of after) p p = turn_put_in g (places_of before) (places_of after) d [] p p
        (places_but d before after stand) (places_none before d vacant) (places-some after d made stands ∙ ap Some empty) (no_names p)
        (directory_of_none pages) in
        let first = lists_on pages (places_of before) in
        let last = lists_on pages (places_of after) in
        let made_list : last ≡ with_list d [] first = turned_lists g d (places_of before) (places_of after) p p h turn [] (places-some after d made stands ∙ ap Some empty)
        ∙ ap (λ (items : List ItemState). with_list d items first) (items_on-nil pages) in
        let none : shelf_count (shelf_at before d) ≡ 0 = ap shelf_count vacant in
        record {
          shelved = turned_shelved g d (places_of before) (places_of after) p p h turn;
          shared = shared_more k old new before after s others d stand made unused named stands (omega (arith, one, none));
          lists = lists-named pages new after ∙ lists_fresh k old new others first last d [] made_list (vacant_unnamed old before d s vacant) named
              ∙ ap (λ (lists : VersionLists). with_list k [] lists) (sym (lists-named pages old before));
        }

    module _ (d : ℕ) (was is : DirectoryState) (stand : StandBut d before after) (stood : shelf_at before d ≡ Some was)
        (stands : shelf_at after d ≡ Some is) (same : is.places ≡ was.places) where
      -- a version that names the directory of another
      pub stored_more : (v : ℕ) → is.versions ≡ was.versions + 1 → directory_number_at old v ≡ Some d
          → directory_number_at old k ≡ None → directory_number_at new k ≡ Some d
          → AreStored new after p (with_list k (list_at (lists_by (g.pages p) old before) v) (lists_by (g.pages p) old before))
      stored_more v more own unused named =
          let pages = g.pages p in
          let told : shelf_count (shelf_at before d) ≡ was.versions = ap shelf_count stood in
          record {
            shelved = same_shelved before after d was is p p h stand stood stands same (no_names p);
            shared = shared_more k old new before after s others d stand is unused named stands (omega (arith, more, told));
            lists = lists-named pages new after
                ∙ ap (λ (lists : VersionLists). lists_named lists new) (same_lists_on before after d was is p p h stand stood stands same (no_names p))
                ∙ lists_more k old new others (lists_on pages (places_of before)) v d (some_at pages before d was stood) own named
                ∙ ap (λ (lists : VersionLists). with_list k (list_at lists v) lists) (sym (lists-named pages old before));
          }

      -- a version less, of several that name the directory
      pub stored_less : is.versions + 1 ≡ was.versions → 0 < is.versions → directory_number_at old k ≡ Some d → directory_number_at new k ≡ None
          → AreStored new after p (without_list k (lists_by (g.pages p) old before))
      stored_less less some own gone =
          let pages = g.pages p in
          let told : shelf_count (shelf_at before d) ≡ was.versions = ap shelf_count stood in
          record {
            shelved = same_shelved before after d was is p p h stand stood stands same (no_names p);
            shared = shared_less k old new before after s others d stand is own gone stands (omega (arith, less, told)) some;
            lists = lists-named pages new after
                ∙ ap (λ (lists : VersionLists). lists_named lists new) (same_lists_on before after d was is p p h stand stood stands same (no_names p))
                ∙ lists_less k old new others (lists_on pages (places_of before)) gone
                ∙ ap (λ (lists : VersionLists). without_list k lists) (sym (lists-named pages old before));
          }

    -- the one version of a directory is gone, and so is the directory
    pub stored_none : (d : ℕ) (was : DirectoryState) (q : P) → StandBut d before after → shelf_at before d ≡ Some was → was.versions ≡ 1
        → shelf_at after d ≡ None → directory_number_at old k ≡ Some d → directory_number_at new k ≡ None → Renames g was.places [] p q
        → AreStored new after q (without_list k (lists_by (g.pages p) old before))
    stored_none d was q stand stood one left own gone names =
        let turn : Turns g d (places_of before) (places_of after) p q = turn_taken_out g (places_of before) (places_of after) d was.places p q
        (places_but d before after stand) (places-some before d was stood) (places_none after d left) names in
        let told : shelf_count (shelf_at before d) ≡ 1 = ap shelf_count stood ∙ one in
        record {
          shelved = turned_shelved g d (places_of before) (places_of after) p q h turn;
          shared = shared_none k old new before after s others d stand own gone left told;
          lists = lists-named (g.pages q) new after
              ∙ lists_none k old new others (lists_on (g.pages p) (places_of before)) (lists_on (g.pages q) (places_of after)) d
              (removed_lists g d (places_of before) (places_of after) p q h turn (places_none after d left))
              (told_of old before d was s stood ∙ one) own gone
              ∙ ap (λ (lists : VersionLists). without_list k lists) (sym (lists-named (g.pages p) old before));
        }

    -- a version of a directory that others name names a copy
    pub stored_moved : (d e : ℕ) (was left made : DirectoryState) (mid : Shelves) (q : P) → StandBut d before mid → StandBut e mid after
        → shelf_at before d ≡ Some was → shelf_at mid d ≡ Some left → left.places ≡ was.places → left.versions + 1 ≡ was.versions
        → 0 < left.versions → shelf_at mid e ≡ None → shelf_at after e ≡ Some made → made.places ≡ was.places → made.versions ≡ 1
        → directory_number_at old k ≡ Some d → directory_number_at new k ≡ Some e → Renames g [] was.places p q
        → AreStored new after q (lists_by (g.pages p) old before)
    stored_moved d e was left made mid q first second stood stays same less some vacant stands copied one own named names =
        let apart : d ≢ e = λ equal. none-some left (sym vacant ∙ ap (shelf_at mid) (sym equal) ∙ stays) in
        let free : shelf_at before e ≡ None = sym (first e (λ equal. apart (sym equal))) ∙ vacant in
        let still : shelf_at after d ≡ Some left = second d apart ∙ stays in
        let told : shelf_count (shelf_at before d) ≡ was.versions = ap shelf_count stood in
        let between = same_shelved before mid d was left p p h first stood stays same (no_names p) in
        let shelf : directory_at (places_of mid) d ≡ Some was.places = places-some mid d left stays ∙ ap Some same in
        let copy : directory_at (places_of after) e ≡ Some was.places = places-some after e made stands ∙ ap Some copied in
        let beside = places_but e mid after second in
        let empty = places_none mid e vacant in
        let turn : Turns g e (places_of mid) (places_of after) p q = turn_copied g (places_of mid) (places_of after) d e was.places p q between beside shelf empty copy names in
        let earlier = same_lists_on before mid d was left p p h first stood stays same (no_names p) in
        let moved : lists_on (g.pages q) (places_of after)
        ≡ with_list e (list_at (lists_on (g.pages p) (places_of before)) d) (lists_on (g.pages p) (places_of before))
        = copied_lists g (places_of mid) (places_of after) d e was.places p q between beside shelf empty copy names
        ∙ ap (λ (lists : VersionLists). with_list e (list_at lists d) lists) earlier in
        record {
          shelved = turned_shelved g e (places_of mid) (places_of after) p q between turn;
          shared = shared_moved k old new before after s others d e left made own named free still (omega (arith, less, told)) some stands one
              (λ x far away. second x away ∙ first x far);
          lists = lists-named (g.pages q) new after
              ∙ lists_moved k old new others (lists_on (g.pages p) (places_of before)) (lists_on (g.pages q) (places_of after)) d e moved
              (some_at (g.pages p) before d was stood) (vacant_unnamed old before e s free) own named
              ∙ sym (lists-named (g.pages p) old before);
        }

  -- ---- the same versions and directories

  -- a call that reads pages alone names none
  pub read_names : {A : Type 0} (result : Result A Fault) (p q : P) → ReadsPages g result p q → Renames g [] [] p q
  read_names result p q reads = record {
    counts = λ n. ap (λ (counts : List ℕ). count_of counts n + named_in [] n) reads.counts;
    kept = λ n below. ap (λ (pages : Pages). pages n) reads.same;
  }

  -- the same directory put in its place again
  pub stored_again : (versions : DirectoryNumbers) (shelves : Shelves) (d : ℕ) (was : DirectoryState) (p q : P)
      → AreShelved (g.counts p) (g.pages p) (places_of shelves)
      → AreShared versions shelves → shelf_at shelves d ≡ Some was → Renames g [] [] p q
      → AreStored versions (slice_set shelves d (Some was)) q (lists_by (g.pages p) versions shelves)
  stored_again versions shelves d was p q h s stood names =
      let after = slice_set shelves d (Some was) in
      let stand = set_but shelves d was in
      let stands = set_stands shelves d was was stood in
      record {
        shelved = same_shelved shelves after d was was p q h stand stood stands refl names;
        shared = shared_changed versions shelves after d was was s stand stood stands refl;
        lists = lists-named (g.pages q) versions after
            ∙ ap (λ (lists : VersionLists). lists_named lists versions) (same_lists_on shelves after d was was p q h stand stood stands refl names)
            ∙ sym (lists-named (g.pages p) versions shelves);
      }

  -- ---- a change of the directory that a version alone names
  module _ {A : Type 0} (numbers v d : ℕ) (versions : DirectoryNumbers) (shelves : Shelves) (was is : DirectoryState) (p q : P)
      (h : AreShelved (g.counts p) (g.pages p) (places_of shelves)) (s : AreShared versions shelves)
      (stood : shelf_at shelves d ≡ Some was) (result : Result A Fault) (changes : Changes g numbers result was.places is.places p q) where
    abbrev changed : Shelves
    changed = slice_set shelves d (Some is)

    pub changed_shelved : AreShelved (g.counts q) (g.pages q) (places_of changed)
    changed_shelved =
        change_shelved g numbers d (places_of shelves) (places_of changed) was.places is.places p q h
        (places_but d shelves changed (set_but shelves d is)) (places-some shelves d was stood)
        (places-some changed d is (set_stands shelves d was is stood)) result changes

    pub changed_shared : is.versions ≡ was.versions → AreShared versions changed
    changed_shared same = shared_changed versions shelves changed d was is s (set_but shelves d is) stood (set_stands shelves d was is stood) same

    pub changed_turned : (first : VersionLists) → lists_by (g.pages p) versions shelves ≡ first → references_to d versions ≡ 1 → directory_number_at versions v ≡ Some d
        → AreTurned v result first (lists_by (g.pages q) versions changed)
    changed_turned first own one named =
        subst (λ (lists : VersionLists). AreTurned v result lists (lists_by (g.pages q) versions changed)) (sym (lists-named (g.pages p) versions shelves) ∙ own)
        (subst (λ (lists : VersionLists). AreTurned v result (lists_named (lists_on (g.pages p) (places_of shelves)) versions) lists) (sym (lists-named (g.pages q) versions changed))
        (named_turned versions v d one named result (lists_on (g.pages p) (places_of shelves)) (lists_on (g.pages q) (places_of changed))
        (change_turned g numbers d (places_of shelves) (places_of changed) was.places is.places p q h
        (places_but d shelves changed (set_but shelves d is)) (places-some shelves d was stood)
        (places-some changed d is (set_stands shelves d was is stood)) result changes)))
