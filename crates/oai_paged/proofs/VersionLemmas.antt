-- Versions that name directories, and the lists that they stand for.
use Rattle.std.proofs.Common.{◌≡◌, ◌≢◌, ◌∙◌, ◌+◌, ◌<◌, ◌≤◌, ℕ, suc, zero, cond, eqb, List, [], ◌∷◌, Option, None, Some, IsSome, Result, unwrap_or, map, get_or, set, refl, sym, ap, subst, arith, inl, inr}
use Rattle.std.specs.Prelude.{Ok, Err, is_some, count_by, length, option_map, sum_by}
use Rattle.std.proofs.lemmas.Bool.{cases_Bool, cases_eq, cases_lt, cond-false, cond-true, eq-eqb, eqb-false, eqb-true, ne_eqb}
use Rattle.std.proofs.lemmas.List.{get_or-set_other, get_or-set_same, get_or_past}
use Rattle.std.proofs.lemmas.List.Sums.{sum_by-cons}
use Rattle.std.proofs.lemmas.Option.{none-some}
use Rattle.slab.specs.Slab.{Slab, Updates, get}
use Rattle.oai_catalogue.specs.Store.{ChangesOnly, VersionLists, list_at, with_list, without_list}
use Rattle.oai_catalogue.proofs.ListsLemmas.{same_lists}
use Rattle.oai_item.specs.Item.{ItemState}
use Rattle.oai_item.specs.declared.faults.Fault.{Fault}
use Rattle.oai_places.specs.Places.{Pages, PlaceState, items_on}
use Rattle.oai_paged.specs.Shelves.{directory_at, lists_on}
use Rattle.oai_paged.specs.Versions.{AreShared, DirectoryNumbers, DirectoryState, Shelves, directories_named, directory_named, directory_number_at, names_at, places_in, places_of, references_to, shelf_at, shelf_count}
use Rattle.oai_paged.proofs.ShelfLemmas.{AreTurned}
use Rattle.oai_paged.proofs.SlotLemmas.{sum-changed, sum-part, sum-two}

-- ---- what stands at a number

at-map : {X Y : Type 0} (f : Option X → Option Y) → f None ≡ None → (xs : List (Option X)) (k : ℕ)
    → get_or (map f xs) k None ≡ f (get_or xs k None)
at-map f none [] k = sym none
at-map f none (x ∷ xs) zero = refl
at-map f none (x ∷ xs) (suc k) = at-map f none xs k

pub places-at : (shelves : Shelves) (d : ℕ) → directory_at (places_of shelves) d ≡ places_in (shelf_at shelves d)
places-at shelves d = at-map places_in refl shelves d

pub named-at : (versions : DirectoryNumbers) (shelves : Shelves) (v : ℕ)
    → directory_at (directories_named versions shelves) v ≡ directory_named shelves (directory_number_at versions v)
named-at versions shelves v = at-map (directory_named shelves) refl versions v

-- the places of a directory
pub places-some : (shelves : Shelves) (d : ℕ) (directory : DirectoryState) → shelf_at shelves d ≡ Some directory
    → directory_at (places_of shelves) d ≡ Some directory.places
places-some shelves d directory is = places-at shelves d ∙ ap places_in is

-- the places of a version
pub places_by : (versions : DirectoryNumbers) (shelves : Shelves) (v d : ℕ) (directory : DirectoryState) → directory_number_at versions v ≡ Some d
    → shelf_at shelves d ≡ Some directory → unwrap_or (directory_at (directories_named versions shelves) v) [] ≡ directory.places
places_by versions shelves v d directory named is =
    ap (λ (o : Option (List PlaceState)). unwrap_or o [])
    (named-at versions shelves v ∙ ap (directory_named shelves) named ∙ places-some shelves d directory is)

-- a version that names another directory
number_within : (versions : DirectoryNumbers) (v d : ℕ) → directory_number_at versions v ≡ Some d → v < length versions
number_within versions v d is =
    elim (cases_lt v (length versions)) [
      | inl within ↦ within
      | inr past ↦ absurd (none-some d (sym (get_or_past versions v None past) ∙ is))
    ]

pub set_named : (versions : DirectoryNumbers) (v d e : ℕ) → directory_number_at versions v ≡ Some d → directory_number_at (set versions v (Some e)) v ≡ Some e
set_named versions v d e is = get_or-set_same versions v (Some e) None (number_within versions v d is)

pub set_beside : (versions : DirectoryNumbers) (v e : ℕ) (w : ℕ) → w ≢ v → directory_number_at (set versions v (Some e)) w ≡ directory_number_at versions w
set_beside versions v e w apart = get_or-set_other versions v w (Some e) None apart

-- a value put in under a number that was not in use
pub record PutsIn {X : Type 0} (old new : List (Option X)) (k : ℕ) (x : X) : Type 0 where
  pub vacant : get_or old k None ≡ None
  pub stands : get_or new k None ≡ Some x
  pub others : (j : ℕ) → j ≢ k → get_or new j None ≡ get_or old j None

pub puts_in : {X : Type 0} (first mid new : Slab X) (k : ℕ) (x : X) → mid.slots ≡ first.slots → get mid k ≡ None → Updates mid new k (Some x)
    → PutsIn first.slots new.slots k x
puts_in {X} first mid new k x same vacant updates = record {
  vacant = sym (ap (λ (slots : List (Option X)). get_or slots k None) same) ∙ vacant;
  stands = updates.changed;
  others = λ j apart. updates.others j apart ∙ ap (λ (slots : List (Option X)). get_or slots j None) same;
}

-- ---- how many versions name a directory

names_at-same : (d : ℕ) → names_at d (Some d) ≡ 1
names_at-same d = cond-true (eqb d d) 1 0 (eq-eqb d d refl)

names_at-other : (d e : ℕ) → d ≢ e → names_at d (Some e) ≡ 0
names_at-other d e apart = cond-false (eqb d e) 1 0 (ne_eqb d e apart)

-- no version names another directory than it did but one
abbrev pub NameBut : ℕ → DirectoryNumbers → DirectoryNumbers → Type 0
NameBut k old new = (v : ℕ) → v ≢ k → directory_number_at new v ≡ directory_number_at old v

-- no directory is another than it was but one
abbrev pub StandBut : ℕ → Shelves → Shelves → Type 0
StandBut d before after = (e : ℕ) → e ≢ d → shelf_at after e ≡ shelf_at before e

references_to-changed : (d k : ℕ) (old new : DirectoryNumbers) → NameBut k old new
    → references_to d new + names_at d (directory_number_at old k) ≡ references_to d old + names_at d (directory_number_at new k)
unfolding references_to
references_to-changed d k old new others = sum-changed (names_at d) refl k old new others

references_to-part : (d k : ℕ) (versions : DirectoryNumbers) → names_at d (directory_number_at versions k) ≤ references_to d versions
unfolding references_to
references_to-part d k versions = sum-part (names_at d) refl k versions

references_to-two : (d j k : ℕ) (versions : DirectoryNumbers) → j ≢ k
    → names_at d (directory_number_at versions j) + names_at d (directory_number_at versions k) ≤ references_to d versions
unfolding references_to
references_to-two d j k versions apart = sum-two (names_at d) refl j k versions apart

-- a version names it
pub references_to-own : (d v : ℕ) (versions : DirectoryNumbers) → directory_number_at versions v ≡ Some d → 0 < references_to d versions
references_to-own d v versions is =
    let own : names_at d (directory_number_at versions v) ≡ 1 = ap (names_at d) is ∙ names_at-same d in
    omega (arith, own, references_to-part d v versions)

-- no version names it
pub unnamed : (d : ℕ) (versions : DirectoryNumbers) → references_to d versions ≡ 0 → (v : ℕ) → directory_number_at versions v ≢ Some d
unnamed d versions none v is = let own = references_to-own d v versions is in omega (arith, none, own)

-- one version alone names it
pub lone : (d v : ℕ) (versions : DirectoryNumbers) → references_to d versions ≡ 1 → directory_number_at versions v ≡ Some d
    → (w : ℕ) → w ≢ v → directory_number_at versions w ≢ Some d
lone d v versions one is w apart other =
    let here : names_at d (directory_number_at versions v) ≡ 1 = ap (names_at d) is ∙ names_at-same d in
    let there : names_at d (directory_number_at versions w) ≡ 1 = ap (names_at d) other ∙ names_at-same d in
    let both = references_to-two d w v versions apart in
    omega (arith, one, here, there, both)

-- no more versions name it than there are
few-cons : (d : ℕ) (x : Option ℕ) (xs : DirectoryNumbers) → references_to d xs ≤ count_by is_some xs → references_to d (x ∷ xs) ≤ count_by is_some (x ∷ xs)
unfolding references_to
few-cons d None xs h =
    let none : Option ℕ = None in
    let long : count_by is_some (none ∷ xs) ≡ count_by is_some xs = refl in
    omega (arith, long, sum_by-cons (names_at d) None xs, h)
few-cons d (Some e) xs h =
    let long : count_by is_some (Some e ∷ xs) ≡ 1 + count_by is_some xs = sum_by-cons (λ (y : Option ℕ). cond (is_some y) 1 0) (Some e) xs in
    elim (cases_eq d e) [
      | inl same ↦
          let own : names_at d (Some e) ≡ 1 = ap (λ x. names_at d (Some x)) (sym same) ∙ names_at-same d in
          omega (arith, long, own, sum_by-cons (names_at d) (Some e) xs, h)
      | inr apart ↦ omega (arith, long, names_at-other d e apart, sum_by-cons (names_at d) (Some e) xs, h)
    ]

pub few_names : (d : ℕ) (versions : DirectoryNumbers) → references_to d versions ≤ count_by is_some versions
unfolding references_to
few_names d [] = omega arith
few_names d (x ∷ xs) = few-cons d x xs (few_names d xs)

-- ---- what a directory says

pub told_of : (versions : DirectoryNumbers) (shelves : Shelves) (d : ℕ) (directory : DirectoryState) → AreShared versions shelves
    → shelf_at shelves d ≡ Some directory → references_to d versions ≡ directory.versions
told_of versions shelves d directory h is = h.counted d ∙ ap shelf_count is

pub vacant_unnamed : (versions : DirectoryNumbers) (shelves : Shelves) (d : ℕ) → AreShared versions shelves → shelf_at shelves d ≡ None
    → references_to d versions ≡ 0
vacant_unnamed versions shelves d h is = h.counted d ∙ ap shelf_count is

-- ---- what one call does to versions and directories

module _ (k : ℕ) (old new : DirectoryNumbers) (before after : Shelves) (h : AreShared old before) (others : NameBut k old new) where
  -- the counts follow the names
  shared_step : ((d : ℕ) → shelf_count (shelf_at after d) + names_at d (directory_number_at old k) ≡ shelf_count (shelf_at before d) + names_at d (directory_number_at new k))
      → ((d : ℕ) (directory : DirectoryState) → shelf_at after d ≡ Some directory → 0 < directory.versions) → AreShared new after
  shared_step traded named = record {
    counted = λ d. let changed = references_to-changed d k old new others in omega (arith, changed, h.counted d, traded d);
    named = named;
  }

  module _ (d : ℕ) (stand : StandBut d before after) where
    named_still : ((directory : DirectoryState) → shelf_at after d ≡ Some directory → 0 < directory.versions)
        → (e : ℕ) (directory : DirectoryState) → shelf_at after e ≡ Some directory → 0 < directory.versions
    named_still own e directory is =
        elim (cases_eq e d) [
          | inl same ↦ own directory (ap (shelf_at after) (sym same) ∙ is)
          | inr apart ↦ h.named e directory (sym (stand e apart) ∙ is)
        ]

    -- one directory alone is another
    shared_one : shelf_count (shelf_at after d) + names_at d (directory_number_at old k) ≡ shelf_count (shelf_at before d) + names_at d (directory_number_at new k)
        → ((e : ℕ) → e ≢ d → names_at e (directory_number_at old k) ≡ names_at e (directory_number_at new k))
        → ((directory : DirectoryState) → shelf_at after d ≡ Some directory → 0 < directory.versions) → AreShared new after
    shared_one here there own =
        shared_step
        (λ e. elim (cases_eq e d) [
          | inl same ↦ subst (λ x. shelf_count (shelf_at after x) + names_at x (directory_number_at old k) ≡ shelf_count (shelf_at before x) + names_at x (directory_number_at new k)) (sym same) here
          | inr apart ↦
              let told : shelf_count (shelf_at after e) ≡ shelf_count (shelf_at before e) = ap shelf_count (stand e apart) in
              omega (arith, told, there e apart)
        ])
        (named_still own)

    -- a version names it that was not in use
    pub shared_more : (directory : DirectoryState) → directory_number_at old k ≡ None → directory_number_at new k ≡ Some d → shelf_at after d ≡ Some directory
        → directory.versions ≡ shelf_count (shelf_at before d) + 1 → AreShared new after
    shared_more directory was is stands more =
        let told : shelf_count (shelf_at after d) ≡ directory.versions = ap shelf_count stands in
        shared_one
        (let none : names_at d (directory_number_at old k) ≡ 0 = ap (names_at d) was in
        let one : names_at d (directory_number_at new k) ≡ 1 = ap (names_at d) is ∙ names_at-same d in
        omega (arith, told, none, one, more))
        (λ e apart. ap (names_at e) was ∙ sym (ap (names_at e) is ∙ names_at-other e d apart))
        (λ other still.
        let same : other.versions ≡ directory.versions = ap shelf_count (sym still ∙ stands) in
        omega (arith, same, more))

    -- a version that named it is in use no more
    pub shared_less : (directory : DirectoryState) → directory_number_at old k ≡ Some d → directory_number_at new k ≡ None → shelf_at after d ≡ Some directory
        → directory.versions + 1 ≡ shelf_count (shelf_at before d) → 0 < directory.versions → AreShared new after
    shared_less directory was is stands less some =
        let told : shelf_count (shelf_at after d) ≡ directory.versions = ap shelf_count stands in
        shared_one
        (let one : names_at d (directory_number_at old k) ≡ 1 = ap (names_at d) was ∙ names_at-same d in
        let none : names_at d (directory_number_at new k) ≡ 0 = ap (names_at d) is in
        omega (arith, told, none, one, less))
        (λ e apart. ap (names_at e) was ∙ names_at-other e d apart ∙ sym (ap (names_at e) is))
        (λ other still.
        let same : other.versions ≡ directory.versions = ap shelf_count (sym still ∙ stands) in
        omega (arith, same, some))

    -- the one version that named it is in use no more, and neither is it
    pub shared_none : directory_number_at old k ≡ Some d → directory_number_at new k ≡ None → shelf_at after d ≡ None → shelf_count (shelf_at before d) ≡ 1 → AreShared new after
    shared_none was is gone one =
        shared_one
        (let told : shelf_count (shelf_at after d) ≡ 0 = ap shelf_count gone in
        let own : names_at d (directory_number_at old k) ≡ 1 = ap (names_at d) was ∙ names_at-same d in
        let none : names_at d (directory_number_at new k) ≡ 0 = ap (names_at d) is in
        omega (arith, told, none, own, one))
        (λ e apart. ap (names_at e) was ∙ names_at-other e d apart ∙ sym (ap (names_at e) is))
        (λ other still. absurd (none-some other (sym gone ∙ still)))

  -- a version that named the one directory names another, under a number that was not in use
  pub shared_moved : (d e : ℕ) (left made : DirectoryState) → directory_number_at old k ≡ Some d → directory_number_at new k ≡ Some e
      → shelf_at before e ≡ None → shelf_at after d ≡ Some left → left.versions + 1 ≡ shelf_count (shelf_at before d) → 0 < left.versions
      → shelf_at after e ≡ Some made → made.versions ≡ 1
      → ((x : ℕ) → x ≢ d → x ≢ e → shelf_at after x ≡ shelf_at before x) → AreShared new after
  shared_moved d e left made was is vacant less told some stands one stand =
      let apart : d ≢ e = λ same.
      (let none : shelf_count (shelf_at before d) ≡ 0 = ap shelf_count (ap (shelf_at before) same ∙ vacant) in omega (arith, none, told)) in
      shared_step
      (λ x. elim (cases_eq x d) [
        | inl same ↦
            subst (λ x. shelf_count (shelf_at after x) + names_at x (directory_number_at old k) ≡ shelf_count (shelf_at before x) + names_at x (directory_number_at new k)) (sym same)
            (let left_told : shelf_count (shelf_at after d) ≡ left.versions = ap shelf_count less in
            let own : names_at d (directory_number_at old k) ≡ 1 = ap (names_at d) was ∙ names_at-same d in
            let other : names_at d (directory_number_at new k) ≡ 0 = ap (names_at d) is ∙ names_at-other d e apart in
            omega (arith, left_told, own, other, told))
        | inr beside ↦
            elim (cases_eq x e) [
              | inl same ↦
                  subst (λ x. shelf_count (shelf_at after x) + names_at x (directory_number_at old k) ≡ shelf_count (shelf_at before x) + names_at x (directory_number_at new k)) (sym same)
                  (let made_told : shelf_count (shelf_at after e) ≡ made.versions = ap shelf_count stands in
                  let none : shelf_count (shelf_at before e) ≡ 0 = ap shelf_count vacant in
                  let other : names_at e (directory_number_at old k) ≡ 0 = ap (names_at e) was ∙ names_at-other e d (λ equal. apart (sym equal)) in
                  let own : names_at e (directory_number_at new k) ≡ 1 = ap (names_at e) is ∙ names_at-same e in
                  omega (arith, made_told, none, own, other, one))
              | inr far ↦
                  let same : shelf_count (shelf_at after x) ≡ shelf_count (shelf_at before x) = ap shelf_count (stand x beside far) in
                  let first : names_at x (directory_number_at old k) ≡ 0 = ap (names_at x) was ∙ names_at-other x d beside in
                  let second : names_at x (directory_number_at new k) ≡ 0 = ap (names_at x) is ∙ names_at-other x e far in
                  omega (arith, same, first, second)
            ]
      ])
      (λ x directory there.
      elim (cases_eq x d) [
        | inl same ↦
            let versions : directory.versions ≡ left.versions = ap shelf_count (sym there ∙ ap (shelf_at after) same ∙ less) in
            omega (arith, versions, some)
        | inr beside ↦
            elim (cases_eq x e) [
              | inl same ↦
                  let versions : directory.versions ≡ made.versions = ap shelf_count (sym there ∙ ap (shelf_at after) same ∙ stands) in
                  omega (arith, versions, one)
              | inr far ↦ h.named x directory (sym (stand x beside far) ∙ there)
            ]
      ])

-- one directory has other places
pub shared_changed : (versions : DirectoryNumbers) (before after : Shelves) (d : ℕ) (was is : DirectoryState) → AreShared versions before
    → StandBut d before after → shelf_at before d ≡ Some was → shelf_at after d ≡ Some is → is.versions ≡ was.versions → AreShared versions after
shared_changed versions before after d was is h stand stood stands same =
    let told : shelf_count (shelf_at after d) ≡ shelf_count (shelf_at before d) = ap shelf_count stands ∙ same ∙ sym (ap shelf_count stood) in
    shared_one 0 versions versions before after h (λ v apart. refl) d stand
    (omega (arith, told))
    (λ e apart. refl)
    (λ other still.
    let equal : other.versions ≡ is.versions = ap shelf_count (sym still ∙ stands) in
    let some = h.named d was stood in
    omega (arith, equal, same, some))

-- ---- the lists of versions, by those of directories

abbrev pub list_named : VersionLists → Option ℕ → Option (List ItemState)
list_named lists None = None
list_named lists (Some d) = lists d

-- the list that each version names
abbrev pub lists_named : VersionLists → DirectoryNumbers → VersionLists
lists_named lists versions v = list_named lists (directory_number_at versions v)

list_on_named : (pages : Pages) (shelves : Shelves) (o : Option ℕ)
    → option_map (items_on pages) (directory_named shelves o) ≡ list_named (lists_on pages (places_of shelves)) o
list_on_named pages shelves None = refl
list_on_named pages shelves (Some d) = refl

pub lists-named : (pages : Pages) (versions : DirectoryNumbers) (shelves : Shelves)
    → lists_on pages (directories_named versions shelves) ≡ lists_named (lists_on pages (places_of shelves)) versions
lists-named pages versions shelves =
    same_lists (lists_on pages (directories_named versions shelves)) (lists_named (lists_on pages (places_of shelves)) versions)
    (λ v. ap (option_map (items_on pages)) (named-at versions shelves v) ∙ list_on_named pages shelves (directory_number_at versions v))

-- the list that stands under a version
pub named_list : (lists : VersionLists) (versions : DirectoryNumbers) (v d : ℕ) → directory_number_at versions v ≡ Some d → lists_named lists versions v ≡ lists d
named_list lists versions v d is = ap (list_named lists) is

some_list : (o : Option (List ItemState)) → IsSome o → Some (unwrap_or o []) ≡ o
some_list None h = cc
some_list (Some items) h = refl

-- a number that does not name the directory
beside_with : (lists : VersionLists) (d : ℕ) (items : List ItemState) (o : Option ℕ) → o ≢ Some d
    → list_named (with_list d items lists) o ≡ list_named lists o
beside_with lists d items None apart = refl
beside_with lists d items (Some e) apart = cond-false (eqb e d) (Some items) (lists e) (ne_eqb e d (λ same. apart (ap Some same)))

beside_without : (lists : VersionLists) (d : ℕ) (o : Option ℕ) → o ≢ Some d → list_named (without_list d lists) o ≡ list_named lists o
beside_without lists d None apart = refl
beside_without lists d (Some e) apart = cond-false (eqb e d) None (lists e) (ne_eqb e d (λ same. apart (ap Some same)))

own_with : (lists : VersionLists) (d : ℕ) (items : List ItemState) → with_list d items lists d ≡ Some items
own_with lists d items = cond-true (eqb d d) (Some items) (lists d) (eq-eqb d d refl)

-- a list under a number is that, and all others are as they were
with_is : (new old : VersionLists) (v : ℕ) (items : List ItemState) → new v ≡ Some items → ((w : ℕ) → w ≢ v → new w ≡ old w) → new ≡ with_list v items old
with_is new old v items is others =
    same_lists new (with_list v items old)
    (λ w. elim (cases_Bool (eqb w v)) [
      | inl same ↦ ap new (eqb-true w v same) ∙ is ∙ sym (cond-true (eqb w v) (Some items) (old w) same)
      | inr other ↦ others w (eqb-false w v other) ∙ sym (cond-false (eqb w v) (Some items) (old w) other)
    ])

without_is : (new old : VersionLists) (v : ℕ) → new v ≡ None → ((w : ℕ) → w ≢ v → new w ≡ old w) → new ≡ without_list v old
without_is new old v is others =
    same_lists new (without_list v old)
    (λ w. elim (cases_Bool (eqb w v)) [
      | inl same ↦ ap new (eqb-true w v same) ∙ is ∙ sym (cond-true (eqb w v) None (old w) same)
      | inr other ↦ others w (eqb-false w v other) ∙ sym (cond-false (eqb w v) None (old w) other)
    ])

module _ (k : ℕ) (old new : DirectoryNumbers) (others : NameBut k old new) where
  -- of a directory under a number that was not in use
  pub lists_fresh : (first last : VersionLists) (d : ℕ) (items : List ItemState) → last ≡ with_list d items first → references_to d old ≡ 0
      → directory_number_at new k ≡ Some d → lists_named last new ≡ with_list k items (lists_named first old)
  lists_fresh first last d items is none named =
      with_is (lists_named last new) (lists_named first old) k items
      (named_list last new k d named ∙ ap (λ (lists : VersionLists). lists d) is ∙ own_with first d items)
      (λ w apart. ap (list_named last) (others w apart) ∙ ap (λ (lists : VersionLists). list_named lists (directory_number_at old w)) is
      ∙ beside_with first d items (directory_number_at old w) (unnamed d old none w))

  -- of a directory that another version names
  pub lists_more : (lists : VersionLists) (v d : ℕ) → IsSome (lists d) → directory_number_at old v ≡ Some d → directory_number_at new k ≡ Some d
      → lists_named lists new ≡ with_list k (list_at (lists_named lists old) v) (lists_named lists old)
  lists_more lists v d stands is named =
      with_is (lists_named lists new) (lists_named lists old) k (list_at (lists_named lists old) v)
      (named_list lists new k d named ∙ sym (some_list (lists d) stands)
      ∙ ap (λ (o : Option (List ItemState)). Some (unwrap_or o [])) (sym (named_list lists old v d is)))
      (λ w apart. ap (list_named lists) (others w apart))

  -- of a directory that others name still
  pub lists_less : (lists : VersionLists) → directory_number_at new k ≡ None → lists_named lists new ≡ without_list k (lists_named lists old)
  lists_less lists is =
      without_is (lists_named lists new) (lists_named lists old) k (ap (list_named lists) is) (λ w apart. ap (list_named lists) (others w apart))

  -- of a directory that is gone
  pub lists_none : (first last : VersionLists) (d : ℕ) → last ≡ without_list d first → references_to d old ≡ 1 → directory_number_at old k ≡ Some d
      → directory_number_at new k ≡ None → lists_named last new ≡ without_list k (lists_named first old)
  lists_none first last d is one was gone =
      without_is (lists_named last new) (lists_named first old) k (ap (list_named last) gone)
      (λ w apart. ap (list_named last) (others w apart) ∙ ap (λ (lists : VersionLists). list_named lists (directory_number_at old w)) is
      ∙ beside_without first d (directory_number_at old w) (lone d k old one was w apart))

  -- of a copy of the directory
  pub lists_moved : (first last : VersionLists) (d e : ℕ) → last ≡ with_list e (list_at first d) first → IsSome (first d) → references_to e old ≡ 0
      → directory_number_at old k ≡ Some d → directory_number_at new k ≡ Some e → lists_named last new ≡ lists_named first old
  lists_moved first last d e is stands none was named =
      same_lists (lists_named last new) (lists_named first old)
      (λ w. elim (cases_eq w k) [
        | inl same ↦
            ap (lists_named last new) same ∙ named_list last new k e named ∙ ap (λ (lists : VersionLists). lists e) is
            ∙ own_with first e (list_at first d) ∙ some_list (first d) stands
            ∙ sym (named_list first old k d was) ∙ ap (lists_named first old) (sym same)
        | inr apart ↦
            ap (list_named last) (others w apart) ∙ ap (λ (lists : VersionLists). list_named lists (directory_number_at old w)) is
            ∙ beside_with first e (list_at first d) (directory_number_at old w) (unnamed e old none w)
      ])

-- of a directory that is changed, and that one version names
module _ (versions : DirectoryNumbers) (v d : ℕ) (one : references_to d versions ≡ 1) (named : directory_number_at versions v ≡ Some d) where
  lists_changed : (first last : VersionLists) → ChangesOnly d first last → ChangesOnly v (lists_named first versions) (lists_named last versions)
  lists_changed first last only =
      with_is (lists_named last versions) (lists_named first versions) v (list_at (lists_named last versions) v)
      (named_list last versions v d named ∙ ap (λ (lists : VersionLists). lists d) only ∙ own_with first d (list_at last d)
      ∙ ap (λ (o : Option (List ItemState)). Some (unwrap_or o [])) (sym (named_list last versions v d named)))
      (λ w apart. ap (λ (lists : VersionLists). list_named lists (directory_number_at versions w)) only
      ∙ beside_with first d (list_at last d) (directory_number_at versions w) (lone d v versions one named w apart))

  pub named_turned : {A : Type 0} (result : Result A Fault) (first last : VersionLists) → AreTurned d result first last
      → AreTurned v result (lists_named first versions) (lists_named last versions)
  named_turned (Ok x) first last turned = record {
    ok = lists_changed first last turned.ok;
    err = tt;
  }
  named_turned (Err x) first last turned = record {
    ok = tt;
    err = ap (λ (lists : VersionLists). lists_named lists versions) turned.err;
  }

-- ---- sums over directories, and over the versions that name them

module _ {X : Type 0} (f : Option X → ℕ) (none : f None ≡ 0) where
  sum-zero : (xs : List (Option X)) → ((k : ℕ) → f (get_or xs k None) ≡ 0) → sum_by f xs ≡ 0
  sum-zero [] h = refl
  sum-zero (x ∷ xs) h =
      let here : f x ≡ 0 = h 0 in
      omega (arith, sum_by-cons f x xs, here, sum-zero xs (λ k. h (suc k)))

  abbrev weight : (ℕ → ℕ) → Option ℕ → ℕ
  weight g None = 0
  weight g (Some d) = g d

  emptied : (e : ℕ) (xs : List (Option X)) → get_or (set xs e None) e None ≡ None
  emptied e [] = get_or_past (set [] e None) e None (omega arith)
  emptied zero (x ∷ xs) = refl
  emptied (suc e) (x ∷ xs) = emptied e xs

  -- each is named
  pub sum-named : (versions : DirectoryNumbers) (xs : List (Option X)) (g : ℕ → ℕ) → ((d : ℕ) → f (get_or xs d None) ≤ g d)
      → ((d : ℕ) → 0 < f (get_or xs d None) → 0 < references_to d versions) → sum_by f xs ≤ sum_by (weight g) versions
  unfolding references_to
  sum-named [] xs g le named =
      let all : sum_by f xs ≡ 0 = sum-zero xs
      (λ k. elim (cases_lt 0 (f (get_or xs k None))) [
        | inl some ↦ absurd (let own = named k some in omega (arith, own))
        | inr nothing ↦ omega (arith, nothing)
      ]) in
      omega (arith, all)
  sum-named (None ∷ versions) xs g le named =
      omega (
        arith,
        sum_by-cons (weight g) None versions,
        sum-named versions xs g le (λ d some. let own = named d some in omega (arith, own, sum_by-cons (names_at d) None versions)),
      )
  sum-named (Some e ∷ versions) xs g le named =
      let gone : f (get_or (set xs e None) e None) ≡ 0 = ap f (emptied e xs) ∙ none in
      let changed = sum-changed f none e xs (set xs e None) (λ j apart. get_or-set_other xs e j None None apart) in
      let rest = sum-named versions (set xs e None) g
      (λ d. elim (cases_eq d e) [
        | inl same ↦ let nothing : f (get_or (set xs e None) d None) ≡ 0 = ap (λ x. f (get_or (set xs e None) x None)) same ∙ gone in omega (arith, nothing)
        | inr apart ↦
            let other : f (get_or (set xs e None) d None) ≡ f (get_or xs d None) = ap f (get_or-set_other xs e d None None apart) in
            omega (arith, other, le d)
      ])
      (λ d some. elim (cases_eq d e) [
        | inl same ↦
            let nothing : f (get_or (set xs e None) d None) ≡ 0 = ap (λ x. f (get_or (set xs e None) x None)) same ∙ gone in
            absurd (omega (arith, nothing, some))
        | inr apart ↦
            let other : f (get_or (set xs e None) d None) ≡ f (get_or xs d None) = ap f (get_or-set_other xs e d None None apart) in
            let own = named d (omega (arith, other, some)) in
            omega (arith, own, names_at-other d e apart, sum_by-cons (names_at d) (Some e) versions)
      ]) in
      omega (arith, gone, changed, rest, le e, sum_by-cons (weight g) (Some e) versions)

-- of the directories that versions name
module _ (f : Option (List PlaceState) → ℕ) (none : f None ≡ 0) (shelves : Shelves) where
  weighed : (o : Option ℕ) → f (directory_named shelves o) ≡ weight f none (λ d. f (directory_at (places_of shelves) d)) o
  weighed None = none
  weighed (Some d) = refl

  sum-map : (versions : DirectoryNumbers) → sum_by f (directories_named versions shelves) ≡ sum_by (weight f none (λ d. f (directory_at (places_of shelves) d))) versions
  sum-map [] = refl
  sum-map (o ∷ versions) =
      omega (
        arith,
        sum_by-cons f (directory_named shelves o) (directories_named versions shelves),
        sum_by-cons (weight f none (λ d. f (directory_at (places_of shelves) d))) o versions,
        weighed o,
        sum-map versions,
      )

  some_named : (versions : DirectoryNumbers) → AreShared versions shelves → (d : ℕ) (shelf : Option DirectoryState) → shelf_at shelves d ≡ shelf
      → 0 < f (places_in shelf) → 0 < references_to d versions
  some_named versions h d None is some = absurd (omega (arith, none, some))
  some_named versions h d (Some directory) is some =
      let told = told_of versions shelves d directory h is in
      let named = h.named d directory is in
      omega (arith, told, named)

  pub sum-shared : (versions : DirectoryNumbers) → AreShared versions shelves → sum_by f (places_of shelves) ≤ sum_by f (directories_named versions shelves)
  sum-shared versions h =
      let named = sum-named f none versions (places_of shelves) (λ d. f (directory_at (places_of shelves) d)) (λ d. omega arith)
      (λ d some. some_named versions h d (shelf_at shelves d) refl
      (let same : f (directory_at (places_of shelves) d) ≡ f (places_in (shelf_at shelves d)) = ap f (places-at shelves d) in omega (arith, same, some))) in
      omega (arith, named, sum-map versions)
