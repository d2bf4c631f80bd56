-- What the pool of a store holds: no more pages than all lists have items, and each item on one of them.
use Rattle.std.proofs.Common.{◌≡◌, ◌∙◌, ◌+◌, ◌*◌, ◌<◌, ◌≤◌, ℕ, suc, zero, List, [], ◌∷◌, ◌++◌, Option, None, Some, length, length-append, take, min, refl, sym, ap, subst, arith, inl, inr, Contains, unwrap_or}
use Rattle.std.specs.Prelude.{option_map, sum_by}
use Rattle.std.specs.List.{AllByRecursion}
use Rattle.std.proofs.lemmas.Bool.{cases_lt}
use Rattle.std.proofs.lemmas.List.Elements.{Contains-append_cases}
use Rattle.std.proofs.lemmas.List.Sums.{sum_by-cons}
use Rattle.std.proofs.lemmas.Option.{none-some}
use Rattle.oai_catalogue.specs.Store.{VersionLists, list_at}
use Rattle.oai_item.specs.Item.{ItemState}
use Rattle.oai_pool.specs.Counts.{count_of, used_of}
use Rattle.oai_pool.specs.Names.{times}
use Rattle.oai_pool.specs.declared.pools.TheConstants.{MAX_PAGES}
use Rattle.oai_places.specs.Directory.{IsDirectory}
use Rattle.oai_places.specs.Pages.{FitAlone}
use Rattle.oai_places.specs.Places.{FitPages, IsSoundPlace, Pages, PlaceState, items_at, items_on, named_in, page_numbers}
use Rattle.oai_paged.specs.Shelves.{AreShelved, Directories, StandsOnPages, calls_left, directory_at, items_below, lists_on, most_of, named_at, named_by_all}
use Rattle.oai_paged.specs.Versions.{AreShared, DirectoryNumbers, Shelves, directories_named, directory_number_at, places_of}
use Rattle.oai_paged.proofs.FewLemmas.{used_few}
use Rattle.oai_places.proofs.NameLemmas.{named_in-cons, named_own, times-append, times-nil}
use Rattle.oai_places.proofs.PlaceLemmas.{items_on-cons, items_on-nil}
use Rattle.oai_paged.proofs.RoomLemmas.{most_of-le}
use Rattle.oai_paged.proofs.ShelfLemmas.{shelved_named}
use Rattle.oai_paged.proofs.SlotLemmas.{sum-all, sum-first}
use Rattle.oai_paged.proofs.VersionLemmas.{list_named, lists-named, sum-shared}

-- ---- how many pages

-- the numbers that all directories name
abbrev numbers_in : Option (List PlaceState) → List ℕ
numbers_in None = []
numbers_in (Some places) = page_numbers places

abbrev all_numbers : Directories → List ℕ
all_numbers [] = []
all_numbers (slot ∷ slots) = numbers_in slot ++ all_numbers slots

times-slot : (n : ℕ) (slot : Option (List PlaceState)) → times n (numbers_in slot) ≡ named_at n slot
times-slot n None = times-nil n
times-slot n (Some places) = refl

times-all : (n : ℕ) (slots : Directories) → times n (all_numbers slots) ≡ named_by_all slots n
unfolding named_by_all
times-all n [] = times-nil n
times-all n (slot ∷ slots) =
    omega (
      arith,
      times-append n (numbers_in slot) (all_numbers slots),
      times-slot n slot,
      times-all n slots,
      sum_by-cons (named_at n) slot
          slots,
    )

-- how many items the list of a slot has
abbrev items_in_slot : Pages → Option (List PlaceState) → ℕ
items_in_slot pages slot = length (unwrap_or (option_map (items_on pages) slot) [])

-- a place has an item at least, and 65 pages at most
numbers-le-items : (pages : Pages) (places : List PlaceState) → AllByRecursion (IsSoundPlace pages) places
    → length (page_numbers places) ≤ 65 * length (items_on pages places)
unfolding page_numbers
numbers-le-items pages [] h = omega arith
numbers-le-items pages (place ∷ places) h =
    let items : length (items_on pages (place ∷ places)) ≡ length (items_at pages place) + length (items_on pages places)
    = ap length (items_on-cons pages place places) ∙ length-append (items_at pages place) (items_on pages places) in
    let few = h.0.many.few in
    let some = h.0.page.fit.some in
    omega (arith, items, few, some, length-append place.pages (page_numbers places), numbers-le-items pages places h.1)

slot-le : (pages : Pages) (slot : Option (List PlaceState)) → ((places : List PlaceState) → slot ≡ Some places → IsDirectory pages places)
    → length (numbers_in slot) ≤ 65 * items_in_slot pages slot
slot-le pages None h = omega arith
slot-le pages (Some places) h = numbers-le-items pages places (h places refl).placed

all-le : (pages : Pages) (slots : Directories)
    → ((v : ℕ) (places : List PlaceState) → directory_at slots v ≡ Some places → IsDirectory pages places)
    → length (all_numbers slots) ≤ 65 * sum_by (items_in_slot pages) slots
all-le pages [] h = omega arith
all-le pages (slot ∷ slots) h =
    omega (
      arith,
      length-append (numbers_in slot) (all_numbers slots),
      slot-le pages slot (h 0),
      all-le pages slots (λ v. h (suc v)),
      sum_by-cons (items_in_slot pages) slot slots,
    )

first-le : (pages : Pages) (slots : Directories) (limit : ℕ)
    → sum_by (items_in_slot pages) (take limit slots) ≤ items_below limit (lists_on pages slots)
unfolding items_below
first-le pages slots zero = omega arith
first-le pages slots (suc v) = omega (arith, sum-first (items_in_slot pages) refl v slots, first-le pages slots v)

no_directory : (pages : Pages) (slot : Option (List PlaceState)) → option_map (items_on pages) slot ≡ None → slot ≡ None
no_directory pages None h = refl
no_directory pages (Some places) h = absurd (none-some (items_on pages places) (sym h))

pub used_below : (counts : List ℕ) (pages : Pages) (versions : DirectoryNumbers) (shelves : Shelves) (limit : ℕ)
    → AreShelved counts pages (places_of shelves) → AreShared versions shelves
    → ((v : ℕ) → limit ≤ v → lists_on pages (directories_named versions shelves) v ≡ None)
    → used_of counts ≤ 65 * items_below limit (lists_on pages (directories_named versions shelves))
used_below counts pages versions shelves limit h s empty =
    let slots = places_of shelves in
    let named = directories_named versions shelves in
    let used : used_of counts ≤ length (all_numbers slots) = used_few counts (all_numbers slots)
    (λ n. let all = times-all n slots in let counted = h.counted n in omega (arith, all, counted)) in
    let whole : sum_by (items_in_slot pages) named ≡ sum_by (items_in_slot pages) (take limit named) = sum-all (items_in_slot pages) refl
    limit named (λ v above. no_directory pages (directory_at named v) (empty v above)) in
    omega (arith, used, whole, all-le pages slots h.directories, sum-shared (items_in_slot pages) refl shelves versions s, first-le pages named limit)

-- ---- where each item stands

-- it stands at one of the places
record IsHeld (pages : Pages) (places : List PlaceState) (item : ItemState) : Type 0 where
  pub place : PlaceState
  pub named : (n : ℕ) → 0 < times n place.pages → 0 < named_in places n
  pub placed : IsSoundPlace pages place
  pub among : Contains (items_at pages place) item

held_at : (pages : Pages) (places : List PlaceState) (item : ItemState) → AllByRecursion (IsSoundPlace pages) places
    → Contains (items_on pages places) item → IsHeld pages places item
held_at pages [] item h among = absurd (let within = (subst (λ (items : List ItemState). Contains items item) (items_on-nil pages) among).1
    in omega (arith, within))
held_at pages (place ∷ places) item h among =
    elim (Contains-append_cases (items_at pages place) (items_on pages places) item
    (subst (λ (items : List ItemState). Contains items item) (items_on-cons pages place places) among)) [
      | inl here ↦ record { place = place; named = λ n own. named_own n place places own; placed = h.0; among = here }
      | inr there ↦
          let rest = held_at pages places item h.1 there in
          record {
            place = rest.place;
            named = λ n own. omega (arith, named_in-cons n place places, rest.named n own);
            placed = rest.placed;
            among = rest.among;
          }
    ]

-- items of one page fit on it, and those of several are one
fit_alone : (pages : Pages) (numbers : List ℕ) (items : List ItemState) → FitPages pages numbers items → FitAlone items
fit_alone pages numbers items h =
    elim (cases_lt 1 (length numbers)) [
      | inl long ↦ inr (h.alone long)
      | inr few ↦ inl (h.one few)
    ]

held_in : (counts : List ℕ) (pages : Pages) (slots : Directories) (v : ℕ) (item : ItemState) → AreShelved counts pages slots
    → (slot : Option (List PlaceState)) → directory_at slots v ≡ slot
    → Contains (unwrap_or (option_map (items_on pages) slot) []) item → StandsOnPages counts pages item
held_in counts pages slots v item h None is among = absurd (let within = among.1 in omega (arith, within))
held_in counts pages slots v item h (Some places) is among =
    let held = held_at pages places item (h.directories v places is).placed among in
    record {
      numbers = held.place.pages;
      items = items_at pages held.place;
      named = λ n own. omega (arith, shelved_named counts pages slots h v places is n, held.named n own);
      written = held.placed.written;
      fit = held.placed.page.fit;
      alone = fit_alone pages held.place.pages (items_at pages held.place) held.placed.many;
      among = held.among;
    }

held_by : (counts : List ℕ) (pages : Pages) (shelves : Shelves) (item : ItemState) → AreShelved counts pages (places_of shelves)
    → (o : Option ℕ) → Contains (unwrap_or (list_named (lists_on pages (places_of shelves)) o) []) item → StandsOnPages counts pages item
held_by counts pages shelves item h None among = absurd (let within = among.1 in omega (arith, within))
held_by counts pages shelves item h (Some d) among = held_in counts pages (places_of shelves) d item h (directory_at (places_of shelves) d) refl among

pub held : (counts : List ℕ) (pages : Pages) (versions : DirectoryNumbers) (shelves : Shelves) (v : ℕ) (item : ItemState)
    → AreShelved counts pages (places_of shelves)
    → Contains (list_at (lists_on pages (directories_named versions shelves)) v) item → StandsOnPages counts pages item
held counts pages versions shelves v item h among =
    held_by counts pages shelves item h (directory_number_at versions v)
    (subst (λ (lists : VersionLists). Contains (list_at lists v) item) (lists-named pages versions shelves) among)

-- ---- a store of no version

none_named : (counts : List ℕ) → used_of counts ≡ 0 → (n : ℕ) → count_of counts n ≡ 0
none_named [] h n = refl
none_named (c ∷ counts) h zero = let own = sum_by-cons (λ count. min count 1) c counts in omega (arith, own, h)
none_named (c ∷ counts) h (suc n) = none_named counts (let own = sum_by-cons (λ count. min count 1) c counts in omega (arith, own, h)) n

pub shelved_none : (counts : List ℕ) (pages : Pages) → used_of counts ≡ 0 → AreShelved counts pages []
unfolding named_by_all
shelved_none counts pages none = record {
  counted = none_named counts none;
  directories = λ v places is. absurd (none-some places is);
}

pub all_left : (a : ℕ) (counts : List ℕ) → used_of counts ≡ 0 → MAX_PAGES ≤ a → 63_161_283 ≤ calls_left a counts
all_left a counts none most =
    let least : most_of counts ≤ 0 = most_of-le counts 0 (λ n. let zero_times = none_named counts none n in omega (arith, zero_times)) in
    omega (arith, least)
