-- The items of places, over pages that change elsewhere.
use Rattle.std.proofs.Common.{◌≡◌, ◌∙◌, ◌==◌, ◌<◌, ℕ, List, [], ◌∷◌, ◌++◌, drop, get_or, length, refl, sym, ap, subst, arith, unwrap_or}
use Rattle.std.specs.Prelude.{map}
use Rattle.std.specs.List.{AllByRecursion, list_all}
use Rattle.std.proofs.lemmas.Grind.{flat_map-append}
use Rattle.oai_item.specs.Item.{ItemState}
use Rattle.oai_pool.specs.Names.{times}
use Rattle.oai_places.specs.Pages.{IsPage, begins_at, fit_one, items_in, joined_pages, pages_of, size_of}
use Rattle.oai_places.specs.Places.{AreSetCounts, FitPages, IsSoundPlace, Pages, PlaceState, bytes_on, have_records, items_at, items_on, named_in, page_at}
use Rattle.oai_places.specs.declared.sizes.TheConstants.{FRONT_BYTES}
use Rattle.oai_places.proofs.NameLemmas.{named_in-cons, named_own, times-cons, times-first, times-here}

-- ---- items of places one after the other

pub items_on-append : (pages : Pages) (a b : List PlaceState) → items_on pages (a ++ b) ≡ items_on pages a ++ items_on pages b
unfolding items_on
items_on-append pages a b = flat_map-append (items_at pages) a b

pub items_on-cons : (pages : Pages) (place : PlaceState) (places : List PlaceState) → items_on pages (place ∷ places) ≡ items_at pages place ++ items_on pages places
unfolding items_on
items_on-cons pages place places = refl

pub items_on-nil : (pages : Pages) → items_on pages [] ≡ []
unfolding items_on
items_on-nil pages = refl

-- ---- what is so of each of the places

pub placed-append : (pages : Pages) (a b : List PlaceState) → AllByRecursion (IsSoundPlace pages) a → AllByRecursion (IsSoundPlace pages) b → AllByRecursion (IsSoundPlace pages) (a ++ b)
placed-append pages [] b h g = g
placed-append pages (p ∷ a) b h g = (h.0, placed-append pages a b h.1 g)

pub placed-parts : (pages : Pages) (a b : List PlaceState) → AllByRecursion (IsSoundPlace pages) (a ++ b) → AllByRecursion (IsSoundPlace pages) a × AllByRecursion (IsSoundPlace pages) b
placed-parts pages [] b h = (tt, h)
placed-parts pages (p ∷ a) b h = let rest = placed-parts pages a b h.1 in ((h.0, rest.0), rest.1)

-- ---- pages that are kept

-- each page of these numbers is as it was
abbrev pub StayUnder : Pages → Pages → List ℕ → Type 0
StayUnder old new numbers = (n : ℕ) → 0 < times n numbers → new n ≡ old n

pub pages_under-same : (old new : Pages) (numbers : List ℕ) → StayUnder old new numbers → map (page_at new) numbers ≡ map (page_at old) numbers
pages_under-same old new [] kept = refl
pages_under-same old new (k ∷ numbers) kept =
    let here : page_at new k ≡ page_at old k = ap (λ o. unwrap_or o []) (kept k (omega (arith, times-here k numbers))) in
    let others = pages_under-same old new numbers (λ n named. kept n (omega (arith, named, times-cons n k numbers))) in
    λ i. here i ∷ others i

pub bytes_on-same : (old new : Pages) (numbers : List ℕ) → StayUnder old new numbers → bytes_on new numbers ≡ bytes_on old numbers
unfolding bytes_on
bytes_on-same old new numbers kept = ap joined_pages (pages_under-same old new numbers kept)

pub items_at-same : (old new : Pages) (place : PlaceState) → StayUnder old new place.pages → items_at new place ≡ items_at old place
unfolding items_at
items_at-same old new place kept = ap items_in (bytes_on-same old new place.pages kept)

fit-same : (old new : Pages) (numbers : List ℕ) (a b : List ItemState) → StayUnder old new numbers → b ≡ a → FitPages old numbers a → FitPages new numbers b
fit-same old new numbers a b kept same h = record {
  some = h.some;
  few = h.few;
  one = λ few. ap fit_one same ∙ h.one few;
  alone = λ long. ap length same ∙ h.alone long;
  zeros = λ long. ap (λ o. list_all (λ byte. byte == 0) (drop FRONT_BYTES (unwrap_or o []))) (kept (get_or numbers 0 0) (times-first numbers h.some)) ∙ h.zeros long;
}

pub placed-same : (old new : Pages) (place : PlaceState) → StayUnder old new place.pages → IsSoundPlace old place → IsSoundPlace new place
placed-same old new place kept h =
    let items = items_at-same old new place kept in
    record {
      written = pages_under-same old new place.pages kept ∙ h.written ∙ ap pages_of (sym items);
      page = subst (λ (b : List ℕ). IsPage b (items_at new place)) (sym (bytes_on-same old new place.pages kept)) (subst (λ (xs : List ItemState). IsPage (bytes_on old place.pages) xs) (sym items) h.page);
      many = fit-same old new place.pages (items_at old place) (items_at new place) kept items h.many;
      begins = ap (begins_at place.stamp place.identifier) items ∙ h.begins;
      counted = ap length items ∙ h.counted;
      sized = ap size_of items ∙ h.sized;
      common = ap (have_records place.prefixes) items ∙ h.common;
      sets = subst (λ (zs : List ItemState). AreSetCounts place.sets zs) (sym items) h.sets;
    }

-- each page that the places name is as it was
abbrev pub AreKept : Pages → Pages → List PlaceState → Type 0
AreKept old new places = (n : ℕ) → 0 < named_in places n → new n ≡ old n

kept-own : (old new : Pages) (place : PlaceState) (places : List PlaceState) → AreKept old new (place ∷ places) → StayUnder old new place.pages
kept-own old new place places kept n named = kept n (named_own n place places named)

pub kept-rest : (old new : Pages) (place : PlaceState) (places : List PlaceState) → AreKept old new (place ∷ places) → AreKept old new places
kept-rest old new place places kept n named = kept n (omega (arith, named_in-cons n place places))

pub items_on-same : (old new : Pages) (places : List PlaceState) → AllByRecursion (IsSoundPlace old) places → AreKept old new places → items_on new places ≡ items_on old places
items_on-same old new [] h kept = items_on-nil new ∙ sym (items_on-nil old)
items_on-same old new (place ∷ places) h kept =
    items_on-cons new place places
    ∙ ap (λ xs. xs ++ items_on new places) (items_at-same old new place (kept-own old new place places kept))
    ∙ ap (λ xs. items_at old place ++ xs) (items_on-same old new places h.1 (kept-rest old new place places kept))
    ∙ sym (items_on-cons old place places)

pub all_placed-same : (old new : Pages) (places : List PlaceState) → AllByRecursion (IsSoundPlace old) places → AreKept old new places → AllByRecursion (IsSoundPlace new) places
all_placed-same old new [] h kept = tt
all_placed-same old new (place ∷ places) h kept =
    (placed-same old new place (kept-own old new place places kept) h.0, all_placed-same old new places h.1 (kept-rest old new place places kept))
