-- Pages added for items, and their place.
use Rattle.std.proofs.Common.{◌≡◌, ◌∙◌, ◌+◌, ◌≤◌, if◌then◌else◌, ◌==◌, ℕ, List, [], ◌∷◌, ◌++◌, Some, length, refl, sym, ap, subst, arith, append-nil, unwrap_or, Bool, true, false, inl, inr}
use Rattle.std.specs.Prelude.{map}
use Rattle.std.proofs.lemmas.Bool.{cases_eq, ne_eqb}
use Rattle.std.proofs.lemmas.List.{map-append}
use Rattle.oai_item.specs.Item.{ItemState}
use Rattle.oai_pool.specs.Counts.{AddsName, KeepsNamed, count_of}
use Rattle.oai_pool.specs.Names.{times}
use Rattle.oai_pool.specs.declared.pools.PagePool.{Ghosts}
use Rattle.oai_paged.specs.Changes.{Adds}
use Rattle.oai_places.specs.Pages.{FitAlone, FitPage, begins_at, pages_of, size_of}
use Rattle.oai_places.specs.Places.{AreSetCounts, IsSoundPlace, Pages, PlaceState, bytes_on, have_records, items_at, named_in, page_at}
use Rattle.oai_places.specs.Recounts.{AddsNumbers, Recounts}
use Rattle.oai_places.proofs.NameLemmas.{named_in-cons, named_in-nil, times-append, times-nil, times-one}
use Rattle.oai_places.proofs.OverflowLemmas.{fit_pages, page_on}
use Rattle.oai_places.proofs.PageLemmas.{items_in-page}
use Rattle.oai_places.proofs.PlaceLemmas.{items_on-cons, items_on-nil, pages_under-same}
use Rattle.oai_places.proofs.RecountLemmas.{recounts_then}

-- ---- pages added one after the other

module _ {P : Type 0} (g : Ghosts P) where
  pub adds_no_number : (p : P) → AddsNumbers g [] [] p p
  adds_no_number p = record {
    pages = refl;
    once = λ n. omega (arith, times-nil n);
    fresh = λ n _. times-nil n;
    names = record { counts = λ n. refl; kept = λ n _. refl };
  }

  -- one more, under a number that nobody named
  pub adds_number : (added : List (List ℕ)) (numbers : List ℕ) (k : ℕ) (page : List ℕ) (p q r : P) → AddsNumbers g added numbers p q
      → count_of (g.counts q) k ≡ 0 → AddsName k (g.counts q) (g.counts r) → KeepsNamed (g.counts q) (g.pages q) (g.pages r) → g.pages r k ≡ Some page
      → AddsNumbers g (added ++ page ∷ []) (numbers ++ k ∷ []) p r
  adds_number added numbers k page p q r h free adds kept is = record {
    pages =
        let here : page_at (g.pages r) k ≡ page = ap (λ o. unwrap_or o []) is in
        let before : map (page_at (g.pages r)) numbers ≡ added =
        pages_under-same (g.pages q) (g.pages r) numbers (λ n named. kept n (omega (arith, named, h.names.counts n, times-nil n))) ∙ h.pages in
        map-append (page_at (g.pages r)) numbers (k ∷ []) ∙ (λ i. before i ++ here i ∷ []);
    once = λ n. elim (cases_eq n k) [
      | inl same ↦
          let none : count_of (g.counts q) n ≡ 0 = ap (count_of (g.counts q)) same ∙ free in
          omega (arith, none, h.names.counts n, times-nil n, times-append n numbers (k ∷ []), most_one n)
      | inr apart ↦ omega (arith, h.once n, times-append n numbers (k ∷ []), other n apart)
    ];
    fresh = λ n named. elim (cases_eq n k) [
      | inl same ↦
          let none : count_of (g.counts q) n ≡ 0 = ap (count_of (g.counts q)) same ∙ free in
          absurd (omega (arith, none, named, h.names.counts n, times-nil n))
      | inr apart ↦ omega (arith, h.fresh n named, times-append n numbers (k ∷ []), other n apart)
    ];
    names = recounts_then g [] numbers [] (k ∷ []) p q r h.names (record {
      counts = λ n. omega (arith, adds n, times-one n k, times-nil n);
      kept = λ n named. kept n (omega (arith, named, times-nil n));
    });
  } where
    other : (n : ℕ) → (n ≡ k → ⊥) → times n (k ∷ []) ≡ 0
    other n apart = times-one n k ∙ ap (λ b. if b then 1 else 0) (ne_eqb n k apart)

    at_most : (b : Bool) → (if b then 1 else 0) ≤ 1
    at_most true = omega arith
    at_most false = omega arith

    most_one : (n : ℕ) → times n (k ∷ []) ≤ 1
    most_one n = omega (arith, times-one n k, at_most (n == k))

  -- a page that could not be added: the others are as they were
  pub recounts_kept : (p q : P) → g.counts q ≡ g.counts p → KeepsNamed (g.counts p) (g.pages p) (g.pages q) → Recounts g [] [] p q
  recounts_kept p q counts kept = record {
    counts = λ n. ap (λ all. count_of all n + times n []) counts;
    kept = λ n named. kept n (omega (arith, named, times-nil n));
  }

-- ---- the place of pages that were added for items

pub items_at-pages : (pages : Pages) (items : List ItemState) (place : PlaceState) → map (page_at pages) place.pages ≡ pages_of items → FitPage items → FitAlone items → items_at pages place ≡ items
unfolding items_at
items_at-pages pages items place is fit alone = items_in-page (bytes_on pages place.pages) items (page_on pages place.pages items is fit alone)

placed_pages : (pages : Pages) (items : List ItemState) (place : PlaceState) → map (page_at pages) place.pages ≡ pages_of items → FitPage items → FitAlone items
    → begins_at place.stamp place.identifier items ≡ true → place.len ≡ length items → place.size ≡ size_of items → have_records place.prefixes items ≡ true → AreSetCounts place.sets items → IsSoundPlace pages place
placed_pages pages items place is fit alone begins counted sized common sets =
    let same = items_at-pages pages items place is fit alone in
    record {
      written = is ∙ ap pages_of (sym same);
      page = rw same (page_on pages place.pages items is fit alone);
      many = rw same (fit_pages pages place.pages items is fit.storable alone);
      begins = ap (begins_at place.stamp place.identifier) same ∙ begins;
      counted = ap length same ∙ sym counted;
      sized = ap size_of same ∙ sym sized;
      common = ap (have_records place.prefixes) same ∙ common;
      sets = subst (λ (zs : List ItemState). AreSetCounts place.sets zs) (sym same) sets;
    }

own_numbers : (place : PlaceState) (numbers : List ℕ) (n : ℕ) → place.pages ≡ numbers → named_in (place ∷ []) n ≡ times n numbers
own_numbers place numbers n own =
    let all = named_in-cons n place [] in
    let same : times n place.pages ≡ times n numbers = ap (times n) own in
    omega (arith, all, named_in-nil n, same)

pub adds_page : {P : Type 0} (g : Ghosts P) (items : List ItemState) (place : PlaceState) (numbers : List ℕ) (old new : P) → AddsNumbers g (pages_of items) numbers old new
    → FitPage items → FitAlone items → place.pages ≡ numbers
    → begins_at place.stamp place.identifier items ≡ true → place.len ≡ length items → place.size ≡ size_of items → have_records place.prefixes items ≡ true → AreSetCounts place.sets items → Adds g items (place ∷ []) old new
adds_page g items place numbers old new h fit alone own begins counted sized common sets =
    let is : map (page_at (g.pages new)) place.pages ≡ pages_of items = ap (map (page_at (g.pages new))) own ∙ h.pages in
    record {
      placed = (placed_pages (g.pages new) items place is fit alone begins counted sized common sets, tt);
      items =
          items_on-cons (g.pages new) place [] ∙ ap (λ zs. items_at (g.pages new) place ++ zs) (items_on-nil (g.pages new))
          ∙ append-nil (items_at (g.pages new) place) ∙ items_at-pages (g.pages new) items place is fit alone;
      once = λ n. omega (arith, own_numbers place numbers n own, h.once n);
      fresh = λ n named. own_numbers place numbers n own ∙ h.fresh n named;
      names = record {
        counts = λ n. omega (arith, own_numbers place numbers n own, h.names.counts n, named_in-nil n, times-nil n);
        kept = λ n named. h.names.kept n (omega (arith, named, named_in-nil n, times-nil n));
      };
    }
