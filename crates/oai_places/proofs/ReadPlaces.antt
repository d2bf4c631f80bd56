-- What is so of a place of a directory that is read.
use Rattle.std.proofs.Common.{◌≡◌, ◌==◌, ◌&&◌, ◌∙◌, ◌+◌, ◌<◌, ◌≤◌, ℕ, ℤ, Bool, true, false, refl, List, ◌∷◌, ◌++◌, length, take, drop, get_or, sym, ap, subst, arith, IsTrue}
use Rattle.std.proofs.lemmas.Bool.{and_from, and_parts, both_ways, eqb-true, false_from_ne_true}
use Rattle.std.proofs.lemmas.List.{get_or_read}
use Rattle.oai_names.proofs.Lists.{cut}
use Rattle.oai_item.specs.Item.{ItemState}
use Rattle.oai_item.specs.Order.{are_in_order}
use Rattle.oai_item.specs.declared.decodings.DecodeFault.{DecodeFault}
use Rattle.oai_item.specs.declared.decodings.DecodeFault.TheVariants as decoding
use Rattle.oai_item.specs.declared.faults.Fault.{Fault}
use Rattle.oai_item.specs.declared.faults.Fault.TheVariants.{Damaged}
use Rattle.oai_item.proofs.Around.{in_order-append}
use Rattle.oai_pool.specs.declared.pools.PagePool.{Ghosts}
use Rattle.oai_places.specs.Calls.{ReadsPages, decoding_fault_of}
use Rattle.oai_places.specs.Directory.{IsDirectory}
use Rattle.oai_pool.specs.Names.{times}
use Rattle.oai_places.specs.Pages.{FitPage, IsPage, begins_at, fit_one, items_in, size_of}
use Rattle.oai_places.specs.Places.{FitPages, IsSoundPlace, Pages, PlaceState, are_below, bytes_on, items_at, items_on, named_in, page_at}
use Rattle.oai_places.specs.Searches.{MayBeAt, are_of}
use Rattle.oai_places.proofs.DirectoryLemmas.{goes_on, items-cut, no_place, placed-cut}
use Rattle.oai_places.proofs.OrderedPlaces.{own_below}
use Rattle.oai_places.proofs.HaveReadLemmas.{HaveRead, err_of}
use Rattle.oai_places.proofs.JoinedLemmas.{bytes_on-one}
use Rattle.oai_places.proofs.NameLemmas.{named_in-append, named_own}

-- a place of a directory stands on its page
pub placed_at : (pages : Pages) (places : List PlaceState) (at : ℕ) (p : PlaceState) → IsDirectory pages places → at < length places → p ≡ get_or places at p → IsSoundPlace pages p
placed_at pages places at p h within is =
    subst (λ (q : PlaceState). IsSoundPlace pages q) (sym (get_or_read places at p within is no_place)) (placed-cut pages places at no_place within h.placed).0

-- and its directory names these
pub named_at_place : (pages : Pages) (places : List PlaceState) (at : ℕ) (p : PlaceState) → at < length places → p ≡ get_or places at p → (n : ℕ) → 0 < times n p.pages → 0 < named_in places n
named_at_place pages places at p within is n named =
    let whole : named_in places n ≡ named_in (take at places) n + named_in (get_or places at p ∷ drop (at + 1) places) n =
    ap (λ ps. named_in ps n) (cut places at p within) ∙ named_in-append n (take at places) (get_or places at p ∷ drop (at + 1) places) in
    let own : named_in (get_or places at p ∷ drop (at + 1) places) n ≡ named_in (p ∷ drop (at + 1) places) n = ap (λ q. named_in (q ∷ drop (at + 1) places) n) (sym is) in
    omega (arith, whole, own, named_own n p (drop (at + 1) places) named)

pub page_of_place : (pages : Pages) (p : PlaceState) (numbers : List ℕ) → numbers ≡ p.pages → IsSoundPlace pages p → IsPage (bytes_on pages numbers) (items_in (bytes_on pages numbers))
unfolding items_at
page_of_place pages p numbers same h =
    subst (λ (ns : List ℕ). IsPage (bytes_on pages ns) (items_in (bytes_on pages ns))) (sym same) h.page

pub fit_of_place : (pages : Pages) (p : PlaceState) (numbers : List ℕ) → numbers ≡ p.pages → IsSoundPlace pages p → FitPages pages numbers (items_in (bytes_on pages numbers))
unfolding items_at
fit_of_place pages p numbers same h =
    subst (λ (ns : List ℕ). FitPages pages ns (items_in (bytes_on pages ns))) (sym same) h.many

-- the page of a place that has one alone
pub page_of_one : (pages : Pages) (p : PlaceState) (numbers bytes : List ℕ) → numbers ≡ p.pages → length p.pages ≤ 1 → IsSoundPlace pages p → bytes ≡ page_at pages (get_or numbers 0 0) → IsPage bytes (items_at pages p)
page_of_one pages p numbers bytes same few h e =
    let on : bytes ≡ bytes_on pages p.pages = e ∙ ap (λ (ns : List ℕ). page_at pages (get_or ns 0 0)) same ∙ sym (bytes_on-one pages p.pages h.many.some few) in
    subst (λ (bs : List ℕ). IsPage bs (items_at pages p)) (sym on) h.page

-- damage is found only over a device that is not honest
pub reads_damaged : {P A : Type 0} (g : Ghosts P) (p q : P) → HaveRead g p q → g.honest p ≡ false → ReadsPages g (err_of A Damaged) p q
reads_damaged g p q h not_honest = record {
  counts = h.counts;
  same = h.same;
  pool = record {
    room = record { enough = λ same. cc; used = omega (arith, h.room) };
    device = record { count = h.count; device = λ same. cc };
    honesty = record { same = h.honesty; damaged = λ _. not_honest };
  };
}

-- and so what cannot be read as items, where it is damaged
pub reads_undecoded : {P A : Type 0} (g : Ghosts P) (fault : DecodeFault) (told : Fault) (p q : P) → told ≡ decoding_fault_of fault → HaveRead g p q
    → (fault ≡ decoding.Damaged → g.honest p ≡ false) → ReadsPages g (err_of A told) p q
reads_undecoded {A = A} g fault told p q is h so = subst (λ (f : Fault). ReadsPages g (err_of A f) p q) (sym is) (of_fault fault so) where
  of_fault : (fault : DecodeFault) → (fault ≡ decoding.Damaged → g.honest p ≡ false) → ReadsPages g (err_of A (decoding_fault_of fault)) p q
  of_fault decoding.Damaged so = reads_damaged g p q h (so refl)
  of_fault decoding.NoMemory so = record {
    counts = h.counts;
    same = h.same;
    pool = record {
      room = record { enough = λ same. cc; used = omega (arith, h.room) };
      device = record { count = h.count; device = λ same. cc };
      honesty = record { same = h.honesty; damaged = λ same. cc };
    };
  }

pub not_honest_from : (honest test : Bool) → (IsTrue honest → test ≡ true) → test ≡ false → honest ≡ false
not_honest_from honest test h fails = false_from_ne_true honest (λ is. both_ways test fails (h is))

-- what was read at a place, over a device that is honest
pub items_read : (pages : Pages) (places : List PlaceState) (at : ℕ) (numbers : List ℕ) (p : PlaceState) (entries : List ItemState) → entries ≡ items_in (bytes_on pages numbers) → numbers ≡ p.pages → at < length places
    → p ≡ get_or places at p → (d : PlaceState) → entries ≡ items_at pages (get_or places at d)
unfolding items_at
items_read pages places at numbers p entries read same within is d =
    read ∙ ap (λ (ns : List ℕ). items_in (bytes_on pages ns)) (same ∙ ap (λ (q : PlaceState). q.pages) (get_or_read places at p within is d))

-- ---- over a device that is honest, the tests of what was read hold

read_is : (pages : Pages) (numbers : List ℕ) (p : PlaceState) (entries : List ItemState) → entries ≡ items_in (bytes_on pages numbers) → numbers ≡ p.pages → entries ≡ items_at pages p
unfolding items_at
read_is pages numbers p entries read same = read ∙ ap (λ (ns : List ℕ). items_in (bytes_on pages ns)) same

-- it begins as the place says
pub read_begins : (pages : Pages) (places : List PlaceState) (at : ℕ) (numbers : List ℕ) (p : PlaceState) (entries : List ItemState) (stamp : ℤ) (identifier : List ℕ) → IsDirectory pages places → at < length places
    → p ≡ get_or places at p → entries ≡ items_in (bytes_on pages numbers) → numbers ≡ p.pages → stamp ≡ p.stamp → identifier ≡ p.identifier → begins_at stamp identifier entries ≡ true
read_begins pages places at numbers p entries stamp identifier h within is read same dated named =
    (λ i. begins_at (dated i) (named i) (read_is pages numbers p entries read same i)) ∙ (placed_at pages places at p h within is).begins

-- and ends before the next one
pub read_below : (pages : Pages) (places : List PlaceState) (at : ℕ) (numbers : List ℕ) (p : PlaceState) (entries : List ItemState) → IsDirectory pages places → at < length places
    → p ≡ get_or places at p → entries ≡ items_in (bytes_on pages numbers) → numbers ≡ p.pages → are_below entries (drop (at + 1) places) ≡ true
read_below pages places at numbers p entries h within is read same =
    let own : List ItemState = items_at pages (get_or places at p) in
    let next : List PlaceState = drop (at + 1) places in
    let before : List ItemState = items_on pages (take at places) in
    let behind : List ItemState = items_on pages next in
    let parts = placed-cut pages places at p within h.placed in
    let rising : are_in_order (before ++ (own ++ behind)) ≡ true = sym (ap are_in_order (items-cut pages places at p within)) ∙ h.rising in
    ap (λ xs. are_below xs next) (read_is pages numbers p entries read same ∙ ap (items_at pages) is)
    ∙ own_below next own behind (in_order-append before (own ++ behind) rising).1 (goes_on pages next parts.1)

-- and there are as many, of as many bytes
pub read_whole : (pages : Pages) (places : List PlaceState) (at : ℕ) (numbers : List ℕ) (p : PlaceState) (entries : List ItemState) → IsDirectory pages places → at < length places
    → p ≡ get_or places at p → entries ≡ items_in (bytes_on pages numbers) → numbers ≡ p.pages → (length entries == p.len && size_of entries == p.size) ≡ true
read_whole pages places at numbers p entries h within is read same =
    let own = read_is pages numbers p entries read same in
    let sound = placed_at pages places at p h within is in
    and_from (length entries == p.len) (size_of entries == p.size) (same_eqb (length entries) p.len (ap length own ∙ sound.counted)) (same_eqb (size_of entries) p.size (ap size_of own ∙ sound.sized)) where
      same_eqb : (a b : ℕ) → a ≡ b → (a == b) ≡ true
      same_eqb a b e = grind (arith, e)

pub whole_from : (entries : List ItemState) (p : PlaceState) → (length entries == p.len && size_of entries == p.size) ≡ true → (length entries ≡ p.len) × (size_of entries ≡ p.size)
whole_from entries p h =
    let parts = and_parts (length entries == p.len) (size_of entries == p.size) h in
    (eqb-true (length entries) p.len parts.0, eqb-true (size_of entries) p.size parts.1)

-- all of it
pub read_of : (pages : Pages) (places : List PlaceState) (at : ℕ) (numbers : List ℕ) (p : PlaceState) (entries : List ItemState) → IsDirectory pages places → at < length places
    → p ≡ get_or places at p → entries ≡ items_in (bytes_on pages numbers) → numbers ≡ p.pages → are_of p (drop (at + 1) places) entries ≡ true
read_of pages places at numbers p entries h within is read same =
    let whole : Bool = length entries == p.len && size_of entries == p.size in
    let begins : Bool = begins_at p.stamp p.identifier entries in
    let below : Bool = are_below entries (drop (at + 1) places) in
    and_from (whole && begins) below
    (and_from whole begins (read_whole pages places at numbers p entries h within is read same) (read_begins pages places at numbers p entries p.stamp p.identifier h within is read same refl refl))
    (read_below pages places at numbers p entries h within is read same)

-- items that were read, and seen to be all, and to begin and to end so
pub may_be_read : (places : List PlaceState) (at : ℕ) (numbers : List ℕ) (p : PlaceState) (entries : List ItemState) (stamp : ℤ) (identifier : List ℕ) → at < length places → p ≡ get_or places at p
    → numbers ≡ p.pages → stamp ≡ p.stamp → identifier ≡ p.identifier → FitPage entries → (length numbers ≤ 1 → fit_one entries ≡ true) → (length entries ≡ p.len) × (size_of entries ≡ p.size) → begins_at stamp identifier entries ≡ true
    → are_below entries (drop (at + 1) places) ≡ true → MayBeAt places at entries
may_be_read places at numbers p entries stamp identifier within is paged dated named page fits whole begins below = record {
  page = page;
  whole = λ d. subst (λ (q : PlaceState). (length entries ≡ q.len) × (size_of entries ≡ q.size)) (get_or_read places at p within is d) whole;
  fits = λ d few. fits (omega (arith, few, ap length (paged ∙ ap (λ (q : PlaceState). q.pages) (get_or_read places at p within is d))));
  begins = λ d. sym (λ i. begins_at ((dated ∙ ap (λ (q : PlaceState). q.stamp) (get_or_read places at p within is d)) i) ((named ∙ ap (λ (q : PlaceState). q.identifier) (get_or_read places at p within is d)) i) entries) ∙ begins;
  below = below;
}

-- as one test
pub may_be_of : (places : List PlaceState) (at : ℕ) (numbers : List ℕ) (p : PlaceState) (entries : List ItemState) → at < length places → p ≡ get_or places at p → numbers ≡ p.pages
    → FitPage entries → (length numbers ≤ 1 → fit_one entries ≡ true) → are_of p (drop (at + 1) places) entries ≡ true → MayBeAt places at entries
may_be_of places at numbers p entries within is paged page fits test =
    let whole : Bool = length entries == p.len && size_of entries == p.size in
    let begins : Bool = begins_at p.stamp p.identifier entries in
    let parts = and_parts (whole && begins) (are_below entries (drop (at + 1) places)) test in
    let front = and_parts whole begins parts.0 in
    may_be_read places at numbers p entries p.stamp p.identifier within is paged refl refl page fits (whole_from entries p front.0) front.1 parts.1
