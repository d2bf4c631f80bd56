-- Pages read one after another.
use Rattle.std.proofs.Common.{◌≡◌, ◌∙◌, ◌⊎◌, ◌<◌, ◌≤◌, inl, inr, List, Result, Ok, Err, refl, sym, ap, subst, arith}
use Rattle.std.proofs.lemmas.Bool.{cases_lt}
use Rattle.oai_item.specs.declared.faults.Fault.{Fault}
use Rattle.oai_pool.specs.Counts.{count_of}
use Rattle.oai_pool.specs.Calls as pools
use Rattle.oai_pool.specs.declared.pools.PagePool.{Ghosts}
use Rattle.oai_pool.specs.declared.pools.PoolFault.{PoolFault}
use Rattle.oai_places.specs.Calls.{ReadsPages}
use Rattle.oai_places.specs.Directory.{IsDirectory, StandsIn}
use Rattle.oai_places.specs.Places.{Pages, PlaceState}

-- results of a type that is told
abbrev pub ok_of : {A : Type 0} → A → Result A Fault
ok_of a = Ok a

abbrev pub err_of : (A : Type 0) → Fault → Result A Fault
err_of A fault = Err fault

-- nothing but pages was read
pub record HaveRead {P : Type 0} (g : Ghosts P) (old new : P) : Type 0 where
  pub counts : g.counts new ≡ g.counts old
  pub same : g.pages new ≡ g.pages old
  pub room : g.room old ≤ g.room new
  pub count : g.failures old ≤ g.failures new
  pub honesty : g.honest new ≡ g.honest old

pub read_none : {P : Type 0} (g : Ghosts P) (p : P) → HaveRead g p p
read_none g p = record { counts = refl; same = refl; room = omega arith; count = omega arith; honesty = refl }

pub read_more : {P A : Type 0} (g : Ghosts P) (result : Result A Fault) (p q r : P) → HaveRead g p q → ReadsPages g result q r → HaveRead g p r
read_more g result p q r h k =
    let used = k.pool.room.used in
    let more = k.pool.device.count in
    record {
      counts = k.counts ∙ h.counts;
      same = k.same ∙ h.same;
      room = omega (arith, used, h.room);
      count = omega (arith, more, h.count);
      honesty = k.pool.honesty.same ∙ h.honesty;
    }

-- a page was read
pub read_page : {P A : Type 0} (g : Ghosts P) (result : Result A PoolFault) (p q : P) → g.counts q ≡ g.counts p → g.pages q ≡ g.pages p
    → pools.SpendsNumbers g.room g.failures g.cache_size g.honest 0 result p q → HaveRead g p q
read_page g result p q counts same pool = record {
  counts = counts;
  same = same;
  room = let room = pool.room in omega (arith, room);
  count = pool.device.count;
  honesty = pool.honesty;
}

pub read_ok : {P A : Type 0} (g : Ghosts P) (a : A) (p q : P) → HaveRead g p q → ReadsPages g (ok_of a) p q
read_ok g a p q h = record {
  counts = h.counts;
  same = h.same;
  pool = record {
    room = record { enough = tt; used = omega (arith, h.room) };
    device = record { count = h.count; device = tt };
    honesty = record { same = h.honesty; damaged = tt };
  };
}

-- a fault of a later read is one of all
pub read_err : {P A B : Type 0} (g : Ghosts P) (fault : Fault) (p q r : P) → HaveRead g p q → ReadsPages g (err_of A fault) q r → ReadsPages g (err_of B fault) p r
read_err g fault p q r h k =
    let used = k.pool.room.used in
    let more = k.pool.device.count in
    record {
      counts = k.counts ∙ h.counts;
      same = k.same ∙ h.same;
      pool = record {
        room = record { enough = λ full. omega (arith, k.pool.room.enough full, h.room); used = omega (arith, used, h.room) };
        device = record { count = omega (arith, more, h.count); device = λ failed. rose (k.pool.device.device failed) };
        honesty = record { same = k.pool.honesty.same ∙ h.honesty; damaged = λ damage. sym h.honesty ∙ k.pool.honesty.damaged damage };
      };
    } where
      rose : (g.failures q < g.failures r) ⊎ (g.failures q ≡ 18446744073709551615) → (g.failures p < g.failures r) ⊎ (g.failures p ≡ 18446744073709551615)
      rose (inl up) = inl (omega (arith, up, h.count))
      rose (inr top) = top_of (cases_lt (g.failures p) (g.failures r)) where
        top_of : (g.failures p < g.failures r) ⊎ (g.failures r ≤ g.failures p) → (g.failures p < g.failures r) ⊎ (g.failures p ≡ 18446744073709551615)
        top_of (inl up) = inl up
        top_of (inr no_more) = inr (omega (arith, top, no_more, h.count, k.pool.device.count))

-- the same, of a result that is known to be that fault
pub read_failed : {P A B : Type 0} (g : Ghosts P) (result : Result B Fault) (fault : Fault) (p q r : P) → result ≡ err_of B fault → HaveRead g p q → ReadsPages g (err_of A fault) q r → ReadsPages g result p r
read_failed {B = B} g result fault p q r is h k = subst (λ (result : Result B Fault). ReadsPages g result p r) (sym is) (read_err g fault p q r h k)

-- a directory still stands
pub stands_read : {P : Type 0} (g : Ghosts P) (places : List PlaceState) (p q : P) → HaveRead g p q → StandsIn g p places → StandsIn g q places
stands_read g places p q h k = record {
  directory = subst (λ (pages : Pages). IsDirectory pages places) (sym h.same) k.directory;
  named = λ n. omega (arith, k.named n, ap (λ counts. count_of counts n) h.counts);
}
