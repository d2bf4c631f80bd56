-- What calls one after another take of a pool, and which fault they tell.
use Rattle.std.proofs.Common.{◌≡◌, ◌∙◌, ◌⊎◌, ◌+◌, ◌<◌, ◌≤◌, ℕ, inl, inr, Result, Ok, Err, refl, sym, subst, arith}
use Rattle.std.proofs.lemmas.Bool.{cases_lt}
use Rattle.oai_catalogue.specs.Store.{Spares, Spends}
use Rattle.oai_item.specs.declared.faults.Fault.{Fault}
use Rattle.oai_pool.specs.Calls as pool
use Rattle.oai_pool.specs.declared.pools.PagePool.{Ghosts}
use Rattle.oai_pool.specs.declared.pools.PoolFault.{PoolFault}
use Rattle.oai_pool.specs.declared.pools.PoolFault.TheVariants.{Damaged, Device, NoMemory, TooManyPages}
use Rattle.oai_places.specs.Calls.{ReadsPages, fault_of}

-- results of a type that is told
abbrev pub ok_of : {A : Type 0} → A → Result A Fault
ok_of a = Ok a

abbrev pub err_of : (A : Type 0) → Fault → Result A Fault
err_of A fault = Err fault

abbrev pub pool_ok_of : {A : Type 0} → A → Result A PoolFault
pool_ok_of a = Ok a

abbrev pub pool_err_of : (A : Type 0) → PoolFault → Result A PoolFault
pool_err_of A fault = Err fault

-- a fault of the pool, as a store tells it
pub spends_fault : {P A B : Type 0} (g : Ghosts P) (numbers : ℕ) (fault : PoolFault) (p q : P)
    → pool.SpendsNumbers g.room g.failures g.cache_size g.honest numbers (pool_err_of A fault) p q → Spends g.room g.failures g.honest numbers (err_of B (fault_of fault)) p q
spends_fault g numbers Device p q h = record {
  room = record { enough = λ same. cc; used = h.room };
  device = record { count = h.device.count; device = λ same. h.device.device refl };
  honesty = record { same = h.honesty; damaged = λ same. cc };
}
spends_fault g numbers Damaged p q h = record {
  room = record { enough = λ same. cc; used = h.room };
  device = record { count = h.device.count; device = λ same. cc };
  honesty = record { same = h.honesty; damaged = λ same. h.damaged refl };
}
spends_fault g numbers NoMemory p q h = record {
  room = record { enough = λ same. cc; used = h.room };
  device = record { count = h.device.count; device = λ same. cc };
  honesty = record { same = h.honesty; damaged = λ same. cc };
}
spends_fault g numbers TooManyPages p q h = record {
  room = record { enough = λ same. h.enough refl; used = h.room };
  device = record { count = h.device.count; device = λ same. cc };
  honesty = record { same = h.honesty; damaged = λ same. cc };
}

-- no call
pub spends_none : {P A : Type 0} (g : Ghosts P) (x : A) (p : P) → Spends g.room g.failures g.honest 0 (ok_of x) p p
spends_none g x p = record {
  room = record { enough = tt; used = omega arith };
  device = record { count = omega arith; device = tt };
  honesty = record { same = refl; damaged = tt };
}

-- a call of a pool
pub spends_call : {P A B : Type 0} (g : Ghosts P) (numbers : ℕ) (x : A) (y : B) (p q : P)
    → pool.SpendsNumbers g.room g.failures g.cache_size g.honest numbers (pool_ok_of x) p q → Spends g.room g.failures g.honest numbers (ok_of y) p q
spends_call g numbers x y p q h = record {
  room = record { enough = tt; used = h.room };
  device = record { count = h.device.count; device = tt };
  honesty = record { same = h.honesty; damaged = tt };
}

-- it takes no more where it answers another value
pub spends_ok : {P A B : Type 0} (g : Ghosts P) (numbers : ℕ) (x : A) (y : B) (old new : P) → Spends g.room g.failures g.honest numbers (ok_of x) old new → Spends g.room g.failures g.honest numbers (ok_of y) old new
spends_ok g numbers x y old new h = record {
  room = record { enough = tt; used = h.room.used };
  device = record { count = h.device.count; device = tt };
  honesty = record { same = h.honesty.same; damaged = tt };
}

pub spends_err : {P A B : Type 0} (g : Ghosts P) (numbers : ℕ) (fault : Fault) (p q : P) → Spends g.room g.failures g.honest numbers (err_of A fault) p q → Spends g.room g.failures g.honest numbers (err_of B fault) p q
spends_err g numbers fault p q h = record {
  room = record { enough = h.room.enough; used = h.room.used };
  device = record { count = h.device.count; device = h.device.device };
  honesty = record { same = h.honesty.same; damaged = h.honesty.damaged };
}

-- more is enough too
pub spends_more : {P A : Type 0} (g : Ghosts P) (a b : ℕ) (r : Result A Fault) (p q : P) → a ≤ b → Spends g.room g.failures g.honest a r p q → Spends g.room g.failures g.honest b r p q
spends_more g a b (Ok x) p q le h = record { room = record { enough = tt; used = let used = h.room.used in omega (arith, used, le) }; device = h.device; honesty = h.honesty }
spends_more g a b (Err f) p q le h =
    record { room = record { enough = λ full. omega (arith, h.room.enough full, le); used = let used = h.room.used in omega (arith, used, le) }; device = h.device; honesty = h.honesty }

-- a fault that is passed on
pub spends_failed : {P A B : Type 0} (g : Ghosts P) (a b : ℕ) (fault : Fault) (result : Result B Fault) (p q : P) → result ≡ err_of B fault → a ≤ b → Spends g.room g.failures g.honest a (err_of A fault) p q → Spends g.room g.failures g.honest b result p q
spends_failed {B = B} g a b fault result p q is less h =
    subst (λ (r : Result B Fault). Spends g.room g.failures g.honest b r p q) (sym is) (spends_more g a b (err_of B fault) p q less (spends_err g a fault p q h))

-- a call after one that succeeded
pub spends_both : {P A B : Type 0} (g : Ghosts P) (a b : ℕ) (x : A) (r : Result B Fault) (p q s : P) → Spends g.room g.failures g.honest a (ok_of x) p q → Spends g.room g.failures g.honest b r q s → Spends g.room g.failures g.honest (a + b) r p s
spends_both g a b x (Ok y) p q s h k =
    let used = h.room.used in
    let more = k.room.used in
    let first = h.device.count in
    let second = k.device.count in
    record {
      room = record { enough = tt; used = omega (arith, used, more) };
      device = record { count = omega (arith, first, second); device = tt };
      honesty = record { same = k.honesty.same ∙ h.honesty.same; damaged = tt };
    }
spends_both g a b x (Err f) p q s h k =
    let used = h.room.used in
    let more = k.room.used in
    let first = h.device.count in
    let second = k.device.count in
    record {
      room = record { enough = λ full. omega (arith, used, k.room.enough full); used = omega (arith, used, more) };
      device = record { count = omega (arith, first, second); device = λ failed. rose (k.device.device failed) };
      honesty = record { same = k.honesty.same ∙ h.honesty.same; damaged = λ damage. sym h.honesty.same ∙ k.honesty.damaged damage };
    } where
      rose : (g.failures q < g.failures s) ⊎ (g.failures q ≡ 18446744073709551615) → (g.failures p < g.failures s) ⊎ (g.failures p ≡ 18446744073709551615)
      rose (inl up) = inl (omega (arith, up, h.device.count))
      rose (inr top) = top_of (cases_lt (g.failures p) (g.failures s)) where
        top_of : (g.failures p < g.failures s) ⊎ (g.failures s ≤ g.failures p) → (g.failures p < g.failures s) ⊎ (g.failures p ≡ 18446744073709551615)
        top_of (inl up) = inl up
        top_of (inr no_more) = inr (omega (arith, top, no_more, h.device.count, k.device.count))

-- names dropped after a call
pub spends_freed_ok : {P A B : Type 0} (g : Ghosts P) (a : ℕ) (x : A) (y : B) (p q s : P) → Spends g.room g.failures g.honest a (ok_of x) p q → Spares g.room g.failures g.honest q s → Spends g.room g.failures g.honest a (ok_of y) p s
spends_freed_ok g a x y p q s h k =
    let used = h.room.used in
    record {
      room = record { enough = tt; used = omega (arith, used, k.room) };
      device = record { count = let first = h.device.count in omega (arith, first, k.count); device = tt };
      honesty = record { same = k.honesty ∙ h.honesty.same; damaged = tt };
    }

-- after one that failed
pub spends_freed_err : {P A B : Type 0} (g : Ghosts P) (a : ℕ) (f : Fault) (p q s : P) → Spends g.room g.failures g.honest a (err_of A f) p q → Spares g.room g.failures g.honest q s → Spends g.room g.failures g.honest a (err_of B f) p s
spends_freed_err g a f p q s h k =
    let used = h.room.used in
    let first = h.device.count in
    record {
      room = record { enough = h.room.enough; used = omega (arith, used, k.room) };
      device = record { count = omega (arith, first, k.count); device = λ failed. kept (h.device.device failed) };
      honesty = record { same = k.honesty ∙ h.honesty.same; damaged = h.honesty.damaged };
    } where
      kept : (g.failures p < g.failures q) ⊎ (g.failures p ≡ 18446744073709551615) → (g.failures p < g.failures s) ⊎ (g.failures p ≡ 18446744073709551615)
      kept (inl up) = inl (omega (arith, up, k.count))
      kept (inr top) = inr top

-- pages that were read, by calls of which it does not matter what they found
pub reads_any : {P A B : Type 0} (g : Ghosts P) (read : Result A Fault) (x : B) (p q : P) → ReadsPages g read p q → ReadsPages g (ok_of x) p q
reads_any g read x p q h = record {
  counts = h.counts;
  same = h.same;
  pool = record {
    room = record { enough = tt; used = h.pool.room.used };
    device = record { count = h.pool.device.count; device = tt };
    honesty = record { same = h.pool.honesty.same; damaged = tt };
  };
}

pub reads_none : {P A : Type 0} (g : Ghosts P) (x : A) (p : P) → ReadsPages g (ok_of x) p p
reads_none g x p = record { counts = refl; same = refl; pool = spends_none g x p }

pub reads_both : {P A B : Type 0} (g : Ghosts P) (x : A) (y : B) (p q s : P) → ReadsPages g (ok_of x) p q → ReadsPages g (ok_of y) q s → ReadsPages g (ok_of y) p s
reads_both g x y p q s h k = record {
  counts = k.counts ∙ h.counts;
  same = k.same ∙ h.same;
  pool = spends_both g 0 0 x (ok_of y) p q s h.pool k.pool;
}

-- a call after pages were read
pub spends_read : {P A B : Type 0} (g : Ghosts P) (b : ℕ) (read : Result A Fault) (r : Result B Fault) (p q s : P) → ReadsPages g read p q → Spends g.room g.failures g.honest b r q s → Spends g.room g.failures g.honest b r p s
spends_read g b read (Ok y) p q s h k =
    let used = h.pool.room.used in
    let more = k.room.used in
    let first = h.pool.device.count in
    let second = k.device.count in
    record {
      room = record { enough = tt; used = omega (arith, used, more) };
      device = record { count = omega (arith, first, second); device = tt };
      honesty = record { same = k.honesty.same ∙ h.pool.honesty.same; damaged = tt };
    }
spends_read g b read (Err f) p q s h k =
    let used = h.pool.room.used in
    let more = k.room.used in
    let first = h.pool.device.count in
    let second = k.device.count in
    record {
      room = record { enough = λ full. omega (arith, used, k.room.enough full); used = omega (arith, used, more) };
      device = record { count = omega (arith, first, second); device = λ failed. rose (k.device.device failed) };
      honesty = record { same = k.honesty.same ∙ h.pool.honesty.same; damaged = λ damage. sym h.pool.honesty.same ∙ k.honesty.damaged damage };
    } where
      rose : (g.failures q < g.failures s) ⊎ (g.failures q ≡ 18446744073709551615) → (g.failures p < g.failures s) ⊎ (g.failures p ≡ 18446744073709551615)
      rose (inl up) = inl (omega (arith, up, h.pool.device.count))
      rose (inr top) = top_of (cases_lt (g.failures p) (g.failures s)) where
        top_of : (g.failures p < g.failures s) ⊎ (g.failures s ≤ g.failures p) → (g.failures p < g.failures s) ⊎ (g.failures p ≡ 18446744073709551615)
        top_of (inl up) = inl up
        top_of (inr no_more) = inr (omega (arith, top, no_more, h.pool.device.count, k.device.count))
