-- How much room a store has left after its calls.
use Rattle.std.proofs.Common.{◌≡◌, ◌+◌, ◌-◌, ◌/◌, ◌<◌, ◌≤◌, ℕ, suc, zero, List, [], ◌∷◌, min, Result, arith, subst, sym}
use Rattle.std.specs.Prelude.{Ok, Err}
use Rattle.std.proofs.lemmas.Result.{IfErr-weaker}
use Rattle.oai_catalogue.specs.Store.{IsHonest, NeedsRoom}
use Rattle.oai_device.specs.Device.{CountsFailures}
use Rattle.oai_item.specs.declared.faults.Fault.{Fault}
use Rattle.oai_item.specs.declared.faults.Fault.TheVariants.{Device, TooManyPages}
use Rattle.oai_pool.specs.Counts.{count_of}
use Rattle.oai_pool.specs.declared.pools.PagePool.{Ghosts}
use Rattle.oai_pool.specs.declared.pools.TheConstants.{MAX_PAGES}
use Rattle.oai_places.specs.Calls.{IsShareFault, Renames}
use Rattle.oai_paged.specs.Changes.{Changes}
use Rattle.oai_places.specs.Places.{PlaceState, named_in, page_numbers}
use Rattle.oai_places.specs.Recounts.{HasFull}
use Rattle.oai_paged.specs.Shelves.{calls_left, most_of}
use Rattle.oai_places.proofs.NameLemmas.{named_in-nil}
use Rattle.oai_places.proofs.RecountLemmas.{not_damaged, not_device, only_full}

-- ---- the greatest count

pub count_of-le-most : (counts : List ℕ) (n : ℕ) → count_of counts n ≤ most_of counts
unfolding most_of
count_of-le-most [] n = omega arith
count_of-le-most (c ∷ counts) zero = omega arith
count_of-le-most (c ∷ counts) (suc n) = omega (arith, count_of-le-most counts n)

pub most_of-le : (counts : List ℕ) (bound : ℕ) → ((n : ℕ) → count_of counts n ≤ bound) → most_of counts ≤ bound
unfolding most_of
most_of-le [] bound h = omega arith
most_of-le (c ∷ counts) bound h =
    let here : c ≤ bound = h 0 in
    omega (arith, here, most_of-le counts bound (λ n. h (suc n)))

most_of-more : (old new : List ℕ) (k : ℕ) → ((n : ℕ) → count_of new n ≤ count_of old n + k) → most_of new ≤ most_of old + k
most_of-more old new k h = most_of-le new (most_of old + k) (λ n. omega (arith, h n, count_of-le-most old n))

-- ---- calls that are left

left_less : (a b most x y numbers : ℕ) → numbers ≤ 68 → a ≤ b + numbers → y ≤ x + 1 → min (a / 68) (most - x) ≤ min (b / 68) (most - y) + 1
left_less a b most x y numbers few pages names = omega arith

left_same : (a b most x y : ℕ) → a ≤ b → y ≤ x → min (a / 68) (most - x) ≤ min (b / 68) (most - y)
left_same a b most x y pages names = omega arith

pub calls_left-less : (a b numbers : ℕ) (old new : List ℕ) → numbers ≤ 68 → a ≤ b + numbers
    → ((n : ℕ) → count_of new n ≤ count_of old n + 1) → calls_left a old ≤ calls_left b new + 1
calls_left-less a b numbers old new few pages names = left_less a b MAX_PAGES (most_of old) (most_of new) numbers few pages
    (most_of-more old new 1 names)

pub calls_left-same : (a b : ℕ) (old new : List ℕ) → a ≤ b → ((n : ℕ) → count_of new n ≤ count_of old n)
    → calls_left a old ≤ calls_left b new
calls_left-same a b old new pages names = left_same a b MAX_PAGES (most_of old) (most_of new) pages
    (most_of-le new (most_of old) (λ n. omega (arith, names n, count_of-le-most old n)))

few_left : (a most x numbers : ℕ) → numbers ≤ 68 → a < numbers → min (a / 68) (most - x) < 1
few_left a most x numbers few less = omega arith

none_left : (a most x : ℕ) → most ≤ x → min (a / 68) (most - x) < 1
none_left a most x full = omega arith

pub calls_left-few : (a numbers : ℕ) (counts : List ℕ) → numbers ≤ 68 → a < numbers → calls_left a counts < 1
calls_left-few a numbers counts few less = few_left a MAX_PAGES (most_of counts) numbers few less

-- ---- by the calls of a pool

module _ {P A : Type 0} (g : Ghosts P) where
  -- a change of a directory, behind a copy of it that names its pages once more
  copied_names : (numbers : ℕ) (result : Result A Fault) (before after : List PlaceState) (first p q : P) → ((n : ℕ) → named_in before n ≤ 1)
      → ((n : ℕ) → count_of (g.counts p) n ≤ count_of (g.counts first) n + named_in before n)
      → Changes g numbers result before after p q
      → (n : ℕ) → count_of (g.counts q) n ≤ count_of (g.counts first) n + 1
  copied_names numbers (Ok x) before after first p q once names changes n =
      omega (arith, changes.names.counts n, changes.directory.once n, names n)
  copied_names numbers (Err x) before after first p q once names changes n =
      omega (arith, changes.err.names.counts n, named_in-nil n, names n, once n)

  pub copied_room : (numbers : ℕ) (result : Result A Fault) (before after : List PlaceState) (first p q : P) → numbers ≤ 68
      → g.room first ≤ g.room p → ((n : ℕ) → named_in before n ≤ 1)
      → ((n : ℕ) → count_of (g.counts p) n ≤ count_of (g.counts first) n + named_in before n)
      → Changes g numbers result before after p q
      → NeedsRoom 1 result (calls_left (g.room first) (g.counts first)) (calls_left (g.room q) (g.counts q))
  copied_room numbers result before after first p q few room once names changes = record {
    enough = IfErr-weaker result (λ fault. fault ≡ TooManyPages → g.room p < numbers)
        (λ fault. fault ≡ TooManyPages → calls_left (g.room first) (g.counts first) < 1)
        (λ fault less is. calls_left-few (g.room first) numbers (g.counts first) few (let short = less is in omega (arith, room, short)))
        changes.pool.room.enough;
    used = calls_left-less (g.room first) (g.room q) numbers (g.counts first) (g.counts q) few
        (let used = changes.pool.room.used in omega (arith, room, used))
        (copied_names numbers result before after first p q once names changes);
  }

-- ---- by names given and dropped

module _ {P : Type 0} (g : Ghosts P) where
  pub kept_left : (p q : P) → Renames g [] [] p q → g.room p ≤ g.room q
      → calls_left (g.room p) (g.counts p) ≤ calls_left (g.room q) (g.counts q)
  kept_left p q names room = calls_left-same (g.room p) (g.room q) (g.counts p) (g.counts q) room
      (λ n. omega (arith, names.counts n, named_in-nil n))

  pub dropped_left : (places : List PlaceState) (p q : P) → Renames g places [] p q → g.room p ≤ g.room q
      → calls_left (g.room p) (g.counts p) ≤ calls_left (g.room q) (g.counts q)
  dropped_left places p q names room = calls_left-same (g.room p) (g.room q) (g.counts p) (g.counts q) room
      (λ n. omega (arith, names.counts n, named_in-nil n))

  pub full_left : (places : List PlaceState) (p : P) → HasFull g (page_numbers places) p → calls_left (g.room p) (g.counts p) < 1
  full_left places p out = let most = out.2 in none_left (g.room p) MAX_PAGES (most_of (g.counts p))
      (omega (arith, most, count_of-le-most (g.counts p) out.0))

-- ---- where a copy of a directory was refused

module _ {P A : Type 0} (g : Ghosts P) (result : Result A Fault) (cause : Fault) (is : result ≡ Err cause) (places : List PlaceState) (p q : P)
    (fault : IsShareFault (HasFull g (page_numbers places) p) cause) where
  pub refused_room : Renames g [] [] p q → g.room p ≤ g.room q
      → NeedsRoom 1 result (calls_left (g.room p) (g.counts p)) (calls_left (g.room q) (g.counts q))
  refused_room names room =
      let less = kept_left g p q names room in
      subst (λ (r : Result A Fault). NeedsRoom 1 r (calls_left (g.room p) (g.counts p)) (calls_left (g.room q) (g.counts q))) (sym is)
      record { enough = λ full. full_left g places p (only_full _ _ fault full); used = omega (arith, less) }

  pub refused_count : g.failures q ≡ g.failures p → CountsFailures Device result (g.failures p) (g.failures q)
  refused_count count =
      subst (λ (r : Result A Fault). CountsFailures Device r (g.failures p) (g.failures q)) (sym is)
      record { count = omega (arith, count); device = λ failed. absurd (not_device _ _ fault failed) }

  pub refused_honest : g.honest q ≡ g.honest p → IsHonest result (g.honest p) (g.honest q)
  refused_honest same =
      subst (λ (r : Result A Fault). IsHonest r (g.honest p) (g.honest q)) (sym is)
      record { same = same; damaged = λ damage. absurd (not_damaged _ _ fault damage) }
