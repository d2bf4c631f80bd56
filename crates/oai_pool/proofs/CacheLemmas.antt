-- Look-ups in the entries of a cache under numbers, after each change of the cache.
use Rattle.std.proofs.Common.{◌≡◌, ◌≢◌, ℕ, zero, suc, ◌-◌, true, false, cond, List, [], ◌∷◌, take, Option, Some, None, option_map, Result, Ok, Err, OnOk, OnErr, ◌⊎◌, inl, inr, refl, sym, ap, ◌∙◌, arith, nat_eq}
use Rattle.std.proofs.lemmas.Bool.Decides.{eqb_tells, nat_tests}
use Rattle.std.specs.Cmp.{nat_eq_equiv}
use Rattle.std.specs.List.{IsDistinct}
use Rattle.std.specs.Map.{lookup, lookup_entry, remove_entry, keys_of}
use Rattle.std.specs.Option.{option_map_or}
use Rattle.std.proofs.lemmas.Map.{lookup-remove_entry}
use Rattle.lru.specs.LruCache.{LruCache, lru_cache, promoted, put_entries}
use Rattle.lru.proofs.CallerLemmas.{lookup-put_entries}

-- what is equal to one of two numbers that differ is not equal to the other
pub apart_from : (n k m : ℕ) → n ≢ k → nat_eq k m ≡ true → nat_eq n m ≡ false
apart_from n k m apart same = grind (arith, nat_tests)

module _ {X : Type 0} where
  -- an entry under another number that is taken out changes nothing
  pub lookup-removed_other : (n k : ℕ) → n ≢ k → (es : List (ℕ × X)) → lookup (nat_eq n) (remove_entry (nat_eq k) es) ≡ lookup (nat_eq n) es
  lookup-removed_other n k apart [] = refl
  lookup-removed_other n k apart (e ∷ es) = (elim (nat_eq k e.0) as (λ b. nat_eq k e.0 ≡ b → lookup (nat_eq n) (cond b es (e ∷ remove_entry (nat_eq k) es)) ≡ cond (nat_eq n e.0) (Some e.1) (lookup (nat_eq n) es)) [
    | true ↦ λ same. rw (apart_from n k e.0 apart same)
    | false ↦ λ other. ap (λ rest. cond (nat_eq n e.0) (Some e.1) rest) (lookup-removed_other n k apart es)
  ]) refl

  -- where no number stands twice, nothing stands under the one whose entry was taken out
  pub lookup-removed : (k : ℕ) (es : List (ℕ × X)) → IsDistinct nat_eq (keys_of es) → lookup (nat_eq k) (remove_entry (nat_eq k) es) ≡ None
  lookup-removed k es distinct =
      lookup-remove_entry nat_eq_equiv (nat_eq k) (λ x y same. grind (arith, nat_tests)) k es distinct ∙ rw (nat_eq_equiv.refl k)

  -- the entry that is found under a number has that number, and its value is what is looked up
  pub found_entry : (k : ℕ) (es : List (ℕ × X)) (e : ℕ × X) → lookup_entry (nat_eq k) es ≡ Some e → (nat_eq k e.0 ≡ true) × (lookup (nat_eq k) es ≡ Some e.1)
  found_entry k [] e found = cc
  found_entry k (f ∷ es) e found = (elim (nat_eq k f.0) as (λ b. nat_eq k f.0 ≡ b → cond b (Some f) (lookup_entry (nat_eq k) es) ≡ Some e → (nat_eq k e.0 ≡ true) × (cond b (Some f.1) (lookup (nat_eq k) es) ≡ Some e.1)) [
    | true ↦ λ same here. let is : f ≡ e = cc in (ap (λ x. nat_eq k x.0) (sym is) ∙ same, ap (λ x. Some x.1) is)
    | false ↦ λ other there. found_entry k es e there
  ]) refl found

  -- to put an entry in front that stood behind changes no look-up
  pub lookup-promoted : (n k : ℕ) (es : List (ℕ × X)) → lookup (nat_eq n) (promoted (nat_eq k) es) ≡ lookup (nat_eq n) es
  lookup-promoted n k es = in_front (lookup_entry (nat_eq k) es) refl where
    in_front : (o : Option (ℕ × X)) → lookup_entry (nat_eq k) es ≡ o → lookup (nat_eq n) (option_map_or (λ e. e ∷ remove_entry (nat_eq k) es) o es) ≡ lookup (nat_eq n) es
    in_front None none = refl
    in_front (Some e) some = (elim (nat_eq n k) as (λ b. nat_eq n k ≡ b → cond (nat_eq n e.0) (Some e.1) (lookup (nat_eq n) (remove_entry (nat_eq k) es)) ≡ lookup (nat_eq n) es) [
      | true ↦ λ same. let found = found_entry k es e some in
          let k_is : n ≡ k = grind (arith, nat_tests) in
          let hit : nat_eq n e.0 ≡ true = ap (λ m. nat_eq m e.0) k_is ∙ found.0 in
          rw hit (sym (ap (λ m. lookup (nat_eq m) es) k_is ∙ found.1))
      | false ↦ λ other. let apart : n ≢ k = grind (arith, nat_tests) in
          let found = found_entry k es e some in
          rw (apart_from n k e.0 apart found.0) (lookup-removed_other n k apart es)
    ]) refl

  -- what is looked up in a front of the entries is so in all of them
  pub lookup-take : (n most : ℕ) (es : List (ℕ × X)) (x : X) → lookup (nat_eq n) (take most es) ≡ Some x → lookup (nat_eq n) es ≡ Some x
  lookup-take n zero es x found = cc
  lookup-take n (suc most) [] x found = found
  lookup-take n (suc most) (e ∷ es) x found = (elim (nat_eq n e.0) as (λ b. cond b (Some e.1) (lookup (nat_eq n) (take most es)) ≡ Some x → cond b (Some e.1) (lookup (nat_eq n) es) ≡ Some x) [
    | true ↦ λ here. here
    | false ↦ λ there. lookup-take n most es x there
  ]) found

  -- what stands under another number after an entry was put in stood there before
  pub lookup-put_other : (c : LruCache ℕ X) (n k : ℕ) (v x : X) → n ≢ k → lookup (nat_eq n) (put_entries nat_eq c k v) ≡ Some x → lookup (nat_eq n) c.entries ≡ Some x
  lookup-put_other c n k v x apart = behind (lookup_entry (nat_eq k) c.entries) refl where
    behind : (o : Option (ℕ × X)) → lookup_entry (nat_eq k) c.entries ≡ o → lookup (nat_eq n) (option_map_or (λ e. (e.0, v) ∷ remove_entry (nat_eq k) c.entries) o ((k, v) ∷ take (c.cap - 1) c.entries)) ≡ Some x → lookup (nat_eq n) c.entries ≡ Some x
    behind None none found = lookup-take n (c.cap - 1) c.entries x (rw (apart_from n k k apart (nat_eq_equiv.refl k)) at found)
    behind (Some e) some found =
        let miss = apart_from n k e.0 apart (found_entry k c.entries e some).0 in
        sym (lookup-removed_other n k apart c.entries) ∙ (rw miss at found)

-- ---- what the caches show of each value

module _ {X : Type 0} (f : X → List ℕ) where
  -- what is shown of the value under a number
  abbrev pub shown : LruCache ℕ X → ℕ → Option (List ℕ)
  shown cache n = option_map f (lookup (nat_eq n) cache.entries)

  -- a value that is found again is shown as before
  shown_again : (new old : Option X) (bytes : List ℕ) → ((x : X) → new ≡ Some x → old ≡ Some x) → option_map f new ≡ Some bytes → option_map f old ≡ Some bytes
  shown_again None old bytes again is = cc
  shown_again (Some x) old bytes again is = rw (again x refl) is

  -- after a look-up
  pub shown-promoted : (new old : LruCache ℕ X) (k n : ℕ) → new ≡ lru_cache (promoted (nat_eq k) old.entries) old.cap → shown new n ≡ shown old n
  shown-promoted new old k n is = ap (λ (c : LruCache ℕ X). shown c n) is ∙ ap (option_map f) (lookup-promoted n k old.entries)

  -- after an entry was taken out
  pub shown-removed : (new old : LruCache ℕ X) (k : ℕ) → new ≡ lru_cache (remove_entry (nat_eq k) old.entries) old.cap → IsDistinct nat_eq (keys_of old.entries) → shown new k ≡ None
  shown-removed new old k is distinct =
      ap (λ (c : LruCache ℕ X). shown c k) is ∙ ap (option_map f) (lookup-removed k old.entries distinct)

  pub shown-removed_before : (new old : LruCache ℕ X) (k : ℕ) → new ≡ lru_cache (remove_entry (nat_eq k) old.entries) old.cap → IsDistinct nat_eq (keys_of old.entries) → (n : ℕ) (bytes : List ℕ) → shown new n ≡ Some bytes → shown old n ≡ Some bytes
  shown-removed_before new old k is distinct n bytes was = elim (eqb_tells n k) [
    | inl same ↦ let none : shown new n ≡ None = ap (shown new) same.1 ∙ shown-removed new old k is distinct in cc
    | inr other ↦
        sym (ap (λ (c : LruCache ℕ X). shown c n) is ∙ ap (option_map f) (lookup-removed_other n k other.1 old.entries)) ∙ was
  ]

  -- what a push did: the entry was put in, or nothing changed
  pushed : {A E : Type 0} {P Q : Type 0} (result : Result A E) → OnOk result P → OnErr result Q → P ⊎ Q
  pushed (Ok a) p q = inl p
  pushed (Err e) p q = inr q

  -- after a push, under its own number
  pub shown-pushed : {A E : Type 0} (result : Result A E) (new old : LruCache ℕ X) (k : ℕ) (x : X) → OnOk result (new ≡ lru_cache (put_entries nat_eq old k x) old.cap) → OnErr result (new ≡ old) → (bytes : List ℕ) → shown new k ≡ Some bytes → (shown old k ≡ Some bytes) ⊎ (f x ≡ bytes)
  shown-pushed result new old k x ok err bytes was = elim (pushed result ok err) [
    | inl put ↦
        let now : shown new k ≡ Some (f x) = ap (λ (c : LruCache ℕ X). shown c k) put ∙ ap (option_map f) (lookup-put_entries nat_eq old k x nat_eq_equiv) in
        inr cc
    | inr same ↦ inl (sym (ap (λ (c : LruCache ℕ X). shown c k) same) ∙ was)
  ]

  -- and under any other
  pub shown-pushed_before : {A E : Type 0} (result : Result A E) (new old : LruCache ℕ X) (k : ℕ) (x : X) → OnOk result (new ≡ lru_cache (put_entries nat_eq old k x) old.cap) → OnErr result (new ≡ old) → (n : ℕ) (bytes : List ℕ) → n ≢ k → shown new n ≡ Some bytes → shown old n ≡ Some bytes
  shown-pushed_before result new old k x ok err n bytes apart was = elim (pushed result ok err) [
    | inl put ↦
        shown_again (lookup (nat_eq n) (put_entries nat_eq old k x)) (lookup (nat_eq n) old.entries) bytes
        (λ y found. lookup-put_other old n k x y apart found)
        (sym (ap (λ (c : LruCache ℕ X). shown c n) put) ∙ was)
    | inr same ↦ sym (ap (λ (c : LruCache ℕ X). shown c n) same) ∙ was
  ]
