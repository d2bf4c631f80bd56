-- Pages added for items, put in for others, and dropped: what is named, what is kept, and that a directory stays one.
use Rattle.std.proofs.Common.{◌≡◌, ◌∙◌, ◌+◌, ◌<◌, ◌≤◌, inl, inr, ℕ, true, List, [], ◌++◌, take, drop, refl, sym, ap, subst, arith, append-nil}
use Rattle.std.proofs.lemmas.Bool.{cases_lt}
use Rattle.oai_item.specs.Item.{ItemState}
use Rattle.oai_item.specs.Order.{are_in_order}
use Rattle.oai_pool.specs.Counts.{count_of}
use Rattle.oai_pool.specs.declared.pools.PagePool.{Ghosts}
use Rattle.oai_places.specs.Calls.{Renames}
use Rattle.oai_paged.specs.Changes.{Adds, Stages}
use Rattle.oai_places.specs.Directory.{IsDirectory, StandsIn}
use Rattle.oai_places.specs.Places.{Pages, PlaceState, items_on, named_in}
use Rattle.oai_places.proofs.NameLemmas.{named_in-append, named_in-nil}
use Rattle.oai_places.proofs.PlaceLemmas.{AreKept, all_placed-same, items_on-append, items_on-nil, items_on-same, placed-append, placed-parts}

-- ---- pages added

-- where nothing is renamed, no page is added
pub adds_nothing : {P : Type 0} (g : Ghosts P) (old new : P) → Renames g [] [] old new → Adds g [] [] old new
adds_nothing g old new h = record {
  placed = tt;
  items = items_on-nil (g.pages new);
  once = λ n. omega (arith, named_in-nil n);
  fresh = λ n _. named_in-nil n;
  names = h;
}

-- pages added after others
pub adds_both : {P : Type 0} (g : Ghosts P) (xs ys : List ItemState) (a b : List PlaceState) (old mid new : P) → Adds g xs a old mid → Adds g ys b mid new → Adds g (xs ++ ys) (a ++ b) old new
adds_both g xs ys a b old mid new h k =
    let kept : AreKept (g.pages mid) (g.pages new) a = λ n named. k.names.kept n (omega (arith, named_in-nil n, named, h.names.counts n)) in
    record {
      placed = placed-append (g.pages new) a b (all_placed-same (g.pages mid) (g.pages new) a h.placed kept) k.placed;
      items =
          items_on-append (g.pages new) a b
          ∙ ap (λ zs. zs ++ items_on (g.pages new) b) (items_on-same (g.pages mid) (g.pages new) a h.placed kept ∙ h.items)
          ∙ ap (λ zs. xs ++ zs) k.items;
      once = λ n. elim (cases_lt 0 (named_in a n)) [
        | inl some ↦ omega (arith, named_in-append n a b, h.once n, k.fresh n (omega (arith, some, named_in-nil n, h.names.counts n)))
        | inr none ↦ omega (arith, named_in-append n a b, none, k.once n)
      ];
      fresh = λ n named. omega (arith, named_in-append n a b, h.fresh n named, k.fresh n (omega (arith, named, named_in-nil n, h.names.counts n)));
      names = record {
        counts = λ n. omega (arith, named_in-append n a b, named_in-nil n, h.names.counts n, k.names.counts n);
        kept = λ n named. k.names.kept n (omega (arith, named_in-nil n, named, h.names.counts n)) ∙ h.names.kept n named;
      };
    }

-- pages added, and then nothing renamed
pub adds_then_nothing : {P : Type 0} (g : Ghosts P) (xs : List ItemState) (a : List PlaceState) (old mid new : P) → Adds g xs a old mid → Renames g [] [] mid new → Adds g xs a old new
adds_then_nothing g xs a old mid new h k =
    subst (λ (zs : List ItemState). Adds g zs a old new) (append-nil xs)
    (subst (λ (c : List PlaceState). Adds g (xs ++ []) c old new) (append-nil a) (adds_both g xs [] a [] old mid new h (adds_nothing g mid new k)))

-- the added pages are named as often as places name them
pub added_named : {P : Type 0} (g : Ghosts P) (xs : List ItemState) (a : List PlaceState) (old new : P) → Adds g xs a old new → (n : ℕ) → named_in a n ≤ count_of (g.counts new) n
added_named g xs a old new h n = omega (arith, named_in-nil n, h.names.counts n)

-- ---- pages put in for others

in_parts : (n : ℕ) (b o a : List PlaceState) → named_in (b ++ (o ++ a)) n ≡ named_in b n + (named_in o n + named_in a n)
in_parts n b o a = omega (arith, named_in-append n b (o ++ a), named_in-append n o a)

items-parts : (pages : Pages) (b o a : List PlaceState) → items_on pages (b ++ (o ++ a)) ≡ items_on pages b ++ (items_on pages o ++ items_on pages a)
items-parts pages b o a = items_on-append pages b (o ++ a) ∙ ap (λ zs. items_on pages b ++ zs) (items_on-append pages o a)

-- the places of added pages in the place of others of a directory: if all items are in order, it is one
pub stands_changed : {P : Type 0} (g : Ghosts P) (items : List ItemState) (b o a d : List PlaceState) (old new : P) → StandsIn g old (b ++ (o ++ a)) → Adds g items d old new
    → are_in_order (items_on (g.pages old) b ++ (items ++ items_on (g.pages old) a)) ≡ true → StandsIn g new (b ++ (d ++ a))
stands_changed g items b o a d old new h k rising =
    let outer = placed-parts (g.pages old) b (o ++ a) h.directory.placed in
    let inner = placed-parts (g.pages old) o a outer.1 in
    let kept_b : AreKept (g.pages old) (g.pages new) b = λ n named. k.names.kept n (omega (arith, named_in-nil n, named, in_parts n b o a, h.named n)) in
    let kept_a : AreKept (g.pages old) (g.pages new) a = λ n named. k.names.kept n (omega (arith, named_in-nil n, named, in_parts n b o a, h.named n)) in
    let all : items_on (g.pages new) (b ++ (d ++ a)) ≡ items_on (g.pages old) b ++ (items ++ items_on (g.pages old) a) =
    items-parts (g.pages new) b d a
    ∙ ap (λ zs. zs ++ (items_on (g.pages new) d ++ items_on (g.pages new) a)) (items_on-same (g.pages old) (g.pages new) b outer.0 kept_b)
    ∙ ap (λ zs. items_on (g.pages old) b ++ (zs ++ items_on (g.pages new) a)) k.items
    ∙ ap (λ zs. items_on (g.pages old) b ++ (items ++ zs)) (items_on-same (g.pages old) (g.pages new) a inner.1 kept_a) in
    record {
      directory = record {
        placed = placed-append (g.pages new) b (d ++ a) (all_placed-same (g.pages old) (g.pages new) b outer.0 kept_b)
            (placed-append (g.pages new) d a k.placed (all_placed-same (g.pages old) (g.pages new) a inner.1 kept_a));
        rising = ap are_in_order all ∙ rising;
        once = λ n. elim (cases_lt 0 (count_of (g.counts old) n)) [
          | inl some ↦ omega (arith, k.fresh n some, in_parts n b o a, in_parts n b d a, h.directory.once n)
          | inr none ↦ omega (arith, none, h.named n, in_parts n b o a, in_parts n b d a, k.once n)
        ];
      };
      named = λ n. omega (arith, named_in-nil n, k.names.counts n, h.named n, in_parts n b o a, in_parts n b d a);
    }

-- the items of that directory
pub items_changed : {P : Type 0} (g : Ghosts P) (items : List ItemState) (b o a d : List PlaceState) (old new : P) → StandsIn g old (b ++ (o ++ a)) → Adds g items d old new
    → items_on (g.pages new) (b ++ (d ++ a)) ≡ items_on (g.pages old) b ++ (items ++ items_on (g.pages old) a)
items_changed g items b o a d old new h k =
    let outer = placed-parts (g.pages old) b (o ++ a) h.directory.placed in
    let inner = placed-parts (g.pages old) o a outer.1 in
    let kept_b : AreKept (g.pages old) (g.pages new) b = λ n named. k.names.kept n (omega (arith, named_in-nil n, named, in_parts n b o a, h.named n)) in
    let kept_a : AreKept (g.pages old) (g.pages new) a = λ n named. k.names.kept n (omega (arith, named_in-nil n, named, in_parts n b o a, h.named n)) in
    items-parts (g.pages new) b d a
    ∙ ap (λ zs. zs ++ (items_on (g.pages new) d ++ items_on (g.pages new) a)) (items_on-same (g.pages old) (g.pages new) b outer.0 kept_b)
    ∙ ap (λ zs. items_on (g.pages old) b ++ (zs ++ items_on (g.pages new) a)) k.items
    ∙ ap (λ zs. items_on (g.pages old) b ++ (items ++ zs)) (items_on-same (g.pages old) (g.pages new) a inner.1 kept_a)

-- what then is named where
pub traded_changed : (n : ℕ) (b o a d : List PlaceState) → named_in (b ++ (d ++ a)) n + named_in o n ≡ named_in (b ++ (o ++ a)) n + named_in d n
traded_changed n b o a d = omega (arith, in_parts n b o a, in_parts n b d a)

pub within_changed : (n : ℕ) (b o a : List PlaceState) → named_in o n ≤ named_in (b ++ (o ++ a)) n
within_changed n b o a = omega (arith, in_parts n b o a)

-- ---- the pages that went, dropped

-- places whose pages are named elsewhere too, dropped beside a directory: it stays one, with its items
pub directory-same : {P : Type 0} (g : Ghosts P) (gone places : List PlaceState) (old new : P) → IsDirectory (g.pages old) places → Renames g gone [] old new
    → ((n : ℕ) → 0 < named_in places n → named_in gone n < count_of (g.counts old) n) → IsDirectory (g.pages new) places
directory-same g gone places old new h k more =
    let kept : AreKept (g.pages old) (g.pages new) places = λ n named. k.kept n (more n named) in
    record {
      placed = all_placed-same (g.pages old) (g.pages new) places h.placed kept;
      rising = ap are_in_order (items_on-same (g.pages old) (g.pages new) places h.placed kept) ∙ h.rising;
      once = h.once;
    }

pub directory-items : {P : Type 0} (g : Ghosts P) (gone places : List PlaceState) (old new : P) → IsDirectory (g.pages old) places → Renames g gone [] old new
    → ((n : ℕ) → 0 < named_in places n → named_in gone n < count_of (g.counts old) n) → items_on (g.pages new) places ≡ items_on (g.pages old) places
directory-items g gone places old new h k more = items_on-same (g.pages old) (g.pages new) places h.placed (λ n named. k.kept n (more n named))

-- after a change there are names left of each page of the directory, once the pages of the places that are gone are dropped
pub left_named : {P : Type 0} (g : Ghosts P) (at len : ℕ) (gone before after : List PlaceState) (old mid : P) → StandsIn g old before → Stages g at len gone before after old mid
    → (n : ℕ) → 0 < named_in after n → named_in gone n < count_of (g.counts mid) n
left_named g at len gone before after old mid h s n named =
    omega (arith, named_in-nil n, named, h.named n, s.names.counts n, s.traded n)

-- the pages that went are named
pub gone_named : {P : Type 0} (g : Ghosts P) (at len : ℕ) (gone before after : List PlaceState) (old mid : P) → StandsIn g old before → Stages g at len gone before after old mid
    → (n : ℕ) → named_in gone n ≤ count_of (g.counts mid) n
gone_named g at len gone before after old mid h s n = omega (arith, named_in-nil n, h.named n, s.within n, s.names.counts n)

-- a change whose old pages are dropped
pub renames_settled : {P : Type 0} (g : Ghosts P) (at len : ℕ) (gone before after : List PlaceState) (old mid new : P) → StandsIn g old before → Stages g at len gone before after old mid
    → Renames g gone [] mid new → Renames g before after old new
renames_settled g at len gone before after old mid new h s k = record {
  counts = λ n. omega (arith, named_in-nil n, s.names.counts n, s.traded n, k.counts n);
  kept = λ n named.
      k.kept n (omega (arith, named, named_in-nil n, s.names.counts n, s.within n)) ∙ s.names.kept n (omega (arith, named, named_in-nil n));
}

-- a change after another, the old pages of both dropped
pub renames_replaced : {P : Type 0} (g : Ghosts P) (at len : ℕ) (gone before between after : List PlaceState) (old mid late new : P) → StandsIn g old before → Stages g at len gone before between old mid
    → Renames g between after mid late → Renames g gone [] late new → Renames g before after old new
renames_replaced g at len gone before between after old mid late new h s k d = record {
  counts = λ n. omega (arith, named_in-nil n, s.names.counts n, s.traded n, k.counts n, d.counts n);
  kept = λ n named.
      d.kept n (omega (arith, named, named_in-nil n, s.names.counts n, s.traded n, k.counts n))
      ∙ k.kept n (omega (arith, named, named_in-nil n, s.names.counts n, s.traded n))
      ∙ s.names.kept n (omega (arith, named, named_in-nil n));
}

pub left_replaced : {P : Type 0} (g : Ghosts P) (at len : ℕ) (gone before between after : List PlaceState) (old mid late : P) → StandsIn g old before → Stages g at len gone before between old mid
    → Renames g between after mid late → (n : ℕ) → 0 < named_in after n → named_in gone n < count_of (g.counts late) n
left_replaced g at len gone before between after old mid late h s k n named =
    omega (arith, named, named_in-nil n, h.named n, s.names.counts n, s.traded n, k.counts n)

pub gone_replaced : {P : Type 0} (g : Ghosts P) (at len : ℕ) (gone before between after : List PlaceState) (old mid late : P) → StandsIn g old before → Stages g at len gone before between old mid
    → Renames g between after mid late → (n : ℕ) → named_in gone n ≤ count_of (g.counts late) n
gone_replaced g at len gone before between after old mid late h s k n =
    omega (arith, named_in-nil n, h.named n, s.names.counts n, s.traded n, k.counts n)

-- a change that is taken back after another failed
pub renames_undone : {P : Type 0} (g : Ghosts P) (at len : ℕ) (gone before after : List PlaceState) (old mid late new : P) → Stages g at len gone before after old mid
    → Renames g [] [] mid late → Renames g (take len (drop at after)) [] late new → Renames g [] [] old new
renames_undone g at len gone before after old mid late new s k d = record {
  counts = λ n. omega (arith, named_in-nil n, s.names.counts n, k.counts n, d.counts n);
  kept = λ n named.
      d.kept n (omega (arith, named, named_in-nil n, s.names.counts n, k.counts n))
      ∙ k.kept n (omega (arith, named, named_in-nil n, s.names.counts n))
      ∙ s.names.kept n named;
}

-- what is so of a directory once the pages that went are dropped
pub record IsSettled {P : Type 0} (g : Ghosts P) (before after : List PlaceState) (old mid new : P) : Type 0 where
  pub directory : IsDirectory (g.pages new) after
  pub names : Renames g before after old new
  pub items : items_on (g.pages new) after ≡ items_on (g.pages mid) after

pub settled : {P : Type 0} (g : Ghosts P) (at len : ℕ) (gone before after : List PlaceState) (old mid new : P) → StandsIn g old before → Stages g at len gone before after old mid
    → Renames g gone [] mid new → IsSettled g before after old mid new
settled g at len gone before after old mid new h s names =
    let more = left_named g at len gone before after old mid h s in
    record {
      directory = directory-same g gone after mid new s.stands.directory names more;
      names = renames_settled g at len gone before after old mid new h s names;
      items = directory-items g gone after mid new s.stands.directory names more;
    }

-- the same of a change after another
pub settled_twice : {P : Type 0} (g : Ghosts P) (at len : ℕ) (gone before between after : List PlaceState) (old mid late new : P) → StandsIn g old before → Stages g at len gone before between old mid
    → Renames g between after mid late → IsDirectory (g.pages late) after → Renames g gone [] late new → IsSettled g before after old late new
settled_twice g at len gone before between after old mid late new h s k directory names =
    let more = left_replaced g at len gone before between after old mid late h s k in
    record {
      directory = directory-same g gone after late new directory names more;
      names = renames_replaced g at len gone before between after old mid late new h s k names;
      items = directory-items g gone after late new directory names more;
    }

-- before anything is added
pub adds_none : {P : Type 0} (g : Ghosts P) (p : P) (places : List PlaceState) → places ≡ [] → Adds g [] places p p
adds_none g p places none = subst (λ (ps : List PlaceState). Adds g [] ps p p) (sym none) (adds_nothing g p p (record { counts = λ n. refl; kept = λ n _. refl }))
