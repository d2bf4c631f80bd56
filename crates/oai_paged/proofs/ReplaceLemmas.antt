-- Two changes of a directory, one after the other.
use Rattle.std.proofs.Common.{◌≡◌, ◌∙◌, ◌+◌, ◌≤◌, ◌++◌, ℕ, List, [], drop, take, sym, ap, subst, arith}
use Rattle.oai_catalogue.specs.Store.{Spares, Spends}
use Rattle.oai_item.specs.declared.faults.Fault.{Fault}
use Rattle.oai_pool.specs.Counts.{count_of}
use Rattle.oai_pool.specs.declared.pools.PagePool.{Ghosts}
use Rattle.oai_places.specs.Calls.{Renames}
use Rattle.oai_paged.specs.Changes.{Changes, Stages}
use Rattle.oai_places.specs.Directory.{IsDirectory, StandsIn}
use Rattle.oai_places.specs.Places.{PlaceState, named_in}
use Rattle.oai_places.proofs.NameLemmas.{named_in-nil}
use Rattle.oai_paged.proofs.RenamedLemmas.{IsSettled, directory-same, gone_replaced, renames_undone, settled, settled_twice}
use Rattle.oai_places.proofs.SpendingLemmas.{err_of, ok_of, spends_both, spends_freed_err, spends_ok}

-- where nothing is renamed, a directory stands as it stood
pub stands_same : {P : Type 0} (g : Ghosts P) (places : List PlaceState) (old new : P) → StandsIn g old places → Renames g [] [] old new → StandsIn g new places
stands_same g places old new h k = record {
  directory = directory-same g [] places old new h.directory k (λ n named. omega (arith, named, named_in-nil n, h.named n));
  named = λ n. omega (arith, h.named n, named_in-nil n, k.counts n);
}

-- what is renamed after nothing was
pub renames_after : {P : Type 0} (g : Ghosts P) (before after : List PlaceState) (old mid new : P) → Renames g [] [] old mid → Renames g before after mid new → Renames g before after old new
renames_after g before after old mid new h k = record {
  counts = λ n. omega (arith, named_in-nil n, h.counts n, k.counts n);
  kept = λ n named.
      k.kept n (omega (arith, named, named_in-nil n, h.counts n)) ∙ h.kept n (omega (arith, named, named_in-nil n));
}

-- two changes whose old pages are dropped, those of the second first
pub replaced : {P : Type 0} (g : Ghosts P) (at len : ℕ) (gone : List PlaceState) (next_at next_len : ℕ) (next_gone before between after : List PlaceState) (old mid made late new : P)
    → StandsIn g old before → Stages g at len gone before between old mid → Stages g next_at next_len next_gone between after mid made
    → Renames g next_gone [] made late → Renames g gone [] late new → IsSettled g before after old made new
replaced g at len gone next_at next_len next_gone before between after old mid made late new h s t k d =
    let one = settled g next_at next_len next_gone between after mid made late s.stands t k in
    let both = settled_twice g at len gone before between after old mid late new h s one.names one.directory d in
    record { directory = both.directory; names = both.names; items = both.items ∙ one.items }

-- the pages that went with the first are then still named
pub first_gone_named : {P : Type 0} (g : Ghosts P) (at len : ℕ) (gone : List PlaceState) (next_at next_len : ℕ) (next_gone before between after : List PlaceState) (old mid made late : P)
    → StandsIn g old before → Stages g at len gone before between old mid → Stages g next_at next_len next_gone between after mid made
    → Renames g next_gone [] made late → (n : ℕ) → named_in gone n ≤ count_of (g.counts late) n
first_gone_named g at len gone next_at next_len next_gone before between after old mid made late h s t k n =
    let one = settled g next_at next_len next_gone between after mid made late s.stands t k in
    gone_replaced g at len gone before between after old mid late h s one.names n

-- ---- a call that changed nothing

pub changed_nothing : {P A B : Type 0} (g : Ghosts P) (numbers : ℕ) (x : A) (y : B) (before after : List PlaceState) (old new : P) → StandsIn g old before → after ≡ before
    → Renames g [] [] old new → Spends g.room g.failures g.honest numbers (ok_of x) old new → Changes g numbers (ok_of y) before after old new
changed_nothing g numbers x y before after old new h same k pool =
    let stands = stands_same g before old new h k in
    record {
      directory = subst (λ (ps : List PlaceState). IsDirectory (g.pages new) ps) (sym same) stands.directory;
      names = record {
        counts = λ n. omega (arith, named_in-nil n, k.counts n, ap (λ ps. named_in ps n) same);
        kept = λ n named. k.kept n (omega (arith, named, named_in-nil n));
      };
      err = tt;
      pool = spends_ok g numbers x y old new pool;
    }

-- a change after it
pub changes_after : {P A B C : Type 0} (g : Ghosts P) (a b : ℕ) (x : A) (y : B) (z : C) (before between after : List PlaceState) (old mid new : P) → between ≡ before
    → Renames g [] [] old mid → Spends g.room g.failures g.honest a (ok_of x) old mid → Changes g b (ok_of y) between after mid new → Changes g (a + b) (ok_of z) before after old new
changes_after g a b x y z before between after old mid new same k pool h =
    let names = subst (λ (ps : List PlaceState). Renames g ps after mid new) same h.names in
    record {
      directory = h.directory;
      names = renames_after g before after old mid new k names;
      err = tt;
      pool = spends_ok g (a + b) y z old new (spends_both g a b x (ok_of y) old mid new pool h.pool);
    }

-- a change taken back, because the next one failed
pub taken_back : {P A B C : Type 0} (g : Ghosts P) (a b at len : ℕ) (x : A) (fault : Fault) (gone before between stood after : List PlaceState) (old mid late new : P)
    → Stages g at len gone before between old mid → stood ≡ between → Renames g [] [] mid late
    → after ≡ take at stood ++ (gone ++ drop (at + len) stood) → Renames g (take len (drop at stood)) [] late new
    → Spends g.room g.failures g.honest a (ok_of x) old mid → Spends g.room g.failures g.honest b (err_of B fault) mid late → Spares g.room g.failures g.honest late new → Changes g (a + b) (err_of C fault) before after old new
taken_back {B = B} g a b at len x fault gone before between stood after old mid late new s same k is d first then freed =
    let names = subst (λ (ps : List PlaceState). Renames g (take len (drop at ps)) [] late new) same d in
    record {
      directory = tt;
      names = tt;
      err = record {
        places = is ∙ ap (λ ps. take at ps ++ (gone ++ drop (at + len) ps)) same ∙ s.back;
        names = renames_undone g at len gone before between old mid late new s k names;
      };
      pool = spends_freed_err g (a + b) fault old late new (spends_both g a b x (err_of B fault) old mid late first then) freed;
    }
