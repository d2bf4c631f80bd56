-- A directory whose places were exchanged for those of pages that were added.
use Rattle.std.proofs.Common.{◌≡◌, ◌∙◌, ◌+◌, ◌≤◌, ℕ, List, [], ◌++◌, Result, length, take, drop, refl, sym, ap, subst, arith}
use Rattle.std.proofs.lemmas.List.{drop-drop, drop_at, length-take-le, take-append-drop, take_at}
use Rattle.oai_item.specs.Item.{ItemState}
use Rattle.oai_item.specs.declared.faults.Fault.{Fault}
use Rattle.oai_pool.specs.Counts.{count_of}
use Rattle.oai_pool.specs.declared.pools.PagePool.{Ghosts}
use Rattle.oai_places.specs.Calls.{ReadsPages, Renames}
use Rattle.oai_paged.specs.Changes.{Adds, ChangesNothing, IsDirectoryChanged, Stages}
use Rattle.oai_places.specs.Directory.{MayStand, StandsIn}
use Rattle.oai_places.specs.Places.{PlaceState, items_on, named_in}
use Rattle.oai_paged.proofs.RenamedLemmas.{items_changed, stands_changed, traded_changed, within_changed}

-- a list before, at and behind a place
pub three_parts : {A : Type 0} (at len : ℕ) (xs : List A) → take at xs ++ (take len (drop at xs) ++ drop (at + len) xs) ≡ xs
three_parts at len xs =
    ap (λ zs. take at xs ++ (take len (drop at xs) ++ zs)) (sym (drop-drop len at xs))
    ∙ ap (λ zs. take at xs ++ zs) (take-append-drop len (drop at xs))
    ∙ take-append-drop at xs

-- what stands at the place after an exchange
new_part : {A : Type 0} (at : ℕ) (front others behind : List A) → length front ≡ at → take (length others) (drop at (front ++ (others ++ behind))) ≡ others
new_part at front others behind len =
    ap (λ zs. take (length others) zs) (drop_at front (others ++ behind) at len) ∙ take_at others behind (length others) refl

new_behind : {A : Type 0} (at : ℕ) (front others behind : List A) → length front ≡ at → drop (at + length others) (front ++ (others ++ behind)) ≡ behind
new_behind at front others behind len =
    sym (drop-drop (length others) at (front ++ (others ++ behind)))
    ∙ ap (λ zs. drop (length others) zs) (drop_at front (others ++ behind) at len) ∙ drop_at others behind (length others) refl

-- the change of a directory by an exchange of its places for those of pages that were added
pub is_changed : {P : Type 0} (g : Ghosts P) (items : List ItemState) (at len count : ℕ) (others gone before after : List PlaceState) (old new : P) → StandsIn g old before → at + len ≤ length before
    → Adds g items others old new → MayStand (g.pages old) before at len items → count ≡ length others → gone ≡ take len (drop at before)
    → after ≡ take at before ++ (others ++ drop (at + len) before) → IsDirectoryChanged g items at len at count gone before after old new
is_changed g items at len count others gone before after old new h within adds may is_count is_gone is_after =
    let front = take at before in
    let own = take len (drop at before) in
    let behind = drop (at + len) before in
    let front_len : length front ≡ at = length-take-le at before (omega arith) in
    let part : take count (drop at after) ≡ others =
    ap (λ n. take n (drop at after)) is_count ∙ ap (λ zs. take (length others) (drop at zs)) is_after ∙ new_part at front others behind front_len in
    let rest : drop (at + count) after ≡ behind =
    ap (λ n. drop (at + n) after) is_count ∙ ap (λ zs. drop (at + length others) zs) is_after ∙ new_behind at front others behind front_len in
    let begins : take at after ≡ front = ap (λ zs. take at zs) is_after ∙ take_at front (others ++ behind) at front_len in
    let whole : front ++ (own ++ behind) ≡ before = three_parts at len before in
    let h_parts : StandsIn g old (front ++ (own ++ behind)) = subst (λ (ps : List PlaceState). StandsIn g old ps) (sym whole) h in
    record {
      place = refl;
      taken = is_gone;
      exchanged = is_after ∙ ap (λ zs. front ++ (zs ++ behind)) (sym part);
      added = subst (λ (ps : List PlaceState). Adds g items ps old new) (sym part) adds;
      staged = record {
        stands = subst (λ (ps : List PlaceState). StandsIn g new ps) (sym is_after) (stands_changed g items front own behind others old new h_parts adds may);
        back = ap (λ zs. zs ++ (gone ++ drop (at + count) after)) begins ∙ ap (λ zs. front ++ (zs ++ drop (at + count) after)) is_gone ∙ ap (λ zs. front ++ (own ++ zs)) rest ∙ whole;
        names = subst (λ (ps : List PlaceState). Renames g [] ps old new) (sym part) adds.names;
        traded = λ n.
            let all : named_in after n + named_in gone n ≡ named_in (front ++ (others ++ behind)) n + named_in own n = ap (λ ps. named_in ps n + named_in gone n) is_after ∙ ap (λ ps. named_in (front ++ (others ++ behind)) n + named_in ps n) is_gone in
            all ∙ traded_changed n front own behind others ∙ ap (λ ps. named_in ps n + named_in others n) whole ∙ ap (λ ps. named_in before n + named_in ps n) (sym part);
        within = λ n.
            omega (arith, within_changed n front own behind, ap (λ ps. named_in ps n) is_gone, ap (λ ps. named_in ps n) whole);
      };
    }

-- its items are those before, the new ones, and those behind
pub changed_items : {P : Type 0} (g : Ghosts P) (items : List ItemState) (at len new_at new_len : ℕ) (gone before after : List PlaceState) (old new : P) → StandsIn g old before
    → IsDirectoryChanged g items at len new_at new_len gone before after old new
    → items_on (g.pages new) after ≡ items_on (g.pages old) (take at before) ++ (items ++ items_on (g.pages old) (drop (at + len) before))
changed_items g items at len new_at new_len gone before after old new h changed =
    let front = take at before in
    let own = take len (drop at before) in
    let behind = drop (at + len) before in
    let part : take new_len (drop at after) ≡ take new_len (drop new_at after) = ap (λ n. take new_len (drop n after)) (sym changed.place) in
    let h_parts : StandsIn g old (front ++ (own ++ behind)) = subst (λ (ps : List PlaceState). StandsIn g old ps) (sym (three_parts at len before)) h in
    ap (items_on (g.pages new)) changed.exchanged
    ∙ items_changed g items front own behind (take new_len (drop at after)) old new h_parts (subst (λ (ps : List PlaceState). Adds g items ps old new) (sym part) changed.added)

-- ---- after pages were read

renames_read : {P A : Type 0} (g : Ghosts P) (read : Result A Fault) (a b : List PlaceState) (old mid new : P) → ReadsPages g read old mid → Renames g a b mid new → Renames g a b old new
renames_read g read a b old mid new h k = record {
  counts = λ n. k.counts n ∙ ap (λ counts. count_of counts n + named_in b n) h.counts;
  kept = λ n named. k.kept n (omega (arith, named, ap (λ counts. count_of counts n) h.counts)) ∙ ap (λ pages. pages n) h.same;
}

pub stages_read : {P A : Type 0} (g : Ghosts P) (read : Result A Fault) (at len : ℕ) (gone before after : List PlaceState) (old mid new : P) → ReadsPages g read old mid → Stages g at len gone before after mid new
    → Stages g at len gone before after old new
stages_read g read at len gone before after old mid new h s = record {
  stands = s.stands;
  back = s.back;
  names = renames_read g read [] (take len (drop at after)) old mid new h s.names;
  traded = s.traded;
  within = s.within;
}

pub nothing_read : {P A : Type 0} (g : Ghosts P) (read : Result A Fault) (before after : List PlaceState) (old mid new : P) → ReadsPages g read old mid → ChangesNothing g before after mid new
    → ChangesNothing g before after old new
nothing_read g read before after old mid new h c = record {
  places = c.places;
  names = renames_read g read [] [] old mid new h c.names;
}
