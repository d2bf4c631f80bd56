-- What a change of a directory makes of its items.
use Rattle.std.proofs.Common.{◌≡◌, ◌∙◌, ◌+◌, ◌<◌, ℕ, ℤ, true, false, not, List, [], ◌++◌, Result, None, length, take, drop, get_or, sym, ap, subst, arith}
use Rattle.std.specs.Prelude.{is_some}
use Rattle.oai_item.specs.Item.{ItemState}
use Rattle.oai_item.specs.Items.{is_at, item_at, with_item, without_at}
use Rattle.oai_item.specs.declared.faults.Fault.{Fault}
use Rattle.oai_item.proofs.Around.{only_place}
use Rattle.oai_item.proofs.OrderLemmas.{none_at-from}
use Rattle.oai_names.proofs.Lists.{filter_all}
use Rattle.oai_pool.specs.Counts.{count_of}
use Rattle.oai_pool.specs.declared.pools.PagePool.{Ghosts}
use Rattle.oai_places.specs.Calls.{ReadsPages}
use Rattle.oai_paged.specs.Changes.{IsDirectoryChanged, IsRemoved}
use Rattle.oai_places.specs.Directory.{IsDirectory, StandsIn, items_with_run}
use Rattle.oai_places.specs.Places.{Pages, PlaceState, items_at, items_on}
use Rattle.oai_places.specs.Searches.{BelongsAt}
use Rattle.oai_paged.proofs.ChangedLemmas.{changed_items}
use Rattle.oai_places.proofs.DirectoryLemmas.{item_at-cut, no_place, with_item-cut, without_at-cut}
use Rattle.oai_places.proofs.PlaceLemmas.{items_on-nil}

-- the items of a place with one more
pub items_put : {P : Type 0} (g : Ghosts P) (item : ItemState) (items entries : List ItemState) (at new_at new_len : ℕ) (gone before after : List PlaceState) (old new : P) → StandsIn g old before
    → at < length before → BelongsAt before item.stamp item.identifier at → IsDirectoryChanged g entries at 1 new_at new_len gone before after old new → entries ≡ with_item item items
    → items ≡ items_at (g.pages old) (get_or before at no_place) → items_on (g.pages new) after ≡ with_item item (items_on (g.pages old) before)
items_put g item items entries at new_at new_len gone before after old new h within belongs changed made read =
    changed_items g entries at 1 new_at new_len gone before after old new h changed
    ∙ ap (λ zs. items_on (g.pages old) (take at before) ++ (zs ++ items_on (g.pages old) (drop (at + 1) before))) (made ∙ ap (with_item item) read)
    ∙ sym (with_item-cut (g.pages old) before item at h.directory within belongs)

-- ---- after a page of it was read

pub stands_read : {P A : Type 0} (g : Ghosts P) (read : Result A Fault) (places : List PlaceState) (old mid : P) → StandsIn g old places → ReadsPages g read old mid → StandsIn g mid places
stands_read g read places old mid h k = record {
  directory = subst (λ (pages : Pages). IsDirectory pages places) (sym k.same) h.directory;
  named = λ n. omega (arith, h.named n, ap (λ counts. count_of counts n) k.counts);
}

-- the items of the place that was read with one more
pub one_put : {P A : Type 0} (g : Ghosts P) (read : Result A Fault) (item : ItemState) (items entries : List ItemState) (at new_at new_len : ℕ) (gone before after : List PlaceState) (old mid new : P) → StandsIn g old before
    → ReadsPages g read old mid → at < length before → BelongsAt before item.stamp item.identifier at → IsDirectoryChanged g entries at 1 new_at new_len gone before after mid new → entries ≡ with_item item items
    → items ≡ items_at (g.pages old) (get_or before at no_place) → items_on (g.pages new) after ≡ with_item item (items_on (g.pages old) before)
one_put g read item items entries at new_at new_len gone before after old mid new h k within belongs changed made was =
    let place = get_or before at no_place in
    items_put g item items entries at new_at new_len gone before after mid new (stands_read g read before old mid h k) within belongs changed made (was ∙ ap (λ (pages : Pages). items_at pages place) (sym k.same))
    ∙ ap (λ (pages : Pages). with_item item (items_on pages before)) k.same

-- where what is left of a place stands for it, one is taken out
pub left_removed : (pages now : Pages) (stamp : ℤ) (identifier : List ℕ) (items entries : List ItemState) (at : ℕ) (before after : List PlaceState) → IsDirectory pages before → at < length before
    → BelongsAt before stamp identifier at → items_on now after ≡ items_with_run pages before at 1 entries
    → true ≡ is_some (item_at stamp identifier items) → entries ≡ without_at stamp identifier items
    → items ≡ items_at pages (get_or before at no_place) → IsRemoved stamp identifier true (items_on pages before) (items_on now after)
left_removed pages now stamp identifier items entries at before after h within belongs is found made read = record {
  was =
      found
      ∙ ap (λ own. is_some (item_at stamp identifier own)) read
      ∙ ap is_some (sym (item_at-cut pages before stamp identifier at h within belongs));
  left =
      is
      ∙ ap (λ zs. items_on pages (take at before) ++ (zs ++ items_on pages (drop (at + 1) before))) (made ∙ ap (without_at stamp identifier) read)
      ∙ sym (without_at-cut pages before stamp identifier at h within belongs);
}

-- where no item is at the datestamp and identifier, none is left out
pub without_at-absent : (stamp : ℤ) (identifier : List ℕ) (items : List ItemState) → item_at stamp identifier items ≡ None → without_at stamp identifier items ≡ items
unfolding without_at
without_at-absent stamp identifier items none =
    filter_all (λ (item : ItemState). not (is_at stamp identifier item)) items (none_at-from (only_place stamp identifier) items none)

-- and all are left
pub none_removed : (pages now : Pages) (stamp : ℤ) (identifier : List ℕ) (items : List ItemState) (at : ℕ) (places : List PlaceState) → IsDirectory pages places → at < length places
    → BelongsAt places stamp identifier at → item_at stamp identifier items ≡ None → items ≡ items_at pages (get_or places at no_place) → now ≡ pages
    → IsRemoved stamp identifier false (items_on pages places) (items_on now places)
none_removed pages now stamp identifier items at places h within belongs none was same =
    let missing = item_at-cut pages places stamp identifier at h within belongs ∙ ap (item_at stamp identifier) (sym was) ∙ none in
    record {
      was = ap is_some (sym missing);
      left = ap (λ (all : Pages). items_on all places) same ∙ sym (without_at-absent stamp identifier (items_on pages places) missing);
    }

-- from no places none is taken
pub nothing_removed : (pages : Pages) (stamp : ℤ) (identifier : List ℕ) (places : List PlaceState) → places ≡ [] → IsRemoved stamp identifier false (items_on pages places) (items_on pages places)
unfolding item_at without_at
nothing_removed pages stamp identifier places none =
    let no_items : items_on pages places ≡ [] = ap (items_on pages) none ∙ items_on-nil pages in
    record {
      was = ap (λ items. is_some (item_at stamp identifier items)) (sym no_items);
      left = no_items ∙ ap (without_at stamp identifier) (sym no_items);
    }
