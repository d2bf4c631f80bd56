-- What an item or a set that is restored leaves: items and sets that are as the repository keeps them.
use Rattle.std.proofs.Common.{◌≡◌, ◌∙◌, ◌<◌, ℕ, ℤ, Bool, true, false, ◌&&◌, List, [], ◌∷◌, ◌++◌, length, Result, Ok, Err, OnOk, OnErr, refl, sym, ap, subst, arith}
use Rattle.std.specs.Prelude.{filter, int_le, nat_lt}
use Rattle.std.specs.List.{list_all}
use Rattle.std.proofs.lemmas.Bool.{and_from, and_parts, cond-true}
use Rattle.std.proofs.lemmas.Bool.Decides.{nat_tests}
use Rattle.oai_time.specs.declared.text.TheConstants.{FIRST_SECOND, LAST_SECOND}
use Rattle.oai_item.specs.Item.{IsStamp, ItemState}
use Rattle.oai_item.specs.Items.{are_apart, items_after, without}
use Rattle.oai_item.specs.Selection.{passes, selected}
use Rattle.oai_item.specs.declared.faults.Fault.{Fault}
use Rattle.oai_item.proofs.OrderLemmas.{all-placed, apart-changed, in_order-changed}
use Rattle.oai_names.proofs.Lists.{all-filter, all-weaker}
use Rattle.oai_catalogue.specs.Store.{VersionLists}
use Rattle.oai_settings.specs.Config.{RepositoryConfig}
use Rattle.oai_holdings.specs.Changes.{with_new}
use Rattle.oai_holdings.specs.Index.{IndexAgrees, IsIndexed, ItemIndex, are_whole, has_writable_stamp, holdings_of, stored_items}
use Rattle.oai_holdings.specs.Kept.{AreKept, is_well_kept}
use Rattle.oai_holdings.specs.Purges.{is_in_core, until}
use Rattle.oai_holdings.specs.Saved.{may_have_item}
use Rattle.oai_holdings.specs.Holdings.{NamedSet}
use Rattle.oai_holdings.proofs.ChangeLemmas.{dated_at, dated_new}
use Rattle.oai_holdings.proofs.KeptLemmas.{length-placed, set_kept, well-without, without-at_most}

-- ---- all items are read

four : (a b c : Bool) → a ≡ true → b ≡ true → c ≡ true → (a && b && c && true) ≡ true
four a b c one two three = rw (one, two, three) refl

passes_until : (x : ItemState) → is_in_core x ≡ true → has_writable_stamp x ≡ true → passes (until LAST_SECOND) x ≡ true
passes_until x core dated =
    let parts = and_parts (int_le FIRST_SECOND x.stamp) (int_le x.stamp LAST_SECOND) dated in
    four (is_in_core x) (int_le FIRST_SECOND x.stamp) (int_le x.stamp LAST_SECOND) core parts.0 parts.1

pub all_selected : (items : List ItemState) → list_all is_in_core items ≡ true → list_all has_writable_stamp items ≡ true → selected (until LAST_SECOND) items ≡ items
unfolding selected
all_selected [] core dated = refl
all_selected (x ∷ items) core dated =
    let in_core = and_parts (is_in_core x) (list_all is_in_core items) core in
    let has_date = and_parts (has_writable_stamp x) (list_all has_writable_stamp items) dated in
    cond-true (passes (until LAST_SECOND) x) (x ∷ filter (passes (until LAST_SECOND)) items) (filter (passes (until LAST_SECOND)) items) (passes_until x in_core.0 has_date.0)
    ∙ ap (λ (ys : List ItemState). x ∷ ys) (all_selected items in_core.1 has_date.1)

-- of those behind a place too
pub behind_selected : (stamp : ℤ) (identifier : List ℕ) (items : List ItemState) → list_all is_in_core items ≡ true → list_all has_writable_stamp items ≡ true
    → selected (until LAST_SECOND) (items_after stamp identifier items) ≡ items_after stamp identifier items
unfolding items_after
behind_selected stamp identifier items core dated =
    all_selected (items_after stamp identifier items) (all-filter is_in_core _ items core) (all-filter has_writable_stamp _ items dated)

-- what a repository keeps has a record in oai_dc
core_of : (a b c d e : Bool) → (a && b && c && d && e) ≡ true → a ≡ true
core_of true b c d e h = refl
core_of false b c d e h = cc

pub all_in_core : (config : RepositoryConfig) (sets : List NamedSet) (items : List ItemState) → list_all (is_well_kept config sets) items ≡ true → list_all is_in_core items ≡ true
all_in_core config sets items h = all-weaker (is_well_kept config sets) is_in_core (λ item well. core_of (is_in_core item) _ _ _ _ well) items h

pub indexed_whole : (config : RepositoryConfig) (index : ItemIndex) (sets : List NamedSet) (lists : VersionLists) → IsIndexed config index sets lists → are_whole (stored_items index lists) ≡ true
indexed_whole config index sets lists held =
    let items : List ItemState = stored_items index lists in
    and_from (are_apart items && list_all is_in_core items) (list_all has_writable_stamp items)
    (and_from (are_apart items) (list_all is_in_core items) held.kept.apart (all_in_core config sets items held.kept.well))
    held.dated

-- ---- an item

-- the items after one that may be added was put among them, or was not
pub item_indexed : (config : RepositoryConfig) (sets : List NamedSet) (item : ItemState) (r : Result (Unit {0}) Fault) (old new : ItemIndex) (before after : VersionLists)
    → may_have_item config sets (length old.entries) item ≡ true → IsStamp item.stamp → IsIndexed config old sets before
    → OnOk r (stored_items new after ≡ with_new item (stored_items old before)) → OnOk r (IndexAgrees new.entries (stored_items new after))
    → OnErr r (new ≡ old) → OnErr r (after ≡ before) → IsIndexed config new sets after
item_indexed config sets item (Ok _) old new before after may stamp held list agrees same_index same_lists =
    let tests = and_parts (is_well_kept config sets item) (nat_lt (length old.entries) config.items) may in
    let items : List ItemState = stored_items old before in
    let less : length old.entries < config.items = grind (arith, nat_tests, tests.1) in
    let kept : AreKept config (record { items = with_new item items; sets = sets }) = record {
      ordered = in_order-changed item items held.kept.ordered;
      apart = apart-changed item items held.kept.apart;
      few = omega (arith, less, held.agrees.many, length-placed item (without item.identifier items), without-at_most item.identifier items);
      well = all-placed (is_well_kept config sets) item (without item.identifier items) tests.0 (well-without (is_well_kept config sets) item.identifier items held.kept.well);
    } in
    record {
      agrees = agrees;
      kept = subst (λ (xs : List ItemState). AreKept config (record { items = xs; sets = sets })) (sym list) kept;
      dated = subst (λ (xs : List ItemState). list_all has_writable_stamp xs ≡ true) (sym list) (dated_new item items (dated_at item.stamp stamp) held.dated);
    }
item_indexed config sets item (Err e) old new before after may stamp held list agrees same_index same_lists =
    subst (λ (lists : VersionLists). IsIndexed config new sets lists) (sym same_lists) (subst (λ (index : ItemIndex). IsIndexed config index sets before) (sym same_index) held)

-- ---- a set

pub set_indexed : (config : RepositoryConfig) (index : ItemIndex) (sets new : List NamedSet) (set : NamedSet) (lists : VersionLists) (r : Result (Unit {0}) Fault)
    → OnOk r (new ≡ sets ++ set ∷ []) → OnErr r (new ≡ sets) → IsIndexed config index sets lists → IsIndexed config index new lists
set_indexed config index sets new set lists (Ok _) added same held =
    subst (λ (s : List NamedSet). IsIndexed config index s lists) (sym added)
    (record { agrees = held.agrees; kept = set_kept config (holdings_of index sets lists) set held.kept; dated = held.dated })
set_indexed config index sets new set lists (Err e) added same held = subst (λ (s : List NamedSet). IsIndexed config index s lists) (sym same) held
