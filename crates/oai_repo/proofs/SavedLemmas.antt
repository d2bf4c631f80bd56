-- The parts of a state, restored one after the other over one that holds nothing, make the state.
use Rattle.std.proofs.Common.{◌≡◌, ◌∙◌, ℕ, ℤ, true, not, List, [], ◌∷◌, ◌++◌, map, refl, sym, ap}
use Rattle.std.specs.List.{list_all}
use Rattle.std.specs.Ordering.{is_lt}
use Rattle.std.proofs.lemmas.Bool.{and_from, and_parts}
use Rattle.std.proofs.lemmas.Cmp.{nat_list_eq_equiv}
use Rattle.std.proofs.lemmas.List.{append_assoc, append-nil}
use Rattle.std.proofs.lemmas.List.Folds.{list_all-append}
use Rattle.oai_item.specs.Item.{ItemState}
use Rattle.oai_item.specs.Items.{are_apart, is_apart, is_named, placed, without}
use Rattle.oai_item.specs.Order.{are_in_order, item_cmp, precedes}
use Rattle.oai_item.proofs.Around.{in_order-append, placed-around}
use Rattle.oai_item.proofs.OrderLemmas.{placed-nil}
use Rattle.oai_names.proofs.Lists.{all-weaker, filter_all}
use Rattle.oai_settings.specs.Config.{RepositoryConfig}
use Rattle.oai_holdings.specs.Changes.{with_new}
use Rattle.oai_holdings.specs.Kept.{AreKept}
use Rattle.oai_repo.specs.Saved.{SavedPartState, ended, has_item, has_named_set, parts_of, with_parts}
use Rattle.oai_holdings.specs.Holdings.{Holdings, NamedSet, no_holdings}
use Rattle.oai_repo.specs.State.{OpenLists, RepoState}

-- the state that holds these
abbrev holding : ℤ → OpenLists → List NamedSet → List ItemState → RepoState
holding clock open_lists sets items = record { clock = clock; holdings = record { items = items; sets = sets }; open_lists = open_lists }

-- ---- sets

sets_restored : (clock : ℤ) (open_lists : OpenLists) (front sets : List NamedSet) (items : List ItemState) (rest : List SavedPartState)
    → with_parts (holding clock open_lists front items) (map has_named_set sets ++ rest) ≡ with_parts (holding clock open_lists (front ++ sets) items) rest
sets_restored clock open_lists front [] items rest = ap (λ (all : List NamedSet). with_parts (holding clock open_lists all items) rest) (sym (append-nil front))
sets_restored clock open_lists front (set ∷ sets) items rest =
    sets_restored clock open_lists (front ++ set ∷ []) sets items rest
    ∙ ap (λ (all : List NamedSet). with_parts (holding clock open_lists all items) rest) (append_assoc front (set ∷ []) sets)

-- ---- items

-- the second item has another identifier than the first, so the first has another than the second
apart_back : (a b : ItemState) → is_apart a b ≡ true → is_apart b a ≡ true
apart_back a b h = ap not (nat_list_eq_equiv.symm a.identifier b.identifier) ∙ h

-- none of the items before one has its identifier
none_before : (front : List ItemState) (item : ItemState) (rest : List ItemState) → are_apart (front ++ item ∷ rest) ≡ true → list_all (is_apart item) front ≡ true
none_before [] item rest h = refl
none_before (x ∷ front) item rest h =
    let parts = and_parts (list_all (is_apart x) (front ++ item ∷ rest)) (are_apart (front ++ item ∷ rest)) h in
    let behind = and_parts (list_all (is_apart x) front) (list_all (is_apart x) (item ∷ rest)) (sym (list_all-append (is_apart x) front (item ∷ rest)) ∙ parts.0) in
    let here = and_parts (is_apart x item) (list_all (is_apart x) rest) behind.1 in
    and_from (is_apart item x) (list_all (is_apart item) front) (apart_back x item here.0) (none_before front item rest parts.1)

-- an item that stands behind all others is put at the end
put_last : (front : List ItemState) (item : ItemState) (rest : List ItemState) → are_in_order (front ++ item ∷ rest) ≡ true → are_apart (front ++ item ∷ rest) ≡ true
    → with_new item front ≡ front ++ item ∷ []
unfolding without
put_last front item rest ordered apart =
    let before : list_all (λ (x : ItemState). is_lt (item_cmp x item)) front ≡ true =
    all-weaker (λ (x : ItemState). list_all (precedes x) (item ∷ rest)) (λ x. is_lt (item_cmp x item)) (λ x ahead. (and_parts (precedes x item) (list_all (precedes x) rest) ahead).0) front (in_order-append front (item ∷ rest) ordered).2
    in
    ap (placed item) (filter_all (λ (x : ItemState). not (is_named item.identifier x)) front (none_before front item rest apart))
    ∙ ap (placed item) (sym (append-nil front))
    ∙ placed-around item front [] [] (record { below = before; above = refl })
    ∙ ap (λ (xs : List ItemState). front ++ xs) (append-nil (placed item []) ∙ placed-nil item)

items_restored : (clock : ℤ) (open_lists : OpenLists) (sets : List NamedSet) (front items : List ItemState) → are_in_order (front ++ items) ≡ true → are_apart (front ++ items) ≡ true
    → with_parts (holding clock open_lists sets front) (map has_item items) ≡ holding clock open_lists sets (front ++ items)
items_restored clock open_lists sets front [] ordered apart = ap (holding clock open_lists sets) (sym (append-nil front))
items_restored clock open_lists sets front (item ∷ items) ordered apart =
    let joined : (front ++ item ∷ []) ++ items ≡ front ++ item ∷ items = append_assoc front (item ∷ []) items in
    ap (λ (all : List ItemState). with_parts (holding clock open_lists sets all) (map has_item items)) (put_last front item items ordered apart)
    ∙ items_restored clock open_lists sets (front ++ item ∷ []) items (ap are_in_order joined ∙ ordered) (ap are_apart joined ∙ apart)
    ∙ ap (holding clock open_lists sets) joined

-- ---- a state

pub restored : (config : RepositoryConfig) (state start : RepoState) (raise : ℕ) → AreKept config state.holdings → start.holdings ≡ no_holdings
    → with_parts start (parts_of (ended raise state)) ≡ ended raise state
restored config state start raise kept none =
    let ended_lists : OpenLists = (ended raise state).open_lists in
    let rest : List SavedPartState = map has_named_set state.holdings.sets ++ map has_item state.holdings.items in
    ap (λ (held : Holdings). with_parts (record { clock = state.clock; holdings = held; open_lists = ended_lists }) rest) none
    ∙ sets_restored state.clock ended_lists [] state.holdings.sets [] (map has_item state.holdings.items)
    ∙ items_restored state.clock ended_lists state.holdings.sets [] state.holdings.items kept.ordered kept.apart
