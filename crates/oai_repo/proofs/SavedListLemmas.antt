-- The parts of a state with its open lists, restored one after the other over one that holds nothing, make the state.
use Rattle.std.proofs.Common.{◌≡◌, ◌∙◌, ℕ, ℤ, List, [], ◌∷◌, ◌++◌, map, refl, sym, ap}
use Rattle.std.specs.List.{flat_map}
use Rattle.std.proofs.lemmas.List.{append_assoc, append-nil}
use Rattle.oai_item.specs.Item.{ItemState}
use Rattle.oai_item.specs.Items.{without}
use Rattle.oai_holdings.specs.Changes.{with_new}
use Rattle.oai_holdings.specs.Differences.{AreDifferences, AreInOrderAndApart, ItemDifference, comes, goes, with_differences}
use Rattle.oai_holdings.specs.Holdings.{Holdings, NamedSet, no_holdings}
use Rattle.oai_holdings.proofs.DifferenceLemmas.{differences_lead}
use Rattle.oai_repo.specs.Saved.{SavedPartState, begun_list, has_list, has_named_set, with_part, with_parts}
use Rattle.oai_repo.specs.SavedLists.{AreBeginnings, Beginning, listed_parts, part_of_difference, parts_of_beginning}
use Rattle.oai_repo.specs.State.{FrozenList, RepoState}

-- the state that holds these
abbrev holding : ℤ → ℕ → List NamedSet → List FrozenList → List ItemState → RepoState
holding clock next sets lists items = record { clock = clock; holdings = record { items = items; sets = sets }; open_lists = record { lists = lists; next = next } }

parts_then : (state : RepoState) (parts others : List SavedPartState) → with_parts state (parts ++ others) ≡ with_parts (with_parts state parts) others
parts_then state [] others = refl
parts_then state (part ∷ parts) others = parts_then (with_part state part) parts others

sets_listed : (clock : ℤ) (next : ℕ) (front sets : List NamedSet) (lists : List FrozenList) (items : List ItemState)
    → with_parts (holding clock next front lists items) (map has_named_set sets) ≡ holding clock next (front ++ sets) lists items
sets_listed clock next front [] lists items = ap (λ (all : List NamedSet). holding clock next all lists items) (sym (append-nil front))
sets_listed clock next front (set ∷ sets) lists items =
    sets_listed clock next (front ++ set ∷ []) sets lists items
    ∙ ap (λ (all : List NamedSet). holding clock next all lists items) (append_assoc front (set ∷ []) sets)

differences_listed : (clock : ℤ) (next : ℕ) (sets : List NamedSet) (lists : List FrozenList) (items : List ItemState) (differences : List ItemDifference)
    → with_parts (holding clock next sets lists items) (map part_of_difference differences) ≡ holding clock next sets lists (with_differences items differences)
differences_listed clock next sets lists items [] = refl
differences_listed clock next sets lists items (comes item ∷ differences) = differences_listed clock next sets lists (with_new item items) differences
differences_listed clock next sets lists items (goes gone ∷ differences) = differences_listed clock next sets lists (without gone items) differences

-- the items are others by then
items_listed : (clock : ℤ) (next : ℕ) (sets : List NamedSet) (lists : List FrozenList) (items others : List ItemState) (differences : List ItemDifference)
    → AreInOrderAndApart items → AreInOrderAndApart others → AreDifferences items differences others
    → with_parts (holding clock next sets lists items) (map part_of_difference differences) ≡ holding clock next sets lists others
items_listed clock next sets lists items others differences held are same =
    differences_listed clock next sets lists items differences ∙ ap (holding clock next sets lists) (differences_lead items others differences held are same)

-- a list begins
beginning_listed : (clock : ℤ) (next : ℕ) (sets : List NamedSet) (lists : List FrozenList) (before items : List ItemState) (b : Beginning)
    → AreInOrderAndApart before → AreInOrderAndApart items → AreDifferences before b.differences items
    → with_parts (holding clock next sets lists before) (parts_of_beginning b) ≡ holding clock next sets (lists ++ begun_list b.list items ∷ []) items
beginning_listed clock next sets lists before items b held are same =
    let list : List SavedPartState = has_list b.list ∷ [] in
    parts_then (holding clock next sets lists before) (map part_of_difference b.differences) list
    ∙ ap (λ (s : RepoState). with_parts s list) (items_listed clock next sets lists before items b.differences held are same)

lists_listed : (clock : ℤ) (next : ℕ) (sets : List NamedSet) (front : List FrozenList) (before : List ItemState) (bs : List Beginning) (last : List ItemDifference) (lists : List FrozenList) (held : List ItemState)
    → AreInOrderAndApart before → AreBeginnings before bs last lists held
    → with_parts (holding clock next sets front before) (flat_map parts_of_beginning bs ++ map part_of_difference last) ≡ holding clock next sets (front ++ lists) held
lists_listed clock next sets front before [] last lists held stands are =
    items_listed clock next sets front before held last stands are.2 are.1
    ∙ ap (λ (all : List FrozenList). holding clock next sets all held) (sym (append-nil front) ∙ ap (λ (others : List FrozenList). front ++ others) (sym are.0))
lists_listed clock next sets front before (b ∷ bs) last lists held stands are =
    let items : List ItemState = are.0 in
    let others : List FrozenList = are.1 in
    let list : FrozenList = begun_list b.list items in
    let rest : List SavedPartState = flat_map parts_of_beginning bs ++ map part_of_difference last in
    ap (with_parts (holding clock next sets front before)) (append_assoc (parts_of_beginning b) (flat_map parts_of_beginning bs) (map part_of_difference last))
    ∙ parts_then (holding clock next sets front before) (parts_of_beginning b) rest
    ∙ ap (λ (s : RepoState). with_parts s rest) (beginning_listed clock next sets front before items b stands are.3 are.2)
    ∙ lists_listed clock next sets (front ++ list ∷ []) items bs last others held are.3 are.5
    ∙ ap (λ (all : List FrozenList). holding clock next sets all held) (append_assoc front (list ∷ []) others ∙ ap (λ (all : List FrozenList). front ++ all) (sym are.4))

pub listed_restored : (state start : RepoState) (bs : List Beginning) (last : List ItemDifference) → start.holdings ≡ no_holdings
    → AreBeginnings [] bs last state.open_lists.lists state.holdings.items → with_parts start (listed_parts state bs last) ≡ state
listed_restored state start bs last none are =
    let next : ℕ = state.open_lists.next in
    let sets : List NamedSet = state.holdings.sets in
    let rest : List SavedPartState = flat_map parts_of_beginning bs ++ map part_of_difference last in
    ap (λ (held : Holdings). with_parts (record { clock = state.clock; holdings = held; open_lists = record { lists = []; next = next } }) (map has_named_set sets ++ rest)) none
    ∙ parts_then (holding state.clock next [] [] []) (map has_named_set sets) rest
    ∙ ap (λ (s : RepoState). with_parts s rest) (sets_listed state.clock next [] sets [] [])
    ∙ lists_listed state.clock next sets [] [] bs last state.open_lists.lists state.holdings.items (record { ordered = refl; apart = refl }) are
