-- The open lists of a repository, as its table and its store have them.
use Rattle.std.proofs.Common.{◌≡◌, ◌∙◌, inl, inr, ℕ, ℤ, pos, ◌+◌, ◌+ℤ◌, ◌<◌, ◌≤ℤ◌, Bool, true, false, not, ◌&&◌, ◌||◌, eqb, List, [], ◌∷◌, ◌++◌, length, map, Option, None, Some, IsSome, unwrap_or, refl, sym, ap, subst, arith}
use Rattle.std.specs.Prelude.{filter, find, int_le, int_lt, nat_lt}
use Rattle.std.specs.List.{list_all}
use Rattle.std.specs.Option.{option_map}
use Rattle.std.proofs.lemmas.Bool.{and_from, and_left, and_parts, and_right, cases_Bool, cond-true, cond-false, cond_both, eq-eqb, eqb-true, false_from_ne_true, not-true, or_left, or_right}
use Rattle.std.proofs.lemmas.Bool.Decides.{nat_tests}
use Rattle.std.proofs.lemmas.Int.{ints}
use Rattle.std.proofs.lemmas.List.{map-append}
use Rattle.std.proofs.lemmas.List.Elements.{filter-append}
use Rattle.oai_names.proofs.Lists.{all-weaker, find_none}
use Rattle.oai_names.specs.Numbered.{is_lower}
use Rattle.oai_item.specs.Item.{ItemState}
use Rattle.oai_item.specs.Selection.{selected}
use Rattle.oai_catalogue.specs.Store.{VersionLists, list_at, with_list}
use Rattle.oai_catalogue.proofs.ListsLemmas.{list_at-with}
use Rattle.oai_lists.proofs.Changes.{unchanged_lists}
use Rattle.oai_lists.specs.HeldTable.{no_list_numbered}
use Rattle.oai_lists.specs.OpenLists.{IsListTable, Table, are_numbered_lists, changed_one, has_list_number, is_open, kept_open, list_number, open_numbered, open_ones, with_change, with_opened as opening, with_reopened, without_ended}
use Rattle.oai_lists.specs.declared.open_lists.Mark.{Mark}
use Rattle.oai_lists.specs.declared.open_lists.OpenList.{OpenList}
use Rattle.oai_settings.specs.Config.{RepositoryConfig}
use Rattle.oai_holdings.specs.Index.{IndexAgrees, IsIndexed, ItemIndex, are_whole, has_writable_stamp}
use Rattle.oai_repo.specs.Fields.{AreInUse, KeepsOthers, TableAgrees, are_different, open_lists_of, frozen_in, has, has_whole_items, is_counted, is_marked, is_place_in, items_frozen, versions_in}
use Rattle.oai_holdings.specs.Kept.{AreKept}
use Rattle.oai_repo.specs.Listing.{carried_on, carried_on_at, is_of_number, with_carried_on, with_new_list}
use Rattle.oai_holdings.specs.Holdings.{NamedSet}
use Rattle.oai_repo.specs.Saved.{with_begun}
use Rattle.oai_repo.specs.State.{FrozenList, OpenLists, is_open_at, still_open}
use Rattle.oai_repo.specs.Tables.{IsKeptTable, IsLeftOpen, IsPutBack, dropped_at, has_end, is_of_known_format, version_ended, without_version}
use Rattle.oai_repo.proofs.EndLemmas.{left_same, open_here, open_later, open_same, rest_all, versions}
use Rattle.oai_repo.proofs.NumberLemmas.{clash, in_use_end, kept_end, kept_same, same_number, turned, unused_lacks}

-- ---- what a version holds is all that counts

frozen_same : (a b : VersionLists) (list : OpenList) → b list.version ≡ a list.version → frozen_in b list ≡ frozen_in a list
frozen_same a b list same =
    let made : Option (List ItemState) → FrozenList = λ o. record { number = list.number; verb = list.verb; prefix = list.filter.prefix; items = selected list.filter (unwrap_or o []); end = list.end; given = list.given } in
    ap made same

-- what is asked of a list and of the items of its version
abbrev pub agrees_by : (OpenList → List ItemState → Bool) → VersionLists → OpenList → Bool
agrees_by q lists list = q list (list_at lists list.version)

agrees_at : (q : OpenList → List ItemState → Bool) (a b : VersionLists) (list : OpenList) → b list.version ≡ a list.version → agrees_by q b list ≡ agrees_by q a list
agrees_at q a b list same = ap (λ (o : Option (List ItemState)). q list (unwrap_or o [])) same

map_frozen : (a b : VersionLists) (lists : List OpenList) → ((n : ℕ) → has (versions lists) n ≡ true → b n ≡ a n) → map (frozen_in b) lists ≡ map (frozen_in a) lists
map_frozen a b [] same = refl
map_frozen a b (x ∷ lists) same =
    ap (λ (list : FrozenList). list ∷ map (frozen_in b) lists) (frozen_same a b x (same x.version (or_left (eqb x.version x.version) (has (versions lists) x.version) (same_number x.version))))
    ∙ ap (λ ls. frozen_in a x ∷ ls) (map_frozen a b lists (λ n there. same n (or_right (eqb x.version n) (has (versions lists) n) there)))

pub all_agree : (q : OpenList → List ItemState → Bool) (a b : VersionLists) (lists : List OpenList) → ((n : ℕ) → has (versions lists) n ≡ true → b n ≡ a n) → list_all (agrees_by q a) lists ≡ true → list_all (agrees_by q b) lists ≡ true
all_agree q a b [] same h = refl
all_agree q a b (x ∷ lists) same h =
    let parts = and_parts (agrees_by q a x) (list_all (agrees_by q a) lists) h in
    and_from (agrees_by q b x) (list_all (agrees_by q b) lists)
    (agrees_at q a b x (same x.version (or_left (eqb x.version x.version) (has (versions lists) x.version) (same_number x.version))) ∙ parts.0)
    (all_agree q a b lists (λ n there. same n (or_right (eqb x.version n) (has (versions lists) n) there)) parts.1)

-- the size is that of the selected items, the mark is a place among them, and the items can be read as a whole
abbrev pub by_size : OpenList → List ItemState → Bool
by_size list items = eqb list.size (length (selected list.filter items))

abbrev pub by_mark : OpenList → List ItemState → Bool
by_mark list items = is_place_in (selected list.filter items) list.mark

abbrev pub by_items : OpenList → List ItemState → Bool
by_items list items = are_whole items

-- a table agrees with other lists that hold the same under its numbers
pub table_agrees_same : (table : Table) (a b : VersionLists) → ((n : ℕ) → has (versions_in table) n ≡ true → b n ≡ a n) → TableAgrees table a → TableAgrees table b
table_agrees_same table a b same agrees = record {
  counted = all_agree by_size a b table.lists same agrees.counted;
  marked = all_agree by_mark a b table.lists same agrees.marked;
  whole = all_agree by_items a b table.lists same agrees.whole;
}

-- an open one is among all
open_there : (now : ℤ) (lists : List OpenList) (n : ℕ) → has (versions (open_ones now lists)) n ≡ true → has (versions lists) n ≡ true
open_there now [] n there = there
open_there now (x ∷ lists) n there =
    elim (cases_Bool (is_open now x)) [
      | inl lasts ↦
          let here : (eqb x.version n || has (versions (open_ones now lists)) n) ≡ true = ap (λ ls. has (versions ls) n) (sym (open_here now x lists lasts)) ∙ there in
          elim (cases_Bool (eqb x.version n)) [
            | inl same ↦ or_left (eqb x.version n) (has (versions lists) n) same
            | inr other ↦ or_right (eqb x.version n) (has (versions lists) n) (open_there now lists n (ap (λ b. b || has (versions (open_ones now lists)) n) (sym other) ∙ here))
          ]
      | inr over ↦ or_right (eqb x.version n) (has (versions lists) n) (open_there now lists n (ap (λ ls. has (versions ls) n) (sym (open_later now x lists over)) ∙ there))
    ]

pub open_lists_same : (clock : ℤ) (table : Table) (a b : VersionLists) → ((n : ℕ) → has (versions_in table) n ≡ true → b n ≡ a n) → open_lists_of clock table b ≡ open_lists_of clock table a
open_lists_same clock table a b same =
    let made : List FrozenList → OpenLists = λ lists. record { lists = lists; next = table.next } in
    ap made (map_frozen a b (open_ones clock table.lists) (λ n there. same n (open_there clock table.lists n there)))

-- ---- a later clock

open_before : (c now : ℤ) (list : OpenList) → c ≤ℤ now → is_open c list ≡ false → is_open now list ≡ false
open_before c now list later h = let e : not (is_open now list) ≡ true = grind (arith, ints) in not-true (is_open now list) e

filtered : (c now : ℤ) (all : VersionLists) (lists : List OpenList) → c ≤ℤ now
    → filter (is_open_at now) (map (frozen_in all) (open_ones c lists)) ≡ map (frozen_in all) (open_ones now lists)
filtered c now all [] later = refl
filtered c now all (x ∷ lists) later =
    let rest = filtered c now all lists later in
    elim (cases_Bool (is_open c x)) [
      | inl was ↦
          ap (λ ls. filter (is_open_at now) (map (frozen_in all) ls)) (open_here c x lists was)
          ∙ elim (cases_Bool (is_open now x)) [
            | inl lasts ↦
                cond-true (is_open now x) (frozen_in all x ∷ filter (is_open_at now) (map (frozen_in all) (open_ones c lists))) (filter (is_open_at now) (map (frozen_in all) (open_ones c lists))) lasts
                ∙ ap (λ ls. frozen_in all x ∷ ls) rest
                ∙ ap (map (frozen_in all)) (sym (open_here now x lists lasts))
            | inr over ↦
                cond-false (is_open now x) (frozen_in all x ∷ filter (is_open_at now) (map (frozen_in all) (open_ones c lists))) (filter (is_open_at now) (map (frozen_in all) (open_ones c lists))) over
                ∙ rest
                ∙ ap (map (frozen_in all)) (sym (open_later now x lists over))
          ]
      | inr gone ↦
          ap (λ ls. filter (is_open_at now) (map (frozen_in all) ls)) (open_later c x lists gone)
          ∙ rest
          ∙ ap (map (frozen_in all)) (sym (open_later now x lists (open_before c now x later gone)))
    ]

pub still_same : (c now : ℤ) (table : Table) (all : VersionLists) → c ≤ℤ now → still_open now (open_lists_of c table all) ≡ open_lists_of now table all
still_same c now table all later =
    let made : List FrozenList → OpenLists = λ lists. record { lists = lists; next = table.next } in
    ap made (filtered c now all table.lists later)

-- ---- the first that has ended is dropped

pub open_lists_dropped : (now : ℤ) (v : ℕ) (table : Table) (all : VersionLists) → are_different (v ∷ versions_in table) ≡ true
    → open_lists_of now (dropped_at now table) (without_version (version_ended now table) all) ≡ open_lists_of now table all
open_lists_dropped now v table all apart =
    let made : List FrozenList → OpenLists = λ lists. record { lists = lists; next = table.next } in
    let left : List OpenList = without_ended now table.lists in
    ap made (map_frozen all (without_version (version_ended now table) all) (open_ones now left)
    (λ n there. left_same now v table all apart n (or_right (eqb v n) (has (versions left) n) (open_there now left n there)))
    ∙ ap (map (frozen_in all)) (open_same now table.lists))

all_dropped : (q : OpenList → List ItemState → Bool) (now : ℤ) (v : ℕ) (table : Table) (all : VersionLists) → are_different (v ∷ versions_in table) ≡ true → list_all (agrees_by q all) table.lists ≡ true
    → list_all (agrees_by q (without_version (version_ended now table) all)) (without_ended now table.lists) ≡ true
all_dropped q now v table all apart h =
    let left : List OpenList = without_ended now table.lists in
    all_agree q all (without_version (version_ended now table) all) left
    (λ n there. left_same now v table all apart n (or_right (eqb v n) (has (versions left) n) there))
    (rest_all (agrees_by q all) now table.lists h)

pub table_agrees_dropped : (now : ℤ) (v : ℕ) (table : Table) (all : VersionLists) → are_different (v ∷ versions_in table) ≡ true → TableAgrees table all
    → TableAgrees (dropped_at now table) (without_version (version_ended now table) all)
table_agrees_dropped now v table all apart agrees = record {
  counted = all_dropped by_size now v table all apart agrees.counted;
  marked = all_dropped by_mark now v table all apart agrees.marked;
  whole = all_dropped by_items now v table all apart agrees.whole;
}

pub table_dropped : (config : RepositoryConfig) (now : ℤ) (table : Table) → IsKeptTable config table → IsKeptTable config (dropped_at now table)
table_dropped config now table kept = record {
  limit = kept.limit;
  ends = rest_all has_end now table.lists kept.ends;
  known = rest_all (is_of_known_format config) now table.lists kept.known;
}

-- the items stand as they did
pub items_dropped : (now : ℤ) (v : ℕ) (table : Table) (all : VersionLists) → are_different (v ∷ versions_in table) ≡ true → without_version (version_ended now table) all v ≡ all v
items_dropped now v table all apart = left_same now v table all apart v (or_left (eqb v v) (has (versions (without_ended now table.lists)) v) (same_number v))

-- ---- the items of a repository, where its version has not changed

pub indexed_at : (config : RepositoryConfig) (index : ItemIndex) (sets : List NamedSet) (a b : VersionLists) → list_at b index.version ≡ list_at a index.version → IsIndexed config index sets a → IsIndexed config index sets b
indexed_at config index sets a b items held = record {
  agrees = subst (λ (xs : List ItemState). IndexAgrees index.entries xs) (sym items) held.agrees;
  kept = subst (λ (xs : List ItemState). AreKept config (record { items = xs; sets = sets })) (sym items) held.kept;
  dated = ap (list_all has_writable_stamp) items ∙ held.dated;
}

pub indexed_same : (config : RepositoryConfig) (index : ItemIndex) (sets : List NamedSet) (a b : VersionLists) → b index.version ≡ a index.version → IsIndexed config index sets a → IsIndexed config index sets b
indexed_same config index sets a b same held = indexed_at config index sets a b (ap (λ (o : Option (List ItemState)). unwrap_or o []) same) held

-- ---- the list that a token continues

-- what is found is one of the lists
among_them : (p : OpenList → Bool) (q : OpenList → Bool) (lists : List OpenList) (x : OpenList) → find p lists ≡ Some x → list_all q lists ≡ true → (p x ≡ true) × (q x ≡ true) × (has (versions lists) x.version ≡ true)
among_them p q [] x found h = cc
among_them p q (y ∷ lists) x found h =
    let parts = and_parts (q y) (list_all q lists) h in
    elim (cases_Bool (p y)) [
      | inl here ↦
          let e : Some y ≡ Some x = sym (cond-true (p y) (Some y) (find p lists) here) ∙ found in
          let same : y ≡ x = cc in
          subst (λ (z : OpenList). (p z ≡ true) × (q z ≡ true) × (has (versions (y ∷ lists)) z.version ≡ true)) same (here, parts.0, or_left (eqb y.version y.version) (has (versions lists) y.version) (same_number y.version))
      | inr later ↦
          let rest = among_them p q lists x (sym (cond-false (p y) (Some y) (find p lists) later) ∙ found) parts.1 in
          (rest.0, rest.1, or_right (eqb y.version x.version) (has (versions lists) x.version) rest.2)
    ]

-- the list of a number that is open
abbrev pub opened_as : ℕ → ℤ → OpenList → Bool
opened_as number now list = has_list_number number list && is_open now list

pub open_parts : (number : ℕ) (now : ℤ) (q : OpenList → Bool) (lists : List OpenList) (x : OpenList) → open_numbered number now lists ≡ Some x → list_all q lists ≡ true
    → (x.number ≡ number) × (is_open now x ≡ true) × (q x ≡ true) × (has (versions lists) x.version ≡ true)
unfolding open_numbered
open_parts number now q lists x found h =
    let parts = among_them (opened_as number now) q lists x found h in
    let both = and_parts (has_list_number number x) (is_open now x) parts.0 in
    (eqb-true x.number number both.0, both.1, parts.1, parts.2)

pub all_true : (lists : List OpenList) → list_all (λ _. true) lists ≡ true
all_true [] = refl
all_true (x ∷ lists) = all_true lists

-- the same list, as the state has it
pub found_frozen : (number : ℕ) (now : ℤ) (all : VersionLists) (lists : List OpenList)
    → find (is_of_number number) (map (frozen_in all) (open_ones now lists)) ≡ option_map (frozen_in all) (open_numbered number now lists)
unfolding open_numbered
found_frozen number now all [] = refl
found_frozen number now all (x ∷ lists) =
    let rest = found_frozen number now all lists in
    elim (cases_Bool (is_open now x)) [
      | inl lasts ↦
          ap (λ ls. find (is_of_number number) (map (frozen_in all) ls)) (open_here now x lists lasts)
          ∙ elim (cases_Bool (has_list_number number x)) [
            | inl here ↦
                cond-true (has_list_number number x) (Some (frozen_in all x)) (find (is_of_number number) (map (frozen_in all) (open_ones now lists))) here
                ∙ sym (ap (option_map (frozen_in all)) (cond-true (opened_as number now x) (Some x) (find (opened_as number now) lists) (and_from (has_list_number number x) (is_open now x) here lasts)))
            | inr other ↦
                cond-false (has_list_number number x) (Some (frozen_in all x)) (find (is_of_number number) (map (frozen_in all) (open_ones now lists))) other
                ∙ rest
                ∙ sym (ap (option_map (frozen_in all)) (cond-false (opened_as number now x) (Some x) (find (opened_as number now) lists) (and_left (has_list_number number x) (is_open now x) other)))
          ]
      | inr over ↦
          ap (λ ls. find (is_of_number number) (map (frozen_in all) ls)) (open_later now x lists over)
          ∙ rest
          ∙ sym (ap (option_map (frozen_in all)) (cond-false (opened_as number now x) (Some x) (find (opened_as number now) lists) (and_right (has_list_number number x) (is_open now x) over)))
    ]

-- ---- a list of which a part was answered

kept_stays : (now end : ℤ) (next : Option ℕ) (mark : Option Mark) (number : ℕ) (x : OpenList) → int_lt now end ≡ true → is_open now x ≡ true → is_open now (changed_one number (kept_open end next mark) x) ≡ true
kept_stays now end next mark number x later lasts =
    cond_both (has_list_number number x) (kept_open end next mark x) x (λ (list : OpenList). is_open now list ≡ true) (λ _. later) (λ _. lasts)

kept_frozen : (config : RepositoryConfig) (now end : ℤ) (next : Option ℕ) (mark : Option Mark) (number : ℕ) (all : VersionLists) (x : OpenList) → end ≡ now +ℤ pos config.lifetime
    → frozen_in all (changed_one number (kept_open end next mark) x) ≡ carried_on_at config now number next (frozen_in all x)
kept_frozen config now end next mark number all x is =
    elim (cases_Bool (has_list_number number x)) [
      | inl here ↦
          ap (frozen_in all) (cond-true (has_list_number number x) (kept_open end next mark x) x here)
          ∙ ap (λ (e : ℤ). frozen_in all (kept_open e next mark x)) is
          ∙ sym (cond-true (has_list_number number x) (carried_on config now next (frozen_in all x)) (frozen_in all x) here)
      | inr other ↦
          ap (frozen_in all) (cond-false (has_list_number number x) (kept_open end next mark x) x other)
          ∙ sym (cond-false (has_list_number number x) (carried_on config now next (frozen_in all x)) (frozen_in all x) other)
    ]

-- each list of that number is open
abbrev pub is_open_as : ℤ → ℕ → OpenList → Bool
is_open_as now number list = not (has_list_number number list) || is_open now list

-- one that has ended has another number, and stays as it was
kept_over : (now end : ℤ) (next : Option ℕ) (mark : Option Mark) (number : ℕ) (x : OpenList) → is_open_as now number x ≡ true → is_open now x ≡ false → is_open now (changed_one number (kept_open end next mark) x) ≡ false
kept_over now end next mark number x alone over =
    elim (cases_Bool (has_list_number number x)) [
      | inl here ↦ let lasts : is_open now x ≡ true = sym (ap (λ b. not b || is_open now x) here) ∙ alone in clash (is_open now x) lasts over
      | inr other ↦ ap (is_open now) (cond-false (has_list_number number x) (kept_open end next mark x) x other) ∙ over
    ]

kept_lists : (config : RepositoryConfig) (now end : ℤ) (next : Option ℕ) (mark : Option Mark) (number : ℕ) (all : VersionLists) (lists : List OpenList) → end ≡ now +ℤ pos config.lifetime → int_lt now end ≡ true
    → list_all (is_open_as now number) lists ≡ true
    → map (frozen_in all) (open_ones now (with_change number (kept_open end next mark) lists)) ≡ map (carried_on_at config now number next) (map (frozen_in all) (open_ones now lists))
kept_lists config now end next mark number all [] is later alone = refl
kept_lists config now end next mark number all (x ∷ lists) is later alone =
    let change : OpenList → OpenList = kept_open end next mark in
    let parts = and_parts (is_open_as now number x) (list_all (is_open_as now number) lists) alone in
    let rest = kept_lists config now end next mark number all lists is later parts.1 in
    elim (cases_Bool (is_open now x)) [
      | inl lasts ↦
          ap (map (frozen_in all)) (open_here now (changed_one number change x) (with_change number change lists) (kept_stays now end next mark number x later lasts))
          ∙ ap (λ (list : FrozenList). list ∷ map (frozen_in all) (open_ones now (with_change number change lists))) (kept_frozen config now end next mark number all x is)
          ∙ ap (λ ls. carried_on_at config now number next (frozen_in all x) ∷ ls) rest
          ∙ ap (λ ls. map (carried_on_at config now number next) (map (frozen_in all) ls)) (sym (open_here now x lists lasts))
      | inr over ↦
          ap (map (frozen_in all)) (open_later now (changed_one number change x) (with_change number change lists) (kept_over now end next mark number x parts.0 over))
          ∙ rest
          ∙ ap (λ ls. map (carried_on_at config now number next) (map (frozen_in all) ls)) (sym (open_later now x lists over))
    ]

-- the table in which that list is kept open
abbrev pub kept_table : ℤ → Option ℕ → Option Mark → ℕ → Table → Table
kept_table end next mark number table = record table { lists = with_change number (kept_open end next mark) table.lists }

-- the versions stay, and what is true of each
kept_versions : (end : ℤ) (next : Option ℕ) (mark : Option Mark) (number : ℕ) (lists : List OpenList) → versions (with_change number (kept_open end next mark) lists) ≡ versions lists
kept_versions end next mark number [] = refl
kept_versions end next mark number (x ∷ lists) =
    let change : OpenList → OpenList = kept_open end next mark in
    ap (λ (v : ℕ). v ∷ versions (with_change number change lists)) (cond_both (has_list_number number x) (change x) x (λ (list : OpenList). list.version ≡ x.version) (λ _. refl) (λ _. refl))
    ∙ ap (λ vs. x.version ∷ vs) (kept_versions end next mark number lists)

changed_all : (p : OpenList → Bool) (number : ℕ) (change : OpenList → OpenList) (lists : List OpenList) → ((x : OpenList) → p x ≡ true → p (change x) ≡ true) → list_all p lists ≡ true → list_all p (with_change number change lists) ≡ true
changed_all p number change [] keeps h = refl
changed_all p number change (x ∷ lists) keeps h =
    let parts = and_parts (p x) (list_all p lists) h in
    and_from (p (changed_one number change x)) (list_all p (with_change number change lists))
    (cond_both (has_list_number number x) (change x) x (λ (list : OpenList). p list ≡ true) (λ _. keeps x parts.0) (λ _. parts.0))
    (changed_all p number change lists keeps parts.1)

-- where numbers rise, what is true of the list of the number after its change is true of every list of that number
higher_apart : (number : ℕ) (y : OpenList) (lists : List OpenList) → has_list_number number y ≡ true → list_all (is_lower list_number y) lists ≡ true → no_list_numbered number lists
higher_apart number y lists here above =
    all-weaker (λ (list : OpenList). is_lower list_number y list) (λ list. not (has_list_number number list)) (λ list more. other y.number list.number here more) lists above
  where
    other : (n m : ℕ) → eqb n number ≡ true → nat_lt n m ≡ true → not (eqb m number) ≡ true
    other n m is more = grind (arith, nat_tests)

one_changed : (now : ℤ) (number : ℕ) (q : OpenList → Bool) (change : OpenList → OpenList) (lists : List OpenList) (x : OpenList) → are_numbered_lists lists ≡ true → open_numbered number now lists ≡ Some x → q (change x) ≡ true → list_all q lists ≡ true
    → (list_all q (with_change number change lists) ≡ true) × (list_all (is_open_as now number) lists ≡ true)
unfolding open_numbered
one_changed now number q change [] x rising found changed h = (refl, refl)
one_changed now number q change (y ∷ lists) x rising found changed h =
    let parts = and_parts (q y) (list_all q lists) h in
    let order = and_parts (list_all (is_lower list_number y) lists) (are_numbered_lists lists) rising in
    elim (cases_Bool (has_list_number number y)) [
      | inl here ↦
          let none : no_list_numbered number lists = higher_apart number y lists here order.0 in
          elim (cases_Bool (is_open now y)) [
            | inl lasts ↦
                let e : Some y ≡ Some x = sym (cond-true (opened_as number now y) (Some y) (find (opened_as number now) lists) (and_from (has_list_number number y) (is_open now y) here lasts)) ∙ found in
                let same : y ≡ x = cc in (
                  and_from (q (changed_one number change y)) (list_all q (with_change number change lists))
                      (ap q (cond-true (has_list_number number y) (change y) y here ∙ ap change same) ∙ changed)
                      (ap (list_all q) (unchanged_lists number change lists none) ∙ parts.1),
                  and_from (is_open_as now number y) (list_all (is_open_as now number) lists) (or_right (not (has_list_number number y)) (is_open now y) lasts)
                      (all-weaker (λ (list : OpenList). not (has_list_number number list)) (is_open_as now number) (λ list lacks. or_left (not (has_list_number number list)) (is_open now list) lacks) lists none),
                )
            | inr over ↦
                let later : find (opened_as number now) lists ≡ Some x =
                sym (cond-false (opened_as number now y) (Some y) (find (opened_as number now) lists) (and_right (has_list_number number y) (is_open now y) over)) ∙ found
                in
                let lacks : find (opened_as number now) lists ≡ None =
                find_none (opened_as number now) lists
                (all-weaker (λ (list : OpenList). not (has_list_number number list)) (λ list. not (opened_as number now list)) (λ list other. ap not (and_left (has_list_number number list) (is_open now list) (not-true (has_list_number number list) other))) lists none)
                in
                cc
          ]
      | inr other ↦
          let rest = one_changed now number q change lists x order.1 (sym (cond-false (opened_as number now y) (Some y) (find (opened_as number now) lists) (and_left (has_list_number number y) (is_open now y) other)) ∙ found) changed parts.1 in (
            and_from (q (changed_one number change y)) (list_all q (with_change number change lists))
                (ap q (cond-false (has_list_number number y) (change y) y other) ∙ parts.0) rest.0,
            and_from (is_open_as now number y) (list_all (is_open_as now number) lists) (or_left (not (has_list_number number y)) (is_open now y) (ap not other)) rest.1,
          )
    ]

pub open_lists_kept : (config : RepositoryConfig) (now end : ℤ) (next : Option ℕ) (mark : Option Mark) (number : ℕ) (table : Table) (all : VersionLists) (x : OpenList) → end ≡ now +ℤ pos config.lifetime → int_lt now end ≡ true → IsListTable table → open_numbered number now table.lists ≡ Some x
    → open_lists_of now (kept_table end next mark number table) all ≡ with_carried_on config now number next (open_lists_of now table all)
open_lists_kept config now end next mark number table all x is later numbers found =
    let made : List FrozenList → OpenLists = λ lists. record { lists = lists; next = table.next } in
    ap made (kept_lists config now end next mark number all table.lists is later (one_changed now number (λ _. true) (kept_open end next mark) table.lists x numbers.numbered found refl (all_true table.lists)).1)

-- the list of the number has a place among its items for a mark
pub table_agrees_kept : (now end : ℤ) (next : Option ℕ) (mark : Option Mark) (number : ℕ) (table : Table) (all : VersionLists) (x : OpenList) → IsListTable table → open_numbered number now table.lists ≡ Some x
    → is_place_in (items_frozen all x) mark ≡ true → TableAgrees table all → TableAgrees (kept_table end next mark number table) all
table_agrees_kept now end next mark number table all x numbers found place agrees =
    let change : OpenList → OpenList = kept_open end next mark in
    record {
      counted = changed_all (is_counted all) number change table.lists (λ y counted. counted) agrees.counted;
      marked = (one_changed now number (is_marked all) change table.lists x numbers.numbered found place agrees.marked).0;
      whole = changed_all (has_whole_items all) number change table.lists (λ y whole. whole) agrees.whole;
    }

pub table_kept : (config : RepositoryConfig) (end : ℤ) (next : Option ℕ) (mark : Option Mark) (number : ℕ) (table : Table) → int_le end (pos 253_402_300_799) ≡ true → IsKeptTable config table → IsKeptTable config (kept_table end next mark number table)
table_kept config end next mark number table fits kept = record {
  limit = kept.limit;
  ends = changed_all has_end number (kept_open end next mark) table.lists (λ x h. fits) kept.ends;
  known = changed_all (is_of_known_format config) number (kept_open end next mark) table.lists (λ x h. h) kept.known;
}

-- a table with the same numbers as another
pub in_use_same : (v : ℕ) (a b : List ℕ) (all : VersionLists) → b ≡ a → AreInUse (v ∷ a) all → AreInUse (v ∷ b) all
in_use_same v a b all same stands = subst (λ (ns : List ℕ). AreInUse (v ∷ ns) all) (sym same) stands

pub left_kept : (config : RepositoryConfig) (now end : ℤ) (next : Option ℕ) (mark : Option Mark) (number v : ℕ) (table : Table) (all : VersionLists) → int_le end (pos 253_402_300_799) ≡ true → IsKeptTable config table → AreInUse (v ∷ versions_in table) all
    → IsSome (open_numbered number now table.lists) → IsLeftOpen config now v table all (kept_table end next mark number table) all
left_kept config now end next mark number v table all fits kept stands opened =
    let same : versions_in (kept_table end next mark number table) ≡ versions_in table = kept_versions end next mark number table.lists in
    record {
      asked = inr (inl (number, end, next, mark, opened, refl));
      kept = table_kept config end next mark number table fits kept;
      stands = in_use_same v (versions_in table) (versions_in (kept_table end next mark number table)) all same stands;
      others = subst (λ (ns : List ℕ). KeepsOthers (v ∷ versions_in table) all (v ∷ ns) all) (sym same) (kept_same (v ∷ versions_in table) all);
      items = refl;
    }

-- what is left where nothing is opened
pub left_same_table : (config : RepositoryConfig) (now : ℤ) (v : ℕ) (table : Table) (all : VersionLists) → IsKeptTable config table → AreInUse (v ∷ versions_in table) all → IsLeftOpen config now v table all table all
left_same_table config now v table all kept stands = record { asked = inl refl; kept = kept; stands = stands; others = kept_same (v ∷ versions_in table) all; items = refl }

-- ---- a list that begins

open_end : (now : ℤ) (lists : List OpenList) (x : OpenList) → is_open now x ≡ true → open_ones now (lists ++ x ∷ []) ≡ open_ones now lists ++ x ∷ []
open_end now lists x lasts = filter-append (is_open now) lists (x ∷ []) ∙ ap (λ ls. open_ones now lists ++ ls) (open_here now x [] lasts)

versions_end : (lists : List OpenList) (x : OpenList) → versions (lists ++ x ∷ []) ≡ versions lists ++ x.version ∷ []
versions_end lists x = map-append (λ (list : OpenList). list.version) lists (x ∷ [])

other_lists : (v : ℕ) (table : Table) (w : ℕ) (items : List ItemState) (all : VersionLists) → AreInUse (v ∷ versions_in table) all → all w ≡ None → (n : ℕ) → has (versions_in table) n ≡ true → with_list w items all n ≡ all n
other_lists v table w items all stands free n there =
    cond-false (eqb n w) (Some items) (all n)
    (false_from_ne_true (eqb n w)
    (λ same. clash (has (v ∷ versions_in table) w) (or_right (eqb v w) (has (versions_in table) w) (subst (λ (m : ℕ). has (versions_in table) m ≡ true) (eqb-true n w same) there))
    (unused_lacks (v ∷ versions_in table) all w stands.used free)))

-- the open ones, with that one behind them
abbrev frozen_with : OpenList → List ItemState → FrozenList
frozen_with list items = record { number = list.number; verb = list.verb; prefix = list.filter.prefix; items = selected list.filter items; end = list.end; given = list.given }

frozen_end : (now : ℤ) (v : ℕ) (table : Table) (all : VersionLists) (list : OpenList) (items : List ItemState) → AreInUse (v ∷ versions_in table) all → all list.version ≡ None → is_open now list ≡ true
    → map (frozen_in (with_list list.version items all)) (open_ones now (table.lists ++ list ∷ [])) ≡ map (frozen_in all) (open_ones now table.lists) ++ frozen_with list items ∷ []
frozen_end now v table all list items stands free lasts =
    let after : VersionLists = with_list list.version items all in
    ap (map (frozen_in after)) (open_end now table.lists list lasts)
    ∙ map-append (frozen_in after) (open_ones now table.lists) (list ∷ [])
    ∙ ap (λ ls. ls ++ frozen_in after list ∷ []) (map_frozen all after (open_ones now table.lists) (λ n there. other_lists v table list.version items all stands free n (open_there now table.lists n there)))
    ∙ ap (λ (xs : List ItemState). map (frozen_in all) (open_ones now table.lists) ++ frozen_with list xs ∷ []) (list_at-with list.version items all)

pub open_lists_opened : (now : ℤ) (v : ℕ) (table : Table) (all : VersionLists) (list : OpenList) (items : List ItemState) → AreInUse (v ∷ versions_in table) all → all list.version ≡ None → is_open now list ≡ true
    → open_lists_of now (opening table list) (with_list list.version items all) ≡ with_new_list (record { number = list.number; verb = list.verb; prefix = list.filter.prefix; items = selected list.filter items; end = list.end; given = list.given }) (open_lists_of now table all)
open_lists_opened now v table all list items stands free lasts =
    let made : List FrozenList → OpenLists = λ lists. record { lists = lists; next = table.next + 1 } in
    ap made (frozen_end now v table all list items stands free lasts)

-- so it is where it is put back, and the next number is as it was
pub open_lists_reopened : (now : ℤ) (v : ℕ) (table : Table) (all : VersionLists) (list : OpenList) (items : List ItemState) → AreInUse (v ∷ versions_in table) all → all list.version ≡ None → is_open now list ≡ true
    → open_lists_of now (with_reopened table list) (with_list list.version items all) ≡ with_begun (open_lists_of now table all) (record { number = list.number; verb = list.verb; prefix = list.filter.prefix; items = selected list.filter items; end = list.end; given = list.given })
open_lists_reopened now v table all list items stands free lasts =
    let made : List FrozenList → OpenLists = λ lists. record { lists = lists; next = table.next } in
    ap made (frozen_end now v table all list items stands free lasts)

all_end : (p : OpenList → Bool) (lists : List OpenList) (x : OpenList) → list_all p lists ≡ true → p x ≡ true → list_all p (lists ++ x ∷ []) ≡ true
all_end p [] x h there = and_from (p x) true there refl
all_end p (y ∷ lists) x h there = let parts = and_parts (p y) (list_all p lists) h in and_from (p y) (list_all p (lists ++ x ∷ [])) parts.0 (all_end p lists x parts.1 there)

opened_agrees : (q : OpenList → List ItemState → Bool) (v : ℕ) (table : Table) (all : VersionLists) (list : OpenList) (items : List ItemState) → AreInUse (v ∷ versions_in table) all → all list.version ≡ None
    → list_all (agrees_by q all) table.lists ≡ true → q list items ≡ true → list_all (agrees_by q (with_list list.version items all)) (table.lists ++ list ∷ []) ≡ true
opened_agrees q v table all list items stands free h own =
    let after : VersionLists = with_list list.version items all in
    all_end (agrees_by q after) table.lists list
    (all_agree q all after table.lists (λ n there. other_lists v table list.version items all stands free n there) h)
    (ap (q list) (list_at-with list.version items all) ∙ own)

pub table_agrees_opened : (v : ℕ) (table : Table) (all : VersionLists) (list : OpenList) (items : List ItemState) → AreInUse (v ∷ versions_in table) all → all list.version ≡ None
    → list.size ≡ length (selected list.filter items) → is_place_in (selected list.filter items) list.mark ≡ true → are_whole items ≡ true → TableAgrees table all → TableAgrees (opening table list) (with_list list.version items all)
table_agrees_opened v table all list items stands free size place whole agrees = record {
  counted = opened_agrees by_size v table all list items stands free agrees.counted (eq-eqb list.size (length (selected list.filter items)) size);
  marked = opened_agrees by_mark v table all list items stands free agrees.marked place;
  whole = opened_agrees by_items v table all list items stands free agrees.whole whole;
}

pub table_agrees_reopened : (v : ℕ) (table : Table) (all : VersionLists) (list : OpenList) (items : List ItemState) → AreInUse (v ∷ versions_in table) all → all list.version ≡ None
    → list.size ≡ length (selected list.filter items) → is_place_in (selected list.filter items) list.mark ≡ true → are_whole items ≡ true → TableAgrees table all → TableAgrees (with_reopened table list) (with_list list.version items all)
table_agrees_reopened v table all list items stands free size place whole agrees =
    let opened = table_agrees_opened v table all list items stands free size place whole agrees in
    record { counted = opened.counted; marked = opened.marked; whole = opened.whole }

pub put_back : (config : RepositoryConfig) (v : ℕ) (table : Table) (all : VersionLists) (list : OpenList) (items : List ItemState) → IsKeptTable config table → AreInUse (v ∷ versions_in table) all → all list.version ≡ None
    → int_le list.end (pos 253_402_300_799) ≡ true → is_of_known_format config list ≡ true
    → IsPutBack config v table all (with_reopened table list) (with_list list.version items all)
put_back config v table all list items kept stands free fits known =
    let after : VersionLists = with_list list.version items all in
    let same : versions_in (with_reopened table list) ≡ versions_in table ++ list.version ∷ [] = versions_end table.lists list in
    record {
      kept = record { limit = kept.limit; ends = all_end has_end table.lists list kept.ends fits; known = all_end (is_of_known_format config) table.lists list kept.known known };
      stands = subst (λ (ns : List ℕ). AreInUse (v ∷ ns) after) (sym same) (in_use_end (v ∷ versions_in table) list.version items all stands free);
      others = subst (λ (ns : List ℕ). KeepsOthers (v ∷ versions_in table) all (v ∷ ns) after) (sym same) (kept_end (v ∷ versions_in table) list.version items all free);
      items = ap (λ (o : Option (List ItemState)). unwrap_or o [])
          (cond-false (eqb v list.version) (Some items) (all v)
          (turned list.version v (false_from_ne_true (eqb list.version v)
          (λ same. clash (has (v ∷ versions_in table) list.version) (or_left (eqb v list.version) (has (versions_in table) list.version) (eq-eqb v list.version (sym (eqb-true list.version v same))))
          (unused_lacks (v ∷ versions_in table) all list.version stands.used free)))));
    }

pub not_put_back : (config : RepositoryConfig) (v : ℕ) (table : Table) (all : VersionLists) → IsKeptTable config table → AreInUse (v ∷ versions_in table) all → IsPutBack config v table all table all
not_put_back config v table all kept stands = record { kept = kept; stands = stands; others = kept_same (v ∷ versions_in table) all; items = refl }

pub left_opened : (config : RepositoryConfig) (now : ℤ) (v : ℕ) (table : Table) (all : VersionLists) (list : OpenList) (items : List ItemState) → IsKeptTable config table → AreInUse (v ∷ versions_in table) all → all list.version ≡ None
    → int_le list.end (pos 253_402_300_799) ≡ true → is_of_known_format config list ≡ true → list.number ≡ table.next → length (open_ones now table.lists) < table.limit
    → IsLeftOpen config now v table all (opening table list) (with_list list.version items all)
left_opened config now v table all list items kept stands free fits known numbered few =
    let back = put_back config v table all list items kept stands free fits known in
    record {
      asked = inr (inr (list, numbered, few, refl));
      kept = record { limit = back.kept.limit; ends = back.kept.ends; known = back.kept.known };
      stands = back.stands;
      others = back.others;
      items = back.items;
    }
