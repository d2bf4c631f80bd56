-- Lists that have ended: what stands of a table, and of the store, when the first of them is dropped.
use Rattle.std.proofs.Common.{◌≡◌, ◌∙◌, inl, inr, ℕ, ℤ, suc, ◌+◌, ◌<◌, ◌≤◌, Bool, true, false, not, ◌||◌, eqb, List, [], ◌∷◌, ◌++◌, length, take, drop, map, Option, None, Some, IsSome, is_some, refl, sym, ap, subst, arith}
use Rattle.std.specs.Prelude.{find, nat_lt}
use Rattle.std.specs.Option.{option_map}
use Rattle.std.specs.List.{list_all, position_or_len}
use Rattle.std.proofs.lemmas.Bool.{and_from, and_parts, cases_Bool, cond-true, cond-false, eq-eqb, eqb-true, false_from_ne_true, ltb-false, ltb-true, not-true, not_from_false, or_from, or_left, or_parts}
use Rattle.std.proofs.lemmas.Int.{ints}
use Rattle.std.proofs.lemmas.List.{length-map, length_push}
use Rattle.oai_catalogue.specs.Store.{VersionLists}
use Rattle.oai_lists.specs.OpenLists.{Table, changed_one, has_ended, is_open, kept_open, open_ones, with_change, without_ended}
use Rattle.oai_lists.specs.declared.open_lists.OpenList.{OpenList}
use Rattle.oai_repo.specs.Fields.{AreInUse, KeepsOthers, are_different, has, versions_in}
use Rattle.oai_repo.specs.Tables.{HoldsFew, IsAskedTable, dropped_at, version_ended, without_version}
use Rattle.oai_repo.proofs.NumberLemmas.{clash, kept_same, some_true, turned, used_at, used_each}

abbrev pub versions : List OpenList → List ℕ
versions lists = map (λ (list : OpenList). list.version) lists

-- ---- a list has ended, or is open

open_where : (now : ℤ) (list : OpenList) → has_ended now list ≡ true → is_open now list ≡ false
open_where now list h = let e : not (is_open now list) ≡ true = grind (arith, ints) in not-true (is_open now list) e

open_else : (now : ℤ) (list : OpenList) → has_ended now list ≡ false → is_open now list ≡ true
open_else now list h = grind (arith, ints)

pub open_here : (now : ℤ) (x : OpenList) (lists : List OpenList) → is_open now x ≡ true → open_ones now (x ∷ lists) ≡ x ∷ open_ones now lists
open_here now x lists h = cond-true (is_open now x) (x ∷ open_ones now lists) (open_ones now lists) h

pub open_later : (now : ℤ) (x : OpenList) (lists : List OpenList) → is_open now x ≡ false → open_ones now (x ∷ lists) ≡ open_ones now lists
open_later now x lists h = cond-false (is_open now x) (x ∷ open_ones now lists) (open_ones now lists) h

-- ---- the first that has ended is taken out

rest_here : (now : ℤ) (x : OpenList) (lists : List OpenList) → has_ended now x ≡ true → without_ended now (x ∷ lists) ≡ lists
rest_here now x lists h =
    ap (λ n. take n (x ∷ lists) ++ drop (n + 1) (x ∷ lists)) (cond-false (not (has_ended now x)) (1 + position_or_len (has_ended now) lists) 0 (ap not h))

rest_later : (now : ℤ) (x : OpenList) (lists : List OpenList) → has_ended now x ≡ false → without_ended now (x ∷ lists) ≡ x ∷ without_ended now lists
rest_later now x lists h =
    let n : ℕ = position_or_len (has_ended now) lists in
    let one : 1 + n ≡ suc n = omega arith in
    let two : suc n + 1 ≡ suc (n + 1) = omega arith in
    ap (λ k. take k (x ∷ lists) ++ drop (k + 1) (x ∷ lists)) (cond-true (not (has_ended now x)) (1 + n) 0 (not_from_false (has_ended now x) h) ∙ one)
    ∙ ap (λ k. take (suc n) (x ∷ lists) ++ drop k (x ∷ lists)) two

found_here : (now : ℤ) (x y : OpenList) (lists : List OpenList) → has_ended now x ≡ true → find (has_ended now) (x ∷ lists) ≡ Some y → x ≡ y
found_here now x y lists h found = let e : Some x ≡ Some y = sym (cond-true (has_ended now x) (Some x) (find (has_ended now) lists) h) ∙ found in cc

found_later : (now : ℤ) (x : OpenList) (y : Option OpenList) (lists : List OpenList) → has_ended now x ≡ false → find (has_ended now) (x ∷ lists) ≡ y → find (has_ended now) lists ≡ y
found_later now x y lists h found = sym (cond-false (has_ended now x) (Some x) (find (has_ended now) lists) h) ∙ found

pub open_same : (now : ℤ) (lists : List OpenList) → open_ones now (without_ended now lists) ≡ open_ones now lists
open_same now [] = refl
open_same now (x ∷ lists) =
    elim (cases_Bool (has_ended now x)) [
      | inl over ↦ ap (open_ones now) (rest_here now x lists over) ∙ sym (open_later now x lists (open_where now x over))
      | inr lasts ↦
          ap (open_ones now) (rest_later now x lists lasts)
          ∙ open_here now x (without_ended now lists) (open_else now x lasts)
          ∙ ap (λ ls. x ∷ ls) (open_same now lists)
          ∙ sym (open_here now x lists (open_else now x lasts))
    ]

pub has_rest : (now : ℤ) (lists : List OpenList) (y : OpenList) (n : ℕ) → find (has_ended now) lists ≡ Some y
    → has (versions lists) n ≡ (eqb y.version n || has (versions (without_ended now lists)) n)
has_rest now [] y n found = cc
has_rest now (x ∷ lists) y n found =
    elim (cases_Bool (has_ended now x)) [
      | inl over ↦
          ap (λ (list : OpenList). eqb list.version n || has (versions lists) n) (found_here now x y lists over found)
          ∙ ap (λ ls. eqb y.version n || has (versions ls) n) (sym (rest_here now x lists over))
      | inr lasts ↦
          ap (λ b. eqb x.version n || b) (has_rest now lists y n (found_later now x (Some y) lists lasts found))
          ∙ or_turned (eqb x.version n) (eqb y.version n) (has (versions (without_ended now lists)) n)
          ∙ ap (λ ls. eqb y.version n || has (versions ls) n) (sym (rest_later now x lists lasts))
    ]
  where
    or_turned : (a b c : Bool) → (a || (b || c)) ≡ (b || (a || c))
    or_turned true true c = refl
    or_turned true false c = refl
    or_turned false true c = refl
    or_turned false false c = refl

pub apart_rest : (now : ℤ) (lists : List OpenList) (y : OpenList) → find (has_ended now) lists ≡ Some y → are_different (versions lists) ≡ true
    → (are_different (versions (without_ended now lists)) ≡ true) × (has (versions (without_ended now lists)) y.version ≡ false)
apart_rest now [] y found h = cc
apart_rest now (x ∷ lists) y found h =
    let parts = and_parts (not (has (versions lists) x.version)) (are_different (versions lists)) h in
    elim (cases_Bool (has_ended now x)) [
      | inl over ↦ (
        ap (λ ls. are_different (versions ls)) (rest_here now x lists over) ∙ parts.1,
        ap (λ ls. has (versions ls) y.version) (rest_here now x lists over)
            ∙ ap (λ (list : OpenList). has (versions lists) list.version) (sym (found_here now x y lists over found))
            ∙ not-true (has (versions lists) x.version) parts.0,
      )
      | inr lasts ↦
          let later = found_later now x (Some y) lists lasts found in
          let rest = apart_rest now lists y later parts.1 in
          let out = or_parts (eqb y.version x.version) (has (versions (without_ended now lists)) x.version) (sym (has_rest now lists y x.version later) ∙ not-true (has (versions lists) x.version) parts.0) in (
            ap (λ ls. are_different (versions ls)) (rest_later now x lists lasts)
                ∙ and_from (not (has (versions (without_ended now lists)) x.version)) (are_different (versions (without_ended now lists)))
                (not_from_false (has (versions (without_ended now lists)) x.version) out.1) rest.0,
            ap (λ ls. has (versions ls) y.version) (rest_later now x lists lasts)
                ∙ or_from (eqb x.version y.version) (has (versions (without_ended now lists)) y.version) (turned y.version x.version out.0) rest.1,
          )
    ]

pub none_taken : (now : ℤ) (lists : List OpenList) → find (has_ended now) lists ≡ None → without_ended now lists ≡ lists
none_taken now [] found = refl
none_taken now (x ∷ lists) found =
    elim (cases_Bool (has_ended now x)) [
      | inl over ↦ let e : Some x ≡ None = sym (cond-true (has_ended now x) (Some x) (find (has_ended now) lists) over) ∙ found in cc
      | inr lasts ↦ rest_later now x lists lasts ∙ ap (λ ls. x ∷ ls) (none_taken now lists (found_later now x None lists lasts found))
    ]

-- ---- by the version that is dropped

first_of : (found : Option OpenList) (v : ℕ) → Some v ≡ option_map (λ (list : OpenList). list.version) found → (y : OpenList) × (found ≡ Some y) × (v ≡ y.version)
first_of None v h = cc
first_of (Some y) v h = (y, refl, cc)

pub ended_used : (now : ℤ) (table : Table) (all : VersionLists) (v : ℕ) → AreInUse (versions_in table) all → Some v ≡ version_ended now table → IsSome (all v)
ended_used now table all v stands h =
    let y = first_of (find (has_ended now) table.lists) v h in
    let rest : List ℕ = versions (without_ended now table.lists) in
    some_true (all v)
    (used_at (versions table.lists) all v stands.used
    (has_rest now table.lists y.0 v y.1 ∙ or_left (eqb y.0.version v) (has rest v) (eq-eqb y.0.version v (sym y.2))))

-- ---- how many are left

pub rest_fewer : (now : ℤ) (lists : List OpenList) → length (without_ended now lists) ≤ length lists
rest_fewer now [] = omega arith
rest_fewer now (x ∷ lists) =
    elim (cases_Bool (has_ended now x)) [
      | inl over ↦ omega (arith, ap length (rest_here now x lists over))
      | inr lasts ↦ omega (arith, ap length (rest_later now x lists lasts), rest_fewer now lists)
    ]

-- where not all are open, the first that has ended goes
pub one_less : (now : ℤ) (lists : List OpenList) → length (open_ones now lists) < length lists → length (without_ended now lists) < length lists
one_less now [] fewer = absurd (omega (arith, fewer))
one_less now (x ∷ lists) fewer =
    elim (cases_Bool (has_ended now x)) [
      | inl over ↦ omega (arith, ap length (rest_here now x lists over))
      | inr lasts ↦
          let among : length (open_ones now lists) < length lists = omega (arith, fewer, ap length (open_here now x lists (open_else now x lasts))) in
          omega (arith, ap length (rest_later now x lists lasts), one_less now lists among)
    ]

-- a request that begins a list leaves no more than may be open
asked_of : (now : ℤ) (old : Table) (list : OpenList) → HoldsFew old → length (open_ones now old.lists) < old.limit → length (without_ended now (old.lists ++ list ∷ [])) ≤ old.limit
asked_of now old list few room =
    let made : List OpenList = old.lists ++ list ∷ [] in
    let more : length made ≡ length old.lists + 1 = length_push old.lists list in
    let most : length (open_ones now made) ≤ length (open_ones now old.lists) + 1 = open_push now old.lists list in
    elim (cases_Bool (nat_lt (length old.lists) old.limit)) [
      | inl below ↦ omega (arith, more, ltb-true (length old.lists) old.limit below, rest_fewer now made)
      | inr above ↦
          let fewer : length (open_ones now made) < length made = omega (arith, more, most, room, ltb-false (length old.lists) old.limit above) in
          omega (arith, few, more, one_less now made fewer)
    ]
  where
    open_push : (now : ℤ) (lists : List OpenList) (list : OpenList) → length (open_ones now (lists ++ list ∷ [])) ≤ length (open_ones now lists) + 1
    open_push now [] list = elim (cases_Bool (is_open now list)) [
      | inl lasts ↦ omega (arith, ap length (open_here now list [] lasts))
      | inr over ↦ omega (arith, ap length (open_later now list [] over))
    ]
    open_push now (x ∷ lists) list = elim (cases_Bool (is_open now x)) [
      | inl lasts ↦ omega (arith, ap length (open_here now x (lists ++ list ∷ []) lasts), ap length (open_here now x lists lasts), open_push now lists list)
      | inr over ↦ omega (arith, ap length (open_later now x (lists ++ list ∷ []) over), ap length (open_later now x lists over), open_push now lists list)
    ]

pub few_dropped : (now : ℤ) (table : Table) → HoldsFew table → HoldsFew (dropped_at now table)
few_dropped now table few = omega (arith, few, rest_fewer now table.lists)

pub few_asked : (now : ℤ) (old made new : Table) → IsAskedTable now old made → new ≡ dropped_at now made → HoldsFew old → HoldsFew new
few_asked now old made new asked dropped few =
    subst (λ (table : Table). HoldsFew table) (sym dropped) (elim asked [
      | inl same ↦ subst (λ (table : Table). HoldsFew (dropped_at now table)) (sym same) (few_dropped now old few)
      | inr other ↦ elim other [
        | inl part ↦
            let kept : Table = record old { lists = with_change part.0 (kept_open part.1 part.2 part.3) old.lists } in
            let long : HoldsFew kept = omega (arith, few, length-map old.lists (changed_one part.0 (kept_open part.1 part.2 part.3))) in
            subst (λ (table : Table). HoldsFew (dropped_at now table)) (sym part.5) (few_dropped now kept long)
        | inr begun ↦ subst (λ (table : Table). HoldsFew (dropped_at now table)) (sym begun.3) (asked_of now old begun.0 few begun.2)
      ]
    ])

-- ---- what is left of a repository's numbers

rest_lacks : (now : ℤ) (lists : List OpenList) (n : ℕ) → has (versions lists) n ≡ false → has (versions (without_ended now lists)) n ≡ false
rest_lacks now [] n out = refl
rest_lacks now (x ∷ lists) n out =
    let parts = or_parts (eqb x.version n) (has (versions lists) n) out in
    elim (cases_Bool (has_ended now x)) [
      | inl over ↦ ap (λ ls. has (versions ls) n) (rest_here now x lists over) ∙ parts.1
      | inr lasts ↦
          ap (λ ls. has (versions ls) n) (rest_later now x lists lasts)
          ∙ or_from (eqb x.version n) (has (versions (without_ended now lists)) n) parts.0 (rest_lacks now lists n parts.1)
    ]

rest_different : (now : ℤ) (lists : List OpenList) → are_different (versions lists) ≡ true → are_different (versions (without_ended now lists)) ≡ true
rest_different now [] h = refl
rest_different now (x ∷ lists) h =
    let parts = and_parts (not (has (versions lists) x.version)) (are_different (versions lists)) h in
    elim (cases_Bool (has_ended now x)) [
      | inl over ↦ ap (λ ls. are_different (versions ls)) (rest_here now x lists over) ∙ parts.1
      | inr lasts ↦
          ap (λ ls. are_different (versions ls)) (rest_later now x lists lasts)
          ∙ and_from (not (has (versions (without_ended now lists)) x.version)) (are_different (versions (without_ended now lists)))
          (not_from_false (has (versions (without_ended now lists)) x.version) (rest_lacks now lists x.version (not-true (has (versions lists) x.version) parts.0)))
          (rest_different now lists parts.1)
    ]

-- what is so of each list is so of those that are left
pub rest_all : (p : OpenList → Bool) (now : ℤ) (lists : List OpenList) → list_all p lists ≡ true → list_all p (without_ended now lists) ≡ true
rest_all p now [] h = refl
rest_all p now (x ∷ lists) h =
    let parts = and_parts (p x) (list_all p lists) h in
    elim (cases_Bool (has_ended now x)) [
      | inl over ↦ ap (list_all p) (rest_here now x lists over) ∙ parts.1
      | inr lasts ↦ ap (list_all p) (rest_later now x lists lasts) ∙ and_from (p x) (list_all p (without_ended now lists)) parts.0 (rest_all p now lists parts.1)
    ]

abbrev pub ended_of : Option OpenList → Option ℕ
ended_of found = option_map (λ (list : OpenList). list.version) found

-- those that are not dropped have the lists that they had
left_by : (now : ℤ) (v : ℕ) (lists : List OpenList) (all : VersionLists) (found : Option OpenList) → find (has_ended now) lists ≡ found → are_different (v ∷ versions lists) ≡ true
    → (n : ℕ) → has (v ∷ versions (without_ended now lists)) n ≡ true → without_version (ended_of found) all n ≡ all n
left_by now v lists all None is apart n there = refl
left_by now v lists all (Some y) is apart n there =
    let parts = and_parts (not (has (versions lists) v)) (are_different (versions lists)) apart in
    let rest : List ℕ = versions (without_ended now lists) in
    cond-false (eqb n y.version) None (all n) (elim (cases_Bool (eqb v n)) [
      | inl same ↦
          let lacks : has (versions lists) n ≡ false = ap (has (versions lists)) (sym (eqb-true v n same)) ∙ not-true (has (versions lists) v) parts.0 in
          turned y.version n (or_parts (eqb y.version n) (has rest n) (sym (has_rest now lists y n is) ∙ lacks)).0
      | inr other ↦
          let among : has rest n ≡ true = sym (ap (λ b. b || has rest n) other) ∙ there in
          false_from_ne_true (eqb n y.version) (λ same. clash (has rest n) among (ap (has rest) (eqb-true n y.version same) ∙ (apart_rest now lists y is parts.1).1))
    ])

pub left_same : (now : ℤ) (v : ℕ) (table : Table) (all : VersionLists) → are_different (v ∷ versions_in table) ≡ true
    → (n : ℕ) → has (v ∷ versions (without_ended now table.lists)) n ≡ true → without_version (version_ended now table) all n ≡ all n
left_same now v table all apart n there = left_by now v table.lists all (find (has_ended now) table.lists) refl apart n there

pub in_use_dropped : (now : ℤ) (v : ℕ) (table : Table) (all : VersionLists) → AreInUse (v ∷ versions_in table) all
    → AreInUse (v ∷ versions (without_ended now table.lists)) (without_version (version_ended now table) all)
in_use_dropped now v table all stands =
    let lists : List OpenList = table.lists in
    let parts = and_parts (not (has (versions lists) v)) (are_different (versions lists)) stands.apart in
    let left : List ℕ = versions (without_ended now lists) in
    record {
      used = used_each (v ∷ left) (without_version (version_ended now table) all)
          (λ n there.
          ap is_some (left_same now v table all stands.apart n there)
          ∙ used_at (v ∷ versions lists) all n stands.used (elim (cases_Bool (has (v ∷ versions lists) n)) [
            | inl was ↦ was
            | inr out ↦
                let apart = or_parts (eqb v n) (has (versions lists) n) out in
                clash (has (v ∷ left) n) there (or_from (eqb v n) (has left n) apart.0 (rest_lacks now lists n apart.1))
          ]));
      apart = and_from (not (has left v)) (are_different left)
          (not_from_false (has left v) (rest_lacks now lists v (not-true (has (versions lists) v) parts.0)))
          (rest_different now lists parts.1);
    }

-- the other lists stay, and the version that is dropped is in use no more
kept_by : (now : ℤ) (v : ℕ) (lists : List OpenList) (all : VersionLists) (found : Option OpenList) → find (has_ended now) lists ≡ found
    → KeepsOthers (v ∷ versions lists) all (v ∷ versions (without_ended now lists)) (without_version (ended_of found) all)
kept_by now v lists all None is =
    subst (λ (ls : List OpenList). KeepsOthers (v ∷ versions lists) all (v ∷ versions ls) all) (sym (none_taken now lists is)) (kept_same (v ∷ versions lists) all)
kept_by now v lists all (Some y) is =
    let left : List ℕ = versions (without_ended now lists) in
    record {
      others = λ n out out_new.
          let lacks = (or_parts (eqb v n) (has (versions lists) n) out).1 in
          cond-false (eqb n y.version) None (all n) (turned y.version n (or_parts (eqb y.version n) (has left n) (sym (has_rest now lists y n is) ∙ lacks)).0);
      given_up = λ n was gone.
          let out = or_parts (eqb v n) (has left n) gone in
          elim (cases_Bool (eqb y.version n)) [
            | inl same ↦ cond-true (eqb n y.version) None (all n) (eq-eqb n y.version (sym (eqb-true y.version n same)))
            | inr other ↦
                clash (has (v ∷ versions lists) n) was
                (or_from (eqb v n) (has (versions lists) n) out.0 (has_rest now lists y n is ∙ or_from (eqb y.version n) (has left n) other out.1))
          ];
      taken = λ n lacked is_new.
          let out = or_parts (eqb v n) (has (versions lists) n) lacked in
          clash (has (v ∷ left) n) is_new (or_from (eqb v n) (has left n) out.0 (rest_lacks now lists n out.1));
    }

pub kept_dropped : (now : ℤ) (v : ℕ) (table : Table) (all : VersionLists)
    → KeepsOthers (v ∷ versions_in table) all (v ∷ versions (without_ended now table.lists)) (without_version (version_ended now table) all)
kept_dropped now v table all = kept_by now v table.lists all (find (has_ended now) table.lists) refl
