-- Numbers that are in use, of several holders one after the other: what becomes of the others where one changes.
use Rattle.std.proofs.Common.{◌≡◌, ◌∙◌, ℕ, Bool, true, false, not, ◌||◌, eqb, cond, inl, inr, List, [], ◌∷◌, ◌++◌, Option, None, is_some, unwrap_or, refl, sym, ap, subst}
use Rattle.std.specs.List.{list_all}
use Rattle.std.proofs.lemmas.Bool.{and_from, and_parts, cases_Bool, cond-false, cond-true, eqb-true, not-true, not_from_false, or_from, or_left, or_parts, or_right}
use Rattle.std.proofs.lemmas.List.Folds.{list_all-append, list_any-append}
use Rattle.oai_item.specs.Item.{ItemState}
use Rattle.oai_catalogue.specs.Store.{VersionLists, list_at}
use Rattle.oai_catalogue.proofs.ListsLemmas.{same_lists}
use Rattle.oai_holdings.specs.Index.{are_whole}
use Rattle.oai_repo.specs.Fields.{AreInUse, KeepsOthers, are_different, has}
use Rattle.oai_repo.proofs.NumberLemmas.{clash, none_false, same_number, used_at, used_by}
use Rattle.oai_snapshots.specs.Snapshots.{have_whole, without_lists}
use Rattle.oai_snapshots.proofs.TakingLemmas.{taken_away as given_up}

-- no number is one of both
abbrev pub HaveNone : List ℕ → List ℕ → Type 0
HaveNone xs ys = (n : ℕ) → has xs n ≡ true → has ys n ≡ false

pub none_turned : (xs ys : List ℕ) → HaveNone xs ys → HaveNone ys xs
none_turned xs ys apart n there = elim (cases_Bool (has xs n)) [
  | inl both ↦ clash (has ys n) there (apart n both)
  | inr lacks ↦ lacks
]

-- ---- of two, one after the other

has_both : (xs ys : List ℕ) (n : ℕ) → has (xs ++ ys) n ≡ (has xs n || has ys n)
has_both xs ys n = list_any-append (λ (v : ℕ). eqb v n) xs ys

pub lacks_both : (xs ys : List ℕ) (n : ℕ) → has xs n ≡ false → has ys n ≡ false → has (xs ++ ys) n ≡ false
lacks_both xs ys n first second = has_both xs ys n ∙ or_from (has xs n) (has ys n) first second

pub lacks_parts : (xs ys : List ℕ) (n : ℕ) → has (xs ++ ys) n ≡ false → (has xs n ≡ false) × (has ys n ≡ false)
lacks_parts xs ys n lacks = or_parts (has xs n) (has ys n) (sym (has_both xs ys n) ∙ lacks)

pub in_left : (xs ys : List ℕ) (n : ℕ) → has xs n ≡ true → has (xs ++ ys) n ≡ true
in_left xs ys n there = has_both xs ys n ∙ or_left (has xs n) (has ys n) there

pub in_right : (xs ys : List ℕ) (n : ℕ) → has ys n ≡ true → has (xs ++ ys) n ≡ true
in_right xs ys n there = has_both xs ys n ∙ or_right (has xs n) (has ys n) there

or_other : (a b : Bool) → (a || b) ≡ true → b ≡ false → a ≡ true
or_other true b h lacks = refl
or_other false b h lacks = clash b h lacks

-- it is one of the first, for it is none of the second
pub in_first : (xs ys : List ℕ) (n : ℕ) → has (xs ++ ys) n ≡ true → has ys n ≡ false → has xs n ≡ true
in_first xs ys n there lacks = or_other (has xs n) (has ys n) (sym (has_both xs ys n) ∙ there) lacks

different_both : (xs ys : List ℕ) → are_different xs ≡ true → are_different ys ≡ true → HaveNone xs ys → are_different (xs ++ ys) ≡ true
different_both [] ys first second apart = second
different_both (v ∷ xs) ys first second apart =
    let parts = and_parts (not (has xs v)) (are_different xs) first in
    and_from (not (has (xs ++ ys) v)) (are_different (xs ++ ys))
    (not_from_false (has (xs ++ ys) v) (lacks_both xs ys v (not-true (has xs v) parts.0) (apart v (or_left (eqb v v) (has xs v) (same_number v)))))
    (different_both xs ys parts.1 second (λ n there. apart n (or_right (eqb v n) (has xs n) there)))

different_parts : (xs ys : List ℕ) → are_different (xs ++ ys) ≡ true → (are_different xs ≡ true) × (are_different ys ≡ true) × HaveNone xs ys
different_parts [] ys all = (refl, all, λ n there. clash false there refl)
different_parts (v ∷ xs) ys all =
    let parts = and_parts (not (has (xs ++ ys) v)) (are_different (xs ++ ys)) all in
    let lacks = lacks_parts xs ys v (not-true (has (xs ++ ys) v) parts.0) in
    let others = different_parts xs ys parts.1 in (
      and_from (not (has xs v)) (are_different xs) (not_from_false (has xs v) lacks.0) others.0,
      others.1,
      λ n there. elim (cases_Bool (eqb v n)) [
        | inl same ↦ subst (λ (m : ℕ). has ys m ≡ false) (eqb-true v n same) lacks.1
        | inr other ↦ others.2 n (sym (ap (λ (b : Bool). b || has xs n) other) ∙ there)
      ],
    )

pub in_use_both : (xs ys : List ℕ) (lists : VersionLists) → AreInUse xs lists → AreInUse ys lists → HaveNone xs ys → AreInUse (xs ++ ys) lists
in_use_both xs ys lists first second apart = record {
  used = list_all-append (λ (v : ℕ). is_some (lists v)) xs ys ∙ and_from (list_all (λ (v : ℕ). is_some (lists v)) xs) (list_all (λ (v : ℕ). is_some (lists v)) ys) first.used second.used;
  apart = different_both xs ys first.apart second.apart apart;
}

pub record AreBothInUse (xs ys : List ℕ) (lists : VersionLists) : Type 0 where
  pub first : AreInUse xs lists
  pub second : AreInUse ys lists
  pub apart : HaveNone xs ys

pub in_use_parts : (xs ys : List ℕ) (lists : VersionLists) → AreInUse (xs ++ ys) lists → AreBothInUse xs ys lists
in_use_parts xs ys lists stands =
    let used = and_parts (list_all (λ (v : ℕ). is_some (lists v)) xs) (list_all (λ (v : ℕ). is_some (lists v)) ys) (sym (list_all-append (λ (v : ℕ). is_some (lists v)) xs ys) ∙ stands.used) in
    let apart = different_parts xs ys stands.apart in
    record {
      first = record { used = used.0; apart = apart.0 };
      second = record { used = used.1; apart = apart.1 };
      apart = apart.2;
    }

pub whole_both : (xs ys : List ℕ) (lists : VersionLists) → have_whole xs lists ≡ true → have_whole ys lists ≡ true → have_whole (xs ++ ys) lists ≡ true
whole_both xs ys lists first second = list_all-append (λ (v : ℕ). are_whole (list_at lists v)) xs ys ∙ and_from (have_whole xs lists) (have_whole ys lists) first second

pub whole_parts : (xs ys : List ℕ) (lists : VersionLists) → have_whole (xs ++ ys) lists ≡ true → (have_whole xs lists ≡ true) × (have_whole ys lists ≡ true)
whole_parts xs ys lists whole = and_parts (have_whole xs lists) (have_whole ys lists) (sym (list_all-append (λ (v : ℕ). are_whole (list_at lists v)) xs ys) ∙ whole)

-- ---- where their lists stay

abbrev pub AreSame : List ℕ → VersionLists → VersionLists → Type 0
AreSame numbers before after = (n : ℕ) → has numbers n ≡ true → after n ≡ before n

pub same_at : (before after : VersionLists) (n : ℕ) → after n ≡ before n → list_at after n ≡ list_at before n
same_at before after n same = ap (λ (o : Option (List ItemState)). unwrap_or o []) same

pub stands_same : (numbers : List ℕ) (before after : VersionLists) → AreSame numbers before after → AreInUse numbers before → AreInUse numbers after
stands_same numbers before after same stands = record { used = used_by numbers before after same stands.used; apart = stands.apart }

pub whole_same : (numbers : List ℕ) (before after : VersionLists) → AreSame numbers before after → have_whole numbers before ≡ true → have_whole numbers after ≡ true
whole_same [] before after same whole = refl
whole_same (v ∷ numbers) before after same whole =
    let parts = and_parts (are_whole (list_at before v)) (have_whole numbers before) whole in
    and_from (are_whole (list_at after v)) (have_whole numbers after)
    (ap are_whole (same_at before after v (same v (or_left (eqb v v) (has numbers v) (same_number v)))) ∙ parts.0)
    (whole_same numbers before after (λ n there. same n (or_right (eqb v n) (has numbers n) there)) parts.1)

-- ---- where another holder changes its numbers

-- a number in use that is not its own is not taken, and stays
pub kept_other : (old new : List ℕ) (before after : VersionLists) (n : ℕ) → KeepsOthers old before new after → has old n ≡ false → is_some (before n) ≡ true → (has new n ≡ false) × (after n ≡ before n)
kept_other old new before after n keeps lacks used = elim (cases_Bool (has new n)) [
  | inl taken ↦ clash (is_some (before n)) used (none_false (before n) (keeps.taken n lacks taken))
  | inr out ↦ (out, keeps.others n lacks out)
]

pub kept_others : (old new others : List ℕ) (before after : VersionLists) → KeepsOthers old before new after → AreInUse others before → HaveNone others old
    → (n : ℕ) → has others n ≡ true → (has new n ≡ false) × (after n ≡ before n)
kept_others old new others before after keeps stands apart n there = kept_other old new before after n keeps (apart n there) (used_at others before n stands.used there)

-- beside others it keeps the same lists
pub kept_beside : (old new others : List ℕ) (before after : VersionLists) → KeepsOthers old before new after → KeepsOthers (old ++ others) before (new ++ others) after
kept_beside old new others before after keeps = record {
  others = λ n out out_new. keeps.others n (lacks_parts old others n out).0 (lacks_parts new others n out_new).0;
  given_up = λ n was gone.
      let out = lacks_parts new others n gone in
      keeps.given_up n (in_first old others n was out.1) out.0;
  taken = λ n lacked is.
      let out = lacks_parts old others n lacked in
      keeps.taken n out.0 (in_first new others n is out.1);
}

-- numbers that were not in use are taken, and then others
pub taken_both : (xs ys : List ℕ) (before between after : VersionLists) → KeepsOthers [] before xs between → AreInUse xs between → KeepsOthers [] between ys after → KeepsOthers [] before (xs ++ ys) after
taken_both xs ys before between after first stands second = record {
  others = λ n out out_new.
      let lacks = lacks_parts xs ys n out_new in
      second.others n refl lacks.1 ∙ first.others n refl lacks.0;
  given_up = λ n was gone. clash false was refl;
  taken = λ n lacked is. elim (cases_Bool (has xs n)) [
    | inl there ↦ first.taken n refl there
    | inr lacks ↦
        let second_has : has ys n ≡ true = in_first ys xs n (in_turn ys xs n is) lacks in
        sym (first.others n refl lacks) ∙ second.taken n refl second_has
  ];
}
  where
    or_turned : (a b : Bool) → (a || b) ≡ (b || a)
    or_turned true true = refl
    or_turned true false = refl
    or_turned false true = refl
    or_turned false false = refl

    in_turn : (ys xs : List ℕ) (n : ℕ) → has (xs ++ ys) n ≡ true → has (ys ++ xs) n ≡ true
    in_turn ys xs n there = has_both ys xs n ∙ or_turned (has ys n) (has xs n) ∙ sym (has_both xs ys n) ∙ there

-- ---- where some are released

pub kept_released : (numbers : List ℕ) (lists : VersionLists) → KeepsOthers numbers lists [] (without_lists numbers lists)
kept_released numbers lists = record {
  others = λ n out _. cond-false (has numbers n) None (lists n) out;
  given_up = λ n was _. cond-true (has numbers n) None (lists n) was;
  taken = λ n _ is. clash false is refl;
}

pub released_both : (xs ys : List ℕ) (lists : VersionLists) → without_lists ys (without_lists xs lists) ≡ without_lists (xs ++ ys) lists
released_both xs ys lists = same_lists (without_lists ys (without_lists xs lists)) (without_lists (xs ++ ys) lists)
    (λ n. both (has xs n) (has ys n) (lists n) ∙ ap (λ (b : Bool). cond b None (lists n)) (sym (has_both xs ys n)))
  where
    both : (a b : Bool) (o : Option (List ItemState)) → cond b None (cond a None o) ≡ cond (a || b) None o
    both true true o = refl
    both true false o = refl
    both false true o = refl
    both false false o = refl

pub released_stands : (xs ys : List ℕ) (lists : VersionLists) → AreInUse (xs ++ ys) lists → AreInUse ys (without_lists xs lists)
released_stands xs ys lists stands =
    let parts = in_use_parts xs ys lists stands in
    stands_same ys lists (without_lists xs lists) (λ n there. cond-false (has xs n) None (lists n) (none_turned xs ys parts.apart n there)) parts.second

-- the numbers that were taken are given up
pub taken_away : (numbers : List ℕ) (before after : VersionLists) → KeepsOthers [] before numbers after → without_lists numbers after ≡ before
taken_away numbers before after keeps = given_up numbers before after keeps
