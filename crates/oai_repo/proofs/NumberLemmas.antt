-- The numbers of a repository: which are in use, and what becomes of the others.
use Rattle.std.proofs.Common.{◌≡◌, ◌∙◌, inl, inr, ℕ, Bool, true, false, not, ◌||◌, eqb, List, [], ◌∷◌, ◌++◌, Option, None, Some, IsSome, is_some, refl, sym, ap, subst}
use Rattle.std.specs.List.{list_all}
use Rattle.std.proofs.lemmas.Bool.{and_from, and_parts, cases_Bool, cond-true, cond-false, eq-eqb, eqb-true, false≢true, false_from_ne_true, not-true, not_from_false, or_from, or_left, or_parts, or_right}
use Rattle.oai_item.specs.Item.{ItemState}
use Rattle.oai_catalogue.specs.Store.{VersionLists, list_at, with_list, without_list}
use Rattle.oai_repo.specs.Fields.{AreInUse, KeepsOthers, are_different, has}
use Rattle.oai_holdings.specs.Indexing.{IsMoved}

-- ---- tests of numbers

pub same_number : (n : ℕ) → eqb n n ≡ true
same_number n = eq-eqb n n refl

pub turned : (n m : ℕ) → eqb n m ≡ false → eqb m n ≡ false
turned n m h = false_from_ne_true (eqb m n) (λ same. false≢true (sym h ∙ eq-eqb n m (sym (eqb-true m n same))))

pub clash : {P : Type 0} (b : Bool) → b ≡ true → b ≡ false → P
clash b is lacks = absurd (false≢true (sym lacks ∙ is))

pub some_true : (o : Option (List ItemState)) → is_some o ≡ true → IsSome o
some_true None h = clash false h refl
some_true (Some x) h = refl

pub none_false : (o : Option (List ItemState)) → o ≡ None → is_some o ≡ false
none_false o h = ap is_some h

-- ---- a number among others

pub has-end : (numbers : List ℕ) (w n : ℕ) → has (numbers ++ w ∷ []) n ≡ (has numbers n || eqb w n)
has-end [] w n = or_last (eqb w n)
  where
    or_last : (b : Bool) → (b || false) ≡ (false || b)
    or_last true = refl
    or_last false = refl
has-end (v ∷ numbers) w n = ap (λ b. eqb v n || b) (has-end numbers w n) ∙ or_apart (eqb v n) (has numbers n) (eqb w n)
  where
    or_apart : (a b c : Bool) → (a || (b || c)) ≡ ((a || b) || c)
    or_apart true b c = refl
    or_apart false b c = refl

pub used_at : (numbers : List ℕ) (lists : VersionLists) (n : ℕ) → list_all (λ (v : ℕ). is_some (lists v)) numbers ≡ true → has numbers n ≡ true → is_some (lists n) ≡ true
used_at [] lists n used there = clash false there refl
used_at (v ∷ numbers) lists n used there =
    let parts = and_parts (is_some (lists v)) (list_all (λ (v : ℕ). is_some (lists v)) numbers) used in
    elim (cases_Bool (eqb v n)) [
      | inl same ↦ subst (λ (m : ℕ). is_some (lists m) ≡ true) (eqb-true v n same) parts.0
      | inr other ↦ used_at numbers lists n parts.1 (sym (ap (λ b. b || has numbers n) other) ∙ there)
    ]

pub used_by : (numbers : List ℕ) (before after : VersionLists) → ((n : ℕ) → has numbers n ≡ true → after n ≡ before n) → list_all (λ (v : ℕ). is_some (before v)) numbers ≡ true
    → list_all (λ (v : ℕ). is_some (after v)) numbers ≡ true
used_by [] before after same used = refl
used_by (v ∷ numbers) before after same used =
    let parts = and_parts (is_some (before v)) (list_all (λ (v : ℕ). is_some (before v)) numbers) used in
    and_from (is_some (after v)) (list_all (λ (v : ℕ). is_some (after v)) numbers)
    (ap is_some (same v (or_left (eqb v v) (has numbers v) (same_number v))) ∙ parts.0)
    (used_by numbers before after (λ n there. same n (or_right (eqb v n) (has numbers n) there)) parts.1)

pub used_each : (numbers : List ℕ) (lists : VersionLists) → ((n : ℕ) → has numbers n ≡ true → is_some (lists n) ≡ true) → list_all (λ (v : ℕ). is_some (lists v)) numbers ≡ true
used_each [] lists h = refl
used_each (v ∷ numbers) lists h =
    and_from (is_some (lists v)) (list_all (λ (v : ℕ). is_some (lists v)) numbers)
    (h v (or_left (eqb v v) (has numbers v) (same_number v)))
    (used_each numbers lists (λ n there. h n (or_right (eqb v n) (has numbers n) there)))

-- a number that is not in use is none of those that are
pub unused_lacks : (numbers : List ℕ) (lists : VersionLists) (w : ℕ) → list_all (λ (v : ℕ). is_some (lists v)) numbers ≡ true → lists w ≡ None → has numbers w ≡ false
unused_lacks numbers lists w used free =
    false_from_ne_true (has numbers w) (λ there. clash (is_some (lists w)) (used_at numbers lists w used there) (none_false (lists w) free))

-- ---- the same numbers, and two steps after each other

pub kept_same : (numbers : List ℕ) (lists : VersionLists) → KeepsOthers numbers lists numbers lists
kept_same numbers lists = record {
  others = λ n _ _. refl;
  given_up = λ n there gone. clash (has numbers n) there gone;
  taken = λ n lacks there. clash (has numbers n) there lacks;
}

pub kept_twice : (old mid new : List ℕ) (before between after : VersionLists) → KeepsOthers old before mid between → KeepsOthers mid between new after → KeepsOthers old before new after
kept_twice old mid new before between after first second = record {
  others = λ n out out_new. elim (cases_Bool (has mid n)) [
    | inl there ↦ second.given_up n there out_new ∙ sym (first.taken n out there)
    | inr lacks ↦ second.others n lacks out_new ∙ first.others n out lacks
  ];
  given_up = λ n was gone. elim (cases_Bool (has mid n)) [
    | inl there ↦ second.given_up n there gone
    | inr lacks ↦ second.others n lacks gone ∙ first.given_up n was lacks
  ];
  taken = λ n lacked is. elim (cases_Bool (has mid n)) [
    | inl there ↦ first.taken n lacked there
    | inr lacks ↦ sym (first.others n lacked lacks) ∙ second.taken n lacks is
  ];
}

-- ---- a further number

different_end : (numbers : List ℕ) (w : ℕ) → are_different numbers ≡ true → has numbers w ≡ false → are_different (numbers ++ w ∷ []) ≡ true
different_end [] w h lacks = refl
different_end (v ∷ numbers) w h lacks =
    let parts = and_parts (not (has numbers v)) (are_different numbers) h in
    let out = or_parts (eqb v w) (has numbers w) lacks in
    and_from (not (has (numbers ++ w ∷ []) v)) (are_different (numbers ++ w ∷ []))
    (not_from_false (has (numbers ++ w ∷ []) v) (has-end numbers w v ∙ or_from (has numbers v) (eqb w v) (not-true (has numbers v) parts.0) (turned v w out.0)))
    (different_end numbers w parts.1 out.1)

at_other : (w n : ℕ) (items : List ItemState) (lists : VersionLists) → eqb n w ≡ false → with_list w items lists n ≡ lists n
at_other w n items lists h = cond-false (eqb n w) (Some items) (lists n) h

used_end : (numbers : List ℕ) (w : ℕ) (lists : VersionLists) → list_all (λ (v : ℕ). is_some (lists v)) numbers ≡ true → is_some (lists w) ≡ true
    → list_all (λ (v : ℕ). is_some (lists v)) (numbers ++ w ∷ []) ≡ true
used_end [] w lists h there = and_from (is_some (lists w)) true there refl
used_end (v ∷ numbers) w lists h there =
    let parts = and_parts (is_some (lists v)) (list_all (λ (v : ℕ). is_some (lists v)) numbers) h in
    and_from (is_some (lists v)) (list_all (λ (v : ℕ). is_some (lists v)) (numbers ++ w ∷ [])) parts.0 (used_end numbers w lists parts.1 there)

apart_from : (numbers : List ℕ) (n w : ℕ) → has numbers n ≡ true → has numbers w ≡ false → eqb n w ≡ false
apart_from numbers n w there lacks = false_from_ne_true (eqb n w) (λ same. clash (has numbers n) there (ap (has numbers) (eqb-true n w same) ∙ lacks))

pub in_use_end : (numbers : List ℕ) (w : ℕ) (items : List ItemState) (lists : VersionLists) → AreInUse numbers lists → lists w ≡ None → AreInUse (numbers ++ w ∷ []) (with_list w items lists)
in_use_end numbers w items lists stands free =
    let lacks : has numbers w ≡ false = unused_lacks numbers lists w stands.used free in
    record {
      used = used_end numbers w (with_list w items lists)
          (used_by numbers lists (with_list w items lists) (λ n there. at_other w n items lists (apart_from numbers n w there lacks)) stands.used)
          (ap is_some (cond-true (eqb w w) (Some items) (lists w) (same_number w)));
      apart = different_end numbers w stands.apart lacks;
    }

pub kept_end : (numbers : List ℕ) (w : ℕ) (items : List ItemState) (lists : VersionLists) → lists w ≡ None → KeepsOthers numbers lists (numbers ++ w ∷ []) (with_list w items lists)
kept_end numbers w items lists free = record {
  others = λ n out out_new. at_other w n items lists (turned w n (or_parts (has numbers n) (eqb w n) (sym (has-end numbers w n) ∙ out_new)).1);
  given_up = λ n was gone. clash (has numbers n) was (or_parts (has numbers n) (eqb w n) (sym (has-end numbers w n) ∙ gone)).0;
  taken = λ n lacked is. elim (cases_Bool (eqb w n)) [
    | inl same ↦ subst (λ (m : ℕ). lists m ≡ None) (eqb-true w n same) free
    | inr other ↦ clash (has (numbers ++ w ∷ []) n) is (has-end numbers w n ∙ or_from (has numbers n) (eqb w n) lacked other)
  ];
}

-- ---- the first number in place of another

moved_at : (v w n : ℕ) (before after : VersionLists) → IsMoved v before w after → eqb n v ≡ false → eqb n w ≡ false → after n ≡ before n
moved_at v w n before after moved not_v not_w =
    ap (λ (lists : VersionLists). lists n) moved.lists
    ∙ cond-false (eqb n w) (Some (list_at after w)) (without_list v before n) not_w
    ∙ cond-false (eqb n v) None (before n) not_v

moved_gone : (v w n : ℕ) (before after : VersionLists) → IsMoved v before w after → eqb n v ≡ true → eqb n w ≡ false → after n ≡ None
moved_gone v w n before after moved is_v not_w =
    ap (λ (lists : VersionLists). lists n) moved.lists
    ∙ cond-false (eqb n w) (Some (list_at after w)) (without_list v before n) not_w
    ∙ cond-true (eqb n v) None (before n) is_v

moved_here : (v w : ℕ) (before after : VersionLists) → IsMoved v before w after → is_some (after w) ≡ true
moved_here v w before after moved =
    ap is_some (ap (λ (lists : VersionLists). lists w) moved.lists ∙ cond-true (eqb w w) (Some (list_at after w)) (without_list v before w) (same_number w))

-- of the others none is the number that is new
lacks_new : (v w : ℕ) (numbers : List ℕ) (before after : VersionLists) → AreInUse (v ∷ numbers) before → IsMoved v before w after → has numbers w ≡ false
lacks_new v w numbers before after stands moved =
    let used = and_parts (is_some (before v)) (list_all (λ (u : ℕ). is_some (before u)) numbers) stands.used in
    let apart = and_parts (not (has numbers v)) (are_different numbers) stands.apart in
    elim moved.number [
      | inl same ↦ ap (has numbers) same ∙ not-true (has numbers v) apart.0
      | inr free ↦ unused_lacks numbers before w used.1 free
    ]

-- each of the others has the list that it had
pub moved_others : (v w : ℕ) (numbers : List ℕ) (before after : VersionLists) → AreInUse (v ∷ numbers) before → IsMoved v before w after → (n : ℕ) → has numbers n ≡ true → after n ≡ before n
moved_others v w numbers before after stands moved n there =
    let apart = and_parts (not (has numbers v)) (are_different numbers) stands.apart in
    moved_at v w n before after moved
    (apart_from numbers n v there (not-true (has numbers v) apart.0))
    (apart_from numbers n w there (lacks_new v w numbers before after stands moved))

pub in_use_moved : (v w : ℕ) (numbers : List ℕ) (before after : VersionLists) → AreInUse (v ∷ numbers) before → IsMoved v before w after → AreInUse (w ∷ numbers) after
in_use_moved v w numbers before after stands moved =
    let used = and_parts (is_some (before v)) (list_all (λ (u : ℕ). is_some (before u)) numbers) stands.used in
    let apart = and_parts (not (has numbers v)) (are_different numbers) stands.apart in
    record {
      used = and_from (is_some (after w)) (list_all (λ (u : ℕ). is_some (after u)) numbers) (moved_here v w before after moved)
          (used_by numbers before after (moved_others v w numbers before after stands moved) used.1);
      apart = and_from (not (has numbers w)) (are_different numbers) (not_from_false (has numbers w) (lacks_new v w numbers before after stands moved)) apart.1;
    }

pub kept_moved : (v w : ℕ) (numbers : List ℕ) (before after : VersionLists) → AreInUse (v ∷ numbers) before → IsMoved v before w after → KeepsOthers (v ∷ numbers) before (w ∷ numbers) after
kept_moved v w numbers before after stands moved = record {
  others = λ n out out_new.
      moved_at v w n before after moved (turned v n (or_parts (eqb v n) (has numbers n) out).0) (turned w n (or_parts (eqb w n) (has numbers n) out_new).0);
  given_up = λ n was gone.
      let out = or_parts (eqb w n) (has numbers n) gone in
      elim (cases_Bool (eqb v n)) [
        | inl same ↦ moved_gone v w n before after moved (eq-eqb n v (sym (eqb-true v n same))) (turned w n out.0)
        | inr other ↦ clash (has (v ∷ numbers) n) was (or_from (eqb v n) (has numbers n) other out.1)
      ];
  taken = λ n lacked is.
      let out = or_parts (eqb v n) (has numbers n) lacked in
      elim (cases_Bool (eqb w n)) [
        | inl same ↦ elim moved.number [
          | inl stays ↦ clash (eqb v n) (eq-eqb v n (sym stays ∙ eqb-true w n same)) out.0
          | inr free ↦ subst (λ (m : ℕ). before m ≡ None) (eqb-true w n same) free
        ]
        | inr other ↦ clash (has (w ∷ numbers) n) is (or_from (eqb w n) (has numbers n) other out.1)
      ];
}
