-- A batch that is handed out, and what is left then.
use Rattle.std.proofs.Common.{◌≡◌, ◌∙◌, ◌+◌, ◌<◌, ◌≤◌, ℕ, zero, suc, not, ◌||◌, eqb, inl, inr, Bool, true, false, ◌&&◌, ◌==◌, cond, List, [], ◌∷◌, ◌++◌, append-nil, append_assoc, drop, length, length-take, map, take, Option, None, Some, IfSome, IsSome, IsTrue, is_some, unwrap_or, refl, sym, ap, subst, arith}
use Rattle.std.specs.Prelude.{nat_le, option_map, slice_get}
use Rattle.std.specs.List.{list_all}
use Rattle.std.proofs.lemmas.Bool.{and_from, and_parts, cases_Bool, cond-false, cond-true, eq-eqb, eqb-true, not-true, or_parts, false_from_ne_true, le-leb, leb-true, ne_eqb, or_left, or_right}
use Rattle.std.proofs.lemmas.List.{drop_all, map-append}
use Rattle.oai_item.specs.Item.{ItemState}
use Rattle.oai_catalogue.specs.Store.{VersionLists, list_at}
use Rattle.oai_catalogue.specs.declared.versions.Versions.{Ghosts}
use Rattle.oai_item.specs.Items.{are_apart}
use Rattle.oai_holdings.specs.Index.{are_whole, has_writable_stamp}
use Rattle.oai_holdings.specs.Missing.{IsReadableVersion}
use Rattle.oai_holdings.specs.Purges.{is_in_core}
use Rattle.oai_holdings.specs.Differences.{ItemDifference}
use Rattle.oai_holdings.specs.Holdings.{NamedSet}
use Rattle.oai_repo.specs.Fields.{AreInUse, KeepsOthers, are_different, has}
use Rattle.oai_repo.specs.Saved.{SavedListState, SavedPartState, has_clock, has_named_set}
use Rattle.oai_repo.specs.SavedLists.{part_of_difference}
use Rattle.oai_repo.proofs.NumberLemmas.{clash, kept_same, same_number, some_true, used_at, used_by}
use Rattle.oai_snapshots.specs.Batches.{HasHandedOutMore, HoldsSnapshot, LeavesSnapshot, all_come, all_go, has_nothing_left, parts_of_batch}
use Rattle.oai_snapshots.specs.Passing.{HandsOutChange, HasPassed, changes_left}
use Rattle.oai_snapshots.specs.Reading.{AreNextDifferences, place_in_differences}
use Rattle.oai_snapshots.specs.Snapshots.{HandsOut, SnapshotFields, SnapshotPlace, are_apart_from, differences_left, going, have_whole, is_of_others, items_before, list_parts, numbers_of_snapshot, parts_left, versions_left, versions_of, with_before, without_lists}
use Rattle.oai_snapshots.specs.declared.batches.Batch.{Batch}
use Rattle.oai_snapshots.specs.declared.batches.Batch.TheVariants.{Gone, Come}
use Rattle.oai_snapshots.specs.declared.places.DifferencePlace.{DifferencePlace}
use Rattle.oai_snapshots.specs.declared.places.Differences.TheVariants as read
use Rattle.oai_snapshots.specs.declared.versions.SnapshotVersion.{SnapshotVersion}
use Rattle.oai_snapshots.proofs.TakingLemmas.{all_has, rest_stands}
use Rattle.oai_snapshots.proofs.SnapshotLemmas.{other_kept}

-- ---- the first version

pub record IsFirst (version : ℕ) (versions : List SnapshotVersion) : Type 0 where
  pub first : SnapshotVersion
  pub rest : List SnapshotVersion
  pub split : versions ≡ first ∷ rest
  pub is : first.version ≡ version

pub first_found : (version : ℕ) (versions : List SnapshotVersion) → Some version ≡ option_map (λ (s : SnapshotVersion). s.version) (slice_get versions 0) → IsFirst version versions
first_found version [] h = cc
first_found version (s ∷ versions) h = record { first = s; rest = versions; split = refl; is = sym (ap (λ (o : Option ℕ). unwrap_or o version) h) }

pub some_first : (version : ℕ) (versions : List SnapshotVersion) → IsFirst version versions → IsSome (slice_get versions 0)
some_first version versions first = subst (λ (vs : List SnapshotVersion). IsSome (slice_get vs 0)) (sym first.split) refl

-- ---- changes to it

-- the parts of differences, with what follows them
parts_both : (some more : List ItemDifference) (rest : List SavedPartState)
    → map part_of_difference (some ++ more) ++ rest ≡ map part_of_difference some ++ (map part_of_difference more ++ rest)
parts_both some more rest =
    ap (λ (ps : List SavedPartState). ps ++ rest) (map-append part_of_difference some more)
    ∙ append_assoc (map part_of_difference some) (map part_of_difference more) rest

left_moved : (lists : VersionLists) (before : List ItemState) (place after : SnapshotPlace) (version : ℕ) (versions : List SnapshotVersion) (some : List ItemDifference) → IsFirst version versions
    → differences_left place before (list_at lists version) ≡ some ++ differences_left after before (list_at lists version)
    → versions_left lists before place versions ≡ map part_of_difference some ++ versions_left lists before after versions
left_moved lists before place after version versions some first is =
    let s : SnapshotVersion = first.first in
    let rest : List SavedPartState = list_parts s.list ++ versions_left lists (list_at lists s.version) (going None) first.rest in
    let here : differences_left place before (list_at lists s.version) ≡ some ++ differences_left after before (list_at lists s.version) =
    subst (λ (v : ℕ). differences_left place before (list_at lists v) ≡ some ++ differences_left after before (list_at lists v)) (sym first.is) is in
    ap (versions_left lists before place) first.split
    ∙ ap (λ (ds : List ItemDifference). map part_of_difference ds ++ rest) here
    ∙ parts_both some (differences_left after before (list_at lists s.version)) rest
    ∙ ap (λ (vs : List SnapshotVersion). map part_of_difference some ++ versions_left lists before after vs) (sym first.split)

pub change_goes : (lists : VersionLists) (old : SnapshotFields) (version : ℕ) (batch : List ItemState) (after : DifferencePlace) → IsFirst version old.versions
    → AreNextDifferences old.place (items_before lists old.before) (list_at lists version) (read.Go batch after)
    → HandsOutChange lists old (Gone batch) (record old { place = place_in_differences after })
change_goes lists old version batch after first is = record {
  parts = λ sets. left_moved lists (items_before lists old.before) old.place (place_in_differences after) version old.versions (all_go batch) first is.0;
  begun = refl;
  sets = refl;
  given = refl;
  further = inr (refl, is.1);
}

pub change_comes : (lists : VersionLists) (old : SnapshotFields) (version : ℕ) (batch : List ItemState) (after : DifferencePlace) → IsFirst version old.versions
    → AreNextDifferences old.place (items_before lists old.before) (list_at lists version) (read.Come batch (Some after))
    → HandsOutChange lists old (Come batch None) (record old { place = place_in_differences after })
change_comes lists old version batch after first is = record {
  parts = λ sets.
      left_moved lists (items_before lists old.before) old.place (place_in_differences after) version old.versions (all_come batch) first is.0
      ∙ ap (λ (ps : List SavedPartState). ps ++ versions_left lists (items_before lists old.before) (place_in_differences after) old.versions) (sym (append-nil (map part_of_difference (all_come batch))));
  begun = refl;
  sets = refl;
  given = refl;
  further = inr (refl, is.1);
}

left_passed : (lists : VersionLists) (before : List ItemState) (place : SnapshotPlace) (s : SnapshotVersion) (rest : List SnapshotVersion) (some : List ItemDifference) → differences_left place before (list_at lists s.version) ≡ some
    → versions_left lists before place (s ∷ rest) ≡ (map part_of_difference some ++ list_parts s.list) ++ versions_left lists (list_at lists s.version) (going None) rest
left_passed lists before place s rest some is =
    ap (λ (ds : List ItemDifference). map part_of_difference ds ++ (list_parts s.list ++ versions_left lists (list_at lists s.version) (going None) rest)) is
    ∙ sym (append_assoc (map part_of_difference some) (list_parts s.list) (versions_left lists (list_at lists s.version) (going None) rest))

passed_here : (lists : VersionLists) (old : SnapshotFields) (batch : List ItemState) (s : SnapshotVersion) (rest : List SnapshotVersion) → old.versions ≡ s ∷ rest
    → differences_left old.place (items_before lists old.before) (list_at lists s.version) ≡ all_come batch
    → HandsOutChange lists old (Come batch s.list) (record old { before = Some s.version; versions = rest; place = going None })
passed_here lists old batch s rest split is = record {
  parts = λ sets. ap (versions_left lists (items_before lists old.before) old.place) split ∙ left_passed lists (items_before lists old.before) old.place s rest (all_come batch) is;
  begun = refl;
  sets = refl;
  given = refl;
  further = inl (let long = ap length split in omega (arith, long));
}

head_version : (s t : SnapshotVersion) (xs ys : List SnapshotVersion) → s ∷ xs ≡ t ∷ ys → s.version ≡ t.version
head_version s t xs ys h = ap (λ (vs : List SnapshotVersion). unwrap_or (option_map (λ (v : SnapshotVersion). v.version) (slice_get vs 0)) 0) h

pub change_passes : (lists : VersionLists) (old : SnapshotFields) (version : ℕ) (batch : List ItemState) (list : Option SavedListState) (new : SnapshotFields) → IsFirst version old.versions
    → AreNextDifferences old.place (items_before lists old.before) (list_at lists version) (read.Come batch None) → HasPassed old list new
    → HandsOutChange lists old (Come batch list) new
change_passes lists old version batch list new first is passed =
    let s : SnapshotVersion = passed.0 in
    let same : version ≡ s.version = sym first.is ∙ head_version first.first s first.rest passed.1 (sym first.split ∙ passed.2) in
    let here = passed_here lists old batch s passed.1 passed.2 (subst (λ (v : ℕ). differences_left old.place (items_before lists old.before) (list_at lists v) ≡ all_come batch) same is) in
    subst (λ (n : SnapshotFields). HandsOutChange lists old (Come batch list) n) (sym passed.4)
    (subst (λ (l : Option SavedListState). HandsOutChange lists old (Come batch l) (record old { before = Some s.version; versions = passed.1; place = going None })) (sym passed.3) here)

-- ---- all that is left

none_given : (s : SnapshotFields) (sets : List NamedSet) → s.sets ≤ s.given → drop s.given (take s.sets sets) ≡ []
none_given s sets all = drop_all s.given (take s.sets sets) (let short = length-take s.sets sets in omega (arith, short, all))

-- where the clock and the sets are handed out, the versions are left
only_versions : (sets : List NamedSet) (lists : VersionLists) (s : SnapshotFields) → s.begun ≡ true → s.sets ≤ s.given → parts_left sets lists s ≡ changes_left lists s
only_versions sets lists s begun all =
    ap (λ (b : Bool). (cond b [] (has_clock s.clock s.next ∷ [])) ++ (map has_named_set (drop s.given (take s.sets sets)) ++ changes_left lists s)) begun
    ∙ ap (λ (xs : List NamedSet). map has_named_set xs ++ changes_left lists s) (none_given s sets all)

pub hands_change : (sets : List NamedSet) (lists : VersionLists) (old : SnapshotFields) (batch : Batch) (new : SnapshotFields) → old.begun ≡ true → old.sets ≤ old.given
    → HandsOutChange lists old batch new → HandsOut sets lists old (parts_of_batch sets batch) new
hands_change sets lists old batch new begun all change =
    only_versions sets lists old begun all
    ∙ change.parts sets
    ∙ ap (λ (ps : List SavedPartState). parts_of_batch sets batch ++ ps) (sym (only_versions sets lists new (change.begun ∙ begun) (let a = change.sets in let b = change.given in omega (arith, a, b, all))))

pub hands_begun : (sets : List NamedSet) (lists : VersionLists) (old : SnapshotFields) → old.begun ≡ false → HandsOut sets lists old (has_clock old.clock old.next ∷ []) (record old { begun = true })
hands_begun sets lists old begun =
    ap (λ (b : Bool). (cond b [] (has_clock old.clock old.next ∷ [])) ++ (map has_named_set (drop old.given (take old.sets sets)) ++ changes_left lists old)) begun

next_one : {A : Type 0} (g n : ℕ) (xs : List A) → g < n → drop g (take n xs) ≡ take 1 (drop g xs) ++ drop (suc g) (take n xs)
next_one zero zero xs h = absurd (omega (arith, h))
next_one (suc g) zero xs h = absurd (omega (arith, h))
next_one zero (suc n) [] h = refl
next_one (suc g) (suc n) [] h = refl
next_one zero (suc n) (x ∷ xs) h = refl
next_one (suc g) (suc n) (x ∷ xs) h = next_one g n xs (omega (arith, h))

one_more : (n : ℕ) → suc n ≡ n + 1
one_more n = omega arith

pub hands_set : (sets : List NamedSet) (lists : VersionLists) (old : SnapshotFields) → old.begun ≡ true → old.given < old.sets
    → HandsOut sets lists old (map has_named_set (take 1 (drop old.given sets))) (record old { given = old.given + 1 })
hands_set sets lists old begun some =
    let one : List SavedPartState = map has_named_set (take 1 (drop old.given sets)) in
    let more : List NamedSet = drop (old.given + 1) (take old.sets sets) in
    ap (λ (b : Bool). (cond b [] (has_clock old.clock old.next ∷ [])) ++ (map has_named_set (drop old.given (take old.sets sets)) ++ changes_left lists old)) begun
    ∙ ap (λ (xs : List NamedSet). map has_named_set xs ++ changes_left lists old) (next_one old.given old.sets sets some)
    ∙ ap (λ (n : ℕ). map has_named_set (take 1 (drop old.given sets) ++ drop n (take old.sets sets)) ++ changes_left lists old) (one_more old.given)
    ∙ ap (λ (ps : List SavedPartState). ps ++ changes_left lists old) (map-append has_named_set (take 1 (drop old.given sets)) more)
    ∙ append_assoc one (map has_named_set more) (changes_left lists old)
    ∙ ap (λ (b : Bool). one ++ ((cond b [] (has_clock old.clock old.next ∷ [])) ++ (map has_named_set more ++ changes_left lists old))) (sym begun)

-- ---- whether something is left

pub not_begun : (s : SnapshotFields) → s.begun ≡ false → false ≡ has_nothing_left s
not_begun s h = sym (ap (λ (b : Bool). b && nat_le s.sets s.given && length s.versions == 0) h)

any_left : (a b c : Bool) → b ≡ false → (a && b && c) ≡ false
any_left true true c h = absurd (clash true refl h)
any_left true false c h = refl
any_left false b c h = refl

any_left_last : (a b c : Bool) → c ≡ false → (a && b && c) ≡ false
any_left_last true true c h = h
any_left_last true false c h = refl
any_left_last false b c h = refl

pub sets_are_left : (s : SnapshotFields) → s.given < s.sets → false ≡ has_nothing_left s
sets_are_left s some = sym (any_left s.begun (nat_le s.sets s.given) (length s.versions == 0) (false_from_ne_true (nat_le s.sets s.given) (λ h. absurd (omega (arith, some, leb-true s.sets s.given h)))))

pub versions_are_left : (s : SnapshotFields) (version : ℕ) → IsFirst version s.versions → false ≡ has_nothing_left s
versions_are_left s version first = sym (any_left_last s.begun (nat_le s.sets s.given) (length s.versions == 0) (ne_eqb (length s.versions) 0 (λ h. let long = ap length first.split in omega (arith, h, long))))

pub none_left : (s : SnapshotFields) → s.begun ≡ true → s.sets ≤ s.given → None ≡ option_map (λ (v : SnapshotVersion). v.version) (slice_get s.versions 0) → true ≡ has_nothing_left s
none_left s begun all none =
    sym (and_from (s.begun && nat_le s.sets s.given) (length s.versions == 0) (and_from s.begun (nat_le s.sets s.given) begun (le-leb s.sets s.given all)) (empty s.versions none))
  where
    empty : (versions : List SnapshotVersion) → None ≡ option_map (λ (v : SnapshotVersion). v.version) (slice_get versions 0) → (length versions == 0) ≡ true
    empty [] h = refl
    empty (v ∷ versions) h = cc

-- ---- the lists

pub leaves_same : (honest : Bool) (old new : SnapshotFields) (before after : VersionLists) → HoldsSnapshot honest old before → numbers_of_snapshot new ≡ numbers_of_snapshot old → after ≡ before
    → new.clock ≡ old.clock → new.sets ≡ old.sets → LeavesSnapshot honest old before new after
leaves_same honest old new before after holds numbers lists clock sets = record {
  holds = record {
    stands = subst (λ (ls : VersionLists). AreInUse (numbers_of_snapshot new) ls) (sym lists) (subst (λ (ns : List ℕ). AreInUse ns before) (sym numbers) holds.stands);
    whole = λ is. ap (have_whole (numbers_of_snapshot new)) lists ∙ ap (λ (ns : List ℕ). have_whole ns before) numbers ∙ holds.whole is;
  };
  others = subst (λ (ls : VersionLists). KeepsOthers (numbers_of_snapshot old) before (numbers_of_snapshot new) ls) (sym lists)
      (subst (λ (ns : List ℕ). KeepsOthers (numbers_of_snapshot old) before ns before) (sym numbers) (kept_same (numbers_of_snapshot old) before));
  kept = λ n there. ap (λ (ls : VersionLists). ls n) lists;
  clock = clock;
  sets = sets;
}

-- the others keep their lists where the version before them is released
rest_same : (before : Option ℕ) (numbers : List ℕ) (lists : VersionLists) (n : ℕ) → AreInUse (with_before before numbers) lists → has numbers n ≡ true
    → without_lists (with_before before []) lists n ≡ lists n
rest_same None numbers lists n stands there = refl
rest_same (Some v) numbers lists n stands there =
    let apart = and_parts (not (has numbers v)) (are_different numbers) stands.apart in
    cond-false (eqb v n || false) None (lists n)
    (ap (λ b. b || false) (false_from_ne_true (eqb v n) (λ same. clash (has numbers n) there (ap (has numbers) (sym (eqb-true v n same)) ∙ not-true (has numbers v) apart.0))))

rest_others : (before : Option ℕ) (numbers : List ℕ) (lists : VersionLists) → AreInUse (with_before before numbers) lists
    → KeepsOthers (with_before before numbers) lists numbers (without_lists (with_before before []) lists)
rest_others None numbers lists stands = record { others = λ n _ _. refl; given_up = λ n there gone. clash (has numbers n) there gone; taken = λ n lacks there. clash (has numbers n) there lacks }
rest_others (Some v) numbers lists stands = record {
  others = λ n lacks _. cond-false (eqb v n || false) None (lists n) (ap (λ b. b || false) (or_parts (eqb v n) (has numbers n) lacks).0);
  given_up = λ n there gone. cond-true (eqb v n || false) None (lists n) (or_left (eqb v n) false (left_one (eqb v n) (has numbers n) there gone));
  taken = λ n lacks there. clash (has numbers n) there (or_parts (eqb v n) (has numbers n) lacks).1;
} where
  left_one : (a b : Bool) → (a || b) ≡ true → b ≡ false → a ≡ true
  left_one true b h g = refl
  left_one false b h g = absurd (clash b h g)

whole_same : (numbers : List ℕ) (before after : VersionLists) → ((n : ℕ) → has numbers n ≡ true → after n ≡ before n) → have_whole numbers before ≡ true → have_whole numbers after ≡ true
whole_same [] before after same whole = refl
whole_same (v ∷ numbers) before after same whole =
    let parts = and_parts (are_whole (list_at before v)) (have_whole numbers before) whole in
    and_from (are_whole (list_at after v)) (have_whole numbers after)
    (ap (λ (o : Option (List ItemState)). are_whole (unwrap_or o [])) (same v (or_left (eqb v v) (has numbers v) (same_number v))) ∙ parts.0)
    (whole_same numbers before after (λ n there. same n (or_right (eqb v n) (has numbers n) there)) parts.1)

rest_whole : (before : Option ℕ) (numbers : List ℕ) (lists : VersionLists) → have_whole (with_before before numbers) lists ≡ true → have_whole numbers lists ≡ true
rest_whole None numbers lists h = h
rest_whole (Some v) numbers lists h = (and_parts (are_whole (list_at lists v)) (have_whole numbers lists) h).1

leaves_rest : (honest : Bool) (old new : SnapshotFields) (lists : VersionLists) (numbers : List ℕ) → HoldsSnapshot honest old lists → numbers_of_snapshot old ≡ with_before old.before numbers
    → numbers_of_snapshot new ≡ numbers → new.clock ≡ old.clock → new.sets ≡ old.sets → LeavesSnapshot honest old lists new (without_lists (with_before old.before []) lists)
leaves_rest honest old new lists numbers holds is is_new clock sets =
    let stands : AreInUse (with_before old.before numbers) lists = subst (λ (ns : List ℕ). AreInUse ns lists) is holds.stands in
    let after : VersionLists = without_lists (with_before old.before []) lists in
    record {
      holds = record {
        stands = subst (λ (ns : List ℕ). AreInUse ns after) (sym is_new) (rest_stands old.before numbers lists stands);
        whole = λ honest_is.
            ap (λ (ns : List ℕ). have_whole ns after) is_new
            ∙ whole_same numbers lists after (λ n there. rest_same old.before numbers lists n stands there)
            (rest_whole old.before numbers lists (ap (λ (ns : List ℕ). have_whole ns lists) (sym is) ∙ holds.whole honest_is));
      };
      others = subst (λ (ns : List ℕ). KeepsOthers ns lists (numbers_of_snapshot new) after) (sym is)
          (subst (λ (ns : List ℕ). KeepsOthers (with_before old.before numbers) lists ns after) (sym is_new) (rest_others old.before numbers lists stands));
      kept = λ n there. rest_same old.before numbers lists n stands (subst (λ (ns : List ℕ). has ns n ≡ true) is_new there);
      clock = clock;
      sets = sets;
    }

pub leaves_passed : (honest : Bool) (old new : SnapshotFields) (list : Option SavedListState) (lists after : VersionLists) → HoldsSnapshot honest old lists → HasPassed old list new
    → after ≡ without_lists (with_before old.before []) lists → LeavesSnapshot honest old lists new after
leaves_passed honest old new list lists after holds passed is =
    subst (λ (ls : VersionLists). LeavesSnapshot honest old lists new ls) (sym is)
    (leaves_rest honest old new lists (versions_of (passed.0 ∷ passed.1)) holds (ap (λ (vs : List SnapshotVersion). with_before old.before (versions_of vs)) passed.2) (ap numbers_of_snapshot passed.4)
    (ap (λ (s : SnapshotFields). s.clock) passed.4) (ap (λ (s : SnapshotFields). s.sets) passed.4))

-- ---- the versions that are read

pub readable : {V : Type 0} (g : Ghosts V) (store : V) (numbers : List ℕ) (n : ℕ) → AreInUse numbers (g.lists store) → (IsTrue (g.honest store) → have_whole numbers (g.lists store) ≡ true) → has numbers n ≡ true
    → IsReadableVersion g store n
readable g store numbers n stands whole there = record {
  stands = some_true (g.lists store n) (used_at numbers (g.lists store) n stands.used there);
  core = λ honest. (two (are_apart (list_at (g.lists store) n)) (list_all is_in_core (list_at (g.lists store) n)) (list_all has_writable_stamp (list_at (g.lists store) n)) (whole_at numbers (whole honest) there)).0;
  dated = λ honest. (two (are_apart (list_at (g.lists store) n)) (list_all is_in_core (list_at (g.lists store) n)) (list_all has_writable_stamp (list_at (g.lists store) n)) (whole_at numbers (whole honest) there)).1;
} where
  two : (a b c : Bool) → (a && b && c) ≡ true → (b ≡ true) × (c ≡ true)
  two true true c h = (refl, h)
  two true false c h = cc
  two false b c h = cc

  whole_at : (ns : List ℕ) → have_whole ns (g.lists store) ≡ true → has ns n ≡ true → are_whole (list_at (g.lists store) n) ≡ true
  whole_at [] h t = cc
  whole_at (v ∷ ns) h t =
      let parts = and_parts (are_whole (list_at (g.lists store) v)) (have_whole ns (g.lists store)) h in
      elim (cases_Bool (eqb v n)) [
        | inl same ↦ subst (λ (m : ℕ). are_whole (list_at (g.lists store) m) ≡ true) (eqb-true v n same) parts.0
        | inr other ↦ whole_at ns parts.1 (sym (ap (λ b. b || has ns n) other) ∙ t)
      ]

pub before_readable : {V : Type 0} (g : Ghosts V) (store : V) (s : SnapshotFields) → HoldsSnapshot (g.honest store) s (g.lists store) → IfSome s.before (λ v. IsReadableVersion g store v)
before_readable g store s holds = by_before s.before holds.stands holds.whole
  where
    by_before : (before : Option ℕ) → AreInUse (with_before before (versions_of s.versions)) (g.lists store)
        → (IsTrue (g.honest store) → have_whole (with_before before (versions_of s.versions)) (g.lists store) ≡ true) → IfSome before (λ v. IsReadableVersion g store v)
    by_before None stands whole = tt
    by_before (Some v) stands whole = readable g store (v ∷ versions_of s.versions) v stands whole (or_left (eqb v v) (has (versions_of s.versions) v) (same_number v))

pub first_readable : {V : Type 0} (g : Ghosts V) (store : V) (s : SnapshotFields) (version : ℕ) → HoldsSnapshot (g.honest store) s (g.lists store) → IsFirst version s.versions → IsReadableVersion g store version
first_readable g store s version holds first = readable g store (numbers_of_snapshot s) version holds.stands holds.whole (by_before s.before)
  where
    here : has (versions_of s.versions) version ≡ true
    here = ap (λ (vs : List SnapshotVersion). has (versions_of vs) version) first.split ∙ or_left (eqb first.first.version version) (has (versions_of first.rest) version) (eq-eqb first.first.version version first.is)

    by_before : (before : Option ℕ) → has (with_before before (versions_of s.versions)) version ≡ true
    by_before None = here
    by_before (Some v) = or_right (eqb v version) (has (versions_of s.versions) version) here

-- ---- further on

pub further_begun : (s : SnapshotFields) → s.begun ≡ false → HasHandedOutMore s (record s { begun = true })
further_begun s begun = inl (begun, refl)

pub further_set : (s : SnapshotFields) → HasHandedOutMore s (record s { given = s.given + 1 })
further_set s = inr (inl (omega arith))

pub further_change : (lists : VersionLists) (old : SnapshotFields) (batch : Batch) (new : SnapshotFields) → HandsOutChange lists old batch new → HasHandedOutMore old new
further_change lists old batch new change = inr (inr change.further)

-- ---- beside a repository

all_at : (p : ℕ → Bool) (numbers : List ℕ) (n : ℕ) → list_all p numbers ≡ true → has numbers n ≡ true → p n ≡ true
all_at p [] n all there = clash false there refl
all_at p (v ∷ numbers) n all there =
    let parts = and_parts (p v) (list_all p numbers) all in
    elim (cases_Bool (eqb v n)) [
      | inl same ↦ subst (λ (m : ℕ). p m ≡ true) (eqb-true v n same) parts.0
      | inr other ↦ all_at p numbers n parts.1 (sym (ap (λ b. b || has numbers n) other) ∙ there)
    ]

-- what the repository does leaves the precondition
pub holds_kept : (honest : Bool) (snapshot : SnapshotFields) (old new : List ℕ) (before after : VersionLists) → KeepsOthers old before new after → are_apart_from snapshot old before ≡ true
    → HoldsSnapshot honest snapshot before → HoldsSnapshot honest snapshot after
holds_kept honest snapshot old new before after keeps apart holds =
    let numbers : List ℕ = numbers_of_snapshot snapshot in
    let same : (n : ℕ) → has numbers n ≡ true → after n ≡ before n = λ n there. (other_kept old new before after n keeps (all_at (is_of_others old before) numbers n apart there)).1 in
    record {
      stands = record { used = used_by numbers before after same holds.stands.used; apart = holds.stands.apart };
      whole = λ is. whole_same numbers before after same (holds.whole is);
    }

-- what is handed out leaves the repository's versions
pub apart_left : (honest : Bool) (old new : SnapshotFields) (numbers : List ℕ) (before after : VersionLists) → LeavesSnapshot honest old before new after → are_apart_from old numbers before ≡ true
    → (are_apart_from new numbers after ≡ true) × ((n : ℕ) → has numbers n ≡ true → after n ≡ before n)
apart_left honest old new numbers before after leaves apart = (
  all_has (is_of_others numbers after) (numbers_of_snapshot new) (λ n there.
      let used = used_at (numbers_of_snapshot new) after n leaves.holds.stands.used there in
      and_from (is_some (after n)) (not (has numbers n)) used (not_of n (was n there used))),
  λ n own. leaves.others.others n (never_old n own) (never_new n own),
) where
  none_some : (o : Option (List ItemState)) → o ≡ None → is_some o ≡ true → ⊥
  none_some None h g = cc
  none_some (Some x) h g = cc

  -- a number that the snapshot has was its own before
  was : (n : ℕ) → has (numbers_of_snapshot new) n ≡ true → is_some (after n) ≡ true → has (numbers_of_snapshot old) n ≡ true
  was n there used = elim (cases_Bool (has (numbers_of_snapshot old) n)) [
    | inl is ↦ is
    | inr lacks ↦ absurd (none_some (before n) (leaves.others.taken n lacks there) (ap is_some (sym (leaves.kept n there)) ∙ used))
  ]

  not_of : (n : ℕ) → has (numbers_of_snapshot old) n ≡ true → not (has numbers n) ≡ true
  not_of n there = (and_parts (is_some (before n)) (not (has numbers n)) (all_at (is_of_others numbers before) (numbers_of_snapshot old) n apart there)).1

  never_old : (n : ℕ) → has numbers n ≡ true → has (numbers_of_snapshot old) n ≡ false
  never_old n own = false_from_ne_true (has (numbers_of_snapshot old) n) (λ there. clash (has numbers n) own (not-true (has numbers n) (not_of n there)))

  never_new : (n : ℕ) → has numbers n ≡ true → has (numbers_of_snapshot new) n ≡ false
  never_new n own = false_from_ne_true (has (numbers_of_snapshot new) n)
      (λ there. clash (has (numbers_of_snapshot old) n) (was n there (used_at (numbers_of_snapshot new) after n leaves.holds.stands.used there)) (never_old n own))
