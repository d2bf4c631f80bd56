-- The lines of a deposit, performed one after the other.
use Rattle.std.proofs.Common.{◌≡◌, ◌∙◌, ◌<◌, inl, inr, ℕ, ℤ, suc, ◌+◌, Bool, List, [], ◌∷◌, ◌++◌, length, take, codes, Some, Ok, IsTrue, refl, sym, ap, subst, arith}
use Rattle.oai_deposit.specs.Lines.{line_of}
use Rattle.oai_time.specs.Clock.{tick}
use Rattle.oai_time.specs.TimeTexts.{datestamp_text}
use Rattle.oai_item.specs.Refusals.{in_repository, refusal_line}
use Rattle.oai_deposit.specs.declared.changes.Change.{Change}
use Rattle.oai_deposit.specs.declared.changes.Change.TheVariants as change
use Rattle.oai_item.specs.declared.faults.Fault.{Fault}
use Rattle.oai_item.specs.declared.refusals.ChangeRefusal.{ChangeRefusal}
use Rattle.oai_catalogue.specs.Store.{VersionLists}
use Rattle.oai_settings.specs.Config.{RepositoryConfig}
use Rattle.oai_repo.specs.Calls.{IsAccepted, IsRefusedAt}
use Rattle.oai_holdings.specs.Accepted.{noted_stamp}
use Rattle.oai_holdings.specs.Changes.{stamp_at}
use Rattle.oai_holdings.specs.Entries.{IndexEntries}
use Rattle.oai_repo.specs.Fields.{HasNumbersIn, IsStored, Keeps, RepoFields, numbers_of, state_of}
use Rattle.oai_repo.specs.Machine.{Outcome, act_at, changing, outcome_output}
use Rattle.oai_repo.specs.State.{RepoState}
use Rattle.oai_repo.proofs.NumberLemmas.{kept_same, kept_twice}
use Rattle.oai_host.specs.Alone.{after_lines, after_read, with_end}
use Rattle.oai_http.specs.Answers.{answered_with, failed}
use Rattle.oai_host.specs.Tasks.{depositing}
use Rattle.oai_host.specs.Performed.{AreLinesPerformed, HasStopped, IsDone, IsLineAnswered, IsLinePerformed, IsStampOf}

-- a change that was performed or refused is a step, of which this is told
pub told_line : (config : RepositoryConfig) (moment : ℤ) (change : Change) (outcome : Outcome) (before after : RepoState) (text : List ℕ)
    → act_at config before moment (changing change) ≡ (outcome, after) → with_end (outcome_output config.granularity outcome) ≡ text
    → after_read config moment before (Ok change) ≡ (text, after)
told_line config moment change outcome before after text acted told =
    ap (λ (done : Outcome × RepoState). (with_end (outcome_output config.granularity done.0), done.1)) acted ∙ ap (λ (t : List ℕ). (t, after)) told

abbrev IsAnsweredSo : RepoFields → VersionLists → ℤ → Change → List ℕ → RepoFields → VersionLists → Type 0
IsAnsweredSo old before moment change text new after = IsLineAnswered old.config moment (Ok change) (state_of old before) text (state_of new after)

-- the datestamp by the entries of the index
stamp_of : (its : Change) (now stamp : ℤ) (entries : IndexEntries) → stamp ≡ noted_stamp now its entries → IsStampOf its now stamp
stamp_of (change.Deposit identifier sets records) now stamp entries is = is
stamp_of (change.Put identifier sets records) now stamp entries is = tt
stamp_of (change.Delete identifier) now stamp entries is = is
stamp_of (change.Purge before) now stamp entries is = is
stamp_of (change.AddSet spec name) now stamp entries is = is

-- a change that was accepted, over every store
pub accepted_line : (old : RepoFields) (before : VersionLists) (moment stamp : ℤ) (change : Change) (new : RepoFields) (after : VersionLists) → IsAccepted moment stamp change old before new after
    → new.clock ≡ tick old.clock moment → new.config ≡ old.config → IsAnsweredSo old before moment change ((codes "ok " ++ datestamp_text old.config.granularity stamp) ++ 10 ∷ []) new after
accepted_line old before moment stamp its new after accepted clock config = inl (record {
  stamp = stamp;
  stamped = stamp_of its (stamp_at old.config new.clock) stamp new.index.entries
      (subst (λ (c : RepositoryConfig). stamp ≡ noted_stamp (stamp_at c new.clock) its new.index.entries) config accepted.stamped);
  told = refl;
  clock = clock;
  sets = accepted.kept.sets;
  open_lists = accepted.open_lists;
})

-- one that was refused
pub refused_line : (old : RepoFields) (before : VersionLists) (moment : ℤ) (change : Change) (cause : ChangeRefusal) (new : RepoFields) (after : VersionLists) → IsRefusedAt moment old before new after
    → IsAnsweredSo old before moment change (refusal_line (in_repository cause) ++ 10 ∷ []) new after
refused_line old before moment change cause new after refused = inr (cause, record { told = refl; state = refused.state })

-- ---- what is kept

pub kept_start : (honest : Bool) (old : RepoFields) (before : VersionLists) → HasNumbersIn old before → (IsTrue honest → IsStored old before) → Keeps honest old before old before
kept_start honest old before stands held = record { config = refl; stands = stands; held = held; others = kept_same (numbers_of old) before }

pub kept_on : (honest : Bool) (old mid new : RepoFields) (before between after : VersionLists) → Keeps honest old before mid between → Keeps honest mid between new after → Keeps honest old before new after
kept_on honest old mid new before between after first second = record {
  config = second.config ∙ first.config;
  stands = second.stands;
  held = second.held;
  others = kept_twice (numbers_of old) (numbers_of mid) (numbers_of new) before between after first.others second.others;
}

-- ---- one line after the other

join : (xs ys zs : List ℕ) → (xs ++ ys) ++ zs ≡ xs ++ (ys ++ zs)
join [] ys zs = refl
join (x ∷ xs) ys zs = ap (λ (all : List ℕ). x ∷ all) (join xs ys zs)

nothing_behind : (xs : List ℕ) → xs ++ [] ≡ xs
nothing_behind [] = refl
nothing_behind (x ∷ xs) = ap (λ (all : List ℕ). x ∷ all) (nothing_behind xs)

module _ (honest : Bool) (config : RepositoryConfig) (moment : ℤ) where
  -- the last of some lines
  lines_last : (front : List (List ℕ)) (text told line : List ℕ) (before between after : RepoState) → AreLinesPerformed honest config moment front before told between
      → IsLinePerformed honest config moment (line_of config.forms text) between line after → AreLinesPerformed honest config moment (front ++ text ∷ []) before (told ++ line) after
  lines_last [] text told line before between after none last = (
    line,
    [],
    after,
    ap (λ (t : List ℕ). t ++ line) none.0 ∙ sym (nothing_behind line),
    subst (λ (s : RepoState). IsLinePerformed honest config moment (line_of config.forms text) s line after) none.1 last,
    (refl, refl),
  )
  lines_last (one ∷ front) text told line before between after all last = (
    all.0,
    all.1 ++ line,
    all.2,
    ap (λ (t : List ℕ). t ++ line) all.3 ∙ join all.0 all.1 line,
    all.4,
    lines_last front text all.1 line all.2 between after all.5 last,
  )

  -- over an honest store they are what the machine does
  pub lines_exact : (lines : List (List ℕ)) (before : RepoState) (told : List ℕ) (after : RepoState) → IsTrue honest → AreLinesPerformed honest config moment lines before told after
      → after_lines config moment before lines ≡ (told, after)
  lines_exact [] before told after honestly all = ap (λ (t : List ℕ). (t, before)) (sym all.0) ∙ ap (λ (s : RepoState). (told, s)) (sym all.1)
  lines_exact (text ∷ lines) before told after honestly all =
      ap (λ (first : List ℕ × RepoState). let others = after_lines config moment first.1 lines in (first.0 ++ others.0, others.1)) (all.4.exact honestly)
      ∙ ap (λ (others : List ℕ × RepoState). (all.0 ++ others.0, others.1)) (lines_exact lines all.2 all.1 after honestly all.5)
      ∙ ap (λ (t : List ℕ). (t, after)) (sym all.3)

-- the lines that were performed so far, and those that are left
pub record AreDone (honest : Bool) (old : RepoFields) (before : VersionLists) (moment : ℤ) (all left : List (List ℕ)) (told : List ℕ) (done : ℕ) (new : RepoFields) (after : VersionLists) : Type 0 where
  pub front : List (List ℕ)
  pub whole : all ≡ front ++ left
  pub many : done ≡ length front
  pub performed : AreLinesPerformed honest old.config moment front (state_of old before) told (state_of new after)
  pub kept : Keeps honest old before new after

pub none_done : (honest : Bool) (old : RepoFields) (before : VersionLists) (moment : ℤ) (all : List (List ℕ)) → HasNumbersIn old before → (IsTrue honest → IsStored old before) → AreDone honest old before moment all all [] 0 old before
none_done honest old before moment all stands held =
    record { front = []; whole = refl; many = refl; performed = (refl, refl); kept = kept_start honest old before stands held }

join_lines : (front left : List (List ℕ)) (text : List ℕ) → front ++ text ∷ left ≡ (front ++ text ∷ []) ++ left
join_lines [] left text = refl
join_lines (one ∷ front) left text = ap (λ (xs : List (List ℕ)). one ∷ xs) (join_lines front left text)

one_more : (front : List (List ℕ)) (text : List ℕ) → suc (length front) ≡ length (front ++ text ∷ [])
one_more [] text = refl
one_more (one ∷ front) text = ap suc (one_more front text)

pub one_done : (honest : Bool) (old mid new : RepoFields) (before between after : VersionLists) (moment : ℤ) (all left : List (List ℕ)) (text told line tells : List ℕ) (done : ℕ)
    → AreDone honest old before moment all (text ∷ left) told done mid between → tells ≡ told ++ line
    → IsLinePerformed honest mid.config moment (line_of mid.config.forms text) (state_of mid between) line (state_of new after) → Keeps honest mid between new after
    → AreDone honest old before moment all left tells (done + 1) new after
one_done honest old mid new before between after moment all left text told line tells done so_far is line_done kept = record {
  front = so_far.front ++ text ∷ [];
  whole = so_far.whole ∙ join_lines so_far.front left text;
  many = (let many = so_far.many in omega (arith, many)) ∙ one_more so_far.front text;
  performed =
      let this = subst (λ (config : RepositoryConfig). IsLinePerformed honest config moment (line_of config.forms text) (state_of mid between) line (state_of new after)) so_far.kept.config line_done in
      subst (λ (t : List ℕ). AreLinesPerformed honest old.config moment (so_far.front ++ text ∷ []) (state_of old before) t (state_of new after)) (sym is)
      (lines_last honest old.config moment so_far.front text told line (state_of old before) (state_of mid between) (state_of new after) so_far.performed this);
  kept = kept_on honest old mid new before between after so_far.kept kept;
}

ends_here : (front : List (List ℕ)) → front ++ [] ≡ front
ends_here [] = refl
ends_here (one ∷ front) = ap (λ (xs : List (List ℕ)). one ∷ xs) (ends_here front)

-- no line is left
pub all_done : (honest : Bool) (old new : RepoFields) (before after : VersionLists) (moment : ℤ) (all left : List (List ℕ)) (told : List ℕ) (done : ℕ)
    → AreDone honest old before moment all left told done new after → left ≡ []
    → IsDone honest old.config moment (depositing all) (state_of old before) (answered_with told) (state_of new after)
all_done honest old new before after moment all left told done so_far none =
    let whole : all ≡ so_far.front = so_far.whole ∙ ap (λ (xs : List (List ℕ)). so_far.front ++ xs) none ∙ ends_here so_far.front in
    (refl, subst (λ (lines : List (List ℕ)). AreLinesPerformed honest old.config moment lines (state_of old before) told (state_of new after)) (sym whole) so_far.performed)

less : (front left : List (List ℕ)) (text : List ℕ) → length front < length (front ++ text ∷ left)
less [] left text = omega arith
less (one ∷ front) left text = let others = less front left text in omega (arith, others)

front_of_all : (front left : List (List ℕ)) → take (length front) (front ++ left) ≡ front
front_of_all [] left = refl
front_of_all (one ∷ front) left = ap (λ (xs : List (List ℕ)). one ∷ xs) (front_of_all front left)

-- so many lines were performed
pub many_done : (honest : Bool) (old new : RepoFields) (before after : VersionLists) (moment : ℤ) (all left lines : List (List ℕ)) (told : List ℕ) (done : ℕ)
    → AreDone honest old before moment all left told done new after → lines ≡ take done all → done ≡ length lines
many_done honest old new before after moment all left lines told done so_far are =
    let front : take done all ≡ so_far.front = ap (λ (n : ℕ). take n all) so_far.many ∙ ap (λ (its : List (List ℕ)). take (length so_far.front) its) so_far.whole ∙ front_of_all so_far.front left in
    so_far.many ∙ sym (ap (λ (its : List (List ℕ)). length its) (are ∙ front))

-- all of them, if no line is left
pub many_in_all : (honest : Bool) (old new : RepoFields) (before after : VersionLists) (moment : ℤ) (all left : List (List ℕ)) (told : List ℕ) (done : ℕ)
    → AreDone honest old before moment all left told done new after → left ≡ [] → done ≡ length all
many_in_all honest old new before after moment all left told done so_far none =
    let whole : all ≡ so_far.front = so_far.whole ∙ ap (λ (its : List (List ℕ)). so_far.front ++ its) none ∙ ends_here so_far.front in
    so_far.many ∙ sym (ap (λ (its : List (List ℕ)). length its) whole)

-- a line failed
pub line_failed : (honest : Bool) (old new : RepoFields) (before after : VersionLists) (moment : ℤ) (all left : List (List ℕ)) (text told : List ℕ) (done : ℕ) (fault : Fault)
    → AreDone honest old before moment all (text ∷ left) told done new after
    → HasStopped honest old.config moment (depositing all) fault (state_of old before) (failed fault (Some done)) (state_of new after)
line_failed honest old new before after moment all left text told done fault so_far =
    let front : take done all ≡ so_far.front = ap (λ (n : ℕ). take n all) so_far.many ∙ ap (λ (lines : List (List ℕ)). take (length so_far.front) lines) so_far.whole ∙ front_of_all so_far.front (text ∷ left) in
    let fewer = less so_far.front left text in
    let many = so_far.many in (
      done,
      subst (λ (lines : List (List ℕ)). done < length lines) (sym so_far.whole) (omega (arith, fewer, many)),
      refl,
      told,
      subst (λ (lines : List (List ℕ)). AreLinesPerformed honest old.config moment lines (state_of old before) told (state_of new after)) (sym front) so_far.performed,
    )
