-- Harvests, one after the other, give a copy of the items as the last one found them.
use Rattle.std.proofs.Common.{◌≡◌, inl, inr, ℕ, ℤ, ◌≤ℤ◌, true, List, [], ◌∷◌, map, append-nil, Option, None, Some, refl, sym, ap, subst}
use Rattle.oai_time.specs.Bound.{IsBound, lower_of}
use Rattle.oai_time.specs.Stamp.{IsWritable, stamp_of}
use Rattle.oai_time.specs.TimeTexts.{datestamp_text}
use Rattle.oai_time.specs.declared.bound.Bound.{Bound}
use Rattle.oai_time.specs.declared.bound.Bound.TheVariants.{Day as WholeDay, Second as OneSecond}
use Rattle.oai_time.specs.declared.granularity.Granularity.{Granularity}
use Rattle.oai_time.specs.declared.granularity.Granularity.TheVariants.{Day, Second}
use Rattle.oai_time.proofs.BoundLemmas.{stamp_of-IsMidnight}
use Rattle.oai_time.proofs.ReadingLemmas.{IsBound-unique}
use Rattle.oai_item.specs.Item.{ItemState}
use Rattle.oai_item.specs.Items.{are_apart}
use Rattle.oai_item.specs.declared.deleted_record.DeletedRecord.TheVariants.{Persistent}
use Rattle.oai_settings.specs.Config.{IsConfig, RepositoryConfig}
use Rattle.oai_holdings.specs.Changes.{stamp_at}
use Rattle.oai_repo.specs.Saved.{ended}
use Rattle.oai_repo.specs.State.{RepoState, empty_state}
use Rattle.oai_repo.proofs.ClockLemmas.{writable}
use Rattle.oai_laws.specs.Following.{ListQuery, selection_in}
use Rattle.oai_laws.specs.Runs.{IsPart, Throughout, Timed, Transition, run}
use Rattle.oai_laws.specs.Selecting.{IsSelection}
use Rattle.oai_laws.specs.Eras.{AreHarvestsWithin, AreSuccessiveWithin, Era, HaveNumbers, IsHarvestWithin, left_behind, left_by_era, runs}
use Rattle.oai_laws.proofs.EndedLemmas.{IsStanding, standing_by, standing_empty, standing_ended}
use Rattle.oai_laws.proofs.ReachedLemmas.{IsReached, all_from, left_after, reached}
use Rattle.oai_laws.proofs.SelectingLemmas.{selected_from}
use Rattle.oai_copy.specs.Copies.{are_listed, caught_up, caught_up_with}
use Rattle.oai_copy.proofs.ListedLemmas.{listed_caught}
use Rattle.oai_laws.specs.Harvests.{AreHarvests, AreSuccessive, Harvest, IsHarvest, IsWholeCopy, datestamp_of, harvested, last_harvest, records_since}
use Rattle.oai_laws.proofs.HarvestedLemmas.{harvest_told}
use Rattle.oai_laws.proofs.HeldLemmas.{AnyItem, IsChosen, IsFromOn, IsHeld, held_first, held_members, held_next}
use Rattle.oai_laws.proofs.SinceLemmas.{after_itself}

-- ---- parts of a run

part_of_none : {A : Type 0} (whole : List A) → IsPart [] whole
part_of_none [] = refl
part_of_none (x ∷ whole) = inl (part_of_none whole)

-- the first of a part, and the part behind it
pub part_first : {A : Type 0} (x : A) (others whole : List A) → IsPart (x ∷ others) whole → IsPart (x ∷ []) whole
part_first x others [] part = cc
part_first x others (y ∷ whole) (inl part) = inl (part_first x others whole part)
part_first x others (y ∷ whole) (inr here) = let is : x ≡ y = cc in inr ([], ap (λ z. z ∷ []) is, part_of_none whole)

pub part_behind : {A : Type 0} (x : A) (others whole : List A) → IsPart (x ∷ others) whole → IsPart others whole
part_behind x others [] part = cc
part_behind x others (y ∷ whole) (inl part) = inl (part_behind x others whole part)
part_behind x others (y ∷ whole) (inr here) = let are : here.0 ≡ others = cc in inl (subst (λ zs. IsPart zs whole) are here.2)

pub throughout_at : (P : Transition → Type 0) (exchange : Transition) (whole : List Transition) → Throughout P whole → IsPart (exchange ∷ []) whole → P exchange
throughout_at P exchange [] all part = cc
throughout_at P exchange (e ∷ whole) all (inl part) = throughout_at P exchange whole all.1 part
throughout_at P exchange (e ∷ whole) all (inr here) = let is : e ≡ exchange = cc in subst P is all.0

-- ---- what is selected

-- the datestamp that the repository writes at a clock stands for it
stamp_bound : (granularity : Granularity) (clock : ℤ) → IsWritable clock → (bound : Bound) → IsBound (datestamp_text granularity (stamp_of granularity clock)) bound → lower_of bound ≡ stamp_of granularity clock
stamp_bound Day clock h bound is =
    ap lower_of (IsBound-unique (datestamp_text Day (stamp_of Day clock)) bound (WholeDay (stamp_of Day clock)) is (record { in_range = stamp_of-IsMidnight clock h; written = refl }))
stamp_bound Second clock h bound is = ap lower_of (IsBound-unique (datestamp_text Second clock) bound (OneSecond clock) is (record { in_range = h; written = refl }))

chosen_all : (prefix : List ℕ) (items selection : List ItemState) → IsSelection (records_since prefix None) items selection → IsChosen prefix AnyItem items selection
chosen_all prefix items selection s = record {
  only = λ item h. let found = (s.members item).0 h in (found.0, found.1.prefix);
  all = λ item h has within. (s.members item).1 (h, record { prefix = has; from = tt; until = tt; set = tt });
}

chosen_from : (prefix : List ℕ) (granularity : Granularity) (clock : ℤ) (items selection : List ItemState) → IsWritable clock
    → IsSelection (records_since prefix (Some (datestamp_text granularity (stamp_of granularity clock)))) items selection → IsChosen prefix (IsFromOn (stamp_of granularity clock)) items selection
chosen_from prefix granularity clock items selection h s = record {
  only = λ item c. let found = (s.members item).0 c in (found.0, found.1.prefix);
  all = λ item c has within.
      (s.members item).1 (
        c,
        record {
          prefix = has;
          from = λ bound is. subst (λ (z : ℤ). z ≤ℤ item.stamp) (sym (stamp_bound granularity clock h bound is)) within;
          until = tt;
          set = tt;
        },
      );
}

-- ---- one harvest after the other

-- the copy as it is when a harvest is done that began there
pub record IsCopied (config : RepositoryConfig) (prefix : List ℕ) (exchange : Transition) (copy : List ItemState) : Type 0 where
  pub held : IsHeld prefix exchange.found.holdings.items copy
  pub listed : are_listed copy ≡ true
  pub apart : are_apart exchange.found.holdings.items ≡ true

-- a harvest among the exchanges of a run from a state that a repository comes to
record IsMade (config : RepositoryConfig) (list_request : ListQuery) (harvest : Harvest) : Type 0 where
  pub state : RepoState
  pub commands : List Timed
  pub standing : IsStanding config state
  pub among : IsPart (harvest.first ∷ []) (run config state commands)
  pub its : IsHarvest config (run config state commands) list_request harvest

-- each of them, from a datestamp on
abbrev AreMade : RepositoryConfig → List ℕ → Option (List ℕ) → List Harvest → Type 0
AreMade config prefix from [] = Unit {0}
AreMade config prefix from (harvest ∷ harvests) = IsMade config (records_since prefix from) harvest × AreMade config prefix (Some (datestamp_of config harvest)) harvests

selects : (config : RepositoryConfig) (list_request : ListQuery) (harvest : Harvest) → IsConfig config → IsMade config list_request harvest
    → IsSelection list_request harvest.first.found.holdings.items (selection_in harvest.first.found list_request)
selects config list_request harvest good made =
    throughout_at (λ (e : Transition). IsSelection list_request e.found.holdings.items (selection_in e.found list_request)) harvest.first (run config made.state made.commands)
    (selected_from config made.commands made.state list_request good made.standing.sound made.standing.timed) made.among

told_by : (config : RepositoryConfig) (prefix : List ℕ) (from : Option (List ℕ)) (harvest : Harvest) (clock : ℤ) (old : List ItemState) (others : List Transition) → IsConfig config
    → IsReached config clock old harvest.first others → IsMade config (records_since prefix from) harvest → harvested harvest ≡ selection_in harvest.first.found (records_since prefix from)
told_by config prefix from harvest clock old others good reached made =
    harvest_told config made.state made.commands prefix from harvest good made.standing.sound reached.found.sound made.among reached.told made.its

first_copied : (config : RepositoryConfig) (prefix : List ℕ) (harvest : Harvest) (clock : ℤ) (old : List ItemState) (others : List Transition) → IsConfig config
    → IsReached config clock old harvest.first others → IsMade config (records_since prefix None) harvest → IsCopied config prefix harvest.first (caught_up [] (harvested harvest))
first_copied config prefix harvest clock old others good reached made =
    let request : ListQuery = records_since prefix None in
    let items : List ItemState = harvest.first.found.holdings.items in
    let selection : List ItemState = selection_in harvest.first.found request in
    record {
      held = subst (λ (xs : List ItemState). IsHeld prefix items (caught_up [] xs)) (sym (told_by config prefix None harvest clock old others good reached made))
          (held_first prefix items selection reached.found.sound.kept.apart (chosen_all prefix items selection (selects config request harvest good made)));
      listed = listed_caught [] (harvested harvest) refl;
      apart = reached.found.sound.kept.apart;
    }

next_copied : (config : RepositoryConfig) (prefix : List ℕ) (before : Transition) (harvest : Harvest) (copy : List ItemState) (others : List Transition) → IsConfig config → IsWritable before.found.clock
    → IsReached config before.found.clock before.found.holdings.items harvest.first others
    → IsMade config (records_since prefix (Some (datestamp_text config.granularity (stamp_at config before.found.clock)))) harvest
    → IsCopied config prefix before copy → IsCopied config prefix harvest.first (caught_up copy (harvested harvest))
next_copied config prefix before harvest copy others good in_range reached made copied =
    let from : Option (List ℕ) = Some (datestamp_text config.granularity (stamp_at config before.found.clock)) in
    let request : ListQuery = records_since prefix from in
    let items : List ItemState = harvest.first.found.holdings.items in
    let selection : List ItemState = selection_in harvest.first.found request in
    let told = told_by config prefix from harvest before.found.clock before.found.holdings.items others good reached made in
    record {
      held = subst (λ (xs : List ItemState). IsHeld prefix items (caught_up copy xs)) (sym told)
          (held_next prefix (stamp_at config before.found.clock) before.found.holdings.items items selection copy reached.found.sound.kept.apart
          (chosen_from prefix config.granularity before.found.clock items selection in_range (selects config request harvest good made)) reached.found.since copied.held);
      listed = listed_caught copy (harvested harvest) copied.listed;
      apart = reached.found.sound.kept.apart;
    }

-- those that follow a harvest which is done
others_copied : (config : RepositoryConfig) (prefix : List ℕ) (before : Harvest) (harvests : List Harvest) (copy : List ItemState) (clock : ℤ) (old : List ItemState) → IsConfig config → config.deleted ≡ Persistent
    → IsReached config clock old before.first (map (λ (harvest : Harvest). harvest.first) harvests)
    → AreMade config prefix (Some (datestamp_of config before)) harvests → IsCopied config prefix before.first copy
    → IsCopied config prefix (last_harvest before harvests).first (caught_up_with copy (map harvested harvests))
others_copied config prefix before [] copy clock old good persistent at_before made copied = copied
others_copied config prefix before (harvest ∷ harvests) copy clock old good persistent at_before made copied =
    let later : List Transition = map (λ (harvest : Harvest). harvest.first) harvests in
    let at_next = reached config before.first.found.clock before.first.found.holdings.items before.first.left at_before.commands at_before.eras harvest.first later persistent
    (left_after config clock old before.first (harvest.first ∷ later) persistent at_before) at_before.numbers at_before.behind in
    let done = next_copied config prefix before.first harvest copy later good at_before.found.writable at_next made.0 copied in
    others_copied config prefix harvest harvests (caught_up copy (harvested harvest)) before.first.found.clock before.first.found.holdings.items good persistent at_next made.1 done

-- all of them
made_copied : (config : RepositoryConfig) (state : RepoState) (commands : List Timed) (eras : List Era) (prefix : List ℕ) (first : Harvest) (others : List Harvest) → IsConfig config → config.deleted ≡ Persistent
    → IsStanding config state → HaveNumbers config (left_behind config state commands) eras
    → IsPart (map (λ (harvest : Harvest). harvest.first) (first ∷ others)) (all_from config state commands eras) → AreMade config prefix None (first ∷ others)
    → IsWholeCopy prefix (last_harvest first others).first.found (caught_up_with [] (map harvested (first ∷ others)))
made_copied config state commands eras prefix first others good persistent standing numbers begun made =
    let later : List Transition = map (λ (harvest : Harvest). harvest.first) others in
    let items : List ItemState = state.holdings.items in
    let start = after_itself config state standing.sound (writable state.clock standing.timed.years) in
    let at_first = reached config state.clock items state commands eras first.first later persistent start numbers begun in
    let done = first_copied config prefix first state.clock items later good at_first made.0 in
    let copied = others_copied config prefix first others (caught_up [] (harvested first)) state.clock items good persistent at_first made.1 done in
    record {
      members = held_members prefix (last_harvest first others).first.found.holdings.items (caught_up_with [] (map harvested (first ∷ others))) copied.apart copied.listed copied.held;
      listed = copied.listed;
    }

-- ---- in one run

made_in_run : (config : RepositoryConfig) (state : RepoState) (commands : List Timed) (prefix : List ℕ) (from : Option (List ℕ)) (harvests : List Harvest) → IsStanding config state
    → IsPart (map (λ (harvest : Harvest). harvest.first) harvests) (run config state commands) → AreHarvests config (run config state commands) prefix from harvests → AreMade config prefix from harvests
made_in_run config state commands prefix from [] standing begun are = tt
made_in_run config state commands prefix from (harvest ∷ harvests) standing begun are =
    let later : List Transition = map (λ (harvest : Harvest). harvest.first) harvests in (
      record { state = state; commands = commands; standing = standing; among = part_first harvest.first later (run config state commands) begun; its = are.0 },
      made_in_run config state commands prefix (Some (datestamp_of config harvest)) harvests standing (part_behind harvest.first later (run config state commands) begun) are.1,
    )

pub harvests_copied_from : (config : RepositoryConfig) (state : RepoState) (commands : List Timed) (prefix : List ℕ) (first : Harvest) (others : List Harvest) → IsConfig config → config.deleted ≡ Persistent
    → IsStanding config state → AreSuccessive config (run config state commands) prefix first others
    → IsWholeCopy prefix (last_harvest first others).first.found (caught_up_with [] (map harvested (first ∷ others)))
harvests_copied_from config state commands prefix first others good persistent standing s =
    let exchanges : List Transition = run config state commands in
    made_copied config state commands [] prefix first others good persistent standing tt
    (subst (IsPart (map (λ (harvest : Harvest). harvest.first) (first ∷ others))) (sym (append-nil exchanges)) s.begun)
    (made_in_run config state commands prefix None (first ∷ others) standing s.begun s.harvests)

pub harvests_copied : (config : RepositoryConfig) (commands : List Timed) (prefix : List ℕ) (first : Harvest) (others : List Harvest) → IsConfig config → config.deleted ≡ Persistent
    → AreSuccessive config (run config (empty_state config) commands) prefix first others
    → IsWholeCopy prefix (last_harvest first others).first.found (caught_up_with [] (map harvested (first ∷ others)))
harvests_copied config commands prefix first others good persistent s =
    harvests_copied_from config (empty_state config) commands prefix first others good persistent (standing_empty config good) s

-- ---- over eras

made_within : (config : RepositoryConfig) (state : RepoState) (eras : List Era) (list_request : ListQuery) (harvest : Harvest) → IsConfig config → IsStanding config state → HaveNumbers config state eras
    → IsHarvestWithin config (runs config state eras) list_request harvest → IsMade config list_request harvest
made_within config state [] list_request harvest good standing numbers its = absurd its
made_within config state (era ∷ eras) list_request harvest good standing numbers (inl its) =
    record { state = ended era.raise state; commands = era.commands; standing = standing_ended config era.raise state numbers.0 standing; among = its.0; its = its.1 }
made_within config state (era ∷ eras) list_request harvest good standing numbers (inr its) =
    made_within config (left_by_era config state era) eras list_request harvest good (standing_by config state era good numbers.0 standing) numbers.1 its

all_made_within : (config : RepositoryConfig) (state : RepoState) (eras : List Era) (prefix : List ℕ) (from : Option (List ℕ)) (harvests : List Harvest) → IsConfig config → IsStanding config state → HaveNumbers config state eras
    → AreHarvestsWithin config (runs config state eras) prefix from harvests → AreMade config prefix from harvests
all_made_within config state eras prefix from [] good standing numbers are = tt
all_made_within config state eras prefix from (harvest ∷ harvests) good standing numbers are = (
  made_within config state eras (records_since prefix from) harvest good standing numbers are.0,
  all_made_within config state eras prefix (Some (datestamp_of config harvest)) harvests good standing numbers are.1,
)

pub harvests_within : (config : RepositoryConfig) (state : RepoState) (eras : List Era) (prefix : List ℕ) (first : Harvest) (others : List Harvest) → IsConfig config → config.deleted ≡ Persistent
    → IsStanding config state → HaveNumbers config state eras → AreSuccessiveWithin config (runs config state eras) prefix first others
    → IsWholeCopy prefix (last_harvest first others).first.found (caught_up_with [] (map harvested (first ∷ others)))
harvests_within config state eras prefix first others good persistent standing numbers s =
    made_copied config state [] eras prefix first others good persistent standing numbers s.begun (all_made_within config state eras prefix None (first ∷ others) good standing numbers s.harvests)
