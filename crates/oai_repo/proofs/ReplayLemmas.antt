-- Which responses are parts of lists, and what else is to be replayed.
use Rattle.std.proofs.Common.{◌≡◌, ◌∙◌, ℕ, ℤ, true, false, Bool, List, [], ◌∷◌, Option, None, Some, is_some, refl, ap}
use Rattle.std.specs.Prelude.{nat_lt}
use Rattle.std.specs.Int.Signed.{≤ℤ_refl}
use Rattle.oai_names.specs.declared.list_verbs.ListVerb.{ListVerb}
use Rattle.oai_names.specs.declared.list_verbs.ListVerb.TheVariants as list
use Rattle.oai_item.specs.Formats.{format_named}
use Rattle.oai_item.specs.Item.{ItemState, has_record}
use Rattle.oai_item.specs.Items.{item_named}
use Rattle.oai_item.specs.declared.formats.Format.{Format}
use Rattle.oai_answers.specs.Answers.{Page}
use Rattle.oai_answers.specs.declared.tokens.Extent.{Extent}
use Rattle.oai_args.specs.Verbs.{is_of_records}
use Rattle.oai_settings.specs.Config.{RepositoryConfig}
use Rattle.oai_repo.specs.Answers.{disseminated, formats_answer, item_formats_answer, record_answer, sets_answer}
use Rattle.oai_repo.specs.Listing.{answer_by_verb, complete_answer, continued_at, part_answer, part_from, with_answer}
use Rattle.oai_catalogue.specs.Store.{VersionLists}
use Rattle.oai_catalogue.specs.declared.versions.Versions.{Ghosts}
use Rattle.oai_lists.specs.OpenLists.{Table}
use Rattle.oai_holdings.specs.Index.{holdings_of}
use Rattle.oai_repo.specs.Fields.{RepoFields, state_of}
use Rattle.oai_repo.specs.Replays.{AreAsBefore, IsReplayed, at_clock, is_part, is_request, is_resumable}
use Rattle.oai_holdings.specs.Holdings.{NamedSet}
use Rattle.oai_repo.specs.State.{FrozenList, OpenLists, RepoState, moved}
use Rattle.oai_repo.specs.State as states
use Rattle.oai_repo.specs.declared.responses.Replay.{Replay}
use Rattle.oai_repo.specs.declared.responses.Replay.TheVariants.{Nothing, Tick, Request}
use Rattle.oai_repo.proofs.OpenListLemmas.{still_same}

abbrev at_the : RepoState → ℤ → RepoState
at_the state clock = states.state_at_clock clock state

-- ---- responses that are none

pub part_sets : (config : RepositoryConfig) (sets : List NamedSet) → is_part (with_answer (sets_answer config sets)) ≡ false
part_sets config [] = refl
part_sets config (set ∷ sets) = refl

part_found : (config : RepositoryConfig) (item : ItemState) (format : Format) (has : Bool) → has_record format.prefix item.formats ≡ has → is_part (with_answer (disseminated config item (Some format))) ≡ false
part_found config item format true is = rw is refl
part_found config item format false is = rw is refl

part_disseminated : (config : RepositoryConfig) (item : ItemState) (format : Option Format) → is_part (with_answer (disseminated config item format)) ≡ false
part_disseminated config item None = refl
part_disseminated config item (Some format) = part_found config item format (has_record format.prefix item.formats) refl

pub part_record : (config : RepositoryConfig) (item : Option ItemState) (prefix : List ℕ) → is_part (with_answer (record_answer config item prefix)) ≡ false
part_record config None prefix = refl
part_record config (Some item) prefix = part_disseminated config item (format_named prefix config.formats)

part_live : (config : RepositoryConfig) (item : ItemState) (live : Bool) → item.live ≡ live → is_part (with_answer (item_formats_answer config (Some item))) ≡ false
part_live config item true is = rw is refl
part_live config item false is = rw is refl

pub part_item_formats : (config : RepositoryConfig) (item : Option ItemState) → is_part (with_answer (item_formats_answer config item)) ≡ false
part_item_formats config None = refl
part_item_formats config (Some item) = part_live config item item.live refl

pub part_formats : (config : RepositoryConfig) (items : List ItemState) (identifier : Option (List ℕ)) → is_part (with_answer (formats_answer config items identifier)) ≡ false
part_formats config items None = refl
part_formats config items (Some identifier) = part_item_formats config (item_named identifier items)

pub part_complete : (config : RepositoryConfig) (verb : ListVerb) (format : Format) (items : List ItemState) → is_part (with_answer (complete_answer config verb format items)) ≡ false
part_complete config verb format [] = refl
part_complete config list.Identifiers format (item ∷ items) = refl
part_complete config list.Records format (item ∷ items) = refl
part_complete config list.Sets format (item ∷ items) = refl

-- ---- responses that are parts

resumable : (number : ℕ) (end : ℤ) (extent : Extent) (next : ℕ) (more : Bool) → nat_lt next extent.size ≡ more → is_resumable (continued_at number end extent next) ≡ true
resumable number end extent next true is = rw is refl
resumable number end extent next false is = rw is refl

part_by_verb : (verb : ListVerb) (format : Format) (page : Page) → is_of_records verb ≡ true → is_resumable page.continuation ≡ true → is_part (with_answer (answer_by_verb verb format page)) ≡ true
part_by_verb list.Identifiers format page of_records is = is
part_by_verb list.Records format page of_records is = is
part_by_verb list.Sets format page of_records is = absurd (cc)

pub part_opened : (config : RepositoryConfig) (verb : ListVerb) (format : Format) (its : FrozenList) (cursor : ℕ) → is_of_records verb ≡ true → is_part (with_answer (answer_by_verb verb format (part_from config its cursor))) ≡ true
unfolding part_from
part_opened config verb format its cursor of_records =
    part_by_verb verb format (part_from config its cursor) of_records (resumable _ _ _ _ _ refl)

pub part_continued : (config : RepositoryConfig) (verb : ListVerb) (format : Option Format) (its : FrozenList) (cursor : ℕ) → is_some format ≡ true → is_of_records verb ≡ true
    → is_part (with_answer (part_answer verb format (part_from config its cursor))) ≡ true
part_continued config verb None its cursor known of_records = absurd (cc)
part_continued config verb (Some format) its cursor known of_records = part_opened config verb format its cursor of_records

-- ---- what is to be replayed

pub request_at : (stood : Bool) (replay : Replay) → is_request (at_clock stood replay) ≡ is_request replay
request_at true Nothing = refl
request_at true Tick = refl
request_at true Request = refl
request_at false Nothing = refl
request_at false Tick = refl
request_at false Request = refl

-- what was read between changes nothing
pub as_before_read : {V : Type 0} (g : Ghosts V) (replay : Replay) (old : Table) (before between : V) (new : Table) (after : V) → g.lists between ≡ g.lists before
    → AreAsBefore g replay old between new after → AreAsBefore g replay old before new after
as_before_read g Nothing old before between new after same h = (h.0, h.1 ∙ same)
as_before_read g Tick old before between new after same h = (h.0, h.1 ∙ same)
as_before_read g Request old before between new after same h = tt

-- what leaves table and lists as they were leaves the state at the moment, which is the one before where the clock stood
pub replayed : {V : Type 0} (g : Ghosts V) (moment : ℤ) (stood : Bool) (replay : Replay) (before after : RepoState) (old : Table) (store : V) (new : Table) (left : V) → AreAsBefore g replay old store new left
    → (new ≡ old → g.lists left ≡ g.lists store → after ≡ moved moment before) → (stood ≡ true → moved moment before ≡ before) → IsReplayed moment before (at_clock stood replay) after
replayed g moment true Nothing before after old store new left same h stands = h same.0 same.1 ∙ stands refl
replayed g moment true Tick before after old store new left same h stands = h same.0 same.1 ∙ stands refl
replayed g moment true Request before after old store new left same h stands = tt
replayed g moment false Nothing before after old store new left same h stands = h same.0 same.1
replayed g moment false Tick before after old store new left same h stands = h same.0 same.1
replayed g moment false Request before after old store new left same h stands = tt

-- the lists of a repository are open at its clock
pub stands_open : (clock : ℤ) (repo : RepoFields) (lists : VersionLists) → clock ≡ repo.clock → at_the (state_of repo lists) clock ≡ state_of repo lists
stands_open clock repo lists is =
    ap (at_the (state_of repo lists)) is
    ∙ ap (λ (open_ones : OpenLists). record { clock = repo.clock; holdings = holdings_of repo.index repo.sets lists; open_lists = open_ones }) (still_same repo.clock repo.clock repo.table lists (≤ℤ_refl repo.clock))
