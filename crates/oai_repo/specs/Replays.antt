-- What of a request has to be replayed, by what its response is. OAI-PMH 2.0, section 3.5, and this repository's own words.
use Rattle.std.specs.Prelude.{◌≡◌, ℤ, Bool, true, false, if◌then◌else◌}
use Rattle.oai_answers.specs.Answers.{Continuation, completes, lists_headers, lists_records, remains, whole}
use Rattle.oai_args.specs.Asks.{AskOrError}
use Rattle.oai_catalogue.specs.declared.versions.Versions.{Ghosts}
use Rattle.oai_lists.specs.OpenLists.{Table}
use Rattle.oai_settings.specs.Config.{RepositoryConfig}
use Rattle.oai_repo.specs.Listing.{Response, request_response, with_answer}
use Rattle.oai_repo.specs.State.{RepoState, moved}
use Rattle.oai_repo.specs.declared.responses.Replay.{Replay}
use Rattle.oai_repo.specs.declared.responses.Replay.TheVariants.{Nothing, Tick, Request}

-- the page has a resumptionToken, with or without a text (section 3.5)
abbrev pub is_resumable : Continuation → Bool
is_resumable whole = false
is_resumable (remains expires extent token) = true
is_resumable (completes extent) = true

-- the response is a part of an incomplete list (section 3.5), which the request began or continued
abbrev pub is_part : Response → Bool
is_part (with_answer (lists_headers page)) = is_resumable page.continuation
is_part (with_answer (lists_records format page)) = is_resumable page.continuation
is_part response = false

-- the request itself has to be replayed
abbrev pub is_request : Replay → Bool
is_request Nothing = false
is_request Tick = false
is_request Request = true

-- a tick, which need not be replayed where the clock stood
abbrev pub at_clock : Bool → Replay → Replay
at_clock stood Nothing = if stood then Nothing else Tick
at_clock stood Tick = if stood then Nothing else Tick
at_clock stood Request = Request

-- what the replay makes of the state before is the state after, where it is not the request
abbrev pub IsReplayed : ℤ → RepoState → Replay → RepoState → Type 0
IsReplayed moment before Nothing after = after ≡ before
IsReplayed moment before Tick after = after ≡ moved moment before
IsReplayed moment before Request after = Unit {0}

-- of a request at the moment this has to be replayed: the request if its response is a part of a list, and otherwise what leaves the same state
pub record IsReplay (config : RepositoryConfig) (before : RepoState) (moment : ℤ) (request : AskOrError) (replay : Replay) (after : RepoState) : Type 0 where
  pub part : is_request replay ≡ is_part (request_response config (moved moment before) request).0
  pub replayed : IsReplayed moment before replay after

-- the table and all lists are as they were, where it is not the request
abbrev pub AreAsBefore : {V : Type 0} → Ghosts V → Replay → Table → V → Table → V → Type 0
AreAsBefore g Nothing old before new after = (new ≡ old) × (g.lists after ≡ g.lists before)
AreAsBefore g Tick old before new after = (new ≡ old) × (g.lists after ≡ g.lists before)
AreAsBefore g Request old before new after = Unit {0}
