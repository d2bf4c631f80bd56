-- What the bytes of a repository's answers show. OAI-PMH 2.0, sections 2.5, 3.2 and 3.5.
use Rattle.std.specs.Prelude.{◌≡◌, Bool, false, List, [], ◌∷◌, map, Option, None, Some, is_none}
use Rattle.std.specs.List.{list_any}
use Rattle.oai_names.specs.declared.list_verbs.ListVerb.{ListVerb}
use Rattle.oai_names.specs.declared.list_verbs.ListVerb.TheVariants as list
use Rattle.oai_time.specs.declared.granularity.Granularity.{Granularity}
use Rattle.oai_item.specs.Formats.{AreRepositoryFormats, format_named}
use Rattle.oai_item.specs.Item.{ItemState}
use Rattle.oai_item.specs.declared.formats.Format.{Format}
use Rattle.oai_answers.specs.Answers.{Document, Page}
use Rattle.oai_answers.specs.Seen.{IsRegular, SeenRecord, header_seen, record_seen}
use Rattle.oai_settings.specs.Config.{IsConfig, RepositoryConfig}
use Rattle.oai_laws.specs.Following.{IsChain, ListQuery, offer_in, page_shown}
use Rattle.oai_repo.specs.Machine.{Outcome, Output, accepted, documented, later, refused_with, outcome_output}
use Rattle.oai_laws.specs.Runs.{IsPart, Timed, Transition, run}
use Rattle.oai_repo.specs.State.{empty_state}

-- a document whose bytes show what it answers
abbrev pub IsRegularOutcome : Outcome → Type 0
IsRegularOutcome (documented document) = IsRegular document.answer
IsRegularOutcome (later seconds) = Unit {0}
IsRegularOutcome (accepted stamp) = Unit {0}
IsRegularOutcome (refused_with cause) = Unit {0}

-- a repository of that configuration answers the document, some time after it began
pub record IsSomeAnswer (config : RepositoryConfig) (document : Document) : Type 0 where
  pub formats : AreRepositoryFormats config.formats
  pub commands : List Timed
  pub exchange : Transition
  pub among : IsPart (exchange ∷ []) (run config (empty_state config) commands)
  pub told : exchange.outcome ≡ documented document

-- a list of a repository of that configuration that is followed, some time after it began
pub record IsFollowedList (config : RepositoryConfig) (list_request : ListQuery) (first : Transition) (others : List Transition) : Type 0 where
  pub rules : IsConfig config
  pub formats : AreRepositoryFormats config.formats
  pub commands : List Timed
  pub chain : IsChain config (run config (empty_state config) commands) list_request first others

-- one of the exchanges is answered with a page that has the empty token
abbrev pub is_last_page : Option Page → Bool
is_last_page None = false
is_last_page (Some page) = is_none (offer_in page.continuation)

abbrev pub is_followed_to_its_end : List Transition → Bool
is_followed_to_its_end exchanges = list_any (λ (exchange : Transition). is_last_page (page_shown exchange.outcome)) exchanges

-- what was written to each of the exchanges
abbrev pub bytes_written : RepositoryConfig → List Transition → List Output
bytes_written config exchanges = map (λ (exchange : Transition). outcome_output config.granularity exchange.outcome) exchanges

-- what an answer by the verb shows of an item: its header, and by ListRecords its record in the format
abbrev pub seen_by : ListVerb → Granularity → Option Format → ItemState → SeenRecord
seen_by list.Records granularity (Some format) item = record_seen granularity format item
seen_by list.Records granularity None item = record { header = header_seen granularity item; metadata = None; about = [] }
seen_by list.Identifiers granularity format item = record { header = header_seen granularity item; metadata = None; about = [] }
seen_by list.Sets granularity format item = record { header = header_seen granularity item; metadata = None; about = [] }

-- and of the items that a list request selects
abbrev pub selection_seen : RepositoryConfig → ListQuery → List ItemState → List SeenRecord
selection_seen config list_request items = map (seen_by list_request.verb config.granularity (format_named list_request.prefix config.formats)) items
