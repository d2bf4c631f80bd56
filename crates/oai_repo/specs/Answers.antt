-- The answer to a request. OAI-PMH 2.0, sections 3.2, 3.6 and 4.
use Rattle.std.specs.Prelude.{ℕ, ℤ, filter, map, List, [], ◌∷◌, codes, Option, Some, None, if◌then◌else◌}
use Rattle.oai_xml.specs.Documents.{is_canonical}
use Rattle.oai_xml.specs.Named.{NamedList}
use Rattle.oai_time.specs.Bound.{lower_of, upper_of}
use Rattle.oai_time.specs.declared.bound.Bound.{Bound}
use Rattle.oai_time.specs.declared.text.TheConstants.{FIRST_SECOND, LAST_SECOND}
use Rattle.oai_item.specs.Formats.{format_named}
use Rattle.oai_item.specs.Item.{ItemState, has_record}
use Rattle.oai_item.specs.Items.{item_named}
use Rattle.oai_item.specs.Selection.{Filter}
use Rattle.oai_item.specs.declared.formats.Format.{Format}
use Rattle.oai_args.specs.Asks.{AskOrError, asks, bad_verb, bad_argument}
use Rattle.oai_args.specs.Bounds.{given_bound}
use Rattle.oai_args.specs.Verbs.{name_of, verb_of_list}
use Rattle.oai_args.specs.declared.requests.Ask.{Ask}
use Rattle.oai_args.specs.declared.requests.Ask.TheVariants as ask
use Rattle.oai_answers.specs.Answers.{Attributes, Description, VerbAnswer, fails, gives_record, lists_formats, lists_sets, described_sets, offered, no_arguments, Document}
use Rattle.oai_answers.specs.declared.errors.ErrorCode.TheVariants.{CannotDisseminateFormat, IdDoesNotExist, NoMetadataFormats, NoSetHierarchy}
use Rattle.oai_settings.specs.Config.{RepositoryConfig}
use Rattle.oai_holdings.specs.Holdings.{NamedSet}

-- what Identify returns (section 4.2): of what describes it the elements in canonical text, in a configuration that keeps its rules all
abbrev pub description : RepositoryConfig → Description
description config = record {
  name = config.repository_name;
  addresses = config.addresses;
  earliest = config.earliest;
  deleted = config.deleted;
  granularity = config.granularity;
  descriptions = filter is_canonical config.descriptions;
}

-- an item in a format of the repository, in which it has a record
abbrev pub disseminated : RepositoryConfig → ItemState → Option Format → VerbAnswer
disseminated config item None = fails CannotDisseminateFormat
disseminated config item (Some format) =
    if has_record format.prefix item.formats then gives_record (record { item = item; granularity = config.granularity; format = format })
    else fails CannotDisseminateFormat

-- GetRecord (section 4.1): there is the item, the repository has the format, and the item has a record in it
abbrev pub record_answer : RepositoryConfig → Option ItemState → List ℕ → VerbAnswer
record_answer config None prefix = fails IdDoesNotExist
record_answer config (Some item) prefix = disseminated config item (format_named prefix config.formats)

-- of what describes a set the elements in canonical text, in a configuration that keeps its rules all
abbrev pub elements_alone : NamedList → NamedList
elements_alone list = (list.0, filter is_canonical list.1)

-- ListSets (section 4.6): the sets in order of addition, if there are any
abbrev pub sets_answer : RepositoryConfig → List NamedSet → VerbAnswer
sets_answer config [] = fails NoSetHierarchy
sets_answer config (set ∷ sets) = lists_sets (described_sets (map elements_alone config.set_descriptions) (set ∷ sets))

-- ListMetadataFormats for an item (section 4.4), if there is one: a deleted item has no formats
abbrev pub item_formats_answer : RepositoryConfig → Option ItemState → VerbAnswer
item_formats_answer config None = fails IdDoesNotExist
item_formats_answer config (Some item) =
    if item.live then lists_formats (offered config.formats (Some item)) else fails NoMetadataFormats

-- ListMetadataFormats: the formats of the repository, or those in which the item has records
abbrev pub formats_answer : RepositoryConfig → List ItemState → Option (List ℕ) → VerbAnswer
formats_answer config items None = lists_formats (offered config.formats None)
formats_answer config items (Some identifier) = item_formats_answer config (item_named identifier items)

-- the first second that a list request can include, and the last: those of its bounds, or of all datestamps (section
-- 2.7.1)
abbrev pub lower_given : Option Bound → ℤ
lower_given None = FIRST_SECOND
lower_given (Some bound) = lower_of bound

abbrev pub upper_given : Option Bound → ℤ
upper_given None = LAST_SECOND
upper_given (Some bound) = upper_of bound

-- the filter of a list request
abbrev pub filter_of : List ℕ → Option (List ℕ) → Option (List ℕ) → Option (List ℕ) → Filter
filter_of prefix from until set = record {
  prefix = prefix;
  lower = lower_given (given_bound from);
  upper = upper_given (given_bound until);
  set = set;
}

-- the verb alone
abbrev pub asked_for : List ℕ → Attributes
asked_for verb = record no_arguments { verb = Some verb }

-- the arguments of a well-formed request
abbrev pub arguments_of_ask : Ask → Attributes
arguments_of_ask ask.Identify = asked_for (codes "Identify")
arguments_of_ask (ask.Formats identifier) = record (asked_for (codes "ListMetadataFormats")) { identifier = identifier }
arguments_of_ask ask.Sets = asked_for (codes "ListSets")
arguments_of_ask (ask.Get identifier prefix) = record (asked_for (codes "GetRecord")) { identifier = Some identifier; prefix = Some prefix }
arguments_of_ask (ask.List verb prefix from until set) = record (asked_for (name_of (verb_of_list verb))) { prefix = Some prefix; from = from; until = until; set = set }
arguments_of_ask (ask.Resume verb token) = record (asked_for (name_of (verb_of_list verb))) { token = Some token }

-- the arguments of a request, as far as the document repeats them (section 3.2)
abbrev pub arguments_of_request : AskOrError → Attributes
arguments_of_request (asks ask) = arguments_of_ask ask
arguments_of_request bad_verb = no_arguments
arguments_of_request bad_argument = no_arguments

-- the document of an answer at that clock
abbrev pub document_at : RepositoryConfig → ℤ → Attributes → VerbAnswer → Document
document_at config clock asked answer = record { date = clock; base = config.base; asked = asked; answer = answer }
