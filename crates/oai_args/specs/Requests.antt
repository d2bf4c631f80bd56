-- The request of arguments, as a function; and the result of reading them. OAI-PMH 2.0, sections 3.6 and 4.
use Rattle.std.specs.Prelude.{◌≡◌, ◌≢◌, Bool, true, ◌&&◌, List, [], Option, Some, None, Result, Ok, Err, if◌then◌else◌, ◌↔◌}
use Rattle.oai_names.specs.Names.{is_prefix}
use Rattle.oai_names.specs.Optional.{◌>>=◌}
use Rattle.oai_names.specs.declared.list_verbs.ListVerb.{ListVerb}
use Rattle.oai_names.specs.declared.list_verbs.ListVerb.TheVariants as list
use Rattle.oai_time.specs.declared.granularity.Granularity.{Granularity}
use Rattle.oai_args.specs.Arguments.{role_of, once, is_never, suits, arguments_in}
use Rattle.oai_args.specs.Asks.{AskOrError, asks, bad_verb, bad_argument, IsAskOrError}
use Rattle.oai_args.specs.Bounds.{is_none_or_set_spec, are_bounds}
use Rattle.oai_args.specs.Pairs.{Pair}
use Rattle.oai_args.specs.Verbs.{is_of_records}
use Rattle.oai_args.specs.declared.arguments.Arguments.{Arguments}
use Rattle.oai_args.specs.declared.requests.Ask.{Ask}
use Rattle.oai_args.specs.declared.requests.Ask.TheVariants as ask
use Rattle.oai_args.specs.declared.requests.ArgFault.{ArgFault}
use Rattle.oai_args.specs.declared.requests.ArgFault.TheVariants.{BadVerb, BadArgument, NoMemory}
use Rattle.oai_args.specs.declared.roles.Key.TheVariants as key
use Rattle.oai_args.specs.declared.roles.Pagination.{Pagination}
use Rattle.oai_args.specs.declared.roles.Pagination.TheVariants.{First, Next}
use Rattle.oai_args.specs.declared.verbs.Verb.{Verb}
use Rattle.oai_args.specs.declared.verbs.Verb.TheVariants.{Identify, ListMetadataFormats, ListSets, GetRecord, ListIdentifiers, ListRecords}

-- a value, if the test passes
abbrev pub provided : {A : Type 0} → Bool → A → Option A
provided passes value = if passes then Some value else None

-- the verb whose lists have parts
abbrev pub list_of_verb : Verb → Option ListVerb
list_of_verb ListSets = Some list.Sets
list_of_verb ListIdentifiers = Some list.Identifiers
list_of_verb ListRecords = Some list.Records
list_of_verb _ = None

-- each argument suits its role
unfoldable pub suit : Pagination → Verb → Arguments → Bool
suit part verb given =
    given.are_keys_known
    && suits part (role_of verb key.Identifier) given.identifier
    && suits part (role_of verb key.MetadataPrefix) given.prefix
    && suits part (role_of verb key.From) given.from
    && suits part (role_of verb key.Until) given.until
    && suits part (role_of verb key.Set) given.set
    && suits part (role_of verb key.ResumptionToken) given.token

-- GetRecord (section 4.1): an identifier, and a metadataPrefix with its syntax
unfoldable pub get_record_of : Arguments → Option Ask
get_record_of given = do
  identifier ← once given.identifier
  prefix ← once given.prefix
  provided (is_prefix prefix) (ask.Get identifier prefix)

-- a first ListIdentifiers or ListRecords (sections 4.3 and 4.5): a metadataPrefix, and if they are given from, until
-- and set, each with its syntax
unfoldable pub first_list_of : Granularity → ListVerb → Arguments → Option Ask
first_list_of granularity verb given = do
  prefix ← once given.prefix
  provided (is_prefix prefix && is_none_or_set_spec (once given.set)
      && are_bounds granularity (once given.from) (once given.until))
      (ask.List verb prefix (once given.from) (once given.until) (once given.set))

-- the first request of arguments that suit the verb
unfoldable pub first_of : Granularity → Verb → Arguments → Option Ask
first_of granularity Identify given = Some ask.Identify
first_of granularity ListMetadataFormats given = Some (ask.Formats (once given.identifier))
first_of granularity ListSets given = Some ask.Sets
first_of granularity GetRecord given = get_record_of given
first_of granularity ListIdentifiers given = first_list_of granularity list.Identifiers given
first_of granularity ListRecords given = first_list_of granularity list.Records given

-- the request for the next part of a list
unfoldable pub next_of : Verb → Arguments → Option Ask
next_of verb given = do
  list ← list_of_verb verb
  token ← once given.token
  Some (ask.Resume list token)

-- the request of that verb; if a resumptionToken is given, for the next part of its list
unfoldable pub form_of : Granularity → Verb → Arguments → Option Ask
form_of granularity verb given =
    if is_never given.token
    then (if suit First verb given then first_of granularity verb given else None)
    else (if suit Next verb given then next_of verb given else None)

-- a request, or a badArgument
abbrev pub asked_or_bad : Option Ask → AskOrError
asked_or_bad (Some request) = asks request
asked_or_bad None = bad_argument

-- the request of that verb; without one, it is a badVerb, whatever else is given
abbrev pub asked_of_verb : Granularity → Option Verb → Arguments → AskOrError
asked_of_verb granularity None given = bad_verb
asked_of_verb granularity (Some verb) given =
    if given.are_values_xml then asked_or_bad (form_of granularity verb given) else bad_argument

-- the requested verb
unfoldable pub asked_verb : Arguments → Option Verb
asked_verb given = given.verb

-- what the arguments ask for, in a repository with the granularity
unfoldable pub request_in : Granularity → Arguments → AskOrError
request_in granularity given = asked_of_verb granularity (asked_verb given) given

-- what the pairs ask for
unfoldable pub request_of : Granularity → List Pair → AskOrError
request_of granularity pairs = request_in granularity (arguments_in pairs)

-- ---- the result of reading them

-- the result is what the pairs ask for; or out of memory, if there are pairs to store
abbrev pub IsReadFrom : Granularity → List Pair → Result Ask ArgFault → Type 0
IsReadFrom granularity pairs (Ok request) = request_of granularity pairs ≡ asks request
IsReadFrom granularity pairs (Err BadVerb) = request_of granularity pairs ≡ bad_verb
IsReadFrom granularity pairs (Err BadArgument) = request_of granularity pairs ≡ bad_argument
IsReadFrom granularity pairs (Err NoMemory) = pairs ≢ []

-- a request for a list of records, from the first on, is by a verb of such lists; other requests are unrestricted
abbrev pub is_by_record_verb : Ask → Bool
is_by_record_verb (ask.List verb prefix from until set) = is_of_records verb
is_by_record_verb request = true

-- ---- the law of the function and the relation

-- every list of pairs asks for one thing, by the relation, and the function returns it
abbrev pub GivesTheAnswer : Type 0
GivesTheAnswer = (granularity : Granularity) (pairs : List Pair) (asked : AskOrError)
    → (request_of granularity pairs ≡ asked) ↔ IsAskOrError granularity pairs asked
