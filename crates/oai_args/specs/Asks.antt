-- The requests that arguments make: conditions on the whole list of pairs. OAI-PMH 2.0, sections 2.7.1, 3.1.1, 3.6
-- (badVerb, badArgument) and 4.
use Rattle.std.specs.Prelude.{◌≡◌, ℕ, true, List, codes, Option, Some, None}
use Rattle.oai_names.specs.Names.{is_prefix}
use Rattle.oai_time.specs.declared.granularity.Granularity.{Granularity}
use Rattle.oai_args.specs.Arguments.{key_of, known_keys, role_of, given, suits}
use Rattle.oai_args.specs.Bounds.{is_none_or_set_spec, are_bounds}
use Rattle.oai_args.specs.Pairs.{Pair, has_only_keys, has_xml_values}
use Rattle.oai_args.specs.Verbs.{name_of, verb_of_list}
use Rattle.oai_args.specs.declared.occurrences.Occurrence.{Occurrence}
use Rattle.oai_args.specs.declared.occurrences.Occurrence.TheVariants.{Never, Once}
use Rattle.oai_args.specs.declared.requests.Ask.{Ask}
use Rattle.oai_args.specs.declared.requests.Ask.TheVariants as ask
use Rattle.oai_args.specs.declared.roles.Key.{Key}
use Rattle.oai_args.specs.declared.roles.Key.TheVariants.{Identifier, MetadataPrefix, From, Until, Set, ResumptionToken}
use Rattle.oai_args.specs.declared.roles.Pagination.{Pagination}
use Rattle.oai_args.specs.declared.roles.Pagination.TheVariants.{First, Next}
use Rattle.oai_args.specs.declared.verbs.Verb.{Verb}
use Rattle.oai_args.specs.declared.verbs.Verb.TheVariants.{Identify, ListMetadataFormats, ListSets, GetRecord}

-- what the arguments ask for: a request, or one of the two errors
pub data AskOrError : Type 0 where
  asks : Ask → AskOrError
  bad_verb : AskOrError
  bad_argument : AskOrError

-- `verb` is given once, with the name of this verb
abbrev pub NamesVerb : List Pair → Verb → Type 0
NamesVerb pairs verb = given (codes "verb") pairs ≡ Once (name_of verb)

-- the pairs are those of a first request of the verb, or of one for the next part of its list: `verb` is given once,
-- with the verb's name; every key is known; each argument is given as often as its role requires; every value is a text
-- of XML characters
pub record IsVerbRequest (part : Pagination) (verb : Verb) (pairs : List Pair) : Type 0 where
  pub named : NamesVerb pairs verb
  pub known : has_only_keys known_keys pairs ≡ true
  pub suited : (key : Key) → suits part (role_of verb key) (given (key_of key) pairs) ≡ true
  pub texts : has_xml_values pairs ≡ true

-- the argument is given once, with this value
abbrev pub IsGiven : Key → List Pair → List ℕ → Type 0
IsGiven key pairs value = given (key_of key) pairs ≡ Once value

-- a value that is there, or not
abbrev pub at_most_once : Option (List ℕ) → Occurrence
at_most_once None = Never
at_most_once (Some value) = Once value

-- the argument is given once, with this value, or is absent
abbrev pub IsGivenAtMostOnce : Key → List Pair → Option (List ℕ) → Type 0
IsGivenAtMostOnce key pairs value = given (key_of key) pairs ≡ at_most_once value

-- GetRecord (section 4.1): identifier is any text, and metadataPrefix has its syntax
pub record IsGetRecord (pairs : List Pair) (identifier prefix : List ℕ) : Type 0 where
  pub asked : IsVerbRequest First GetRecord pairs
  pub identified : IsGiven Identifier pairs identifier
  pub formatted : IsGiven MetadataPrefix pairs prefix
  pub syntax : is_prefix prefix ≡ true

-- ListIdentifiers or ListRecords (sections 4.3 and 4.5): metadataPrefix, from, until and set have their syntax. Of
-- ListSets this is never true: it has no metadataPrefix
pub record IsList (granularity : Granularity) (verb : Verb) (pairs : List Pair)
    (prefix : List ℕ) (from until set : Option (List ℕ)) : Type 0 where
  pub asked : IsVerbRequest First verb pairs
  pub formatted : IsGiven MetadataPrefix pairs prefix
  pub starts : IsGivenAtMostOnce From pairs from
  pub ends : IsGivenAtMostOnce Until pairs until
  pub selected : IsGivenAtMostOnce Set pairs set
  pub prefix_syntax : is_prefix prefix ≡ true
  pub set_syntax : is_none_or_set_spec set ≡ true
  pub bounds : are_bounds granularity from until ≡ true

-- the pairs make this request in a repository with the granularity: a case for each form. The identifier of
-- ListMetadataFormats (section 4.4) and the resumptionToken of a list (section 3.5) are any texts
abbrev pub IsAsk : Granularity → List Pair → Ask → Type 0
IsAsk granularity pairs ask.Identify = IsVerbRequest First Identify pairs
IsAsk granularity pairs (ask.Formats identifier) =
    IsVerbRequest First ListMetadataFormats pairs × IsGivenAtMostOnce Identifier pairs identifier
IsAsk granularity pairs ask.Sets = IsVerbRequest First ListSets pairs
IsAsk granularity pairs (ask.Get identifier prefix) = IsGetRecord pairs identifier prefix
IsAsk granularity pairs (ask.List verb prefix from until set) =
    IsList granularity (verb_of_list verb) pairs prefix from until set
IsAsk granularity pairs (ask.Resume verb token) =
    IsVerbRequest Next (verb_of_list verb) pairs × IsGiven ResumptionToken pairs token

-- the pairs make this request; or no verb is named; or a verb is, and they make no request
abbrev pub IsAskOrError : Granularity → List Pair → AskOrError → Type 0
IsAskOrError granularity pairs (asks request) = IsAsk granularity pairs request
IsAskOrError granularity pairs bad_verb = (verb : Verb) → ¬ NamesVerb pairs verb
IsAskOrError granularity pairs bad_argument =
    (verb : Verb) × NamesVerb pairs verb × ((request : Ask) → ¬ IsAsk granularity pairs request)
