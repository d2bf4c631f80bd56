-- The arguments that each verb has, and how often each is given. OAI-PMH 2.0, sections 3.6 and 4.
use Rattle.std.specs.Prelude.{ℕ, Bool, true, false, not, List, [], ◌∷◌, codes, Option, Some, None}
use Rattle.oai_names.specs.Optional.{◌>>=◌}
use Rattle.oai_args.specs.Pairs.{Pair, values_of, has_only_keys, has_xml_values}
use Rattle.oai_args.specs.Verbs.{verb_named}
use Rattle.oai_args.specs.declared.arguments.Arguments.{Arguments}
use Rattle.oai_args.specs.declared.occurrences.Occurrence.{Occurrence}
use Rattle.oai_args.specs.declared.occurrences.Occurrence.TheVariants.{Never, Once, Often}
use Rattle.oai_args.specs.declared.roles.Key.{Key}
use Rattle.oai_args.specs.declared.roles.Key.TheVariants as key
use Rattle.oai_args.specs.declared.roles.Role.{Role}
use Rattle.oai_args.specs.declared.roles.Role.TheVariants.{Required, Optional, Exclusive, Absent}
use Rattle.oai_args.specs.declared.roles.Pagination.{Pagination}
use Rattle.oai_args.specs.declared.roles.Pagination.TheVariants.{First, Next}
use Rattle.oai_args.specs.declared.verbs.Verb.{Verb}
use Rattle.oai_args.specs.declared.verbs.Verb.TheVariants.{ListMetadataFormats, ListSets, GetRecord, ListIdentifiers, ListRecords}

-- the key of an argument
abbrev pub key_of : Key → List ℕ
key_of key.Identifier = codes "identifier"
key_of key.MetadataPrefix = codes "metadataPrefix"
key_of key.From = codes "from"
key_of key.Until = codes "until"
key_of key.Set = codes "set"
key_of key.ResumptionToken = codes "resumptionToken"

-- the keys
abbrev pub known_keys : List (List ℕ)
known_keys =
    codes "verb" ∷ key_of key.Identifier ∷ key_of key.MetadataPrefix ∷ key_of key.From
    ∷ key_of key.Until ∷ key_of key.Set ∷ key_of key.ResumptionToken ∷ []

-- ---- the table: the role of each argument for each verb

-- for ListIdentifiers and ListRecords (sections 4.3 and 4.5)
abbrev pub role_in_list : Key → Role
role_in_list key.Identifier = Absent
role_in_list key.MetadataPrefix = Required
role_in_list key.From = Optional
role_in_list key.Until = Optional
role_in_list key.Set = Optional
role_in_list key.ResumptionToken = Exclusive

-- for each verb (sections 4.1 to 4.6)
abbrev pub role_of : Verb → Key → Role
role_of ListMetadataFormats key.Identifier = Optional
role_of ListSets key.ResumptionToken = Exclusive
role_of GetRecord key.Identifier = Required
role_of GetRecord key.MetadataPrefix = Required
role_of ListIdentifiers k = role_in_list k
role_of ListRecords k = role_in_list k
role_of _ _ = Absent

-- ---- how often a key is given

-- these values are none, one, or more
abbrev pub occurrence_of : List (List ℕ) → Occurrence
occurrence_of [] = Never
occurrence_of (value ∷ []) = Once value
occurrence_of (value ∷ other ∷ values) = Often

-- how often the pairs give the key, and its value if they give it once
unfoldable pub given : List ℕ → List Pair → Occurrence
given key pairs = occurrence_of (values_of key pairs)

-- the value of a key that is given once
abbrev pub once : Occurrence → Option (List ℕ)
once (Once value) = Some value
once _ = None

abbrev pub is_never : Occurrence → Bool
is_never Never = true
is_never _ = false

abbrev pub is_once : Occurrence → Bool
is_once (Once value) = true
is_once _ = false

abbrev pub is_often : Occurrence → Bool
is_often Often = true
is_often _ = false

-- an argument with that role is given as often as required: in a first request the required ones once, the optional
-- ones at most once and no others; in a request for the next part of a list the exclusive one once and no others
abbrev pub suits : Pagination → Role → Occurrence → Bool
suits First Required given = is_once given
suits First Optional given = not (is_often given)
suits First Exclusive given = is_never given
suits First Absent given = is_never given
suits Next Required given = is_never given
suits Next Optional given = is_never given
suits Next Exclusive given = is_once given
suits Next Absent given = is_never given

-- the verb that a value names, if it is given once
abbrev pub verb_once : Occurrence → Option Verb
verb_once given = do
  name ← once given
  verb_named name

-- ---- all together

-- what the pairs give
unfoldable pub arguments_in : List Pair → Arguments
arguments_in pairs = record {
  verb = verb_once (given (codes "verb") pairs);
  is_verb_given = not (is_never (given (codes "verb") pairs));
  identifier = given (key_of key.Identifier) pairs;
  prefix = given (key_of key.MetadataPrefix) pairs;
  from = given (key_of key.From) pairs;
  until = given (key_of key.Until) pairs;
  set = given (key_of key.Set) pairs;
  token = given (key_of key.ResumptionToken) pairs;
  are_keys_known = has_only_keys known_keys pairs;
  are_values_xml = has_xml_values pairs;
}
