-- What one pass over the pairs does at each. These words are the parser's own: no public contract cites them.
use Rattle.std.specs.Prelude.{ℕ, Bool, true, false, ◌&&◌, List, [], ◌∷◌, codes, Option, None, Result, Ok, Err}
use Rattle.std.specs.Int.{is_in_range}
use Rattle.oai_args.specs.Arguments.{key_of, known_keys}
use Rattle.oai_args.specs.Asks.{AskOrError, asks, bad_verb, bad_argument}
use Rattle.oai_args.specs.Pairs.{Pair, values_of, has_only_keys, has_xml_values}
use Rattle.oai_args.specs.Verbs.{verb_named}
use Rattle.oai_args.specs.declared.arguments.Arguments.{Arguments}
use Rattle.oai_args.specs.declared.occurrences.Occurrence.{Occurrence}
use Rattle.oai_args.specs.declared.occurrences.Occurrence.TheVariants.{Never, Once, Often}
use Rattle.oai_args.specs.declared.requests.Ask.{Ask}
use Rattle.oai_args.specs.declared.requests.ArgFault.{ArgFault}
use Rattle.oai_args.specs.declared.requests.ArgFault.TheVariants.{BadVerb, BadArgument}
use Rattle.oai_args.specs.declared.roles.Key.TheVariants as key
use Rattle.oai_args.specs.declared.verbs.Verb.{Verb}

-- the byte stands for itself in a query, is one of ASCII and a character of XML: `%` (37) and `+` (43) stand before it
abbrev pub is_unescaped_byte : ℕ → Bool
is_unescaped_byte b = is_in_range 44 127 b

-- a key after these further values
unfoldable pub given_with : Occurrence → List (List ℕ) → Occurrence
given_with given [] = given
given_with Never (value ∷ []) = Once value
given_with Never (value ∷ other ∷ values) = Often
given_with (Once first) (value ∷ values) = Often
given_with Often (value ∷ values) = Often

-- the requested verb after these further names, where others were given before or were not
unfoldable pub verb_with : Bool → Option Verb → List (List ℕ) → Option Verb
verb_with before verb [] = verb
verb_with false verb (name ∷ []) = verb_named name
verb_with false verb (name ∷ other ∷ names) = None
verb_with true verb (name ∷ names) = None

-- whether the verb was given, with these further names
unfoldable pub is_verb_given_with : Bool → List (List ℕ) → Bool
is_verb_given_with before [] = before
is_verb_given_with before (name ∷ names) = true

-- the arguments after these further pairs
unfoldable pub arguments_with : Arguments → List Pair → Arguments
arguments_with given pairs = record {
  verb = verb_with given.is_verb_given given.verb (values_of (codes "verb") pairs);
  is_verb_given = is_verb_given_with given.is_verb_given (values_of (codes "verb") pairs);
  identifier = given_with given.identifier (values_of (key_of key.Identifier) pairs);
  prefix = given_with given.prefix (values_of (key_of key.MetadataPrefix) pairs);
  from = given_with given.from (values_of (key_of key.From) pairs);
  until = given_with given.until (values_of (key_of key.Until) pairs);
  set = given_with given.set (values_of (key_of key.Set) pairs);
  token = given_with given.token (values_of (key_of key.ResumptionToken) pairs);
  are_keys_known = given.are_keys_known && has_only_keys known_keys pairs;
  are_values_xml = given.are_values_xml && has_xml_values pairs;
}

-- the result for what is asked
abbrev pub result_of : AskOrError → Result Ask ArgFault
result_of (asks request) = Ok request
result_of bad_verb = Err BadVerb
result_of bad_argument = Err BadArgument
