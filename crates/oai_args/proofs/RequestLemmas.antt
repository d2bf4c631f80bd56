-- The function of what is asked is the graph of the relation.
use Rattle.std.proofs.Common.{◌≡◌, ◌∙◌, ℕ, Bool, true, false, ◌&&◌, cond, List, [], ◌∷◌, codes, Option, Some, None, Result, Ok, Err, IfOk, sym, refl, ap, subst}
use Rattle.std.specs.Prelude.{bytes_eq, find}
use Rattle.std.proofs.lemmas.Bool.{and_parts, true≢false}
use Rattle.std.proofs.lemmas.Slice.Eq.{bytes_eq-Decides}
use Rattle.oai_names.specs.Names.{is_prefix}
use Rattle.oai_names.specs.declared.list_verbs.ListVerb.{ListVerb}
use Rattle.oai_names.specs.declared.list_verbs.ListVerb.TheVariants as list
use Rattle.oai_time.specs.declared.granularity.Granularity.{Granularity}
use Rattle.oai_args.specs.Arguments.{key_of, known_keys, role_of, given, once, is_never, suits, arguments_in}
use Rattle.oai_args.specs.Asks.{AskOrError, asks, bad_verb, bad_argument, at_most_once, NamesVerb, IsVerbRequest, IsGetRecord, IsList, IsAsk, IsAskOrError}
use Rattle.oai_args.specs.Bounds.{is_none_or_set_spec, are_bounds}
use Rattle.oai_args.specs.Pairs.{Pair, has_only_keys, has_xml_values}
use Rattle.oai_args.specs.Requests.{provided, list_of_verb, suit, get_record_of, first_list_of, first_of, next_of, form_of, asked_or_bad, asked_of_verb, asked_verb, request_in, request_of, IsReadFrom, GivesTheAnswer, is_by_record_verb}
use Rattle.oai_names.specs.Optional.{◌>>=◌}
use Rattle.oai_args.specs.Steps.{result_of}
use Rattle.oai_args.specs.Verbs.{verbs, name_of, verb_named, verb_of_list}
use Rattle.oai_args.specs.declared.arguments.Arguments.{Arguments}
use Rattle.oai_args.specs.declared.occurrences.Occurrence.{Occurrence}
use Rattle.oai_args.specs.declared.occurrences.Occurrence.TheVariants.{Never, Once, Often}
use Rattle.oai_args.specs.declared.requests.Ask.{Ask}
use Rattle.oai_args.specs.declared.requests.Ask.TheVariants as ask
use Rattle.oai_args.specs.declared.requests.ArgFault.{ArgFault}
use Rattle.oai_args.specs.declared.roles.Key.{Key}
use Rattle.oai_args.specs.declared.roles.Key.TheVariants.{Identifier, MetadataPrefix, From, Until, Set, ResumptionToken}
use Rattle.oai_args.specs.declared.roles.Pagination.{Pagination}
use Rattle.oai_args.specs.declared.roles.Pagination.TheVariants.{First, Next}
use Rattle.oai_args.specs.declared.roles.Role.TheVariants.{Optional}
use Rattle.oai_args.specs.declared.verbs.Verb.{Verb}
use Rattle.oai_args.specs.declared.verbs.Verb.TheVariants.{Identify, ListMetadataFormats, ListSets, GetRecord, ListIdentifiers, ListRecords}

-- ---- the verb

find-is : (name : List ℕ) (first verb : Verb) (others : List Verb) (same : Bool) → bytes_eq name (name_of first) ≡ same
    → (find (λ v. bytes_eq name (name_of v)) others ≡ Some verb → name ≡ name_of verb)
    → cond same (Some first) (find (λ v. bytes_eq name (name_of v)) others) ≡ Some verb → name ≡ name_of verb
find-is name first verb others true same later found =
    let it : first ≡ verb = cc in (bytes_eq-Decides name (name_of first)).0 same ∙ ap name_of it
find-is name first verb others false same later found = later found

found-is : (name : List ℕ) (among : List Verb) (verb : Verb) → find (λ v. bytes_eq name (name_of v)) among ≡ Some verb → name ≡ name_of verb
found-is name [] verb found = cc
found-is name (first ∷ others) verb found = find-is name first verb others _ refl (found-is name others verb) found

verb_named-is : (name : List ℕ) (verb : Verb) → verb_named name ≡ Some verb → name ≡ name_of verb
verb_named-is name verb named = found-is name verbs verb named

verb_named-name_of : (verb : Verb) → verb_named (name_of verb) ≡ Some verb
verb_named-name_of Identify = refl
verb_named-name_of ListMetadataFormats = refl
verb_named-name_of ListSets = refl
verb_named-name_of GetRecord = refl
verb_named-name_of ListIdentifiers = refl
verb_named-name_of ListRecords = refl

verb_of-is : (value : Occurrence) (verb : Verb) → (once value >>= verb_named) ≡ Some verb → value ≡ Once (name_of verb)
verb_of-is Never verb asked = cc
verb_of-is (Once name) verb asked = ap (λ (n : List ℕ). Once n) (verb_named-is name verb asked)
verb_of-is Often verb asked = cc

asked_verb-is : (pairs : List Pair) (verb : Verb) → asked_verb (arguments_in pairs) ≡ Some verb → NamesVerb pairs verb
unfolding asked_verb arguments_in
asked_verb-is pairs verb asked = verb_of-is (given (codes "verb") pairs) verb asked

asked_verb-from : (pairs : List Pair) (verb : Verb) → NamesVerb pairs verb → asked_verb (arguments_in pairs) ≡ Some verb
unfolding asked_verb arguments_in
asked_verb-from pairs verb named = rw named (verb_named-name_of verb)

list_of_verb-of_list : (verb : ListVerb) → list_of_verb (verb_of_list verb) ≡ Some verb
list_of_verb-of_list list.Identifiers = refl
list_of_verb-of_list list.Records = refl
list_of_verb-of_list list.Sets = refl

-- ---- the test of the arguments

-- all seven parts of the test hold
seven : (a b c d e f g : Bool) → (a && b && c && d && e && f && g) ≡ true → (a ≡ true) × (b ≡ true) × (c ≡ true) × (d ≡ true) × (e ≡ true) × (f ≡ true) × (g ≡ true)
seven a b c d e f g h =
    let to_f = and_parts (a && b && c && d && e && f) g h in
    let to_e = and_parts (a && b && c && d && e) f to_f.0 in
    let to_d = and_parts (a && b && c && d) e to_e.0 in
    let to_c = and_parts (a && b && c) d to_d.0 in
    let to_b = and_parts (a && b) c to_c.0 in
    let to_a = and_parts a b to_b.0 in
    (to_a.0, to_a.1, to_b.1, to_c.1, to_d.1, to_e.1, to_f.1)

seven_from : (a b c d e f g : Bool) → a ≡ true → b ≡ true → c ≡ true → d ≡ true → e ≡ true → f ≡ true → g ≡ true → (a && b && c && d && e && f && g) ≡ true
seven_from a b c d e f g p q r s t u v = rw (p, q, r, s, t, u, v) refl

suited_at : (part : Pagination) (verb : Verb) (pairs : List Pair) → suit part verb (arguments_in pairs) ≡ true → (k : Key) → suits part (role_of verb k) (given (key_of k) pairs) ≡ true
unfolding suit arguments_in
suited_at part verb pairs h k =
    let test : Key → Bool = λ key. suits part (role_of verb key) (given (key_of key) pairs) in
    let parts = seven (has_only_keys known_keys pairs) (test Identifier) (test MetadataPrefix) (test From) (test Until) (test Set) (test ResumptionToken) h in
    elim k as (λ key. suits part (role_of verb key) (given (key_of key) pairs) ≡ true) [
      | Identifier ↦ parts.1
      | MetadataPrefix ↦ parts.2
      | From ↦ parts.3
      | Until ↦ parts.4
      | Set ↦ parts.5
      | ResumptionToken ↦ parts.6
    ]

known_at : (part : Pagination) (verb : Verb) (pairs : List Pair) → suit part verb (arguments_in pairs) ≡ true → has_only_keys known_keys pairs ≡ true
unfolding suit arguments_in
known_at part verb pairs h =
    let test : Key → Bool = λ key. suits part (role_of verb key) (given (key_of key) pairs) in
    (seven (has_only_keys known_keys pairs) (test Identifier) (test MetadataPrefix) (test From) (test Until) (test Set) (test ResumptionToken) h).0

is_of : (part : Pagination) (verb : Verb) (pairs : List Pair) → NamesVerb pairs verb → has_xml_values pairs ≡ true → suit part verb (arguments_in pairs) ≡ true → IsVerbRequest part verb pairs
is_of part verb pairs named texts h = record { named = named; known = known_at part verb pairs h; suited = suited_at part verb pairs h; texts = texts }

suit_from : (part : Pagination) (verb : Verb) (pairs : List Pair) → IsVerbRequest part verb pairs → suit part verb (arguments_in pairs) ≡ true
unfolding suit arguments_in
suit_from part verb pairs h =
    let test : Key → Bool = λ key. suits part (role_of verb key) (given (key_of key) pairs) in
    seven_from (has_only_keys known_keys pairs) (test Identifier) (test MetadataPrefix) (test From) (test Until) (test Set) (test ResumptionToken)
    h.known (h.suited Identifier) (h.suited MetadataPrefix) (h.suited From) (h.suited Until) (h.suited Set) (h.suited ResumptionToken)

-- ---- one value

once-then : (value : Occurrence) (next : List ℕ → Option Ask) (request : Ask) → (once value >>= next) ≡ Some request → (text : List ℕ) × (value ≡ Once text) × (next text ≡ Some request)
once-then Never next request made = cc
once-then (Once text) next request made = (text, refl, made)
once-then Often next request made = cc

-- an optional argument that suits is given with its value, or not
optional-is : (value : Occurrence) → suits First Optional value ≡ true → value ≡ at_most_once (once value)
optional-is Never h = refl
optional-is (Once text) h = refl
optional-is Often h = cc

once-at_most_once : (value : Option (List ℕ)) → once (at_most_once value) ≡ value
once-at_most_once None = refl
once-at_most_once (Some value) = refl

provided-is : (passes : Bool) (made request : Ask) → provided passes made ≡ Some request → (passes ≡ true) × (made ≡ request)
provided-is true made request answer = (refl, cc)
provided-is false made request answer = cc

three_parts : (a b c : Bool) → (a && b && c) ≡ true → (a ≡ true) × (b ≡ true) × (c ≡ true)
three_parts a b c h = let front = and_parts (a && b) c h in let parts = and_parts a b front.0 in (parts.0, parts.1, front.1)

-- ---- from an answer to the relation

made_as : (granularity : Granularity) (pairs : List Pair) (made request : Ask) → made ≡ request → IsAsk granularity pairs made → IsAsk granularity pairs request
made_as granularity pairs made request same h =
    let IsMade : Ask → Type 0 = λ a. IsAsk granularity pairs a in
    subst IsMade same h

formats_is : (granularity : Granularity) (pairs : List Pair) (request : Ask) → IsVerbRequest First ListMetadataFormats pairs → first_of granularity ListMetadataFormats (arguments_in pairs) ≡ Some request → IsAsk granularity pairs request
unfolding first_of arguments_in
formats_is granularity pairs request asked made =
    let identifier : Occurrence = given (key_of Identifier) pairs in
    made_as granularity pairs (ask.Formats (once identifier)) request (cc) (asked, optional-is identifier (asked.suited Identifier))

item_is : (granularity : Granularity) (pairs : List Pair) (request : Ask) → IsVerbRequest First GetRecord pairs → get_record_of (arguments_in pairs) ≡ Some request → IsAsk granularity pairs request
unfolding get_record_of arguments_in
item_is granularity pairs request asked made =
    let i = once-then (given (key_of Identifier) pairs) _ request made in
    let p = once-then (given (key_of MetadataPrefix) pairs) _ request i.2 in
    let parts = provided-is (is_prefix p.0) (ask.Get i.0 p.0) request p.2 in
    made_as granularity pairs _ request parts.1 (record { asked = asked; identified = i.1; formatted = p.1; syntax = parts.0 })

list_is : (granularity : Granularity) (verb : ListVerb) (pairs : List Pair) (request : Ask) → IsVerbRequest First (verb_of_list verb) pairs
    → suits First Optional (given (key_of From) pairs) ≡ true → suits First Optional (given (key_of Until) pairs) ≡ true → suits First Optional (given (key_of Set) pairs) ≡ true
    → first_list_of granularity verb (arguments_in pairs) ≡ Some request → IsAsk granularity pairs request
unfolding first_list_of arguments_in
list_is granularity verb pairs request asked starts ends selected made =
    let from : Option (List ℕ) = once (given (key_of From) pairs) in
    let until : Option (List ℕ) = once (given (key_of Until) pairs) in
    let set : Option (List ℕ) = once (given (key_of Set) pairs) in
    let p = once-then (given (key_of MetadataPrefix) pairs) _ request made in
    let parts = provided-is (is_prefix p.0 && is_none_or_set_spec set && are_bounds granularity from until) (ask.List verb p.0 from until set) request p.2 in
    let tests = three_parts (is_prefix p.0) (is_none_or_set_spec set) (are_bounds granularity from until) parts.0 in
    made_as granularity pairs (ask.List verb p.0 from until set) request parts.1 (record {
      asked = asked;
      formatted = p.1;
      starts = optional-is (given (key_of From) pairs) starts;
      ends = optional-is (given (key_of Until) pairs) ends;
      selected = optional-is (given (key_of Set) pairs) selected;
      prefix_syntax = tests.0;
      set_syntax = tests.1;
      bounds = tests.2;
    })

first_is : (granularity : Granularity) (verb : Verb) (pairs : List Pair) (request : Ask) → IsVerbRequest First verb pairs → first_of granularity verb (arguments_in pairs) ≡ Some request → IsAsk granularity pairs request
unfolding first_of
first_is granularity Identify pairs request asked made = made_as granularity pairs ask.Identify request (cc) asked
first_is granularity ListMetadataFormats pairs request asked made = formats_is granularity pairs request asked made
first_is granularity ListSets pairs request asked made = made_as granularity pairs ask.Sets request (cc) asked
first_is granularity GetRecord pairs request asked made = item_is granularity pairs request asked made
first_is granularity ListIdentifiers pairs request asked made = list_is granularity list.Identifiers pairs request asked (asked.suited From) (asked.suited Until) (asked.suited Set) made
first_is granularity ListRecords pairs request asked made = list_is granularity list.Records pairs request asked (asked.suited From) (asked.suited Until) (asked.suited Set) made

resume_is : (granularity : Granularity) (verb : ListVerb) (pairs : List Pair) (request : Ask) → IsVerbRequest Next (verb_of_list verb) pairs
    → (once (given (key_of ResumptionToken) pairs) >>= (λ token. Some (ask.Resume verb token))) ≡ Some request → IsAsk granularity pairs request
resume_is granularity verb pairs request asked made =
    let t = once-then (given (key_of ResumptionToken) pairs) _ request made in
    made_as granularity pairs (ask.Resume verb t.0) request (cc (t.2)) (asked, t.1)

next_is : (granularity : Granularity) (verb : Verb) (pairs : List Pair) (request : Ask) → IsVerbRequest Next verb pairs → next_of verb (arguments_in pairs) ≡ Some request → IsAsk granularity pairs request
unfolding next_of arguments_in
next_is granularity Identify pairs request asked made = cc
next_is granularity ListMetadataFormats pairs request asked made = cc
next_is granularity ListSets pairs request asked made = resume_is granularity list.Sets pairs request asked made
next_is granularity GetRecord pairs request asked made = cc
next_is granularity ListIdentifiers pairs request asked made = resume_is granularity list.Identifiers pairs request asked made
next_is granularity ListRecords pairs request asked made = resume_is granularity list.Records pairs request asked made

form_step : (granularity : Granularity) (verb : Verb) (pairs : List Pair) (request : Ask) → NamesVerb pairs verb → has_xml_values pairs ≡ true → (never first next : Bool)
    → suit First verb (arguments_in pairs) ≡ first → suit Next verb (arguments_in pairs) ≡ next
    → cond never (cond first (first_of granularity verb (arguments_in pairs)) None) (cond next (next_of verb (arguments_in pairs)) None) ≡ Some request → IsAsk granularity pairs request
form_step granularity verb pairs request named texts true true next f n made = first_is granularity verb pairs request (is_of First verb pairs named texts f) made
form_step granularity verb pairs request named texts true false next f n made = cc
form_step granularity verb pairs request named texts false first true f n made = next_is granularity verb pairs request (is_of Next verb pairs named texts n) made
form_step granularity verb pairs request named texts false first false f n made = cc

form_is : (granularity : Granularity) (verb : Verb) (pairs : List Pair) (request : Ask) → NamesVerb pairs verb → has_xml_values pairs ≡ true → form_of granularity verb (arguments_in pairs) ≡ Some request → IsAsk granularity pairs request
unfolding form_of
form_is granularity verb pairs request named texts made =
    form_step granularity verb pairs request named texts (is_never (arguments_in pairs).token) (suit First verb (arguments_in pairs)) (suit Next verb (arguments_in pairs)) refl refl made

texts_of : (pairs : List Pair) → (arguments_in pairs).are_values_xml ≡ has_xml_values pairs
unfolding arguments_in
texts_of pairs = refl

made_step : (granularity : Granularity) (verb : Verb) (pairs : List Pair) (request : Ask) → NamesVerb pairs verb → (texts : Bool) (form : Option Ask)
    → has_xml_values pairs ≡ texts → form_of granularity verb (arguments_in pairs) ≡ form → cond texts (asked_or_bad form) bad_argument ≡ asks request → IsAsk granularity pairs request
made_step granularity verb pairs request named false form t f answer = cc
made_step granularity verb pairs request named true None t f answer = cc
made_step granularity verb pairs request named true (Some other) t f answer =
    let same : other ≡ request = cc in
    form_is granularity verb pairs request named t (f ∙ ap (λ (a : Ask). Some a) same)

ask_from : (granularity : Granularity) (pairs : List Pair) (request : Ask) (asked : Option Verb) → asked_verb (arguments_in pairs) ≡ asked → asked_of_verb granularity asked (arguments_in pairs) ≡ asks request → IsAsk granularity pairs request
ask_from granularity pairs request None named answer = cc
ask_from granularity pairs request (Some verb) named answer =
    made_step granularity verb pairs request (asked_verb-is pairs verb named) (arguments_in pairs).are_values_xml (form_of granularity verb (arguments_in pairs)) (sym (texts_of pairs)) refl answer

asks_is : (granularity : Granularity) (pairs : List Pair) (request : Ask) → request_of granularity pairs ≡ asks request → IsAsk granularity pairs request
unfolding request_of request_in
asks_is granularity pairs request answer = ask_from granularity pairs request (asked_verb (arguments_in pairs)) refl answer

-- ---- from the relation to an answer

asked_step : (texts : Bool) (form : Option Ask) (request : Ask) → texts ≡ true → form ≡ Some request → cond texts (asked_or_bad form) bad_argument ≡ asks request
asked_step texts form request t f = rw (t, f) refl

answer_step : (granularity : Granularity) (verb : Verb) (a : Arguments) (request : Ask) → asked_verb a ≡ Some verb → a.are_values_xml ≡ true → form_of granularity verb a ≡ Some request → request_in granularity a ≡ asks request
unfolding request_in
answer_step granularity verb a request named texts made = rw named (asked_step a.are_values_xml (form_of granularity verb a) request texts made)

first_step : (granularity : Granularity) (verb : Verb) (a : Arguments) (request : Ask) → is_never a.token ≡ true → suit First verb a ≡ true → first_of granularity verb a ≡ Some request → form_of granularity verb a ≡ Some request
unfolding form_of
first_step granularity verb a request never suited made = rw (never, suited) made

next_step : (granularity : Granularity) (verb : Verb) (a : Arguments) (request : Ask) → is_never a.token ≡ false → suit Next verb a ≡ true → next_of verb a ≡ Some request → form_of granularity verb a ≡ Some request
unfolding form_of
next_step granularity verb a request never suited made = rw (never, suited) made

token_of : (pairs : List Pair) → (arguments_in pairs).token ≡ given (key_of ResumptionToken) pairs
unfolding arguments_in
token_of pairs = refl

first_from : (granularity : Granularity) (verb : Verb) (pairs : List Pair) (request : Ask) → IsVerbRequest First verb pairs → is_never (given (key_of ResumptionToken) pairs) ≡ true
    → first_of granularity verb (arguments_in pairs) ≡ Some request → request_of granularity pairs ≡ asks request
unfolding request_of
first_from granularity verb pairs request asked never made =
    answer_step granularity verb (arguments_in pairs) request (asked_verb-from pairs verb asked.named) (texts_of pairs ∙ asked.texts)
    (first_step granularity verb (arguments_in pairs) request (ap is_never (token_of pairs) ∙ never) (suit_from First verb pairs asked) made)

formats_from : (granularity : Granularity) (pairs : List Pair) (identifier : Option (List ℕ)) → given (key_of Identifier) pairs ≡ at_most_once identifier → first_of granularity ListMetadataFormats (arguments_in pairs) ≡ Some (ask.Formats identifier)
unfolding first_of arguments_in
formats_from granularity pairs identifier is = ap (λ (i : Option (List ℕ)). Some (ask.Formats i)) (ap once is ∙ once-at_most_once identifier)

item_from : (granularity : Granularity) (pairs : List Pair) (identifier prefix : List ℕ) → IsGetRecord pairs identifier prefix → first_of granularity GetRecord (arguments_in pairs) ≡ Some (ask.Get identifier prefix)
unfolding first_of get_record_of arguments_in
item_from granularity pairs identifier prefix h = rw (h.identified, h.formatted, h.syntax) refl

list_from : (granularity : Granularity) (verb : ListVerb) (pairs : List Pair) (prefix : List ℕ) (from until set : Option (List ℕ)) → IsList granularity (verb_of_list verb) pairs prefix from until set → first_list_of granularity verb (arguments_in pairs) ≡ Some (ask.List verb prefix from until set)
unfolding first_list_of arguments_in
list_from granularity verb pairs prefix from until set h =
    rw (h.formatted, h.starts, once-at_most_once from, h.ends, once-at_most_once until, h.selected, once-at_most_once set)
    (rw (h.prefix_syntax, h.set_syntax, h.bounds) refl)

next_from : (granularity : Granularity) (verb : ListVerb) (pairs : List Pair) (token : List ℕ) → IsVerbRequest Next (verb_of_list verb) pairs → given (key_of ResumptionToken) pairs ≡ Once token → request_of granularity pairs ≡ asks (ask.Resume verb token)
unfolding request_of next_of
next_from granularity verb pairs token asked is =
    let given_once : (arguments_in pairs).token ≡ Once token = token_of pairs ∙ is in
    answer_step granularity (verb_of_list verb) (arguments_in pairs) (ask.Resume verb token) (asked_verb-from pairs (verb_of_list verb) asked.named) (texts_of pairs ∙ asked.texts)
    (next_step granularity (verb_of_list verb) (arguments_in pairs) (ask.Resume verb token) (ap is_never given_once) (suit_from Next (verb_of_list verb) pairs asked) (rw (list_of_verb-of_list verb, given_once) refl))

ask_is : (granularity : Granularity) (pairs : List Pair) (request : Ask) → IsAsk granularity pairs request → request_of granularity pairs ≡ asks request
unfolding first_of
ask_is granularity pairs ask.Identify h = first_from granularity Identify pairs ask.Identify h (h.suited ResumptionToken) refl
ask_is granularity pairs (ask.Formats identifier) h = first_from granularity ListMetadataFormats pairs (ask.Formats identifier) h.0 (h.0.suited ResumptionToken) (formats_from granularity pairs identifier h.1)
ask_is granularity pairs ask.Sets h = first_from granularity ListSets pairs ask.Sets h (h.suited ResumptionToken) refl
ask_is granularity pairs (ask.Get identifier prefix) h = first_from granularity GetRecord pairs (ask.Get identifier prefix) h.asked (h.asked.suited ResumptionToken) (item_from granularity pairs identifier prefix h)
ask_is granularity pairs (ask.List list.Identifiers prefix from until set) h =
    first_from granularity ListIdentifiers pairs (ask.List list.Identifiers prefix from until set) h.asked (h.asked.suited ResumptionToken) (list_from granularity list.Identifiers pairs prefix from until set h)
ask_is granularity pairs (ask.List list.Records prefix from until set) h =
    first_from granularity ListRecords pairs (ask.List list.Records prefix from until set) h.asked (h.asked.suited ResumptionToken) (list_from granularity list.Records pairs prefix from until set h)
ask_is granularity pairs (ask.List list.Sets prefix from until set) h = absurd (true≢false (sym (h.asked.suited MetadataPrefix) ∙ ap is_never h.formatted))
ask_is granularity pairs (ask.Resume verb token) h = next_from granularity verb pairs token h.0 h.1

-- ---- the law

bad_verb_is : (texts : Bool) (form : Option Ask) → cond texts (asked_or_bad form) bad_argument ≡ bad_verb → ⊥
bad_verb_is false form answer = cc
bad_verb_is true None answer = cc
bad_verb_is true (Some request) answer = cc

none_named : (granularity : Granularity) (pairs : List Pair) → request_of granularity pairs ≡ bad_verb → (verb : Verb) → ¬ NamesVerb pairs verb
unfolding request_of request_in
none_named granularity pairs answer verb named =
    bad_verb_is (arguments_in pairs).are_values_xml (form_of granularity verb (arguments_in pairs))
    (sym (ap (λ asked. asked_of_verb granularity asked (arguments_in pairs)) (asked_verb-from pairs verb named)) ∙ answer)

bad_verb_for : (granularity : Granularity) (pairs : List Pair) (asked : Option Verb) → asked_verb (arguments_in pairs) ≡ asked → ((verb : Verb) → ¬ NamesVerb pairs verb) → asked_of_verb granularity asked (arguments_in pairs) ≡ bad_verb
bad_verb_for granularity pairs None named none = refl
bad_verb_for granularity pairs (Some verb) named none = absurd (none verb (asked_verb-is pairs verb named))

bad_verb_from : (granularity : Granularity) (pairs : List Pair) → ((verb : Verb) → ¬ NamesVerb pairs verb) → request_of granularity pairs ≡ bad_verb
unfolding request_of request_in
bad_verb_from granularity pairs none = bad_verb_for granularity pairs (asked_verb (arguments_in pairs)) refl none

verb_for : (granularity : Granularity) (pairs : List Pair) (asked : Option Verb) → asked_verb (arguments_in pairs) ≡ asked → asked_of_verb granularity asked (arguments_in pairs) ≡ bad_argument → (verb : Verb) × NamesVerb pairs verb
verb_for granularity pairs None named answer = cc
verb_for granularity pairs (Some verb) named answer = (verb, asked_verb-is pairs verb named)

verb_at_bad_argument : (granularity : Granularity) (pairs : List Pair) → request_of granularity pairs ≡ bad_argument → (verb : Verb) × NamesVerb pairs verb
unfolding request_of request_in
verb_at_bad_argument granularity pairs answer = verb_for granularity pairs (asked_verb (arguments_in pairs)) refl answer

two_answers : (asked : AskOrError) (request : Ask) → asked ≡ bad_argument → asked ≡ asks request → ⊥
two_answers asked request bad made = cc

bad_argument_from : (granularity : Granularity) (pairs : List Pair) (asked : AskOrError) → request_of granularity pairs ≡ asked → (verb : Verb) → NamesVerb pairs verb → ((request : Ask) → ¬ IsAsk granularity pairs request) → request_of granularity pairs ≡ bad_argument
bad_argument_from granularity pairs (asks request) is verb named none = absurd (none request (asks_is granularity pairs request is))
bad_argument_from granularity pairs bad_verb is verb named none = absurd (none_named granularity pairs is verb named)
bad_argument_from granularity pairs bad_argument is verb named none = is

answered : (granularity : Granularity) (pairs : List Pair) (asked : AskOrError) → request_of granularity pairs ≡ asked → IsAskOrError granularity pairs asked
answered granularity pairs (asks request) is = asks_is granularity pairs request is
answered granularity pairs bad_verb is = none_named granularity pairs is
answered granularity pairs bad_argument is =
    let found = verb_at_bad_argument granularity pairs is in
    (found.0, found.1, λ request made. two_answers (request_of granularity pairs) request is (ask_is granularity pairs request made))

answers : (granularity : Granularity) (pairs : List Pair) (asked : AskOrError) → IsAskOrError granularity pairs asked → request_of granularity pairs ≡ asked
answers granularity pairs (asks request) made = ask_is granularity pairs request made
answers granularity pairs bad_verb none = bad_verb_from granularity pairs none
answers granularity pairs bad_argument found = bad_argument_from granularity pairs (request_of granularity pairs) refl found.0 found.1 found.2

pub gives_the_answer : GivesTheAnswer
gives_the_answer granularity pairs asked = (answered granularity pairs asked, answers granularity pairs asked)

-- ---- what is answered

answered_as : (granularity : Granularity) (pairs : List Pair) (asked : AskOrError) → request_of granularity pairs ≡ asked → IsReadFrom granularity pairs (result_of asked)
answered_as granularity pairs (asks request) is = is
answered_as granularity pairs bad_verb is = is
answered_as granularity pairs bad_argument is = is

pub read_from : (granularity : Granularity) (pairs : List Pair) (result : Result Ask ArgFault) → result ≡ result_of (request_of granularity pairs) → IsReadFrom granularity pairs result
read_from granularity pairs result e =
    let Is : Result Ask ArgFault → Type 0 = λ r. IsReadFrom granularity pairs r in
    subst Is (sym e) (answered_as granularity pairs (request_of granularity pairs) refl)

-- ListSets is never asked for with a metadataPrefix
records_asked : (granularity : Granularity) (pairs : List Pair) (request : Ask) → IsAsk granularity pairs request → is_by_record_verb request ≡ true
records_asked granularity pairs ask.Identify h = refl
records_asked granularity pairs (ask.Formats identifier) h = refl
records_asked granularity pairs ask.Sets h = refl
records_asked granularity pairs (ask.Get identifier prefix) h = refl
records_asked granularity pairs (ask.List list.Identifiers prefix from until set) h = refl
records_asked granularity pairs (ask.List list.Records prefix from until set) h = refl
records_asked granularity pairs (ask.List list.Sets prefix from until set) h = absurd (true≢false (sym (h.asked.suited MetadataPrefix) ∙ ap is_never h.formatted))
records_asked granularity pairs (ask.Resume verb token) h = refl

pub records_read : (granularity : Granularity) (pairs : List Pair) (result : Result Ask ArgFault) → IsReadFrom granularity pairs result → IfOk result (λ request. is_by_record_verb request ≡ true)
records_read granularity pairs (Ok request) is = records_asked granularity pairs request (asks_is granularity pairs request is)
records_read granularity pairs (Err fault) is = tt
