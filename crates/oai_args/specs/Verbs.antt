-- The six verbs and their names. OAI-PMH 2.0, section 4.
use Rattle.std.specs.Prelude.{ℕ, Bool, true, false, List, [], ◌∷◌, codes, bytes_eq, Option, find}
use Rattle.oai_names.specs.declared.list_verbs.ListVerb.{ListVerb}
use Rattle.oai_names.specs.declared.list_verbs.ListVerb.TheVariants.{Identifiers, Records, Sets}
use Rattle.oai_args.specs.declared.verbs.Verb.{Verb}
use Rattle.oai_args.specs.declared.verbs.Verb.TheVariants.{Identify, ListMetadataFormats, ListSets, GetRecord, ListIdentifiers, ListRecords}

-- the verbs
abbrev pub verbs : List Verb
verbs = Identify ∷ ListMetadataFormats ∷ ListSets ∷ GetRecord ∷ ListIdentifiers ∷ ListRecords ∷ []

-- the value of the argument `verb` that requests the verb
abbrev pub name_of : Verb → List ℕ
name_of Identify = codes "Identify"
name_of ListMetadataFormats = codes "ListMetadataFormats"
name_of ListSets = codes "ListSets"
name_of GetRecord = codes "GetRecord"
name_of ListIdentifiers = codes "ListIdentifiers"
name_of ListRecords = codes "ListRecords"

-- the verb with that name
abbrev pub verb_named : List ℕ → Option Verb
verb_named name = find (λ verb. bytes_eq name (name_of verb)) verbs

-- the verb whose answers are these lists
abbrev pub verb_of_list : ListVerb → Verb
verb_of_list Identifiers = ListIdentifiers
verb_of_list Records = ListRecords
verb_of_list Sets = ListSets

-- the lists of the verb are of records, or of their headers: it is ListIdentifiers or ListRecords
abbrev pub is_of_records : ListVerb → Bool
is_of_records Identifiers = true
is_of_records Records = true
is_of_records Sets = false
