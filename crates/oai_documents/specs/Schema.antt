-- What the schema of OAI-PMH asks of a document's tree: which elements stand where, in which order and how often, and
-- with which attributes. OAI-PMH 2.0, sections 2.5, 3.2, 3.5, 3.6 and 4, and its schema OAI-PMH.xsd, whose types are
-- named. Of the values of simple types it has the enumerations alone: not the forms of URIs, datestamps, setSpecs and
-- addresses.
use Rattle.std.specs.Prelude.{◌≡◌, ◌⊎◌, ℕ, Bool, true, false, ◌||◌, List, [], ◌∷◌, ◌++◌, codes}
use Rattle.std.specs.List.{list_all}
use Rattle.std.specs.Str.{bytes_eq}
use Rattle.oai_names.specs.Names.{is_among}
use Rattle.oai_xml.specs.Roots.{root_of}
use Rattle.oai_xml.specs.Trees.{Tree, text_of}
use Rattle.oai_xml.specs.Whole.{names_of}
use Rattle.oai_answers.specs.ElementParts.{element_attribute, in_order}

-- ---- particles: which elements stand one behind the other. XML Schema Part 1, sections 3.8 and 3.9

-- one
abbrev pub One : (Tree → Type 0) → List Tree → Type 0
One is trees = (t : Tree) × (trees ≡ t ∷ []) × is t

-- one or none: minOccurs="0"
abbrev pub Optional : (Tree → Type 0) → List Tree → Type 0
Optional is trees = (trees ≡ []) ⊎ One is trees

-- any number: minOccurs="0" maxOccurs="unbounded"
abbrev pub Any : (Tree → Type 0) → List Tree → Type 0
Any is [] = Unit {0}
Any is (t ∷ trees) = is t × Any is trees

-- one or more: maxOccurs="unbounded"
abbrev pub Several : (Tree → Type 0) → List Tree → Type 0
Several is [] = ⊥
Several is (t ∷ trees) = is t × Any is trees

-- a sequence: these, and then those
infixr 10 ◌⨾◌
abbrev pub ◌⨾◌ : (List Tree → Type 0) → (List Tree → Type 0) → List Tree → Type 0
(first ⨾ second) trees = (front back : List Tree) × (trees ≡ front ++ back) × first front × second back

-- ---- types. XML Schema Part 1, section 3.4

-- an element of that name, with no attributes but these, which contains elements alone
pub record IsComplex (name : List ℕ) (allowed : List (List ℕ)) (particle : List Tree → Type 0) (t : Tree) : Type 0 where
  pub name_is : t.name ≡ name
  pub attributes : list_all (is_among allowed) (names_of t.attributes) ≡ true
  pub children : (trees : List Tree) × (t.content ≡ in_order trees) × particle trees

-- which contains a text alone, one that passes the test
pub record IsSimple (name : List ℕ) (allowed : List (List ℕ)) (passes : List ℕ → Bool) (t : Tree) : Type 0 where
  pub name_is : t.name ≡ name
  pub attributes : list_all (is_among allowed) (names_of t.attributes) ≡ true
  pub value : (text : List ℕ) × (t.content ≡ text_of text) × (passes text ≡ true)

-- any text; and one of an enumeration
abbrev pub any_text : List ℕ → Bool
any_text text = true

abbrev pub IsTextElement : List ℕ → Tree → Type 0
IsTextElement name t = IsSimple name [] any_text t

abbrev pub IsOneOf : List ℕ → List (List ℕ) → Tree → Type 0
IsOneOf name values t = IsSimple name [] (is_among values) t

-- ---- records. Section 2.5

-- the namespace that the schema is of
unfoldable pub oai_namespace : List ℕ
oai_namespace = codes "http://www.openarchives.org/OAI/2.0/"

-- an element of another namespace
abbrev pub IsForeign : Tree → Type 0
IsForeign t = (bytes_eq (root_of t).namespace oai_namespace || bytes_eq (root_of t).namespace []) ≡ false

-- headerType
abbrev pub IsHeader : Tree → Type 0
IsHeader t = IsComplex (codes "header") (codes "status" ∷ [])
    (One (IsTextElement (codes "identifier")) ⨾ One (IsTextElement (codes "datestamp")) ⨾ Any (IsTextElement (codes "setSpec"))) t

-- metadataType and aboutType
abbrev pub IsContainer : List ℕ → Tree → Type 0
IsContainer name t = IsComplex name [] (One IsForeign) t

-- recordType
abbrev pub IsRecord : Tree → Type 0
IsRecord t = IsComplex (codes "record") []
    (One IsHeader ⨾ Optional (IsContainer (codes "metadata")) ⨾ Any (IsContainer (codes "about"))) t

-- resumptionTokenType
abbrev pub IsTokenElement : Tree → Type 0
IsTokenElement t = IsSimple (codes "resumptionToken")
    (codes "expirationDate" ∷ codes "completeListSize" ∷ codes "cursor" ∷ []) any_text t

-- ---- the request and errors. Sections 3.2 and 3.6

-- requestType
abbrev pub IsRequestElement : Tree → Type 0
IsRequestElement t = IsSimple (codes "request")
    (codes "verb" ∷ codes "identifier" ∷ codes "metadataPrefix" ∷ codes "from" ∷ codes "until"
    ∷ codes "set" ∷ codes "resumptionToken" ∷ []) any_text t

-- OAI-PMHerrorcodeType
abbrev pub error_codes : List (List ℕ)
error_codes =
    codes "cannotDisseminateFormat" ∷ codes "idDoesNotExist" ∷ codes "badArgument" ∷ codes "badVerb"
    ∷ codes "noMetadataFormats" ∷ codes "noRecordsMatch" ∷ codes "badResumptionToken"
    ∷ codes "noSetHierarchy" ∷ []

-- OAI-PMHerrorType: the code has to be there
pub record IsError (t : Tree) : Type 0 where
  pub simple : IsSimple (codes "error") (codes "code" ∷ []) any_text t
  pub code : (code : List ℕ) × (t.attributes ≡ element_attribute (codes "code") code ∷ []) × (is_among error_codes code ≡ true)

-- ---- what the verbs ask for. Section 4

-- IdentifyType
abbrev pub IsIdentify : Tree → Type 0
IsIdentify t = IsComplex (codes "Identify") []
    (One (IsTextElement (codes "repositoryName"))
    ⨾ One (IsTextElement (codes "baseURL"))
    ⨾ One (IsOneOf (codes "protocolVersion") (codes "2.0" ∷ []))
    ⨾ Several (IsTextElement (codes "adminEmail"))
    ⨾ One (IsTextElement (codes "earliestDatestamp"))
    ⨾ One (IsOneOf (codes "deletedRecord") (codes "no" ∷ codes "persistent" ∷ codes "transient" ∷ []))
    ⨾ One (IsOneOf (codes "granularity") (codes "YYYY-MM-DD" ∷ codes "YYYY-MM-DDThh:mm:ssZ" ∷ []))
    ⨾ Any (IsTextElement (codes "compression"))
    ⨾ Any (IsContainer (codes "description"))) t

-- metadataFormatType, in ListMetadataFormatsType
abbrev pub IsFormatElement : Tree → Type 0
IsFormatElement t = IsComplex (codes "metadataFormat") []
    (One (IsTextElement (codes "metadataPrefix")) ⨾ One (IsTextElement (codes "schema")) ⨾ One (IsTextElement (codes "metadataNamespace"))) t

abbrev pub IsFormats : Tree → Type 0
IsFormats t = IsComplex (codes "ListMetadataFormats") [] (Several IsFormatElement) t

-- setType, in ListSetsType
abbrev pub IsSet : Tree → Type 0
IsSet t = IsComplex (codes "set") []
    (One (IsTextElement (codes "setSpec")) ⨾ One (IsTextElement (codes "setName")) ⨾ Any (IsContainer (codes "setDescription"))) t

abbrev pub IsSets : Tree → Type 0
IsSets t = IsComplex (codes "ListSets") [] (Several IsSet ⨾ Optional IsTokenElement) t

-- GetRecordType, ListIdentifiersType and ListRecordsType
abbrev pub IsGetRecordElement : Tree → Type 0
IsGetRecordElement t = IsComplex (codes "GetRecord") [] (One IsRecord) t

abbrev pub IsHeaders : Tree → Type 0
IsHeaders t = IsComplex (codes "ListIdentifiers") [] (Several IsHeader ⨾ Optional IsTokenElement) t

abbrev pub IsRecords : Tree → Type 0
IsRecords t = IsComplex (codes "ListRecords") [] (Several IsRecord ⨾ Optional IsTokenElement) t

-- ---- the document. Section 3.2

-- errors, or what one verb asks for
abbrev pub AreAnswerElements : List Tree → Type 0
AreAnswerElements trees =
    Several IsError trees
    ⊎ (One IsIdentify trees
    ⊎ (One IsFormats trees
    ⊎ (One IsSets trees
    ⊎ (One IsGetRecordElement trees
    ⊎ (One IsHeaders trees
    ⊎ One IsRecords trees)))))

-- OAI-PMHtype. Declarations of namespaces and the attributes of xsi are allowed everywhere (XML Schema Part 1, section
-- 3.4); of this schema's elements, the root alone has some
abbrev pub IsOfSchema : Tree → Type 0
IsOfSchema t = IsComplex (codes "OAI-PMH") (codes "xmlns" ∷ codes "xmlns:xsi" ∷ codes "xsi:schemaLocation" ∷ [])
    (One (IsTextElement (codes "responseDate")) ⨾ One IsRequestElement ⨾ AreAnswerElements) t
