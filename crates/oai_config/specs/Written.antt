-- The JSON object that is written for a configuration. RFC 8259, sections 4 to 7.
use Rattle.std.specs.Prelude.{◌≡◌, ◌↔◌, ◌⊎◌, ◌+◌, ℕ, true, List, [], ◌∷◌, length, map, codes, Option, Some, None, Ok}
use Rattle.std.specs.List.{AllZip}
use Rattle.serde_json.specs.Data.{Data, Num, Members, object, string, number}
use Rattle.serde_json.specs.Find.{get, as_u64}
use Rattle.oai_item.specs.ShortTexts.{is_short_text}
use Rattle.oai_item.specs.declared.forms.Forms.{Forms}
use Rattle.oai_item.specs.declared.forms.Forms.TheVariants.{Fields, Elements}
use Rattle.oai_xml.specs.Documents.{canonical}
use Rattle.oai_xml.specs.Named.{NamedList}
use Rattle.oai_answers.specs.Documents.{deleted_text}
use Rattle.oai_json.specs.Json.{size, array_of, members_in, names_there}
use Rattle.oai_settings.specs.declared.settings.FormatSettings.{FormatSettings}
use Rattle.oai_settings.specs.declared.settings.Settings.{Settings}
use Rattle.oai_config.specs.declared.host_settings.HostSettings.{HostSettings}
use Rattle.oai_config.specs.Shapes.{further_members, granularity_word, told_of}

-- ---- a member of an object

-- a string
abbrev pub HasText : List ℕ → List ℕ → Data → Type 0
HasText name text d = get name d ≡ Some (string text)

-- a number: that one, or if there is none any other than those of 64 bits, whole and not negative
abbrev pub HasNumber : List ℕ → Option ℕ → Data → Type 0
HasNumber name n d = (m : Num) × (get name d ≡ Some (number m)) × (as_u64 m ≡ n)

-- a list of strings
abbrev pub HasTexts : List ℕ → List (List ℕ) → Data → Type 0
HasTexts name texts d = get name d ≡ Some (array_of (map string texts))

-- a list of values, one written for each, in order
abbrev pub HasList : {A : Type 0} → List ℕ → (A → Data → Type 0) → List A → Data → Type 0
HasList name IsWritten xs d = (ds : List Data) × (get name d ≡ Some (array_of ds)) × AllZip IsWritten xs ds

-- ---- the objects, their members in any order

-- the fields of a format, and no other member beside those that each format has; where records may be elements, a format without fields has no
-- such member
abbrev pub HasFields : Forms → List (List ℕ) → Data → Type 0
HasFields Fields fields d = HasTexts (codes "fields") fields d × (size d ≡ 5)
HasFields Elements [] d = size d ≡ 4
HasFields Elements (field ∷ fields) d = HasTexts (codes "fields") (field ∷ fields) d × (size d ≡ 5)

pub record IsFormat (forms : Forms) (format : FormatSettings) (d : Data) : Type 0 where
  pub prefix : HasText (codes "prefix") format.prefix d
  pub schema : HasText (codes "schema") format.schema d
  pub namespace : HasText (codes "namespace") format.namespace d
  pub root : HasText (codes "root") format.root d
  pub fields : HasFields forms format.fields d

-- a list of strings, each a text of one of the elements, in order
abbrev pub HasElements : List ℕ → List (List ℕ) → Data → Type 0
HasElements name elements d = (texts : List (List ℕ)) × HasTexts name texts d × AllZip (λ text element. canonical text ≡ Ok element) texts elements

-- the same as a value
abbrev pub IsElementList : List (List ℕ) → Data → Type 0
IsElementList elements d = (texts : List (List ℕ)) × (d ≡ array_of (map string texts)) × AllZip (λ text element. canonical text ≡ Ok element) texts elements

-- those that describe the repository: of a member, or none where it is missing; it can be there only where records may be elements
abbrev pub HasDescriptions : Forms → List (List ℕ) → Data → Type 0
HasDescriptions Fields descriptions d = descriptions ≡ []
HasDescriptions Elements descriptions d =
    ((descriptions ≡ []) × (get (codes "description") d ≡ None)) ⊎ HasElements (codes "description") descriptions d

-- those that describe sets: of the members of an object, each a setSpec and such a list, in the order of the names
abbrev pub HasSetElements : List NamedList → Data → Type 0
HasSetElements lists d = (ms : Members) × (get (codes "sets") d ≡ Some (object ms))
    × AllZip (λ (list : NamedList) (m : List ℕ × Data). (list.0 ≡ m.0) × IsElementList list.1 m.1) lists (members_in ms)

abbrev pub HasSetDescriptions : Forms → List NamedList → Data → Type 0
HasSetDescriptions Fields lists d = lists ≡ []
HasSetDescriptions Elements lists d = ((lists ≡ []) × (get (codes "sets") d ≡ None)) ⊎ HasSetElements lists d

pub record IsRepository (forms : Forms) (base : List ℕ) (s : Settings) (d : Data) : Type 0 where
  pub formed : s.forms ≡ forms
  pub below : s.base ≡ base
  pub name : HasText (codes "name") s.name d
  pub repository_name : HasText (codes "repositoryName") s.repository_name d
  pub addresses : HasTexts (codes "adminEmail") s.addresses d
  pub earliest : HasText (codes "earliestDatestamp") s.earliest d
  pub deleted : HasText (codes "deletedRecord") (deleted_text s.deleted) d
  pub granularity : HasText (codes "granularity") (granularity_word s.granularity) d
  pub chunk : HasNumber (codes "chunk") s.chunk d
  pub lifetime : HasNumber (codes "lifetime") s.lifetime d
  pub lists : HasNumber (codes "lists") s.lists d
  pub items : HasNumber (codes "items") s.items d
  pub formats : HasList (codes "formats") (IsFormat forms) s.formats d
  pub descriptions : HasDescriptions forms s.descriptions d
  pub set_descriptions : HasSetDescriptions forms s.set_descriptions d
  pub no_other : size d ≡ 11 + length (names_there (further_members forms) d)

-- the base of all base URLs has 1 to 512 bytes, of characters that a document may hold (XML 1.0, section 2.2)
pub record IsHost (forms : Forms) (base : List ℕ) (told : HostSettings) (d : Data) : Type 0 where
  pub based : HasText (codes "base") base d
  pub short : is_short_text base ≡ true
  pub cache : HasNumber (codes "cache") told.cache d
  pub repositories : HasList (codes "repositories") (IsRepository forms base) told.repositories d
  pub no_other : size d ≡ 3

-- the law of the shape: a value has these settings exactly if it is the object that is written for them, on some base
abbrev pub ConfigShapeLaw : Type 0
ConfigShapeLaw = (forms : Forms) (d : Data) (told : HostSettings) → (told_of forms d ≡ Some told) ↔ ((base : List ℕ) × IsHost forms base told d)
