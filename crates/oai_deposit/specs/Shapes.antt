-- The JSON object of a command. RFC 8259, sections 4, 5 and 7.
use Rattle.std.specs.Prelude.{◌≡◌, ◌↔◌, ◌+◌, ℕ, true, List, [], ◌∷◌, length, map, codes, Option, Some, None}
use Rattle.serde_json.specs.Data.{Data, string}
use Rattle.serde_json.specs.Find.{get}
use Rattle.oai_item.specs.declared.fields.Field.{Field}
use Rattle.oai_item.specs.declared.forms.Forms.{Forms}
use Rattle.oai_item.specs.declared.forms.Forms.TheVariants.{Elements}
use Rattle.oai_item.specs.declared.givens.Given.{Given}
use Rattle.oai_item.specs.declared.givens.Given.TheVariants.{Listed, Whole}
use Rattle.oai_json.specs.Json.{size, names_there, array_of, object_of}
use Rattle.oai_deposit.specs.Lines.{LineAbout, LineRecord, Shape, are_about_records, are_records_of, optional_members, deposits, puts, deletes, purges, adds_set, shape_of}

-- [TEXT,..]
abbrev pub written_texts : List (List ℕ) → Data
written_texts texts = array_of (map string texts)

-- [NAME,TEXT]
abbrev pub written_field : Field → Data
written_field field = array_of (string field.name ∷ string field.text ∷ [])

-- [[NAME,TEXT],..], or the text of an element
abbrev pub written_given : Given → Data
written_given (Listed fields) = array_of (map written_field fields)
written_given (Whole text) = string text

-- PREFIX:[[NAME,TEXT],..], or PREFIX:TEXT
abbrev pub written_record : LineRecord → List ℕ × Data
written_record r = (r.0, written_given r.1)

-- {PREFIX:[[NAME,TEXT],..],PREFIX:TEXT,..}
abbrev pub written_records : List LineRecord → Data
written_records records = object_of (map written_record records)

-- PREFIX:[TEXT,..]
abbrev pub written_about : LineAbout → List ℕ × Data
written_about about = (about.0, written_texts about.1)

-- {PREFIX:[TEXT,..],..}
abbrev pub written_abouts : List LineAbout → Data
written_abouts abouts = object_of (map written_about abouts)

-- .. which may be missing, and then nothing is given about a record
abbrev pub AreAbouts : List LineAbout → Option Data → Type 0
AreAbouts abouts None = abouts ≡ []
AreAbouts abouts (Some d) = d ≡ written_abouts abouts

-- {"deposit":ID,"sets":[SPEC,..],"records":{PREFIX:[[NAME,TEXT],..],PREFIX:TEXT,..},"about":{PREFIX:[TEXT,..],..}}, its members in any order, and
-- `about` may be missing; with `Fields` it is, and no record is a TEXT
pub record IsDeposit (forms : Forms) (identifier : List ℕ) (specs : List (List ℕ))
    (given : List LineRecord) (abouts : List LineAbout) (d : Data) : Type 0 where
  pub deposit : get (codes "deposit") d ≡ Some (string identifier)
  pub sets : get (codes "sets") d ≡ Some (written_texts specs)
  pub records : get (codes "records") d ≡ Some (written_records given)
  pub about : AreAbouts abouts (get (codes "about") d)
  pub under : are_about_records given abouts ≡ true
  pub formed : are_records_of forms given ≡ true
  pub no_other : size d ≡ 3 + length (names_there (optional_members forms) d)

-- {"put":ID,"sets":[SPEC,..],"records":{PREFIX:[[NAME,TEXT],..],PREFIX:TEXT,..},"about":{PREFIX:[TEXT,..],..}}, its members in any order, and
-- `about` may be missing; with `Fields` no value is a put
pub record IsPut (forms : Forms) (identifier : List ℕ) (specs : List (List ℕ))
    (given : List LineRecord) (abouts : List LineAbout) (d : Data) : Type 0 where
  pub put : get (codes "put") d ≡ Some (string identifier)
  pub sets : get (codes "sets") d ≡ Some (written_texts specs)
  pub records : get (codes "records") d ≡ Some (written_records given)
  pub about : AreAbouts abouts (get (codes "about") d)
  pub under : are_about_records given abouts ≡ true
  pub allowed : forms ≡ Elements
  pub no_other : size d ≡ 3 + length (names_there (optional_members forms) d)

-- {"delete":ID}
pub record IsDeletion (identifier : List ℕ) (d : Data) : Type 0 where
  pub delete : get (codes "delete") d ≡ Some (string identifier)
  pub no_other : size d ≡ 1

-- {"purge":BOUND}
pub record IsPurge (before : List ℕ) (d : Data) : Type 0 where
  pub purge : get (codes "purge") d ≡ Some (string before)
  pub no_other : size d ≡ 1

-- {"set":SPEC,"name":TEXT}, its members in any order
pub record IsNewSet (spec title : List ℕ) (d : Data) : Type 0 where
  pub set : get (codes "set") d ≡ Some (string spec)
  pub name : get (codes "name") d ≡ Some (string title)
  pub no_other : size d ≡ 2

-- the value has the shape, with these texts
abbrev pub IsShape : Forms → Shape → Data → Type 0
IsShape forms (deposits identifier sets records abouts) d = IsDeposit forms identifier sets records abouts d
IsShape forms (puts identifier sets records abouts) d = IsPut forms identifier sets records abouts d
IsShape forms (deletes identifier) d = IsDeletion identifier d
IsShape forms (purges before) d = IsPurge before d
IsShape forms (adds_set spec name) d = IsNewSet spec name d

-- the value has a shape exactly if it is the object of that shape, and none exactly if it is no such object
pub record IsReadAsWritten (forms : Forms) (d : Data) : Type 0 where
  pub fits : (shape : Shape) → (shape_of forms d ≡ Some shape) ↔ IsShape forms shape d
  pub fits_none : (shape_of forms d ≡ None) ↔ ((shape : Shape) → ¬ IsShape forms shape d)

-- the law of the shapes, for every value and each of the forms
abbrev pub ShapeLaw : Type 0
ShapeLaw = (forms : Forms) (d : Data) → IsReadAsWritten forms d
