-- What a dump prints of a repository: lines that deposit what it holds again. JSON texts of RFC 8259, sections 4, 5 and
-- 7; the lines are this repository's own.
use Rattle.std.specs.Prelude.{◌≡◌, ◌==◌, ℕ, Bool, not, List, [], ◌∷◌, ◌++◌, length, map, codes, if◌then◌else◌, Some, true}
use Rattle.std.specs.List.{AllZip, filter, flat_map, list_all}
use Rattle.serde_json.specs.Data.{Data, string}
use Rattle.serde_json.specs.Written.{compact_text}
use Rattle.oai_item.specs.Elements.{behind_content, element_in, is_about}
use Rattle.oai_item.specs.Givens.{GivenRecord, given_back, is_none_or_canonical}
use Rattle.oai_item.specs.Item.{IsItem, ItemState}
use Rattle.oai_item.specs.declared.forms.Forms.{Forms}
use Rattle.oai_item.specs.ShortTexts.{is_short_text}
use Rattle.oai_deposit.specs.declared.changes.Change.{Change}
use Rattle.oai_deposit.specs.declared.changes.Change.TheVariants as change
use Rattle.oai_names.specs.Sets.{may_be_set_spec}
use Rattle.oai_json.specs.Json.{json_in, object_of}
use Rattle.oai_deposit.specs.Lines.{LineAbout, LineRecord, are_of_forms, have_xml_texts}
use Rattle.oai_deposit.specs.Shapes.{written_abouts, written_records, written_texts}

-- ---- a line

-- the line is the text of the value: without white space, with the members of objects in the order of their names; and
-- the value is read of it
pub record IsLineOf (value : Data) (line : List ℕ) : Type 0 where
  pub text : line ≡ compact_text value
  pub reads : json_in line ≡ Some value

-- the record itself, and what is about it
abbrev pub line_record : GivenRecord → LineRecord
line_record r = (r.0, r.1)

abbrev pub line_about : GivenRecord → LineAbout
line_about r = (r.0, r.2)

-- something is
abbrev pub has_about : GivenRecord → Bool
has_about r = not (length r.2 == 0)

abbrev pub line_abouts : List GivenRecord → List LineAbout
line_abouts records = map line_about (filter has_about records)

-- "about":{PREFIX:[TEXT,..],..}, where something is about a record
abbrev pub about_member : List LineAbout → List (List ℕ × Data)
about_member [] = []
about_member (about ∷ abouts) = (codes "about", written_abouts (about ∷ abouts)) ∷ []

-- {"about":{PREFIX:[TEXT,..],..},"deposit":ID,"records":{PREFIX:[[NAME,TEXT],..],PREFIX:TEXT,..},"sets":[SPEC,..]}
abbrev pub deposit_value : List ℕ → List (List ℕ) → List GivenRecord → Data
deposit_value identifier sets records =
    object_of (about_member (line_abouts records) ++ (codes "deposit", string identifier)
    ∷ (codes "records", written_records (map line_record records)) ∷ (codes "sets", written_texts sets) ∷ [])

-- {"delete":ID}
abbrev pub deletion_value : List ℕ → Data
deletion_value identifier = object_of ((codes "delete", string identifier) ∷ [])

-- {"name":TEXT,"set":SPEC}
abbrev pub set_value : List ℕ → List ℕ → Data
set_value spec name = object_of ((codes "name", string name) ∷ (codes "set", string spec) ∷ [])

-- ---- an item

-- what is printed of it: its deposit, an element as its text, and if it is deleted its deletion
abbrev pub item_values : ItemState → List Data
item_values item =
    deposit_value item.identifier item.sets (map given_back item.formats) ∷ (if item.live then [] else deletion_value item.identifier ∷ [])

-- the changes that are requested so
abbrev pub item_changes : ItemState → List Change
item_changes item =
    change.Deposit item.identifier item.sets (map given_back item.formats) ∷ (if item.live then [] else change.Delete item.identifier ∷ [])

-- ---- a repository

-- a set, its setSpec and its setName, and an item, as a repository may hold them whose records have these forms
pub record IsHeldSet (set : List ℕ × List ℕ) : Type 0 where
  pub spec : may_be_set_spec set.0 ≡ true
  pub name : is_short_text set.1 ≡ true

pub record IsHeldItem (forms : Forms) (item : ItemState) : Type 0 where
  pub valid : IsItem item
  pub texts : have_xml_texts item.formats ≡ true
  pub formed : are_of_forms forms (map given_back item.formats) ≡ true
  pub canonical : list_all (λ metadata. is_none_or_canonical (element_in metadata.1)) item.formats ≡ true
  pub about : list_all (λ metadata. list_all is_about (behind_content metadata.1)) item.formats ≡ true

-- its sets, in the order in which they were added, and then its items
abbrev pub dump_values : List (List ℕ × List ℕ) → List ItemState → List Data
dump_values sets items = map (λ set. set_value set.0 set.1) sets ++ flat_map item_values items

-- the changes that are requested so
abbrev pub dump_changes : List (List ℕ × List ℕ) → List ItemState → List Change
dump_changes sets items = map (λ set. change.AddSet set.0 set.1) sets ++ flat_map item_changes items

-- these lines are printed of it
abbrev pub IsDump : List (List ℕ × List ℕ) → List ItemState → List (List ℕ) → Type 0
IsDump sets items lines = AllZip IsLineOf (dump_values sets items) lines
