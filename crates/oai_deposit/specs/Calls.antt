-- What the calls return that read parts of a line: words that the contract of the whole does not need.
use Rattle.std.specs.Prelude.{◌||◌, ℕ, Bool, true, List, [], ◌∷◌, codes, Option, None, Some}
use Rattle.std.specs.List.{list_all}
use Rattle.serde_json.specs.Data.{Data, Members, member, no_members, object, put}
use Rattle.serde_json.specs.Find.{get}
use Rattle.oai_json.specs.Json.{has_members}
use Rattle.oai_names.specs.Characters.{is_xml_text}
use Rattle.oai_item.specs.declared.forms.Forms.{Forms}
use Rattle.oai_item.specs.declared.givens.Given.{Given}
use Rattle.oai_item.specs.declared.givens.Given.TheVariants.{Listed, Whole}
use Rattle.oai_deposit.specs.Shapes.{written_texts}
use Rattle.oai_deposit.specs.Lines.{LineAbout, LineRecord, deletion_members, purge_members, set_members, has_deposit_members, has_put_members, text_list_of}

-- the condition that is always true: memory may run out anywhere
abbrev pub Anywhere : Type 0
Anywhere = Unit {0}

-- an object with exactly the members of some command, where its records have these forms
abbrev pub has_command_members : Forms → Data → Bool
has_command_members forms d =
    has_deposit_members forms d || has_members deletion_members d || has_members purge_members d || has_members set_members d || has_put_members forms d

-- ---- what is given about records, where it is read in place

-- what is read, if it is
abbrev pub those_there : Option (List LineAbout) → List LineAbout
those_there None = []
those_there (Some abouts) = abouts

-- the member of an object, if the object is there
abbrev pub list_there : Option Data → List ℕ → Option Data
list_there None name = None
list_there (Some d) name = get name d

-- the texts of a list, which may be missing
abbrev pub texts_of_list : Option Data → Option (List (List ℕ))
texts_of_list None = Some []
texts_of_list (Some d) = text_list_of d

abbrev pub texts_if_there : Option Data → List ℕ → Option (List (List ℕ))
texts_if_there o name = texts_of_list (list_there o name)

-- ---- what is printed about records

-- texts under a prefix, put among the members if there are any
abbrev pub put_texts : List ℕ → List (List ℕ) → Members → Members
put_texts prefix [] members = members
put_texts prefix (text ∷ texts) members = put prefix (written_texts (text ∷ texts)) members

-- the member `about`, an object of members, put among the others if there are any
abbrev pub with_about_put : Members → Members → Members
with_about_put no_members members = members
with_about_put (member name d abouts) members = put (codes "about") (object (member name d abouts)) members

-- ---- the texts of fields, which are tested before the elements are read: those of an element may stand in any document

-- each text of each field may stand in an XML document, if fields are given
abbrev pub has_xml_fields : Given → Bool
has_xml_fields (Listed fields) = list_all (λ field. is_xml_text field.text) fields
has_xml_fields (Whole text) = true

abbrev pub have_xml_fields : List LineRecord → Bool
have_xml_fields records = list_all (λ r. has_xml_fields r.1) records
