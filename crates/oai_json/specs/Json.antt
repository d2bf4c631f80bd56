-- JSON texts, and their values as plain lists; what a value, or a member of an object, is if it is of a kind. RFC 8259,
-- sections 2 to 8.
use Rattle.std.specs.Prelude.{◌≡◌, ◌<◌, ◌+◌, ℕ, Bool, true, ◌==◌, ◌&&◌, if◌then◌else◌, is_some, List, [], ◌∷◌, length, Option, None, option_map}
use Rattle.std.specs.List.{filter, list_all}
use Rattle.std.specs.Option.{option_map_or}
use Rattle.std.specs.Str.{is_utf8}
use Rattle.serde_json.specs.Data.{Data, array, object, Items, no_items, item, Members, no_members, member}
use Rattle.serde_json.specs.Read.{read}
use Rattle.serde_json.specs.Find.{get, as_number, as_str, as_array, as_object, as_u64}
use Rattle.oai_names.specs.Optional.{◌>>=◌, each_of}

-- ---- a text

-- the value of a JSON text in UTF-8 (RFC 8259, sections 2 and 8.1)
unfoldable pub json_in : List ℕ → Option Data
json_in text = if is_utf8 text then read text else None

-- the texts for which memory may be allocated: those in UTF-8, except the empty one
pub record TakesMemory (line : List ℕ) : Type 0 where
  pub text : is_utf8 line ≡ true
  pub some : 0 < length line

-- ---- arrays and objects

-- the elements of an array, in order
abbrev pub elements_in : Items → List Data
elements_in no_items = []
elements_in (item d ds) = d ∷ elements_in ds

-- the members of an object, each a name and a value, in the order of the names
abbrev pub members_in : Members → List (List ℕ × Data)
members_in no_members = []
members_in (member name d ms) = (name, d) ∷ members_in ms

-- a list as the elements of an array
abbrev pub items_of : List Data → Items
items_of [] = no_items
items_of (d ∷ ds) = item d (items_of ds)

-- a list as the members of an object
abbrev pub members_of : List (List ℕ × Data) → Members
members_of [] = no_members
members_of (m ∷ ms) = member m.0 m.1 (members_of ms)

-- the array of these values
abbrev pub array_of : List Data → Data
array_of ds = array (items_of ds)

-- the object with these members
abbrev pub object_of : List (List ℕ × Data) → Data
object_of ms = object (members_of ms)

-- how many members an object has; no other value has any
abbrev pub size : Data → ℕ
size d = option_map_or (λ ms. length (members_in ms)) (as_object d) 0

-- a member with each of these names
abbrev pub has_each : List (List ℕ) → Data → Bool
has_each names d = list_all (λ name. is_some (get name d)) names

-- an object with exactly these members, whose names are distinct
unfoldable pub has_members : List (List ℕ) → Data → Bool
has_members names d = (size d == length names) && has_each names d

-- those of the names of which the object has members
abbrev pub names_there : List (List ℕ) → Data → List (List ℕ)
names_there names d = filter (λ name. is_some (get name d)) names

-- an object with exactly these members and, of the others, those that it has; all the names are distinct
unfoldable pub has_members_and : List (List ℕ) → List (List ℕ) → Data → Bool
has_members_and names others d = (size d == length names + length (names_there others d)) && has_each names d

-- ---- a value of a kind, and a member of a kind

-- a list
unfoldable pub elements_of : Data → Option (List Data)
elements_of d = option_map elements_in (as_array d)

-- a string, as the member with that name
unfoldable pub text_at : List ℕ → Data → Option (List ℕ)
text_at name d = get name d >>= as_str

-- a number: none in it, if it is not of 64 bits, whole and not negative
unfoldable pub number_at : List ℕ → Data → Option (Option ℕ)
number_at name d = option_map as_u64 (get name d >>= as_number)

-- a list
unfoldable pub elements_at : List ℕ → Data → Option (List Data)
elements_at name d = get name d >>= elements_of

-- a list of strings
unfoldable pub texts_at : List ℕ → Data → Option (List (List ℕ))
texts_at name d = elements_at name d >>= each_of as_str
