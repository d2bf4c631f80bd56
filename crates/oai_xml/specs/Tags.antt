-- Tags: attributes with their values, start tags, end tags. XML 1.0 (fifth edition), sections 2.3, 2.11, 3.1 and 3.3.3.
use Rattle.std.specs.Prelude.{ℕ, zero, suc, Bool, ◌==◌, ◌||◌, List, [], ◌∷◌, ◌++◌, length, codes, Err, if◌then◌else◌}
use Rattle.oai_xml.specs.Trees.{Attribute}
use Rattle.oai_xml.specs.Readings.{Reading, Passing, ◌>>=◌, read, begins, past}
use Rattle.oai_xml.specs.Parts.{is_space, past_spaces, past_space, past_equals, qname_in, reference_in}

-- ---- values

-- a byte of a value: white space is read as a space (section 3.3.3)
abbrev pub value_byte : ℕ → ℕ
value_byte b = if is_space b then 32 else b

-- what is left of a value that is closed by that quote, in at most so many steps; there are no more steps than bytes.
-- [10] AttValue ::= '"' ([^<&"] | Reference)* '"' | "'" ([^<&'] | Reference)* "'"
unfoldable pub value_in : ℕ → ℕ → List ℕ → Reading (List ℕ)
value_in zero quote bytes = Err 0
value_in (suc steps) quote [] = Err 0
value_in (suc steps) quote (b ∷ bytes) =
    if b == quote then read [] bytes
    else (if b == 60 then Err (length (b ∷ bytes))
    else (if b == 38 then (reference_in bytes >>= λ r. value_in steps quote r.1 >>= λ v. read (r.0 ++ v.0) v.1)
    else (value_in steps quote bytes >>= λ v. read (value_byte b ∷ v.0) v.1)))

-- a value, from its first quote on
unfoldable pub quoted_in : List ℕ → Reading (List ℕ)
quoted_in [] = Err 0
quoted_in (b ∷ bytes) = if b == 34 || b == 39 then value_in (suc (length bytes)) b bytes else Err (length (b ∷ bytes))

-- ---- attributes

-- [41] Attribute ::= Name Eq AttValue, as [NS 15] Attribute ::= NSAttName Eq AttValue | QName Eq AttValue
unfoldable pub attribute_in : List ℕ → Reading Attribute
attribute_in bytes = qname_in bytes >>= λ n. past_equals n.1 >>= λ rest. quoted_in rest >>= λ v. read (record { name = n.0; value = v.0 }) v.1

-- S Attribute
unfoldable pub spaced_attribute_in : List ℕ → Reading Attribute
spaced_attribute_in bytes = past_space bytes >>= λ rest. attribute_in rest

-- what follows the attributes of a start tag
abbrev pub ends_tag : List ℕ → Bool
ends_tag bytes = begins (codes ">") bytes || begins (codes "/") bytes

-- (S Attribute)* S?, in at most so many steps
unfoldable pub attributes_in : ℕ → List ℕ → Reading (List Attribute)
attributes_in zero bytes = Err 0
attributes_in (suc steps) bytes =
    if ends_tag (past_spaces bytes) then read [] (past_spaces bytes)
    else (spaced_attribute_in bytes >>= λ a. attributes_in steps a.1 >>= λ more. read (a.0 ∷ more.0) more.1)

-- ---- tags

-- a start tag's name and attributes
pub record Start : Type 0 where
  pub name : List ℕ
  pub attributes : List Attribute

-- [NS 12] STag ::= '<' QName (S Attribute)* S? '>', [NS 14] EmptyElemTag ::= '<' QName (S Attribute)* S? '/>', behind the '<' and up to what closes it
unfoldable pub start_in : List ℕ → Reading Start
start_in bytes = qname_in bytes >>= λ n. attributes_in (suc (length n.1)) n.1 >>= λ a. read (record { name = n.0; attributes = a.0 }) a.1

-- [NS 13] ETag ::= '</' QName S? '>', behind the '</'. It has the name of its start tag (section 3, Element Type Match)
unfoldable pub end_in : List ℕ → List ℕ → Passing
end_in name bytes = past name bytes >>= λ rest. past (codes ">") (past_spaces rest)
