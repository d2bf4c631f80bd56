-- Elements and what stands in them. XML 1.0 (fifth edition), sections 2.4, 2.7 and 3.1.
use Rattle.std.specs.Prelude.{ℕ, zero, suc, ◌==◌, ◌-◌, ◌++◌, List, [], ◌∷◌, length, codes, Err, if◌then◌else◌}
use Rattle.oai_xml.specs.Trees.{Attribute, Content, Tree, nothing, followed_by, text_of, alone}
use Rattle.oai_xml.specs.Namespaces.{Scope, declared}
use Rattle.oai_xml.specs.Whole.{has_default, are_names_whole, names_of, within}
use Rattle.oai_xml.specs.Readings.{Reading, ◌>>=◌, read, begins, behind, past}
use Rattle.oai_xml.specs.Parts.{reference_in, comment_in, instruction_in, cdata_in}
use Rattle.oai_xml.specs.Tags.{Start, start_in, end_in}

-- ---- start tags in their scope

-- `xmlns=""` is added where no default namespace is in force, so in the root alone
unfoldable pub completion : Scope → List Attribute
completion scope = if has_default scope then [] else record { name = codes "xmlns"; value = [] } ∷ []

abbrev pub completed : Scope → List Attribute → List Attribute
completed scope attributes = attributes ++ completion (within scope attributes)

unfoldable pub completed_start : Scope → Start → Start
completed_start scope s = record { name = s.name; attributes = completed scope s.attributes }

-- a start tag that may stand in that scope, closed by what the bytes begin with. A fault of its namespaces or its size is there
unfoldable pub closed_start : Scope → Start → List ℕ → Reading Start
closed_start scope s bytes =
    if are_names_whole (within scope s.attributes) (declared s.attributes) s.name (names_of s.attributes) then read s bytes else Err (length bytes)

-- a start tag behind its '<', up to what closes it
unfoldable pub whole_start_in : Scope → List ℕ → Reading Start
whole_start_in scope bytes = start_in bytes >>= λ s. closed_start scope (completed_start scope s.0) s.1

-- ---- elements

-- what reads the content of an element, and the '</' behind it: where so many levels of elements may still come, and within that scope
abbrev pub ReadsContent : Type 0
ReadsContent = ℕ → Scope → List ℕ → Reading Content

-- from what closes the start tag on: content and end tag, or '/>'
unfoldable pub inside_in : ReadsContent → ℕ → Scope → List ℕ → List ℕ → Reading Content
inside_in content levels scope name bytes =
    if begins (codes "/") bytes then (past (codes "/>") bytes >>= λ rest. read nothing rest)
    else (past (codes ">") bytes >>= λ rest. content levels scope rest >>= λ c. end_in name c.1 >>= λ rest. read c.0 rest)

-- [39] element ::= EmptyElemTag | STag content ETag, behind its '<'
unfoldable pub element_in : ReadsContent → ℕ → Scope → List ℕ → Reading Tree
element_in content levels scope bytes =
    if levels == 0 then Err (length bytes)
    else (whole_start_in scope bytes >>= λ s.
    inside_in content (levels - 1) (within scope s.0.attributes) s.0.name s.1 >>= λ c.
    read (record { name = s.0.name; attributes = s.0.attributes; content = c.0 }) c.1)

-- ---- content

-- behind '<', where '!-' stands: a comment, which is left out
unfoldable pub left_out_comment_in : List ℕ → Reading Content
left_out_comment_in bytes = past (codes "!--") bytes >>= λ rest. comment_in rest >>= λ rest. read nothing rest

-- [18] CDSect ::= CDStart CData CDEnd, behind its '<'
unfoldable pub cdata_section_in : List ℕ → Reading (List ℕ)
cdata_section_in bytes = past (codes "![CDATA[") bytes >>= λ rest. cdata_in rest

-- behind '<', where '!' stands: a comment, or CDATA, which is text
unfoldable pub section_in : List ℕ → Reading Content
section_in bytes = if begins (codes "!-") bytes then left_out_comment_in bytes else (cdata_section_in bytes >>= λ t. read (text_of t.0) t.1)

-- behind '<', where '?' stands: an instruction, which is left out
unfoldable pub left_out_in : List ℕ → Reading Content
left_out_in bytes = past (codes "?") bytes >>= λ rest. instruction_in rest >>= λ rest. read nothing rest

-- behind '<': one of these, or an element
unfoldable pub markup_in : ReadsContent → ℕ → Scope → List ℕ → Reading Content
markup_in content levels scope bytes =
    if begins (codes "!") bytes then section_in bytes
    else (if begins (codes "?") bytes then left_out_in bytes
    else (element_in content levels scope bytes >>= λ e. read (alone e.0) e.1))

-- [14] CharData ::= [^<&]* - ([^<&]* ']]>' [^<&]*), a byte at a time: the fault is at the '>'
unfoldable pub character_in : List ℕ → Reading Content
character_in [] = Err 0
character_in (b ∷ bytes) = if begins (codes "]]>") (b ∷ bytes) then Err (length bytes - 1) else read (text_of (b ∷ [])) bytes

-- one piece of content
unfoldable pub piece_in : ReadsContent → ℕ → Scope → List ℕ → Reading Content
piece_in content levels scope bytes =
    if begins (codes "<") bytes then markup_in content levels scope (behind (codes "<") bytes)
    else (if begins (codes "&") bytes then (reference_in (behind (codes "&") bytes) >>= λ r. read (text_of r.0) r.1)
    else character_in bytes)

-- [43] content ::= CharData? ((element | Reference | CDSect | PI | Comment) CharData?)*, and the '</' behind it, in at most so many steps
unfoldable pub content_in : ℕ → ReadsContent
content_in zero levels scope bytes = Err 0
content_in (suc steps) levels scope bytes =
    if begins (codes "</") bytes then read nothing (behind (codes "</") bytes)
    else (piece_in (content_in steps) levels scope bytes >>= λ p. content_in steps levels scope p.1 >>= λ more. read (followed_by p.0 more.0) more.1)
