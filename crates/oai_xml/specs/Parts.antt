-- Parts of a document: white space, names, references, comments and processing instructions. XML 1.0 (fifth edition), sections 2.3 to 2.7
-- and 4.1; the number of each production stands before it, with NS where it is one of Namespaces in XML 1.0 (third edition).
use Rattle.std.specs.Prelude.{ℕ, Bool, ◌==◌, ◌||◌, ◌&&◌, ◌+◌, ◌*◌, not, nat_le, nat_lt, List, [], ◌∷◌, length, take, drop, codes, Ok, Err, if◌then◌else◌}
use Rattle.std.specs.List.{prefix_len}
use Rattle.std.specs.Char.{digit_value, encode_utf8}
use Rattle.std.specs.Str.{str_eq_ignore_ascii_case}
use Rattle.oai_names.specs.Characters.{is_xml_char}
use Rattle.oai_xml.specs.QNames.{is_name_byte, is_qname, is_ncname}
use Rattle.oai_xml.specs.Readings.{Reading, Passing, ◌>>=◌, read, begins, behind, past, up_to}

-- ---- white space

-- [3] S ::= (#x20 | #x9 | #xD | #xA)+
abbrev pub is_space : ℕ → Bool
is_space b = b == 32 || b == 9 || b == 13 || b == 10

-- S?
unfoldable pub past_spaces : List ℕ → List ℕ
past_spaces [] = []
past_spaces (b ∷ bytes) = if is_space b then past_spaces bytes else b ∷ bytes

-- S
unfoldable pub past_space : List ℕ → Passing
past_space bytes = if length (past_spaces bytes) == length bytes then Err (length bytes) else Ok (past_spaces bytes)

-- [25] Eq ::= S? '=' S?
unfoldable pub past_equals : List ℕ → Passing
past_equals bytes = past (codes "=") (past_spaces bytes) >>= λ rest. Ok (past_spaces rest)

-- ---- names. A name is refused where it begins

-- a name that passes the test: all the bytes here that names may hold
unfoldable pub name_in : (List ℕ → Bool) → List ℕ → Reading (List ℕ)
name_in passes bytes =
    let n = prefix_len is_name_byte bytes in
    if passes (take n bytes) then read (take n bytes) (drop n bytes) else Err (length bytes)

-- [NS 7] QName
abbrev pub qname_in : List ℕ → Reading (List ℕ)
qname_in bytes = name_in is_qname bytes

-- [17] PITarget ::= Name - (('X' | 'x') ('M' | 'm') ('L' | 'l')), with no colon (Namespaces, section 7)
abbrev pub is_target : List ℕ → Bool
is_target name = is_ncname name && not (str_eq_ignore_ascii_case name (codes "xml"))

-- ---- references, behind their `&`. What is read is the bytes of the character

-- the digits of a number, of which those so far have that value, a `;`, and the character of that number (section 4.1, Legal Character)
unfoldable pub digits_in : ℕ → ℕ → List ℕ → Reading (List ℕ)
digits_in base value [] = Err 0
digits_in base value (b ∷ bytes) =
    if b == 59 then (if is_xml_char value then read (encode_utf8 value) bytes else Err (length (b ∷ bytes)))
    else (if nat_lt (digit_value b) base && nat_le (value * base + digit_value b) 0x10FFFF then digits_in base (value * base + digit_value b) bytes
    else Err (length (b ∷ bytes)))

-- [66] CharRef ::= '&#' [0-9]+ ';' | '&#x' [0-9a-fA-F]+ ';'
unfoldable pub char_ref_in : List ℕ → Reading (List ℕ)
char_ref_in bytes = if begins (codes "x") bytes then digits_in 16 0 (behind (codes "x") bytes) else digits_in 10 0 bytes

-- [68] EntityRef ::= '&' Name ';', of the five names that need no declaration (section 4.6)
unfoldable pub entity_in : List ℕ → Reading (List ℕ)
entity_in bytes =
    if begins (codes "lt;") bytes then read (codes "<") (behind (codes "lt;") bytes)
    else (if begins (codes "gt;") bytes then read (codes ">") (behind (codes "gt;") bytes)
    else (if begins (codes "amp;") bytes then read (codes "&") (behind (codes "amp;") bytes)
    else (if begins (codes "apos;") bytes then read (codes "'") (behind (codes "apos;") bytes)
    else (if begins (codes "quot;") bytes then read (34 ∷ []) (behind (codes "quot;") bytes)
    else Err (length bytes)))))

-- [67] Reference ::= EntityRef | CharRef
unfoldable pub reference_in : List ℕ → Reading (List ℕ)
reference_in bytes = if begins (codes "#") bytes then char_ref_in (behind (codes "#") bytes) else entity_in bytes

-- ---- comments and processing instructions, which are left out

-- [15] Comment ::= '<!--' ((Char - '-') | ('-' (Char - '-')))* '-->', behind its `<!--`
unfoldable pub comment_in : List ℕ → Passing
comment_in bytes = up_to (codes "--") bytes >>= λ r. past (codes ">") r.1

-- a processing instruction, behind its target
unfoldable pub instruction_end_in : List ℕ → Passing
instruction_end_in bytes =
    if begins (codes "?") bytes then past (codes "?>") bytes
    else (past_space bytes >>= λ rest. up_to (codes "?>") rest >>= λ r. Ok r.1)

-- [16] PI ::= '<?' PITarget (S (Char* - (Char* '?>' Char*)))? '?>', behind its `<?`
unfoldable pub instruction_in : List ℕ → Passing
instruction_in bytes = name_in is_target bytes >>= λ r. instruction_end_in r.1

-- ---- character data

-- [20] CData ::= (Char* - (Char* ']]>' Char*)), [21] CDEnd ::= ']]>', behind the '<![CDATA[' of [19] CDStart
abbrev pub cdata_in : List ℕ → Reading (List ℕ)
cdata_in bytes = up_to (codes "]]>") bytes
