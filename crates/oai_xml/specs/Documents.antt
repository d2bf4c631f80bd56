-- A text that is the document of one element, with no document type; its tree, and its canonical text. XML 1.0 (fifth edition), sections 2.1, 2.2,
-- 2.8, 2.9, 2.11 and 4.3.3.
use Rattle.std.specs.Prelude.{ℕ, zero, suc, Bool, true, false, ◌==◌, ◌||◌, ◌&&◌, ◌+◌, ◌-◌, not, List, [], ◌∷◌, length, take, drop, codes, Option, Result, Ok, Err, if◌then◌else◌}
use Rattle.std.specs.List.{prefix_len}
use Rattle.std.specs.Result.{result_ok}
use Rattle.std.specs.Char.{is_ascii_digit, len_utf8}
use Rattle.std.specs.Str.{bytes_eq, chars, is_utf8, str_eq_ignore_ascii_case}
use Rattle.oai_names.specs.Characters.{is_xml_char, is_xml_text}
use Rattle.oai_xml.specs.Trees.{Tree, spelled}
use Rattle.oai_xml.specs.Readings.{Reading, Passing, ◌>>=◌, read, begins, behind, past}
use Rattle.oai_xml.specs.Parts.{past_spaces, past_space, past_equals, comment_in, instruction_in}
use Rattle.oai_xml.specs.Contents.{element_in, content_in}
use Rattle.oai_xml.specs.declared.limits.TheConstants.{MAX_DEPTH}

-- ---- the XML declaration

-- the quote that stands here
unfoldable pub quote_in : List ℕ → Reading ℕ
quote_in [] = Err 0
quote_in (b ∷ bytes) = if b == 34 || b == 39 then read b bytes else Err (length (b ∷ bytes))

-- S, a name, Eq and a quote, which is what is read
unfoldable pub pseudo_attribute_in : List ℕ → List ℕ → Reading ℕ
pseudo_attribute_in name bytes = past_space bytes >>= λ start. past name start >>= λ equals. past_equals equals >>= λ quoted. quote_in quoted

-- [26] VersionNum ::= '1.' [0-9]+
unfoldable pub version_number_in : List ℕ → Passing
version_number_in bytes = past (codes "1.") bytes >>= λ rest.
    if prefix_len is_ascii_digit rest == 0 then Err (length rest) else Ok (drop (prefix_len is_ascii_digit rest) rest)

-- [24] VersionInfo ::= S 'version' Eq ("'" VersionNum "'" | '"' VersionNum '"')
unfoldable pub version_in : List ℕ → Passing
version_in bytes = pseudo_attribute_in (codes "version") bytes >>= λ q. version_number_in q.1 >>= λ rest. past (q.0 ∷ []) rest

-- the one encoding of texts, whatever the case of its letters
unfoldable pub utf_8_in : List ℕ → Passing
utf_8_in bytes = if str_eq_ignore_ascii_case (take 5 bytes) (codes "UTF-8") then Ok (drop 5 bytes) else Err (length bytes)

-- [80] EncodingDecl ::= S 'encoding' Eq ('"' EncName '"' | "'" EncName "'"), or nothing
unfoldable pub encoding_in : List ℕ → Passing
encoding_in bytes =
    if not (begins (codes "encoding") (past_spaces bytes)) then Ok bytes
    else (pseudo_attribute_in (codes "encoding") bytes >>= λ q. utf_8_in q.1 >>= λ rest. past (q.0 ∷ []) rest)

-- 'yes' | 'no'
unfoldable pub yes_or_no_in : List ℕ → Passing
yes_or_no_in bytes = if begins (codes "y") bytes then past (codes "yes") bytes else past (codes "no") bytes

-- [32] SDDecl ::= S 'standalone' Eq (("'" ('yes' | 'no') "'") | ('"' ('yes' | 'no') '"')), or nothing
unfoldable pub standalone_in : List ℕ → Passing
standalone_in bytes =
    if not (begins (codes "standalone") (past_spaces bytes)) then Ok bytes
    else (pseudo_attribute_in (codes "standalone") bytes >>= λ q. yes_or_no_in q.1 >>= λ rest. past (q.0 ∷ []) rest)

-- [23] XMLDecl ::= '<?xml' VersionInfo EncodingDecl? SDDecl? S? '?>', behind the '<?xml'
unfoldable pub declaration_in : List ℕ → Passing
declaration_in bytes = version_in bytes >>= λ rest. encoding_in rest >>= λ rest. standalone_in rest >>= λ rest. past (codes "?>") (past_spaces rest)

-- white space stands here
abbrev pub begins_spaces : List ℕ → Bool
begins_spaces bytes = not (length (past_spaces bytes) == length bytes)

-- XMLDecl?: white space follows its name
unfoldable pub opening_in : List ℕ → Passing
opening_in bytes =
    if begins (codes "<?xml") bytes && begins_spaces (behind (codes "<?xml") bytes) then declaration_in (behind (codes "<?xml") bytes) else Ok bytes

-- ---- the document

-- a comment, and a processing instruction, from the first byte on
unfoldable pub whole_comment_in : List ℕ → Passing
whole_comment_in bytes = past (codes "<!--") bytes >>= λ rest. comment_in rest

unfoldable pub whole_instruction_in : List ℕ → Passing
whole_instruction_in bytes = past (codes "<?") bytes >>= λ rest. instruction_in rest

-- [27] Misc ::= Comment | PI | S, any number of them, in at most so many steps
unfoldable pub misc_in : ℕ → List ℕ → Passing
misc_in zero bytes = Err 0
misc_in (suc steps) bytes =
    if begins (codes "<!") (past_spaces bytes) then (whole_comment_in (past_spaces bytes) >>= λ rest. misc_in steps rest)
    else (if begins (codes "<?") (past_spaces bytes) then (whole_instruction_in (past_spaces bytes) >>= λ rest. misc_in steps rest)
    else Ok (past_spaces bytes))

-- the root: an element of at most so many levels, in no scope
abbrev pub root_in : List ℕ → Reading Tree
root_in bytes = element_in (content_in (suc (length bytes))) MAX_DEPTH [] bytes

-- [22] prolog ::= XMLDecl? Misc*, with no document type, and the '<' of the root
unfoldable pub prolog_in : List ℕ → Passing
prolog_in bytes = opening_in bytes >>= λ rest. misc_in (suc (length rest)) rest >>= λ rest. past (codes "<") rest

-- Misc*, and then the end
unfoldable pub tail_in : List ℕ → Passing
tail_in bytes = misc_in (suc (length bytes)) bytes >>= λ rest. if length rest == 0 then Ok [] else Err (length rest)

-- [1] document ::= prolog element Misc*
unfoldable pub document_in : List ℕ → Result Tree ℕ
document_in bytes = prolog_in bytes >>= λ rest. root_in rest >>= λ e. tail_in e.1 >>= λ end. Ok e.0

-- ---- the text

-- the bytes of the characters up to the first that XML does not allow (section 2.2)
unfoldable pub legal_len : List ℕ → ℕ
legal_len [] = 0
legal_len (c ∷ cs) = if is_xml_char c then len_utf8 c + legal_len cs else 0

abbrev pub legal_front : List ℕ → List ℕ
legal_front text = take (legal_len (chars text)) text

-- CR LF, and a CR that no LF follows, are read as LF (section 2.11); `cr` says whether a CR stood before
unfoldable pub lines : Bool → List ℕ → List ℕ
lines cr [] = []
lines cr (b ∷ bytes) =
    if b == 13 then 10 ∷ lines true bytes
    else (if cr && b == 10 then lines false bytes else b ∷ lines false bytes)

abbrev pub normalized : List ℕ → List ℕ
normalized text = lines false text

-- how many bytes of a text stand before those of which, so normalized, there are n
unfoldable pub origin : Bool → List ℕ → ℕ → ℕ
origin cr [] n = 0
origin cr (b ∷ bytes) n =
    if cr && b == 10 then 1 + origin false bytes n
    else (if n == 0 then 0 else 1 + origin (b == 13) bytes (n - 1))

-- a fault of the normalized text, of which so many bytes are left, by its place in the text itself
unfoldable pub place_of : List ℕ → ℕ → ℕ
place_of text left = origin false text (length (normalized text) - left)

abbrev pub with_fault_place : {A : Type 0} → List ℕ → Result A ℕ → Result A ℕ
with_fault_place text (Ok a) = Ok a
with_fault_place text (Err left) = Err (place_of text left)

-- the tree's spelling is a text of XML's characters, as that of each tree is that is read of such a text
abbrev pub is_spelled_text : Tree → Bool
is_spelled_text tree = is_utf8 (spelled tree) && is_xml_text (spelled tree)

-- the tree, if that is so, and if all of the text was read: what was read is the front up to the first illegal character
unfoldable pub accepted_tree : List ℕ → Tree → Result Tree ℕ
accepted_tree text tree = if legal_len (chars text) == length text && is_spelled_text tree then Ok tree else Err (legal_len (chars text))

-- the tree of a text, or the place of its first fault: the byte from which on no bytes could make it one; of an illegal character, a name or an
-- entity its first byte; of the namespaces or the size of a start tag the byte that closes it
unfoldable pub element_of : List ℕ → Result Tree ℕ
element_of text = with_fault_place (legal_front text) (document_in (normalized (legal_front text))) >>= λ tree. accepted_tree text tree

-- the canonical text of a text, or the place of its first fault
unfoldable pub canonical : List ℕ → Result (List ℕ) ℕ
canonical text = element_of text >>= λ tree. Ok (spelled tree)

-- the same, if the text is an element
abbrev pub canonical_in : List ℕ → Option (List ℕ)
canonical_in text = result_ok (canonical text)

-- the tree of a text, if it is one
unfoldable pub tree_in : List ℕ → Option Tree
tree_in text = result_ok (element_of text)

-- the reading is a canonical text, and it is this text
abbrev pub is_read_as : List ℕ → Result (List ℕ) ℕ → Bool
is_read_as text (Ok element) = bytes_eq element text
is_read_as text (Err offset) = false

-- `IsElement` as a test: the text is its own canonical text
unfoldable pub is_canonical : List ℕ → Bool
is_canonical text = is_read_as text (canonical text)
