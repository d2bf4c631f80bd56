-- What is read is whole.
use Rattle.std.proofs.Common.{◌≡◌, ◌∙◌, ◌-◌, ℕ, zero, suc, Bool, true, false, ◌&&◌, not, cond, eqb, List, [], ◌∷◌, ◌++◌, Result, Ok, Err, length, take, drop, refl, sym, ap}
use Rattle.std.specs.Prelude.{codes}
use Rattle.std.specs.List.{list_all, prefix_len}
use Rattle.std.proofs.lemmas.Bool.{and_from, and_parts, not_from_false}
use Rattle.oai_xml.specs.Readings.{◌>>=◌, read, begins, behind, past}
use Rattle.oai_xml.specs.QNames.{is_qname, is_name_byte, prefix_of, local_of}
use Rattle.oai_xml.specs.Parts.{name_in, qname_in, past_spaces, past_space, past_equals, reference_in, comment_in, instruction_in}
use Rattle.oai_xml.specs.Tags.{Start, quoted_in, attribute_in, spaced_attribute_in, ends_tag, attributes_in, start_in, end_in}
use Rattle.oai_xml.specs.Trees.{Attribute, Content, Tree, nothing, byte, element, followed_by, text_of, alone}
use Rattle.oai_xml.specs.Namespaces.{Scope, declared}
use Rattle.oai_xml.specs.Whole.{names_of, within, has_default, are_names_whole, is_tag_whole, is_content_whole, is_whole_in}
use Rattle.oai_xml.specs.Contents.{ReadsContent, completion, completed, completed_start, closed_start, whole_start_in, inside_in, element_in, section_in, left_out_in, left_out_comment_in, cdata_section_in, markup_in, character_in, piece_in, content_in}
use Rattle.oai_xml.proofs.NameLemmas.{ascii_ncname}
use Rattle.oai_xml.proofs.AttributeLemmas.{names_cat}

-- ---- what a reading that succeeds went through

-- what was read, or a fault, of that type
abbrev pub ok_of : {A : Type 0} → A → Result A ℕ
ok_of a = Ok a

abbrev pub fault_of : {A : Type 0} → ℕ → Result A ℕ
fault_of left = Err left

pub no_ok : {A : Type 0} (n : ℕ) (b : A) → fault_of {A = A} n ≡ ok_of b → ⊥
no_ok n b is = cc

pub same_ok : {A : Type 0} (a b : A) → ok_of a ≡ ok_of b → a ≡ b
same_ok a b is = cc

pub bound_ok : {A B : Type 0} (r : Result A ℕ) (f : A → Result B ℕ) (b : B) → (r >>= f) ≡ Ok b → (a : A) × (r ≡ Ok a) × (f a ≡ Ok b)
bound_ok (Ok a) f b is = (a, refl, is)
bound_ok (Err left) f b is = absurd (no_ok left b is)

pub if_ok : {B : Type 0} (t : Bool) (x : Result B ℕ) (left : ℕ) (b : B) → cond t x (Err left) ≡ Ok b → (t ≡ true) × (x ≡ Ok b)
if_ok true x left b is = (refl, is)
if_ok false x left b is = absurd (no_ok left b is)

unless_ok : {B : Type 0} (t : Bool) (x : Result B ℕ) (left : ℕ) (b : B) → cond t (Err left) x ≡ Ok b → (t ≡ false) × (x ≡ Ok b)
unless_ok true x left b is = absurd (no_ok left b is)
unless_ok false x left b is = (refl, is)

-- a fact of what is read, on either way
either_ok : {B : Type 0} (P : B → Type 0) (t : Bool) (x y : Result B ℕ) (b : B) → cond t x y ≡ Ok b → (x ≡ Ok b → P b) → (y ≡ Ok b → P b) → P b
either_ok P true x y b is first second = first is
either_ok P false x y b is first second = second is

pub same_read : {A : Type 0} (a c : A × List ℕ) → ok_of a ≡ ok_of c → a ≡ c
same_read a c is = cc

-- ---- names

name_read : (passes : List ℕ → Bool) (bytes : List ℕ) (n : List ℕ × List ℕ) → name_in passes bytes ≡ Ok n → passes n.0 ≡ true
unfolding name_in
name_read passes bytes n is =
    let ok = if_ok (passes (take (prefix_len is_name_byte bytes) bytes)) (read (take (prefix_len is_name_byte bytes) bytes) (drop (prefix_len is_name_byte bytes) bytes)) (length bytes) n is in
    ap (λ (w : List ℕ × List ℕ). passes w.0) (sym (same_read (take (prefix_len is_name_byte bytes) bytes, drop (prefix_len is_name_byte bytes) bytes) n ok.1)) ∙ ok.0

-- ---- attributes

attribute_named : (bytes : List ℕ) (a : Attribute × List ℕ) → attribute_in bytes ≡ Ok a → is_qname a.0.name ≡ true
unfolding attribute_in
attribute_named bytes a is =
    let n = bound_ok (qname_in bytes) (λ n. past_equals n.1 >>= λ rest. quoted_in rest >>= λ v. read (record { name = n.0; value = v.0 }) v.1) a is in
    let e = bound_ok (past_equals n.0.1) (λ rest. quoted_in rest >>= λ v. read (record { name = n.0.0; value = v.0 }) v.1) a n.2 in
    let v = bound_ok (quoted_in e.0) (λ v. read (record { name = n.0.0; value = v.0 }) v.1) a e.2 in
    ap (λ (w : Attribute × List ℕ). is_qname w.0.name) (sym (same_read (record { name = n.0.0; value = v.0.0 }, v.0.1) a v.2)) ∙ name_read is_qname bytes n.0 n.1

spaced_named : (bytes : List ℕ) (a : Attribute × List ℕ) → spaced_attribute_in bytes ≡ Ok a → is_qname a.0.name ≡ true
unfolding spaced_attribute_in
spaced_named bytes a is = let s = bound_ok (past_space bytes) attribute_in a is in attribute_named s.0 a s.2

all_named : (steps : ℕ) (bytes : List ℕ) (a : List Attribute × List ℕ) → attributes_in steps bytes ≡ Ok a → list_all is_qname (names_of a.0) ≡ true
unfolding attributes_in
all_named zero bytes a is = absurd (no_ok 0 a is)
all_named (suc steps) bytes a is =
    either_ok (λ a. list_all is_qname (names_of a.0) ≡ true) (ends_tag (past_spaces bytes)) (read [] (past_spaces bytes))
    (spaced_attribute_in bytes >>= λ a. attributes_in steps a.1 >>= λ more. read (a.0 ∷ more.0) more.1) a is
    (λ none. ap (λ (w : List Attribute × List ℕ). list_all is_qname (names_of w.0)) (sym (same_read ([], past_spaces bytes) a none)))
    (λ some.
    let one = bound_ok (spaced_attribute_in bytes) (λ a. attributes_in steps a.1 >>= λ more. read (a.0 ∷ more.0) more.1) a some in
    let more = bound_ok (attributes_in steps one.0.1) (λ more. read (one.0.0 ∷ more.0) more.1) a one.2 in
    ap (λ (w : List Attribute × List ℕ). list_all is_qname (names_of w.0)) (sym (same_read (one.0.0 ∷ more.0.0, more.0.1) a more.2))
    ∙ and_from (is_qname one.0.0.name) (list_all is_qname (names_of more.0.0)) (spaced_named bytes one.0 one.1) (all_named steps one.0.1 more.0 more.1))

-- ---- start tags

start_named : (bytes : List ℕ) (s : Start × List ℕ) → start_in bytes ≡ Ok s → (is_qname s.0.name ≡ true) × (list_all is_qname (names_of s.0.attributes) ≡ true)
unfolding start_in
start_named bytes s is =
    let n = bound_ok (qname_in bytes) (λ n. attributes_in (suc (length n.1)) n.1 >>= λ a. read (record { name = n.0; attributes = a.0 }) a.1) s is in
    let a = bound_ok (attributes_in (suc (length n.0.1)) n.0.1) (λ a. read (record { name = n.0.0; attributes = a.0 }) a.1) s n.2 in
    let same = same_read (record { name = n.0.0; attributes = a.0.0 }, a.0.1) s a.2 in (
      ap (λ (w : Start × List ℕ). is_qname w.0.name) (sym same) ∙ name_read is_qname bytes n.0 n.1,
      ap (λ (w : Start × List ℕ). list_all is_qname (names_of w.0.attributes)) (sym same) ∙ all_named (suc (length n.0.1)) n.0.1 a.0 a.1,
    )

xmlns_named : is_qname (codes "xmlns") ≡ true
unfolding is_qname local_of prefix_of
xmlns_named = ascii_ncname (codes "xmlns") refl

completion_named : (scope : Scope) → list_all is_qname (names_of (completion scope)) ≡ true
unfolding completion
completion_named scope = by_test (has_default scope)
  where
    by_test : (t : Bool) → list_all is_qname (names_of (cond t [] (record { name = codes "xmlns"; value = [] } ∷ []))) ≡ true
    by_test true = refl
    by_test false = and_from (is_qname (codes "xmlns")) true xmlns_named refl

all_cat : (p : List ℕ → Bool) (xs ys : List (List ℕ)) → list_all p xs ≡ true → list_all p ys ≡ true → list_all p (xs ++ ys) ≡ true
all_cat p [] ys first second = second
all_cat p (x ∷ xs) ys first second = let parts = and_parts (p x) (list_all p xs) first in and_from (p x) (list_all p (xs ++ ys)) parts.0 (all_cat p xs ys parts.1 second)

completed_named : (scope : Scope) (attributes : List Attribute) → list_all is_qname (names_of attributes) ≡ true → list_all is_qname (names_of (completed scope attributes)) ≡ true
completed_named scope attributes all =
    ap (list_all is_qname) (names_cat attributes (completion (within scope attributes)))
    ∙ all_cat is_qname (names_of attributes) (names_of (completion (within scope attributes))) all (completion_named (within scope attributes))

closed_read : (scope : Scope) (s : Start) (bytes : List ℕ) (r : Start × List ℕ) → closed_start scope s bytes ≡ Ok r
    → (are_names_whole (within scope s.attributes) (declared s.attributes) s.name (names_of s.attributes) ≡ true) × (s ≡ r.0)
unfolding closed_start
closed_read scope s bytes r is =
    let ok = if_ok (are_names_whole (within scope s.attributes) (declared s.attributes) s.name (names_of s.attributes)) (read s bytes) (length bytes) r is in
    (ok.0, ap (λ (w : Start × List ℕ). w.0) (same_read (s, bytes) r ok.1))

tag_of : (scope : Scope) (s : Start) → is_qname s.name ≡ true → list_all is_qname (names_of s.attributes) ≡ true
    → are_names_whole (within scope s.attributes) (declared s.attributes) s.name (names_of s.attributes) ≡ true → is_tag_whole scope s.name s.attributes ≡ true
unfolding is_tag_whole
tag_of scope s named all whole =
    and_from (is_qname s.name && list_all is_qname (names_of s.attributes)) (are_names_whole (within scope s.attributes) (declared s.attributes) s.name (names_of s.attributes))
    (and_from (is_qname s.name) (list_all is_qname (names_of s.attributes)) named all) whole

completed_parts : (scope : Scope) (s : Start) → is_qname s.name ≡ true → list_all is_qname (names_of s.attributes) ≡ true
    → (is_qname (completed_start scope s).name ≡ true) × (list_all is_qname (names_of (completed_start scope s).attributes) ≡ true)
unfolding completed_start
completed_parts scope s named all = (named, completed_named scope s.attributes all)

pub start_whole : (scope : Scope) (bytes : List ℕ) (s : Start × List ℕ) → whole_start_in scope bytes ≡ Ok s → is_tag_whole scope s.0.name s.0.attributes ≡ true
unfolding whole_start_in
start_whole scope bytes s is =
    let r = bound_ok (start_in bytes) (λ s. closed_start scope (completed_start scope s.0) s.1) s is in
    let named = start_named bytes r.0 r.1 in
    let parts = completed_parts scope r.0.0 named.0 named.1 in
    let closed = closed_read scope (completed_start scope r.0.0) r.0.1 s r.2 in
    ap (λ (w : Start). is_tag_whole scope w.name w.attributes) (sym closed.1) ∙ tag_of scope (completed_start scope r.0.0) parts.0 parts.1 closed.0

-- ---- contents

-- whatever reads content reads what is whole
pub record ReadsWhole (content : ReadsContent) : Type 0 where
  pub whole : (levels : ℕ) (scope : Scope) (bytes : List ℕ) (c : Content × List ℕ) → content levels scope bytes ≡ Ok c → is_content_whole levels scope c.0 ≡ true

nothing_whole : (levels : ℕ) (scope : Scope) → is_content_whole levels scope nothing ≡ true
unfolding is_content_whole
nothing_whole levels scope = refl

text_whole : (levels : ℕ) (scope : Scope) (text : List ℕ) → is_content_whole levels scope (text_of text) ≡ true
unfolding is_content_whole text_of
text_whole levels scope [] = refl
text_whole levels scope (b ∷ text) = text_whole levels scope text

followed_whole : (levels : ℕ) (scope : Scope) (a b : Content) → is_content_whole levels scope a ≡ true → is_content_whole levels scope b ≡ true → is_content_whole levels scope (followed_by a b) ≡ true
unfolding is_content_whole followed_by
followed_whole levels scope nothing b first second = second
followed_whole levels scope (byte x rest) b first second = followed_whole levels scope rest b first second
followed_whole levels scope (element n a i rest) b first second =
    let front : Bool = not (eqb levels 0) && is_tag_whole scope n a && is_content_whole (levels - 1) (within scope a) i in
    let parts = and_parts front (is_content_whole levels scope rest) first in
    and_from front (is_content_whole levels scope (followed_by rest b)) parts.0 (followed_whole levels scope rest b parts.1 second)

alone_whole : (levels : ℕ) (scope : Scope) (t : Tree) → is_whole_in levels scope t ≡ true → is_content_whole levels scope (alone t) ≡ true
unfolding is_content_whole is_whole_in
alone_whole levels scope t is = and_from (not (eqb levels 0) && is_tag_whole scope t.name t.attributes && is_content_whole (levels - 1) (within scope t.attributes) t.content) true is refl

inside_whole : (content : ReadsContent) → ReadsWhole content → (levels : ℕ) (scope : Scope) (name bytes : List ℕ) (c : Content × List ℕ) → inside_in content levels scope name bytes ≡ Ok c
    → is_content_whole levels scope c.0 ≡ true
unfolding inside_in
inside_whole content reads levels scope name bytes c is =
    either_ok (λ c. is_content_whole levels scope c.0 ≡ true) (begins (codes "/") bytes) (past (codes "/>") bytes >>= λ rest. read nothing rest)
    (past (codes ">") bytes >>= λ rest. content levels scope rest >>= λ c. end_in name c.1 >>= λ rest. read c.0 rest) c is
    (λ empty.
    let r = bound_ok (past (codes "/>") bytes) (λ rest. read nothing rest) c empty in
    ap (λ (w : Content × List ℕ). is_content_whole levels scope w.0) (sym (same_read (nothing, r.0) c r.2)) ∙ nothing_whole levels scope)
    (λ full.
    let r = bound_ok (past (codes ">") bytes) (λ rest. content levels scope rest >>= λ c. end_in name c.1 >>= λ rest. read c.0 rest) c full in
    let i = bound_ok (content levels scope r.0) (λ c. end_in name c.1 >>= λ rest. read c.0 rest) c r.2 in
    let e = bound_ok (end_in name i.0.1) (λ rest. read i.0.0 rest) c i.2 in
    ap (λ (w : Content × List ℕ). is_content_whole levels scope w.0) (sym (same_read (i.0.0, e.0) c e.2)) ∙ reads.whole levels scope r.0 i.0 i.1)

tree_whole : (levels : ℕ) (scope : Scope) (n : List ℕ) (a : List Attribute) (c : Content) → eqb levels 0 ≡ false → is_tag_whole scope n a ≡ true → is_content_whole (levels - 1) (within scope a) c ≡ true
    → is_whole_in levels scope (record { name = n; attributes = a; content = c }) ≡ true
unfolding is_whole_in
tree_whole levels scope n a c some tag inside =
    and_from (not (eqb levels 0) && is_tag_whole scope n a) (is_content_whole (levels - 1) (within scope a) c)
    (and_from (not (eqb levels 0)) (is_tag_whole scope n a) (not_from_false (eqb levels 0) some) tag) inside

pub element_whole_read : (content : ReadsContent) → ReadsWhole content → (levels : ℕ) (scope : Scope) (bytes : List ℕ) (e : Tree × List ℕ) → element_in content levels scope bytes ≡ Ok e
    → is_whole_in levels scope e.0 ≡ true
unfolding element_in
element_whole_read content reads levels scope bytes e is =
    let ok = unless_ok (eqb levels 0) (whole_start_in scope bytes >>= λ s.
    inside_in content (levels - 1) (within scope s.0.attributes) s.0.name s.1 >>= λ c.
    read (record { name = s.0.name; attributes = s.0.attributes; content = c.0 }) c.1) (length bytes) e is in
    let s = bound_ok (whole_start_in scope bytes) (λ s. inside_in content (levels - 1) (within scope s.0.attributes) s.0.name s.1 >>= λ c.
    read (record { name = s.0.name; attributes = s.0.attributes; content = c.0 }) c.1) e ok.1 in
    let c = bound_ok (inside_in content (levels - 1) (within scope s.0.0.attributes) s.0.0.name s.0.1)
    (λ c. read (record { name = s.0.0.name; attributes = s.0.0.attributes; content = c.0 }) c.1) e s.2 in
    ap (λ (w : Tree × List ℕ). is_whole_in levels scope w.0) (sym (same_read (record { name = s.0.0.name; attributes = s.0.0.attributes; content = c.0.0 }, c.0.1) e c.2))
    ∙ tree_whole levels scope s.0.0.name s.0.0.attributes c.0.0 ok.0 (start_whole scope bytes s.0 s.1)
    (inside_whole content reads (levels - 1) (within scope s.0.0.attributes) s.0.0.name s.0.1 c.0 c.1)

section_whole : (levels : ℕ) (scope : Scope) (bytes : List ℕ) (c : Content × List ℕ) → section_in bytes ≡ Ok c → is_content_whole levels scope c.0 ≡ true
unfolding section_in left_out_comment_in
section_whole levels scope bytes c is =
    either_ok (λ c. is_content_whole levels scope c.0 ≡ true) (begins (codes "!-") bytes) (past (codes "!--") bytes >>= λ rest. comment_in rest >>= λ rest. read nothing rest)
    (cdata_section_in bytes >>= λ t. read (text_of t.0) t.1) c is
    (λ comment.
    let r = bound_ok (past (codes "!--") bytes) (λ rest. comment_in rest >>= λ rest. read nothing rest) c comment in
    let e = bound_ok (comment_in r.0) (λ rest. read nothing rest) c r.2 in
    ap (λ (w : Content × List ℕ). is_content_whole levels scope w.0) (sym (same_read (nothing, e.0) c e.2)) ∙ nothing_whole levels scope)
    (λ cdata.
    let t = bound_ok (cdata_section_in bytes) (λ t. read (text_of t.0) t.1) c cdata in
    ap (λ (w : Content × List ℕ). is_content_whole levels scope w.0) (sym (same_read (text_of t.0.0, t.0.1) c t.2)) ∙ text_whole levels scope t.0.0)

left_out_whole : (levels : ℕ) (scope : Scope) (bytes : List ℕ) (c : Content × List ℕ) → left_out_in bytes ≡ Ok c → is_content_whole levels scope c.0 ≡ true
unfolding left_out_in
left_out_whole levels scope bytes c is =
    let r = bound_ok (past (codes "?") bytes) (λ rest. instruction_in rest >>= λ rest. read nothing rest) c is in
    let e = bound_ok (instruction_in r.0) (λ rest. read nothing rest) c r.2 in
    ap (λ (w : Content × List ℕ). is_content_whole levels scope w.0) (sym (same_read (nothing, e.0) c e.2)) ∙ nothing_whole levels scope

markup_whole : (content : ReadsContent) → ReadsWhole content → (levels : ℕ) (scope : Scope) (bytes : List ℕ) (c : Content × List ℕ) → markup_in content levels scope bytes ≡ Ok c
    → is_content_whole levels scope c.0 ≡ true
unfolding markup_in
markup_whole content reads levels scope bytes c is =
    either_ok (λ c. is_content_whole levels scope c.0 ≡ true) (begins (codes "!") bytes) (section_in bytes)
    (cond (begins (codes "?") bytes) (left_out_in bytes) (element_in content levels scope bytes >>= λ e. read (alone e.0) e.1)) c is (section_whole levels scope bytes c)
    (λ other. either_ok (λ c. is_content_whole levels scope c.0 ≡ true) (begins (codes "?") bytes) (left_out_in bytes) (element_in content levels scope bytes >>= λ e. read (alone e.0) e.1) c other
    (left_out_whole levels scope bytes c)
    (λ one.
    let e = bound_ok (element_in content levels scope bytes) (λ e. read (alone e.0) e.1) c one in
    ap (λ (w : Content × List ℕ). is_content_whole levels scope w.0) (sym (same_read (alone e.0.0, e.0.1) c e.2))
    ∙ alone_whole levels scope e.0.0 (element_whole_read content reads levels scope bytes e.0 e.1)))

character_whole : (levels : ℕ) (scope : Scope) (bytes : List ℕ) (c : Content × List ℕ) → character_in bytes ≡ Ok c → is_content_whole levels scope c.0 ≡ true
unfolding character_in
character_whole levels scope [] c is = absurd (no_ok 0 c is)
character_whole levels scope (b ∷ bytes) c is =
    let ok = unless_ok (begins (codes "]]>") (b ∷ bytes)) (read (text_of (b ∷ [])) bytes) (length bytes - 1) c is in
    ap (λ (w : Content × List ℕ). is_content_whole levels scope w.0) (sym (same_read (text_of (b ∷ []), bytes) c ok.1)) ∙ text_whole levels scope (b ∷ [])

piece_whole : (content : ReadsContent) → ReadsWhole content → (levels : ℕ) (scope : Scope) (bytes : List ℕ) (c : Content × List ℕ) → piece_in content levels scope bytes ≡ Ok c
    → is_content_whole levels scope c.0 ≡ true
unfolding piece_in
piece_whole content reads levels scope bytes c is =
    either_ok (λ c. is_content_whole levels scope c.0 ≡ true) (begins (codes "<") bytes) (markup_in content levels scope (behind (codes "<") bytes))
    (cond (begins (codes "&") bytes) (reference_in (behind (codes "&") bytes) >>= λ r. read (text_of r.0) r.1) (character_in bytes)) c is
    (markup_whole content reads levels scope (behind (codes "<") bytes) c)
    (λ other. either_ok (λ c. is_content_whole levels scope c.0 ≡ true) (begins (codes "&") bytes) (reference_in (behind (codes "&") bytes) >>= λ r. read (text_of r.0) r.1) (character_in bytes) c other
    (λ referred.
    let r = bound_ok (reference_in (behind (codes "&") bytes)) (λ r. read (text_of r.0) r.1) c referred in
    ap (λ (w : Content × List ℕ). is_content_whole levels scope w.0) (sym (same_read (text_of r.0.0, r.0.1) c r.2)) ∙ text_whole levels scope r.0.0)
    (character_whole levels scope bytes c))

contents_whole : (steps levels : ℕ) (scope : Scope) (bytes : List ℕ) (c : Content × List ℕ) → content_in steps levels scope bytes ≡ Ok c → is_content_whole levels scope c.0 ≡ true
unfolding content_in
contents_whole zero levels scope bytes c is = absurd (no_ok 0 c is)
contents_whole (suc steps) levels scope bytes c is =
    let reads : ReadsWhole (content_in steps) = record { whole = λ levels scope bytes c is. contents_whole steps levels scope bytes c is } in
    either_ok (λ c. is_content_whole levels scope c.0 ≡ true) (begins (codes "</") bytes) (read nothing (behind (codes "</") bytes))
    (piece_in (content_in steps) levels scope bytes >>= λ p. content_in steps levels scope p.1 >>= λ more. read (followed_by p.0 more.0) more.1) c is
    (λ none. ap (λ (w : Content × List ℕ). is_content_whole levels scope w.0) (sym (same_read (nothing, behind (codes "</") bytes) c none)) ∙ nothing_whole levels scope)
    (λ some.
    let p = bound_ok (piece_in (content_in steps) levels scope bytes) (λ p. content_in steps levels scope p.1 >>= λ more. read (followed_by p.0 more.0) more.1) c some in
    let more = bound_ok (content_in steps levels scope p.0.1) (λ more. read (followed_by p.0.0 more.0) more.1) c p.2 in
    ap (λ (w : Content × List ℕ). is_content_whole levels scope w.0) (sym (same_read (followed_by p.0.0 more.0.0, more.0.1) c more.2))
    ∙ followed_whole levels scope p.0.0 more.0.0 (piece_whole (content_in steps) reads levels scope bytes p.0 p.1) (contents_whole steps levels scope p.0.1 more.0 more.1))

pub content_reads_whole : (steps : ℕ) → ReadsWhole (content_in steps)
content_reads_whole steps = record { whole = λ levels scope bytes c is. contents_whole steps levels scope bytes c is }
