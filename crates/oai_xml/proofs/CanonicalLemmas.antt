-- What is read is an element, and an element is read as itself.
use Rattle.std.proofs.Common.{◌≡◌, ◌∙◌, ◌-◌, ℕ, suc, Bool, true, false, ◌&&◌, not, cond, eqb, List, [], ◌∷◌, ◌++◌, Some, Result, Ok, Err, length, take, refl, sym, ap, subst, arith, append-nil}
use Rattle.std.specs.Prelude.{codes}
use Rattle.std.specs.List.{list_all, flat_map}
use Rattle.std.specs.Result.{result_ok}
use Rattle.std.specs.Str.{chars, is_utf8}
use Rattle.std.proofs.lemmas.Bool.{and_from, and_parts, and_left, not-true, cond-true, cond-false, eq-eqb, false≢true}
use Rattle.std.proofs.lemmas.Bool.Decides.{nat_tests}
use Rattle.std.proofs.lemmas.List.{take_all, append_cancel_left}
use Rattle.std.proofs.lemmas.Slice.Eq.{bytes_eq-Decides}
use Rattle.std.proofs.lemmas.Str.{IsUtf8-from_is_utf8, is_utf8-from_IsUtf8}
use Rattle.oai_names.specs.Characters.{is_xml_text}
use Rattle.oai_names.specs.Escapes.{escaped, escaped_attribute, attribute_spelling, text_spelling}
use Rattle.oai_names.proofs.Lists.{all-weaker}
use Rattle.oai_xml.specs.Readings.{◌>>=◌, begins, behind, past}
use Rattle.oai_xml.specs.QNames.{is_name_byte, is_qname}
use Rattle.oai_xml.specs.Parts.{past_spaces}
use Rattle.oai_xml.specs.Trees.{Attribute, Content, Tree, nothing, byte, element, spelled_attribute, spelled_content, spelled, start_tag, end_tag}
use Rattle.oai_xml.specs.Namespaces.{Scope}
use Rattle.oai_xml.specs.Whole.{names_of, within, is_content_whole, is_whole, SpellsTree, IsElement}
use Rattle.oai_xml.specs.Contents.{element_in, content_in}
use Rattle.oai_xml.specs.Documents.{begins_spaces, opening_in, misc_in, root_in, prolog_in, tail_in, document_in, legal_len, legal_front, lines, normalized, place_of, with_fault_place, is_spelled_text, accepted_tree, element_of, canonical, tree_in, is_read_as, is_canonical}
use Rattle.oai_xml.specs.declared.limits.TheConstants.{MAX_DEPTH}
use Rattle.oai_xml.proofs.TagBacks.{begun_apart, named}
use Rattle.oai_xml.proofs.ContentBacks.{Whole, tag_parts, tree_parts, content_parts, byte_part, behind_tag, spelled_text, tree_back}
use Rattle.oai_xml.proofs.ReadWhole.{no_ok, same_ok, bound_ok, if_ok, same_read, element_whole_read, content_reads_whole}
use Rattle.oai_xml.proofs.LegalLemmas.{legal_whole}
use Rattle.oai_xml.proofs.Spellings.{nothing_spelled, byte_spelled, element_spelled, tree_spelled}

-- ---- a tree stands in a longer text in one way

pub spelling_cut : (t u : Tree) (x y : List ℕ) → is_whole t ≡ true → is_whole u ≡ true → spelled t ++ x ≡ spelled u ++ y → (t ≡ u) × (x ≡ y)
spelling_cut t u x y whole other same =
    let texts : behind_tag t x ≡ behind_tag u y = append_cancel_left (60 ∷ []) (behind_tag t x) (behind_tag u y) (sym (spelled_text t x) ∙ same ∙ spelled_text u y) in
    let steps : ℕ = suc (length (behind_tag t x)) in
    let one = tree_back MAX_DEPTH [] t x whole steps (omega arith) in
    let lengths = ap length texts in
    let two = tree_back MAX_DEPTH [] u y other steps (omega (arith, lengths)) in
    let both = same_read (t, x) (u, y) (sym one ∙ ap (element_in (content_in steps) MAX_DEPTH []) texts ∙ two) in
    (ap (λ (w : Tree × List ℕ). w.0) both, ap (λ (w : Tree × List ℕ). w.1) both)

pub one_tree : (bytes : List ℕ) (t u : Tree) → SpellsTree bytes t → SpellsTree bytes u → t ≡ u
one_tree bytes t u a b =
    (spelling_cut t u [] [] a.whole b.whole (append-nil (spelled t) ∙ sym a.bytes_are ∙ b.bytes_are ∙ sym (append-nil (spelled u)))).0

pub elements_cut : (e f x y : List ℕ) → IsElement e → IsElement f → e ++ x ≡ f ++ y → (e ≡ f) × (x ≡ y)
elements_cut e f x y a b same =
    let both = spelling_cut a.0 b.0 x y a.1.whole b.1.whole (ap (λ w. w ++ x) (sym a.1.bytes_are) ∙ same ∙ ap (λ w. w ++ y) b.1.bytes_are) in
    (a.1.bytes_are ∙ ap spelled both.0 ∙ sym b.1.bytes_are, both.1)

-- ---- a document that is a spelled tree

pub plain_misc : (steps : ℕ) (bytes : List ℕ) → past_spaces bytes ≡ bytes → begins (codes "<!") bytes ≡ false → begins (codes "<?") bytes ≡ false → misc_in (suc steps) bytes ≡ Ok bytes
unfolding misc_in
plain_misc steps bytes same none other =
    cond-false (begins (codes "<!") (past_spaces bytes)) _ _ (ap (begins (codes "<!")) same ∙ none)
    ∙ cond-false (begins (codes "<?") (past_spaces bytes)) _ _ (ap (begins (codes "<?")) same ∙ other) ∙ ap (λ (w : List ℕ). Ok w) same

nothing_left : (misc_in 1 [] ≡ Ok []) × (past (codes "<") [] ≡ past (codes "<") [])
unfolding misc_in past_spaces begins
nothing_left = (refl, refl)

pub marked : (x : ℕ) (others : List ℕ) → eqb x 33 ≡ false → eqb x 63 ≡ false
    → (begins (codes "<!") (60 ∷ x ∷ others) ≡ false) × (begins (codes "<?") (60 ∷ x ∷ others) ≡ false) × (begins (codes "<?xml") (60 ∷ x ∷ others) ≡ false)
unfolding begins
marked x others first second = (ap (λ t. t && true) first, ap (λ t. t && true) second, ap (λ t. t && begins (codes "xml") others) second)

pub past_tag : (rest : List ℕ) → (past (codes "<") (60 ∷ rest) ≡ Ok rest) × (past_spaces (60 ∷ rest) ≡ 60 ∷ rest)
unfolding past past_spaces
past_tag rest = (refl, refl)

unopened : (bytes : List ℕ) → begins (codes "<?xml") bytes ≡ false → opening_in bytes ≡ Ok bytes
unfolding opening_in
unopened bytes none = cond-false (begins (codes "<?xml") bytes && begins_spaces (behind (codes "<?xml") bytes)) _ _ (and_left (begins (codes "<?xml") bytes) (begins_spaces (behind (codes "<?xml") bytes)) none)

prolog_steps : (bytes tag : List ℕ) → opening_in bytes ≡ Ok bytes → misc_in (suc (length bytes)) bytes ≡ Ok bytes → past (codes "<") bytes ≡ Ok tag → prolog_in bytes ≡ Ok tag
unfolding prolog_in
prolog_steps bytes tag opening misc at_tag =
    ap (λ r. r >>= λ rest. misc_in (suc (length rest)) rest >>= λ rest. past (codes "<") rest) opening ∙ ap (λ r. r >>= λ rest. past (codes "<") rest) misc ∙ at_tag

end_there : tail_in [] ≡ Ok []
unfolding tail_in
end_there = ap (λ r. r >>= λ rest. cond (eqb (length rest) 0) (Ok []) (Err (length rest))) nothing_left.0

document_steps : (bytes tag : List ℕ) (t : Tree) → prolog_in bytes ≡ Ok tag → root_in tag ≡ Ok (t, []) → document_in bytes ≡ Ok t
unfolding document_in
document_steps bytes tag t prolog root =
    ap (λ r. r >>= λ rest. root_in rest >>= λ e. tail_in e.1 >>= λ end. Ok e.0) prolog
    ∙ ap (λ r. r >>= λ e. tail_in e.1 >>= λ end. Ok e.0) root ∙ ap (λ r. r >>= λ end. Ok t) end_there

document_back : (t : Tree) → is_whole t ≡ true → document_in (spelled t) ≡ Ok t
unfolding behind_tag
document_back t whole =
    let parts = tree_parts MAX_DEPTH [] t whole in
    let tag : List ℕ = behind_tag t [] in
    let text : spelled t ≡ 60 ∷ tag = sym (append-nil (spelled t)) ∙ spelled_text t [] in
    let b = begun_apart t.name (flat_map spelled_attribute t.attributes ++ 62 ∷ (spelled_content t.content ++ 60 ∷ 47 ∷ (t.name ++ 62 ∷ []))) (tag_parts [] t.name t.attributes parts.1).named in
    let m = marked b.0 b.1 b.3.3 b.3.4 in
    let p = past_tag tag in
    ap document_in text
    ∙ document_steps (60 ∷ tag) tag t (prolog_steps (60 ∷ tag) tag (unopened (60 ∷ tag) (ap (λ w. begins (codes "<?xml") (60 ∷ w)) b.2 ∙ m.2))
    (plain_misc (length (60 ∷ tag)) (60 ∷ tag) p.1 (ap (λ w. begins (codes "<!") (60 ∷ w)) b.2 ∙ m.0) (ap (λ w. begins (codes "<?") (60 ∷ w)) b.2 ∙ m.1))
    p.0) (tree_back MAX_DEPTH [] t [] whole (suc (length tag)) (omega arith))

-- ---- no CR in what is spelled

abbrev pub no_cr : ℕ → Bool
no_cr b = not (eqb b 13)

pub all_cat : (xs ys : List ℕ) → list_all no_cr xs ≡ true → list_all no_cr ys ≡ true → list_all no_cr (xs ++ ys) ≡ true
all_cat [] ys first second = second
all_cat (x ∷ xs) ys first second = let parts = and_parts (no_cr x) (list_all no_cr xs) first in and_from (no_cr x) (list_all no_cr (xs ++ ys)) parts.0 (all_cat xs ys parts.1 second)

text_byte_free : (b : ℕ) → list_all no_cr (text_spelling b) ≡ true
text_byte_free b = by_tests (eqb b 38) (eqb b 60) (eqb b 62) (eqb b 13) refl
  where
    by_tests : (a l g r : Bool) → eqb b 13 ≡ r → list_all no_cr (cond a (codes "&amp;") (cond l (codes "&lt;") (cond g (codes "&gt;") (cond r (codes "&#13;") (b ∷ []))))) ≡ true
    by_tests true l g r is = refl
    by_tests false true g r is = refl
    by_tests false false true r is = refl
    by_tests false false false true is = refl
    by_tests false false false false is = ap (λ t. not t && true) is

value_byte_free : (b : ℕ) → list_all no_cr (attribute_spelling b) ≡ true
value_byte_free b = by_tests (eqb b 34) (eqb b 9) (eqb b 10) (text_byte_free b)
  where
    by_tests : (q t n : Bool) → list_all no_cr (text_spelling b) ≡ true → list_all no_cr (cond q (codes "&quot;") (cond t (codes "&#9;") (cond n (codes "&#10;") (text_spelling b)))) ≡ true
    by_tests true t n is = refl
    by_tests false true n is = refl
    by_tests false false true is = refl
    by_tests false false false is = is

value_free : (value : List ℕ) → list_all no_cr (escaped_attribute value) ≡ true
unfolding escaped
value_free [] = refl
value_free (b ∷ value) = all_cat (attribute_spelling b) (escaped_attribute value) (value_byte_free b) (value_free value)

name_free : (name : List ℕ) → is_qname name ≡ true → list_all no_cr name ≡ true
name_free name is = all-weaker is_name_byte no_cr (λ b h. grind (arith, nat_tests, h)) name (named name is)

attribute_free : (a : Attribute) → is_qname a.name ≡ true → list_all no_cr (spelled_attribute a) ≡ true
unfolding spelled_attribute
attribute_free a is = all_cat a.name (61 ∷ 34 ∷ (escaped_attribute a.value ++ 34 ∷ [])) (name_free a.name is) (all_cat (escaped_attribute a.value) (34 ∷ []) (value_free a.value) refl)

attributes_free : (attributes : List Attribute) → list_all is_qname (names_of attributes) ≡ true → list_all no_cr (flat_map spelled_attribute attributes) ≡ true
attributes_free [] all = refl
attributes_free (a ∷ attributes) all =
    let parts = and_parts (is_qname a.name) (list_all is_qname (names_of attributes)) all in
    all_cat (spelled_attribute a) (flat_map spelled_attribute attributes) (attribute_free a parts.0) (attributes_free attributes parts.1)

start_free : (scope : Scope) (name : List ℕ) (attributes : List Attribute) → Whole scope name attributes → list_all no_cr (start_tag name attributes) ≡ true
unfolding start_tag
start_free scope name attributes w =
    all_cat name (flat_map spelled_attribute attributes ++ 62 ∷ []) (name_free name w.named) (all_cat (flat_map spelled_attribute attributes) (62 ∷ []) (attributes_free attributes w.all_named) refl)

end_free : (name : List ℕ) → is_qname name ≡ true → list_all no_cr (end_tag name) ≡ true
unfolding end_tag
end_free name is = all_cat name (62 ∷ []) (name_free name is) refl

content_free : (c : Content) (levels : ℕ) (scope : Scope) → is_content_whole levels scope c ≡ true → list_all no_cr (spelled_content c) ≡ true
content_free nothing levels scope is = ap (list_all no_cr) nothing_spelled
content_free (byte b rest) levels scope is =
    ap (list_all no_cr) (byte_spelled b rest) ∙ all_cat (text_spelling b) (spelled_content rest) (text_byte_free b) (content_free rest levels scope (byte_part levels scope b rest is))
content_free (element n a i rest) levels scope is =
    let parts = content_parts levels scope n a i rest is in
    let w = tag_parts scope n a parts.1 in
    ap (list_all no_cr) (element_spelled n a i rest)
    ∙ all_cat (start_tag n a) (spelled_content i ++ (end_tag n ++ spelled_content rest)) (start_free scope n a w)
    (all_cat (spelled_content i) (end_tag n ++ spelled_content rest) (content_free i (levels - 1) (within scope a) parts.2)
    (all_cat (end_tag n) (spelled_content rest) (end_free n w.named) (content_free rest levels scope parts.3)))

pub tree_free : (t : Tree) → is_whole t ≡ true → list_all no_cr (spelled t) ≡ true
tree_free t whole =
    let parts = tree_parts MAX_DEPTH [] t whole in
    let w = tag_parts [] t.name t.attributes parts.1 in
    ap (list_all no_cr) (tree_spelled t)
    ∙ all_cat (start_tag t.name t.attributes) (spelled_content t.content ++ end_tag t.name) (start_free [] t.name t.attributes w)
    (all_cat (spelled_content t.content) (end_tag t.name) (content_free t.content (MAX_DEPTH - 1) (within [] t.attributes) parts.2) (end_free t.name w.named))

pub lines_same : (bytes : List ℕ) → list_all no_cr bytes ≡ true → lines false bytes ≡ bytes
unfolding lines
lines_same [] free = refl
lines_same (b ∷ bytes) free =
    let parts = and_parts (no_cr b) (list_all no_cr bytes) free in
    cond-false (eqb b 13) _ _ (not-true (eqb b 13) parts.0) ∙ ap (λ (w : List ℕ). b ∷ w) (lines_same bytes parts.1)

-- ---- an element is read as itself

pub accepted_so : (text : List ℕ) (t : Tree) → eqb (legal_len (chars text)) (length text) ≡ true → is_spelled_text t ≡ true → accepted_tree text t ≡ Ok t
unfolding accepted_tree
accepted_so text t whole spelled_so =
    cond-true (eqb (legal_len (chars text)) (length text) && is_spelled_text t) _ _ (and_from (eqb (legal_len (chars text)) (length text)) (is_spelled_text t) whole spelled_so)

pub read_so : (text : List ℕ) (t : Tree) → document_in (normalized (legal_front text)) ≡ Ok t → accepted_tree text t ≡ Ok t → element_of text ≡ Ok t
unfolding element_of
read_so text t is taken = ap (λ r. with_fault_place (legal_front text) r >>= λ tree. accepted_tree text tree) is ∙ taken

pub element_read_back : (bytes : List ℕ) (t : Tree) → SpellsTree bytes t → element_of bytes ≡ Ok t
element_read_back bytes t s =
    let len = legal_whole bytes s.utf8 s.characters in
    let front : legal_front bytes ≡ bytes = ap (λ n. take n bytes) len ∙ take_all (length bytes) bytes (omega arith) in
    let same : normalized bytes ≡ bytes = ap normalized s.bytes_are ∙ lines_same (spelled t) (tree_free t s.whole) ∙ sym s.bytes_are in
    let characters : is_xml_text (spelled t) ≡ true = ap is_xml_text (sym s.bytes_are) ∙ s.characters in
    let utf8 : is_utf8 (spelled t) ≡ true = ap is_utf8 (sym s.bytes_are) ∙ is_utf8-from_IsUtf8 bytes s.utf8 in
    read_so bytes t (ap (λ w. document_in (normalized w)) front ∙ ap document_in (same ∙ s.bytes_are) ∙ document_back t s.whole)
    (accepted_so bytes t (eq-eqb (legal_len (chars bytes)) (length bytes) len) (and_from (is_utf8 (spelled t)) (is_xml_text (spelled t)) utf8 characters))

pub canonical_of : (text : List ℕ) (t : Tree) → element_of text ≡ Ok t → canonical text ≡ Ok (spelled t)
unfolding canonical
canonical_of text t is = ap (λ r. r >>= λ tree. Ok (spelled tree)) is

pub canonical_again : (bytes : List ℕ) → IsElement bytes → canonical bytes ≡ Ok bytes
canonical_again bytes e = canonical_of bytes e.0 (element_read_back bytes e.0 e.1) ∙ ap (λ (w : List ℕ). Ok w) (sym e.1.bytes_are)

pub tree_again : (bytes : List ℕ) (t : Tree) → SpellsTree bytes t → tree_in bytes ≡ Some t
unfolding tree_in
tree_again bytes t s = ap result_ok (element_read_back bytes t s)

-- ---- what is read is an element

document_whole : (bytes : List ℕ) (t : Tree) → document_in bytes ≡ Ok t → is_whole t ≡ true
unfolding document_in
document_whole bytes t is =
    let a = bound_ok (prolog_in bytes) (λ rest. root_in rest >>= λ e. tail_in e.1 >>= λ end. Ok e.0) t is in
    let e = bound_ok (root_in a.0) (λ e. tail_in e.1 >>= λ end. Ok e.0) t a.2 in
    let f = bound_ok (tail_in e.0.1) (λ end. Ok e.0.0) t e.2 in
    ap is_whole (sym (same_ok e.0.0 t f.2)) ∙ element_whole_read (content_in (suc (length a.0))) (content_reads_whole (suc (length a.0))) MAX_DEPTH [] a.0 e.0 e.1

placed_ok : (front : List ℕ) (r : Result Tree ℕ) (t : Tree) → with_fault_place front r ≡ Ok t → r ≡ Ok t
placed_ok front (Ok a) t is = is
placed_ok front (Err left) t is = absurd (no_ok (place_of front left) t is)

accepted_as : (text : List ℕ) (a t : Tree) → accepted_tree text a ≡ Ok t → (is_spelled_text a ≡ true) × (a ≡ t)
unfolding accepted_tree
accepted_as text a t is =
    let ok = if_ok (eqb (legal_len (chars text)) (length text) && is_spelled_text a) (Ok a) (legal_len (chars text)) t is in
    ((and_parts (eqb (legal_len (chars text)) (length text)) (is_spelled_text a) ok.0).1, same_ok a t ok.1)

pub element_spells : (text : List ℕ) (t : Tree) → element_of text ≡ Ok t → SpellsTree (spelled t) t
unfolding element_of
element_spells text t is =
    let r = bound_ok (with_fault_place (legal_front text) (document_in (normalized (legal_front text)))) (λ tree. accepted_tree text tree) t is in
    let taken = accepted_as text r.0 t r.2 in
    let whole = document_whole (normalized (legal_front text)) r.0 (placed_ok (legal_front text) (document_in (normalized (legal_front text))) r.0 r.1) in
    let parts = and_parts (is_utf8 (spelled r.0)) (is_xml_text (spelled r.0)) taken.0 in
    subst (λ w. SpellsTree (spelled w) w) taken.1 (record { whole = whole; bytes_are = refl; characters = parts.1; utf8 = IsUtf8-from_is_utf8 (spelled r.0) parts.0 })

pub canonical_tree : (text e : List ℕ) → canonical text ≡ Ok e → (t : Tree) × (tree_in text ≡ Some t) × SpellsTree e t × (tree_in e ≡ Some t)
unfolding canonical tree_in
canonical_tree text e is =
    let r = bound_ok (element_of text) (λ tree. Ok (spelled tree)) e is in
    let s = element_spells text r.0 r.1 in
    let same = same_ok (spelled r.0) e r.2 in
    let spells = subst (λ w. SpellsTree w r.0) same s in
    (r.0, ap result_ok r.1, spells, tree_again e r.0 spells)

-- ---- the test

read_as : (text : List ℕ) (r : Result (List ℕ) ℕ) → is_read_as text r ≡ true → r ≡ Ok text
read_as text (Ok bytes) is = ap (λ (w : List ℕ). Ok w) ((bytes_eq-Decides bytes text).0 is)
read_as text (Err offset) is = absurd (false≢true is)

pub element_tested : (e : List ℕ) → is_canonical e ≡ true → IsElement e
unfolding is_canonical
element_tested e is = let t = canonical_tree e e (read_as e (canonical e) is) in (t.0, t.2)

pub element_found : (e : List ℕ) → IsElement e → is_canonical e ≡ true
unfolding is_canonical
element_found e is = ap (is_read_as e) (canonical_again e is) ∙ (bytes_eq-Decides e e).1 refl
