-- The bytes of a document are read as its tree, by the productions of XML.
use Rattle.std.proofs.Common.{◌≡◌, ◌∙◌, ℕ, suc, true, false, not, eqb, List, [], ◌∷◌, ◌++◌, Some, Ok, length, take, codes, refl, ap, arith}
use Rattle.std.specs.List.{flat_map, list_all}
use Rattle.std.specs.Result.{result_ok}
use Rattle.std.specs.Str.{chars}
use Rattle.std.proofs.lemmas.Bool.{cond-false, cond-true, eq-eqb, ne_eqb}
use Rattle.std.proofs.lemmas.List.{take_all}
use Rattle.oai_xml.specs.Readings.{◌>>=◌, begins, past}
use Rattle.oai_xml.specs.Parts.{past_equals, past_spaces}
use Rattle.oai_xml.specs.Trees.{Tree, spelled, spelled_attribute, spelled_content}
use Rattle.oai_xml.specs.Whole.{is_whole}
use Rattle.oai_xml.specs.LegalTexts.{is_legal_text}
use Rattle.oai_xml.specs.Documents.{begins_spaces, declaration_in, document_in, element_of, encoding_in, legal_front, legal_len, misc_in, normalized, opening_in, prolog_in, pseudo_attribute_in, quote_in, root_in, standalone_in, tail_in, tree_in, utf_8_in, version_in, version_number_in}
use Rattle.oai_xml.specs.declared.limits.TheConstants.{MAX_DEPTH}
use Rattle.oai_xml.proofs.TagBacks.{begun_apart, space_read}
use Rattle.oai_xml.proofs.ContentBacks.{behind_tag, spelled_text, tag_parts, tree_back, tree_parts}
use Rattle.oai_xml.proofs.CanonicalLemmas.{accepted_so, all_cat, lines_same, marked, no_cr, past_tag, read_so, tree_free}
use Rattle.oai_xml.proofs.LegalLemmas.{legal_whole}
use Rattle.oai_xml.proofs.LegalSpellings.{Legal, both, legal, plain, tested}
use Rattle.oai_documents.specs.DocumentTrees.{line_end, xml_declaration}

-- ---- the XML declaration

-- what stands behind its name, and behind its version
abbrev behind_name : List ℕ → List ℕ
behind_name rest = codes " version=\"1.0\" encoding=\"UTF-8\"?>\n" ++ rest

abbrev behind_version : List ℕ → List ℕ
behind_version rest = codes " encoding=\"UTF-8\"?>\n" ++ rest

version_passed : (rest : List ℕ) → version_in (behind_name rest) ≡ Ok (behind_version rest)
unfolding version_in pseudo_attribute_in version_number_in past past_equals past_spaces quote_in
version_passed rest =
    ap (λ r. (r >>= λ start. past (codes "version") start >>= λ equals. past_equals equals >>= λ quoted. quote_in quoted) >>= λ q. version_number_in q.1 >>= λ rest. past (q.0 ∷ []) rest)
    (space_read (codes "version=\"1.0\" encoding=\"UTF-8\"?>\n" ++ rest))

encoding_passed : (rest : List ℕ) → encoding_in (behind_version rest) ≡ Ok (codes "?>\n" ++ rest)
unfolding encoding_in pseudo_attribute_in utf_8_in begins past past_equals past_spaces quote_in
encoding_passed rest =
    ap (λ r. (r >>= λ start. past (codes "encoding") start >>= λ equals. past_equals equals >>= λ quoted. quote_in quoted) >>= λ q. utf_8_in q.1 >>= λ rest. past (q.0 ∷ []) rest)
    (space_read (codes "encoding=\"UTF-8\"?>\n" ++ rest))

end_passed : (rest : List ℕ) → (standalone_in (codes "?>\n" ++ rest) >>= λ rest. past (codes "?>") (past_spaces rest)) ≡ Ok (10 ∷ rest)
unfolding standalone_in begins past past_spaces
end_passed rest = refl

declaration_passed : (rest : List ℕ) → declaration_in (behind_name rest) ≡ Ok (10 ∷ rest)
unfolding declaration_in
declaration_passed rest =
    ap (λ r. r >>= λ rest. encoding_in rest >>= λ rest. standalone_in rest >>= λ rest. past (codes "?>") (past_spaces rest)) (version_passed rest)
    ∙ ap (λ r. r >>= λ rest. standalone_in rest >>= λ rest. past (codes "?>") (past_spaces rest)) (encoding_passed rest)
    ∙ end_passed rest

shorter : (bytes : List ℕ) → eqb (length bytes) (length (32 ∷ bytes)) ≡ false
shorter bytes = ne_eqb (length bytes) (length (32 ∷ bytes)) (λ same. omega (arith, same))

spaces_begin : (rest : List ℕ) → begins_spaces (behind_name rest) ≡ true
unfolding past_spaces
spaces_begin rest = ap not (shorter (codes "version=\"1.0\" encoding=\"UTF-8\"?>\n" ++ rest))

opening_passed : (rest : List ℕ) → opening_in (xml_declaration ++ rest) ≡ Ok (10 ∷ rest)
unfolding opening_in xml_declaration begins
opening_passed rest = cond-true (begins_spaces (behind_name rest)) (declaration_in (behind_name rest)) (Ok (xml_declaration ++ rest)) (spaces_begin rest) ∙ declaration_passed rest

-- ---- the document

-- a line end, and then a tag
line_passed : (steps : ℕ) (bytes : List ℕ) → past_spaces bytes ≡ bytes → begins (codes "<!") bytes ≡ false → begins (codes "<?") bytes ≡ false → misc_in (suc steps) (10 ∷ bytes) ≡ Ok bytes
unfolding misc_in past_spaces
line_passed steps bytes same none other =
    cond-false (begins (codes "<!") (past_spaces bytes)) _ _ (ap (begins (codes "<!")) same ∙ none)
    ∙ cond-false (begins (codes "<?") (past_spaces bytes)) _ _ (ap (begins (codes "<?")) same ∙ other) ∙ ap (λ (w : List ℕ). Ok w) same

prolog_passed : (bytes tag : List ℕ) → misc_in (suc (length (10 ∷ bytes))) (10 ∷ bytes) ≡ Ok bytes → past (codes "<") bytes ≡ Ok tag → prolog_in (xml_declaration ++ bytes) ≡ Ok tag
unfolding prolog_in
prolog_passed bytes tag misc at_tag =
    ap (λ r. r >>= λ rest. misc_in (suc (length rest)) rest >>= λ rest. past (codes "<") rest) (opening_passed bytes) ∙ ap (λ r. r >>= λ rest. past (codes "<") rest) misc ∙ at_tag

tail_passed : tail_in (10 ∷ []) ≡ Ok []
unfolding tail_in misc_in past_spaces begins
tail_passed = refl

document_steps : (bytes tag : List ℕ) (t : Tree) → prolog_in bytes ≡ Ok tag → root_in tag ≡ Ok (t, 10 ∷ []) → document_in bytes ≡ Ok t
unfolding document_in
document_steps bytes tag t prolog root =
    ap (λ r. r >>= λ rest. root_in rest >>= λ e. tail_in e.1 >>= λ end. Ok e.0) prolog
    ∙ ap (λ r. r >>= λ e. tail_in e.1 >>= λ end. Ok e.0) root ∙ ap (λ r. r >>= λ end. Ok t) tail_passed

document_back : (t : Tree) → is_whole t ≡ true → document_in (xml_declaration ++ (spelled t ++ line_end)) ≡ Ok t
unfolding behind_tag line_end
document_back t whole =
    let parts = tree_parts MAX_DEPTH [] t whole in
    let tag : List ℕ = behind_tag t (10 ∷ []) in
    let text : spelled t ++ 10 ∷ [] ≡ 60 ∷ tag = spelled_text t (10 ∷ []) in
    let b = begun_apart t.name (flat_map spelled_attribute t.attributes ++ 62 ∷ (spelled_content t.content ++ 60 ∷ 47 ∷ (t.name ++ 62 ∷ 10 ∷ []))) (tag_parts [] t.name t.attributes parts.1).named in
    let m = marked b.0 b.1 b.3.3 b.3.4 in
    let p = past_tag tag in
    let misc = line_passed (length (10 ∷ 60 ∷ tag)) (60 ∷ tag) p.1 (ap (λ w. begins (codes "<!") (60 ∷ w)) b.2 ∙ m.0) (ap (λ w. begins (codes "<?") (60 ∷ w)) b.2 ∙ m.1) in
    ap (λ w. document_in (xml_declaration ++ w)) text
    ∙ document_steps (xml_declaration ++ 60 ∷ tag) tag t (prolog_passed (60 ∷ tag) tag misc p.0) (tree_back MAX_DEPTH [] t (10 ∷ []) whole (suc (length tag)) (omega arith))

-- ---- the text

abbrev file : Tree → List ℕ
file t = xml_declaration ++ (spelled t ++ line_end)

file_free : (t : Tree) → is_whole t ≡ true → list_all no_cr (file t) ≡ true
unfolding xml_declaration line_end
file_free t whole = all_cat xml_declaration (spelled t ++ line_end) refl (all_cat (spelled t) line_end (tree_free t whole) refl)

file_legal : (t : Tree) → is_legal_text (spelled t) ≡ true → Legal (file t)
unfolding xml_declaration line_end
file_legal t is = both xml_declaration (spelled t ++ line_end) (plain xml_declaration refl) (both (spelled t) line_end (legal (spelled t) is) (plain line_end refl))

pub file_tested : (t : Tree) → is_legal_text (spelled t) ≡ true → is_legal_text (file t) ≡ true
file_tested t is = tested (file t) (file_legal t is)

file_read : (t : Tree) → is_whole t ≡ true → is_legal_text (spelled t) ≡ true → element_of (file t) ≡ Ok t
file_read t whole is =
    let text = file_legal t is in
    let len = legal_whole (file t) text.utf8 text.characters in
    let front : legal_front (file t) ≡ file t = ap (λ n. take n (file t)) len ∙ take_all (length (file t)) (file t) (omega arith) in
    read_so (file t) t (ap (λ w. document_in (normalized w)) front ∙ ap document_in (lines_same (file t) (file_free t whole)) ∙ document_back t whole)
    (accepted_so (file t) t (eq-eqb (legal_len (chars (file t))) (length (file t)) len) is)

pub tree_read : (t : Tree) → is_whole t ≡ true → is_legal_text (spelled t) ≡ true → tree_in (file t) ≡ Some t
unfolding tree_in
tree_read t whole is = ap result_ok (file_read t whole is)
