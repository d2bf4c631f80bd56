-- What is spelled is read back: contents and elements.
use Rattle.std.proofs.Common.{◌≡◌, ◌∙◌, ◌-◌, ◌<◌, ℕ, Bool, true, false, ◌&&◌, not, cond, eqb, List, [], ◌∷◌, ◌++◌, Ok, length, refl, sym, ap, subst, arith, append_assoc, append-nil}
use Rattle.std.specs.Prelude.{codes}
use Rattle.std.specs.List.{list_all, flat_map}
use Rattle.std.proofs.lemmas.Bool.{and_parts, cond-true, not-true}
use Rattle.std.proofs.lemmas.List.{length-append}
use Rattle.oai_names.specs.Escapes.{text_spelling}
use Rattle.oai_xml.specs.Answers.{Goes}
use Rattle.oai_xml.specs.Readings.{◌>>=◌, read, begins, past}
use Rattle.oai_xml.specs.QNames.{is_qname}
use Rattle.oai_xml.specs.Tags.{Start, start_in, end_in}
use Rattle.oai_xml.specs.Trees.{Attribute, Content, Tree, nothing, byte, element, followed_by, text_of, alone, spelled_attribute, spelled_content, spelled, start_tag, end_tag}
use Rattle.oai_xml.specs.Namespaces.{Declaration, Scope, declared}
use Rattle.oai_xml.specs.Whole.{names_of, within, has_default, are_names_whole, is_tag_whole, is_content_whole, is_whole_in}
use Rattle.oai_xml.specs.Contents.{completion, completed, completed_start, closed_start, whole_start_in, inside_in, element_in, content_in}
use Rattle.oai_xml.proofs.Goings.{goes_none, goes_then, goes_end}
use Rattle.oai_xml.proofs.Pieces.{contents, piece_goes, content_closed, piece_markup}
use Rattle.oai_xml.proofs.Backs.{text_byte_back}
use Rattle.oai_xml.proofs.Spellings.{nothing_spelled, byte_spelled, element_spelled, tree_spelled, followed_none, followed_joins}
use Rattle.oai_xml.proofs.TagBacks.{begun_apart, start_back, end_back}
use Rattle.oai_xml.proofs.ElementPieces.{element_whole, inside_full, markup_element}

-- ---- start tags

-- the default namespace is in force
defaults : (scope : Scope) (ds : List Declaration) (name : List ℕ) (names : List (List ℕ)) → are_names_whole scope ds name names ≡ true → has_default scope ≡ true
unfolding are_names_whole
defaults scope ds name names whole = (and_parts (has_default scope) _ whole).0

no_completion : (scope : Scope) → has_default scope ≡ true → completion scope ≡ []
unfolding completion
no_completion scope is = cond-true (has_default scope) [] _ is

pub record Whole (scope : Scope) (name : List ℕ) (attributes : List Attribute) : Type 0 where
  pub named : is_qname name ≡ true
  pub all_named : list_all is_qname (names_of attributes) ≡ true
  pub names : are_names_whole (within scope attributes) (declared attributes) name (names_of attributes) ≡ true

pub tag_parts : (scope : Scope) (name : List ℕ) (attributes : List Attribute) → is_tag_whole scope name attributes ≡ true → Whole scope name attributes
unfolding is_tag_whole
tag_parts scope name attributes is =
    let outer = and_parts (is_qname name && list_all is_qname (names_of attributes)) (are_names_whole (within scope attributes) (declared attributes) name (names_of attributes)) is in
    let inner = and_parts (is_qname name) (list_all is_qname (names_of attributes)) outer.0 in
    record { named = inner.0; all_named = inner.1; names = outer.1 }

complete_already : (scope : Scope) (name : List ℕ) (attributes : List Attribute) → Whole scope name attributes → completed_start scope (record { name = name; attributes = attributes }) ≡ record { name = name; attributes = attributes }
unfolding completed_start
complete_already scope name attributes w =
    let none = no_completion (within scope attributes) (defaults (within scope attributes) (declared attributes) name (names_of attributes) w.names) in
    let all : completed scope attributes ≡ attributes = ap (λ (x : List Attribute). attributes ++ x) none ∙ append-nil attributes in
    ap (λ (x : List Attribute). record { name = name; attributes = x }) all

whole_start_read : (scope : Scope) (bytes rest : List ℕ) (s : Start) → start_in bytes ≡ Ok (s, rest) → completed_start scope s ≡ s
    → are_names_whole (within scope s.attributes) (declared s.attributes) s.name (names_of s.attributes) ≡ true → whole_start_in scope bytes ≡ Ok (s, rest)
unfolding whole_start_in closed_start
whole_start_read scope bytes rest s is same whole =
    ap (λ r. r >>= λ s. closed_start scope (completed_start scope s.0) s.1) is ∙ ap (λ s. closed_start scope s rest) same
    ∙ cond-true (are_names_whole (within scope s.attributes) (declared s.attributes) s.name (names_of s.attributes)) _ _ whole

pub whole_start_back : (scope : Scope) (name rest : List ℕ) (attributes : List Attribute) → Whole scope name attributes
    → whole_start_in scope (name ++ (flat_map spelled_attribute attributes ++ 62 ∷ rest)) ≡ Ok (record { name = name; attributes = attributes }, 62 ∷ rest)
whole_start_back scope name rest attributes w =
    whole_start_read scope (name ++ (flat_map spelled_attribute attributes ++ 62 ∷ rest)) (62 ∷ rest) (record { name = name; attributes = attributes })
    (start_back name rest attributes w.named w.all_named) (complete_already scope name attributes w) w.names

-- ---- inside an element

opened : (rest : List ℕ) → (begins (codes "/") (62 ∷ rest) ≡ false) × (past (codes ">") (62 ∷ rest) ≡ Ok rest)
unfolding begins past
opened rest = (refl, refl)

and_false : (t : Bool) → (t && false) ≡ false
and_false true = refl
and_false false = refl

followed_nothing : (c : Content) → followed_by c nothing ≡ c
unfolding followed_by
followed_nothing nothing = refl
followed_nothing (byte b rest) = ap (λ (w : Content). byte b w) (followed_nothing rest)
followed_nothing (element n a i rest) = ap (λ (w : Content). element n a i w) (followed_nothing rest)

inside_back : (levels : ℕ) (scope : Scope) (name : List ℕ) (c : Content) (rest : List ℕ) → ((x : List ℕ) → Goes followed_by (contents levels scope) (spelled_content c ++ 60 ∷ x) (60 ∷ x) c)
    → (steps : ℕ) → length (spelled_content c ++ 60 ∷ 47 ∷ (name ++ 62 ∷ rest)) < steps
    → inside_in (content_in steps) levels scope name (62 ∷ (spelled_content c ++ 60 ∷ 47 ∷ (name ++ 62 ∷ rest))) ≡ Ok (c, rest)
unfolding begins
inside_back levels scope name c rest goes steps enough =
    let inner : List ℕ = spelled_content c ++ 60 ∷ 47 ∷ (name ++ 62 ∷ rest) in
    let at = opened inner in
    let inside : content_in steps levels scope inner ≡ Ok (followed_by c nothing, name ++ 62 ∷ rest) =
    goes_end followed_by (contents levels scope) inner (60 ∷ 47 ∷ (name ++ 62 ∷ rest)) (name ++ 62 ∷ rest) c nothing (goes (47 ∷ (name ++ 62 ∷ rest)))
    (content_closed levels scope (60 ∷ 47 ∷ (name ++ 62 ∷ rest)) refl) steps enough
    in
    inside_full (content_in steps) levels scope name (62 ∷ inner) (Ok inner) at.0 at.1
    ∙ ap (λ r. r >>= λ c. end_in name c.1 >>= λ rest. read c.0 rest) (inside ∙ ap (λ (w : Content). Ok (w, name ++ 62 ∷ rest)) (followed_nothing c))
    ∙ ap (λ r. r >>= λ rest. read c rest) (end_back name rest)

-- ---- elements

element_text : (name : List ℕ) (attributes : List Attribute) (c : Content) (rest : List ℕ)
    → start_tag name attributes ++ (spelled_content c ++ (end_tag name ++ rest)) ≡ 60 ∷ (name ++ (flat_map spelled_attribute attributes ++ 62 ∷ (spelled_content c ++ 60 ∷ 47 ∷ (name ++ 62 ∷ rest))))
unfolding start_tag end_tag
element_text name attributes c rest =
    ap (λ (w : List ℕ). 60 ∷ w) (append_assoc name (flat_map spelled_attribute attributes ++ 62 ∷ []) (spelled_content c ++ ((60 ∷ 47 ∷ (name ++ 62 ∷ [])) ++ rest))
    ∙ ap (λ (w : List ℕ). name ++ w) (append_assoc (flat_map spelled_attribute attributes) (62 ∷ []) (spelled_content c ++ ((60 ∷ 47 ∷ (name ++ 62 ∷ [])) ++ rest)))
    ∙ ap (λ (w : List ℕ). name ++ (flat_map spelled_attribute attributes ++ 62 ∷ (spelled_content c ++ 60 ∷ 47 ∷ w))) (append_assoc name (62 ∷ []) rest))

element_read : (levels : ℕ) (scope : Scope) (name : List ℕ) (attributes : List Attribute) (c : Content) (rest : List ℕ) → not (eqb levels 0) ≡ true → Whole scope name attributes
    → ((x : List ℕ) → Goes followed_by (contents (levels - 1) (within scope attributes)) (spelled_content c ++ 60 ∷ x) (60 ∷ x) c)
    → (steps : ℕ) → length (name ++ (flat_map spelled_attribute attributes ++ 62 ∷ (spelled_content c ++ 60 ∷ 47 ∷ (name ++ 62 ∷ rest)))) < steps
    → element_in (content_in steps) levels scope (name ++ (flat_map spelled_attribute attributes ++ 62 ∷ (spelled_content c ++ 60 ∷ 47 ∷ (name ++ 62 ∷ rest))))
    ≡ Ok (record { name = name; attributes = attributes; content = c }, rest)
element_read levels scope name attributes c rest some w goes steps enough =
    let inner : List ℕ = spelled_content c ++ 60 ∷ 47 ∷ (name ++ 62 ∷ rest) in
    let long : length inner < steps =
    let one = length-append name (flat_map spelled_attribute attributes ++ 62 ∷ inner) in
    let two = length-append (flat_map spelled_attribute attributes) (62 ∷ inner) in omega (arith, one, two, enough) in
    element_whole (content_in steps) levels scope (name ++ (flat_map spelled_attribute attributes ++ 62 ∷ inner)) (record { name = name; attributes = attributes }, 62 ∷ inner) (c, rest)
    (not-true (eqb levels 0) some) (whole_start_back scope name inner attributes w) (inside_back (levels - 1) (within scope attributes) name c rest goes steps long)

-- ---- content

-- what is spelled and followed by markup does not begin with '>', nor with ']>'
close_tests : (b : ℕ) (tail : List ℕ) (a l g r : Bool) → eqb b 62 ≡ g → begins (codes ">") (cond a (codes "&amp;") (cond l (codes "&lt;") (cond g (codes "&gt;") (cond r (codes "&#13;") (b ∷ [])))) ++ tail) ≡ false
unfolding begins
close_tests b tail true l g r is = refl
close_tests b tail false true g r is = refl
close_tests b tail false false true r is = refl
close_tests b tail false false false true is = refl
close_tests b tail false false false false is = ap (λ t. t && true) is

bracket_tests : (b : ℕ) (tail : List ℕ) (a l g r : Bool) → begins (codes ">") tail ≡ false → begins (codes "]>") (cond a (codes "&amp;") (cond l (codes "&lt;") (cond g (codes "&gt;") (cond r (codes "&#13;") (b ∷ [])))) ++ tail) ≡ false
unfolding begins
bracket_tests b tail true l g r next = refl
bracket_tests b tail false true g r next = refl
bracket_tests b tail false false true r next = refl
bracket_tests b tail false false false true next = refl
bracket_tests b tail false false false false next = ap (λ t. eqb b 93 && t) next ∙ and_false (eqb b 93)

no_close : (c : Content) (x : List ℕ) → begins (codes ">") (spelled_content c ++ 60 ∷ x) ≡ false
unfolding spelled_content begins start_tag
no_close nothing x = refl
no_close (byte b rest) x =
    ap (begins (codes ">")) (append_assoc (text_spelling b) (spelled_content rest) (60 ∷ x)) ∙ close_tests b (spelled_content rest ++ 60 ∷ x) (eqb b 38) (eqb b 60) (eqb b 62) (eqb b 13) refl
no_close (element n a i rest) x = refl

no_bracket : (c : Content) (x : List ℕ) → begins (codes "]>") (spelled_content c ++ 60 ∷ x) ≡ false
unfolding spelled_content begins start_tag
no_bracket nothing x = refl
no_bracket (byte b rest) x =
    ap (begins (codes "]>")) (append_assoc (text_spelling b) (spelled_content rest) (60 ∷ x))
    ∙ bracket_tests b (spelled_content rest ++ 60 ∷ x) (eqb b 38) (eqb b 60) (eqb b 62) (eqb b 13) (no_close rest x)
no_bracket (element n a i rest) x = refl

no_section : (b : ℕ) (c : Content) (x : List ℕ) → begins (codes "]]>") (b ∷ (spelled_content c ++ 60 ∷ x)) ≡ false
unfolding begins
no_section b c x = ap (λ t. eqb b 93 && t) (no_bracket c x) ∙ and_false (eqb b 93)

apart_from : (name rest : List ℕ) → is_qname name ≡ true → (begins (codes "</") (60 ∷ (name ++ rest)) ≡ false) × (begins (codes "!") (name ++ rest) ≡ false) × (begins (codes "?") (name ++ rest) ≡ false)
unfolding begins
apart_from name rest is =
    let b = begun_apart name rest is in (
      ap (λ w. begins (codes "</") (60 ∷ w)) b.2 ∙ ap (λ t. t && true) b.3.2,
      ap (begins (codes "!")) b.2 ∙ ap (λ t. t && true) b.3.3,
      ap (begins (codes "?")) b.2 ∙ ap (λ t. t && true) b.3.4,
    )

byte_followed : (b : ℕ) (c : Content) → followed_by (text_of (b ∷ [])) c ≡ byte b c
unfolding followed_by text_of
byte_followed b c = refl

element_followed : (n : List ℕ) (a : List Attribute) (i c : Content) → followed_by (alone (record { name = n; attributes = a; content = i })) c ≡ element n a i c
unfolding followed_by
element_followed n a i c = refl

pub content_parts : (levels : ℕ) (scope : Scope) (n : List ℕ) (a : List Attribute) (i rest : Content) → is_content_whole levels scope (element n a i rest) ≡ true
    → (not (eqb levels 0) ≡ true) × (is_tag_whole scope n a ≡ true) × (is_content_whole (levels - 1) (within scope a) i ≡ true) × (is_content_whole levels scope rest ≡ true)
unfolding is_content_whole
content_parts levels scope n a i rest is =
    let one = and_parts (not (eqb levels 0) && is_tag_whole scope n a && is_content_whole (levels - 1) (within scope a) i) (is_content_whole levels scope rest) is in
    let two = and_parts (not (eqb levels 0) && is_tag_whole scope n a) (is_content_whole (levels - 1) (within scope a) i) one.0 in
    let three = and_parts (not (eqb levels 0)) (is_tag_whole scope n a) two.0 in
    (three.0, three.1, two.1, one.1)

pub byte_part : (levels : ℕ) (scope : Scope) (b : ℕ) (rest : Content) → is_content_whole levels scope (byte b rest) ≡ true → is_content_whole levels scope rest ≡ true
unfolding is_content_whole
byte_part levels scope b rest is = is

element_goes : (levels : ℕ) (scope : Scope) (name : List ℕ) (attributes : List Attribute) (c : Content) (rest : List ℕ) → not (eqb levels 0) ≡ true → Whole scope name attributes
    → ((x : List ℕ) → Goes followed_by (contents (levels - 1) (within scope attributes)) (spelled_content c ++ 60 ∷ x) (60 ∷ x) c)
    → Goes followed_by (contents levels scope) (start_tag name attributes ++ (spelled_content c ++ (end_tag name ++ rest))) rest (alone (record { name = name; attributes = attributes; content = c }))
unfolding begins
element_goes levels scope name attributes c rest some w goes =
    let tail : List ℕ = flat_map spelled_attribute attributes ++ 62 ∷ (spelled_content c ++ 60 ∷ 47 ∷ (name ++ 62 ∷ rest)) in
    let tree : Tree = record { name = name; attributes = attributes; content = c } in
    let apart = apart_from name tail w.named in
    let long : length rest < length (60 ∷ (name ++ tail)) =
    let one = length-append name tail in
    let two = length-append (flat_map spelled_attribute attributes) (62 ∷ (spelled_content c ++ 60 ∷ 47 ∷ (name ++ 62 ∷ rest))) in
    let three = length-append (spelled_content c) (60 ∷ 47 ∷ (name ++ 62 ∷ rest)) in
    let four = length-append name (62 ∷ rest) in omega (arith, one, two, three, four) in
    subst (λ b. Goes followed_by (contents levels scope) b rest (alone tree)) (sym (element_text name attributes c rest))
    (piece_goes levels scope (60 ∷ (name ++ tail)) rest (alone tree) apart.0 long
    (λ steps enough. piece_markup (content_in steps) levels scope (60 ∷ (name ++ tail)) refl
    ∙ markup_element (content_in steps) levels scope (name ++ tail) apart.1 apart.2
    ∙ ap (λ r. r >>= λ e. read (alone e.0) e.1) (element_read levels scope name attributes c rest some w goes steps (omega arith))))

pub content_back : (c : Content) (levels : ℕ) (scope : Scope) → is_content_whole levels scope c ≡ true → (x : List ℕ) → Goes followed_by (contents levels scope) (spelled_content c ++ 60 ∷ x) (60 ∷ x) c
content_back nothing levels scope is x = subst (λ w. Goes followed_by (contents levels scope) (w ++ 60 ∷ x) (60 ∷ x) nothing) (sym nothing_spelled) (goes_none followed_by nothing followed_none (contents levels scope) (60 ∷ x))
content_back (byte b rest) levels scope is x =
    let tail : List ℕ = spelled_content rest ++ 60 ∷ x in
    let text : spelled_content (byte b rest) ++ 60 ∷ x ≡ text_spelling b ++ tail =
    ap (λ (w : List ℕ). w ++ 60 ∷ x) (byte_spelled b rest) ∙ append_assoc (text_spelling b) (spelled_content rest) (60 ∷ x) in
    subst (λ w. Goes followed_by (contents levels scope) w (60 ∷ x) (byte b rest)) (sym text)
    (subst (λ c. Goes followed_by (contents levels scope) (text_spelling b ++ tail) (60 ∷ x) c) (byte_followed b rest)
    (goes_then followed_by followed_joins (contents levels scope) (text_spelling b ++ tail) tail (60 ∷ x) (text_of (b ∷ [])) rest
    (text_byte_back levels scope b tail (no_section b rest x)) (content_back rest levels scope (byte_part levels scope b rest is) x)))
content_back (element n a i rest) levels scope is x =
    let parts = content_parts levels scope n a i rest is in
    let tree : Tree = record { name = n; attributes = a; content = i } in
    let tail : List ℕ = spelled_content rest ++ 60 ∷ x in
    let text : spelled_content (element n a i rest) ++ 60 ∷ x ≡ start_tag n a ++ (spelled_content i ++ (end_tag n ++ tail)) =
    ap (λ (w : List ℕ). w ++ 60 ∷ x) (element_spelled n a i rest)
    ∙ append_assoc (start_tag n a) (spelled_content i ++ (end_tag n ++ spelled_content rest)) (60 ∷ x)
    ∙ ap (λ (w : List ℕ). start_tag n a ++ w) (append_assoc (spelled_content i) (end_tag n ++ spelled_content rest) (60 ∷ x))
    ∙ ap (λ (w : List ℕ). start_tag n a ++ (spelled_content i ++ w)) (append_assoc (end_tag n) (spelled_content rest) (60 ∷ x)) in
    subst (λ w. Goes followed_by (contents levels scope) w (60 ∷ x) (element n a i rest)) (sym text)
    (subst (λ c. Goes followed_by (contents levels scope) (start_tag n a ++ (spelled_content i ++ (end_tag n ++ tail))) (60 ∷ x) c) (element_followed n a i rest)
    (goes_then followed_by followed_joins (contents levels scope) (start_tag n a ++ (spelled_content i ++ (end_tag n ++ tail))) tail (60 ∷ x) (alone tree) rest
    (element_goes levels scope n a i tail parts.0 (tag_parts scope n a parts.1) (λ y. content_back i (levels - 1) (within scope a) parts.2 y))
    (content_back rest levels scope parts.3 x)))

-- ---- a whole tree, behind its '<'

pub tree_parts : (levels : ℕ) (scope : Scope) (t : Tree) → is_whole_in levels scope t ≡ true
    → (not (eqb levels 0) ≡ true) × (is_tag_whole scope t.name t.attributes ≡ true) × (is_content_whole (levels - 1) (within scope t.attributes) t.content ≡ true)
unfolding is_whole_in
tree_parts levels scope t is =
    let one = and_parts (not (eqb levels 0) && is_tag_whole scope t.name t.attributes) (is_content_whole (levels - 1) (within scope t.attributes) t.content) is in
    let two = and_parts (not (eqb levels 0)) (is_tag_whole scope t.name t.attributes) one.0 in
    (two.0, two.1, one.1)

-- what a spelled tree is behind its '<', with what follows it
unfoldable pub behind_tag : Tree → List ℕ → List ℕ
behind_tag t rest = t.name ++ (flat_map spelled_attribute t.attributes ++ 62 ∷ (spelled_content t.content ++ 60 ∷ 47 ∷ (t.name ++ 62 ∷ rest)))

pub spelled_text : (t : Tree) (rest : List ℕ) → spelled t ++ rest ≡ 60 ∷ behind_tag t rest
unfolding behind_tag
spelled_text t rest =
    ap (λ (w : List ℕ). w ++ rest) (tree_spelled t)
    ∙ append_assoc (start_tag t.name t.attributes) (spelled_content t.content ++ end_tag t.name) rest
    ∙ ap (λ (w : List ℕ). start_tag t.name t.attributes ++ w) (append_assoc (spelled_content t.content) (end_tag t.name) rest)
    ∙ element_text t.name t.attributes t.content rest

pub tree_back : (levels : ℕ) (scope : Scope) (t : Tree) (rest : List ℕ) → is_whole_in levels scope t ≡ true → (steps : ℕ) → length (behind_tag t rest) < steps
    → element_in (content_in steps) levels scope (behind_tag t rest) ≡ Ok (t, rest)
unfolding behind_tag
tree_back levels scope t rest is steps enough =
    let parts = tree_parts levels scope t is in
    element_read levels scope t.name t.attributes t.content rest parts.0 (tag_parts scope t.name t.attributes parts.1)
    (λ y. content_back t.content (levels - 1) (within scope t.attributes) parts.2 y) steps enough
