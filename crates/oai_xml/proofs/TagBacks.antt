-- What is spelled is read back: names, attributes and tags.
use Rattle.std.proofs.Common.{◌≡◌, ◌∙◌, ◌+◌, ◌<◌, ◌≤◌, ℕ, suc, Bool, true, false, ◌&&◌, ◌||◌, not, cond, eqb, List, [], ◌∷◌, ◌++◌, Ok, Err, length, take, drop, refl, sym, ap, subst, arith, append_assoc, append-nil}
use Rattle.std.specs.Prelude.{codes}
use Rattle.std.specs.List.{list_all, flat_map, prefix_len}
use Rattle.std.proofs.lemmas.Bool.{and_parts, cond-true, cond-false, ne_eqb}
use Rattle.std.proofs.lemmas.Bool.Decides.{nat_tests}
use Rattle.std.proofs.lemmas.List.{take_at, drop_at, length-append}
use Rattle.oai_names.specs.Escapes.{escaped_attribute}
use Rattle.oai_xml.specs.Answers.{Goes}
use Rattle.oai_xml.specs.Readings.{Reading, ◌>>=◌, read, begins, past}
use Rattle.oai_xml.specs.Parts.{is_space, past_spaces, past_space, past_equals, name_in, qname_in}
use Rattle.oai_xml.specs.QNames.{is_name_byte, is_qname, is_prefixed, prefix_of, local_of, is_ncname}
use Rattle.oai_xml.specs.Tags.{quoted_in, attribute_in, spaced_attribute_in, ends_tag, attributes_in, start_in, end_in}
use Rattle.oai_xml.specs.Trees.{Attribute, spelled_attribute}
use Rattle.oai_xml.specs.Whole.{names_of}
use Rattle.oai_xml.proofs.Goings.{goes_none, goes_then, goes_end}
use Rattle.oai_xml.proofs.ValueLemmas.{cat, cat_joins, values, value_closed}
use Rattle.oai_xml.proofs.AttributeLemmas.{attribute_goes, attributes_closed}
use Rattle.oai_xml.proofs.NameLemmas.{qname_some}
use Rattle.oai_xml.proofs.Backs.{value_back}

-- ---- names

whole_prefix : (p : ℕ → Bool) (xs rest : List ℕ) (y : ℕ) → list_all p xs ≡ true → p y ≡ false → prefix_len p (xs ++ y ∷ rest) ≡ length xs
whole_prefix p [] rest y all stops = cond-false (p y) (1 + prefix_len p rest) 0 stops
whole_prefix p (x ∷ xs) rest y all stops =
    let parts = and_parts (p x) (list_all p xs) all in
    let others = whole_prefix p xs rest y parts.1 stops in
    cond-true (p x) (1 + prefix_len p (xs ++ y ∷ rest)) 0 parts.0 ∙ omega (arith, others)

pub named : (name : List ℕ) → is_qname name ≡ true → list_all is_name_byte name ≡ true
unfolding is_qname
named name is =
    let front = (and_parts (list_all is_name_byte name && (not (is_prefixed name) || is_ncname (prefix_of name))) (is_ncname (local_of name)) is).0 in
    (and_parts (list_all is_name_byte name) (not (is_prefixed name) || is_ncname (prefix_of name)) front).0

read_name : (passes : List ℕ → Bool) (bytes name rest : List ℕ) (n : ℕ) → n ≡ prefix_len is_name_byte bytes → take n bytes ≡ name → drop n bytes ≡ rest → passes name ≡ true
    → name_in passes bytes ≡ Ok (name, rest)
unfolding name_in
read_name passes bytes name rest n len front back is =
    let P : ℕ → Type 0 = λ m. (if_named passes (take m bytes) (drop m bytes) (length bytes) ≡ Ok (name, rest)) in
    subst P len (ap (λ w. if_named passes w (drop n bytes) (length bytes)) front ∙ ap (λ w. if_named passes name w (length bytes)) back ∙ cond-true (passes name) _ _ is)
  where
    if_named : (List ℕ → Bool) → List ℕ → List ℕ → ℕ → Reading (List ℕ)
    if_named passes name rest left = cond (passes name) (read name rest) (Err left)

pub name_back : (name rest : List ℕ) (y : ℕ) → is_qname name ≡ true → is_name_byte y ≡ false → qname_in (name ++ y ∷ rest) ≡ Ok (name, y ∷ rest)
name_back name rest y is stops =
    read_name is_qname (name ++ y ∷ rest) name (y ∷ rest) (length name) (sym (whole_prefix is_name_byte name rest y (named name is) stops))
    (take_at name (y ∷ rest) (length name) refl) (drop_at name (y ∷ rest) (length name) refl) is

none_less : (n : ℕ) → n ≡ 0 → 0 < n → ⊥
none_less n none some = omega arith

-- a name begins with one of its bytes
pub begun : (name : List ℕ) → is_qname name ≡ true → (x : ℕ) × (others : List ℕ) × (name ≡ x ∷ others) × (is_name_byte x ≡ true)
begun [] is = absurd (none_less 0 refl (qname_some [] is))
begun (x ∷ name) is = (x, name, refl, (and_parts (is_name_byte x) (list_all is_name_byte name) (named (x ∷ name) is)).0)

name_apart : (x : ℕ) → is_name_byte x ≡ true
    → (is_space x ≡ false) × (eqb x 62 ≡ false) × (eqb x 47 ≡ false) × (eqb x 33 ≡ false) × (eqb x 63 ≡ false)
name_apart x is = (grind (arith, nat_tests, is), grind (arith, nat_tests, is), grind (arith, nat_tests, is), grind (arith, nat_tests, is), grind (arith, nat_tests, is))

pub begun_apart : (name rest : List ℕ) → is_qname name ≡ true → (x : ℕ) × (others : List ℕ) × (name ++ rest ≡ x ∷ others)
    × ((is_space x ≡ false) × (eqb x 62 ≡ false) × (eqb x 47 ≡ false) × (eqb x 33 ≡ false) × (eqb x 63 ≡ false))
begun_apart name rest is =
    let b = begun name is in
    (b.0, b.1 ++ rest, ap (λ (w : List ℕ). w ++ rest) b.2, name_apart b.0 b.3)

-- ---- white space, and literals

pub no_spaces : (x : ℕ) (rest : List ℕ) → is_space x ≡ false → past_spaces (x ∷ rest) ≡ x ∷ rest
unfolding past_spaces
no_spaces x rest none = cond-false (is_space x) (past_spaces rest) (x ∷ rest) none

one_space : (rest : List ℕ) → past_spaces (32 ∷ rest) ≡ past_spaces rest
unfolding past_spaces
one_space rest = refl

spaces_len : (rest : List ℕ) → length (past_spaces rest) ≤ length rest
unfolding past_spaces
spaces_len [] = omega arith
spaces_len (x ∷ rest) = by_test (is_space x) (past_spaces rest) (spaces_len rest)
  where
    by_test : (t : Bool) (passed : List ℕ) → length passed ≤ length rest → length (cond t passed (x ∷ rest)) ≤ length (x ∷ rest)
    by_test true passed others = omega (arith, others)
    by_test false passed others = omega arith

pub space_read : (rest : List ℕ) → past_space (32 ∷ rest) ≡ Ok (past_spaces (32 ∷ rest))
unfolding past_space
space_read rest =
    cond-false (eqb (length (past_spaces (32 ∷ rest))) (length (32 ∷ rest))) _ _
    (ne_eqb (length (past_spaces (32 ∷ rest))) (length (32 ∷ rest)) (λ same. let less = spaces_len rest in let e = ap length (one_space rest) in omega (arith, same, less, e)))

equals_read : (rest : List ℕ) → past_equals (61 ∷ 34 ∷ rest) ≡ Ok (34 ∷ rest)
unfolding past_equals past past_spaces
equals_read rest = refl

-- ---- attributes

quoted_back : (value rest : List ℕ) → quoted_in (34 ∷ (escaped_attribute value ++ 34 ∷ rest)) ≡ Ok (value, rest)
unfolding quoted_in
quoted_back value rest =
    goes_end cat (values 34) (escaped_attribute value ++ 34 ∷ rest) (34 ∷ rest) rest value [] (value_back value (34 ∷ rest)) (value_closed 34 34 rest refl)
    (suc (length (escaped_attribute value ++ 34 ∷ rest))) (omega arith)
    ∙ ap (λ (w : List ℕ). Ok (w, rest)) (append-nil value)

attribute_read : (name value bytes rest : List ℕ) → qname_in bytes ≡ Ok (name, 61 ∷ 34 ∷ (escaped_attribute value ++ 34 ∷ rest))
    → attribute_in bytes ≡ Ok (record { name = name; value = value }, rest)
unfolding attribute_in
attribute_read name value bytes rest is =
    ap (λ r. r >>= λ n. past_equals n.1 >>= λ rest. quoted_in rest >>= λ v. read (record { name = n.0; value = v.0 }) v.1) is
    ∙ ap (λ r. r >>= λ rest. quoted_in rest >>= λ v. read (record { name = name; value = v.0 }) v.1) (equals_read (escaped_attribute value ++ 34 ∷ rest))
    ∙ ap (λ r. r >>= λ v. read (record { name = name; value = v.0 }) v.1) (quoted_back value rest)

-- how a spelled attribute stands before what follows it
attribute_split : (a : Attribute) (rest : List ℕ) → spelled_attribute a ++ rest ≡ 32 ∷ (a.name ++ 61 ∷ 34 ∷ (escaped_attribute a.value ++ 34 ∷ rest))
unfolding spelled_attribute
attribute_split a rest =
    ap (λ (w : List ℕ). 32 ∷ w) (append_assoc a.name (61 ∷ 34 ∷ (escaped_attribute a.value ++ 34 ∷ [])) rest
    ∙ ap (λ (w : List ℕ). a.name ++ 61 ∷ 34 ∷ w) (append_assoc (escaped_attribute a.value) (34 ∷ []) rest))

spaced_read : (bytes rest : List ℕ) (a : Attribute) → past_space bytes ≡ Ok rest → (more : List ℕ) → attribute_in rest ≡ Ok (a, more) → spaced_attribute_in bytes ≡ Ok (a, more)
unfolding spaced_attribute_in
spaced_read bytes rest a is more then_is = ap (λ r. r >>= λ rest. attribute_in rest) is ∙ then_is

ends_not : (x : ℕ) (rest : List ℕ) → eqb x 62 ≡ false → eqb x 47 ≡ false → ends_tag (x ∷ rest) ≡ false
unfolding begins
ends_not x rest close slash = rw (close, slash) refl

attribute_back : (a : Attribute) (rest : List ℕ) → is_qname a.name ≡ true → Goes cat attributes_in (spelled_attribute a ++ rest) rest (a ∷ [])
attribute_back a rest is =
    let text : List ℕ = a.name ++ 61 ∷ 34 ∷ (escaped_attribute a.value ++ 34 ∷ rest) in
    let b = begun_apart a.name (61 ∷ 34 ∷ (escaped_attribute a.value ++ 34 ∷ rest)) is in
    let passed : past_spaces (32 ∷ text) ≡ text = one_space text ∙ ap past_spaces b.2 ∙ no_spaces b.0 b.1 b.3.0 ∙ sym b.2 in
    let apart : ends_tag (past_spaces (32 ∷ text)) ≡ false = ap ends_tag (passed ∙ b.2) ∙ ends_not b.0 b.1 b.3.1 b.3.2 in
    let long : length rest < length (32 ∷ text) =
    let one = length-append a.name (61 ∷ 34 ∷ (escaped_attribute a.value ++ 34 ∷ rest)) in
    let two = length-append (escaped_attribute a.value) (34 ∷ rest) in omega (arith, one, two) in
    subst (λ w. Goes cat attributes_in w rest (a ∷ [])) (sym (attribute_split a rest))
    (attribute_goes (32 ∷ text) rest a apart long
    (spaced_read (32 ∷ text) text a (space_read text ∙ ap (λ (w : List ℕ). Ok w) passed) rest
    (attribute_read a.name a.value text rest (name_back a.name (34 ∷ (escaped_attribute a.value ++ 34 ∷ rest)) 61 is refl))))

pub attributes_back : (attributes : List Attribute) (rest : List ℕ) → list_all is_qname (names_of attributes) ≡ true
    → Goes cat attributes_in (flat_map spelled_attribute attributes ++ rest) rest attributes
attributes_back [] rest all = goes_none cat [] (λ a. refl) attributes_in rest
attributes_back (a ∷ attributes) rest all =
    let parts = and_parts (is_qname a.name) (list_all is_qname (names_of attributes)) all in
    subst (λ w. Goes cat attributes_in w rest (a ∷ attributes)) (sym (append_assoc (spelled_attribute a) (flat_map spelled_attribute attributes) rest))
    (goes_then cat cat_joins attributes_in (spelled_attribute a ++ (flat_map spelled_attribute attributes ++ rest)) (flat_map spelled_attribute attributes ++ rest) rest (a ∷ []) attributes
    (attribute_back a (flat_map spelled_attribute attributes ++ rest) parts.0) (attributes_back attributes rest parts.1))

-- ---- start tags

-- what follows the name in a start tag is no byte of a name
follows : (attributes : List Attribute) (rest : List ℕ) → (y : ℕ) × (others : List ℕ) × (flat_map spelled_attribute attributes ++ 62 ∷ rest ≡ y ∷ others) × (is_name_byte y ≡ false)
follows [] rest = (62, rest, refl, refl)
follows (a ∷ attributes) rest = (
  32,
  a.name ++ 61 ∷ 34 ∷ (escaped_attribute a.value ++ 34 ∷ (flat_map spelled_attribute attributes ++ 62 ∷ rest)),
  append_assoc (spelled_attribute a) (flat_map spelled_attribute attributes) (62 ∷ rest) ∙ attribute_split a (flat_map spelled_attribute attributes ++ 62 ∷ rest),
  refl,
)

closing : (rest : List ℕ) → (past_spaces (62 ∷ rest) ≡ 62 ∷ rest) × (ends_tag (62 ∷ rest) ≡ true)
unfolding past_spaces begins
closing rest = (refl, refl)

attributes_read : (attributes : List Attribute) (rest : List ℕ) → list_all is_qname (names_of attributes) ≡ true → (steps : ℕ) → length (flat_map spelled_attribute attributes ++ 62 ∷ rest) < steps
    → attributes_in steps (flat_map spelled_attribute attributes ++ 62 ∷ rest) ≡ Ok (attributes, 62 ∷ rest)
attributes_read attributes rest all steps enough =
    let here = closing rest in
    let closed : (steps : ℕ) → length (62 ∷ rest) < steps → attributes_in steps (62 ∷ rest) ≡ Ok ([], 62 ∷ rest) =
    λ steps enough. attributes_closed (62 ∷ rest) (ap ends_tag here.0 ∙ here.1) steps enough ∙ ap (λ (w : List ℕ). Ok ([], w)) here.0 in
    goes_end cat attributes_in (flat_map spelled_attribute attributes ++ 62 ∷ rest) (62 ∷ rest) (62 ∷ rest) attributes [] (attributes_back attributes (62 ∷ rest) all) closed steps enough
    ∙ ap (λ (w : List Attribute). Ok (w, 62 ∷ rest)) (append-nil attributes)

start_read : (bytes name rest more : List ℕ) (attributes : List Attribute) → qname_in bytes ≡ Ok (name, rest) → attributes_in (suc (length rest)) rest ≡ Ok (attributes, more)
    → start_in bytes ≡ Ok (record { name = name; attributes = attributes }, more)
unfolding start_in
start_read bytes name rest more attributes named_so so =
    ap (λ r. r >>= λ n. attributes_in (suc (length n.1)) n.1 >>= λ a. read (record { name = n.0; attributes = a.0 }) a.1) named_so
    ∙ ap (λ r. r >>= λ a. read (record { name = name; attributes = a.0 }) a.1) so

pub start_back : (name rest : List ℕ) (attributes : List Attribute) → is_qname name ≡ true → list_all is_qname (names_of attributes) ≡ true
    → start_in (name ++ (flat_map spelled_attribute attributes ++ 62 ∷ rest)) ≡ Ok (record { name = name; attributes = attributes }, 62 ∷ rest)
start_back name rest attributes is all =
    let text : List ℕ = flat_map spelled_attribute attributes ++ 62 ∷ rest in
    let f = follows attributes rest in
    let named_so : qname_in (name ++ text) ≡ Ok (name, text) =
    ap (λ (w : List ℕ). qname_in (name ++ w)) f.2 ∙ name_back name f.1 f.0 is f.3 ∙ ap (λ (w : List ℕ). Ok (name, w)) (sym f.2) in
    start_read (name ++ text) name text (62 ∷ rest) attributes named_so (attributes_read attributes rest all (suc (length text)) (omega arith))

-- ---- end tags

past_own : (literal rest : List ℕ) → past literal (literal ++ rest) ≡ Ok rest
unfolding past
past_own [] rest = refl
past_own (x ∷ literal) rest = cond-true (eqb x x) _ _ (grind (arith, nat_tests)) ∙ past_own literal rest

close_read : (rest : List ℕ) → past (codes ">") (past_spaces (62 ∷ rest)) ≡ Ok rest
unfolding past past_spaces
close_read rest = refl

pub end_back : (name rest : List ℕ) → end_in name (name ++ 62 ∷ rest) ≡ Ok rest
unfolding end_in
end_back name rest = ap (λ r. r >>= λ rest. past (codes ">") (past_spaces rest)) (past_own name (62 ∷ rest)) ∙ close_read rest
