-- When elements made of parts are whole.
use Rattle.std.proofs.Common.{◌≡◌, ◌∙◌, ◌-◌, ℕ, Bool, true, ◌&&◌, not, eqb, List, [], ◌∷◌, ◌++◌, length, map, codes, refl, ap, append-nil}
use Rattle.std.specs.Prelude.{filter, nat_le}
use Rattle.std.specs.List.{list_all}
use Rattle.std.specs.Str.{bytes_eq}
use Rattle.std.proofs.lemmas.Bool.{and_from, and_parts, cond-false, not-true, or_left}
use Rattle.std.proofs.lemmas.List.Folds.{list_all-append}
use Rattle.oai_names.proofs.Lists.{all-weaker}
use Rattle.oai_xml.specs.Ascii.{is_ascii_ncname}
use Rattle.oai_xml.specs.QNames.{is_prefixed, is_qname, prefix_of}
use Rattle.oai_xml.specs.Trees.{Attribute, Tree, text_of}
use Rattle.oai_xml.specs.Namespaces.{Scope, are_unlike, declaration_of, declared, is_bound, is_declaring}
use Rattle.oai_xml.specs.Whole.{are_names_whole, has_default, is_content_whole, is_tag_whole, is_whole_in, names_of, within}
use Rattle.oai_xml.specs.declared.limits.TheConstants.{MAX_ATTRIBUTES, MAX_DECLARATIONS}
use Rattle.oai_answers.specs.ElementParts.{bare_leaf, bare_parent, in_order, leaf, parent}
use Rattle.oai_documents.proofs.Names.{no_prefix, plain_qname, unprefixed}

pub both : {a b : Bool} → a ≡ true → b ≡ true → (a && b) ≡ true
both {a} {b} first second = and_from a b first second

-- ---- contents

pub text_whole : (levels : ℕ) (scope : Scope) (text : List ℕ) → is_content_whole levels scope (text_of text) ≡ true
unfolding text_of is_content_whole
text_whole levels scope [] = refl
text_whole levels scope (b ∷ text) = text_whole levels scope text

in_order_whole : (levels : ℕ) (scope : Scope) (trees : List Tree) → list_all (is_whole_in levels scope) trees ≡ true → is_content_whole levels scope (in_order trees) ≡ true
unfolding in_order is_content_whole is_whole_in
in_order_whole levels scope [] all = refl
in_order_whole levels scope (t ∷ trees) all =
    let parts = and_parts (is_whole_in levels scope t) (list_all (is_whole_in levels scope) trees) all in
    and_from (is_whole_in levels scope t) (is_content_whole levels scope (in_order trees)) parts.0 (in_order_whole levels scope trees parts.1)

-- ---- elements, by their tags

pub leaf_by_tag : (levels : ℕ) (scope : Scope) (name : List ℕ) (attributes : List Attribute) (text : List ℕ) → not (eqb levels 0) ≡ true → is_tag_whole scope name attributes ≡ true
    → is_whole_in levels scope (leaf name attributes text) ≡ true
unfolding is_whole_in
leaf_by_tag levels scope name attributes text some tag = both (both some tag) (text_whole (levels - 1) (within scope attributes) text)

pub parent_by_tag : (levels : ℕ) (scope : Scope) (name : List ℕ) (attributes : List Attribute) (trees : List Tree) → not (eqb levels 0) ≡ true → is_tag_whole scope name attributes ≡ true
    → list_all (is_whole_in (levels - 1) (within scope attributes)) trees ≡ true → is_whole_in levels scope (parent name attributes trees) ≡ true
unfolding is_whole_in
parent_by_tag levels scope name attributes trees some tag all = both (both some tag) (in_order_whole (levels - 1) (within scope attributes) trees all)

-- ---- tags without prefixes, where a default namespace is declared

pub record IsReady (scope : Scope) : Type 0 where
  pub default : has_default scope ≡ true
  pub few : nat_le (length scope) MAX_DECLARATIONS ≡ true

-- a name without a prefix, which declares nothing
abbrev pub is_plain_name : List ℕ → Bool
is_plain_name name = is_ascii_ncname name && not (is_declaring name)

pub record IsPlainTag (scope : Scope) (name : List ℕ) (attributes : List Attribute) : Type 0 where
  pub named : is_ascii_ncname name ≡ true
  pub plain : list_all is_plain_name (names_of attributes) ≡ true
  pub unlike : are_unlike scope (names_of attributes) ≡ true
  pub few : nat_le (length (names_of attributes)) MAX_ATTRIBUTES ≡ true

none_declared : (attributes : List Attribute) → list_all is_plain_name (names_of attributes) ≡ true → declared attributes ≡ []
unfolding declared
none_declared [] all = refl
none_declared (a ∷ attributes) all =
    let parts = and_parts (is_plain_name a.name) (list_all is_plain_name (names_of attributes)) all in
    let first = and_parts (is_ascii_ncname a.name) (not (is_declaring a.name)) parts.0 in
    let others : List Attribute = filter (λ (b : Attribute). is_declaring b.name) attributes in
    ap (map declaration_of) (cond-false (is_declaring a.name) (a ∷ others) others (not-true (is_declaring a.name) first.1)) ∙ none_declared attributes parts.1

same_scope : (scope : Scope) (attributes : List Attribute) → list_all is_plain_name (names_of attributes) ≡ true → within scope attributes ≡ scope
same_scope scope attributes all = ap (λ (w : Scope). scope ++ w) (none_declared attributes all) ∙ append-nil scope

name_bound : (scope : Scope) (name : List ℕ) → is_plain_name name ≡ true → is_bound scope name ≡ true
unfolding is_bound
name_bound scope name is =
    let parts = and_parts (is_ascii_ncname name) (not (is_declaring name)) is in or_left (not (is_prefixed name)) _ (ap not (unprefixed name parts.0))

pub own_bound : (scope : Scope) (name : List ℕ) → is_ascii_ncname name ≡ true → is_bound scope name ≡ true
unfolding is_bound
own_bound scope name is = or_left (not (is_prefixed name)) _ (ap not (unprefixed name is))

names_whole : (scope : Scope) (name : List ℕ) (attributes : List Attribute) → IsReady scope → IsPlainTag scope name attributes → are_names_whole scope [] name (names_of attributes) ≡ true
unfolding are_names_whole
names_whole scope name attributes ready t =
    let bound = all-weaker is_plain_name (is_bound scope) (name_bound scope) (names_of attributes) t.plain in
    let apart : not (bytes_eq (prefix_of name) (codes "xmlns")) ≡ true = ap (λ w. not (bytes_eq w (codes "xmlns"))) (no_prefix name t.named) in
    both ready.default (both (both (both (both (both (both t.few ready.few) refl) apart) (own_bound scope name t.named)) bound) t.unlike)

plain_qnames : (name : List ℕ) → is_plain_name name ≡ true → is_qname name ≡ true
plain_qnames name is = plain_qname name (and_parts (is_ascii_ncname name) (not (is_declaring name)) is).0

pub plain_tag : (scope : Scope) (name : List ℕ) (attributes : List Attribute) → IsReady scope → IsPlainTag scope name attributes → is_tag_whole scope name attributes ≡ true
unfolding is_tag_whole
plain_tag scope name attributes ready t =
    let names = ap (λ w. are_names_whole w (declared attributes) name (names_of attributes)) (same_scope scope attributes t.plain)
    ∙ ap (λ w. are_names_whole scope w name (names_of attributes)) (none_declared attributes t.plain) ∙ names_whole scope name attributes ready t in
    both (both (plain_qname name t.named) (all-weaker is_plain_name is_qname plain_qnames (names_of attributes) t.plain)) names

pub bare_tag : (scope : Scope) (name : List ℕ) → is_ascii_ncname name ≡ true → IsPlainTag scope name []
unfolding are_unlike
bare_tag scope name is = record { named = is; plain = refl; unlike = refl; few = refl }

pub leaf_whole : (levels : ℕ) (scope : Scope) (name : List ℕ) (attributes : List Attribute) (text : List ℕ) → not (eqb levels 0) ≡ true → IsReady scope → IsPlainTag scope name attributes
    → is_whole_in levels scope (leaf name attributes text) ≡ true
leaf_whole levels scope name attributes text some ready t = leaf_by_tag levels scope name attributes text some (plain_tag scope name attributes ready t)

pub parent_whole : (levels : ℕ) (scope : Scope) (name : List ℕ) (attributes : List Attribute) (trees : List Tree) → not (eqb levels 0) ≡ true → IsReady scope → IsPlainTag scope name attributes
    → list_all (is_whole_in (levels - 1) scope) trees ≡ true → is_whole_in levels scope (parent name attributes trees) ≡ true
parent_whole levels scope name attributes trees some ready t all =
    parent_by_tag levels scope name attributes trees some (plain_tag scope name attributes ready t)
    (ap (λ (s : Scope). list_all (is_whole_in (levels - 1) s) trees) (same_scope scope attributes t.plain) ∙ all)

pub bare_leaf_whole : (levels : ℕ) (scope : Scope) (name text : List ℕ) → not (eqb levels 0) ≡ true → IsReady scope → is_ascii_ncname name ≡ true
    → is_whole_in levels scope (bare_leaf name text) ≡ true
bare_leaf_whole levels scope name text some ready is = leaf_whole levels scope name [] text some ready (bare_tag scope name is)

pub bare_parent_whole : (levels : ℕ) (scope : Scope) (name : List ℕ) (trees : List Tree) → not (eqb levels 0) ≡ true → IsReady scope → is_ascii_ncname name ≡ true
    → list_all (is_whole_in (levels - 1) scope) trees ≡ true → is_whole_in levels scope (bare_parent name trees) ≡ true
bare_parent_whole levels scope name trees some ready is all = parent_whole levels scope name [] trees some ready (bare_tag scope name is) all

-- ---- lists of elements

pub each_whole : {A : Type 0} (levels : ℕ) (scope : Scope) (tree : A → Tree) (good : A → Bool) → ((a : A) → good a ≡ true → is_whole_in levels scope (tree a) ≡ true)
    → (xs : List A) → list_all good xs ≡ true → list_all (is_whole_in levels scope) (map tree xs) ≡ true
each_whole levels scope tree good is [] all = refl
each_whole levels scope tree good is (x ∷ xs) all =
    let parts = and_parts (good x) (list_all good xs) all in both (is x parts.0) (each_whole levels scope tree good is xs parts.1)

pub all_whole : {A : Type 0} (levels : ℕ) (scope : Scope) (tree : A → Tree) → ((a : A) → is_whole_in levels scope (tree a) ≡ true)
    → (xs : List A) → list_all (is_whole_in levels scope) (map tree xs) ≡ true
all_whole levels scope tree is [] = refl
all_whole levels scope tree is (x ∷ xs) = both (is x) (all_whole levels scope tree is xs)

pub and_others : (levels : ℕ) (scope : Scope) (xs ys : List Tree) → list_all (is_whole_in levels scope) xs ≡ true → list_all (is_whole_in levels scope) ys ≡ true
    → list_all (is_whole_in levels scope) (xs ++ ys) ≡ true
and_others levels scope xs ys first second = list_all-append (is_whole_in levels scope) xs ys ∙ both first second
