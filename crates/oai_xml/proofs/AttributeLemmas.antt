-- Attributes: what each step of a reading reads, and what is kept of them.
use Rattle.std.proofs.Common.{◌≡◌, ◌∙◌, ◌<◌, ℕ, zero, suc, true, false, List, [], ◌∷◌, ◌++◌, Ok, Err, length, map, refl, sym, ap, arith, append_assoc, append-nil}
use Rattle.std.specs.Prelude.{filter}
use Rattle.std.specs.List.{flat_map}
use Rattle.std.proofs.lemmas.Bool.{cond-true, cond-false}
use Rattle.std.proofs.lemmas.Grind.{flat_map-append}
use Rattle.std.proofs.lemmas.List.{map-append}
use Rattle.std.proofs.lemmas.List.Elements.{filter-append}
use Rattle.oai_xml.specs.Answers.{before, Goes, Tells}
use Rattle.oai_xml.specs.Readings.{Reading, ◌>>=◌, read}
use Rattle.oai_xml.specs.Parts.{past_spaces}
use Rattle.oai_xml.specs.Tags.{attributes_in, spaced_attribute_in, ends_tag}
use Rattle.oai_xml.specs.Trees.{Attribute, spelled_attribute}
use Rattle.oai_xml.specs.Namespaces.{Scope, declared, declaration_of, is_declaring}
use Rattle.oai_xml.specs.Whole.{names_of}
use Rattle.oai_xml.proofs.ValueLemmas.{cat}

bound : (a : Attribute) (r : Reading (List Attribute)) → (r >>= λ more. read (a ∷ more.0) more.1) ≡ before cat (a ∷ []) r
bound a (Ok r) = refl
bound a (Err left) = refl

went : (steps : ℕ) (bytes rest : List ℕ) (a : Attribute) → ends_tag (past_spaces bytes) ≡ false → spaced_attribute_in bytes ≡ Ok (a, rest)
    → attributes_in (suc steps) bytes ≡ before cat (a ∷ []) (attributes_in steps rest)
unfolding attributes_in
went steps bytes rest a apart is =
    cond-false (ends_tag (past_spaces bytes)) _ _ apart
    ∙ ap (λ r. r >>= λ a. attributes_in steps a.1 >>= λ more. read (a.0 ∷ more.0) more.1) is ∙ bound a (attributes_in steps rest)

pub attribute_goes : (bytes rest : List ℕ) (a : Attribute) → ends_tag (past_spaces bytes) ≡ false → length rest < length bytes → spaced_attribute_in bytes ≡ Ok (a, rest)
    → Goes cat attributes_in bytes rest (a ∷ [])
attribute_goes bytes rest a apart shorter is = record { goes = by_steps }
  where
    by_steps : (steps : ℕ) → length bytes < steps → (others : ℕ) × (length rest < others) × (attributes_in steps bytes ≡ before cat (a ∷ []) (attributes_in others rest))
    by_steps zero enough = absurd (omega arith)
    by_steps (suc steps) enough = (steps, omega arith, went steps bytes rest a apart is)

failed : (steps : ℕ) (bytes : List ℕ) (left : ℕ) → ends_tag (past_spaces bytes) ≡ false → spaced_attribute_in bytes ≡ Err left → attributes_in (suc steps) bytes ≡ Err left
unfolding attributes_in
failed steps bytes left apart is =
    cond-false (ends_tag (past_spaces bytes)) _ _ apart ∙ ap (λ r. r >>= λ a. attributes_in steps a.1 >>= λ more. read (a.0 ∷ more.0) more.1) is

pub attribute_wrong : (bytes : List ℕ) (left : ℕ) → ends_tag (past_spaces bytes) ≡ false → spaced_attribute_in bytes ≡ Err left
    → (steps : ℕ) → length bytes < steps → attributes_in steps bytes ≡ Err left
attribute_wrong bytes left apart is zero enough = absurd (omega arith)
attribute_wrong bytes left apart is (suc steps) enough = failed steps bytes left apart is

closed : (steps : ℕ) (bytes : List ℕ) → ends_tag (past_spaces bytes) ≡ true → attributes_in (suc steps) bytes ≡ Ok ([], past_spaces bytes)
unfolding attributes_in
closed steps bytes here = cond-true (ends_tag (past_spaces bytes)) _ _ here

pub attributes_closed : (bytes : List ℕ) → ends_tag (past_spaces bytes) ≡ true → (steps : ℕ) → length bytes < steps → attributes_in steps bytes ≡ Ok ([], past_spaces bytes)
attributes_closed bytes here zero enough = absurd (omega arith)
attributes_closed bytes here (suc steps) enough = closed steps bytes here

-- ---- what is kept of them

pub declared_cat : (xs ys : List Attribute) → declared (xs ++ ys) ≡ declared xs ++ declared ys
unfolding declared
declared_cat xs ys =
    ap (map declaration_of) (filter-append (λ a. is_declaring a.name) xs ys)
    ∙ map-append declaration_of (filter (λ a. is_declaring a.name) xs) (filter (λ a. is_declaring a.name) ys)

pub names_cat : (xs ys : List Attribute) → names_of (xs ++ ys) ≡ names_of xs ++ names_of ys
names_cat xs ys = map-append (λ a. a.name) xs ys

pub tells_none : (names : List (List ℕ)) (scope : Scope) (out : List ℕ) → Tells [] names names scope scope out out
unfolding declared
tells_none names scope out = record { names_are = sym (append-nil names); scope_is = sym (append-nil scope); out_is = sym (append-nil out) }

pub tells_then : (a b : List Attribute) (n n1 n2 : List (List ℕ)) (s s1 s2 : Scope) (o o1 o2 : List ℕ) → Tells a n n1 s s1 o o1 → Tells b n1 n2 s1 s2 o1 o2 → Tells (a ++ b) n n2 s s2 o o2
tells_then a b n n1 n2 s s1 s2 o o1 o2 first second = record {
  names_are = second.names_are ∙ ap (λ w. w ++ names_of b) first.names_are ∙ append_assoc n (names_of a) (names_of b) ∙ ap (λ w. n ++ w) (sym (names_cat a b));
  scope_is = second.scope_is ∙ ap (λ w. w ++ declared b) first.scope_is ∙ append_assoc s (declared a) (declared b) ∙ ap (λ w. s ++ w) (sym (declared_cat a b));
  out_is = second.out_is ∙ ap (λ w. w ++ flat_map spelled_attribute b) first.out_is ∙ append_assoc o (flat_map spelled_attribute a) (flat_map spelled_attribute b)
      ∙ ap (λ w. o ++ w) (sym (flat_map-append spelled_attribute a b));
}
