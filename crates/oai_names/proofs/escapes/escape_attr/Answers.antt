use Rattle.std.proofs.Common.{rules, ◌≡◌, ◌∙◌, ℕ, true, List, [], ◌∷◌, refl, sym, ap, arith}
use Rattle.std.proofs.lemmas.Bool.{and_parts}
use Rattle.std.specs.List.{list_all}
use Rattle.oai_names.specs.ByteTests.{is_bare_in_value}
use Rattle.oai_names.specs.Escapes.{attribute_spelling, escaped, escaped_attribute}
use Rattle.oai_names.proofs.escapes.escape_attr.Goals as goal

bare_byte : (b : ℕ) → is_bare_in_value b ≡ true → attribute_spelling b ≡ b ∷ []
bare_byte b is = grind (arith, is)

-- bytes that stand for themselves are spelled as they are
bare : (text : List ℕ) → list_all is_bare_in_value text ≡ true → escaped_attribute text ≡ text
unfolding escaped
bare [] all = refl
bare (b ∷ text) all =
    let parts = and_parts (is_bare_in_value b) (list_all is_bare_in_value text) all in
    rw (bare_byte b parts.0) (ap (λ (bs : List ℕ). b ∷ bs) (bare text parts.1))

pub returns-then-all_pass-clause-ok : goal.returns-then-all_pass-clause-ok
returns-then-all_pass-clause-ok c =
    let all : list_all is_bare_in_value c.args.text.now ≡ true =
    sym (ap (list_all is_bare_in_value) c.as_bytes.ensures.value) ∙ sym c.all_pass.ensures ∙ c.if-all_pass.true in
    rw (bare c.args.text.now all) (search rules)
