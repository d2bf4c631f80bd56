use Rattle.std.proofs.Common.{rules, ◌≡◌, ◌∙◌, ℕ, true, List, [], ◌∷◌, refl, sym, ap, arith}
use Rattle.std.proofs.lemmas.Bool.{and_parts}
use Rattle.std.specs.List.{list_all}
use Rattle.oai_names.specs.ByteTests.{is_bare_byte}
use Rattle.oai_names.specs.Escapes.{escaped, escaped_text, text_spelling}
use Rattle.oai_names.proofs.escapes.escape_text.Goals as goal

bare_byte : (b : ℕ) → is_bare_byte b ≡ true → text_spelling b ≡ b ∷ []
bare_byte b is = grind (arith, is)

-- bytes that stand for themselves are spelled as they are
bare : (text : List ℕ) → list_all is_bare_byte text ≡ true → escaped_text text ≡ text
unfolding escaped
bare [] all = refl
bare (b ∷ text) all =
    let parts = and_parts (is_bare_byte b) (list_all is_bare_byte text) all in
    rw (bare_byte b parts.0) (ap (λ (bs : List ℕ). b ∷ bs) (bare text parts.1))

pub returns-then-all_pass-clause-ok : goal.returns-then-all_pass-clause-ok
returns-then-all_pass-clause-ok c =
    let all : list_all is_bare_byte c.args.text.now ≡ true =
    sym (ap (list_all is_bare_byte) c.as_bytes.ensures.value) ∙ sym c.all_pass.ensures ∙ c.if-all_pass.true in
    rw (bare c.args.text.now all) (search rules)
