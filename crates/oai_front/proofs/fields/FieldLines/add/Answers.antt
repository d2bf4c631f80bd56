-- One value more where the field has the name, and none else.
use Rattle.std.proofs.Common.{◌≡◌, ◌∙◌, ◌++◌, ◌∷◌, [], List, ℕ, sym, subst}
use Rattle.httparse.specs.Spans.{header_bytes}
use Rattle.oai_front.specs.Fields.{values_named}
use Rattle.oai_front.specs.HeadFields.{AreLines}
use Rattle.oai_front.proofs.FieldLemmas.{lines_more, values_more, values_same}
use Rattle.oai_front.proofs.fields.FieldLines.add.Goals as goal

pub returns-then-is_named : goal.returns-then-is_named
returns-then-is_named c = λ fields lines.
    let field = header_bytes c.args.bytes.now c.args.header.now in
    let values = values_named c.args.name.now fields in
    let more : values_named c.args.name.now (fields ++ field ∷ []) ≡ values ++ field.1 ∷ [] = values_more c.args.name.now fields field (sym c.is_named.ensures ∙ c.if-is_named.true) in
    rw (more, c.or-self.ensures, c.is_some-self.ensures) (lines_more c.args.bytes.now values c.args.self.now c.args.header.now.value c.requires.1 lines)

pub returns-else-is_named : goal.returns-else-is_named
returns-else-is_named c = λ fields lines.
    subst (λ (values : List (List ℕ)). AreLines c.args.bytes.now values c.args.self.now)
    (sym (values_same c.args.name.now fields (header_bytes c.args.bytes.now c.args.header.now) (sym c.is_named.ensures ∙ c.if-is_named.false))) lines
