use Rattle.std.proofs.Common.{◌∙◌, sym, ap}
use Rattle.httparse.specs.Spans.{header_bytes}
use Rattle.oai_front.specs.Fields.{lists_close}
use Rattle.oai_front.proofs.FieldLemmas.{close_in, close_not_in}
use Rattle.oai_front.proofs.fields.closes.Goals as goal

pub returns-then-is_named : goal.returns-then-is_named
returns-then-is_named c =
    c.lists_close.ensures ∙ ap lists_close c.of.ensures ∙ sym (close_in (header_bytes c.args.bytes.now c.args.header.now) (sym c.is_named.ensures ∙ c.if-is_named.true))

pub returns-else-is_named : goal.returns-else-is_named
returns-else-is_named c =
    c.if-is_named.false ∙ sym (close_not_in (header_bytes c.args.bytes.now c.args.header.now) (sym c.is_named.ensures ∙ c.if-is_named.false))
