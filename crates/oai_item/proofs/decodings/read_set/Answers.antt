use Rattle.std.proofs.Common.{◌∙◌, sym}
use Rattle.oai_names.specs.Sets.{may_be_set_spec}
use Rattle.oai_item.proofs.Spellings.{no_name, text_of_name}
use Rattle.oai_item.proofs.decodings.read_set.Goals as goal

pub returns-in_err-text : goal.returns-in_err-text
returns-in_err-text c = rw c.from_residual.ensures (λ s. c.in_err-text.ensures (text_of_name may_be_set_spec c.args.bytes.now s))

pub returns-then-not-may_be_set_spec : goal.returns-then-not-may_be_set_spec
returns-then-not-may_be_set_spec c = no_name may_be_set_spec c.args.bytes.now c.in_ok-text.rest.now c.in_ok-text.text.now c.in_ok-text.ensures.1 (sym c.may_be_set_spec.ensures ∙ c.if-not-may_be_set_spec.true)
