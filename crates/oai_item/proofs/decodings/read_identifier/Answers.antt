use Rattle.std.proofs.Common.{◌∙◌, sym}
use Rattle.oai_names.specs.Names.{may_be_identifier}
use Rattle.oai_item.proofs.Spellings.{no_name, text_of_name}
use Rattle.oai_item.proofs.decodings.read_identifier.Goals as goal

pub returns-in_err-text : goal.returns-in_err-text
returns-in_err-text c = rw c.from_residual.ensures (λ s. c.in_err-text.ensures (text_of_name may_be_identifier c.args.bytes.now s))

pub returns-then-not-may_be_identifier : goal.returns-then-not-may_be_identifier
returns-then-not-may_be_identifier c = no_name may_be_identifier c.args.bytes.now c.in_ok-text.rest.now c.in_ok-text.text.now c.in_ok-text.ensures.1 (sym c.may_be_identifier.ensures ∙ c.if-not-may_be_identifier.true)
