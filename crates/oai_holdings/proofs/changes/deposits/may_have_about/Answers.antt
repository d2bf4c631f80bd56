-- Where something is given as the record, what is given about it are elements.
use Rattle.std.proofs.Common.{◌∙◌, ap, not, sym}
use Rattle.std.specs.Option.{option_copied}
use Rattle.oai_item.proofs.GivenLemmas.{about_more}
use Rattle.oai_holdings.proofs.changes.deposits.may_have_about.Goals as goal

pub returns-then-not-is_empty : goal.returns-then-not-is_empty
returns-then-not-is_empty c =
    let given = c.args.given.now in
    ap not c.if-not-is_empty.true
    ∙ sym (about_more given.fields.now (option_copied given.root) given.about.now (rw c.is_empty.ensures at c.if-not-is_empty.true) c.requires.about)
