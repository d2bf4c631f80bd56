-- A deposit that may stand as it is has a record, and each in a format of the repository.
use Rattle.std.proofs.Common.{◌≡◌, None, sym, ◌∙◌, codes}
use Rattle.oai_holdings.specs.Changes.{deposit_refusal}
use Rattle.oai_holdings.proofs.ChangeLemmas.{carries}
use Rattle.oai_holdings.proofs.KeptLemmas.{stands}
use Rattle.oai_holdings.proofs.changes.deposits.deposited.Goals as goal

pub deposited-requires-clause-carries : goal.deposited-requires-clause-carries
deposited-requires-clause-carries c =
    let none : deposit_refusal c.args.context.now.config.now c.args.sets.now c.args.deposit.now.sets.now c.args.deposit.now.records.now ≡ None = sym c.deposit_refusal.ensures ∙ c.in-None.is in
    carries (codes "oai_dc") c.args.deposit.now.records.now (stands _ _ _ _ none).core

pub deposited-requires-clause-known : goal.deposited-requires-clause-known
deposited-requires-clause-known c =
    let none : deposit_refusal c.args.context.now.config.now c.args.sets.now c.args.deposit.now.sets.now c.args.deposit.now.records.now ≡ None = sym c.deposit_refusal.ensures ∙ c.in-None.is in
    rw c.formats.ensures (stands _ _ _ _ none).known
