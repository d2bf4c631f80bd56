use Rattle.oai_deposit.specs.Calls.{Anywhere}
use Rattle.oai_deposit.proofs.LineLemmas.{line_gives}
use Rattle.oai_deposit.proofs.lines.read_text.Goals as goal

pub returns-in-Some : goal.returns-in-Some
returns-in-Some c =
    let is = c.in-Some.ensures.line in
    let asked = rw c.in-Some.ensures.alone at c.deposit_from.ensures in
    line_gives c.args.forms c.args.line.now is.0 Anywhere c.deposit_from.result is.1 (rw is.2 asked)
