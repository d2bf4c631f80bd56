-- An empty line does nothing; any other is performed.
use Rattle.std.proofs.Common.{◌≡◌, true, rules}
use Rattle.oai_cli.specs.ExchangeLines.{is_line_filled}
use Rattle.oai_cli.proofs.AskedLemmas.{ended_so}
use Rattle.oai_cli.proofs.ask.ask_line.Goals as goal

pub returns-clause-done : goal.returns-clause-done
returns-clause-done g c = λ first from front count counted ended.
    let full : is_line_filled c.args.line.now ≡ true = search rules in
    let perform = c.perform_line.ensures in
    ended_so front c.args.line.now first c.args.host.now c.perform_line.new.host count c.args.number from (g.W.Write.contents c.args.writer.now) (g.W.Write.contents c.perform_line.new.writer)
    c.perform_line.result counted full perform.bad perform.bad_host perform.bad_written perform.good perform.done perform.performed perform.honesty ended
