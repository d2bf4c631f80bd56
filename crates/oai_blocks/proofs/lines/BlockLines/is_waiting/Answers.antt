use Rattle.std.proofs.Common.{◌∙◌, ap}
use Rattle.std.specs.Prelude.{not, ◌==◌}
use Rattle.oai_blocks.proofs.LineLemmas.{steps-none}
use Rattle.oai_blocks.proofs.lines.BlockLines.is_waiting.Goals as goal

pub returns : goal.returns
returns g c =
    ap not (c.is_empty.ensures ∙ ap (λ n. n == 0) c.args.self.now.waiting.ok.0 ∙ steps-none c.args.self.now.waiting.items)
