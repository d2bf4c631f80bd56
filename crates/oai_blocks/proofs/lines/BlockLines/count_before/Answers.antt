use Rattle.std.proofs.Common.{◌≡◌, ◌+◌, List, ap, arith, length}
use Rattle.oai_blocks.specs.Store.{block_of, line_at}
use Rattle.oai_blocks.proofs.ListedLemmas.{count_less, count_more}
use Rattle.oai_blocks.proofs.lines.BlockLines.count_before.Goals as goal

pub returns-in_default-clause-none : goal.returns-in_default-clause-none
returns-in_default-clause-none g c =
    let line = line_at c.args.self.now c.args.v in
    let own : length c.block.result.now ≡ length (block_of c.args.self.now c.args.v c.counted.block) = ap (λ (l : List g.row.T.Denot). length l) c.block.ensures in
    omega (arith, c.in_default.ensures, c.counted.invariant, own, count_more line c.counted.block (omega (arith, c.counted-test.true, c.requires.within)), count_less line (c.counted.block + 1) c.args.j (omega (arith, c.counted-test.true)))
