-- The bytes are a part of the block, and so of the file.
use Rattle.std.proofs.Common.{◌∙◌, ◌++◌, ℕ, List, take, drop, ap}
use Rattle.oai_journal.proofs.ReadingLemmas.{block_part}
use Rattle.oai_journal.proofs.blocks.BlockReader.read.Goals as goal

pub returns-clause-read : goal.returns-clause-read
returns-clause-read g c clean block =
    let b = c.in_ok-bring.ensures in
    let file : List ℕ = g.D.Disk.seen c.bring.new.self.disk in
    c.in_ok-extend_from_slice.ensures.items ∙ ap (λ (l : List ℕ). l ++ c.part.result.now) c.clear.ensures.items ∙ c.part.ensures
    ∙ block_part file c.bring.new.self.block.items c.bring.new.self.start c.args.at c.args.size (b.block clean block) b.start b.size
    ∙ ap (λ (l : List ℕ). take c.args.size (drop c.args.at l)) b.seen
