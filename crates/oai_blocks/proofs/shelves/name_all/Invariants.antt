use Rattle.std.specs.Prelude.{[], take}
use Rattle.oai_blocks.specs.Naming.{Turns}
use Rattle.oai_blocks.proofs.shelves.name_all.Given as goal

abbrev pub invariant-named : goal.invariant-named
invariant-named g l = Turns [] (take l.at l.numbers) [] [] l.fn.blocks.slots l.blocks.slots
