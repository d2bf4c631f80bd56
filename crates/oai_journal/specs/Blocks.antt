-- A block of a file, as it was read. This repository's own.
use Rattle.std.specs.Prelude.{ℕ, List}
use Rattle.sqlite_disk.specs.Disk.{Holds}
use Rattle.oai_journal.specs.declared.blocks.BlockReader.{BlockReader}

-- the file has the bytes of the block at its position
abbrev pub IsBlock : {D : Type 0} → (D → List ℕ) → BlockReader D → Type 0
IsBlock seen reader = Holds (seen reader.disk) reader.start reader.block.items
