use Rattle.std.proofs.Common.{◌≡◌, List, length}
use Rattle.std.specs.Vec.Iter.{into_iter_items, into_iter_len}
use Rattle.oai_deposit.specs.Lines.{LineRecord}
use Rattle.oai_deposit.proofs.ElementLemmas.{AreReadSoFar}
use Rattle.oai_deposit.proofs.given_elements.read_elements.Given as goal

-- the records of some texts were read, with what is noted of each, and the others are left
abbrev pub invariant-loop-prefix : goal.invariant-loop-prefix
invariant-loop-prefix l =
    (done : List LineRecord) × AreReadSoFar l.abouts l.fn.texts done (into_iter_items l.prefix-iterator) l.records.items l.notes.items
    × (into_iter_len l.prefix-iterator ≡ length (into_iter_items l.prefix-iterator))
