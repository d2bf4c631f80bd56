use Rattle.std.proofs.Common.{arith}
use Rattle.std.proofs.lemmas.Bool.{lt-leb}
use Rattle.oai_places.proofs.ShortLemmas.{fit_else, fit_then}
use Rattle.oai_places.proofs.entries.Entries.fit_one.Goals as goal

pub returns-then-size-le-MAX_ENTRY_BYTES : goal.returns-then-size-le-MAX_ENTRY_BYTES
returns-then-size-le-MAX_ENTRY_BYTES c = fit_then c.args.self.now c.size.result c.are_short.result c.size.ensures (omega (arith, c.if-size-le-MAX_ENTRY_BYTES.true)) c.are_short.ensures

pub returns-else-size-le-MAX_ENTRY_BYTES : goal.returns-else-size-le-MAX_ENTRY_BYTES
returns-else-size-le-MAX_ENTRY_BYTES c = fit_else c.args.self.now c.size.result c.size.ensures (lt-leb c.size.result 16380 (omega (arith, c.if-size-le-MAX_ENTRY_BYTES.false)))
