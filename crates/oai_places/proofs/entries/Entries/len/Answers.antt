use Rattle.std.proofs.Common.{arith}
use Rattle.oai_places.proofs.EntryLemmas.{fields_are, many_fields}
use Rattle.oai_places.proofs.entries.Entries.len.Goals as goal

pub returns-clause-len : goal.returns-clause-len
returns-clause-len c =
    let f = fields_are c.self.inside.bytes c.self.inside.ends.items c.args.self.now c.self.view_is c.self.invariant in
    omega (arith, c.len.ensures, many_fields _ _ _ f, c.self.inside.ends.ok.0)
