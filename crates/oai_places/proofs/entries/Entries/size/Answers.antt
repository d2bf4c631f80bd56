use Rattle.std.proofs.Common.{arith}
use Rattle.oai_places.proofs.EntryLemmas.{fields_are, size_is}
use Rattle.oai_places.proofs.entries.Entries.size.Goals as goal

pub returns : goal.returns
returns c =
    let f = fields_are c.self.inside.bytes c.self.inside.ends.items c.args.self.now c.self.view_is c.self.invariant in
    omega (arith, c.len.ensures, size_is c.self.inside.bytes c.args.self.now f.spelling)
