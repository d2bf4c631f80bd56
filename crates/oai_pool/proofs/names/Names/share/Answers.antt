-- A number that is named is not free, before and after.
use Rattle.std.proofs.Common.{◌+◌, arith}
use Rattle.oai_pool.proofs.NamesLemmas.{listed_renamed, used-renamed}
use Rattle.oai_pool.proofs.names.Names.share.Goals as goal

pub invariant_of-self-clause-listed : goal.invariant_of-self-clause-listed
invariant_of-self-clause-listed c =
    let names = c.args.self.now in
    listed_renamed names.counts.items names.free.items c.args.no _ c.requires (omega arith) names.listed

pub invariant_of-self-clause-parted : goal.invariant_of-self-clause-parted
invariant_of-self-clause-parted c =
    let names = c.args.self.now in
    omega (arith, names.parted, used-renamed names.counts.items c.args.no (c.index-count.result.now + 1) c.requires (omega arith))
