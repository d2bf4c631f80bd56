use Rattle.std.proofs.Common.{arith}
use Rattle.oai_paged.proofs.directories.DirectoryLeaves.undo.Goals as goal

pub returns-clause-groups : goal.returns-clause-groups
returns-clause-groups g c = c.exchange-2.ensures c.args.self.now.places.items c.exchange.new.places.items (record {
  added = c.args.changed.gone.items;
  many = omega (arith, c.len-count.ensures, c.args.changed.gone.ok.0);
  within = omega (arith, c.requires.back.within, c.args.self.now.places.ok.0);
  is = c.exchange.ensures.places;
})
