-- The prefix is one.
use Rattle.std.proofs.Common.{refl}
use Rattle.oai_names.specs.Names as names
use Rattle.oai_snapshots.proofs.reading.all_items.Goals as goal

pub prefix_of-requires : goal.prefix_of-requires
unfolding names.is_prefix
prefix_of-requires c = refl
