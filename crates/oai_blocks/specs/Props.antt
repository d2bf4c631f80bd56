-- No definition: two proofs that blocks are counted are one, a fact which shows the ghost field of a store.
use Rattle.std.proofs.Props as std

pub ruleset blocked_props = (std.props)
