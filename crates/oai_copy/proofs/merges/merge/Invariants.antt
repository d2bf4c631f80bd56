use Rattle.std.proofs.Common.{◌+◌, ◌≤◌, reverse}
use Rattle.std.specs.Vec.{vec_capacity, vec_len}
use Rattle.oai_copy.proofs.MergeLemmas.{IsMerging}
use Rattle.oai_copy.proofs.merges.merge.Given as goal

abbrev pub invariant-loop-item : goal.invariant-loop-item
invariant-loop-item l = record {
  merging : IsMerging l.fn.older.items l.fn.newer.items l.older.items l.newer.items (reverse l.merged.items);
  room : vec_len l.older + vec_len l.newer + vec_len l.merged ≤ vec_capacity l.merged;
}

abbrev pub decreases-loop-item : goal.decreases-loop-item
decreases-loop-item l = vec_len l.older + vec_len l.newer
