use Rattle.std.proofs.Common.{◌≡◌, ◌∙◌, [], rules, reverse, arith}
use Rattle.oai_copy.proofs.MergeLemmas.{merged, merging_begins, merging_taken}
use Rattle.oai_copy.proofs.merges.merge.Goals as goal

pub loop-item-init : goal.loop-item-init
loop-item-init c = record {
  merging = rw c.requires.empty (merging_begins c.args.older.now.items c.args.newer.now.items c.requires.listed c.requires.ordered);
  room = omega (arith, c.requires.room, c.requires.unused);
}

pub loop-item-preserved : goal.loop-item-preserved
loop-item-preserved c = record {
  merging = rw c.push_first.ensures.pushed (merging_taken c.args.older.now.items c.args.newer.now.items c.loop-item.older.items c.loop-item.newer.items (reverse c.loop-item.merged.items) c.in-Some.item
      c.take_last.new.older.items c.take_last.new.newer.items c.loop-item.invariant.merging c.in-Some.ensures.taken);
  room = omega (arith, c.loop-item.invariant.room, c.in-Some.ensures.fewer, c.push_first.ensures.longer, c.push_first.ensures.capacity);
}

pub returns : goal.returns
returns c =
    let ends : (c.loop-item.older.items ≡ []) × (c.loop-item.newer.items ≡ []) = search rules in
    c.reverse.ensures.items
    ∙ merged c.args.older.now.items c.args.newer.now.items c.loop-item.older.items c.loop-item.newer.items (reverse c.loop-item.merged.items) ends.0 ends.1 c.requires.listed c.loop-item.invariant.merging
