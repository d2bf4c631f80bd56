use Rattle.std.proofs.Common.{◌≡◌, ◌||◌, ℕ, List, length}
use denote.Shadow.{shadow}
use denote.Text.{Utf8}
use Rattle.oai_item.specs.Membership.{is_above}
use Rattle.oai_item.specs.Reductions.{holds}
use Rattle.oai_item.proofs.reductions.add_above.Given as goal

-- what is above the path is still to come
abbrev pub invariant-loop-parent : goal.invariant-loop-parent
invariant-loop-parent l = record {
  text : shadow (Utf8 l.path);
  above : (q : List ℕ) → (holds l.names q || is_above q l.path) ≡ (holds l.fn.names q || is_above q l.fn.spec);
}

abbrev pub decreases-loop-parent : goal.decreases-loop-parent
decreases-loop-parent l = length l.path
