use Rattle.std.proofs.Common.{◌≡◌, ◌||◌, ℕ, List, true, not, length, take}
use Rattle.std.specs.List.{filter, list_any}
use Rattle.std.specs.Str.{bytes_eq}
use Rattle.oai_item.specs.Item.{are_set_specs}
use Rattle.oai_item.specs.Membership.{distinct, is_above}
use Rattle.oai_item.specs.Reductions.{flagged, holds}
use Rattle.oai_item.proofs.reductions.which_stay.Given as goal

-- of the setSpecs so far those stay that are to stay, all of the grammar; no other of these, and none above one of all, is to stay
abbrev pub invariant-loop-set : goal.invariant-loop-set
invariant-loop-set l = record {
  long : length l.stay.items ≡ l.set-index;
  kept : flagged l.stay.items (take l.set-index l.sets) ≡ filter (λ s. not (list_any (is_above s) l.sets)) (distinct (take l.set-index l.sets));
  names : are_set_specs (take l.set-index l.sets) ≡ true;
  out : (q : List ℕ) → holds l.out q ≡ (list_any (is_above q) l.sets || list_any (bytes_eq q) (take l.set-index l.sets));
}
