use Rattle.std.proofs.Common.{◌≡◌, ◌+◌, ◌-◌, ◌++◌, take}
use Rattle.std.specs.Prelude.{map}
use Rattle.oai_places.proofs.entry_bytes.push_moved.Given as goal

-- those so far are added
abbrev pub invariant-loop-end : goal.invariant-loop-end
invariant-loop-end l = l.ends.items ≡ l.fn.ends.items ++ map (λ end. end - l.from + l.to) (take l.end-index l.more)
