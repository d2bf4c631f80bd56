use Rattle.std.proofs.Common.{◌-◌, ◌<◌, ◌≤◌, length}
use Rattle.oai_places.specs.Pages.{between, size_of}
use Rattle.oai_places.specs.declared.sizes.TheConstants.{MAX_ENTRY_BYTES}
use Rattle.oai_places.proofs.entries.Entries.front.Given as goal

-- some entries, which fit on a page
abbrev pub invariant-loop-to : goal.invariant-loop-to
invariant-loop-to l = record {
  above : l.from < l.to;
  within : l.to ≤ length l.self;
  fits : size_of (between l.from l.to l.self) ≤ MAX_ENTRY_BYTES;
}

abbrev pub decreases-loop-to : goal.decreases-loop-to
decreases-loop-to l = l.len - l.to
