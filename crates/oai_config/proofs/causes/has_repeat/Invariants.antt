use Rattle.std.proofs.Common.{◌≡◌, ℕ, List, false, take}
use Rattle.std.specs.Ordering.{nat_cmp}
use Rattle.std.specs.Cmp.Lexicographic.{slice_cmp}
use Rattle.std.specs.List.{list_any}
use Rattle.std.specs.Str.{bytes_eq}
use Rattle.std.specs.BTreeSet.{contains_by}
use Rattle.oai_item.specs.Rules.{has_repeat}
use Rattle.oai_config.specs.Causes.{names_told}
use Rattle.oai_config.proofs.causes.has_repeat.Given as goal

-- the set holds the names so far, which are apart
abbrev pub invariant-loop-settings : goal.invariant-loop-settings
invariant-loop-settings l = record {
  seen : (q : List ℕ) → contains_by (λ k. slice_cmp nat_cmp q k.now) l.seen ≡ list_any (bytes_eq q) (take l.settings-index (names_told l.repositories));
  apart : has_repeat (take l.settings-index (names_told l.repositories)) ≡ false;
}
