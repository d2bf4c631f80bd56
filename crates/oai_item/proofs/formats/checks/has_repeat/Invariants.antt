use Rattle.std.proofs.Common.{◌≡◌, ℕ, List, false, take}
use Rattle.std.specs.Ordering.{nat_cmp}
use Rattle.std.specs.Cmp.Lexicographic.{slice_cmp}
use Rattle.std.specs.List.{list_any}
use Rattle.std.specs.Str.{bytes_eq}
use Rattle.std.specs.BTreeSet.{contains_by}
use Rattle.oai_item.specs.Rules.{has_repeat}
use Rattle.oai_item.proofs.formats.checks.has_repeat.Given as goal

-- the set holds the texts so far, which are apart
abbrev pub invariant-loop-text : goal.invariant-loop-text
invariant-loop-text l = record {
  seen : (q : List ℕ) → contains_by (λ k. slice_cmp nat_cmp q k.now) l.seen ≡ list_any (bytes_eq q) (take l.text-index l.texts);
  apart : has_repeat (take l.text-index l.texts) ≡ false;
}
