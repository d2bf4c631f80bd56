use Rattle.std.proofs.Common.{◌≡◌, ◌≤◌, length}
use Rattle.oai_holdings.specs.Entries.{ForgetsSome}
use Rattle.oai_holdings.proofs.PurgeLemmas.{AreForgotten}
use Rattle.oai_holdings.proofs.item_index.ItemIndex.forget_each.Given as goal

-- those so far are indexed no more
abbrev pub invariant-loop-deleted : goal.invariant-loop-deleted
invariant-loop-deleted l = record {
  version : l.self.version ≡ l.initial.self.version;
  agrees : AreForgotten l.initial.self.entries l.self.entries l.gone l.deleted-index;
  forgotten : ForgetsSome l.initial.self.entries l.self.entries;
  fewer : length l.self.entries ≤ length l.initial.self.entries;
}
