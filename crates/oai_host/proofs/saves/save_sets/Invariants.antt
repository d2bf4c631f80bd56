-- the first sets were handed over
use Rattle.std.proofs.Common.{◌≡◌, map, take}
use Rattle.oai_repo.specs.Saved.{has_named_set}
use Rattle.oai_host.specs.Saving.{TakesParts}
use Rattle.oai_host.proofs.saves.save_sets.Given as goal

abbrev pub invariant-loop-set : goal.invariant-loop-set
invariant-loop-set g l = record {
  clock : l.clock ≡ l.repo.clock;
  sets : l.set-items ≡ l.repo.sets;
  taken : TakesParts g.S.Sink.has l.name l.repo.clock (map has_named_set (take l.set-index l.repo.sets)) l.fn.sink l.sink;
}
