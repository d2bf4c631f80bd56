use Rattle.std.proofs.Common.{List, ℕ, length}
use Rattle.oai_host.specs.Bodies.{lines_in}
use Rattle.oai_host.proofs.ProgressLemmas.{AreDoneIn}
use Rattle.oai_host.proofs.deposits.redo_lines.Given as goal

-- some lines were performed, with some answers, and the others are left
abbrev pub invariant-loop-text : goal.invariant-loop-text
invariant-loop-text g l =
    (told : List ℕ) × (done : ℕ) × AreDoneIn g.V.Versions l.moment l.initial.repo l.initial.store (lines_in l.body) (lines_in l.rest) told done l.repo l.store

abbrev pub decreases-loop-text : goal.decreases-loop-text
decreases-loop-text g l = length l.rest
