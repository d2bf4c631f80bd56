use Rattle.std.specs.List.{AllWithin}
use Rattle.oai_startup.specs.Rules.{HasRules}
use Rattle.oai_startup.proofs.rules.have_rules.Given as goal

abbrev pub invariant-loop-entry : goal.invariant-loop-entry
invariant-loop-entry l = AllWithin HasRules l.entries 0 l.entry-index
