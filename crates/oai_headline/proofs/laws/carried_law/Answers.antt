use Rattle.oai_headline.proofs.CarriedLemmas.{all_written, answers_are, steps_run}
use Rattle.oai_headline.proofs.laws.carried_law.Goals as goal

pub returns : goal.returns
returns c = record { answers = answers_are; steps = steps_run; written = all_written }
