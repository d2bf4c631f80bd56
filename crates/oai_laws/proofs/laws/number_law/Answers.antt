use Rattle.oai_laws.proofs.GivenLemmas.{never_the_last, numbers_rise, sound_throughout}
use Rattle.oai_laws.proofs.laws.number_law.Goals as goal

pub returns-clause-sound : goal.returns-clause-sound
returns-clause-sound c = sound_throughout

pub returns-clause-rising : goal.returns-clause-rising
returns-clause-rising c = numbers_rise

pub returns-clause-never_last : goal.returns-clause-never_last
returns-clause-never_last c = never_the_last
