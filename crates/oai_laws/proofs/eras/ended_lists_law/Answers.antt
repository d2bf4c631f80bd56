use Rattle.oai_repo.specs.State.{empty_state}
use Rattle.oai_laws.proofs.EffectLemmas.{sound_empty}
use Rattle.oai_laws.proofs.EndedLemmas.{followed_within, standing_empty}
use Rattle.oai_laws.proofs.EraNumberLemmas.{numbers_rise_over}
use Rattle.oai_laws.proofs.EraTokenLemmas.{era_tokens_refused}
use Rattle.oai_laws.proofs.HarvestLemmas.{harvests_within}
use Rattle.oai_laws.proofs.eras.ended_lists_law.Goals as goal

pub returns-clause-followed : goal.returns-clause-followed
returns-clause-followed c = λ config eras good numbers. followed_within config (empty_state config) eras good (standing_empty config good) numbers

pub returns-clause-refused : goal.returns-clause-refused
returns-clause-refused c = λ config eras good numbers. era_tokens_refused config eras (empty_state config) good (sound_empty config) numbers

pub returns-clause-rising : goal.returns-clause-rising
returns-clause-rising c = numbers_rise_over

pub returns-clause-harvests : goal.returns-clause-harvests
returns-clause-harvests c = λ config eras good numbers prefix first others keeps successive.
    harvests_within config (empty_state config) eras prefix first others good keeps (standing_empty config good) numbers successive
