use Rattle.oai_laws.proofs.EffectLemmas.{effect_of, sound_effected, sound_empty, sound_moved}
use Rattle.oai_laws.proofs.SameLemmas.{changes_keep, others_keep, requests_keep, tokens_keep}
use Rattle.oai_laws.proofs.ToldLemmas.{told_to_wait}
use Rattle.oai_laws.proofs.TokenLemmas.{tokens_shown}
use Rattle.oai_laws.proofs.WaitingLemmas.{wait_is}
use Rattle.oai_laws.proofs.laws.effect_law.Goals as goal

pub returns-clause-sound : goal.returns-clause-sound
returns-clause-sound c = λ config. record { empty = sound_empty config; moves = sound_moved config; done = sound_effected config }

pub returns-clause-acts : goal.returns-clause-acts
returns-clause-acts c = λ config state. record {
  does = effect_of config state;
  requests = requests_keep config state;
  lines = changes_keep config state;
  others = others_keep config state;
  tokens = tokens_keep config state;
  continued = tokens_shown config state;
  told = told_to_wait config state;
}

pub returns-clause-retry_after : goal.returns-clause-retry_after
returns-clause-retry_after c = wait_is
