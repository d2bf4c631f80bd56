-- The effect of the exchanges with a host over the pages of a device: this repository's own.
use Rattle.std.specs.Prelude.{ℕ, true, List, map}
use Rattle.oai_config.specs.Configs.{HostConfig}
use Rattle.oai_host.specs.Answers.{AreCounted, AreHonest}
use Rattle.oai_host.specs.Hosts.{AreAloneUnlessFailed, AreAnswered, HostState, begun}
use Rattle.oai_http.specs.declared.exchanges.Answer.{Answer}
use Rattle.oai_http.specs.declared.exchanges.Call.{Call}

-- exchanges with a host that was made over an honest device: at each repository the answers are a run of its own
-- exchanges alone, from its empty state, in which each is done or has failed; if none of these has failed, they are
-- those that the repository alone gives; an answer reports a failed device only if it failed since the host was made,
-- and never reports damage
pub record AreServedOnPages (config : HostConfig) (failures : ℕ) (calls : List Call) (answers : List Answer) (first last : HostState) : Type 0 where
  pub answered : AreAnswered calls answers first last
  pub alone : AreAloneUnlessFailed calls answers (map begun config.repositories)
  pub device : AreCounted answers failures last.failures
  pub damaged : AreHonest answers true true
