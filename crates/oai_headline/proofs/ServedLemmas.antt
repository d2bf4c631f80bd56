-- Exchanges with a host, one after the other: what its repositories answer.
use Rattle.std.proofs.Common.{◌≡◌, ◌∙◌, ℕ, Bool, true, IsTrue, List, rules, sym, subst}
use Rattle.oai_config.specs.Configs.{HostConfig}
use Rattle.oai_host.proofs.FaultLemmas.{all_counted_since}
use Rattle.oai_host.proofs.RunLemmas.{all_alone, all_answered, all_counted, all_honest, honesty_stays}
use Rattle.oai_host.specs.Answers.{AreHonest}
use Rattle.oai_host.specs.Hosts.{AreAloneUnlessFailed, AreExchanged, HostState, Repository}
use Rattle.oai_http.specs.declared.exchanges.Answer.{Answer}
use Rattle.oai_http.specs.declared.exchanges.Call.{Call}
use Rattle.oai_headline.specs.Served.{AreServedOnPages}
use Rattle.oai_startup.specs.Begun.{IsBegunOn}

-- that is true is true
is_so : (b : Bool) → IsTrue b → b ≡ true
is_so b h = search rules

pub served_on_pages : (config : HostConfig) (honest : Bool) (failures : ℕ) (first last : HostState) (calls : List Call) (answers : List Answer)
    → IsBegunOn config honest failures first → IsTrue honest → AreExchanged calls answers first last
    → AreServedOnPages config failures calls answers first last
served_on_pages config honest failures first last calls answers made so run =
    let same : first.honest ≡ true = made.honesty ∙ is_so honest so in
    let stays : last.honest ≡ true = honesty_stays calls answers first last run ∙ same in
    let answered = all_answered calls answers first last run in
    record {
      answered = answered;
      alone =
          subst (λ (rs : List Repository). AreAloneUnlessFailed calls answers rs) made.begun
          (all_alone calls answers first last (subst (λ (b : Bool). IsTrue b) (sym made.honesty) so) answered);
      device = all_counted_since answers failures first.failures last.failures made.count (all_counted calls answers first last run);
      damaged =
          subst (λ (b : Bool). AreHonest answers true b) stays
          (subst (λ (b : Bool). AreHonest answers b last.honest) same (all_honest calls answers first last run));
    }
