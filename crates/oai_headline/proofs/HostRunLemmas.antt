-- Calls of a front with a host: what its repositories answer to the messages that are performed.
use Rattle.std.proofs.Common.{IsTrue, List, [], ◌∷◌}
use Rattle.oai_host.proofs.RunLemmas.{all_alone, all_answered, all_counted, all_honest, count_rises, honesty_stays}
use Rattle.oai_host.specs.Exchanged.{IsHandled}
use Rattle.oai_host.specs.Hosts.{AreExchanged, HostState}
use Rattle.oai_front.proofs.RunLemmas.{come_served}
use Rattle.oai_front.specs.Fronts.{State}
use Rattle.oai_headline.specs.HostRuns.{AreServedByHost, answers_of_served, calls_of_served}
use Rattle.oai_front.specs.Runs.{Comes, FrontCall, Served, Serves, all_served}

-- the messages that are performed are exchanges with the host
exchanged : (old new : HostState) (served : List Served) → Serves IsHandled old served new → AreExchanged (calls_of_served served) (answers_of_served served) old new
exchanged old new [] run = run
exchanged old new (s ∷ served) run = (run.0, run.1, exchanged run.0 new served run.2)

pub served_by_host : (old new : State HostState) (calls : List FrontCall) → Comes IsHandled old calls new → IsTrue old.handler.honest → AreServedByHost old new calls
served_by_host old new calls comes honest =
    let all = come_served IsHandled old new calls comes in
    let served = all_served all.each in
    let run = exchanged old.handler new.handler served all.run in
    let answered = all_answered (calls_of_served served) (answers_of_served served) old.handler new.handler run in
    record {
      served = all;
      answered = answered;
      alone = all_alone (calls_of_served served) (answers_of_served served) old.handler new.handler honest answered;
      device = all_counted (calls_of_served served) (answers_of_served served) old.handler new.handler run;
      damaged = all_honest (calls_of_served served) (answers_of_served served) old.handler new.handler run;
      honesty = honesty_stays (calls_of_served served) (answers_of_served served) old.handler new.handler run;
      count = count_rises (calls_of_served served) (answers_of_served served) old.handler new.handler run;
    }
