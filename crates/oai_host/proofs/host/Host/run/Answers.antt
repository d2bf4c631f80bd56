-- One more exchange is performed, and in the end all are; those of each repository without failures are answered as it alone answers them.
use Rattle.std.proofs.Common.{◌≡◌, ◌∙◌, ◌+◌, ◌∷◌, ◌++◌, [], suc, take, arith, rules, refl, sym, ap}
use Rattle.oai_http.specs.declared.exchanges.Call.{Call}
use Rattle.oai_host.proofs.RunLemmas.{all_alone, all_answered, exchanged_last, one_longer, take_more, take_whole}
use Rattle.oai_host.proofs.host.Host.run.Goals as goal

pub loop-call-init : goal.loop-call-init
loop-call-init g c =
    let items : c.in_ok-answers.answers.items ≡ [] = c.in_ok-answers.ensures.items in
    record {
      exchanged = rw items refl;
      many = rw items refl;
      room = search rules;
    }

pub loop-call-preserved : goal.loop-call-preserved
loop-call-preserved g c =
    let at = c.loop-call.call-index in
    let calls = c.args.calls.now in
    let call = c.call-item.result in
    let next : at + 1 ≡ suc at = omega arith in
    let item : call ≡ _ = c.call-item.is in
    let more : take (suc at) calls ≡ take at calls ++ call ∷ [] = take_more calls at call c.loop-call-test.true ∙ ap (λ (x : Call). take at calls ++ x ∷ []) (sym item) in
    let items : c.push.new.self.items ≡ c.loop-call.answers.items ++ c.answer-answer.result ∷ [] = rw c.unwrap.ensures at c.push.ensures.items in
    record {
      exchanged = rw (next, more, items)
          (exchanged_last (take at calls) c.loop-call.answers.items call c.answer-answer.result c.args.self.now c.loop-call.self c.answer-answer.new.self c.loop-call.invariant.exchanged c.answer-answer.ensures);
      many = rw (next, items) (one_longer c.loop-call.answers.items c.answer-answer.result at c.loop-call.invariant.many);
      room = search rules;
    }

pub returns-clause-exchanged : goal.returns-clause-exchanged
returns-clause-exchanged g c =
    let whole = take_whole c.args.calls.now c.loop-call.call-index c.loop-call-test.false in
    rw c.new.ensures (rw whole at c.loop-call.invariant.exchanged)

pub returns-clause-answered : goal.returns-clause-answered
returns-clause-answered g c =
    let whole = take_whole c.args.calls.now c.loop-call.call-index c.loop-call-test.false in
    rw c.new.ensures (all_answered c.args.calls.now c.loop-call.answers.items c.args.self.now c.loop-call.self (rw whole at c.loop-call.invariant.exchanged))

pub returns-clause-alone : goal.returns-clause-alone
returns-clause-alone g c = λ honest.
    let whole = take_whole c.args.calls.now c.loop-call.call-index c.loop-call-test.false in
    let answered = all_answered c.args.calls.now c.loop-call.answers.items c.args.self.now c.loop-call.self (rw whole at c.loop-call.invariant.exchanged) in
    rw c.new.ensures (all_alone c.args.calls.now c.loop-call.answers.items c.args.self.now c.loop-call.self honest answered)
