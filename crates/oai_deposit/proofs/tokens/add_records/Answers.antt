use Rattle.std.proofs.Common.{◌≡◌, ◌∷◌, [], ◌++◌, true, rules}
use Rattle.oai_deposit.specs.Lines.{LineRecord, is_of_forms}
use Rattle.oai_deposit.specs.Tokens.{record_tokens, may_follow}
use Rattle.oai_json.proofs.TokenLemmas.{one_more}
use Rattle.oai_deposit.proofs.TokenLemmas.{formed_more, rising_more}
use Rattle.oai_deposit.proofs.tokens.add_records.Goals as goal

pub loop-prefix-preserved : goal.loop-prefix-preserved
loop-prefix-preserved c =
    let l = c.loop-prefix in
    let r : LineRecord = (c.in_ok-prefix-2.prefix, c.in_ok-take_given.field-0) in
    let pushed : c.push.new.self.items ≡ l.records.items ++ r ∷ [] = search rules in
    let taken : l.reader ≡ record_tokens r ++ c.take_given.new.reader = search rules in
    let follows : may_follow l.records.items r.0 ≡ true = search rules in
    let formed : is_of_forms c.args.forms r.1 ≡ true = c.in_ok-take_given.ensures.formed in
    rw pushed (
      one_more record_tokens l.records.items r _ _ _ l.invariant.0 taken,
      rising_more l.records.items r l.invariant.1 follows,
      formed_more c.args.forms l.records.items r l.invariant.2 formed,
    )
