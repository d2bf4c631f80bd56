use Rattle.std.proofs.Common.{ℕ, List, Bor, ◌<◌, length, arith}
use Rattle.oai_names.specs.Optional.{tested}
use Rattle.oai_names.specs.Sets.{may_be_set_spec}
use Rattle.oai_json.proofs.ReadingLemmas.{next_read}
use Rattle.oai_deposit.proofs.ReadingLemmas.{passed_is_tested}
use Rattle.oai_deposit.proofs.lines.each_set_spec.Goals as goal

pub loop-text-preserved : goal.loop-text-preserved
loop-text-preserved c =
    let l = c.loop-text in
    let inside : l.text-index < length c.args.texts.now = omega arith in
    rw c.in_ok-push.ensures.items
    (next_read (λ (text : Bor (List ℕ)). text.now) (tested may_be_set_spec) l.specs.items c.args.texts.now l.text-index _ _ _ inside (passed_is_tested _ _ _ _ c.in_ok-set_spec_of.ensures) l.invariant)
