use Rattle.std.proofs.Common.{◌∙◌, ◌<◌, length, sym, arith}
use Rattle.oai_xml.proofs.NameLemmas.{target_some}
use Rattle.oai_xml.proofs.names.past_target.Goals as goal

pub returns-clause-shorter : goal.returns-clause-shorter
returns-clause-shorter c =
    let some : 0 < length c.split_at.result.0.now = target_some c.split_at.result.0.now (sym c.is_target.ensures ∙ c.if-not-is_target.false) in
    omega (arith, some, c.split_at.ensures.front_len, c.split_at.ensures.back_len)
