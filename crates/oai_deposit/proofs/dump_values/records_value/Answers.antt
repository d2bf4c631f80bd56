use Rattle.std.proofs.Common.{◌∷◌, [], ◌++◌, ap, ◌∙◌, sym}
use Rattle.std.proofs.lemmas.List.{append_assoc}
use Rattle.serde_json.specs.Data.{put}
use Rattle.serde_json.specs.View.{view}
use Rattle.oai_item.specs.Item.{Metadata, are_rising}
use Rattle.oai_deposit.proofs.ValueLemmas.{put_back}
use Rattle.oai_deposit.proofs.dump_values.records_value.Goals as goal

pub loop-record-preserved : goal.loop-record-preserved
loop-record-preserved c =
    let i = c.loop-record.invariant in
    let m : Metadata = (c.in-Some.record.prefix.now, c.in-Some.record.fields) in
    let is = i.1 ∙ ap (λ left. i.0 ++ left) c.in-Some.ensures.next in
    (i.0 ++ m ∷ [], is ∙ sym (append_assoc i.0 (m ∷ []) _), c.in_ok-put.ensures.ok ∙ ap (λ ms. put m.0 (view c.in_ok-value.value) ms) i.2 ∙ put_back i.0 m _ _ c.in_ok-value.ensures (ap are_rising (sym is) ∙ c.requires))
