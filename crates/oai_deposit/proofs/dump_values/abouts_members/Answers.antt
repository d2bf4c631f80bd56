use Rattle.std.proofs.Common.{◌∷◌, [], ◌++◌, ap, ◌∙◌, sym}
use Rattle.std.proofs.lemmas.List.{append_assoc}
use Rattle.oai_deposit.specs.Calls.{put_texts}
use Rattle.oai_item.specs.Elements.{about_in}
use Rattle.oai_item.specs.Item.{Metadata, are_rising}
use Rattle.oai_deposit.proofs.ValueLemmas.{about_put}
use Rattle.oai_deposit.proofs.dump_values.abouts_members.Goals as goal

pub loop-record-preserved : goal.loop-record-preserved
loop-record-preserved c =
    let i = c.loop-record.invariant in
    let m : Metadata = (c.in-Some.record.prefix.now, c.in-Some.record.fields) in
    let is = i.1 ∙ ap (λ left. i.0 ++ left) c.in-Some.ensures.next in (
      i.0 ++ m ∷ [],
      is ∙ sym (append_assoc i.0 (m ∷ []) _),
      rw c.about.ensures at c.in_ok-put_about.ensures ∙ ap (λ ms. put_texts m.0 (about_in m.1) ms) i.2 ∙ about_put i.0 m _ (ap are_rising (sym is) ∙ c.requires),
    )
