use Rattle.std.proofs.Common.{◌≡◌, ◌∙◌, Bool, true, ap, sym}
use Rattle.std.proofs.lemmas.Bool.{and_from}
use Rattle.std.proofs.lemmas.List.Folds.{list_all_more}
use Rattle.oai_names.specs.Names.{may_be_prefix}
use Rattle.oai_item.specs.Item.{Metadata, are_prefixed}
use Rattle.oai_item.proofs.items.see_prefixes.Goals as goal

pub loop-prefix-preserved : goal.loop-prefix-preserved
unfolding are_prefixed
loop-prefix-preserved c =
    let test : Metadata → Bool = λ format. may_be_prefix format.0 in
    let format : Metadata = c.loop-prefix-item.result in
    let here : test format ≡ true = c.as_str.ensures.name in
    list_all_more test c.args.formats.now c.loop-prefix.prefix-index format c.loop-prefix-test.true
    ∙ and_from _ _ c.loop-prefix.invariant (ap test (sym c.loop-prefix-item.is) ∙ here)
