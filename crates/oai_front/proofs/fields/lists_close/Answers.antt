use Rattle.std.proofs.Common.{rules}
use Rattle.std.proofs.lemmas.Iterator.Search.{any_from_yields_List}
use Rattle.std.proofs.lemmas.Iterator.Splits.{YieldsList-from_slice_split}
use Rattle.oai_front.specs.Fields.{is_close, is_comma, lists_close}
use Rattle.oai_front.proofs.fields.lists_close.Goals as goal

-- `any` asks of each of the parts that `split` gives
pub returns : goal.returns
unfolding lists_close
returns c =
    any_from_yields_List is_close _ _ c.any.result c.any.ensures.ran (YieldsList-from_slice_split _ is_comma c.args.value.now c.split.ensures.rest c.split.ensures.done c.split.ensures.closure (λ x r q k. search rules)) (λ x b q k. search rules)
