use Rattle.std.proofs.Common.{rules, lit<}
use Rattle.std.proofs.lemmas.Iterator.Search.{all_from_yields_List}
use Rattle.std.proofs.lemmas.Iterator.Splits.{YieldsList-from_str_split}
use Rattle.oai_names.specs.Names.{is_prefix}
use Rattle.oai_names.specs.Sets.{is_set_spec}
use Rattle.oai_names.proofs.set_specs.is_set_spec.Goals as goal

-- `all` asks of each of the parts that `split` gives
pub returns : goal.returns
unfolding is_set_spec
returns c =
    all_from_yields_List is_prefix _ _ c.all.result c.all.ensures.ran (YieldsList-from_str_split 58 c.args.text.now (lit< tt) c.split.ensures.text c.split.ensures.has_more c.split.ensures.pattern) (λ x b q k. search rules)
