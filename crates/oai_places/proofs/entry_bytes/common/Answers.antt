use Rattle.std.proofs.Common.{rules}
use Rattle.std.proofs.lemmas.Fn.{filter_same}
use Rattle.oai_item.specs.Item.{has_record}
use Rattle.oai_places.proofs.entry_bytes.common.Goals as goal

pub returns : goal.returns
returns c = filter_same _ (λ prefix. has_record prefix c.args.item.now.formats) _ (λ x b f' k. search rules) _ _ c.retain.ensures.filtered
