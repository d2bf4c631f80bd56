use Rattle.oai_item.proofs.Decoded.{encoded-some, item_in-spelled, spelled-item_in}
use Rattle.oai_item.proofs.in_place.spelling_law.Goals as goal

pub returns : goal.returns
returns c = record { spelled = item_in-spelled; only = spelled-item_in; some = encoded-some }
