use Rattle.oai_item.specs.Decoding.{first_text}
use Rattle.oai_item.specs.Encoding.{encoded_text}
use Rattle.oai_item.specs.SpellingParts.{IsText}
use Rattle.oai_item.proofs.ReadBack.{text_back}
use Rattle.oai_item.proofs.Walking.{front_is}
use Rattle.oai_item.proofs.fronts.after_text.Goals as goal

pub returns : goal.returns
returns c = front_is first_text encoded_text IsText text_back c.args.bytes.now c.first_text.result.1.now c.first_text.result.0.now c.requires.few c.first_text.ensures
