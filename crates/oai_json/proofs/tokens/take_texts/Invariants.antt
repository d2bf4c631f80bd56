use Rattle.std.proofs.Common.{◌≡◌, ◌++◌, length}
use Rattle.std.specs.List.{flat_map}
use Rattle.oai_json.specs.Tokens.{text_tokens}
use Rattle.oai_json.proofs.tokens.take_texts.Given as goal

abbrev pub invariant-loop-texts : goal.invariant-loop-texts
invariant-loop-texts l = l.initial.reader ≡ flat_map (λ text. text_tokens text.now) l.texts.items ++ l.reader

abbrev pub decreases-loop-texts : goal.decreases-loop-texts
decreases-loop-texts l = length l.reader
