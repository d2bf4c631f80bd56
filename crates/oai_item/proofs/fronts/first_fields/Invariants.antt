use Rattle.oai_item.specs.Encoding.{encoded_field, is_text_field}
use Rattle.oai_item.specs.SpellingParts.{HasRead}
use Rattle.oai_item.proofs.fronts.first_fields.Given as goal

-- as many as were counted off were passed over
abbrev pub invariant-loop : goal.invariant-loop
invariant-loop l = HasRead encoded_field is_text_field l.start l.counter l.rest
