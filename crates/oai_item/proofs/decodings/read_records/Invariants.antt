use Rattle.oai_item.specs.Encoding.{encoded_record}
use Rattle.oai_item.specs.Walks.{is_record}
use Rattle.oai_item.specs.SpellingParts.{HasRead}
use Rattle.oai_item.proofs.decodings.read_records.Given as goal

-- as many as were counted off were read
abbrev pub invariant-loop : goal.invariant-loop
invariant-loop l = HasRead encoded_record is_record l.start l.counter l.rest
