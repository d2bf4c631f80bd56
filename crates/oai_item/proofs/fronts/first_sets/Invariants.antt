use Rattle.oai_names.specs.Sets.{may_be_set_spec}
use Rattle.oai_item.specs.Encoding.{encoded_text}
use Rattle.oai_item.specs.Walks.{is_name_text}
use Rattle.oai_item.specs.SpellingParts.{HasRead}
use Rattle.oai_item.proofs.fronts.first_sets.Given as goal

-- as many as were counted off were passed over
abbrev pub invariant-loop : goal.invariant-loop
invariant-loop l = HasRead encoded_text (is_name_text may_be_set_spec) l.start l.counter l.rest
