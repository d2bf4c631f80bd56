use Rattle.std.proofs.Common.{◌∙◌, ap}
use Rattle.oai_item.specs.Encoding.{encoded_list, encoded_record}
use Rattle.oai_item.specs.InPlace.{spelled_item}
use Rattle.oai_item.proofs.Holding.{records_end}
use Rattle.oai_item.proofs.Placed.{sets_left_stand}
use Rattle.oai_item.proofs.in_place.Spelling.records_bytes.Goals as goal

pub first_sets-requires : goal.first_sets-requires
first_sets-requires c = sets_left_stand c.self.inside.bytes.now c.self.inside.rest.now (spelled_item c.self.inside) c.self.invariant.spells c.self.invariant.rest

pub returns-clause-spelled : goal.returns-clause-spelled
returns-clause-spelled c =
    (records_end c.self.inside.bytes.now c.self.inside.rest.now c.first_sets.result.1.now (spelled_item c.self.inside) c.first_sets.result.0
    c.self.invariant.spells c.self.invariant.rest c.first_sets.ensures.1).whole

pub returns-clause-records : goal.returns-clause-records
returns-clause-records c =
    rw (← c.self.view_is) (records_end c.self.inside.bytes.now c.self.inside.rest.now c.first_sets.result.1.now (spelled_item c.self.inside) c.first_sets.result.0
    c.self.invariant.spells c.self.invariant.rest c.first_sets.ensures.1).same

pub returns-clause-end : goal.returns-clause-end
returns-clause-end c =
    let of = records_end c.self.inside.bytes.now c.self.inside.rest.now c.first_sets.result.1.now (spelled_item c.self.inside) c.first_sets.result.0
    c.self.invariant.spells c.self.invariant.rest c.first_sets.ensures.1 in
    rw (← c.self.view_is) (of.whole.parts ∙ ap (encoded_list encoded_record) of.same)
