use Rattle.std.proofs.Common.{◌∙◌}
use Rattle.oai_item.specs.InPlace.{spelled_item}
use Rattle.oai_item.proofs.Placed.{sets_found, sets_left_stand}
use Rattle.oai_item.proofs.ReadBack.{records_back}
use Rattle.oai_item.proofs.in_place.Spelling.records.Goals as goal

pub first_sets-requires : goal.first_sets-requires
first_sets-requires c = sets_left_stand c.self.inside.bytes.now c.self.inside.rest.now (spelled_item c.self.inside) c.self.invariant.spells c.self.invariant.rest

pub first_records-requires : goal.first_records-requires
first_records-requires c =
    (sets_found c.self.inside.bytes.now c.self.inside.rest.now c.first_sets.result.1.now (spelled_item c.self.inside) c.first_sets.result.0
    c.self.invariant.spells c.self.invariant.rest c.first_sets.ensures.1).records

pub returns : goal.returns
returns c =
    let is = sets_found c.self.inside.bytes.now c.self.inside.rest.now c.first_sets.result.1.now (spelled_item c.self.inside) c.first_sets.result.0
    c.self.invariant.spells c.self.invariant.rest c.first_sets.ensures.1 in
    let s = is.records in
    rw (← c.self.view_is) (c.first_records.ensures ∙ (records_back.back c.first_sets.result.1.now s.value s.rest s.few s.parts).0 ∙ is.only s.value s.rest s.parts)
