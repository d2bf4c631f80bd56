use Rattle.std.proofs.Common.{◌∙◌, ◌<◌, List, ap, arith, length, subst, sym}
use Rattle.std.specs.List.{AllByRecursion}
use Rattle.std.proofs.lemmas.List.{length-set}
use Rattle.oai_places.specs.Sums.{GroupState, IsSoundGroup}
use Rattle.oai_places.proofs.EachLemmas.{each_done, each_set}
use Rattle.oai_places.proofs.groups.Groups.exchange.Goals as goal

pub groups-init : goal.groups-init
groups-init c = record { many = ap length c.self.view_is; groups = λ before after e h. (tt, subst (AllByRecursion (IsSoundGroup before)) (sym c.self.view_is) h) }

pub groups-preserved : goal.groups-preserved
groups-preserved c =
    let items : List GroupState = c.groups.self-inside.groups.items in
    let within : c.groups.near < length items = omega (arith, c.groups-test.true, c.len-near-end.ensures, c.self.inside.groups.ok.0, c.groups.invariant.many, ap length c.self.view_is) in
    record {
      many = length-set items c.groups.near c.exchange.new.self ∙ c.groups.invariant.many;
      groups = λ before after e h.
          let so_far = c.groups.invariant.groups before after e h in
          each_set (IsSoundGroup before) (IsSoundGroup after) items c.groups.near c.index_mut.result.now c.exchange.new.self within c.index_mut.ensures.value (c.exchange.ensures before after e) so_far.0 so_far.1;
    }

pub returns : goal.returns
returns c = λ before after e h. each_done (IsSoundGroup after) c.groups.self-inside.groups.items c.groups.near
    (omega (arith, c.groups-test.false, c.len-near-end.ensures, c.self.inside.groups.ok.0, c.groups.invariant.many, ap length c.self.view_is)) (c.groups.invariant.groups before after e h).0
