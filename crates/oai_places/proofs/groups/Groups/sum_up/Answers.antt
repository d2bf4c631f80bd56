use Rattle.std.proofs.Common.{◌∙◌, ◌<◌, List, ap, arith, length, subst, sym}
use Rattle.std.specs.List.{AllByRecursion}
use Rattle.std.proofs.lemmas.List.{length-set}
use Rattle.oai_places.specs.Sums.{GroupState, IsSoundGroup}
use Rattle.oai_places.proofs.EachLemmas.{each_done, each_set}
use Rattle.oai_places.proofs.groups.Groups.sum_up.Goals as goal

pub groups-init : goal.groups-init
groups-init c = record { many = ap length c.self.view_is; groups = λ h. (tt, subst (AllByRecursion (IsSoundGroup c.args.places.now)) (sym c.self.view_is) h) }

pub groups-preserved : goal.groups-preserved
groups-preserved c =
    let P = IsSoundGroup c.args.places.now in
    let items : List GroupState = c.groups.self-inside.groups.items in
    let within : c.groups.at < length items = omega (arith, c.groups-test.true, c.len-at-end.ensures, c.self.inside.groups.ok.0, c.groups.invariant.many, ap length c.self.view_is) in
    record {
      many = length-set items c.groups.at c.sum_up.new.self ∙ c.groups.invariant.many;
      groups = λ h.
          let so_far = c.groups.invariant.groups h in
          each_set P P items c.groups.at c.index_mut.result.now c.sum_up.new.self within c.index_mut.ensures.value c.sum_up.ensures so_far.0 so_far.1;
    }

pub returns : goal.returns
returns c = λ h. each_done (IsSoundGroup c.args.places.now) c.groups.self-inside.groups.items c.groups.at
    (omega (arith, c.groups-test.false, c.len-at-end.ensures, c.self.inside.groups.ok.0, c.groups.invariant.many, ap length c.self.view_is)) (c.groups.invariant.groups h).0
