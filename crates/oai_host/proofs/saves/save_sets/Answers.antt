-- Each set is handed over behind those before it.
use Rattle.std.proofs.Common.{◌≡◌, ◌∙◌, ◌<◌, ◌≤◌, ℤ, List, [], ◌∷◌, ap, get_or, length, map, subst, w64}
use Rattle.std.proofs.SliceLists.{take_long}
use Rattle.std.proofs.lemmas.Int.{to_z-of_z}
use Rattle.oai_repo.specs.Saved.{has_named_set}
use Rattle.oai_holdings.specs.Holdings.{NamedSet}
use Rattle.oai_host.specs.Saving.{TakesParts}
use Rattle.oai_host.proofs.PieceLemmas.{parts_more}
use Rattle.oai_host.proofs.SavedLemmas.{parts_none}
use Rattle.oai_host.proofs.saves.save_sets.Goals as goal

pub loop-set-init : goal.loop-set-init
loop-set-init g c = record {
  clock = to_z-of_z w64 c.clock-clock.result (record { sfits = c.clock-clock.type_inv }) ∙ c.clock-clock.ensures.clock;
  sets = c.as_slice-set-items.ensures ∙ c.sets.ensures;
  taken = parts_none g.S.Sink.has c.args.name.now c.args.repo.now.clock c.args.sink.now;
}

pub loop-set-preserved : goal.loop-set-preserved
loop-set-preserved g c =
    let has = g.S.Sink.has in
    let name = c.args.name.now in
    let repo = c.args.repo.now in
    let set : NamedSet = c.set-item.result in
    let i = c.loop-set.set-index in
    let within : i < length repo.sets = subst (λ (xs : List NamedSet). i < length xs) c.loop-set.invariant.sets c.loop-set-test.true in
    let is : set ≡ get_or repo.sets i set = c.set-item.is ∙ ap (λ (xs : List NamedSet). get_or xs i set) c.loop-set.invariant.sets in
    record {
      clock = c.loop-set.invariant.clock;
      sets = c.loop-set.invariant.sets;
      taken = parts_more has has_named_set name repo.clock repo.sets i set c.args.sink.now c.loop-set.sink c.save_set.new.sink within is c.loop-set.invariant.taken
          (subst (λ (k : ℤ). TakesParts has name k (has_named_set set ∷ []) c.loop-set.sink c.save_set.new.sink) c.loop-set.invariant.clock c.in_ok-save_set.ensures);
    }

pub returns : goal.returns
returns g c =
    let repo = c.args.repo.now in
    let i = c.loop-set.set-index in
    let end : length repo.sets ≤ i = subst (λ (xs : List NamedSet). length xs ≤ i) c.loop-set.invariant.sets c.loop-set-test.false in
    subst (λ (xs : List NamedSet). TakesParts g.S.Sink.has c.args.name.now repo.clock (map has_named_set xs) c.args.sink.now c.loop-set.sink) (take_long repo.sets i end) c.loop-set.invariant.taken
