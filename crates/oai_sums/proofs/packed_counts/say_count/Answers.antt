use Rattle.std.proofs.Common.{◌≡◌, ◌++◌, ◌∷◌, [], List, refl, subst, sym}
use Rattle.oai_sums.specs.Sums.{IsCounted}
use Rattle.oai_sums.specs.declared.packed_counts.PackedCount.{PackedCount}
use Rattle.oai_sums.proofs.CountLemmas.{on_some_map}
use Rattle.oai_sums.proofs.PackedLemmas.{counted_one, counted_several}
use Rattle.oai_sums.proofs.packed_counts.say_count.Goals as goal

pub returns-then-count-eq1 : goal.returns-then-count-eq1
returns-then-count-eq1 c = counted_one c.args.several.now.items c.args.at c.args.count c.requires c.if-count-eq1.true

pub returns-in-Ok : goal.returns-in-Ok
returns-in-Ok c =
    let old : List PackedCount = c.args.several.now.items in
    let new : PackedCount = record { at = c.in-Ok.at; count = c.args.count } in
    on_some_map (c.push.new.items.items ≡ old ++ new ∷ []) (IsCounted c.args.at c.args.count old c.push.new.items.items) c.push.result
    (λ more. subst (IsCounted c.args.at c.args.count old) (sym more) (counted_several old c.args.at c.args.count new c.requires c.in-Ok.ensures.1 refl))
    c.push.ensures
