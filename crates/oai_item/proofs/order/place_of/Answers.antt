use Rattle.std.proofs.Common.{rules, FitsSigned, w64}
use Rattle.std.proofs.lemmas.Fn.{always_returns_same}
use Rattle.std.proofs.lemmas.Int.{to_z-of_z}
use Rattle.oai_item.specs.Order.{place_cmp}
use Rattle.oai_item.proofs.Around.{is_place}
use Rattle.oai_item.proofs.order.place_of.Goals as goal

pub returns : goal.returns
returns c =
    let fits : FitsSigned w64 c.args.stamp = c.ranges.stamp in
    is_place c.args.stamp c.args.identifier.now c.args.items.now c.binary_search_by.result c.requires c.binary_search_by.ensures.bound
    (c.binary_search_by.ensures.position (λ item. place_cmp item c.args.stamp c.args.identifier.now) (always_returns_same _ _ _ (λ a r f' k. (search (rules, to_z-of_z), search rules))))
