-- The sort is stable, so the items of each identifier stay in their order.
use Rattle.std.proofs.Common.{◌≡◌, rules, ap}
use Rattle.std.specs.Cmp.Lexicographic.{slice_cmp}
use Rattle.std.specs.Ordering.{is_lt, nat_cmp}
use Rattle.std.proofs.lemmas.Fn.{always_returns_same}
use Rattle.oai_copy.specs.Copies.{is_listed_before}
use Rattle.oai_copy.proofs.SortLemmas.{arranged_is, ranks}
use Rattle.oai_copy.proofs.merges.arranged.Goals as goal

pub returns : goal.returns
returns c =
    arranged_is c.args.items.now c.in_ok-arranged.arranged.items c.sort_by.new.self.items c.in_ok-arranged.ensures
    (c.in_ok-sort_by.ensures.sorted is_listed_before ranks
    (always_returns_same _ _ _ (λ a r f' k. (let e : r ≡ slice_cmp nat_cmp a.0.now.identifier a.1.0.now.identifier = search rules in ap is_lt e, search rules))))
    (c.in_ok-sort_by.ensures.stable is_listed_before ranks
    (always_returns_same _ _ _ (λ a r f' k. (let e : r ≡ slice_cmp nat_cmp a.0.now.identifier a.1.0.now.identifier = search rules in ap is_lt e, search rules))))
