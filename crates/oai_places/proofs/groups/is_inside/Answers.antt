use Rattle.std.proofs.Common.{◌≡◌, ◌∙◌, ℤ, ap, of_z, rules, subst, sym, to_z, w64}
use Rattle.std.proofs.lemmas.Int.{to_z-of_z}
use Rattle.oai_item.specs.Selection.{Filter}
use Rattle.oai_names.specs.Names.{is_among}
use Rattle.oai_places.specs.Parts.{EndsBy}
use Rattle.oai_places.specs.Sums.{SumState}
use Rattle.oai_places.proofs.GroupLemmas.{lower_than}
use Rattle.oai_places.proofs.WantedPlaces.{lower_from}
use Rattle.oai_places.proofs.groups.is_inside.Goals as goal
use lib.Signed.{le_z, lt_z}

pub returns : goal.returns
returns c =
    let asked : Filter = c.args.wanted.filter.now in
    let sum : SumState = c.args.sum.now in
    let low : to_z w64 (of_z w64 c.filter.inside.lower) ≡ c.filter.inside.lower = search (rules, to_z-of_z) in
    let high : to_z w64 (of_z w64 c.filter.inside.upper) ≡ c.filter.inside.upper = search (rules, to_z-of_z) in
    let least : to_z w64 (of_z w64 c.least-least.result) ≡ c.least-least.result = to_z-of_z w64 c.least-least.result (record { sfits = c.least-least.type_inv }) in
    let greatest : to_z w64 (of_z w64 c.greatest.result) ≡ c.greatest.result = to_z-of_z w64 c.greatest.result (record { sfits = c.greatest.type_inv }) in
    let stamp : to_z w64 (of_z w64 c.args.wanted.key.stamp) ≡ c.args.wanted.key.stamp = search (rules, to_z-of_z) in
    λ ends. record {
      lower = lower_from c.filter.inside.lower c.least-least.result asked.lower sum.least (sym (λ i. lt_z (least i) (low i)) ∙ c.if-filter-least.false) (ap (λ (f : Filter). f.lower) c.filter.view_is) c.least-least.ensures;
      behind = lower_than c.args.wanted.key.stamp c.least-least.result sum.least (sym (λ i. le_z (least i) (stamp i)) ∙ c.if-wanted-least.false) c.least-least.ensures;
      prefix = ap (is_among sum.prefixes) (sym (c.as_str.ensures.text ∙ ap (λ (f : Filter). f.prefix) c.filter.view_is)) ∙ sym c.has_prefix.ensures ∙ c.if-not-has_prefix.false;
      greatest = lower_from c.greatest.result c.filter.inside.upper sum.greatest asked.upper (sym (λ i. lt_z (high i) (greatest i)) ∙ c.if-greatest-filter.false) c.greatest.ensures (ap (λ (f : Filter). f.upper) c.filter.view_is);
      upper = subst (λ (u : ℤ). EndsBy c.args.next.now u) (high ∙ ap (λ (f : Filter). f.upper) c.filter.view_is) (c.ends_by.ensures ends);
    }
