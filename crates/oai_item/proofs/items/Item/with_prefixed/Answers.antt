use Rattle.std.proofs.Common.{◌≡◌, ◌∙◌, ℕ, List, true, ap, subst, sym, w64, FitsSigned}
use Rattle.std.proofs.lemmas.Bool.{false≢true}
use Rattle.std.proofs.lemmas.Int.{to_z-of_z}
use Rattle.oai_names.specs.Names.{may_be_identifier}
use Rattle.oai_item.proofs.Kept.{reduced_apart}
use Rattle.oai_item.specs.Item.{are_set_specs}
use Rattle.oai_item.specs.Membership.{NoneCovers, reduced}
use Rattle.oai_item.proofs.items.Item.with_prefixed.Goals as goal

-- the sets that stay are apart; what is not required, the types of the parts say
pub invariant_of-result : goal.invariant_of-result
invariant_of-result c =
    let fits : FitsSigned w64 c.args.stamp = c.ranges.stamp in
    let sets : c.in_ok-reduced.field-0 ≡ reduced c.args.sets = c.in_ok-reduced.ensures.kept in
    let IsIdentifier : List ℕ → Type 0 = λ text. may_be_identifier text ≡ true in
    record {
      identified = subst IsIdentifier c.drop.view_is c.drop.invariant;
      stamped = simp to_z-of_z c.requires.stamped;
      in_sets = ap are_set_specs (c.in_ok-reduced.ensures.kept) ∙ c.in_ok-reduced.ensures.names;
      apart = subst NoneCovers (sym sets) (reduced_apart c.args.sets);
      prefixed = c.requires.prefixed;
      rising = c.requires.rising;
      carries = c.requires.carries;
      deleted = λ deleted. absurd (false≢true (sym deleted));
    }
