use Rattle.std.proofs.Common.{◌∙◌, List, subst, sym}
use Rattle.oai_places.specs.Places.{PlaceState}
use Rattle.oai_places.specs.Sums.{AreGroups}
use Rattle.oai_paged.proofs.directories.Directory.copy.Goals as goal

pub invariant_of-result : goal.invariant_of-result
invariant_of-result g c = (
  subst (λ (places : List PlaceState). AreGroups places c.copy-groups.result) (sym (c.in-Ok.ensures.copies ∙ c.as_slice.ensures.value))
      (c.copy-groups.ensures c.self.inside.leaves.places.items c.self.inside.sound),
  tt,
)
