use Rattle.std.proofs.Common.{◌≡◌, ◌∙◌, ◌++◌, [], ◌∷◌, ap, length, rules}
use Rattle.std.specs.String.{string_bytes}
use Rattle.oai_names.specs.Sets.{has_set, has_parent}
use Rattle.oai_names.proofs.Additions.{IsSetTree-push}
use Rattle.oai_names.proofs.Places.{place_push}
use Rattle.oai_names.proofs.set_trees.SetTree.push.Goals as goal

-- the list and the index each have one set more, the same one
pub invariant_of-self-2 : goal.invariant_of-self-2
invariant_of-self-2 c =
    let old = c.self.inside.sets.items in
    let spec = c.args.spec.now in
    let name = c.args.name.now in
    let key : string_bytes c.in_ok-key.key ≡ spec = c.in_ok-key.ensures.ok ∙ c.as_str.ensures.text in
    let items : c.push.new.self.items ≡ old ++ (spec, name) ∷ [] = cc (c.in_ok-push.ensures.items, c.in_ok-reserve.ensures.items, c.in_ok-set.ensures) in
    let last : c.len-place.result ≡ length old = search rules in
    rw items (
      IsSetTree-push old spec name (ap (λ s. has_set s spec) c.self.view_is ∙ c.requires.apart) (ap (λ s. has_parent s spec) c.self.view_is ∙ c.requires.parent) (rw c.self.view_is c.requires.room) c.self.invariant.0,
      place_push old spec name c.self.inside.places c.insert.new.self c.in_ok-key.key c.len-place.result key last c.in_ok-insert.ensures.updates c.self.invariant.1,
    )
