-- The name of the new repository leads to the place behind the others.
use Rattle.std.proofs.Common.{◌≡◌, ◌∷◌, ◌++◌, [], length, refl, rules}
use Rattle.std.specs.BTreeMap.{get_by_text}
use Rattle.oai_host.proofs.PlaceLemmas.{place_added}
use Rattle.oai_host.proofs.repositories.Repositories.add.Goals as goal

pub invariant_of-self-2 : goal.invariant_of-self-2
invariant_of-self-2 c =
    let inside = c.self.inside in
    let unused = rw (← c.self.view_is) at c.requires in
    let items : c.push.new.self.items ≡ inside.repos.items ++ c.args.one ∷ [] = search rules in
    let noted = rw c.as_str-name.ensures at c.in-Ok.ensures.ok in
    rw items (place_added inside.repos.items c.args.one (get_by_text inside.places) (get_by_text c.note_next.new.places) (length inside.repos.items) c.self.invariant unused refl noted)
