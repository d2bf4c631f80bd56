use Rattle.std.proofs.Common.{◌≡◌, ◌∙◌, IsTrue, ap, length, ℕ}
use Rattle.std.specs.Prelude.{filter}
use Rattle.oai_item.specs.Selection.{selected}
use Rattle.oai_places.specs.Places.{is_wanted, items_on}
use Rattle.oai_places.proofs.ResultLemmas.{if_ok_map}
use Rattle.oai_places.proofs.InsidePlaces.{wanted_all}
use Rattle.oai_places.proofs.leaves.LeafList.count.Goals as goal

pub returns-clause-number : goal.returns-clause-number
returns-clause-number g c =
    let G = g.P.PagePool in
    let pages = G.pages c.args.pages.now in
    let p = is_wanted c.all.result.filter.now c.all.result.key.stamp c.all.result.key.identifier.now in
    if_ok_map (λ (n : ℕ). IsTrue (G.honest c.args.pages.now) → n ≡ length (filter p (items_on pages c.args.self.places.now)))
    (λ (n : ℕ). IsTrue (G.honest c.args.pages.now) → n ≡ length (selected c.args.filter.now (items_on pages c.args.self.places.now))) c.count_wanted.result
    (λ n counted honest. counted honest ∙ ap length (wanted_all p c.args.filter.now pages c.args.self.places.now c.requires.stands.directory.placed c.all.ensures))
    c.count_wanted.ensures.number
