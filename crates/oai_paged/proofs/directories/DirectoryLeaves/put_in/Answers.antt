use Rattle.std.proofs.Common.{◌≡◌, ◌∙◌, [], List, arith, sym, vec_len}
use Rattle.std.proofs.lemmas.Bool.{eqb-true}
use Rattle.std.proofs.lemmas.List.{nil_from_length}
use Rattle.oai_places.specs.Places.{PlaceState}
use Rattle.oai_paged.proofs.LoneLemmas.{puts_first}
use Rattle.oai_paged.proofs.directories.DirectoryLeaves.put_in.Goals as goal

pub put_alone-requires-clause-puts : goal.put_alone-requires-clause-puts
put_alone-requires-clause-puts g c =
    let before : List PlaceState = c.args.self.now.places.items in
    let none : before ≡ [] = nil_from_length before (omega (arith, eqb-true (vec_len c.args.self.now.places) 0 (sym c.is_empty.ensures ∙ c.if-is_empty.true), c.args.self.now.places.ok.0)) in
    puts_first (g.P.PagePool.pages c.args.pages.now) before c.args.item.now none
