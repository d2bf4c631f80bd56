use Rattle.std.proofs.Common.{◌≡◌, ◌∙◌, [], List, arith, rules, sym, vec_len}
use Rattle.std.proofs.lemmas.Bool.{eqb-true}
use Rattle.std.proofs.lemmas.List.{nil_from_length}
use Rattle.oai_places.specs.Places.{PlaceState}
use Rattle.oai_paged.proofs.DirectoryChanges.{nothing_removed}
use Rattle.oai_paged.proofs.directories.DirectoryLeaves.take_out.Goals as goal

pub returns-then-is_empty : goal.returns-then-is_empty
returns-then-is_empty g c =
    let before : List PlaceState = c.args.self.now.places.items in
    let none : before ≡ [] = nil_from_length before (omega (arith, eqb-true (vec_len c.args.self.now.places) 0 (sym c.is_empty.ensures ∙ c.if-is_empty.true), c.args.self.now.places.ok.0)) in
    record {
      list = λ honest. nothing_removed (g.P.PagePool.pages c.args.pages.now) c.args.key.stamp c.args.key.identifier.now before none;
      staged = search rules;
      back = search rules;
      none = search rules;
      err = search rules;
      pool = search rules;
      groups = search rules;
    }
