use Rattle.std.proofs.Common.{◌+◌, ◌≤◌, ℕ, List, [], pos, arith}
use Rattle.oai_item.specs.Item.{ItemState}
use Rattle.oai_item.proofs.Around.{only_place}
use Rattle.oai_places.specs.Pages.{between, size_of}
use Rattle.oai_places.proofs.EntryLemmas.{size_of-between, size_of-more}
use Rattle.oai_places.proofs.entries.Entries.span_of.Goals as goal

pub returns : goal.returns
returns c = λ fits.
    let d : ItemState = only_place (pos 0) [] in
    let items : List ItemState = c.args.self.now in
    let from : ℕ = c.args.from in
    let at : ℕ = c.args.at in
    let before : size_of (between from at items) ≤ size_of (between from (at + 1) items) =
    omega (
      arith,
      size_of-between items from at c.requires.order,
      size_of-between items from (at + 1) (omega (arith, c.requires.order)),
      size_of-more items at d c.requires.within,
    )
    in
    record {
      from_byte = omega (arith, c.min.ensures, c.size_between.ensures, before, fits);
      to_byte = omega (arith, c.min-2.ensures, c.size_between-2.ensures, fits);
    }
