-- An item that has an entry is there, unless the store is not honest.
use Rattle.std.proofs.Common.{◌≡◌, ◌∙◌, Some, Result, Ok, Err, sym}
use Rattle.std.specs.Prelude.{OnErr}
use Rattle.oai_holdings.specs.Entries.{stamp_in}
use Rattle.oai_holdings.proofs.IndexLemmas.{found_at}
use Rattle.oai_holdings.proofs.item_index.ItemIndex.find_known.Goals as goal

on_err : {A E : Type 0} (r : Result A E) (P : Type 0) → P → OnErr r P
on_err (Ok x) P p = tt
on_err (Err e) P p = p

pub returns-in-Some-clause-known : goal.returns-in-Some-clause-known
returns-in-Some-clause-known g c =
    let is : stamp_in c.args.identifier.now c.args.self.now.entries ≡ Some c.in-Some.stamp = sym c.requires.known ∙ c.in-Some.is in
    on_err c.find_at.result _ (λ honest. (found_at c.args.self.now.entries _ c.args.identifier.now c.in-Some.stamp (c.requires.stands.agrees honest) is).1)
