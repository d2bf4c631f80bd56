-- What is written in the map is what is indexed.
use Rattle.std.proofs.Common.{◌∙◌, ℤ, Option, Some, IsSome, sym, ap, subst, FitsSigned, w64}
use Rattle.std.proofs.lemmas.Int.{to_z-of_z}
use Rattle.oai_holdings.specs.Index.{ItemIndex}
use Rattle.oai_holdings.specs.Entries.{SetsStamp, stamp_in, entries_in}
use Rattle.oai_holdings.proofs.IndexLemmas.{dated_set, noted_view, texts_noted}
use Rattle.oai_holdings.proofs.item_index.ItemIndex.restamp.Goals as goal

pub overwrite_stamp-requires : goal.overwrite_stamp-requires
overwrite_stamp-requires c =
    subst (λ (o : Option ℤ). IsSome o) (ap (λ (s : ItemIndex). stamp_in c.args.identifier.now s.entries) (sym c.self.view_is) ∙ noted_view c.self.inside.stamps c.args.identifier.now) c.requires.there

pub returns-clause-entries : goal.returns-clause-entries
returns-clause-entries c =
    let fits : FitsSigned w64 c.args.stamp = c.ranges.stamp in
    let old = c.self.inside.stamps in
    subst (λ (s : ItemIndex). SetsStamp c.args.identifier.now (Some c.args.stamp) s.entries (entries_in c.overwrite_stamp.new.stamps)) c.self.view_is
    (texts_noted old c.overwrite_stamp.new.stamps c.args.identifier.now (Some c.args.stamp) (simp to_z-of_z at c.overwrite_stamp.ensures.stamps))

pub invariant_of-self : goal.invariant_of-self
invariant_of-self c =
    let fits : FitsSigned w64 c.args.stamp = c.ranges.stamp in
    let old = c.self.inside.stamps in
    dated_set c.args.identifier.now (Some c.args.stamp) (entries_in old) (entries_in c.overwrite_stamp.new.stamps)
    (texts_noted old c.overwrite_stamp.new.stamps c.args.identifier.now (Some c.args.stamp) (simp to_z-of_z at c.overwrite_stamp.ensures.stamps)) c.requires.in_range c.self.invariant
