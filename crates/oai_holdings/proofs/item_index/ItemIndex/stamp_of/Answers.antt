-- What the map has is what is indexed, and can be written.
use Rattle.std.proofs.Common.{◌≡◌, ◌∙◌, ℤ, Option, IfSome, sym, subst, ap}
use Rattle.oai_item.specs.Item.{IsStamp}
use Rattle.oai_holdings.specs.Index.{ItemIndex}
use Rattle.oai_holdings.specs.Entries.{AreDated, stamp_in}
use Rattle.oai_holdings.proofs.IndexLemmas.{noted_view}
use Rattle.oai_holdings.proofs.item_index.ItemIndex.stamp_of.Goals as goal

pub returns-clause-stamp : goal.returns-clause-stamp
returns-clause-stamp c =
    c.copied.ensures ∙ c.get.ensures.value ∙ sym (noted_view c.self.inside.stamps c.args.identifier.now) ∙ ap (λ (s : ItemIndex). stamp_in c.args.identifier.now s.entries) c.self.view_is

pub returns-clause-in_range : goal.returns-clause-in_range
returns-clause-in_range c =
    let noted : c.copied.result ≡ stamp_in c.args.identifier.now c.args.self.now.entries =
    c.copied.ensures ∙ c.get.ensures.value ∙ sym (noted_view c.self.inside.stamps c.args.identifier.now) ∙ ap (λ (s : ItemIndex). stamp_in c.args.identifier.now s.entries) c.self.view_is in
    let dated : AreDated c.args.self.now.entries = subst (λ (s : ItemIndex). AreDated s.entries) c.self.view_is c.self.invariant in
    subst (λ (o : Option ℤ). IfSome o IsStamp) (sym noted) (dated c.args.identifier.now)
