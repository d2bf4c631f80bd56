-- What is taken out is indexed no more; where that is nothing, all are left.
use Rattle.std.proofs.Common.{◌≡◌, ◌∙◌, [], List, IsTrue, ap, length, subst, sym}
use Rattle.std.proofs.lemmas.Bool.{eqb-true}
use Rattle.oai_catalogue.specs.Store.{list_at, without_each}
use Rattle.oai_catalogue.proofs.Gone.{without_each-none}
use Rattle.oai_item.specs.Item.{ItemState}
use Rattle.oai_holdings.specs.Index.{IndexAgrees, ItemIndex, stored_items}
use Rattle.oai_holdings.proofs.PurgeLemmas.{empty}
use Rattle.oai_holdings.proofs.item_index.ItemIndex.remove_each.Goals as goal

pub returns-then-is_empty-clause-made : goal.returns-then-is_empty-clause-made
returns-then-is_empty-clause-made g c =
    let items : List ItemState = stored_items c.args.self.now (g.V.Versions.lists c.args.store.now) in
    let none : c.args.gone.now ≡ [] = empty c.args.gone.now (eqb-true (length c.args.gone.now) 0 (sym c.is_empty.ensures ∙ c.if-is_empty.true)) in
    let same : without_each c.args.gone.now items ≡ items = ap (λ (xs : List ItemState). without_each xs items) none ∙ without_each-none items in
    record { list = λ honest. sym same; agrees = c.requires.stands.agrees }

pub returns-clause-made : goal.returns-clause-made
returns-clause-made g c =
    let V = g.V.Versions in
    let index = c.args.self.now in
    let gone = c.args.gone.now in
    let new = c.forget_each.new.self in
    let before = V.lists c.args.store.now in
    let after = V.lists c.remove_items.new.store in
    let here : c.self.inside.version ≡ index.version = ap (λ (s : ItemIndex). s.version) c.self.view_is in
    let kept = rw (ap (λ (s : ItemIndex). s.entries) c.self.view_is) at c.forget_each.ensures.agrees in
    let out : IsTrue (V.honest c.args.store.now) → stored_items new after ≡ without_each gone (stored_items index before) = λ honest.
    ap (list_at after) c.forget_each.ensures.version ∙ rw here at (c.in_ok-self-inside.ensures.list honest) in
    record {
      list = out;
      agrees = λ honest.
          subst (λ (xs : List ItemState). IndexAgrees new.entries xs) (sym (out honest)) (kept (stored_items index before) (c.requires.stands.agrees honest) (c.requires.taken honest));
    }
