-- The item that is found is the one of its identifier, and it can be stored.
use Rattle.std.proofs.Common.{◌≡◌, ◌∙◌, Bool, not, Some, is_some, IsTrue, rules, ap, sym, subst}
use Rattle.oai_item.specs.Item.{ItemState}
use Rattle.oai_item.specs.Items.{item_named}
use Rattle.oai_item.proofs.Named.{of_found}
use Rattle.oai_holdings.specs.Index.{stored_items}
use Rattle.oai_holdings.specs.Kept.{is_too_large}
use Rattle.oai_holdings.proofs.IndexLemmas.{named_own, restamped}
use Rattle.oai_holdings.proofs.changes.deletions.delete.Goals as goal

pub delete_item-requires-clause-held : goal.delete_item-requires-clause-held
delete_item-requires-clause-held g c =
    let items = stored_items c.args.index.now (g.V.Versions.lists c.args.store.now) in
    let was : IsTrue (g.V.Versions.honest c.find_known.new.store) → IsTrue (g.V.Versions.honest c.args.store.now) = subst (λ (b : Bool). IsTrue b) c.find_known.ensures.reads.store.honesty.same in
    let here : IsTrue (g.V.Versions.honest c.args.store.now) → item_named c.args.identifier.now items ≡ Some c.in-Some.item = λ honest. sym (rw c.as_str-text.ensures.text at (c.in_ok-item.ensures.found honest)) ∙ c.in-Some.is in
    let named = rw (c.in-Some.is, c.as_str-text.ensures.text) at c.in_ok-item.ensures.named in
    record {
      held = record {
        entered = rw named (rw c.as_str-text.ensures.text at (c.in_ok-item.ensures.there (ap is_some c.in-Some.is)));
        small = λ honest. of_found (λ (item : ItemState). not (is_too_large item)) c.args.identifier.now items c.in-Some.item (here (was honest)) (c.requires.small (was honest));
        there = λ honest. rw c.find_known.ensures.reads.same (named_own c.args.identifier.now items c.in-Some.item (here (was honest)));
      };
      entry = search rules;
    }

pub returns-clause-entries : goal.returns-clause-entries
returns-clause-entries g c =
    let named = rw (c.in-Some.is, c.as_str-text.ensures.text) at c.in_ok-item.ensures.named in
    restamped c.delete_item.result c.args.identifier.now _ _ _ (rw c.as_str-text.ensures.text at (c.in_ok-item.ensures.there (ap is_some c.in-Some.is))) (rw named at c.delete_item.ensures.stamped) c.delete_item.ensures.fewer
