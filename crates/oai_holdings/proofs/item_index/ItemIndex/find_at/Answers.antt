-- At the datestamp of its entry the item of the identifier is found, unless the store is not honest.
use Rattle.std.proofs.Common.{◌≡◌, ◌∙◌, true, false, rules, sym, ap, FitsSigned, w64}
use Rattle.std.proofs.lemmas.Bool.{false_from_ne_true}
use Rattle.std.proofs.lemmas.Int.{to_z-of_z}
use Rattle.oai_item.specs.Items.{item_named}
use Rattle.oai_holdings.specs.Index.{ItemIndex}
use Rattle.oai_holdings.specs.Indexing.{is_one_named}
use Rattle.oai_holdings.proofs.IndexLemmas.{found_at, found_one, name_of_one}
use Rattle.oai_holdings.proofs.item_index.ItemIndex.find_at.Goals as goal

pub returns-then-is_one_named-clause-found : goal.returns-then-is_one_named-clause-found
returns-then-is_one_named-clause-found g c = λ honest.
    let here : c.self.inside.version ≡ c.args.self.now.version = ap (λ (s : ItemIndex). s.version) c.self.view_is in
    let fits : FitsSigned w64 c.args.stamp = c.ranges.stamp in
    let at = found_at c.args.self.now.entries _ c.args.identifier.now c.args.stamp (c.requires.stands.agrees honest) c.requires.there in
    rw here at (simp to_z-of_z at (c.in_ok-found.ensures.found honest)) ∙ at.0

pub returns-then-is_one_named-clause-named : goal.returns-then-is_one_named-clause-named
returns-then-is_one_named-clause-named g c =
    name_of_one c.args.identifier.now c.in_ok-found.found (rw c.as_ref.ensures.value at (sym c.is_one_named.ensures ∙ c.if-is_one_named.true))

pub returns-else-is_one_named-clause-reads : goal.returns-else-is_one_named-clause-reads
returns-else-is_one_named-clause-reads g c = record {
  same = c.find.ensures.same;
  store = record {
    room = search rules;
    device = search rules;
    honesty = record {
      same = c.find.ensures.store.honesty.same;
      damaged = λ e. false_from_ne_true _ (λ honest.
          let here : c.self.inside.version ≡ c.args.self.now.version = ap (λ (s : ItemIndex). s.version) c.self.view_is in
          let fits : FitsSigned w64 c.args.stamp = c.ranges.stamp in
          let at = found_at c.args.self.now.entries _ c.args.identifier.now c.args.stamp (c.requires.stands.agrees honest) c.requires.there in
          let found : c.in_ok-found.found ≡ item_named c.args.identifier.now _ = rw here at (simp to_z-of_z at (c.in_ok-found.ensures.found honest)) ∙ at.0 in
          let one : is_one_named c.args.identifier.now c.in_ok-found.found ≡ true = found_one c.args.identifier.now _ c.in_ok-found.found found at.1 in
          let other : is_one_named c.args.identifier.now c.in_ok-found.found ≡ false = rw c.as_ref.ensures.value at (sym c.is_one_named.ensures ∙ c.if-is_one_named.false) in
          cc);
    };
  };
}
