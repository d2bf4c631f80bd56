use Rattle.std.proofs.Common.{◌≡◌, ◌∙◌, ◌+◌, ◌∷◌, ◌++◌, ℕ, List, pos, [], ap, sym, arith}
use Rattle.oai_item.specs.Item.{ItemState}
use Rattle.oai_item.proofs.Around.{only_place}
use Rattle.oai_places.specs.Pages.{between}
use Rattle.oai_places.specs.Places.{have_records}
use Rattle.oai_places.proofs.BetweenLemmas.{between-none}
use Rattle.oai_places.proofs.CommonRecords.{all_records, between_more, lacks_records, no_items}
use Rattle.oai_places.proofs.entries.Entries.have_records.Goals as goal
use Rattle.oai_places.proofs.entries.Entries.have_records.Goals.{then-all, else-all}

pub loop-at-init : goal.loop-at-init
loop-at-init c = sym (ap (have_records c.args.prefixes.now) (between-none c.args.from c.args.self.now) ∙ no_items c.args.prefixes.now)

pub loop-at-preserved : goal.loop-at-preserved
loop-at-preserved c =
    let d : ItemState = only_place (pos 0) [] in
    let prefixes : List (List ℕ) = c.args.prefixes.now in
    let at : ℕ = c.loop-at.at in
    let items : List ItemState = between c.args.from at c.args.self.now in
    let more : List ItemState = between c.args.from (at + 1) c.args.self.now in
    let one_more = between_more c.args.self.now c.args.from at d (omega (arith, c.loop-at.auto.at)) (omega (arith, c.loop-at-test.true, c.requires.within)) in
    elim c.if-all.branch [
      | then-all w ↦
          w.all-is
          ∙ w.has_each-all.ensures
          ∙ sym (all_records prefixes items more w.spelled.result (sym c.loop-at.invariant ∙ w.if-all.true)
          (one_more ∙ ap (λ (item : ItemState). items ++ item ∷ []) (sym (w.spelled.ensures d))))
      | else-all w ↦ w.all-is ∙ w.if-all.false ∙ sym (lacks_records prefixes items more _ (sym c.loop-at.invariant ∙ w.if-all.false) one_more)
    ]

pub returns : goal.returns
returns c =
    let whole : c.loop-at.at ≡ c.args.to = omega (arith, c.loop-at-test.false, c.loop-at.auto.at-end c.requires.order) in
    c.loop-at.invariant ∙ ap (λ (n : ℕ). have_records c.args.prefixes.now (between c.args.from n c.args.self.now)) whole
