use Rattle.std.specs.Prelude.{IfSome}
use Rattle.std.proofs.Common.{◌≡◌, ◌∙◌, ◌+◌, ◌∷◌, ◌++◌, ◌≤◌, length, ℕ, List, pos, [], ap, subst, sym, arith}
use Rattle.oai_item.specs.Item.{ItemState}
use Rattle.oai_item.proofs.Around.{only_place}
use Rattle.oai_sums.specs.Sums.{SetTotal}
use Rattle.oai_places.specs.Pages.{between}
use Rattle.oai_places.specs.Places.{AreCountedWithin}
use Rattle.oai_places.proofs.BetweenLemmas.{between-none}
use Rattle.oai_places.proofs.CommonRecords.{between_more}
use Rattle.oai_places.proofs.SpanLemmas.{last_one, within_more, within_none}
use Rattle.oai_places.proofs.entries.Entries.set_counts.Goals as goal

pub loop-at-init : goal.loop-at-init
loop-at-init c = within_none c.new-counts.result (between c.args.from c.args.from c.args.self.now) c.new-counts.ensures (between-none c.args.from c.args.self.now)

pub loop-at-preserved : goal.loop-at-preserved
loop-at-preserved c =
    let d : ItemState = only_place (pos 0) [] in
    let items : List ItemState = between c.args.from c.loop-at.at c.args.self.now in
    let order : c.args.from ≤ c.loop-at.at = omega (arith, c.loop-at.auto.at) in
    let within : c.loop-at.at + 1 ≤ length c.args.self.now = omega (arith, c.loop-at-test.true, c.requires.within) in
    let one_more = between_more c.args.self.now c.args.from c.loop-at.at d order (omega (arith, within)) in
    within_more c.loop-at.counts c.add.new.self items (between c.args.from (c.loop-at.at + 1) c.args.self.now) c.spelled.result c.span_of.result c.loop-at.invariant
    (λ fits. last_one c.args.from c.loop-at.at c.args.self.now c.span_of.result (c.span_of.ensures fits))
    (λ set. rw c.sets.ensures at c.in_ok-add.ensures.counts set) (λ set. rw c.sets.ensures at c.in_ok-add.ensures.spans set)
    (one_more ∙ ap (λ (item : ItemState). items ++ item ∷ []) (sym (c.spelled.ensures d)))

pub returns : goal.returns
returns c =
    let whole : c.loop-at.at ≡ c.args.to = omega (arith, c.loop-at-test.false, c.loop-at.auto.at-end c.requires.order) in
    λ totals is.
    subst (λ (counts : List SetTotal). AreCountedWithin counts (between c.args.from c.args.to c.args.self.now)) (sym (subst (λ packed. IfSome packed (λ (counts : List SetTotal). counts ≡ c.loop-at.counts)) is c.packed.ensures))
    (subst (λ (n : ℕ). AreCountedWithin c.loop-at.counts (between c.args.from n c.args.self.now)) whole c.loop-at.invariant)
