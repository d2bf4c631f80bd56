-- Each turn forgets one of them.
use Rattle.std.proofs.Common.{◌≡◌, ◌∙◌, ◌+◌, arith, List, None, IsSome, length, refl, subst}
use Rattle.oai_item.specs.Item.{ItemState}
use Rattle.oai_holdings.specs.Entries.{SetsStamp, stamp_in}
use Rattle.oai_holdings.proofs.PurgeLemmas.{forgotten_next, forgotten_none}
use Rattle.oai_holdings.proofs.IndexLemmas.{forgotten_too}
use Rattle.oai_holdings.proofs.item_index.ItemIndex.forget_each.Goals as goal

pub loop-deleted-init : goal.loop-deleted-init
loop-deleted-init c = record { version = refl; agrees = forgotten_none c.args.self.now.entries c.args.gone.now; forgotten = λ q some. refl; fewer = omega arith }

pub loop-deleted-preserved : goal.loop-deleted-preserved
loop-deleted-preserved c =
    let gone : List ItemState = c.args.gone.now in
    let i = c.loop-deleted.deleted-index in
    let one : ItemState = c.deleted-item.result in
    let now = c.loop-deleted.self.entries in
    let new = c.forget.new.self.entries in
    let noting : SetsStamp one.identifier None now new = rw (c.as_str.ensures.text, c.identifier.ensures) at c.forget.ensures.entries in
    let many : IsSome (stamp_in one.identifier now) → length new + 1 ≡ length now = rw (c.as_str.ensures.text, c.identifier.ensures) at c.forget.ensures.many in
    record {
      version = c.forget.ensures.version ∙ c.loop-deleted.invariant.version;
      agrees = forgotten_next c.args.self.now.entries now new gone i one c.loop-deleted-test.true c.loop-deleted.invariant.agrees
          (subst (λ (x : ItemState). SetsStamp x.identifier None now new) c.deleted-item.is noting)
          (subst (λ (x : ItemState). IsSome (stamp_in x.identifier now) → length new + 1 ≡ length now) c.deleted-item.is many);
      forgotten = forgotten_too c.args.self.now.entries now new one.identifier c.loop-deleted.invariant.forgotten noting;
      fewer = omega (arith, c.forget.ensures.fewer, c.loop-deleted.invariant.fewer);
    }
