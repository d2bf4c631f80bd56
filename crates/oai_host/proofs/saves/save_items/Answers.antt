-- Each piece begins behind the last item of the one before.
use Rattle.std.proofs.Common.{◌≡◌, ◌∙◌, ◌+◌, ◌≤◌, ◌<◌, ℕ, IsTrue, List, Option, ap, ap₂, arith, drop, length, map, refl, subst, sym, take}
use Rattle.oai_item.specs.Item.{ItemState}
use Rattle.oai_catalogue.specs.Store.{VersionLists}
use Rattle.oai_settings.specs.Config.{RepositoryConfig}
use Rattle.oai_holdings.specs.Index.{stored_items}
use Rattle.oai_holdings.specs.Saved.{items_behind}
use Rattle.oai_repo.specs.Saved.{has_item}
use Rattle.oai_host.specs.Saving.{TakesParts}
use Rattle.oai_host.proofs.PieceLemmas.{next_start, piece_behind, piece_taken, pieces_end}
use Rattle.oai_host.proofs.SavedLemmas.{parts_none}
use Rattle.oai_host.proofs.saves.save_items.Goals as goal

pub loop-start-init : goal.loop-start-init
loop-start-init g c = record {
  most = c.items-most.ensures.items ∙ ap (λ (config : RepositoryConfig). config.items) c.config.ensures;
  start = omega arith;
  same = refl;
  honesty = refl;
  taken = λ _. parts_none g.S.Sink.has c.args.name.now c.args.repo.now.clock c.args.sink.now;
  behind = λ _ _. refl;
}

pub loop-start-preserved : goal.loop-start-preserved
loop-start-preserved g c =
    let V = g.V.Versions in
    let has = g.S.Sink.has in
    let at = c.loop-start in
    let repo = c.args.repo.now in
    let most = c.items-most.result in
    let some = c.min-some.result in
    let next = c.after_piece-start.result in
    let items : List ItemState = stored_items repo.index (V.lists c.args.store.now) in
    let piece : List ItemState = c.in-Ok.piece in
    let least = c.min-some.ensures in
    let within : at.start + some ≤ most = omega (arith, least, at.invariant.start) in
    let many : 0 < some = omega (arith, least, c.loop-start-test.true) in
    let next_is : next ≡ next_start at.start some (length piece) most = c.after_piece-start.ensures.read ∙ ap (λ (n : ℕ). next_start at.start some n most) c.len.ensures in
    let read : IsTrue (V.honest c.args.store.now) → piece ≡ take some (drop at.start items) =
    λ honest.
    c.in-Ok.ensures.items (at.invariant.honesty ∙ honest)
    ∙ ap₂ (λ (last : Option ItemState) (lists : VersionLists). take some (items_behind last (stored_items repo.index lists))) c.as_ref.ensures.value at.invariant.same
    ∙ ap (take some) (at.invariant.behind honest c.loop-start-test.true)
    in
    record {
      most = at.invariant.most;
      start = c.after_piece-start.ensures.within;
      same = c.in-Ok.ensures.reads.same ∙ at.invariant.same;
      honesty = c.in-Ok.ensures.reads.store.honesty.same ∙ at.invariant.honesty;
      taken = λ honest.
          piece_taken has c.args.name.now repo.clock items piece at.start some most next c.args.sink.now at.sink c.save_piece.new.sink (read honest) within next_is (at.invariant.taken honest)
          (subst (λ (xs : List ItemState). TakesParts has c.args.name.now repo.clock (map has_item xs) at.sink c.save_piece.new.sink) c.as_slice.ensures (c.in_ok-save_piece.ensures repo.clock));
      behind = λ honest below.
          piece_behind items piece at.start some most c.last_of-last.result (c.requires.held honest).indexed.kept.ordered (read honest) many c.last_of-last.ensures (subst (λ (n : ℕ). n < most) next_is below)
          ∙ ap (λ (n : ℕ). drop n items) (sym next_is);
    }

pub returns-clause-saved : goal.returns-clause-saved
returns-clause-saved g c =
    λ honest.
    let repo = c.args.repo.now in
    let items : List ItemState = stored_items repo.index (g.V.Versions.lists c.args.store.now) in
    let kept = (c.requires.held honest).indexed.kept in
    let few : length items ≤ c.items-most.result = subst (λ (n : ℕ). length items ≤ n) (sym c.loop-start.invariant.most) kept.few in
    subst (λ (xs : List ItemState). TakesParts g.S.Sink.has c.args.name.now repo.clock (map has_item xs) c.args.sink.now c.loop-start.sink)
    (pieces_end items c.loop-start.start c.items-most.result few c.loop-start-test.false) (c.loop-start.invariant.taken honest)
