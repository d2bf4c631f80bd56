-- A part that is restored leaves what the next call needs, over the fields that the repository is opened to.
use Rattle.std.proofs.Common.{◌∷◌, refl}
use Rattle.oai_repo.specs.Fields.{versions_in}
use Rattle.oai_holdings.proofs.IndexLemmas.{on_ok}
use Rattle.oai_repo.proofs.NumberLemmas.{kept_same}
use Rattle.oai_repo.proofs.OpenListLemmas.{indexed_at}
use Rattle.oai_holdings.proofs.RestoreLemmas.{set_indexed}
use Rattle.oai_repo.proofs.RestoreLemmas.{gone_restored, item_restored, keeps_moved}
use Rattle.oai_repo.proofs.repo.Repo.restore.Goals as goal

pub returns-in-HasSet-clause-keeps : goal.returns-in-HasSet-clause-keeps
returns-in-HasSet-clause-keeps g c =
    let inside = c.self.inside in
    let all = g.V.Versions.lists c.args.store.now in
    let owns = rw (← c.self.view_is) at c.requires in
    rw (← c.self.view_is) (record {
      config = refl;
      stands = owns.stands;
      held = λ honest. record {
        indexed = set_indexed inside.config inside.index inside.sets c.restore_set.new.sets (c.in-HasSet.spec.now, c.in-HasSet.name.now) all c.restore_set.result
            c.restore_set.ensures.added c.restore_set.ensures.err (owns.held honest).indexed;
        agrees = (owns.held honest).agrees;
      };
      others = kept_same (inside.index.version ∷ versions_in inside.lists) all;
    })

pub returns-in-HasItem-clause-restored : goal.returns-in-HasItem-clause-restored
returns-in-HasItem-clause-restored g c =
    let inside = c.self.inside in
    let owns = rw (← c.self.view_is) at c.requires in
    let before = g.V.Versions.lists c.args.store.now in
    let after = g.V.Versions.lists c.restore_item.new.store in
    rw (← c.self.view_is, c.in-HasItem.is)
    (on_ok c.restore_item.result _ _
    (λ made honest. item_restored inside.config inside.clock inside.index c.restore_item.new.index inside.sets inside.lists before after c.in-HasItem.item.now owns.stands c.restore_item.ensures.moves.moved (made honest))
    c.restore_item.ensures.made)

pub returns-in-HasItem-clause-keeps : goal.returns-in-HasItem-clause-keeps
returns-in-HasItem-clause-keeps g c =
    let inside = c.self.inside in
    let owns = rw (← c.self.view_is) at c.requires in
    rw (← c.self.view_is)
    (keeps_moved (g.V.Versions.honest c.args.store.now) inside.config inside.clock inside.index c.restore_item.new.index inside.sets inside.lists
    (g.V.Versions.lists c.args.store.now) (g.V.Versions.lists c.restore_item.new.store) owns c.restore_item.ensures.moves.moved c.restore_item.ensures.indexed)

pub returns-in-Goes-clause-restored : goal.returns-in-Goes-clause-restored
returns-in-Goes-clause-restored g c =
    let inside = c.self.inside in
    let owns = rw (← c.self.view_is) at c.requires in
    let before = g.V.Versions.lists c.args.store.now in
    let after = g.V.Versions.lists c.restore_gone.new.store in
    rw (← c.self.view_is, c.in-Goes.is)
    (on_ok c.restore_gone.result _ _
    (λ made honest. gone_restored inside.config inside.clock inside.index c.restore_gone.new.index inside.sets inside.lists before after c.in-Goes.identifier.now owns.stands c.restore_gone.ensures.moves.moved (made honest))
    c.restore_gone.ensures.made)

pub returns-in-Goes-clause-keeps : goal.returns-in-Goes-clause-keeps
returns-in-Goes-clause-keeps g c =
    let inside = c.self.inside in
    let owns = rw (← c.self.view_is) at c.requires in
    rw (← c.self.view_is)
    (keeps_moved (g.V.Versions.honest c.args.store.now) inside.config inside.clock inside.index c.restore_gone.new.index inside.sets inside.lists
    (g.V.Versions.lists c.args.store.now) (g.V.Versions.lists c.restore_gone.new.store) owns c.restore_gone.ensures.moves.moved
    (λ honest. c.restore_gone.ensures.indexed inside.config inside.sets honest (owns.held honest).indexed))

pub returns-in-HasList-clause-keeps : goal.returns-in-HasList-clause-keeps
returns-in-HasList-clause-keeps g c =
    let inside = c.self.inside in
    let owns = rw (← c.self.view_is) at c.requires in
    let before = g.V.Versions.lists c.args.store.now in
    let after = g.V.Versions.lists c.reopen.new.store in
    let left = c.reopen.ensures.left in
    rw (← c.self.view_is) (record {
      config = refl;
      stands = left.stands;
      held = λ honest. record {
        indexed = indexed_at inside.config inside.index inside.sets before after left.items (owns.held honest).indexed;
        agrees = c.reopen.ensures.agrees honest;
      };
      others = left.others;
    })
