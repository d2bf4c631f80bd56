-- What was done to the part is what is made of the whole.
use Rattle.std.proofs.Common.{IsTrue, ◌≡◌, ◌&&◌, Bool, FitsSigned, true, false, arith, refl, not, subst, sym, w64}
use Rattle.std.proofs.lemmas.Int.{to_z-of_z}
use Rattle.std.proofs.lemmas.Bool.{and_parts}
use Rattle.oai_item.specs.Item.{IsStamp, ItemState}
use Rattle.oai_names.proofs.Lists.{all-weaker}
use Rattle.oai_holdings.specs.Calls.{unstamped}
use Rattle.oai_holdings.specs.Index.{holdings_of, stored_items}
use Rattle.oai_holdings.specs.Kept.{is_too_large, is_well_kept}
use Rattle.oai_holdings.specs.Purges.{is_in_core}
use Rattle.oai_holdings.specs.Indexing.{MakesChange}
use Rattle.oai_holdings.proofs.ChangeLemmas.{dated-made, deletion_done, deposit_done, kept-made, purge_done, put_done, set_done, stamp_fits}
use Rattle.oai_holdings.proofs.PutLemmas.{answered_put, answered_so}
use Rattle.oai_holdings.proofs.IndexLemmas.{on_ok}
use Rattle.oai_holdings.proofs.changes.make_change.Goals as goal

pub delete-requires-clause-small : goal.delete-requires-clause-small
delete-requires-clause-small g c = λ honest.
    all-weaker (is_well_kept c.args.context.now.config.now c.args.sets.now) (λ (item : ItemState). not (is_too_large item)) (λ item well. (and_parts _ (not (is_too_large item)) well).1)
    (stored_items c.args.index.now (g.V.Versions.lists c.args.store.now)) (c.requires.held.indexed honest).kept.well

pub returns-in-Deposit-clause-made : goal.returns-in-Deposit-clause-made
returns-in-Deposit-clause-made g c =
    let made : IsTrue (g.V.Versions.honest c.args.store.now) → MakesChange c.args.context.now.config.now c.args.context.now.stamp (holdings_of c.args.index.now c.args.sets.now (g.V.Versions.lists c.args.store.now)) c.args.change.now c.put_deposit.result (holdings_of c.put_deposit.new.index c.args.sets.now (g.V.Versions.lists c.put_deposit.new.store)) =
    λ honest.
    rw c.in-Deposit.is (deposit_done _ _ _ _ _ _ _ _ _ (rw c.as_slice.ensures at (c.put_deposit.ensures.done.done honest))) in
    rw c.dated.ensures.outcome (record {
      made = made;
      indexed = λ honest. record {
        agrees = c.put_deposit.ensures.done.agrees honest;
        kept = kept-made _ _ _ _ _ _ (made honest) (c.requires.held.indexed honest).kept;
        dated = dated-made _ _ _ _ _ _ (made honest) c.requires.stamped (c.requires.held.indexed honest).dated;
      };
    })

pub returns-in-Put-clause-made : goal.returns-in-Put-clause-made
returns-in-Put-clause-made g c =
    let made : IsTrue (g.V.Versions.honest c.args.store.now) → MakesChange c.args.context.now.config.now c.args.context.now.stamp (holdings_of c.args.index.now c.args.sets.now (g.V.Versions.lists c.args.store.now)) c.args.change.now (unstamped c.put_if_new.result) (holdings_of c.put_if_new.new.index c.args.sets.now (g.V.Versions.lists c.put_if_new.new.store)) =
    λ honest.
    rw c.in-Put.is (put_done _ _ _ _ _ _ _ _ _ (rw c.as_slice-in-Put.ensures at (c.put_if_new.ensures.done.done honest))) in
    record {
      made = made;
      indexed = λ honest. record {
        agrees = c.put_if_new.ensures.done.agrees honest;
        kept = kept-made _ _ _ _ _ _ (made honest) (c.requires.held.indexed honest).kept;
        dated = dated-made _ _ _ _ _ _ (made honest) c.requires.stamped (c.requires.held.indexed honest).dated;
      };
    }

pub returns-in-Delete-clause-made : goal.returns-in-Delete-clause-made
returns-in-Delete-clause-made g c =
    let made : IsTrue (g.V.Versions.honest c.args.store.now) → MakesChange c.args.context.now.config.now c.args.context.now.stamp (holdings_of c.args.index.now c.args.sets.now (g.V.Versions.lists c.args.store.now)) c.args.change.now c.delete.result (holdings_of c.delete.new.index c.args.sets.now (g.V.Versions.lists c.delete.new.store)) =
    λ honest.
    rw c.in-Delete.is (deletion_done _ _ _ _ _ _ _ (c.delete.ensures.done.done honest)) in
    rw c.dated-in-Delete.ensures.outcome (record {
      made = made;
      indexed = λ honest. record {
        agrees = c.delete.ensures.done.agrees honest;
        kept = kept-made _ _ _ _ _ _ (made honest) (c.requires.held.indexed honest).kept;
        dated = dated-made _ _ _ _ _ _ (made honest) c.requires.stamped (c.requires.held.indexed honest).dated;
      };
    })

pub purge-requires-clause-core : goal.purge-requires-clause-core
purge-requires-clause-core g c = λ honest.
    all-weaker (is_well_kept c.args.context.now.config.now c.args.sets.now) is_in_core (λ item well. core_of (is_in_core item) _ _ _ _ well)
    (stored_items c.args.index.now (g.V.Versions.lists c.args.store.now)) (c.requires.held.indexed honest).kept.well
  where
    core_of : (a b c d e : Bool) → (a && b && c && d && e) ≡ true → a ≡ true
    core_of true b c d e h = refl
    core_of false b c d e h = cc

pub returns-in-Purge-clause-made : goal.returns-in-Purge-clause-made
returns-in-Purge-clause-made g c =
    let made : IsTrue (g.V.Versions.honest c.args.store.now) → MakesChange c.args.context.now.config.now c.args.context.now.stamp (holdings_of c.args.index.now c.args.sets.now (g.V.Versions.lists c.args.store.now)) c.args.change.now c.purge.result (holdings_of c.purge.new.index c.args.sets.now (g.V.Versions.lists c.purge.new.store)) =
    λ honest.
    rw c.in-Purge.is (purge_done _ _ _ _ _ _ _ (rw c.as_str.ensures at (c.purge.ensures.done.done honest))) in
    rw c.dated-in-Purge.ensures.outcome (record {
      made = made;
      indexed = λ honest. record {
        agrees = c.purge.ensures.done.agrees honest;
        kept = kept-made _ _ _ _ _ _ (made honest) (c.requires.held.indexed honest).kept;
        dated = dated-made _ _ _ _ _ _ (made honest) c.requires.stamped (c.requires.held.indexed honest).dated;
      };
    })

pub returns-in-AddSet-clause-made : goal.returns-in-AddSet-clause-made
returns-in-AddSet-clause-made g c =
    let made : IsTrue (g.V.Versions.honest c.args.store.now) → MakesChange c.args.context.now.config.now c.args.context.now.stamp (holdings_of c.args.index.now c.args.sets.now (g.V.Versions.lists c.args.store.now)) c.args.change.now c.add_set.result (holdings_of c.args.index.now c.add_set.new.sets (g.V.Versions.lists c.args.store.now)) =
    λ honest.
    rw c.in-AddSet.is (set_done _ _ _ _ _ _ _ _ (rw c.as_str-in-AddSet.ensures at c.add_set.ensures.done)) in
    rw c.dated-in-AddSet.ensures.outcome (record {
      made = made;
      indexed = λ honest. record {
        agrees = (c.requires.held.indexed honest).agrees;
        kept = kept-made _ _ _ _ _ _ (made honest) (c.requires.held.indexed honest).kept;
        dated = dated-made _ _ _ _ _ _ (made honest) c.requires.stamped (c.requires.held.indexed honest).dated;
      };
    })

pub returns-in-Deposit-clause-kept : goal.returns-in-Deposit-clause-kept
returns-in-Deposit-clause-kept g c =
    let fits : FitsSigned w64 c.args.context.now.stamp = stamp_fits c.args.context.now.stamp c.requires.stamped in
    rw c.in-Deposit.is (answered_so c.put_deposit.result c.dated.result c.args.context.now.stamp c.dated.ensures.outcome (simp to_z-of_z at c.dated.ensures.told)
    (λ stamped told same. (record { entries = stamped; sets = refl }, record { is = same; writable = subst IsStamp (sym same) c.requires.stamped })) c.put_deposit.ensures.stamped)

pub returns-in-Put-clause-kept : goal.returns-in-Put-clause-kept
returns-in-Put-clause-kept g c =
    rw c.in-Put.is (answered_put c.put_if_new.result (λ told stamped its. (record { entries = stamped; sets = refl }, record { is = its.0; writable = its.1 })) c.put_if_new.ensures.stamped c.put_if_new.ensures.told)

pub returns-in-Delete-clause-kept : goal.returns-in-Delete-clause-kept
returns-in-Delete-clause-kept g c =
    let fits : FitsSigned w64 c.args.context.now.stamp = stamp_fits c.args.context.now.stamp c.requires.stamped in
    rw c.in-Delete.is (answered_so c.delete.result c.dated-in-Delete.result c.args.context.now.stamp c.dated-in-Delete.ensures.outcome (simp to_z-of_z at c.dated-in-Delete.ensures.told)
    (λ made told same. (record { entries = (made.there, made.stamped); sets = refl }, record { is = same; writable = subst IsStamp (sym same) c.requires.stamped })) c.delete.ensures.entries)

pub returns-in-Purge-clause-kept : goal.returns-in-Purge-clause-kept
returns-in-Purge-clause-kept g c =
    let fits : FitsSigned w64 c.args.context.now.stamp = stamp_fits c.args.context.now.stamp c.requires.stamped in
    rw c.in-Purge.is (answered_so c.purge.result c.dated-in-Purge.result c.args.context.now.stamp c.dated-in-Purge.ensures.outcome (simp to_z-of_z at c.dated-in-Purge.ensures.told)
    (λ forgotten told same. (record { entries = forgotten.some; sets = refl }, record { is = same; writable = subst IsStamp (sym same) c.requires.stamped })) c.purge.ensures.forgotten)

pub returns-in-AddSet-clause-kept : goal.returns-in-AddSet-clause-kept
returns-in-AddSet-clause-kept g c =
    let fits : FitsSigned w64 c.args.context.now.stamp = stamp_fits c.args.context.now.stamp c.requires.stamped in
    rw c.in-AddSet.is (answered_so c.add_set.result c.dated-in-AddSet.result c.args.context.now.stamp c.dated-in-AddSet.ensures.outcome (simp to_z-of_z at c.dated-in-AddSet.ensures.told)
    (λ added told same. (record { entries = refl; sets = added }, record { is = same; writable = subst IsStamp (sym same) c.requires.stamped })) (rw c.as_str-in-AddSet.ensures at c.add_set.ensures.added))

pub returns-in-Deposit-clause-few : goal.returns-in-Deposit-clause-few
returns-in-Deposit-clause-few g c = rw c.dated.ensures.outcome c.put_deposit.ensures.few

pub returns-in-Delete-clause-few : goal.returns-in-Delete-clause-few
returns-in-Delete-clause-few g c = rw c.dated-in-Delete.ensures.outcome (on_ok c.delete.result _ _ (λ made few. omega (arith, made.fewer, few)) c.delete.ensures.entries)

pub returns-in-Purge-clause-few : goal.returns-in-Purge-clause-few
returns-in-Purge-clause-few g c = rw c.dated-in-Purge.ensures.outcome (on_ok c.purge.result _ _ (λ made few. omega (arith, made.fewer, few)) c.purge.ensures.forgotten)

pub returns-in-Deposit-clause-moves : goal.returns-in-Deposit-clause-moves
returns-in-Deposit-clause-moves g c = rw c.dated.ensures.outcome c.put_deposit.ensures.moves

pub returns-in-Delete-clause-moves : goal.returns-in-Delete-clause-moves
returns-in-Delete-clause-moves g c = rw c.dated-in-Delete.ensures.outcome c.delete.ensures.moves

pub returns-in-Purge-clause-moves : goal.returns-in-Purge-clause-moves
returns-in-Purge-clause-moves g c = rw c.dated-in-Purge.ensures.outcome c.purge.ensures.moves

pub returns-in-Deposit-clause-store : goal.returns-in-Deposit-clause-store
returns-in-Deposit-clause-store g c = rw (c.in-Deposit.is, c.dated.ensures.outcome) c.put_deposit.ensures.store

pub returns-in-Delete-clause-store : goal.returns-in-Delete-clause-store
returns-in-Delete-clause-store g c = rw (c.in-Delete.is, c.dated-in-Delete.ensures.outcome) c.delete.ensures.store

pub returns-in-Purge-clause-store : goal.returns-in-Purge-clause-store
returns-in-Purge-clause-store g c = rw (c.in-Purge.is, c.dated-in-Purge.ensures.outcome) c.purge.ensures.store
