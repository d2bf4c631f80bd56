-- What an item that goes leaves: items that are as the repository keeps them.
use Rattle.std.proofs.Common.{◌≡◌, ℕ, true, List, Result, Ok, Err, OnOk, OnErr, sym, subst}
use Rattle.std.specs.List.{list_all}
use Rattle.oai_item.specs.Item.{ItemState}
use Rattle.oai_item.specs.Items.{without}
use Rattle.oai_item.specs.declared.faults.Fault.{Fault}
use Rattle.oai_catalogue.specs.Store.{VersionLists}
use Rattle.oai_settings.specs.Config.{RepositoryConfig}
use Rattle.oai_holdings.specs.Holdings.{NamedSet}
use Rattle.oai_holdings.specs.Index.{IndexAgrees, IsIndexed, ItemIndex, has_writable_stamp, holdings_of, stored_items}
use Rattle.oai_holdings.specs.Kept.{AreKept}
use Rattle.oai_holdings.proofs.KeptLemmas.{taken, well-without}

-- the items after one was taken out, or was not
pub gone_indexed : (config : RepositoryConfig) (sets : List NamedSet) (identifier : List ℕ) (r : Result (Unit {0}) Fault) (old new : ItemIndex) (before after : VersionLists)
    → IsIndexed config old sets before
    → OnOk r (stored_items new after ≡ without identifier (stored_items old before)) → OnOk r (IndexAgrees new.entries (stored_items new after))
    → OnErr r (new ≡ old) → OnErr r (after ≡ before) → IsIndexed config new sets after
gone_indexed config sets identifier (Ok _) old new before after held list agrees same_index same_lists = record {
  agrees = agrees;
  kept = subst (λ (items : List ItemState). AreKept config (record { items = items; sets = sets })) (sym list) (taken config (holdings_of old sets before) identifier held.kept);
  dated = subst (λ (items : List ItemState). list_all has_writable_stamp items ≡ true) (sym list) (well-without has_writable_stamp identifier (stored_items old before) held.dated);
}
gone_indexed config sets identifier (Err e) old new before after held list agrees same_index same_lists =
    subst (λ (lists : VersionLists). IsIndexed config new sets lists) (sym same_lists) (subst (λ (index : ItemIndex). IsIndexed config index sets before) (sym same_index) held)
