-- The state with an item that is restored, or goes.
use Rattle.std.proofs.Common.{◌≡◌, ◌∙◌, ℕ, ℤ, Bool, List, IsTrue, ap, refl}
use Rattle.oai_item.specs.Item.{ItemState}
use Rattle.oai_item.specs.Items.{without}
use Rattle.oai_catalogue.specs.Store.{VersionLists}
use Rattle.oai_lists.specs.OpenLists.{Table}
use Rattle.oai_settings.specs.Config.{RepositoryConfig}
use Rattle.oai_holdings.specs.Changes.{with_new}
use Rattle.oai_holdings.specs.Holdings.{NamedSet}
use Rattle.oai_holdings.specs.Index.{IsIndexed, ItemIndex, stored_items}
use Rattle.oai_holdings.specs.Indexing.{IsMoved}
use Rattle.oai_repo.specs.Fields.{HasNumbersIn, Keeps, Owns, open_lists_of, state_of, versions_in}
use Rattle.oai_repo.specs.Saved.{has_gone, has_item, with_part}
use Rattle.oai_repo.specs.State.{OpenLists, RepoState}
use Rattle.oai_repo.proofs.MoveLemmas.{held_with}
use Rattle.oai_repo.proofs.NumberLemmas.{in_use_moved, kept_moved, moved_others}
use Rattle.oai_repo.proofs.OpenListLemmas.{open_lists_same, table_agrees_same}

-- the items are others, and all else is as it was
items_changed : (config : RepositoryConfig) (clock : ℤ) (index new : ItemIndex) (sets : List NamedSet) (table : Table) (before after : VersionLists) (items : List ItemState)
    → HasNumbersIn (held_with config clock index sets table) before → IsMoved index.version before new.version after → stored_items new after ≡ items
    → state_of (held_with config clock new sets table) after ≡ record { clock = clock; holdings = record { items = items; sets = sets }; open_lists = open_lists_of clock table before }
items_changed config clock index new sets table before after items stands moved list =
    let made : List ItemState → OpenLists → RepoState = λ items open_lists. record { clock = clock; holdings = record { items = items; sets = sets }; open_lists = open_lists } in
    ap (λ (xs : List ItemState). made xs (open_lists_of clock table after)) list
    ∙ ap (made items) (open_lists_same clock table before after (moved_others index.version new.version (versions_in table) before after stands moved))

pub item_restored : (config : RepositoryConfig) (clock : ℤ) (index new : ItemIndex) (sets : List NamedSet) (table : Table) (before after : VersionLists) (item : ItemState)
    → HasNumbersIn (held_with config clock index sets table) before → IsMoved index.version before new.version after → stored_items new after ≡ with_new item (stored_items index before)
    → state_of (held_with config clock new sets table) after ≡ with_part (state_of (held_with config clock index sets table) before) (has_item item)
item_restored config clock index new sets table before after item stands moved list =
    items_changed config clock index new sets table before after (with_new item (stored_items index before)) stands moved list

pub gone_restored : (config : RepositoryConfig) (clock : ℤ) (index new : ItemIndex) (sets : List NamedSet) (table : Table) (before after : VersionLists) (identifier : List ℕ)
    → HasNumbersIn (held_with config clock index sets table) before → IsMoved index.version before new.version after → stored_items new after ≡ without identifier (stored_items index before)
    → state_of (held_with config clock new sets table) after ≡ with_part (state_of (held_with config clock index sets table) before) (has_gone identifier)
gone_restored config clock index new sets table before after identifier stands moved list =
    items_changed config clock index new sets table before after (without identifier (stored_items index before)) stands moved list

-- where the items have moved, the numbers and the open lists are as they were
pub keeps_moved : (honest : Bool) (config : RepositoryConfig) (clock : ℤ) (index new : ItemIndex) (sets : List NamedSet) (table : Table) (before after : VersionLists)
    → Owns honest (held_with config clock index sets table) before → IsMoved index.version before new.version after → (IsTrue honest → IsIndexed config new sets after)
    → Keeps honest (held_with config clock index sets table) before (held_with config clock new sets table) after
keeps_moved honest config clock index new sets table before after owns moved indexed =
    let v = index.version in
    let w = new.version in
    let numbers = versions_in table in
    record {
      config = refl;
      stands = in_use_moved v w numbers before after owns.stands moved;
      held = λ is. record {
        indexed = indexed is;
        agrees = table_agrees_same table before after (moved_others v w numbers before after owns.stands moved) (owns.held is).agrees;
      };
      others = kept_moved v w numbers before after owns.stands moved;
    }
