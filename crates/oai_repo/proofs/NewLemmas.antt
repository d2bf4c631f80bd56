-- A new repository is in its initial state.
use Rattle.std.proofs.Common.{◌≡◌, ◌∙◌, ℕ, ℤ, true, eqb, List, [], ◌∷◌, None, Some, is_some, refl, ap}
use Rattle.std.proofs.lemmas.Bool.{and_from, cond-true, eq-eqb}
use Rattle.oai_item.specs.Item.{ItemState}
use Rattle.oai_catalogue.specs.Store.{VersionLists, with_list}
use Rattle.oai_lists.specs.OpenLists.{Table}
use Rattle.oai_settings.specs.Config.{RepositoryConfig}
use Rattle.oai_holdings.specs.Holdings.{NamedSet}
use Rattle.oai_holdings.specs.Index.{ItemIndex}
use Rattle.oai_holdings.proofs.IndexLemmas.{new_held, no_items}
use Rattle.oai_repo.specs.Fields.{AreInUse, IsNew}
use Rattle.oai_repo.specs.State.{RepoState, no_open_lists}

-- the number alone is in use
new_stands : (v : ℕ) (before after : VersionLists) → after ≡ with_list v [] before → AreInUse (v ∷ []) after
new_stands v before after listed =
    let there : is_some (after v) ≡ true = ap is_some (ap (λ (lists : VersionLists). lists v) listed ∙ cond-true (eqb v v) (Some []) (before v) (eq-eqb v v refl)) in
    record { used = and_from (is_some (after v)) true there refl; apart = refl }

pub is_new : (config : RepositoryConfig) (clock : ℤ) (index : ItemIndex) (sets : List NamedSet) (table : Table) (v : ℕ) (before after : VersionLists)
    → clock ≡ config.earliest → index ≡ record { version = v; entries = [] } → sets ≡ [] → table ≡ record { limit = config.lists; next = 1; lists = [] }
    → before v ≡ None → after ≡ with_list v [] before → IsNew config before (record { config = config; clock = clock; index = index; sets = sets; table = table }) after
is_new config clock index sets table v before after opens_list bare none empty unused listed =
    rw (opens_list, bare, none, empty) (record {
      configured = refl;
      alone = refl;
      unused = unused;
      listed = listed;
      empty = ap (λ (items : List ItemState). state_with config items) (no_items config v before after listed);
      held = record { indexed = new_held config v before after listed; agrees = record { counted = refl; marked = refl; whole = refl } };
      stands = new_stands v before after listed;
    })
  where
    state_with : RepositoryConfig → List ItemState → RepoState
    state_with c items = record { clock = c.earliest; holdings = record { items = items; sets = [] }; open_lists = no_open_lists }
