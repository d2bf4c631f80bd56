-- The versions that are frozen are those of the lists that are open, and that of the items.
use Rattle.std.proofs.Common.{FitsSigned, of_z, rules, to_z, w64, ◌≡◌, ◌∙◌, true, List, length, refl, ap, is_some, map, subst}
use Rattle.std.specs.List.{list_all}
use Rattle.std.proofs.lemmas.Int.{to_z-of_z}
use Rattle.oai_catalogue.specs.Store.{VersionLists, list_at}
use Rattle.oai_holdings.specs.Index.{are_whole}
use Rattle.oai_repo.specs.Fields.{RepoFields, numbers_of}
use Rattle.oai_snapshots.specs.Taking.{HasFrozen, are_in_use, sources_of}
use Rattle.oai_snapshots.specs.declared.versions.SnapshotVersion.{SnapshotVersion}
use Rattle.oai_snapshots.proofs.SnapshotLemmas.{stored_whole}
use Rattle.oai_snapshots.proofs.TakingLemmas.{all_copies, all_of_repo, frozen_repo, taken_apart}
use Rattle.oai_snapshots.proofs.snapshots.Snapshot.take.Goals as goal

pub freeze_all-requires : goal.freeze_all-requires
freeze_all-requires g c =
    let lists : VersionLists = g.V.Versions.lists c.args.store.now in
    ap (are_in_use lists) c.in_ok-sources.ensures ∙ all_of_repo (λ v. is_some (lists v)) c.args.repo.now c.requires.stands.used

pub returns-clause-taken : goal.returns-clause-taken
returns-clause-taken g c =
    let repo : RepoFields = c.args.repo.now in
    let before : VersionLists = g.V.Versions.lists c.args.store.now in
    let after : VersionLists = g.V.Versions.lists c.freeze_all.new.store in
    let versions : List SnapshotVersion = c.in_ok-versions.versions.items in
    let frozen : HasFrozen (sources_of repo) before versions after =
    subst (λ (sources : List SnapshotVersion). HasFrozen sources before versions after) c.in_ok-sources.ensures c.in_ok-versions.ensures.frozen in
    let fits : FitsSigned w64 c.clock.result = record { sfits = c.clock.type_inv } in
    let clock : to_z w64 (of_z w64 c.clock.result) ≡ c.clock.result = search (rules, to_z-of_z) in
    record {
      clock = clock ∙ c.clock.ensures.clock;
      next = c.next_list.ensures;
      begun = refl;
      sets = c.len.ensures ∙ ap length c.sets.ensures;
      given = refl;
      first = refl;
      place = refl;
      frozen = frozen_repo repo before versions after frozen.copies;
    }

pub returns-clause-whole : goal.returns-clause-whole
returns-clause-whole g c whole =
    let repo : RepoFields = c.args.repo.now in
    let before : VersionLists = g.V.Versions.lists c.args.store.now in
    let after : VersionLists = g.V.Versions.lists c.freeze_all.new.store in
    let versions : List SnapshotVersion = c.in_ok-versions.versions.items in
    let sources : list_all (λ (s : SnapshotVersion). are_whole (list_at before s.version)) c.in_ok-sources.sources.items ≡ true =
    ap (list_all (λ (s : SnapshotVersion). are_whole (list_at before s.version))) c.in_ok-sources.ensures ∙ all_of_repo (λ v. are_whole (list_at before v)) repo whole in
    all_copies are_whole c.in_ok-sources.sources.items before versions after sources c.in_ok-versions.ensures.frozen.copies

pub returns-clause-holds : goal.returns-clause-holds
returns-clause-holds g c = record {
  stands = c.in_ok-versions.ensures.frozen.stands;
  whole = λ honest. returns-clause-whole g c (stored_whole c.args.repo.now (g.V.Versions.lists c.args.store.now) (c.requires.held honest));
}

pub returns-clause-others : goal.returns-clause-others
returns-clause-others g c = c.in_ok-versions.ensures.frozen.others

pub returns-clause-apart : goal.returns-clause-apart
returns-clause-apart g c =
    let frozen = c.in_ok-versions.ensures.frozen in
    taken_apart (numbers_of c.args.repo.now) (map (λ (s : SnapshotVersion). s.version) c.in_ok-versions.versions.items) (g.V.Versions.lists c.args.store.now) (g.V.Versions.lists c.freeze_all.new.store)
    frozen.stands
    frozen.others
    c.requires.stands.used
