-- The list stands behind the others, and its version holds the items as they stand.
use Rattle.std.proofs.Common.{◌≡◌, ◌∙◌, ◌+ℤ◌, pos, ℤ, ℕ, List, ap, FitsSigned, w64, to_z, of_z, refl, arith}
use Rattle.std.proofs.lemmas.Int.{to_z-of_z}
use Rattle.oai_item.specs.Item.{ItemState}
use Rattle.oai_item.specs.Selection.{selected}
use Rattle.oai_catalogue.specs.Store.{list_at, without_list}
use Rattle.oai_catalogue.proofs.ListsLemmas.{stands-with, without_with}
use Rattle.oai_lists.specs.OpenLists.{opened_list, with_opened}
use Rattle.oai_lists.specs.declared.open_lists.OpenList.{OpenList}
use Rattle.oai_holdings.proofs.RestoreLemmas.{indexed_whole}
use Rattle.oai_repo.specs.Fields.{open_lists_of}
use Rattle.oai_repo.specs.Listing.{new_list, with_new_list}
use Rattle.oai_repo.specs.State.{FrozenList}
use Rattle.oai_repo.specs.Views.{view_open_lists, view_selected}
use Rattle.oai_repo.proofs.OpenListLemmas.{open_lists_opened, left_opened, left_same_table, table_agrees_opened}
use Rattle.oai_repo.proofs.ClockLemmas.{years_fit}
use Rattle.oai_repo.proofs.WaitLemmas.{room_for_one, opening_failed}
use Rattle.oai_repo.proofs.lists.start_unread.Goals as goal

pub returns-in-Ok-clause-passed : goal.returns-in-Ok-clause-passed
returns-in-Ok-clause-passed g c = λ honest.
    let fits_now : FitsSigned w64 c.args.repo.now.clock = years_fit c.args.repo.now.clock c.requires.ready.dated in
    let fits : FitsSigned w64 c.end-end.result = record { sfits = c.end-end.type_inv } in
    let repo = c.args.repo.now in
    let config = repo.config.now in
    let table = c.args.lists.now in
    let all = g.V.Versions.lists c.args.store.now in
    let selection = c.args.selection in
    let v = repo.index.now.version in
    let items : List ItemState = list_at all v in
    let chosen : List ItemState = view_selected repo all selection.filter in
    let list : FrozenList = new_list config repo.clock (view_open_lists repo table all) selection.verb selection.format.now.prefix chosen in
    let entry : OpenList = record { number = table.next; verb = selection.verb; filter = selection.filter; version = c.in_ok-frozen.frozen; size = c.args.size; end = c.end-end.result; given = c.chunk.result; mark = c.args.mark } in
    let frozen = rw c.version.ensures at c.in_ok-frozen.ensures.ok in
    let opened = simp to_z-of_z at c.in-Ok.ensures.opened in
    let open_lists = open_lists_opened repo.clock v table all entry items c.requires.ready.stands c.in_ok-frozen.ensures.unused c.end-end.ensures.later in
    let made : List ℕ → ℤ → ℕ → FrozenList = λ prefix end given. record { number = table.next; verb = selection.verb; prefix = prefix; items = selected selection.filter items; end = end; given = given } in
    let same : made selection.filter.prefix c.end-end.result c.chunk.result ≡ list =
    ap (λ p. made p c.end-end.result c.chunk.result) c.requires.selection.prefix
    ∙ ap (λ e. made selection.format.now.prefix e c.chunk.result) c.end-end.ensures.end
    ∙ ap (made selection.format.now.prefix (list.end)) c.chunk.ensures.chunk
    in
    rw (opened.2, frozen) (open_lists ∙ ap (λ (l : FrozenList). with_new_list l (open_lists_of repo.clock table all)) same)

pub returns-in-Ok-clause-left : goal.returns-in-Ok-clause-left
returns-in-Ok-clause-left g c =
    let fits_now : FitsSigned w64 c.args.repo.now.clock = years_fit c.args.repo.now.clock c.requires.ready.dated in
    let fits : FitsSigned w64 c.end-end.result = record { sfits = c.end-end.type_inv } in
    let repo = c.args.repo.now in
    let config = repo.config.now in
    let table = c.args.lists.now in
    let all = g.V.Versions.lists c.args.store.now in
    let selection = c.args.selection in
    let v = repo.index.now.version in
    let entry : OpenList = record { number = table.next; verb = selection.verb; filter = selection.filter; version = c.in_ok-frozen.frozen; size = c.args.size; end = c.end-end.result; given = c.chunk.result; mark = c.args.mark } in
    let frozen = rw c.version.ensures at c.in_ok-frozen.ensures.ok in
    let opened = simp to_z-of_z at c.in-Ok.ensures.opened in
    record {
      left = rw (opened.2, frozen) (left_opened config repo.clock v table all entry (list_at all v) c.requires.ready.kept c.requires.ready.stands c.in_ok-frozen.ensures.unused c.end-end.ensures.last c.requires.selection.known refl (room_for_one table repo.clock opened.0));
      agrees = λ honest.
          rw (opened.2, frozen)
          (table_agrees_opened v table all entry (list_at all v) c.requires.ready.stands c.in_ok-frozen.ensures.unused (c.requires.size honest) (c.requires.mark honest) (indexed_whole config repo.index.now repo.sets.now all (c.requires.ready.indexed honest)) (c.requires.ready.agrees honest));
      err = tt;
      err_lists = tt;
    }

pub release-requires : goal.release-requires
release-requires g c =
    let frozen = rw c.version.ensures at c.in_ok-frozen.ensures.ok in
    let all = g.V.Versions.lists c.args.store.now in
    rw frozen (stands-with c.in_ok-frozen.frozen (list_at all c.args.repo.now.index.now.version) all)

pub returns-in-Err-clause-left : goal.returns-in-Err-clause-left
returns-in-Err-clause-left g c =
    let repo = c.args.repo.now in
    let table = c.args.lists.now in
    let all = g.V.Versions.lists c.args.store.now in
    let frozen = rw c.version.ensures at c.in_ok-frozen.ensures.ok in
    let same_lists = c.release.ensures.ok ∙ ap (without_list c.in_ok-frozen.frozen) frozen ∙ without_with c.in_ok-frozen.frozen (list_at all repo.index.now.version) all c.in_ok-frozen.ensures.unused in
    let entry : OpenList = record { number = table.next; verb = c.args.selection.verb; filter = c.args.selection.filter; version = c.in_ok-frozen.frozen; size = c.args.size; end = to_z w64 (of_z w64 c.end-end.result); given = c.chunk.result; mark = c.args.mark } in
    let same_table = opening_failed table (to_z w64 (of_z w64 repo.clock)) entry c.in-Err.field-0 c.open.new.self c.in-Err.ensures.opened in
    record {
      left = rw (same_table, same_lists) (left_same_table repo.config.now repo.clock repo.index.now.version table all c.requires.ready.kept c.requires.ready.stands);
      agrees = λ honest. rw (same_table, same_lists) (c.requires.ready.agrees honest);
      err = same_table;
      err_lists = same_lists;
    }

pub returns-in-Err-clause-store : goal.returns-in-Err-clause-store
returns-in-Err-clause-store g c =
    let frozen = c.in_ok-frozen.ensures.store in
    let freed = c.release.ensures.store in
    record {
      room = record { enough = λ is. cc; used = omega (arith, frozen.room.used, freed.room) };
      device = record { count = omega (arith, frozen.device.count, freed.count); device = λ is. cc };
      honesty = record { same = freed.honesty ∙ frozen.honesty.same; damaged = λ is. cc };
    }

pub returns-in-Ok-clause-begun : goal.returns-in-Ok-clause-begun
returns-in-Ok-clause-begun g c =
    let fits_now : FitsSigned w64 c.args.repo.now.clock = years_fit c.args.repo.now.clock c.requires.ready.dated in
    let fits : FitsSigned w64 c.end-end.result = record { sfits = c.end-end.type_inv } in
    let table = c.args.lists.now in
    let selection = c.args.selection in
    let opened = simp to_z-of_z at c.in-Ok.ensures.opened in
    let made : ℤ → ℕ → OpenList = λ end given. opened_list table.next (record { verb = selection.verb; filter = selection.filter; version = c.in_ok-frozen.frozen; size = c.args.size; end = end; given = given; mark = c.args.mark }) in
    record {
      version = c.in_ok-frozen.frozen;
      unused = c.in_ok-frozen.ensures.unused;
      frozen = rw c.version.ensures at c.in_ok-frozen.ensures.ok;
      room = opened.0;
      opened = opened.2
          ∙ ap (λ (end : ℤ). with_opened table (made end c.chunk.result)) c.end-end.ensures.end
          ∙ ap (λ (chunk : ℕ). with_opened table (made (c.args.repo.now.clock +ℤ pos c.args.repo.now.config.now.lifetime) chunk)) c.chunk.ensures.chunk;
      valid = c.in-Ok.ensures.valid;
    }
