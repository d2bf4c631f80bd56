-- The list stands behind the others, and its version holds the items as they stand.
use Rattle.std.proofs.Common.{◌∙◌, ap, sym, refl}
use Rattle.oai_catalogue.specs.Store.{list_at, without_list}
use Rattle.oai_catalogue.proofs.ListsLemmas.{without_with}
use Rattle.oai_lists.specs.declared.open_lists.OpenList.{OpenList}
use Rattle.oai_holdings.proofs.RestoreLemmas.{indexed_whole}
use Rattle.oai_repo.specs.Saved.{list_state, reopened_list}
use Rattle.oai_repo.proofs.OpenListLemmas.{open_lists_reopened, put_back, table_agrees_reopened}
use Rattle.oai_repo.proofs.ReopenLemmas.{may_parts, reopening_failed}
use Rattle.oai_repo.proofs.restores.reopen.Goals as goal

pub returns-in-Ok-clause-reopened : goal.returns-in-Ok-clause-reopened
returns-in-Ok-clause-reopened g c =
    let repo = c.args.repo.now in
    let table = c.args.lists.now in
    let all = g.V.Versions.lists c.args.store.now in
    let v = repo.index.now.version in
    let saved = list_state c.args.list.now in
    let entry : OpenList = reopened_list saved saved.filter c.in_ok-frozen.frozen c.in_ok-size.size in
    let may = may_parts repo.config.now repo.clock table saved (sym c.may_have_list.ensures ∙ c.if-not-may_have_list.false) in
    let unused = rw c.count.ensures.same at c.in_ok-frozen.ensures.unused in
    let frozen = rw (c.version-2.ensures, c.count.ensures.same) at c.in_ok-frozen.ensures.ok in
    let opened = rw (c.reopened.ensures, c.in_ok-filter.ensures) at c.in-Ok.ensures.reopened in
    rw (opened.1, frozen) (open_lists_reopened repo.clock v table all entry (list_at all v) c.requires.ready.stands unused may.1)

pub returns-in-Ok-clause-left : goal.returns-in-Ok-clause-left
returns-in-Ok-clause-left g c =
    let repo = c.args.repo.now in
    let table = c.args.lists.now in
    let all = g.V.Versions.lists c.args.store.now in
    let v = repo.index.now.version in
    let saved = list_state c.args.list.now in
    let entry : OpenList = reopened_list saved saved.filter c.in_ok-frozen.frozen c.in_ok-size.size in
    let may = may_parts repo.config.now repo.clock table saved (sym c.may_have_list.ensures ∙ c.if-not-may_have_list.false) in
    let unused = rw c.count.ensures.same at c.in_ok-frozen.ensures.unused in
    let frozen = rw (c.version-2.ensures, c.count.ensures.same) at c.in_ok-frozen.ensures.ok in
    let opened = rw (c.reopened.ensures, c.in_ok-filter.ensures) at c.in-Ok.ensures.reopened in
    rw (opened.1, frozen) (put_back repo.config.now v table all entry (list_at all v) c.requires.ready.kept c.requires.ready.stands unused may.2 may.0)

pub returns-in-Ok-clause-agrees : goal.returns-in-Ok-clause-agrees
returns-in-Ok-clause-agrees g c = λ honest.
    let repo = c.args.repo.now in
    let table = c.args.lists.now in
    let all = g.V.Versions.lists c.args.store.now in
    let v = repo.index.now.version in
    let saved = list_state c.args.list.now in
    let entry : OpenList = reopened_list saved saved.filter c.in_ok-frozen.frozen c.in_ok-size.size in
    let unused = rw c.count.ensures.same at c.in_ok-frozen.ensures.unused in
    let frozen = rw (c.version-2.ensures, c.count.ensures.same) at c.in_ok-frozen.ensures.ok in
    let opened = rw (c.reopened.ensures, c.in_ok-filter.ensures) at c.in-Ok.ensures.reopened in
    let size = rw c.version.ensures at (c.in_ok-size.ensures.number honest) in
    rw (opened.1, frozen) (table_agrees_reopened v table all entry (list_at all v) c.requires.ready.stands unused size refl (indexed_whole repo.config.now repo.index.now repo.sets.now all (c.requires.ready.indexed honest)) (c.requires.ready.agrees honest))

pub returns-in-Err-clause-agrees : goal.returns-in-Err-clause-agrees
returns-in-Err-clause-agrees g c = λ honest.
    let all = g.V.Versions.lists c.args.store.now in
    let frozen = rw (c.version-2.ensures, c.count.ensures.same) at c.in_ok-frozen.ensures.ok in
    let unused = rw c.count.ensures.same at c.in_ok-frozen.ensures.unused in
    let same_lists = c.release.ensures.ok ∙ ap (without_list c.in_ok-frozen.frozen) frozen ∙ without_with c.in_ok-frozen.frozen (list_at all c.args.repo.now.index.now.version) all unused in
    let same_table = reopening_failed c.args.lists.now c.reopened.result c.in-Err.field-0 c.reopen.new.self c.in-Err.ensures.reopened in
    rw (same_table, same_lists) (c.requires.ready.agrees honest)
