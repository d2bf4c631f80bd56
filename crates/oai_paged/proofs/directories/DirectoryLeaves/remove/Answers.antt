use Rattle.std.proofs.Common.{◌∙◌, true, false}
use Rattle.oai_paged.proofs.RenamedLemmas.{gone_named, settled}
use Rattle.oai_paged.proofs.ReplaceLemmas.{changed_nothing}
use Rattle.oai_places.proofs.SpendingLemmas.{spends_freed_ok}
use Rattle.oai_paged.proofs.directories.DirectoryLeaves.remove.Goals as goal

pub drop_all-requires : goal.drop_all-requires
drop_all-requires g c =
    let s = rw c.in-Some.is at c.in_ok-changed.ensures.staged in
    let changed = c.in-Some.changed in
    gone_named g.P.PagePool changed.at changed.len changed.gone.items c.args.self.now.places.items c.take_out.new.self.places.items c.args.pages.now c.take_out.new.pages c.requires s

pub returns-in-Some-clause-list : goal.returns-in-Some-clause-list
returns-in-Some-clause-list g c =
    let s = rw c.in-Some.is at c.in_ok-changed.ensures.staged in
    let list = rw c.in-Some.is at c.in_ok-changed.ensures.list in
    let changed = c.in-Some.changed in
    let end = settled g.P.PagePool changed.at changed.len changed.gone.items c.args.self.now.places.items c.take_out.new.self.places.items c.args.pages.now c.take_out.new.pages c.drop_all.new.pages
    c.requires s c.drop_all.ensures.names in
    λ honest.
    let removed = list honest in
    end.items ∙ removed.left

pub returns-in-Some-clause-changes : goal.returns-in-Some-clause-changes
returns-in-Some-clause-changes g c =
    let s = rw c.in-Some.is at c.in_ok-changed.ensures.staged in
    let changed = c.in-Some.changed in
    let end = settled g.P.PagePool changed.at changed.len changed.gone.items c.args.self.now.places.items c.take_out.new.self.places.items c.args.pages.now c.take_out.new.pages c.drop_all.new.pages
    c.requires s c.drop_all.ensures.names in
    record {
      directory = end.directory;
      names = end.names;
      err = tt;
      pool = spends_freed_ok g.P.PagePool 1 c.in_ok-changed.field-0 true c.args.pages.now c.take_out.new.pages c.drop_all.new.pages c.in_ok-changed.ensures.pool c.drop_all.ensures.pool;
    }

pub returns-in-None-clause-changes : goal.returns-in-None-clause-changes
returns-in-None-clause-changes g c =
    let same = rw c.in-None.is at c.in_ok-changed.ensures.none in
    changed_nothing g.P.PagePool 1 c.in_ok-changed.field-0 false c.args.self.now.places.items c.take_out.new.self.places.items c.args.pages.now c.take_out.new.pages c.requires same.places same.names c.in_ok-changed.ensures.pool
