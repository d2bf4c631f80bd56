use Rattle.std.proofs.Common.{◌∙◌}
use Rattle.oai_paged.proofs.RenamedLemmas.{gone_named, settled}
use Rattle.oai_places.proofs.SpendingLemmas.{spends_freed_ok}
use Rattle.oai_paged.proofs.directories.DirectoryLeaves.put.Goals as goal

pub drop_all-requires : goal.drop_all-requires
drop_all-requires g c =
    let s = c.in_ok-changed.ensures.staged in
    let changed = c.in_ok-changed.changed in
    gone_named g.P.PagePool changed.at changed.len changed.gone.items c.args.self.now.places.items c.put_in.new.self.places.items c.args.pages.now c.put_in.new.pages c.requires.stands s

pub returns-clause-list : goal.returns-clause-list
returns-clause-list g c =
    let s = c.in_ok-changed.ensures.staged in
    let changed = c.in_ok-changed.changed in
    let end = settled g.P.PagePool changed.at changed.len changed.gone.items c.args.self.now.places.items c.put_in.new.self.places.items c.args.pages.now c.put_in.new.pages c.drop_all.new.pages
    c.requires.stands s c.drop_all.ensures.names in
    λ honest. end.items ∙ c.in_ok-changed.ensures.list honest

pub returns-clause-changes : goal.returns-clause-changes
returns-clause-changes g c =
    let s = c.in_ok-changed.ensures.staged in
    let changed = c.in_ok-changed.changed in
    let end = settled g.P.PagePool changed.at changed.len changed.gone.items c.args.self.now.places.items c.put_in.new.self.places.items c.args.pages.now c.put_in.new.pages c.drop_all.new.pages
    c.requires.stands s c.drop_all.ensures.names in
    record {
      directory = end.directory;
      names = end.names;
      err = tt;
      pool = spends_freed_ok g.P.PagePool 67 changed tt c.args.pages.now c.put_in.new.pages c.drop_all.new.pages c.in_ok-changed.ensures.pool c.drop_all.ensures.pool;
    }
