use Rattle.std.proofs.Common.{◌∙◌, true, false, IsTrue, List, ap}
use Rattle.oai_item.specs.Item.{ItemState}
use Rattle.oai_item.specs.Items.{with_item}
use Rattle.oai_places.specs.Places.{PlaceState}
use Rattle.oai_paged.proofs.RenamedLemmas.{gone_named}
use Rattle.oai_paged.proofs.ReplaceLemmas.{changes_after, first_gone_named, replaced, stands_same, taken_back}
use Rattle.oai_places.proofs.SpendingLemmas.{ok_of, spends_both, spends_freed_ok}
use Rattle.oai_paged.proofs.directories.DirectoryLeaves.replace.Goals as goal

pub put-requires-clause-stands : goal.put-requires-clause-stands
put-requires-clause-stands g c =
    let G = g.P.PagePool in
    let old = c.args.pages.now in
    let mid = c.take_out.new.pages in
    let before : List PlaceState = c.args.self.now.places.items in
    let between : List PlaceState = c.take_out.new.self.places.items in
    let same = rw c.in_default.is at c.in_ok-first.ensures.none in
    rw same.places (stands_same G before old mid c.requires.stands same.names)

pub returns-in_default-clause-changes : goal.returns-in_default-clause-changes
returns-in_default-clause-changes g c =
    let G = g.P.PagePool in
    let old = c.args.pages.now in
    let mid = c.take_out.new.pages in
    let before : List PlaceState = c.args.self.now.places.items in
    let between : List PlaceState = c.take_out.new.self.places.items in
    let same = rw c.in_default.is at c.in_ok-first.ensures.none in
    changes_after G 1 67 c.in_ok-first.field-0 tt false before between c.put.new.self.places.items old mid c.put.new.pages same.places same.names c.in_ok-first.ensures.pool c.in_ok-put.ensures.changes

pub drop_all-requires : goal.drop_all-requires
drop_all-requires g c =
    let G = g.P.PagePool in
    let old = c.args.pages.now in
    let mid = c.take_out.new.pages in
    let before : List PlaceState = c.args.self.now.places.items in
    let between : List PlaceState = c.take_out.new.self.places.items in
    let first = c.in-Some.first in
    let s = rw c.in-Some.is at c.in_ok-first.ensures.staged in
    let made = c.put_in.new.pages in
    let after : List PlaceState = c.put_in.new.self.places.items in
    let second = c.in-Ok.second in
    let t = c.in-Ok.ensures.staged in
    gone_named G second.at second.len second.gone.items between after mid made s.stands t

pub drop_all-requires-in-Ok : goal.drop_all-requires-in-Ok
drop_all-requires-in-Ok g c =
    let G = g.P.PagePool in
    let old = c.args.pages.now in
    let mid = c.take_out.new.pages in
    let before : List PlaceState = c.args.self.now.places.items in
    let between : List PlaceState = c.take_out.new.self.places.items in
    let first = c.in-Some.first in
    let s = rw c.in-Some.is at c.in_ok-first.ensures.staged in
    let made = c.put_in.new.pages in
    let after : List PlaceState = c.put_in.new.self.places.items in
    let second = c.in-Ok.second in
    let t = c.in-Ok.ensures.staged in
    first_gone_named G first.at first.len first.gone.items second.at second.len second.gone.items before between after old mid made c.drop_all.new.pages
    c.requires.stands s t c.drop_all.ensures.names

pub returns-in-Ok-clause-list : goal.returns-in-Ok-clause-list
returns-in-Ok-clause-list g c =
    let G = g.P.PagePool in
    let old = c.args.pages.now in
    let mid = c.take_out.new.pages in
    let before : List PlaceState = c.args.self.now.places.items in
    let between : List PlaceState = c.take_out.new.self.places.items in
    let first = c.in-Some.first in
    let s = rw c.in-Some.is at c.in_ok-first.ensures.staged in
    let made = c.put_in.new.pages in
    let after : List PlaceState = c.put_in.new.self.places.items in
    let second = c.in-Ok.second in
    let t = c.in-Ok.ensures.staged in
    let late = c.drop_all.new.pages in
    let new = c.drop_all-in-Ok.new.pages in
    let end = replaced G first.at first.len first.gone.items second.at second.len second.gone.items before between after old mid made late new
    c.requires.stands s t c.drop_all.ensures.names c.drop_all-in-Ok.ensures.names in
    let list = rw c.in-Some.is at c.in_ok-first.ensures.list in
    λ honest.
    let removed = list honest in
    let still : IsTrue (G.honest mid) = rw c.in_ok-first.ensures.pool.honesty.same honest in
    let left = removed.left in
    end.items ∙ c.in-Ok.ensures.list still ∙ ap (λ (items : List ItemState). with_item c.args.item.now items) left

pub returns-in-Ok-clause-changes : goal.returns-in-Ok-clause-changes
returns-in-Ok-clause-changes g c =
    let G = g.P.PagePool in
    let old = c.args.pages.now in
    let mid = c.take_out.new.pages in
    let before : List PlaceState = c.args.self.now.places.items in
    let between : List PlaceState = c.take_out.new.self.places.items in
    let first = c.in-Some.first in
    let s = rw c.in-Some.is at c.in_ok-first.ensures.staged in
    let made = c.put_in.new.pages in
    let after : List PlaceState = c.put_in.new.self.places.items in
    let second = c.in-Ok.second in
    let t = c.in-Ok.ensures.staged in
    let late = c.drop_all.new.pages in
    let new = c.drop_all-in-Ok.new.pages in
    let end = replaced G first.at first.len first.gone.items second.at second.len second.gone.items before between after old mid made late new
    c.requires.stands s t c.drop_all.ensures.names c.drop_all-in-Ok.ensures.names in
    let both = spends_both G 1 67 c.in_ok-first.field-0 (ok_of second) old mid made c.in_ok-first.ensures.pool c.in-Ok.ensures.pool in
    let freed = spends_freed_ok G 68 second true old made late both c.drop_all.ensures.pool in
    record {
      directory = end.directory;
      names = end.names;
      err = tt;
      pool = spends_freed_ok G 68 true true old late new freed c.drop_all-in-Ok.ensures.pool;
    }

pub returns-in-Err-clause-changes : goal.returns-in-Err-clause-changes
returns-in-Err-clause-changes g c =
    let G = g.P.PagePool in
    let old = c.args.pages.now in
    let mid = c.take_out.new.pages in
    let before : List PlaceState = c.args.self.now.places.items in
    let between : List PlaceState = c.take_out.new.self.places.items in
    let first = c.in-Some.first in
    let s = rw c.in-Some.is at c.in_ok-first.ensures.staged in
    let late = c.put_in.new.pages in
    let stood : List PlaceState = c.put_in.new.self.places.items in
    taken_back G 1 67 first.at first.len c.in_ok-first.field-0 c.in-Err.fault first.gone.items before between stood c.undo.new.self.places.items old mid late c.undo.new.pages
    s c.in-Err.ensures.err.places c.in-Err.ensures.err.names c.undo.ensures.places c.undo.ensures.names c.in_ok-first.ensures.pool c.in-Err.ensures.pool c.undo.ensures.pool
