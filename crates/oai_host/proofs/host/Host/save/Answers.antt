-- What all repositories handed over makes them again.
use Rattle.std.proofs.Common.{◌≡◌, IsTrue}
use Rattle.oai_replay.specs.Parts.{restored_all}
use Rattle.oai_host.specs.NamedRepos.{repositories_of}
use Rattle.oai_host.specs.Saved.{emptied_in, ended_in, parts_in, restored_in}
use Rattle.oai_host.specs.Saving.{Takes, TakesAll}
use Rattle.oai_host.proofs.RestoreLemmas.{on_ok}
use Rattle.oai_host.proofs.SavedLemmas.{whole_back}
use Rattle.oai_host.proofs.host.Host.save.Goals as goal

pub returns-clause-saved : goal.returns-clause-saved
returns-clause-saved g c =
    let V = g.V.Versions in
    let has = g.S.Sink.has in
    let host = c.self.inside in
    let rs = repositories_of host.repositories (V.lists host.store) in
    let honest = IsTrue (V.honest host.store) in
    rw (← c.self.view_is)
    (on_ok (honest → TakesAll has c.args.raise rs c.args.sink.now c.save.new.sink) (honest → Takes has (parts_in (ended_in c.args.raise rs)) c.args.sink.now c.save.new.sink) c.save.result
    (λ saved sure. (saved sure).taken) c.save.ensures.saved)

pub returns-clause-whole : goal.returns-clause-whole
returns-clause-whole g c =
    let V = g.V.Versions in
    let has = g.S.Sink.has in
    let host = c.self.inside in
    let lists = V.lists host.store in
    let rs = repositories_of host.repositories lists in
    let honest = IsTrue (V.honest host.store) in
    let raise = c.args.raise in
    rw (← c.self.view_is)
    (on_ok (honest → TakesAll has raise rs c.args.sink.now c.save.new.sink) (honest → restored_all restored_in (emptied_in rs) (parts_in (ended_in raise rs)) ≡ ended_in raise rs) c.save.result
    (λ saved sure. whole_back raise host.repositories lists host.repos.named.distinct (host.repos.held sure) (saved sure).readable) c.save.ensures.saved)
