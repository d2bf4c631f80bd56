-- The start and the service behind it are a life.
use Rattle.oai_recovery.specs.ServedDisks.{file_of}
use Rattle.oai_recovery.specs.declared.origins.Origin.{Origin}
use Rattle.oai_daemon.proofs.LifeLemmas.{lived_over}
use Rattle.oai_recovery.proofs.RenewalLemmas.{renewed_over}
use Rattle.oai_daemon.proofs.service.serve.Goals as goal

pub returns-clause-lived : goal.returns-clause-lived
returns-clause-lived g c = lived_over _ _ g.P.Disk.Disk.seen g.P.Disk.Disk.may_leave g.P.Disk.Disk.is_clean g.P.Link.Stream.contents g.P.Link.Stream.remaining (λ (o : Origin). file_of g.P.Place.held g.P.Place.held_begun o) c.args.written.text c.args.rings
    c.in_ok-started.started.origin c.in_ok-started.started.records c.in_ok-started.started.handler c.in_ok-started.started.recovery _ _ _ _ _
    c.serve_over.result c.in_ok-listening.ensures c.in_ok-started.ensures.started c.serve_over.ensures.resumed c.serve_over.ensures.origin

pub returns-clause-renewed : goal.returns-clause-renewed
returns-clause-renewed g c = renewed_over _ _ c.in_ok-started.started.origin c.serve_over.result c.in_ok-started.ensures.renewed c.serve_over.ensures.origin
