-- The handler served with the journal.
use Rattle.oai_daemon.proofs.LifeLemmas.{resumed_over}
use Rattle.oai_daemon.proofs.service.serve_over.Goals as goal

pub returns-clause-resumed : goal.returns-clause-resumed
returns-clause-resumed g c = resumed_over _ _ _ _ _ g.P.Disk.Disk.seen g.P.Disk.Disk.may_leave g.P.Link.Stream.contents g.P.Link.Stream.remaining c.args.started.handler c.args.started.recovery c.args.rings
    (λ journal entries durable held. held) c.in-Some.journaled c.new-checkpointed.result
    (record { handler = c.new-checkpointed.ensures.handler; journal = c.new-checkpointed.ensures.journal; writing = c.new-checkpointed.ensures.writing; unsynced = c.new-checkpointed.ensures.unsynced })
    c.new-guarded.result c.new-watched.result c.new-guarded.ensures.handler c.new-guarded.ensures.rings c.new-watched.ensures c.in-Some.ensures
    _ _ _ _ c.serve_at.result c.serve_at.ensures.served
