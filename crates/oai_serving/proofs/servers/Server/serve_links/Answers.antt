-- What was held back is written once the handler has settled.
use Rattle.std.proofs.Common.{w64, FitsSigned, to_z-of_z}
use Rattle.oai_serving.specs.Tables.{AreTurned}
use Rattle.oai_serving.specs.Rounds.{World}
use Rattle.oai_serving.proofs.RoundLemmas.{performed_ok, performed_not}
use Rattle.oai_serving.proofs.servers.Server.serve_links.Goals as goal

pub returns-in-Ok : goal.returns-in-Ok
returns-in-Ok g c =
    let i = c.self.inside in
    let read = c.read_all-self-inside in
    let fits : FitsSigned w64 c.args.moment = c.ranges.moment in
    let old : World g.row.S.Denot g.row.H.Denot = record { handler = i.handler; links = i.links; last = i.last } in
    let turned : AreTurned g.H.Handler.step g.S.Stream.contents g.S.Stream.remaining c.args.moment i.links i.handler read.new.links read.new.handler = simp to_z-of_z at read.ensures in
    rw (← c.self.view_is) (performed_ok g.H.Handler.step g.H.Settled.settled g.S.Stream.contents g.S.Stream.remaining c.args.moment old c.put.new.self read.new.links read.new.handler c.settle.new.self turned (rw c.in-Ok.is at c.settle.ensures) c.put.ensures)

pub returns-in-Err : goal.returns-in-Err
returns-in-Err g c =
    let i = c.self.inside in
    let read = c.read_all-self-inside in
    let fits : FitsSigned w64 c.args.moment = c.ranges.moment in
    let old : World g.row.S.Denot g.row.H.Denot = record { handler = i.handler; links = i.links; last = i.last } in
    let turned : AreTurned g.H.Handler.step g.S.Stream.contents g.S.Stream.remaining c.args.moment i.links i.handler read.new.links read.new.handler = simp to_z-of_z at read.ensures in
    rw (← c.self.view_is) (performed_not g.H.Handler.step g.H.Settled.settled g.S.Stream.contents g.S.Stream.remaining c.args.moment old read.new.links read.new.handler c.settle.new.self _ turned (rw c.in-Err.is at c.settle.ensures))
