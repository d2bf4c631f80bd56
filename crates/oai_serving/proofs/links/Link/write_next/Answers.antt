-- What was written is the front of what waits.
use Rattle.std.proofs.Common.{◌≡◌, [], arith}
use Rattle.oai_serving.proofs.TurnLemmas.{over_sent, unwritten_sent, written_gathered, written_output}
use Rattle.oai_serving.specs.Inside.{with_gathered}
use Rattle.oai_serving.specs.Links.{is_able}
use Rattle.oai_serving.proofs.links.Link.write_next.Goals as goal

pub returns-in-Ok : goal.returns-in-Ok
returns-in-Ok g c =
    let i = c.self.inside in
    let none : i.gathered.items ≡ [] = c.is_vacant.ensures c.if-is_vacant.true in
    rw (← c.self.view_is) (written_output g.S.Stream.contents g.S.Stream.remaining i.gathered.items c.output.result.now c.output.ensures.later c.in-Ok.count i.stream c.write.new.self
    i.connection c.take.new.self (is_able i.phase) none c.output.ensures.front c.in-Ok.ensures.bound c.in-Ok.ensures.bytes c.write.ensures.kept c.take.ensures)

pub returns-in-Ok-write : goal.returns-in-Ok-write
returns-in-Ok-write g c =
    let i = c.self.inside in
    rw (← c.self.view_is, c.drop_front.ensures) (written_gathered g.S.Stream.contents g.S.Stream.remaining i.gathered.items c.in-Ok-write.count i.stream c.write-2.new.self
    i.connection (is_able i.phase) (rw c.deref.ensures.value at c.in-Ok-write.ensures.bound) (rw c.deref.ensures.value at c.in-Ok-write.ensures.bytes) c.write-2.ensures.kept)

pub returns-in-Ok-eq0 : goal.returns-in-Ok-eq0
returns-in-Ok-eq0 g c =
    let i = c.self.inside in
    rw (← c.self.view_is) (over_sent g.S.Stream.contents g.S.Stream.remaining c.output.result.now c.in-Ok-eq0.field-0 i.stream c.write.new.self
    (with_gathered i.gathered.items i.connection) (is_able i.phase) (omega arith) c.in-Ok-eq0.ensures.bytes c.write.ensures.kept)

pub returns-in-Ok-eq0-write : goal.returns-in-Ok-eq0-write
returns-in-Ok-eq0-write g c =
    let i = c.self.inside in
    rw (← c.self.view_is) (over_sent g.S.Stream.contents g.S.Stream.remaining c.deref.result.now c.in-Ok-eq0-write.field-0 i.stream c.write-2.new.self
    (with_gathered i.gathered.items i.connection) (is_able i.phase) (omega arith) c.in-Ok-eq0-write.ensures.bytes c.write-2.ensures.kept)

pub returns-in-Err : goal.returns-in-Err
returns-in-Err g c =
    let i = c.self.inside in
    rw (← c.self.view_is) (unwritten_sent g.S.Stream.contents g.S.Stream.remaining i.stream c.write.new.self
    (with_gathered i.gathered.items i.connection) (is_able i.phase) c.unwritten.new.self c.in-Err.ensures.bytes c.write.ensures.kept c.unwritten.ensures)

pub returns-in-Err-write : goal.returns-in-Err-write
returns-in-Err-write g c =
    let i = c.self.inside in
    rw (← c.self.view_is) (unwritten_sent g.S.Stream.contents g.S.Stream.remaining i.stream c.write-2.new.self
    (with_gathered i.gathered.items i.connection) (is_able i.phase) c.unwritten-in-Err-write.new.self c.in-Err-write.ensures.bytes c.write-2.ensures.kept c.unwritten-in-Err-write.ensures)
