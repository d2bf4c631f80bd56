use Rattle.std.proofs.Common.{map, take}
use Rattle.httparse.specs.Spans.{header_bytes}
use Rattle.oai_front.specs.HeadFields.{AreRead}
use Rattle.oai_front.proofs.fields.read_fields.Given as goal

-- those so far have been read
abbrev pub invariant-loop-header : goal.invariant-loop-header
invariant-loop-header l = AreRead l.bytes (map (header_bytes l.bytes) (take l.header-index l.headers)) l.fields
