-- A piece more was read, or all was.
use Rattle.std.proofs.Common.{◌≡◌, ◌++◌, [], take, refl, rules}
use Rattle.oai_startup.proofs.KnownLemmas.{consumed_end, consumes_both, consumes_none, read_front}
use Rattle.oai_startup.proofs.configurations.read_text.Goals as goal

pub loop-init : goal.loop-init
loop-init g c = record { read = rw c.new-text.ensures.items (consumes_none (g.R.Read.remaining c.args.reader.now)); room = search rules }

pub returns-then-count-eq0-clause-text : goal.returns-then-count-eq0-clause-text
returns-then-count-eq0-clause-text g c =
    let piece = take c.in-Ok-read.count c.read.new.buf in
    let none : piece ≡ [] = rw c.if-count-eq0.true refl in
    consumed_end (g.R.Read.remaining c.args.reader.now) (g.R.Read.remaining c.loop.reader) (g.R.Read.remaining c.read.new.self) c.loop.text.items piece c.loop.invariant.read
    c.in-Ok-read.ensures.bytes.0 none (c.in-Ok-read.ensures.bytes.1 c.if-count-eq0.true (search rules))

pub loop-preserved : goal.loop-preserved
loop-preserved g c =
    let piece = take c.in-Ok-read.count c.read.new.buf in
    let same : take c.in-Ok-read.count c.deref.result.now ≡ piece =
    rw c.deref.ensures.value (read_front c.in-Ok-read.count c.loop.buffer.len c.read.new.buf _ (search rules) (search rules)) in
    let grown : c.extend_from_slice.new.self.items ≡ c.loop.text.items ++ take c.in-Ok-read.count c.deref.result.now = search rules in
    record {
      read = rw (grown, same)
          (consumes_both (g.R.Read.remaining c.args.reader.now) (g.R.Read.remaining c.loop.reader) (g.R.Read.remaining c.read.new.self) c.loop.text.items piece c.loop.invariant.read
          c.in-Ok-read.ensures.bytes.0);
      room = search rules;
    }
