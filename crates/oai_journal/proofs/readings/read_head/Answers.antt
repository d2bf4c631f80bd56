-- The first bytes of a frame are enough to read its head, and to see how long it is.
use Rattle.std.proofs.Common.{◌≡◌, ◌∙◌, Some, take, drop, length, sym, ap, arith, rules}
use Rattle.std.specs.Option.{option_map}
use Rattle.oai_journal.specs.Frames.{frame}
use Rattle.oai_journal.proofs.FrameLemmas.{some_same}
use Rattle.oai_journal.proofs.ReadingLemmas.{head_read, len_end, len_read, len_within}
use Rattle.oai_journal.proofs.readings.read_head.Goals as goal

pub returns-then-len-at-clause-found : goal.returns-then-len-at-clause-found
returns-then-len-at-clause-found g c clean block size =
    len_end (g.D.Disk.seen c.args.reader.now.disk) c.args.len c.args.at size (search rules)

pub returns-in-Some-clause-found : goal.returns-in-Some-clause-found
returns-in-Some-clause-found g c clean block size before e after fit is =
    let read = c.deref.ensures.value ∙ c.in_ok-read.ensures.read clean block ∙ ap (λ n. take n (drop c.args.at (g.D.Disk.seen c.args.reader.now.disk))) c.min.ensures in
    sym (ap (option_map (λ h. h.len)) c.in-Some.is) ∙ c.frame_head.ensures.len ∙ len_read (g.D.Disk.seen c.args.reader.now.disk) c.args.len c.args.at size c.deref.result.now read before e after fit is

pub returns-in-Some-clause-head : goal.returns-in-Some-clause-head
returns-in-Some-clause-head g c =
    let its = c.in-Some.ensures.head in record {
      fields = its.0;
      is = its.2;
      begins = λ clean block size before e after fit is.
          let read = c.deref.ensures.value ∙ c.in_ok-read.ensures.read clean block ∙ ap (λ n. take n (drop c.args.at (g.D.Disk.seen c.args.reader.now.disk))) c.min.ensures in
          some_same _ _ (sym its.1 ∙ head_read (g.D.Disk.seen c.args.reader.now.disk) c.args.len c.args.at size c.deref.result.now read before e after fit is);
      some = search rules;
      within = search rules;
      short = search rules;
    }

pub returns-in_default-clause-found : goal.returns-in_default-clause-found
returns-in_default-clause-found g c clean block size before e after fit is =
    let file = g.D.Disk.seen c.args.reader.now.disk in
    let read = c.deref.ensures.value ∙ c.in_ok-read.ensures.read clean block ∙ ap (λ n. take n (drop c.args.at file)) c.min.ensures in
    let found : Some c.in-Some.head.len ≡ Some (length (frame before e)) =
    sym (ap (option_map (λ h. h.len)) c.in-Some.is) ∙ c.frame_head.ensures.len ∙ len_read file c.args.len c.args.at size c.deref.result.now read before e after fit is in
    absurd (omega (arith, c.if-head-len.false, some_same _ _ found, len_within file c.args.len c.args.at size before e after is))

pub returns-in_default-2-clause-found : goal.returns-in_default-2-clause-found
returns-in_default-2-clause-found g c clean block size before e after fit is =
    let file = g.D.Disk.seen c.args.reader.now.disk in
    let read = c.deref.ensures.value ∙ c.in_ok-read.ensures.read clean block ∙ ap (λ n. take n (drop c.args.at file)) c.min.ensures in
    sym (ap (option_map (λ h. h.len)) c.in_default.is) ∙ c.frame_head.ensures.len ∙ len_read file c.args.len c.args.at size c.deref.result.now read before e after fit is
