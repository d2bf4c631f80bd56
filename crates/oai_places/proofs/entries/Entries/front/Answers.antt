use Rattle.std.proofs.Common.{◌+◌, ◌<◌, length, ap, arith}
use Rattle.oai_places.specs.Pages.{between, size_of}
use Rattle.oai_places.proofs.CutLemmas.{more_left, size_of-rest}
use Rattle.oai_places.proofs.ShortLemmas.{one_fits}
use Rattle.oai_places.proofs.EntryLemmas.{size_of-between, size_of-cut}
use Rattle.oai_places.proofs.entries.Entries.front.Goals as goal

pub overflow_sub-size : goal.overflow_sub-size
overflow_sub-size c = omega (arith, c.start-start.ensures, c.size.ensures, size_of-cut c.args.self.now c.args.from)

pub returns-then-size-start-le-MAX_ENTRY_BYTES-clause-fits : goal.returns-then-size-start-le-MAX_ENTRY_BYTES-clause-fits
returns-then-size-start-le-MAX_ENTRY_BYTES-clause-fits c =
    omega (
      arith,
      c.start-start.ensures,
      c.size.ensures,
      c.if-size-start-le-MAX_ENTRY_BYTES.true,
      size_of-rest c.args.self.now c.args.from c.requires.within,
      ap (λ n. size_of (between c.args.from n c.args.self.now)) c.len-len.ensures.len,
    )

pub loop-to-init : goal.loop-to-init
loop-to-init c =
    let left : c.args.from < length c.args.self.now =
    more_left c.args.self.now c.args.from (omega (arith, c.start-start.ensures, c.size.ensures, c.if-size-start-le-MAX_ENTRY_BYTES.false))
    in
    record { above = omega arith; within = omega (arith, left); fits = one_fits c.args.self.now c.args.from c.requires.short left }

pub overflow_sub-end : goal.overflow_sub-end
overflow_sub-end c =
    omega (arith, c.start-start.ensures, c.end.ensures, size_of-between c.args.self.now c.args.from (c.loop-to.to + 1) (omega (arith, c.loop-to.invariant.above)))

pub loop-to-preserved : goal.loop-to-preserved
loop-to-preserved c =
    let so_far = c.loop-to.invariant in
    record {
      above = omega (arith, so_far.above);
      within = omega (arith, c.loop-to-test.true, c.len-len.ensures.len);
      fits = omega (
        arith,
        c.start-start.ensures,
        c.end.ensures,
        c.if-end-start.true,
        c.requires.goal,
        size_of-between c.args.self.now c.args.from (c.loop-to.to + 1) (omega (arith, so_far.above)),
      );
    }

pub returns-else-end-start-clause-place : goal.returns-else-end-start-clause-place
returns-else-end-start-clause-place c = record { above = omega (arith, c.loop-to.invariant.above); within = c.loop-to.invariant.within }

pub returns-else-end-start-clause-some : goal.returns-else-end-start-clause-some
returns-else-end-start-clause-some c = λ _. c.loop-to.invariant.above

pub returns-else-end-start-clause-fits : goal.returns-else-end-start-clause-fits
returns-else-end-start-clause-fits c = c.loop-to.invariant.fits

pub returns-else-end-start-clause-whole : goal.returns-else-end-start-clause-whole
returns-else-end-start-clause-whole c = λ fits.
    absurd (omega (arith, c.start-start.ensures, c.size.ensures, c.if-size-start-le-MAX_ENTRY_BYTES.false, size_of-rest c.args.self.now c.args.from c.requires.within, fits))

pub returns-else-end-start-clause-most : goal.returns-else-end-start-clause-most
returns-else-end-start-clause-most c = λ _.
    omega (
      arith,
      c.start-start.ensures,
      c.end.ensures,
      c.if-end-start.false,
      size_of-between c.args.self.now c.args.from (c.loop-to.to + 1) (omega (arith, c.loop-to.invariant.above)),
    )

pub returns-after-loop-to-clause-place : goal.returns-after-loop-to-clause-place
returns-after-loop-to-clause-place c = record { above = omega (arith, c.loop-to.invariant.above); within = c.loop-to.invariant.within }

pub returns-after-loop-to-clause-whole : goal.returns-after-loop-to-clause-whole
returns-after-loop-to-clause-whole c = λ fits.
    absurd (omega (arith, c.start-start.ensures, c.size.ensures, c.if-size-start-le-MAX_ENTRY_BYTES.false, size_of-rest c.args.self.now c.args.from c.requires.within, fits))

pub returns-after-loop-to-clause-fits : goal.returns-after-loop-to-clause-fits
returns-after-loop-to-clause-fits c = c.loop-to.invariant.fits
