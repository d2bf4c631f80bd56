-- The clock of a repository. OAI-PMH 2.0 allows no datestamp below earliestDatestamp (section 4.2), where it starts;
-- that it never goes back is this repository's own.
use Rattle.std.specs.Prelude.{ℤ}
use Rattle.std.specs.Int.{int_max, int_min}
use Rattle.oai_time.specs.declared.clock.TheConstants.{LAST_TICK}

-- the clock after a moment: it never goes back, and if it starts no later than 9998-12-31T23:59:59Z it never passes
-- that second
abbrev pub tick : ℤ → ℤ → ℤ
tick clock moment = int_max clock (int_min moment LAST_TICK)
