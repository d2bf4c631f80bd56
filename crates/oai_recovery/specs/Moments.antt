-- The moment of a clock. This repository's own.
use Rattle.std.specs.Prelude.{ℕ, ℤ, pos, min}

-- a second from 1970 on, as a moment of 64 bits
abbrev pub moment_at : ℕ → ℤ
moment_at second = pos (min second 9_223_372_036_854_775_807)
