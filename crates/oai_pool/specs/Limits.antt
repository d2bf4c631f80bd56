-- No number at a limit of the counts, or above it, is referenced.
use Rattle.std.specs.Prelude.{◌≡◌, ◌≤◌, ℕ, List, length}
use Rattle.std.proofs.Common.{arith}
use Rattle.std.proofs.lemmas.List.{get_or_past}
use Rattle.oai_pool.specs.Counts.{count_of}

-- a number after the end of the counts has the count 0
pub count_of-past : (counts : List ℕ) (len most n : ℕ) → len ≡ length counts → len ≤ most → most ≤ n → count_of counts n ≡ 0
count_of-past counts len most n is within above = get_or_past counts n 0 (omega arith)
