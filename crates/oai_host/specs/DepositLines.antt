-- The lines of a deposit as they are taken from its body: words that no definition needs.
use Rattle.std.specs.Prelude.{◌≡◌, ℕ, ◌+◌, ◌-◌, List, [], ◌∷◌, ◌++◌, codes, length, take, MatchOption, if◌then◌else◌}
use Rattle.oai_http.specs.declared.exchanges.Answer.{Answer}
use Rattle.oai_item.specs.declared.faults.Fault.{Fault}
use Rattle.oai_item.specs.Refusals.{in_line, in_repository, refusal_line}
use Rattle.oai_time.specs.declared.granularity.Granularity.{Granularity}
use Rattle.oai_time.specs.Stamp.{IsWritable}
use Rattle.oai_time.specs.TimeTexts.{datestamp_text}
use Rattle.oai_host.specs.Bodies.{is_blank, lines_in}
use Rattle.oai_host.specs.declared.deposits.LineOutcome.{LineOutcome}
use Rattle.oai_host.specs.declared.deposits.LineOutcome.TheVariants.{Accepted, ChangeRefused, LineRefused}

-- the lines from this one on, which may be blank
abbrev pub from_line : List ℕ → List (List ℕ) → List (List ℕ)
from_line first lines = if is_blank first then lines else first ∷ lines

-- that many bytes of the body have its first lines, that many
abbrev pub AreTaken : List ℕ → ℕ → ℕ → Type 0
AreTaken body size count = lines_in (take size body) ≡ take count (lines_in body)

-- the rest stands behind the first lines of the body, that many
abbrev pub FollowsLines : List ℕ → List ℕ → ℕ → Type 0
FollowsLines body rest count =
    (size more : ℕ) → AreTaken rest size more → AreTaken body (length body - length rest + size) (count + more)

-- a deposit with that answer has these lines done: all of the body, or if it failed its first lines, as many as the
-- answer says
abbrev pub HasDone : List ℕ → Answer → List ℕ → Type 0
HasDone body answer lines = MatchOption answer.fault (lines ≡ body)
    (λ (fault : Fault). MatchOption answer.done (lines ≡ []) (λ (count : ℕ). lines_in lines ≡ take count (lines_in body)))

-- the answer to a line that came to that, with its line end
abbrev pub outcome_line : Granularity → LineOutcome → List ℕ
outcome_line granularity (Accepted stamp) = (codes "ok " ++ datestamp_text granularity stamp) ++ 10 ∷ []
outcome_line granularity (LineRefused cause) = refusal_line (in_line cause) ++ 10 ∷ []
outcome_line granularity (ChangeRefused cause) = refusal_line (in_repository cause) ++ 10 ∷ []

-- its datestamp, if it has one, is in the years 0000 to 9999
abbrev pub IsWritableOutcome : LineOutcome → Type 0
IsWritableOutcome (Accepted stamp) = IsWritable stamp
IsWritableOutcome (LineRefused cause) = Unit {0}
IsWritableOutcome (ChangeRefused cause) = Unit {0}
