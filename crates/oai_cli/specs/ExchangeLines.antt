-- The lines that are exchanges, and what is written for each. This repository's own.
use Rattle.std.specs.Prelude.{◌≡◌, ℕ, ◌==◌, ℤ, Bool, false, ◌&&◌, nat_lt, nat_le, List, [], ◌++◌, length, codes, decimal, Option, Some, None, is_none, FitsSigned, if◌then◌else◌}
use Rattle.std.specs.List.{count_by, list_any}
use Rattle.std.specs.Str.{bytes_eq}
use Rattle.std.specs.Fmt.{signed_decimal}
use Rattle.std.specs.Int.{w64}
use Rattle.oai_host.specs.Hosts.{HostState, IsExchanged}
use Rattle.oai_names.specs.Optional.{◌>>=◌, tested}
use Rattle.oai_http.specs.Statuses.{number_of}
use Rattle.oai_http.specs.Exchanges.{call_of}
use Rattle.oai_http.specs.declared.exchanges.Answer.{Answer}
use Rattle.oai_http.specs.declared.exchanges.Call.{Call}
use Rattle.oai_http.specs.declared.exchanges.Exchange.{Exchange}
use Rattle.oai_bytes.specs.Numbers.{moment_of}
use Rattle.oai_bytes.specs.Parts.{is_separator, part, rest}

-- ---- a line: `<moment> <METHOD> <target>`, and then for a body one space and the body to the end of the line

-- the media type of a body: that of a form for a POST, and none for any other method
abbrev pub type_of : List ℕ → Option (List ℕ)
type_of method = if bytes_eq method (codes "POST") then Some (codes "application/x-www-form-urlencoded") else None

-- what was parsed is an exchange at a moment
abbrev pub call_by : ℤ × Exchange → Call
call_by (moment, exchange) = call_of moment exchange

-- a line has two spaces or more: a moment, a method, a target, and a body to the end of the line
unfoldable pub parse_exchange : List ℕ → Option Call
parse_exchange line = do
  line ← tested (λ (text : List ℕ). nat_le 2 (count_by is_separator text)) line
  moment ← moment_of (part line)
  Some (record {
    moment = moment;
    method = part (rest line);
    target = part (rest (rest line));
    content_type = type_of (part (rest line));
    body = rest (rest (rest line));
  })

-- a call, as such a line
abbrev pub call_line : Call → List ℕ
call_line call = signed_decimal call.moment ++ codes " " ++ call.method ++ codes " " ++ call.target ++ codes " " ++ call.body

-- a call that can be written as a line: a moment of 64 bits, a method and a target without a space, and the media type
-- that goes with the method
pub record IsSpellable (call : Call) : Type 0 where
  pub moment : FitsSigned w64 call.moment
  pub method : list_any is_separator call.method ≡ false
  pub target : list_any is_separator call.target ≡ false
  pub content_type : call.content_type ≡ type_of call.method

-- an empty line counts, and is skipped
abbrev pub is_line_filled : List ℕ → Bool
is_line_filled line = nat_lt 0 (length line)

-- a line that is neither empty nor an exchange
abbrev pub is_bad : List ℕ → Bool
is_bad line = is_line_filled line && is_none (parse_exchange line)

-- ---- what is written for an answer

-- a space and the seconds to wait, if there are any
abbrev pub shown_seconds : Option ℤ → List ℕ
shown_seconds None = []
shown_seconds (Some seconds) = codes " " ++ signed_decimal seconds

-- a space and the lines done, if there are any
abbrev pub shown_done : Option ℕ → List ℕ
shown_done None = []
shown_done (Some done) = codes " " ++ decimal done

-- the status, the seconds to wait and the lines done if there are any, a line end, and the body
unfoldable pub shown : Answer → List ℕ
shown answer = decimal (number_of answer.status) ++ shown_seconds answer.seconds ++ shown_done answer.done ++ codes "\n" ++ answer.body

-- ---- what a line does

-- the line is an exchange with the host, and its answer was written
pub record IsLineDone (bytes : List ℕ) (old new : HostState) (IsWritten : List ℕ → Type 0) : Type 0 where
  pub call : Call
  pub answer : Answer
  pub read : parse_exchange bytes ≡ Some call
  pub exchanged : IsExchanged call answer old new
  pub written : IsWritten (shown answer)

-- what is written is not specified
abbrev pub IsUnspecified : List ℕ → Type 0
IsUnspecified text = Unit {0}
