-- What the parts of a line tell is what the line tells.
use Rattle.std.proofs.Common.{◌≡◌, ℕ, ℤ, ◌==◌, true, nat_le, List, Option, Some, None, refl}
use Rattle.std.specs.List.{count_by}
use Rattle.oai_http.specs.declared.exchanges.Call.{Call}
use Rattle.oai_cli.specs.EventLines.{coming, parse_event}
use Rattle.oai_bytes.specs.Parts.{is_separator, part, rest}
use Rattle.oai_cli.specs.ExchangeLines.{parse_exchange, type_of}
use Rattle.oai_bytes.specs.Numbers.{moment_of, number_in}
use Rattle.oai_cli.specs.declared.trace.events.Event.{Event}

abbrev pub event_with : ℤ → ℕ → Option (List ℕ) → Event
event_with moment label piece = record { moment = moment; label = label; piece = piece }

abbrev pub call_with : ℤ → List ℕ → List ℕ → Option (List ℕ) → List ℕ → Call
call_with moment method target content_type body =
    record { moment = moment; method = method; target = target; content_type = content_type; body = body }

pub told_all : (line : List ℕ) (moment : ℤ) (label : ℕ) (piece : Option (List ℕ)) → (count_by is_separator line == 2) ≡ true → moment_of (part line) ≡ Some moment
    → number_in (part (rest line)) ≡ Some label → coming (rest (rest line)) ≡ Some piece → parse_event line ≡ Some (event_with moment label piece)
unfolding parse_event
told_all line moment label piece two m l p = rw (two, m, l, p) refl

-- where the last part tells nothing, the line does not
pub told_no_piece : (line : List ℕ) (moment : ℤ) (label : ℕ) → (count_by is_separator line == 2) ≡ true → moment_of (part line) ≡ Some moment → number_in (part (rest line)) ≡ Some label
    → coming (rest (rest line)) ≡ None → parse_event line ≡ None
unfolding parse_event
told_no_piece line moment label two m l p = rw (two, m, l, p) refl

pub spelled_all : (line : List ℕ) (moment : ℤ) → nat_le 2 (count_by is_separator line) ≡ true → moment_of (part line) ≡ Some moment
    → parse_exchange line ≡ Some (call_with moment (part (rest line)) (part (rest (rest line))) (type_of (part (rest line))) (rest (rest (rest line))))
unfolding parse_exchange
spelled_all line moment enough m = rw (enough, m) refl
