-- The lines of a trace, and what is written for each. This repository's own.
use Rattle.std.specs.Prelude.{◌≡◌, ◌⊎◌, ℕ, ℤ, ◌^◌, ◌<◌, Bool, ◌==◌, List, [], ◌∷◌, ◌++◌, codes, decimal, Option, Some, None, IfSome, Result, Ok, Err, FitsSigned, if◌then◌else◌}
use Rattle.std.specs.Fmt.{signed_decimal}
use Rattle.std.specs.Int.{w64}
use Rattle.std.specs.List.{count_by}
use Rattle.std.specs.Option.{option_map}
use Rattle.std.specs.Result.{result_ok}
use Rattle.std.specs.Str.{bytes_eq}
use Rattle.hex.specs.declared.error.FromHexError.{FromHexError}
use Rattle.hex.specs.declared.error.FromHexError.TheVariants.{InvalidHexCharacter, InvalidStringLength, OddLength, OutOfMemory}
use Rattle.hex.specs.Hex.{IsBytes, decode_of, encode_lower}
use Rattle.oai_names.specs.Optional.{◌>>=◌, tested}
use Rattle.oai_cli.specs.NumberedLines.{lines_of}
use Rattle.oai_bytes.specs.Parts.{is_separator, part, rest}
use Rattle.oai_bytes.specs.Numbers.{moment_of, number_in}
use Rattle.oai_cli.specs.declared.trace.events.Event.{Event}
use Rattle.oai_startup.specs.declared.stop.Stop.{Stop}
use Rattle.oai_startup.specs.declared.stop.Stop.TheVariants.{BadPiece, NoMemory}

-- ---- a line: `<moment> <label> <hex>`, a piece that comes on a connection, or `<moment> <label> end`

-- the third part: None for the end, and otherwise the bytes, two hexadecimal digits each, in either case
unfoldable pub coming : List ℕ → Option (Option (List ℕ))
coming text = if bytes_eq text (codes "end") then Some None else option_map Some (result_ok (decode_of text))

-- the third part was parsed; or the text is neither of the two; or memory ran out
abbrev pub IsComing : List ℕ → Result (Option (List ℕ)) FromHexError → Type 0
IsComing text (Ok piece) = coming text ≡ Some piece
IsComing text (Err error) = (error ≡ OutOfMemory) ⊎ (coming text ≡ None)

-- why the line with that number could not be parsed
abbrev pub stop_at : ℕ → FromHexError → Stop
stop_at number OutOfMemory = NoMemory
stop_at number OddLength = BadPiece number
stop_at number InvalidStringLength = BadPiece number
stop_at number (InvalidHexCharacter c index) = BadPiece number

-- a line has exactly three parts: a moment, a label, and bytes or the end
unfoldable pub parse_event : List ℕ → Option Event
parse_event line = do
  line ← tested (λ (text : List ℕ). count_by is_separator text == 2) line
  moment ← moment_of (part line)
  label ← number_in (part (rest line))
  piece ← coming (rest (rest line))
  Some (record { moment = moment; label = label; piece = piece })

-- the third part, as text
abbrev pub coming_text : Option (List ℕ) → List ℕ
coming_text None = codes "end"
coming_text (Some bytes) = encode_lower bytes

-- an event, as such a line
abbrev pub event_line : Event → List ℕ
event_line event = signed_decimal event.moment ++ codes " " ++ decimal event.label ++ codes " " ++ coming_text event.piece

-- an event that a line can have: a moment and a label of 64 bits, and bytes
pub record IsWritableEvent (event : Event) : Type 0 where
  pub moment : FitsSigned w64 event.moment
  pub label : event.label < 2 ^ 64
  pub piece : IfSome event.piece IsBytes

-- a line was parsed; or it is no event, and is the line with that number; or memory ran out
abbrev pub IsParsedEvent : List ℕ → ℕ → Result Event Stop → Type 0
IsParsedEvent line number (Ok event) = parse_event line ≡ Some event
IsParsedEvent line number (Err (BadPiece at)) = (parse_event line ≡ None) × (at ≡ number)
IsParsedEvent line number (Err stop) = stop ≡ NoMemory

-- ---- what is written

-- the output of a connection, if there is any, as a line `<label> <hex>` with letters in lower case
abbrev pub shown_output : ℕ → List ℕ → List ℕ
shown_output label [] = []
shown_output label (b ∷ bytes) = decimal label ++ codes " " ++ encode_lower (b ∷ bytes) ++ codes "\n"

-- that a connection is closed, as a line `<label> close`
abbrev pub shown_close : ℕ → Bool → List ℕ
shown_close label closing = if closing then decimal label ++ codes " close\n" else []

-- what is written of the bytes can be traced again: after a moment it is one line, which is parsed as these bytes on
-- that label
pub record IsTraceable (at : ℤ) (number : ℕ) (bytes : List ℕ) : Type 0 where
  pub line : List ℕ
  pub alone : lines_of (signed_decimal at ++ codes " " ++ shown_output number bytes) ≡ line ∷ [] ∷ []
  pub parsed_as : parse_event line ≡ Some (record { moment = at; label = number; piece = Some bytes })
