-- The effect of an input of lines that trace connections: the input of each of them, and what is written for it. This
-- repository's own.
use Rattle.std.specs.Prelude.{◌≡◌, ◌≢◌, ◌⊎◌, ℕ, ℤ, Bool, true, false, ◌+◌, List, [], ◌∷◌, ◌++◌, map, filter, Option, Some, None, MatchOption, Result, Ok, Err, is_ok, if◌then◌else◌, ◌<◌, length}
use Rattle.std.specs.List.{flat_map}
use Rattle.std.specs.Option.{option_map}
use Rattle.oai_front.specs.Connections.{Connection}
use Rattle.oai_front.specs.Fronts.{IsEnding, IsOpening, IsPiece, State, connection_numbered}
use Rattle.oai_front.specs.Performing.{Chain, Steps}
use Rattle.oai_front.specs.Stages.{is_closing}
use Rattle.oai_front.specs.declared.faults.NoSuchConnection.{NoSuchConnection as Absent}
use Rattle.oai_front.specs.declared.faults.OpenFault.TheVariants as refusal
use Rattle.oai_front.specs.declared.faults.PieceFault.{PieceFault}
use Rattle.oai_front.specs.declared.numbers.ConnId.{ConnId}
use Rattle.oai_cli.specs.EventLines.{shown_close, shown_output, parse_event}
use Rattle.oai_cli.specs.ExchangeLines.{IsUnspecified, is_line_filled}
use Rattle.oai_cli.specs.Outputs.{StaysApart, OthersStay, output_in, with_output}
use Rattle.oai_cli.specs.NumberedLines.{AreFirst, IsAt, line_count}
use Rattle.oai_cli.specs.declared.trace.events.Event.{Event}
use Rattle.oai_startup.specs.declared.stop.Stop.{Stop}
use Rattle.oai_startup.specs.declared.stop.Stop.TheVariants.{BadPiece, InputFault, TooManyConnections, NoMemory, OutputFault}
use Rattle.std.specs.BTreeMap.{BTreeMap, get}
use Rattle.std.specs.Ordering.{nat_cmp}

-- ---- the connections of the labels

-- the connections of the labels: a connection, or a dropped one; a label that was in no line yet has none
abbrev pub ConnectionLabels : Type 0
ConnectionLabels = ℕ → Option (Option ConnId)

-- the front, and the connections of the labels
pub record Tracing (H : Type 0) : Type 0 where
  pub front : State H
  pub names : ConnectionLabels

-- before the first line
abbrev pub nothing_traced : {H : Type 0} → State H → Tracing H
nothing_traced front = record { front = front; names = λ label. None }

-- the label has that connection, or a dropped one, and each other label is unchanged
pub record IsLabelled (label : ℕ) (conn : Option ConnId) (old new : ConnectionLabels) : Type 0 where
  pub own : new label ≡ Some conn
  pub others : (other : ℕ) → other ≢ label → new other ≡ old other

-- the label was in no line before: a connection is opened for it
abbrev pub IsFirst : {H : Type 0} → ℕ → Tracing H → Option ConnId → Tracing H → Type 0
IsFirst label old None new = ⊥
IsFirst label old (Some conn) new = IsOpening old.front (Ok conn) new.front × IsLabelled label (Some conn) old.names new.names

-- the connection of the label, which is opened if the label is new
abbrev pub IsConnectionOf : {H : Type 0} → ℕ → Tracing H → Option ConnId → Tracing H → Type 0
IsConnectionOf label old conn new = MatchOption (old.names label) (IsFirst label old conn new) (λ known. (conn ≡ known) × (new ≡ old))

-- the label is new, and no connection can be opened: too many are open, or all numbers were given
abbrev pub IsUnopenable : {H : Type 0} → ℕ → Tracing H → State H → Type 0
IsUnopenable label old new =
    (old.names label ≡ None) × (IsOpening old.front (Err refusal.Full) new ⊎ IsOpening old.front (Err refusal.NumbersSpent) new)

-- ---- the input of a connection

-- the end of the connection with the number came, if it is open
abbrev pub EndsOn : {H : Type 0} → ℕ → State H → State H → Type 0
EndsOn number old new = (answer : Result Unit Absent) × IsEnding number old answer new

-- a piece came on the connection with the number at that moment, and was taken with all that it completes, or was not;
-- or its end came
abbrev pub ComesOn : {H : Type 0} → Steps H → ℕ → ℤ → Option (List ℕ) → State H → Bool → State H → Type 0
ComesOn step number moment (Some bytes) old whole new =
    (answer : Result Unit PieceFault) × IsPiece step number moment bytes old answer new × (is_ok answer ≡ whole)
ComesOn step number moment None old whole new = EndsOn number old new × (whole ≡ true)

-- the connection is open, and reads no more input
abbrev pub reads_no_more : Option Connection → Bool
reads_no_more None = false
reads_no_more (Some c) = is_closing c.stage

-- what is written of the connection of that label: its output, and that it is closed, if it reads no more input
unfoldable pub shown_on : ℕ → Option Connection → List ℕ
shown_on label c = shown_output label (output_in c) ++ shown_close label (reads_no_more c)

-- the connection afterwards: it has no output, or it is no longer open
unfoldable pub left_on : Option Connection → Option Connection
left_on c = if reads_no_more c then None else option_map (with_output []) c

-- the connection of its label afterwards
unfoldable pub name_on : ConnId → Option Connection → Option ConnId
name_on conn c = if reads_no_more c then None else Some conn

-- the piece or the end of the event came on the connection, and its output was written under the label; that changed no
-- other connection
pub record IsTraced {H : Type 0} (step : Steps H) (event : Event) (conn : ConnId) (old new : Tracing H) (Writes : List ℕ → Type 0) : Type 0 where
  pub mid : State H
  pub came : ComesOn step conn.number event.moment event.piece old.front true mid
  pub written : Writes (shown_on event.label (connection_numbered conn.number mid.connections))
  pub left : connection_numbered conn.number new.front.connections ≡ left_on (connection_numbered conn.number mid.connections)
  pub apart : StaysApart conn.number mid new.front
  pub handler : new.front.handler ≡ mid.handler
  pub named : IsLabelled event.label (name_on conn (connection_numbered conn.number mid.connections)) old.names new.names

-- ---- the lines

-- an event is followed on that connection; if the connection was dropped, the event has no effect
abbrev pub IsFollowedOn : {H : Type 0} → Steps H → Event → Option ConnId → Tracing H → Tracing H → (List ℕ → Type 0) → Type 0
IsFollowedOn step event None old new Writes = (new ≡ old) × Writes []
IsFollowedOn step event (Some conn) old new Writes = IsTraced step event conn old new Writes

-- the event is followed on the connection of its label
pub record IsFollowed {H : Type 0} (step : Steps H) (event : Event) (old new : Tracing H) (Writes : List ℕ → Type 0) : Type 0 where
  pub conn : Option ConnId
  pub mid : Tracing H
  pub of : IsConnectionOf event.label old conn mid
  pub on : IsFollowedOn step event conn mid new Writes

-- an event, and what was written for it
pub record Shown : Type 0 where
  pub event : Event
  pub text : List ℕ

-- the lines that are not empty are events; these were followed in order, and what was written for them is in that order
pub record AreEventsTraced {H : Type 0} (step : Steps H) (lines : List (List ℕ)) (old : State H) (new : Tracing H) (Writes : List ℕ → Type 0) : Type 0 where
  pub events : List Shown
  pub read : map parse_event (filter is_line_filled lines) ≡ map (λ e. Some e.event) events
  pub run : Chain (λ e before after. IsFollowed step e.event before after (λ text. text ≡ e.text)) events (nothing_traced old) new
  pub written : Writes (flat_map (λ e. e.text) events)

-- the lines were followed, and the front is left in that state
abbrev pub AreTracedTo : {H : Type 0} → Steps H → State H → State H → (List ℕ → Type 0) → List (List ℕ) → Type 0
AreTracedTo step old new Writes lines = (names : ConnectionLabels) × AreEventsTraced step lines old (record { front = new; names = names }) Writes

-- the line is bad, and those before it were followed
abbrev pub IsBadBehind : {H : Type 0} → Steps H → State H → State H → (List ℕ → Type 0) → List (List ℕ) → List ℕ → Type 0
IsBadBehind step old new Writes front line =
    (is_line_filled line ≡ true) × (parse_event line ≡ None) × AreTracedTo step old new Writes front

-- no connection can be opened for the line, and those before it were followed
pub record IsFullBehind {H : Type 0} (step : Steps H) (old new : State H) (Writes : List ℕ → Type 0) (front : List (List ℕ)) (line : List ℕ) : Type 0 where
  pub event : Event
  pub parsed_as : parse_event line ≡ Some event
  pub mid : Tracing H
  pub followed : AreEventsTraced step front old mid Writes
  pub refused : IsUnopenable event.label mid new

-- the number of the connection of the label, or else of the next that is opened
abbrev pub number_or : ℕ → Option (Option ConnId) → ℕ
number_or next None = next
number_or next (Some None) = next
number_or next (Some (Some conn)) = conn.number

-- the line is an event, and only the connection of its label may have changed
pub record HasReadEvent {H : Type 0} (line : List ℕ) (old : Tracing H) (new : State H) : Type 0 where
  pub event : Event
  pub parsed_as : parse_event line ≡ Some event
  pub others : OthersStay (number_or (old.front.last + 1) (old.names event.label)) old.front new

-- nothing was done, or the first of the lines has begun
abbrev pub BeginsOnly : {H : Type 0} → List (List ℕ) → Tracing H → State H → Type 0
BeginsOnly [] old new = new ≡ old.front
BeginsOnly (line ∷ lines) old new = (new ≡ old.front) ⊎ HasReadEvent line old new

-- the first of the lines were followed, but what was written is not specified; the next one may have begun
pub record IsBrokenOff {H : Type 0} (step : Steps H) (lines : List (List ℕ)) (old new : State H) : Type 0 where
  pub front : List (List ℕ)
  pub others : List (List ℕ)
  pub cut : lines ≡ front ++ others
  pub mid : Tracing H
  pub followed : AreEventsTraced step front old mid IsUnspecified
  pub next : BeginsOnly others mid new

-- the effect of the lines: all were followed, or all before the first that is bad or for which no connection can be
-- opened, or the first of them; if the output failed or memory ran out, it broke off
abbrev pub AreTraced : {H : Type 0} → Steps H → List (List ℕ) → State H → Result Unit Stop → State H → (List ℕ → Type 0) → Type 0
AreTraced step lines old (Ok done) new Writes = AreTracedTo step old new Writes lines
AreTraced step lines old (Err (BadPiece number)) new Writes = IsAt number lines (IsBadBehind step old new Writes)
AreTraced step lines old (Err (TooManyConnections number)) new Writes = IsAt number lines (IsFullBehind step old new Writes)
AreTraced step lines old (Err InputFault) new Writes = AreFirst lines (AreTracedTo step old new Writes)
AreTraced step lines old (Err stop) new Writes = IsBrokenOff step lines old new

-- ---- while the lines are performed

-- the connections of a trace, as the program stores them
abbrev pub tracing : {H : Type 0} → State H → BTreeMap ℕ (Option ConnId) → Tracing H
tracing front labels = record { front = front; names = get nat_cmp labels }

-- no connection can be opened for the label of the line with that number, and why; it is not out of memory if too many
-- are open
abbrev pub IsUnopened : {H : Type 0} → ℕ → ℕ → Tracing H → State H → Stop → Type 0
IsUnopened number label old new (TooManyConnections at) = (at ≡ number) × IsUnopenable label old new
IsUnopened number label old new stop = (stop ≡ NoMemory) × (length old.front.connections < old.front.limit)
    × OthersStay (number_or (old.front.last + 1) (old.names label)) old.front new

-- an event was not followed to its end
abbrev pub IsBroken : Stop → Type 0
IsBroken stop = (stop ≡ OutputFault) ⊎ (stop ≡ NoMemory)

-- an empty line is skipped
pub record IsPassed {H : Type 0} (line : List ℕ) (old new : Tracing H) (Writes : List ℕ → Type 0) : Type 0 where
  pub empty : is_line_filled line ≡ false
  pub same : new ≡ old
  pub written : Writes []

-- a line that is not empty is an event, which is followed
pub record IsEventLine {H : Type 0} (step : Steps H) (line : List ℕ) (old new : Tracing H) (Writes : List ℕ → Type 0) : Type 0 where
  pub filled : is_line_filled line ≡ true
  pub event : Event
  pub parsed_as : parse_event line ≡ Some event
  pub followed : IsFollowed step event old new Writes

-- the effect of the line with that number
abbrev pub IsLine : {H : Type 0} → Steps H → List ℕ → ℕ → Tracing H → Result Unit Stop → Tracing H → (List ℕ → Type 0) → Type 0
IsLine step line number old (Ok done) new Writes = IsPassed line old new Writes ⊎ IsEventLine step line old new Writes
IsLine step line number old (Err (BadPiece at)) new Writes =
    (at ≡ number) × (is_line_filled line ≡ true) × (parse_event line ≡ None) × (new ≡ old) × Writes []
IsLine step line number old (Err (TooManyConnections at)) new Writes =
    (at ≡ number) × ((event : Event) × (parse_event line ≡ Some event) × IsUnopenable event.label old new.front) × Writes []
IsLine step line number old (Err stop) new Writes = IsBroken stop × ((new.front ≡ old.front) ⊎ HasReadEvent line old new.front)

-- the lines were followed, and that many were counted
pub record AreLinesCounted {H : Type 0} (step : Steps H) (old : State H) (new : Tracing H) (count : ℕ) (Writes : List ℕ → Type 0) (lines : List (List ℕ)) : Type 0 where
  pub counted : count ≡ line_count (length lines)
  pub followed : AreEventsTraced step lines old new Writes
