-- Pipelined messages, which are performed in order (RFC 9112, section 9.3.2): what comes next, and what is left. No
-- definition of a message rests on it.
use Rattle.std.specs.Prelude.{◌≡◌, ℕ, ℤ, ◌-◌, ◌≤◌, ⊤, List, [], ◌++◌, length, take, drop, IfSome, Option, Some, None, Result, Ok, Err}
use Rattle.std.specs.Option.{option_map}
use Rattle.httparse.specs.Spans.{span_bytes}
use Rattle.oai_http.specs.Exchanges.{Asked}
use Rattle.oai_front.specs.Connections.{Connection}
use Rattle.oai_front.specs.Messages.{End, HasWhole, IsClosing, IsFault, IsUnfinished, waits}
use Rattle.oai_front.specs.Performing.{Completes, Performs, Steps}
use Rattle.oai_front.specs.declared.messages.Next.{Next}
use Rattle.oai_front.specs.declared.messages.Next.TheVariants.{Unfinished, Faulty, Message}
use Rattle.oai_front.specs.declared.messages.Left.{Left}
use Rattle.oai_front.specs.declared.messages.Left.TheVariants.{Waiting, Nothing, Unanswered}
use Rattle.oai_front.specs.declared.request_heads.Head.{Head}
use Rattle.oai_front.specs.declared.faults.PieceFault.{PieceFault}
use Rattle.oai_front.specs.declared.faults.PieceFault.TheVariants as fault
use Rattle.oai_front.specs.declared.stages.Stage.TheVariants.{Closed}
use Rattle.oai_front.specs.RequestHeads.{IsHead}

-- ---- what is to be done next

-- the bytes begin with nothing complete, and that is kept of the head; with a fault; or with a message with that head
abbrev pub IsNext : List ℕ → Next → Type 0
IsNext bytes (Unfinished kept) = IsUnfinished bytes × IfSome kept (IsHead bytes)
IsNext bytes (Faulty status) = IsFault bytes status
IsNext bytes (Message head) = IsHead bytes head × (head.size ≤ length (drop head.start bytes))

-- the message with that head, and what follows it
abbrev pub body_behind : List ℕ → Head → List ℕ
body_behind bytes head = take head.size (drop head.start bytes)

abbrev pub behind_message : List ℕ → Head → List ℕ
behind_message bytes head = drop head.size (drop head.start bytes)

abbrev pub message_behind : List ℕ → Head → Asked
message_behind bytes head = record {
  method = span_bytes bytes head.method;
  target = span_bytes bytes head.target;
  content_type = option_map (span_bytes bytes) head.content_type;
  authorization = option_map (span_bytes bytes) head.authorization;
  body = body_behind bytes head;
}

-- ---- the effect of all bytes

-- what is written, after what was to be written before
abbrev pub WritesBehind : List ℕ → List ℕ → (List ℕ → Type 0) → Type 0
WritesBehind before after P = (written : List ℕ) × (after ≡ before ++ written) × P written

-- what is left of the bytes, after the messages that were performed: that many bytes were theirs, and the others wait
-- for more; nothing, since the connection is closed; or that many bytes were theirs, and memory ran out there
abbrev pub IsRemainder : {H : Type 0} → Steps H → ℤ → H → H → List ℕ → List ℕ → List ℕ → Left → Type 0
IsRemainder step moment old new bytes before after (Waiting begun kept) =
    WritesBehind before after (Completes step moment old new bytes (waits (drop begun bytes))) × (begun ≤ length bytes)
    × IfSome kept (IsHead (drop begun bytes))
IsRemainder step moment old new bytes before after Nothing =
    (end : End) × WritesBehind before after (Completes step moment old new bytes end) × IsClosing end
IsRemainder step moment old new bytes before after (Unanswered begun kept) =
    WritesBehind before after (Performs step moment old new bytes (drop begun bytes)) × (begun ≤ length bytes)
    × IfSome kept (IsHead (drop begun bytes))
    × HasWhole (drop begun bytes)

-- what is left after that many bytes, if this comes next
abbrev pub left_at : ℕ → Next → Left
left_at begun (Unfinished kept) = Waiting begun kept
left_at begun (Faulty status) = Unanswered begun None
left_at begun (Message head) = Unanswered begun (Some head)

-- ---- what a connection keeps

-- that can be left of the bytes
abbrev pub IsRestLeft : List ℕ → Left → Type 0
IsRestLeft bytes (Waiting begun kept) = (begun ≤ length bytes) × IfSome kept (IsHead (drop begun bytes))
IsRestLeft bytes Nothing = ⊤
IsRestLeft bytes (Unanswered begun kept) = (begun ≤ length bytes) × IfSome kept (IsHead (drop begun bytes))

-- the connection of whose bytes that is left
abbrev pub left_with : Connection → Left → Connection
left_with c (Waiting begun kept) = record c { rest = drop begun c.rest }
left_with c Nothing = record c { rest = []; stage = Closed }
left_with c (Unanswered begun kept) = record c { rest = drop begun c.rest }

-- whether something complete is left
abbrev pub answer_of_left : Left → Result Unit PieceFault
answer_of_left (Waiting begun kept) = Ok tt
answer_of_left Nothing = Ok tt
answer_of_left (Unanswered begun kept) = Err fault.Unfinished

-- ---- while they are performed

-- messages were performed, and the rest is the end of the bytes
pub record IsSoFar {H : Type 0} (step : Steps H) (moment : ℤ) (old new : H) (bytes before after rest : List ℕ) (known : Option Head) : Type 0 where
  pub performed : WritesBehind before after (Performs step moment old new bytes rest)
  pub head : IfSome known (IsHead rest)
  pub within : length rest ≤ length bytes
  pub end : rest ≡ drop (length bytes - length rest) bytes
