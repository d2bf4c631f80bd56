-- Connections over streams, and what a step does to one. This repository's own.
use Rattle.std.specs.Prelude.{◌≡◌, ◌⊎◌, ℕ, ℤ, Bool, true, false, List, [], ◌++◌, Option}
use Rattle.std.specs.Io.KnownBytes.{Appends, Consumes, Keeps}
use Rattle.oai_front.specs.Connections.{Connection, fresh, rest_at, stage_at}
use Rattle.oai_front.specs.Performing.{AnsweredMessage, Run, Steps}
use Rattle.oai_front.specs.declared.stages.Stage.TheVariants.{Reading}
use Rattle.oai_serving.specs.Received.{IsReceived}
use Rattle.oai_serving.specs.declared.phases.Phase.{Phase}
use Rattle.oai_serving.specs.declared.phases.Phase.TheVariants.{Open, Last, Closing, Over}

-- messages are performed in that phase
abbrev pub is_able : Phase → Bool
is_able Open = true
is_able Last = false
is_able (Closing since dropped) = false
is_able Over = false

-- a stream, its connection, and whether messages of it may still be performed
pub record Link (S : Type 0) : Type 0 where
  pub stream : S
  pub connection : Connection
  pub able : Bool

-- one that was just opened
abbrev pub opened : {S : Type 0} → ℕ → S → Link S
opened number stream = record { stream = stream; connection = fresh number; able = true }

-- the stream was that one when it was accepted, these messages of it were performed, and the link is the result: its
-- waiting output is the rest of their answers, and what the connection holds is the rest of the bytes that were passed
-- to it; while the link is able these are all that was read, but for the last ones, which are not yet passed
pub record IsLinkBehind {S : Type 0} (contents remaining : S → Option (List ℕ)) (first : S) (done : List AnsweredMessage) (last : List ℕ) (link : Link S) : Type 0 where
  pub received : IsReceived contents remaining first link.stream done
  pub waiting : received.waiting ≡ link.connection.output
  pub rest : link.connection.rest ≡ rest_at received.end
  pub stage : link.connection.stage ≡ stage_at Reading received.end
  pub all : link.able ≡ true → received.others ≡ last

-- the same, and all that was read is passed
abbrev pub IsLinkFollowed : {S : Type 0} → (S → Option (List ℕ)) → (S → Option (List ℕ)) → S → List AnsweredMessage → Link S → Type 0
IsLinkFollowed contents remaining first done link = IsLinkBehind contents remaining first done [] link

-- the stream and the connection of a link stay, and it is able only if it was
pub record IsStill {S : Type 0} (old new : Link S) : Type 0 where
  pub stream : new.stream ≡ old.stream
  pub connection : new.connection ≡ old.connection
  pub able : new.able ≡ true → old.able ≡ true

-- the bytes that were read last are passed to the connection of a link, which performs some messages, at that moment;
-- or nothing more is performed
pub record IsPassedOn {S H : Type 0} (step : Steps H) (contents remaining : S → Option (List ℕ)) (moment : ℤ) (last : List ℕ) (old : Link S) (before : H) (new : Link S) (after : H) : Type 0 where
  pub done : List AnsweredMessage
  pub run : Run step moment before done after
  pub same : new.connection.number ≡ old.connection.number
  pub stream : new.stream ≡ old.stream
  pub follows : (first : S) (earlier : List AnsweredMessage) → IsLinkBehind contents remaining first earlier last old → IsLinkFollowed contents remaining first (earlier ++ done) new

-- a read step of a link: some messages are performed, at that moment, nothing is written, and these messages follow all
-- that came of the link before; while output waits nothing is read and nothing performed
pub record IsLinkStep {S H : Type 0} (step : Steps H) (contents remaining : S → Option (List ℕ)) (moment : ℤ) (old : Link S) (before : H) (new : Link S) (after : H) : Type 0 where
  pub done : List AnsweredMessage
  pub run : Run step moment before done after
  pub same : new.connection.number ≡ old.connection.number
  pub unwritten : Keeps (contents old.stream) (contents new.stream)
  pub read : List ℕ
  pub consumed : Consumes (remaining old.stream) (remaining new.stream) read
  pub idle : (old.connection.output ≡ []) ⊎ (new ≡ old)
  pub follows : (first : S) (earlier : List AnsweredMessage) → IsLinkFollowed contents remaining first earlier old → IsLinkFollowed contents remaining first (earlier ++ done) new

-- a write step of a link: a prefix of the waiting output goes to the stream, once and in order; nothing is read, and
-- nothing performed
pub record IsSent {S : Type 0} (contents remaining : S → Option (List ℕ)) (old new : Link S) : Type 0 where
  pub sent : List ℕ
  pub written : Appends (contents old.stream) (contents new.stream) sent
  pub waiting : old.connection.output ≡ sent ++ new.connection.output
  pub unread : Keeps (remaining old.stream) (remaining new.stream)
  pub others : new.connection ≡ record old.connection { output = new.connection.output }
  pub able : new.able ≡ true → old.able ≡ true
