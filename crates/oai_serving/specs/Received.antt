-- What a client received over a stream. This repository's own.
use Rattle.std.specs.Prelude.{◌≡◌, ℕ, Bool, List, ◌++◌, Option}
use Rattle.std.specs.Io.KnownBytes.{Appends, Consumes}
use Rattle.oai_front.specs.Messages.{End}
use Rattle.oai_front.specs.Performing.{AnsweredMessage, answers_of, end_bytes, messages_of}
use Rattle.oai_front.specs.Runs.{ArePerformed}

-- the first of the bytes that were read of the stream, `came`, were parsed for messages; these were performed, all or
-- the first of them; and what was written to it is a prefix of their answers, followed by the answer to a connection
-- fault
pub record IsReceived {S : Type 0} (contents remaining : S → Option (List ℕ)) (first last : S) (done : List AnsweredMessage) : Type 0 where
  pub came : List ℕ
  pub others : List ℕ
  pub whole : Bool
  pub end : End
  pub sent : List ℕ
  pub waiting : List ℕ
  pub read : Consumes (remaining first) (remaining last) (came ++ others)
  pub performed : ArePerformed whole came (messages_of done) end
  pub answers : answers_of done ++ end_bytes end ≡ sent ++ waiting
  pub written : Appends (contents first) (contents last) sent
