-- The effect of the bytes of a connection: its messages are performed in order, and their answers are written one after
-- the other. This repository's own.
use Rattle.std.specs.Prelude.{◌≡◌, ℕ, ℤ, List, [], ◌∷◌, ◌++◌, map}
use Rattle.std.specs.List.{flat_map}
use Rattle.oai_http.specs.declared.exchanges.Answer.{Answer}
use Rattle.oai_front.specs.Heads.{answer_bytes, fault_bytes}
use Rattle.oai_http.specs.Exchanges.{Asked}
use Rattle.oai_front.specs.Messages.{End, Message, Splits, IsMessageStream, waits, closes, faults}

-- the steps of a handler: in that state, at a moment, it may give that answer to what is asked, and get to that next
-- state
abbrev pub Steps : Type 0 → Type 1
Steps H = H → ℤ → Asked → Answer → H → Type 0

-- a message with its answer
pub record AnsweredMessage : Type 0 where
  pub message : Message
  pub answer : Answer

abbrev pub messages_of : List AnsweredMessage → List Message
messages_of done = map (λ d. d.message) done

-- the bytes of the answers, in order
abbrev pub done_bytes : AnsweredMessage → List ℕ
done_bytes d = answer_bytes d.message.asked.target d.message.last d.answer

unfoldable pub answers_of : List AnsweredMessage → List ℕ
answers_of done = flat_map done_bytes done

-- a step for each of a list, one after the other
abbrev pub Chain : {A S : Type 0} → (A → S → S → Type 0) → List A → S → S → Type 0
Chain Step [] old new = new ≡ old
Chain {A} {S} Step (x ∷ xs) old new = (mid : S) × Step x old mid × Chain Step xs mid new

-- the messages are performed in order, at one moment, and these are their answers
abbrev pub Run : {H : Type 0} → Steps H → ℤ → H → List AnsweredMessage → H → Type 0
Run step moment old done new = Chain (λ d before after. step before moment d.message.asked d.answer after) done old new

-- the answer at the end of the messages: none, or that to the connection fault
abbrev pub end_bytes : End → List ℕ
end_bytes (waits rest) = []
end_bytes closes = []
end_bytes (faults status) = fault_bytes status

-- messages at the start of the bytes were performed, up to the rest, and that was written
pub record Performs {H : Type 0} (step : Steps H) (moment : ℤ) (old new : H) (bytes rest written : List ℕ) : Type 0 where
  pub done : List AnsweredMessage
  pub splits : Splits bytes (messages_of done) rest
  pub run : Run step moment old done new
  pub told : written ≡ answers_of done

-- all messages of the bytes were performed, and that was written: their answers, followed by the answer to a fault
pub record Completes {H : Type 0} (step : Steps H) (moment : ℤ) (old new : H) (bytes : List ℕ) (end : End) (written : List ℕ) : Type 0 where
  pub done : List AnsweredMessage
  pub stream : IsMessageStream bytes (messages_of done) end
  pub run : Run step moment old done new
  pub told : written ≡ answers_of done ++ end_bytes end
