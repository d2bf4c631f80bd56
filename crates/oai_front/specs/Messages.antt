-- The messages of a connection: RFC 9112, sections 2, 3, 6 and 9. The received bytes are one message after the other,
-- and then what belongs to none. A head is one of the grammar of `httparse`.
use Rattle.std.specs.Prelude.{◌≡◌, ℕ, ◌<◌, ◌≤◌, ◌⊎◌, Bool, true, false, List, [], ◌∷◌, ◌++◌, length, map, codes, ⊤}
use Rattle.httparse.specs.Grammar.{MayBecomeRequest, NeverHasRequest, ReadsRequest, RequestHead, print_request}
use Rattle.httparse.specs.Spans.{RequestExceeds, name_and_value}
use Rattle.oai_http.specs.declared.statuses.Status.{Status}
use Rattle.oai_http.specs.declared.statuses.Status.TheVariants.{BadRequest}
use Rattle.oai_http.specs.Exchanges.{Asked}
use Rattle.oai_front.specs.Fields.{first_value, framing_of, values_named}
use Rattle.oai_front.specs.declared.framings.Framing.{Framing}
use Rattle.oai_front.specs.declared.framings.Framing.TheVariants.{Body, Refused}
use Rattle.oai_front.specs.declared.request_heads.TheConstants.{MAX_HEAD_FIELDS, MAX_HEAD_BYTES}

-- a message, and whether the connection is closed after it
pub record Message : Type 0 where
  pub asked : Asked
  pub last : Bool

-- the fields of a head, each its name and its value
abbrev pub head_fields : RequestHead → List (List ℕ × List ℕ)
head_fields head = map name_and_value head.fields

-- the framing of the body after a head: RFC 9112, section 6
unfoldable pub framing_in : RequestHead → Framing
framing_in head = framing_of head.minor head.target (head_fields head)

-- the bytes are a head of at most that many bytes and fields, and then `behind`
pub record Begins (bytes : List ℕ) (head : RequestHead) (behind : List ℕ) : Type 0 where
  pub reads : ReadsRequest bytes head behind
  pub short : length (print_request head) ≤ MAX_HEAD_BYTES
  pub few : length head.fields ≤ MAX_HEAD_FIELDS

-- the bytes do not begin with such a head
abbrev pub HasNoHead : List ℕ → Type 0
HasNoHead bytes = (head : RequestHead) (behind : List ℕ) → ¬ (Begins bytes head behind)

-- the bytes do not begin with such a head, whatever bytes follow
abbrev pub NeverHasHead : List ℕ → Type 0
NeverHasHead bytes = (more : List ℕ) → HasNoHead (bytes ++ more)

-- the bytes are this message and then `after`: a head, and a body of the length that it gives
pub record ReadsMessages (bytes : List ℕ) (message : Message) (after : List ℕ) : Type 0 where
  pub head : RequestHead
  pub begins : Begins bytes head (message.asked.body ++ after)
  pub framing : framing_in head ≡ Body (length message.asked.body) message.last
  pub method : message.asked.method ≡ head.method
  pub target : message.asked.target ≡ head.target
  pub content_type : message.asked.content_type ≡ first_value (values_named (codes "Content-Type") (head_fields head))
  pub authorization : message.asked.authorization ≡ first_value (values_named (codes "Authorization") (head_fields head))

-- the bytes begin with a head whose fields are refused with that status
pub record IsRefused (bytes : List ℕ) (status : Status) : Type 0 where
  pub head : RequestHead
  pub behind : List ℕ
  pub begins : Begins bytes head behind
  pub framing : framing_in head ≡ Refused status

-- the bytes do not begin with a head, whatever bytes follow, and it is time to say so: no head of the grammar ever will
-- come, of whatever size, or there are as many bytes as a head may have
abbrev pub IsHopeless : List ℕ → Type 0
IsHopeless bytes = NeverHasHead bytes × (NeverHasRequest bytes ⊎ (MAX_HEAD_BYTES ≤ length bytes))

-- in bytes without a head one may still begin: they can become a head of the grammar, or they have the lines of one
-- with too many fields, which is not refused before there are as many bytes as a head may have
abbrev pub MayBegin : List ℕ → Type 0
MayBegin bytes = MayBecomeRequest bytes ⊎ RequestExceeds MAX_HEAD_FIELDS bytes

-- no message can come of the bytes: they never begin with a head, or the head that they begin with is refused
abbrev pub IsFault : List ℕ → Status → Type 0
IsFault bytes status = (IsHopeless bytes × (status ≡ BadRequest)) ⊎ IsRefused bytes status

-- the bytes begin with nothing complete: no message and no head that is refused; and an incomplete head has fewer bytes
-- than a head may have, and may still be completed
pub record IsUnfinished (bytes : List ℕ) : Type 0 where
  pub message : (message : Message) (after : List ℕ) → ¬ (ReadsMessages bytes message after)
  pub fault : (status : Status) → ¬ (IsRefused bytes status)
  pub short : HasNoHead bytes → length bytes < MAX_HEAD_BYTES
  pub begins : HasNoHead bytes → MayBegin bytes

-- the bytes begin with a message or a fault
abbrev pub HasWhole : List ℕ → Type 0
HasWhole bytes = ((message : Message) × (after : List ℕ) × ReadsMessages bytes message after) ⊎ ((status : Status) × IsFault bytes status)

-- ---- the whole stream

-- how a stream ends: with bytes that wait for others, with a message after which the connection is closed, or with a
-- fault
pub data End : Type 0 where
  waits : (rest : List ℕ) → End
  closes : End
  faults : (status : Status) → End

-- the bytes are these messages, after none of which the connection is closed, and then the rest
abbrev pub Splits : List ℕ → List Message → List ℕ → Type 0
Splits bytes [] rest = bytes ≡ rest
Splits bytes (message ∷ messages) rest =
    (after : List ℕ) × ReadsMessages bytes message after × (message.last ≡ false) × Splits after messages rest

-- the connection is closed at that end
abbrev pub IsClosing : End → Type 0
IsClosing (waits rest) = ⊥
IsClosing closes = ⊤
IsClosing (faults status) = ⊤

-- the messages of the bytes, and how they end. No bytes have two lists of messages: `split_law`
abbrev pub IsMessageStream : List ℕ → List Message → End → Type 0
IsMessageStream bytes messages (waits rest) = Splits bytes messages rest × IsUnfinished rest
IsMessageStream bytes messages (faults status) = (rest : List ℕ) × Splits bytes messages rest × IsFault rest status
IsMessageStream bytes messages closes =
    (front : List Message) × (rest : List ℕ) × (message : Message) × (after : List ℕ)
    × Splits bytes front rest × ReadsMessages rest message after × (message.last ≡ true) × (messages ≡ front ++ message ∷ [])

-- two ends are alike: they are equal, except that the 400 for bytes in which a head never comes may wait for more of
-- them if a line after more than 64 fields is none of a head, or if the target is not in UTF-8
abbrev pub AreAlike : End → End → Type 0
AreAlike (waits rest) (waits other) = rest ≡ other
AreAlike (faults status) (faults other) = status ≡ other
AreAlike closes closes = ⊤
AreAlike (waits rest) (faults status) = status ≡ BadRequest
AreAlike (faults status) (waits rest) = status ≡ BadRequest
AreAlike end other = ⊥
