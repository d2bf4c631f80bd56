-- Links under keys, and what a round does to them. This repository's own.
use Rattle.std.specs.Prelude.{◌≡◌, ◌⊎◌, ℕ, ℤ, ◌+◌, ◌<◌, ◌≤◌, List, [], ◌∷◌, ◌++◌, length, Contains, ⊤, Option, Some}
use Rattle.std.specs.Io.KnownBytes.{Consumes, Keeps}
use Rattle.slab.specs.Slab.{Slab, get, slab_len}
use Rattle.oai_front.specs.Performing.{Steps}
use Rattle.oai_front.specs.Runs.{Served, Serves, done_on}
use Rattle.oai_serving.specs.Accepted.{Known, Passes}
use Rattle.oai_serving.specs.Links.{IsLinkFollowed, IsSent, Link}
use Rattle.oai_serving.specs.Received.{IsReceived}

-- the stream is the one with that number among those that were accepted
pub record IsNumbered {S : Type 0} (accepted : List S) (number : ℕ) (stream : S) : Type 0 where
  pub front : List S
  pub later : List S
  pub stands : accepted ≡ front ++ stream ∷ later
  pub at : number ≡ length front + 1

-- the link is the result of the stream that was accepted under its number, if these messages were served
pub record IsLinkKept {S : Type 0} (contents remaining : S → Option (List ℕ)) (accepted : List S) (served : List Served) (link : Link S) : Type 0 where
  pub first : S
  pub numbered : IsNumbered accepted link.connection.number first
  pub follows : IsLinkFollowed contents remaining first (done_on link.connection.number served) link

-- each of the links is the result of its stream, no two have the same one, and nothing was served of a stream that is
-- not yet accepted
pub record AreLinksKept {S : Type 0} (contents remaining : S → Option (List ℕ)) (accepted : List S) (served : List Served) (links : Slab (Link S)) : Type 0 where
  pub each : (key : ℕ) (link : Link S) → get links key ≡ Some link → IsLinkKept contents remaining accepted served link
  pub one : (key other : ℕ) (a b : Link S) → get links key ≡ Some a → get links other ≡ Some b → a.connection.number ≡ b.connection.number → key ≡ other
  pub later : (number : ℕ) → length accepted < number → done_on number served ≡ []

-- the client of that number, whose stream is now the last, received at most a prefix of the answers to those of its
-- messages that were served
pub record IsAnswered {S : Type 0} (contents remaining : S → Option (List ℕ)) (accepted : List S) (served : List Served) (number : ℕ) (last : S) : Type 0 where
  pub first : S
  pub numbered : IsNumbered accepted number first
  pub received : IsReceived contents remaining first last (done_on number served)

-- so it is of the client of each link
abbrev pub AreLinksAnswered : {S : Type 0} → (S → Option (List ℕ)) → (S → Option (List ℕ)) → List S → List Served → Slab (Link S) → Type 0
AreLinksAnswered {S} contents remaining accepted served links =
    (key : ℕ) (link : Link S) → get links key ≡ Some link → IsAnswered contents remaining accepted served link.connection.number link.stream

-- the same of each client whose stream was let go with its number
abbrev pub AreGoneAnswered : {S : Type 0} → (S → Option (List ℕ)) → (S → Option (List ℕ)) → List S → List (ℕ × S) → List Served → Type 0
AreGoneAnswered {S} contents remaining accepted gone served =
    (number : ℕ) (last : S) → Contains gone (number, last) → IsAnswered contents remaining accepted served number last

-- a link has that number
pub record HasLinkOf {S : Type 0} (number : ℕ) (links : Slab (Link S)) : Type 0 where
  pub key : ℕ
  pub link : Link S
  pub stands : get links key ≡ Some link
  pub is : link.connection.number ≡ number

-- each stream that was accepted stands under a link, or was let go with its number
abbrev pub AreAllThere : {S : Type 0} → List S → List (ℕ × S) → Slab (Link S) → Type 0
AreAllThere {S} accepted gone links =
    (number : ℕ) → 1 ≤ number → number ≤ length accepted → HasLinkOf number links ⊎ ((last : S) × Contains gone (number, last))

-- of all streams that were accepted: each stands under a link, or was let go, and its client received at most a prefix
-- of the answers to those of its own messages that were served
pub record AreAllAnswered {S : Type 0} (contents remaining : S → Option (List ℕ)) (accepted : List S) (gone : List (ℕ × S)) (served : List Served) (links : Slab (Link S)) : Type 0 where
  pub linked : AreLinksAnswered contents remaining accepted served links
  pub over : AreGoneAnswered contents remaining accepted gone served
  pub all : AreAllThere accepted gone links

-- of all streams that were accepted: each has a link, which is its result, or was let go, and then no link has its
-- number
pub record AreAllKept {S : Type 0} (contents remaining : S → Option (List ℕ)) (accepted : List S) (gone : List (ℕ × S)) (served : List Served) (links : Slab (Link S)) : Type 0 where
  pub kept : AreLinksKept contents remaining accepted served links
  pub over : AreGoneAnswered contents remaining accepted gone served
  pub apart : (number : ℕ) (last : S) → Contains gone (number, last) → HasLinkOf number links → ⊥
  pub all : AreAllThere accepted gone links

-- all was served at that moment
abbrev pub AreAt : ℤ → List Served → Type 0
AreAt moment [] = ⊤
AreAt moment (s ∷ served) = (s.moment ≡ moment) × AreAt moment served

-- the link with the key existed, and since then it may have been read, and nothing was written to it
pub record IsUnwritten {S : Type 0} (contents remaining : S → Option (List ℕ)) (old : Slab (Link S)) (key : ℕ) (link : Link S) : Type 0 where
  pub before : Link S
  pub stood : get old key ≡ Some before
  pub same : link.connection.number ≡ before.connection.number
  pub unwritten : Keeps (contents before.stream) (contents link.stream)
  pub read : List ℕ
  pub consumed : Consumes (remaining before.stream) (remaining link.stream) read

-- links were read, and what came was served at that moment; nothing was written
pub record AreTurned {S H : Type 0} (step : Steps H) (contents remaining : S → Option (List ℕ)) (moment : ℤ) (old : Slab (Link S)) (before : H) (new : Slab (Link S)) (after : H) : Type 0 where
  pub served : List Served
  pub run : Serves step before served after
  pub at : AreAt moment served
  pub unwritten : (key : ℕ) (link : Link S) → get new key ≡ Some link → IsUnwritten contents remaining old key link
  pub stay : (number : ℕ) → HasLinkOf number old → HasLinkOf number new
  pub follows : (accepted : List S) (gone : List (ℕ × S)) (earlier : List Served) → AreAllKept contents remaining accepted gone earlier old
      → AreAllKept contents remaining accepted gone (earlier ++ served) new
  pub count : slab_len new ≡ slab_len old

-- links were written, each its own waiting output
pub record AreSent {S : Type 0} (contents remaining : S → Option (List ℕ)) (old new : Slab (Link S)) : Type 0 where
  pub each : (key : ℕ) (link : Link S) → get new key ≡ Some link → (before : Link S) × (get old key ≡ Some before) × IsSent contents remaining before link
  pub stay : (number : ℕ) → HasLinkOf number old → HasLinkOf number new
  pub count : slab_len new ≤ slab_len old

-- links were removed, and the stream of each was let go with its number
pub record AreLinksDropped {S : Type 0} (contents remaining : S → Option (List ℕ)) (known later : Known S) (old new : Slab (Link S)) : Type 0 where
  pub parted : List (ℕ × S)
  pub passes : Passes known later [] parted
  pub kept : (accepted : List S) (gone : List (ℕ × S)) (served : List Served) → AreAllKept contents remaining accepted gone served old
      → AreAllKept contents remaining accepted (gone ++ parted) served new
  pub count : slab_len new ≤ slab_len old
