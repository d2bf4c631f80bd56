-- Lives in which another file takes the place of the journal while the server goes on: what each does, move by move.
-- This repository's own.
use Rattle.std.specs.Prelude.{◌≡◌, ℕ, List, [], ◌∷◌, ◌++◌, length, map}
use Rattle.oai_http.specs.declared.exchanges.Answer.{Answer}
use Rattle.oai_http.specs.declared.exchanges.Call.{Call}
use Rattle.oai_journal.specs.Journals.{IsLeft}
use Rattle.oai_journal.specs.Records.{Entry}
use Rattle.oai_durable.specs.Lives.{AreAmong, AreLives, Exchanged, HasPlace, Life, answered_in}
use Rattle.oai_durable.specs.Records.{Leaving, redone_all}

-- a move of a life: an exchange; a commit, at which the answers are sent that wait; or a switch to another file, which
-- has these records
pub data Move : Type 0 where
  exchanged : Exchanged → Move
  committed : Move
  switched : List Entry → Move

-- moves, from a file of these records on, of which that many are durable. An exchange has its place after them, and its
-- own record is appended; a commit makes all durable; a switch is to a file whose records, all of them durable, leave
-- the same state. At the end a crash leaves a prefix of the last file that has all durable ones
abbrev pub AreMoves : {K : Type 0} → Leaving K → (K → Call → Answer) → K → List Entry → ℕ → List Move → List Entry → Type 0
AreMoves leaving reply begun file durable [] left = IsLeft durable file left
AreMoves leaving reply begun file durable (exchanged e ∷ moves) left =
    HasPlace leaving reply begun file e × AreMoves leaving reply begun (file ++ e.own) durable moves left
AreMoves leaving reply begun file durable (committed ∷ moves) left = AreMoves leaving reply begun file (length file) moves left
AreMoves leaving reply begun file durable (switched other ∷ moves) left =
    (redone_all leaving begun other ≡ redone_all leaving begun file) × AreMoves leaving reply begun other (length other) moves left

-- the life of these moves, after exchanges whose answers were sent, and others whose answers wait for a commit
abbrev pub life_of : List Exchanged → List Exchanged → List Move → Life
life_of answered waiting [] = record { answered = answered; held = waiting }
life_of answered waiting (exchanged e ∷ moves) = life_of answered (waiting ++ e ∷ []) moves
life_of answered waiting (committed ∷ moves) = life_of (answered ++ waiting) [] moves
life_of answered waiting (switched other ∷ moves) = life_of answered waiting moves

-- lives of moves, each of which begins with the file that the one before it left, all of whose records are durable
abbrev pub AreMovedLives : {K : Type 0} → Leaving K → (K → Call → Answer) → K → List Entry → List (List Move) → List Entry → Type 0
AreMovedLives leaving reply begun found [] left = left ≡ found
AreMovedLives leaving reply begun found (moves ∷ lives) left =
    (between : List Entry) × AreMoves leaving reply begun found (length found) moves between × AreMovedLives leaving reply begun between lives left

abbrev pub lives_of : List (List Move) → List Life
lives_of lives = map (λ (moves : List Move). life_of [] [] moves) lives

-- such lives are lives in which no file took the place of another: what these leave is one list of records, in which
-- every answer that was sent has its place, in order over all of them. The last file leaves the state that this list
-- leaves
pub record AreLikeLives {K : Type 0} (leaving : Leaving K) (reply : K → Call → Answer) (begun : K) (lives : List (List Move)) (left : List Entry) : Type 0 where
  pub records : List Entry
  pub lived : AreLives leaving reply begun [] (lives_of lives) records
  pub places : AreAmong leaving reply begun [] (answered_in (lives_of lives)) records
  pub leaves : redone_all leaving begun left ≡ redone_all leaving begun records
