-- What lives leave, and where the exchanges stand in it.
use Rattle.std.proofs.Common.{◌≡◌, ◌∙◌, ◌≤◌, ℕ, ◌+◌, ◌-◌, ◌++◌, List, [], ◌∷◌, length, take, sym, ap, arith}
use Rattle.std.proofs.lemmas.List.{append-nil, append_assoc}
use Rattle.std.proofs.lemmas.Grind.{flat_map-append}
use Rattle.std.proofs.Math.Seq.{take-append-add}
use Rattle.oai_http.specs.declared.exchanges.Answer.{Answer}
use Rattle.oai_http.specs.declared.exchanges.Call.{Call}
use Rattle.oai_journal.specs.Journals.{IsLeft}
use Rattle.oai_journal.specs.Records.{Entry}
use Rattle.oai_durable.specs.Lives.{AreAmong, AreLives, Exchanged, HavePlaces, Life, answered_in, records_of_exchanges}
use Rattle.oai_durable.specs.Records.{Leaving}

apart : (n m : ℕ) → n ≤ m → m ≡ n + (m - n)
apart n m low = grind (arith)

-- the first so many of two lists joined, all of the first ones among them
pub take_behind : {A : Type 0} (front back : List A) (count : ℕ) → length front ≤ count → (others : List A) × (take count (front ++ back) ≡ front ++ others)
take_behind {A} front back count enough =
    (take (count - length front) back, ap (λ (n : ℕ). take n (front ++ back)) (apart (length front) count enough) ∙ take-append-add front back (count - length front))

-- what stands between may be what was held back
pub among_behind : {K : Type 0} (leaving : Leaving K) (reply : K → Call → Answer) (begun : K) (before others : List Entry) (es : List Exchanged) (records : List Entry)
    → AreAmong leaving reply begun (before ++ others) es records → AreAmong leaving reply begun before es records
among_behind leaving reply begun before others [] records is = (others ++ is.0, is.1 ∙ append_assoc before others is.0)
among_behind leaving reply begun before others (e ∷ es) records is =
    let same : (before ++ others) ++ is.0 ≡ before ++ (others ++ is.0) = append_assoc before others is.0 in
    (others ++ is.0, rw (← same) is.1, rw (← same) is.2)

-- the exchanges of a life that were answered, where what it left goes on
pub among_life : {K : Type 0} (leaving : Leaving K) (reply : K → Call → Answer) (begun : K) (before : List Entry) (answered held others : List Exchanged) (records : List Entry)
    → HavePlaces leaving reply begun before (answered ++ held)
    → AreAmong leaving reply begun (before ++ records_of_exchanges answered) others records
    → AreAmong leaving reply begun before (answered ++ others) records
among_life leaving reply begun before [] held others records places is = rw (append-nil before) at is
among_life leaving reply begun before (e ∷ es) held others records places is = (
  [],
  rw (append-nil before) places.0,
  rw (append-nil before) (among_life leaving reply begun (before ++ e.own) es held others records places.1 (rw (append_assoc before e.own (records_of_exchanges es)) is)),
)

-- what a life left begins with what it found and the records of what was answered
pub life_left : (found left : List Entry) (life : Life) → IsLeft (length (found ++ records_of_exchanges life.answered)) (found ++ records_of_exchanges (life.answered ++ life.held)) left
    → (others : List Entry) × (left ≡ (found ++ records_of_exchanges life.answered) ++ others)
life_left found left life leaves =
    let front : List Entry = found ++ records_of_exchanges life.answered in
    let cut = take_behind front (records_of_exchanges life.held) leaves.count leaves.enough in
    let joined : found ++ records_of_exchanges (life.answered ++ life.held) ≡ front ++ records_of_exchanges life.held =
    ap (λ (rs : List Entry). found ++ rs) (flat_map-append (λ (e : Exchanged). e.own) life.answered life.held) ∙ sym (append_assoc found (records_of_exchanges life.answered) (records_of_exchanges life.held)) in
    (cut.0, leaves.is ∙ ap (λ (rs : List Entry). take leaves.count rs) joined ∙ cut.1)

pub lives_among : {K : Type 0} (leaving : Leaving K) (reply : K → Call → Answer) (begun : K) (found : List Entry) (lives : List Life) (left : List Entry)
    → AreLives leaving reply begun found lives left → AreAmong leaving reply begun found (answered_in lives) left
lives_among leaving reply begun found [] left is = ([], is ∙ sym (append-nil found))
lives_among leaving reply begun found (life ∷ lives) left is =
    let between : List Entry = is.0 in
    let cut = life_left found between life is.1.leaves in
    let behind = lives_among leaving reply begun between lives left is.2 in
    among_life leaving reply begun found life.answered life.held (answered_in lives) left is.1.places
    (among_behind leaving reply begun (found ++ records_of_exchanges life.answered) cut.0 (answered_in lives) left (rw cut.1 at behind))
