-- Lives made of moves are lives.
use Rattle.std.proofs.Common.{◌≡◌, ◌∙◌, ◌≤◌, ℕ, ◌++◌, List, [], ◌∷◌, length, refl, sym, ap}
use Rattle.std.proofs.lemmas.List.{append-nil, append_assoc}
use Rattle.std.proofs.lemmas.Grind.{flat_map-append}
use Rattle.std.proofs.Math.Nat.{le_refl}
use Rattle.oai_http.specs.Exchanges.{call_at}
use Rattle.oai_http.specs.declared.exchanges.Answer.{Answer}
use Rattle.oai_http.specs.declared.exchanges.Call.{Call}
use Rattle.oai_journal.specs.Records.{Entry}
use Rattle.oai_durable.specs.Lives.{AreLives, Exchanged, HasPlace, HavePlaces, IsLife, Life, records_of_exchanges}
use Rattle.oai_durable.specs.Moves.{AreLikeLives, AreMovedLives, AreMoves, Move, committed, exchanged, life_of, lives_of, switched}
use Rattle.oai_durable.specs.Records.{Leaving, redone_all}
use Rattle.oai_durable.specs.Stood.{StandInFor}
use Rattle.oai_durable.proofs.LifeLemmas.{lives_among}
use Rattle.oai_durable.proofs.ServedLemmas.{left_less, long_append, places_append}
use Rattle.oai_durable.proofs.StandLemmas.{stand_behind, stand_crashed, stand_durable, stand_replaced, stand_same}

-- a place after the records of a file is one after those that they stand for
pub place_over : {K : Type 0} (leaving : Leaving K) (reply : K → Call → Answer) (begun : K) (entries : List Entry) (durable : ℕ) (file : List Entry) (written : ℕ) (e : Exchanged)
    → StandInFor leaving begun entries durable file written → HasPlace leaving reply begun file e → HasPlace leaving reply begun entries e
place_over {K} leaving reply begun entries durable file written e stands place =
    let same = stand_same leaving begun entries durable file written stands in
    let after = stand_same leaving begun (entries ++ e.own) durable (file ++ e.own) written (stand_behind leaving begun entries durable file written e.own stands) in
    record {
      told = λ none. place.told none ∙ ap (λ (k : K). reply k (call_at e.moment e.asked)) same;
      left = λ none. sym after ∙ place.left none ∙ ap (λ (k : K). leaving.redone k (call_at e.moment e.asked)) same;
    }

-- ---- a life

-- a life under way: the exchanges whose answers were sent, and those whose answers wait, have their places; what was
-- found and their records are those for which the file stands, and all that was answered is durable
pub record IsUnderWay {K : Type 0} (leaving : Leaving K) (reply : K → Call → Answer) (begun : K) (found : List Entry) (answered waiting : List Exchanged) (file : List Entry) (written : ℕ) : Type 0 where
  pub places : HavePlaces leaving reply begun found (answered ++ waiting)
  pub durable : ℕ
  pub enough : length (found ++ records_of_exchanges answered) ≤ durable
  pub stands : StandInFor leaving begun (found ++ records_of_exchanges (answered ++ waiting)) durable file written

-- a life that leaves what a file leaves
pub record EndsLike {K : Type 0} (leaving : Leaving K) (reply : K → Call → Answer) (begun : K) (found : List Entry) (life : Life) (left : List Entry) : Type 0 where
  pub records : List Entry
  pub lived : IsLife leaving reply begun found life records
  pub leaves : redone_all leaving begun left ≡ redone_all leaving begun records

records_join : (found : List Entry) (es others : List Exchanged) → found ++ records_of_exchanges (es ++ others) ≡ (found ++ records_of_exchanges es) ++ records_of_exchanges others
records_join found es others =
    ap (λ (rs : List Entry). found ++ rs) (flat_map-append (λ (e : Exchanged). e.own) es others) ∙ sym (append_assoc found (records_of_exchanges es) (records_of_exchanges others))

records_last : (found : List Entry) (es : List Exchanged) (e : Exchanged) → found ++ records_of_exchanges (es ++ e ∷ []) ≡ (found ++ records_of_exchanges es) ++ e.own
records_last found es e = records_join found es (e ∷ []) ∙ ap (λ (rs : List Entry). (found ++ records_of_exchanges es) ++ rs) (append-nil e.own)

-- one exchange more, whose answer waits
way_exchanged : {K : Type 0} (leaving : Leaving K) (reply : K → Call → Answer) (begun : K) (found : List Entry) (answered waiting : List Exchanged) (file : List Entry) (written : ℕ) (e : Exchanged)
    → IsUnderWay leaving reply begun found answered waiting file written → HasPlace leaving reply begun file e
    → IsUnderWay leaving reply begun found answered (waiting ++ e ∷ []) (file ++ e.own) written
way_exchanged leaving reply begun found answered waiting file written e way place =
    let es : List Exchanged = answered ++ waiting in
    let entries : List Entry = found ++ records_of_exchanges es in
    let joined : answered ++ (waiting ++ e ∷ []) ≡ es ++ e ∷ [] = sym (append_assoc answered waiting (e ∷ [])) in
    let behind : StandInFor leaving begun (entries ++ e.own) way.durable (file ++ e.own) written = stand_behind leaving begun entries way.durable file written e.own way.stands in
    let last : StandInFor leaving begun (found ++ records_of_exchanges (es ++ e ∷ [])) way.durable (file ++ e.own) written = rw (records_last found es e) behind in
    record {
      places = rw joined (places_append leaving reply begun found es (e ∷ []) way.places (place_over leaving reply begun entries way.durable file written e way.stands place, tt));
      durable = way.durable;
      enough = way.enough;
      stands = rw joined last;
    }

-- all answers that wait are sent, once their records are durable
way_committed : {K : Type 0} (leaving : Leaving K) (reply : K → Call → Answer) (begun : K) (found : List Entry) (answered waiting : List Exchanged) (file : List Entry) (written : ℕ)
    → IsUnderWay leaving reply begun found answered waiting file written → IsUnderWay leaving reply begun found (answered ++ waiting) [] file (length file)
way_committed leaving reply begun found answered waiting file written way =
    let es : List Exchanged = answered ++ waiting in
    let entries : List Entry = found ++ records_of_exchanges es in
    record {
      places = rw (append-nil es) way.places;
      durable = length entries;
      enough = le_refl (length entries);
      stands = rw (append-nil es) (stand_durable leaving begun entries way.durable file written way.stands);
    }

-- another file takes the place
way_switched : {K : Type 0} (leaving : Leaving K) (reply : K → Call → Answer) (begun : K) (found : List Entry) (answered waiting : List Exchanged) (file other : List Entry) (written : ℕ)
    → IsUnderWay leaving reply begun found answered waiting file written → redone_all leaving begun other ≡ redone_all leaving begun file
    → IsUnderWay leaving reply begun found answered waiting other (length other)
way_switched leaving reply begun found answered waiting file other written way same =
    let entries : List Entry = found ++ records_of_exchanges (answered ++ waiting) in
    let few : length (found ++ records_of_exchanges answered) ≤ length ((found ++ records_of_exchanges answered) ++ records_of_exchanges waiting) =
    long_append (found ++ records_of_exchanges answered) (records_of_exchanges waiting) in
    record {
      places = way.places;
      durable = length entries;
      enough = rw (records_join found answered waiting) few;
      stands = stand_replaced leaving begun entries other (same ∙ stand_same leaving begun entries way.durable file written way.stands);
    }

-- a crash ends it
way_ends : {K : Type 0} (leaving : Leaving K) (reply : K → Call → Answer) (begun : K) (found : List Entry) (answered waiting : List Exchanged) (file : List Entry) (written : ℕ) (left : List Entry)
    → IsUnderWay leaving reply begun found answered waiting file written → AreMoves leaving reply begun file written [] left
    → EndsLike leaving reply begun found (record { answered = answered; held = waiting }) left
way_ends leaving reply begun found answered waiting file written left way is =
    let entries : List Entry = found ++ records_of_exchanges (answered ++ waiting) in
    let crashed = stand_crashed leaving begun entries way.durable file written left way.stands is in
    record {
      records = crashed.found;
      lived = record { places = way.places; leaves = left_less (length (found ++ records_of_exchanges answered)) way.durable entries crashed.found way.enough crashed.leaves };
      leaves = stand_same leaving begun crashed.found (length crashed.found) left (length left) crashed.stands;
    }

pub life_ends : {K : Type 0} (leaving : Leaving K) (reply : K → Call → Answer) (begun : K) (found : List Entry) (answered waiting : List Exchanged) (file : List Entry) (written : ℕ) (moves : List Move) (left : List Entry)
    → IsUnderWay leaving reply begun found answered waiting file written → AreMoves leaving reply begun file written moves left
    → EndsLike leaving reply begun found (life_of answered waiting moves) left
life_ends leaving reply begun found answered waiting file written [] left way are = way_ends leaving reply begun found answered waiting file written left way are
life_ends leaving reply begun found answered waiting file written (exchanged e ∷ moves) left way are =
    life_ends leaving reply begun found answered (waiting ++ e ∷ []) (file ++ e.own) written moves left
    (way_exchanged leaving reply begun found answered waiting file written e way are.0) are.1
life_ends leaving reply begun found answered waiting file written (committed ∷ moves) left way are =
    life_ends leaving reply begun found (answered ++ waiting) [] file (length file) moves left (way_committed leaving reply begun found answered waiting file written way) are
life_ends leaving reply begun found answered waiting file written (switched other ∷ moves) left way are =
    life_ends leaving reply begun found answered waiting other (length other) moves left
    (way_switched leaving reply begun found answered waiting file other written way are.0) are.1

-- ---- lives

-- lives that leave what a file leaves
pub record LastLike {K : Type 0} (leaving : Leaving K) (reply : K → Call → Answer) (begun : K) (found : List Entry) (lives : List Life) (left : List Entry) : Type 0 where
  pub records : List Entry
  pub lived : AreLives leaving reply begun found lives records
  pub leaves : redone_all leaving begun left ≡ redone_all leaving begun records

-- a life begins where the file stands for what was found
way_begun : {K : Type 0} (leaving : Leaving K) (reply : K → Call → Answer) (begun : K) (found file : List Entry)
    → redone_all leaving begun file ≡ redone_all leaving begun found → IsUnderWay leaving reply begun found [] [] file (length file)
way_begun leaving reply begun found file same = record {
  places = tt;
  durable = length found;
  enough = rw (append-nil found) (le_refl (length found));
  stands = rw (append-nil found) (stand_replaced leaving begun found file same);
}

pub lives_end : {K : Type 0} (leaving : Leaving K) (reply : K → Call → Answer) (begun : K) (found file : List Entry) (lives : List (List Move)) (left : List Entry)
    → redone_all leaving begun file ≡ redone_all leaving begun found → AreMovedLives leaving reply begun file lives left
    → LastLike leaving reply begun found (lives_of lives) left
lives_end leaving reply begun found file [] left same is = record {
  records = found;
  lived = refl;
  leaves = ap (λ (es : List Entry). redone_all leaving begun es) is ∙ same;
}
lives_end leaving reply begun found file (moves ∷ lives) left same is =
    let ended = life_ends leaving reply begun found [] [] file (length file) moves is.0 (way_begun leaving reply begun found file same) is.1 in
    let more = lives_end leaving reply begun ended.records is.0 lives left ended.leaves is.2 in
    record { records = more.records; lived = (ended.records, ended.lived, more.lived); leaves = more.leaves }

pub moved_lives : {K : Type 0} (leaving : Leaving K) (reply : K → Call → Answer) (begun : K) (lives : List (List Move)) (left : List Entry)
    → AreMovedLives leaving reply begun [] lives left → AreLikeLives leaving reply begun lives left
moved_lives leaving reply begun lives left are =
    let ended = lives_end leaving reply begun [] [] lives left refl are in
    record {
      records = ended.records;
      lived = ended.lived;
      places = lives_among leaving reply begun [] (lives_of lives) ended.records ended.lived;
      leaves = ended.leaves;
    }
