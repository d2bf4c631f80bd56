-- Calls of a front, on several connections: each piece changes its own connection alone, and what comes of the pieces of one is what comes of
-- all its bytes.
use Rattle.std.proofs.Common.{◌≡◌, ◌∙◌, ℕ, ℤ, ◌+◌, ◌<◌, ◌≤◌, ◌⊎◌, Bool, true, false, cond, List, [], ◌∷◌, ◌++◌, append_assoc, length, map, drop, take, zero, suc, Option, Some, None, refl, sym, ap, ap₂, subst, arith, inl, inr}
use Rattle.std.specs.Prelude.{⊤, ◌==◌, ◌||◌, not, IsSome, MatchOption, All, IsTrue, codes, filter, find, reverse}
use Rattle.std.specs.List.{before_first, flat_map, list_all, list_any, prefix_len, sum_by}
use Rattle.std.proofs.lemmas.Bool.Decides.{nat_tests}
use Rattle.std.proofs.lemmas.Bool.{and_parts, cases_Bool, cond-false, cond-true, eq-eqb, eqb-true, false≢true}
use Rattle.std.proofs.lemmas.List.{append-nil, drop-append-le, drop-drop, length-append, length-drop, map-append, reverse-append}
use Rattle.std.proofs.lemmas.List.Concat.{flat_map-append}
use Rattle.std.proofs.lemmas.List.Elements.{All-cons, All-nil, filter-append}
use Rattle.std.proofs.lemmas.List.Folds.{list_any-append}
use Rattle.std.proofs.lemmas.List.Sums.{sum_by-append, sum_by-cons}
use Rattle.httparse.specs.Grammar.{IsRequestHead, RequestHead, crlf, is_token_byte, is_uri_byte, print_request}
use Rattle.oai_http.specs.declared.statuses.Status.{Status}
use Rattle.oai_front.proofs.HeadLemmas.{head_has_bytes}
use Rattle.oai_front.proofs.StreamLemmas.{splits_join, splits_more, stream_join, stream_over}
use Rattle.oai_front.specs.Connections.{Connection, IsEnded, bytes_with, connection_at, fresh, rest_at, stage_at}
use Rattle.oai_front.specs.Fronts.{HasOutput, IsChange, IsTaking, State, connection_numbered, is_numbered, replaced, with_connection, without_connection}
use Rattle.oai_front.specs.Messages.{End, Begins, HasWhole, IsClosing, IsFault, IsRefused, IsUnfinished, Message, ReadsMessages, Splits, IsMessageStream, closes, faults, waits}
use Rattle.oai_front.specs.Performing.{AnsweredMessage, Run, Steps, answers_of, done_bytes, end_bytes, messages_of}
use Rattle.oai_front.specs.Runs.{AreMessages, ArePerformed, AreServed, Came, Comes, FrontCall, CallOutcome, Forgotten, IsCall, IsOwn, IsReadingConnection, IsToCome, Opened, Over, Piece, Seen, Served, Serves, Taken, all_served, bytes_of_call, bytes_of_calls, calls_of, comes_on, taken_count, done_on, is_forgotten, is_over, is_whole_call, seen, served_by, served_on, served_with, stage_where}
use Rattle.oai_front.specs.Stages.{is_closing, stage_ended}
use Rattle.oai_front.specs.declared.stages.Stage.{Stage}
use Rattle.oai_front.specs.declared.stages.Stage.TheVariants as phase

none_some : (c : Connection) → None ≡ Some c → ⊥
none_some c e = cc

value_or : Connection → Option Connection → Connection
value_or d None = d
value_or d (Some c) = c

some_same : (c d : Connection) → Some c ≡ Some d → c ≡ d
unfolding value_or
some_same c d e = ap (value_or c) e

-- ---- the connection of a number, after one was replaced

pub numbered_same : (number : ℕ) (connections : List Connection) (c d : Connection) → d.number ≡ number → connection_numbered number connections ≡ Some c
    → connection_numbered number (with_connection d connections) ≡ Some d
unfolding connection_numbered with_connection
numbered_same number [] c d e h = absurd (none_some c h)
numbered_same number (x ∷ connections) c d e h =
    let own : is_numbered number d ≡ true = eq-eqb d.number number e in
    elim (cases_Bool (is_numbered number x)) [
      | inl here ↦
          let there : is_numbered d.number x ≡ true = ap (λ (n : ℕ). x.number == n) e ∙ here in
          ap (λ (y : Connection). cond (is_numbered number y) (Some y) (find (is_numbered number) (map (replaced d) connections))) (cond-true (is_numbered d.number x) d x there)
          ∙ cond-true (is_numbered number d) (Some d) (find (is_numbered number) (map (replaced d) connections)) own
      | inr other ↦
          let away : is_numbered d.number x ≡ false = ap (λ (n : ℕ). x.number == n) e ∙ other in
          ap (λ (y : Connection). cond (is_numbered number y) (Some y) (find (is_numbered number) (map (replaced d) connections))) (cond-false (is_numbered d.number x) d x away)
          ∙ cond-false (is_numbered number x) (Some x) (find (is_numbered number) (map (replaced d) connections)) other
          ∙ numbered_same number connections c d e (sym (cond-false (is_numbered number x) (Some x) (find (is_numbered number) connections) other) ∙ h)
    ]

pub numbered_other : (number : ℕ) (connections : List Connection) (d : Connection) → is_numbered number d ≡ false
    → connection_numbered number (with_connection d connections) ≡ connection_numbered number connections
unfolding connection_numbered with_connection
numbered_other number [] d e = refl
numbered_other number (x ∷ connections) d e =
    let rest = numbered_other number connections d e in
    elim (cases_Bool (is_numbered d.number x)) [
      | inl here ↦
          let away : is_numbered number x ≡ false = ap (λ (n : ℕ). n == number) (eqb-true x.number d.number here) ∙ e in
          ap (λ (y : Connection). cond (is_numbered number y) (Some y) (find (is_numbered number) (map (replaced d) connections))) (cond-true (is_numbered d.number x) d x here)
          ∙ cond-false (is_numbered number d) (Some d) (find (is_numbered number) (map (replaced d) connections)) e
          ∙ rest ∙ sym (cond-false (is_numbered number x) (Some x) (find (is_numbered number) connections) away)
      | inr other ↦
          ap (λ (y : Connection). cond (is_numbered number y) (Some y) (find (is_numbered number) (map (replaced d) connections))) (cond-false (is_numbered d.number x) d x other)
          ∙ ap (cond (is_numbered number x) (Some x)) rest
    ]

pub number_found : (number : ℕ) (connections : List Connection) (c : Connection) → connection_numbered number connections ≡ Some c → c.number ≡ number
unfolding connection_numbered
number_found number [] c h = absurd (none_some c h)
number_found number (x ∷ connections) c h = elim (cases_Bool (is_numbered number x)) [
  | inl here ↦
      let same : x ≡ c = some_same x c (sym (cond-true (is_numbered number x) (Some x) (find (is_numbered number) connections) here) ∙ h) in
      sym (ap (λ (y : Connection). y.number) same) ∙ eqb-true x.number number here
  | inr other ↦ number_found number connections c (sym (cond-false (is_numbered number x) (Some x) (find (is_numbered number) connections) other) ∙ h)
]

-- ---- no bytes

no_message_in_none : (message : Message) (after : List ℕ) → ¬ (ReadsMessages [] message after)
no_message_in_none message after r =
    omega (arith, head_has_bytes r.head, ap (λ (xs : List ℕ). length xs) r.begins.reads.1, length-append (print_request r.head) (message.asked.body ++ after))

not_refused_in_none : (status : Status) → ¬ (IsRefused [] status)
not_refused_in_none status r =
    omega (arith, head_has_bytes r.head, ap (λ (xs : List ℕ). length xs) r.begins.reads.1, length-append (print_request r.head) r.behind)

-- there is a head
some_head : RequestHead
some_head = record { blank = []; method = codes "GET"; target = codes "/"; minor = 1; line_end = crlf; fields = []; last = crlf }

passing : (test : ℕ → Bool) (bytes : List ℕ) → list_all test bytes ≡ true → All (λ b. IsTrue (test b)) bytes
passing test [] h = All-nil (λ (c : ℕ). IsTrue (test c))
passing test (b ∷ bytes) h = let parts = and_parts (test b) (list_all test bytes) h in All-cons (λ (c : ℕ). IsTrue (test c)) b bytes parts.0 (passing test bytes parts.1)

is_some_head : IsRequestHead some_head
unfolding some_head is_token_byte lib.Utf8.encode
is_some_head = record {
  method = (omega arith, passing is_token_byte (codes "GET") refl);
  target = (omega arith, passing is_uri_byte (codes "/") refl);
  target_text = (codes "/", (refl, refl));
  minor = omega arith;
  fields = All-nil _;
}

some_begins : Begins ([] ++ print_request some_head) some_head []
unfolding some_head print_request
some_begins = record { reads = (is_some_head, sym (append-nil (print_request some_head))); short = omega arith; few = omega arith }

no_fault_in_none : (status : Status) → ¬ (IsFault [] status)
no_fault_in_none status (inl never) = never.0.0 (print_request some_head) some_head [] some_begins
no_fault_in_none status (inr refused) = not_refused_in_none status refused

nothing_closes : (bytes : List ℕ) (messages front : List Message) (rest : List ℕ) (m : Message) (after : List ℕ) → bytes ≡ [] → Splits bytes front rest → ReadsMessages rest m after
    → (messages ≡ []) × (closes ≡ waits [])
nothing_closes bytes messages [] rest m after e s r = absurd (no_message_in_none m after (subst (λ (xs : List ℕ). ReadsMessages xs m after) (sym s ∙ e) r))
nothing_closes bytes messages (n ∷ front) rest m after e s r = absurd (no_message_in_none n s.0 (subst (λ (xs : List ℕ). ReadsMessages xs n s.0) e s.1))

not_nil : (m : Message) (messages : List Message) → m ∷ messages ≡ [] → ⊥
not_nil m messages e = cc

-- nothing comes of no bytes
nothing_comes : (bytes : List ℕ) (messages : List Message) (end : End) → bytes ≡ [] → IsMessageStream bytes messages end → (messages ≡ []) × (end ≡ waits [])
nothing_comes bytes [] (waits rest) e s = (refl, ap waits (sym s.0 ∙ e))
nothing_comes bytes (m ∷ messages) (waits rest) e s = absurd (no_message_in_none m s.0.0 (subst (λ (xs : List ℕ). ReadsMessages xs m s.0.0) e s.0.1))
nothing_comes bytes [] (faults status) e s = absurd (no_fault_in_none status (subst (λ (xs : List ℕ). IsFault xs status) (sym s.1 ∙ e) s.2))
nothing_comes bytes (m ∷ messages) (faults status) e s = absurd (no_message_in_none m s.1.0 (subst (λ (xs : List ℕ). ReadsMessages xs m s.1.0) e s.1.1))
nothing_comes bytes messages closes e s = nothing_closes bytes messages s.0 s.1 s.2 s.3 e s.4 s.5

-- no bytes are nothing whole
pub none_unfinished : IsUnfinished []
none_unfinished =
    record { message = no_message_in_none; fault = not_refused_in_none; short = λ _. omega arith; begins = λ _. inl (inl (print_request some_head, some_head, some_begins.reads)) }

-- ---- the connection of a number, after others were forgotten or opened

pub not_numbered : (number other : ℕ) (d : Connection) → d.number ≡ number → (number == other) ≡ false → is_numbered other d ≡ false
not_numbered number other d e away = ap (λ (n : ℕ). n == other) e ∙ away

pub without_other : (number other : ℕ) (connections : List Connection) → (number == other) ≡ false
    → connection_numbered other (without_connection number connections) ≡ connection_numbered other connections
unfolding connection_numbered without_connection
without_other number other [] away = refl
without_other number other (x ∷ connections) away =
    let rest = without_other number other connections away in
    elim (cases_Bool (is_numbered number x)) [
      | inl here ↦
          let gone : is_numbered other x ≡ false = not_numbered number other x (eqb-true x.number number here) away in
          ap (λ (b : Bool). find (is_numbered other) (cond (not b) (x ∷ filter (λ c. not (is_numbered number c)) connections) (filter (λ c. not (is_numbered number c)) connections))) here
          ∙ rest ∙ sym (cond-false (is_numbered other x) (Some x) (find (is_numbered other) connections) gone)
      | inr there ↦
          ap (λ (b : Bool). find (is_numbered other) (cond (not b) (x ∷ filter (λ c. not (is_numbered number c)) connections) (filter (λ c. not (is_numbered number c)) connections))) there
          ∙ ap (cond (is_numbered other x) (Some x)) rest
    ]

pub without_own : (number : ℕ) (connections : List Connection) → connection_numbered number (without_connection number connections) ≡ None
unfolding connection_numbered without_connection
without_own number [] = refl
without_own number (x ∷ connections) =
    let rest = without_own number connections in
    elim (cases_Bool (is_numbered number x)) [
      | inl here ↦
          ap (λ (b : Bool). find (is_numbered number) (cond (not b) (x ∷ filter (λ c. not (is_numbered number c)) connections) (filter (λ c. not (is_numbered number c)) connections))) here
          ∙ rest
      | inr there ↦
          ap (λ (b : Bool). find (is_numbered number) (cond (not b) (x ∷ filter (λ c. not (is_numbered number c)) connections) (filter (λ c. not (is_numbered number c)) connections))) there
          ∙ cond-false (is_numbered number x) (Some x) (find (is_numbered number) (filter (λ c. not (is_numbered number c)) connections)) there ∙ rest
    ]

pub opened_other : (number other : ℕ) (connections : List Connection) → (number == other) ≡ false
    → connection_numbered other (connections ++ fresh number ∷ []) ≡ connection_numbered other connections
unfolding connection_numbered
opened_other number other [] away = cond-false (is_numbered other (fresh number)) (Some (fresh number)) None away
opened_other number other (x ∷ connections) away = ap (cond (is_numbered other x) (Some x)) (opened_other number other connections away)

opened_own : (number : ℕ) (connections : List Connection) → connection_numbered number connections ≡ None
    → connection_numbered number (connections ++ fresh number ∷ []) ≡ Some (fresh number)
unfolding connection_numbered
opened_own number [] none = cond-true (is_numbered number (fresh number)) (Some (fresh number)) None (eq-eqb number number refl)
opened_own number (x ∷ connections) none = elim (cases_Bool (is_numbered number x)) [
  | inl here ↦ absurd (none_some x (sym none ∙ cond-true (is_numbered number x) (Some x) (find (is_numbered number) connections) here))
  | inr there ↦
      cond-false (is_numbered number x) (Some x) (find (is_numbered number) (connections ++ fresh number ∷ [])) there
      ∙ opened_own number connections (sym (cond-false (is_numbered number x) (Some x) (find (is_numbered number) connections) there) ∙ none)
]

-- ---- no bytes, again

-- something whole stands in some bytes
none_whole : (bytes : List ℕ) → bytes ≡ [] → ¬ (HasWhole bytes)
none_whole bytes e (inl r) = no_message_in_none r.0 r.1 (subst (λ (xs : List ℕ). ReadsMessages xs r.0 r.1) e r.2)
none_whole bytes e (inr f) = no_fault_in_none f.0 (subst (λ (xs : List ℕ). IsFault xs f.0) e f.1)

nothing_split : (bytes rest : List ℕ) (messages : List Message) → bytes ≡ [] → Splits bytes messages rest → rest ≡ []
nothing_split bytes rest [] e s = sym s ∙ e
nothing_split bytes rest (m ∷ messages) e s = absurd (no_message_in_none m s.0 (subst (λ (xs : List ℕ). ReadsMessages xs m s.0) e s.1))

-- nothing is performed of no bytes
nothing_performed : (whole : Bool) (bytes : List ℕ) (messages : List Message) (end : End) → bytes ≡ [] → ArePerformed whole bytes messages end
    → (messages ≡ []) × (end ≡ waits []) × (whole ≡ true)
nothing_performed true bytes messages end e s = let none = nothing_comes bytes messages end e s in (none.0, none.1, refl)
nothing_performed false bytes messages (waits rest) e s = absurd (none_whole rest (nothing_split bytes rest messages e s.0) s.1)
nothing_performed false bytes messages (faults status) e s = absurd s
nothing_performed false bytes messages closes e s = absurd s

none_done : (done : List AnsweredMessage) → messages_of done ≡ [] → done ≡ []
none_done [] e = refl
none_done (d ∷ done) e = absurd (not_nil d.message (messages_of done) e)

-- ---- what was performed, and more behind it

pub answers_join : (a b : List AnsweredMessage) → answers_of (a ++ b) ≡ answers_of a ++ answers_of b
unfolding answers_of
answers_join a b = flat_map-append done_bytes a b

pub messages_join : (a b : List AnsweredMessage) → messages_of (a ++ b) ≡ messages_of a ++ messages_of b
messages_join a b = map-append (λ (d : AnsweredMessage). d.message) a b

pub splits_in : (whole : Bool) (bytes rest : List ℕ) (messages : List Message) → ArePerformed whole bytes messages (waits rest) → Splits bytes messages rest
splits_in true bytes rest messages s = s.0
splits_in false bytes rest messages s = s.0

stream_in : (whole : Bool) (bytes : List ℕ) (messages : List Message) (end : End) → IsClosing end → ArePerformed whole bytes messages end → IsMessageStream bytes messages end
stream_in true bytes messages end closing s = s
stream_in false bytes messages (waits rest) closing s = absurd closing
stream_in false bytes messages (faults status) closing s = absurd s
stream_in false bytes messages closes closing s = absurd s

pub performed_join : (whole : Bool) (bytes rest more : List ℕ) (ms ns : List Message) (end : End) → Splits bytes ms rest → ArePerformed whole (rest ++ more) ns end
    → ArePerformed whole (bytes ++ more) (ms ++ ns) end
performed_join true bytes rest more ms ns end s t = stream_join (bytes ++ more) (rest ++ more) ms ns end (splits_more bytes more rest ms s) t
performed_join false bytes rest more ms ns (waits other) s t = (splits_join (bytes ++ more) (rest ++ more) other ms ns (splits_more bytes more rest ms s) t.0, t.1)
performed_join false bytes rest more ms ns (faults status) s t = absurd t
performed_join false bytes rest more ms ns closes s t = absurd t

pub told_join : (out : List ℕ) (done now : List AnsweredMessage) (end : End)
    → (out ++ (answers_of done ++ [])) ++ (answers_of now ++ end_bytes end) ≡ out ++ (answers_of (done ++ now) ++ end_bytes end)
told_join out done now end =
    let more = answers_of now ++ end_bytes end in
    append_assoc out (answers_of done ++ []) more
    ∙ ap (λ (xs : List ℕ). out ++ xs)
    (ap (λ (xs : List ℕ). xs ++ more) (append-nil (answers_of done)) ∙ sym (append_assoc (answers_of done) (answers_of now) (end_bytes end))
    ∙ ap (λ (xs : List ℕ). xs ++ end_bytes end) (sym (answers_join done now)))

-- ---- a connection, and what it has come to

abbrev IsUnfinishedAt : End → Type 0
IsUnfinishedAt (waits rest) = IsUnfinished rest
IsUnfinishedAt closes = ⊤
IsUnfinishedAt (faults status) = ⊤

-- its end came, and what had come of a message that is not whole was dropped
abbrev IsDropped : Bool → List ℕ → End → Type 0
IsDropped over rest end = (over ≡ true) × (rest ≡ []) × IsUnfinishedAt end

-- what it is to put out, but for what was taken
abbrev told : Connection → List AnsweredMessage → End → List ℕ
told c done end = c.output ++ (answers_of done ++ end_bytes end)

record Keeps (c y : Connection) (bytes : List ℕ) (done : List AnsweredMessage) (taken : ℕ) (whole over : Bool) : Type 0 where
  end : End
  performed : ArePerformed whole (c.rest ++ bytes) (messages_of done) end
  same : y.number ≡ c.number
  output : y.output ≡ drop taken (told c done end)
  within : taken ≤ length (told c done end)
  stage : y.stage ≡ stage_at (stage_where over) end
  rest : (y.rest ≡ rest_at end) ⊎ IsDropped over y.rest end

bytes_at : (c : Connection) (piece : List ℕ) (s : Stage) → c.stage ≡ s → bytes_with c piece ≡ cond (is_closing s) c.rest (c.rest ++ piece)
bytes_at c piece s e = ap (λ (t : Stage). cond (is_closing t) c.rest (c.rest ++ piece)) e

-- the connection after a piece with which those messages were performed
abbrev after_piece : Connection → List ℕ → List AnsweredMessage → End → Connection
after_piece x piece now end = connection_at (record x { rest = bytes_with x piece }) end (answers_of now ++ end_bytes end)

-- the bytes that wait, and more behind them
keeps_joined : (c x y : Connection) (bytes more rest piece : List ℕ) (done now : List AnsweredMessage) (taken : ℕ) (over whole : Bool) (end : End) → Splits (c.rest ++ bytes) (messages_of done) rest
    → x.number ≡ c.number → x.output ≡ drop taken (told c done (waits rest)) → taken ≤ length (told c done (waits rest)) → x.stage ≡ stage_where over
    → bytes_with x piece ≡ rest ++ more → ArePerformed whole (bytes_with x piece) (messages_of now) end → y ≡ after_piece x piece now end
    → Keeps c y (bytes ++ more) (done ++ now) taken whole over
keeps_joined c x y bytes more rest piece done now taken over whole end s same output within stage e p f =
    let more_told = answers_of now ++ end_bytes end in
    let joined = told_join c.output done now end in
    let all = performed_join whole (c.rest ++ bytes) rest more (messages_of done) (messages_of now) end s (subst (λ (xs : List ℕ). ArePerformed whole xs (messages_of now) end) e p) in
    record {
      end = end;
      performed = subst (λ (ms : List Message). ArePerformed whole (c.rest ++ (bytes ++ more)) ms end) (sym (messages_join done now))
          (subst (λ (xs : List ℕ). ArePerformed whole xs (messages_of done ++ messages_of now) end) (append_assoc c.rest bytes more) all);
      same = ap (λ (d : Connection). d.number) f ∙ same;
      output = ap (λ (d : Connection). d.output) f ∙ ap (λ (out : List ℕ). out ++ more_told) output ∙ sym (drop-append-le taken (told c done (waits rest)) more_told within) ∙ ap (drop taken) joined;
      within = omega (arith, within, length-append (told c done (waits rest)) more_told, ap (λ (xs : List ℕ). length xs) joined);
      stage = ap (λ (d : Connection). d.stage) f ∙ ap (λ (t : Stage). stage_at t end) stage;
      rest = inl (ap (λ (d : Connection). d.rest) f);
    }

-- connections of these parts
parts : ℕ → List ℕ → List ℕ → Stage → Connection
parts number rest output stage = record { number = number; rest = rest; output = output; stage = stage }

-- a piece with which nothing comes
nothing_changes : (x y : Connection) (piece : List ℕ) (now : List AnsweredMessage) (end : End) → x.rest ≡ [] → now ≡ [] → end ≡ waits [] → y ≡ after_piece x piece now end → y ≡ x
unfolding parts answers_of
nothing_changes x y piece now end rest none waiting f =
    f ∙ ap₂ (λ (ds : List AnsweredMessage) (e : End). parts x.number (rest_at e) (x.output ++ (answers_of ds ++ end_bytes e)) (stage_at x.stage e)) none waiting
    ∙ ap₂ (λ (r o : List ℕ). parts x.number r o x.stage) (sym rest) (append-nil x.output)

-- it stays as it is
keeps_still : (c x y : Connection) (bytes more : List ℕ) (done now : List AnsweredMessage) (taken : ℕ) (over : Bool) (end : End) → ArePerformed true (c.rest ++ (bytes ++ more)) (messages_of done) end
    → x.number ≡ c.number → x.output ≡ drop taken (told c done end) → taken ≤ length (told c done end) → x.stage ≡ stage_at (stage_where over) end
    → (x.rest ≡ rest_at end) ⊎ IsDropped over x.rest end → now ≡ [] → y ≡ x → Keeps c y (bytes ++ more) (done ++ now) taken true over
keeps_still c x y bytes more done now taken over end p same output within stage rest none f =
    let all : done ++ now ≡ done = ap (λ (ds : List AnsweredMessage). done ++ ds) none ∙ append-nil done in
    subst (λ (d : Connection). Keeps c d (bytes ++ more) (done ++ now) taken true over) (sym f)
    (subst (λ (ds : List AnsweredMessage). Keeps c x (bytes ++ more) ds taken true over) (sym all)
    (record { end = end; performed = p; same = same; output = output; within = within; stage = stage; rest = rest }))

rest_nothing : (over : Bool) (rest : List ℕ) (end : End) → IsClosing end → (rest ≡ rest_at end) ⊎ IsDropped over rest end → rest ≡ []
rest_nothing over rest (waits bytes) closing r = absurd closing
rest_nothing over rest closes closing (inl r) = r
rest_nothing over rest closes closing (inr d) = d.1
rest_nothing over rest (faults status) closing (inl r) = r
rest_nothing over rest (faults status) closing (inr d) = d.1

closed_at : (s : Stage) (end : End) → IsClosing end → stage_at s end ≡ phase.Closed
closed_at s (waits bytes) closing = absurd closing
closed_at s closes closing = refl
closed_at s (faults status) closing = refl

-- a piece where the connection is closed
keeps_closed : (c x y : Connection) (bytes more piece : List ℕ) (done now : List AnsweredMessage) (taken : ℕ) (before whole over : Bool) (end last : End) → IsClosing end
    → ArePerformed before (c.rest ++ bytes) (messages_of done) end → x.number ≡ c.number → x.output ≡ drop taken (told c done end) → taken ≤ length (told c done end)
    → x.stage ≡ stage_at (stage_where over) end → (x.rest ≡ rest_at end) ⊎ IsDropped over x.rest end → ArePerformed whole (bytes_with x piece) (messages_of now) last
    → y ≡ after_piece x piece now last → Keeps c y (bytes ++ more) (done ++ now) taken whole over
keeps_closed c x y bytes more piece done now taken before whole over end last closing p same output within stage rest q f =
    let gone = rest_nothing over x.rest end closing rest in
    let none = nothing_performed whole (bytes_with x piece) (messages_of now) last (bytes_at x piece phase.Closed (stage ∙ closed_at (stage_where over) end closing) ∙ gone) q in
    let stream = stream_over (c.rest ++ bytes) more (messages_of done) end (stream_in before (c.rest ++ bytes) (messages_of done) end closing p) closing in
    let still = keeps_still c x y bytes more done now taken over end (subst (λ (xs : List ℕ). IsMessageStream xs (messages_of done) end) (append_assoc c.rest bytes more) stream)
    same output within stage rest (none_done now none.0) (nothing_changes x y piece now last gone (none_done now none.0) none.1 f) in
    subst (λ (w : Bool). Keeps c y (bytes ++ more) (done ++ now) taken w over) (sym none.2) still

-- a piece, whatever the connection has come to
keeps_piece : (c x y : Connection) (bytes piece : List ℕ) (done now : List AnsweredMessage) (taken : ℕ) (before whole over : Bool) (end last : End)
    → ArePerformed before (c.rest ++ bytes) (messages_of done) end → x.number ≡ c.number → x.output ≡ drop taken (told c done end) → taken ≤ length (told c done end)
    → x.stage ≡ stage_at (stage_where over) end → (x.rest ≡ rest_at end) ⊎ IsDropped over x.rest end → ArePerformed whole (bytes_with x piece) (messages_of now) last
    → y ≡ after_piece x piece now last → Keeps c y (bytes ++ cond over [] piece) (done ++ now) taken whole over
keeps_piece c x y bytes piece done now taken before whole false (waits rest) last p same output within stage (inl r) q f =
    keeps_joined c x y bytes piece rest piece done now taken false whole last (splits_in before (c.rest ++ bytes) rest (messages_of done) p) same output within stage
    (bytes_at x piece phase.Reading stage ∙ ap (λ (xs : List ℕ). xs ++ piece) r) q f
keeps_piece c x y bytes piece done now taken before whole false (waits rest) last p same output within stage (inr d) q f = absurd (false≢true d.0)
keeps_piece c x y bytes piece done now taken before whole true (waits rest) last p same output within stage (inl r) q f =
    keeps_joined c x y bytes [] rest piece done now taken true whole last (splits_in before (c.rest ++ bytes) rest (messages_of done) p) same output within stage
    (bytes_at x piece phase.Ended stage ∙ r ∙ sym (append-nil rest)) q f
keeps_piece c x y bytes piece done now taken before whole true (waits rest) last p same output within stage (inr d) q f =
    let none = nothing_performed whole (bytes_with x piece) (messages_of now) last (bytes_at x piece phase.Ended stage ∙ d.1) q in
    let splits = splits_in before (c.rest ++ bytes) rest (messages_of done) p in
    let same_bytes : c.rest ++ bytes ≡ c.rest ++ (bytes ++ []) = ap (λ (xs : List ℕ). c.rest ++ xs) (sym (append-nil bytes)) in
    let still = keeps_still c x y bytes [] done now taken true (waits rest) (subst (λ (xs : List ℕ). Splits xs (messages_of done) rest) same_bytes splits, d.2)
    same output within stage (inr d) (none_done now none.0) (nothing_changes x y piece now last d.1 (none_done now none.0) none.1 f) in
    subst (λ (w : Bool). Keeps c y (bytes ++ []) (done ++ now) taken w true) (sym none.2) still
keeps_piece c x y bytes piece done now taken before whole over closes last p same output within stage rest q f =
    keeps_closed c x y bytes (cond over [] piece) piece done now taken before whole over closes last tt p same output within stage rest q f
keeps_piece c x y bytes piece done now taken before whole over (faults status) last p same output within stage rest q f =
    keeps_closed c x y bytes (cond over [] piece) piece done now taken before whole over (faults status) last tt p same output within stage rest q f

-- bytes are taken
keeps_taken : (c x y : Connection) (bytes : List ℕ) (done : List AnsweredMessage) (taken count : ℕ) (whole over : Bool) → Keeps c x bytes done taken whole over
    → count ≤ length x.output → y ≡ record x { output = drop count x.output } → Keeps c y bytes done (taken + count) whole over
keeps_taken c x y bytes done taken count whole over k few f = record {
  end = k.end;
  performed = k.performed;
  same = ap (λ (d : Connection). d.number) f ∙ k.same;
  output = ap (λ (d : Connection). d.output) f ∙ ap (drop count) k.output ∙ drop-drop count taken (told c done k.end);
  within = omega (arith, few, k.within, ap (λ (xs : List ℕ). length xs) k.output, length-drop taken (told c done k.end));
  stage = ap (λ (d : Connection). d.stage) f ∙ k.stage;
  rest = subst (λ (xs : List ℕ). (xs ≡ rest_at k.end) ⊎ IsDropped over xs k.end) (sym (ap (λ (d : Connection). d.rest) f)) k.rest;
}

-- no more bytes come
stage_over : (over : Bool) (end : End) → stage_ended (stage_at (stage_where over) end) ≡ stage_at phase.Ended end
stage_over true (waits rest) = refl
stage_over false (waits rest) = refl
stage_over over closes = refl
stage_over over (faults status) = refl

rest_over : (over : Bool) (before after : List ℕ) (end : End) → (before ≡ rest_at end) ⊎ IsDropped over before end
    → (IsUnfinished before × (after ≡ [])) ⊎ (HasWhole before × (after ≡ before)) → (after ≡ rest_at end) ⊎ IsDropped true after end
rest_over over before after (waits rest) (inl r) (inl u) = inr (refl, u.1, subst IsUnfinished r u.0)
rest_over over before after (waits rest) (inr d) (inl u) = inr (refl, u.1, d.2)
rest_over over before after closes r (inl u) = inl u.1
rest_over over before after (faults status) r (inl u) = inl u.1
rest_over over before after end (inl r) (inr w) = inl (w.1 ∙ r)
rest_over over before after end (inr d) (inr w) = inr (refl, w.1 ∙ d.1, d.2)

keeps_over : (c x y : Connection) (bytes : List ℕ) (done : List AnsweredMessage) (taken : ℕ) (whole over : Bool) → Keeps c x bytes done taken whole over → IsEnded x y
    → Keeps c y bytes done taken whole true
keeps_over c x y bytes done taken whole over k e = record {
  end = k.end;
  performed = k.performed;
  same = ap (λ (d : Connection). d.number) e.others ∙ k.same;
  output = ap (λ (d : Connection). d.output) e.others ∙ k.output;
  within = k.within;
  stage = ap (λ (d : Connection). d.stage) e.others ∙ ap stage_ended k.stage ∙ stage_over over k.end;
  rest = rest_over over x.rest y.rest k.end k.rest e.rest;
}

-- ---- what calls are to a connection, one call more

before_cons : (p : FrontCall → Bool) (x : FrontCall) (calls : List FrontCall) → before_first p (x ∷ calls) ≡ cond (p x) [] (x ∷ before_first p calls)
before_cons p x calls = by_test (p x) refl
  where
    more : (n : ℕ) → take (1 + n) (x ∷ calls) ≡ x ∷ take n calls
    more n = let next : 1 + n ≡ suc n = omega arith in ap (λ (k : ℕ). take k (x ∷ calls)) next

    by_test : (b : Bool) → p x ≡ b → before_first p (x ∷ calls) ≡ cond b [] (x ∷ before_first p calls)
    by_test true here = ap (λ (b : Bool). take (cond (not b) (1 + prefix_len (λ c. not (p c)) calls) 0) (x ∷ calls)) here
    by_test false there = ap (λ (b : Bool). take (cond (not b) (1 + prefix_len (λ c. not (p c)) calls) 0) (x ∷ calls)) there ∙ more (prefix_len (λ c. not (p c)) calls)

no_bytes : (number : ℕ) (x : FrontCall) → is_over number x ≡ true → bytes_of_call number x ≡ []
no_bytes number (Came p) over = absurd (false≢true over)
no_bytes number (Taken other count) over = refl
no_bytes number (Over other) over = refl
no_bytes number (Forgotten other) over = refl
no_bytes number Opened over = refl

bytes_first : (number : ℕ) (x : FrontCall) (b : Bool) → is_over number x ≡ b → flat_map (bytes_of_call number) (cond b [] (x ∷ [])) ≡ bytes_of_call number x
bytes_first number x true here = sym (no_bytes number x here)
bytes_first number x false there = append-nil (bytes_of_call number x)

-- the calls before the end, and a test whether it came
abbrev bytes_before : ℕ → List FrontCall → FrontCall → Bool → List ℕ
bytes_before number calls x over = flat_map (bytes_of_call number) calls ++ cond over [] (bytes_of_call number x)

bytes_next : (number : ℕ) (y x : FrontCall) (calls : List FrontCall) (b : Bool) → is_over number y ≡ b
    → flat_map (bytes_of_call number) (before_first (is_over number) (calls ++ x ∷ [])) ≡ bytes_before number (before_first (is_over number) calls) x (list_any (is_over number) calls)
    → flat_map (bytes_of_call number) (cond b [] (y ∷ before_first (is_over number) (calls ++ x ∷ [])))
    ≡ bytes_before number (cond b [] (y ∷ before_first (is_over number) calls)) x (b || list_any (is_over number) calls)
bytes_next number y x calls true here e = refl
bytes_next number y x calls false there e =
    ap (λ (xs : List ℕ). bytes_of_call number y ++ xs) e
    ∙ sym (append_assoc (bytes_of_call number y) (flat_map (bytes_of_call number) (before_first (is_over number) calls)) (cond (list_any (is_over number) calls) [] (bytes_of_call number x)))

bytes_more : (number : ℕ) (calls : List FrontCall) (x : FrontCall)
    → bytes_of_calls number (calls ++ x ∷ []) ≡ bytes_of_calls number calls ++ cond (list_any (is_over number) calls) [] (bytes_of_call number x)
unfolding bytes_of_calls
bytes_more number [] x = ap (flat_map (bytes_of_call number)) (before_cons (is_over number) x []) ∙ bytes_first number x (is_over number x) refl
bytes_more number (y ∷ calls) x =
    ap (flat_map (bytes_of_call number)) (before_cons (is_over number) y (calls ++ x ∷ [])) ∙ bytes_next number y x calls (is_over number y) refl (bytes_more number calls x)
    ∙ ap (λ (cs : List FrontCall). bytes_before number cs x (is_over number y || list_any (is_over number) calls)) (sym (before_cons (is_over number) y calls))

served_more : (outcomes : List CallOutcome) (d : CallOutcome) → all_served (outcomes ++ d ∷ []) ≡ all_served outcomes ++ served_by d.call d.done
unfolding all_served
served_more outcomes d =
    flat_map-append (λ (e : CallOutcome). served_by e.call e.done) outcomes (d ∷ [])
    ∙ ap (λ (xs : List Served). flat_map (λ (e : CallOutcome). served_by e.call e.done) outcomes ++ xs) (append-nil (served_by d.call d.done))

pub done_join : (number : ℕ) (a b : List Served) → done_on number (a ++ b) ≡ done_on number a ++ done_on number b
unfolding done_on
done_join number a b =
    ap (map (λ (s : Served). s.done)) (filter-append (served_on number) a b) ∙ map-append (λ (s : Served). s.done) (filter (served_on number) a) (filter (served_on number) b)

taken_more : (number : ℕ) (calls : List FrontCall) (x : FrontCall) → sum_by (taken_count number) (calls ++ x ∷ []) ≡ sum_by (taken_count number) calls + taken_count number x
taken_more number calls x =
    let none : sum_by (taken_count number) [] ≡ 0 = refl in
    omega (arith, sum_by-append (taken_count number) calls (x ∷ []), sum_by-cons (taken_count number) x [], none)

or_false : (b : Bool) → (b || false) ≡ b
or_false true = refl
or_false false = refl

any_more : (p : FrontCall → Bool) (calls : List FrontCall) (x : FrontCall) → list_any p (calls ++ x ∷ []) ≡ (list_any p calls || p x)
any_more p calls x = list_any-append p calls (x ∷ []) ∙ ap (λ (b : Bool). list_any p calls || b) (or_false (p x))

whole_more : (number : ℕ) (calls : List FrontCall) (x : FrontCall)
    → is_whole_call (find (comes_on number) (reverse (calls ++ x ∷ []))) ≡ cond (comes_on number x) (is_whole_call (Some x)) (is_whole_call (find (comes_on number) (reverse calls)))
whole_more number calls x = ap (λ (cs : List FrontCall). is_whole_call (find (comes_on number) cs)) (reverse-append calls (x ∷ [])) ∙ by_test (comes_on number x)
  where
    by_test : (b : Bool) → is_whole_call (cond b (Some x) (find (comes_on number) (reverse calls))) ≡ cond b (is_whole_call (Some x)) (is_whole_call (find (comes_on number) (reverse calls)))
    by_test true = refl
    by_test false = refl

-- what one call more makes of it
piece_seen : Bool → Seen → Piece → List AnsweredMessage → Seen
piece_seen true s p done = record { bytes = s.bytes ++ cond s.over [] p.bytes; done = s.done ++ done; taken = s.taken; whole = p.whole; over = s.over; forgotten = s.forgotten }
piece_seen false s p done = s

taken_seen : Bool → Seen → ℕ → Seen
taken_seen true s count = record { bytes = s.bytes; done = s.done; taken = s.taken + count; whole = s.whole; over = s.over; forgotten = s.forgotten }
taken_seen false s count = s

over_seen : Bool → Seen → Seen
over_seen true s = record { bytes = s.bytes; done = s.done; taken = s.taken; whole = s.whole; over = true; forgotten = s.forgotten }
over_seen false s = s

forgotten_seen : Bool → Seen → Seen
forgotten_seen true s = record { bytes = s.bytes; done = s.done; taken = s.taken; whole = s.whole; over = s.over; forgotten = true }
forgotten_seen false s = s

seen_more : ℕ → Seen → FrontCall → List AnsweredMessage → Seen
seen_more number s (Came p) done = piece_seen (p.number == number) s p done
seen_more number s (Taken other count) done = taken_seen (other == number) s count
seen_more number s (Over other) done = over_seen (other == number) s
seen_more number s (Forgotten other) done = forgotten_seen (other == number) s
seen_more number s Opened done = s

-- what some calls were to a connection, part by part
seen_with : Seen → List ℕ → List AnsweredMessage → ℕ → Bool → Bool → Bool → Seen
seen_with s bytes done count whole over forgotten = record {
  bytes = s.bytes ++ cond s.over [] bytes;
  done = s.done ++ done;
  taken = s.taken + count;
  whole = whole;
  over = s.over || over;
  forgotten = s.forgotten || forgotten;
}

or_true : (b : Bool) → (b || true) ≡ true
or_true true = refl
or_true false = refl

either : (b : Bool) (xs : List ℕ) → cond b xs xs ≡ xs
either true xs = refl
either false xs = refl

bytes_still : (s : Seen) → s.bytes ++ cond s.over [] [] ≡ s.bytes
bytes_still s = ap (λ (xs : List ℕ). s.bytes ++ xs) (either s.over []) ∙ append-nil s.bytes

count_still : (n : ℕ) → n + 0 ≡ n
count_still n = omega arith

with_piece : (b : Bool) (s : Seen) (p : Piece) (done now : List AnsweredMessage) → now ≡ cond b done [] → seen_with s (cond b p.bytes []) now 0 (cond b p.whole s.whole) false false ≡ piece_seen b s p done
unfolding seen_with piece_seen
with_piece true s p done now e = λ i. record {
  bytes = s.bytes ++ cond s.over [] p.bytes;
  done = s.done ++ e i;
  taken = count_still s.taken i;
  whole = p.whole;
  over = or_false s.over i;
  forgotten = or_false s.forgotten i;
}
with_piece false s p done now e = λ i. record {
  bytes = bytes_still s i;
  done = (ap (λ (ds : List AnsweredMessage). s.done ++ ds) e ∙ append-nil s.done) i;
  taken = count_still s.taken i;
  whole = s.whole;
  over = or_false s.over i;
  forgotten = or_false s.forgotten i;
}

with_taken : (b : Bool) (s : Seen) (count : ℕ) → seen_with s [] [] (cond b count 0) s.whole false false ≡ taken_seen b s count
unfolding seen_with taken_seen
with_taken true s count = λ i. record {
  bytes = bytes_still s i;
  done = append-nil s.done i;
  taken = s.taken + count;
  whole = s.whole;
  over = or_false s.over i;
  forgotten = or_false s.forgotten i;
}
with_taken false s count = λ i. record {
  bytes = bytes_still s i;
  done = append-nil s.done i;
  taken = count_still s.taken i;
  whole = s.whole;
  over = or_false s.over i;
  forgotten = or_false s.forgotten i;
}

with_over : (b : Bool) (s : Seen) → seen_with s [] [] 0 s.whole b false ≡ over_seen b s
unfolding seen_with over_seen
with_over true s = λ i. record {
  bytes = bytes_still s i;
  done = append-nil s.done i;
  taken = count_still s.taken i;
  whole = s.whole;
  over = or_true s.over i;
  forgotten = or_false s.forgotten i;
}
with_over false s = λ i. record {
  bytes = bytes_still s i;
  done = append-nil s.done i;
  taken = count_still s.taken i;
  whole = s.whole;
  over = or_false s.over i;
  forgotten = or_false s.forgotten i;
}

with_forgotten : (b : Bool) (s : Seen) → seen_with s [] [] 0 s.whole false b ≡ forgotten_seen b s
unfolding seen_with forgotten_seen
with_forgotten true s = λ i. record {
  bytes = bytes_still s i;
  done = append-nil s.done i;
  taken = count_still s.taken i;
  whole = s.whole;
  over = or_false s.over i;
  forgotten = or_true s.forgotten i;
}
with_forgotten false s = λ i. record {
  bytes = bytes_still s i;
  done = append-nil s.done i;
  taken = count_still s.taken i;
  whole = s.whole;
  over = or_false s.over i;
  forgotten = or_false s.forgotten i;
}

pub done_here : (number : ℕ) (p : Piece) (done : List AnsweredMessage) → (p.number == number) ≡ true → done_on number (map (served_with p) done) ≡ done
unfolding done_on
done_here number p [] e = refl
done_here number p (d ∷ done) e =
    ap (map (λ (s : Served). s.done)) (cond-true (p.number == number) (served_with p d ∷ filter (served_on number) (map (served_with p) done)) (filter (served_on number) (map (served_with p) done)) e)
    ∙ ap (λ (ds : List AnsweredMessage). d ∷ ds) (done_here number p done e)

pub done_away : (number : ℕ) (p : Piece) (done : List AnsweredMessage) → (p.number == number) ≡ false → done_on number (map (served_with p) done) ≡ []
unfolding done_on
done_away number p [] e = refl
done_away number p (d ∷ done) e =
    ap (map (λ (s : Served). s.done)) (cond-false (p.number == number) (served_with p d ∷ filter (served_on number) (map (served_with p) done)) (filter (served_on number) (map (served_with p) done)) e)
    ∙ done_away number p done e

done_with : (number : ℕ) (p : Piece) (done : List AnsweredMessage) → done_on number (map (served_with p) done) ≡ cond (p.number == number) done []
done_with number p done = elim (cases_Bool (p.number == number)) [
  | inl here ↦ done_here number p done here ∙ sym (cond-true (p.number == number) done [] here)
  | inr away ↦ done_away number p done away ∙ sym (cond-false (p.number == number) done [] away)
]

seen_parts : (number : ℕ) (s : Seen) (x : FrontCall) (done : List AnsweredMessage)
    → seen_with s (bytes_of_call number x) (done_on number (served_by x done)) (taken_count number x) (cond (comes_on number x) (is_whole_call (Some x)) s.whole) (is_over number x) (is_forgotten number x)
    ≡ seen_more number s x done
unfolding seen_more over_seen done_on
seen_parts number s (Came p) done = with_piece (p.number == number) s p done (done_on number (map (served_with p) done)) (done_with number p done)
seen_parts number s (Taken other count) done = with_taken (other == number) s count
seen_parts number s (Over other) done = with_over (other == number) s
seen_parts number s (Forgotten other) done = with_forgotten (other == number) s
seen_parts number s Opened done = with_over false s

seen_step : (number : ℕ) (outcomes : List CallOutcome) (d : CallOutcome) → seen number (outcomes ++ d ∷ []) ≡ seen_more number (seen number outcomes) d.call d.done
unfolding seen seen_with
seen_step number outcomes d =
    let calls = map (λ (e : CallOutcome). e.call) outcomes in
    let all : map (λ (e : CallOutcome). e.call) (outcomes ++ d ∷ []) ≡ calls ++ d.call ∷ [] = map-append (λ (e : CallOutcome). e.call) outcomes (d ∷ []) in
    let bytes = ap (bytes_of_calls number) all ∙ bytes_more number calls d.call in
    let done = ap (done_on number) (served_more outcomes d) ∙ done_join number (all_served outcomes) (served_by d.call d.done) in
    let count = ap (sum_by (taken_count number)) all ∙ taken_more number calls d.call in
    let whole = ap (λ (cs : List FrontCall). is_whole_call (find (comes_on number) (reverse cs))) all ∙ whole_more number calls d.call in
    let over = ap (list_any (is_over number)) all ∙ any_more (is_over number) calls d.call in
    let forgotten = ap (list_any (is_forgotten number)) all ∙ any_more (is_forgotten number) calls d.call in
    (λ i. record { bytes = bytes i; done = done i; taken = count i; whole = whole i; over = over i; forgotten = forgotten i })
    ∙ seen_parts number (seen number outcomes) d.call d.done

-- before the first call
nothing_seen : Seen
nothing_seen = record { bytes = []; done = []; taken = 0; whole = true; over = false; forgotten = false }

seen_none : (number : ℕ) → seen number [] ≡ nothing_seen
unfolding seen bytes_of_calls done_on all_served nothing_seen
seen_none number = refl

-- ---- where a connection stands

KeepsSeen : Connection → Connection → Seen → Type 0
KeepsSeen c y s = Keeps c y s.bytes s.done s.taken s.whole s.over

-- it is still to be opened
record Later (number : ℕ) (c : Connection) (now : Option Connection) (last : ℕ) (s : Seen) : Type 0 where
  none : now ≡ None
  above : last < number
  first : c ≡ fresh number
  nothing : s ≡ nothing_seen

-- it is open
record Open (number : ℕ) (c : Connection) (now : Option Connection) (last : ℕ) (s : Seen) : Type 0 where
  here : Connection
  stands : now ≡ Some here
  keeps : KeepsSeen c here s
  stays : s.forgotten ≡ false
  given : number ≤ last

-- it was forgotten
record Gone (number : ℕ) (c : Connection) (now : Option Connection) (last : ℕ) (s : Seen) : Type 0 where
  none : now ≡ None
  messages : AreMessages c s
  gone : s.forgotten ≡ true
  given : number ≤ last

Stand : ℕ → Connection → Option Connection → ℕ → Seen → Type 0
Stand number c now last s = Later number c now last s ⊎ (Open number c now last s ⊎ Gone number c now last s)

stand_same : (number : ℕ) (c : Connection) (now next : Option Connection) (last : ℕ) (s : Seen) → next ≡ now → Stand number c now last s → Stand number c next last s
stand_same number c now next last s e st = subst (λ (o : Option Connection). Stand number c o last s) (sym e) st

-- one of its number is there
stands_open : (number : ℕ) (c x : Connection) (now : Option Connection) (last : ℕ) (s : Seen) → now ≡ Some x → Stand number c now last s
    → (KeepsSeen c x s) × (s.forgotten ≡ false) × (number ≤ last)
unfolding Stand KeepsSeen
stands_open number c x now last s e (inl later) = absurd (none_some x (sym later.none ∙ e))
stands_open number c x now last s e (inr (inl open_)) =
    (subst (λ (d : Connection). KeepsSeen c d s) (some_same open_.here x (sym open_.stands ∙ e)) open_.keeps, open_.stays, open_.given)
stands_open number c x now last s e (inr (inr gone)) = absurd (none_some x (sym gone.none ∙ e))

messages_at : (number : ℕ) (c : Connection) (now : Option Connection) (last : ℕ) (s : Seen) → Stand number c now last s → AreMessages c s
unfolding Stand KeepsSeen nothing_seen
messages_at number c now last s (inl later) =
    subst (λ (t : Seen). AreMessages c t) (sym later.nothing)
    (subst (λ (d : Connection). AreMessages d nothing_seen) (sym later.first) (record { end = waits []; performed = (refl, none_unfinished) }))
messages_at number c now last s (inr (inl open_)) = record { end = open_.keeps.end; performed = open_.keeps.performed }
messages_at number c now last s (inr (inr gone)) = gone.messages

left_rest : (y : Connection) (over : Bool) (end : End) → (y.rest ≡ rest_at end) ⊎ IsDropped over y.rest end → over ≡ false → y.rest ≡ rest_at end
left_rest y over end (inl r) e = r
left_rest y over end (inr d) e = absurd (false≢true (sym e ∙ d.0))

own_at : (number : ℕ) (c : Connection) (now : Option Connection) (last : ℕ) (s : Seen) → number ≤ last → Stand number c now last s → IsOwn c s now
unfolding Stand KeepsSeen
own_at number c now last s given (inl later) = absurd (omega (arith, given, later.above))
own_at number c now last s given (inr (inl open_)) =
    let k = open_.keeps in record {
      messages = record { end = k.end; performed = k.performed };
      forgotten = λ e. absurd (false≢true (sym open_.stays ∙ e));
      left = λ e. (open_.here, open_.stands, record { same = k.same; output = k.output; stage = k.stage; rest = left_rest open_.here s.over k.end k.rest });
    }
own_at number c now last s given (inr (inr gone)) = record {
  messages = gone.messages;
  forgotten = λ e. gone.none;
  left = λ e. absurd (false≢true (sym e ∙ gone.gone));
}

-- ---- one call

-- a piece was taken in, and with it those messages were performed
record TakesIn {H : Type 0} (step : Steps H) (p : Piece) (old mid : State H) : Type 0 where
  done : List AnsweredMessage
  run : Run step p.moment old.handler done mid.handler
  before : Connection
  stands : connection_numbered p.number old.connections ≡ Some before
  after : Connection
  end : End
  performed : ArePerformed p.whole (bytes_with before p.bytes) (messages_of done) end
  is : after ≡ after_piece before p.bytes done end
  others : mid.connections ≡ with_connection after old.connections
  last : mid.last ≡ old.last

takes_in : {H : Type 0} (step : Steps H) (number : ℕ) (moment : ℤ) (bytes : List ℕ) (whole : Bool) (old mid : State H)
    → IsCall step (Came (record { number = number; moment = moment; bytes = bytes; whole = whole })) old mid
    → TakesIn step (record { number = number; moment = moment; bytes = bytes; whole = whole }) old mid
takes_in {H} step number moment bytes true old mid e =
    let t = e.changed in
    let comp = t.2 in record {
      done = comp.done;
      run = comp.run;
      before = e.before;
      stands = e.stands;
      after = e.after;
      end = t.0;
      performed = comp.stream;
      is = t.3 ∙ ap (connection_at (record e.before { rest = bytes_with e.before bytes }) t.0) comp.told;
      others = ap (λ (s : State H). s.connections) e.others;
      last = ap (λ (s : State H). s.last) e.others;
    }
takes_in {H} step number moment bytes false old mid e =
    let t = e.changed in
    let part = t.2 in record {
      done = part.done;
      run = part.run;
      before = e.before;
      stands = e.stands;
      after = e.after;
      end = waits t.0;
      performed = (part.splits, t.3);
      is = t.4 ∙ ap (connection_at (record e.before { rest = bytes_with e.before bytes }) (waits t.0)) (part.told ∙ sym (append-nil (answers_of part.done)));
      others = ap (λ (s : State H). s.connections) e.others;
      last = ap (λ (s : State H). s.last) e.others;
    }

-- what a call is to the handler and to each connection
record Does {H : Type 0} (step : Steps H) (call : FrontCall) (old mid : State H) : Type 0 where
  done : List AnsweredMessage
  run : Serves step old.handler (served_by call done) mid.handler
  rises : old.last ≤ mid.last
  stands : (number : ℕ) (c : Connection) (s : Seen) → Stand number c (connection_numbered number old.connections) old.last s
      → Stand number c (connection_numbered number mid.connections) mid.last (seen_more number s call done)

pub serves_run : {H : Type 0} (step : Steps H) (p : Piece) (old mid : H) (done : List AnsweredMessage) → Run step p.moment old done mid → Serves step old (map (served_with p) done) mid
serves_run step p old mid [] r = r
serves_run step p old mid (d ∷ done) r = (r.0, r.1, serves_run step p r.0 mid done r.2)

-- the connection of the number is replaced
put_back : (number : ℕ) (connections others : List Connection) (x y : Connection) → connection_numbered number connections ≡ Some x → y.number ≡ x.number
    → others ≡ with_connection y connections → connection_numbered number others ≡ Some y
put_back number connections others x y stands same e =
    ap (connection_numbered number) e ∙ numbered_same number connections x y (same ∙ number_found number connections x stands) stands

-- and those of other numbers are not
put_away : (number other : ℕ) (connections others : List Connection) (x y : Connection) → connection_numbered number connections ≡ Some x → y.number ≡ x.number
    → others ≡ with_connection y connections → (number == other) ≡ false → connection_numbered other others ≡ connection_numbered other connections
put_away number other connections others x y stands same e away =
    ap (connection_numbered other) e ∙ numbered_other other connections y (not_numbered number other y (same ∙ number_found number connections x stands) away)

-- the number of a call is that of the connection
at_number : (number other : ℕ) (connections : List Connection) (x : Connection) → (other == number) ≡ true → connection_numbered other connections ≡ Some x
    → connection_numbered number connections ≡ Some x
at_number number other connections x here stands = ap (λ (k : ℕ). connection_numbered k connections) (sym (eqb-true other number here)) ∙ stands

-- the connection of that number is open, and is another then
stand_changed : (number other : ℕ) (c x y : Connection) (connections others : List Connection) (last : ℕ) (s t : Seen) → connection_numbered other connections ≡ Some x → y.number ≡ x.number
    → others ≡ with_connection y connections → (other == number) ≡ true → t.forgotten ≡ s.forgotten → (KeepsSeen c x s → KeepsSeen c y t)
    → Stand number c (connection_numbered number connections) last s → Stand number c (connection_numbered number others) last t
unfolding Stand
stand_changed number other c x y connections others last s t stands same e here stays keeps st =
    let mine = at_number number other connections x here stands in
    let o = stands_open number c x (connection_numbered number connections) last s mine st in
    inr (inl (record { here = y; stands = put_back number connections others x y mine same e; keeps = keeps o.0; stays = stays ∙ o.1; given = o.2 }))

-- a call on another connection
unpieced : (number : ℕ) (c : Connection) (now : Option Connection) (last : ℕ) (s : Seen) (p : Piece) (done : List AnsweredMessage) → Stand number c now last s
    → Stand number c now last (piece_seen false s p done)
unfolding piece_seen
unpieced number c now last s p done st = st

untaken : (number : ℕ) (c : Connection) (now : Option Connection) (last : ℕ) (s : Seen) (count : ℕ) → Stand number c now last s → Stand number c now last (taken_seen false s count)
unfolding taken_seen
untaken number c now last s count st = st

unover : (number : ℕ) (c : Connection) (now : Option Connection) (last : ℕ) (s : Seen) → Stand number c now last s → Stand number c now last (over_seen false s)
unfolding over_seen
unover number c now last s st = st

unforgotten : (number : ℕ) (c : Connection) (now : Option Connection) (last : ℕ) (s : Seen) → Stand number c now last s → Stand number c now last (forgotten_seen false s)
unfolding forgotten_seen
unforgotten number c now last s st = st

opened_above : (last number : ℕ) → (last + 1 == number) ≡ false → last < number → last + 1 < number
opened_above last number away above = grind (arith, nat_tests, away, above)

piece_stays : (s : Seen) (p : Piece) (done : List AnsweredMessage) → (piece_seen true s p done).forgotten ≡ s.forgotten
unfolding piece_seen
piece_stays s p done = refl

piece_keeps : (c x y : Connection) (s : Seen) (p : Piece) (done : List AnsweredMessage) (end : End) → ArePerformed p.whole (bytes_with x p.bytes) (messages_of done) end
    → y ≡ after_piece x p.bytes done end → KeepsSeen c x s → KeepsSeen c y (piece_seen true s p done)
unfolding KeepsSeen piece_seen
piece_keeps c x y s p done end q f k =
    keeps_piece c x y s.bytes p.bytes s.done done s.taken s.whole p.whole s.over k.end end k.performed k.same k.output k.within k.stage k.rest q f

piece_stand : {H : Type 0} (step : Steps H) (p : Piece) (old mid : State H) (t : TakesIn step p old mid) (number : ℕ) (c : Connection) (s : Seen) (b : Bool) → (p.number == number) ≡ b
    → Stand number c (connection_numbered number old.connections) old.last s → Stand number c (connection_numbered number mid.connections) old.last (piece_seen b s p t.done)
piece_stand step p old mid t number c s true here st =
    stand_changed number p.number c t.before t.after old.connections mid.connections old.last s (piece_seen true s p t.done) t.stands (ap (λ (d : Connection). d.number) t.is) t.others here
    (piece_stays s p t.done) (piece_keeps c t.before t.after s p t.done t.end t.performed t.is) st
piece_stand step p old mid t number c s false away st =
    unpieced number c (connection_numbered number mid.connections) old.last s p t.done
    (stand_same number c (connection_numbered number old.connections) (connection_numbered number mid.connections) old.last s
    (put_away p.number number old.connections mid.connections t.before t.after t.stands (ap (λ (d : Connection). d.number) t.is) t.others away) st)

does_piece : {H : Type 0} (step : Steps H) (p : Piece) (old mid : State H) → TakesIn step p old mid → Does step (Came p) old mid
unfolding seen_more
does_piece step p old mid t = record {
  done = t.done;
  run = serves_run step p old.handler mid.handler t.done t.run;
  rises = omega (arith, t.last);
  stands = λ number c s st.
      subst (λ (n : ℕ). Stand number c (connection_numbered number mid.connections) n (piece_seen (p.number == number) s p t.done)) (sym t.last)
      (piece_stand step p old mid t number c s (p.number == number) refl st);
}

-- bytes are taken
taken_keeps : (c x y : Connection) (s : Seen) (count : ℕ) → count ≤ length x.output → y ≡ record x { output = drop count x.output } → KeepsSeen c x s
    → KeepsSeen c y (taken_seen true s count)
unfolding KeepsSeen taken_seen
taken_keeps c x y s count few f k = keeps_taken c x y s.bytes s.done s.taken count s.whole s.over k few f

taken_stays : (s : Seen) (count : ℕ) → (taken_seen true s count).forgotten ≡ s.forgotten
unfolding taken_seen
taken_stays s count = refl

output_of : (number count : ℕ) (x : Option Connection) (c : Connection) → x ≡ Some c → MatchOption x ⊥ (λ d. count ≤ length d.output) → count ≤ length c.output
output_of number count x c e h = subst (λ (o : Option Connection). MatchOption o ⊥ (λ d. count ≤ length d.output)) e h

taken_stand : {H : Type 0} (other count : ℕ) (old mid : State H) → HasOutput other count old.connections → (ch : IsChange other old mid (IsTaking count)) (number : ℕ) (c : Connection) (s : Seen)
    (b : Bool) → (other == number) ≡ b → Stand number c (connection_numbered number old.connections) old.last s
    → Stand number c (connection_numbered number mid.connections) old.last (taken_seen b s count)
taken_stand other count old mid has ch number c s true here st =
    stand_changed number other c ch.before ch.after old.connections mid.connections old.last s (taken_seen true s count) ch.stands (ap (λ (d : Connection). d.number) ch.changed)
    (ap (λ t. t.connections) ch.others) here (taken_stays s count)
    (taken_keeps c ch.before ch.after s count (output_of other count (connection_numbered other old.connections) ch.before ch.stands has) ch.changed) st
taken_stand other count old mid has ch number c s false away st =
    untaken number c (connection_numbered number mid.connections) old.last s count
    (stand_same number c (connection_numbered number old.connections) (connection_numbered number mid.connections) old.last s
    (put_away other number old.connections mid.connections ch.before ch.after ch.stands (ap (λ (d : Connection). d.number) ch.changed) (ap (λ t. t.connections) ch.others) away) st)

does_taken : {H : Type 0} (step : Steps H) (other count : ℕ) (old mid : State H) → IsCall step (Taken other count) old mid → Does step (Taken other count) old mid
unfolding seen_more
does_taken step other count old mid e =
    let last : mid.last ≡ old.last = ap (λ t. t.last) e.1.others in record {
      done = [];
      run = e.2;
      rises = omega (arith, last);
      stands = λ number c s st.
          subst (λ (n : ℕ). Stand number c (connection_numbered number mid.connections) n (taken_seen (other == number) s count)) (sym last)
          (taken_stand other count old mid e.0 e.1 number c s (other == number) refl st);
    }

-- no more bytes come
over_keeps : (c x y : Connection) (s : Seen) → IsEnded x y → KeepsSeen c x s → KeepsSeen c y (over_seen true s)
unfolding KeepsSeen over_seen
over_keeps c x y s e k = keeps_over c x y s.bytes s.done s.taken s.whole s.over k e

over_stays : (s : Seen) → (over_seen true s).forgotten ≡ s.forgotten
unfolding over_seen
over_stays s = refl

over_stand : {H : Type 0} (other : ℕ) (old mid : State H) (ch : IsChange other old mid IsEnded) (number : ℕ) (c : Connection) (s : Seen)
    (b : Bool) → (other == number) ≡ b → Stand number c (connection_numbered number old.connections) old.last s
    → Stand number c (connection_numbered number mid.connections) old.last (over_seen b s)
over_stand other old mid ch number c s true here st =
    stand_changed number other c ch.before ch.after old.connections mid.connections old.last s (over_seen true s) ch.stands (ap (λ (d : Connection). d.number) ch.changed.others)
    (ap (λ t. t.connections) ch.others) here (over_stays s) (over_keeps c ch.before ch.after s ch.changed) st
over_stand other old mid ch number c s false away st =
    unover number c (connection_numbered number mid.connections) old.last s
    (stand_same number c (connection_numbered number old.connections) (connection_numbered number mid.connections) old.last s
    (put_away other number old.connections mid.connections ch.before ch.after ch.stands (ap (λ (d : Connection). d.number) ch.changed.others) (ap (λ t. t.connections) ch.others) away) st)

does_over : {H : Type 0} (step : Steps H) (other : ℕ) (old mid : State H) → IsCall step (Over other) old mid → Does step (Over other) old mid
unfolding seen_more
does_over step other old mid e =
    let last : mid.last ≡ old.last = ap (λ t. t.last) e.0.others in record {
      done = [];
      run = e.1;
      rises = omega (arith, last);
      stands = λ number c s st.
          subst (λ (n : ℕ). Stand number c (connection_numbered number mid.connections) n (over_seen (other == number) s)) (sym last)
          (over_stand other old mid e.0 number c s (other == number) refl st);
    }

-- a connection is forgotten
gone_stand : (number : ℕ) (c : Connection) (now next : Option Connection) (last : ℕ) (s : Seen) → (d : Connection) → now ≡ Some d → next ≡ None
    → Stand number c now last s → Stand number c next last (forgotten_seen true s)
unfolding Stand KeepsSeen forgotten_seen
gone_stand number c now next last s d e none st =
    let o = stands_open number c d now last s e st in
    inr (inr (record { none = none; messages = record { end = o.0.end; performed = o.0.performed }; gone = refl; given = o.2 }))

some_there : (x : Option Connection) → IsSome x → (d : Connection) × (x ≡ Some d)
some_there None h = absurd (false≢true h)
some_there (Some d) h = (d, refl)

forgotten_stand : {H : Type 0} (other : ℕ) (old mid : State H) → IsSome (connection_numbered other old.connections) → mid.connections ≡ without_connection other old.connections
    → (number : ℕ) (c : Connection) (s : Seen) (b : Bool) → (other == number) ≡ b → Stand number c (connection_numbered number old.connections) old.last s
    → Stand number c (connection_numbered number mid.connections) old.last (forgotten_seen b s)
forgotten_stand other old mid some e number c s true here st =
    let there = some_there (connection_numbered other old.connections) some in
    gone_stand number c (connection_numbered number old.connections) (connection_numbered number mid.connections) old.last s there.0
    (at_number number other old.connections there.0 here there.1)
    (ap (connection_numbered number) e ∙ ap (λ (k : ℕ). connection_numbered number (without_connection k old.connections)) (eqb-true other number here) ∙ without_own number old.connections) st
forgotten_stand other old mid some e number c s false away st =
    unforgotten number c (connection_numbered number mid.connections) old.last s
    (stand_same number c (connection_numbered number old.connections) (connection_numbered number mid.connections) old.last s
    (ap (connection_numbered number) e ∙ without_other other number old.connections away) st)

does_forgotten : {H : Type 0} (step : Steps H) (other : ℕ) (old mid : State H) → IsCall step (Forgotten other) old mid → Does step (Forgotten other) old mid
unfolding seen_more
does_forgotten step other old mid e =
    let last : mid.last ≡ old.last = ap (λ t. t.last) e.1 in record {
      done = [];
      run = ap (λ t. t.handler) e.1;
      rises = omega (arith, last);
      stands = λ number c s st.
          subst (λ (n : ℕ). Stand number c (connection_numbered number mid.connections) n (forgotten_seen (other == number) s)) (sym last)
          (forgotten_stand other old mid e.0 (ap (λ t. t.connections) e.1) number c s (other == number) refl st);
    }

-- one is opened
keeps_fresh : (number : ℕ) → KeepsSeen (fresh number) (fresh number) nothing_seen
unfolding KeepsSeen nothing_seen answers_of
keeps_fresh number = record { end = waits []; performed = (refl, none_unfinished); same = refl; output = refl; within = omega arith; stage = refl; rest = inl refl }

opened_new : (number : ℕ) (c : Connection) (connections : List Connection) (last : ℕ) (s : Seen) → last + 1 ≡ number → Stand number c (connection_numbered number connections) last s
    → Stand number c (connection_numbered number (connections ++ fresh number ∷ [])) (last + 1) s
unfolding Stand nothing_seen
opened_new number c connections last s e (inl later) =
    subst (λ (t : Seen). Stand number c (connection_numbered number (connections ++ fresh number ∷ [])) (last + 1) t) (sym later.nothing)
    (subst (λ (d : Connection). Stand number d (connection_numbered number (connections ++ fresh number ∷ [])) (last + 1) nothing_seen) (sym later.first)
    (inr (inl (record { here = fresh number; stands = opened_own number connections later.none; keeps = keeps_fresh number; stays = refl; given = omega (arith, e) }))))
opened_new number c connections last s e (inr (inl open_)) = absurd (omega (arith, e, open_.given))
opened_new number c connections last s e (inr (inr gone)) = absurd (omega (arith, e, gone.given))

opened_old : (number : ℕ) (c : Connection) (connections : List Connection) (last : ℕ) (s : Seen) → (last + 1 == number) ≡ false → Stand number c (connection_numbered number connections) last s
    → Stand number c (connection_numbered number (connections ++ fresh (last + 1) ∷ [])) (last + 1) s
unfolding Stand
opened_old number c connections last s away (inl later) = inl (record {
  none = opened_other (last + 1) number connections away ∙ later.none;
  above = opened_above last number away later.above;
  first = later.first;
  nothing = later.nothing;
})
opened_old number c connections last s away (inr (inl open_)) = inr (inl (record {
  here = open_.here;
  stands = opened_other (last + 1) number connections away ∙ open_.stands;
  keeps = open_.keeps;
  stays = open_.stays;
  given = omega (arith, open_.given);
}))
opened_old number c connections last s away (inr (inr gone)) = inr (inr (record {
  none = opened_other (last + 1) number connections away ∙ gone.none;
  messages = gone.messages;
  gone = gone.gone;
  given = omega (arith, gone.given);
}))

opened_stand : (number : ℕ) (c : Connection) (connections : List Connection) (last : ℕ) (s : Seen) → Stand number c (connection_numbered number connections) last s
    → Stand number c (connection_numbered number (connections ++ fresh (last + 1) ∷ [])) (last + 1) s
opened_stand number c connections last s st = elim (cases_Bool (last + 1 == number)) [
  | inl here ↦
      let e = eqb-true (last + 1) number here in
      subst (λ (n : ℕ). Stand number c (connection_numbered number (connections ++ fresh n ∷ [])) (last + 1) s) (sym e) (opened_new number c connections last s e st)
  | inr away ↦ opened_old number c connections last s away st
]

does_opened : {H : Type 0} (step : Steps H) (old mid : State H) → IsCall step Opened old mid → Does step Opened old mid
unfolding seen_more
does_opened {H} step old mid e =
    let is = e.1.3 in record {
      done = [];
      run = ap (λ t. t.handler) is;
      rises = omega (arith, ap (λ t. t.last) is);
      stands = λ number c s st.
          subst (λ (t : State H). Stand number c (connection_numbered number t.connections) t.last s) (sym is) (opened_stand number c old.connections old.last s st);
    }

does : {H : Type 0} (step : Steps H) (call : FrontCall) (old mid : State H) → IsCall step call old mid → Does step call old mid
does step (Came p) old mid e = does_piece step p old mid (takes_in step p.number p.moment p.bytes p.whole old mid e)
does step (Taken number count) old mid e = does_taken step number count old mid e
does step (Over number) old mid e = does_over step number old mid e
does step (Forgotten number) old mid e = does_forgotten step number old mid e
does step Opened old mid e = does_opened step old mid e

-- ---- all calls

pub serves_join : {H : Type 0} (step : Steps H) (old mid new : H) (first others : List Served) → Serves step old first mid → Serves step mid others new → Serves step old (first ++ others) new
serves_join {H} step old mid new [] others a b = subst (λ (h : H). Serves step h others new) a b
serves_join step old mid new (s ∷ first) others a b = (a.0, a.1, serves_join step a.0 mid new first others a.2 b)

-- what comes of the calls that are left, behind those that came
record Onward {H : Type 0} (step : Steps H) (first : H) (front : List CallOutcome) (old new : State H) (calls : List FrontCall) : Type 0 where
  each : List CallOutcome
  calls_are : calls_of each ≡ calls
  run : Serves step first (all_served (front ++ each)) new.handler
  rises : old.last ≤ new.last
  stands : (number : ℕ) (c : Connection) → Stand number c (connection_numbered number old.connections) old.last (seen number front)
      → Stand number c (connection_numbered number new.connections) new.last (seen number (front ++ each))
  prompt : (count number : ℕ) (c : Connection) → Stand number c (connection_numbered number old.connections) old.last (seen number front) → AreMessages c (seen number (front ++ take count each))

messages_front : (number : ℕ) (c : Connection) (now : Option Connection) (last : ℕ) (front : List CallOutcome) → Stand number c now last (seen number front) → AreMessages c (seen number (front ++ []))
messages_front number c now last front st =
    subst (λ (ds : List CallOutcome). AreMessages c (seen number ds)) (sym (append-nil front)) (messages_at number c now last (seen number front) st)

onward_none : {H : Type 0} (step : Steps H) (first : H) (front : List CallOutcome) (old new : State H) → Serves step first (all_served front) old.handler → new ≡ old → Onward step first front old new []
onward_none {H} step first front old new run e = record {
  each = [];
  calls_are = refl;
  run = subst (λ (ds : List CallOutcome). Serves step first (all_served ds) new.handler) (sym (append-nil front)) (subst (λ (h : H). Serves step first (all_served front) h) (sym (ap (λ s. s.handler) e)) run);
  rises = omega (arith, ap (λ s. s.last) e);
  stands = λ number c st.
      subst (λ (ds : List CallOutcome). Stand number c (connection_numbered number new.connections) new.last (seen number ds)) (sym (append-nil front))
      (subst (λ (s : State H). Stand number c (connection_numbered number s.connections) s.last (seen number front)) (sym e) st);
  prompt = elim [
    | zero ↦ λ number c st. messages_front number c (connection_numbered number old.connections) old.last front st
    | suc count ↦ λ number c st. messages_front number c (connection_numbered number old.connections) old.last front st
  ];
}

onward_more : {H : Type 0} (step : Steps H) (first : H) (front : List CallOutcome) (old mid new : State H) (call : FrontCall) (calls : List FrontCall) (d : Does step call old mid)
    → Onward step first (front ++ record { call = call; done = d.done } ∷ []) mid new calls → Onward step first front old new (call ∷ calls)
onward_more {H} step first front old mid new call calls d o =
    let outcome : CallOutcome = record { call = call; done = d.done } in
    let next : (number : ℕ) (c : Connection) → Stand number c (connection_numbered number old.connections) old.last (seen number front)
    → Stand number c (connection_numbered number mid.connections) mid.last (seen number (front ++ outcome ∷ [])) = λ number c st.
    subst (Stand number c (connection_numbered number mid.connections) mid.last) (sym (seen_step number front outcome)) (d.stands number c (seen number front) st) in
    record {
      each = outcome ∷ o.each;
      calls_are = ap (λ (cs : List FrontCall). call ∷ cs) o.calls_are;
      run = subst (λ (ds : List CallOutcome). Serves step first (all_served ds) new.handler) (append_assoc front (outcome ∷ []) o.each) o.run;
      rises = omega (arith, d.rises, o.rises);
      stands = λ number c st.
          subst (λ (ds : List CallOutcome). Stand number c (connection_numbered number new.connections) new.last (seen number ds)) (append_assoc front (outcome ∷ []) o.each) (o.stands number c (next number c st));
      prompt = elim [
        | zero ↦ λ number c st. messages_front number c (connection_numbered number old.connections) old.last front st
        | suc count ↦ λ number c st.
            subst (λ (ds : List CallOutcome). AreMessages c (seen number ds)) (append_assoc front (outcome ∷ []) (take count o.each)) (o.prompt count number c (next number c st))
      ];
    }

onward : {H : Type 0} (step : Steps H) (first : H) (front : List CallOutcome) (old new : State H) (calls : List FrontCall) → Serves step first (all_served front) old.handler → Comes step old calls new
    → Onward step first front old new calls
onward step first front old new [] run e = onward_none step first front old new run e
onward step first front old new (call ∷ calls) run e =
    let d = does step call old e.0 e.1 in
    let outcome : CallOutcome = record { call = call; done = d.done } in
    let more = subst (λ (served : List Served). Serves step first served e.0.handler) (sym (served_more front outcome))
    (serves_join step first old.handler e.0.handler (all_served front) (served_by call d.done) run d.run) in
    onward_more step first front old e.0 new call calls d (onward step first (front ++ outcome ∷ []) e.0 new calls more e.2)

-- where a connection stands at first
keeps_first : (number : ℕ) (c : Connection) → c.stage ≡ phase.Reading → IsUnfinished c.rest → KeepsSeen c c nothing_seen
unfolding KeepsSeen nothing_seen answers_of
keeps_first number c reads unfinished = record {
  end = waits c.rest;
  performed = (append-nil c.rest, unfinished);
  same = refl;
  output = sym (append-nil c.output);
  within = omega arith;
  stage = reads;
  rest = inl refl;
}

first_stand : {H : Type 0} (number : ℕ) (c : Connection) (old new : State H) → IsReadingConnection number old c ⊎ IsToCome number old new c
    → Stand number c (connection_numbered number old.connections) old.last (seen number [])
unfolding Stand nothing_seen
first_stand number c old new (inl r) =
    subst (Stand number c (connection_numbered number old.connections) old.last) (sym (seen_none number))
    (inr (inl (record { here = c; stands = r.stands; keeps = keeps_first number c r.reads r.waits; stays = refl; given = r.given })))
first_stand number c old new (inr t) = inl (record { none = t.none; above = t.later; first = t.opened; nothing = seen_none number })

given_by : {H : Type 0} (number : ℕ) (c : Connection) (old new : State H) → old.last ≤ new.last → IsReadingConnection number old c ⊎ IsToCome number old new c → number ≤ new.last
given_by number c old new rises (inl r) = omega (arith, rises, r.given)
given_by number c old new rises (inr t) = t.given

none_served : {H : Type 0} (step : Steps H) (h : H) → Serves step h (all_served []) h
unfolding all_served
none_served step h = refl

pub come_served : {H : Type 0} (step : Steps H) (old new : State H) (calls : List FrontCall) → Comes step old calls new → AreServed step old new calls
come_served step old new calls e =
    let o = onward step old.handler [] old new calls (none_served step old.handler) e in record {
      each = o.each;
      calls_are = o.calls_are;
      run = o.run;
      own = λ number c begins.
          own_at number c (connection_numbered number new.connections) new.last (seen number o.each) (given_by number c old new o.rises begins)
          (o.stands number c (first_stand number c old new begins));
      prompt = λ count number c begins. o.prompt count number c (first_stand number c old new begins);
    }
