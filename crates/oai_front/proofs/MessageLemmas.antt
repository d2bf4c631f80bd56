-- Messages at the front of bytes, and those that were performed.
use Rattle.std.proofs.Common.{◌≡◌, ◌∙◌, inl, inr, ℕ, ℤ, ◌+◌, ◌-◌, ◌<◌, ◌≤◌, Bool, true, false, List, [], ◌∷◌, ◌++◌, append_assoc, length, take, drop, Option, Some, None, refl, sym, ap, subst, arith}
use Rattle.std.specs.List.{flat_map}
use Rattle.std.specs.Prelude.{IfSome}
use Rattle.std.proofs.lemmas.List.{append-nil, drop-drop, length-append, length-drop, length-take-le, take-append-drop}
use Rattle.std.proofs.lemmas.List.Concat.{flat_map-append}
use Rattle.httparse.proofs.GrammarLemmas.{request_unique}
use Rattle.oai_http.specs.declared.statuses.Status.{Status}
use Rattle.oai_http.specs.declared.exchanges.Answer.{Answer}
use Rattle.oai_front.specs.Heads.{answer_bytes, fault_bytes}
use Rattle.oai_http.specs.Exchanges.{Asked}
use Rattle.oai_front.specs.Messages.{Begins, End, HasNoHead, HasWhole, IsClosing, IsFault, IsUnfinished, MayBegin, Message, ReadsMessages, Splits, closes, faults, framing_in, waits}
use Rattle.oai_front.specs.Performing.{AnsweredMessage, Completes, Performs, Run, Steps, answers_of, done_bytes, end_bytes, messages_of}
use Rattle.oai_front.specs.RequestHeads.{IsHead}
use Rattle.oai_front.specs.Pipelining.{IsNext, IsRemainder, IsSoFar, WritesBehind, behind_message, left_at, message_behind}
use Rattle.oai_front.specs.declared.messages.Next.{Next}
use Rattle.oai_front.specs.declared.messages.Next.TheVariants as coming
use Rattle.oai_front.specs.declared.messages.Next.TheVariants.{Unfinished, Faulty}
use Rattle.oai_front.specs.declared.request_heads.Head.{Head}
use Rattle.oai_front.specs.declared.request_heads.TheConstants.{MAX_HEAD_BYTES}
use Rattle.oai_front.specs.declared.framings.Framing.{Framing}
use Rattle.oai_front.specs.declared.framings.Framing.TheVariants.{Body}
use Rattle.oai_front.specs.declared.framings.Framing.TheVariants as plan
use Rattle.oai_front.specs.declared.messages.Left.TheVariants.{Unanswered}
use Rattle.oai_front.proofs.HeadLemmas.{behind_is, head_has_bytes, start_within}

-- ---- what stands at the front

-- the size and the end that a plan tells
size_in : Framing → ℕ
size_in (Body size last) = size
size_in (plan.Refused status) = 0

last_in : Framing → Bool
last_in (Body size last) = last
last_in (plan.Refused status) = false

not_refused : (status : Status) (size : ℕ) (last : Bool) → plan.Refused status ≡ Body size last → ⊥
not_refused status size last e = cc

pub unfinished_without : (bytes : List ℕ) → HasNoHead bytes → length bytes < MAX_HEAD_BYTES → MayBegin bytes → IsUnfinished bytes
unfinished_without bytes none few begins = record {
  message = λ message after r. none r.head _ r.begins;
  fault = λ status r. none r.head r.behind r.begins;
  short = λ h. few;
  begins = λ h. begins;
}

pub unfinished_body : (bytes : List ℕ) (kept : Head) → IsHead bytes kept → length (drop kept.start bytes) < kept.size → IsUnfinished bytes
unfolding size_in
unfinished_body bytes kept h few = record {
  message = λ message after r.
      let same = request_unique bytes r.head h.head _ h.behind r.begins.reads h.begins.reads in
      let size : length message.asked.body ≡ kept.size = ap size_in (sym r.framing ∙ ap framing_in same.0 ∙ h.framing) in
      let long : length message.asked.body + length after ≡ length h.behind = sym (length-append message.asked.body after) ∙ ap (λ (xs : List ℕ). length xs) same.1 in
      omega (arith, few, ap (λ (xs : List ℕ). length xs) (behind_is bytes kept h), size, long);
  fault = λ status r.
      let same = request_unique bytes r.head h.head r.behind h.behind r.begins.reads h.begins.reads in
      not_refused status kept.size kept.last (sym r.framing ∙ ap framing_in same.0 ∙ h.framing);
  short = λ none. absurd (none h.head h.behind h.begins);
  begins = λ none. absurd (none h.head h.behind h.begins);
}

-- the message of a head whose body is there
abbrev pub message_at : List ℕ → Head → Message
message_at bytes kept = record { asked = message_behind bytes kept; last = kept.last }

pub message_reads : (bytes : List ℕ) (kept : Head) → IsHead bytes kept → kept.size ≤ length (drop kept.start bytes) → ReadsMessages bytes (message_at bytes kept) (behind_message bytes kept)
message_reads bytes kept h whole =
    let rest = drop kept.start bytes in
    let long : length (take kept.size rest) ≡ kept.size = length-take-le kept.size rest whole in
    let all : take kept.size rest ++ drop kept.size rest ≡ h.behind = take-append-drop kept.size rest ∙ behind_is bytes kept h in
    record {
      head = h.head;
      begins = subst (Begins bytes h.head) (sym all) h.begins;
      framing = h.framing ∙ ap (λ (n : ℕ). Body n kept.last) (sym long);
      method = h.method;
      target = h.target;
      content_type = h.content_type;
      authorization = h.authorization;
    }

-- ---- one more message

pub splits_more : (bytes rest after : List ℕ) (message : Message) (messages : List Message) → Splits bytes messages rest → ReadsMessages rest message after
    → message.last ≡ false → Splits bytes (messages ++ message ∷ []) after
splits_more bytes rest after message [] s r stays = (after, subst (λ (xs : List ℕ). ReadsMessages xs message after) (sym s) r, stays, refl)
splits_more bytes rest after message (m ∷ messages) s r stays = (s.0, s.1, s.2, splits_more s.0 rest after message messages s.3 r stays)

run_more : {H : Type 0} (step : Steps H) (moment : ℤ) (old mid new : H) (d : AnsweredMessage) (done : List AnsweredMessage) → Run step moment old done mid
    → step mid moment d.message.asked d.answer new → Run step moment old (done ++ d ∷ []) new
run_more {H} step moment old mid new d [] r s = (new, subst (λ (h : H). step h moment d.message.asked d.answer new) r s, refl)
run_more step moment old mid new d (e ∷ done) r s = (r.0, r.1, run_more step moment r.0 mid new d done r.2 s)

messages_more : (d : AnsweredMessage) (done : List AnsweredMessage) → messages_of (done ++ d ∷ []) ≡ messages_of done ++ d.message ∷ []
messages_more d [] = refl
messages_more d (e ∷ done) = ap (λ ms. e.message ∷ ms) (messages_more d done)

pub answers_more : (d : AnsweredMessage) (done : List AnsweredMessage) → answers_of (done ++ d ∷ []) ≡ answers_of done ++ done_bytes d
unfolding answers_of
answers_more d done = flat_map-append done_bytes done (d ∷ []) ∙ ap (λ (xs : List ℕ). flat_map done_bytes done ++ xs) (append-nil (done_bytes d))

pub performs_none : {H : Type 0} (step : Steps H) (moment : ℤ) (old : H) (bytes : List ℕ) → Performs step moment old old bytes bytes []
unfolding answers_of
performs_none step moment old bytes = record { done = []; splits = refl; run = refl; told = refl }

-- a message that leaves the connection open is performed behind the others
pub performs_more : {H : Type 0} (step : Steps H) (moment : ℤ) (old mid new : H) (bytes rest after written : List ℕ) (d : AnsweredMessage)
    → Performs step moment old mid bytes rest written → ReadsMessages rest d.message after → d.message.last ≡ false → step mid moment d.message.asked d.answer new
    → Performs step moment old new bytes after (written ++ done_bytes d)
performs_more step moment old mid new bytes rest after written d p r stays s = record {
  done = p.done ++ d ∷ [];
  splits = subst (λ (ms : List Message). Splits bytes ms after) (sym (messages_more d p.done)) (splits_more bytes rest after d.message (messages_of p.done) p.splits r stays);
  run = run_more step moment old mid new d p.done p.run s;
  told = ap (λ (xs : List ℕ). xs ++ done_bytes d) p.told ∙ sym (answers_more d p.done);
}

-- ---- the end

pub completes_waiting : {H : Type 0} (step : Steps H) (moment : ℤ) (old new : H) (bytes rest written : List ℕ) → Performs step moment old new bytes rest written
    → IsUnfinished rest → Completes step moment old new bytes (waits rest) written
completes_waiting step moment old new bytes rest written p u = record {
  done = p.done;
  stream = (p.splits, u);
  run = p.run;
  told = p.told ∙ sym (append-nil (answers_of p.done));
}

pub completes_fault : {H : Type 0} (step : Steps H) (moment : ℤ) (old new : H) (bytes rest written : List ℕ) (status : Status) → Performs step moment old new bytes rest written
    → IsFault rest status → Completes step moment old new bytes (faults status) (written ++ end_bytes (faults status))
completes_fault step moment old new bytes rest written status p f = record {
  done = p.done;
  stream = (rest, p.splits, f);
  run = p.run;
  told = ap (λ (xs : List ℕ). xs ++ end_bytes (faults status)) p.told;
}

pub completes_last : {H : Type 0} (step : Steps H) (moment : ℤ) (old mid new : H) (bytes rest after written : List ℕ) (d : AnsweredMessage)
    → Performs step moment old mid bytes rest written → ReadsMessages rest d.message after → d.message.last ≡ true → step mid moment d.message.asked d.answer new
    → Completes step moment old new bytes closes (written ++ done_bytes d)
completes_last step moment old mid new bytes rest after written d p r last s = record {
  done = p.done ++ d ∷ [];
  stream = (messages_of p.done, rest, d.message, after, p.splits, r, last, messages_more d p.done);
  run = run_more step moment old mid new d p.done p.run s;
  told = ap (λ (xs : List ℕ). xs ++ done_bytes d) p.told ∙ sym (answers_more d p.done) ∙ sym (append-nil (answers_of (p.done ++ d ∷ [])));
}

-- ---- one step of performing them all

pub sofar_none : {H : Type 0} (step : Steps H) (moment : ℤ) (old : H) (bytes before : List ℕ) (known : Option Head) → IfSome known (IsHead bytes)
    → IsSoFar step moment old old bytes before before bytes known
sofar_none step moment old bytes before known h = record {
  performed = ([], sym (append-nil before), performs_none step moment old bytes);
  head = h;
  within = omega arith;
  end = ap (λ (n : ℕ). drop n bytes) (let none : 0 ≡ length bytes - length bytes = omega arith in none);
}

pub sofar_fault : {H : Type 0} (step : Steps H) (moment : ℤ) (old new : H) (bytes before mid after rest : List ℕ) (known : Option Head) (status : Status)
    → IsSoFar step moment old new bytes before mid rest known → IsFault rest status → after ≡ mid ++ fault_bytes status
    → (end : End) × WritesBehind before after (Completes step moment old new bytes end) × IsClosing end
sofar_fault step moment old new bytes before mid after rest known status s f e =
    let p = s.performed in (
      faults status,
      (
        p.0 ++ fault_bytes status,
        e ∙ ap (λ (xs : List ℕ). xs ++ fault_bytes status) p.1 ∙ append_assoc before p.0 (fault_bytes status),
        completes_fault step moment old new bytes rest p.0 status p.2 f,
      ),
      tt,
    )

-- out of memory: the message that stands there was not performed
pub sofar_refused : {H : Type 0} (step : Steps H) (moment : ℤ) (old mid new : H) (bytes before between after rest : List ℕ) (known : Option Head) (kept : Head)
    → IsSoFar step moment old mid bytes before between rest known → IsHead rest kept → kept.size ≤ length (drop kept.start rest) → new ≡ mid → after ≡ between
    → WritesBehind before after (Performs step moment old new bytes (drop (length bytes - length rest) bytes)) × (length bytes - length rest ≤ length bytes)
    × IsHead (drop (length bytes - length rest) bytes) kept × HasWhole (drop (length bytes - length rest) bytes)
sofar_refused {H} step moment old mid new bytes before between after rest known kept s h whole same e =
    let p = s.performed in
    let performed : Performs step moment old new bytes rest p.0 = subst (λ (x : H). Performs step moment old x bytes rest p.0) (sym same) p.2 in
    let left : HasWhole rest = inl (message_at rest kept, behind_message rest kept, message_reads rest kept h whole) in
    let few : length bytes - length rest ≤ length bytes = omega arith in
    subst (λ (xs : List ℕ). WritesBehind before after (Performs step moment old new bytes xs) × (length bytes - length rest ≤ length bytes) × IsHead xs kept × HasWhole xs) s.end
    ((p.0, e ∙ p.1, performed), few, h, left)

-- out of memory: the fault that stands there was not answered
pub sofar_untold : {H : Type 0} (step : Steps H) (moment : ℤ) (old new : H) (bytes before between after rest : List ℕ) (known : Option Head) (status : Status)
    → IsSoFar step moment old new bytes before between rest known → IsFault rest status → after ≡ between
    → WritesBehind before after (Performs step moment old new bytes (drop (length bytes - length rest) bytes)) × (length bytes - length rest ≤ length bytes) × Unit {0}
    × HasWhole (drop (length bytes - length rest) bytes)
sofar_untold step moment old new bytes before between after rest known status s f e =
    let p = s.performed in
    let left : HasWhole rest = inr (status, f) in
    let few : length bytes - length rest ≤ length bytes = omega arith in
    subst (λ (xs : List ℕ). WritesBehind before after (Performs step moment old new bytes xs) × (length bytes - length rest ≤ length bytes) × Unit {0} × HasWhole xs) s.end
    ((p.0, e ∙ p.1, p.2), few, tt, left)

-- the message that was performed next
abbrev pub done_at : List ℕ → Head → Answer → AnsweredMessage
done_at rest kept answer = record { message = message_at rest kept; answer = answer }

-- it was answered so
abbrev pub IsAnswered : {H : Type 0} → Steps H → ℤ → H → H → Asked → Bool → List ℕ → List ℕ → Type 0
IsAnswered step moment mid new asked last before after =
    (answer : Answer) × step mid moment asked answer new × (after ≡ before ++ answer_bytes asked.target last answer)

pub sofar_last : {H : Type 0} (step : Steps H) (moment : ℤ) (old mid new : H) (bytes before between after rest : List ℕ) (known : Option Head) (kept : Head) (asked : Asked)
    → IsSoFar step moment old mid bytes before between rest known → IsHead rest kept → kept.size ≤ length (drop kept.start rest) → kept.last ≡ true
    → asked ≡ message_behind rest kept → IsAnswered step moment mid new asked kept.last between after
    → (end : End) × WritesBehind before after (Completes step moment old new bytes end) × IsClosing end
sofar_last step moment old mid new bytes before between after rest known kept asked s h whole last e a =
    let p = s.performed in
    let b : IsAnswered step moment mid new (message_behind rest kept) kept.last between after =
    subst (λ (q : Asked). IsAnswered step moment mid new q kept.last between after) e a in
    let d = done_at rest kept b.0 in (
      closes,
      (
        p.0 ++ done_bytes d,
        b.2 ∙ ap (λ (xs : List ℕ). xs ++ done_bytes d) p.1 ∙ append_assoc before p.0 (done_bytes d),
        completes_last step moment old mid new bytes rest (behind_message rest kept) p.0 d p.2 (message_reads rest kept h whole) last b.1,
      ),
      tt,
    )

-- the end of the bytes behind so many more
suffix_more : (bytes rest : List ℕ) (n : ℕ) → length rest ≤ length bytes → rest ≡ drop (length bytes - length rest) bytes → n ≤ length rest
    → drop n rest ≡ drop (length bytes - length (drop n rest)) bytes
suffix_more bytes rest n within e few =
    let count : length bytes - length rest + n ≡ length bytes - length (drop n rest) = omega (arith, length-drop n rest) in
    ap (drop n) e ∙ drop-drop n (length bytes - length rest) bytes ∙ ap (λ (k : ℕ). drop k bytes) count

pub length_behind : (rest : List ℕ) (kept : Head) → IsHead rest kept → kept.size ≤ length (drop kept.start rest) → length (behind_message rest kept) < length rest
length_behind rest kept h whole =
    omega (arith, length-drop kept.size (drop kept.start rest), length-drop kept.start rest, start_within rest kept h, h.start, head_has_bytes h.head)

pub sofar_more : {H : Type 0} (step : Steps H) (moment : ℤ) (old mid new : H) (bytes before between after rest : List ℕ) (known : Option Head) (kept : Head) (asked : Asked)
    → IsSoFar step moment old mid bytes before between rest known → IsHead rest kept → kept.size ≤ length (drop kept.start rest) → kept.last ≡ false
    → asked ≡ message_behind rest kept → IsAnswered step moment mid new asked kept.last between after
    → IsSoFar step moment old new bytes before after (behind_message rest kept) None
sofar_more step moment old mid new bytes before between after rest known kept asked s h whole last e a =
    let p = s.performed in
    let b : IsAnswered step moment mid new (message_behind rest kept) kept.last between after =
    subst (λ (q : Asked). IsAnswered step moment mid new q kept.last between after) e a in
    let d = done_at rest kept b.0 in
    let inner = drop kept.start rest in
    let start = start_within rest kept h in
    let shorter : length inner ≤ length bytes = omega (arith, length-drop kept.start rest, s.within) in
    record {
      performed = (
        p.0 ++ done_bytes d,
        b.2 ∙ ap (λ (xs : List ℕ). xs ++ done_bytes d) p.1 ∙ append_assoc before p.0 (done_bytes d),
        performs_more step moment old mid new bytes rest (behind_message rest kept) p.0 d p.2 (message_reads rest kept h whole) last b.1,
      );
      head = tt;
      within = omega (arith, length_behind rest kept h whole, s.within);
      end = suffix_more bytes inner kept.size shorter (suffix_more bytes rest kept.start s.within s.end start) whole;
    }

-- what is left where that comes next
pub sofar_left : {H : Type 0} (step : Steps H) (moment : ℤ) (old new : H) (bytes before after rest : List ℕ) (known : Option Head) (next : Next)
    → IsSoFar step moment old new bytes before after rest known → IsNext rest next → IsRemainder step moment old new bytes before after (left_at (length bytes - length rest) next)
sofar_left step moment old new bytes before after rest known (Unfinished kept) s n =
    let p = s.performed in
    let few : length bytes - length rest ≤ length bytes = omega arith in
    subst (λ (xs : List ℕ). WritesBehind before after (Completes step moment old new bytes (waits xs)) × (length bytes - length rest ≤ length bytes) × IfSome kept (IsHead xs)) s.end
    ((p.0, p.1, completes_waiting step moment old new bytes rest p.0 p.2 n.0), few, n.1)
sofar_left step moment old new bytes before after rest known (Faulty status) s n =
    sofar_untold step moment old new bytes before after after rest known status s n refl
sofar_left step moment old new bytes before after rest known (coming.Message kept) s n =
    sofar_refused step moment old new new bytes before after after rest known kept s n.0 n.1 refl refl

-- ---- the first of them

none_before : (bytes : List ℕ) → length bytes - length bytes ≡ 0
none_before bytes = omega arith

-- nothing was performed, and that comes next
pub first_left : {H : Type 0} (step : Steps H) (moment : ℤ) (old : H) (bytes before : List ℕ) (known : Option Head) (next : Next)
    → IfSome known (IsHead bytes) → IsNext bytes next → IsRemainder step moment old old bytes before before (left_at 0 next)
first_left step moment old bytes before known next h n =
    subst (λ (k : ℕ). IsRemainder step moment old old bytes before before (left_at k next)) (none_before bytes)
    (sofar_left step moment old old bytes before before bytes known next (sofar_none step moment old bytes before known h) n)

-- out of memory: the first message was not performed
pub first_refused : {H : Type 0} (step : Steps H) (moment : ℤ) (old new : H) (bytes before after : List ℕ) (known : Option Head) (kept : Head)
    → IfSome known (IsHead bytes) → IsHead bytes kept → kept.size ≤ length (drop kept.start bytes) → new ≡ old → after ≡ before
    → IsRemainder step moment old new bytes before after (Unanswered 0 (Some kept))
first_refused step moment old new bytes before after known kept h stands whole same e =
    subst (λ (k : ℕ). IsRemainder step moment old new bytes before after (Unanswered k (Some kept))) (none_before bytes)
    (sofar_refused step moment old old new bytes before before after bytes known kept (sofar_none step moment old bytes before known h) stands whole same e)

-- out of memory: the fault was not answered
pub first_untold : {H : Type 0} (step : Steps H) (moment : ℤ) (old : H) (bytes before after : List ℕ) (known : Option Head) (status : Status)
    → IfSome known (IsHead bytes) → IsFault bytes status → after ≡ before → IsRemainder step moment old old bytes before after (Unanswered 0 None)
first_untold step moment old bytes before after known status h f e =
    subst (λ (k : ℕ). IsRemainder step moment old old bytes before after (Unanswered k None)) (none_before bytes)
    (sofar_untold step moment old old bytes before before after bytes known status (sofar_none step moment old bytes before known h) f e)
