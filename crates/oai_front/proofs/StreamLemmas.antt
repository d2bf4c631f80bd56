-- The messages of bytes: there is one list of them, and it does not matter how the bytes were cut.
use Rattle.std.proofs.Common.{◌≡◌, ◌∙◌, ◌≤◌, ℕ, ◌⊎◌, arith, Bool, true, false, List, [], ◌∷◌, ◌++◌, append_assoc, length, take, drop, refl, sym, ap, ap₂, subst, inl, inr}
use Rattle.std.proofs.lemmas.Bool.{false≢true}
use Rattle.std.proofs.lemmas.List.{length-append}
use Rattle.std.proofs.Math.Seq.{drop-append_seam, take-append_seam}
use Rattle.std.specs.Prelude.{Option, codes}
use Rattle.httparse.specs.Grammar.{HasNoRequest, NeverHasRequest, RequestHead}
use Rattle.httparse.proofs.GrammarLemmas.{request_unique}
use Rattle.oai_http.specs.declared.statuses.Status.{Status}
use Rattle.oai_http.specs.declared.statuses.Status.TheVariants.{BadRequest}
use Rattle.oai_front.specs.Fields.{first_value, values_named}
use Rattle.oai_front.specs.Messages.{head_fields, AreAlike, Begins, End, HasNoHead, IsClosing, IsFault, IsRefused, IsUnfinished, Message, NeverHasHead, ReadsMessages, Splits, IsMessageStream, closes, faults, framing_in, waits}
use Rattle.oai_front.specs.declared.request_heads.TheConstants.{MAX_HEAD_BYTES}
use Rattle.oai_front.specs.declared.framings.Framing.{Framing}
use Rattle.oai_front.specs.declared.framings.Framing.TheVariants.{Body, Refused}
use Rattle.oai_front.proofs.HeadLemmas.{begins_more, none_after, refused_more}

-- ---- one message

size_in : Framing → ℕ
size_in (Body size last) = size
size_in (Refused status) = 0

last_in : Framing → Bool
last_in (Body size last) = last
last_in (Refused status) = false

status_in : Framing → Status
status_in (Body size last) = BadRequest
status_in (Refused status) = status

not_refused : (status : Status) (size : ℕ) (last : Bool) → Refused status ≡ Body size last → ⊥
not_refused status size last e = cc

refused_alike : (s t : Status) → Refused s ≡ Refused t → s ≡ t
unfolding status_in
refused_alike s t e = ap status_in e

value_of : List ℕ → RequestHead → Option (List ℕ)
value_of name head = first_value (values_named name (head_fields head))

-- fronts of one length, with what comes behind them
fronts_of : (a b c d : List ℕ) → length a ≡ length b → a ++ c ≡ b ++ d → (a ≡ b) × (c ≡ d)
fronts_of a b c d long e = (
  sym (take-append_seam a c) ∙ ap₂ (λ (n : ℕ) (xs : List ℕ). take n xs) long e ∙ take-append_seam b d,
  sym (drop-append_seam a c) ∙ ap₂ (λ (n : ℕ) (xs : List ℕ). drop n xs) long e ∙ drop-append_seam b d,
)

reads_unique : (bytes : List ℕ) (m n : Message) (after other : List ℕ) → ReadsMessages bytes m after → ReadsMessages bytes n other → (m ≡ n) × (after ≡ other)
unfolding size_in last_in value_of
reads_unique bytes m n after other r q =
    let same = request_unique bytes r.head q.head _ _ r.begins.reads q.begins.reads in
    let framings : Body (length m.asked.body) m.last ≡ Body (length n.asked.body) n.last = sym r.framing ∙ ap framing_in same.0 ∙ q.framing in
    let long : length m.asked.body ≡ length n.asked.body = ap size_in framings in
    let last : m.last ≡ n.last = ap last_in framings in
    let parts = fronts_of m.asked.body n.asked.body after other long same.1 in
    let method : m.asked.method ≡ n.asked.method = r.method ∙ ap (λ (h : RequestHead). h.method) same.0 ∙ sym q.method in
    let target : m.asked.target ≡ n.asked.target = r.target ∙ ap (λ (h : RequestHead). h.target) same.0 ∙ sym q.target in
    let kind : m.asked.content_type ≡ n.asked.content_type = r.content_type ∙ ap (value_of (codes "Content-Type")) same.0 ∙ sym q.content_type in
    let key : m.asked.authorization ≡ n.asked.authorization = r.authorization ∙ ap (value_of (codes "Authorization")) same.0 ∙ sym q.authorization in
    (λ i. record { asked = record { method = method i; target = target i; content_type = kind i; authorization = key i; body = parts.0 i }; last = last i }, parts.1)

reads_more : (bytes more : List ℕ) (m : Message) (after : List ℕ) → ReadsMessages bytes m after → ReadsMessages (bytes ++ more) m (after ++ more)
reads_more bytes more m after r = record {
  head = r.head;
  begins = subst (Begins (bytes ++ more) r.head) (append_assoc m.asked.body after more) (begins_more bytes more r.head (m.asked.body ++ after) r.begins);
  framing = r.framing;
  method = r.method;
  target = r.target;
  content_type = r.content_type;
  authorization = r.authorization;
}

-- ---- what excludes a message

no_head_no_message : (bytes : List ℕ) → NeverHasHead bytes → (m : Message) (after : List ℕ) → ¬ (ReadsMessages bytes m after)
no_head_no_message bytes never m after r = none_after bytes never r.head _ r.begins

refused_no_message : (bytes : List ℕ) (status : Status) → IsRefused bytes status → (m : Message) (after : List ℕ) → ¬ (ReadsMessages bytes m after)
refused_no_message bytes status f m after r =
    let same = request_unique bytes f.head r.head _ _ f.begins.reads r.begins.reads in
    not_refused status (length m.asked.body) m.last (sym f.framing ∙ ap framing_in same.0 ∙ r.framing)

fault_no_message : (bytes : List ℕ) (status : Status) → IsFault bytes status → (m : Message) (after : List ℕ) → ¬ (ReadsMessages bytes m after)
fault_no_message bytes status (inl never) = no_head_no_message bytes never.0.0
fault_no_message bytes status (inr refused) = refused_no_message bytes status refused

-- one fault, whichever way it is told
faults_alike : (bytes : List ℕ) (s t : Status) → IsFault bytes s → IsFault bytes t → s ≡ t
faults_alike bytes s t (inl a) (inl b) = a.1 ∙ sym b.1
faults_alike bytes s t (inl a) (inr b) = absurd (none_after bytes a.0.0 b.head b.behind b.begins)
faults_alike bytes s t (inr a) (inl b) = absurd (none_after bytes b.0.0 a.head a.behind a.begins)
faults_alike bytes s t (inr a) (inr b) =
    let same = request_unique bytes a.head b.head _ _ a.begins.reads b.begins.reads in
    refused_alike s t (sym a.framing ∙ ap framing_in same.0 ∙ b.framing)

fault_waits : (bytes : List ℕ) (s : Status) → IsUnfinished bytes → IsFault bytes s → s ≡ BadRequest
fault_waits bytes s u (inl never) = never.1
fault_waits bytes s u (inr refused) = absurd (u.fault s refused)

-- ---- lists of messages

pub splits_more : (bytes more rest : List ℕ) (messages : List Message) → Splits bytes messages rest → Splits (bytes ++ more) messages (rest ++ more)
splits_more bytes more rest [] s = ap (λ (xs : List ℕ). xs ++ more) s
splits_more bytes more rest (m ∷ messages) s = (s.0 ++ more, reads_more bytes more m s.0 s.1, s.2, splits_more s.0 more rest messages s.3)

pub splits_join : (bytes rest other : List ℕ) (ms ns : List Message) → Splits bytes ms rest → Splits rest ns other → Splits bytes (ms ++ ns) other
splits_join bytes rest other [] ns s t = subst (λ (xs : List ℕ). Splits xs ns other) (sym s) t
splits_join bytes rest other (m ∷ ms) ns s t = (s.0, s.1, s.2, splits_join s.0 rest other ms ns s.3 t)

-- what was split off goes in front of what comes of the rest
pub stream_join : (bytes rest : List ℕ) (ms ns : List Message) (end : End) → Splits bytes ms rest → IsMessageStream rest ns end → IsMessageStream bytes (ms ++ ns) end
stream_join bytes rest ms ns (waits other) s t = (splits_join bytes rest other ms ns s t.0, t.1)
stream_join bytes rest ms ns (faults status) s t = (t.0, splits_join bytes rest t.0 ms ns s t.1, t.2)
stream_join bytes rest ms ns closes s t = (
  ms ++ t.0,
  t.1,
  t.2,
  t.3,
  splits_join bytes rest t.1 ms t.0 s t.4,
  t.5,
  t.6,
  ap (λ (xs : List Message). ms ++ xs) t.7 ∙ sym (append_assoc ms t.0 (t.2 ∷ [])),
)

-- two pieces
pub stream_cut : (a b rest : List ℕ) (ms ns : List Message) (end : End) → IsMessageStream a ms (waits rest) → IsMessageStream (rest ++ b) ns end → IsMessageStream (a ++ b) (ms ++ ns) end
stream_cut a b rest ms ns end s t = stream_join (a ++ b) (rest ++ b) ms ns end (splits_more a b rest ms s.0) t

hopeless_more : (bytes more : List ℕ) → NeverHasRequest bytes ⊎ (MAX_HEAD_BYTES ≤ length bytes) → NeverHasRequest (bytes ++ more) ⊎ (MAX_HEAD_BYTES ≤ length (bytes ++ more))
hopeless_more bytes more (inl never) = inl (λ others. subst HasNoRequest (sym (append_assoc bytes more others)) (never (more ++ others)))
hopeless_more bytes more (inr full) = inr (omega (arith, full, length-append bytes more))

fault_more : (bytes more : List ℕ) (status : Status) → IsFault bytes status → IsFault (bytes ++ more) status
fault_more bytes more status (inl never) =
    inl ((λ others. subst HasNoHead (sym (append_assoc bytes more others)) (never.0.0 (more ++ others)), hopeless_more bytes more never.0.1), never.1)
fault_more bytes more status (inr refused) = inr (refused_more bytes more status refused)

-- what comes after the end changes nothing
pub stream_over : (a b : List ℕ) (ms : List Message) (end : End) → IsMessageStream a ms end → IsClosing end → IsMessageStream (a ++ b) ms end
stream_over a b ms (waits rest) s closing = absurd closing
stream_over a b ms (faults status) s closing = (s.0 ++ b, splits_more a b s.0 ms s.1, fault_more s.0 b status s.2)
stream_over a b ms closes s closing = (s.0, s.1 ++ b, s.2, s.3 ++ b, splits_more a b s.1 s.0 s.4, reads_more s.1 b s.2 s.3 s.5, s.6, s.7)

-- ---- no other messages

-- what stands at the front of a stream: no message, and what is said of the bytes; a message and more of the stream; the last message
AtEnd : List ℕ → End → Type 0
AtEnd bytes (waits rest) = (bytes ≡ rest) × IsUnfinished bytes
AtEnd bytes (faults status) = IsFault bytes status
AtEnd bytes closes = ⊥

record IsLast (bytes : List ℕ) (messages : List Message) (end : End) : Type 0 where
  message : Message
  after : List ℕ
  reads : ReadsMessages bytes message after
  last : message.last ≡ true
  whole : messages ≡ message ∷ []
  closed : end ≡ closes

record IsMore (bytes : List ℕ) (messages : List Message) (end : End) : Type 0 where
  message : Message
  after : List ℕ
  others : List Message
  reads : ReadsMessages bytes message after
  stays : message.last ≡ false
  whole : messages ≡ message ∷ others
  goes_on : IsMessageStream after others end

Front : List ℕ → List Message → End → Type 0
Front bytes messages end = ((messages ≡ []) × AtEnd bytes end) ⊎ (IsLast bytes messages end ⊎ IsMore bytes messages end)

closes_front : (bytes : List ℕ) (messages front : List Message) (rest : List ℕ) (m : Message) (after : List ℕ) → Splits bytes front rest → ReadsMessages rest m after
    → m.last ≡ true → messages ≡ front ++ m ∷ [] → Front bytes messages closes
unfolding AtEnd Front
closes_front bytes messages [] rest m after s r last e =
    inr (inl (record { message = m; after = after; reads = subst (λ (xs : List ℕ). ReadsMessages xs m after) (sym s) r; last = last; whole = e; closed = refl }))
closes_front bytes messages (n ∷ front) rest m after s r last e =
    inr (inr (record { message = n; after = s.0; others = front ++ m ∷ []; reads = s.1; stays = s.2; whole = e; goes_on = (front, rest, m, after, s.3, r, last, refl) }))

front_of : (bytes : List ℕ) (messages : List Message) (end : End) → IsMessageStream bytes messages end → Front bytes messages end
unfolding AtEnd Front
front_of bytes [] (waits rest) s = inl (refl, (s.0, subst IsUnfinished (sym s.0) s.1))
front_of bytes (m ∷ ms) (waits rest) s =
    inr (inr (record { message = m; after = s.0.0; others = ms; reads = s.0.1; stays = s.0.2; whole = refl; goes_on = (s.0.3, s.1) }))
front_of bytes [] (faults status) s = inl (refl, subst (λ (xs : List ℕ). IsFault xs status) (sym s.1) s.2)
front_of bytes (m ∷ ms) (faults status) s =
    inr (inr (record { message = m; after = s.1.0; others = ms; reads = s.1.1; stays = s.1.2; whole = refl; goes_on = (s.0, s.1.3, s.2) }))
front_of bytes messages closes s = closes_front bytes messages s.0 s.1 s.2 s.3 s.4 s.5 s.6 s.7

at_end_no_message : (bytes : List ℕ) (end : End) → AtEnd bytes end → (m : Message) (after : List ℕ) → ¬ (ReadsMessages bytes m after)
unfolding AtEnd
at_end_no_message bytes (waits rest) a = a.1.message
at_end_no_message bytes (faults status) a = fault_no_message bytes status a
at_end_no_message bytes closes a = absurd a

ends_alike : (bytes : List ℕ) (e f : End) → AtEnd bytes e → AtEnd bytes f → AreAlike e f
unfolding AtEnd
ends_alike bytes (waits rest) (waits other) a b = sym a.0 ∙ b.0
ends_alike bytes (waits rest) (faults status) a b = fault_waits bytes status a.1 b
ends_alike bytes (faults status) (waits rest) a b = fault_waits bytes status b.1 a
ends_alike bytes (faults s) (faults t) a b = faults_alike bytes s t a b
ends_alike bytes e closes a b = absurd b
ends_alike bytes closes e a b = absurd a

AreOne : List Message → List Message → End → End → Type 0
AreOne ms ns e f = (ms ≡ ns) × AreAlike e f

differ_last : (m n : Message) → m ≡ n → m.last ≡ true → n.last ≡ false → ⊥
differ_last m n e closed stays = false≢true (sym stays ∙ sym (ap (λ (x : Message). x.last) e) ∙ closed)

not_cons : (m : Message) (ms : List Message) → [] ≡ m ∷ ms → ⊥
not_cons m ms e = cc

tails_of : (m n : Message) (ms ns : List Message) → m ∷ ms ≡ n ∷ ns → ms ≡ ns
tails_of m n ms ns e = ap (λ (xs : List Message). drop 1 xs) e

both_closed : (e f : End) → e ≡ closes → f ≡ closes → AreAlike e f
both_closed e f a b = rw (a, b) tt

unique : (ms ns : List Message) (bytes : List ℕ) (e f : End) → Front bytes ms e → Front bytes ns f → AreOne ms ns e f
unfolding AreOne Front
unique ms ns bytes e f (inl a) (inl b) = (a.0 ∙ sym b.0, ends_alike bytes e f a.1 b.1)
unique ms ns bytes e f (inl a) (inr (inl b)) = absurd (at_end_no_message bytes e a.1 b.message b.after b.reads)
unique ms ns bytes e f (inl a) (inr (inr b)) = absurd (at_end_no_message bytes e a.1 b.message b.after b.reads)
unique ms ns bytes e f (inr (inl a)) (inl b) = absurd (at_end_no_message bytes f b.1 a.message a.after a.reads)
unique ms ns bytes e f (inr (inr a)) (inl b) = absurd (at_end_no_message bytes f b.1 a.message a.after a.reads)
unique ms ns bytes e f (inr (inl a)) (inr (inl b)) =
    let same = reads_unique bytes a.message b.message a.after b.after a.reads b.reads in
    (a.whole ∙ ap (λ (m : Message). m ∷ []) same.0 ∙ sym b.whole, both_closed e f a.closed b.closed)
unique ms ns bytes e f (inr (inl a)) (inr (inr b)) =
    let same = reads_unique bytes a.message b.message a.after b.after a.reads b.reads in
    absurd (differ_last a.message b.message same.0 a.last b.stays)
unique ms ns bytes e f (inr (inr a)) (inr (inl b)) =
    let same = reads_unique bytes a.message b.message a.after b.after a.reads b.reads in
    absurd (differ_last b.message a.message (sym same.0) b.last a.stays)
unique [] ns bytes e f (inr (inr a)) (inr (inr b)) = absurd (not_cons a.message a.others a.whole)
unique (m ∷ ms) ns bytes e f (inr (inr a)) (inr (inr b)) =
    let same = reads_unique bytes a.message b.message a.after b.after a.reads b.reads in
    let others : ms ≡ a.others = tails_of m a.message ms a.others a.whole in
    let one = unique ms b.others a.after e f (front_of a.after ms e (subst (λ (xs : List Message). IsMessageStream a.after xs e) (sym others) a.goes_on))
    (front_of a.after b.others f (subst (λ (xs : List ℕ). IsMessageStream xs b.others f) (sym same.1) b.goes_on)) in
    (a.whole ∙ ap₂ (λ (x : Message) (xs : List Message). x ∷ xs) same.0 (sym others ∙ one.0) ∙ sym b.whole, one.1)

pub streams_alike : (bytes : List ℕ) (ms ns : List Message) (e f : End) → IsMessageStream bytes ms e → IsMessageStream bytes ns f → (ms ≡ ns) × AreAlike e f
unfolding AreOne
streams_alike bytes ms ns e f s t = unique ms ns bytes e f (front_of bytes ms e s) (front_of bytes ns f t)
