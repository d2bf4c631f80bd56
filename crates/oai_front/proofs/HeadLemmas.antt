-- Heads at the front of bytes: more bytes behind them change nothing, and the first so many bytes are enough to see them.
use Rattle.std.proofs.Common.{◌≡◌, ℕ, ◌+◌, ◌-◌, ◌<◌, ◌≤◌, List, [], ◌++◌, append_assoc, length, take, drop, map, Option, Some, None, refl, sym, ap, ap₂, subst, ◌∙◌, arith, inr}
use Rattle.std.specs.Prelude.{slice_range, IfSome}
use Rattle.std.specs.Option.{option_map}
use Rattle.std.proofs.lemmas.List.{append-nil, drop-append-le, take-append-le, take-append-drop, length-append, length-drop, length-map, length-take}
use Rattle.std.proofs.Math.Seq.{drop-append_seam, take-append-add}
use Rattle.std.proofs.lemmas.Grind.{common_steps}
use Rattle.httparse.specs.Grammar.{HasNoRequest, NeverHasRequest, ReadsRequest, RequestHead, print_request}
use Rattle.httparse.specs.Spans.{IsRequestAt, IsRequestWithin, IsWithin, RequestOverflows, header_bytes, name_and_value, span_bytes}
use Rattle.httparse.specs.declared.spans.HeaderSpan.{HeaderSpan}
use Rattle.httparse.specs.declared.spans.RequestSpans.{RequestSpans}
use Rattle.httparse.specs.declared.spans.Span.{Span}
use Rattle.httparse.proofs.GrammarLemmas.{ReadsRequest-append}
use Rattle.oai_http.specs.declared.statuses.Status.{Status}
use Rattle.oai_front.specs.Fields.{first_value, framing_of, values_named}
use Rattle.oai_front.specs.Messages.{Begins, HasNoHead, IsRefused, NeverHasHead, head_fields, framing_in}
use Rattle.oai_front.specs.RequestHeads.{IsHeadParse, IsHead, IsHeadResult}
use Rattle.oai_front.specs.declared.request_heads.HeadParse.{HeadParse}
use Rattle.oai_front.specs.declared.request_heads.HeadParse.TheVariants.{Unknown, Fault, Whole}
use Rattle.oai_front.specs.declared.request_heads.Head.{Head}
use Rattle.oai_front.specs.declared.framings.Framing.{Framing}
use Rattle.oai_front.specs.declared.request_heads.TheConstants.{MAX_HEAD_FIELDS, MAX_HEAD_BYTES}

-- ---- more bytes

pub begins_more : (bytes more : List ℕ) (head : RequestHead) (behind : List ℕ) → Begins bytes head behind → Begins (bytes ++ more) head (behind ++ more)
begins_more bytes more head behind b = record {
  reads = ReadsRequest-append bytes head behind more b.reads;
  short = b.short;
  few = b.few;
}

pub refused_more : (bytes more : List ℕ) (status : Status) → IsRefused bytes status → IsRefused (bytes ++ more) status
refused_more bytes more status r = record {
  head = r.head;
  behind = r.behind ++ more;
  begins = begins_more bytes more r.head r.behind r.begins;
  framing = r.framing;
}

within_more : (bytes more : List ℕ) (s : Span) → IsWithin (length bytes) s → IsWithin (length (bytes ++ more)) s
within_more bytes more s w = (w.0, omega (arith, length-append bytes more, w.1))

range_more : (xs ys : List ℕ) (a b : ℕ) → a ≤ b → b ≤ length xs → slice_range (xs ++ ys) a b ≡ slice_range xs a b
range_more xs ys a b order inside =
    ap (take (b - a)) (drop-append-le a xs ys (omega arith)) ∙ take-append-le (b - a) (drop a xs) ys (omega (arith, length-drop a xs))

span_more : (bytes more : List ℕ) (s : Span) → IsWithin (length bytes) s → span_bytes bytes s ≡ span_bytes (bytes ++ more) s
span_more bytes more s w = sym (range_more bytes more s.start s.end w.0 w.1)

spans_more : (bytes more : List ℕ) (s : Option Span) → IfSome s (IsWithin (length bytes)) → option_map (span_bytes bytes) s ≡ option_map (span_bytes (bytes ++ more)) s
spans_more bytes more None w = refl
spans_more bytes more (Some s) w = ap (λ (x : List ℕ). Some x) (span_more bytes more s w)

withins_more : (bytes more : List ℕ) (s : Option Span) → IfSome s (IsWithin (length bytes)) → IfSome s (IsWithin (length (bytes ++ more)))
withins_more bytes more None w = tt
withins_more bytes more (Some s) w = within_more bytes more s w

pub head_more : (bytes more : List ℕ) (kept : Head) → IsHead bytes kept → IsHead (bytes ++ more) kept
head_more bytes more kept h = record {
  head = h.head;
  behind = h.behind ++ more;
  begins = begins_more bytes more h.head h.behind h.begins;
  framing = h.framing;
  start = h.start;
  method_in = within_more bytes more kept.method h.method_in;
  method = sym (span_more bytes more kept.method h.method_in) ∙ h.method;
  target_in = within_more bytes more kept.target h.target_in;
  target = sym (span_more bytes more kept.target h.target_in) ∙ h.target;
  path = h.path;
  type_in = withins_more bytes more kept.content_type h.type_in;
  content_type = sym (spans_more bytes more kept.content_type h.type_in) ∙ h.content_type;
  key_in = withins_more bytes more kept.authorization h.key_in;
  authorization = sym (spans_more bytes more kept.authorization h.key_in) ∙ h.authorization;
}

kept_more : (bytes more : List ℕ) (b : HeadParse) → IsHeadResult bytes b → IsHeadParse (bytes ++ more) b
kept_more bytes more Unknown k = absurd k
kept_more bytes more (Fault status) k = inr (refused_more bytes more status k)
kept_more bytes more (Whole head) k = head_more bytes more head k

-- what is kept of the first so many bytes is kept of all
pub kept_in_front : (bytes : List ℕ) (most : ℕ) (b : HeadParse) → IsHeadResult (take most bytes) b → IsHeadParse bytes b
kept_in_front bytes most b k =
    subst (λ (all : List ℕ). IsHeadParse all b) (take-append-drop most bytes) (kept_more (take most bytes) (drop most bytes) b k)

-- ---- the first so many bytes

-- a head is seen in as many bytes as it may have
begins_front : (bytes : List ℕ) (most : ℕ) (head : RequestHead) (behind : List ℕ) → MAX_HEAD_BYTES ≤ most → Begins bytes head behind
    → ReadsRequest (take most bytes) head (take (most - length (print_request head)) behind)
begins_front bytes most head behind room b =
    let text = print_request head in
    let long : length text + (most - length text) ≡ most = omega (arith, b.short) in
    (b.reads.0, ap (take most) b.reads.1 ∙ ap (λ (n : ℕ). take n (text ++ behind)) (sym long) ∙ take-append-add text behind (most - length text))

pub none_in_front : (bytes : List ℕ) (most : ℕ) → MAX_HEAD_BYTES ≤ most → HasNoRequest (take most bytes) → HasNoHead bytes
none_in_front bytes most room none head behind b = none head _ (begins_front bytes most head behind room b)

pub never_in_front : (bytes : List ℕ) (most : ℕ) → MAX_HEAD_BYTES ≤ most → most ≤ length bytes → HasNoRequest (take most bytes) → NeverHasHead bytes
never_in_front bytes most room full none more =
    none_in_front (bytes ++ more) most room (subst HasNoRequest (sym (take-append-le most bytes more full)) none)

parted : (bytes more : List ℕ) (most : ℕ) → bytes ++ more ≡ take most bytes ++ (drop most bytes ++ more)
parted bytes more most = ap (λ (all : List ℕ). all ++ more) (sym (take-append-drop most bytes)) ∙ append_assoc (take most bytes) (drop most bytes) more

-- what never becomes a head does not with more behind it
pub never_request : (bytes : List ℕ) (most : ℕ) → NeverHasRequest (take most bytes) → NeverHasRequest bytes
never_request bytes most never more = subst HasNoRequest (sym (parted bytes more most)) (never (drop most bytes ++ more))

-- where the parser fails on them, no head ever comes
pub never_after : (bytes : List ℕ) (most : ℕ) → RequestOverflows MAX_HEAD_FIELDS (take most bytes) → NeverHasHead bytes
never_after bytes most over more head behind b =
    let many = over (drop most bytes ++ more) head behind (subst (λ (all : List ℕ). ReadsRequest all head behind) (parted bytes more most) b.reads) in
    omega (arith, many, b.few)

pub none_after : (bytes : List ℕ) → NeverHasHead bytes → HasNoHead bytes
none_after bytes never = subst HasNoHead (append-nil bytes) (never [])

-- ---- a head that was read

pub read_begins : (bytes : List ℕ) (headers : List HeaderSpan) (spans : RequestSpans) (h : RequestHead) → length bytes ≤ MAX_HEAD_BYTES
    → length headers ≤ MAX_HEAD_FIELDS → IsRequestWithin bytes headers spans → IsRequestAt bytes headers spans h → Begins bytes h (drop spans.len bytes)
read_begins bytes headers spans h short few within at = record {
  reads = at.reads;
  short = omega (arith, at.len, within.section.len_fits, short);
  few = omega (
    arith,
    ap (λ (fields : List (List ℕ × List ℕ)). length fields) at.fields,
    length-map (take spans.headers headers) (header_bytes bytes),
    length-map h.fields name_and_value,
    length-take spans.headers headers,
    few,
  );
}

pub read_framing : (bytes : List ℕ) (headers : List HeaderSpan) (spans : RequestSpans) (h : RequestHead) (framing : Framing) → IsRequestAt bytes headers spans h
    → framing ≡ framing_of spans.version (span_bytes bytes spans.path) (map (header_bytes bytes) (take spans.headers headers)) → framing_in h ≡ framing
unfolding framing_in
read_framing bytes headers spans h framing at e =
    let fields : List (List ℕ × List ℕ) = map (header_bytes bytes) (take spans.headers headers) in
    ap₂ (λ (minor : ℕ) (given : List (List ℕ × List ℕ)). framing_of minor h.target given) (sym at.version) (sym at.fields)
    ∙ ap (λ (target : List ℕ). framing_of spans.version target fields) (sym at.path)
    ∙ sym e

pub read_value : (name bytes : List ℕ) (headers : List HeaderSpan) (spans : RequestSpans) (h : RequestHead) (value : Option (List ℕ)) → IsRequestAt bytes headers spans h
    → value ≡ first_value (values_named name (map (header_bytes bytes) (take spans.headers headers)))
    → value ≡ first_value (values_named name (head_fields h))
read_value name bytes headers spans h value at e = e ∙ ap (λ (fields : List (List ℕ × List ℕ)). first_value (values_named name fields)) at.fields

pub within_len : (bytes : List ℕ) (n : ℕ) (s : Span) → n ≤ length bytes → IsWithin n s → IsWithin (length bytes) s
within_len bytes n s fits w = (w.0, omega (arith, w.1))

-- ---- a head that is known

-- every head has bytes
pub head_has_bytes : (head : RequestHead) → 0 < length (print_request head)
unfolding print_request
head_has_bytes head = grind (arith, common_steps)

pub start_within : (bytes : List ℕ) (kept : Head) → IsHead bytes kept → kept.start ≤ length bytes
start_within bytes kept h =
    omega (arith, h.start, ap (λ (xs : List ℕ). length xs) h.begins.reads.1, length-append (print_request h.head) h.behind)

-- what comes behind it
pub behind_is : (bytes : List ℕ) (kept : Head) (h : IsHead bytes kept) → drop kept.start bytes ≡ h.behind
behind_is bytes kept h =
    ap₂ (λ (n : ℕ) (xs : List ℕ). drop n xs) h.start h.begins.reads.1 ∙ drop-append_seam (print_request h.head) h.behind
