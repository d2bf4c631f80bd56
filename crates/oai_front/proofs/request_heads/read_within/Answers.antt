-- What the parser answers on the first bytes holds of all, whatever comes behind them.
use Rattle.std.proofs.Common.{◌≡◌, ◌≤◌, ℕ, List, length, take, Err, ap, subst, refl, arith, inl, inr}
use Rattle.std.proofs.lemmas.Bool.{lt-ltb, le-ltb, cases_lt}
use Rattle.std.proofs.lemmas.List.{take_all}
use Rattle.httparse.specs.Grammar.{HasNoRequest, MayBecomeRequest, NeverHasRequest}
use Rattle.httparse.specs.Spans.{RequestExceeds}
use Rattle.oai_front.specs.Messages.{HasNoHead, MayBegin, NeverHasHead}
use Rattle.oai_front.specs.RequestHeads.{IsHeadParse, parse_unless_full}
use Rattle.oai_front.specs.declared.request_heads.HeadParse.{HeadParse}
use Rattle.oai_front.specs.declared.request_heads.TheConstants.{MAX_HEAD_FIELDS, MAX_HEAD_BYTES}
use Rattle.oai_front.proofs.HeadLemmas.{kept_in_front, none_in_front, never_in_front, never_after, never_request, none_after}
use Rattle.oai_front.proofs.request_heads.read_within.Goals as goal

-- no head so far; and none ever, where there are as many bytes as one may have
unless_full : (bytes : List ℕ) (most : ℕ) (b : HeadParse) → most ≡ MAX_HEAD_BYTES → HasNoHead bytes → MayBegin (take most bytes) → (most ≤ length bytes → NeverHasHead bytes)
    → b ≡ parse_unless_full most bytes → IsHeadParse bytes b
unless_full bytes most b is none begins never e =
    elim (cases_lt (length bytes) most) [
      | inl few ↦ rw (e, lt-ltb (length bytes) most few) (none, omega (arith, is, few), subst MayBegin (take_all most bytes (omega (arith, few))) begins)
      | inr full ↦ rw (e, le-ltb (length bytes) most full) (inl ((never full, inr (omega (arith, is, full))), refl))
    ]

pub returns-in-Ok-Complete : goal.returns-in-Ok-Complete
returns-in-Ok-Complete c =
    kept_in_front c.args.bytes.now c.args.most c.kept_of.result (rw c.front_of-front.ensures at c.kept_of.ensures)

pub returns-in-Ok-Partial : goal.returns-in-Ok-Partial
returns-in-Ok-Partial c =
    let none = subst HasNoRequest c.front_of-front.ensures (rw c.in-Ok-Partial.field-0-is at c.in-Ok-Partial.ensures.partial) in
    let begins = subst MayBecomeRequest c.front_of-front.ensures (rw c.in-Ok-Partial.field-0-is at c.in-Ok-Partial.ensures.unfinished) in
    unless_full c.args.bytes.now c.args.most c.unless_full.result c.requires
    (none_in_front c.args.bytes.now c.args.most (omega (arith, c.requires)) none) (inl begins)
    (λ full. never_in_front c.args.bytes.now c.args.most (omega (arith, c.requires)) full none) c.unless_full.ensures

pub returns-in-TooManyHeaders : goal.returns-in-TooManyHeaders
returns-in-TooManyHeaders c =
    let never = never_after c.args.bytes.now c.args.most (rw c.front_of-front.ensures at c.in-Err.ensures.no_room) in
    let many = subst (λ (front : List ℕ). RequestExceeds MAX_HEAD_FIELDS front) c.front_of-front.ensures (c.in-Err.ensures.too_many (ap (λ e. Err e) c.in-TooManyHeaders.is)) in
    unless_full c.args.bytes.now c.args.most c.unless_full-in-TooManyHeaders.result c.requires (none_after c.args.bytes.now never) (inr many) (λ full. never) c.unless_full-in-TooManyHeaders.ensures

pub returns-in_default : goal.returns-in_default
returns-in_default c =
    let never = subst NeverHasRequest c.front_of-front.ensures (c.in-Err.ensures.invalid c.in_default.not-TooManyHeaders) in
    inl (
      (
        never_after c.args.bytes.now c.args.most (rw c.front_of-front.ensures at c.in-Err.ensures.no_room),
        inl (never_request c.args.bytes.now c.args.most never),
      ),
      refl,
    )
