-- The record with that head and the bytes before the last one is the only one whose frame the bytes can be.
use Rattle.std.proofs.Common.{◌≡◌, ◌∙◌, ℕ, List, Some, Bool, true, false, length, refl, sym, ap}
use mathlib.Core.Bool.{beq, not}
use Rattle.std.specs.Option.{option_copied}
use Rattle.std.proofs.lemmas.Bool.{false≢true}
use Rattle.oai_journal.specs.Frames.{body_in}
use Rattle.oai_journal.specs.Records.{is_first_kind}
use Rattle.oai_journal.proofs.FrameLemmas.{length_body}
use Rattle.oai_journal.proofs.ReadingLemmas.{checks_none, checks_refused, checks_spelled}
use Rattle.oai_journal.proofs.readings.check_frame.Goals as goal

same_bool : (a b : Bool) → not (beq a b) ≡ false → a ≡ b
same_bool true true h = refl
same_bool true false h = absurd (false≢true (sym h))
same_bool false true h = absurd (false≢true (sym h))
same_bool false false h = refl

other_bool : (a b : Bool) → not (beq a b) ≡ true → a ≡ b → ⊥
other_bool true true h is = false≢true h
other_bool true false h is = false≢true (sym is)
other_bool false true h is = false≢true is
other_bool false false h is = false≢true h

pub returns-then-is_first-first-clause-checked : goal.returns-then-is_first-first-clause-checked
returns-then-is_first-first-clause-checked c = λ h is_head heads.
    checks_refused c.args.first c.args.before c.args.bytes.now h heads
    (λ kind. other_bool c.is_first.result c.args.first c.if-is_first-first.true (c.is_first.ensures ∙ ap is_first_kind is_head.kind ∙ kind))

-- the bytes before the last one, as many as the head says
body_read : (bytes body : List ℕ) (size : ℕ) → Some body ≡ body_in size bytes → body_in (length body) bytes ≡ Some body
body_read bytes body size is = ap (λ n. body_in n bytes) (length_body size bytes body (sym is)) ∙ sym is

pub frame_digest-requires-clause-read : goal.frame_digest-requires-clause-read
frame_digest-requires-clause-read c =
    body_read c.args.bytes.now c.in-Some.body.now c.args.head.size (sym (ap option_copied c.in-Some.is) ∙ c.body_in.ensures)

pub returns-in-None-clause-checked : goal.returns-in-None-clause-checked
returns-in-None-clause-checked c = λ h is_head heads.
    checks_none c.args.first c.args.before c.args.bytes.now h heads
    (ap (λ n. body_in n c.args.bytes.now) (sym is_head.size) ∙ sym c.body_in.ensures ∙ ap option_copied c.in-None.is)

pub returns-in-Some-clause-checked : goal.returns-in-Some-clause-checked
returns-in-Some-clause-checked c = λ h is_head heads.
    let read : body_in h.size c.args.bytes.now ≡ Some c.in-Some.body.now =
    ap (λ n. body_in n c.args.bytes.now) (sym is_head.size) ∙ sym c.body_in.ensures ∙ ap option_copied c.in-Some.is in
    let kind : is_first_kind h.kind ≡ c.args.first =
    sym (ap is_first_kind is_head.kind) ∙ sym c.is_first.ensures ∙ same_bool c.is_first.result c.args.first c.if-is_first-first.false in
    checks_spelled c.args.first c.args.before c.args.bytes.now h heads c.args.head.kind c.args.head.size c.args.out.now.items c.in-Some.body.now is_head read
    c.frame_digest.result kind c.frame_digest.ensures.spelled
