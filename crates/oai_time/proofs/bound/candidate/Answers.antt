use Rattle.std.proofs.Common.{rules, ◌≡◌, ℕ, ◌*◌, ◌<◌, ℤ, pos, ◌+ℤ◌, ap, arith, ◌∙◌, sym, FitsSigned, to_z, of_z, to_z-of_z, w64}
use Rattle.std.specs.Prelude.{Some}
use Rattle.std.proofs.lemmas.Int.{ints}
use Rattle.jiff.proofs.SpanFacts.{signed_arith}
use Rattle.oai_time.specs.declared.bound.Bound.TheVariants.{Day, Second}
use Rattle.oai_time.specs.Bound.{midnight_of, second_after}
use Rattle.oai_time.proofs.BoundLemmas.{by_ten, by_twenty, by_no_other}
use Rattle.oai_time.proofs.bound.candidate.Goals as goal

pub returns-in_err-days-clause-only : goal.returns-in_err-days-clause-only
returns-in_err-days-clause-only c bound b =
    let d = by_ten c.args.text.now bound c.if-text-eq10.true b in
    cc (c.in_err-days.ensures.only d.days d.below d.written)

pub returns-then-text-eq10-clause-only : goal.returns-then-text-eq10-clause-only
returns-then-text-eq10-clause-only c bound b =
    let d = by_ten c.args.text.now bound c.if-text-eq10.true b in
    let same : c.in_ok-days.days ≡ d.days = cc (c.in_ok-days.ensures.only d.days d.below d.written) in
    let fits : FitsSigned w64 c.midnight_of.result = search rules in
    let midnight = to_z-of_z fits ∙ rw same at c.midnight_of.ensures in
    ap (λ z. Some (Day z)) midnight ∙ ap Some (sym d.is)

pub returns-in_err-days-2-clause-only : goal.returns-in_err-days-2-clause-only
returns-in_err-days-2-clause-only c bound b =
    let d = by_twenty c.args.text.now bound c.if-text-eq20.true b in
    cc (c.in_err-days-2.ensures.only d.days d.below (c.split_at.ensures.front ∙ d.date))

-- the midnight and the seconds of the day add up without a wrap
sum_is : (a s : ℕ) (midnight : ℤ) → midnight ≡ second_after a → a < 315_569_520_000 → s < 86_400 → to_z w64 (of_z w64 (to_z w64 (of_z w64 midnight) +ℤ to_z w64 s)) ≡ second_after a +ℤ pos s
sum_is a s midnight is below within =
    let first : FitsSigned w64 midnight = omega (arith, signed_arith) in
    let second : to_z w64 s ≡ pos s = omega (arith, ints) in
    let both : FitsSigned w64 (midnight +ℤ pos s) = omega (arith, signed_arith) in
    rw (to_z-of_z first, second) (to_z-of_z both ∙ ap (λ z. z +ℤ pos s) is)

pub returns-then-text-eq20-clause-only : goal.returns-then-text-eq20-clause-only
returns-then-text-eq20-clause-only c bound b =
    let d = by_twenty c.args.text.now bound c.if-text-eq20.true b in
    let same : c.in_ok-days-2.days ≡ d.days = cc (c.in_ok-days-2.ensures.only d.days d.below (c.split_at.ensures.front ∙ d.date)) in
    let time = c.second_of_day.ensures.only d.second d.within (c.split_at.ensures.back ∙ d.time) in
    let midnight = rw same at c.midnight_of-then-text-eq20.ensures in
    let second = sum_is (86_400 * d.days) c.second_of_day.result c.midnight_of-then-text-eq20.result midnight (omega (arith, d.below)) c.second_of_day.ensures.in_range in
    let shown = ap (λ n. midnight_of d.days +ℤ pos n) time in
    ap (λ z. Some (Second z)) (second ∙ shown) ∙ ap Some (sym d.is)

pub returns-clause-only : goal.returns-clause-only
returns-clause-only c bound b = absurd (by_no_other c.args.text.now bound c.if-text-eq10.false c.if-text-eq20.false b)
