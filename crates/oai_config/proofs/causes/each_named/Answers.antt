-- One repository more, with no fault or with some; and when all were taken.
use Rattle.std.proofs.Common.{◌≡◌, ◌∙◌, ◌++◌, List, [], ◌∷◌, length, refl, sym, ap, arith}
use Rattle.std.proofs.lemmas.Bool.{false≢true}
use Rattle.std.specs.Vec.Iter.{into_iter_items}
use Rattle.oai_config.proofs.NamedLemmas.{is_lowest, with_good, with_bad, at_last_good, at_last_bad}
use Rattle.oai_config.proofs.causes.each_named.Goals as goal

nothing_left : {X : Type 0} (l : List X) → length l ≡ 0 → l ≡ []
nothing_left [] h = refl
nothing_left (x ∷ xs) h = absurd (omega arith)

pub loop-settings-preserved-in-Continue-1 : goal.loop-settings-preserved-in-Continue-1
loop-settings-preserved-in-Continue-1 c =
    let at = c.loop-settings in
    let steps = c.in-Some.ensures.steps.0 in
    let so_far = with_good c.args.found at.lowest at.entries.items c.args.repositories at.invariant.0 _ _ c.in-Some.settings c.in-Ok.one at.invariant.1 steps c.in-Ok.ensures in
    (at.invariant.0 ++ c.in-Some.settings ∷ [], rw c.in_ok-push-in-Ok.ensures.items so_far, let was = at.invariant.2 in let gone = c.in-Some.ensures.steps.1 in let short = ap length steps in omega arith)

pub loop-settings-preserved : goal.loop-settings-preserved
loop-settings-preserved c =
    let at = c.loop-settings in
    let steps = c.in-Some.ensures.steps.0 in
    let so_far = with_bad c.args.found at.lowest at.entries.items c.args.repositories at.invariant.0 _ _ c.in-Some.settings c.in-Err.fault at.invariant.1 steps (is_lowest c.in-Some.settings c.in-Err.fault (λ memory. false≢true (rw memory at c.if-eq.ensures)) c.in-Err.ensures) in
    (at.invariant.0 ++ c.in-Some.settings ∷ [], rw c.lower.ensures so_far, let was = at.invariant.2 in let gone = c.in-Some.ensures.steps.1 in let short = ap length steps in omega arith)

pub returns-in-None-lowest : goal.returns-in-None-lowest
returns-in-None-lowest c causes first =
    let at = c.loop-settings in
    let none = nothing_left (into_iter_items at.settings-iterator) (sym at.invariant.2 ∙ c.in-None.ensures.steps.0) in
    rw c.new.ensures (at_last_good c.args.found at.entries.items c.args.repositories at.invariant.0 _ (rw (← c.in-None-lowest.is) at.invariant.1) none causes first)

pub returns-in-Some-lowest : goal.returns-in-Some-lowest
returns-in-Some-lowest c causes first =
    let at = c.loop-settings in
    let none = nothing_left (into_iter_items at.settings-iterator) (sym at.invariant.2 ∙ c.in-None.ensures.steps.0) in
    at_last_bad c.args.found c.in-Some-lowest.fault at.entries.items c.args.repositories at.invariant.0 _ (rw (← c.in-Some-lowest.is) at.invariant.1) none causes first
