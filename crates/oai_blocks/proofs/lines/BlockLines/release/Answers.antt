use Rattle.std.proofs.Common.{◌≡◌, ◌∙◌, ℕ, List, [], ◌∷◌, ◌++◌, length, refl, arith, ap, subst, sym}
use Rattle.std.proofs.lemmas.List.{length-append, nil_from_length}
use Rattle.oai_blocks.specs.Blocks.{AreBlocked, steps_for}
use Rattle.oai_blocks.proofs.TimesLemmas.{times-same}
use Rattle.oai_blocks.proofs.WaitingLemmas.{ended, kept_lines, last_named, less_blocked, steps-nil, steps-push}
use Rattle.oai_blocks.proofs.lines.BlockLines.release.Goals as goal

pub returns-in_default-clause-steps : goal.returns-in_default-clause-steps
returns-in_default-clause-steps g c =
    let self = c.args.self.now in
    let left : c.pop.new.self.items ≡ [] = nil_from_length c.pop.new.self.items (omega (arith, c.in_default.ensures.cases, c.pop.new.self.ok.0)) in
    let was : self.waiting.items ≡ [] = nil_from_length self.waiting.items (omega (arith, c.in_default.ensures.cases, self.waiting.ok.0)) in
    let before : steps_for self.waiting.items ≡ steps_for [] = ap steps_for was in
    let after : steps_for c.pop.new.self.items ≡ steps_for [] = ap steps_for left in
    omega (arith, before, after, steps-nil)

pub invariant_of-self-in_default-pop-clause-blocked : goal.invariant_of-self-in_default-pop-clause-blocked
invariant_of-self-in_default-pop-clause-blocked g c =
    let self = c.args.self.now in
    let rest = c.pop.new.self.items in
    let none : c.line.inside.numbers.items ≡ [] = nil_from_length c.line.inside.numbers.items (omega (arith, c.in_default-pop.ensures.cases, c.line.inside.numbers.ok.0)) in
    let line : c.in-Some.line ≡ [] = sym c.line.view_is ∙ none in
    let waiting : self.waiting.items ≡ rest ++ [] ∷ [] = c.in-Some.ensures.items ∙ ap (λ (l : List ℕ). rest ++ l ∷ []) line in
    ended self.blocks.slots self.lines.slots rest (subst (λ (w : List (List ℕ)). AreBlocked self.blocks.slots self.lines.slots w) waiting self.blocked)

pub returns-in_default-pop-clause-steps : goal.returns-in_default-pop-clause-steps
returns-in_default-pop-clause-steps g c =
    let self = c.args.self.now in
    let rest = c.pop.new.self.items in
    let none : c.line.inside.numbers.items ≡ [] = nil_from_length c.line.inside.numbers.items (omega (arith, c.in_default-pop.ensures.cases, c.line.inside.numbers.ok.0)) in
    let line : c.in-Some.line ≡ [] = sym c.line.view_is ∙ none in
    let waiting : self.waiting.items ≡ rest ++ [] ∷ [] = c.in-Some.ensures.items ∙ ap (λ (l : List ℕ). rest ++ l ∷ []) line in
    let before : steps_for self.waiting.items ≡ steps_for (rest ++ [] ∷ []) = ap steps_for waiting in
    let nothing : length {A = ℕ} [] ≡ 0 = refl in
    omega (arith, before, steps-push rest [], nothing)

pub drop_name-requires : goal.drop_name-requires
drop_name-requires g c =
    let self = c.args.self.now in
    let rest = c.pop.new.self.items in
    let front = c.pop-2.new.self.items in
    let n = c.in-Some-pop.number in
    let is : c.line.inside.numbers.items ≡ front ++ n ∷ [] = c.in-Some-pop.ensures.items in
    let line : c.in-Some.line ≡ front ++ n ∷ [] = sym c.line.view_is ∙ is in
    let waiting : self.waiting.items ≡ rest ++ (front ++ n ∷ []) ∷ [] = c.in-Some.ensures.items ∙ ap (λ (l : List ℕ). rest ++ l ∷ []) line in
    let h = subst (λ (w : List (List ℕ)). AreBlocked self.blocks.slots self.lines.slots w) waiting self.blocked in
    last_named self.blocks.slots self.blocks.slots self.lines.slots rest front n h [] [] (times-same n)

pub invariant_of-self-2-clause-blocked : goal.invariant_of-self-2-clause-blocked
invariant_of-self-2-clause-blocked g c =
    let self = c.args.self.now in
    let rest = c.pop.new.self.items in
    let front = c.pop-2.new.self.items in
    let n = c.in-Some-pop.number in
    let is : c.line.inside.numbers.items ≡ front ++ n ∷ [] = c.in-Some-pop.ensures.items in
    let line : c.in-Some.line ≡ front ++ n ∷ [] = sym c.line.view_is ∙ is in
    let waiting : self.waiting.items ≡ rest ++ (front ++ n ∷ []) ∷ [] = c.in-Some.ensures.items ∙ ap (λ (l : List ℕ). rest ++ l ∷ []) line in
    let h = subst (λ (w : List (List ℕ)). AreBlocked self.blocks.slots self.lines.slots w) waiting self.blocked in
    subst (λ (w : List (List ℕ)). AreBlocked c.drop_name.new.blocks.slots self.lines.slots w) (sym c.push_reserved.ensures.items)
    (less_blocked self.blocks.slots c.drop_name.new.blocks.slots self.lines.slots rest front n h _ _ c.drop_name.ensures.turns)

pub returns-clause-lines : goal.returns-clause-lines
returns-clause-lines g c v =
    let self = c.args.self.now in
    let rest = c.pop.new.self.items in
    let front = c.pop-2.new.self.items in
    let n = c.in-Some-pop.number in
    let is : c.line.inside.numbers.items ≡ front ++ n ∷ [] = c.in-Some-pop.ensures.items in
    let line : c.in-Some.line ≡ front ++ n ∷ [] = sym c.line.view_is ∙ is in
    let waiting : self.waiting.items ≡ rest ++ (front ++ n ∷ []) ∷ [] = c.in-Some.ensures.items ∙ ap (λ (l : List ℕ). rest ++ l ∷ []) line in
    let h = subst (λ (w : List (List ℕ)). AreBlocked self.blocks.slots self.lines.slots w) waiting self.blocked in
    kept_lines self.blocks.slots c.drop_name.new.blocks.slots self.lines.slots rest front n h _ _ c.drop_name.ensures.turns v

pub returns-clause-steps : goal.returns-clause-steps
returns-clause-steps g c =
    let self = c.args.self.now in
    let rest = c.pop.new.self.items in
    let front = c.pop-2.new.self.items in
    let n = c.in-Some-pop.number in
    let is : c.line.inside.numbers.items ≡ front ++ n ∷ [] = c.in-Some-pop.ensures.items in
    let line : c.in-Some.line ≡ front ++ n ∷ [] = sym c.line.view_is ∙ is in
    let waiting : self.waiting.items ≡ rest ++ (front ++ n ∷ []) ∷ [] = c.in-Some.ensures.items ∙ ap (λ (l : List ℕ). rest ++ l ∷ []) line in
    let before : steps_for self.waiting.items ≡ steps_for (rest ++ (front ++ n ∷ []) ∷ []) = ap steps_for waiting in
    let after : steps_for c.push_reserved.new.self.items ≡ steps_for (rest ++ front ∷ []) = ap steps_for c.push_reserved.ensures.items in
    omega (arith, before, after, steps-push rest (front ++ n ∷ []), steps-push rest front, length-append front (n ∷ []))
