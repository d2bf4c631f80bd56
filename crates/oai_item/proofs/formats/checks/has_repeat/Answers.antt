use Rattle.std.proofs.Common.{◌≡◌, ◌∙◌, ap, sym, subst, List, ℕ, [], ◌∷◌, ◌++◌, ◌+◌, true, false, take}
use Rattle.std.specs.List.{list_any}
use Rattle.std.specs.Str.{bytes_eq}
use Rattle.std.proofs.lemmas.Bool.{not-false, not-true, or_from}
use Rattle.std.proofs.lemmas.List.{take_more}
use Rattle.oai_item.specs.Rules.{has_repeat}
use Rattle.oai_item.proofs.Repeats.{has_repeat_at, has_repeat-push, seen_more}
use Rattle.oai_item.proofs.formats.checks.has_repeat.Goals as goal

-- the text was met before, at an earlier place
pub returns-then-not-branch : goal.returns-then-not-branch
returns-then-not-branch c =
    let texts : List (List ℕ) = c.args.texts.now in
    let met : list_any (bytes_eq c.as_str.result.now) (take c.loop-text.text-index texts) ≡ true = sym (c.loop-text.invariant.seen c.as_str.result.now) ∙ not-false _ (sym c.in_ok-insert.ensures.added ∙ c.if-not-branch.true) in
    let P : List ℕ → Type 0 = λ text. list_any (bytes_eq text) (take c.loop-text.text-index texts) ≡ true in
    sym (has_repeat_at texts c.loop-text.text-index c.text-item.result c.loop-text-test.true (subst P (c.as_str.ensures ∙ c.text-item.is) met))

-- the text is new
pub loop-text-preserved : goal.loop-text-preserved
loop-text-preserved c =
    let texts : List (List ℕ) = c.args.texts.now in
    let front : List (List ℕ) = take c.loop-text.text-index texts in
    let one_more : front ++ c.as_str.result.now ∷ [] ≡ take (c.loop-text.text-index + 1) texts = ap (λ (text : List ℕ). front ++ text ∷ []) (c.as_str.ensures ∙ c.text-item.is) ∙ sym (take_more texts c.loop-text.text-index c.text-item.result c.loop-text-test.true) in
    let new : list_any (bytes_eq c.as_str.result.now) front ≡ false = sym (c.loop-text.invariant.seen c.as_str.result.now) ∙ not-true _ (sym c.in_ok-insert.ensures.added ∙ c.if-not-branch.false) in
    record {
      seen = λ q. seen_more c.loop-text.seen c.insert.new.self c.as_str.result front c.in_ok-insert.ensures.updates c.loop-text.invariant.seen q ∙ ap (list_any (bytes_eq q)) one_more;
      apart = sym (ap has_repeat one_more) ∙ has_repeat-push front c.as_str.result.now ∙ or_from _ _ new c.loop-text.invariant.apart;
    }
