use Rattle.std.proofs.Common.{◌≡◌, ◌∙◌, ℕ, ◌++◌, ◌||◌, not, cond, List, [], ◌∷◌, take, get_or, ap, sym, arith, length, refl, ◌+◌}
use Rattle.std.specs.List.{filter, list_any}
use Rattle.std.specs.Str.{bytes_eq}
use Rattle.std.proofs.lemmas.List.{length-take-le, length_push, take_all, take_more}
use Rattle.std.proofs.lemmas.List.Folds.{list_any_more}
use Rattle.oai_item.specs.Item.{are_set_specs}
use Rattle.oai_item.specs.Membership.{distinct, is_above, reduced}
use Rattle.oai_item.specs.Reductions.{flagged}
use Rattle.oai_item.proofs.Above.{holds_more, or_false, or_last, or_turn}
use Rattle.oai_item.proofs.Flagged.{flagged-push}
use Rattle.oai_item.proofs.Kept.{kept_more}
use Rattle.oai_item.proofs.Grammars.{are_set_specs-push}
use Rattle.oai_item.proofs.reductions.which_stay.Goals as goal

pub loop-set-init : goal.loop-set-init
unfolding distinct are_set_specs
loop-set-init c = record { long = ap length c.in_ok-stay.ensures.items; kept = ap (λ flags. flagged {X = List ℕ} flags []) c.in_ok-stay.ensures.items; names = refl; out = λ q. c.in_ok-out.ensures q ∙ sym (or_false _) }

pub loop-set-preserved : goal.loop-set-preserved
loop-set-preserved c =
    let sets : List (List ℕ) = c.args.sets.now in
    let i : ℕ = c.loop-set.set-index in
    let set : List ℕ = c.set-item.result in
    let here : List ℕ = get_or sets i set in
    let place : set ≡ here = c.set-item.is in
    let key : c.as_str.result.now ≡ here = c.as_str.ensures.text ∙ place in
    let stays : c.in_ok-insert.field-0 ≡ not (list_any (bytes_eq here) (take i sets) || list_any (is_above here) sets) =
    c.in_ok-insert.ensures.added
    ∙ ap not (c.loop-set.invariant.out c.as_str.result.now ∙ or_turn (list_any (is_above c.as_str.result.now) sets) (list_any (bytes_eq c.as_str.result.now) (take i sets)))
    ∙ ap (λ t. not (list_any (bytes_eq t) (take i sets) || list_any (is_above t) sets)) key in
    let pushed : c.push.new.self.items ≡ c.loop-set.stay.items ++ c.in_ok-insert.field-0 ∷ [] = c.in_ok-push.ensures.items in
    let more : take (i + 1) sets ≡ take i sets ++ here ∷ [] = take_more sets i set c.loop-set-test.true in
    record {
      long = ap length pushed ∙ length_push c.loop-set.stay.items c.in_ok-insert.field-0 ∙ ap (λ n. n + 1) c.loop-set.invariant.long;
      kept = rw (pushed, more)
          (flagged-push {X = List ℕ} c.loop-set.stay.items (take i sets) c.in_ok-insert.field-0 here (omega (arith, c.loop-set.invariant.long, length-take-le i sets)))
          ∙ ap (λ ys. ys ++ cond c.in_ok-insert.field-0 (here ∷ []) []) c.loop-set.invariant.kept
          ∙ sym (kept_more (λ t. list_any (is_above t) sets) sets i set c.in_ok-insert.field-0 c.loop-set-test.true stays);
      names = ap are_set_specs more ∙ are_set_specs-push (take i sets) here c.loop-set.invariant.names (rw (← place) c.as_str.ensures.name);
      out = λ q.
          holds_more c.loop-set.out c.insert.new.self c.as_str.result c.in_ok-insert.ensures.updates q
          ∙ ap (λ b. bytes_eq q c.as_str.result.now || b) (c.loop-set.invariant.out q)
          ∙ ap (λ t. bytes_eq q t || (list_any (is_above q) sets || list_any (bytes_eq q) (take i sets))) key
          ∙ or_last (list_any (is_above q) sets) (list_any (bytes_eq q) (take i sets)) (bytes_eq q here)
          ∙ ap (λ b. list_any (is_above q) sets || b) (sym (list_any_more (bytes_eq q) sets i set c.loop-set-test.true));
    }

pub returns-clause-kept : goal.returns-clause-kept
unfolding reduced
returns-clause-kept c =
    let sets : List (List ℕ) = c.args.sets.now in
    let whole : take c.loop-set.set-index sets ≡ sets = take_all c.loop-set.set-index sets (omega arith) in
    ap (flagged {X = List ℕ} c.loop-set.stay.items) (sym whole)
    ∙ c.loop-set.invariant.kept
    ∙ ap (λ ts. filter (λ s. not (list_any (is_above s) sets)) (distinct ts)) whole
