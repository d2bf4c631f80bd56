use Rattle.std.proofs.Common.{◌∙◌, ◌++◌, ◌∷◌, [], List, ℕ, ap, sym}
use Rattle.oai_xml.specs.Whole.{has_default}
use Rattle.oai_xml.proofs.TagPieces.{added_none, added_one}
use Rattle.oai_xml.proofs.tags.complete.Goals as goal

pub returns-then-has_default : goal.returns-then-has_default
returns-then-has_default c =
    added_none c.args.names.now.items c.args.scope.now.items c.args.out.now.items (ap has_default (sym c.deref.ensures.value) ∙ sym c.has_default.ensures ∙ c.if-has_default.true)

pub returns : goal.returns
returns c =
    added_one c.args.names.now.items c.push.new.self.items c.args.scope.now.items c.push-2.new.self.items c.args.out.now.items c.extend_from_slice.new.self.items
    (ap has_default (sym c.deref.ensures.value) ∙ sym c.has_default.ensures ∙ c.if-has_default.false) c.in_ok-push.ensures.items
    (c.in_ok-push-2.ensures.items ∙ ap (λ (w : List ℕ). c.args.scope.now.items ++ record { prefix = []; namespace = w } ∷ []) c.new.ensures.items) c.in_ok-extend_from_slice.ensures.items
