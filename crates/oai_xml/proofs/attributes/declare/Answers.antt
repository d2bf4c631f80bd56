use Rattle.std.proofs.Common.{◌≡◌, ◌∙◌, ◌++◌, ℕ, List, sym, ap}
use Rattle.oai_xml.proofs.ReadWhole.{same_read}
use Rattle.oai_xml.proofs.TagPieces.{declares_none, declares_one}
use Rattle.oai_xml.proofs.attributes.declare.Goals as goal

pub returns-then-not-is_declaring : goal.returns-then-not-is_declaring
returns-then-not-is_declaring c = λ value rest is. declares_none c.args.name.now value c.args.scope.now.items (sym c.is_declaring.ensures ∙ c.if-not-is_declaring.true)

pub returns : goal.returns
returns c = λ value rest is.
    let v = c.in_ok-quoted.ensures.leaves in
    let same : v.0.0 ≡ value = ap (λ (w : List ℕ × List ℕ). w.0) (same_read v.0 (value, rest) (sym v.1 ∙ is)) in
    declares_one c.args.name.now c.declared_prefix.result.now value c.quoted.new.out.items c.args.scope.now.items c.push.new.self.items (sym c.is_declaring.ensures ∙ c.if-not-is_declaring.false)
    c.declared_prefix.ensures (v.2.1 ∙ ap (λ (w : List ℕ). w ++ v.0.0) c.new-namespace.ensures.items ∙ same) c.in_ok-push.ensures.items
