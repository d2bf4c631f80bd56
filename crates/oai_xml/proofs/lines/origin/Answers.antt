use Rattle.std.proofs.Common.{◌≡◌, ◌∙◌, ◌+◌, ◌&&◌, ◌<◌, ℕ, Bool, false, eqb, List, ◌∷◌, length, drop, get_or, sym, ap, add-zero}
use Rattle.std.proofs.lemmas.Bool.{cond-false}
use Rattle.std.proofs.lemmas.List.{drop_more}
use Rattle.oai_xml.specs.Documents.{origin}
use Rattle.oai_xml.proofs.lines.origin.Goals as goal

none_before : (cr : Bool) (b : ℕ) (bytes : List ℕ) → (cr && eqb b 10) ≡ false → origin cr (b ∷ bytes) 0 ≡ 0
unfolding origin
none_before cr b bytes other = cond-false (cr && eqb b 10) _ _ other

none_there : (cr : Bool) (bytes : List ℕ) (i : ℕ) → i < length bytes → (cr && eqb (get_or bytes i 0) 10) ≡ false → origin cr (drop i bytes) 0 ≡ 0
none_there cr bytes i within other = ap (λ w. origin cr w 0) (drop_more bytes i 0 within) ∙ none_before cr (get_or bytes i 0) (drop (i + 1) bytes) other

pub returns-then-left-eq0 : goal.returns-then-left-eq0
returns-then-left-eq0 c =
    sym (c.loop-i.invariant ∙ ap (λ n. c.loop-i.i + origin c.loop-i.behind_cr (drop c.loop-i.i c.args.bytes.now) n) c.if-left-eq0.true
    ∙ ap (λ n. c.loop-i.i + n) (none_there c.loop-i.behind_cr c.args.bytes.now c.loop-i.i c.loop-i-test.true (sym c.is_second.ensures ∙ c.if-not-is_second.true)) ∙ add-zero c.loop-i.i)
