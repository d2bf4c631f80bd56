use Rattle.std.proofs.Common.{◌≡◌, Bool, true, false, refl, sym}
use Rattle.std.specs.Bool.{Decides, IsTrue}
use Rattle.std.proofs.lemmas.Slice.Eq.{bytes_eq-Decides}
use Rattle.oai_front.specs.Fields.{is_alike}
use Rattle.oai_front.proofs.fields.is_alike.Goals as goal

-- two tests of one fact are one
same : {P : Type 0} (a b : Bool) → (IsTrue a → P) → (P → IsTrue a) → Decides b P → a ≡ b
same true b f g h = sym (h.1 (f refl))
same false true f g h = g (h.0 refl)
same false false f g h = refl

pub returns : goal.returns
unfolding is_alike
returns c = same _ _ c.eq_ignore_ascii_case.ensures.test.0 c.eq_ignore_ascii_case.ensures.test.1 (bytes_eq-Decides _ _)
