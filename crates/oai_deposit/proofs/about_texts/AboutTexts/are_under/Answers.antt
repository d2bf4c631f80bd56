use Rattle.oai_deposit.proofs.AboutLemmas.{those_are}
use Rattle.oai_deposit.proofs.about_texts.AboutTexts.are_under.Goals as goal

pub returns-in-Some : goal.returns-in-Some
returns-in-Some c = rw (← c.self.view_is, c.in-Some.is) (c.are_names_under.ensures _ (those_are _ (rw c.in-Some.is at c.self.invariant)))
