use Rattle.std.specs.Option.{option_map}
use Rattle.serde_json.specs.View.{view}
use Rattle.oai_item.specs.declared.refusals.LineRefusal.TheVariants.{BadCommand}
use Rattle.oai_deposit.proofs.AboutLemmas.{finds_gives, texts_found}
use Rattle.oai_deposit.proofs.about_texts.AboutTexts.texts.Goals as goal

pub returns : goal.returns
returns c =
    finds_gives BadCommand _ c.texts_under.result _ _
    (rw (← c.self.view_is) (texts_found (option_map (λ member. view member.now) c.self.inside.member) c.args.prefix.now c.self.invariant)) c.texts_under.ensures
