use Rattle.std.proofs.Common.{List, ◌∙◌, subst, ℕ}
use Rattle.std.specs.List.{All}
use Rattle.oai_item.specs.Formats.{AreRepositoryFormats}
use Rattle.oai_item.specs.declared.formats.Format.{Format}
use Rattle.oai_headline.specs.XmlAnswers.{HasUtf8Texts, IsUtf8Text}
use Rattle.oai_headline.proofs.ConfigTexts.{config_legal}
use Rattle.oai_headline.proofs.texts.is_legal.Goals as goal

pub returns : goal.returns
returns c =
    config_legal c.args.config.now c.base-base.ensures.valid (subst AreRepositoryFormats c.formats.ensures c.len-count.ensures.valid) (subst IsUtf8Text c.base-base.ensures.base c.is_text.ensures)
    (subst IsUtf8Text c.repository_name-name.ensures.name c.is_text-2.ensures) (subst (λ (texts : List (List ℕ)). All IsUtf8Text texts) c.addresses.ensures.addresses c.are_texts.ensures)
    (subst (λ (formats : List Format). All HasUtf8Texts formats) (c.as_slice.ensures ∙ c.formats-2.ensures) c.are_formats.ensures)
