use Rattle.std.proofs.Common.{refl}
use Rattle.oai_config.specs.ReadingWork.{texts_from}
use Rattle.oai_config.proofs.repositories.texts_of.Goals as goal

pub returns : goal.returns
unfolding texts_from
returns c =
    rw (c.in_ok-read_text.ensures, c.in_ok-read_text-2.ensures, c.in_ok-read_texts.ensures, c.in_ok-read_text-3.ensures) refl
