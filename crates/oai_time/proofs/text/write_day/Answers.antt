use Rattle.std.proofs.Common.{rules, ◌∙◌}
use Rattle.oai_time.specs.TimeTexts.{date_text, day_text}
use Rattle.oai_time.proofs.BoundLemmas.{stamp_of-IsMidnight, day_text-stamp_of}
use Rattle.oai_time.proofs.text.write_day.Goals as goal

pub returns-clause-text : goal.returns-clause-text
unfolding day_text date_text
returns-clause-text c = search rules

pub returns-clause-read : goal.returns-clause-read
returns-clause-read c = record {
  in_range = stamp_of-IsMidnight c.args.seconds c.requires;
  written = returns-clause-text c ∙ day_text-stamp_of c.args.seconds c.requires;
}
