use Rattle.std.proofs.Common.{◌∙◌, take, ap, sym}
use Rattle.oai_places.specs.Pages.{size_of}
use Rattle.oai_places.proofs.PageLemmas.{size_of-nil}
use Rattle.oai_places.proofs.entries.Entries.start.Goals as goal

pub returns-then-at-eq0 : goal.returns-then-at-eq0
returns-then-at-eq0 c = sym (ap (λ n. size_of (take n c.args.self.now)) c.if-at-eq0.true ∙ size_of-nil)
