-- A page that was read whole is the one that stands there.
use Rattle.std.proofs.Common.{rules, ◌∙◌, sym}
use Rattle.oai_device.proofs.WrittenLemmas.{on_ok, page_read}
use Rattle.oai_device.proofs.file.FileDevicePageDevice.read.Goals as goal

pub returns-clause-value : goal.returns-clause-value
returns-clause-value g c = on_ok _ c.counted.result (λ done honest.
    page_read _ _ _ _ _ c.start_of.ensures (search rules) c.requires (c.args.self.now.placed honest)
    (c.read_all-done.ensures.value (sym c.counted.ensures.ok ∙ done) honest))
