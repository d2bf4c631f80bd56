-- Bytes that were read are those of the page that stands there.
use Rattle.std.proofs.Common.{rules, ◌∙◌, sym}
use Rattle.oai_device.proofs.WrittenLemmas.{on_ok, range_read}
use Rattle.oai_device.proofs.file.FileDevicePageDevice.read_range.Goals as goal

pub returns-clause-value : goal.returns-clause-value
returns-clause-value g c = on_ok _ c.counted.result (λ done honest.
    range_read _ _ _ _ _ _ c.start_of.ensures (search rules) c.requires.written (c.args.self.now.placed honest)
    (c.read_all-done.ensures.value (sym c.counted.ensures.ok ∙ done) honest))
