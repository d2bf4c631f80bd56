-- Fault by fault.
use Rattle.std.proofs.Common.{◌≡◌, refl}
use Rattle.oai_settings.specs.Settings as settings
use Rattle.oai_settings.specs.declared.settings.ConfigFault.{ConfigFault}
use Rattle.oai_settings.specs.declared.settings.ConfigFault.TheVariants as alone
use Rattle.oai_config.specs.Reading.{read_fault_text}
use Rattle.oai_config.specs.ReadingWork.{read_fault_of}
use Rattle.oai_config.proofs.faults.fault_law.Goals as goal

same_text : (fault : ConfigFault) → settings.fault_text fault ≡ read_fault_text (read_fault_of fault)
same_text alone.BadShape = refl
same_text alone.BadName = refl
same_text alone.BadFormat = refl
same_text alone.BadDate = refl
same_text alone.BadNumber = refl
same_text alone.NoMemory = refl

pub returns : goal.returns
returns c = same_text
