-- The results of reading and checking the configuration of the program: this repository's own.
use Rattle.std.specs.Prelude.{◌≡◌, ◌≢◌, ◌⊎◌, ℕ, List, [], ◌++◌, length, codes, decimal, Result, Ok, Err}
use Rattle.oai_item.specs.declared.forms.Forms.{Forms}
use Rattle.oai_config.specs.Configs.{HostConfig}
use Rattle.oai_config.specs.Reading.{IsRead}
use Rattle.oai_config.specs.Warnings.{warnings_of}
use Rattle.oai_config.specs.declared.faults.ReadFault.TheVariants as fault
use Rattle.oai_startup.specs.declared.stop.Stop.{Stop}
use Rattle.oai_startup.specs.declared.stop.Stop.TheVariants.{BadConfig, CannotRead, NoMemory, OutputFault}

-- the configuration in the text, of records of these forms; or its fault; or out of memory
abbrev pub IsConfigIn : Forms → List ℕ → Result HostConfig Stop → Type 0
IsConfigIn forms text (Ok config) = IsRead forms text (Ok config)
IsConfigIn forms text (Err (BadConfig cause)) = IsRead forms text (Err cause) × (cause ≢ fault.NoMemory)
IsConfigIn forms text (Err stop) = stop ≡ NoMemory

-- these are the warnings of the configuration in the text
abbrev pub AreWarningsIn : Forms → List ℕ → List ℕ → Type 0
AreWarningsIn forms text warnings = (config : HostConfig) × IsRead forms text (Ok config) × (warnings ≡ warnings_of config)

-- a text could not be read, or memory ran out
abbrev pub IsConfigurationUnread : Stop → Type 0
IsConfigurationUnread stop = (stop ≡ CannotRead) ⊎ (stop ≡ NoMemory)

-- what is written of a configuration of that many repositories
abbrev pub checked_line : ℕ → List ℕ
checked_line repositories = codes "ok " ++ decimal repositories ++ codes "\n"

-- the text is a configuration, and the line of its repositories was written; or it is one, and the output failed; or it
-- has a fault, or memory ran out, and nothing was written
abbrev pub IsChecked : Forms → List ℕ → Result Unit Stop → (List ℕ → Type 0) → Type 0
IsChecked forms text (Ok done) Writes = (config : HostConfig) × IsRead forms text (Ok config) × Writes (checked_line (length config.repositories))
IsChecked forms text (Err OutputFault) Writes = (config : HostConfig) × IsRead forms text (Ok config)
IsChecked forms text (Err stop) Writes = IsConfigIn forms text (Err stop) × Writes []
