-- The message of a server at a stop, and its exit status. This repository's own.
use Rattle.std.specs.Prelude.{ℕ, ℤ, List, ◌++◌, codes, decimal, pos, string_bytes}
use Rattle.oai_startup.specs.Stops as other
use Rattle.oai_item.specs.declared.faults.Fault.{Fault}
use Rattle.oai_item.specs.declared.faults.Fault.TheVariants.{Damaged as IsDamaged, Device, NoMemory, TooManyPages}
use Rattle.oai_time.specs.Clock.{tick}
use Rattle.oai_time.specs.TimeTexts.{second_text}
use Rattle.oai_archive.specs.declared.stop.ServerStop.{ServerStop}
use Rattle.oai_archive.specs.declared.stop.ServerStop.TheVariants.{CannotOpen, CannotWrite, Common, Damaged, InUse, Jumped, NotOurs, NoRepository, OfVersion, OtherConfig, Performing}
use Rattle.oai_archive.specs.declared.stop.Aspect.{Aspect}
use Rattle.oai_archive.specs.declared.stop.Aspect.TheVariants.{Contents, Deleted, Earliest, Granularity, Name}

-- a fault, in words
abbrev pub store_fault_text : Fault → List ℕ
store_fault_text NoMemory = codes "out of memory"
store_fault_text Device = codes "the device failed"
store_fault_text IsDamaged = codes "the stored items are damaged"
store_fault_text TooManyPages = codes "there are too many pages"

unfoldable pub performing_fails : List ℕ
performing_fails = codes ": performing it fails: "

-- a second as a datestamp: one before 1970 as the first of 1970, and one after the year 9998 as its last
abbrev pub jump_text : ℤ → List ℕ
jump_text second = second_text (tick (pos 0) second)

-- an aspect of a repository that must not change, in a word
abbrev pub aspect_word : Aspect → List ℕ
aspect_word Name = codes "name"
aspect_word Granularity = codes "granularity"
aspect_word Earliest = codes "earliestDatestamp"
aspect_word Deleted = codes "deletedRecord"
aspect_word Contents = codes "sets and items"

unfoldable pub config_differs : List ℕ
config_differs = codes "config: differs from the journal: repository "

abbrev pub server_stop_text : ServerStop → List ℕ
server_stop_text (Common cause) = other.stop_text cause
server_stop_text CannotOpen = codes "folder: cannot open"
server_stop_text InUse = codes "folder: in use"
server_stop_text NotOurs = codes "journal: not of this program"
server_stop_text (OfVersion version) = codes "journal: of version " ++ decimal version
server_stop_text (Damaged at) = codes "journal: damaged at byte " ++ decimal at
server_stop_text (Performing number fault) = codes "journal: record " ++ decimal number ++ performing_fails ++ store_fault_text fault
server_stop_text CannotWrite = codes "journal: cannot write"
server_stop_text (Jumped second) = codes "clock: jumped to " ++ jump_text second
server_stop_text (OtherConfig difference) = config_differs ++ (string_bytes difference.repository ++ (codes ": " ++ aspect_word difference.aspect))
server_stop_text NoRepository = codes "dump: no such repository"

-- 2 if the configuration is invalid or no repository has the name, and 1 for all else
abbrev pub server_status_of : ServerStop → ℕ
server_status_of (Common cause) = other.status_of cause
server_status_of CannotOpen = 1
server_status_of InUse = 1
server_status_of NotOurs = 1
server_status_of (OfVersion version) = 1
server_status_of (Damaged at) = 1
server_status_of (Performing number fault) = 1
server_status_of CannotWrite = 1
server_status_of (Jumped second) = 1
server_status_of (OtherConfig difference) = 2
server_status_of NoRepository = 2
