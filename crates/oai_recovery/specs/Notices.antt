-- The messages of a server while it runs. This repository's own.
use Rattle.std.specs.Prelude.{ℕ, List, ◌++◌, codes, decimal}
use Rattle.oai_recovery.specs.declared.notices.Notice.{Notice}
use Rattle.oai_recovery.specs.declared.notices.Notice.TheVariants.{Clock, Failed, OldVersion, OtherConfig, Recovered, Recovering}
use Rattle.oai_archive.specs.Stops.{jump_text, store_fault_text}

unfoldable pub last_record : List ℕ
last_record = codes ", and the last record is of "

abbrev pub notice_text : Notice → List ℕ
notice_text (Recovering bytes all records) =
    codes "recovering: " ++ decimal bytes ++ codes " of " ++ decimal all ++ codes " bytes, " ++ decimal records ++ codes " records"
notice_text (Recovered records bytes seconds) =
    codes "recovered: " ++ decimal records ++ codes " records, " ++ decimal bytes ++ codes " bytes, " ++ decimal seconds ++ codes " s"
notice_text (Clock now last) = codes "clock: at " ++ jump_text now ++ last_record ++ jump_text last
notice_text OtherConfig = codes "config: another one: the open lists have ended"
notice_text OldVersion = codes "journal: of version 1: no elements until a checkpoint"
notice_text (Failed count fault) = codes "answered 500: " ++ decimal count ++ codes " times: " ++ store_fault_text fault
