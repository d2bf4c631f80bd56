-- What was performed, and parts of a state, as log records; and the state after their replay. This repository's own.
use Rattle.std.specs.Prelude.{ℕ, ℤ, max, length, List, [], ◌∷◌, Option, None, Some}
use Rattle.oai_replay.specs.Parts.{PartState}
use Rattle.oai_replay.specs.Redone.{own_call}
use Rattle.oai_http.specs.declared.exchanges.Call.{Call}
use Rattle.oai_http.specs.declared.exchanges.Exchange.{Exchange}
use Rattle.oai_replay.specs.declared.replays.Performed.{Performed}
use Rattle.oai_replay.specs.declared.parts.PartKind.{PartKind}
use Rattle.oai_replay.specs.declared.parts.PartKind.TheVariants.{Begin as Begins, Gone as Goes, Item as HasItem, List as HasList, Set as HasSet}
use Rattle.oai_http.specs.declared.targets.Endpoint.{Endpoint}
use Rattle.oai_http.specs.declared.targets.Endpoint.TheVariants.{Deposits, Requests}
use Rattle.oai_journal.specs.Records.{Entry}
use Rattle.oai_journal.specs.declared.records.Kind.{Kind}
use Rattle.oai_journal.specs.declared.records.Kind.TheVariants.{Begin, Deposit, Gone, Item, List as OpenList, Oai, Set, Tick}

-- a deposit, or a request; one without arguments only moves the clock, and is a tick
abbrev pub kind_of : Endpoint → List ℕ → Kind
kind_of Deposits lines = Deposit
kind_of Requests [] = Tick
kind_of Requests (byte ∷ bytes) = Oai

-- the maximum length of a record of the exchange: that of its target or of its body
abbrev pub most_in : Exchange → ℕ
most_in exchange = max (length exchange.target) (length exchange.body.now)

-- what was performed at the moment, as a record
abbrev pub log_entry_of : ℤ → Performed → Entry
log_entry_of moment performed = record {
  moment = moment;
  kind = kind_of performed.endpoint performed.bytes.now;
  name = performed.name.now;
  body = performed.bytes.now;
}

-- one record of what was performed, or none if nothing was
abbrev pub log_entries_of : ℤ → Option Performed → List Entry
log_entries_of moment None = []
log_entries_of moment (Some performed) = log_entry_of moment performed ∷ []

-- what a record of a kind was performed at
abbrev pub endpoint_of_kind : Kind → Endpoint
endpoint_of_kind Deposit = Deposits
endpoint_of_kind other = Requests

-- the call that replays a record
abbrev pub call_in : Entry → Call
call_in entry = own_call entry.moment (endpoint_of_kind entry.kind) entry.name entry.body

-- the kind of the record of a part
abbrev pub kind_of_part : PartKind → Kind
kind_of_part Begins = Begin
kind_of_part HasSet = Set
kind_of_part HasItem = Item
kind_of_part HasList = OpenList
kind_of_part Goes = Gone

-- a part as a record
abbrev pub entry_of_part : PartState → Entry
entry_of_part part = record { moment = part.moment; kind = kind_of_part part.kind; name = part.name; body = part.bytes }

-- what a record is a part about, if it is of a part
abbrev pub part_kind : Kind → Option PartKind
part_kind Begin = Some Begins
part_kind Set = Some HasSet
part_kind Item = Some HasItem
part_kind OpenList = Some HasList
part_kind Gone = Some Goes
part_kind other = None

-- the part that the record holds
abbrev pub part_of_entry : PartKind → Entry → PartState
part_of_entry kind entry = record { kind = kind; moment = entry.moment; name = entry.name; bytes = entry.body }

-- the state after a call that is replayed, and after a part that is restored
pub record Leaving (K : Type 0) : Type 0 where
  pub redone : K → Call → K
  pub restored : K → PartState → K

-- the state after a record: a part is restored, and all else is a call that is replayed
abbrev pub left_as : {K : Type 0} → Leaving K → K → Entry → Option PartKind → K
left_as leaving kept entry (Some kind) = leaving.restored kept (part_of_entry kind entry)
left_as leaving kept entry None = leaving.redone kept (call_in entry)

abbrev pub left_by_entry : {K : Type 0} → Leaving K → K → Entry → K
left_by_entry leaving kept entry = left_as leaving kept entry (part_kind entry.kind)

-- the state after records, one after the other
abbrev pub redone_all : {K : Type 0} → Leaving K → K → List Entry → K
redone_all leaving kept [] = kept
redone_all leaving kept (entry ∷ entries) = redone_all leaving (left_by_entry leaving kept entry) entries
