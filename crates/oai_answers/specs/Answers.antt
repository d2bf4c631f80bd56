-- What a document answers, as plain data. OAI-PMH 2.0, sections 2.5, 3.2, 3.5, 3.6 and 4.
use Rattle.std.specs.Prelude.{ℕ, ℤ, Bool, true, map, List, Option, None, Some}
use Rattle.std.specs.List.{filter}
use Rattle.oai_time.specs.Stamp.{IsWritable}
use Rattle.oai_time.specs.declared.granularity.Granularity.{Granularity}
use Rattle.oai_xml.specs.Named.{NamedList, elements_named}
use Rattle.oai_item.specs.declared.formats.Format.{Format}
use Rattle.oai_item.specs.Item.{ItemState, has_record}
use Rattle.oai_answers.specs.declared.errors.ErrorCode.{ErrorCode}
use Rattle.oai_answers.specs.declared.errors.ErrorCode.TheVariants.{BadArgument, BadVerb}
use Rattle.oai_item.specs.declared.deleted_record.DeletedRecord.{DeletedRecord}
use Rattle.oai_answers.specs.declared.tokens.Extent.{Extent}

-- the request, as the attributes of `request` repeat it: the arguments, decoded, as far as they were given (section
-- 3.2)
pub record Attributes : Type 0 where
  pub verb : Option (List ℕ)
  pub identifier : Option (List ℕ)
  pub prefix : Option (List ℕ)
  pub from : Option (List ℕ)
  pub until : Option (List ℕ)
  pub set : Option (List ℕ)
  pub token : Option (List ℕ)

-- nothing was asked, or nothing of it is repeated
abbrev pub no_arguments : Attributes
no_arguments = record {
  verb = None;
  identifier = None;
  prefix = None;
  from = None;
  until = None;
  set = None;
  token = None;
}

-- what Identify returns of a repository besides its base URL: its name, the addresses of its administrators, the
-- earliestDatestamp in seconds from 1970 on, its policy on deleted records, its granularity, and the elements in its containers
-- `description`, in canonical text (section 4.2)
pub record Description : Type 0 where
  pub name : List ℕ
  pub addresses : List (List ℕ)
  pub earliest : ℤ
  pub deleted : DeletedRecord
  pub granularity : Granularity
  pub descriptions : List (List ℕ)

-- a set: its setSpec, its setName, and the elements in its containers `setDescription`, in canonical text (section 4.6)
pub record DescribedSet : Type 0 where
  pub spec : List ℕ
  pub name : List ℕ
  pub descriptions : List (List ℕ)

-- sets, with what describes them: of lists under setSpecs the one of each
abbrev pub described_set : List NamedList → List ℕ × List ℕ → DescribedSet
described_set lists set = record { spec = set.0; name = set.1; descriptions = elements_named lists set.0 }

abbrev pub described_sets : List NamedList → List (List ℕ × List ℕ) → List DescribedSet
described_sets lists sets = map (described_set lists) sets

-- an item in a format: its record there is written, with datestamps at that granularity (section 2.5)
pub record Dissemination : Type 0 where
  pub item : ItemState
  pub granularity : Granularity
  pub format : Format

-- how a list continues after the part that is answered (section 3.5)
pub data Continuation : Type 0 where
  -- the list is whole: nothing precedes or follows
  whole : Continuation
  -- records remain: when the token expires in seconds from 1970 on, the position of the part in the list, and the token
  remains : ℤ → Extent → List ℕ → Continuation
  -- the part completes the list, at that position
  completes : Extent → Continuation

-- a part of a list, or the whole: the items in their order, the granularity, and how the list continues
pub record Page : Type 0 where
  pub items : List ItemState
  pub granularity : Granularity
  pub continuation : Continuation

-- the answer to a request: an error (section 3.6), or what the verb asks for (section 4)
pub data VerbAnswer : Type 0 where
  fails : ErrorCode → VerbAnswer
  identifies : Description → VerbAnswer
  lists_formats : List Format → VerbAnswer
  lists_sets : List DescribedSet → VerbAnswer
  gives_record : Dissemination → VerbAnswer
  lists_headers : Page → VerbAnswer
  lists_records : Format → Page → VerbAnswer

-- the arguments that `request` repeats with an answer: none with badVerb and badArgument, where it is the base URL
-- alone (section 3.2)
abbrev pub arguments_told : VerbAnswer → Attributes → Attributes
arguments_told (fails BadVerb) asked = no_arguments
arguments_told (fails BadArgument) asked = no_arguments
arguments_told answer asked = asked

-- an answer, the clock at which it is given in seconds from 1970 on, the base URL, and what was asked (section 3.2)
pub record Document : Type 0 where
  pub date : ℤ
  pub base : List ℕ
  pub asked : Attributes
  pub answer : VerbAnswer

-- the format is listed: each is if no item is given, otherwise those in which that item has a record (section 4.4)
abbrev pub is_offered : Option ItemState → Format → Bool
is_offered None format = true
is_offered (Some item) format = has_record format.prefix item.formats

-- the formats that are listed, in the order of the repository
unfoldable pub offered : List Format → Option ItemState → List Format
offered formats of = filter (is_offered of) formats

-- the moment at which the token expires, if there is one, can be written as a date
abbrev pub HasWritableEnd : Continuation → Type 0
HasWritableEnd whole = Unit {0}
HasWritableEnd (remains expires extent token) = IsWritable expires
HasWritableEnd (completes extent) = Unit {0}

-- so can the times of the answer
abbrev pub HasWritableTimes : VerbAnswer → Type 0
HasWritableTimes (fails code) = Unit {0}
HasWritableTimes (identifies d) = IsWritable d.earliest
HasWritableTimes (lists_formats formats) = Unit {0}
HasWritableTimes (lists_sets sets) = Unit {0}
HasWritableTimes (gives_record d) = Unit {0}
HasWritableTimes (lists_headers page) = HasWritableEnd page.continuation
HasWritableTimes (lists_records format page) = HasWritableEnd page.continuation

-- and those of the document
abbrev pub IsWritableDocument : Document → Type 0
IsWritableDocument d = IsWritable d.date × HasWritableTimes d.answer
