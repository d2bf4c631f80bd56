-- The plain data that a `Doc` and its parts borrow.
use Rattle.std.specs.Option.{option_copied}
use Rattle.oai_answers.specs.Answers.{Attributes, Description, Dissemination, Continuation, whole, remains, completes, Page, VerbAnswer, fails, identifies, lists_formats, lists_sets, gives_record, lists_headers, lists_records, Document, described_sets, offered}
use Rattle.oai_answers.specs.declared.documents.Body.{Body}
use Rattle.oai_answers.specs.declared.documents.Body.TheVariants.{Error, Identify, ListMetadataFormats, ListSets, GetRecord, ListIdentifiers, ListRecords}
use Rattle.oai_answers.specs.declared.documents.Doc.{Doc}
use Rattle.oai_answers.specs.declared.identify.Identity.{Identity}
use Rattle.oai_answers.specs.declared.lists.Listed.{Listed}
use Rattle.oai_answers.specs.declared.records.Record.{Record}
use Rattle.oai_answers.specs.declared.request.RequestAttributes.{RequestAttributes}
use Rattle.oai_answers.specs.declared.tokens.Resumption.{Resumption}
use Rattle.oai_answers.specs.declared.tokens.Resumption.TheVariants.{Whole, More, Last}

abbrev pub attributes_of : RequestAttributes → Attributes
attributes_of a = record {
  verb = option_copied a.verb;
  identifier = option_copied a.identifier;
  prefix = option_copied a.prefix;
  from = option_copied a.from;
  until = option_copied a.until;
  set = option_copied a.set;
  token = option_copied a.token;
}

abbrev pub description_of : Identity → Description
description_of i = record {
  name = i.name.now;
  addresses = i.addresses.now;
  earliest = i.earliest;
  deleted = i.deleted;
  granularity = i.granularity;
  descriptions = i.descriptions.now;
}

abbrev pub dissemination_of : Record → Dissemination
dissemination_of r = record {
  item = r.item.now;
  granularity = r.granularity;
  format = r.format.now;
}

abbrev pub continuation_of : Resumption → Continuation
continuation_of Whole = whole
continuation_of (More remaining) = remains remaining.expires remaining.extent remaining.token.now
continuation_of (Last extent) = completes extent

abbrev pub page_of : Listed → Page
page_of list = record {
  items = list.items.now;
  granularity = list.granularity;
  continuation = continuation_of list.resumption;
}

abbrev pub body_answer : Body → VerbAnswer
body_answer (Error code) = fails code
body_answer (Identify identity) = identifies (description_of identity)
body_answer (ListMetadataFormats list) =
    lists_formats (offered list.formats.now (option_copied list.of))
body_answer (ListSets listed) = lists_sets (described_sets listed.described.now listed.sets.now)
body_answer (GetRecord r) = gives_record (dissemination_of r)
body_answer (ListIdentifiers list) = lists_headers (page_of list)
body_answer (ListRecords format list) = lists_records format.now (page_of list)

abbrev pub document_of : Doc → Document
document_of d = record {
  date = d.date;
  base = d.base.now;
  asked = attributes_of d.asked;
  answer = body_answer d.body;
}
