-- Documents that are equal byte for byte though their answers are not: what a document does not print. OAI-PMH 2.0,
-- section 2.5.
use Rattle.std.specs.Prelude.{ℕ, ℤ, neg_ℤ, pos, List, [], ◌∷◌, codes}
use Rattle.oai_time.specs.declared.granularity.Granularity.{Granularity}
use Rattle.oai_time.specs.declared.granularity.Granularity.TheVariants.{Day}
use Rattle.oai_item.specs.Item.{ItemState, Metadata, live_item}
use Rattle.oai_item.specs.declared.formats.Format.{Format}
use Rattle.oai_answers.specs.Answers.{Document, gives_record, no_arguments}

-- a format of articles under that prefix
abbrev pub articles : List ℕ → Format
articles prefix = record {
  prefix = prefix;
  schema = codes "http://host.example/jnl.xsd";
  namespace = codes "http://host.example/jnl/";
  root = codes "article";
  fields = codes "volume" ∷ codes "pages" ∷ [];
}

-- its record in such a format: a text that looks like the end of one record and the header of another
abbrev pub article : List ℕ → Metadata
article prefix = (prefix, record { name = codes "volume"; text = codes "</volume></article></metadata></record><record><header>" } ∷ [])

-- 0000-01-01T00:00:00Z, in seconds from 1970 on
abbrev pub first_second : ℤ
first_second = neg_ℤ (pos 62_167_219_200)

-- an item with these records, at a moment that many seconds before 1970
abbrev pub issue : ℕ → List Metadata → ItemState
issue before records = live_item (codes "oai:a:1") (neg_ℤ (pos before)) [] records

-- the item, item_document in a format
abbrev pub item_document : Granularity → List ℕ → ItemState → Document
item_document granularity prefix item = record {
  date = first_second;
  base = codes "http://host.example/oai/a";
  asked = no_arguments;
  answer = gives_record (record { item = item; granularity = granularity; format = articles prefix });
}

-- an article in one format
abbrev pub plain_issue : Document
plain_issue = item_document Day (codes "jnl") (issue 62_167_219_200 (article (codes "jnl") ∷ []))

-- the article in a format of another prefix, with the same root, namespace and schema
abbrev pub issue_by_prefix : Document
issue_by_prefix = item_document Day (codes "art") (issue 62_167_219_200 (article (codes "art") ∷ []))

-- five seconds later, if datestamps are days
abbrev pub issue_of_day : Document
issue_of_day = item_document Day (codes "jnl") (issue 62_167_219_195 (article (codes "jnl") ∷ []))

-- with a record in another format
abbrev pub issue_in_both : Document
issue_in_both = item_document Day (codes "jnl") (issue 62_167_219_200 (article (codes "jnl") ∷ (codes "oai_dc", []) ∷ []))
