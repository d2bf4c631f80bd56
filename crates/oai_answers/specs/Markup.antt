-- The markup of documents: tags, elements and attributes. XML 1.0, sections 3 and 3.1.
use Rattle.std.specs.Prelude.{ℕ, List, ◌++◌, codes}
use Rattle.oai_names.specs.Escapes.{escaped_text, escaped_attribute}
use Rattle.oai_answers.specs.declared.tags.Tag.{Tag}
use Rattle.oai_answers.specs.declared.tags.Tag.TheVariants.{ResponseDate, Request, GetRecord, EarliestDatestamp, Record, Header, Identifier, Datestamp, SetSpec, Metadata, About, DublinCore}

-- bytes that are written unescaped: the bytes themselves. It marks them for the prover, and changes nothing
unfoldable pub plain : List ℕ → List ℕ
plain bytes = bytes

-- STag ::= '<' Name '>', without attributes
unfoldable pub start_tag : List ℕ → List ℕ
start_tag name = plain (codes "<") ++ plain name ++ plain (codes ">")

-- ETag ::= '</' Name '>'
unfoldable pub end_tag : List ℕ → List ℕ
end_tag name = plain (codes "</") ++ plain name ++ plain (codes ">")

-- element ::= STag content ETag
unfoldable pub element : List ℕ → List ℕ → List ℕ
element name content = start_tag name ++ content ++ end_tag name

-- an element with a text in it
unfoldable pub text_element : List ℕ → List ℕ → List ℕ
text_element name text = element name (escaped_text text)

-- an element with an element in it, which is written as it stands: its canonical text declares a default namespace, so no name in it changes
-- its meaning here (Namespaces in XML 1.0, section 6.2)
unfoldable pub container : List ℕ → List ℕ → List ℕ
container name inner = element name (plain inner)

-- an attribute up to its value: the space before it, its name, the equals sign and the quote
unfoldable pub attribute_start : List ℕ → List ℕ
attribute_start name = plain (codes " ") ++ plain name ++ plain (codes "=\"")

-- Attribute ::= Name Eq AttValue, with the value already escaped
unfoldable pub spelled_attribute : List ℕ → List ℕ → List ℕ
spelled_attribute name value = attribute_start name ++ value ++ plain (codes "\"")

-- an attribute with a text as its value
unfoldable pub attribute : List ℕ → List ℕ → List ℕ
attribute name text = spelled_attribute name (escaped_attribute text)

-- the name of an element that documents or records have, or may have. OAI-PMH 2.0, sections 2.5, 3.2, 4.1 and 4.2
abbrev pub tag_name : Tag → List ℕ
tag_name ResponseDate = codes "responseDate"
tag_name Request = codes "request"
tag_name GetRecord = codes "GetRecord"
tag_name EarliestDatestamp = codes "earliestDatestamp"
tag_name Record = codes "record"
tag_name Header = codes "header"
tag_name Identifier = codes "identifier"
tag_name Datestamp = codes "datestamp"
tag_name SetSpec = codes "setSpec"
tag_name Metadata = codes "metadata"
tag_name About = codes "about"
tag_name DublinCore = codes "oai_dc:dc"
