-- The answers to requests of OAI-PMH, as XML documents. XML 1.0 (fifth edition), sections 2.1 and 2.8; OAI-PMH 2.0,
-- section 3.2.
use Rattle.std.specs.Prelude.{◌≡◌, ℕ, true, List, [], ◌∷◌, ◌++◌, Some}
use Rattle.std.specs.List.{All, AllByRecursion}
use Rattle.std.specs.Str.{is_utf8}
use Rattle.oai_names.specs.Names.{may_be_prefix}
use Rattle.oai_answers.specs.Answers.{Document}
use Rattle.oai_item.specs.declared.formats.Format.{Format}
use Rattle.oai_xml.specs.Documents.{tree_in}
use Rattle.oai_xml.specs.LegalTexts.{is_legal_text}
use Rattle.oai_xml.specs.Trees.{Tree, spelled}
use Rattle.oai_xml.specs.Whole.{is_whole}
use Rattle.oai_settings.specs.Config.{RepositoryConfig}
use Rattle.oai_repo.specs.State.{RepoState}
use Rattle.oai_documents.specs.Answering.{have_namespaces}
use Rattle.oai_documents.specs.DocumentTrees.{document_tree, line_end, xml_declaration}
use Rattle.oai_documents.specs.Schema.{IsOfSchema}
use Rattle.oai_documents.specs.Texts.{is_legal_config}
use Rattle.oai_documents.specs.WellFormed.{HasAboutIn, HasFittingElements, is_foreign}
use Rattle.oai_config.specs.Configs.{HostConfig, NamedConfig}
use Rattle.oai_http.specs.declared.statuses.Status.TheVariants as status
use Rattle.oai_host.specs.Tasks.{asking, task_of}
use Rattle.oai_headline.specs.Eras.{VisitedEra, era_begins, era_leaves}
use Rattle.oai_headline.specs.Throughout.{visits_given}
use Rattle.oai_headline.specs.Visits.{Visit}

-- ---- what is required of the configuration

-- the texts of a repository's configuration are UTF-8, of characters that XML allows
abbrev pub HasLegalTexts : NamedConfig → Type 0
HasLegalTexts entry = is_legal_config entry.config ≡ true

abbrev pub HaveTexts : HostConfig → Type 0
HaveTexts config = All HasLegalTexts config.repositories

-- a text in UTF-8
abbrev pub IsUtf8Text : List ℕ → Type 0
IsUtf8Text text = is_utf8 text ≡ true

-- a format with a prefix, and with a schema and a namespace in UTF-8
pub record HasUtf8Texts (format : Format) : Type 0 where
  pub prefix : may_be_prefix format.prefix ≡ true
  pub schema : IsUtf8Text format.schema
  pub namespace : IsUtf8Text format.namespace

-- ---- an answer

-- the bytes are an XML document: the XML declaration and one element, in UTF-8, of XML's characters. If no element that
-- it shows is too large (`HasFittingElements`), its tree is whole, so its names and namespaces are legal, and an XML
-- parser reads that tree. If each format of the repository, each description and each element about a record has a
-- namespace, and not OAI-PMH's own, it has the elements that the schema of OAI-PMH asks for
pub record IsXmlDocument (config : RepositoryConfig) (body : List ℕ) : Type 0 where
  pub document : Document
  pub tree : Tree
  pub shows : tree ≡ document_tree document
  pub written : body ≡ xml_declaration ++ (spelled tree ++ line_end)
  pub whole : HasFittingElements document.answer → is_whole tree ≡ true
  pub text : is_legal_text body ≡ true
  pub read : HasFittingElements document.answer → tree_in body ≡ Some tree
  pub schema : have_namespaces is_foreign config ≡ true → HasAboutIn is_foreign document.answer → IsOfSchema tree

-- if the visit is a request of OAI-PMH, by GET or by POST, and is answered with status 200, the body is such a document
abbrev pub IsAnsweredInXml : RepositoryConfig → Visit → Type 0
IsAnsweredInXml config visit =
    (arguments : List ℕ)
    → task_of visit.call ≡ asking arguments
    → visit.answer.status ≡ status.Ok
    → IsXmlDocument config visit.answer.body

-- so is each visit, in each era
abbrev pub AreAnsweredInXml : RepositoryConfig → RepoState → List VisitedEra → Type 0
AreAnsweredInXml config state [] = Unit {0}
AreAnsweredInXml config state (era ∷ eras) =
    AllByRecursion (IsAnsweredInXml config) (visits_given config (era_begins state era) era.calls era.answers)
    × AreAnsweredInXml config (era_leaves config state era) eras
