-- Texts that XML allows, in the configuration of a repository, in what it holds, in commands and in answers: UTF-8, of XML's characters.
-- XML 1.0 (fifth edition), sections 2.2 and 4.3.3.
use Rattle.std.specs.Prelude.{ℕ, Bool, true, ◌&&◌, List, map, Option, None, Some}
use Rattle.std.specs.List.{list_all}
use Rattle.oai_item.specs.Givens.{kept}
use Rattle.oai_item.specs.Item.{ItemState, Metadata}
use Rattle.oai_deposit.specs.declared.changes.Change.{Change}
use Rattle.oai_deposit.specs.declared.changes.Change.TheVariants as change
use Rattle.oai_item.specs.declared.fields.Field.{Field}
use Rattle.oai_item.specs.declared.formats.Format.{Format}
use Rattle.oai_answers.specs.Answers.{Attributes}
use Rattle.oai_xml.specs.LegalTexts.{is_legal_text}
use Rattle.oai_xml.specs.Named.{NamedList}
use Rattle.oai_settings.specs.Config.{RepositoryConfig}
use Rattle.oai_repo.specs.Answers.{arguments_of_request}
use Rattle.oai_repo.specs.Machine.{Command, changing, rejecting, requesting}
use Rattle.oai_holdings.specs.Holdings.{NamedSet}
use Rattle.oai_laws.specs.Runs.{Timed}

-- ---- configurations

-- what a document says of a format; the names of its elements have a grammar (`is_allowed`)
abbrev pub is_legal_format : Format → Bool
is_legal_format format = is_legal_text format.prefix && is_legal_text format.schema && is_legal_text format.namespace

-- the base URL, the repositoryName, the addresses, the formats, and the elements that describe the repository and sets
abbrev pub is_legal_config : RepositoryConfig → Bool
is_legal_config config =
    is_legal_text config.base && is_legal_text config.repository_name && list_all is_legal_text config.addresses
    && list_all is_legal_format config.formats && list_all is_legal_text config.descriptions
    && list_all (λ (list : NamedList). list_all is_legal_text list.1) config.set_descriptions

-- ---- items and sets

abbrev pub is_legal_field : Field → Bool
is_legal_field field = is_legal_text field.text

-- the fields of a record; their names are those of its format, and of an element, which is one without a name, its text
abbrev pub is_legal_record : Metadata → Bool
is_legal_record metadata = list_all is_legal_field metadata.1

abbrev pub is_legal_item : ItemState → Bool
is_legal_item item = is_legal_text item.identifier && list_all is_legal_text item.sets && list_all is_legal_record item.formats

abbrev pub is_legal_set : NamedSet → Bool
is_legal_set set = is_legal_text set.0 && is_legal_text set.1

-- ---- commands

-- an argument, if it is given
abbrev pub is_legal_argument : Option (List ℕ) → Bool
is_legal_argument None = true
is_legal_argument (Some text) = is_legal_text text

abbrev pub have_legal_arguments : Attributes → Bool
have_legal_arguments asked =
    is_legal_argument asked.verb && is_legal_argument asked.identifier && is_legal_argument asked.prefix && is_legal_argument asked.from
    && is_legal_argument asked.until && is_legal_argument asked.set && is_legal_argument asked.token

abbrev pub is_legal_change : Change → Bool
is_legal_change (change.Deposit identifier sets records) = is_legal_text identifier && list_all is_legal_text sets && list_all is_legal_record (map kept records)
is_legal_change (change.Put identifier sets records) = is_legal_text identifier && list_all is_legal_text sets && list_all is_legal_record (map kept records)
is_legal_change (change.Delete identifier) = true
is_legal_change (change.Purge before) = true
is_legal_change (change.AddSet spec name) = is_legal_text spec && is_legal_text name

abbrev pub is_legal_command : Command → Bool
is_legal_command (requesting request) = have_legal_arguments (arguments_of_request request)
is_legal_command (changing change) = is_legal_change change
is_legal_command (rejecting cause) = true

abbrev pub are_legal_commands : List Timed → Bool
are_legal_commands commands = list_all (λ (timed : Timed). is_legal_command timed.command) commands
