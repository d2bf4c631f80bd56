use Rattle.oai_documents.proofs.LegalCommands.{line_command, query_command}
use Rattle.oai_documents.proofs.laws.commands_law.Goals as goal

pub returns-clause-requests : goal.returns-clause-requests
returns-clause-requests c = query_command

pub returns-clause-lines : goal.returns-clause-lines
returns-clause-lines c = line_command
