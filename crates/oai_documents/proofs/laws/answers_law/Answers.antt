use Rattle.oai_documents.specs.WellFormed.{is_foreign, may_be_default}
use Rattle.oai_documents.proofs.Answered.{given_of_schema, given_whole, some_answer}
use Rattle.oai_documents.proofs.LegalAnswers.{some_read}
use Rattle.oai_documents.proofs.laws.answers_law.Goals as goal

pub returns-clause-whole : goal.returns-clause-whole
returns-clause-whole c = λ config d rules is all room. given_whole d (some_answer may_be_default config d rules is all) room

pub returns-clause-schema : goal.returns-clause-schema
returns-clause-schema c = λ config d rules is all about. given_of_schema d (some_answer is_foreign config d rules is all) about

pub returns-clause-read : goal.returns-clause-read
returns-clause-read c = some_read
