-- What contracts see of the fields of a `Repo`.
use Rattle.oai_repo.specs.Fields.{RepoFields}
use Rattle.oai_repo.specs.declared.repo.Repo.TheInside.{Inside}

-- its configuration, its clock, the index of its items, its sets, and its open lists
abbrev pub fields_of_repo : Inside → RepoFields
fields_of_repo repo = record { config = repo.config; clock = repo.clock; index = repo.index; sets = repo.sets; table = repo.lists }
