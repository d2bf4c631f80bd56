-- For how many calls of its store an exchange needs room: this repository's own.
use Rattle.std.specs.Prelude.{◌+◌, ℕ, List, [], ◌∷◌, Result, Ok, Err}
use Rattle.oai_args.specs.Pairs.{decoded_pairs}
use Rattle.oai_args.specs.Requests.{request_of}
use Rattle.oai_deposit.specs.Lines.{line_of}
use Rattle.oai_deposit.specs.declared.changes.Change.{Change}
use Rattle.oai_item.specs.declared.refusals.LineRefusal.{LineRefusal}
use Rattle.oai_settings.specs.Config.{RepositoryConfig}
use Rattle.oai_holdings.specs.Calls.{room_to_change}
use Rattle.oai_repo.specs.Calls.{room_to_ask}
use Rattle.oai_host.specs.Tasks.{Task, asking, depositing, refusing}

-- a line of a deposit, as it was parsed: what its change may need if the repository has as many items as it may; and
-- nothing if it is refused
abbrev pub room_for_line : RepositoryConfig → Result Change LineRefusal → ℕ
room_for_line config (Ok change) = room_to_change config.items change
room_for_line config (Err cause) = 0

-- the lines of a deposit
abbrev pub room_for_lines : RepositoryConfig → List (List ℕ) → ℕ
room_for_lines config [] = 0
room_for_lines config (line ∷ lines) = room_for_line config (line_of config.forms line) + room_for_lines config lines

-- what an exchange asks of a repository
abbrev pub room_for_task : RepositoryConfig → Task → ℕ
room_for_task config (refusing status) = 0
room_for_task config (asking arguments) = room_to_ask (request_of config.granularity (decoded_pairs arguments))
room_for_task config (depositing lines) = room_for_lines config lines
