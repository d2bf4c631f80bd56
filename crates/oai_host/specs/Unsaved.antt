-- What is saved so far of a checkpoint that is written while the host serves, and what is left to save. This
-- repository's own.
use Rattle.std.specs.Prelude.{◌≡◌, if◌then◌else◌, List, [], ◌∷◌, map}
use Rattle.std.specs.Str.{bytes_eq}
use Rattle.oai_repo.specs.Saved.{with_part}
use Rattle.oai_replay.specs.Parts.{PartState, restored_all}
use Rattle.oai_host.specs.Hosts.{NamedPart, Repository}
use Rattle.oai_host.specs.Saved.{emptied_in, restored_in}

-- a part comes to the repository of its name
abbrev pub with_named : NamedPart → Repository → Repository
with_named one repository =
    if bytes_eq repository.name one.name then record repository { state = with_part repository.state one.part } else repository

-- one after the other
abbrev pub with_all : List Repository → List NamedPart → List Repository
with_all repositories [] = repositories
with_all repositories (one ∷ parts) = with_all (map (with_named one) repositories) parts

-- the parts that are saved, and then those that are left, make the repositories
abbrev pub AreSavedBy : List NamedPart → List Repository → List PartState → Type 0
AreSavedBy unsaved repositories parts = with_all (restored_all restored_in (emptied_in repositories) parts) unsaved ≡ repositories
