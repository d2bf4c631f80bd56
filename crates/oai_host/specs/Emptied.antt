-- No definition: calls, and parts that are restored, leave which repositories there are. This shows that a host is
-- `Replayed`.
use Rattle.std.proofs.Common.{◌≡◌, Bool, true, false, cond, List, [], ◌∷◌, ap₂, refl}
use Rattle.std.specs.Str.{bytes_eq}
use Rattle.oai_repo.specs.State.{RepoState}
use Rattle.oai_replay.specs.Parts.{PartState}
use Rattle.oai_http.specs.Targets.{leads_to_repository}
use Rattle.oai_http.specs.declared.exchanges.Call.{Call}
use Rattle.oai_host.specs.Alone.{exchanged_alone}
use Rattle.oai_host.specs.Hosts.{Repository}
use Rattle.oai_host.specs.Redone.{redone_repositories}
use Rattle.oai_host.specs.Saved.{emptied_at, emptied_in, part_in, restored_in, with_read}

-- whatever its state, a repository begins in the same state
either_begins : (b : Bool) (repository : Repository) (state : RepoState) → emptied_at (cond b (record repository { state = state }) repository) ≡ emptied_at repository
either_begins true repository state = refl
either_begins false repository state = refl

pub emptied_redone : (repositories : List Repository) (call : Call) → emptied_in (redone_repositories repositories call) ≡ emptied_in repositories
emptied_redone [] call = refl
emptied_redone (one ∷ repositories) call =
    ap₂ (λ (r : Repository) (rs : List Repository). r ∷ rs) (either_begins (leads_to_repository one.name call.target) one (exchanged_alone one.config one.state call).1)
    (emptied_redone repositories call)

pub emptied_restored : (repositories : List Repository) (part : PartState) → emptied_in (restored_in repositories part) ≡ emptied_in repositories
emptied_restored [] part = refl
emptied_restored (one ∷ repositories) part =
    ap₂ (λ (r : Repository) (rs : List Repository). r ∷ rs) (either_begins (bytes_eq one.name part.name) one (with_read one.state (part_in part))) (emptied_restored repositories part)
