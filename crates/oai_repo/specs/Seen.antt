-- Two views of one repository, which may differ only in the arguments of the request: this repository's own.
use Rattle.std.specs.Prelude.{◌≡◌}
use Rattle.oai_repo.specs.declared.view.RepoView.{RepoView}

pub record SeesSame (one other : RepoView) : Type 0 where
  pub config : other.config.now ≡ one.config.now
  pub clock : other.clock ≡ one.clock
  pub index : other.index.now ≡ one.index.now
  pub sets : other.sets.now ≡ one.sets.now
