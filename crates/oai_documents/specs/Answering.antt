-- What the laws of answers ask of the configuration of a repository.
use Rattle.std.specs.Prelude.{ℕ, Bool, ◌&&◌, List}
use Rattle.std.specs.List.{list_all}
use Rattle.oai_xml.specs.Named.{NamedList}
use Rattle.oai_settings.specs.Config.{RepositoryConfig}
use Rattle.oai_documents.specs.WellFormed.{has_root_in}

-- the namespace of each of its formats passes the test, and that of the root of each element that describes it or a set
abbrev pub have_namespaces : (List ℕ → Bool) → RepositoryConfig → Bool
have_namespaces passes config =
    list_all (λ format. passes format.namespace) config.formats && list_all (has_root_in passes) config.descriptions
    && list_all (λ (list : NamedList). list_all (has_root_in passes) list.1) config.set_descriptions
