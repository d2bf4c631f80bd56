-- How far a startup has come, with which a life begins. This repository's own.
use Rattle.std.specs.Prelude.{◌≡◌, ℕ, Bool, IfSome, IsTrue, List, map, Option, Ok}
use Rattle.oai_item.specs.declared.forms.Forms.{Forms}
use Rattle.oai_config.specs.Configs.{HostConfig}
use Rattle.oai_config.specs.Reading.{IsRead}
use Rattle.oai_startup.specs.Rules.{HaveRules}
use Rattle.oai_archive.specs.Firsts.{IsOf}
use Rattle.oai_host.specs.Hosts.{HostState, begun}
use Rattle.oai_journal.specs.Records.{Entry}
use Rattle.oai_journal.specs.Recovered.{disk_of}
use Rattle.oai_journal.specs.declared.recovery.Recovery.{Recovery}
use Rattle.oai_durable.specs.Records.{Leaving}
use Rattle.oai_durable.specs.Recovered.{IsRecovered}
use Rattle.oai_recovery.specs.Archives.{archived}
use Rattle.oai_recovery.specs.declared.origins.Origin.{Origin}
use Rattle.oai_recovery.specs.declared.origins.Origin.TheVariants.{Begun}

-- all records of the journal after its first one, that many, were read and replayed, from that beginning, and it is of
-- the configuration in the text, with records of these forms; one that was begun has none; and if the bytes of the file are known, it is their
-- journal
pub record HasReplayed {H K D : Type 0} (kept : H → K) (is_honest : H → Bool) (leaving : Leaving K) (seen : D → List ℕ) (may_leave : D → List ℕ → Type 0) (is_clean : D → Bool)
    (held : Option (List ℕ)) (forms : Forms) (text : List ℕ) (begun : K) (origin : Origin) (count : ℕ) (handler : H) (recovery : Recovery D) : Type 0 where
  pub file : IfSome held (λ file. seen (disk_of recovery) ≡ file)
  pub fresh : origin ≡ Begun → count ≡ 0
  pub redone : IsTrue (is_clean (disk_of recovery)) → (first : Entry) × IsOf forms first.name first.body text
      × IsRecovered kept is_honest leaving seen may_leave begun handler recovery first count

-- the host of the configuration in the text, with records of the forms of the journal's version, has done so, from its initial state
pub record HasStarted {D : Type 0} (seen : D → List ℕ) (may_leave : D → List ℕ → Type 0) (is_clean : D → Bool)
    (held : Option (List ℕ)) (text : List ℕ) (origin : Origin) (count : ℕ) (host : HostState) (recovery : Recovery D) : Type 0 where
  pub forms : Forms
  pub config : HostConfig
  pub read : IsRead forms text (Ok config)
  pub rules : HaveRules config
  pub replayed : HasReplayed archived.kept archived.is_honest archived.leaving seen may_leave is_clean held forms text (map begun config.repositories) origin count host recovery
