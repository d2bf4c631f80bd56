-- A journal of one of two kinds. This repository's own.
use Rattle.oai_durable.specs.declared.either.EitherJournal.{EitherJournal}
use Rattle.oai_durable.specs.declared.either.EitherJournal.TheVariants.{First, Second}

-- what is said of it: what is said of one of its kind
abbrev pub either {ℓ} : {J K : Type 0} {A : Type ℓ} → (J → A) → (K → A) → EitherJournal J K → A
either of_first of_second (First journal) = of_first journal
either of_first of_second (Second journal) = of_second journal

-- what holds of both kinds holds of it
pub each : {J K : Type 0} (P : EitherJournal J K → Type 0) → ((journal : J) → P (First journal)) → ((journal : K) → P (Second journal)) → (journal : EitherJournal J K) → P journal
each P of_first of_second (First journal) = of_first journal
each P of_first of_second (Second journal) = of_second journal
