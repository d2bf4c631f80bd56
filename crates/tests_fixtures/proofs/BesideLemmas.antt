-- Two repositories in one store begin, and each changes beside the other.
use Rattle.std.proofs.Common.{◌≡◌, ◌∙◌, ℕ, Bool, true, false, eqb, List, [], ◌∷◌, IsTrue, Some, refl, ap, subst}
use Rattle.std.proofs.lemmas.Bool.{cond-false, eqb-true, false_from_ne_true, or_from}
use Rattle.oai_catalogue.specs.Store.{VersionLists}
use Rattle.oai_settings.specs.Config.{RepositoryConfig}
use Rattle.oai_repo.specs.Fields.{RepoFields, IsNew, Keeps, Owns, has, numbers_of}
use Rattle.oai_repo.proofs.NeighbourLemmas.{AreApart, apart_turned, held_where, stands_where, still_apart, still_held, still_stands}
use Rattle.oai_repo.proofs.NumberLemmas.{clash, turned, unused_lacks}
use Rattle.tests_fixtures.specs.Beside.{AreBeside}

-- the one that changes has what its next call needs; the store is as honest as before
changed_owns : (was is : Bool) (old new : RepoFields) (before after : VersionLists) → is ≡ was → Keeps was old before new after → Owns is new after
changed_owns was is old new before after same keeps = record {
  stands = keeps.stands;
  held = λ honest. keeps.held (subst (λ (b : Bool). IsTrue b) same honest);
}

-- the other one has it still
other_owns : (was is : Bool) (old new other : RepoFields) (before after : VersionLists) → is ≡ was → Keeps was old before new after → AreApart other old → Owns was other before → Owns is other after
other_owns was is old new other before after same keeps apart owns = record {
  stands = still_stands old new other before after keeps.others owns.stands apart;
  held = λ honest. still_held old new other before after keeps.others owns.stands apart (owns.held (subst (λ (b : Bool). IsTrue b) same honest));
}

-- the first one changes
pub first_changes : (was is : Bool) (old new other : RepoFields) (before after : VersionLists) → is ≡ was → Keeps was old before new after → AreBeside was old other before → AreBeside is new other after
first_changes was is old new other before after same keeps beside =
    let apart = apart_turned old other beside.apart in
    record {
      first = changed_owns was is old new before after same keeps;
      second = other_owns was is old new other before after same keeps apart beside.second;
      apart = apart_turned other new (still_apart old new other before after keeps.others beside.second.stands apart);
    }

-- the second one changes
pub second_changes : (was is : Bool) (one old new : RepoFields) (before after : VersionLists) → is ≡ was → Keeps was old before new after → AreBeside was one old before → AreBeside is one new after
second_changes was is one old new before after same keeps beside = record {
  first = other_owns was is old new one before after same keeps beside.apart beside.first;
  second = changed_owns was is old new before after same keeps;
  apart = still_apart old new one before after keeps.others beside.first.stands beside.apart;
}

-- the second one begins beside the first
pub new_beside : (honest : Bool) (config config' : RepositoryConfig) (one other : RepoFields) (before between after : VersionLists)
    → IsNew config before one between → IsNew config' between other after → AreBeside honest one other after
new_beside honest config config' one other before between after begun new =
    let w : ℕ = other.index.version in
    let lacks : has (numbers_of one) w ≡ false = unused_lacks (numbers_of one) between w begun.stands.used new.unused in
    let differ : (n : ℕ) → has (numbers_of one) n ≡ true → eqb n w ≡ false =
    λ n there. false_from_ne_true (eqb n w) (λ same. clash (has (numbers_of one) n) there (ap (has (numbers_of one)) (eqb-true n w same) ∙ lacks))
    in
    let same : (n : ℕ) → has (numbers_of one) n ≡ true → after n ≡ between n =
    λ n there. ap (λ (lists : VersionLists). lists n) new.listed ∙ cond-false (eqb n w) (Some []) (between n) (differ n there)
    in
    record {
      first = record { stands = stands_where one between after same begun.stands; held = λ _. held_where one between after same begun.held };
      second = record { stands = new.stands; held = λ _. new.held };
      apart = λ n there. ap (λ (numbers : List ℕ). has (w ∷ numbers) n) new.alone ∙ or_from (eqb w n) false (turned n w (differ n there)) refl;
    }
