-- Lists of which some are part of others; chains and harvests among some visits are chains and harvests among all.
use Rattle.std.proofs.Common.{inl, inr, ℕ, List, [], ◌∷◌, ◌++◌, map, Option, None, Some, refl, sym, ap, subst}
use Rattle.std.specs.List.{flat_map}
use Rattle.oai_settings.specs.Config.{RepositoryConfig}
use Rattle.oai_laws.specs.Following.{IsChain, ListQuery}
use Rattle.oai_laws.specs.Runs.{IsPart, Transition}
use Rattle.oai_laws.specs.Harvests.{AreHarvests, AreSuccessive, Harvest, IsHarvest, datestamp_of, records_since}
use Rattle.oai_headline.specs.Chains.{IsFollowing}
use Rattle.oai_headline.specs.Visits.{Visit}

-- ---- parts

part_none : {A : Type 0} (all : List A) → IsPart [] all
part_none [] = refl
part_none (x ∷ all) = inl (part_none all)

pub part_twice : {A : Type 0} (few some all : List A) → IsPart few some → IsPart some all → IsPart few all
part_twice {A} few some [] first second = subst (λ (xs : List A). IsPart few xs) second first
part_twice {A} few some (x ∷ all) first (inl second) = inl (part_twice few some all first second)
part_twice {A} few some (x ∷ all) first (inr second) =
    elim (subst (λ (xs : List A). IsPart few xs) second.1 first) [
      | inl behind ↦ inl (part_twice few second.0 all behind second.2)
      | inr here ↦ inr (here.0, here.1, part_twice here.0 second.0 all here.2 second.2)
    ]

part_behind : {A : Type 0} (front some all : List A) → IsPart some all → IsPart some (front ++ all)
part_behind [] some all part = part
part_behind (x ∷ front) some all part = inl (part_behind front some all part)

part_both : {A : Type 0} (front some all : List A) → IsPart some all → IsPart (front ++ some) (front ++ all)
part_both [] some all part = part
part_both (x ∷ front) some all part = inr (front ++ some, refl, part_both front some all part)

pub part_each : {A B : Type 0} (f : A → List B) (some all : List A) → IsPart some all → IsPart (flat_map f some) (flat_map f all)
part_each {A} {B} f some [] part = ap (flat_map f) part
part_each {A} {B} f some (x ∷ all) (inl part) = part_behind (f x) (flat_map f some) (flat_map f all) (part_each f some all part)
part_each {A} {B} f some (x ∷ all) (inr part) =
    subst (λ (xs : List A). IsPart (flat_map f xs) (f x ++ flat_map f all)) (sym part.1)
    (part_both (f x) (flat_map f part.0) (flat_map f all) (part_each f part.0 all part.2))

pub part_append : {A : Type 0} (some all few others : List A) → IsPart some all → IsPart few others → IsPart (some ++ few) (all ++ others)
part_append {A} some [] few others first second = subst (λ (xs : List A). IsPart (xs ++ few) others) (sym first) second
part_append {A} some (x ∷ all) few others (inl first) second = inl (part_append some all few others first second)
part_append {A} some (x ∷ all) few others (inr first) second =
    subst (λ (xs : List A). IsPart (xs ++ few) (x ∷ (all ++ others))) (sym first.1) (inr (first.0 ++ few, refl, part_append first.0 all few others first.2 second))

-- ---- chains

pub following_more : (config : RepositoryConfig) (some all : List Visit) (list_request : ListQuery) (first : Visit) (others : List Visit) → IsPart some all
    → IsFollowing config some list_request first others → IsFollowing config all list_request first others
following_more config some all list_request first others part chain = record {
  among = part_twice (first ∷ others) some all chain.among part;
  verb = chain.verb;
  asked = chain.asked;
  long = chain.long;
  answered = chain.answered;
  next = chain.next;
}

-- ---- harvests

pub harvest_more : (config : RepositoryConfig) (some all : List Transition) (list_request : ListQuery) (harvest : Harvest) → IsPart some all → IsHarvest config some list_request harvest
    → IsHarvest config all list_request harvest
harvest_more config some all list_request harvest part its = record {
  asked = its.asked;
  answered = elim its.answered [
    | inl empty ↦ inl empty
    | inr others ↦ inr (elim others [
      | inl at_once ↦ inl at_once
      | inr followed ↦ inr (record { chain = chain_more config some all list_request harvest.first harvest.others part followed.chain; ended = followed.ended })
    ])
  ];
}
  where
    chain_more : (config : RepositoryConfig) (some all : List Transition) (list_request : ListQuery) (first : Transition) (others : List Transition) → IsPart some all
        → IsChain config some list_request first others → IsChain config all list_request first others
    chain_more config some all list_request first others part chain = record {
      among = part_twice (first ∷ others) some all chain.among part;
      verb = chain.verb;
      asked = chain.asked;
      long = chain.long;
      answered = chain.answered;
      next = chain.next;
    }

harvests_more : (config : RepositoryConfig) (some all : List Transition) (prefix : List ℕ) (from : Option (List ℕ)) (harvests : List Harvest) → IsPart some all
    → AreHarvests config some prefix from harvests → AreHarvests config all prefix from harvests
harvests_more config some all prefix from [] part all_of = tt
harvests_more config some all prefix from (harvest ∷ harvests) part all_of = (
  harvest_more config some all (records_since prefix from) harvest part all_of.0,
  harvests_more config some all prefix (Some (datestamp_of config harvest)) harvests part all_of.1,
)

pub successive_more : (config : RepositoryConfig) (some all : List Transition) (prefix : List ℕ) (first : Harvest) (others : List Harvest) → IsPart some all
    → AreSuccessive config some prefix first others → AreSuccessive config all prefix first others
successive_more config some all prefix first others part successive = record {
  begun = part_twice (map (λ (harvest : Harvest). harvest.first) (first ∷ others)) some all successive.begun part;
  harvests = harvests_more config some all prefix None (first ∷ others) part successive.harvests;
}
