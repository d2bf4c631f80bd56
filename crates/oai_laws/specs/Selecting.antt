-- What a list request selects, in a harvester's words. OAI-PMH 2.0, sections 2.5, 2.6, 2.7, 4.3 and 4.5.
use Rattle.std.specs.Prelude.{◌≡◌, ◌↔◌, ◌≤ℤ◌, int_le, ℕ, ℤ, Bool, true, ◌&&◌, List, IfSome}
use Rattle.std.specs.List.{Contains}
use Rattle.std.specs.Ordering.{int_eq}
use Rattle.oai_names.specs.Sets.{Covers}
use Rattle.oai_time.specs.Bound.{IsBound, lower_of, upper_of}
use Rattle.oai_time.specs.Stamp.{stamp_of}
use Rattle.oai_time.specs.declared.bound.Bound.{Bound}
use Rattle.oai_item.specs.Item.{ItemState, has_record}
use Rattle.oai_item.specs.Order.{are_in_order}
use Rattle.oai_settings.specs.Config.{RepositoryConfig}
use Rattle.oai_laws.specs.Following.{ListQuery}

-- ---- what the request asks for

-- the datestamp is not before the day or the second that the text of `from` stands for (section 2.7.1)
abbrev pub IsFrom : List ℕ → ℤ → Type 0
IsFrom text stamp = (bound : Bound) → IsBound text bound → lower_of bound ≤ℤ stamp

-- it is not after the day, which is a whole one, or the second that the text of `until` stands for
abbrev pub IsUntil : List ℕ → ℤ → Type 0
IsUntil text stamp = (bound : Bound) → IsBound text bound → stamp ≤ℤ upper_of bound

-- one of the setSpecs is the set's own, or that of a set below it (sections 2.6 and 2.7.2)
abbrev pub IsInSet : List ℕ → List (List ℕ) → Type 0
IsInSet set specs = (spec : List ℕ) × Contains specs spec × Covers set spec

-- the request asks for the item, live or deleted: it has a record in the metadataPrefix; and if `from`, `until` or
-- `set` is given, its datestamp is not before the one, not after the other, and it is in the set
pub record IsAskedFor (list_request : ListQuery) (item : ItemState) : Type 0 where
  pub prefix : has_record list_request.prefix item.formats ≡ true
  pub from : IfSome list_request.from (λ text. IsFrom text item.stamp)
  pub until : IfSome list_request.until (λ text. IsUntil text item.stamp)
  pub set : IfSome list_request.set (λ spec. IsInSet spec item.sets)

-- the selection has exactly those of the items that are asked for, each once, in the order of their datestamps and
-- identifiers
pub record IsSelection (list_request : ListQuery) (items selection : List ItemState) : Type 0 where
  pub members : (item : ItemState) → Contains selection item ↔ (Contains items item × IsAskedFor list_request item)
  pub ordered : are_in_order selection ≡ true

-- ---- datestamps

-- the item's datestamp is not before earliestDatestamp (section 4.2), not after the clock, and has the repository's
-- granularity
abbrev pub has_granular_stamp : RepositoryConfig → ℤ → ItemState → Bool
has_granular_stamp config clock item =
    int_le config.earliest item.stamp && int_le item.stamp clock && int_eq (stamp_of config.granularity item.stamp) item.stamp
