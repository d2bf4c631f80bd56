-- What is left of a deleted item keeps the rules of items.
use Rattle.std.proofs.Common.{◌≡◌, ◌≢◌, ◌∙◌, ℤ, true, ◌&&◌, List, [], ◌∷◌, map, refl, ap}
use Rattle.std.proofs.lemmas.List.Folds.{list_all-map}
use Rattle.oai_names.specs.Names.{may_be_prefix}
use Rattle.oai_item.specs.Item.{IsItem, IsStamp, ItemState, Metadata, are_prefixed, are_rising, emptied, have_no_fields, is_before, tombstone_of}

prefixed_left : (formats : List Metadata) → are_prefixed (map emptied formats) ≡ are_prefixed formats
unfolding are_prefixed
prefixed_left formats = list_all-map (λ (format : Metadata). may_be_prefix format.0) emptied formats

rising_left : (formats : List Metadata) → are_rising (map emptied formats) ≡ are_rising formats
rising_left [] = refl
rising_left (a ∷ []) = refl
rising_left (a ∷ b ∷ formats) = ap (λ r. is_before a.0 b.0 && r) (rising_left (b ∷ formats))

no_fields_left : (formats : List Metadata) → have_no_fields (map emptied formats) ≡ true
unfolding have_no_fields
no_fields_left [] = refl
no_fields_left (format ∷ formats) = no_fields_left formats

some_left : (formats : List Metadata) → formats ≢ [] → map emptied formats ≢ []
some_left [] some none = some none
some_left (format ∷ formats) some none = cc

pub tombstone_is_item : (stamp : ℤ) (item : ItemState) → IsStamp stamp → IsItem item → IsItem (tombstone_of stamp item)
tombstone_is_item stamp item stamped valid = record {
  identified = valid.identified;
  stamped = stamped;
  in_sets = valid.in_sets;
  apart = valid.apart;
  prefixed = prefixed_left item.formats ∙ valid.prefixed;
  rising = rising_left item.formats ∙ valid.rising;
  carries = some_left item.formats valid.carries;
  deleted = λ _. no_fields_left item.formats;
}
