-- What is picked from a page whose entries were not validated, for private functions. The definitions speak of the
-- items whose page the bytes are, and say nothing if there are none, as over a faulty device.
use Rattle.std.specs.Prelude.{◌≡◌, ◌^◌, ◌+◌, ◌<◌, ◌≤◌, ℕ, Bool, true, false, List, ◌++◌, length, Option, Some, None, Result, Ok, Err, ⊤}
use Rattle.oai_item.specs.Encoding.{encoded_list, encoded_text}
use Rattle.oai_item.specs.Item.{ItemState}
use Rattle.oai_item.specs.declared.decodings.DecodeFault.{DecodeFault}
use Rattle.oai_item.specs.declared.decodings.DecodeFault.TheVariants.{Damaged, NoMemory}
use Rattle.oai_places.specs.Parts.{IsPartTaken}
use Rattle.oai_places.specs.Places.{PlaceState, span_at}
use Rattle.oai_device.specs.declared.devices.TheConstants.{PAGE_BYTES}
use Rattle.oai_places.specs.declared.sizes.TheConstants.{NUMBER_BYTES}
use Rattle.oai_sums.specs.declared.spans.Span.{Span}
use denote.Ref.{Bor}

-- the item, if it passes
abbrev pub IsFoundWanted : (ItemState → Bool) → ItemState → Option ItemState → Type 0
IsFoundWanted passes item (Some found) = (found ≡ item) × (passes item ≡ true)
IsFoundWanted passes item None = passes item ≡ false

-- the result of decoding the item: the item, if it passes; or out of memory
abbrev pub IsPicked : (ItemState → Bool) → ItemState → Result (Option ItemState) DecodeFault → Type 0
IsPicked passes item (Ok found) = IsFoundWanted passes item found
IsPicked passes item (Err Damaged) = ⊥
IsPicked passes item (Err NoMemory) = ⊤

-- the result of appending those of the items that pass to a part: how many remain to be skipped; or out of memory
abbrev pub IsPicking : (ItemState → Bool) → ℕ → List ItemState → List ItemState → ℕ → List ItemState → Result ℕ DecodeFault → Type 0
IsPicking passes most old new skip items (Ok left) = IsPartTaken passes most old new skip left items
IsPicking passes most old new skip items (Err Damaged) = ⊥
IsPicking passes most old new skip items (Err NoMemory) = ⊤

-- the bytes of the item from its setSpecs on, which are few
abbrev pub AreSetsFound : ItemState → Option (Bor (List ℕ)) → Type 0
AreSetsFound item (Some bytes) = (behind : List ℕ) × (bytes.now ≡ encoded_list encoded_text item.sets ++ behind) × (length bytes.now < 2 ^ 32)
AreSetsFound item None = ⊥

-- the leaf has one page, and the items of the requested set are within that span of it
pub record IsPickable (place : PlaceState) (set : Option (List ℕ)) (span : Span) : Type 0 where
  pub one : length place.pages ≤ 1
  pub known : span_at place set ≡ Some span
  pub order : span.from ≤ span.to
  pub within : NUMBER_BYTES + span.to ≤ PAGE_BYTES
