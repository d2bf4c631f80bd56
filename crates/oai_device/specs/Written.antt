-- The pages that were written to a file: no field of its device holds them, and only clauses speak of them.
use Rattle.std.specs.Prelude.{◌≡◌, ◌==◌, ◌*◌, ℕ, List, Option, Some, None, ◌∷◌, if◌then◌else◌, nat_eq, length, slice_index}
use Rattle.std.specs.Option.{option_flatten}
use Rattle.std.specs.Map.{lookup}
use Rattle.oai_device.specs.PageFile.{Bytes, Stand}
use Rattle.oai_device.specs.declared.devices.TheConstants.{PAGE_BYTES}

-- the number and the page of each write, or None if it failed; the last one first
abbrev pub PageWrites : Type 0
PageWrites = List (ℕ × Option (List ℕ))

-- those pages after a write under the first of the numbers, which failed if the second is 0
abbrev pub with_page : List ℕ → List ℕ → PageWrites → PageWrites
with_page numbers bytes pages = (slice_index numbers 0, if slice_index numbers 1 == 0 then None else Some bytes) ∷ pages

-- the page that was last written under a number; None if none was, or if that write failed
abbrev pub page_under : PageWrites → ℕ → Option (List ℕ)
page_under pages number = option_flatten (lookup (nat_eq number) pages)

-- each such page is whole, and is in the file at its number times the size of a page
pub record AreInFile (file : Bytes) (pages : PageWrites) : Type 0 where
  pub whole : (number : ℕ) (page : List ℕ) → page_under pages number ≡ Some page → length page ≡ PAGE_BYTES
  pub place : (number : ℕ) (page : List ℕ) → page_under pages number ≡ Some page → Stand file (number * PAGE_BYTES) page
