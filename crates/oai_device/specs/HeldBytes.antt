-- The bytes that a `HeldBytes` holds. No definition rests on these words.
use Rattle.std.specs.Prelude.{◌+◌, ◌≤◌, ℕ, List, drop, take}
use Rattle.oai_device.specs.declared.devices.TheConstants.{PAGE_BYTES}
use Rattle.oai_device.specs.declared.held_bytes.Held.{Held}
use Rattle.oai_device.specs.declared.held_bytes.Held.TheVariants as held

-- the bytes
abbrev pub bytes_held : Held → List ℕ
bytes_held (held.Own bytes) = bytes.items
bytes_held (held.OnPage page from size) = take size (drop from page.value)

-- those of a page are on it
abbrev pub AreHeldOnPage : Held → Type 0
AreHeldOnPage (held.Own bytes) = Unit {0}
AreHeldOnPage (held.OnPage page from size) = from + size ≤ PAGE_BYTES
