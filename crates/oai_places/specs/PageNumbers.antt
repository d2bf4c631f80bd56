-- What contracts see of the numbers of a leaf. No definition rests on this word.
use Rattle.std.specs.Prelude.{ℕ, List}
use Rattle.oai_places.specs.declared.page_numbers.HeldNumbers.{HeldNumbers}
use Rattle.oai_places.specs.declared.page_numbers.HeldNumbers.TheVariants as held

-- the numbers that are held
abbrev pub numbers_held : HeldNumbers → List ℕ
numbers_held (held.One number) = number
numbers_held (held.Several numbers) = numbers.items
