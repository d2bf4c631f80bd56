-- What is read of the bytes of an open list: words that only tie the code to the definitions.
use Rattle.std.specs.Prelude.{◌≡◌, ◌<◌, ◌^◌, ◌⊎◌, ℕ, true, FitsSigned, IfSome, List, Option, Result, Ok, Err}
use Rattle.std.specs.Int.{w64}
use Rattle.oai_names.specs.Names.{may_be_prefix}
use Rattle.oai_names.specs.Sets.{may_be_set_spec}
use Rattle.oai_args.specs.Verbs.{is_of_records}
use Rattle.oai_item.specs.declared.faults.Fault.{Fault}
use Rattle.oai_item.specs.declared.faults.Fault.TheVariants.{Damaged, NoMemory}
use Rattle.oai_repo.specs.Saved.{SavedListState}
use Rattle.oai_host.specs.Saved.{list_bytes, set_in}
use Rattle.oai_host.specs.Saving.{CanBeList}
use Rattle.oai_host.specs.declared.list_parts.ListWords.{ListWords}

-- the list with these words
abbrev pub list_of_words : ListWords → SavedListState
list_of_words words = record {
  number = words.number;
  verb = words.verb;
  filter = record { prefix = words.prefix.now; lower = words.lower; upper = words.upper; set = set_in words.set.now };
  end = words.end;
  given = words.given;
}

-- words of a list of items, with numbers of 64 bits
pub record CanBeWords (words : ListWords) : Type 0 where
  pub number : words.number < 2 ^ 64
  pub verb : is_of_records words.verb ≡ true
  pub end : FitsSigned w64 words.end
  pub given : words.given < 2 ^ 64

-- what was read is the one that was there, and may be so; it is damaged if there may be none; or memory ran out
abbrev pub IsPieceReading : {A : Type 0} → (A → Type 0) → A → Result A Fault → Type 0
IsPieceReading may_be there (Ok piece) = (piece ≡ there) × may_be there
IsPieceReading may_be there (Err fault) = ((fault ≡ Damaged) × (may_be there → ⊥)) ⊎ (fault ≡ NoMemory)

abbrev pub IsPrefix : List ℕ → Type 0
IsPrefix text = may_be_prefix text ≡ true

abbrev pub IsSetSpec : List ℕ → Type 0
IsSetSpec text = may_be_set_spec text ≡ true

abbrev pub IsGivenSet : Option (List ℕ) → Type 0
IsGivenSet set = IfSome set IsSetSpec

-- the list that was read is spelled so, and may be; it is damaged if no list that may be is spelled so; or memory ran
-- out
abbrev pub IsListReading : List ℕ → Result SavedListState Fault → Type 0
IsListReading bytes (Ok list) = (bytes ≡ list_bytes list) × CanBeList list
IsListReading bytes (Err fault) =
    ((fault ≡ Damaged) × ((list : SavedListState) → CanBeList list → bytes ≡ list_bytes list → ⊥)) ⊎ (fault ≡ NoMemory)
