-- The parts of a host's state, encoded, and the state that they make when they are restored one after the other. This
-- repository's own.
use Rattle.std.specs.Prelude.{ℕ, suc, zero, ℤ, Bool, ◌&&◌, ◌==◌, if◌then◌else◌, List, [], ◌∷◌, ◌++◌, map, codes, decimal, Option, None, Some}
use Rattle.std.specs.Fmt.{signed_decimal}
use Rattle.std.specs.List.{after_first, before_first, flat_map}
use Rattle.std.specs.Ordering.{int_eq}
use Rattle.std.specs.Str.{bytes_eq}
use Rattle.std.specs.Str.Parse.{digits_value}
use Rattle.oai_names.specs.declared.list_verbs.ListVerb.{ListVerb}
use Rattle.oai_names.specs.declared.list_verbs.ListVerb.TheVariants.{Identifiers, Records}
use Rattle.oai_bytes.specs.Numbers.{moment_of, number_in}
use Rattle.oai_bytes.specs.Parts.{part as first_word, rest as next_words}
use Rattle.oai_args.specs.Verbs.{name_of, verb_of_list}
use Rattle.oai_item.specs.Decoding.{first_item}
use Rattle.oai_item.specs.Encoding.{encoded}
use Rattle.oai_repo.specs.Saved.{SavedListState, SavedPartState, ended, has_clock, has_gone, has_item, has_list, has_named_set, parts_of, with_part}
use Rattle.oai_repo.specs.State.{RepoState, empty_state}
use Rattle.oai_replay.specs.Parts.{PartState}
use Rattle.oai_replay.specs.declared.parts.PartKind.{PartKind}
use Rattle.oai_replay.specs.declared.parts.PartKind.TheVariants.{Begin, Gone, Item, Set, List as OpenList}
use Rattle.oai_host.specs.Hosts.{NamedPart, Repository}

-- ---- an open list

-- a space, and a word
unfoldable pub spaced : List ℕ → List ℕ
spaced word = 32 ∷ word

-- the setSpec behind a space, if there is one
abbrev pub spaced_set : Option (List ℕ) → List ℕ
spaced_set None = []
spaced_set (Some set) = spaced set

-- the number, the verb, the end, the highest cursor handed out, the metadataPrefix, the first and the last datestamp,
-- and the setSpec if one was asked for
abbrev pub list_bytes : SavedListState → List ℕ
list_bytes list =
    decimal list.number ++ spaced (name_of (verb_of_list list.verb)) ++ spaced (signed_decimal list.end) ++ spaced (decimal list.given)
    ++ spaced list.filter.prefix ++ spaced (signed_decimal list.filter.lower) ++ spaced (signed_decimal list.filter.upper)
    ++ spaced_set list.filter.set

-- the verb of that name, of those that list items
unfoldable pub verb_in : List ℕ → Option ListVerb
verb_in name =
    if bytes_eq name (codes "ListRecords") then Some Records else
    (if bytes_eq name (codes "ListIdentifiers") then Some Identifiers else None)

-- a setSpec, or none if there are no bytes
abbrev pub set_in : List ℕ → Option (List ℕ)
set_in [] = None
set_in (b ∷ bytes) = Some (b ∷ bytes)

-- what is left behind so many words and the space after each, and the word there
abbrev pub words_from : ℕ → List ℕ → List ℕ
words_from zero bytes = bytes
words_from (suc n) bytes = words_from n (next_words bytes)

abbrev pub word : ℕ → List ℕ → List ℕ
word n bytes = first_word (words_from n bytes)

infixl 10 ◌>>=◌
abbrev pub ◌>>=◌ : {A B : Type 0} → Option A → (A → Option B) → Option B
(Some x) >>= f = f x
None >>= f = None

-- the list whose words these are; whether the bytes are its own is not tested
unfoldable pub list_in : List ℕ → Option SavedListState
list_in bytes = do
  number ← number_in (word 0 bytes)
  verb ← verb_in (word 1 bytes)
  end ← moment_of (word 2 bytes)
  given ← number_in (word 3 bytes)
  lower ← moment_of (word 5 bytes)
  upper ← moment_of (word 6 bytes)
  Some (record {
    number = number;
    verb = verb;
    filter = record { prefix = word 4 bytes; lower = lower; upper = upper; set = set_in (words_from 7 bytes) };
    end = end;
    given = given;
  })

-- ---- a part

abbrev pub part_kind_of : SavedPartState → PartKind
part_kind_of (has_clock clock next) = Begin
part_kind_of (has_named_set set) = Set
part_kind_of (has_item item) = Item
part_kind_of (has_gone identifier) = Gone
part_kind_of (has_list list) = OpenList

-- the datestamp of an item, or else the clock of the repository
abbrev pub part_moment_of : ℤ → SavedPartState → ℤ
part_moment_of clock (has_clock at next) = at
part_moment_of clock (has_named_set set) = clock
part_moment_of clock (has_item item) = item.stamp
part_moment_of clock (has_gone identifier) = clock
part_moment_of clock (has_list list) = clock

-- the number of the next list in decimal digits; a setSpec, a space and its setName; an item as it is stored; an
-- identifier; or an open list
abbrev pub part_bytes_of : SavedPartState → List ℕ
part_bytes_of (has_clock clock next) = decimal next
part_bytes_of (has_named_set set) = set.0 ++ 32 ∷ set.1
part_bytes_of (has_item item) = encoded item
part_bytes_of (has_gone identifier) = identifier
part_bytes_of (has_list list) = list_bytes list

-- a part of a repository of that name and clock
abbrev pub spelled_part : List ℕ → ℤ → SavedPartState → PartState
spelled_part name clock part = record { kind = part_kind_of part; moment = part_moment_of clock part; name = name; bytes = part_bytes_of part }

-- the part of a repository, with its name and clock
abbrev pub named_part : List ℕ → ℤ → SavedPartState → NamedPart
named_part name clock part = record { name = name; clock = clock; part = part }

abbrev pub encoded_part : NamedPart → PartState
encoded_part one = spelled_part one.name one.clock one.part

abbrev pub is_space_character : ℕ → Bool
is_space_character b = b == 32

-- the part of a list, if it is one
abbrev pub part_of_list : Option SavedListState → Option SavedPartState
part_of_list None = None
part_of_list (Some list) = Some (has_list list)

-- the part with that kind, moment and bytes, if there is one
abbrev pub saved_part_from : PartKind → ℤ → List ℕ → Option SavedPartState
saved_part_from Begin moment bytes = Some (has_clock moment (digits_value 10 bytes))
saved_part_from Set moment bytes = Some (has_named_set (before_first is_space_character bytes, after_first is_space_character bytes))
saved_part_from Item moment bytes = Some (has_item (first_item bytes))
saved_part_from Gone moment bytes = Some (has_gone bytes)
saved_part_from OpenList moment bytes = part_of_list (list_in bytes)

-- whether that part has them
abbrev pub has_spelling : ℤ → List ℕ → SavedPartState → Bool
has_spelling moment bytes part = bytes_eq (part_bytes_of part) bytes && int_eq (part_moment_of moment part) moment

abbrev pub if_spelled : ℤ → List ℕ → Option SavedPartState → Option SavedPartState
if_spelled moment bytes None = None
if_spelled moment bytes (Some part) = if has_spelling moment bytes part then Some part else None

-- the part that is encoded so, if there is one
abbrev pub part_in : PartState → Option SavedPartState
part_in part = if_spelled part.moment part.bytes (saved_part_from part.kind part.moment part.bytes)

-- ---- repositories

-- a part that was decoded is restored; nothing if none was
abbrev pub with_read : RepoState → Option SavedPartState → RepoState
with_read state None = state
with_read state (Some part) = with_part state part

-- a part is restored at the repository with its name
abbrev pub restored_at : PartState → Repository → Repository
restored_at part repository =
    if bytes_eq repository.name part.name then record repository { state = with_read repository.state (part_in part) } else repository

abbrev pub restored_in : List Repository → PartState → List Repository
restored_in repositories part = map (restored_at part) repositories

-- the parts of a repository
abbrev pub parts_at : Repository → List PartState
parts_at repository = map (spelled_part repository.name repository.state.clock) (parts_of repository.state)

-- those of all, in the order of the repositories
abbrev pub parts_in : List Repository → List PartState
parts_in repositories = flat_map parts_at repositories

-- no list is open, and the number of each next list is raised by that much
abbrev pub ended_at : ℕ → Repository → Repository
ended_at raise repository = record repository { state = ended raise repository.state }

abbrev pub ended_in : ℕ → List Repository → List Repository
ended_in raise repositories = map (ended_at raise) repositories

-- each in its initial state
abbrev pub emptied_at : Repository → Repository
emptied_at repository = record repository { state = empty_state repository.config }

abbrev pub emptied_in : List Repository → List Repository
emptied_in repositories = map emptied_at repositories
