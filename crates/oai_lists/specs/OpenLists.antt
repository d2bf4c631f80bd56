-- The lists that a repository has begun to answer and that resumption tokens continue. OAI-PMH 2.0, section 3.5.
use Rattle.std.specs.Prelude.{◌≡◌, ◌+◌, ◌≤ℤ◌, ℕ, ℤ, max, int_le, int_lt, Bool, true, false, ◌&&◌, ◌==◌, nat_le, nat_lt, if◌then◌else◌, List, [], ◌∷◌, ◌++◌, length, map, Option, None, Some, MatchOption, filter, find, Result, Ok, Err}
use Rattle.std.specs.List.{All, Contains, after_first, before_first, list_all}
use Rattle.oai_names.specs.Numbered.{numbers_rise}
use Rattle.oai_lists.specs.declared.open_lists.Mark.{Mark}
use Rattle.oai_lists.specs.declared.open_lists.NewList.{NewList}
use Rattle.oai_lists.specs.declared.open_lists.OpenList.{OpenList}
use Rattle.oai_lists.specs.declared.lists.OpenListFault.{OpenListFault}
use Rattle.oai_lists.specs.declared.lists.OpenListFault.TheVariants.{Full, NumbersSpent, NoMemory}
use Rattle.oai_lists.specs.declared.lists.ReopenFault.{ReopenFault}
use Rattle.oai_lists.specs.declared.lists.ReopenFault.TheVariants as reopen

-- the lists that are held, in the order in which they were opened, how many may be open, and the next number
pub record Table : Type 0 where
  pub limit : ℕ
  pub next : ℕ
  pub lists : List OpenList

-- the list is open: its end is above that moment, in seconds from 1970 on
abbrev pub is_open : ℤ → OpenList → Bool
is_open now list = int_lt now list.end

-- the list has ended: its end is not above that moment
abbrev pub has_ended : ℤ → OpenList → Bool
has_ended now list = int_le list.end now

-- those of the lists that are open
abbrev pub open_ones : ℤ → List OpenList → List OpenList
open_ones now lists = filter (is_open now) lists

-- the lists without the first that has ended
abbrev pub without_ended : ℤ → List OpenList → List OpenList
without_ended now lists = before_first (has_ended now) lists ++ after_first (has_ended now) lists

-- the list has that number
abbrev pub has_list_number : ℕ → OpenList → Bool
has_list_number number list = list.number == number

-- the list with that number, if it is open
unfoldable pub open_numbered : ℕ → ℤ → List OpenList → Option OpenList
open_numbered number now lists = find (λ list. has_list_number number list && is_open now list) lists

-- ---- opening

-- why no list may be opened at that moment: the first cause. The table is full, or no number is left (the last one of
-- 64 bits is never used)
unfoldable pub open_fault : Table → ℤ → Option OpenListFault
open_fault table now =
    if nat_le table.limit (length (open_ones now table.lists)) then Some Full
    else (if table.next == 18_446_744_073_709_551_615 then Some NumbersSpent
    else None)

-- the number that the next list gets, or why none may be opened
abbrev pub number_or_fault : Option OpenListFault → ℕ → Result ℕ OpenListFault
number_or_fault None next = Ok next
number_or_fault (Some fault) next = Err fault

-- the table with one more list, which has the next number
abbrev pub with_opened : Table → OpenList → Table
with_opened table list = record table { next = table.next + 1; lists = table.lists ++ list ∷ [] }

-- the list with that number
abbrev pub opened_list : ℕ → NewList → OpenList
opened_list number list = record {
  number = number;
  verb = list.verb;
  filter = list.filter;
  version = list.version;
  size = list.size;
  end = list.end;
  given = list.given;
  mark = list.mark;
}

-- the result of opening the list at that moment, and the table afterwards: it is the last one, or the first cause that
-- applies is returned and the table is unchanged. Out of memory is possible if no cause applies
abbrev pub IsListOpening : Table → ℤ → OpenList → Result ℕ OpenListFault → Table → Type 0
IsListOpening old now list (Ok number) new =
    (open_fault old now ≡ None) × (number ≡ old.next) × (new ≡ with_opened old list)
IsListOpening old now list (Err NoMemory) new = (open_fault old now ≡ None) × (new ≡ old)
IsListOpening old now list (Err fault) new = (open_fault old now ≡ Some fault) × (new ≡ old)

-- ---- reopening

-- a list with that number may be put behind those that are held: the number is above theirs, and below the next one
abbrev pub may_reopen : Table → ℕ → Bool
may_reopen table number = list_all (λ list. nat_lt list.number number) table.lists && nat_lt number table.next

-- the table with that list behind the others
abbrev pub with_reopened : Table → OpenList → Table
with_reopened table list = record table { lists = table.lists ++ list ∷ [] }

-- the result of putting the list back, and the table afterwards: it is the last one; or its number is out of order, or
-- memory is, and the table is unchanged
abbrev pub IsReopening : Table → OpenList → Result (Unit {0}) ReopenFault → Table → Type 0
IsReopening old list (Ok _) new = (may_reopen old list.number ≡ true) × (new ≡ with_reopened old list)
IsReopening old list (Err reopen.OutOfOrder) new = (may_reopen old list.number ≡ false) × (new ≡ old)
IsReopening old list (Err reopen.NoMemory) new = (may_reopen old list.number ≡ true) × (new ≡ old)

-- ---- changing one list

-- the list after that change, if it has that number
abbrev pub changed_one : ℕ → (OpenList → OpenList) → OpenList → OpenList
changed_one number change list = if has_list_number number list then change list else list

-- the lists with that change to the one with that number
abbrev pub with_change : ℕ → (OpenList → OpenList) → List OpenList → List OpenList
with_change number change lists = map (changed_one number change) lists

-- the highest cursor that was handed out, after a token with that one is, if there is one
abbrev pub highest_given : Option ℕ → ℕ → ℕ
highest_given None given = given
highest_given (Some cursor) given = max given cursor

-- the list of which a part was answered: it has another end and another mark, and a token with that cursor was given,
-- if there is one
abbrev pub kept_open : ℤ → Option ℕ → Option Mark → OpenList → OpenList
kept_open end next mark list = record list { end = end; given = highest_given next list.given; mark = mark }

-- ---- the earliest end

-- it is the end of one of the lists, and no list ends earlier; there is none if there is no list
abbrev pub IsEarliest : List OpenList → Option ℤ → Type 0
IsEarliest lists end = MatchOption end (lists ≡ [])
    (λ earliest. ((list : OpenList) × Contains lists list × (list.end ≡ earliest))
    × All (λ list. earliest ≤ℤ list.end) lists)

-- ---- what is true of each table

-- the number of a list
abbrev pub list_number : OpenList → ℕ
list_number list = list.number

-- the numbers rise strictly along the lists
abbrev pub are_numbered_lists : List OpenList → Bool
are_numbered_lists lists = numbers_rise list_number lists

-- numbers are distinct and never used again: they rise strictly, and the next is above them
pub record IsListTable (table : Table) : Type 0 where
  pub numbered : are_numbered_lists table.lists ≡ true
  pub given : list_all (λ list. nat_lt list.number table.next) table.lists ≡ true
