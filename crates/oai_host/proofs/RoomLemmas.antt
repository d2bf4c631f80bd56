-- Room: what a line, the lines of a deposit and an exchange with one of many repositories need.
use Rattle.std.proofs.Common.{◌≡◌, ◌≤◌, ℕ, ◌+◌, List, [], ◌∷◌, length, Option, Some, Result, Ok, Err, refl, sym, subst, arith}
use Rattle.oai_deposit.specs.declared.changes.Change.{Change}
use Rattle.oai_deposit.specs.declared.changes.Change.TheVariants as change
use Rattle.oai_item.specs.declared.faults.Fault.{Fault}
use Rattle.oai_item.specs.declared.faults.Fault.TheVariants.{Damaged, Device, NoMemory, TooManyPages}
use Rattle.oai_catalogue.specs.Store.{NeedsRoom, Spares, Spends}
use Rattle.oai_catalogue.specs.declared.versions.Versions.{Ghosts}
use Rattle.oai_deposit.specs.Lines.{line_of}
use Rattle.oai_settings.specs.Config.{RepositoryConfig}
use Rattle.oai_holdings.specs.Calls.{room_to_change}
use Rattle.oai_repo.specs.Fields.{RepoFields}
use Rattle.oai_http.specs.Answers.{failed}
use Rattle.oai_host.specs.Answers.{failure_in}
use Rattle.oai_host.specs.Room.{room_for_line, room_for_lines}

-- ---- one line

-- what is enough for some calls is enough for more
pub room_less : {A : Type 0} (n m : ℕ) (result : Result A Fault) (old new : ℕ) → n ≤ m → NeedsRoom n result old new → NeedsRoom m result old new
room_less n m (Ok value) old new more need = let used = need.used in record { enough = tt; used = omega (arith, more, used) }
room_less n m (Err fault) old new more need =
    let used = need.used in record { enough = λ is. let few = need.enough is in omega (arith, more, few); used = omega (arith, more, used) }

pub spends_less : {V A : Type 0} (g : Ghosts V) (n m : ℕ) (result : Result A Fault) (old new : V) → n ≤ m → Spends g.room g.failures g.honest n result old new → Spends g.room g.failures g.honest m result old new
spends_less g n m result old new more uses = record { room = room_less n m result (g.room old) (g.room new) more uses.room; device = uses.device; honesty = uses.honesty }

-- what cannot fail needs no room
pub spends_none : {V : Type 0} (g : Ghosts V) (old new : V) → Spares g.room g.failures g.honest old new → Spends {A = Unit {0}} g.room g.failures g.honest 0 (Ok tt) old new
spends_none g old new frees =
    let room = frees.room in
    let count = frees.count in record {
      room = record { enough = tt; used = omega (arith, room) };
      device = record { count = omega (arith, count); device = tt };
      honesty = record { same = frees.honesty; damaged = tt };
    }

-- a change of a repository that has no more entries than items may be
pub room_of_change : (old : RepoFields) (made : Change) → length old.index.entries ≤ old.config.items → room_to_change (length old.index.entries) made ≤ room_to_change old.config.items made
room_of_change old (change.Deposit identifier sets records) few = omega arith
room_of_change old (change.Put identifier sets records) few = omega arith
room_of_change old (change.Delete identifier) few = omega arith
room_of_change old (change.Purge before) few = omega (arith, few)
room_of_change old (change.AddSet spec name) few = omega arith

-- ---- lines

one_on : (was this rest mid all is : ℕ) → was + (this + rest) ≤ mid + all → mid ≤ is + this → was + rest ≤ is + all
one_on was this rest mid all is so_far used = omega (arith, so_far, used)

-- a line more was done
pub room_on : (config : RepositoryConfig) (text : List ℕ) (left all : List (List ℕ)) (was mid is : ℕ) → was + room_for_lines config (text ∷ left) ≤ mid + room_for_lines config all
    → mid ≤ is + room_for_line config (line_of config.forms text) → was + room_for_lines config left ≤ is + room_for_lines config all
room_on config text left all was mid is so_far used = one_on was (room_for_line config (line_of config.forms text)) (room_for_lines config left) mid (room_for_lines config all) is so_far used

-- all lines were done
pub room_done : (config : RepositoryConfig) (all left : List (List ℕ)) (was is : ℕ) → left ≡ [] → was + room_for_lines config left ≤ is + room_for_lines config all
    → NeedsRoom {A = Unit {0}} (room_for_lines config all) (Ok tt) was is
room_done config all [] was is none so_far = record { enough = tt; used = omega (arith, so_far) }
room_done config all (text ∷ left) was is none so_far = cc

pub fault_told : (fault : Fault) (lines : Option ℕ) → failure_in (failed fault lines) ≡ Err fault
fault_told NoMemory lines = refl
fault_told TooManyPages lines = refl
fault_told Device lines = refl
fault_told Damaged lines = refl

one_failed : (this rest all was mid is : ℕ) (fault : Fault) → was + (this + rest) ≤ mid + all → NeedsRoom {A = Unit {0}} this (Err fault) mid is → NeedsRoom {A = Unit {0}} all (Err fault) was is
one_failed this rest all was mid is fault so_far need =
    let last = need.used in record {
      enough = λ wants. let few = need.enough wants in omega (arith, so_far, few);
      used = omega (arith, so_far, last);
    }

-- a line failed
pub room_failed : (config : RepositoryConfig) (text : List ℕ) (left all : List (List ℕ)) (was mid is done : ℕ) (fault : Fault) → was + room_for_lines config (text ∷ left) ≤ mid + room_for_lines config all
    → NeedsRoom {A = Unit {0}} (room_for_line config (line_of config.forms text)) (Err fault) mid is → NeedsRoom (room_for_lines config all) (failure_in (failed fault (Some done))) was is
room_failed config text left all was mid is done fault so_far need =
    subst (λ (result : Result (Unit {0}) Fault). NeedsRoom (room_for_lines config all) result was is) (sym (fault_told fault (Some done)))
    (one_failed (room_for_line config (line_of config.forms text)) (room_for_lines config left) (room_for_lines config all) was mid is fault so_far need)
