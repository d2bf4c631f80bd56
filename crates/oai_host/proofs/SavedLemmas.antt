-- A part that is spelled is read back, and the parts of repositories make them again. A part changes the repository of its name alone, so
-- what all parts make of a repository is what its own make of it.
use Rattle.std.proofs.Common.{◌≡◌, ◌∙◌, ℕ, ℤ, ◌+◌, ◌<◌, true, false, decimal, List, [], ◌∷◌, ◌++◌, append_assoc, length, take, get_or, map, Option, None, Some, Result, Ok, Err, OnOk, refl, sym, ap, ap₂, subst}
use Rattle.std.specs.List.{AllByRecursion, after_first, before_first, list_any}
use Rattle.std.specs.Ordering.{int_eq}
use Rattle.std.specs.Str.{bytes_eq}
use Rattle.std.specs.Str.Parse.{digits_value}
use Rattle.std.proofs.lemmas.Bool.{and_from, cond-false, cond-true, or_parts}
use Rattle.std.proofs.lemmas.Bool.Decides.{Decides-int_eq}
use Rattle.std.proofs.lemmas.Fmt.{decimal_is_IsNumeral}
use Rattle.std.proofs.lemmas.List.{append-nil, map_more}
use Rattle.oai_item.specs.Decoding.{first_item}
use Rattle.oai_item.specs.Encoding.{encoded}
use Rattle.oai_item.specs.Rules.{has_repeat}
use Rattle.oai_item.specs.Item.{ItemState}
use Rattle.oai_item.proofs.ReadBack.{item_back}
use Rattle.oai_catalogue.specs.Store.{VersionLists}
use Rattle.oai_repo.specs.Fields.{state_of}
use Rattle.oai_repo.specs.Saved.{SavedPartState, ended, has_clock, has_gone, has_item, has_list, has_named_set, parts_of, with_part, with_parts}
use Rattle.oai_repo.specs.State.{RepoState, empty_state}
use Rattle.oai_repo.proofs.SavedLemmas.{restored}
use Rattle.oai_replay.specs.Parts.{PartState, restored_all}
use Rattle.oai_replay.specs.declared.parts.PartKind.{PartKind}
use Rattle.oai_http.proofs.TargetLemmas.{bytes_same, bytes_turned}
use Rattle.oai_host.specs.Hosts.{Repository}
use Rattle.oai_host.specs.NamedRepos.{AllHeld, repo_names, repositories_of, repository_of}
use Rattle.oai_host.specs.Saved.{emptied_at, emptied_in, ended_at, ended_in, has_spelling, if_spelled, is_space_character, list_bytes, list_in, part_bytes_of, part_in, part_kind_of, part_moment_of, part_of_list, parts_at, parts_in, restored_at, restored_in, spelled_part, with_read}
use Rattle.oai_host.proofs.ListLemmas.{list_back, set_back}
use Rattle.oai_host.specs.Saving.{CanBeRead, Takes, TakesAll, TakesParts}
use Rattle.oai_host.specs.declared.repositories.NamedRepo.{NamedRepo}

-- ---- a part is read back

same_moment : (clock : ℤ) (part : SavedPartState) → int_eq (part_moment_of (part_moment_of clock part) part) (part_moment_of clock part) ≡ true
same_moment clock (has_clock at next) = (Decides-int_eq at at).1 refl
same_moment clock (has_named_set set) = (Decides-int_eq clock clock).1 refl
same_moment clock (has_item item) = (Decides-int_eq item.stamp item.stamp).1 refl
same_moment clock (has_gone identifier) = (Decides-int_eq clock clock).1 refl
same_moment clock (has_list list) = (Decides-int_eq clock clock).1 refl

spelled_is : (clock : ℤ) (part : SavedPartState) (from : Option SavedPartState) → from ≡ Some part → if_spelled (part_moment_of clock part) (part_bytes_of part) from ≡ Some part
spelled_is clock part from same =
    ap (if_spelled (part_moment_of clock part) (part_bytes_of part)) same
    ∙ cond-true (has_spelling (part_moment_of clock part) (part_bytes_of part) part) (Some part) None
    (and_from (bytes_eq (part_bytes_of part) (part_bytes_of part)) (int_eq (part_moment_of (part_moment_of clock part) part) (part_moment_of clock part)) (bytes_same (part_bytes_of part)) (same_moment clock part))

pub read_back : (name : List ℕ) (clock : ℤ) (part : SavedPartState) → CanBeRead part → part_in (spelled_part name clock part) ≡ Some part
read_back name clock (has_clock at next) small =
    spelled_is clock (has_clock at next) (Some (has_clock at (digits_value 10 (decimal next)))) (ap (λ (n : ℕ). Some (has_clock at n)) (decimal_is_IsNumeral next small).1)
read_back name clock (has_named_set set) spec =
    spelled_is clock (has_named_set set) (Some (has_named_set (before_first is_space_character (set.0 ++ 32 ∷ set.1), after_first is_space_character (set.0 ++ 32 ∷ set.1)))) (ap (λ (p : SavedPartState). Some p) (set_back set.0 set.1 spec))
read_back name clock (has_item item) spells =
    spelled_is clock (has_item item) (Some (has_item (first_item (encoded item)))) (ap (λ (it : ItemState). Some (has_item it)) (item_back (encoded item) item spells))
read_back name clock (has_gone identifier) is = spelled_is clock (has_gone identifier) (Some (has_gone identifier)) refl
read_back name clock (has_list list) is = spelled_is clock (has_list list) (part_of_list (list_in (list_bytes list))) (ap part_of_list (list_back list is))

-- the parts of something that is spelled so
pub read_as : (kind : PartKind) (moment : ℤ) (name bytes : List ℕ) (part : SavedPartState) → kind ≡ part_kind_of part → moment ≡ part_moment_of moment part → bytes ≡ part_bytes_of part → CanBeRead part
    → part_in (record { kind = kind; moment = moment; name = name; bytes = bytes }) ≡ Some part
read_as kind moment name bytes part of_kind at spelled readable =
    ap (λ (k : PartKind). part_in (record { kind = k; moment = moment; name = name; bytes = bytes })) of_kind
    ∙ ap (λ (m : ℤ). part_in (record { kind = part_kind_of part; moment = m; name = name; bytes = bytes })) at
    ∙ ap (λ (b : List ℕ). part_in (record { kind = part_kind_of part; moment = part_moment_of moment part; name = name; bytes = b })) spelled
    ∙ read_back name moment part readable

-- ---- what a sink takes

pub takes_none : {S : Type 0} (has : S → List PartState → Type 0) (s : S) → Takes has [] s s
takes_none has s = λ before there. subst (λ (ps : List PartState). has s ps) (sym (append-nil before)) there

pub takes_then : {S : Type 0} (has : S → List PartState → Type 0) (ps qs : List PartState) (a b c : S) → Takes has ps a b → Takes has qs b c → Takes has (ps ++ qs) a c
takes_then has ps qs a b c one other = λ before there. subst (λ (rs : List PartState). has c rs) (append_assoc before ps qs) (other (before ++ ps) (one before there))

all_append : {A : Type 0} (P : A → Type 0) (xs ys : List A) → AllByRecursion P xs → AllByRecursion P ys → AllByRecursion P (xs ++ ys)
all_append P [] ys one other = other
all_append P (x ∷ xs) ys one other = (one.0, all_append P xs ys one.1 other)

spelled_append : (name : List ℕ) (clock : ℤ) (ps qs : List SavedPartState) → map (spelled_part name clock) (ps ++ qs) ≡ map (spelled_part name clock) ps ++ map (spelled_part name clock) qs
spelled_append name clock [] qs = refl
spelled_append name clock (p ∷ ps) qs = ap (λ (rs : List PartState). spelled_part name clock p ∷ rs) (spelled_append name clock ps qs)

pub parts_none : {S : Type 0} (has : S → List PartState → Type 0) (name : List ℕ) (clock : ℤ) (s : S) → TakesParts has name clock [] s s
parts_none has name clock s = record { taken = takes_none has s; readable = tt }

pub parts_one : {S : Type 0} (has : S → List PartState → Type 0) (name : List ℕ) (clock : ℤ) (p : SavedPartState) (part : PartState) (a b : S) → part ≡ spelled_part name clock p → CanBeRead p → Takes has (part ∷ []) a b
    → TakesParts has name clock (p ∷ []) a b
parts_one has name clock p part a b is readable taken = record { taken = subst (λ (q : PartState). Takes has (q ∷ []) a b) is taken; readable = (readable, tt) }

pub parts_then : {S : Type 0} (has : S → List PartState → Type 0) (name : List ℕ) (clock : ℤ) (ps qs : List SavedPartState) (a b c : S) → TakesParts has name clock ps a b → TakesParts has name clock qs b c
    → TakesParts has name clock (ps ++ qs) a c
parts_then has name clock ps qs a b c one other = record {
  taken = subst (λ (rs : List PartState). Takes has rs a c) (sym (spelled_append name clock ps qs)) (takes_then has (map (spelled_part name clock) ps) (map (spelled_part name clock) qs) a b c one.taken other.taken);
  readable = all_append CanBeRead ps qs one.readable other.readable;
}

-- all parts of a repository, where those of its items could be read
pub parts_all : {S E : Type 0} (has : S → List PartState → Type 0) (name : List ℕ) (clock : ℤ) (p : SavedPartState) (ps qs : List SavedPartState) (Honest : Type 0) (result : Result (Unit {0}) E) (a b c d : S) → TakesParts has name clock (p ∷ []) a b
    → TakesParts has name clock ps b c → OnOk result (Honest → TakesParts has name clock qs c d) → OnOk result (Honest → TakesParts has name clock (p ∷ (ps ++ qs)) a d)
parts_all has name clock p ps qs Honest (Ok done) a b c d one sets items =
    λ honest. parts_then has name clock (p ∷ []) (ps ++ qs) a b d one (parts_then has name clock ps qs b c d sets (items honest))
parts_all has name clock p ps qs Honest (Err fault) a b c d one sets items = tt

last_parts : (raise : ℕ) (front : List Repository) (last : Repository) → parts_in (ended_in raise (front ++ last ∷ [])) ≡ parts_in (ended_in raise front) ++ parts_at (ended_at raise last)
last_parts raise [] last = append-nil (parts_at (ended_at raise last))
last_parts raise (x ∷ front) last =
    ap (λ (ps : List PartState). parts_at (ended_at raise x) ++ ps) (last_parts raise front last)
    ∙ sym (append_assoc (parts_at (ended_at raise x)) (parts_in (ended_in raise front)) (parts_at (ended_at raise last)))

pub all_none : {S : Type 0} (has : S → List PartState → Type 0) (raise : ℕ) (s : S) → TakesAll has raise [] s s
all_none has raise s = record { taken = takes_none has s; readable = tt }

pub all_then : {S : Type 0} (has : S → List PartState → Type 0) (raise : ℕ) (front : List Repository) (last : Repository) (a b c : S) → TakesAll has raise front a b
    → TakesParts has last.name last.state.clock (parts_of (ended raise last.state)) b c → TakesAll has raise (front ++ last ∷ []) a c
all_then has raise front last a b c one other = record {
  taken = subst (λ (rs : List PartState). Takes has rs a c) (sym (last_parts raise front last)) (takes_then has (parts_in (ended_in raise front)) (parts_at (ended_at raise last)) a b c one.taken other.taken);
  readable = all_append (λ (r : Repository). AllByRecursion CanBeRead (parts_of (ended raise r.state))) front (last ∷ []) one.readable (other.readable, tt);
}

-- of one repository more
pub all_more : {S : Type 0} (has : S → List PartState → Type 0) (raise : ℕ) (repos : List NamedRepo) (lists same : VersionLists) (i : ℕ) (one : NamedRepo) (a b c : S) → i < length repos → one ≡ get_or repos i one → same ≡ lists
    → TakesAll has raise (repositories_of (take i repos) lists) a b → TakesParts has one.name one.repo.clock (parts_of (ended raise (state_of one.repo same))) b c
    → TakesAll has raise (repositories_of (take (i + 1) repos) lists) a c
all_more has raise repos lists same i one a b c within is as_before front last =
    let f : NamedRepo → Repository = repository_of lists in
    let more : map f (take i repos) ++ f one ∷ [] ≡ map f (take (i + 1) repos) = ap (λ (y : NamedRepo). map f (take i repos) ++ f y ∷ []) is ∙ sym (map_more f repos i one within) in
    let parts = subst (λ (l : VersionLists). TakesParts has one.name one.repo.clock (parts_of (ended raise (state_of one.repo l))) b c) as_before last in
    subst (λ (rs : List Repository). TakesAll has raise rs a c) more (all_then has raise (map f (take i repos)) (f one) a b c front parts)

-- ---- what parts make of one repository

abbrev restored_one : Repository → List PartState → Repository
restored_one r [] = r
restored_one r (p ∷ ps) = restored_one (restored_at p r) ps

one_after : (r : Repository) (ps qs : List PartState) → restored_one r (ps ++ qs) ≡ restored_one (restored_one r ps) qs
one_after r [] qs = refl
one_after r (p ∷ ps) qs = one_after (restored_at p r) ps qs

map_none : (rs : List Repository) → rs ≡ map (λ (r : Repository). restored_one r []) rs
map_none [] = refl
map_none (r ∷ rs) = ap (λ (others : List Repository). r ∷ others) (map_none rs)

map_both : (p : PartState) (ps : List PartState) (rs : List Repository) → map (λ (r : Repository). restored_one r ps) (restored_in rs p) ≡ map (λ (r : Repository). restored_one r (p ∷ ps)) rs
map_both p ps [] = refl
map_both p ps (r ∷ rs) = ap (λ (others : List Repository). restored_one (restored_at p r) ps ∷ others) (map_both p ps rs)

each_alone : (rs : List Repository) (ps : List PartState) → restored_all restored_in rs ps ≡ map (λ (r : Repository). restored_one r ps) rs
each_alone rs [] = map_none rs
each_alone rs (p ∷ ps) = each_alone (restored_in rs p) ps ∙ map_both p ps rs

-- its own
abbrev with_state : Repository → RepoState → Repository
with_state r state = record r { state = state }

own_parts : (r : Repository) (state : RepoState) (clock : ℤ) (ps : List SavedPartState) → AllByRecursion CanBeRead ps
    → restored_one (record r { state = state }) (map (spelled_part r.name clock) ps) ≡ record r { state = with_parts state ps }
own_parts r state clock [] readable = refl
own_parts r state clock (p ∷ ps) readable =
    let now : Repository = record r { state = state } in
    let part : PartState = spelled_part r.name clock p in
    let step : restored_at part now ≡ record r { state = with_part state p } =
    cond-true (bytes_eq r.name r.name) (record r { state = with_read state (part_in part) }) now (bytes_same r.name)
    ∙ ap (λ (read : Option SavedPartState). record r { state = with_read state read }) (read_back r.name clock p readable.0) in
    ap (λ (x : Repository). restored_one x (map (spelled_part r.name clock) ps)) step ∙ own_parts r (with_part state p) clock ps readable.1

-- those of another one
other_parts : (r : Repository) (name : List ℕ) (clock : ℤ) (ps : List SavedPartState) → bytes_eq r.name name ≡ false → restored_one r (map (spelled_part name clock) ps) ≡ r
other_parts r name clock [] apart = refl
other_parts r name clock (p ∷ ps) apart =
    let part : PartState = spelled_part name clock p in
    ap (λ (x : Repository). restored_one x (map (spelled_part name clock) ps)) (cond-false (bytes_eq r.name name) (record r { state = with_read r.state (part_in part) }) r apart)
    ∙ other_parts r name clock ps apart

abbrev names : List Repository → List (List ℕ)
names rs = map (λ (r : Repository). r.name) rs

others_parts : (raise : ℕ) (r : Repository) (rs : List Repository) → list_any (bytes_eq r.name) (names rs) ≡ false → restored_one r (parts_in (ended_in raise rs)) ≡ r
others_parts raise r [] apart = refl
others_parts raise r (x ∷ rs) apart =
    let both = or_parts (bytes_eq r.name x.name) (list_any (bytes_eq r.name) (names rs)) apart in
    one_after r (parts_at (ended_at raise x)) (parts_in (ended_in raise rs))
    ∙ ap (λ (y : Repository). restored_one y (parts_in (ended_in raise rs))) (other_parts r x.name x.state.clock (parts_of (ended raise x.state)) both.0)
    ∙ others_parts raise r rs both.1

-- ---- and of all

-- its own parts make it again
abbrev ComesBack : ℕ → Repository → Type 0
ComesBack raise r = restored_one (emptied_at r) (parts_at (ended_at raise r)) ≡ ended_at raise r

behind_other : (raise : ℕ) (x : Repository) (rs : List Repository) (ps : List PartState) → list_any (bytes_eq x.name) (names rs) ≡ false
    → map (λ (r : Repository). restored_one (emptied_at r) (parts_at (ended_at raise x) ++ ps)) rs ≡ map (λ (r : Repository). restored_one (emptied_at r) ps) rs
behind_other raise x [] ps apart = refl
behind_other raise x (r ∷ rs) ps apart =
    let both = or_parts (bytes_eq x.name r.name) (list_any (bytes_eq x.name) (names rs)) apart in
    let front = parts_at (ended_at raise x) in
    let one : restored_one (emptied_at r) (front ++ ps) ≡ restored_one (emptied_at r) ps =
    one_after (emptied_at r) front ps
    ∙ ap (λ (y : Repository). restored_one y ps) (other_parts (emptied_at r) x.name x.state.clock (parts_of (ended raise x.state)) (bytes_turned x.name r.name both.0)) in
    ap₂ (λ (y : Repository) (ys : List Repository). y ∷ ys) one (behind_other raise x rs ps both.1)

all_back : (raise : ℕ) (rs : List Repository) → has_repeat (names rs) ≡ false → AllByRecursion (ComesBack raise) rs
    → map (λ (r : Repository). restored_one (emptied_at r) (parts_in (ended_in raise rs))) rs ≡ ended_in raise rs
all_back raise [] apart back = refl
all_back raise (x ∷ rs) apart back =
    let both = or_parts (list_any (bytes_eq x.name) (names rs)) (has_repeat (names rs)) apart in
    let front = parts_at (ended_at raise x) in
    let behind = parts_in (ended_in raise rs) in
    let one : restored_one (emptied_at x) (front ++ behind) ≡ ended_at raise x =
    one_after (emptied_at x) front behind ∙ ap (λ (y : Repository). restored_one y behind) back.0 ∙ others_parts raise (ended_at raise x) rs both.0 in
    ap₂ (λ (y : Repository) (ys : List Repository). y ∷ ys) one (behind_other raise x rs behind both.0 ∙ all_back raise rs both.1 back.1)

-- ---- repositories whose holdings are kept

each_back : (raise : ℕ) (repos : List NamedRepo) (lists : VersionLists) → AllHeld repos lists
    → AllByRecursion (λ (r : Repository). AllByRecursion CanBeRead (parts_of (ended raise r.state))) (repositories_of repos lists) → AllByRecursion (ComesBack raise) (repositories_of repos lists)
each_back raise [] lists held readable = tt
each_back raise (x ∷ repos) lists held readable =
    let r : Repository = repository_of lists x in (
      own_parts r (empty_state r.config) r.state.clock (parts_of (ended raise r.state)) readable.0 ∙ ap (with_state r) (restored r.config r.state (empty_state r.config) raise held.0.indexed.kept refl),
      each_back raise repos lists held.1 readable.1,
    )

names_are : (repos : List NamedRepo) (lists : VersionLists) → names (repositories_of repos lists) ≡ repo_names repos
names_are [] lists = refl
names_are (x ∷ repos) lists = ap (λ (ns : List (List ℕ)). x.name ∷ ns) (names_are repos lists)

map_emptied : (rs : List Repository) (ps : List PartState) → map (λ (r : Repository). restored_one r ps) (emptied_in rs) ≡ map (λ (r : Repository). restored_one (emptied_at r) ps) rs
map_emptied [] ps = refl
map_emptied (r ∷ rs) ps = ap (λ (others : List Repository). restored_one (emptied_at r) ps ∷ others) (map_emptied rs ps)

pub whole_back : (raise : ℕ) (repos : List NamedRepo) (lists : VersionLists) → has_repeat (repo_names repos) ≡ false → AllHeld repos lists
    → AllByRecursion (λ (r : Repository). AllByRecursion CanBeRead (parts_of (ended raise r.state))) (repositories_of repos lists)
    → restored_all restored_in (emptied_in (repositories_of repos lists)) (parts_in (ended_in raise (repositories_of repos lists))) ≡ ended_in raise (repositories_of repos lists)
whole_back raise repos lists apart held readable =
    let rs : List Repository = repositories_of repos lists in
    let ps : List PartState = parts_in (ended_in raise rs) in
    each_alone (emptied_in rs) ps ∙ map_emptied rs ps
    ∙ all_back raise rs (ap has_repeat (names_are repos lists) ∙ apart) (each_back raise repos lists held readable)
