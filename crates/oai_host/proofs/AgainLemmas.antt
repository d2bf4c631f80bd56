-- The call by which a repository performs again what it performed, and what that leaves of the repositories of a host.
use Rattle.std.proofs.Common.{◌≡◌, ◌∙◌, ◌≤◌, ◌+◌, ℕ, ℤ, zero, suc, Bool, true, false, not, ◌&&◌, ◌||◌, nat_le, IsTrue, List, [], ◌∷◌, ◌++◌, append_assoc, length, map, max, take, drop, Option, None, Some, Result, slice_set, refl, sym, ap, subst, arith, tests}
use Rattle.std.specs.Int.{is_in_range}
use Rattle.std.specs.List.{All, list_all, list_any, position_or_len, slice_get}
use Rattle.std.specs.Prelude.{IfSome}
use Rattle.std.specs.Str.{IsUtf8, bytes_eq}
use Rattle.std.proofs.Math.Seq.{drop-append-add, get_or-append_seam, take-append_seam, take-length}
use Rattle.std.proofs.lemmas.Bool.{and_from, and_parts, cond-true, cond-false, not-true, or_parts}
use Rattle.std.proofs.lemmas.List.{get_or_append_left}
use Rattle.std.proofs.lemmas.List.Sums.{position_or_len_is}
use Rattle.oai_catalogue.specs.Store.{VersionLists}
use Rattle.oai_catalogue.specs.declared.versions.Versions.{Ghosts}
use Rattle.oai_item.specs.Rules.{has_repeat}
use Rattle.oai_item.specs.declared.faults.Fault.{Fault}
use Rattle.oai_repo.specs.Fields.{RepoFields, state_of}
use Rattle.oai_repo.specs.State.{RepoState}
use Rattle.oai_settings.specs.Config.{RepositoryConfig, is_repository_byte, is_repository_name}
use Rattle.oai_replay.specs.Redone.{call_again, is_short_name, left_again, own_call}
use Rattle.oai_http.specs.Targets.{front_of, is_question_mark, leads_to_repository, path_of, query_of}
use Rattle.oai_http.specs.declared.exchanges.Answer.{Answer}
use Rattle.oai_http.specs.declared.exchanges.Call.{Call}
use Rattle.oai_http.specs.declared.exchanges.Exchange.{Exchange}
use Rattle.oai_replay.specs.declared.replays.Performed.{Performed}
use Rattle.oai_http.specs.declared.targets.Endpoint.{Endpoint}
use Rattle.oai_http.specs.declared.targets.Endpoint.TheVariants.{Deposits, Requests}
use Rattle.oai_http.proofs.TargetLemmas.{bytes_turned, endpoint_is, leads_not, leads_there}
use Rattle.oai_host.specs.Alone.{done_alone, exchanged_alone}
use Rattle.oai_host.specs.Hosts.{AreSteps, IsStep, Repository}
use Rattle.oai_host.specs.NamedRepos.{AreNamedRepos, place_in, repo_names, repositories_of, repository_of}
use Rattle.oai_host.specs.Exchanged.{RedoesIn, store_state}
use Rattle.oai_host.specs.Places.{IsRepoPlace}
use Rattle.oai_host.specs.Performed.{IsPerformed, StoreState}
use Rattle.oai_host.specs.Redone.{AreLeftBy, AreRedone, IsLeftBy, IsNoLonger, IsPerformedAt, has_name, redone_at, redone_repositories, task_again}
use Rattle.oai_host.specs.Tasks.{Task, asking, task_at, task_in, task_of}
use Rattle.oai_host.specs.declared.repositories.NamedRepo.{NamedRepo}
use Rattle.oai_host.proofs.NamedRepoLemmas.{steps_set, unused_at}
use Rattle.oai_host.proofs.PlaceLemmas.{named_at, nothing_there, place_none, place_there, same_one}
use Rattle.oai_host.proofs.RouteLemmas.{name_utf8}

-- ---- names

byte_plain : (b : ℕ) → is_repository_byte b ≡ true → is_question_mark b ≡ false
byte_plain b is = grind (arith, tests)

byte_seen : (b : ℕ) → is_repository_byte b ≡ true → (nat_le 33 b && nat_le b 126) ≡ true
byte_seen b is = grind (arith, tests)

range_below : (n : ℕ) → is_in_range 1 32 n ≡ true → nat_le n 32 ≡ true
range_below n is = grind (arith, tests)

all_more : (b : ℕ) (text : List ℕ) → is_question_mark b ≡ false → All (λ (b : ℕ). is_question_mark b ≡ false) text → All (λ (b : ℕ). is_question_mark b ≡ false) (b ∷ text)
all_more b text first others zero d below = first
all_more b text first others (suc k) d below = others k d (omega (arith, below))

-- a name has no question mark
name_plain : (name : List ℕ) → list_all is_repository_byte name ≡ true → All (λ (b : ℕ). is_question_mark b ≡ false) name
name_plain [] all = λ k d below. absurd (omega (arith, below))
name_plain (b ∷ name) all =
    let parts = and_parts (is_repository_byte b) (list_all is_repository_byte name) all in
    all_more b name (byte_plain b parts.0) (name_plain name parts.1)

name_seen : (name : List ℕ) → list_all is_repository_byte name ≡ true → list_all (λ (b : ℕ). nat_le 33 b && nat_le b 126) name ≡ true
name_seen [] all = refl
name_seen (b ∷ name) all =
    let parts = and_parts (is_repository_byte b) (list_all is_repository_byte name) all in
    and_from (nat_le 33 b && nat_le b 126) (list_all (λ (b : ℕ). nat_le 33 b && nat_le b 126) name) (byte_seen b parts.0) (name_seen name parts.1)

short_name : (name : List ℕ) → is_repository_name name ≡ true → is_short_name name ≡ true
unfolding is_repository_name
short_name name is =
    let parts = and_parts (is_in_range 1 32 (length name)) (list_all is_repository_byte name) is in
    and_from (list_all (λ (b : ℕ). nat_le 33 b && nat_le b 126) name) (nat_le (length name) 32) (name_seen name parts.1) (range_below (length name) parts.0)

-- a name that is no text is none of these
pub place_utf8 : (repos : List NamedRepo) (name : List ℕ) → list_all is_repository_name (repo_names repos) ≡ true → (IsUtf8 name → ⊥) → place_in (repo_names repos) name ≡ None
place_utf8 repos name named never = one (place_in (repo_names repos) name) refl
  where
    one : (place : Option ℕ) → place_in (repo_names repos) name ≡ place → place ≡ None
    one None is = refl
    one (Some i) is =
        let there = place_there repos name i is in
        absurd (never (subst IsUtf8 there.2 (name_utf8 there.0.name (named_at repos i there.0 there.1 named))))

pub lacks_name : (repos : List NamedRepo) (lists : VersionLists) (name : List ℕ) → place_in (repo_names repos) name ≡ None → has_name (repositories_of repos lists) name ≡ false
lacks_name repos lists name none = same repos ∙ place_none (repo_names repos) name none
  where
    same : (these : List NamedRepo) → has_name (repositories_of these lists) name ≡ list_any (λ (one : List ℕ). bytes_eq one name) (repo_names these)
    same [] = refl
    same (x ∷ these) = ap (λ (b : Bool). bytes_eq x.name name || b) (same these)

-- ---- the path of such a call

mark_at : (path rest : List ℕ) → All (λ (b : ℕ). is_question_mark b ≡ false) path → position_or_len is_question_mark (path ++ 63 ∷ rest) ≡ length path
mark_at path rest plain =
    position_or_len_is is_question_mark (path ++ 63 ∷ rest) (length path) 0 (long path rest)
    (λ k below. ap is_question_mark (get_or_append_left path (63 ∷ rest) 0 k below) ∙ plain k 0 below)
    (λ below. ap is_question_mark (get_or-append_seam path 63 rest 0))
  where
    long : (path rest : List ℕ) → length path ≤ length (path ++ 63 ∷ rest)
    long [] rest = omega arith
    long (b ∷ path) rest = let others = long path rest in omega (arith, others)

path_with : (path rest : List ℕ) → All (λ (b : ℕ). is_question_mark b ≡ false) path → path_of (path ++ 63 ∷ rest) ≡ path
path_with path rest plain = ap (λ (n : ℕ). take n (path ++ 63 ∷ rest)) (mark_at path rest plain) ∙ take-append_seam path (63 ∷ rest)

query_with : (path rest : List ℕ) → All (λ (b : ℕ). is_question_mark b ≡ false) path → query_of (path ++ 63 ∷ rest) ≡ rest
query_with path rest plain = ap (λ (n : ℕ). drop (n + 1) (path ++ 63 ∷ rest)) (mark_at path rest plain) ∙ drop-append-add path (63 ∷ rest) 1

path_whole : (path : List ℕ) → All (λ (b : ℕ). is_question_mark b ≡ false) path → path_of path ≡ path
path_whole path plain =
    let all : position_or_len is_question_mark path ≡ length path =
    position_or_len_is is_question_mark path (length path) 0 (omega arith) (λ k below. plain k 0 below) (λ below. absurd (omega (arith, below)))
    in
    ap (λ (n : ℕ). take n path) all ∙ take-length path

-- ---- what such a call asks

behind_plain : (front name : List ℕ) → list_all (λ (b : ℕ). not (is_question_mark b)) front ≡ true → All (λ (b : ℕ). is_question_mark b ≡ false) name → All (λ (b : ℕ). is_question_mark b ≡ false) (front ++ name)
behind_plain [] name all others = others
behind_plain (b ∷ front) name all others =
    let parts = and_parts (not (is_question_mark b)) (list_all (λ (b : ℕ). not (is_question_mark b)) front) all in
    all_more b (front ++ name) (not-true (is_question_mark b) parts.0) (behind_plain front name parts.1 others)

front_plain : (endpoint : Endpoint) (name : List ℕ) → is_repository_name name ≡ true → All (λ (b : ℕ). is_question_mark b ≡ false) (front_of endpoint ++ name)
unfolding is_repository_name
front_plain Requests name is = behind_plain (front_of Requests) name refl (name_plain name (and_parts _ _ is).1)
front_plain Deposits name is = behind_plain (front_of Deposits) name refl (name_plain name (and_parts _ _ is).1)

pub again_path : (moment : ℤ) (endpoint : Endpoint) (name bytes : List ℕ) → is_repository_name name ≡ true → path_of (own_call moment endpoint name bytes).target ≡ front_of endpoint ++ name
again_path moment Requests name arguments is =
    ap path_of (sym (append_assoc (front_of Requests) name (63 ∷ arguments)))
    ∙ path_with (front_of Requests ++ name) arguments (front_plain Requests name is)
again_path moment Deposits name lines is = path_whole (front_of Deposits ++ name) (front_plain Deposits name is)

again_in : (moment : ℤ) (endpoint : Endpoint) (name bytes : List ℕ) → is_repository_name name ≡ true → task_in endpoint (own_call moment endpoint name bytes) ≡ task_again endpoint bytes
again_in moment Requests name arguments is =
    ap asking (ap query_of (sym (append_assoc (front_of Requests) name (63 ∷ arguments))) ∙ query_with (front_of Requests ++ name) arguments (front_plain Requests name is))
again_in moment Deposits name lines is = refl

pub again_task : (moment : ℤ) (endpoint : Endpoint) (name bytes : List ℕ) → is_repository_name name ≡ true → task_of (own_call moment endpoint name bytes) ≡ task_again endpoint bytes
again_task moment endpoint name bytes is =
    let own : Call = own_call moment endpoint name bytes in
    ap (λ (at : Option Endpoint). task_at at own) (endpoint_is endpoint name own.target (again_path moment endpoint name bytes is))
    ∙ again_in moment endpoint name bytes is

own_moment : (moment : ℤ) (endpoint : Endpoint) (name bytes : List ℕ) → (own_call moment endpoint name bytes).moment ≡ moment
own_moment moment Requests name bytes = refl
own_moment moment Deposits name bytes = refl

again_done : (config : RepositoryConfig) (state : RepoState) (moment : ℤ) (endpoint : Endpoint) (name bytes : List ℕ) → is_repository_name name ≡ true
    → exchanged_alone config state (own_call moment endpoint name bytes) ≡ done_alone config state moment (task_again endpoint bytes)
again_done config state moment endpoint name bytes is =
    let own : Call = own_call moment endpoint name bytes in
    ap (λ (m : ℤ). done_alone config state m (task_of own)) (own_moment moment endpoint name bytes)
    ∙ ap (λ (t : Task). done_alone config state moment t) (again_task moment endpoint name bytes is)

-- ---- what is left of the repositories

map_same : (repositories : List Repository) → map (λ (r : Repository). r) repositories ≡ repositories
map_same [] = refl
map_same (x ∷ repositories) = ap (λ (rs : List Repository). x ∷ rs) (map_same repositories)

-- one of them is changed as `f` changes it, and the path of the call leads to it alone
module _ (call : Call) (answer : Answer) (m n : StoreState) (endpoint : Endpoint) (one : NamedRepo) (new : RepoFields) (before after : VersionLists) (path : path_of call.target ≡ front_of endpoint ++ one.name)
    (f : Repository → Repository) (elsewhere : (r : Repository) → leads_to_repository r.name call.target ≡ false → f r ≡ r) where
  other_left : (x : NamedRepo) → bytes_eq one.name x.name ≡ false → IsStep call answer m n (repository_of before x) (repository_of after x) → repository_of after x ≡ f (repository_of before x)
  other_left x apart step =
      let away = leads_not endpoint one.name x.name call.target path apart in
      ap (λ (s : RepoState). record { name = x.name; config = x.repo.config; state = s }) (step.other away) ∙ sym (elsewhere (repository_of before x) away)

  others_left : (repos : List NamedRepo) → list_any (bytes_eq one.name) (repo_names repos) ≡ false → AreSteps call answer m n (repositories_of repos before) (repositories_of repos after)
      → repositories_of repos after ≡ map f (repositories_of repos before)
  others_left [] unused steps = refl
  others_left (x ∷ repos) unused steps =
      let parts = or_parts (bytes_eq one.name x.name) (list_any (bytes_eq one.name) (repo_names repos)) unused in
      ap (λ (r : Repository). r ∷ repositories_of repos after) (other_left x parts.0 steps.0)
      ∙ ap (λ (rs : List Repository). f (repository_of before x) ∷ rs) (others_left repos parts.1 steps.1)

  set_left : (repos : List NamedRepo) (i : ℕ) → slice_get repos i ≡ Some one → has_repeat (repo_names repos) ≡ false
      → AreSteps call answer m n (repositories_of repos before) (repositories_of (slice_set repos i (record { name = one.name; repo = new })) after)
      → repository_of after (record { name = one.name; repo = new }) ≡ f (repository_of before one)
      → repositories_of (slice_set repos i (record { name = one.name; repo = new })) after ≡ map f (repositories_of repos before)
  set_left [] i there distinct steps own = nothing_there one there
  set_left (x ∷ repos) zero there distinct steps own =
      let same = same_one x one there in
      let parts = or_parts (list_any (bytes_eq x.name) (repo_names repos)) (has_repeat (repo_names repos)) distinct in
      ap (λ (r : Repository). r ∷ repositories_of repos after) (own ∙ ap (λ (y : NamedRepo). f (repository_of before y)) (sym same))
      ∙ ap (λ (rs : List Repository). f (repository_of before x) ∷ rs)
      (others_left repos (subst (λ (y : NamedRepo). list_any (bytes_eq y.name) (repo_names repos) ≡ false) same parts.0) steps.1)
  set_left (x ∷ repos) (suc i) there distinct steps own =
      let parts = or_parts (list_any (bytes_eq x.name) (repo_names repos)) (has_repeat (repo_names repos)) distinct in
      ap (λ (r : Repository). r ∷ repositories_of (slice_set repos i (record { name = one.name; repo = new })) after)
      (other_left x (bytes_turned x.name one.name (unused_at x.name repos i one there parts.0)) steps.0)
      ∙ ap (λ (rs : List Repository). f (repository_of before x) ∷ rs) (set_left repos i there parts.1 steps.1 own)

-- what is left of one by these bytes is what their call leaves of all
pub set_left_by : (call : Call) (answer : Answer) (m n : StoreState) (endpoint : Endpoint) (one : NamedRepo) (new : RepoFields) (before after : VersionLists) → path_of call.target ≡ front_of endpoint ++ one.name
    → is_repository_name one.name ≡ true → (repos : List NamedRepo) (i : ℕ) → slice_get repos i ≡ Some one → has_repeat (repo_names repos) ≡ false
    → AreSteps call answer m n (repositories_of repos before) (repositories_of (slice_set repos i (record { name = one.name; repo = new })) after) → new.config ≡ one.repo.config
    → (moment : ℤ) (bytes : Option (List ℕ)) → IsLeftBy one.repo.config moment endpoint bytes (state_of one.repo before) (state_of new after)
    → AreLeftBy moment endpoint one.name bytes (repositories_of repos before) (repositories_of (slice_set repos i (record { name = one.name; repo = new })) after)
set_left_by call answer m n endpoint one new before after path named repos i there distinct steps config moment None left =
    set_left call answer m n endpoint one new before after path (λ (r : Repository). r) (λ r away. refl) repos i there distinct steps
    (ap (λ (s : RepoState). record { name = one.name; config = new.config; state = s }) left ∙ ap (λ c. record { name = one.name; config = c; state = state_of one.repo before }) config)
    ∙ map_same (repositories_of repos before)
set_left_by call answer m n endpoint one new before after path named repos i there distinct steps config moment (Some bytes) left =
    let other : Call = own_call moment endpoint one.name bytes in
    let there_too = again_path moment endpoint one.name bytes named in
    set_left call answer m n endpoint one new before after path (redone_at other)
    (λ r away. cond-false (leads_to_repository r.name other.target) (record r { state = (exchanged_alone r.config r.state other).1 }) r
    (ap (λ (p : List ℕ). bytes_eq p (front_of Requests ++ r.name) || bytes_eq p (front_of Deposits ++ r.name)) (there_too ∙ sym path) ∙ away))
    repos i there distinct steps
    (ap (λ (s : RepoState). record { name = one.name; config = new.config; state = s }) (left ∙ ap (λ (done : Answer × RepoState). done.1) (sym (again_done one.repo.config (state_of one.repo before) moment endpoint one.name bytes named)))
    ∙ ap (λ c. record { name = one.name; config = c; state = (exchanged_alone one.repo.config (state_of one.repo before) other).1 }) config
    ∙ sym (cond-true (leads_to_repository one.name other.target) (record { name = one.name; config = one.repo.config; state = (exchanged_alone one.repo.config (state_of one.repo before) other).1 }) (repository_of before one)
    (leads_there endpoint one.name other.target there_too)))

-- ---- what is performed again at one

-- a repository performs again what was performed, and it is an exchange of its own
pub redone_set : {V : Type 0} (g : Ghosts V) (moment : ℤ) (performed : Performed) (result : Result (Unit {0}) Fault) (repos : List NamedRepo) (i : ℕ) (one : NamedRepo) (new : RepoFields) (before after : V)
    → slice_get repos i ≡ Some one → one.name ≡ performed.name.now → AreNamedRepos (g.honest before) repos (g.lists before)
    → RedoesIn g moment (task_again performed.endpoint performed.bytes.now) result one.repo before new after
    → AreRedone (call_again moment performed) result (store_state g before) (store_state g after) (repositories_of repos (g.lists before))
    (repositories_of (slice_set repos i (record { name = one.name; repo = new })) (g.lists after))
redone_set g moment performed result repos i one new before after there is repos_stand redone =
    let call : Call = call_again moment performed in
    let named : is_repository_name performed.name.now ≡ true = subst (λ (name : List ℕ). is_repository_name name ≡ true) is (named_at repos i one there repos_stand.named.named) in
    let path : path_of call.target ≡ front_of performed.endpoint ++ one.name = again_path moment performed.endpoint performed.name.now performed.bytes.now named ∙ ap (λ (name : List ℕ). front_of performed.endpoint ++ name) (sym is) in
    let own = redone.2.performed in (
      redone.0,
      redone.1,
      steps_set (g.honest before) call redone.0 (store_state g before) (store_state g after) performed.endpoint repos i one new (g.lists before) (g.lists after) there repos_stand redone.2.kept repos_stand.named.distinct path
          (subst (λ (task : Task). IsPerformed one.repo.config call.moment task redone.0 (state_of one.repo (g.lists before)) (store_state g before) (state_of new (g.lists after)) (store_state g after))
          (sym (again_in moment performed.endpoint performed.name.now performed.bytes.now named))
          (subst (λ (m : ℤ). IsPerformed one.repo.config m (task_again performed.endpoint performed.bytes.now) redone.0 (state_of one.repo (g.lists before)) (store_state g before) (state_of new (g.lists after)) (store_state g after))
          (sym (own_moment moment performed.endpoint performed.name.now performed.bytes.now)) own)),
      own.device,
      own.honesty,
    )

pub again_place : (moment : ℤ) (performed : Performed) (repos : List NamedRepo) (i : ℕ) → place_in (repo_names repos) performed.name.now ≡ Some i → list_all is_repository_name (repo_names repos) ≡ true
    → IsRepoPlace repos i performed.endpoint (call_again moment performed).target
again_place moment performed repos i found all =
    let place = place_there repos performed.name.now i found in
    let named : is_repository_name performed.name.now ≡ true = subst (λ (name : List ℕ). is_repository_name name ≡ true) place.2 (named_at repos i place.0 place.1 all) in
    record {
      one = place.0;
      there = place.1;
      path = again_path moment performed.endpoint performed.name.now performed.bytes.now named ∙ ap (λ (name : List ℕ). front_of performed.endpoint ++ name) (sym place.2);
    }

-- ---- what is to be performed again

pub left_performed : (moment : ℤ) (endpoint : Endpoint) (name : List ℕ) (bytes : Option (List ℕ)) (performed : Option Performed) (before after : List Repository) → IsPerformedAt endpoint name bytes performed
    → AreLeftBy moment endpoint name bytes before after → after ≡ left_again redone_repositories before moment performed
left_performed moment endpoint name bytes None before after is left = subst (λ (b : Option (List ℕ)). AreLeftBy moment endpoint name b before after) is left
left_performed moment endpoint name bytes (Some p) before after is left =
    subst (λ (b : Option (List ℕ)). AreLeftBy moment endpoint name b before after) is.2 left
    ∙ ap (λ (e : Endpoint). redone_repositories before (own_call moment e name p.bytes.now)) (sym is.0)
    ∙ ap (λ (n : List ℕ). redone_repositories before (own_call moment p.endpoint n p.bytes.now)) (sym is.1)

pub performed_name : (endpoint : Endpoint) (name : List ℕ) (bytes : Option (List ℕ)) (performed : Option Performed) → IsPerformedAt endpoint name bytes performed → is_repository_name name ≡ true
    → IfSome performed (λ (p : Performed). IsTrue (is_short_name p.name.now))
performed_name endpoint name bytes None is named = tt
performed_name endpoint name bytes (Some p) is named = ap is_short_name is.1 ∙ short_name name named

pub performed_size : (exchange : Exchange) (endpoint : Endpoint) (name : List ℕ) (bytes : Option (List ℕ)) (performed : Option Performed) → IsPerformedAt endpoint name bytes performed → IsNoLonger exchange bytes
    → IfSome performed (λ (p : Performed). length p.bytes.now ≤ max (length exchange.target) (length exchange.body.now))
performed_size exchange endpoint name bytes None is within = tt
performed_size exchange endpoint name bytes (Some p) is within = subst (λ (b : Option (List ℕ)). IsNoLonger exchange b) is.2 within
