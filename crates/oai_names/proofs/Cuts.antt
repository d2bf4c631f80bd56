-- Written values that can be cut off what follows them in one way, so that the bytes tell what was written.
use Rattle.std.proofs.Common.{◌≡◌, ◌∙◌, ℕ, Bool, true, false, not, ◌&&◌, eqb, cond, List, [], ◌∷◌, ◌++◌, map, refl, sym, ap, arith}
use Rattle.std.specs.List.{flat_map, list_all}
use Rattle.std.proofs.lemmas.Bool.Decides.{nat_tests}
use Rattle.std.proofs.lemmas.Bool.{and_from, and_parts, cond-true, cond-false, true≢false}
use Rattle.std.proofs.lemmas.List.{append_assoc, append_cancel_left}

-- ---- what it means

-- a test of the bytes that follow
abbrev pub Next : Type 0
Next = List ℕ → Bool

-- good values that are written alike, whatever passes the test behind them, show the same, and the same is behind them
pub record Cuts {A B : Type 0} (next : Next) (good : A → Bool) (write : A → List ℕ) (see : A → B) : Type 0 where
  pub cut : (a b : A) (rest more : List ℕ) → good a ≡ true → good b ≡ true → next rest ≡ true → next more ≡ true
      → write a ++ rest ≡ write b ++ more → (see a ≡ see b) × (rest ≡ more)

-- anything may follow
abbrev pub anything : Next
anything rest = true

-- every value is good
abbrev pub any : {A : Type 0} → A → Bool
any a = true

-- that byte follows
abbrev pub at : ℕ → Next
at b [] = false
at b (x ∷ rest) = eqb x b

-- ---- how it is kept

-- in other words
pub seen_as : {A B C : Type 0} {next : Next} {good : A → Bool} {write : A → List ℕ} {see : A → B} (f : B → C) → Cuts next good write see → Cuts next good write (λ a. f (see a))
seen_as f c = record { cut = λ a b rest more ga gb na nb same. let done = c.cut a b rest more ga gb na nb same in (ap f done.0, done.1) }

-- a part of a value, or what is made of it
pub of_part : {A B C : Type 0} {next : Next} {good : B → Bool} {write : B → List ℕ} {see : B → C} (part : A → B) → Cuts next good write see
    → Cuts next (λ a. good (part a)) (λ a. write (part a)) (λ a. see (part a))
of_part part c = record { cut = λ a b rest more ga gb na nb same. c.cut (part a) (part b) rest more ga gb na nb same }

-- where more is asked of the values
pub where_good : {A B : Type 0} {next : Next} {good better : A → Bool} {write : A → List ℕ} {see : A → B} → ((a : A) → better a ≡ true → good a ≡ true)
    → Cuts next good write see → Cuts next better write see
where_good is c = record { cut = λ a b rest more ga gb na nb same. c.cut a b rest more (is a ga) (is b gb) na nb same }

-- and of what follows
pub where_next : {A B : Type 0} {next nearer : Next} {good : A → Bool} {write : A → List ℕ} {see : A → B} → ((rest : List ℕ) → nearer rest ≡ true → next rest ≡ true)
    → Cuts next good write see → Cuts nearer good write see
where_next is c = record { cut = λ a b rest more ga gb na nb same. c.cut a b rest more ga gb (is rest na) (is more nb) same }

-- written in the same way
pub written_as : {A B : Type 0} {next : Next} {good : A → Bool} {write other : A → List ℕ} {see : A → B} → ((a : A) → other a ≡ write a) → Cuts next good write see → Cuts next good other see
written_as is c = record {
  cut = λ a b rest more ga gb na nb same. c.cut a b rest more ga gb na nb (ap (λ w. w ++ rest) (sym (is a)) ∙ same ∙ ap (λ w. w ++ more) (is b));
}

-- one that is read back
pub read_back : {A B : Type 0} {next : Next} {good : A → Bool} {write : A → List ℕ} {see : A → B} (read : List ℕ → B × List ℕ)
    → ((a : A) (rest : List ℕ) → good a ≡ true → next rest ≡ true → read (write a ++ rest) ≡ (see a, rest)) → Cuts next good write see
read_back read back = record {
  cut = λ a b rest more ga gb na nb same.
      let pairs = sym (back a rest ga na) ∙ ap read same ∙ back b more gb nb in (ap (λ p. p.0) pairs, ap (λ p. p.1) pairs);
}

-- bytes that always stand there
pub constant : {A : Type 0} {next : Next} {good : A → Bool} (bytes : List ℕ) → Cuts {B = Unit {0}} next good (λ (a : A). bytes) (λ a. tt)
constant bytes = record { cut = λ a b rest more ga gb na nb same. (refl, append_cancel_left bytes rest more same) }

-- two values as one
abbrev pub pair : {A B : Type 0} → A → B → A × B
pair a b = (a, b)

pairs_same : {A B : Type 0} {x y : A} {u v : B} → x ≡ y → u ≡ v → pair x u ≡ pair y v
pairs_same {x = x} {v = v} e f = ap (pair x) f ∙ ap (λ w. pair w v) e

-- one after another: what follows the first is the second, and what follows that
pub both : {A B C : Type 0} {near next : Next} {good : A → Bool} {first second : A → List ℕ} {see : A → B} {look : A → C}
    → Cuts near good first see → Cuts next good second look → ((a : A) (rest : List ℕ) → good a ≡ true → next rest ≡ true → near (second a ++ rest) ≡ true)
    → Cuts next good (λ a. first a ++ second a) (λ a. pair (see a) (look a))
both {first = first} {second = second} c d follows = record {
  cut = λ a b rest more ga gb na nb same.
      let start = c.cut a b (second a ++ rest) (second b ++ more) ga gb (follows a rest ga na) (follows b more gb nb)
      (sym (append_assoc (first a) (second a) rest) ∙ same ∙ append_assoc (first b) (second b) more)
      in
      let end = d.cut a b rest more ga gb na nb start.1 in
      (pairs_same start.0 end.0, end.1);
}

-- bytes before it
pub behind : {A B : Type 0} {next : Next} {good : A → Bool} {write : A → List ℕ} {see : A → B} (front : List ℕ) → Cuts next good write see → Cuts next good (λ a. front ++ write a) see
behind {write = write} front c = record {
  cut = λ a b rest more ga gb na nb same.
      c.cut a b rest more ga gb na nb (append_cancel_left front (write a ++ rest) (write b ++ more) (sym (append_assoc front (write a) rest) ∙ same ∙ append_assoc front (write b) more));
}

-- bytes behind it, which are told by what is seen of it
pub closed : {A B : Type 0} {near next : Next} {good : A → Bool} {write : A → List ℕ} {see : A → B} (close : B → List ℕ) → Cuts near good write see
    → ((a : A) (rest : List ℕ) → good a ≡ true → next rest ≡ true → near (close (see a) ++ rest) ≡ true) → Cuts next good (λ a. write a ++ close (see a)) see
closed {write = write} {see = see} close c follows = record {
  cut = λ a b rest more ga gb na nb same.
      let start = c.cut a b (close (see a) ++ rest) (close (see b) ++ more) ga gb (follows a rest ga na) (follows b more gb nb)
      (sym (append_assoc (write a) (close (see a)) rest) ∙ same ∙ append_assoc (write b) (close (see b)) more)
      in
      (start.0, append_cancel_left (close (see a)) rest more (start.1 ∙ ap (λ w. close w ++ more) (sym start.0)));
}

-- ---- a list of such values, up to what begins none of them

-- what may follow a value of a list: another one, or what ends the list
pub record Lists {A : Type 0} (near stop : Next) (good : A → Bool) (write : A → List ℕ) : Type 0 where
  pub goes_on : (a : A) (rest : List ℕ) → good a ≡ true → stop (write a ++ rest) ≡ false
  pub near_more : (a : A) (rest : List ℕ) → good a ≡ true → near (write a ++ rest) ≡ true
  pub near_end : (rest : List ℕ) → stop rest ≡ true → near rest ≡ true

near_list : {A : Type 0} {near stop : Next} {good : A → Bool} {write : A → List ℕ} → Lists near stop good write → (xs : List A) (rest : List ℕ) → list_all good xs ≡ true → stop rest ≡ true
    → near (flat_map write xs ++ rest) ≡ true
near_list l [] rest all ends = l.near_end rest ends
near_list {near = near} {good = good} {write = write} l (a ∷ xs) rest all ends =
    ap near (append_assoc (write a) (flat_map write xs) rest) ∙ l.near_more a (flat_map write xs ++ rest) (and_parts (good a) (list_all good xs) all).0

ends_apart : {A : Type 0} {near stop : Next} {good : A → Bool} {write : A → List ℕ} → Lists near stop good write → (a : A) (xs : List A) (rest more : List ℕ) → list_all good (a ∷ xs) ≡ true
    → stop rest ≡ true → flat_map write (a ∷ xs) ++ more ≡ rest → ⊥
ends_apart {stop = stop} {good = good} {write = write} l a xs rest more all ends same =
    true≢false (sym ends ∙ ap stop (sym same ∙ append_assoc (write a) (flat_map write xs) more) ∙ l.goes_on a (flat_map write xs ++ more) (and_parts (good a) (list_all good xs) all).0)

list_cut : {A B : Type 0} {near stop : Next} {good : A → Bool} {write : A → List ℕ} {see : A → B} → Cuts near good write see → Lists near stop good write
    → (xs bs : List A) (rest more : List ℕ) → list_all good xs ≡ true → list_all good bs ≡ true → stop rest ≡ true → stop more ≡ true
    → flat_map write xs ++ rest ≡ flat_map write bs ++ more → (map see xs ≡ map see bs) × (rest ≡ more)
list_cut c l [] [] rest more ga gb na nb same = (refl, same)
list_cut c l [] (b ∷ bs) rest more ga gb na nb same = absurd (ends_apart l b bs rest more gb na (sym same))
list_cut c l (a ∷ xs) [] rest more ga gb na nb same = absurd (ends_apart l a xs more rest ga nb same)
list_cut {good = good} {write = write} {see = see} c l (a ∷ xs) (b ∷ bs) rest more ga gb na nb same =
    let good_a = and_parts (good a) (list_all good xs) ga in
    let good_b = and_parts (good b) (list_all good bs) gb in
    let first = c.cut a b (flat_map write xs ++ rest) (flat_map write bs ++ more) good_a.0 good_b.0 (near_list l xs rest good_a.1 na) (near_list l bs more good_b.1 nb)
    (sym (append_assoc (write a) (flat_map write xs) rest) ∙ same ∙ append_assoc (write b) (flat_map write bs) more)
    in
    let others = list_cut c l xs bs rest more good_a.1 good_b.1 na nb first.1 in
    (ap (λ x. x ∷ map see xs) first.0 ∙ ap (λ xs. see b ∷ xs) others.0, others.1)

pub each : {A B : Type 0} {near stop : Next} {good : A → Bool} {write : A → List ℕ} {see : A → B} → Cuts near good write see → Lists near stop good write
    → Cuts stop (list_all good) (flat_map write) (map see)
each c l = record { cut = list_cut c l }

-- ---- a text without the byte that stands behind it

abbrev pub lacks : ℕ → List ℕ → Bool
lacks b text = list_all (λ x. not (eqb x b)) text

-- the text before the byte, and the rest from it on
abbrev consed : ℕ → List ℕ × List ℕ → List ℕ × List ℕ
consed x parts = (x ∷ parts.0, parts.1)

up_to : ℕ → List ℕ → List ℕ × List ℕ
up_to b [] = ([], [])
up_to b (x ∷ bytes) = cond (eqb x b) (pair [] (x ∷ bytes)) (consed x (up_to b bytes))

is_not : (t : Bool) → not t ≡ true → t ≡ false
is_not true h = cc
is_not false h = refl

text_back : (b : ℕ) (text rest : List ℕ) → lacks b text ≡ true → at b rest ≡ true → up_to b (text ++ rest) ≡ pair text rest
unfolding up_to
text_back b [] [] free ends = cc
text_back b [] (x ∷ rest) free ends = cond-true (eqb x b) (pair [] (x ∷ rest)) (consed x (up_to b rest)) ends
text_back b (x ∷ text) rest free ends =
    let parts = and_parts (not (eqb x b)) (lacks b text) free in
    cond-false (eqb x b) (pair [] (x ∷ (text ++ rest))) (consed x (up_to b (text ++ rest))) (is_not (eqb x b) parts.0) ∙ ap (consed x) (text_back b text rest parts.1 ends)

pub text_before : (b : ℕ) → Cuts (at b) (lacks b) (λ (text : List ℕ). text) (λ text. text)
text_before b = read_back (up_to b) (λ text rest free ends. text_back b text rest free ends)

-- ---- a value that is seen as it is

pub seen_same : {A B : Type 0} {next : Next} {good : A → Bool} {write : A → List ℕ} {see look : A → B} → ((a : A) → see a ≡ look a) → Cuts next good write see → Cuts next good write look
seen_same is c = record {
  cut = λ a b rest more ga gb na nb same. let done = c.cut a b rest more ga gb na nb same in (sym (is a) ∙ done.0 ∙ is b, done.1);
}

pub map_same : {A : Type 0} (xs : List A) → map (λ x. x) xs ≡ xs
map_same [] = refl
map_same (x ∷ xs) = ap (λ ys. x ∷ ys) (map_same xs)

pub all_any : {A : Type 0} (xs : List A) → list_all any xs ≡ true
all_any [] = refl
all_any (x ∷ xs) = all_any xs

-- a list of values of which each is seen as it is
pub each_same : {A : Type 0} {near stop : Next} {write : A → List ℕ} → Cuts near any write (λ a. a) → Lists near stop any write → Cuts stop any (flat_map write) (λ xs. xs)
each_same c l = seen_same map_same (where_good (λ xs _. all_any xs) (each c l))

-- ---- what begins with some bytes

abbrev pub begins : List ℕ → Next
begins [] rest = true
begins (x ∷ front) [] = false
begins (x ∷ front) (y ∷ rest) = eqb y x && begins front rest

byte_same : (n : ℕ) → eqb n n ≡ true
byte_same n = grind (arith, nat_tests)

pub begins_own : (front rest : List ℕ) → begins front (front ++ rest) ≡ true
begins_own [] rest = refl
begins_own (x ∷ front) rest = rw (byte_same x, begins_own front rest) refl

-- something else follows
abbrev pub without : List ℕ → Next
without front rest = not (begins front rest)

-- ---- one of several kinds

-- what is the same of all that are good
pub where_same : {A B : Type 0} {next : Next} {good better : A → Bool} {write other : A → List ℕ} {see look : A → B} → Cuts next good write see
    → ((a : A) → better a ≡ true → (good a ≡ true) × (other a ≡ write a) × (see a ≡ look a)) → Cuts next better other look
where_same c is = record {
  cut = λ a b rest more ga gb na nb same.
      let as_a = is a ga in
      let as_b = is b gb in
      let done = c.cut a b rest more as_a.0 as_b.0 na nb (ap (λ w. w ++ rest) (sym as_a.1) ∙ same ∙ ap (λ w. w ++ more) as_b.1) in
      (sym as_a.2 ∙ done.0 ∙ as_b.2, done.1);
}

-- values of which the bytes tell the kind, where those of each kind can be cut off
pub by_kind : {A B : Type 0} {next : Next} {good : A → Bool} {write : A → List ℕ} {see : A → B} (kind : A → ℕ) (tell : List ℕ → ℕ)
    → ((a : A) (rest : List ℕ) → good a ≡ true → next rest ≡ true → tell (write a ++ rest) ≡ kind a)
    → ((k : ℕ) → Cuts next (λ a. good a && eqb (kind a) k) write see) → Cuts next good write see
by_kind {good = good} kind tell told each_kind = record {
  cut = λ a b rest more ga gb na nb same.
      let kinds : kind a ≡ kind b = sym (told a rest ga na) ∙ ap tell same ∙ told b more gb nb in
      (each_kind (kind b)).cut a b rest more (and_from (good a) (eqb (kind a) (kind b)) ga (ap (λ n. eqb n (kind b)) kinds ∙ byte_same (kind b)))
      (and_from (good b) (eqb (kind b) (kind b)) gb (byte_same (kind b))) na nb same;
}

-- a list of values that share a part
pub flat_map-map : {A B : Type 0} (f : A → B) (write : B → List ℕ) (xs : List A) → flat_map (λ x. write (f x)) xs ≡ flat_map write (map f xs)
flat_map-map f write [] = refl
flat_map-map f write (x ∷ xs) = ap (λ w. write (f x) ++ w) (flat_map-map f write xs)

pub map-map : {A B C : Type 0} (f : A → B) (see : B → C) (xs : List A) → map see (map f xs) ≡ map (λ x. see (f x)) xs
map-map f see [] = refl
map-map f see (x ∷ xs) = ap (λ ys. see (f x) ∷ ys) (map-map f see xs)

pub all-map : {A B : Type 0} (f : A → B) (good : B → Bool) (xs : List A) → list_all good (map f xs) ≡ list_all (λ x. good (f x)) xs
all-map f good [] = refl
all-map f good (x ∷ xs) = ap (λ b. good (f x) && b) (all-map f good xs)
