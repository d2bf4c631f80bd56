-- What is done with one connection leaves the others.
use Rattle.std.proofs.Common.{◌≡◌, ◌≢◌, ◌∙◌, ℕ, ℤ, ◌<◌, ◌≤◌, ◌+◌, List, [], ◌∷◌, ◌++◌, append_assoc, length, drop, take, Option, Some, None, Result, Ok, Err, sym, ap, subst, refl, arith, false}
use Rattle.std.specs.Option.{option_map}
use Rattle.std.specs.Prelude.{◌==◌, IfErr, MatchOption}
use Rattle.std.proofs.lemmas.Bool.{ne_eqb}
use Rattle.std.proofs.lemmas.List.{length-append, length-drop, take-append-drop}
use Rattle.oai_front.proofs.FrontLemmas.{taken_number}
use Rattle.oai_front.proofs.RunLemmas.{not_numbered, number_found, numbered_other, numbered_same, opened_other, without_other, without_own}
use Rattle.oai_front.specs.Connections.{Connection, IsEnded, IsFrontOf, fresh}
use Rattle.oai_front.specs.Fronts.{HasOutput, IsChange, IsEnding, IsForgetting, IsOutput, IsPiece, IsTaking, State, connection_numbered}
use Rattle.oai_front.specs.Performing.{Steps}
use Rattle.oai_front.specs.declared.faults.NoSuchConnection.{NoSuchConnection as Absent}
use Rattle.oai_front.specs.declared.faults.PieceFault.{PieceFault}
use Rattle.oai_front.specs.declared.faults.PieceFault.TheVariants.{NoSuchConnection, NoMemory, Unfinished}
use Rattle.oai_cli.specs.Outputs.{StaysApart, IsEmptied, IsForgotten, OthersStay, output_in, output_of, with_output, IsOpenedFault}
use Rattle.oai_cli.specs.declared.serve.streams.StreamFault.{StreamFault}
use Rattle.oai_cli.specs.declared.serve.streams.StreamFault.TheVariants as stream

pub apart_same : {H : Type 0} (number : ℕ) (state : State H) → StaysApart number state state
apart_same number state = record { others = λ other away. refl; limit = refl; last = refl }

pub apart_equal : {H : Type 0} (number : ℕ) (old new : State H) → new ≡ old → StaysApart number old new
apart_equal {H} number old new e = subst (λ (s : State H). StaysApart number old s) (sym e) (apart_same number old)

pub apart_then : {H : Type 0} (number : ℕ) (old mid new : State H) → StaysApart number old mid → StaysApart number mid new → StaysApart number old new
apart_then number old mid new a b = record {
  others = λ other away. b.others other away ∙ a.others other away;
  limit = b.limit ∙ a.limit;
  last = b.last ∙ a.last;
}

-- numbers that differ are told apart by their test
apart_numbers : (number other : ℕ) → other ≢ number → (number == other) ≡ false
apart_numbers number other away = ne_eqb number other (λ e. away (sym e))

pub changed_apart : {H : Type 0} (number : ℕ) (old new : State H) (change : Connection → Connection → Type 0) → ((c d : Connection) → change c d → d.number ≡ c.number)
    → IsChange number old new change → StaysApart number old new
changed_apart {H} number old new change same h =
    let own : h.after.number ≡ number = same h.before h.after h.changed ∙ number_found number old.connections h.before h.stands in
    record {
      others = λ other away.
          ap (λ (s : State H). connection_numbered other s.connections) h.others
          ∙ numbered_other other old.connections h.after (not_numbered number other h.after own (apart_numbers number other away));
      limit = ap (λ (s : State H). s.limit) h.others;
      last = ap (λ (s : State H). s.last) h.others;
    }

pub taking_apart : {H : Type 0} (number count : ℕ) (old new : State H) → IsChange number old new (IsTaking count) → StaysApart number old new
taking_apart number count old new h = changed_apart number old new (IsTaking count) (λ c d e. ap (λ (x : Connection). x.number) e) h

pub piece_apart : {H : Type 0} (step : Steps H) (number : ℕ) (moment : ℤ) (piece : List ℕ) (old : State H) (result : Result Unit PieceFault) (new : State H)
    → IsPiece step number moment piece old result new → StaysApart number old new
piece_apart step number moment piece old (Err NoSuchConnection) new h = apart_equal number old new h.1
piece_apart step number moment piece old (Err NoMemory) new h = apart_equal number old new h.1
piece_apart step number moment piece old (Err Unfinished) new h =
    changed_apart number old new _ (λ c d t. taken_number step moment piece c d old.handler new.handler (Err Unfinished) t) h
piece_apart step number moment piece old (Ok done) new h =
    changed_apart number old new _ (λ c d t. taken_number step moment piece c d old.handler new.handler (Ok done) t) h

pub ending_apart : {H : Type 0} (number : ℕ) (old : State H) (result : Result Unit Absent) (new : State H) → IsEnding number old result new → StaysApart number old new
ending_apart number old (Ok done) new h = changed_apart number old new IsEnded (λ c d e. ap (λ (x : Connection). x.number) e.others) h.0
ending_apart number old (Err absent) new h = apart_equal number old new h.1

-- ---- a connection that is forgotten

pub forgetting_apart : {H : Type 0} (number : ℕ) (old : State H) (result : Result Unit Absent) (new : State H) → IsForgetting number old result new → StaysApart number old new
forgetting_apart {H} number old (Ok done) new h = record {
  others = λ other away. ap (λ (s : State H). connection_numbered other s.connections) h.1 ∙ without_other number other old.connections (apart_numbers number other away);
  limit = ap (λ (s : State H). s.limit) h.1;
  last = ap (λ (s : State H). s.last) h.1;
}
forgetting_apart number old (Err absent) new h = apart_equal number old new h.1

pub forgetting_none : {H : Type 0} (number : ℕ) (old : State H) (result : Result Unit Absent) (new : State H) → IsForgetting number old result new
    → connection_numbered number new.connections ≡ None
forgetting_none {H} number old (Ok done) new h = ap (λ (s : State H). connection_numbered number s.connections) h.1 ∙ without_own number old.connections
forgetting_none {H} number old (Err absent) new h = ap (λ (s : State H). connection_numbered number s.connections) h.1 ∙ h.0

pub forgetting_handler : {H : Type 0} (number : ℕ) (old : State H) (result : Result Unit Absent) (new : State H) → IsForgetting number old result new → new.handler ≡ old.handler
forgetting_handler {H} number old (Ok done) new h = ap (λ (s : State H). s.handler) h.1
forgetting_handler {H} number old (Err absent) new h = ap (λ (s : State H). s.handler) h.1

-- ---- a connection that is opened

pub opened_others : {H : Type 0} (number last : ℕ) (old new : State H) → new ≡ record old { last = last; connections = old.connections ++ fresh number ∷ [] }
    → OthersStay number old new
opened_others {H} number last old new e = λ other away. ap (λ (s : State H). connection_numbered other s.connections) e ∙ opened_other number other old.connections (apart_numbers number other away)

pub opened_limit : {H : Type 0} (number last : ℕ) (old new : State H) → new ≡ record old { last = last; connections = old.connections ++ fresh number ∷ [] } → new.limit ≡ old.limit
opened_limit {H} number last old new e = ap (λ (s : State H). s.limit) e

pub opened_last : {H : Type 0} (number last : ℕ) (old new : State H) → new ≡ record old { last = last; connections = old.connections ++ fresh number ∷ [] } → new.last ≡ last
opened_last {H} number last old new e = ap (λ (s : State H). s.last) e

-- where nothing was changed
pub equal_others : {H : Type 0} (number : ℕ) (old new : State H) → new ≡ old → OthersStay number old new
equal_others {H} number old new e = λ other away. ap (λ (s : State H). connection_numbered other s.connections) e

pub equal_limit : {H : Type 0} (old new : State H) → new ≡ old → new.limit ≡ old.limit
equal_limit {H} old new e = ap (λ (s : State H). s.limit) e

pub others_then : {H : Type 0} (number : ℕ) (old mid new : State H) → OthersStay number old mid → OthersStay number mid new → OthersStay number old new
others_then number old mid new a b = λ other away. b other away ∙ a other away

-- a connection that was opened, and is gone
pub forgotten_so : {H : Type 0} (old new : State H) (result : Result Unit StreamFault) → IfErr result IsOpenedFault → new.last ≡ old.last + 1
    → connection_numbered (old.last + 1) new.connections ≡ None → IsForgotten old result new
forgotten_so old new (Ok done) cause last none = (last, none)
forgotten_so old new (Err (stream.NotOpened fault)) cause last none = absurd cause
forgotten_so old new (Err stream.NoMemory) cause last none = (last, none)
forgotten_so old new (Err stream.ReadFault) cause last none = (last, none)
forgotten_so old new (Err stream.WriteFault) cause last none = (last, none)
forgotten_so old new (Err stream.ClockFault) cause last none = (last, none)
forgotten_so old new (Err stream.Endless) cause last none = (last, none)

-- ---- what is taken of the output

-- what is put out next is the front of the output
pub output_front : (number : ℕ) (connections : List Connection) (bytes : List ℕ) → IsOutput number connections (Some bytes) → IsFrontOf bytes (output_of number connections)
unfolding output_of
output_front number connections bytes h = subst (λ (o : Option Connection). IsFrontOf bytes (output_in o)) (sym h.1) h.2

pub output_has : (number : ℕ) (connections : List Connection) (bytes : List ℕ) → IsOutput number connections (Some bytes) → HasOutput number (length bytes) connections
output_has number connections bytes h =
    subst (λ (o : Option Connection). MatchOption o ⊥ (λ c. length bytes ≤ length c.output)) (sym h.1)
    (let e : length h.0.output ≡ length bytes + length h.2.later = ap length h.2.front ∙ length-append bytes h.2.later in omega (arith, e))

pub output_none : (number : ℕ) (connections : List Connection) → IsOutput number connections None → output_of number connections ≡ []
unfolding output_of
output_none number connections h = ap output_in h

pub none_front : (output : List ℕ) → output ≡ [] → IsFrontOf [] output
none_front output e = record { later = []; front = e; some = λ here. e }

-- what is left once so many bytes are taken
pub taken_left : {H : Type 0} (number count : ℕ) (old new : State H) → IsChange number old new (IsTaking count)
    → output_of number new.connections ≡ drop count (output_of number old.connections)
unfolding output_of
taken_left {H} number count old new h =
    let same : h.after.number ≡ number = ap (λ (x : Connection). x.number) h.changed ∙ number_found number old.connections h.before h.stands in
    ap (λ (s : State H). output_in (connection_numbered number s.connections)) h.others
    ∙ ap output_in (numbered_same number old.connections h.before h.after same h.stands)
    ∙ ap (λ (x : Connection). x.output) h.changed
    ∙ ap (λ (o : Option Connection). drop count (output_in o)) (sym h.stands)

within_output : (count : ℕ) (o : Option Connection) → MatchOption o ⊥ (λ c. count ≤ length c.output) → count ≤ length (output_in o)
within_output count None h = absurd h
within_output count (Some c) h = h

-- it is less, where some were
pub taken_less : {H : Type 0} (number count : ℕ) (old new : State H) → IsChange number old new (IsTaking count) → 0 < count → HasOutput number count old.connections
    → length (output_of number new.connections) < length (output_of number old.connections)
unfolding output_of
taken_less number count old new h some has =
    let left : output_of number new.connections ≡ drop count (output_of number old.connections) = taken_left number count old new h in
    let within : count ≤ length (output_of number old.connections) = within_output count (connection_numbered number old.connections) has in
    omega (arith, ap length left, length-drop count (output_of number old.connections), within, some)

-- what was taken, and what is left
pub taken_joined : {H : Type 0} (number count : ℕ) (begin old new : State H) (bytes more : List ℕ) → IsChange number old new (IsTaking count)
    → bytes ++ output_of number old.connections ≡ output_of number begin.connections → more ≡ bytes ++ take count (output_of number old.connections)
    → more ++ output_of number new.connections ≡ output_of number begin.connections
taken_joined number count begin old new bytes more h joined e =
    let out : List ℕ = output_of number old.connections in
    ap (λ (xs : List ℕ). xs ++ output_of number new.connections) e
    ∙ ap (λ (xs : List ℕ). (bytes ++ take count out) ++ xs) (taken_left number count old new h)
    ∙ append_assoc bytes (take count out) (drop count out)
    ∙ ap (λ (xs : List ℕ). bytes ++ xs) (take-append-drop count out)
    ∙ joined

-- it is what was taken, and then what is left
pub taken_split : {H : Type 0} (number count : ℕ) (old new : State H) → IsChange number old new (IsTaking count)
    → output_of number old.connections ≡ take count (output_of number old.connections) ++ output_of number new.connections
taken_split number count old new h =
    let out : List ℕ = output_of number old.connections in
    sym (take-append-drop count out) ∙ ap (λ (xs : List ℕ). take count out ++ xs) (sym (taken_left number count old new h))

-- ---- of the connection nothing but its output is changed

outputs_in : (o : Option Connection) → o ≡ option_map (with_output (output_in o)) o
unfolding with_output
outputs_in None = refl
outputs_in (Some c) = refl

pub same_begun : {H : Type 0} (number : ℕ) (state : State H)
    → connection_numbered number state.connections ≡ option_map (with_output (output_of number state.connections)) (connection_numbered number state.connections)
unfolding output_of
same_begun number state = outputs_in (connection_numbered number state.connections)

with_both : (o : Option Connection) (bytes more : List ℕ) → option_map (with_output more) (option_map (with_output bytes) o) ≡ option_map (with_output more) o
unfolding with_output
with_both None bytes more = refl
with_both (Some c) bytes more = refl

output_given : (c d : Connection) (bytes : List ℕ) → d ≡ record c { output = bytes } → d ≡ with_output d.output c
unfolding with_output
output_given c d bytes e = e ∙ ap (λ (xs : List ℕ). record c { output = xs }) (sym (ap (λ (x : Connection). x.output) e))

pub taken_same : {H : Type 0} (number count : ℕ) (begin old new : State H) → IsChange number old new (IsTaking count)
    → connection_numbered number old.connections ≡ option_map (with_output (output_of number old.connections)) (connection_numbered number begin.connections)
    → connection_numbered number new.connections ≡ option_map (with_output (output_of number new.connections)) (connection_numbered number begin.connections)
unfolding output_of
taken_same {H} number count begin old new h same =
    let first : Option Connection = connection_numbered number begin.connections in
    let own : h.after.number ≡ number = ap (λ (x : Connection). x.number) h.changed ∙ number_found number old.connections h.before h.stands in
    let now : connection_numbered number new.connections ≡ Some h.after =
    ap (λ (s : State H). connection_numbered number s.connections) h.others ∙ numbered_same number old.connections h.before h.after own h.stands in
    let before : Some h.before ≡ option_map (with_output (output_of number old.connections)) first = sym h.stands ∙ same in
    now
    ∙ ap Some (output_given h.before h.after (drop count h.before.output) h.changed)
    ∙ ap (option_map (with_output h.after.output)) before
    ∙ with_both first (output_of number old.connections) h.after.output
    ∙ ap (λ (o : Option Connection). option_map (with_output (output_in o)) first) (sym now)

-- at last it has none
pub same_emptied : {H : Type 0} (number : ℕ) (old new : State H)
    → connection_numbered number new.connections ≡ option_map (with_output (output_of number new.connections)) (connection_numbered number old.connections)
    → output_of number new.connections ≡ [] → IsEmptied number old new
same_emptied number old new same none = same ∙ ap (λ (xs : List ℕ). option_map (with_output xs) (connection_numbered number old.connections)) none
