-- A change of the connection at a place is one of the connection of its number.
use Rattle.std.proofs.Common.{◌≡◌, ◌∙◌, ℕ, ℤ, ◌≤◌, List, set, get_or, length, None, Some, is_some, sym, ap, ap₂, subst}
use Rattle.std.specs.Prelude.{MatchOption, Option, Result, Ok, Err}
use Rattle.std.proofs.lemmas.Bool.{eqb-true}
use Rattle.std.proofs.lemmas.List.{set-get_or}
use Rattle.oai_front.specs.Connections.{Connection, IsTakenIn}
use Rattle.oai_front.specs.Fronts.{HasOutput, IsChange, IsPiece, IsTable, State, connection_numbered, with_connection}
use Rattle.oai_front.specs.Performing.{Steps}
use Rattle.oai_front.specs.Places.{IsPlaced}
use Rattle.oai_front.specs.declared.faults.PieceFault.{PieceFault}
use Rattle.oai_front.specs.declared.faults.PieceFault.TheVariants.{NoSuchConnection, NoMemory, Unfinished}
use Rattle.oai_front.proofs.Numbered.{connection_numbered-placed, replaced-placed, table_replaced}

-- the connection at the place of a number is that of the number
pub stands_at : (number : ℕ) (connections : List Connection) (at : ℕ) (x : Connection) → IsPlaced number connections (Some at) → x ≡ get_or connections at x
    → connection_numbered number connections ≡ Some x
stands_at number connections at x placed e = connection_numbered-placed number connections at x placed ∙ ap (λ (c : Connection). Some c) (sym e)

number_at : (number : ℕ) (connections : List Connection) (at : ℕ) (x : Connection) → IsPlaced number connections (Some at) → x ≡ get_or connections at x → x.number ≡ number
number_at number connections at x placed e = ap (λ (c : Connection). c.number) e ∙ eqb-true _ number (placed.1 x)

changed_at : (number : ℕ) (connections : List Connection) (at : ℕ) (x y : Connection) → IsPlaced number connections (Some at) → x ≡ get_or connections at x → y.number ≡ x.number
    → with_connection y connections ≡ set connections at y
changed_at number connections at x y placed e same =
    replaced-placed y connections at (subst (λ (n : ℕ). IsPlaced n connections (Some at)) (sym (same ∙ number_at number connections at x placed e)) placed)

pub table_at : (number : ℕ) (connections : List Connection) (last at : ℕ) (x y : Connection) → IsPlaced number connections (Some at) → x ≡ get_or connections at x → y.number ≡ x.number
    → IsTable connections last → IsTable (set connections at y) last
table_at number connections last at x y placed e same t =
    subst (λ (cs : List Connection). IsTable cs last) (changed_at number connections at x y placed e same) (table_replaced y connections last t)

-- a front of these parts
abbrev pub front_of : {H : Type 0} → H → ℕ → ℕ → List Connection → State H
front_of handler limit last connections = record { handler = handler; limit = limit; last = last; connections = connections }

pub change_at : {H : Type 0} (number : ℕ) (old new : H) (limit last : ℕ) (connections : List Connection) (at : ℕ) (x y : Connection) (change : Connection → Connection → Type 0)
    → IsPlaced number connections (Some at) → x ≡ get_or connections at x → y.number ≡ x.number → change x y
    → IsChange number (front_of old limit last connections) (front_of new limit last (set connections at y)) change
change_at number old new limit last connections at x y change placed e same changed = record {
  before = x;
  after = y;
  stands = stands_at number connections at x placed e;
  changed = changed;
  others = ap (front_of new limit last) (sym (changed_at number connections at x y placed e same));
}

pub taken_number : {H : Type 0} (step : Steps H) (moment : ℤ) (piece : List ℕ) (x y : Connection) (old new : H) (result : Result Unit PieceFault)
    → IsTakenIn step moment piece x old result y new → y.number ≡ x.number
taken_number step moment piece x y old new (Ok done) t = ap (λ (c : Connection). c.number) t.3
taken_number step moment piece x y old new (Err NoMemory) t = ap (λ (c : Connection). c.number) t.0
taken_number step moment piece x y old new (Err Unfinished) t = ap (λ (c : Connection). c.number) t.4
taken_number step moment piece x y old new (Err NoSuchConnection) t = absurd t

pub piece_at : {H : Type 0} (step : Steps H) (number : ℕ) (moment : ℤ) (piece : List ℕ) (old new : H) (limit last : ℕ) (connections : List Connection) (at : ℕ) (x y : Connection)
    (result : Result Unit PieceFault) → IsPlaced number connections (Some at) → x ≡ get_or connections at x → IsTakenIn step moment piece x old result y new
    → IsPiece step number moment piece (front_of old limit last connections) result (front_of new limit last (set connections at y))
piece_at step number moment piece old new limit last connections at x y (Ok done) placed e t =
    change_at number old new limit last connections at x y (λ c d. IsTakenIn step moment piece c old (Ok done) d new) placed e (taken_number step moment piece x y old new (Ok done) t) t
piece_at step number moment piece old new limit last connections at x y (Err NoMemory) placed e t =
    let same : set connections at y ≡ connections = ap (set connections at) (t.0 ∙ e) ∙ set-get_or connections at x in
    (ap is_some (stands_at number connections at x placed e), ap₂ (λ h cs. front_of h limit last cs) t.1 same)
piece_at step number moment piece old new limit last connections at x y (Err Unfinished) placed e t =
    change_at number old new limit last connections at x y (λ c d. IsTakenIn step moment piece c old (Err Unfinished) d new) placed e (taken_number step moment piece x y old new (Err Unfinished) t) t
piece_at step number moment piece old new limit last connections at x y (Err NoSuchConnection) placed e t = absurd t

-- what is to be written on the connection of a number
output_on : (number count : ℕ) (x : Option Connection) (c : Connection) → x ≡ Some c → MatchOption x ⊥ (λ d. count ≤ length d.output) → count ≤ length c.output
output_on number count x c e h = subst (λ (o : Option Connection). MatchOption o ⊥ (λ d. count ≤ length d.output)) e h

pub output_at : (number count : ℕ) (connections : List Connection) (at : ℕ) (x : Connection) → IsPlaced number connections (Some at) → x ≡ get_or connections at x
    → HasOutput number count connections → count ≤ length x.output
output_at number count connections at x placed e h = output_on number count (connection_numbered number connections) x (stands_at number connections at x placed e) h

pub output_nowhere : (number count : ℕ) (connections : List Connection) → connection_numbered number connections ≡ None → HasOutput number count connections → ⊥
output_nowhere number count connections e h = subst (λ (o : Option Connection). MatchOption o ⊥ (λ d. count ≤ length d.output)) e h

pub output_in : {H : Type 0} (number count : ℕ) (s t : State H) → s ≡ t → HasOutput number count t.connections → HasOutput number count s.connections
output_in {H} number count s t e h = subst (λ (x : State H). HasOutput number count x.connections) (sym e) h
