-- What a line of a trace does to its connection, and what is written of it.
use Rattle.std.proofs.Common.{◌≡◌, ◌∙◌, ℕ, ℤ, Bool, true, false, cond, List, [], ◌++◌, append-nil, Option, None, Some, Result, Ok, Err, refl, sym, ap, subst, ◌≢◌}
use Rattle.std.specs.Prelude.{OnOk, is_ok, unwrap_or}
use Rattle.std.specs.Io.KnownBytes.{Appends}
use Rattle.std.specs.Option.{option_map}
use Rattle.oai_front.specs.Connections.{Connection}
use Rattle.oai_front.specs.Fronts.{IsPiece, State, connection_numbered}
use Rattle.oai_front.specs.Performing.{Steps}
use Rattle.oai_front.specs.Stages.{is_closing}
use Rattle.oai_front.specs.declared.faults.PieceFault.{PieceFault}
use Rattle.oai_front.specs.declared.numbers.ConnId.{ConnId}
use Rattle.oai_cli.specs.EventLines.{shown_close, shown_output}
use Rattle.oai_cli.specs.Outputs.{StaysApart, IsEmptied, output_in, output_of, with_output}
use Rattle.oai_cli.specs.Traces.{ComesOn, EndsOn, IsLabelled, IsTraced, ConnectionLabels, Tracing, reads_no_more, left_on, name_on, shown_on}
use Rattle.oai_cli.specs.declared.trace.events.Event.{Event}
use Rattle.oai_startup.proofs.KnownLemmas.{appends_both}

-- ---- what came

pub came_piece : {H : Type 0} (step : Steps H) (number : ℕ) (moment : ℤ) (piece : Option (List ℕ)) (bytes : List ℕ) (old : State H) (told : Result Unit PieceFault) (whole : Bool) (new : State H)
    → piece ≡ Some bytes → IsPiece step number moment bytes old told new → is_ok told ≡ whole → ComesOn step number moment piece old whole new
came_piece {H} step number moment piece bytes old told whole new is taken same =
    subst (λ (p : Option (List ℕ)). ComesOn step number moment p old whole new) (sym is) (told, taken, same)

pub came_end : {H : Type 0} (step : Steps H) (number : ℕ) (moment : ℤ) (piece : Option (List ℕ)) (old new : State H) → piece ≡ None → EndsOn number old new
    → ComesOn step number moment piece old true new
came_end {H} step number moment piece old new is ended = subst (λ (p : Option (List ℕ)). ComesOn step number moment p old true new) (sym is) (ended, refl)

-- ---- what is told of it

-- whether it reads nothing any more
pub over_so : (o : Option Connection) → unwrap_or (option_map (λ (c : Connection). is_closing c.stage) o) false ≡ reads_no_more o
over_so None = refl
over_so (Some c) = refl

over_emptied : (o : Option Connection) → reads_no_more (option_map (with_output []) o) ≡ reads_no_more o
unfolding with_output
over_emptied None = refl
over_emptied (Some c) = refl

over_before : {H : Type 0} (number : ℕ) (old mid : State H) (test : Bool) → IsEmptied number old mid → reads_no_more (connection_numbered number mid.connections) ≡ test
    → reads_no_more (connection_numbered number old.connections) ≡ test
over_before number old mid test emptied is = sym (ap reads_no_more emptied ∙ over_emptied (connection_numbered number old.connections)) ∙ is

pub told_over : {H : Type 0} (number label : ℕ) (old mid : State H) (a b c : Option (List ℕ)) → IsEmptied number old mid → reads_no_more (connection_numbered number mid.connections) ≡ true
    → Appends a b (shown_output label (output_of number old.connections)) → Appends b c (shown_close label true)
    → Appends a c (shown_on label (connection_numbered number old.connections))
unfolding output_of shown_on
told_over number label old mid a b c emptied is put closed =
    subst (λ (test : Bool). Appends a c (shown_output label (output_in (connection_numbered number old.connections)) ++ shown_close label test))
    (sym (over_before number old mid true emptied is))
    (appends_both a b c (shown_output label (output_in (connection_numbered number old.connections))) (shown_close label true) put closed)

pub told_open : {H : Type 0} (number label : ℕ) (old mid : State H) (a b : Option (List ℕ)) → IsEmptied number old mid → reads_no_more (connection_numbered number mid.connections) ≡ false
    → Appends a b (shown_output label (output_of number old.connections)) → Appends a b (shown_on label (connection_numbered number old.connections))
unfolding output_of shown_on
told_open number label old mid a b emptied is put =
    subst (λ (test : Bool). Appends a b (shown_output label (output_in (connection_numbered number old.connections)) ++ shown_close label test))
    (sym (over_before number old mid false emptied is))
    (subst (Appends a b) (sym (append-nil (shown_output label (output_in (connection_numbered number old.connections))))) put)

-- what is left
pub left_over : {H : Type 0} (number : ℕ) (old mid new : State H) → IsEmptied number old mid → reads_no_more (connection_numbered number mid.connections) ≡ true
    → connection_numbered number new.connections ≡ None → connection_numbered number new.connections ≡ left_on (connection_numbered number old.connections)
unfolding left_on
left_over number old mid new emptied is none =
    none ∙ sym (ap (λ (test : Bool). cond test None (option_map (with_output []) (connection_numbered number old.connections))) (over_before number old mid true emptied is))

pub left_open : {H : Type 0} (number : ℕ) (old mid : State H) → IsEmptied number old mid → reads_no_more (connection_numbered number mid.connections) ≡ false
    → connection_numbered number mid.connections ≡ left_on (connection_numbered number old.connections)
unfolding left_on
left_open number old mid emptied is =
    emptied ∙ sym (ap (λ (test : Bool). cond test None (option_map (with_output []) (connection_numbered number old.connections))) (over_before number old mid false emptied is))

-- what its label stands for
pub named_over : {H : Type 0} (conn : ConnId) (label : ℕ) (old mid : State H) (before after : ConnectionLabels) → IsEmptied conn.number old mid
    → reads_no_more (connection_numbered conn.number mid.connections) ≡ true → after label ≡ Some None → ((other : ℕ) → other ≢ label → after other ≡ before other)
    → IsLabelled label (name_on conn (connection_numbered conn.number old.connections)) before after
unfolding name_on
named_over conn label old mid before after emptied is none others = record {
  own = none ∙ sym (ap (λ (test : Bool). Some (cond test None (Some conn))) (over_before conn.number old mid true emptied is));
  others = others;
}

pub named_open : {H : Type 0} (conn : ConnId) (label : ℕ) (old mid : State H) (names : ConnectionLabels) → IsEmptied conn.number old mid
    → reads_no_more (connection_numbered conn.number mid.connections) ≡ false → names label ≡ Some (Some conn)
    → IsLabelled label (name_on conn (connection_numbered conn.number old.connections)) names names
unfolding name_on
named_open conn label old mid names emptied is known = record {
  own = known ∙ sym (ap (λ (test : Bool). Some (cond test None (Some conn))) (over_before conn.number old mid false emptied is));
  others = λ other away. refl;
}

-- ---- all of it

pub traced_so : {H A E : Type 0} (step : Steps H) (conn : ConnId) (event : Event) (mid : State H) (old new : Tracing H) (a b : Option (List ℕ)) (result : Result A E)
    → ComesOn step conn.number event.moment event.piece old.front true mid → OnOk result (Appends a b (shown_on event.label (connection_numbered conn.number mid.connections)))
    → OnOk result (connection_numbered conn.number new.front.connections ≡ left_on (connection_numbered conn.number mid.connections)) → StaysApart conn.number mid new.front
    → new.front.handler ≡ mid.handler → OnOk result (IsLabelled event.label (name_on conn (connection_numbered conn.number mid.connections)) old.names new.names)
    → OnOk result (IsTraced step event conn old new (Appends a b))
traced_so step conn event mid old new a b (Ok x) came written left apart handler named =
    record { mid = mid; came = came; written = written; left = left; apart = apart; handler = handler; named = named }
traced_so step conn event mid old new a b (Err e) came written left apart handler named = tt
