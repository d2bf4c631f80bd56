-- The lines of a trace are followed one after the other, and what comes of it.
use Rattle.std.proofs.Common.{◌≡◌, ◌∙◌, inl, inr, ℕ, ◌+◌, ◌-◌, ◌^◌, min, true, false, List, [], ◌∷◌, ◌++◌, length, map, filter, Option, None, Some, MatchOption, IfErr, IfSome, OnOk, Result, Ok, Err, refl, sym, ap, subst, append-nil}
use Rattle.std.specs.BTreeMap.{BTreeMap, get, is_at}
use Rattle.std.specs.Io.KnownBytes.{Appends, Keeps}
use Rattle.std.specs.List.{flat_map}
use Rattle.std.specs.Map.{lookup}
use Rattle.std.specs.Ordering.{nat_cmp}
use Rattle.std.proofs.lemmas.Bool.{cond-true, cond-false}
use Rattle.std.proofs.lemmas.Grind.{flat_map-append}
use Rattle.std.proofs.lemmas.List.{map-append}
use Rattle.std.proofs.lemmas.List.Elements.{filter-append}
use Rattle.oai_front.specs.Fronts.{State, connection_numbered}
use Rattle.oai_front.specs.Performing.{Chain, Steps}
use Rattle.oai_front.specs.declared.numbers.ConnId.{ConnId}
use Rattle.oai_cli.specs.EventLines.{IsParsedEvent, parse_event}
use Rattle.oai_cli.specs.Inputs.{IsNextLine, IsUnread, IsReadSoFar}
use Rattle.oai_cli.specs.ExchangeLines.{IsUnspecified, is_line_filled}
use Rattle.oai_cli.specs.Outputs.{StaysApart, OthersStay}
use Rattle.oai_cli.specs.NumberedLines.{lines_of}
use Rattle.oai_cli.specs.Stops.{StopsTracing}
use Rattle.oai_cli.specs.Traces.{AreEventsTraced, AreTraced, AreTracedTo, BeginsOnly, HasReadEvent, IsBrokenOff, IsFirst, IsFollowed, IsFollowedOn, IsConnectionOf, IsUnopenable, IsTraced, Shown, Tracing, number_or, shown_on, nothing_traced, AreLinesCounted, IsBroken, IsLine, IsUnopened}
use Rattle.oai_cli.specs.declared.trace.events.Event.{Event}
use Rattle.oai_startup.specs.declared.stop.Stop.{Stop}
use Rattle.oai_startup.specs.declared.stop.Stop.TheVariants.{BadConfig, BadExchange, BadPiece, CannotRead, DeviceFault, InputFault, NoMemory, OutputFault, SocketFault, TooManyConnections, Usage}
use Rattle.oai_cli.proofs.Apart.{equal_others, opened_others, others_then}
use Rattle.oai_startup.proofs.KnownLemmas.{appends_both, appends_kept, appends_none}
use Rattle.oai_cli.proofs.ReadLemmas.{counted_next, known_all, known_so, number_next, read_front, read_to, read_whole}

-- ---- one connection

-- the connection of the label was opened, or was known, and no other was changed then
own_alone : {H : Type 0} (label : ℕ) (conn : ConnId) (old mid : Tracing H) (new : State H) → IsConnectionOf label old (Some conn) mid → StaysApart conn.number mid.front new
    → OthersStay (number_or (old.front.last + 1) (old.names label)) old.front new
own_alone {H} label conn old mid new of apart = by_name (old.names label) of
  where
    by_name : (o : Option (Option ConnId)) → MatchOption o (IsFirst label old (Some conn) mid) (λ (known : Option ConnId). (Some conn ≡ known) × (mid ≡ old))
        → OthersStay (number_or (old.front.last + 1) o) old.front new
    by_name None first =
        let opened = opened_others (old.front.last + 1) (old.front.last + 1) old.front mid.front first.0.3 in
        let away = subst (λ (number : ℕ). OthersStay number mid.front new) first.0.1 apart.others in
        others_then (old.front.last + 1) old.front mid.front new opened away
    by_name (Some None) same = let is : Some conn ≡ None = same.0 in absurd cc
    by_name (Some (Some known)) same =
        let is : Some conn ≡ Some known = same.0 in
        let own : conn ≡ known = cc in
        let away = subst (λ (c : ConnId). OthersStay c.number mid.front new) own apart.others in
        others_then known.number old.front mid.front new (equal_others known.number old.front mid.front (ap (λ (t : Tracing H). t.front) same.1)) away

-- nothing was done
begins_none : {H : Type 0} (lines : List (List ℕ)) (state : Tracing H) → BeginsOnly lines state state.front
begins_none [] state = refl
begins_none (line ∷ lines) state = inl refl

begins_same : {H : Type 0} (line : List ℕ) (lines : List (List ℕ)) (state : Tracing H) (new : State H) → new ≡ state.front → BeginsOnly (line ∷ lines) state new
begins_same line lines state new same = inl same

-- ---- a line

pub line_passed : {H : Type 0} (step : Steps H) (line : List ℕ) (number : ℕ) (state : Tracing H) (known : Option (List ℕ)) → is_line_filled line ≡ false
    → IsLine step line number state (Ok tt) state (Appends known known)
line_passed step line number state known empty = inl (record { empty = empty; same = refl; written = appends_none known })

-- it tells nothing, or memory for what it tells is refused
pub line_unparsed : {H : Type 0} (step : Steps H) (line : List ℕ) (number : ℕ) (state : Tracing H) (known : Option (List ℕ)) (stop : Stop) → is_line_filled line ≡ true
    → IsParsedEvent line number (Err stop) → IsLine step line number state (Err stop) state (Appends known known)
line_unparsed step line number state known (BadPiece at) full said = (said.1, full, said.0, refl, appends_none known)
line_unparsed step line number state known (TooManyConnections at) full said = absurd cc
line_unparsed step line number state known Usage full said = (inr said, inl refl)
line_unparsed step line number state known CannotRead full said = (inr said, inl refl)
line_unparsed step line number state known (BadConfig fault) full said = (inr said, inl refl)
line_unparsed step line number state known (BadExchange at) full said = (inr said, inl refl)
line_unparsed step line number state known InputFault full said = (inr said, inl refl)
line_unparsed step line number state known OutputFault full said = (inr said, inl refl)
line_unparsed step line number state known DeviceFault full said = (inr said, inl refl)
line_unparsed step line number state known SocketFault full said = (inr said, inl refl)
line_unparsed step line number state known NoMemory full said = (inr said, inl refl)

-- no connection stands for its label
pub line_unopened : {H : Type 0} (step : Steps H) (line : List ℕ) (number : ℕ) (event : Event) (old new : Tracing H) (known : Option (List ℕ)) (stop : Stop) → parse_event line ≡ Some event
    → IsUnopened number event.label old new.front stop → IsLine step line number old (Err stop) new (Appends known known)
line_unopened step line number event old new known (TooManyConnections at) parsed_as why = (why.0, (event, parsed_as, why.1), appends_none known)
line_unopened step line number event old new known (BadPiece at) parsed_as why = let is : BadPiece at ≡ NoMemory = why.0 in absurd cc
line_unopened step line number event old new known Usage parsed_as why = (inr why.0, inr (record { event = event; parsed_as = parsed_as; others = why.2 }))
line_unopened step line number event old new known CannotRead parsed_as why = (inr why.0, inr (record { event = event; parsed_as = parsed_as; others = why.2 }))
line_unopened step line number event old new known (BadConfig fault) parsed_as why = (inr why.0, inr (record { event = event; parsed_as = parsed_as; others = why.2 }))
line_unopened step line number event old new known (BadExchange at) parsed_as why = (inr why.0, inr (record { event = event; parsed_as = parsed_as; others = why.2 }))
line_unopened step line number event old new known InputFault parsed_as why = (inr why.0, inr (record { event = event; parsed_as = parsed_as; others = why.2 }))
line_unopened step line number event old new known OutputFault parsed_as why = (inr why.0, inr (record { event = event; parsed_as = parsed_as; others = why.2 }))
line_unopened step line number event old new known DeviceFault parsed_as why = (inr why.0, inr (record { event = event; parsed_as = parsed_as; others = why.2 }))
line_unopened step line number event old new known SocketFault parsed_as why = (inr why.0, inr (record { event = event; parsed_as = parsed_as; others = why.2 }))
line_unopened step line number event old new known NoMemory parsed_as why = (inr why.0, inr (record { event = event; parsed_as = parsed_as; others = why.2 }))

-- its connection was forgotten
pub line_forgotten : {H : Type 0} (step : Steps H) (line : List ℕ) (number : ℕ) (event : Event) (old mid : Tracing H) (known : Option (List ℕ)) → is_line_filled line ≡ true
    → parse_event line ≡ Some event → IsConnectionOf event.label old None mid → IsLine step line number old (Ok tt) mid (Appends known known)
line_forgotten step line number event old mid known full parsed_as of =
    inr (record { filled = full; event = event; parsed_as = parsed_as; followed = record { conn = None; mid = mid; of = of; on = (refl, appends_none known) } })

-- what it tells is followed on its connection, or is not to the end
line_broken : {H : Type 0} (step : Steps H) (line : List ℕ) (number : ℕ) (old new : Tracing H) (Writes : List ℕ → Type 0) (stop : Stop) → IsBroken stop
    → HasReadEvent line old new.front → IsLine step line number old (Err stop) new Writes
line_broken step line number old new Writes stop (inl is) begun = subst (λ (s : Stop). IsLine step line number old (Err s) new Writes) (sym is) (inl refl, inr begun)
line_broken step line number old new Writes stop (inr is) begun = subst (λ (s : Stop). IsLine step line number old (Err s) new Writes) (sym is) (inr refl, inr begun)

pub line_followed : {H : Type 0} (step : Steps H) (line : List ℕ) (number : ℕ) (event : Event) (conn : ConnId) (old mid new : Tracing H) (Writes : List ℕ → Type 0)
    (result : Result Unit Stop) → is_line_filled line ≡ true → parse_event line ≡ Some event → IsConnectionOf event.label old (Some conn) mid → OnOk result (IsTraced step event conn mid new Writes)
    → IfErr result IsBroken → StaysApart conn.number mid.front new.front → IsLine step line number old result new Writes
line_followed step line number event conn old mid new Writes (Ok done) full parsed_as of traced broken apart =
    inr (record { filled = full; event = event; parsed_as = parsed_as; followed = record { conn = Some conn; mid = mid; of = of; on = traced } })
line_followed step line number event conn old mid new Writes (Err stop) full parsed_as of traced broken apart =
    line_broken step line number old new Writes stop broken
    (record { event = event; parsed_as = parsed_as; others = own_alone event.label conn old mid new.front of apart })

-- ---- lines that are followed

chain_last : {A S : Type 0} (Step : A → S → S → Type 0) (xs : List A) (x : A) (old mid new : S) → Chain Step xs old mid → Step x mid new → Chain Step (xs ++ x ∷ []) old new
chain_last {A} {S} Step [] x old mid new chain last = (new, subst (λ (s : S). Step x s new) chain last, refl)
chain_last Step (y ∷ xs) x old mid new chain last = (chain.0, chain.1, chain_last Step xs x chain.0 mid new chain.2 last)

-- so no label stands for anything
nothing_traced_so : {H : Type 0} (front : State H) (labels : BTreeMap ℕ (Option ConnId)) → labels.entries ≡ [] → record { front = front; names = get nat_cmp labels } ≡ nothing_traced front
nothing_traced_so {H} front labels none = ap (λ (entries : List (ℕ × Option ConnId)). record { front = front; names = λ label. lookup (is_at (nat_cmp label)) entries }) none

pub counted_none : {H : Type 0} (step : Steps H) (front : State H) (labels : BTreeMap ℕ (Option ConnId)) (known : Option (List ℕ)) → labels.entries ≡ []
    → AreLinesCounted step front (record { front = front; names = get nat_cmp labels }) 0 (Appends known known) []
counted_none step front labels known none = record {
  counted = refl;
  followed = record { events = []; read = refl; run = nothing_traced_so front labels none; written = appends_none known };
}

-- what was written for an event
followed_text : {H : Type 0} (step : Steps H) (event : Event) (conn : Option ConnId) (old new : Tracing H) (Writes : List ℕ → Type 0) → IsFollowedOn step event conn old new Writes
    → (text : List ℕ) × IsFollowedOn step event conn old new (λ (t : List ℕ). t ≡ text) × Writes text
followed_text step event None old new Writes on = ([], (on.0, refl), on.1)
followed_text step event (Some conn) old new Writes on = (
  shown_on event.label (connection_numbered conn.number on.mid.connections),
  record { mid = on.mid; came = on.came; written = refl; left = on.left; apart = on.apart; handler = on.handler; named = on.named },
  on.written,
)

-- an empty line more
passed_more : {H : Type 0} (step : Steps H) (front : List (List ℕ)) (line : List ℕ) (old : State H) (new : Tracing H) (Writes : List ℕ → Type 0) → is_line_filled line ≡ false
    → AreEventsTraced step front old new Writes → AreEventsTraced step (front ++ line ∷ []) old new Writes
passed_more step front line old new Writes empty done = record {
  events = done.events;
  read =
      let none : filter is_line_filled (line ∷ []) ≡ [] = cond-false (is_line_filled line) (line ∷ []) [] empty in
      ap (map parse_event) (filter-append is_line_filled front (line ∷ []) ∙ ap (λ (ls : List (List ℕ)). filter is_line_filled front ++ ls) none ∙ append-nil (filter is_line_filled front)) ∙ done.read;
  run = done.run;
  written = done.written;
}

-- a line more that tells an event
followed_more : {H : Type 0} (step : Steps H) (front : List (List ℕ)) (line : List ℕ) (event : Event) (old : State H) (mid new : Tracing H) (from was is : Option (List ℕ))
    → is_line_filled line ≡ true → parse_event line ≡ Some event → IsFollowed step event mid new (Appends was is) → AreEventsTraced step front old mid (Appends from was)
    → AreEventsTraced step (front ++ line ∷ []) old new (Appends from is)
followed_more step front line event old mid new from was is full parsed_as last done =
    let said = followed_text step event last.conn last.mid new (Appends was is) last.on in
    let shown : Shown = record { event = event; text = said.0 } in
    record {
      events = done.events ++ shown ∷ [];
      read =
          let one : filter is_line_filled (line ∷ []) ≡ line ∷ [] = cond-true (is_line_filled line) (line ∷ []) [] full in
          ap (map parse_event) (filter-append is_line_filled front (line ∷ []) ∙ ap (λ (ls : List (List ℕ)). filter is_line_filled front ++ ls) one)
          ∙ map-append parse_event (filter is_line_filled front) (line ∷ [])
          ∙ ap (λ (xs : List (Option Event)). xs ++ parse_event line ∷ []) done.read
          ∙ ap (λ (x : Option Event). map (λ (e : Shown). Some e.event) done.events ++ x ∷ []) parsed_as
          ∙ sym (map-append (λ (e : Shown). Some e.event) done.events (shown ∷ []));
      run =
          chain_last (λ (e : Shown) before after. IsFollowed step e.event before after (λ (text : List ℕ). text ≡ e.text)) done.events shown (nothing_traced old) mid new done.run
          (record { conn = last.conn; mid = last.mid; of = last.of; on = said.1 });
      written =
          let all : flat_map (λ (e : Shown). e.text) (done.events ++ shown ∷ []) ≡ flat_map (λ (e : Shown). e.text) done.events ++ said.0 =
          flat_map-append (λ (e : Shown). e.text) done.events (shown ∷ [])
          ∙ ap (λ (xs : List ℕ). flat_map (λ (e : Shown). e.text) done.events ++ xs) (append-nil said.0) in
          subst (Appends from is) (sym all) (appends_both from was is (flat_map (λ (e : Shown). e.text) done.events) said.0 done.written said.2);
    }

-- where nothing is said of what was written
followed_unsaid : {H : Type 0} (step : Steps H) (lines : List (List ℕ)) (old : State H) (new : Tracing H) (Writes : List ℕ → Type 0) → AreEventsTraced step lines old new Writes
    → AreEventsTraced step lines old new IsUnspecified
followed_unsaid step lines old new Writes done = record { events = done.events; read = done.read; run = done.run; written = tt }

-- what is not written any more
followed_on : {H : Type 0} (step : Steps H) (lines : List (List ℕ)) (old : State H) (new : Tracing H) (a b c : Option (List ℕ)) → Appends b c []
    → AreEventsTraced step lines old new (Appends a b) → AreEventsTraced step lines old new (Appends a c)
followed_on step lines old new a b c none done =
    let text : List ℕ = flat_map (λ (e : Shown). e.text) done.events in
    record {
      events = done.events;
      read = done.read;
      run = done.run;
      written = subst (Appends a c) (append-nil text) (appends_both a b c text [] done.written none);
    }

-- a line more that was followed, or passed over
pub counted_more : {H : Type 0} (step : Steps H) (front : List (List ℕ)) (line : List ℕ) (old : State H) (mid new : Tracing H) (was is : ℕ) (from before after : Option (List ℕ))
    → is ≡ min (was + 1) (2 ^ 64 - 1) → IsLine step line is mid (Ok tt) new (Appends before after) → AreLinesCounted step old mid was (Appends from before) front
    → AreLinesCounted step old new is (Appends from after) (front ++ line ∷ [])
counted_more {H} step front line old mid new was is from before after counted (inl passed) done = record {
  counted = counted_next front line was is counted done.counted;
  followed =
      subst (λ (t : Tracing H). AreEventsTraced step (front ++ line ∷ []) old t (Appends from after)) (sym passed.same)
      (followed_on step (front ++ line ∷ []) old mid from before after passed.written (passed_more step front line old mid (Appends from before) passed.empty done.followed));
}
counted_more step front line old mid new was is from before after counted (inr says) done = record {
  counted = counted_next front line was is counted done.counted;
  followed = followed_more step front line says.event old mid new from before after says.filled says.parsed_as says.followed done.followed;
}

-- ---- where it stops

broken_stops : (stop : Stop) → IsBroken stop → StopsTracing stop
broken_stops stop (inl is) = subst StopsTracing (sym is) tt
broken_stops stop (inr is) = subst StopsTracing (sym is) tt

pub line_stops : {H : Type 0} (step : Steps H) (line : List ℕ) (number : ℕ) (old new : Tracing H) (Writes : List ℕ → Type 0) (stop : Stop)
    → IsLine step line number old (Err stop) new Writes → StopsTracing stop
line_stops step line number old new Writes (BadPiece at) is = tt
line_stops step line number old new Writes (TooManyConnections at) is = tt
line_stops step line number old new Writes Usage is = broken_stops Usage is.0
line_stops step line number old new Writes CannotRead is = broken_stops CannotRead is.0
line_stops step line number old new Writes (BadConfig fault) is = broken_stops (BadConfig fault) is.0
line_stops step line number old new Writes (BadExchange at) is = broken_stops (BadExchange at) is.0
line_stops step line number old new Writes InputFault is = tt
line_stops step line number old new Writes OutputFault is = tt
line_stops step line number old new Writes DeviceFault is = broken_stops DeviceFault is.0
line_stops step line number old new Writes SocketFault is = broken_stops SocketFault is.0
line_stops step line number old new Writes NoMemory is = tt

pub unread_stops : (stop : Stop) → IsUnread stop → StopsTracing stop
unread_stops stop (inl is) = subst StopsTracing (sym is) tt
unread_stops stop (inr is) = subst StopsTracing (sym is) tt

-- the lines in front were followed, and the next one may have begun
broken_off : {H : Type 0} (step : Steps H) (front lines others : List (List ℕ)) (old : State H) (mid : Tracing H) (new : State H) (Writes : List ℕ → Type 0)
    → lines ≡ front ++ others → AreEventsTraced step front old mid Writes → BeginsOnly others mid new → IsBrokenOff step lines old new
broken_off step front lines others old mid new Writes cut done next =
    record { front = front; others = others; cut = cut; mid = mid; followed = followed_unsaid step front old mid Writes done; next = next }

stopped_there : {H : Type 0} (step : Steps H) (front lines others : List (List ℕ)) (line : List ℕ) (old : State H) (mid new : Tracing H) (was is : ℕ) (from before after : Option (List ℕ))
    (stop : Stop) → is ≡ min (was + 1) (2 ^ 64 - 1) → lines ≡ front ++ line ∷ others → IsLine step line is mid (Err stop) new (Appends before after)
    → AreLinesCounted step old mid was (Appends from before) front → AreTraced step lines old (Err stop) new.front (Appends from after)
stopped_there {H} step front lines others line old mid new was is from before after (BadPiece at) counted cut here done = record {
  front = front;
  line = line;
  others = others;
  cut = cut;
  numbered = here.0 ∙ counted ∙ number_next was (length front) done.counted;
  holds = (
    here.1,
    here.2,
    (new.names, subst (λ (t : Tracing H). AreEventsTraced step front old t (Appends from after)) (sym here.3) (followed_on step front old mid from before after here.4 done.followed)),
  );
}
stopped_there step front lines others line old mid new was is from before after (TooManyConnections at) counted cut here done = record {
  front = front;
  line = line;
  others = others;
  cut = cut;
  numbered = here.0 ∙ counted ∙ number_next was (length front) done.counted;
  holds = record {
    event = here.1.0;
    parsed_as = here.1.1;
    mid = mid;
    followed = followed_on step front old mid from before after here.2 done.followed;
    refused = here.1.2;
  };
}
stopped_there step front lines others line old mid new was is from before after Usage counted cut here done =
    broken_off step front lines (line ∷ others) old mid new.front (Appends from before) cut done.followed here.1
stopped_there step front lines others line old mid new was is from before after CannotRead counted cut here done =
    broken_off step front lines (line ∷ others) old mid new.front (Appends from before) cut done.followed here.1
stopped_there step front lines others line old mid new was is from before after (BadConfig fault) counted cut here done =
    broken_off step front lines (line ∷ others) old mid new.front (Appends from before) cut done.followed here.1
stopped_there step front lines others line old mid new was is from before after (BadExchange at) counted cut here done =
    broken_off step front lines (line ∷ others) old mid new.front (Appends from before) cut done.followed here.1
stopped_there step front lines others line old mid new was is from before after InputFault counted cut here done = absurd (elim here.0 [ inl is ↦ cc | inr is ↦ cc ])
stopped_there step front lines others line old mid new was is from before after OutputFault counted cut here done =
    broken_off step front lines (line ∷ others) old mid new.front (Appends from before) cut done.followed here.1
stopped_there step front lines others line old mid new was is from before after DeviceFault counted cut here done =
    broken_off step front lines (line ∷ others) old mid new.front (Appends from before) cut done.followed here.1
stopped_there step front lines others line old mid new was is from before after SocketFault counted cut here done =
    broken_off step front lines (line ∷ others) old mid new.front (Appends from before) cut done.followed here.1
stopped_there step front lines others line old mid new was is from before after NoMemory counted cut here done =
    broken_off step front lines (line ∷ others) old mid new.front (Appends from before) cut done.followed here.1

-- ---- the whole input

pub traced_stopped : {H : Type 0} (step : Steps H) (known : Option (List ℕ)) (lines others : Option (List (List ℕ))) (line : List ℕ) (old : State H) (mid new : Tracing H) (was is : ℕ)
    (from before after : Option (List ℕ)) (stop : Stop) → IsNextLine lines (Ok true) line others → is ≡ min (was + 1) (2 ^ 64 - 1)
    → IsLine step line is mid (Err stop) new (Appends before after) → IsReadSoFar known lines (AreLinesCounted step old mid was (Appends from before))
    → IfSome known (λ (input : List ℕ). AreTraced step (lines_of input) old (Err stop) new.front (Appends from after))
traced_stopped step known lines others line old mid new was is from before after stop next counted here so_far =
    read_to known lines others line (AreLinesCounted step old mid was (Appends from before)) (λ all. AreTraced step all old (Err stop) new.front (Appends from after)) next
    (λ front rest all cut done. stopped_there step front all rest line old mid new was is from before after stop counted cut here done) so_far

pub traced_whole : {H : Type 0} (step : Steps H) (known : Option (List ℕ)) (lines others : Option (List (List ℕ))) (line : List ℕ) (old : State H) (new : Tracing H) (count : ℕ)
    (Writes : List ℕ → Type 0) → IsNextLine lines (Ok false) line others → IsReadSoFar known lines (AreLinesCounted step old new count Writes)
    → IfSome known (λ (input : List ℕ). AreTraced step (lines_of input) old (Ok tt) new.front Writes)
traced_whole step known lines others line old new count Writes next so_far =
    known_so known (λ (input : List ℕ). AreLinesCounted step old new count Writes (lines_of input)) (λ (input : List ℕ). AreTracedTo step old new.front Writes (lines_of input))
    (λ input done. (new.names, done.followed)) (read_whole known lines others line (AreLinesCounted step old new count Writes) next so_far)

unread_so : {H : Type 0} (step : Steps H) (front others lines : List (List ℕ)) (old : State H) (new : Tracing H) (count : ℕ) (Writes : List ℕ → Type 0) (stop : Stop) → IsUnread stop
    → lines ≡ front ++ others → AreLinesCounted step old new count Writes front → AreTraced step lines old (Err stop) new.front Writes
unread_so step front others lines old new count Writes stop (inl is) cut done =
    subst (λ (s : Stop). AreTraced step lines old (Err s) new.front Writes) (sym is) (record { front = front; others = others; cut = cut; holds = (new.names, done.followed) })
unread_so step front others lines old new count Writes stop (inr is) cut done =
    subst (λ (s : Stop). AreTraced step lines old (Err s) new.front Writes) (sym is) (broken_off step front lines others old new new.front Writes cut done.followed (begins_none others new))

pub traced_unread : {H : Type 0} (step : Steps H) (known : Option (List ℕ)) (lines : Option (List (List ℕ))) (old : State H) (new : Tracing H) (count : ℕ) (Writes : List ℕ → Type 0)
    (stop : Stop) → IsUnread stop → IsReadSoFar known lines (AreLinesCounted step old new count Writes)
    → IfSome known (λ (input : List ℕ). AreTraced step (lines_of input) old (Err stop) new.front Writes)
traced_unread step known lines old new count Writes stop cause so_far =
    read_front known lines (AreLinesCounted step old new count Writes) (λ all. AreTraced step all old (Err stop) new.front Writes)
    (λ front others all cut done. unread_so step front others all old new count Writes stop cause cut done) so_far

-- nothing of it is read
pub traced_none : {H : Type 0} (step : Steps H) (known : Option (List ℕ)) (front : State H) (Writes : List ℕ → Type 0) (stop : Stop) → stop ≡ NoMemory
    → IfSome known (λ (input : List ℕ). AreTraced step (lines_of input) front (Err stop) front Writes)
traced_none {H} step known front Writes stop is =
    known_all known (λ (input : List ℕ). AreTraced step (lines_of input) front (Err stop) front Writes)
    (λ input. subst (λ (s : Stop). AreTraced step (lines_of input) front (Err s) front Writes) (sym is) (begun (lines_of input)))
  where
    begun : (lines : List (List ℕ)) → IsBrokenOff step lines front front
    begun lines = record {
      front = [];
      others = lines;
      cut = refl;
      mid = nothing_traced front;
      followed = record { events = []; read = refl; run = refl; written = tt };
      next = begins_none lines (nothing_traced front);
    }

-- ---- what was written is kept

followed_kept : {H : Type 0} (step : Steps H) (lines : List (List ℕ)) (old : State H) (new : Tracing H) (a b c : Option (List ℕ)) → Keeps b c
    → AreEventsTraced step lines old new (Appends a b) → AreEventsTraced step lines old new (Appends a c)
followed_kept step lines old new a b c kept done =
    record { events = done.events; read = done.read; run = done.run; written = appends_kept a b c (flat_map (λ (e : Shown). e.text) done.events) done.written kept }

to_kept : {H : Type 0} (step : Steps H) (lines : List (List ℕ)) (old new : State H) (a b c : Option (List ℕ)) → Keeps b c → AreTracedTo step old new (Appends a b) lines
    → AreTracedTo step old new (Appends a c) lines
to_kept step lines old new a b c kept done = (done.0, followed_kept step lines old (record { front = new; names = done.0 }) a b c kept done.1)

kept_so : {H : Type 0} (step : Steps H) (lines : List (List ℕ)) (old new : State H) (a b c : Option (List ℕ)) (result : Result Unit Stop) → Keeps b c
    → AreTraced step lines old result new (Appends a b) → AreTraced step lines old result new (Appends a c)
kept_so step lines old new a b c (Ok done) kept traced = to_kept step lines old new a b c kept traced
kept_so step lines old new a b c (Err (BadPiece number)) kept traced = record {
  front = traced.front;
  line = traced.line;
  others = traced.others;
  cut = traced.cut;
  numbered = traced.numbered;
  holds = (traced.holds.0, traced.holds.1, to_kept step traced.front old new a b c kept traced.holds.2);
}
kept_so step lines old new a b c (Err (TooManyConnections number)) kept traced = record {
  front = traced.front;
  line = traced.line;
  others = traced.others;
  cut = traced.cut;
  numbered = traced.numbered;
  holds = record {
    event = traced.holds.event;
    parsed_as = traced.holds.parsed_as;
    mid = traced.holds.mid;
    followed = followed_kept step traced.front old traced.holds.mid a b c kept traced.holds.followed;
    refused = traced.holds.refused;
  };
}
kept_so step lines old new a b c (Err InputFault) kept traced =
    record { front = traced.front; others = traced.others; cut = traced.cut; holds = to_kept step traced.front old new a b c kept traced.holds }
kept_so step lines old new a b c (Err Usage) kept traced = traced
kept_so step lines old new a b c (Err CannotRead) kept traced = traced
kept_so step lines old new a b c (Err (BadConfig fault)) kept traced = traced
kept_so step lines old new a b c (Err (BadExchange number)) kept traced = traced
kept_so step lines old new a b c (Err OutputFault) kept traced = traced
kept_so step lines old new a b c (Err DeviceFault) kept traced = traced
kept_so step lines old new a b c (Err SocketFault) kept traced = traced
kept_so step lines old new a b c (Err NoMemory) kept traced = traced

-- what was traced is flushed
pub traced_kept : {H : Type 0} (step : Steps H) (known : Option (List ℕ)) (old new : State H) (a b c : Option (List ℕ)) (result : Result Unit Stop) → Keeps b c
    → IfSome known (λ (input : List ℕ). AreTraced step (lines_of input) old result new (Appends a b))
    → IfSome known (λ (input : List ℕ). AreTraced step (lines_of input) old result new (Appends a c))
traced_kept step known old new a b c result kept traced =
    known_so known (λ (input : List ℕ). AreTraced step (lines_of input) old result new (Appends a b)) (λ (input : List ℕ). AreTraced step (lines_of input) old result new (Appends a c))
    (λ input so. kept_so step (lines_of input) old new a b c result kept so) traced

-- where that fails the same lines were followed, but nothing is said of what was written
refused_same : {H : Type 0} (label : ℕ) (mid : Tracing H) (new : State H) → IsUnopenable label mid new → new ≡ mid.front
refused_same label mid new refused = elim refused.1 [ inl full ↦ full.1 | inr spent ↦ spent.2 ]

to_broken : {H : Type 0} (step : Steps H) (front lines others : List (List ℕ)) (old new : State H) (Writes : List ℕ → Type 0) → lines ≡ front ++ others
    → AreTracedTo step old new Writes front → IsBrokenOff step lines old new
to_broken {H} step front lines others old new Writes cut to =
    let mid : Tracing H = record { front = new; names = to.0 } in
    broken_off step front lines others old mid new Writes cut to.1 (begins_none others mid)

unsaid_so : {H : Type 0} (step : Steps H) (lines : List (List ℕ)) (old new : State H) (Writes : List ℕ → Type 0) (result : Result Unit Stop) → AreTraced step lines old result new Writes
    → IsBrokenOff step lines old new
unsaid_so step lines old new Writes (Ok done) traced = to_broken step lines lines [] old new Writes (sym (append-nil lines)) traced
unsaid_so step lines old new Writes (Err (BadPiece number)) traced =
    to_broken step traced.front lines (traced.line ∷ traced.others) old new Writes traced.cut traced.holds.2
unsaid_so step lines old new Writes (Err (TooManyConnections number)) traced =
    broken_off step traced.front lines (traced.line ∷ traced.others) old traced.holds.mid new Writes traced.cut traced.holds.followed
    (begins_same traced.line traced.others traced.holds.mid new (refused_same traced.holds.event.label traced.holds.mid new traced.holds.refused))
unsaid_so step lines old new Writes (Err InputFault) traced = to_broken step traced.front lines traced.others old new Writes traced.cut traced.holds
unsaid_so step lines old new Writes (Err Usage) traced = traced
unsaid_so step lines old new Writes (Err CannotRead) traced = traced
unsaid_so step lines old new Writes (Err (BadConfig fault)) traced = traced
unsaid_so step lines old new Writes (Err (BadExchange number)) traced = traced
unsaid_so step lines old new Writes (Err OutputFault) traced = traced
unsaid_so step lines old new Writes (Err DeviceFault) traced = traced
unsaid_so step lines old new Writes (Err SocketFault) traced = traced
unsaid_so step lines old new Writes (Err NoMemory) traced = traced

pub traced_unwritten : {H : Type 0} (step : Steps H) (known : Option (List ℕ)) (old new : State H) (Writes Others : List ℕ → Type 0) (result : Result Unit Stop)
    → IfSome known (λ (input : List ℕ). AreTraced step (lines_of input) old result new Writes)
    → IfSome known (λ (input : List ℕ). AreTraced step (lines_of input) old (Err OutputFault) new Others)
traced_unwritten step known old new Writes Others result traced =
    known_so known (λ (input : List ℕ). AreTraced step (lines_of input) old result new Writes) (λ (input : List ℕ). AreTraced step (lines_of input) old (Err OutputFault) new Others)
    (λ input so. unsaid_so step (lines_of input) old new Writes result so) traced
