-- The lines of an input are performed one after the other, and what comes of it.
use Rattle.std.proofs.Common.{◌≡◌, ◌∙◌, inl, inr, ℕ, ◌+◌, ◌-◌, ◌^◌, min, Bool, true, false, ◌&&◌, List, [], ◌∷◌, ◌++◌, length, map, filter, Option, Some, IfErr, IfSome, OnOk, Result, Ok, Err, is_none, IsTrue, refl, sym, ap, subst, append_assoc, append-nil}
use Rattle.std.specs.Io.KnownBytes.{Appends, Keeps}
use Rattle.std.specs.List.{flat_map}
use Rattle.std.proofs.lemmas.Bool.{cases_Bool, cond-true, cond-false}
use Rattle.std.proofs.lemmas.Grind.{flat_map-append}
use Rattle.std.proofs.lemmas.List.{map-append}
use Rattle.std.proofs.lemmas.List.Elements.{filter-append}
use Rattle.oai_host.proofs.RunLemmas.{all_answered, exchanged_last}
use Rattle.oai_host.specs.Hosts.{HostState}
use Rattle.oai_http.specs.declared.exchanges.Call.{Call}
use Rattle.oai_cli.specs.Asked.{AreAsked, AreDone, AreDoneAndCounted, IsLineOutcome}
use Rattle.oai_cli.specs.Inputs.{IsNextLine, IsUnread, left, unread, IsReadSoFar}
use Rattle.oai_cli.specs.ExchangeLines.{IsLineDone, IsUnspecified, is_bad, is_line_filled, shown, parse_exchange}
use Rattle.oai_cli.specs.NumberedLines.{AreFirst, line_count, lines_of}
use Rattle.oai_startup.specs.declared.stop.Stop.{Stop}
use Rattle.oai_startup.specs.declared.stop.Stop.TheVariants.{BadConfig, BadExchange, BadPiece, CannotRead, DeviceFault, InputFault, NoMemory, OutputFault, SocketFault, TooManyConnections, Usage}
use Rattle.oai_startup.proofs.KnownLemmas.{appends_both, appends_kept, appends_none}
use Rattle.oai_cli.proofs.ReadLemmas.{counted_next, known_so, number_next, read_front, read_none, read_to, read_whole}

-- ---- lines that are done

pub ended_none : (host : HostState) (known : Option (List ℕ)) → AreDoneAndCounted host host 0 (Appends known known) []
ended_none host known = record {
  honest = refl;
  counted = refl;
  done = record { calls = []; answers = []; read = refl; answered = all_answered [] [] host host refl; exchanged = refl; written = appends_none known };
}

-- an empty line more
done_empty : (front : List (List ℕ)) (line : List ℕ) (old new : HostState) (Writes : List ℕ → Type 0) → is_line_filled line ≡ false → AreDone front old new Writes
    → AreDone (front ++ line ∷ []) old new Writes
done_empty front line old new Writes empty done = record {
  calls = done.calls;
  answers = done.answers;
  read =
      let none : filter is_line_filled (line ∷ []) ≡ [] = cond-false (is_line_filled line) (line ∷ []) [] empty in
      ap (map parse_exchange) (filter-append is_line_filled front (line ∷ []) ∙ ap (λ (ls : List (List ℕ)). filter is_line_filled front ++ ls) none ∙ append-nil (filter is_line_filled front)) ∙ done.read;
  answered = done.answered;
  exchanged = done.exchanged;
  written = done.written;
}

-- a line more that spells an exchange
done_line : (front : List (List ℕ)) (line : List ℕ) (old mid new : HostState) (Before Last Writes : List ℕ → Type 0) → ((a b : List ℕ) → Before a → Last b → Writes (a ++ b))
    → is_line_filled line ≡ true → AreDone front old mid Before → IsLineDone line mid new Last → AreDone (front ++ line ∷ []) old new Writes
done_line front line old mid new Before Last Writes join full done last =
    let exchanged = exchanged_last done.calls done.answers last.call last.answer old mid new done.exchanged last.exchanged in record {
      calls = done.calls ++ last.call ∷ [];
      answers = done.answers ++ last.answer ∷ [];
      read =
          let one : filter is_line_filled (line ∷ []) ≡ line ∷ [] = cond-true (is_line_filled line) (line ∷ []) [] full in
          ap (map parse_exchange) (filter-append is_line_filled front (line ∷ []) ∙ ap (λ (ls : List (List ℕ)). filter is_line_filled front ++ ls) one)
          ∙ map-append parse_exchange (filter is_line_filled front) (line ∷ [])
          ∙ ap (λ (xs : List (Option Call)). xs ++ parse_exchange line ∷ []) done.read
          ∙ ap (λ (x : Option Call). map Some done.calls ++ x ∷ []) last.read
          ∙ sym (map-append Some done.calls (last.call ∷ []));
      answered = all_answered (done.calls ++ last.call ∷ []) (done.answers ++ last.answer ∷ []) old new exchanged;
      exchanged = exchanged;
      written =
          let all : flat_map shown (done.answers ++ last.answer ∷ []) ≡ flat_map shown done.answers ++ shown last.answer =
          flat_map-append shown done.answers (last.answer ∷ []) ∙ ap (λ (xs : List ℕ). flat_map shown done.answers ++ xs) (append-nil (shown last.answer)) in
          subst Writes (sym all) (join (flat_map shown done.answers) (shown last.answer) done.written last.written);
    }

ended_as : (front : List (List ℕ)) (line : List ℕ) (old mid new : HostState) (was is : ℕ) (Before Writes : List ℕ → Type 0) → is ≡ min (was + 1) (2 ^ 64 - 1) → new.honest ≡ mid.honest
    → AreDoneAndCounted old mid was Before front → AreDone (front ++ line ∷ []) old new Writes → AreDoneAndCounted old new is Writes (front ++ line ∷ [])
ended_as front line old mid new was is Before Writes counted honest ended done = record {
  honest = honest ∙ ended.honest;
  counted = counted_next front line was is counted ended.counted;
  done = done;
}

pub ended_empty : (front : List (List ℕ)) (line : List ℕ) (old new : HostState) (was is : ℕ) (Writes : List ℕ → Type 0) → is ≡ min (was + 1) (2 ^ 64 - 1) → is_line_filled line ≡ false
    → AreDoneAndCounted old new was Writes front → AreDoneAndCounted old new is Writes (front ++ line ∷ [])
ended_empty front line old new was is Writes counted empty ended =
    ended_as front line old new new was is Writes Writes counted refl ended (done_empty front line old new Writes empty ended.done)

ended_line : (front : List (List ℕ)) (line : List ℕ) (old mid new : HostState) (was is : ℕ) (from before after : Option (List ℕ)) → is ≡ min (was + 1) (2 ^ 64 - 1)
    → is_line_filled line ≡ true → new.honest ≡ mid.honest → IsLineDone line mid new (Appends before after) → AreDoneAndCounted old mid was (Appends from before) front
    → AreDoneAndCounted old new is (Appends from after) (front ++ line ∷ [])
ended_line front line old mid new was is from before after counted full honest last ended =
    ended_as front line old mid new was is (Appends from before) (Appends from after) counted honest ended
    (done_line front line old mid new (Appends from before) (Appends before after) (Appends from after) (appends_both from before after) full ended.done last)

-- where nothing is said of what was written
done_unsaid : (lines : List (List ℕ)) (old new : HostState) (Writes : List ℕ → Type 0) → AreDone lines old new Writes → AreDone lines old new IsUnspecified
done_unsaid lines old new Writes done =
    record { calls = done.calls; answers = done.answers; read = done.read; answered = done.answered; exchanged = done.exchanged; written = tt }

-- a line that is bad, or at which the program stops for another cause
ended_stopped : (front : List (List ℕ)) (line : List ℕ) (old mid new : HostState) (was is : ℕ) (from before after : Option (List ℕ)) (stop : Stop) → is ≡ min (was + 1) (2 ^ 64 - 1)
    → is_line_filled line ≡ true
    → (is_none (parse_exchange line) ≡ true → (stop ≡ BadExchange is) × (new ≡ mid) × (after ≡ before))
    → (is_none (parse_exchange line) ≡ false → (stop ≡ OutputFault) × IsLineDone line mid new IsUnspecified)
    → AreDoneAndCounted old mid was (Appends from before) front → IsLineOutcome front line old (Err stop) new is (Appends from after)
ended_stopped front line old mid new was is from before after stop counted full bad good ended = elim (cases_Bool (is_none (parse_exchange line))) [
  | inl none ↦
      let so = bad none in
      let number : is ≡ line_count (length front + 1) = counted ∙ number_next was (length front) ended.counted in
      let is_so : is_bad line ≡ true = ap (λ (b : Bool). b && is_none (parse_exchange line)) full ∙ none in
      let done : AreDone front old new (Appends from after) =
      subst (λ (known : Option (List ℕ)). AreDone front old new (Appends from known)) (sym so.2)
      (subst (λ (host : HostState). AreDone front old host (Appends from before)) (sym so.1) ended.done) in
      subst (λ (s : Stop). IsLineOutcome front line old (Err s) new is (Appends from after)) (sym so.0) (is_so, number, done)
  | inr some ↦
      let so = good some in
      let done : AreDone (front ++ line ∷ []) old new IsUnspecified =
      done_line front line old mid new (Appends from before) IsUnspecified IsUnspecified (λ a b p q. tt) full ended.done so.1 in
      subst (λ (s : Stop). IsLineOutcome front line old (Err s) new is (Appends from after)) (sym so.0) (refl, done)
]

abbrev stop_in : Result Unit Stop → Stop
stop_in (Ok done) = NoMemory
stop_in (Err stop) = stop

-- whatever comes of the line
pub ended_so : (front : List (List ℕ)) (line : List ℕ) (old mid new : HostState) (was is : ℕ) (from before after : Option (List ℕ)) (result : Result Unit Stop) → is ≡ min (was + 1) (2 ^ 64 - 1)
    → is_line_filled line ≡ true → (is_none (parse_exchange line) ≡ true → result ≡ Err (BadExchange is)) → (is_none (parse_exchange line) ≡ true → new ≡ mid) → (is_none (parse_exchange line) ≡ true → after ≡ before)
    → (is_none (parse_exchange line) ≡ false → IfErr result (λ (stop : Stop). stop ≡ OutputFault)) → OnOk result (IsLineDone line mid new (Appends before after))
    → (is_none (parse_exchange line) ≡ false → IsLineDone line mid new IsUnspecified) → new.honest ≡ mid.honest
    → AreDoneAndCounted old mid was (Appends from before) front → IsLineOutcome front line old result new is (Appends from after)
ended_so front line old mid new was is from before after (Ok done) counted full bad bad_host bad_written good last performed honest ended =
    ended_line front line old mid new was is from before after counted full honest last ended
ended_so front line old mid new was is from before after (Err stop) counted full bad bad_host bad_written good last performed honest ended =
    ended_stopped front line old mid new was is from before after stop counted full (λ none. (ap stop_in (bad none), bad_host none, bad_written none))
    (λ some. (good some, performed some)) ended

-- ---- the whole input

stopped_there : (front lines others : List (List ℕ)) (line : List ℕ) (old new : HostState) (is : ℕ) (Writes : List ℕ → Type 0) (stop : Stop) → lines ≡ front ++ line ∷ others
    → IsLineOutcome front line old (Err stop) new is Writes → AreAsked lines old (Err stop) new Writes
stopped_there front lines others line old new is Writes (BadExchange number) cut ended =
    record { front = front; line = line; others = others; cut = cut; numbered = ended.1; holds = (ended.0, ended.2) }
stopped_there front lines others line old new is Writes OutputFault cut ended =
    record { front = front ++ line ∷ []; others = others; cut = cut ∙ sym (append_assoc front (line ∷ []) others); holds = ended.1 }
stopped_there front lines others line old new is Writes Usage cut ended = let is_so : Usage ≡ OutputFault = ended.0 in absurd cc
stopped_there front lines others line old new is Writes CannotRead cut ended = let is_so : CannotRead ≡ OutputFault = ended.0 in absurd cc
stopped_there front lines others line old new is Writes (BadConfig fault) cut ended = let is_so : BadConfig fault ≡ OutputFault = ended.0 in absurd cc
stopped_there front lines others line old new is Writes (BadPiece number) cut ended = let is_so : BadPiece number ≡ OutputFault = ended.0 in absurd cc
stopped_there front lines others line old new is Writes (TooManyConnections number) cut ended = let is_so : TooManyConnections number ≡ OutputFault = ended.0 in absurd cc
stopped_there front lines others line old new is Writes InputFault cut ended = let is_so : InputFault ≡ OutputFault = ended.0 in absurd cc
stopped_there front lines others line old new is Writes DeviceFault cut ended = let is_so : DeviceFault ≡ OutputFault = ended.0 in absurd cc
stopped_there front lines others line old new is Writes SocketFault cut ended = let is_so : SocketFault ≡ OutputFault = ended.0 in absurd cc
stopped_there front lines others line old new is Writes NoMemory cut ended = let is_so : NoMemory ≡ OutputFault = ended.0 in absurd cc

-- it stops at a line
pub asked_stopped : (known : Option (List ℕ)) (lines others : Option (List (List ℕ))) (line : List ℕ) (old mid new : HostState) (was is : ℕ) (Before Writes : List ℕ → Type 0) (stop : Stop)
    → IsNextLine lines (Ok true) line others → ((front : List (List ℕ)) → AreDoneAndCounted old mid was Before front → IsLineOutcome front line old (Err stop) new is Writes)
    → IsReadSoFar known lines (AreDoneAndCounted old mid was Before) → IfSome known (λ (input : List ℕ). AreAsked (lines_of input) old (Err stop) new Writes)
asked_stopped known lines others line old mid new was is Before Writes stop next goes so_far =
    read_to known lines others line (AreDoneAndCounted old mid was Before) (λ all. AreAsked all old (Err stop) new Writes) next
    (λ front rest all cut ended. stopped_there front all rest line old new is Writes stop cut (goes front ended)) so_far

-- there is no line more
pub asked_whole : (known : Option (List ℕ)) (lines others : Option (List (List ℕ))) (line : List ℕ) (old new : HostState) (count : ℕ) (Writes : List ℕ → Type 0)
    → IsNextLine lines (Ok false) line others → IsReadSoFar known lines (AreDoneAndCounted old new count Writes)
    → IfSome known (λ (input : List ℕ). AreAsked (lines_of input) old (Ok tt) new Writes)
asked_whole known lines others line old new count Writes next so_far =
    known_so known (λ (input : List ℕ). AreDoneAndCounted old new count Writes (lines_of input)) (λ (input : List ℕ). AreDone (lines_of input) old new Writes) (λ input ended. ended.done)
    (read_whole known lines others line (AreDoneAndCounted old new count Writes) next so_far)

-- the input is not read to its end: the lines that were read are done
begun_so : (lines : List (List ℕ)) (old new : HostState) (Writes : List ℕ → Type 0) (stop : Stop) → IsUnread stop → AreFirst lines (λ front. AreDone front old new Writes)
    → AreAsked lines old (Err stop) new Writes
begun_so lines old new Writes stop (inl is) begun = subst (λ (s : Stop). AreAsked lines old (Err s) new Writes) (sym is) begun
begun_so lines old new Writes stop (inr is) begun = subst (λ (s : Stop). AreAsked lines old (Err s) new Writes) (sym is) begun

pub asked_unread : (known : Option (List ℕ)) (lines : Option (List (List ℕ))) (old new : HostState) (count : ℕ) (Writes : List ℕ → Type 0) (stop : Stop) → IsUnread stop
    → IsReadSoFar known lines (AreDoneAndCounted old new count Writes) → IfSome known (λ (input : List ℕ). AreAsked (lines_of input) old (Err stop) new Writes)
asked_unread known lines old new count Writes stop cause so_far =
    read_front known lines (AreDoneAndCounted old new count Writes) (λ all. AreAsked all old (Err stop) new Writes)
    (λ front others all cut ended. begun_so all old new Writes stop cause (record { front = front; others = others; cut = cut; holds = ended.done })) so_far

-- nothing of it is read
pub asked_none : (known : Option (List ℕ)) (host : HostState) (written : Option (List ℕ)) (stop : Stop) → stop ≡ NoMemory
    → IfSome known (λ (input : List ℕ). AreAsked (lines_of input) host (Err stop) host (Appends written written))
asked_none known host written stop is =
    asked_unread known (left unread known) host host 0 (Appends written written) stop (inr is)
    (read_none known (AreDoneAndCounted host host 0 (Appends written written)) (ended_none host written))

-- ---- what was written is kept

done_kept : (lines : List (List ℕ)) (old new : HostState) (a b c : Option (List ℕ)) → Keeps b c → AreDone lines old new (Appends a b) → AreDone lines old new (Appends a c)
done_kept lines old new a b c kept done = record {
  calls = done.calls;
  answers = done.answers;
  read = done.read;
  answered = done.answered;
  exchanged = done.exchanged;
  written = appends_kept a b c (flat_map shown done.answers) done.written kept;
}

begun_kept : (lines : List (List ℕ)) (old new : HostState) (a b c : Option (List ℕ)) → Keeps b c → AreFirst lines (λ front. AreDone front old new (Appends a b))
    → AreFirst lines (λ front. AreDone front old new (Appends a c))
begun_kept lines old new a b c kept begun =
    record { front = begun.front; others = begun.others; cut = begun.cut; holds = done_kept begun.front old new a b c kept begun.holds }

kept_so : (lines : List (List ℕ)) (old new : HostState) (a b c : Option (List ℕ)) (result : Result Unit Stop) → Keeps b c → AreAsked lines old result new (Appends a b)
    → AreAsked lines old result new (Appends a c)
kept_so lines old new a b c (Ok done) kept asked = done_kept lines old new a b c kept asked
kept_so lines old new a b c (Err (BadExchange number)) kept asked = record {
  front = asked.front;
  line = asked.line;
  others = asked.others;
  cut = asked.cut;
  numbered = asked.numbered;
  holds = (asked.holds.0, done_kept asked.front old new a b c kept asked.holds.1);
}
kept_so lines old new a b c (Err OutputFault) kept asked = asked
kept_so lines old new a b c (Err Usage) kept asked = begun_kept lines old new a b c kept asked
kept_so lines old new a b c (Err CannotRead) kept asked = begun_kept lines old new a b c kept asked
kept_so lines old new a b c (Err (BadConfig fault)) kept asked = begun_kept lines old new a b c kept asked
kept_so lines old new a b c (Err (BadPiece number)) kept asked = begun_kept lines old new a b c kept asked
kept_so lines old new a b c (Err (TooManyConnections number)) kept asked = begun_kept lines old new a b c kept asked
kept_so lines old new a b c (Err InputFault) kept asked = begun_kept lines old new a b c kept asked
kept_so lines old new a b c (Err DeviceFault) kept asked = begun_kept lines old new a b c kept asked
kept_so lines old new a b c (Err SocketFault) kept asked = begun_kept lines old new a b c kept asked
kept_so lines old new a b c (Err NoMemory) kept asked = begun_kept lines old new a b c kept asked

-- what was asked is flushed
pub asked_kept : (known : Option (List ℕ)) (old new : HostState) (a b c : Option (List ℕ)) (result : Result Unit Stop) → Keeps b c
    → IfSome known (λ (input : List ℕ). AreAsked (lines_of input) old result new (Appends a b)) → IfSome known (λ (input : List ℕ). AreAsked (lines_of input) old result new (Appends a c))
asked_kept known old new a b c result kept asked =
    known_so known (λ (input : List ℕ). AreAsked (lines_of input) old result new (Appends a b)) (λ (input : List ℕ). AreAsked (lines_of input) old result new (Appends a c))
    (λ input so. kept_so (lines_of input) old new a b c result kept so) asked

-- where that fails the same lines were done, but nothing is said of what was written
first_unsaid : (lines : List (List ℕ)) (old new : HostState) (Writes : List ℕ → Type 0) → AreFirst lines (λ front. AreDone front old new Writes)
    → AreFirst lines (λ front. AreDone front old new IsUnspecified)
first_unsaid lines old new Writes begun =
    record { front = begun.front; others = begun.others; cut = begun.cut; holds = done_unsaid begun.front old new Writes begun.holds }

unsaid_so : (lines : List (List ℕ)) (old new : HostState) (Writes : List ℕ → Type 0) (result : Result Unit Stop) → AreAsked lines old result new Writes
    → AreFirst lines (λ front. AreDone front old new IsUnspecified)
unsaid_so lines old new Writes (Ok done) asked =
    record { front = lines; others = []; cut = sym (append-nil lines); holds = done_unsaid lines old new Writes asked }
unsaid_so lines old new Writes (Err (BadExchange number)) asked =
    record { front = asked.front; others = asked.line ∷ asked.others; cut = asked.cut; holds = done_unsaid asked.front old new Writes asked.holds.1 }
unsaid_so lines old new Writes (Err OutputFault) asked = asked
unsaid_so lines old new Writes (Err Usage) asked = first_unsaid lines old new Writes asked
unsaid_so lines old new Writes (Err CannotRead) asked = first_unsaid lines old new Writes asked
unsaid_so lines old new Writes (Err (BadConfig fault)) asked = first_unsaid lines old new Writes asked
unsaid_so lines old new Writes (Err (BadPiece number)) asked = first_unsaid lines old new Writes asked
unsaid_so lines old new Writes (Err (TooManyConnections number)) asked = first_unsaid lines old new Writes asked
unsaid_so lines old new Writes (Err InputFault) asked = first_unsaid lines old new Writes asked
unsaid_so lines old new Writes (Err DeviceFault) asked = first_unsaid lines old new Writes asked
unsaid_so lines old new Writes (Err SocketFault) asked = first_unsaid lines old new Writes asked
unsaid_so lines old new Writes (Err NoMemory) asked = first_unsaid lines old new Writes asked

pub asked_unwritten : (known : Option (List ℕ)) (old new : HostState) (Writes Others : List ℕ → Type 0) (result : Result Unit Stop)
    → IfSome known (λ (input : List ℕ). AreAsked (lines_of input) old result new Writes)
    → IfSome known (λ (input : List ℕ). AreAsked (lines_of input) old (Err OutputFault) new Others)
asked_unwritten known old new Writes Others result asked =
    known_so known (λ (input : List ℕ). AreAsked (lines_of input) old result new Writes) (λ (input : List ℕ). AreAsked (lines_of input) old (Err OutputFault) new Others)
    (λ input so. unsaid_so (lines_of input) old new Writes result so) asked
