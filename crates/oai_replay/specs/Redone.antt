-- Exchanges that are replayed, in terms of a handler's state: this repository's own.
use Rattle.std.specs.Prelude.{ℕ, ℤ, Bool, ◌&&◌, nat_le, List, [], ◌∷◌, ◌++◌, codes, length, take, Option, None, Some}
use Rattle.std.specs.List.{list_all}
use Rattle.oai_http.specs.Targets.{front_of}
use Rattle.oai_http.specs.declared.exchanges.Call.{Call}
use Rattle.oai_replay.specs.declared.replays.Performed.{Performed}
use Rattle.oai_http.specs.declared.targets.Endpoint.{Endpoint}
use Rattle.oai_http.specs.declared.targets.Endpoint.TheVariants.{Deposits, Requests}

-- the call with that many of the first bytes of its body
abbrev pub call_front : Call → ℕ → Call
call_front call size = record call { body = take size call.body }

-- a name of at most 32 visible ASCII characters
abbrev pub is_short_name : List ℕ → Bool
is_short_name name = list_all (λ (b : ℕ). nat_le 33 b && nat_le b 126) name && nat_le (length name) 32

-- the call of a repository that makes a request with these arguments, or deposits these lines
abbrev pub own_call : ℤ → Endpoint → List ℕ → List ℕ → Call
own_call moment Requests name arguments = record {
  moment = moment;
  method = codes "GET";
  target = front_of Requests ++ (name ++ 63 ∷ arguments);
  content_type = None;
  body = [];
}
own_call moment Deposits name lines = record {
  moment = moment;
  method = codes "POST";
  target = front_of Deposits ++ name;
  content_type = None;
  body = lines;
}

abbrev pub call_again : ℤ → Performed → Call
call_again moment performed = own_call moment performed.endpoint performed.name.now performed.bytes.now

-- the state after replaying what was performed, or nothing
abbrev pub left_again : {K : Type 0} → (K → Call → K) → K → ℤ → Option Performed → K
left_again redone kept moment None = kept
left_again redone kept moment (Some performed) = redone kept (call_again moment performed)
