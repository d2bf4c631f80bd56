-- Requests as plain data: this repository's own words.
use Rattle.std.specs.Prelude.{ℕ, ℤ, List, Option}
use Rattle.std.specs.Option.{option_copied}
use Rattle.oai_http.specs.declared.exchanges.Call.{Call}
use Rattle.oai_http.specs.declared.exchanges.Exchange.{Exchange}

-- what a message asks: its method, its target, the values of its first field Content-Type and of its first field
-- Authorization, and its body. Authorization: RFC 9110, section 11.6.2
pub record Asked : Type 0 where
  pub method : List ℕ
  pub target : List ℕ
  pub content_type : Option (List ℕ)
  pub authorization : Option (List ℕ)
  pub body : List ℕ

-- what an exchange asks
abbrev pub asked_by : Exchange → Asked
asked_by exchange = record {
  method = exchange.method.now;
  target = exchange.target;
  content_type = option_copied exchange.content_type;
  authorization = option_copied exchange.authorization;
  body = exchange.body.now;
}

-- what is asked at a moment, as a call: without the authorization
abbrev pub call_at : ℤ → Asked → Call
call_at moment asked = record {
  moment = moment;
  method = asked.method;
  target = asked.target;
  content_type = asked.content_type;
  body = asked.body;
}

-- an exchange that comes at that moment, without its authorization
abbrev pub call_of : ℤ → Exchange → Call
call_of moment exchange = record {
  moment = moment;
  method = exchange.method.now;
  target = exchange.target;
  content_type = option_copied exchange.content_type;
  body = exchange.body.now;
}
