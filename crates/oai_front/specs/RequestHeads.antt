-- What is kept of a request's head until its message is complete. No definition of a message rests on it.
use Rattle.std.specs.Prelude.{◌≡◌, ℕ, ◌<◌, nat_lt, if◌then◌else◌, List, length, codes, IfSome}
use Rattle.std.specs.Option.{option_map}
use Rattle.httparse.specs.Grammar.{RequestHead, print_request}
use Rattle.httparse.specs.Spans.{IsWithin, span_bytes}
use Rattle.oai_front.specs.Fields.{first_value, values_named}
use Rattle.oai_front.specs.Messages.{Begins, HasNoHead, IsFault, IsRefused, MayBegin, head_fields, framing_in}
use Rattle.oai_front.specs.declared.request_heads.HeadParse.{HeadParse}
use Rattle.oai_front.specs.declared.request_heads.HeadParse.TheVariants.{Unknown, Fault, Whole}
use Rattle.oai_front.specs.declared.request_heads.Head.{Head}
use Rattle.oai_front.specs.declared.request_heads.TheConstants.{MAX_HEAD_BYTES}
use Rattle.oai_http.specs.Targets.{parsed_path}
use Rattle.oai_http.specs.declared.statuses.Status.TheVariants.{BadRequest}
use Rattle.oai_front.specs.declared.framings.Framing.TheVariants.{Body}

-- the bytes begin with a head that is followed by a body, and this is what is kept of it
pub record IsHead (bytes : List ℕ) (kept : Head) : Type 0 where
  pub head : RequestHead
  pub behind : List ℕ
  pub begins : Begins bytes head behind
  pub framing : framing_in head ≡ Body kept.size kept.last
  pub start : kept.start ≡ length (print_request head)
  pub method_in : IsWithin (length bytes) kept.method
  pub method : span_bytes bytes kept.method ≡ head.method
  pub target_in : IsWithin (length bytes) kept.target
  pub target : span_bytes bytes kept.target ≡ head.target
  pub path : kept.path ≡ parsed_path head.target
  pub type_in : IfSome kept.content_type (IsWithin (length bytes))
  pub content_type : option_map (span_bytes bytes) kept.content_type
      ≡ first_value (values_named (codes "Content-Type") (head_fields head))
  pub key_in : IfSome kept.authorization (IsWithin (length bytes))
  pub authorization : option_map (span_bytes bytes) kept.authorization
      ≡ first_value (values_named (codes "Authorization") (head_fields head))

-- what the bytes begin with: no head yet, fewer bytes than one may have, and one may still begin; a fault; a head
abbrev pub IsHeadParse : List ℕ → HeadParse → Type 0
IsHeadParse bytes Unknown = HasNoHead bytes × (length bytes < MAX_HEAD_BYTES) × MayBegin bytes
IsHeadParse bytes (Fault status) = IsFault bytes status
IsHeadParse bytes (Whole head) = IsHead bytes head

-- the result for bytes in which no head was found
abbrev pub parse_unless_full : ℕ → List ℕ → HeadParse
parse_unless_full most bytes = if nat_lt (length bytes) most then Unknown else Fault BadRequest

-- the result for a head that was found
abbrev pub IsHeadResult : List ℕ → HeadParse → Type 0
IsHeadResult bytes Unknown = ⊥
IsHeadResult bytes (Fault status) = IsRefused bytes status
IsHeadResult bytes (Whole head) = IsHead bytes head
