-- What one pass over the fields of a head keeps of them: RFC 9110, section 5.2. No definition of a message rests on it.
use Rattle.std.specs.Prelude.{◌≡◌, ℕ, nat_lt, List, length, codes, IfSome}
use Rattle.std.specs.Option.{option_map}
use Rattle.httparse.specs.Spans.{IsWithin, span_bytes}
use Rattle.oai_front.specs.Fields.{any_close, first_value, values_named}
use Rattle.oai_front.specs.declared.fields.FieldLines.{FieldLines}
use Rattle.oai_front.specs.declared.fields.HeadFields.{HeadFields}

-- what is kept of field lines with these values: the position of the first value in the bytes, and whether there are
-- more
pub record AreLines (bytes : List ℕ) (values : List (List ℕ)) (lines : FieldLines) : Type 0 where
  pub first : option_map (span_bytes bytes) lines.first ≡ first_value values
  pub within : IfSome lines.first (IsWithin (length bytes))
  pub repeated : lines.is_repeated ≡ nat_lt 1 (length values)

-- that is kept of the fields of a head
pub record AreRead (bytes : List ℕ) (fields : List (List ℕ × List ℕ)) (read : HeadFields) : Type 0 where
  pub host : AreLines bytes (values_named (codes "Host") fields) read.host
  pub transfer_encoding : AreLines bytes (values_named (codes "Transfer-Encoding") fields) read.transfer_encoding
  pub content_length : AreLines bytes (values_named (codes "Content-Length") fields) read.content_length
  pub content_type : AreLines bytes (values_named (codes "Content-Type") fields) read.content_type
  pub authorization : AreLines bytes (values_named (codes "Authorization") fields) read.authorization
  pub close : read.is_close ≡ any_close fields
