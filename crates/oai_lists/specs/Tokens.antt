-- Resumption tokens. OAI-PMH 2.0, section 3.5, leaves their form to the repository.
use Rattle.std.specs.Prelude.{◌≡◌, ◌<◌, ◌^◌, ℕ, Bool, ◌&&◌, ◌==◌, nat_lt, List, ◌∷◌, ◌++◌, decimal, Option, None, Some, if◌then◌else◌}
use Rattle.std.specs.List.{after_first, before_first}
use Rattle.std.specs.Str.{bytes_eq}
use Rattle.std.specs.Str.Parse.{digits_value}
use Rattle.oai_lists.specs.declared.tokens.Token.{Token}

-- the text of a token: the number of the list and the cursor, both decimal without leading zeros, and a full stop
-- between them
unfoldable pub token_text : Token → List ℕ
token_text token = decimal token.list ++ 46 ∷ decimal token.cursor

-- the text is the token's, whose numbers have 64 bits
pub record IsToken (text : List ℕ) (token : Token) : Type 0 where
  pub list : token.list < 2 ^ 64
  pub cursor : token.cursor < 2 ^ 64
  pub spelled : text ≡ token_text token

-- a full stop
abbrev pub is_full_stop : ℕ → Bool
is_full_stop b = b == 46

-- the numbers that the digits before and after the first full stop write
abbrev pub token_numbers : List ℕ → Token
token_numbers text = record {
  list = digits_value 10 (before_first is_full_stop text);
  cursor = digits_value 10 (after_first is_full_stop text);
}

-- the token of a text, if the text is that of its numbers, and these have 64 bits
unfoldable pub token_of : List ℕ → Option Token
token_of text =
    let token = token_numbers text in
    if bytes_eq (token_text token) text && nat_lt token.list (2 ^ 64) && nat_lt token.cursor (2 ^ 64) then Some token else None
