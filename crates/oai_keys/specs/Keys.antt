-- The key of a message, and which messages are admitted: RFC 9110, sections 11.1, 11.4 and 11.6.2; RFC 6750, section
-- 2.1; FIPS 180-4, section 6.2. White space is what the grammar of `httparse` takes for it.
use Rattle.std.specs.Prelude.{ℕ, Bool, false, ◌==◌, ◌||◌, not, List, codes, length, map, Option, None, Some}
use Rattle.std.specs.Char.{to_ascii_lowercase}
use Rattle.std.specs.List.{after_first, before_first, list_all, list_any}
use Rattle.std.specs.Str.{bytes_eq}
use Rattle.httparse.specs.Grammar.{is_ows, trim_ows}
use Rattle.sha2.specs.Sha256.{sha256}
use Rattle.oai_names.specs.Optional.{◌>>=◌, tested}
use Rattle.oai_http.specs.Exchanges.{Asked}
use Rattle.oai_http.specs.Targets.{leads_to}
use Rattle.oai_http.specs.declared.targets.Endpoint.TheVariants.{Deposits}
use Rattle.oai_keys.specs.declared.rings.Ring.{Ring}

-- ---- the key of a message

-- the scheme of credentials, and what follows it: RFC 9110, section 11.4
abbrev pub scheme_of : List ℕ → List ℕ
scheme_of credentials = before_first is_ows credentials

abbrev pub bearer_token : List ℕ → List ℕ
bearer_token credentials = trim_ows (after_first is_ows credentials)

-- the scheme is that of RFC 6750, section 2.1; its case does not matter: RFC 9110, section 11.1
abbrev pub is_bearer : List ℕ → Bool
is_bearer scheme = bytes_eq (map to_ascii_lowercase scheme) (codes "bearer")

-- the text is not empty
abbrev pub is_some_text : List ℕ → Bool
is_some_text text = not (length text == 0)

-- the key in credentials: what follows the scheme, if that is Bearer and this is not empty
unfoldable pub key_in : List ℕ → Option (List ℕ)
key_in credentials = tested (λ c. is_bearer (scheme_of c)) credentials >>= λ c. tested is_some_text (bearer_token c)

-- the key of a message: that in the value of its first field Authorization, without white space around it (RFC 9110,
-- sections 5.5 and 11.6.2)
abbrev pub bearer_key : Option (List ℕ) → Option (List ℕ)
bearer_key authorization = authorization >>= λ value. key_in (trim_ows value)

-- ---- messages that are admitted

-- it is a key, and its digest is one of these: FIPS 180-4, section 6.2
abbrev pub has_key : List (List ℕ) → Option (List ℕ) → Bool
has_key digests None = false
has_key digests (Some key) = list_any (bytes_eq (sha256 key)) digests

-- the repository of the ring allows the message: it is no deposit into it, or has one of its keys
abbrev pub ring_allows : Asked → Ring → Bool
ring_allows asked ring = not (leads_to Deposits ring.name asked.target) || has_key ring.digests (bearer_key asked.authorization)

-- each of them does
unfoldable pub is_admitted : List Ring → Asked → Bool
is_admitted rings asked = list_all (ring_allows asked) rings
