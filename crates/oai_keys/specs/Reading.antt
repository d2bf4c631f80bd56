-- The keys of a host's depositors in a text: a JSON object (RFC 8259, sections 3 to 7) whose members are this
-- repository's own; or its first fault.
use Rattle.std.specs.Prelude.{◌≡◌, ℕ, Bool, false, not, nat_lt, if◌then◌else◌, List, [], ◌∷◌, ◌++◌, codes, length, Option, None, Some, is_none, Result, Ok, Err}
use Rattle.std.specs.List.{find, list_any}
use Rattle.std.specs.Str.{bytes_eq}
use Rattle.hex.specs.Hex.{decode_sized}
use Rattle.serde_json.specs.Data.{Data}
use Rattle.serde_json.specs.Find.{as_str}
use Rattle.oai_names.specs.Optional.{◌>>=◌, each_of, tested}
use Rattle.oai_json.specs.Json.{TakesMemory, elements_at, has_members, json_in, text_at}
use Rattle.oai_config.specs.Configs.{NamedConfig}
use Rattle.oai_keys.specs.declared.faults.KeysFault.{KeysFault}
use Rattle.oai_keys.specs.declared.faults.KeysFault.TheVariants.{BadJson, BadShape, NoMemory, NoRepository, TooMany, Twice}
use Rattle.oai_keys.specs.declared.rings.Ring.{Ring}

-- ---- the shape

-- what decoding gives, if it gives anything
abbrev pub decoded : {F : Type 0} → Result (List ℕ) F → Option (List ℕ)
decoded (Ok bytes) = Some bytes
decoded (Err fault) = None

-- a digest: the 32 bytes of 64 hex digits, in either case (FIPS 180-4, section 6.2)
abbrev pub digest_of : List ℕ → Option (List ℕ)
digest_of text = decoded (decode_sized text 32)

unfoldable pub digest_in : Data → Option (List ℕ)
digest_in d = as_str d >>= digest_of

-- digests, from the member `digests`
unfoldable pub digests_at : Data → Option (List (List ℕ))
digests_at d = elements_at (codes "digests") d >>= each_of digest_in

-- the name of a repository and the digests of its keys, from these members
abbrev pub ring_from : Data → Option Ring
ring_from d = do
  name ← text_at (codes "name") d
  digests ← digests_at d
  Some (record { name = name; digests = digests })

-- {"name":NAME,"digests":[DIGEST,..]}, and no other member
unfoldable pub ring_in : Data → Option Ring
ring_in d = tested (has_members (codes "name" ∷ codes "digests" ∷ [])) d >>= ring_from

-- {"keys":[RING,..]}, and no other member
abbrev pub rings_from : Data → Option (List Ring)
rings_from d = elements_at (codes "keys") d >>= each_of ring_in

unfoldable pub rings_of : Data → Option (List Ring)
rings_of d = tested (has_members (codes "keys" ∷ [])) d >>= rings_from

-- the rings in a text
abbrev pub rings_in : List ℕ → Option (List Ring)
rings_in text = json_in text >>= rings_of

-- ---- the faults of rings

-- one has that name
abbrev pub has_ring : List Ring → List ℕ → Bool
has_ring rings name = list_any (λ (ring : Ring). bytes_eq ring.name name) rings

-- none of the repositories has its name
abbrev pub is_unknown : List NamedConfig → Ring → Bool
is_unknown repositories ring = not (list_any (λ (entry : NamedConfig). bytes_eq ring.name entry.name) repositories)

-- the first one whose name a later one has
abbrev pub first_twice : List Ring → Option Ring
first_twice [] = None
first_twice (ring ∷ rings) = if has_ring rings ring.name then Some ring else first_twice rings

-- it has more than 16 digests
abbrev pub is_too_long : Ring → Bool
is_too_long ring = nat_lt 16 (length ring.digests)

-- the first fault, of the first ring that has it
abbrev pub first_fault : Option Ring → Option Ring → Option Ring → Option KeysFault
first_fault (Some ring) twice long = Some (NoRepository ring.name)
first_fault None (Some ring) long = Some (Twice ring.name)
first_fault None None (Some ring) = Some (TooMany ring.name)
first_fault None None None = None

unfoldable pub rings_fault : List NamedConfig → List Ring → Option KeysFault
rings_fault repositories rings = first_fault (find (is_unknown repositories) rings) (first_twice rings) (find is_too_long rings)

-- ---- the result of reading

-- the result of reading a text for these repositories: the rings, or the first fault. Out of memory is possible for a
-- text in UTF-8 that is not empty
abbrev pub AreKeys : List NamedConfig → List ℕ → Result (List Ring) KeysFault → Type 0
AreKeys repositories text (Ok rings) = (rings_in text ≡ Some rings) × (rings_fault repositories rings ≡ None)
AreKeys repositories text (Err BadJson) = json_in text ≡ None
AreKeys repositories text (Err BadShape) = (is_none (json_in text) ≡ false) × (rings_in text ≡ None)
AreKeys repositories text (Err NoMemory) = TakesMemory text
AreKeys repositories text (Err fault) = (rings : List Ring) × (rings_in text ≡ Some rings) × (rings_fault repositories rings ≡ Some fault)

-- the message of a fault
abbrev pub keys_fault_text : KeysFault → List ℕ
keys_fault_text BadJson = codes "keys: bad JSON"
keys_fault_text BadShape = codes "keys: bad shape"
keys_fault_text (NoRepository name) = codes "keys: no repository: " ++ name
keys_fault_text (Twice name) = codes "keys: twice: " ++ name
keys_fault_text (TooMany name) = codes "keys: too many: " ++ name
keys_fault_text NoMemory = codes "out of memory"
