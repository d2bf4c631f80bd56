-- Warnings: what in a configuration makes documents invalid by the schema of OAI-PMH, or is of no use to a harvester,
-- and their texts. The texts are this repository's own.
use Rattle.std.specs.Prelude.{ℕ, Bool, false, ◌==◌, ◌||◌, ◌&&◌, not, nat_lt, if◌then◌else◌, List, [], ◌∷◌, ◌++◌, length, take, codes}
use Rattle.std.specs.List.{flat_map, list_all, list_any, before_first, after_first}
use Rattle.std.specs.Char.{to_ascii_lowercase}
use Rattle.std.specs.Str.{bytes_eq}
use Rattle.oai_names.specs.Names.{is_colon, is_uri_byte, may_be_identifier}
use Rattle.oai_item.specs.Rules.{is_space}
use Rattle.oai_item.specs.declared.formats.Format.{Format}
use Rattle.oai_config.specs.Configs.{HostConfig, NamedConfig}

-- ---- what a value should be

-- a scheme of the Web (RFC 9110, sections 4.2.1 and 4.2.2), by which harvesters send requests (OAI-PMH 2.0, section
-- 3.1.1)
abbrev pub is_web_scheme : List ℕ → Bool
is_web_scheme scheme = bytes_eq scheme (codes "http") || bytes_eq scheme (codes "https")

-- two slashes, and one or more characters of a URI (RFC 3986, section 3.2)
unfoldable pub is_at_host : List ℕ → Bool
is_at_host text = nat_lt 2 (length text) && list_all is_uri_byte text && bytes_eq (take 2 text) (codes "//")

-- a URL of such a scheme: a base URL (OAI-PMH 2.0, section 3.1.1), and that of a schema (section 3.4)
unfoldable pub is_url : List ℕ → Bool
is_url text = is_web_scheme (before_first is_colon text) && is_at_host (after_first is_colon text)

-- there is white space in the text (XML 1.0, section 2.3)
abbrev pub has_space : List ℕ → Bool
has_space text = list_any is_space text

-- the byte is an at sign
abbrev pub is_at_sign : ℕ → Bool
is_at_sign b = b == 64

-- the byte is a dot
abbrev pub is_dot : ℕ → Bool
is_dot b = b == 46

-- there is something before the first dot, and after it
unfoldable pub has_two_parts : List ℕ → Bool
has_two_parts host = not (length (before_first is_dot host) == 0) && not (length (after_first is_dot host) == 0)

-- an address (OAI-PMH 2.0, section 4.2): a name, an at sign, and a host of two parts or more, without white space
unfoldable pub is_address : List ℕ → Bool
is_address text =
    not (has_space text) && not (length (before_first is_at_sign text) == 0) && has_two_parts (after_first is_at_sign text)

-- the namespace is none of those of XML (Namespaces in XML 1.0, section 3) and of OAI-PMH itself (OAI-PMH 2.0, section
-- 3.2)
abbrev pub is_unreserved_namespace : List ℕ → Bool
is_unreserved_namespace namespace =
    not (bytes_eq namespace (codes "http://www.w3.org/XML/1998/namespace"))
    && not (bytes_eq namespace (codes "http://www.w3.org/2000/xmlns/"))
    && not (bytes_eq namespace (codes "http://www.openarchives.org/OAI/2.0/"))

-- the name begins with (X|x)(M|m)(L|l), which is reserved for XML itself (XML 1.0, section 2.3)
unfoldable pub is_xml_name : List ℕ → Bool
is_xml_name (x ∷ m ∷ l ∷ name) = to_ascii_lowercase x == 120 && to_ascii_lowercase m == 109 && to_ascii_lowercase l == 108
is_xml_name name = false

-- ---- the warnings

-- the kind of a thing, and its name
unfoldable pub named : List ℕ → List ℕ → List ℕ
named what name = what ++ name ++ codes ": "

-- a line
unfoldable pub text_line : List ℕ → List ℕ
text_line text = text ++ codes "\n"

-- a line about a repository
unfoldable pub warning : List ℕ → List ℕ → List ℕ
warning name what = named (codes "warning: repository ") name ++ text_line what

-- a line about a format of a repository
unfoldable pub format_warning : List ℕ → List ℕ → List ℕ → List ℕ
format_warning name prefix what = named (codes "warning: repository ") name ++ named (codes "format ") prefix ++ text_line what

-- the line, unless the test passes
abbrev pub warning_unless : Bool → List ℕ → List ℕ → List ℕ
warning_unless passes name what = if passes then [] else warning name what

-- the same, of a format
abbrev pub format_warning_unless : Bool → List ℕ → Format → List ℕ → List ℕ
format_warning_unless passes name format what = if passes then [] else format_warning name format.prefix what

-- of an address
abbrev pub address_warning : List ℕ → List ℕ → List ℕ
address_warning name address = warning_unless (is_address address) name (codes "adminEmail is no address")

-- of a namespace (OAI-PMH 2.0, section 3.4)
unfoldable pub namespace_warnings : List ℕ → Format → List ℕ
namespace_warnings name format =
    format_warning_unless (may_be_identifier format.namespace) name format (codes "namespace is no URI")
    ++ format_warning_unless (is_unreserved_namespace format.namespace) name format (codes "namespace is kept for others")

-- of a format: its schema (OAI-PMH 2.0, section 3.4), its namespace, and the name of its root
unfoldable pub format_warnings : List ℕ → Format → List ℕ
format_warnings name format =
    format_warning_unless (is_url format.schema) name format (codes "schema is no URL")
    ++ namespace_warnings name format
    ++ format_warning_unless (not (is_xml_name format.root)) name format (codes "root begins with xml")

-- of a repository: its base URL, its addresses and its formats, in their order
unfoldable pub repository_warnings : NamedConfig → List ℕ
repository_warnings entry =
    warning_unless (is_url entry.config.base) entry.name (codes "base URL is no URL")
    ++ flat_map (address_warning entry.name) entry.config.addresses
    ++ flat_map (format_warnings entry.name) entry.config.formats

-- of a configuration: of its repositories, in their order
abbrev pub warnings_of : HostConfig → List ℕ
warnings_of config = flat_map repository_warnings config.repositories
