-- The parts of a document can be cut off what follows, in the order in which they are defined: metadata, headers and records.
use Rattle.std.proofs.Common.{◌≡◌, ℕ, Bool, true, false, ◌&&◌, eqb, cond, List, ◌++◌, map, get_or, drop, codes, refl}
use Rattle.std.specs.List.{list_all}
use Rattle.std.proofs.lemmas.Bool.{and_parts}
use Rattle.oai_names.proofs.Cuts.{Cuts, Next, any, anything, both, closed, of_part, pair, read_back, seen_as, where_good, where_same, without}
use Rattle.oai_time.specs.declared.granularity.Granularity.{Granularity}
use Rattle.oai_item.specs.Elements.{about_in, element_in}
use Rattle.oai_item.specs.Givens.{is_none_or_canonical}
use Rattle.oai_item.specs.Item.{ItemState}
use Rattle.oai_item.specs.declared.fields.Field.{Field}
use Rattle.oai_item.specs.declared.formats.Format.{Format}
use Rattle.oai_xml.specs.Documents.{is_canonical}
use Rattle.oai_xml.specs.Trees.{Tree, spelled}
use Rattle.oai_xml.proofs.TreeCuts.{tree_cut, tree_named}
use Rattle.oai_answers.specs.Documents.{header_element, header_start, metadata, record_content}
use Rattle.oai_answers.specs.Markup.{element, end_tag, plain, start_tag, text_element}
use Rattle.oai_answers.specs.MetadataTrees.{element_tree, metadata_tree}
use Rattle.oai_answers.specs.Seen.{header_seen}
use Rattle.oai_answers.proofs.ElementLemmas.{metadata_written}
use Rattle.oai_answers.proofs.PartCuts.{datestamp_cut, texts_cut}
use Rattle.oai_answers.proofs.Spelled.{containers_cut, element_cut, tag_at, text_element_cut}

-- what is true of every value is true of the good ones
pub freely : {A B : Type 0} {next : Next} {good : A → Bool} {write : A → List ℕ} {see : A → B} → Cuts next (λ a. true) write see → Cuts next good write see
freely c = where_good (λ a _. refl) c

-- ---- metadata

-- a format and fields
abbrev pub Content : Type 0
Content = Format × List Field

abbrev pub tree_of_content : Content → Tree
tree_of_content content = metadata_tree content.0 content.1

-- what is asked of a format and of fields, so that what is written of them can be cut off: the names in the tree of the record itself are names, and
-- an element that is kept as the record itself is in canonical text
abbrev pub is_plain_metadata : Content → Bool
is_plain_metadata content = tree_named (tree_of_content content) && is_none_or_canonical (element_in content.1)

-- and so are the elements about it
abbrev pub is_plain_content : Content → Bool
is_plain_content content = is_plain_metadata content && list_all is_canonical (about_in content.1)

trees_cut : Cuts anything tree_named spelled (λ (t : Tree). t)
trees_cut = record { cut = λ t u rest more gt gu nt nu same. tree_cut t u rest more gt gu same }

metadata_cut : Cuts anything is_plain_metadata (λ (c : Content). metadata c.0 c.1) tree_of_content
metadata_cut = where_same (of_part tree_of_content trees_cut) (λ c h.
    let parts = and_parts (tree_named (tree_of_content c)) (is_none_or_canonical (element_in c.1)) h in
    (parts.0, metadata_written c.0 c.1 parts.1, refl))

-- ---- what stands behind a header

abbrev pub content_seen : Content → Tree × List Tree
content_seen content = pair (tree_of_content content) (map element_tree (about_in content.1))

pub content_cut : Cuts (without (start_tag (codes "about"))) is_plain_content (λ (c : Content). record_content c.0 c.1) content_seen
unfolding record_content
content_cut =
    let inside = where_good (λ c h. (and_parts (is_plain_metadata c) (list_all is_canonical (about_in c.1)) h).0) (element_cut (codes "metadata") metadata_cut (λ rest. refl)) in
    let about = where_good (λ c h. (and_parts (is_plain_metadata c) (list_all is_canonical (about_in c.1)) h).1) (of_part (λ (c : Content). about_in c.1) (containers_cut (codes "about"))) in
    both inside about (λ c rest _ _. refl)

-- ---- headers

-- the start tag of a header, told by its eighth byte
abbrev read_live : List ℕ → Bool × List ℕ
read_live bytes = cond (eqb (get_or bytes 7 0) 62) (pair true (drop 8 bytes)) (pair false (drop 25 bytes))

live_back : (live : Bool) (rest : List ℕ) → read_live (header_start live ++ rest) ≡ pair live rest
unfolding plain
live_back true rest = refl
live_back false rest = refl

start_cut : Cuts anything any header_start (λ live. live)
start_cut = read_back read_live (λ live rest _ _. live_back live rest)

abbrev pub Dated : Type 0
Dated = Granularity × ItemState

pub header_cut : Cuts anything any (λ (p : Dated). header_element p.0 p.1) (λ p. header_seen p.0 p.1)
unfolding header_element text_element element start_tag end_tag plain
header_cut =
    let live = of_part (λ (p : Dated). p.1.live) start_cut in
    let identifier = both live (of_part (λ (p : Dated). p.1.identifier) (text_element_cut (codes "identifier"))) (λ p rest _ _. refl) in
    let stamp = both identifier (element_cut (codes "datestamp") (of_part (λ (p : Dated). pair p.0 p.1.stamp) datestamp_cut) (tag_at (codes "datestamp"))) (λ p rest _ _. refl) in
    let sets = both stamp (of_part (λ (p : Dated). p.1.sets) (texts_cut (codes "setSpec"))) (λ p rest _ _. refl) in
    seen_as (λ s. record { live = s.0.0.0; identifier = s.0.0.1; datestamp = s.0.1; sets = s.1 }) (closed (λ _. end_tag (codes "header")) sets (λ p rest _ _. refl))
