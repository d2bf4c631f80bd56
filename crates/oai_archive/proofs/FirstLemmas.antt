-- Configurations that are written without their caches.
use Rattle.std.proofs.Common.{◌≡◌, ◌≤◌, inr, ℕ, List, Option, Some, sym, ap, ◌∙◌, rules}
use Rattle.serde_json.specs.Data.{Data, depth, null}
use Rattle.serde_json.specs.Read.{max_depth, read}
use Rattle.serde_json.specs.View.{view}
use Rattle.serde_json.specs.declared.value.Value.{Null, the_lemmas}
use Rattle.oai_json.proofs.ReadingLemmas.{Some-injective}
use Rattle.oai_archive.specs.Firsts.{IsSameConfig, IsWrittenFor, but_cache}

pub view-Null : view Null ≡ null
view-Null = search (rules, the_lemmas)

-- what is read of a text is read of an equal value
pub read_again : (d e : Data) (found : Option Data) → d ≡ e → (depth d ≤ max_depth → found ≡ Some d) → depth e ≤ max_depth → found ≡ Some e
read_again d e found same reads shallow = reads (rw same shallow) ∙ ap Some same

-- two configurations for which the same is written are the same
pub same_written : (config text one other : List ℕ) → IsWrittenFor config one → IsWrittenFor text other → one ≡ other → IsSameConfig config text
same_written config text one other a b same =
    inr (a.0, b.0, a.1, b.1, λ d e. Some-injective (but_cache a.0) (but_cache b.0) (sym (a.2 d) ∙ ap read same ∙ b.2 e))
