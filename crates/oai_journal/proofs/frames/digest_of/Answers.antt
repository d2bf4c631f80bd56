-- Writing one piece after another is writing both.
use Rattle.std.proofs.Common.{◌≡◌, ℕ, List, ◌++◌, rules}
use Rattle.std.specs.Int.{w64, to_le_bytes}
use Rattle.std.specs.Hash.DefaultHasher as sip
use Rattle.std.specs.declared.hash.DefaultHasher.{DefaultHasher}
use Rattle.std.proofs.lemmas.List.Sums.{fold-append}
use Rattle.sqlite_disk.specs.Digest.{digest}
use Rattle.oai_journal.proofs.frames.digest_of.Goals as goal

twice : (s : DefaultHasher) (a b : List ℕ) → sip.write s (a ++ b) ≡ sip.write (sip.write s a) b
unfolding sip.write
twice s a b = fold-append sip.write_byte s a b

pub returns : goal.returns
unfolding digest
returns c =
    let both = twice (sip.write sip.initial (to_le_bytes w64 c.args.before)) c.args.head.now c.args.body.now in
    rw both (search rules)
