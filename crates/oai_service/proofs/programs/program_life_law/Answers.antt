use Rattle.std.proofs.Common.{ℕ, List, Option, Some, None, IfSome, refl, subst, ◌≡◌}
use Rattle.oai_journal.specs.Changes.{IsUndamaged}
use Rattle.oai_journal.specs.Records.{Entry}
use Rattle.oai_service.proofs.programs.program_life_law.Goals as goal

-- where the bytes are known, they are those that were read
known_bytes : (held : Option (List ℕ)) (read : List ℕ) (first : Entry) (found : List Entry) → IfSome held (λ (file : List ℕ). read ≡ file) → IsUndamaged read first found
    → IfSome held (λ (file : List ℕ). IsUndamaged file first found)
known_bytes None read first found nothing whole = nothing
known_bytes (Some file) read first found same whole = subst (λ (bytes : List ℕ). IsUndamaged bytes first found) same whole

pub returns : goal.returns
returns g c = λ held text rings origin later result new lived left clean sound sound_end leaves.
    let begins = lived.begins clean in (
      lived.rules,
      begins.first,
      begins.found,
      known_bytes held _ begins.first begins.found lived.file begins.all,
      begins.fresh,
      record {
        begins = (begins.held, begins.writing, begins.unsynced);
        unlinked = lived.unlinked;
        none = lived.none;
        serves = lived.serves;
        rounds = refl;
        behind = refl;
        sound = sound;
        sound_end = sound_end;
        leaves = leaves;
      },
    )
