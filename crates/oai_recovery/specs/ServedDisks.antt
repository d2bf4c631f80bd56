-- The disk of a journal that is served: of the one that was found, or of one that was begun. This repository's own.
use Rattle.std.specs.Prelude.{ℕ, Bool, List, IsTrue}
use Rattle.oai_recovery.specs.declared.origins.Origin.{Origin}
use Rattle.oai_recovery.specs.declared.origins.Origin.TheVariants as origin
use Rattle.oai_recovery.specs.declared.served_disks.ServedDisk.{ServedDisk}
use Rattle.oai_recovery.specs.declared.served_disks.ServedDisk.TheVariants.{Found, Begun}

-- what is said of the one, or of the other
abbrev pub of_either {ℓ} : {F B : Type 0} {X : Type ℓ} → (F → X) → (B → X) → ServedDisk F B → X
of_either found begun (Found disk) = found disk
of_either found begun (Begun disk) = begun disk

-- of two files, the one of a journal with that origin
abbrev pub file_of : {X : Type 0} → X → X → Origin → X
file_of found begun origin.Found = found
file_of found begun other = begun

-- a process that dies leaves what it had written to either
pub seen_stays : {F B : Type 0} (found : F → List ℕ) (begun : B → List ℕ) (found_left : F → List ℕ → Type 0) (begun_left : B → List ℕ → Type 0)
    → ((disk : F) → found_left disk (found disk)) → ((disk : B) → begun_left disk (begun disk))
    → (file : ServedDisk F B) → of_either found_left begun_left file (of_either found begun file)
seen_stays found begun found_left begun_left stays stay (Found disk) = stays disk
seen_stays found begun found_left begun_left stays stay (Begun disk) = stay disk

-- either is fair if it is clean
pub clean_is_fair : {F B : Type 0} (found_clean : F → Bool) (begun_clean : B → Bool) (found_fair : F → ℕ → Bool) (begun_fair : B → ℕ → Bool)
    → ((disk : F) (key : ℕ) → IsTrue (found_clean disk) → IsTrue (found_fair disk key)) → ((disk : B) (key : ℕ) → IsTrue (begun_clean disk) → IsTrue (begun_fair disk key))
    → (file : ServedDisk F B) (key : ℕ) → IsTrue (of_either found_clean begun_clean file) → IsTrue (of_either found_fair begun_fair file key)
clean_is_fair found_clean begun_clean found_fair begun_fair fair fairs (Found disk) key clean = fair disk key clean
clean_is_fair found_clean begun_clean found_fair begun_fair fair fairs (Begun disk) key clean = fairs disk key clean
