-- What is read in parts: what is made of three parts, or of four, and a part that is refused.
use Rattle.std.proofs.Common.{◌≡◌, Option, Some, None, Err, refl}
use Rattle.oai_names.specs.Optional.{◌>>=◌}
use Rattle.oai_config.specs.declared.faults.ReadFault.{ReadFault}
use Rattle.oai_config.specs.declared.faults.ReadFault.TheVariants.{BadJson, BadShape, BadName, DuplicateName, BadFormat, BadDate, BadNumber, TooMany, NoMemory}
use Rattle.oai_config.specs.ReadingWork.{GivesRead, GivesView}

-- made of three parts, none of which is missing
abbrev pub of_three : {A B C D : Type 0} → (A → B → C → D) → Option A → Option B → Option C → Option D
of_three make a b c = do
  x ← a
  y ← b
  z ← c
  Some (make x y z)

pub first_missing : {A B C D : Type 0} (make : A → B → C → D) (b : Option B) (c : Option C) (a : Option A) → a ≡ None → of_three make a b c ≡ None
first_missing make b c a is = rw is refl

pub second_missing : {A B C D : Type 0} (make : A → B → C → D) (a : Option A) (c : Option C) (b : Option B) → b ≡ None → of_three make a b c ≡ None
second_missing make None c b is = refl
second_missing make (Some x) c b is = rw is refl

pub none_missing : {A B C D : Type 0} (make : A → B → C → D) (a : Option A) (b : Option B) (c : Option C) (x : A) (y : B) (z : C)
    → a ≡ Some x → b ≡ Some y → c ≡ Some z → of_three make a b c ≡ Some (make x y z)
none_missing make a b c x y z first second third = rw (first, second, third) refl

-- made of four parts, none of which is missing
abbrev pub of_four : {A B C D E : Type 0} → (A → B → C → D → E) → Option A → Option B → Option C → Option D → Option E
of_four make a b c d = do
  x ← a
  y ← b
  z ← c
  w ← d
  Some (make x y z w)

pub first_left_out : {A B C D E : Type 0} (make : A → B → C → D → E) (b : Option B) (c : Option C) (d : Option D) (a : Option A) → a ≡ None → of_four make a b c d ≡ None
first_left_out make b c d a is = rw is refl

pub second_left_out : {A B C D E : Type 0} (make : A → B → C → D → E) (a : Option A) (c : Option C) (d : Option D) (b : Option B) → b ≡ None → of_four make a b c d ≡ None
second_left_out make None c d b is = refl
second_left_out make (Some x) c d b is = rw is refl

pub third_left_out : {A B C D E : Type 0} (make : A → B → C → D → E) (a : Option A) (b : Option B) (d : Option D) (c : Option C) → c ≡ None → of_four make a b c d ≡ None
third_left_out make None b d c is = refl
third_left_out make (Some x) None d c is = refl
third_left_out make (Some x) (Some y) d c is = rw is refl

pub fourth_left_out : {A B C D E : Type 0} (make : A → B → C → D → E) (a : Option A) (b : Option B) (c : Option C) (d : Option D) → d ≡ None → of_four make a b c d ≡ None
fourth_left_out make None b c d is = refl
fourth_left_out make (Some x) None c d is = refl
fourth_left_out make (Some x) (Some y) None d is = refl
fourth_left_out make (Some x) (Some y) (Some z) d is = rw is refl

pub none_left_out : {A B C D E : Type 0} (make : A → B → C → D → E) (a : Option A) (b : Option B) (c : Option C) (d : Option D) (x : A) (y : B) (z : C) (w : D)
    → a ≡ Some x → b ≡ Some y → c ≡ Some z → d ≡ Some w → of_four make a b c d ≡ Some (make x y z w)
none_left_out make a b c d x y z w first second third fourth = rw (first, second, third, fourth) refl

-- a part was refused, and with it the whole
pub refused_read : {A B : Type 0} (fault : ReadFault) (part : Option A) (whole : Option B) → (part ≡ None → whole ≡ None)
    → GivesRead {A = A} (Err fault) part → GivesRead {A = B} (Err fault) whole
refused_read BadShape part whole none is = none is
refused_read NoMemory part whole none is = tt
refused_read BadJson part whole none is = absurd is
refused_read BadName part whole none is = absurd is
refused_read DuplicateName part whole none is = absurd is
refused_read BadFormat part whole none is = absurd is
refused_read BadDate part whole none is = absurd is
refused_read BadNumber part whole none is = absurd is
refused_read TooMany part whole none is = absurd is

-- also one that takes no memory
pub refused_view : {A B C : Type 0} (view : A → B) (fault : ReadFault) (part : Option B) (whole : Option C) → (part ≡ None → whole ≡ None)
    → GivesView view (Err fault) part → GivesRead {A = C} (Err fault) whole
refused_view view BadShape part whole none is = none is
refused_view view NoMemory part whole none is = absurd is
refused_view view BadJson part whole none is = absurd is
refused_view view BadName part whole none is = absurd is
refused_view view DuplicateName part whole none is = absurd is
refused_view view BadFormat part whole none is = absurd is
refused_view view BadDate part whole none is = absurd is
refused_view view BadNumber part whole none is = absurd is
refused_view view TooMany part whole none is = absurd is
