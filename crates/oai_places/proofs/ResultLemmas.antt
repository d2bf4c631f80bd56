-- What is so of the value of a call, or where it failed.
use Rattle.std.proofs.Common.{Result, Ok, Err, IfOk, OnErr, OnOk}

-- what is so of each value is so where there is one
pub if_ok_map : {A E : Type 0} (P Q : A → Type 0) (result : Result A E) → ((a : A) → P a → Q a) → IfOk result P → IfOk result Q
if_ok_map P Q (Ok a) so h = so a h
if_ok_map P Q (Err e) so h = tt

pub on_ok_from : {A E : Type 0} (P : A → Type 0) (Q : Type 0) (result : Result A E) → ((a : A) → P a → Q) → IfOk result P → OnOk result Q
on_ok_from P Q (Ok a) so h = so a h
on_ok_from P Q (Err e) so h = tt

-- what is so anyhow is so where a call failed
pub on_err_of : {A E : Type 0} (X : Type 0) (result : Result A E) → X → OnErr result X
on_err_of X (Ok a) x = tt
on_err_of X (Err e) x = x

pub on_err_map : {A E : Type 0} (X Y : Type 0) (result : Result A E) → (X → Y) → OnErr result X → OnErr result Y
on_err_map X Y (Ok a) so h = tt
on_err_map X Y (Err e) so h = so h
