-- What follows on an Ok or an Err.
use Rattle.std.proofs.Common.{Result, Ok, Err}
use Rattle.std.specs.Prelude.{OnErr}
use Rattle.std.specs.Result.{OnOk}

pub on_ok : {T E P R : Type 0} → (r : Result T E) → (P → R) → OnOk r P → OnOk r R
on_ok (Ok x) f h = f h
on_ok (Err e) f h = h

pub on_err : {T E P R : Type 0} → (r : Result T E) → (P → R) → OnErr r P → OnErr r R
on_err (Ok x) f h = h
on_err (Err e) f h = f h

pub or_err : {T E P : Type 0} → (r : Result T E) → P → OnErr r P
or_err (Ok x) h = tt
or_err (Err e) h = h
