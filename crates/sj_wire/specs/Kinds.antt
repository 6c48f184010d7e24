-- The kinds of frames, their bytes and their versions.
use Rattle.std.specs.Prelude.{ℕ, ◌==◌, Option, Some, None, if◌then◌else◌}
use Rattle.sj_base.specs.declared.EndId.{EndId}
use Rattle.sj_rules.specs.Record as rules
use Rattle.sj_rules.specs.Record.{BodyAt, offered_end}
use Rattle.sj_wire.specs.Limits.{version, open_version}
use Rattle.sj_wire.specs.declared.kind.Kind.{Kind}
use Rattle.sj_wire.specs.declared.kind.Kind.TheVariants as kinds

-- the byte of a kind
abbrev pub code : Kind → ℕ
code kinds.Carry = 1
code kinds.Fin = 2
code kinds.Claim = 3
code kinds.Signal = 4
code kinds.Ack = 5
code kinds.Give = 6
code kinds.Open = 7

-- the version of its frames
abbrev pub version_of : Kind → ℕ
version_of kinds.Carry = version
version_of kinds.Fin = version
version_of kinds.Claim = version
version_of kinds.Signal = version
version_of kinds.Ack = version
version_of kinds.Give = version
version_of kinds.Open = open_version

-- the kind of a byte
abbrev pub kind_named : ℕ → Option Kind
kind_named b =
    if b == 1 then Some kinds.Carry
    else if b == 2 then Some kinds.Fin
    else if b == 3 then Some kinds.Claim
    else if b == 4 then Some kinds.Signal
    else if b == 5 then Some kinds.Ack
    else if b == 6 then Some kinds.Give
    else if b == 7 then Some kinds.Open
    else None

-- where frames of that version have it
abbrev pub of_version : (v : ℕ) → Option Kind → Option Kind
of_version v None = None
of_version v (Some k) = if version_of k == v then Some k else None

-- the kind of a byte after that version
abbrev pub kind_in : (v b : ℕ) → Option Kind
kind_in v b = of_version v (kind_named b)

-- the kind of a body
abbrev pub kind_of : {P : Type 0} → BodyAt P → Kind
kind_of (rules.Carry e conn n taken msg) = kinds.Carry
kind_of (rules.Fin e conn n) = kinds.Fin
kind_of (rules.Claim e) = kinds.Claim
kind_of (rules.Signal e conn party taken) = kinds.Signal
kind_of (rules.Ack e conn) = kinds.Ack
kind_of (rules.Give e r) = kinds.Give
kind_of (rules.Open sess) = kinds.Open

-- the end that a body names first; an Open that of its session which it offers
abbrev pub end_in : {P : Type 0} → BodyAt P → EndId
end_in (rules.Carry e conn n taken msg) = e
end_in (rules.Fin e conn n) = e
end_in (rules.Claim e) = e
end_in (rules.Signal e conn party taken) = e
end_in (rules.Ack e conn) = e
end_in (rules.Give e r) = e.id
end_in (rules.Open sess) = offered_end sess
