-- What callers see of a source over a reader and a sink over a writer.
use Rattle.std.specs.Prelude.{ℕ, IsTrue}
use Rattle.sj_base.specs.declared.edge.ReadSource.{ReadSource}
use Rattle.sj_base.specs.declared.edge.WriteSink.{WriteSink}

-- how often it has failed
abbrev pub reader_faults : {R : Type 0} → ReadSource R → ℕ
reader_faults s = s.faults

-- the reader has answered 0
abbrev pub ReaderHasEnded : {R : Type 0} → ReadSource R → Type 0
ReaderHasEnded s = IsTrue s.at_end

-- how often it has failed
abbrev pub writer_faults : {W : Type 0} → WriteSink W → ℕ
writer_faults s = s.faults
