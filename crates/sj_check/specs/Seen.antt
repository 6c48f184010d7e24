-- What spots and environments stand for, over the protocols and the parties of a file.
use Rattle.std.specs.Prelude.{ℕ, List}
use Rattle.sj_lang.specs.FileAt.{ProtocolAt, party_names}
use Rattle.sj_acceptance.specs.EnvAt.{EnvAt}
use Rattle.sj_check.specs.declared.tables.Protocols.{Protocols}
use Rattle.sj_check.specs.SpotEnv.{SpotEnv, places_at}
use Rattle.sj_check.specs.Views.{protocols_of, parties_of}

-- the protocols
abbrev pub defs_in : Protocols → List ProtocolAt
defs_in p = protocols_of p.defs.now

-- the names of the parties
abbrev pub names_in : Protocols → List ℕ
names_in p = party_names (parties_of p.parties.now)

-- the environment with places for spots
abbrev pub env_in : Protocols → SpotEnv → EnvAt
env_in p env = record { ends = places_at p.table env.spots; variables = env.variables }
