-- What callers see of a plain world.
use Rattle.std.specs.Prelude.{ℕ, List, length}
use Rattle.sj_base.specs.declared.EndId.{EndId}
use Rattle.sj_lang.specs.FileAt.{FileAt}
use Rattle.sj_semantics.specs.Ends.{EndAt, end_at}
use Rattle.sj_semantics.specs.World.{World}
use Rattle.sj_plain.specs.declared.plain.Plain.{Plain}
use Rattle.sj_plain.specs.Course.{acts_in, file_in, world_in}

-- the file that it is of, without its tables of words
abbrev pub kept_file : Plain → FileAt
kept_file p = file_in p

-- who acted so far, in order
abbrev pub acts_of : Plain → List ℕ
acts_of p = acts_in p

-- the parties, the sessions and the requests as those acts left them
abbrev pub world_at : Plain → World
world_at p = world_in p

-- how many parties there are
abbrev pub party_count : Plain → ℕ
party_count p = length (world_at p).parties

-- how many sessions there are, with those between them that aren't opened
abbrev pub session_count : Plain → ℕ
session_count p = length (world_at p).sessions

-- the end of that name
abbrev pub end_in : Plain → EndId → EndAt
end_in p e = end_at (world_at p).sessions e
