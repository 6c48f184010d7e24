-- The talk world: a plain world in which one party is played, and how the other parties act in it.
use Rattle.std.specs.Prelude.{◌≡◌, ◌⊎◌, ℕ, ◌*◌, List, [], ◌∷◌, length, Some}
use Rattle.sj_lang.specs.FileAt.{FileAt, party_names}
use Rattle.sj_semantics.specs.Program.{Program, limit_of_steps}
use Rattle.sj_semantics.specs.Run.{after_acts, rounds}
use Rattle.sj_semantics.specs.Uses.{altered_list}
use Rattle.sj_semantics.specs.Requests.{no_requests}
use Rattle.sj_semantics.specs.Value.{no_vars}
use Rattle.sj_semantics.specs.World.{World, start_of}
use Rattle.sj_semantics.specs.State.{verdict_of}
use Rattle.sj_semantics.specs.declared.Verdict.{Verdict}
use Rattle.sj_semantics.specs.declared.Verdict.TheVariants as verdicts
use Rattle.sj_talk.specs.Names.{Ends, connected_ends, shown_file, with_texts}

pub record TalkWorld : Type 0 where
  -- the file, with the texts that lines added
  pub file : FileAt
  -- the played party
  pub party : ℕ
  -- the plain world, in which the played party has no program
  pub world : World
  -- the ends that it holds, under their names
  pub ends : Ends
  -- how many lines were accepted
  pub lines : ℕ

-- ---- the start

-- no program among the parties of the file: nothing to do, no end, and no steps
abbrev pub no_program : FileAt → Program
no_program file = record { todo = []; vars = no_vars; ends = []; steps = 0; peers = party_names file.parties }

-- the start of the file, where that party has no program
abbrev pub world_without : FileAt → ℕ → World
world_without file p = record {
  protocols = file.protocols;
  parties = altered_list (start_of file).parties p (λ g. no_program file);
  sessions = (start_of file).sessions;
  requests = no_requests;
}

-- the start of the file, where the party is played and holds its connected ends
abbrev pub talk_start : FileAt → ℕ → TalkWorld
talk_start file p = record {
  file = shown_file file;
  party = p;
  world = world_without file p;
  ends = connected_ends file p;
  lines = 0;
}

-- ---- the other parties

-- the world after rounds of all parties, until nobody can act
unfoldable pub settled_from : World → World
settled_from w = rounds (limit_of_steps * length w.parties) w

-- the talk world with that plain world
abbrev pub with_world : TalkWorld → World → TalkWorld
with_world t w = record { file = t.file; party = t.party; world = w; ends = t.ends; lines = t.lines }

-- the other parties acted until none can
abbrev pub others_acted : TalkWorld → TalkWorld
others_acted t = with_world t (settled_from t.world)

-- the talk world with these texts
abbrev pub with_table : TalkWorld → List (List ℕ) → TalkWorld
with_table t texts = record { file = with_texts t.file texts; party = t.party; world = t.world; ends = t.ends; lines = t.lines }

-- some acts of other parties are done, and nothing else
pub record OnlyOthers (t u : TalkWorld) : Type 0 where
  pub acts : List ℕ
  pub leads : after_acts t.world acts ≡ Some u.world
  pub rest : u ≡ with_world t u.world

-- nothing is done, or these texts were put into the table, and nothing else
abbrev pub OnlyTexts : TalkWorld → List (List ℕ) → TalkWorld → Type 0
OnlyTexts t texts u = (u ≡ t) ⊎ (u ≡ with_table t texts)

-- ---- the end

-- done where all others are and the played party holds no end
abbrev pub verdict_holding : Ends → Verdict → Verdict
verdict_holding [] v = v
verdict_holding (b ∷ bs) verdicts.Long = verdicts.Long
verdict_holding (b ∷ bs) v = verdicts.Blocked

-- long where a party is at a limit, else blocked where one hasn't ended, an end is bound at the played one, or an opened session wasn't accepted, else done
abbrev pub talk_verdict : TalkWorld → Verdict
talk_verdict t = verdict_holding t.ends (verdict_of t.world)
