-- Lines of the log of a run in which b delegates an end to c, between two messages of a.
use Rattle.std.specs.Prelude.{◌≡◌, refl, ℕ, [], ◌∷◌, Some, None, pos, codes}
use Rattle.std.specs.Fmt.{digits}
use Rattle.sj_base.specs.declared.EndId.{EndId}
use Rattle.sj_base.specs.declared.Msg.TheVariants.{Int, Text, Sess}
use Rattle.sj_rules.specs.Log.{NoteAt, LineAt, Local, Sent, Shut, Carry, Fin, Signal, Give, Request, Accept, Open}
use Rattle.sj_rules.specs.World.{Act, Deliver}
use Rattle.sj_semantics_laws.specs.HandoverSamples.{delegation}
use Rattle.sj_print.specs.Version.{mark_of, version_of}
use Rattle.sj_print.specs.LogLine.{log_line, log_text}

-- an end by its session and side
abbrev pub end : ℕ → ℕ → EndId
end s d = record { sess = s; side = d }

-- the party's act at that time
abbrev pub did : ℕ → ℕ → NoteAt → LineAt
did clock party note = record { party = party; entry = record { clock = clock; event = Act; note = note } }

-- the frame that came to the party at that time
abbrev pub came : ℕ → ℕ → ℕ → NoteAt → LineAt
came clock party from note = record { party = party; entry = record { clock = clock; event = Deliver from; note = note } }

pub an_act_without_a_message : log_line delegation (did 1 0 Local) ≡ codes "1 a local\n"
unfolding digits
an_act_without_a_message = refl

pub an_end_is_sent : log_line delegation (did 7 1 (Sent (end 1 0) (Sess 0 1 1))) ≡ codes "7 b send 1.0 session 0.1 b\n"
unfolding digits
an_end_is_sent = refl

pub a_message_comes : log_line delegation (came 13 2 0 (Carry (end 0 1) 1 1 0 (Int (pos 2)))) ≡ codes "13 c from a carry 0.1 1 1 0 int 2\n"
unfolding digits
a_message_comes = refl

pub its_new_party_is_told : log_line delegation (came 12 0 1 (Signal (end 0 0) 0 2 1)) ≡ codes "12 a from b signal 0.0 0 c 1\n"
unfolding digits
its_new_party_is_told = refl

pub the_end_comes : log_line delegation (came 16 2 1 (Give (end 0 1) 1 0 0 1 0 None)) ≡ codes "16 c from b give 0.1 1 a 0 1 0 -\n"
unfolding digits
the_end_comes = refl

-- of a cache that was trimmed, where both ends moved at once
pub the_end_comes_and_resends : log_line delegation (came 17 2 1 (Give (end 0 1) 1 0 2 0 1 (Some 2))) ≡ codes "17 c from b give 0.1 1 a 2 0 1 2\n"
unfolding digits
the_end_comes_and_resends = refl

pub a_session_is_opened : log_line delegation (did 1 0 (Request 64 1)) ≡ codes "1 a request 64 b\n"
unfolding digits
a_session_is_opened = refl

pub it_comes : log_line delegation (came 2 1 0 (Open 64)) ≡ codes "2 b from a open 64\n"
unfolding digits
it_comes = refl

pub it_is_accepted : log_line delegation (did 5 1 (Accept 64 0)) ≡ codes "5 b accept 64 a\n"
unfolding digits
it_is_accepted = refl

-- a log has version 2 where a session is opened in it
pub openings_are_of_version_2 : mark_of (version_of (did 1 0 Local ∷ came 2 1 0 (Open 64) ∷ [])) ≡ codes "%%log2\n"
openings_are_of_version_2 = refl

pub others_are_of_version_1 : mark_of (version_of (did 1 0 Local ∷ [])) ≡ codes "%%log\n"
others_are_of_version_1 = refl

-- a party and a text that name nothing
pub what_names_nothing : log_line delegation (came 2 1 16 (Carry (end 0 1) 0 0 0 (Text 3))) ≡ codes "2 b from #16 carry 0.1 0 0 0 String #3\n"
unfolding digits
what_names_nothing = refl

-- lines stand one after the other
pub the_last_lines :
    log_text delegation (did 20 2 (Shut (end 1 1)) ∷ came 20 0 2 (Fin (end 0 0) 1 0) ∷ came 21 1 2 (Fin (end 1 0) 0 0) ∷ [])
    ≡ codes "20 c close 1.1\n20 a from c fin 0.0 1 0\n21 b from c fin 1.0 0 0\n"
unfolding digits
the_last_lines = refl
