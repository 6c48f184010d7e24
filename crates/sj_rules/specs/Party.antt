-- A party's program as the rules play it.
use Rattle.std.specs.Prelude.{◌≡◌, ℕ, nat_lt, Bool, false, not, List, [], length, Option, Some, None}
use Rattle.std.specs.List.{list_any}
use Rattle.sj_base.specs.declared.EndId.{EndId}
use Rattle.sj_base.specs.declared.Msg.{Msg}
use Rattle.sj_lang.specs.Place.{Place, done}
use Rattle.sj_lang.specs.Dual.{dual_of}
use Rattle.sj_lang.specs.After.{after_place}
use Rattle.sj_lang.specs.FileAt.{FileAt, ProtocolAt, body_named, named}
use Rattle.sj_lang.specs.ItemCount.{is_done}
use Rattle.sj_semantics.specs.declared.Want.TheVariants as plain
use Rattle.sj_semantics.specs.declared.Want as step_of
use Rattle.sj_semantics.specs.declared.Awaits.{Awaits}
use Rattle.sj_semantics.specs.declared.Awaits.TheVariants as awaits
use Rattle.sj_semantics.specs.Value.{no_vars}
use Rattle.sj_semantics.specs.Program.{Program}
use Rattle.sj_semantics.specs.Wants.{want_of}
use Rattle.sj_semantics.specs.Fitting.{fits}
use Rattle.sj_semantics.specs.Steps.{local_of, sent_of, took_of, closed_of, opened_of}
use Rattle.sj_rules.specs.Limits.{limit_of_steps}
use Rattle.sj_rules.specs.Record.{is_same_end}
use Rattle.sj_rules.specs.Node.{Want, ended, local, sends, delegates, takes, closes, requests, accepts, Play}

-- a party that the file doesn't have: nothing to do
abbrev pub nobody : Program
nobody = record { todo = []; vars = no_vars; ends = []; steps = 0; peers = [] }

-- the place that an end taken by the statement gets: the body of the protocol that it names
abbrev pub place_awaited : List ProtocolAt → Awaits → Place
place_awaited ps (awaits.Session q) = body_named ps q
place_awaited ps (awaits.Value k) = done
place_awaited ps awaits.OneOf = done
place_awaited ps awaits.MoreOrStop = done

-- the next step, with the place that an end taken, opened or accepted there gets
abbrev pub want_for : List ProtocolAt → step_of.Want → Want Place
want_for ps plain.Ended = ended
want_for ps plain.Local = local
want_for ps (plain.Send e m) = sends e m
want_for ps (plain.Delegate e y) = delegates e y
want_for ps (plain.Take e a) = takes e (place_awaited ps a)
want_for ps (plain.Close e) = closes e
want_for ps (plain.Request q to) = requests (body_named ps q) to
want_for ps (plain.Accept q from) = accepts (body_named ps q) from

-- a program that is stuck counts as ended
abbrev pub want_or_ended : List ProtocolAt → Option step_of.Want → Want Place
want_or_ended ps None = ended
want_or_ended ps (Some want) = want_for ps want

-- the program after a step that takes and opens nothing
abbrev pub after_step : Program → Option step_of.Want → Program
after_step g (Some plain.Local) = local_of g
after_step g (Some (plain.Send e m)) = sent_of g
after_step g (Some (plain.Delegate e y)) = sent_of g
after_step g (Some (plain.Close e)) = closed_of g
after_step g (Some (plain.Take e a)) = g
after_step g (Some (plain.Request q to)) = g
after_step g (Some (plain.Accept q from)) = g
after_step g (Some plain.Ended) = g
after_step g None = g

-- the program after its step, which took the message where there is one
abbrev pub program_after : Program → Option Msg → Program
program_after g (Some m) = took_of g m
program_after g None = after_step g (want_of g)

-- nothing is ahead
abbrev pub IsDone : Place → Type 0
IsDone p = p ≡ done

-- places and programs of a file with so many parties and these protocols
abbrev pub play_for : (parties : ℕ) → List ProtocolAt → Play Place Program
play_for parties ps = record {
  next = after_place;
  is_over = is_done;
  blank = done;
  dual = dual_of;
  wants = λ g. want_or_ended ps (want_of g);
  goes = program_after;
  opened = opened_of;
  fits = fits;
  is_worn = λ g. not (nat_lt g.steps limit_of_steps);
  parties = parties;
}

-- of that file
abbrev pub play_of : FileAt → Play Place Program
play_of file = play_for (length file.parties) file.protocols

-- what stands under a name is the end
abbrev pub is_the_end : EndId → Option EndId → Bool
is_the_end e None = false
is_the_end e (Some f) = is_same_end f e

-- a name of the program stands for the end
abbrev pub binds : Program → EndId → Bool
binds g e = list_any (λ b. is_the_end e (named g.ends b.0)) g.ends
