-- A party that goes by the file acts in the play with seats as it does in the file's.
use Rattle.std.proofs.Common.{◌≡◌, ℕ, ◌+◌, nat_lt, Bool, true, false, ◌&&◌, cond, List, [], ◌∷◌, Option, Some, None, option_map, refl, ap, ◌∙◌}
use Rattle.sj_base.specs.declared.EndId.{EndId}
use Rattle.sj_base.specs.declared.Msg.{Msg}
use Rattle.sj_base.specs.declared.Msg.TheVariants as msgs
use Rattle.sj_lang.specs.declared.proto.Way.TheVariants.{Into, Out}
use Rattle.sj_lang.specs.FileAt.{FileAt}
use Rattle.sj_lang.specs.Place.{Place}
use Rattle.sj_rules.specs.Limits.{limit_of_requests}
use Rattle.sj_rules.specs.Log.{act_note}
use Rattle.sj_rules.specs.Node as wanted
use Rattle.sj_rules.specs.Node.{NodeAt, Want, accept_offered, accept_session, act_by, acts, close_act, delegate_act, held_behind_take, is_free, put, send_act, take_act, take_from, with_main, with_old, work_of_take}
use Rattle.sj_rules.specs.Opened.{smallest}
use Rattle.sj_rules.specs.Party.{play_of}
use Rattle.sj_rules.specs.Record.{Closed, Expected, Held, HeldAt, MainAt, Parked, offered_end}
use Rattle.sj_rules.specs.Rows.{Worked}
use Rattle.sj_seat_laws.specs.SeatedPlay.{Player, seated_play, written}
use Rattle.sj_seat_laws.specs.SeatRows.{with_player, worked_player}
use Rattle.sj_semantics.specs.Program.{Program}

-- the node of a party that goes by the file
abbrev pub by_file : NodeAt Place Program → NodeAt Place Player
by_file n = with_player (written n.program) n

abbrev pub work_by_file : Worked Place (NodeAt Place Program) → Worked Place (NodeAt Place Player)
work_by_file w = worked_player (written w.state.program) w

maps : {X Y Z : Type 0} (f : Y → Z) (h : X → Y) (k : X → Z) → ((x : X) → k x ≡ f (h x)) → (o : Option X) → option_map k o ≡ option_map f (option_map h o)
maps f h k same None = refl
maps f h k same (Some x) = ap Some (same x)

tests : {Y Z : Type 0} (f : Y → Z) (b : Bool) (x : Option Y) (z : Option Z) → z ≡ option_map f x → cond b z None ≡ option_map f (cond b x None)
tests f true x z h = h
tests f false x z h = refl

module _ (file : FileAt) (party : ℕ) where
  send_lift : (n : NodeAt Place Program) (e : EndId) (m : Msg) (o : Option (MainAt Place)) → send_act (seated_play file) (by_file n) e m o ≡ option_map work_by_file (send_act (play_of file) n e m o)
  send_lift n e m None = refl
  send_lift n e m (Some (Closed c)) = refl
  send_lift n e m (Some (Expected keeper place deferred)) = refl
  send_lift n e m (Some (Held h)) = maps work_by_file _ _ (λ place. refl) ((play_of file).next h.end.place Out m)

  delegate_lift : (n : NodeAt Place Program) (c e : EndId) (o : Option (MainAt Place)) → delegate_act (seated_play file) party (by_file n) c e o ≡ option_map work_by_file (delegate_act (play_of file) party n c e o)
  delegate_lift n c e None = refl
  delegate_lift n c e (Some (Closed k)) = refl
  delegate_lift n c e (Some (Expected keeper place deferred)) = refl
  delegate_lift n c e (Some (Held h)) =
      tests work_by_file (nat_lt h.end.hops 100) _ _
      (send_lift (with_main e None (with_old e (Some (Parked (record h.end { hops = h.end.hops + 1 }))) n)) c (msgs.Sess e.sess e.side party) (put e None n.main c))

  work_lift : (n : NodeAt Place Program) (place : Place) (m : Msg) → work_of_take place m (by_file n) ≡ work_by_file (work_of_take place m n)
  work_lift n place (msgs.Sess sess side keeper) = refl
  work_lift n place (msgs.Int i) = refl
  work_lift n place (msgs.Bool i) = refl
  work_lift n place (msgs.Text i) = refl
  work_lift n place (msgs.Label i) = refl
  work_lift n place (msgs.More i) = refl

  free_lift : (n : NodeAt Place Program) (m : Msg) → is_free (by_file n) m ≡ is_free n m
  free_lift n (msgs.Sess sess side keeper) = refl
  free_lift n (msgs.Int i) = refl
  free_lift n (msgs.Bool i) = refl
  free_lift n (msgs.Text i) = refl
  free_lift n (msgs.Label i) = refl
  free_lift n (msgs.More i) = refl

  take_lift : (n : NodeAt Place Program) (e : EndId) (place : Place) (h : HeldAt Place) (ms : List Msg) → take_from (seated_play file) (by_file n) e place h ms ≡ option_map work_by_file (take_from (play_of file) n e place h ms)
  take_lift n e place h [] = refl
  take_lift n e place h (m ∷ rest) =
      ap (λ (b : Bool). cond ((play_of file).fits n.program m && b) (option_map after ((play_of file).next h.end.place Into m)) None) (free_lift n m)
      ∙ tests work_by_file ((play_of file).fits n.program m && is_free n m) _ _
      (maps work_by_file _ after (λ q. work_lift (with_main e (Some (Held (held_behind_take h rest q))) (record n { program = (play_of file).goes n.program (Some m) })) place m) ((play_of file).next h.end.place Into m))
    where
      after : Place → Worked Place (NodeAt Place Player)
      after q = work_of_take place m (with_main e (Some (Held (held_behind_take h rest q))) (record (by_file n) { program = (seated_play file).goes (by_file n).program (Some m) }))

  taking_lift : (n : NodeAt Place Program) (e : EndId) (place : Place) (o : Option (MainAt Place)) → take_act (seated_play file) (by_file n) e place o ≡ option_map work_by_file (take_act (play_of file) n e place o)
  taking_lift n e place None = refl
  taking_lift n e place (Some (Closed c)) = refl
  taking_lift n e place (Some (Expected keeper own deferred)) = refl
  taking_lift n e place (Some (Held h)) = take_lift n e place h h.untaken

  close_lift : (n : NodeAt Place Program) (e : EndId) (o : Option (MainAt Place)) → close_act (seated_play file) (by_file n) e o ≡ option_map work_by_file (close_act (play_of file) n e o)
  close_lift n e None = refl
  close_lift n e (Some (Closed k)) = refl
  close_lift n e (Some (Expected keeper place deferred)) = refl
  close_lift n e (Some (Held h)) = tests work_by_file ((play_of file).is_over h.end.place) _ _ refl

  accept_lift : (n : NodeAt Place Program) (place : Place) (from sess : ℕ) (o : Option (MainAt Place)) → accept_session (seated_play file) (by_file n) place from sess o ≡ option_map work_by_file (accept_session (play_of file) n place from sess o)
  accept_lift n place from sess None = refl
  accept_lift n place from sess (Some (Closed k)) = refl
  accept_lift n place from sess (Some (Expected keeper own deferred)) = refl
  accept_lift n place from sess (Some (Held h)) = refl

  accepting_lift : (n : NodeAt Place Program) (place : Place) (from : ℕ) (o : Option ℕ) → accept_offered (seated_play file) (by_file n) place from o ≡ option_map work_by_file (accept_offered (play_of file) n place from o)
  accepting_lift n place from None = refl
  accepting_lift n place from (Some sess) = accept_lift n place from sess (n.main (offered_end sess))

  by_lift : (n : NodeAt Place Program) (want : Want Place) → act_by (seated_play file) party (by_file n) want ≡ option_map work_by_file (act_by (play_of file) party n want)
  by_lift n wanted.ended = refl
  by_lift n wanted.local = refl
  by_lift n (wanted.sends e m) = send_lift n e m (n.main e)
  by_lift n (wanted.delegates c e) = delegate_lift n c e (n.main e)
  by_lift n (wanted.takes e place) = taking_lift n e place (n.main e)
  by_lift n (wanted.closes e) = close_lift n e (n.main e)
  by_lift n (wanted.requests place to) = tests work_by_file (nat_lt n.requests limit_of_requests) _ _ refl
  by_lift n (wanted.accepts place from) = accepting_lift n place from (smallest (n.offers from))

  unless : {Y Z : Type 0} (f : Y → Z) (b : Bool) (x : Option Y) (z : Option Z) → z ≡ option_map f x → cond b None z ≡ option_map f (cond b None x)
  unless f true x z h = refl
  unless f false x z h = h

  pub acts_lift : (n : NodeAt Place Program) → acts (seated_play file) party (by_file n) ≡ option_map work_by_file (acts (play_of file) party n)
  acts_lift n = unless work_by_file ((play_of file).is_worn n.program) _ _ (by_lift n ((play_of file).wants n.program))

  -- its note is the same, whoever plays it
  pub note_lift : {P Q R : Type 0} (g : R) (n : NodeAt P Q) (want : Want P) → act_note party (with_player g n) want ≡ act_note party n want
  note_lift g n wanted.ended = refl
  note_lift g n wanted.local = refl
  note_lift g n (wanted.sends e m) = refl
  note_lift g n (wanted.delegates c e) = refl
  note_lift g n (wanted.takes e place) = refl
  note_lift g n (wanted.closes e) = refl
  note_lift g n (wanted.requests place to) = refl
  note_lift g n (wanted.accepts place from) = refl
