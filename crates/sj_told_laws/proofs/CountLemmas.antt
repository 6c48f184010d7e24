-- There are as many Sent notes as messages.
use Rattle.std.proofs.Common.{◌≡◌, ℕ, zero, suc, ◌+◌, nat_lt, Bool, true, cond, List, [], ◌∷◌, ◌++◌, map, length, sum_by, slice_get, Option, Some, None, option_map, option_and_then, refl, ap, sym, ◌∙◌, subst, arith}
use Rattle.std.proofs.lemmas.List.{length-append}
use Rattle.std.proofs.lemmas.List.Sums.{sum_by-cons}
use Rattle.sj_base.specs.declared.EndId.{EndId}
use Rattle.sj_base.specs.declared.Msg.{Msg}
use Rattle.sj_base.specs.declared.Msg.TheVariants as msgs
use Rattle.sj_lang.specs.FileAt.{ConnectAt, FileAt, ProtocolAt, body_named}
use Rattle.sj_lang.specs.Place.{Place}
use Rattle.sj_semantics.specs.declared.Awaits.{Awaits}
use Rattle.sj_semantics.specs.declared.Awaits.TheVariants as awaits
use Rattle.sj_semantics.specs.declared.Passed.{Passed}
use Rattle.sj_semantics.specs.declared.Want.{Want}
use Rattle.sj_semantics.specs.declared.Want.TheVariants as wants
use Rattle.sj_semantics.specs.Ends.{EndAt, Session, end_at, limit_of_hops, next_for, unopened}
use Rattle.sj_semantics.specs.Program.{Program}
use Rattle.sj_semantics.specs.Requests.{first_offer, limit_of_requests, opened_number}
use Rattle.sj_semantics.specs.Run.{after_acts}
use Rattle.sj_semantics.specs.Steps.{closed_of, local_of, sent_of}
use Rattle.sj_semantics.specs.Uses.{Use, after_uses, altered_session, begins, delegates, end_after, on_side, sends, takes}
use Rattle.sj_semantics.specs.Wants.{want_of}
use Rattle.sj_semantics.specs.World.{Change, World, act_of, begun_at, begun_by, change_by, change_by_accepting, change_by_opening, change_by_taking, change_of_program, plain_change, session_message, session_of}
use Rattle.sj_semantics_laws.proofs.ChangeLemmas.{rests_on}
use Rattle.sj_semantics_laws.proofs.CommuteLemmas.{doing_of}
use Rattle.sj_headline_laws.specs.Headline.{next_step}
use Rattle.sj_rules.specs.Events.{acts_in}
use Rattle.sj_rules.specs.History.{turn_of}
use Rattle.sj_rules.specs.Log.{Accept, Ack, Carry, Claim, Fin, Give, LineAt, Local, NoteAt, Open, Request, Sent, Shut, Signal, Took}
use Rattle.sj_rules.specs.World.{Act, Deliver, Event}
use Rattle.sj_rules_laws.specs.TiedNotes.{AreTied, IsOfFrame, TiesLine, note_of}
use Rattle.sj_rules_laws.proofs.ToldLemmas.{by_option, by_test, same_note}
use Rattle.sj_told.specs.Counts.{is_sent, messages_sent, sent_count}

-- ---- what a use adds

abbrev size : Session → ℕ
size z = length z.first.sent + length z.second.sent

abbrev use_count : Use → ℕ
use_count (sends m) = 1
use_count (takes m) = 0
use_count delegates = 0
use_count (begins place) = 0

abbrev uses_count : List (EndId × Use) → ℕ
uses_count [] = 0
uses_count (u ∷ us) = use_count u.1 + uses_count us

end_size : (p : ℕ) (u : Use) (e : EndAt) → length (end_after p u e).sent ≡ length e.sent + use_count u
end_size p (sends m) e = length-append e.sent (record { msg = m; by = p } ∷ [])
end_size p (takes m) e = omega arith
end_size p delegates e = omega arith
end_size p (begins place) e = omega arith

side_size : (d p : ℕ) (u : Use) (z : Session) → size (on_side d (end_after p u) z) ≡ size z + use_count u
side_size zero p u z = omega (arith, end_size p u z.first)
side_size (suc d) p u z = omega (arith, end_size p u z.second)

altered_size : (zs : List Session) (s k : ℕ) (f : Session → Session) → ((z : Session) → size (f z) ≡ size z + k) → sum_by size (altered_session zs s f) ≡ sum_by size zs + k
altered_size [] zero k f h = omega (arith, h unopened)
altered_size [] (suc s) k f h = altered_size [] s k f h
altered_size (z ∷ zs) zero k f h = omega (arith, h z, sum_by-cons size (f z) zs, sum_by-cons size z zs)
altered_size (z ∷ zs) (suc s) k f h = omega (arith, altered_size zs s k f h, sum_by-cons size z (altered_session zs s f), sum_by-cons size z zs)

uses_size : (p : ℕ) (us : List (EndId × Use)) (zs : List Session) → sum_by size (after_uses p us zs) ≡ sum_by size zs + uses_count us
uses_size p [] zs = omega arith
uses_size p (u ∷ us) zs =
    let one = altered_size zs u.0.sess (use_count u.1) (on_side u.0.side (end_after p u.1)) (side_size u.0.side p u.1) in
    let rest = uses_size p us (altered_session zs u.0.sess (on_side u.0.side (end_after p u.1))) in
    omega (arith, one, rest)

-- ---- an act's note counts what its uses add

begun_none : (place : Place) (m : Msg) → uses_count (begun_by place m) ≡ 0
begun_none place (msgs.Sess s d k) = refl
begun_none place (msgs.Int i) = refl
begun_none place (msgs.Bool i) = refl
begun_none place (msgs.Text i) = refl
begun_none place (msgs.Label i) = refl
begun_none place (msgs.More i) = refl

begun_at_none : (ps : List ProtocolAt) (a : Awaits) (m : Msg) → uses_count (begun_at ps a m) ≡ 0
begun_at_none ps (awaits.Session q) m = begun_none (body_named ps q) m
begun_at_none ps (awaits.Value k) m = refl
begun_at_none ps awaits.OneOf m = refl
begun_at_none ps awaits.MoreOrStop m = refl

abbrev Counts : NoteAt → Change → Type 0
Counts note c = is_sent note ≡ uses_count c.uses

noted_none : {X : Type 0} (noted : X → NoteAt) (o : Option X) (note : NoteAt) → ((x : X) → is_sent (noted x) ≡ 0) → option_map noted o ≡ Some note → is_sent note ≡ 0
noted_none noted None note each h = cc
noted_none noted (Some x) note each h = ap is_sent (sym (same_note (noted x) note h)) ∙ each x

act_counts : (w : World) (p : ℕ) (h : Program) (want : Want) (c : Change) (note : NoteAt) → change_by w p h want ≡ Some c → note_of w p want ≡ Some note → Counts note c
act_counts w p h wants.Ended c note made noted = cc
act_counts w p h wants.Local c note made noted = by_test (Counts note) true (plain_change (local_of h) []) c (ap is_sent (sym (same_note Local note noted))) made
act_counts w p h (wants.Send f m) c note made noted =
    by_test (Counts note) true (plain_change (sent_of h) ((f, sends m) ∷ [])) c (ap is_sent (sym (same_note (Sent f m) note noted))) made
act_counts w p h (wants.Delegate f y) c note made noted =
    by_test (Counts note) (nat_lt (end_at w.sessions y).hops limit_of_hops) (plain_change (sent_of h) ((y, delegates) ∷ (f, sends (session_message y p)) ∷ [])) c
    (ap is_sent (sym (same_note (Sent f (session_message y p)) note noted))) made
act_counts w p h (wants.Take f a) c note made noted =
    by_option (change_by_taking w.protocols h f a) (Counts note) (next_for w.sessions f) c
    (λ x next.
    let none = noted_none (λ (y : Passed). Took f y.msg) (next_for w.sessions f) note (λ y. refl) noted in
    let begun = begun_at_none w.protocols a x.msg in
    let it : is_sent note ≡ 0 + uses_count (begun_at w.protocols a x.msg) = omega (arith, none, begun) in
    it) made
act_counts w p h (wants.Close f) c note made noted = by_test (Counts note) true (plain_change (closed_of h) []) c (ap is_sent (sym (same_note (Shut f) note noted))) made
act_counts w p h (wants.Request n q) c note made noted =
    by_test (Counts note) (nat_lt (length (w.requests p)) limit_of_requests) (change_by_opening h (opened_number p (length (w.requests p))) (body_named w.protocols n) q) c
    (ap is_sent (sym (same_note (Request (opened_number p (length (w.requests p))) q) note noted))) made
act_counts w p h (wants.Accept n q) c note made noted =
    by_option (change_by_accepting h q (body_named w.protocols n)) (Counts note) (first_offer p (w.requests q)) c
    (λ k first. noted_none (λ (i : ℕ). Accept (opened_number q i) q) (first_offer p (w.requests q)) note (λ i. refl) noted) made

frames_none : (note : NoteAt) → IsOfFrame note → is_sent note ≡ 0
frames_none (Carry to conn number taken msg) h = refl
frames_none (Fin to conn number) h = refl
frames_none (Claim of) h = refl
frames_none (Signal to conn party taken) h = refl
frames_none (Ack of conn) h = refl
frames_none (Give of conn peer sent taken base resend) h = refl
frames_none (Open sess) h = refl
frames_none Local h = absurd h
frames_none (Sent f m) h = absurd h
frames_none (Took f m) h = absurd h
frames_none (Shut f) h = absurd h
frames_none (Request sess to) h = absurd h
frames_none (Accept sess from) h = absurd h

some_note : (w : World) (p : ℕ) (want : Want) (o : Option Want) (note : NoteAt) → o ≡ Some want → option_and_then (note_of w p) o ≡ Some note → note_of w p want ≡ Some note
some_note w p want o note is h = sym (ap (option_and_then (note_of w p)) is) ∙ h

act_adds : (w v : World) (p : ℕ) (note : NoteAt) → act_of w p ≡ Some v → option_and_then (note_of w p) (next_step w p) ≡ Some note → messages_sent v ≡ messages_sent w + is_sent note
act_adds w v p note did noted =
    let a = doing_of w p v did in
    let r = rests_on w p a.program a.change a.made in
    let count = act_counts w p a.program r.want a.change note r.by_it (some_note w p r.want (next_step w p) note (ap (option_and_then want_of) a.there ∙ r.wants_it) noted) in
    let grown = uses_size p a.change.uses w.sessions in
    let there : messages_sent v ≡ sum_by size (after_uses p a.change.uses w.sessions) = ap messages_sent (sym a.result) in
    omega (arith, count, grown, there)

-- ---- all lines

then_after : (o : Option World) (v u : World) (ps : List ℕ) → o ≡ Some v → option_and_then (λ t. after_acts t ps) o ≡ Some u → after_acts v ps ≡ Some u
then_after o v u ps is h = sym (ap (option_and_then (λ t. after_acts t ps)) is) ∙ h

module _ (l : LineAt) (ls : List LineAt) (u : World) (onward : (v : World) → AreTied v ls → after_acts v (acts_in (map turn_of ls)) ≡ Some u → messages_sent u ≡ messages_sent v + sent_count ls) where
  line_adds : (w : World) (event : Event) → TiesLine (λ v. AreTied v ls) w l event → after_acts w (acts_in (record { party = l.party; event = event } ∷ map turn_of ls)) ≡ Some u
      → messages_sent u ≡ messages_sent w + (is_sent l.entry.note + sent_count ls)
  line_adds w (Deliver q) tied h = omega (arith, frames_none l.entry.note tied.0, onward w tied.1 h)
  line_adds w Act tied h =
      omega (arith, act_adds w tied.0 l.party l.entry.note tied.1 tied.2, onward tied.0 tied.3 (then_after (act_of w l.party) tied.0 u (acts_in (map turn_of ls)) tied.1 h))

pub lines_add : (lines : List LineAt) (w u : World) → AreTied w lines → after_acts w (acts_in (map turn_of lines)) ≡ Some u → messages_sent u ≡ messages_sent w + sent_count lines
lines_add [] w u tied h = let it : w ≡ u = cc in omega (arith, ap messages_sent it)
lines_add (l ∷ ls) w u tied h = line_adds l ls u (λ v t k. lines_add ls v u t k) w l.entry.event tied h

pub none_at_start : (file : FileAt) (cs : List ConnectAt) → sum_by (λ z. length z.first.sent + length z.second.sent) (map (session_of file) cs) ≡ 0
none_at_start file [] = refl
none_at_start file (c ∷ cs) = none_at_start file cs
