-- What an act's note reports is what the act adds to the plain world.
use Rattle.std.proofs.Common.{◌≡◌, ℕ, zero, suc, ◌+◌, cond, ◌≤◌, List, [], ◌∷◌, ◌++◌, map, length, sum_by, Some, option_and_then, append-nil, refl, ap, sym, ◌∙◌, arith}
use Rattle.std.proofs.lemmas.List.{length-append}
use Rattle.std.proofs.lemmas.List.Sums.{sum_by-cons}
use Rattle.sj_base.specs.declared.EndId.{EndId}
use Rattle.sj_base.specs.declared.Msg.{Msg}
use Rattle.sj_base.specs.declared.Msg.TheVariants as msgs
use Rattle.sj_lang.specs.Place.{Place}
use Rattle.sj_semantics.specs.declared.Passed.{Passed}
use Rattle.sj_semantics.specs.Acts.{sent_by, taken_by, uses_on}
use Rattle.sj_semantics.specs.Ends.{EndAt, Session, end_at, is_end, unopened}
use Rattle.sj_semantics.specs.Requests.{Opening, limit_of_requests}
use Rattle.sj_semantics.specs.Run.{after_acts}
use Rattle.sj_semantics.specs.Uses.{Use, after_uses, altered_session, begins, delegates, end_after, on_side, sends, takes}
use Rattle.sj_semantics.specs.World.{World, act_of, begun_by, session_message}
use Rattle.sj_semantics_laws.proofs.ActsLemmas.{sent_is_of_acts, takers_after_uses, takers_are_of_acts}
use Rattle.sj_headline_laws.specs.Headline.{next_step}
use Rattle.sj_rules.specs.Log.{Accept, LineAt, NoteAt, Request, Sent, Shut, Took}
use Rattle.sj_rules.specs.World.{Act}
use Rattle.sj_rules_laws.specs.TiedNotes.{AreTied, note_of, sent_told, taken_told}
use Rattle.sj_rules_laws.proofs.SentToldLemmas.{tied_sent}
use Rattle.sj_rules_laws.proofs.TakenToldLemmas.{tied_taken}
use Rattle.sj_rules_laws.proofs.ToldLemmas.{skip, told_passed}
use Rattle.sj_told.specs.Counts.{is_sent, messages_sent}
use Rattle.sj_told_laws.proofs.CountLemmas.{lines_add}
use Rattle.sj_seat_laws.specs.SeatedWorld.{world_opened}
use Rattle.sj_seat_laws.proofs.HeadlineLemmas.{sent_after_uses}
use Rattle.sj_seat_told_laws.proofs.RequestLemmas.{Opens, file_opens}

-- the world has more by what that party's note reports
pub record Adds (w : World) (p : ℕ) (note : NoteAt) (v : World) : Type 0 where
  pub sent : (e : EndId) → (end_at v.sessions e).sent ≡ (end_at w.sessions e).sent ++ sent_told e p note
  pub takers : (e : EndId) → (end_at v.sessions e).takers ≡ (end_at w.sessions e).takers ++ map (λ x. x.by) (taken_told e p note)
  pub count : messages_sent v ≡ messages_sent w + is_sent note
  pub opens : Opens w p note v

-- ---- a party that goes by the file: the laws of one line

pub file_adds : (w v : World) (p : ℕ) (note : NoteAt) → ((a : ℕ) → length (w.requests a) ≤ limit_of_requests) → act_of w p ≡ Some v → option_and_then (note_of w p) (next_step w p) ≡ Some note → Adds w p note v
file_adds w v p note few acted noted = record {
  sent = λ e. sent_is_of_acts w v (p ∷ []) e run ∙ ap (λ xs. (end_at w.sessions e).sent ++ xs) (sym (tied_sent e (line ∷ []) w tied) ∙ append-nil (sent_told e p note));
  takers = λ e.
      takers_are_of_acts w v (p ∷ []) e run ∙ ap (λ xs. (end_at w.sessions e).takers ++ map (λ x. x.by) xs) (sym (tied_taken e (line ∷ []) w tied) ∙ append-nil (taken_told e p note));
  count = omega (arith, lines_add (line ∷ []) w v tied run);
  opens = file_opens w v p note few acted noted;
}
  where
    line : LineAt
    line = record { party = p; entry = record { clock = 0; event = Act; note = note } }

    run : after_acts w (p ∷ []) ≡ Some v
    run = ap (option_and_then (λ x. after_acts x [])) acted

    tied : AreTied w (line ∷ [])
    tied = (v, acted, noted, tt)

-- ---- uses

abbrev size : Session → ℕ
size z = length z.first.sent + length z.second.sent

abbrev pub use_count : Use → ℕ
use_count (sends m) = 1
use_count (takes m) = 0
use_count delegates = 0
use_count (begins place) = 0

abbrev pub uses_count : List (EndId × Use) → ℕ
uses_count [] = 0
uses_count (u ∷ us) = use_count u.1 + uses_count us

end_size : (p : ℕ) (u : Use) (e : EndAt) → length (end_after p u e).sent ≡ length e.sent + use_count u
end_size p (sends m) e = length-append e.sent (record { msg = m; by = p } ∷ [])
end_size p (takes m) e = omega arith
end_size p delegates e = omega arith
end_size p (begins place) e = omega arith

side_size : (d p : ℕ) (u : Use) (z : Session) → size (on_side d (end_after p u) z) ≡ size z + use_count u
side_size zero p u z = omega (arith, end_size p u z.first)
side_size (suc d) p u z = omega (arith, end_size p u z.second)

altered_size : (zs : List Session) (s k : ℕ) (f : Session → Session) → ((z : Session) → size (f z) ≡ size z + k) → sum_by size (altered_session zs s f) ≡ sum_by size zs + k
altered_size [] zero k f h = omega (arith, h unopened)
altered_size [] (suc s) k f h = altered_size [] s k f h
altered_size (z ∷ zs) zero k f h = omega (arith, h z, sum_by-cons size (f z) zs, sum_by-cons size z zs)
altered_size (z ∷ zs) (suc s) k f h = omega (arith, altered_size zs s k f h, sum_by-cons size z (altered_session zs s f), sum_by-cons size z zs)

uses_size : (p : ℕ) (us : List (EndId × Use)) (zs : List Session) → sum_by size (after_uses p us zs) ≡ sum_by size zs + uses_count us
uses_size p [] zs = omega arith
uses_size p (u ∷ us) zs =
    let one = altered_size zs u.0.sess (use_count u.1) (on_side u.0.side (end_after p u.1)) (side_size u.0.side p u.1) in
    let rest = uses_size p us (altered_session zs u.0.sess (on_side u.0.side (end_after p u.1))) in
    omega (arith, one, rest)

-- what the note reports is what the uses send and take
pub record Tells (p : ℕ) (note : NoteAt) (us : List (EndId × Use)) : Type 0 where
  pub sent : (e : EndId) → sent_told e p note ≡ uses_on e sent_by p us
  pub taken : (e : EndId) → taken_told e p note ≡ uses_on e taken_by p us
  pub count : is_sent note ≡ uses_count us

pub uses_add : (w : World) (p : ℕ) (note : NoteAt) (o : Opening) (us : List (EndId × Use)) → Tells p note us → Opens w p note (world_opened p o us w) → Adds w p note (world_opened p o us w)
uses_add w p note o us t opens = record {
  sent = λ e. sent_after_uses p us w.sessions e ∙ ap (λ xs. (end_at w.sessions e).sent ++ xs) (sym (t.sent e));
  takers = λ e. takers_after_uses p us w.sessions e ∙ ap (λ xs. (end_at w.sessions e).takers ++ map (λ x. x.by) xs) (sym (t.taken e));
  count = omega (arith, uses_size p us w.sessions, t.count);
  opens = opens;
}

-- ---- a party that is played by code

begun_nothing : (e : EndId) (p : ℕ) (f : ℕ → Use → List Passed) → ((place : Place) → f p (begins place) ≡ []) → (place : Place) (m : Msg) → uses_on e f p (begun_by place m) ≡ []
begun_nothing e p f none place (msgs.Sess s d k) =
    ap (λ (xs : List Passed). cond (is_end e (record { sess = s; side = d })) xs [] ++ []) (none place) ∙ skip (is_end e (record { sess = s; side = d })) []
begun_nothing e p f none place (msgs.Int n) = refl
begun_nothing e p f none place (msgs.Bool b) = refl
begun_nothing e p f none place (msgs.Text n) = refl
begun_nothing e p f none place (msgs.Label l) = refl
begun_nothing e p f none place (msgs.More b) = refl

begun_count : (place : Place) (m : Msg) → uses_count (begun_by place m) ≡ 0
begun_count place (msgs.Sess s d k) = refl
begun_count place (msgs.Int n) = refl
begun_count place (msgs.Bool b) = refl
begun_count place (msgs.Text n) = refl
begun_count place (msgs.Label l) = refl
begun_count place (msgs.More b) = refl

module _ (p : ℕ) where
  pub send_tells : (f : EndId) (m : Msg) → Tells p (Sent f m) ((f, sends m) ∷ [])
  send_tells f m = record { sent = λ e. told_passed e f (record { msg = m; by = p }); taken = λ e. sym (skip (is_end e f) []); count = refl }

  pub delegate_tells : (c y : EndId) → Tells p (Sent c (session_message y p)) ((y, delegates) ∷ (c, sends (session_message y p)) ∷ [])
  delegate_tells c y = record {
    sent = λ e. told_passed e c (record { msg = session_message y p; by = p }) ∙ sym (skip (is_end e y) (cond (is_end e c) (record { msg = session_message y p; by = p } ∷ []) [] ++ []));
    taken = λ e. sym (skip (is_end e y) (cond (is_end e c) [] [] ++ []) ∙ skip (is_end e c) []);
    count = refl;
  }

  pub take_tells : (f : EndId) (place : Place) (m : Msg) → Tells p (Took f m) ((f, takes m) ∷ begun_by place m)
  take_tells f place m = record {
    sent = λ e. sym (skip (is_end e f) (uses_on e sent_by p (begun_by place m)) ∙ begun_nothing e p sent_by (λ q. refl) place m);
    taken = λ e. told_passed e f (record { msg = m; by = p }) ∙ ap (λ (xs : List Passed). cond (is_end e f) (record { msg = m; by = p } ∷ []) [] ++ xs) (sym (begun_nothing e p taken_by (λ q. refl) place m));
    count = omega (arith, begun_count place m);
  }

  pub shut_tells : (f : EndId) → Tells p (Shut f) []
  shut_tells f = record { sent = λ e. refl; taken = λ e. refl; count = refl }

  -- a session that is opened: its ends begin
  pub request_tells : (sess to : ℕ) (f g : EndId) (place other : Place) → Tells p (Request sess to) ((f, begins place) ∷ (g, begins other) ∷ [])
  request_tells sess to f g place other = record { sent = λ e. both e; taken = λ e. both e; count = refl }
    where
      both : (e : EndId) → ◌≡◌ {A = List Passed} [] (cond (is_end e f) [] [] ++ (cond (is_end e g) [] [] ++ []))
      both e = sym (skip (is_end e f) (cond (is_end e g) [] [] ++ []) ∙ skip (is_end e g) [])

  pub accept_tells : (sess from : ℕ) (f : EndId) (place : Place) → Tells p (Accept sess from) ((f, begins place) ∷ [])
  accept_tells sess from f place = record { sent = λ e. sym (skip (is_end e f) []); taken = λ e. sym (skip (is_end e f) []); count = refl }
