-- Acts of a program that knows only of the file report only of the file.
use Rattle.std.proofs.Common.{◌≡◌, ℕ, ◌+◌, ◌<◌, ◌≤◌, Bool, true, false, ◌&&◌, cond, List, [], ◌∷◌, Option, Some, None, refl, arith, if◌then◌else◌}
use Rattle.std.specs.Prelude.{nat_lt}
use Rattle.sj_base.specs.declared.EndId.{EndId}
use Rattle.sj_base.specs.declared.Msg.{Msg}
use Rattle.sj_base.specs.declared.Msg.TheVariants as msgs
use Rattle.sj_lang.specs.declared.proto.Way.TheVariants.{Out, Into}
use Rattle.sj_lang.specs.FileAt.{FileAt}
use Rattle.std.proofs.lemmas.Bool.{ltb-true}
use Rattle.sj_rules.specs.Limits.{limit_of_requests}
use Rattle.sj_rules.specs.Record.{EndAt, HeldAt, MainAt, Held, Closed, Expected, Parked, is_same_end, requested_end, offered_end}
use Rattle.sj_rules.specs.Opened.{opened_number, new_held, smallest, without}
use Rattle.sj_rules.specs.Rows.{Worked}
use Rattle.sj_rules.specs.Node.{Want, ended, local, sends, delegates, takes, closes, requests, accepts, Play, held_at, accept_session, accept_offered, open_session, NodeAt, put, with_main, with_old, held_behind_send, held_behind_take, send_act, delegate_act, work_of_take, is_free, take_from, take_act, close_act, act_by, acts}
use Rattle.sj_joined_lemmas.proofs.LateLemmas.{all_joined}
use Rattle.sj_rules_laws.proofs.WithinRowLemmas.{by_map, by_test, by_true, by_some}
use Rattle.sj_log.specs.Legible.{IsCount, IsEnd, IsMessage, HasParty}
use Rattle.sj_legible_laws.proofs.LegibleParts.{AreMessages, EndTold, OfferTold, NodeTold, WorkedTold, WantTold, PlayTold}
use Rattle.sj_legible_laws.proofs.RowLemmas.{other_told, HeldTold}
use Rattle.sj_legible_laws.proofs.OfferLemmas.{kept_without, smallest_told}
use Rattle.sj_legible_laws.proofs.RecordLemmas.{main_of, no_main, old_of, put_offers}

module _ {P Q : Type 0} (file : FileAt) (Knows : Q → Type 0) (play : Play P Q) (plays : PlayTold file Knows play) where
  -- another program that knows only of the file changes nothing
  with_program : (m : NodeAt P Q) (g : Q) → NodeTold file Knows m → Knows g → NodeTold file Knows (record m { program = g })
  with_program m g all own = record { program = own; mains = all.mains; olds = all.olds; offers = all.offers }

  gone_on : (m : NodeAt P Q) → NodeTold file Knows m → NodeTold file Knows (record m { program = play.goes m.program None })
  gone_on m all = with_program m (play.goes m.program None) all (plays.goes m.program all.program)

  send_told : (m : NodeAt P Q) (e : EndId) (msg : Msg) (o : Option (MainAt P)) (w : Worked P (NodeAt P Q)) → NodeTold file Knows m → ((h : HeldAt P) → o ≡ Some (Held h) → HeldTold file h) → IsMessage file msg
      → send_act play m e msg o ≡ Some w → WorkedTold file Knows w
  send_told m e msg None w all held own k = cc
  send_told m e msg (Some (Closed c)) w all held own k = cc
  send_told m e msg (Some (Expected keeper place deferred)) w all held own k = cc
  send_told m e msg (Some (Held h)) w all held own k =
      by_map (WorkedTold file Knows) _ (play.next h.end.place Out msg) w k (λ place t.
      let it = held h refl in
      record {
        node = main_of file Knows (record m { program = play.goes m.program None }) e (Held (held_behind_send h msg place)) (gone_on m all)
            (record { id = it.0.id; cache = all_joined (IsMessage file) h.end.cache (msg ∷ []) it.0.cache (own, tt) }, it.1);
        posts = ((other_told h.end.id it.0.id, own), tt);
      })

  module _ (p : ℕ) (m : NodeAt P Q) (all : NodeTold file Knows m) (here : HasParty file p) (few : p ≤ 16) where
    put_told : (e c : EndId) (h : HeldAt P) → put e None m.main c ≡ Some (Held h) → HeldTold file h
    put_told e c h k = by (is_same_end c e) k
      where
        by : (b : Bool) → cond b None (m.main c) ≡ Some (Held h) → HeldTold file h
        by true t = cc
        by false t = all.mains c (Held h) t

    delegate_told : (carrier e : EndId) (o : Option (MainAt P)) (w : Worked P (NodeAt P Q)) → m.main e ≡ o → IsEnd e → delegate_act play p m carrier e o ≡ Some w → WorkedTold file Knows w
    delegate_told carrier e None w there own k = cc
    delegate_told carrier e (Some (Closed c)) w there own k = cc
    delegate_told carrier e (Some (Expected keeper place deferred)) w there own k = cc
    delegate_told carrier e (Some (Held h)) w there own k =
        let old : EndAt P = record h.end { hops = h.end.hops + 1 } in
        let it = all.mains e (Held h) there in
        by_test (WorkedTold file Knows) (nat_lt h.end.hops 100) _ w k (λ t.
        send_told (with_main e None (with_old e (Some (Parked old)) m)) carrier (msgs.Sess e.sess e.side p) (put e None m.main carrier) w
        (no_main file Knows (with_old e (Some (Parked old)) m) e (old_of file Knows m e (Parked old) all (record { id = it.0.id; cache = it.0.cache })))
        (λ c at. put_told e carrier c at) (own, here) t)

    brought_told : (place : P) (msg : Msg) (m' : NodeAt P Q) → NodeTold file Knows m' → IsMessage file msg → WorkedTold file Knows (work_of_take place msg m')
    brought_told place (msgs.Sess sess side keeper) m' told own =
        record { node = main_of file Knows m' (record { sess = sess; side = side }) (Expected keeper place []) told tt; posts = (own.0, tt) }
    brought_told place (msgs.Int i) m' told own = record { node = told; posts = tt }
    brought_told place (msgs.Bool b) m' told own = record { node = told; posts = tt }
    brought_told place (msgs.Text i) m' told own = record { node = told; posts = tt }
    brought_told place (msgs.Label i) m' told own = record { node = told; posts = tt }
    brought_told place (msgs.More b) m' told own = record { node = told; posts = tt }

    took_told : (e : EndId) (place : P) (h : HeldAt P) (ms : List Msg) (w : Worked P (NodeAt P Q)) → EndTold file h.end → AreMessages file ms → take_from play m e place h ms ≡ Some w → WorkedTold file Knows w
    took_told e place h [] w own taken k = cc
    took_told e place h (msg ∷ rest) w own taken k =
        by_test (WorkedTold file Knows) (play.fits m.program msg && is_free m msg) _ w k (λ s.
        by_map (WorkedTold file Knows) _ (play.next h.end.place Into msg) w s (λ after u.
        brought_told place msg (with_main e (Some (Held (held_behind_take h rest after))) (record m { program = play.goes m.program (Some msg) }))
        (main_of file Knows (record m { program = play.goes m.program (Some msg) }) e (Held (held_behind_take h rest after))
        (with_program m (play.goes m.program (Some msg)) all (plays.took m.program msg all.program taken.0)) (record { id = own.id; cache = own.cache }, taken.1))
        taken.0))

    take_told : (e : EndId) (place : P) (o : Option (MainAt P)) (w : Worked P (NodeAt P Q)) → m.main e ≡ o → take_act play m e place o ≡ Some w → WorkedTold file Knows w
    take_told e place None w there k = cc
    take_told e place (Some (Closed c)) w there k = cc
    take_told e place (Some (Expected keeper q deferred)) w there k = cc
    take_told e place (Some (Held h)) w there k = let it = all.mains e (Held h) there in took_told e place h h.untaken w it.0 it.1 k

    closed_told : (h : HeldAt P) (e : EndId) (b : Bool) → EndTold file h.end → NodeTold file Knows (with_main e (if b then None else Some (Closed h.end)) (record m { program = play.goes m.program None }))
    closed_told h e true own = no_main file Knows (record m { program = play.goes m.program None }) e (gone_on m all)
    closed_told h e false own = main_of file Knows (record m { program = play.goes m.program None }) e (Closed h.end) (gone_on m all) own

    close_told : (e : EndId) (o : Option (MainAt P)) (w : Worked P (NodeAt P Q)) → m.main e ≡ o → close_act play m e o ≡ Some w → WorkedTold file Knows w
    close_told e None w there k = cc
    close_told e (Some (Closed c)) w there k = cc
    close_told e (Some (Expected keeper q deferred)) w there k = cc
    close_told e (Some (Held h)) w there k =
        let it = all.mains e (Held h) there in
        by_test (WorkedTold file Knows) (play.is_over h.end.place) _ w k (λ t.
        by_some (WorkedTold file Knows) _ w t (record { node = closed_told h e h.fin it.0; posts = (other_told h.end.id it.0.id, tt) }))

    -- a party opens few sessions
    request_told : (place : P) (to : ℕ) (w : Worked P (NodeAt P Q)) → act_by play p m (requests place to) ≡ Some w → WorkedTold file Knows w
    request_told place to w k =
        let s : ℕ = opened_number p m.requests in
        by_true (WorkedTold file Knows) (nat_lt m.requests limit_of_requests) _ w k (λ below t.
        let low : m.requests < 100 = ltb-true m.requests 100 below in
        let own : IsCount s = omega (arith, low, few) in
        let old : NodeAt P Q = record m { program = play.opened m.program (requested_end s); requests = m.requests + 1 } in
        let same : NodeTold file Knows old = record { program = plays.opened m.program (requested_end s) all.program (own, omega arith); mains = all.mains; olds = all.olds; offers = all.offers } in
        by_some (WorkedTold file Knows) (open_session play m place to s) w t (record {
          node = main_of file Knows old (requested_end s) (Held (new_held (requested_end s) place to)) same (record { id = (own, omega arith); cache = tt }, tt);
          posts = (own, tt);
        }))

    -- a session that is accepted was offered
    placed_told : (place : P) (from sess : ℕ) (o : Option (MainAt P)) (w : Worked P (NodeAt P Q)) → m.main (offered_end sess) ≡ o → IsCount sess → accept_session play m place from sess o ≡ Some w → WorkedTold file Knows w
    placed_told place from sess None w there own k = cc
    placed_told place from sess (Some (Closed c)) w there own k = cc
    placed_told place from sess (Some (Expected keeper q deferred)) w there own k = cc
    placed_told place from sess (Some (Held h)) w there own k =
        let it = all.mains (offered_end sess) (Held h) there in
        let old : NodeAt P Q = record m { program = play.opened m.program (offered_end sess) } in
        by_some (WorkedTold file Knows) _ w k (record {
          node = put_offers file Knows (with_main (offered_end sess) (Some (Held (held_at place h))) old) from (without sess (m.offers from))
              (main_of file Knows old (offered_end sess) (Held (held_at place h))
              (with_program m (play.opened m.program (offered_end sess)) all (plays.opened m.program (offered_end sess) all.program (own, omega arith)))
              (record { id = it.0.id; cache = it.0.cache }, it.1))
              (kept_without (OfferTold file from) sess (m.offers from) (all.offers from));
          posts = tt;
        })

    accept_told : (place : P) (from : ℕ) (o : Option ℕ) (w : Worked P (NodeAt P Q)) → smallest (m.offers from) ≡ o → accept_offered play m place from o ≡ Some w → WorkedTold file Knows w
    accept_told place from None w is k = cc
    accept_told place from (Some sess) w is k =
        placed_told place from sess (m.main (offered_end sess)) w refl (smallest_told (OfferTold file from) (m.offers from) sess is (all.offers from)).0 k

    step_told : (want : Want P) (w : Worked P (NodeAt P Q)) → WantTold file want → act_by play p m want ≡ Some w → WorkedTold file Knows w
    step_told ended w own k = cc
    step_told local w own k = by_some (WorkedTold file Knows) _ w k (record { node = gone_on m all; posts = tt })
    step_told (sends e msg) w own k = send_told m e msg (m.main e) w all (λ h at. all.mains e (Held h) at) own.1 k
    step_told (delegates carrier e) w own k = delegate_told carrier e (m.main e) w refl own.1 k
    step_told (takes e place) w own k = take_told e place (m.main e) w refl k
    step_told (closes e) w own k = close_told e (m.main e) w refl k
    step_told (requests place to) w own k = request_told place to w k
    step_told (accepts place from) w own k = accept_told place from (smallest (m.offers from)) w refl k

    pub acts_told : (w : Worked P (NodeAt P Q)) → acts play p m ≡ Some w → WorkedTold file Knows w
    acts_told w k = by (play.is_worn m.program) k
      where
        by : (b : Bool) → cond b None (act_by play p m (play.wants m.program)) ≡ Some w → WorkedTold file Knows w
        by true t = cc
        by false t = step_told (play.wants m.program) w (plays.wants m.program all.program) t
