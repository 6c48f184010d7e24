-- Two plays that agree where a node asks do the same there.
use Rattle.std.proofs.Common.{◌≡◌, ℕ, ◌+◌, ◌&&◌, if◌then◌else◌, List, [], ◌∷◌, Option, Some, None, option_map, refl, ap, ◌∙◌}
use Rattle.std.specs.Prelude.{nat_lt}
use Rattle.sj_base.specs.declared.EndId.{EndId}
use Rattle.sj_base.specs.declared.Msg.{Msg}
use Rattle.sj_base.specs.declared.Msg.TheVariants as msgs
use Rattle.sj_lang.specs.declared.proto.Way.{Way}
use Rattle.sj_lang.specs.declared.proto.Way.TheVariants.{Out, Into}
use Rattle.sj_rules.specs.Limits.{limit_of_hops, limit_of_requests}
use Rattle.sj_rules.specs.Record.{Carry, Fin, Open, HeldAt, MainAt, Held, Closed, Expected, Parked, other_end, requested_end, offered_end}
use Rattle.sj_rules.specs.Opened.{opened_number, new_held, smallest, without}
use Rattle.sj_rules.specs.Rows.{Worked}
use Rattle.sj_rules.specs.Node.{Want, ended, local, sends, delegates, takes, closes, requests, accepts, Play, NodeAt, put, with_main, with_old, with_offers, quietly, held_behind_send, held_behind_take, send_act, delegate_act, work_of_take, is_free, take_from, take_act, close_act, held_at, accept_session, accept_offered, act_by, acts}

-- what a node asks of a play: the message at the head of the end from which it takes is all that it
-- tests
pub record AgreeAt {P Q : Type 0} (other play : Play P Q) (n : NodeAt P Q) : Type 0 where
  pub next : (place : P) (way : Way) (m : Msg) → other.next place way m ≡ play.next place way m
  pub over : (place : P) → other.is_over place ≡ play.is_over place
  pub wants : other.wants n.program ≡ play.wants n.program
  pub goes : (m : Option Msg) → other.goes n.program m ≡ play.goes n.program m
  pub opened : (e : EndId) → other.opened n.program e ≡ play.opened n.program e
  pub worn : other.is_worn n.program ≡ play.is_worn n.program
  pub fits : (e : EndId) (place : P) (h : HeldAt P) (m : Msg) (rest : List Msg) → play.wants n.program ≡ takes e place → n.main e ≡ Some (Held h) → h.untaken ≡ m ∷ rest →
      other.fits n.program m ≡ play.fits n.program m

module _ {P Q : Type 0} (other play : Play P Q) where
  -- a send, at a node with that program
  send_alike : (n : NodeAt P Q) → ((place : P) (way : Way) (m : Msg) → other.next place way m ≡ play.next place way m) → other.goes n.program None ≡ play.goes n.program None →
      (e : EndId) (msg : Msg) (o : Option (MainAt P)) → send_act other n e msg o ≡ send_act play n e msg o
  send_alike n next goes e msg None = refl
  send_alike n next goes e msg (Some (Closed c)) = refl
  send_alike n next goes e msg (Some (Expected keeper place ds)) = refl
  send_alike n next goes e msg (Some (Held h)) =
      ap (option_map (sent (other.goes n.program None))) (next h.end.place Out msg) ∙ ap (λ g. option_map (sent g) (play.next h.end.place Out msg)) goes
    where
      sent : Q → P → Worked P (NodeAt P Q)
      sent g place = record {
        state = with_main e (Some (Held (held_behind_send h msg place))) (record n { program = g });
        posts = record { party = h.end.peer; body = Carry (other_end h.end.id) h.end.conn h.end.sent h.end.taken msg } ∷ [];
      }

  module _ (p : ℕ) (n : NodeAt P Q) (agree : AgreeAt other play n) where
    delegate_alike : (carrier e : EndId) (o : Option (MainAt P)) → delegate_act other p n carrier e o ≡ delegate_act play p n carrier e o
    delegate_alike carrier e None = refl
    delegate_alike carrier e (Some (Closed c)) = refl
    delegate_alike carrier e (Some (Expected keeper place ds)) = refl
    delegate_alike carrier e (Some (Held h)) =
        ap (λ o. if nat_lt h.end.hops limit_of_hops then o else None)
        (send_alike (with_main e None (with_old e (Some (Parked (record h.end { hops = h.end.hops + 1 }))) n)) agree.next (agree.goes None) carrier (msgs.Sess e.sess e.side p) (put e None n.main carrier))

    take_alike : (e : EndId) (place : P) → play.wants n.program ≡ takes e place → (o : Option (MainAt P)) → n.main e ≡ o → take_act other n e place o ≡ take_act play n e place o
    take_alike e place want None there = refl
    take_alike e place want (Some (Closed c)) there = refl
    take_alike e place want (Some (Expected keeper q ds)) there = refl
    take_alike e place want (Some (Held h)) there = by h.untaken refl
      where
        took : List Msg → Msg → Q → P → Worked P (NodeAt P Q)
        took rest m g after = work_of_take place m (with_main e (Some (Held (held_behind_take h rest after))) (record n { program = g }))

        by : (ms : List Msg) → h.untaken ≡ ms → take_from other n e place h ms ≡ take_from play n e place h ms
        by [] head = refl
        by (m ∷ rest) head =
            ap (λ b. if b && is_free n m then option_map (took rest m (other.goes n.program (Some m))) (other.next h.end.place Into m) else None) (agree.fits e place h m rest want there head)
            ∙ ap (λ g. if play.fits n.program m && is_free n m then option_map (took rest m g) (other.next h.end.place Into m) else None) (agree.goes (Some m))
            ∙ ap (λ o. if play.fits n.program m && is_free n m then option_map (took rest m (play.goes n.program (Some m))) o else None) (agree.next h.end.place Into m)

    close_alike : (e : EndId) (o : Option (MainAt P)) → close_act other n e o ≡ close_act play n e o
    close_alike e None = refl
    close_alike e (Some (Closed c)) = refl
    close_alike e (Some (Expected keeper place ds)) = refl
    close_alike e (Some (Held h)) =
        ap (λ b. if b then Some (closed (other.goes n.program None)) else None) (agree.over h.end.place)
        ∙ ap (λ g. if play.is_over h.end.place then Some (closed g) else None) (agree.goes None)
      where
        closed : Q → Worked P (NodeAt P Q)
        closed g = record {
          state = with_main e (if h.fin then None else Some (Closed h.end)) (record n { program = g });
          posts = record { party = h.end.peer; body = Fin (other_end h.end.id) h.end.conn h.end.sent } ∷ [];
        }

    session_alike : (place : P) (from sess : ℕ) (o : Option (MainAt P)) → accept_session other n place from sess o ≡ accept_session play n place from sess o
    session_alike place from sess None = refl
    session_alike place from sess (Some (Closed c)) = refl
    session_alike place from sess (Some (Expected keeper q ds)) = refl
    session_alike place from sess (Some (Held h)) =
        ap (λ g. Some (quietly (with_offers from (without sess (n.offers from)) (with_main (offered_end sess) (Some (Held (held_at place h))) (record n { program = g })))))
        (agree.opened (offered_end sess))

    accept_alike : (place : P) (from : ℕ) (o : Option ℕ) → accept_offered other n place from o ≡ accept_offered play n place from o
    accept_alike place from None = refl
    accept_alike place from (Some sess) = session_alike place from sess (n.main (offered_end sess))

    by_alike : (want : Want P) → play.wants n.program ≡ want → act_by other p n want ≡ act_by play p n want
    by_alike ended is = refl
    by_alike local is = ap (λ g. Some (quietly (record n { program = g }))) (agree.goes None)
    by_alike (sends e msg) is = send_alike n agree.next (agree.goes None) e msg (n.main e)
    by_alike (delegates carrier e) is = delegate_alike carrier e (n.main e)
    by_alike (takes e place) is = take_alike e place is (n.main e) refl
    by_alike (closes e) is = close_alike e (n.main e)
    by_alike (requests place to) is = ap (λ g. if nat_lt n.requests limit_of_requests then Some (opened (opened_number p n.requests) g) else None) (agree.opened (requested_end (opened_number p n.requests)))
      where
        opened : ℕ → Q → Worked P (NodeAt P Q)
        opened sess g = record {
          state = with_main (requested_end sess) (Some (Held (new_held (requested_end sess) place to))) (record n { program = g; requests = n.requests + 1 });
          posts = record { party = to; body = Open sess } ∷ [];
        }
    by_alike (accepts place from) is = accept_alike place from (smallest (n.offers from))

    -- so does the next step of the program
    pub acts_alike : acts other p n ≡ acts play p n
    acts_alike =
        ap (λ b. if b then None else act_by other p n (other.wants n.program)) agree.worn
        ∙ ap (λ want. if play.is_worn n.program then None else act_by other p n want) agree.wants
        ∙ ap (λ o. if play.is_worn n.program then None else o) (by_alike (play.wants n.program) refl)
