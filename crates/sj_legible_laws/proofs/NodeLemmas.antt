-- What comes to a party leaves records that have only ends and messages of the file.
use Rattle.std.proofs.Common.{◌≡◌, ℕ, ◌==◌, ◌&&◌, [], ◌∷◌, ◌++◌, Option, Some, None, refl, arith}
use Rattle.std.specs.Prelude.{is_none, ⊤}
use Rattle.sj_base.specs.declared.EndId.{EndId}
use Rattle.sj_lang.specs.FileAt.{FileAt}
use Rattle.sj_rules.specs.Record.{EndAt, BodyAt, Carry, Fin, Claim, Signal, Ack, Give, Open, MainAt, Held, Closed, Expected, OldAt, Parked, Signalled, offered_end}
use Rattle.sj_rules.specs.Rows.{Worked, passive, passive_closed, crossing_body, acked_body, at_held, install}
use Rattle.sj_rules.specs.Node.{NodeAt, with_main, with_number, held_after, closed_after, parked_after, given_after, at_main, plain_comes, signal_comes, ack_comes, claim_comes, give_comes, open_comes, comes_or_opens}
use Rattle.sj_rules.specs.Opened.{new_held, is_opened_by}
use Rattle.sj_joined_lemmas.proofs.LateLemmas.{all_joined}
use Rattle.sj_rules_laws.proofs.WithinRowLemmas.{by_map, by_test, by_some}
use Rattle.sj_log.specs.Legible.{IsCount, HasParty}
use Rattle.sj_legible_laws.proofs.LegibleParts.{EndTold, BodyTold, MailTold, OldTold, OfferTold, NodeTold, WorkedTold}
use Rattle.sj_legible_laws.proofs.RecordLemmas.{main_of, no_main, old_of, no_old, put_offers}
use Rattle.sj_legible_laws.proofs.RowLemmas.{other_told, passive_told, passive_closed_told, crossed_told, acked_told, at_held_told, install_told}

module _ {P Q : Type 0} (file : FileAt) (Knows : Q → Type 0) where
  module _ (pick : ℕ → ℕ → ℕ) (m : NodeAt P Q) (all : NodeTold file Knows m) (origin : ℕ) (from : HasParty file origin) where
    abbrev Fits : Worked P (NodeAt P Q) → Type 0
    Fits w = WorkedTold file Knows w

    closed_comes : (e : EndId) (body : BodyAt P) (c : EndAt P) (w : Worked P (NodeAt P Q)) → EndTold file c → at_main pick m origin e body (Some (Closed c)) ≡ Some w → Fits w
    closed_comes e (Signal to conn party taken) c w own h =
        by_map Fits (closed_after m e) (passive_closed pick c origin conn party taken) w h (λ x k.
        let p = passive_closed_told file pick c origin conn party taken x own k in
        record { node = main_of file Knows m e (Closed x.state) all p.0; posts = p.1 })
    closed_comes e (Fin to conn number) c w own h =
        by_test Fits ((conn == c.conn) && (origin == c.peer) && (number == c.taken)) _ w h (λ k. by_some Fits _ w k (record { node = no_main file Knows m e all; posts = tt }))
    closed_comes e (Carry to conn number taken msg) c w own h = cc
    closed_comes e (Claim of) c w own h = cc
    closed_comes e (Ack of conn) c w own h = cc
    closed_comes e (Give g resend) c w own h = cc
    closed_comes e (Open sess) c w own h = cc

    main_comes : (e : EndId) (body : BodyAt P) (r : Option (MainAt P)) (w : Worked P (NodeAt P Q)) → m.main e ≡ r → BodyTold file body → at_main pick m origin e body r ≡ Some w → Fits w
    main_comes e body None w there said h = cc
    main_comes e body (Some (Expected keeper place deferred)) w there said h =
        let own = all.mains e (Expected keeper place deferred) there in
        by_some Fits _ w h (record {
          node = main_of file Knows m e (Expected keeper place (deferred ++ record { party = origin; body = body } ∷ [])) all
              (all_joined (MailTold file) deferred (record { party = origin; body = body } ∷ []) own (said, tt));
          posts = tt;
        })
    main_comes e body (Some (Held g)) w there said h =
        by_map Fits (held_after m e) (at_held pick g origin body) w h (λ x k.
        let p = at_held_told file pick g origin body x (all.mains e (Held g) there) said k in
        record { node = main_of file Knows m e (Held x.state) all p.0; posts = p.1 })
    main_comes e body (Some (Closed c)) w there said h = closed_comes e body c w (all.mains e (Closed c) there) h

    numbered_old : (e : EndId) (conn : ℕ) (o : Option (OldAt P)) (x : OldAt P) → m.old e ≡ o → with_number conn o ≡ Some x → OldTold file x
    numbered_old e conn None x there h = cc
    numbered_old e conn (Some (Parked p)) x there h = by_test (OldTold file) (p.conn == conn) (Some (Parked p)) x h (λ k. by_some (OldTold file) (Parked p) x k (all.olds e (Parked p) there))
    numbered_old e conn (Some (Signalled p to)) x there h =
        by_test (OldTold file) (p.conn == conn) (Some (Signalled p to)) x h (λ k. by_some (OldTold file) (Signalled p to) x k (all.olds e (Signalled p to) there))

    dropped_or : (e : EndId) (body : BodyAt P) (o : Option (OldAt P)) (w : Worked P (NodeAt P Q)) → BodyTold file body → plain_comes pick m origin e body o ≡ Some w → Fits w
    dropped_or e body None w said h = main_comes e body (m.main e) w refl said h
    dropped_or e body (Some (Parked p)) w said h = by_test Fits (origin == p.peer) _ w h (λ k. by_some Fits _ w k (record { node = all; posts = tt }))
    dropped_or e body (Some (Signalled p to)) w said h = by_test Fits (origin == p.peer) _ w h (λ k. by_some Fits _ w k (record { node = all; posts = tt }))

    signalled_or : (e : EndId) (conn party taken : ℕ) (o : Option (OldAt P)) (w : Worked P (NodeAt P Q)) → with_number conn (m.old e) ≡ o → BodyTold file {P = P} (Signal e conn party taken) → IsCount taken
        → signal_comes pick m origin e conn party taken o ≡ Some w → Fits w
    signalled_or e conn party taken None w there said few h = main_comes e (Signal e conn party taken) (m.main e) w refl said h
    signalled_or e conn party taken (Some (Parked p)) w there said few h =
        by_map Fits (parked_after m e) (passive pick p origin conn party taken) w h (λ x k.
        let q = passive_told file pick p origin conn party taken x (numbered_old e conn (m.old e) (Parked p) refl there) k in
        record { node = old_of file Knows m e (Parked x.state) all q.0; posts = q.1 })
    signalled_or e conn party taken (Some (Signalled p to)) w there said few h =
        by_map Fits (given_after m e to) (crossing_body pick p origin conn party taken) w h (λ b k.
        record { node = no_old file Knows m e all; posts = (crossed_told file pick p origin conn party taken b (numbered_old e conn (m.old e) (Signalled p to) refl there) few k, tt) })

    ack_or : (e : EndId) (conn : ℕ) (o : Option (OldAt P)) (w : Worked P (NodeAt P Q)) → with_number conn (m.old e) ≡ o → ack_comes m origin e conn o ≡ Some w → Fits w
    ack_or e conn None w there h = cc
    ack_or e conn (Some (Parked p)) w there h = cc
    ack_or e conn (Some (Signalled p to)) w there h =
        by_map Fits (given_after m e to) (acked_body p origin conn) w h (λ b k.
        record { node = no_old file Knows m e all; posts = (acked_told file p origin conn b (numbered_old e conn (m.old e) (Signalled p to) refl there) k, tt) })

    claim_or : (e : EndId) (o : Option (OldAt P)) (w : Worked P (NodeAt P Q)) → m.old e ≡ o → claim_comes m origin e o ≡ Some w → Fits w
    claim_or e None w there h = cc
    claim_or e (Some (Signalled p to)) w there h = cc
    claim_or e (Some (Parked p)) w there h =
        let own = all.olds e (Parked p) there in
        by_some Fits _ w h (record { node = old_of file Knows m e (Signalled p origin) all own; posts = (other_told p.id own.id, tt) })

    give_or : (g : EndAt P) (resend : Option ℕ) (o : Option (MainAt P)) (w : Worked P (NodeAt P Q)) → EndTold file g → m.main g.id ≡ o → give_comes pick m origin g resend o ≡ Some w → Fits w
    give_or g resend None w own there h = cc
    give_or g resend (Some (Held k)) w own there h = cc
    give_or g resend (Some (Closed k)) w own there h = cc
    give_or g resend (Some (Expected keeper place deferred)) w own there h =
        by_test Fits (is_none (m.old g.id) && (origin == keeper)) _ w h (λ k.
        by_map Fits (held_after m g.id) (install pick place deferred g resend) w k (λ x t.
        let p = install_told file pick place deferred g resend x own (all.mains g.id (Expected keeper place deferred) there) t in
        record { node = main_of file Knows m g.id (Held x.state) all p.0; posts = p.1 }))

    -- an Open: its session is offered from there
    opened_told : (blank : P) (sess : ℕ) (w : Worked P (NodeAt P Q)) → IsCount sess → open_comes blank m origin sess ≡ Some w → Fits w
    opened_told blank sess w few h =
        by_test Fits (is_opened_by origin sess && is_none (m.main (offered_end sess)) && is_none (m.old (offered_end sess))) _ w h (λ k.
        by_some Fits _ w k (record {
          node = put_offers file Knows (with_main (offered_end sess) (Some (Held (new_held (offered_end sess) blank origin))) m) origin (m.offers origin ++ sess ∷ [])
              (main_of file Knows m (offered_end sess) (Held (new_held (offered_end sess) blank origin)) all (record { id = (few, omega arith); cache = tt }, tt))
              (all_joined (OfferTold file origin) (m.offers origin) (sess ∷ []) (all.offers origin) ((few, from), tt));
          posts = tt;
        }))

    -- what a Signal reports as taken is a count
    abbrev pub TellsFew : BodyAt P → Type 0
    TellsFew (Signal to conn party taken) = IsCount taken
    TellsFew _ = ⊤

    pub comes_told : (blank : P) (body : BodyAt P) (w : Worked P (NodeAt P Q)) → BodyTold file body → TellsFew body → comes_or_opens blank pick m origin body ≡ Some w → WorkedTold file Knows w
    comes_told blank (Carry to conn number taken msg) w said few h = dropped_or to (Carry to conn number taken msg) (with_number conn (m.old to)) w said h
    comes_told blank (Fin to conn number) w said few h = dropped_or to (Fin to conn number) (with_number conn (m.old to)) w said h
    comes_told blank (Claim of) w said few h = claim_or of (m.old of) w refl h
    comes_told blank (Signal to conn party taken) w said few h = signalled_or to conn party taken (with_number conn (m.old to)) w refl said few h
    comes_told blank (Ack of conn) w said few h = ack_or of conn (with_number conn (m.old of)) w refl h
    comes_told blank (Give g resend) w said few h = give_or g resend (m.main g.id) w said.0 refl h
    comes_told blank (Open sess) w said few h = opened_told blank sess w said h
