-- The act of a party in a world with several seats, and what the rules see of it, are one.
use Rattle.std.proofs.Common.{◌≡◌, ℕ, ◌==◌, Bool, true, false, cond, Option, Some, None, option_map, refl, ap, sym, ◌∙◌}
use Rattle.std.proofs.lemmas.Bool.{eqb-false, eqb-true}
use Rattle.sj_lang.specs.FileAt.{FileAt}
use Rattle.sj_lang.specs.Place.{Place}
use Rattle.sj_semantics.specs.Program.{Program}
use Rattle.sj_semantics.specs.World.{World, act_of}
use Rattle.sj_rules.specs.Moves.{plain_act}
use Rattle.sj_rules.specs.Node.{Play}
use Rattle.sj_rules.specs.Plain.{plain_at}
use Rattle.sj_rules.specs.PlainSide.{PlainAt}
use Rattle.sj_rules_laws.proofs.LawfulLemmas.{act_is_seen}
use Rattle.sj_rules_laws.proofs.ProperRunLemmas.{size_of}
use Rattle.sj_seat_laws.specs.Calls.{SeatedAt}
use Rattle.sj_seat_laws.specs.SeatedPlay.{Player, seated, seated_play, written}
use Rattle.sj_seat_laws.specs.SeatedWorld.{Doing, SeatedWorld, after_doing, beside, doing_of}
use Rattle.sj_seat_laws.specs.SeatsWorld.{SeatsWorld, all_beside, player_by, seat_of, seats_act, seats_act_by, seats_seen, with_seat}
use Rattle.sj_seat_laws.proofs.SeatsLemmas.{IsSeats, altered_seat, seat_in, seat_now, seat_other}
use Rattle.sj_seat_laws.proofs.SeenLemmas.{act_lift, lift, map_twice, own_seen, seen_beside}

module _ (file : FileAt) (n : ℕ) (t : SeatsWorld) (i : IsSeats file n t) where
  abbrev w : World
  w = t.world

  abbrev play : Play Place Player
  play = seated_play file

  abbrev who : ℕ → Program → Player
  who r g = player_by (seat_of t.seats r) g

  abbrev base : ℕ → Player
  base r = who r ((plain_at w).programs r)

  -- ---- a party that is played by code

  module _ (q : ℕ) (s : SeatedAt) (at : seat_of t.seats q ≡ Some s) where
    abbrev view : SeatedWorld
    view = beside s w

    abbrev near : SeatedWorld → PlainAt Place Player
    near = seen_beside file q view (seat_in file n t i q s at) base

    before_at : (r : ℕ) (b : Bool) → (r == q) ≡ b → base r ≡ cond b (seated s) (base r)
    before_at r true is = ap (λ o. player_by o ((plain_at w).programs r)) (ap (seat_of t.seats) (eqb-true r q is) ∙ at)
    before_at r false is = refl

    before_seen : seats_seen t ≡ near view
    before_seen =
        let programs : (r : ℕ) → base r ≡ cond (r == q) (seated s) (base r) = λ r. before_at r (r == q) refl in
        λ j. record { programs = λ r. programs r j; sides = (plain_at w).sides; requests = (plain_at w).requests; offers = (plain_at w).offers }

    after_at : (u : SeatedAt) (r : ℕ) (b : Bool) → (r == q) ≡ b → player_by (seat_of (altered_seat t.seats q (Some u)) r) ((plain_at w).programs r) ≡ cond b (seated u) (base r)
    after_at u r true is = ap (λ o. player_by o ((plain_at w).programs r)) (ap (seat_of (altered_seat t.seats q (Some u))) (eqb-true r q is) ∙ seat_now t.seats q s at u)
    after_at u r false is = ap (λ o. player_by o ((plain_at w).programs r)) (seat_other t.seats q s at u r (λ it. eqb-false r q is (sym it)))

    after_seen : (d : Doing) → near (after_doing q view d) ≡ seats_seen (with_seat q t.seats (after_doing q view d))
    after_seen d =
        let u : SeatedWorld = after_doing q view d in
        let programs : (r : ℕ) → cond (r == q) (seated u.seat) (base r) ≡ player_by (seat_of (altered_seat t.seats q (Some u.seat)) r) ((plain_at w).programs r) = λ r. sym (after_at u.seat r (r == q) refl) in
        λ j. record { programs = λ r. programs r j; sides = (plain_at u.world).sides; requests = (plain_at u.world).requests; offers = (plain_at u.world).offers }

    alike : {X Y : Type 0} (f g : X → Y) → ((x : X) → f x ≡ g x) → (o : Option X) → option_map f o ≡ option_map g o
    alike f g same None = refl
    alike f g same (Some x) = ap Some (same x)

    seat_seen : plain_act play (seats_seen t) q ≡ option_map (λ d. seats_seen (with_seat q t.seats (after_doing q view d))) (doing_of q view)
    seat_seen =
        ap (λ (x : PlainAt Place Player). plain_act play x q) before_seen ∙ own_seen file q view (seat_in file n t i q s at) base
        ∙ alike (λ d. near (after_doing q view d)) (λ d. seats_seen (with_seat q t.seats (after_doing q view d))) after_seen (doing_of q view)

  -- ---- a party that goes by the file

  file_seen : (q : ℕ) → seat_of t.seats q ≡ None → plain_act play (seats_seen t) q ≡ option_map (λ v. seats_seen (all_beside t.seats v)) (act_of w q)
  file_seen q at =
      let goes_by : (g : Program) → who q g ≡ written g = λ g. ap (λ o. player_by o g) at in
      act_lift file who q goes_by (plain_at w) ∙ ap (option_map (lift file who q goes_by)) (act_is_seen file (size_of file) w i.sound i.proper q)
      ∙ map_twice (lift file who q goes_by) plain_at (λ v. seats_seen (all_beside t.seats v)) (λ v. refl) (act_of w q)

  -- ---- whoever it is

  by_party : (q : ℕ) (o : Option SeatedAt) → seat_of t.seats q ≡ o → plain_act play (seats_seen t) q ≡ option_map seats_seen (seats_act_by t q o)
  by_party q None at = file_seen q at ∙ sym (map_twice seats_seen (all_beside t.seats) (λ v. seats_seen (all_beside t.seats v)) (λ v. refl) (act_of w q))
  by_party q (Some s) at =
      seat_seen q s at
      ∙ sym (map_twice seats_seen (λ d. with_seat q t.seats (after_doing q (beside s w) d)) (λ d. seats_seen (with_seat q t.seats (after_doing q (beside s w) d))) (λ d. refl) (doing_of q (beside s w)))

  pub seats_act_is_seen : (q : ℕ) → plain_act play (seats_seen t) q ≡ option_map seats_seen (seats_act t q)
  seats_act_is_seen q = by_party q (seat_of t.seats q) refl
