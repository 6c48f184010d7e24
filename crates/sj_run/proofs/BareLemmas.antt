-- What no entry of a log reports of an end: its cache, and how often it was delegated. A row does
-- without these what it does with them.
use Rattle.std.proofs.Common.{◌≡◌, ◌∙◌, ℕ, ◌==◌, ◌+◌, ◌&&◌, Bool, true, false, not, if◌then◌else◌, List, [], ◌∷◌, length, Option, Some, None, option_map, option_and_then, refl, sym, ap}
use Rattle.std.specs.Prelude.{nat_le}
use Rattle.sj_rules.specs.Record.{EndAt, BodyAt, Carry, Fin, Claim, Signal, Ack, Give, Open, Mail, HeldAt, MainAt, Held, Closed, Expected, OldAt, Parked, Signalled, other_end}
use Rattle.sj_rules.specs.Rows.{Worked, with_first, with_last, signal_fits, passive, passive_closed, with_end, at_held, worked_record, resend_fits, resent_at, install}

-- what a row leaves, seen by g, whatever it sends
abbrev pub state_by : {P X Y : Type 0} → (X → Y) → Option (Worked P X) → Option Y
state_by g o = option_map (λ w. g w.state) o

-- of a choice
pub either_by : {P X Y : Type 0} (g : X → Y) (b : Bool) (o p : Option (Worked P X)) → state_by g o ≡ state_by g p → state_by g (if b then o else None) ≡ state_by g (if b then p else None)
either_by g true o p e = e
either_by g false o p e = refl

-- of what is made of another answer
pub made_by : {P A X Y : Type 0} (g : X → Y) (make : A → Worked P X) (h : A → Y) → ((a : A) → g (make a).state ≡ h a) → (o : Option A) → state_by g (option_map make o) ≡ option_map h o
made_by g make h e None = refl
made_by g make h e (Some a) = ap Some (e a)

-- of what is made of what a row left
pub left_by : {P A B X Y : Type 0} (g : X → Y) (make : Worked P A → Worked P X) (f : A → B) (h : B → Y) → ((w : Worked P A) → g (make w).state ≡ h (f w.state)) → (o : Option (Worked P A))
    → state_by g (option_map make o) ≡ option_map h (state_by f o)
left_by g make f h e None = refl
left_by g make f h e (Some w) = ap Some (e w)

module _ {P : Type 0} where
  abbrev pub bare_end : EndAt P → EndAt P
  bare_end e = record { id = e.id; place = e.place; conn = e.conn; peer = e.peer; sent = e.sent; taken = e.taken; base = e.base; cache = []; hops = 0 }

  abbrev pub bare_held : HeldAt P → HeldAt P
  bare_held h = record { end = bare_end h.end; untaken = h.untaken; fin = h.fin }

  abbrev pub bare_main : MainAt P → MainAt P
  bare_main (Held h) = Held (bare_held h)
  bare_main (Closed e) = Closed (bare_end e)
  bare_main (Expected keeper place deferred) = Expected keeper place deferred

  abbrev pub bare_old : OldAt P → OldAt P
  bare_old (Parked e) = Parked (bare_end e)
  bare_old (Signalled e to) = Signalled (bare_end e) to

  module _ (pick : ℕ → ℕ → ℕ) where
    pub passive_bare : (e : EndAt P) (origin conn party taken : ℕ) → state_by bare_end (passive pick (bare_end e) origin conn party taken) ≡ state_by bare_end (passive pick e origin conn party taken)
    passive_bare e origin conn party taken = either_by bare_end (signal_fits e origin conn taken) (Some _) (Some _) refl

    pub closed_bare : (e : EndAt P) (origin conn party taken : ℕ) → state_by bare_end (passive_closed pick (bare_end e) origin conn party taken) ≡ state_by bare_end (passive_closed pick e origin conn party taken)
    closed_bare e origin conn party taken =
        let last = record { party = party; body = Fin (other_end e.id) (e.conn + 1) e.sent } ∷ [] in
        left_by bare_end (with_last last) bare_end (λ x. x) (λ w. refl) (passive pick (bare_end e) origin conn party taken)
        ∙ ap (option_map (λ x. x)) (passive_bare e origin conn party taken)
        ∙ sym (left_by bare_end (with_last last) bare_end (λ x. x) (λ w. refl) (passive pick e origin conn party taken))

    pub held_bare : (h : HeldAt P) (origin : ℕ) (b : BodyAt P) → state_by bare_held (at_held pick (bare_held h) origin b) ≡ state_by bare_held (at_held pick h origin b)
    held_bare h origin (Carry to conn number taken msg) =
        either_by bare_held ((conn == h.end.conn) && (origin == h.end.peer) && not h.fin && (number == h.end.taken + length h.untaken) && nat_le h.end.base taken && nat_le taken h.end.sent) (Some _) (Some _) refl
    held_bare h origin (Fin to conn number) =
        either_by bare_held ((conn == h.end.conn) && (origin == h.end.peer) && not h.fin && (number == h.end.taken + length h.untaken)) (Some _) (Some _) refl
    held_bare h origin (Signal to conn party taken) =
        let held_at : EndAt P → HeldAt P = λ e. record { end = e; untaken = h.untaken; fin = h.fin } in
        left_by bare_held (with_end (bare_held h)) bare_end held_at (λ w. refl) (passive pick (bare_end h.end) origin conn party taken)
        ∙ ap (option_map held_at) (passive_bare h.end origin conn party taken)
        ∙ sym (left_by bare_held (with_end h) bare_end held_at (λ w. refl) (passive pick h.end origin conn party taken))
    held_bare h origin (Claim of) = refl
    held_bare h origin (Ack of conn) = refl
    held_bare h origin (Give e resend) = refl
    held_bare h origin (Open sess) = refl

    first_by : (posts : List (Mail P)) (o : Option (Worked P (HeldAt P))) → state_by bare_held (option_map (with_first posts) o) ≡ state_by bare_held o
    first_by posts None = refl
    first_by posts (Some w) = refl

    -- deferred frames at two records that are the same without these
    worked_alike : (ms : List (Mail P)) (k h : HeldAt P) → bare_held k ≡ bare_held h → state_by bare_held (worked_record pick k ms) ≡ state_by bare_held (worked_record pick h ms)
    worked_alike [] k h e = ap Some e
    worked_alike (m ∷ ms) k h e =
        then_alike (at_held pick k m.party m.body) (at_held pick h m.party m.body) (worked_alike ms)
        (sym (held_bare k m.party m.body) ∙ ap (λ x. state_by bare_held (at_held pick x m.party m.body)) e ∙ held_bare h m.party m.body)
      where
        then_alike : (o p : Option (Worked P (HeldAt P))) → ((k h : HeldAt P) → bare_held k ≡ bare_held h → state_by bare_held (worked_record pick k ms) ≡ state_by bare_held (worked_record pick h ms))
            → state_by bare_held o ≡ state_by bare_held p
            → state_by bare_held (option_and_then (λ w. option_map (with_first w.posts) (worked_record pick w.state ms)) o)
            ≡ state_by bare_held (option_and_then (λ w. option_map (with_first w.posts) (worked_record pick w.state ms)) p)
        then_alike None None rest s = refl
        then_alike None (Some w) rest s = absurd (cc s)
        then_alike (Some v) None rest s = absurd (cc s)
        then_alike (Some v) (Some w) rest s =
            let same : bare_held v.state ≡ bare_held w.state = cc s in
            first_by v.posts (worked_record pick v.state ms) ∙ rest v.state w.state same ∙ sym (first_by w.posts (worked_record pick w.state ms))

    -- an end that is given, which gets its place where it comes
    pub install_alike : (place : P) (deferred : List (Mail P)) (d e : EndAt P) (resend : Option ℕ) → bare_end (record d { place = place }) ≡ bare_end (record e { place = place })
        → state_by bare_held (install pick place deferred d resend) ≡ state_by bare_held (install pick place deferred e resend)
    install_alike place deferred d e resend same =
        (λ i. state_by bare_held (if fits_as i then option_map (with_first (resent_at d resend)) (worked_record pick (held_as d) deferred) else None))
        ∙ either_by bare_held (resend_fits e resend) _ _
        (first_by (resent_at d resend) (worked_record pick (held_as d) deferred)
        ∙ worked_alike deferred (held_as d) (held_as e) (λ i. record { end = same i; untaken = []; fin = false })
        ∙ sym (first_by (resent_at e resend) (worked_record pick (held_as e) deferred)))
      where
        held_as : EndAt P → HeldAt P
        held_as x = record { end = record x { place = place }; untaken = []; fin = false }

        fits_by : (r : Option ℕ) → resend_fits d r ≡ resend_fits e r
        fits_by None = refl
        fits_by (Some n) = ap (λ (x : EndAt P). nat_le x.base n && nat_le n x.sent) same

        fits_as : resend_fits d resend ≡ resend_fits e resend
        fits_as = fits_by resend
