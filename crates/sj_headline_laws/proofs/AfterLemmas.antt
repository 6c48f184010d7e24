-- What a step leaves: pairs that are balanced, and the party's program.
use Rattle.std.proofs.Common.{◌≡◌, ℕ, ◌≤◌, true, false, List, slice_get, Some, unwrap_or, sum_by, ap, sym, ◌∙◌, arith, subst}
use Rattle.sj_base.specs.declared.EndId.{EndId}
use Rattle.sj_base.specs.declared.Msg.{Msg}
use Rattle.sj_base.specs.declared.Msg.TheVariants as msgs
use Rattle.sj_lang.specs.declared.proto.Way.TheVariants.{Out, Into}
use Rattle.sj_lang.specs.Place.{Place, done, message, session}
use Rattle.sj_lang.specs.Meet.{StandsFor}
use Rattle.sj_lang.specs.After.{after_place}
use Rattle.sj_lang.specs.FileAt.{ProtocolAt, body_named, named}
use Rattle.sj_semantics.specs.declared.Awaits.{Awaits}
use Rattle.sj_semantics.specs.declared.Awaits.TheVariants as awaits
use Rattle.sj_semantics.specs.declared.Passed.{Passed}
use Rattle.sj_semantics.specs.Balanced.{FitsNext}
use Rattle.sj_semantics.specs.Program.{Program}
use Rattle.sj_semantics.specs.Steps.{sent_of, took_of}
use Rattle.sj_semantics.specs.World.{World, session_message, begun_at}
use Rattle.sj_semantics.specs.Ends.{Session, other_end, end_at, next_for, is_end}
use Rattle.sj_semantics.specs.Uses.{sends, takes, delegates, begins, after_uses}
use Rattle.sj_semantics_laws.specs.Bound.{IsBound}
use Rattle.sj_semantics_laws.specs.Unshared.{bindings_of, names_end, carried_in, IsUnshared}
use Rattle.sj_semantics_laws.proofs.BoundLemmas.{is_end-self, is_end_sym_false, named_is_bound}
use Rattle.sj_semantics_laws.proofs.ClaimLemmas.{one_if, carried-hands_on, carried-takes}
use Rattle.sj_semantics_laws.proofs.EndLemmas.{touched, end_at-touched_other}
use Rattle.sj_headline_laws.proofs.AgreeLemmas.{MovesTo}
use Rattle.sj_headline_laws.proofs.TypedLemmas.{FitsProgram, SendFits, DelegateFits, TakeFits}
use Rattle.sj_headline_laws.proofs.LeadLemmas.{pair_sends, pair_takes, pair_hands}
use Rattle.sj_headline_laws.proofs.BeginPairLemmas.{pair_begins}
use Rattle.sj_headline_laws.proofs.PairLemmas.{fits_kept}
use Rattle.sj_headline_laws.proofs.TouchedLemmas.{side, PairAt, touched_here}
use Rattle.sj_headline_laws.proofs.UnnamedLemmas.{IsUncarried, keeps_by_name, pairs_after, bound_uncarried, named_apart, bindings_once, moves_by, moves_behind, moves_before, hands_places}

abbrev pub AllPairs : List Session → Type 0
AllPairs zs = (s : ℕ) → PairAt zs zs s

-- the sessions are balanced, and the program fits
pub record After (ps : List ProtocolAt) (parties : List ℕ) (new : List Session) (program : Program) : Type 0 where
  pub pairs : AllPairs new
  pub own : FitsProgram ps parties new program

-- ---- sending

-- a send, in sessions in which no message on its way names the end
sent_pairs : (p : ℕ) (zs : List Session) (e : EndId) (m : Msg) (next : Place) → IsUncarried zs e → AllPairs zs → after_place (end_at zs e).place Out m ≡ Some next → FitsNext zs (end_at zs e).place m
    → names_end e m ≡ false → AllPairs (touched p zs (e, sends m))
sent_pairs p zs e m next none pairs after fits apart =
    pairs_after p zs e (sends m) none pairs (λ pair.
    pair_sends (touched p zs (e, sends m)) (end_at zs e) (end_at zs (other_end e)) p m next pair after
    (fits_kept zs (touched p zs (e, sends m)) (end_at zs e).place m (keeps_by_name p zs e (sends m) m apart) fits))

sent_moves : (p : ℕ) (ends : List (ℕ × EndId)) (zs : List Session) (x : ℕ) (e : EndId) (m : Msg) (next : Place) → bindings_of e ends ≤ 1 → named ends x ≡ Some e → after_place (end_at zs e).place Out m ≡ Some next
    → MovesTo ends zs (touched p zs (e, sends m)) x next
sent_moves p ends zs x e m next le it after = moves_by p ends zs x e (sends m) next le it (ap (λ t. unwrap_or t (end_at zs e).place) after)

module _ (ps : List ProtocolAt) (parties : List ℕ) (w : World) (p : ℕ) (g : Program) (one : IsUnshared w) (pairs : AllPairs w.sessions) (there : slice_get w.parties p ≡ Some g) where
  bound_name : (x : ℕ) (e : EndId) → named g.ends x ≡ Some e → IsBound e g.ends
  bound_name x e h = named_is_bound g.ends x e h

  free_name : (x : ℕ) (e : EndId) → named g.ends x ≡ Some e → IsUncarried w.sessions e
  free_name x e h = bound_uncarried w p g e one there (bound_name x e h)

  pub after_sending : (e : EndId) (m : Msg) → SendFits ps parties w.sessions g e m → names_end e m ≡ false → After ps parties (touched p w.sessions (e, sends m)) (sent_of g)
  after_sending e m s apart = record {
    pairs = sent_pairs p w.sessions e m s.next (free_name s.name e s.is_named) pairs s.after s.fits apart;
    own = s.onward (touched p w.sessions (e, sends m)) (sent_moves p g.ends w.sessions s.name e m s.next (bindings_once w p g e one there) s.is_named s.after);
  }

  -- delegating an end leaves the pairs
  pub handed_pairs : (y : EndId) (x : ℕ) → named g.ends x ≡ Some y → AllPairs (touched p w.sessions (y, delegates))
  handed_pairs y x h =
      pairs_after p w.sessions y delegates (free_name x y h) pairs (λ pair. pair_hands (touched p w.sessions (y, delegates)) (end_at w.sessions y) (end_at w.sessions (other_end y)) p pair)

  pub after_delegating : (e y : EndId) → DelegateFits ps parties w.sessions g e y → is_end e y ≡ false
      → After ps parties (touched p (touched p w.sessions (y, delegates)) (e, sends (session_message y p))) (sent_of g)
  after_delegating e y s apart =
      let mid : List Session = touched p w.sessions (y, delegates) in
      let at : (end_at mid e).place ≡ message Out (session s.kind) s.next = hands_places p w.sessions y e ∙ s.carries in
      let after : after_place (end_at mid e).place Out (session_message y p) ≡ Some s.next = ap (λ t. after_place t Out (session_message y p)) at in
      let fits : FitsNext mid (end_at mid e).place (session_message y p) =
      subst (λ (t : Place). FitsNext mid t (session_message y p)) (sym at) (s.not_empty, subst (λ (t : Place). StandsFor t s.kind) (sym (hands_places p w.sessions y y)) s.stands) in
      let handed : AllPairs mid = handed_pairs y s.sent_name s.sent_named in
      record {
        pairs = sent_pairs p mid e (session_message y p) s.next (omega (arith, free_name s.name e s.is_named, carried-hands_on e p w.sessions y)) handed after fits apart;
        own = s.onward (touched p mid (e, sends (session_message y p)))
            (moves_before g.ends w.sessions mid (touched p mid (e, sends (session_message y p))) s.name s.next (λ n f h. hands_places p w.sessions y f)
            (sent_moves p g.ends mid s.name e (session_message y p) s.next (bindings_once w p g e one there) s.is_named after));
      }

  -- ---- taking

  module _ (e : EndId) (x : Passed) (next : next_for w.sessions e ≡ Some x) where
    abbrev taken : Msg → List Session
    taken m = touched p w.sessions (e, takes m)

    taken_pairs : (m : Msg) → x.msg ≡ m → IsBound e g.ends → AllPairs (taken m)
    taken_pairs m it b =
        subst (λ (n : Msg). AllPairs (taken n)) it
        (pairs_after p w.sessions e (takes x.msg) (bound_uncarried w p g e one there b) pairs (λ pair. pair_takes (taken x.msg) (end_at w.sessions e) (end_at w.sessions (other_end e)) p x pair next))

    taken_moves : (a : Awaits) (m : Msg) (place : Place) → after_place (end_at w.sessions e).place Into m ≡ Some place → (s : TakeFits ps parties w.sessions g e a m place) → MovesTo g.ends w.sessions (taken m) s.name place
    taken_moves a m place after s = moves_by p g.ends w.sessions s.name e (takes m) place (bindings_once w p g e one there) s.is_named (ap (λ r. unwrap_or r (end_at w.sessions e).place) after)

    -- the message names no end of the party
    named_elsewhere : (m : Msg) → x.msg ≡ m → (y f : EndId) → names_end y m ≡ true → IsBound f g.ends → is_end y f ≡ false
    named_elsewhere m it y f names b = named_apart w p g y f e x one there b next (ap (names_end y) it ∙ names)

    -- an end that is named by the message begins at a place for which it stands
    begun_pairs : (m : Msg) → x.msg ≡ m → IsBound e g.ends → (y : EndId) (body : Place) → names_end y m ≡ true → StandsFor (end_at w.sessions y).place body → AllPairs (touched p (taken m) (y, begins body))
    begun_pairs m it b y body names stands =
        let apart : is_end e y ≡ false = is_end_sym_false y e (named_elsewhere m it y e names b) in
        let kept : (end_at (taken m) y).place ≡ (end_at w.sessions y).place = ap (λ t. t.place) (end_at-touched_other p w.sessions (e, takes m) y apart) in
        let free : IsUncarried (taken m) y =
        omega (arith, one.once y, carried-takes y p w.sessions e x next, ap {B = ℕ} one_if (ap (names_end y) it ∙ names), ap (λ (n : Msg). sum_by (carried_in y) (taken n)) it) in
        pairs_after p (taken m) y (begins body) free (taken_pairs m it b)
        (λ pair. pair_begins (touched p (taken m) (y, begins body)) (end_at (taken m) y) (end_at (taken m) (other_end y)) p body pair (subst (λ (t : Place). StandsFor t body) (sym kept) stands))

    pub after_taking : (a : Awaits) (m : Msg) → x.msg ≡ m → (place : Place) → after_place (end_at w.sessions e).place Into m ≡ Some place → TakeFits ps parties w.sessions g e a m place
        → After ps parties (after_uses p (begun_at ps a m) (taken m)) (took_of g m)
    after_taking (awaits.Session q) (msgs.Sess t d k) it place after s =
        let y : EndId = side t d in
        let m : Msg = msgs.Sess t d k in
        let body : Place = body_named ps q in
        let new : List Session = touched p (taken m) (y, begins body) in
        record {
          pairs = begun_pairs m it (bound_name s.name e s.is_named) y body (is_end-self y)
              (subst (λ (t : Place). StandsFor (end_at w.sessions y).place t) (sym (ap (λ o. unwrap_or o done) s.stands.1)) s.stands.2);
          own = s.onward new
              (moves_behind g.ends w.sessions (taken m) new s.name place (taken_moves (awaits.Session q) m place after s)
              (λ n f h. ap (λ u. u.place) (end_at-touched_other p (taken m) (y, begins body) f (named_elsewhere m it y f (is_end-self y) (bound_name n f h)))))
              (ap (λ u. u.place) (touched_here p (taken m) y (begins body)));
        }
    after_taking a m it place after s = record { pairs = taken_pairs m it (bound_name s.name e s.is_named); own = s.onward (taken m) (taken_moves a m place after s) tt }
