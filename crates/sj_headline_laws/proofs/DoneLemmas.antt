-- Where all have ended, everything that was sent was taken.
use Rattle.std.proofs.Common.{◌≡◌, ℕ, zero, suc, ◌+◌, ◌≤◌, ◌<◌, ◌==◌, true, List, [], ◌∷◌, map, slice_get, Some, None, sum_by, refl, ap, sym, subst, ◌∙◌, arith, inl, inr, ◌⊎◌}
use Rattle.std.proofs.lemmas.Bool.{and_parts, eqb-true}
use Rattle.sj_base.specs.declared.EndId.{EndId}
use Rattle.sj_base.specs.declared.Msg.{Msg}
use Rattle.sj_base.specs.declared.Msg.TheVariants as msgs
use Rattle.sj_lang.specs.declared.proto.Way.TheVariants.{Into}
use Rattle.sj_lang.specs.Place.{Place, done, message, choice, repeat}
use Rattle.sj_lang.specs.Meet.{StandsFor}
use Rattle.sj_lang.proofs.MeetLemmas.{stands_for_itself}
use Rattle.sj_lang.specs.After.{after_place}
use Rattle.sj_semantics.specs.declared.Passed.{Passed}
use Rattle.sj_lang.specs.FileAt.{FileAt}
use Rattle.sj_semantics.specs.Balanced.{LeadsTaker}
use Rattle.sj_semantics.specs.World.{World}
use Rattle.sj_semantics.specs.Ends.{Session, EndAt, end_on, other_end, end_at, untaken_for, is_same_side, is_end}
use Rattle.sj_semantics_laws.specs.Unshared.{names_end}
use Rattle.sj_semantics_laws.proofs.AlteredLemmas.{session_in, session-le-sum_by}
use Rattle.sj_semantics_laws.proofs.EndLemmas.{end_at-session}
use Rattle.sj_headline_laws.proofs.DepthLemmas.{depth_of, named_carried}
use Rattle.sj_headline_laws.proofs.LeadLemmas.{coming, Ahead}
use Rattle.sj_headline_laws.proofs.TouchedLemmas.{side, pair_of}
use Rattle.sj_headline_laws.proofs.WorldLemmas.{Sound}
use Rattle.sj_semantics_laws.proofs.FrontLemmas.{end_on_same as same_side_end}

-- an end that is named by a message on its way to f
pub record IsComing (zs : List Session) (e f : EndId) : Type 0 where
  pub number : ℕ
  pub passed : Passed
  pub there : slice_get (coming (end_at zs f) (end_at zs (other_end f))) number ≡ Some passed
  pub names : names_end e passed.msg ≡ true

pub same_end_at : (zs : List Session) (e f : EndId) → is_end e f ≡ true → end_at zs e ≡ end_at zs f
same_end_at zs e f h =
    let parts = and_parts (e.sess == f.sess) (is_same_side e.side f.side) h in
    end_at-session zs e ∙ ap (λ s. end_on e.side (session_in zs s)) (eqb-true e.sess f.sess parts.0) ∙ same_side_end e.side f.side (session_in zs f.sess) parts.1 ∙ sym (end_at-session zs f)

-- ---- a message on its way

ahead_for : (zs : List Session) (a b : EndAt) (j : ℕ) (x : Passed) → slice_get (coming a b) j ≡ Some x → Ahead zs a b ⊎ Ahead zs b a → Ahead zs a b
ahead_for zs a b j x h (inl t) = t
ahead_for zs a b j x h (inr t) = absurd (some_coming (coming a b) h t.nothing_back)
  where
    some_coming : (xs : List Passed) → slice_get xs j ≡ Some x → map (λ y. y.msg) xs ≡ [] → ⊥
    some_coming [] h e = cc
    some_coming (y ∷ xs) h e = cc

named_message : (e : EndId) (m : Msg) → names_end e m ≡ true → (s : ℕ) × ((d : ℕ) × ((j : ℕ) × ((m ≡ msgs.Sess s d j) × (is_end e (side s d) ≡ true))))
named_message e (msgs.Sess s d j) h = (s, (d, (j, (refl, h))))
named_message e (msgs.Int n) h = cc
named_message e (msgs.Bool n) h = cc
named_message e (msgs.Text n) h = cc
named_message e (msgs.Label n) h = cc
named_message e (msgs.More n) h = cc

-- an end on its way is sent at a kind that is less deep than each place for
-- which its taker's stands
pub record IsSent (zs : List Session) (e f : EndId) : Type 0 where
  pub kind : Place
  pub stands : StandsFor (end_at zs e).place kind
  pub less : (r : Place) → StandsFor (end_at zs f).place r → depth_of kind < depth_of r

pub coming_is_sent : (file : FileAt) (w : World) (e f : EndId) → Sound file w → IsComing w.sessions e f → IsSent w.sessions e f
coming_is_sent file w e f sound c =
    let t = ahead_for w.sessions (end_at w.sessions f) (end_at w.sessions (other_end f)) c.number c.passed c.there (pair_of w.sessions w.sessions f sound.pairs).even in
    let n = named_message e c.passed.msg c.names in
    let k = named_carried w.sessions (end_at w.sessions f).place (coming (end_at w.sessions f) (end_at w.sessions (other_end f))) (end_at w.sessions (other_end f)).place c.number n.0 n.1.0 n.1.1.0 c.passed t.leads c.there n.1.1.1.0 in
    record { kind = k.kind; stands = subst (λ (a : EndAt). StandsFor a.place k.kind) (sym (same_end_at w.sessions e (side n.0 n.1.0) n.1.1.1.1)) k.stands; less = k.less }

session_depth : Session → ℕ
session_depth z = depth_of z.first.place + depth_of z.second.place

module _ where
  side_depth : (d : ℕ) (z : Session) → depth_of (end_on d z).place ≤ session_depth z
  unfolding session_depth
  side_depth zero z = omega arith
  side_depth (suc d) z = omega arith

module _ where
  depth_bound : (zs : List Session) (e : EndId) → depth_of (end_at zs e).place ≤ sum_by session_depth zs
  unfolding session_depth
  depth_bound zs e =
      omega (arith, ap (λ t. depth_of t.place) (end_at-session zs e), side_depth e.side (session_in zs e.sess), session-le-sum_by session_depth refl zs e.sess)

-- each open end is on its way to some taker
abbrev pub AllComing : List Session → Type 0
AllComing zs = (e : EndId) → ((end_at zs e).place ≡ done → ⊥) → (f : EndId) × IsComing zs e f

deep_is_open : (p : Place) → 0 < depth_of p → p ≡ done → ⊥
deep_is_open p lt e = absurd (omega (arith, ap depth_of e))

-- so there is none: the taker of the one would be on its way too, at a deeper kind
none_sent : (file : FileAt) (w : World) → Sound file w → AllComing w.sessions → (n : ℕ) (e f : EndId) (s : IsSent w.sessions e f) → sum_by session_depth w.sessions ≤ depth_of s.kind + n → ⊥
none_sent file w sound all zero e f s le = absurd (omega (arith, s.less (end_at w.sessions f).place (stands_for_itself (end_at w.sessions f).place), depth_bound w.sessions f))
none_sent file w sound all (suc n) e f s le =
    let deeper : depth_of s.kind < depth_of (end_at w.sessions f).place = s.less (end_at w.sessions f).place (stands_for_itself (end_at w.sessions f).place) in
    let c = all f (deep_is_open (end_at w.sessions f).place (omega (arith, deeper))) in
    let t = coming_is_sent file w f c.0 sound c.1 in
    none_sent file w sound all n f c.0 t (omega (arith, le, s.less t.kind t.stands))

none_open_by : (file : FileAt) (w : World) → Sound file w → AllComing w.sessions → (e : EndId) → ((end_at w.sessions e).place ≡ done → ⊥) → ⊥
none_open_by file w sound all e is_open =
    let c = all e is_open in
    none_sent file w sound all (sum_by session_depth w.sessions) e c.0 (coming_is_sent file w e c.0 sound c.1) (omega arith)

place_is_done : (p : Place) → ((p ≡ done → ⊥) → ⊥) → p ≡ done
place_is_done done h = refl
place_is_done (message way k rest) h = absurd (h (λ e. cc))
place_is_done (choice way arms rest) h = absurd (h (λ e. cc))
place_is_done (repeat way body rest) h = absurd (h (λ e. cc))

pub none_open : (file : FileAt) (w : World) → Sound file w → AllComing w.sessions → (e : EndId) → (end_at w.sessions e).place ≡ done
none_open file w sound all e = place_is_done (end_at w.sessions e).place (none_open_by file w sound all e)

pub nothing_at_done : (zs : List Session) (p : Place) (ms : List Msg) (q : Place) → p ≡ done → LeadsTaker zs p ms q → ms ≡ []
nothing_at_done zs p [] q e l = refl
nothing_at_done zs p (m ∷ ms) q e l = let none : None ≡ Some l.0 = sym (ap (λ t. after_place t Into m) e) ∙ l.2 in cc

pub untaken_by : (zs : List Session) (a b : EndAt) → a.place ≡ done → Ahead zs a b ⊎ Ahead zs b a → map (λ x. x.msg) (coming a b) ≡ []
untaken_by zs a b e (inl t) = nothing_at_done zs a.place _ b.place e t.leads
untaken_by zs a b e (inr t) = t.nothing_back

-- and nothing is untaken
pub all_taken : (file : FileAt) (w : World) → Sound file w → AllComing w.sessions → (e : EndId) → untaken_for w.sessions e ≡ []
all_taken file w sound all e = untaken_by w.sessions (end_at w.sessions e) (end_at w.sessions (other_end e)) (none_open file w sound all e) (pair_of w.sessions w.sessions e sound.pairs).even
