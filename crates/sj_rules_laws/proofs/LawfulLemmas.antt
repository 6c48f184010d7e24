-- The plain world of each run of an accepted file is lawful, as the lemmas on events ask for.
use Rattle.std.proofs.Common.{◌≡◌, ℕ, ◌<◌, ◌≤◌, true, false, List, map, length, drop, slice_get, Option, Some, None, option_map, unwrap_or, refl, ap, sym, subst, ◌∙◌, arith}
use Rattle.std.proofs.lemmas.List.{length-map}
use Rattle.std.proofs.lemmas.Option.{slice_get_within}
use Rattle.sj_base.specs.declared.EndId.{EndId}
use Rattle.sj_base.specs.declared.Msg.{Msg}
use Rattle.sj_base.specs.declared.Msg.TheVariants as msgs
use Rattle.sj_lang.specs.FileAt.{FileAt, ProtocolAt, party_names}
use Rattle.sj_acceptance.specs.Accepted.{IsAccepted}
use Rattle.sj_semantics.specs.declared.Want.{Want}
use Rattle.sj_semantics.specs.declared.Passed.{Passed}
use Rattle.sj_semantics.specs.Ends.{EndAt, end_at, next_for, is_same_side}
use Rattle.sj_semantics.specs.Ends as semantics
use Rattle.sj_semantics.specs.Program.{Program}
use Rattle.sj_semantics.specs.Wants.{want_of}
use Rattle.sj_semantics.specs.Run.{IsRun}
use Rattle.sj_semantics.specs.World.{World, act_of}
use Rattle.sj_semantics.specs.declared.Want.TheVariants as wants
use Rattle.sj_headline_laws.proofs.TouchedLemmas.{pair_of}
use Rattle.sj_headline_laws.proofs.WorldLemmas.{Sound, fits_want}
use Rattle.sj_headline_laws.proofs.UnnamedLemmas.{bound_claims}
use Rattle.sj_semantics_laws.specs.Unshared.{IsToCome, to_accept}
use Rattle.sj_semantics_laws.proofs.BoundLemmas.{named_is_bound}
use Rattle.sj_semantics.specs.Fitting.{fits}
use Rattle.sj_semantics.proofs.FittingLemmas.{fits_its_statement}
use Rattle.sj_semantics.specs.declared.Awaits.{Awaits}
use Rattle.sj_semantics.specs.declared.Awaits.TheVariants as awaits
use Rattle.std.proofs.lemmas.Bool.{false_from_ne_true}
use Rattle.sj_rules_laws.proofs.OfferSeenLemmas.{offered_is}
use Rattle.sj_headline_laws.proofs.AcceptedLemmas.{run_is_sound, next_fits}
use Rattle.sj_headline_laws.proofs.LocatedLemmas.{ends_go}
use Rattle.sj_headline_laws.proofs.FittingLemmas.{sound_fits_places, next_has_a_place}
use Rattle.sj_rules.specs.Record.{other_end}
use Rattle.sj_rules.specs.Node.{ended}
use Rattle.sj_rules.specs.PlainSide.{PlainSide}
use Rattle.sj_rules.specs.Linked.{waiting_at}
use Rattle.sj_rules.specs.Party.{nobody, want_or_ended, IsDone, play_for, play_of, binds}
use Rattle.sj_rules.specs.Plain.{is_offered_end, plain_side, plain_at}
use Rattle.sj_rules.specs.Moves.{plain_act}
use Rattle.sj_rules.specs.Binding.{NamesNoEnd, NamesKnown}
use Rattle.sj_rules.specs.Premises.{IsWithinCounts, FitsStep, IsLawful}
use Rattle.sj_rules_laws.proofs.SideLemmas.{other_end_is, other_side_below, side_below}
use Rattle.sj_rules_laws.proofs.NamesLemmas.{has_name}
use Rattle.sj_rules_laws.proofs.WantLemmas.{takes_named, awaits_session}
use Rattle.sj_rules_laws.proofs.ProperLemmas.{Size, IsProper, IsProperMessage, message_at, message_in}
use Rattle.sj_rules_laws.proofs.ProperRunLemmas.{size_of, run_is_proper}
use Rattle.sj_rules_laws.proofs.CountLemmas.{IsCounted, few_messages, run_is_counted}
use Rattle.sj_rules_laws.proofs.ActLemmas.{NamesSides, NamesLow, NamesAs, HeadFits, FitsWorld, act_seen, no_act_seen}
use Rattle.sj_rules_laws.proofs.FitsStepLemmas.{step_fits}

-- only a statement that takes an end takes a session message
low_named : (m : Msg) → NamesNoEnd m → NamesLow m
low_named (msgs.Sess s d k) none = absurd none
low_named (msgs.Int i) none = tt
low_named (msgs.Bool b) none = tt
low_named (msgs.Text i) none = tt
low_named (msgs.Label i) none = tt
low_named (msgs.More b) none = tt

value_as : (a : Awaits) (m : Msg) → NamesNoEnd m → NamesAs a m
value_as (awaits.Session q) m none = low_named m none
value_as (awaits.Value k) m none = none
value_as awaits.OneOf m none = none
value_as awaits.MoreOrStop m none = none

names_as : (n : Size) (a : Awaits) (m : Msg) → IsProperMessage n m → ((s d k : ℕ) → m ≡ msgs.Sess s d k → (q : ℕ) × (awaits.Session q ≡ a)) → NamesAs a m
names_as n a (msgs.Sess s d k) ok takes = let q = takes s d k refl in subst (λ (b : Awaits). NamesAs b (msgs.Sess s d k)) q.1 ok.1
names_as n a (msgs.Int i) ok takes = value_as a (msgs.Int i) tt
names_as n a (msgs.Bool b) ok takes = value_as a (msgs.Bool b) tt
names_as n a (msgs.Text i) ok takes = value_as a (msgs.Text i) tt
names_as n a (msgs.Label i) ok takes = value_as a (msgs.Label i) tt
names_as n a (msgs.More b) ok takes = value_as a (msgs.More b) tt

module _ (file : FileAt) (z : Size) (w : World) (sound : Sound file w) (proper : IsProper z w) where
  abbrev ps : List ProtocolAt
  ps = file.protocols

  -- ---- counts

  pub sent_is : (e : EndId) → e.side < 2 → length ((plain_at w).sides e).sent ≡ length (end_at w.sessions e).sent
  sent_is e lt = ap (λ (x : PlainSide _). length x.sent) (side_below w.requests w.sessions e lt) ∙ length-map (end_at w.sessions e).sent (λ (x : Passed). x.msg)

  pub other_sent_is : (e : EndId) → length ((plain_at w).sides (other_end e)).sent ≡ length (end_at w.sessions (semantics.other_end e)).sent
  other_sent_is e = sent_is (other_end e) (other_side_below e) ∙ ap (λ (f : EndId). length (end_at w.sessions f).sent) (other_end_is e)

  counts_fit : (counted : IsCounted w) → z.parties ≤ 16 → (e : EndId) → e.side < 2 → IsWithinCounts ((plain_at w).sides e) ((plain_at w).sides (other_end e))
  counts_fit counted few e lt = record {
    fewer = omega (
      arith,
      ap (λ (x : PlainSide _). x.taken) (side_below w.requests w.sessions e lt),
      other_sent_is e,
      (pair_of w.sessions w.sessions e sound.pairs).one_taken,
    );
    hops = omega (
      arith,
      ap (λ (x : PlainSide _). x.hops) (side_below w.requests w.sessions e lt),
      ap (λ (x : PlainSide _). x.hops) (side_below w.requests w.sessions (other_end e) (other_side_below e)),
      counted.hops e,
      counted.hops (other_end e),
    );
    messages = omega (arith, few, proper.many, sent_is e lt, few_messages w e counted);
  }

  -- ---- steps

  StepFitsAt : ℕ → Program → Type 0
  StepFitsAt p g = FitsStep IsDone (play_for z.parties ps) binds (plain_at w) p g ((play_for z.parties ps).wants g)

  by_want : (p : ℕ) (g : Program) → slice_get w.parties p ≡ Some g → (o : Option Want) → want_of g ≡ o → FitsStep IsDone (play_for z.parties ps) binds (plain_at w) p g (want_or_ended ps o)
  by_want p g there None it = tt
  by_want p g there (Some want) it = step_fits file z w p g sound proper there want it

  steps_fit : (p : ℕ) (o : Option Program) → slice_get w.parties p ≡ o → StepFitsAt p (unwrap_or o nobody)
  unfolding StepFitsAt
  steps_fit p None h = tt
  steps_fit p (Some g) h = by_want p g h (want_of g) refl

  pub steps_are_lawful : (p : ℕ) → FitsStep IsDone (play_for z.parties ps) binds (plain_at w) p ((plain_at w).programs p) ((play_for z.parties ps).wants ((plain_at w).programs p))
  unfolding StepFitsAt
  steps_are_lawful p = steps_fit p (slice_get w.parties p) refl

  -- ---- names and keepers

  pub bound_below : (p : ℕ) (o : Option Program) → slice_get w.parties p ≡ o → (e : EndId) → binds (unwrap_or o nobody) e ≡ true → (e.side < 2) × (p < z.parties)
  bound_below p None h e b = cc
  bound_below p (Some g) h e b =
      let t = has_name g.ends e b in
      (((proper.names p g h).below t.name e t.is_named).0, omega (arith, proper.many, slice_get_within w.parties p g h))

  pub idle_above : (p : ℕ) (o : Option Program) → slice_get w.parties p ≡ o → z.parties ≤ p → (play_for z.parties ps).wants (unwrap_or o nobody) ≡ ended
  idle_above p None h le = refl
  idle_above p (Some g) h le = absurd (omega (arith, proper.many, slice_get_within w.parties p g h))

  -- what waits names ends and parties of the file
  pub message_below : (e : EndId) (j : ℕ) (m : Msg) → e.side < 2 → waiting_at (plain_at w) e j ≡ Some m → NamesKnown z.parties z.sessions m
  message_below e j m lt h =
      let giver : EndAt = end_at w.sessions (semantics.other_end e) in
      let same : (plain_side w.requests w.sessions (other_end e)).sent ≡ map (λ x. x.msg) giver.sent =
      ap (λ (x : PlainSide _). x.sent) (side_below w.requests w.sessions (other_end e) (other_side_below e)) ∙ ap (λ (f : EndId). map (λ x. x.msg) (end_at w.sessions f).sent) (other_end_is e) in
      message_at z giver.sent (plain_side w.requests w.sessions e).taken j m (proper.messages (semantics.other_end e))
      (ap (λ ms. slice_get (drop (plain_side w.requests w.sessions e).taken ms) j) (sym same) ∙ h)

  pub keeper_below : (e : EndId) (j s d k : ℕ) → e.side < 2 → waiting_at (plain_at w) e j ≡ Some (msgs.Sess s d k) → (d < 2) × (k < z.parties)
  keeper_below e j s d k lt h = let m = message_below e j (msgs.Sess s d k) lt h in (m.1, m.2)

  -- an offered end is still to come, and bound nowhere
  pub offered_comes : (e : EndId) → is_offered_end w.requests e ≡ true → IsToCome w e
  offered_comes e o = let f = offered_is w.requests e o in to_accept f.party f.after f.request f.there f.open_still f.sess (ap (is_same_side 1) f.side)

  pub unbound_by : (p : ℕ) (e : EndId) (o : Option Program) → slice_get w.parties p ≡ o → is_offered_end w.requests e ≡ true → binds (unwrap_or o nobody) e ≡ false
  unbound_by p e None h off = refl
  unbound_by p e (Some g) h off =
      false_from_ne_true (binds g e) (λ b.
      let t = has_name g.ends e b in
      absurd (omega (arith, sound.unshared.to_come e (offered_comes e off), bound_claims w p g e h (named_is_bound g.ends t.name e t.is_named))))

  pub world_is_lawful : IsCounted w → z.parties ≤ 16 → IsLawful IsDone (play_for z.parties ps) binds z.parties (plain_at w)
  world_is_lawful counted few = record {
    counts = counts_fit counted few;
    steps = steps_are_lawful;
    proper = λ p e b. bound_below p (slice_get w.parties p) refl e b;
    unbound = λ p e o. unbound_by p e (slice_get w.parties p) refl o;
    idle = λ p le. idle_above p (slice_get w.parties p) refl le;
    keepers = keeper_below;
  }

  -- ---- acts

  names_sides : (p : ℕ) (g : Program) → slice_get w.parties p ≡ Some g → (want : Want) → want_of g ≡ Some want → NamesSides want
  names_sides p g there wants.Ended it = tt
  names_sides p g there wants.Local it = tt
  names_sides p g there (wants.Send e m) it =
      let fit = fits_want ps (party_names file.parties) w.sessions g (wants.Send e m) (sound.programs p g there) it in
      ((proper.names p g there).below fit.name e fit.is_named).0
  names_sides p g there (wants.Delegate e y) it =
      let fit = fits_want ps (party_names file.parties) w.sessions g (wants.Delegate e y) (sound.programs p g there) it in
      (((proper.names p g there).below fit.name e fit.is_named).0, ((proper.names p g there).below fit.sent_name y fit.sent_named).0)
  names_sides p g there (wants.Take e a) it = let b = takes_named g e a it in ((proper.names p g there).below b.name e b.is_named).0
  names_sides p g there (wants.Request q to) it = tt
  names_sides p g there (wants.Accept q from) it = tt
  names_sides p g there (wants.Close e) it = let go = ends_go g (wants.Close e) it in ((proper.names p g there).below go.0 e go.1).0

  -- what the step asks of the world
  head_fits : (p : ℕ) (g : Program) (e : EndId) (a : Awaits) (x : Passed) → slice_get w.parties p ≡ Some g → want_of g ≡ Some (wants.Take e a) → next_for w.sessions e ≡ Some x → HeadFits w.sessions e a x
  head_fits p g e a x there it next =
      let t = next_has_a_place file w sound e x next in
      let can = next_fits file w p g e a x sound there it next in
      let ok = message_in z (end_at w.sessions (semantics.other_end e)).sent (length (end_at w.sessions e).takers) x (proper.messages (semantics.other_end e)) next in
      record {
        next = t.0;
        after = t.1;
        names = names_as z a x.msg ok (λ s d k is. awaits_session g.peers g.vars g.ends g.todo e a it s d k (fits_its_statement g (msgs.Sess s d k) (ap (fits g) (sym is) ∙ can)));
      }

  fits_world : (p : ℕ) (g : Program) → slice_get w.parties p ≡ Some g → (want : Want) → want_of g ≡ Some want → FitsWorld w p want
  fits_world p g there wants.Ended it = tt
  fits_world p g there wants.Local it = tt
  fits_world p g there (wants.Send e m) it = tt
  fits_world p g there (wants.Delegate e y) it = tt
  fits_world p g there (wants.Take e a) it = λ x next. head_fits p g e a x there it next
  fits_world p g there (wants.Close e) it = tt
  fits_world p g there (wants.Request q to) it = λ d few. sound.unopened p (length (w.requests p)) d (omega arith) few
  fits_world p g there (wants.Accept q from) it = sound.unshared.few from

  acts_are_seen : (p : ℕ) (o : Option Program) → slice_get w.parties p ≡ o → plain_act (play_for z.parties ps) (plain_at w) p ≡ option_map plain_at (act_of w p)
  acts_are_seen p None h = no_act_seen z.parties ps w p h
  acts_are_seen p (Some g) h =
      subst (λ (ps : List ProtocolAt). plain_act (play_for z.parties ps) (plain_at w) p ≡ option_map plain_at (act_of w p)) sound.protocols
      (act_seen z.parties w p g h (λ want it. (names_sides p g h want it, sound_fits_places file w sound p g want h it, fits_world p g h want it)))

  -- the act that the rules see is the act of the plain world
  pub act_is_seen : (p : ℕ) → plain_act (play_for z.parties ps) (plain_at w) p ≡ option_map plain_at (act_of w p)
  act_is_seen p = acts_are_seen p (slice_get w.parties p) refl

-- ---- runs

pub run_is_lawful : (file : FileAt) (ps : List ℕ) (w : World) → IsAccepted file → IsRun file ps w → IsLawful IsDone (play_of file) binds (length file.parties) (plain_at w)
run_is_lawful file ps w accepted run =
    world_is_lawful file (size_of file) w (run_is_sound file ps w accepted run) (run_is_proper file ps w accepted run) (run_is_counted file ps w run) accepted.within.parties

pub run_acts_are_seen : (file : FileAt) (ps : List ℕ) (w : World) (p : ℕ) → IsAccepted file → IsRun file ps w → plain_act (play_of file) (plain_at w) p ≡ option_map plain_at (act_of w p)
run_acts_are_seen file ps w p accepted run = act_is_seen file (size_of file) w (run_is_sound file ps w accepted run) (run_is_proper file ps w accepted run) p

-- in a run, what waits names sessions and parties of the file
pub run_messages_known : (file : FileAt) (ps : List ℕ) (w : World) → IsAccepted file → IsRun file ps w → (e : EndId) (j : ℕ) (m : Msg) → e.side < 2
    → waiting_at (plain_at w) e j ≡ Some m → NamesKnown (length file.parties) (length file.connects) m
run_messages_known file ps w accepted run e j m low at =
    message_below file (size_of file) w (run_is_sound file ps w accepted run) (run_is_proper file ps w accepted run) e j m low at
