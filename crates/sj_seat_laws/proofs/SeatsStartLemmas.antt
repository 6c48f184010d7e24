-- Before any event the core world stands for the plain one, where several parties are played by code
-- of their own too.
use Rattle.std.proofs.Common.{◌≡◌, ◌↔◌, ℕ, zero, suc, ◌+◌, ◌<◌, ◌≤◌, true, List, [], ◌∷◌, length, slice_get, Option, Some, None, option_map, option_and_then, unwrap_or, sum_by, refl, ap, sym, ◌∙◌, subst, arith, inl, inr}
use Rattle.std.specs.Prelude.{is_some}
use Rattle.std.proofs.lemmas.Bool.{both_ways, false_from_ne_true}
use Rattle.std.proofs.lemmas.List.Sums.{sum_by-cons}
use Rattle.std.proofs.lemmas.Option.{slice_get_within}
use Rattle.sj_base.specs.declared.EndId.{EndId}
use Rattle.sj_lang.specs.FileAt.{FileAt, PartyAt, ends_from, party_names}
use Rattle.sj_lang.specs.Place.{done}
use Rattle.sj_acceptance.specs.Accepted.{IsAccepted}
use Rattle.sj_semantics.specs.Ends.{end_at}
use Rattle.sj_semantics.specs.Program.{Program}
use Rattle.sj_semantics.specs.World.{World, program_of, programs_from, start_of}
use Rattle.sj_semantics_laws.specs.Bound.{IsBound}
use Rattle.sj_semantics_laws.specs.Unshared.{IsToCome, bindings_of, claims_on, to_accept, to_open}
use Rattle.sj_semantics_laws.proofs.BoundLemmas.{bindings_of-le, named_is_bound}
use Rattle.sj_headline_laws.proofs.AcceptedLemmas.{start_is_sound}
use Rattle.sj_headline_laws.proofs.GoesLemmas.{Held as Bound, IsLocated, held, offered, on_its_way}
use Rattle.sj_headline_laws.proofs.OriginLemmas.{InTodo}
use Rattle.sj_headline_laws.proofs.PlacedLemmas.{start_is_located}
use Rattle.sj_headline_laws.proofs.TypedLemmas.{FitsProgram}
use Rattle.sj_headline_laws.proofs.WorldLemmas.{Asks, Sound, Takes}
use Rattle.sj_rules.specs.Linked.{IsKept}
use Rattle.sj_rules.specs.Party.{IsDone, binds, nobody}
use Rattle.sj_rules.specs.Plain.{plain_at}
use Rattle.sj_rules.specs.Reading.{IsOpenKept, reading}
use Rattle.sj_rules.specs.Start.{connect_of, core_start}
use Rattle.sj_rules.specs.Within.{IsWithin}
use Rattle.sj_rules_laws.proofs.CountLemmas.{no_steps, none_sent, start_is_counted, steps_of}
use Rattle.sj_rules_laws.proofs.ProperRunLemmas.{size_of, start_is_proper}
use Rattle.sj_rules_laws.proofs.ProperLemmas.{AreProper}
use Rattle.sj_rules_laws.proofs.StartKeptLemmas.{start_is_open_kept}
use Rattle.sj_rules_laws.proofs.StartNamesLemmas.{given_by}
use Rattle.sj_rules_laws.proofs.WithinStartLemmas.{start_is_within}
use Rattle.sj_seat_laws.specs.Calls.{Call, SeatedAt, place_held}
use Rattle.sj_seat_laws.specs.SeatedPlay.{player_binds, written}
use Rattle.sj_seat_laws.specs.SeatedStart.{no_program, seat_start}
use Rattle.sj_seat_laws.specs.SeatsStart.{Callers, program_beside, programs_beside, seats_core, seats_from, seats_start, world_beside}
use Rattle.sj_seat_laws.specs.SeatsWorld.{Seats, player_by, seat_of, seats_seen}
use Rattle.sj_seat_laws.proofs.CourseLemmas.{IsFresh}
use Rattle.sj_seat_laws.proofs.HeldLemmas.{holds}
use Rattle.sj_seat_laws.proofs.LocatedLemmas.{AllFound, IsFound}
use Rattle.sj_seat_laws.proofs.MayLemmas.{may_open_so}
use Rattle.sj_seat_laws.proofs.SeatedLemmas.{MayOpenSo}
use Rattle.sj_seat_laws.proofs.SeatsLemmas.{IsSeats, all_calls, all_hold, calls_in, holds_in, one_holds}
use Rattle.sj_seat_laws.proofs.StartLemmas.{here_has, holds_bound, idle_fits, none_late, numbered_here, own, own_there, zero_sum}

-- ---- who sits where, party by party

module _ (file : FileAt) (calls : Callers) where
  program_is : (k : ℕ) (qs : List PartyAt) (q : ℕ) → slice_get (programs_beside file calls k qs) q ≡ option_map (program_beside file (calls (k + q))) (slice_get (programs_from file k qs) q)
  program_is k [] q = refl
  program_is k (b ∷ qs) zero = ap (λ (n : ℕ). Some (program_beside file (calls n) (program_of file k b))) (let same : k ≡ k + 0 = omega arith in same)
  program_is k (b ∷ qs) (suc q) =
      program_is (k + 1) qs q ∙ ap (λ (n : ℕ). option_map (program_beside file (calls n)) (slice_get (programs_from file (k + 1) qs) q)) (let same : k + 1 + q ≡ k + suc q = omega arith in same)

  seat_is : (k : ℕ) (qs : List PartyAt) (q : ℕ) → seat_of (seats_from file calls k qs) q ≡ option_and_then (λ (g : Program). option_map (seat_start file (k + q)) (calls (k + q))) (slice_get (programs_from file k qs) q)
  seat_is k [] q = refl
  seat_is k (b ∷ qs) zero = ap (λ (n : ℕ). option_map (seat_start file n) (calls n)) (let same : k ≡ k + 0 = omega arith in same)
  seat_is k (b ∷ qs) (suc q) =
      seat_is (k + 1) qs q
      ∙ ap (λ (n : ℕ). option_and_then (λ (g : Program). option_map (seat_start file n) (calls n)) (slice_get (programs_from file (k + 1) qs) q)) (let same : k + 1 + q ≡ k + suc q = omega arith in same)

  same_length : (k : ℕ) (qs : List PartyAt) → length (programs_beside file calls k qs) ≡ length (programs_from file k qs)
  same_length k [] = refl
  same_length k (b ∷ qs) = ap suc (same_length (k + 1) qs)

  seat_for_each : (k : ℕ) (qs : List PartyAt) → length (seats_from file calls k qs) ≡ length (programs_beside file calls k qs)
  seat_for_each k [] = refl
  seat_for_each k (b ∷ qs) = ap suc (seat_for_each (k + 1) qs)

  nothing_called : (k : ℕ) (qs : List PartyAt) → all_calls (seats_from file calls k qs) ≡ 0
  nothing_called k [] = refl
  nothing_called k (b ∷ qs) = omega (arith, sum_by-cons calls_in (option_map (seat_start file k) (calls k)) (seats_from file calls (k + 1) qs), none (calls k), nothing_called (k + 1) qs)
    where
      none : (o : Option (List Call)) → calls_in (option_map (seat_start file k) o) ≡ 0
      none None = refl
      none (Some cs) = refl

  -- what the programs had bound is held
  claims_from : (k : ℕ) (qs : List PartyAt) (e : EndId)
      → sum_by (λ (g : Program). bindings_of e g.ends) (programs_beside file calls k qs) + all_hold e (seats_from file calls k qs) ≡ sum_by (λ (g : Program). bindings_of e g.ends) (programs_from file k qs)
  claims_from k [] e = refl
  claims_from k (b ∷ qs) e =
      omega (
        arith,
        sum_by-cons (λ (g : Program). bindings_of e g.ends) (program_beside file (calls k) (program_of file k b)) (programs_beside file calls (k + 1) qs),
        sum_by-cons (holds_in e) (option_map (seat_start file k) (calls k)) (seats_from file calls (k + 1) qs),
        sum_by-cons (λ (g : Program). bindings_of e g.ends) (program_of file k b) (programs_from file (k + 1) qs),
        one (calls k),
        claims_from (k + 1) qs e,
      )
    where
      one : (o : Option (List Call)) → bindings_of e (program_beside file o (program_of file k b)).ends + holds_in e (option_map (seat_start file k) o) ≡ bindings_of e (program_of file k b).ends
      one None = omega arith
      one (Some cs) = omega (arith, numbered_here (λ f. (end_at (start_of file).sessions f).place) (ends_from file k 0 file.connects) e)

  -- ---- at the start

  abbrev begun : World
  begun = world_beside file calls

  abbrev seats : Seats
  seats = (seats_start file calls).seats

  program_at : (q : ℕ) → slice_get begun.parties q ≡ option_map (program_beside file (calls q)) (slice_get (start_of file).parties q)
  program_at q = program_is 0 file.parties q ∙ ap (λ (n : ℕ). option_map (program_beside file (calls n)) (slice_get (start_of file).parties q)) (let same : 0 + q ≡ q = omega arith in same)

  seat_at : (q : ℕ) → seat_of seats q ≡ option_and_then (λ (g : Program). option_map (seat_start file q) (calls q)) (slice_get (start_of file).parties q)
  seat_at q =
      seat_is 0 file.parties q ∙ ap (λ (n : ℕ). option_and_then (λ (g : Program). option_map (seat_start file n) (calls n)) (slice_get (start_of file).parties q)) (let same : 0 + q ≡ q = omega arith in same)

  -- a party that is played by code at the start
  pub record Begins (q : ℕ) (s : SeatedAt) : Type 0 where
    pub program : Program
    pub there : slice_get (start_of file).parties q ≡ Some program
    pub calls_so : List Call
    pub calling : calls q ≡ Some calls_so
    pub is : seat_start file q calls_so ≡ s

  begins_by : (q : ℕ) (s : SeatedAt) → seat_of seats q ≡ Some s → Begins q s
  begins_by q s h = by (slice_get (start_of file).parties q) refl (calls q) refl (sym (seat_at q) ∙ h)
    where
      by : (o : Option Program) → slice_get (start_of file).parties q ≡ o → (c : Option (List Call)) → calls q ≡ c → option_and_then (λ (g : Program). option_map (seat_start file q) (calls q)) o ≡ Some s → Begins q s
      by None there c is k = cc
      by (Some g) there None is k = let none : None ≡ Some s = sym (ap (option_map (seat_start file q)) is) ∙ k in cc
      by (Some g) there (Some cs) is k =
          let both : Some (seat_start file q cs) ≡ Some s = sym (ap (option_map (seat_start file q)) is) ∙ k in
          let it : seat_start file q cs ≡ s = cc in
          record { program = g; there = there; calls_so = cs; calling = is; is = it }

  begins_idle : (q : ℕ) (s : SeatedAt) → seat_of seats q ≡ Some s → slice_get begun.parties q ≡ Some (no_program file)
  begins_idle q s h =
      let b = begins_by q s h in
      program_at q ∙ ap (option_map (program_beside file (calls q))) b.there ∙ ap (λ o. Some (program_beside file o b.program)) b.calling

  -- where nobody sits the program is the file's
  same_program : (q : ℕ) → seat_of seats q ≡ None → slice_get begun.parties q ≡ slice_get (start_of file).parties q
  same_program q h = program_at q ∙ by (slice_get (start_of file).parties q) (calls q) refl (sym (seat_at q) ∙ h)
    where
      by : (o : Option Program) (c : Option (List Call)) → calls q ≡ c → option_and_then (λ (g : Program). option_map (seat_start file q) (calls q)) o ≡ None → option_map (program_beside file (calls q)) o ≡ o
      by None c is k = refl
      by (Some g) None is k = ap (λ c. Some (program_beside file c g)) is
      by (Some g) (Some cs) is k = let some : Some (seat_start file q cs) ≡ None = sym (ap (option_map (seat_start file q)) is) ∙ k in cc

  -- a fact of each program, where it holds of one with nothing to do
  each_program : (P : ℕ → Program → Type 0) → ((q : ℕ) → P q (no_program file)) → ((q : ℕ) (g : Program) → slice_get (start_of file).parties q ≡ Some g → P q g) → (q : ℕ) (g : Program) → slice_get begun.parties q ≡ Some g → P q g
  each_program P idle all q g h = by (slice_get (start_of file).parties q) refl (calls q) (sym (program_at q) ∙ h)
    where
      by : (o : Option Program) → slice_get (start_of file).parties q ≡ o → (c : Option (List Call)) → option_map (program_beside file c) o ≡ Some g → P q g
      by None there c k = cc
      by (Some f) there None k = subst (P q) (let it : f ≡ g = cc in it) (all q f there)
      by (Some f) there (Some cs) k = subst (P q) (let it : no_program file ≡ g = cc in it) (idle q)

module _ (file : FileAt) (calls : Callers) (accepted : IsAccepted file) where
  abbrev first : World
  first = world_beside file calls

  abbrev all : Seats
  all = (seats_start file calls).seats

  old_sound : Sound file (start_of file)
  old_sound = start_is_sound file accepted

  below_by : (q : ℕ) (g : Program) → slice_get (start_of file).parties q ≡ Some g → q < length file.parties
  below_by q g h = omega (arith, slice_get_within (start_of file).parties q g h, old_sound.many)

  claims : (e : EndId) → claims_on e first + all_hold e all ≡ claims_on e (start_of file)
  claims e = omega (arith, claims_from file calls 0 file.parties e)

  come : (e : EndId) → IsToCome first e → IsToCome (start_of file) e
  come e (to_open q k le lt is) = to_open q k le lt is
  come e (to_accept q k r at none is second) = to_accept q k r at none is second

  start_sound : Sound file first
  start_sound = record {
    agree = old_sound.agree;
    unshared = record {
      once = λ e. omega (arith, claims e, old_sound.unshared.once e);
      to_come = λ e t. omega (arith, claims e, old_sound.unshared.to_come e (come e t));
      few = old_sound.unshared.few;
    };
    protocols = old_sound.protocols;
    many = same_length file calls 0 file.parties ∙ old_sound.many;
    pairs = old_sound.pairs;
    programs = each_program file calls (λ q h. FitsProgram file.protocols (party_names file.parties) (start_of file).sessions h) (λ q. idle_fits file) (λ q h at. old_sound.programs q h at);
    peers = each_program file calls (λ q h. h.peers ≡ party_names file.parties) (λ q. refl) (λ q h at. old_sound.peers q h at);
    origins = each_program file calls (λ q h. InTodo (Asks file q) (Takes file q) h.todo) (λ q. tt) (λ q h at. old_sound.origins q h at);
    unopened = old_sound.unopened;
    offered = λ q k r at none. let o = old_sound.offered q k r at none in record { protocol = o.protocol; party = o.party; asks = o.asks; to_it = o.to_it; at = o.at };
  }

  -- each open end is bound at a party that goes by the file, or held
  start_found : AllFound first (λ e. all_hold e all)
  start_found e is_open = by (start_is_located file accepted e is_open)
    where
      bound : (q : ℕ) (g : Program) → slice_get (start_of file).parties q ≡ Some g → Bound e g.ends → IsFound first (λ e. all_hold e all) e
      bound q g there h = or_held (seat_of all q) refl
        where
          or_held : (o : Option SeatedAt) → seat_of all q ≡ o → IsFound first (λ e. all_hold e all) e
          or_held None at = inl (held q g (same_program file calls q at ∙ there) h)
          or_held (Some s) at =
              let b = begins_by file calls q s at in
              let lt = below_by q g there in
              let both : Some (own file q accepted lt) ≡ Some g = sym (own_there file q accepted lt) ∙ there in
              let it : own file q accepted lt ≡ g = cc in
              let named_by : IsBound h.end (ends_from file q 0 file.connects) = subst (λ (k : Program). IsBound h.end k.ends) (sym it) (named_is_bound g.ends h.name h.end h.is_named) in
              inr (omega (
                arith,
                one_holds all q s at e,
                ap (λ (x : SeatedAt). holds e x.ends) b.is,
                numbered_here (λ f. (end_at (start_of file).sessions f).place) (ends_from file q 0 file.connects) e,
                bindings_of-le e h.end (ends_from file q 0 file.connects) h.it_is,
                named_by.some_name,
              ))

      by : IsLocated (start_of file) e → IsFound first (λ e. all_hold e all) e
      by (held q g there h) = bound q g there h
      by (on_its_way f c) = inl (on_its_way f c)
      by (offered o) = inl (offered (record { by = o.by; number = o.number; request = o.request; there = o.there; none = o.none; it_is = o.it_is }))

  none_stepped : sum_by steps_of first.parties ≡ 0
  none_stepped = zero_sum first.parties (each_program file calls (λ q g. g.steps ≡ 0) (λ q. refl) (λ q g h. no_steps file 0 file.parties q g h))

  nothing_named : AreProper (size_of file) []
  nothing_named = record { below = λ n e h. cc }

  pub start_is_seats : IsSeats file 0 (seats_start file calls)
  start_is_seats = record {
    sound = start_sound;
    once = λ e. omega (arith, claims e, old_sound.unshared.once e);
    apart = λ e t. omega (arith, claims e, old_sound.unshared.to_come e (come e t));
    idle = begins_idle file calls;
    places = λ q s at e place h.
        let b = begins_by file calls q s at in
        (here_has (λ f. (end_at (start_of file).sessions f).place) (ends_from file q 0 file.connects) e place (ap (λ (x : SeatedAt). place_held x.ends e) b.is ∙ h)).2;
    known = λ q s at e place h.
        let b = begins_by file calls q s at in
        let k = here_has (λ f. (end_at (start_of file).sessions f).place) (ends_from file q 0 file.connects) e place (ap (λ (x : SeatedAt). place_held x.ends e) b.is ∙ h) in
        let g = given_by file q 0 file.connects k.0 e k.1 in
        (g.below, inl (omega (arith, g.sess, slice_get_within file.connects g.number g.connect g.there)));
    calls = λ q s at. let b = begins_by file calls q s at in omega (arith, ap (λ (x : SeatedAt). x.steps) b.is);
    may = λ q s at. let b = begins_by file calls q s at in subst (λ (x : SeatedAt). MayOpenSo file q x.may) b.is (may_open_so file q);
    found = start_found;
    proper = record {
      many = same_length file calls 0 file.parties ∙ (start_is_proper file).many;
      names = each_program file calls (λ q g. AreProper (size_of file) g.ends) (λ q. nothing_named) (λ q g h. (start_is_proper file).names q g h);
      messages = (start_is_proper file).messages;
    };
    hops = (start_is_counted file).hops;
    steps = each_program file calls (λ q g. g.steps ≤ 10000) (λ q. omega arith) (λ q g h. (start_is_counted file).steps q g h);
    many = seat_for_each file calls 0 file.parties;
    messages = omega (arith, none_sent file file.connects);
    count = omega (arith, none_stepped, nothing_called file calls 0 file.parties);
  }

  -- ---- the core world

  old : IsOpenKept IsDone binds done (core_start file) (plain_at (start_of file))
  old = start_is_open_kept file accepted

  programs_by : (q : ℕ) (o : Option SeatedAt) → seat_of all q ≡ o → player_by o ((core_start file).nodes q).program ≡ player_by o ((plain_at first).programs q)
  programs_by q None at = ap (λ o. written (unwrap_or o nobody)) (sym (same_program file calls q at))
  programs_by q (Some s) at = refl

  bound_by : (q : ℕ) (e : EndId) (o : Option SeatedAt) → seat_of all q ≡ o → (player_binds (player_by o ((plain_at first).programs q)) e ≡ true) ↔ (binds ((plain_at (start_of file)).programs q) e ≡ true)
  bound_by q e None at =
      let same : (plain_at first).programs q ≡ (plain_at (start_of file)).programs q = ap (λ o. unwrap_or o nobody) (same_program file calls q at) in
      (λ h. ap (λ g. binds g e) (sym same) ∙ h, λ h. ap (λ g. binds g e) same ∙ h)
  bound_by q e (Some s) at =
      let b = begins_by file calls q s at in
      subst (λ (x : SeatedAt). (is_some (place_held x.ends e) ≡ true) ↔ (binds ((plain_at (start_of file)).programs q) e ≡ true)) b.is (holds_bound file q accepted (below_by q b.program b.there) e)

  start_kept : IsKept IsDone player_binds (reading done (seats_core file calls)) (seats_seen (seats_start file calls))
  start_kept = record {
    sessions = record {
      sides = old.kept.sessions.sides;
      pace = old.kept.sessions.pace;
      ids = old.kept.sessions.ids;
      shows = λ e lt. let s = old.kept.sessions.shows e lt in record { mains = s.mains; olds = s.olds; frames = s.frames; claims = s.claims; gives = s.gives };
      proper = old.kept.sessions.proper;
      sound = old.kept.sessions.sound;
    };
    linked = record { parks = old.kept.linked.parks; named = old.kept.linked.named; once = old.kept.linked.once };
    programs = λ q. programs_by q (seat_of all q) refl;
    bound = λ q e lt o. let b = bound_by q e (seat_of all q) refl in let k = old.kept.bound q e lt o in (λ h. k.0 (b.0 h), λ h. b.1 (k.1 h));
  }

  pub start_is_kept : IsOpenKept IsDone player_binds done (seats_core file calls) (seats_seen (seats_start file calls))
  start_is_kept = record {
    kept = start_kept;
    requests = old.requests;
    offers = old.offers;
    rising = old.rising;
    openers = old.openers;
    below = old.below;
    offered = old.offered;
    held = λ from q sess c. old.held from q sess c;
    unbound = λ q e lt o. false_from_ne_true (player_binds ((seats_seen (seats_start file calls)).programs q) e) (λ h.
        both_ways (binds ((plain_at (start_of file)).programs q) e) (old.unbound q e lt o) ((bound_by q e (seat_of all q) refl).0 h));
    lead = old.lead;
    bare = λ q e o. old.bare q e o;
    unopened = λ sess u q e is lt. old.unopened sess u q e is lt;
  }

  pub start_within : IsWithin (length file.parties) (seats_core file calls)
  start_within = let s = start_is_within file accepted in record {
    nodes = λ q. record {
      mains = (s.nodes q).mains;
      olds = (s.nodes q).olds;
      main_ids = (s.nodes q).main_ids;
      old_ids = (s.nodes q).old_ids;
      requests = (s.nodes q).requests;
      offers = (s.nodes q).offers;
    };
    frames = s.frames;
    outside = s.outside;
  }

  pub start_is_fresh : IsFresh (seats_core file calls)
  start_is_fresh = record {
    lates = λ n q e. none_late file n q e (connect_of file e);
    lanes = λ from to. refl;
    clocks = record { nodes = λ q. omega arith; lanes = λ q r. tt };
  }
