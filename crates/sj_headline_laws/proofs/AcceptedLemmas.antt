-- Every run of an accepted file keeps its world sound.
use Rattle.std.proofs.lemmas.List.Elements.{recursion_from_All, All-contains_itself}
use Rattle.std.proofs.Common.{◌≡◌, ℕ, zero, suc, ◌+◌, ◌≤◌, ◌==◌, length, Bool, true, false, cond, List, [], ◌∷◌, ◌++◌, map, slice_get, Some, None, option_map, unwrap_or, refl, ap, sym, ◌∙◌, arith, subst, inl, inr, ◌⊎◌}
use Rattle.std.proofs.lemmas.List.{length-map}
use Rattle.std.proofs.lemmas.Option.{slice_get-map}
use Rattle.sj_base.specs.declared.EndId.{EndId}
use Rattle.sj_lang.specs.Place.{Place}
use Rattle.sj_lang.specs.Limits.{IsWithin}
use Rattle.sj_semantics.specs.declared.Want.{Want}
use Rattle.sj_semantics.specs.declared.Want.TheVariants as wants
use Rattle.sj_semantics.specs.declared.Awaits.{Awaits}
use Rattle.sj_semantics.specs.declared.Passed.{Passed}
use Rattle.sj_lang.specs.FileAt.{FileAt, PartyAt, DeclAt, ConnectAt, body_named, party_named, party_names, end_of_party, ends_from, named}
use Rattle.sj_acceptance.specs.Accepted.{place_of_party, places_from, start_env, EndsWell, IsAccepted}
use Rattle.sj_acceptance.specs.Openings.{requests_of, accepts_of}
use Rattle.sj_semantics.specs.Requests.{opened_number}
use Rattle.sj_semantics.specs.Value.{no_vars}
use Rattle.sj_semantics.specs.Balanced.{IsBalanced}
use Rattle.sj_semantics.specs.Program.{Program, block}
use Rattle.sj_semantics.specs.Wants.{want_of}
use Rattle.sj_semantics.specs.Fitting.{fits}
use Rattle.sj_semantics.specs.World.{World, act_of, session_of, program_of, programs_from, start_of}
use Rattle.sj_semantics.specs.Ends.{Session, end_on, nowhere, other_end, end_at, next_for}
use Rattle.sj_semantics.specs.Run.{after_acts, IsRun}
use Rattle.sj_semantics.proofs.FittingLemmas.{fits_by_statement}
use Rattle.sj_semantics_laws.proofs.RunLemmas.{between}
use Rattle.sj_semantics_laws.proofs.StartLemmas.{start_is_unshared}
use Rattle.sj_headline_laws.proofs.KnownLemmas.{forgets_none}
use Rattle.sj_headline_laws.proofs.NameLemmas.{Agrees}
use Rattle.sj_headline_laws.proofs.TypedLemmas.{FitsProgram, continues_fit, block_continues}
use Rattle.sj_headline_laws.proofs.StepLemmas.{fits_step}
use Rattle.sj_headline_laws.proofs.LeadLemmas.{Ahead, pair_taking}
use Rattle.sj_headline_laws.proofs.OriginLemmas.{InTodo, in_block, in_code}
use Rattle.sj_headline_laws.proofs.TouchedLemmas.{side, pair_of}
use Rattle.sj_headline_laws.proofs.WorldLemmas.{Asks, Takes, Sound, fits_want}
use Rattle.sj_headline_laws.proofs.SoundLemmas.{act_keeps_sound}
use Rattle.sj_headline_laws.proofs.MeetingLemmas.{openings_agree, start_pairs}

-- ---- names and places

map-append' : (xs ys : List (ℕ × EndId)) (f : ℕ × EndId → ℕ × Place) → map f (xs ++ ys) ≡ map f xs ++ map f ys
map-append' [] ys f = refl
map-append' (x ∷ xs) ys f = ap (λ t. f x ∷ t) (map-append' xs ys f)

abbrev pub places_shown : List Session → ℕ × EndId → ℕ × Place
places_shown zs b = (b.0, (end_at zs b.1).place)

named-map : (zs : List Session) (bs : List (ℕ × EndId)) (n : ℕ) → option_map (λ e. (end_at zs e).place) (named bs n) ≡ named (map (places_shown zs) bs) n
named-map zs [] n = refl
named-map zs (b ∷ bs) n = map_cond (b.0 == n) ∙ ap (cond (b.0 == n) (Some (end_at zs b.1).place)) (named-map zs bs n)
  where
    map_cond : (t : Bool) → option_map (λ e. (end_at zs e).place) (cond t (Some b.1) (named bs n)) ≡ cond t (Some (end_at zs b.1).place) (option_map (λ e. (end_at zs e).place) (named bs n))
    map_cond true = refl
    map_cond false = refl

one_shown : (zs : List Session) (file : FileAt) (p : ℕ) (d : DeclAt) (e : EndId) → (end_at zs e).place ≡ body_named file.protocols d.protocol → map (places_shown zs) (end_of_party file p d e) ≡ place_of_party file p d
one_shown zs file p d e h = by (party_named file.parties d.party == p)
  where
    by : (t : Bool) → map (places_shown zs) (cond t ((d.name, e) ∷ []) []) ≡ cond t ((d.name, body_named file.protocols d.protocol) ∷ []) []
    by true = ap (λ q. (d.name, q) ∷ []) h
    by false = refl

place_at_start : (file : FileAt) (s d : ℕ) (c : ConnectAt) → slice_get file.connects s ≡ Some c → (end_at (map (session_of file) file.connects) (side s d)).place ≡ (end_on d (session_of file c)).place
place_at_start file s d c h = ap (λ o. (unwrap_or (option_map (end_on d) o) nowhere).place) (slice_get-map (session_of file) file.connects s ∙ ap (option_map (session_of file)) h)

pub all_shown : (file : FileAt) (p n : ℕ) (cs : List ConnectAt) → ((i : ℕ) (c : ConnectAt) → slice_get cs i ≡ Some c → slice_get file.connects (n + i) ≡ Some c)
    → map (places_shown (map (session_of file) file.connects)) (ends_from file p n cs) ≡ places_from file p cs
all_shown file p n [] there = refl
all_shown file p n (c ∷ cs) there =
    let zs : List Session = map (session_of file) file.connects in
    let here : slice_get file.connects n ≡ Some c = subst (λ (t : ℕ). slice_get file.connects t ≡ Some c) (let e : n + 0 ≡ n = omega arith in e) (there 0 c refl) in
    let first : EndId = record { sess = n; side = 0 } in
    let second : EndId = record { sess = n; side = 1 } in
    map-append' (end_of_party file p c.first first ++ end_of_party file p c.second second) (ends_from file p (n + 1) cs) (places_shown zs)
    ∙ ap (λ t. t ++ map (places_shown zs) (ends_from file p (n + 1) cs)) (map-append' (end_of_party file p c.first first) (end_of_party file p c.second second) (places_shown zs))
    ∙ ap (λ t. (t ++ map (places_shown zs) (end_of_party file p c.second second)) ++ map (places_shown zs) (ends_from file p (n + 1) cs)) (one_shown zs file p c.first first (place_at_start file n 0 c here))
    ∙ ap (λ t. (place_of_party file p c.first ++ t) ++ map (places_shown zs) (ends_from file p (n + 1) cs)) (one_shown zs file p c.second second (place_at_start file n 1 c here))
    ∙ ap (λ t. (place_of_party file p c.first ++ place_of_party file p c.second) ++ t)
    (all_shown file p (n + 1) cs (λ i d h. subst (λ (t : ℕ). slice_get file.connects t ≡ Some d) (let e : n + suc i ≡ n + 1 + i = omega arith in e) (there (suc i) d h)))

start_agrees : (file : FileAt) (p : ℕ) → Agrees (start_of file).sessions (ends_from file p 0 file.connects) no_vars (start_env file p)
start_agrees file p = record {
  places = λ n. named-map (start_of file).sessions (ends_from file p 0 file.connects) n
      ∙ ap (λ t. named t n) (all_shown file p 0 file.connects (λ i c h. subst (λ (t : ℕ). slice_get file.connects t ≡ Some c) (let e : i ≡ 0 + i = omega arith in e) h));
  kinds = λ n k h. cc;
}

start_fits : (file : FileAt) (p : ℕ) (q : PartyAt) → EndsWell file p q → FitsProgram file.protocols (party_names file.parties) (start_of file).sessions (program_of file p q)
start_fits file p q ends =
    continues_fit file.protocols (party_names file.parties) (start_of file).sessions (block q.code []) no_vars (ends_from file p 0 file.connects) (start_env file p) (start_agrees file p)
    (block_continues file.protocols (party_names file.parties) q.code [] (start_env file p) ends.last ends.follows (record { next = ends.last; forgets = forgets_none ends.last; does = ends.no_end }))

-- what the party's code opens is in its code
start_origin : (file : FileAt) (p : ℕ) (q : PartyAt) → slice_get file.parties p ≡ Some q → InTodo (Asks file p) (Takes file p) (block q.code [])
start_origin file p q there =
    in_block (Asks file p) (Takes file p) q.code []
    (in_code (Asks file p) (Takes file p) q.code
    (recursion_from_All (λ r. Asks file p r.protocol r.party) (requests_of q.code) (λ k d lt. (q, there, _, All-contains_itself (requests_of q.code) k d lt, refl, refl)))
    (recursion_from_All (λ r. Takes file p r.protocol r.party) (accepts_of q.code) (λ k d lt. (q, there, _, All-contains_itself (accepts_of q.code) k d lt, refl, refl)))) tt

-- a party of the file, and its program
record PartyOf (file : FileAt) (k p : ℕ) (qs : List PartyAt) (g : Program) : Type 0 where
  party : PartyAt
  there : slice_get qs p ≡ Some party
  it_is : program_of file (k + p) party ≡ g

party_of : (file : FileAt) (k p : ℕ) (qs : List PartyAt) (g : Program) → slice_get (programs_from file k qs) p ≡ Some g → PartyOf file k p qs g
party_of file k p [] g h = cc
party_of file k zero (q ∷ qs) g h = record { party = q; there = refl; it_is = ap (λ n. program_of file n q) (let e : k + 0 ≡ k = omega arith in e) ∙ (let it : program_of file k q ≡ g = cc in it) }
party_of file k (suc p) (q ∷ qs) g h =
    let r = party_of file (k + 1) p qs g h in
    record { party = r.party; there = r.there; it_is = ap (λ n. program_of file n r.party) (let e : k + suc p ≡ k + 1 + p = omega arith in e) ∙ r.it_is }

-- the program of a party that is there
of_party : (file : FileAt) (P : ℕ → Program → Type 0) → ((p : ℕ) (q : PartyAt) → slice_get file.parties p ≡ Some q → P p (program_of file p q)) → (p : ℕ) (g : Program) → slice_get (start_of file).parties p ≡ Some g → P p g
of_party file P each p g h =
    let r = party_of file 0 p file.parties g h in
    subst (P p) (ap (λ n. program_of file n r.party) (let e : p ≡ 0 + p = omega arith in e) ∙ r.it_is) (each p r.party r.there)

no_session : (zs : List Session) (e : EndId) → length zs ≤ e.sess → end_at zs e ≡ nowhere
no_session zs e le = ap (λ o. unwrap_or (option_map (end_on e.side) o) nowhere) (slice_get_past zs e.sess le)
  where
    slice_get_past : (xs : List Session) (k : ℕ) → length xs ≤ k → slice_get xs k ≡ None
    slice_get_past [] k l = refl
    slice_get_past (x ∷ xs) zero l = absurd (omega arith)
    slice_get_past (x ∷ xs) (suc k) l = slice_get_past xs k (omega arith)

programs_many : (file : FileAt) (k : ℕ) (qs : List PartyAt) → length (programs_from file k qs) ≡ length qs
programs_many file k [] = refl
programs_many file k (q ∷ qs) = ap suc (programs_many file (k + 1) qs)

pub start_is_sound : (file : FileAt) → IsAccepted file → Sound file (start_of file)
start_is_sound file accepted = record {
  agree = openings_agree file accepted;
  unshared = start_is_unshared file (IsWithin.connects accepted.within);
  protocols = refl;
  many = programs_many file 0 file.parties;
  pairs = start_pairs file accepted;
  programs = of_party file (λ p g. FitsProgram file.protocols (party_names file.parties) (start_of file).sessions g) (λ p q there. start_fits file p q (accepted.bodies p q there));
  peers = of_party file (λ p g. g.peers ≡ party_names file.parties) (λ p q there. refl);
  origins = of_party file (λ p g. InTodo (Asks file p) (Takes file p) g.todo) (λ p q there. start_origin file p q there);
  unopened = λ p k d le lt. no_session (start_of file).sessions (side (opened_number p k) d) (omega (arith, accepted.within.connects, length-map file.connects (session_of file)));
  offered = λ p k r at none. cc;
}

run_keeps_sound : (file : FileAt) (w v : World) (acts : List ℕ) → Sound file w → after_acts w acts ≡ Some v → Sound file v
run_keeps_sound file w v [] sound h = subst (Sound file) (let it : w ≡ v = cc in it) sound
run_keeps_sound file w v (p ∷ acts) sound h =
    let m = between (λ x. after_acts x acts) (act_of w p) v h in
    run_keeps_sound file m.world v acts (act_keeps_sound file w m.world p sound m.before) m.afterwards

pub run_is_sound : (file : FileAt) (acts : List ℕ) (w : World) → IsAccepted file → IsRun file acts w → Sound file w
run_is_sound file acts w accepted h = run_keeps_sound file (start_of file) w acts (start_is_sound file accepted) h

-- ---- what it says

pub sound_is_balanced : (file : FileAt) (w : World) (s : ℕ) → Sound file w → IsBalanced w.sessions s
sound_is_balanced file w s sound = by (sound.pairs s).even
  where
    by : Ahead w.sessions (end_at w.sessions (side s 0)) (end_at w.sessions (side s 1)) ⊎ Ahead w.sessions (end_at w.sessions (side s 1)) (end_at w.sessions (side s 0)) → IsBalanced w.sessions s
    by (inl t) = inl (record { nothing_back = t.nothing_back; leads = t.leads })
    by (inr t) = inr (record { nothing_back = t.nothing_back; leads = t.leads })

pub next_fits : (file : FileAt) (w : World) (p : ℕ) (g : Program) (e : EndId) (a : Awaits) (x : Passed) → Sound file w → slice_get w.parties p ≡ Some g → want_of g ≡ Some (wants.Take e a) → next_for w.sessions e ≡ Some x → fits g x.msg ≡ true
next_fits file w p g e a x sound there want h =
    let t = pair_taking w.sessions (end_at w.sessions e) (end_at w.sessions (other_end e)) x (pair_of w.sessions w.sessions e sound.pairs) h in
    sym (fits_by_statement g x.msg e a want) ∙ (fits_want file.protocols (party_names file.parties) w.sessions g (wants.Take e a) (sound.programs p g there) want x.msg t.next t.after t.fits).can_take

pub never_stuck : (file : FileAt) (w : World) (p : ℕ) (g : Program) → Sound file w → slice_get w.parties p ≡ Some g → (want : Want) × (want_of g ≡ Some want)
never_stuck file w p g sound there = let st = fits_step file.protocols (party_names file.parties) w.sessions g (sound.programs p g there) in (st.want, st.wants_it)
