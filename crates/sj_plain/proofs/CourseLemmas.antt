-- Courses go on by acts.
use Rattle.std.proofs.Common.{◌≡◌, ℕ, ◌+◌, ◌<◌, ◌≤◌, nat_lt, cond, List, [], ◌∷◌, ◌++◌, map, length, get_or, slice_get, Option, Some, None, option_map, option_and_then, unwrap_or, refl, ap, sym, ◌∙◌, subst, append-nil, append_assoc}
use Rattle.std.proofs.Math.ListN.{set}
use Rattle.std.proofs.lemmas.List.{length-map, length-set}
use Rattle.std.proofs.lemmas.Option.{slice_get-map, slice_get_read}
use Rattle.sj_lang.specs.declared.file.ProtocolDef.{ProtocolDef}
use Rattle.sj_base.specs.declared.Msg.{Msg}
use Rattle.sj_lang.specs.FileAt.{FileAt, ProtocolAt, body_named}
use Rattle.sj_lang.specs.FileView.{protocol_of}
use Rattle.sj_lang.specs.Limits.{limits}
use Rattle.sj_semantics.specs.declared.Awaits.{Awaits}
use Rattle.sj_semantics.specs.declared.Awaits.TheVariants as awaits
use Rattle.sj_semantics.specs.declared.Opened.{Opened}
use Rattle.sj_semantics.specs.declared.Passed.{Passed}
use Rattle.sj_semantics.specs.declared.State.TheVariants as states
use Rattle.sj_semantics.specs.declared.Want.{Want}
use Rattle.sj_semantics.specs.declared.Want.TheVariants as wants
use Rattle.sj_semantics.specs.Ends.{Session, next_for}
use Rattle.sj_semantics.specs.Program.{Program}
use Rattle.sj_semantics.specs.Run.{IsRun, after_acts, end_of}
use Rattle.sj_semantics.specs.Requests.{Requests, first_offer, opened_number}
use Rattle.sj_semantics.specs.Steps.{took_of}
use Rattle.sj_semantics.specs.World.{start_of, World, Change, act_of, begun_at, begun_by, change_by, change_by_accepting, change_by_opening, change_of_program, changed_world, plain_change}
use Rattle.sj_semantics.specs.State.{IsSettled, state_if, state_of, state_of_program, state_wanting, state_wanting_if}
use Rattle.sj_semantics.specs.Uses.{altered_list, takes}
use Rattle.sj_semantics.specs.Wants.{want_of}
use Rattle.sj_semantics_laws.proofs.FinishLemmas.{end_is_reached, end_is_settled}
use Rattle.sj_semantics_laws.proofs.RoundLemmas.{left_in-act}
use Rattle.sj_semantics_laws.proofs.RunLemmas.{between, same_end}
use Rattle.sj_semantics_laws.proofs.StartLemmas.{start_is_unshared}
use Rattle.sj_machine.specs.declared.machine.Machine.{Machine}
use Rattle.sj_machine.specs.Sound.{program_at}
use Rattle.sj_table.specs.declared.table.Table.{Table}
use Rattle.sj_plain.specs.declared.ends.Session.{Session as Lying}
use Rattle.sj_plain.specs.declared.course.Course.{Course}
use Rattle.sj_plain.specs.Course.{GoesOn, acts_in, file_in, world_in}
use Rattle.sj_plain.specs.Ends.{StartsAt, protocols_in}
use Rattle.sj_plain.specs.Rounds.{steps_left}
use Rattle.sj_plain.specs.Opened.{IsInOrder, requests_in, world_with}
use Rattle.sj_plain.specs.Stepping.{after_change, next_move, sessions_at, world_around}
use Rattle.sj_plain.proofs.AheadLemmas.{same_bodies}
use Rattle.sj_plain.proofs.SteppingLemmas.{stands_wanting}
use Rattle.sj_plain.proofs.UseLemmas.{map-same, map-set}

-- ---- a party sees nothing of the others

-- how it stands, and what it makes, whoever else is there
stands_if : (qs rs : List ProtocolAt) (fs gs : List Program) (zs : List Session) (os : List Opened) (p steps : ℕ) (o : Option Want) → state_wanting_if (world_with qs fs zs os) p steps o ≡ state_wanting_if (world_with rs gs zs os) p steps o
stands_if qs rs fs gs zs os p steps None = refl
stands_if qs rs fs gs zs os p steps (Some wants.Ended) = refl
stands_if qs rs fs gs zs os p steps (Some wants.Local) = refl
stands_if qs rs fs gs zs os p steps (Some (wants.Send e m)) = refl
stands_if qs rs fs gs zs os p steps (Some (wants.Delegate e y)) = refl
stands_if qs rs fs gs zs os p steps (Some (wants.Take e a)) = refl
stands_if qs rs fs gs zs os p steps (Some (wants.Close e)) = refl
stands_if qs rs fs gs zs os p steps (Some (wants.Request n q)) = refl
stands_if qs rs fs gs zs os p steps (Some (wants.Accept n q)) = refl

-- the protocols have the same bodies
abbrev pub HaveSame : List ProtocolAt → List ProtocolAt → Type 0
HaveSame qs rs = (n : ℕ) → body_named qs n ≡ body_named rs n

begun_same : (qs rs : List ProtocolAt) → HaveSame qs rs → (a : Awaits) (m : Msg) → begun_at qs a m ≡ begun_at rs a m
begun_same qs rs same (awaits.Session p) m = ap (λ q. begun_by q m) (same p)
begun_same qs rs same (awaits.Value x) m = refl
begun_same qs rs same awaits.OneOf m = refl
begun_same qs rs same awaits.MoreOrStop m = refl

makes_if : (qs rs : List ProtocolAt) → HaveSame qs rs → (fs gs : List Program) (zs : List Session) (os : List Opened) (p : ℕ) (g : Program) (o : Option Want) → option_and_then (change_by (world_with qs fs zs os) p g) o ≡ option_and_then (change_by (world_with rs gs zs os) p g) o
makes_if qs rs same fs gs zs os p g None = refl
makes_if qs rs same fs gs zs os p g (Some wants.Ended) = refl
makes_if qs rs same fs gs zs os p g (Some wants.Local) = refl
makes_if qs rs same fs gs zs os p g (Some (wants.Send e m)) = refl
makes_if qs rs same fs gs zs os p g (Some (wants.Delegate e y)) = refl
makes_if qs rs same fs gs zs os p g (Some (wants.Take e a)) = λ i. option_map (λ (x : Passed). plain_change (took_of g x.msg) ((e, takes x.msg) ∷ begun_same qs rs same a x.msg i)) (next_for zs e)
makes_if qs rs same fs gs zs os p g (Some (wants.Close e)) = refl
makes_if qs rs same fs gs zs os p g (Some (wants.Request n q)) = λ i. cond (nat_lt (length (requests_in os p)) 100) (Some (change_by_opening g (opened_number p (length (requests_in os p))) (same n i) q)) None
makes_if qs rs same fs gs zs os p g (Some (wants.Accept n q)) = λ i. option_map (change_by_accepting g q (same n i)) (first_offer p (requests_in os q))

moves_alone : (qs rs : List ProtocolAt) → HaveSame qs rs → (fs gs : List Program) (zs : List Session) (os : List Opened) (p : ℕ) (g : Program) → next_move p (world_with qs fs zs os) g ≡ next_move p (world_with rs gs zs os) g
moves_alone qs rs same fs gs zs os p g = ap (λ o. option_map (after_change p (world_with rs gs zs os)) (cond (nat_lt g.steps 10000) o None)) (makes_if qs rs same fs gs zs os p g (want_of g))

-- ---- one act

acted_by : (w : World) (p : ℕ) (g : Program) (zs : List Session) (rs : Requests) (o : Option Change) → option_map (after_change p w) o ≡ Some (g, zs, rs)
    → option_map (changed_world w p) o ≡ Some (record { protocols = w.protocols; parties = altered_list w.parties p (λ _. g); sessions = zs; requests = rs })
acted_by w p g zs rs None h = cc
acted_by w p g zs rs (Some c) h =
    let it : after_change p w c ≡ (g, zs, rs) = cc in
    λ i. Some (record { protocols = w.protocols; parties = altered_list w.parties p (λ _. (it i).0); sessions = (it i).1; requests = (it i).2 })

-- the world after the step of a party that is there
acted : (w : World) (p : ℕ) (g h : Program) (zs : List Session) (rs : Requests) → slice_get w.parties p ≡ Some g → next_move p w g ≡ Some (h, zs, rs)
    → act_of w p ≡ Some (record { protocols = w.protocols; parties = altered_list w.parties p (λ _. h); sessions = zs; requests = rs })
acted w p g h zs rs there made =
    ap (λ o. option_map (changed_world w p) (option_and_then (change_of_program w p) o)) there
    ∙ acted_by w p h zs rs (change_of_program w p g) made

-- the parties, the sessions and the opened sessions as they lie in memory
abbrev pub world_by : List ProtocolDef → Table → List Machine → List Lying → List Opened → World
world_by ps t ms zs os = world_with (map protocol_of ps) (map program_at ms) (sessions_at t zs) os

party_there : (ms : List Machine) (p : ℕ) (m : Machine) → p < length ms → m ≡ get_or ms p m → slice_get (map program_at ms) p ≡ Some (program_at m)
party_there ms p m lt there = slice_get-map program_at ms p ∙ ap (option_map program_at) (slice_get_read ms (length ms) p m refl lt there)

-- a party stands alone as it does among the others
pub ready_alone : (ps : List ProtocolDef) (t : Table) (ms : List Machine) (zs : List Lying) (os : List Opened) (p : ℕ) (m : Machine) → p < length ms → m ≡ get_or ms p m → state_of (world_by ps t ms zs os) p ≡ states.Ready → state_of_program (world_around t zs os) p (program_at m) ≡ states.Ready
ready_alone ps t ms zs os p m lt there ready =
    stands_if (protocols_in t) (map protocol_of ps) [] (map program_at ms) (sessions_at t zs) os p (program_at m).steps (want_of (program_at m))
    ∙ sym (ap (state_if (world_by ps t ms zs os) p) (party_there ms p m lt there))
    ∙ ready

stands_among : (ps : List ProtocolDef) (t : Table) (ms : List Machine) (zs : List Lying) (os : List Opened) (p : ℕ) (m : Machine) → p < length ms → m ≡ get_or ms p m → state_of_program (world_by ps t ms zs os) p (program_at m) ≡ state_of (world_by ps t ms zs os) p
stands_among ps t ms zs os p m lt there = sym (ap (state_if (world_by ps t ms zs os) p) (party_there ms p m lt there))

-- what the party wants, and how it stands by that
wants_alone : (ms : List Machine) (p : ℕ) (m : Machine) (want : Want) → p < length ms → m ≡ get_or ms p m → option_map (λ g. unwrap_or (want_of g) wants.Ended) (slice_get (map program_at ms) p) ≡ Some want → want ≡ unwrap_or (want_of (program_at m)) wants.Ended
wants_alone ms p m want lt there wanted =
    let it : Some (unwrap_or (want_of (program_at m)) wants.Ended) ≡ Some want = sym (ap (option_map (λ g. unwrap_or (want_of g) wants.Ended)) (party_there ms p m lt there)) ∙ wanted in
    cc

pub stands_by_want : (ps : List ProtocolDef) (t : Table) (ms : List Machine) (zs : List Lying) (os : List Opened) (p : ℕ) (m : Machine) (want : Want) → p < length ms → m ≡ get_or ms p m → option_map (λ g. unwrap_or (want_of g) wants.Ended) (slice_get (map program_at ms) p) ≡ Some want
    → state_wanting (world_by ps t ms zs os) p (program_at m).steps want ≡ state_of (world_by ps t ms zs os) p
stands_by_want ps t ms zs os p m want lt there wanted =
    stands_wanting (world_by ps t ms zs os) p (program_at m) want (wants_alone ms p m want lt there wanted)
    ∙ stands_among ps t ms zs os p m lt there

-- a party, sessions and opened sessions that are seen as they were
pub world_same : (ps : List ProtocolDef) (t : Table) (ms : List Machine) (ys zs : List Lying) (ns os : List Opened) (p : ℕ) (m n : Machine) → p < length ms → m ≡ get_or ms p m → program_at n ≡ program_at m → sessions_at t ys ≡ sessions_at t zs → ns ≡ os
    → world_by ps t (set ms p n) ys ns ≡ world_by ps t ms zs os
world_same ps t ms ys zs ns os p m n lt there same sessions opened =
    let parties = map-same program_at ms p m n lt there same in
    λ i. world_with (map protocol_of ps) (parties i) (sessions i) (opened i)

-- a party, sessions and opened sessions that have moved on
pub world_acts : (ps : List ProtocolDef) (t : Table) → StartsAt t (map protocol_of ps) → (ms : List Machine) (ys zs : List Lying) (ns os : List Opened) (p : ℕ) (m n : Machine) → p < length ms → m ≡ get_or ms p m → next_move p (world_around t zs os) (program_at m) ≡ Some (program_at n, sessions_at t ys, requests_in ns)
    → act_of (world_by ps t ms zs os) p ≡ Some (world_by ps t (set ms p n) ys ns)
world_acts ps t starts ms ys zs ns os p m n lt there made =
    acted (world_by ps t ms zs os) p (program_at m) (program_at n) (sessions_at t ys) (requests_in ns) (party_there ms p m lt there) (sym (moves_alone (protocols_in t) (map protocol_of ps) (same_bodies t (map protocol_of ps) starts) [] (map program_at ms) (sessions_at t zs) os p (program_at m)) ∙ made)
    ∙ (let parties = map-set program_at ms p m n (λ _. program_at n) lt there refl in λ i. Some (world_with (map protocol_of ps) (sym parties i) (sessions_at t ys) ns))

-- sessions that lie in order, with as many parties
pub ordered_on : (os : List Opened) (ms : List Machine) (p : ℕ) (m : Machine) → IsInOrder (length (map program_at ms)) os → IsInOrder (length (map program_at (set ms p m))) os
ordered_on os ms p m order = subst (λ (n : ℕ). IsInOrder n os) (length-map ms program_at ∙ sym (length-set ms p m) ∙ sym (length-map (set ms p m) program_at)) order

-- ---- acts one after another

pub after_acts-append : (w u v : World) (ps qs : List ℕ) → after_acts w ps ≡ Some u → after_acts u qs ≡ Some v → after_acts w (ps ++ qs) ≡ Some v
after_acts-append w u v [] qs h k = let it : w ≡ u = cc in ap (λ t. after_acts t qs) it ∙ k
after_acts-append w u v (p ∷ ps) qs h k =
    let m = between (λ x. after_acts x ps) (act_of w p) u h in
    ap (option_and_then (λ x. after_acts x (ps ++ qs))) m.before ∙ after_acts-append m.world u v ps qs m.afterwards k

-- nothing that contracts see has changed
pub stays : (v w : Course) → world_in w ≡ world_in v → acts_in w ≡ acts_in v → file_in w ≡ file_in v → GoesOn v w
stays v w world acts file = record { acts = []; leads = ap Some (sym world); listed = acts ∙ sym (append-nil (acts_in v)); kept = file }

pub by_act : (v w : Course) (p : ℕ) → act_of (world_in v) p ≡ Some (world_in w) → acts_in w ≡ acts_in v ++ p ∷ [] → file_in w ≡ file_in v → GoesOn v w
by_act v w p act acts file = record { acts = p ∷ []; leads = ap (option_and_then (λ x. after_acts x [])) act; listed = acts; kept = file }

pub goes_on : (v u w : Course) → GoesOn v u → GoesOn u w → GoesOn v w
goes_on v u w a b = record {
  acts = a.acts ++ b.acts;
  leads = after_acts-append (world_in v) (world_in u) (world_in w) a.acts b.acts a.leads b.leads;
  listed = b.listed ∙ ap (λ t. t ++ b.acts) a.listed ∙ append_assoc (acts_in v) a.acts b.acts;
  kept = b.kept ∙ a.kept;
}

-- a run that goes on is a run
pub still_run : (v w : Course) → IsRun (file_in v) (acts_in v) (world_in v) → GoesOn v w → IsRun (file_in w) (acts_in w) (world_in w)
still_run v w run on =
    subst (λ (f : FileAt). IsRun f (acts_in w) (world_in w)) (sym on.kept)
    (subst (λ (ps : List ℕ). IsRun (file_in v) ps (world_in w)) (sym on.listed)
    (after_acts-append (start_of (file_in v)) (world_in v) (world_in w) (acts_in v) on.acts run on.leads))

-- a settled run is at the end of its file
pub at_the_end : (file : FileAt) (ps : List ℕ) (w : World) → length file.connects ≤ limits.connects → IsRun file ps w → IsSettled w → w ≡ end_of file
at_the_end file ps w few run settled =
    let l = end_is_reached file in
    same_end (start_of file) w (end_of file) ps l.acts (start_is_unshared file few) run l.leads settled (end_is_settled file)

-- an act leaves one step less
pub act_costs : (w v : World) (p : ℕ) → act_of w p ≡ Some v → steps_left v + 1 ≡ steps_left w
act_costs w v p h = left_in-act w v p h
