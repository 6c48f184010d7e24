-- Parties that began with the lanes of their numbers and took part are the parties of a run.
use Rattle.std.proofs.Common.{◌≡◌, ◌∙◌, ℕ, ◌<◌, Bool, false, List, [], ◌++◌, append-nil, map, length, Option, Some, refl, sym, ap, subst, arith}
use Rattle.std.specs.Prelude.{slice_get, unwrap_or, vec_len}
use Rattle.std.proofs.lemmas.List.{length-map}
use Rattle.std.specs.Global.{Vec}
use Rattle.sj_base.specs.declared.EndId.{EndId}
use Rattle.sj_lang.specs.FileAt.{FileAt}
use Rattle.sj_lane.specs.declared.lane.OutLane.{Ghosts as OutLane}
use Rattle.sj_lane.specs.declared.lane.InLane.{Ghosts as InLane}
use Rattle.sj_lane.specs.declared.lane.Lanes.{Lanes}
use Rattle.sj_lane.specs.Square.{AllJoined, IsFresh, IsSquare, NoFault, in_at, in_in, out_at, out_in}
use Rattle.sj_lane.proofs.BackLemmas.{slice_get_some as there_is}
use Rattle.sj_seat_laws.specs.Calls.{SeatedAt}
use Rattle.sj_seat_laws.specs.SeatedStart.{seat_start}
use Rattle.sj_seat.specs.Views.{seat_of, worker_of}
use Rattle.sj_seat.specs.Went.{SeatWork}
use Rattle.sj_seat.specs.declared.guest.Guest.{Guest}
use Rattle.sj_seat.specs.declared.wish.OpenedSession.{OpenedSession}
use Rattle.sj_seats.specs.Openings.{opened_by, protocol_in, protocol_of}
use Rattle.sj_seats.specs.Seated.{seat_in}
use Rattle.sj_table.specs.declared.table.Table.{Table}
use Rattle.sj_work.specs.Counts.{Stands}
use Rattle.sj_work.specs.Views.{in_of, lanes_of, out_of}
use Rattle.sj_work.specs.declared.worker.Worker.{Worker}
use Rattle.sj_run.specs.Workers.{AreNew}
use Rattle.sj_seat_run.proofs.ListLemmas.{below_length, mapped_at, mapped_from}
use Rattle.sj_seat_run.specs.Asked.{protocols_in}
use Rattle.sj_seat_run.specs.Logged.{AllRan, AllRanSo, AreOpenedSo, HasRun, sessions_in}
use Rattle.sj_seat_run.specs.Played.{Played}
use Rattle.sj_seat_run.specs.Runners.{AreSeated, HasBegun, HasTakenPart, IsFirstGuest, is_coded, lists_of, opened_at, worker_at}
use Rattle.sj_seat_run.specs.declared.runners.Runner.{Runner}
use Rattle.sj_seat_run.specs.declared.runners.Runner.TheVariants.{Coded, Written}
use Rattle.sj_seat_run.proofs.BegunLemmas.{first_is, in_where, out_where, seat_begins}
use Rattle.sj_seat_run.proofs.CarriedLemmas.{Carried, played_carried, same_length, worked_carried}

-- the list of a party is that of its number
list_at : (all : List (Vec OpenedSession)) (p : ℕ) (own : List OpenedSession) (e : EndId) → slice_get (lists_of all) p ≡ Some own → opened_by all p e ≡ protocol_in own e
list_at all p own e is =
    let r = mapped_from (λ (v : Vec OpenedSession). v.items) all p own is in
    ap (λ (o : Option (Vec OpenedSession)). protocol_of o e) r.1 ∙ ap (λ (ss : List OpenedSession). protocol_in ss e) r.2

module _ {O I G C : Type 0} (outward : OutLane O) (inward : InLane I) (joined : O → I → Type 0)
    (later : (o p : O) (i j : I) → joined o i → outward.same o p → inward.same i j → joined p j)
    (file : FileAt) (t : Table) (looks : ℕ) (tells : Bool) (lanes : List (Lanes O I)) (hired ran : List (Runner O I G C))
    (square : IsSquare lanes) (many : length lanes ≡ length file.parties) (ends : AllJoined joined lanes)
    (fresh : IsFresh outward.pushed inward.popped outward.vain inward.vain tells lanes) (faultless : NoFault outward.faults inward.faults lanes)
    (seats : ℕ → Bool) (seated : AreSeated file t seats lanes (length lanes) hired) (as_many : length ran ≡ length hired)
    (each : (p : ℕ) (old new : Runner O I G C) → slice_get hired p ≡ Some old → slice_get ran p ≡ Some new → HasTakenPart outward inward looks old new) where
  abbrev workers : List (Worker O I)
  workers = map worker_at ran

  -- what a party was and became, with the lanes of its number
  record Past (p : ℕ) (w : Worker O I) : Type 0 where
    pub old : Worker O I
    pub own : Lanes O I
    pub there : slice_get lanes p ≡ Some own
    pub lanes_are : lanes_of old ≡ own
    pub carried : Carried outward inward old w

  out_lane : (p q : ℕ) (own : Lanes O I) (old : Worker O I) (o : O) → slice_get lanes p ≡ Some own → lanes_of old ≡ own → out_of old q ≡ Some o → out_at lanes p q ≡ Some o
  out_lane p q own old o there are is = ap (λ l. out_in l q) (there ∙ ap Some (sym are)) ∙ is

  in_lane : (p q : ℕ) (own : Lanes O I) (old : Worker O I) (i : I) → slice_get lanes p ≡ Some own → lanes_of old ≡ own → in_of old q ≡ Some i → in_at lanes q p ≡ Some i
  in_lane p q own old i there are is = ap (λ l. in_in l q) (there ∙ ap Some (sym are)) ∙ is

  are_new : (p : ℕ) (own : Lanes O I) (old : Worker O I) → slice_get lanes p ≡ Some own → lanes_of old ≡ own → AreNew outward inward tells old
  are_new p own old there are = record {
    pushed_none = λ q o is telling. (fresh.outs p q o (out_lane p q own old o there are is)).0 telling;
    popped_none = λ q i is telling. (fresh.ins q p i (in_lane p q own old i there are is)).0 telling;
    out_faultless = λ q o is. faultless.outs p q o (out_lane p q own old o there are is);
    in_faultless = λ q i is. faultless.ins q p i (in_lane p q own old i there are is);
    out_fresh = λ q o is. (fresh.outs p q o (out_lane p q own old o there are is)).1;
    in_fresh = λ q i is. (fresh.ins q p i (in_lane p q own old i there are is)).1;
  }

  seat_work : (p : ℕ) (own : Lanes O I) (g h : Guest O I G) → IsFirstGuest file t p own g → (x : Played outward inward g h)
      → SeatWork outward inward file (seat_start file p (x.calls [])) (seat_of [] h) (worker_of g) (worker_of h)
  seat_work p own g h first x =
      subst (λ (s : SeatedAt). SeatWork outward inward file s (seat_of [] h) (worker_of g) (worker_of h)) (seat_begins file t p own g (x.calls []) first)
      (x.went file [] (sym first.begins.parties))

  -- what it did, with the sessions that are listed of it
  record Listed (p : ℕ) (w : Worker O I) (own : List OpenedSession) (coded : Bool) : Type 0 where
    pub run : HasRun outward inward file looks tells coded p w
    pub lists : sessions_in outward inward file looks tells p w coded run ≡ own

  run_of : (p : ℕ) (own : Lanes O I) (old new : Runner O I G C) → slice_get lanes p ≡ Some own → HasBegun file t p own old → HasTakenPart outward inward looks old new
      → Listed p (worker_at new) (opened_at new) (is_coded new)
  run_of p own (Written w) (Written x) there first part =
      record { run = record { old = w; first = first_is file t p own w first; new = are_new p own w there first.lanes; worked = part }; lists = refl }
  run_of p own (Written w) (Coded b) there first part = absurd part
  run_of p own (Coded a) (Written x) there first part = absurd part
  run_of p own (Coded a) (Coded b) there first part =
      record {
        run = record {
          old = worker_of a.guest;
          begins = first.0.begins;
          idle = first.0.idle;
          new = are_new p own (worker_of a.guest) there first.0.lanes;
          calls = part.played.calls [];
          seat = seat_of [] b.guest;
          work = seat_work p own a.guest b.guest first.0 part.played;
          counts = part.played.counts;
          sessions = part.sessions;
          asked = part.asked [] ∙ append-nil (protocols_in part.sessions);
        };
        lists = sym (part.listed ∙ ap (λ ss. ss ++ part.sessions) first.1);
      }

  past_of : (p : ℕ) (own : Lanes O I) (old new : Runner O I G C) → slice_get lanes p ≡ Some own → HasBegun file t p own old → HasTakenPart outward inward looks old new
      → Past p (worker_at new)
  past_of p own (Written w) (Written x) there first part =
      record { old = w; own = own; there = there; lanes_are = first.lanes; carried = worked_carried outward inward looks w x first.idle part }
  past_of p own (Written w) (Coded b) there first part = absurd part
  past_of p own (Coded a) (Written x) there first part = absurd part
  past_of p own (Coded a) (Coded b) there first part =
      record {
        old = worker_of a.guest;
        own = own;
        there = there;
        lanes_are = first.0.lanes;
        carried = played_carried outward inward file (seat_start file p (part.played.calls [])) (seat_of [] b.guest) (worker_of a.guest) (worker_of b.guest) (seat_work p own a.guest b.guest first.0 part.played) part.played.counts;
      }

  coded_still : (old new : Runner O I G C) → HasTakenPart outward inward looks old new → is_coded new ≡ is_coded old
  coded_still (Written w) (Written x) part = refl
  coded_still (Written w) (Coded b) part = absurd part
  coded_still (Coded a) (Written x) part = absurd part
  coded_still (Coded a) (Coded b) part = refl

  -- those with a seat are played by code
  coded_is : (p : ℕ) (c : Runner O I G C) → slice_get ran p ≡ Some c → is_coded c ≡ seats p
  coded_is p c at =
      let h = there_is hired p (let lt = below_length ran p c at in omega (arith, lt, as_many)) in
      coded_still h.0 c (each p h.0 c h.1 at) ∙ seated.coded p h.0 h.1

  -- what a worker comes of
  record Source (p : ℕ) (w : Worker O I) : Type 0 where
    pub came : Runner O I G C
    pub at : slice_get ran p ≡ Some came
    pub listed : Listed p w (opened_at came) (seats p)
    pub past : Past p w

  source : (p : ℕ) (w : Worker O I) → slice_get workers p ≡ Some w → Source p w
  source p w at =
      let r = mapped_from worker_at ran p w at in
      let h = there_is hired p (let lt = below_length ran p r.0 r.1 in omega (arith, lt, as_many)) in
      let b = seated.each p h.0 h.1 in
      let part = each p h.0 r.0 h.1 r.1 in
      subst (λ (v : Worker O I). Source p v) r.2
      (record {
        came = r.0;
        at = r.1;
        listed = subst (λ (s : Bool). Listed p (worker_at r.0) (opened_at r.0) s) (coded_is p r.0 r.1) (run_of p b.0 h.0 r.0 b.1 b.2 part);
        past = past_of p b.0 h.0 r.0 b.1 b.2 part;
      })

  all_count : length workers ≡ length file.parties
  all_count = length-map ran worker_at ∙ as_many ∙ seated.count ∙ many

  same_many : length (map lanes_of workers) ≡ length lanes
  same_many = length-map workers lanes_of ∙ all_count ∙ sym many

  is_square : IsSquare (map lanes_of workers)
  is_square p l at =
      let w = mapped_from lanes_of workers p l at in
      let x = (source p w.0 w.1).past in
      let sq = square p (lanes_of x.old) (x.there ∙ ap Some (sym x.lanes_are)) in
      let outs : length (lanes_of w.0).outs.items ≡ length (lanes_of x.old).outs.items = same_length outward.faults Stands (lanes_of x.old).outs.items (lanes_of w.0).outs.items x.carried.faults_out in
      let ins : length (lanes_of w.0).ins.items ≡ length (lanes_of x.old).ins.items = same_length inward.faults Stands (lanes_of x.old).ins.items (lanes_of w.0).ins.items x.carried.faults_in in
      subst (λ (l : Lanes O I). (vec_len l.outs ≡ length (map lanes_of workers)) × (vec_len l.ins ≡ length (map lanes_of workers))) w.2
      (omega (arith, outs, sq.0, same_many, (lanes_of w.0).outs.ok, (lanes_of x.old).outs.ok), omega (arith, ins, sq.1, same_many, (lanes_of w.0).ins.ok, (lanes_of x.old).ins.ok))

  all_joined : AllJoined joined (map lanes_of workers)
  all_joined p q o i out in_is =
      let x = out_where (slice_get (map lanes_of workers) p) q o out in
      let v = mapped_from lanes_of workers p x.0 x.1 in
      let a = (source p v.0 v.1).past in
      let there : out_of v.0 q ≡ Some o = ap (λ (l : Lanes O I). slice_get l.outs.items q) v.2 ∙ x.2 in
      let first_out = a.carried.outs q o there in
      let y = in_where (slice_get (map lanes_of workers) q) p i in_is in
      let u = mapped_from lanes_of workers q y.0 y.1 in
      let b = (source q u.0 u.1).past in
      let here : in_of u.0 p ≡ Some i = ap (λ (l : Lanes O I). slice_get l.ins.items p) u.2 ∙ y.2 in
      let first_in = b.carried.ins p i here in
      later first_out.0 o first_in.0 i
      (ends p q first_out.0 first_in.0 (out_lane p q a.own a.old first_out.0 a.there a.lanes_are first_out.1) (in_lane q p b.own b.old first_in.0 b.there b.lanes_are first_in.1)) first_out.2 first_in.2

  abbrev all_ran : AllRan outward inward joined file looks tells seats workers
  all_ran = record {
    count = all_count;
    square = is_square;
    ends = all_joined;
    each = λ p w at. (source p w at).listed.run;
  }

  -- each opened its sessions as is listed of it
  all_so : (all : List (Vec OpenedSession)) → lists_of all ≡ map opened_at ran → AreOpenedSo outward inward joined file looks tells seats workers all_ran (opened_by all)
  all_so all same p w at e =
      let s = source p w at in
      list_at all p (opened_at s.came) e (ap (λ (ls : List (List OpenedSession)). slice_get ls p) same ∙ mapped_at opened_at ran p s.came s.at)
      ∙ ap (λ (ss : List OpenedSession). protocol_in ss e) (sym s.listed.lists)

  pub ran_so : (all : List (Vec OpenedSession)) → lists_of all ≡ map opened_at ran → AllRanSo outward inward joined file looks tells seats workers (opened_by all)
  ran_so all same = record { ran = all_ran; so = all_so all same }

  -- so the codes that are left are those of the same parties
  pub same_seats : (p : ℕ) → p < length file.parties → seat_in (map is_coded ran) p ≡ seats p
  same_seats p lt =
      let r = there_is ran p (omega (arith, lt, as_many, seated.count, many)) in
      ap (λ o. unwrap_or o false) (mapped_at is_coded ran p r.0 r.1) ∙ coded_is p r.0 r.1
