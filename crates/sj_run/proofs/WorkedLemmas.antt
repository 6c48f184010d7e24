-- Workers that were hired with their file's first nodes and new lanes, and worked.
use Rattle.std.proofs.Common.{◌≡◌, ◌∙◌, ℕ, zero, suc, ◌<◌, Bool, List, [], ◌∷◌, ◌++◌, take, map, length, Option, Some, None, refl, sym, ap, subst, arith}
use Rattle.std.specs.Prelude.{slice_get, vec_len}
use Rattle.sj_lang.specs.Place.{Place}
use Rattle.sj_lang.specs.FileAt.{FileAt}
use Rattle.sj_plain.specs.SharedFile.{without_words}
use Rattle.sj_table.specs.Spots.{start_in}
use Rattle.sj_rules.specs.Frames.{FrameAt}
use Rattle.sj_rules.specs.Work.{InStep, OutStep}
use Rattle.sj_lane.specs.declared.lane.OutLane.{Ghosts as OutLane}
use Rattle.sj_lane.specs.declared.lane.InLane.{Ghosts as InLane}
use Rattle.sj_lane.specs.declared.lane.Lanes.{Lanes}
use Rattle.sj_lane.specs.Square.{AllJoined, IsFresh, IsSquare, NoFault, in_at, in_in, out_at, out_in}
use Rattle.sj_node.specs.declared.node.Node.{Node}
use Rattle.sj_node.specs.Play.{play_with}
use Rattle.sj_core.specs.Nodes.{AreFirst}
use Rattle.sj_core.proofs.FirstLemmas.{first_same}
use Rattle.sj_work.specs.declared.worker.Stop.{Stop}
use Rattle.sj_work.specs.declared.worker.Worker.{Worker}
use Rattle.sj_work.specs.Counts.{OnLane, Stands}
use Rattle.sj_work.specs.Views.{in_of, lanes_of, node_of, out_of}
use Rattle.sj_work.specs.Worked.{Turned, Worked, WorkedBy, kept_stop}
use Rattle.sj_run.specs.Handed.{AreOver}
use Rattle.sj_run.specs.Workers.{AllWorked, AreHired, AreNew, IsFirst}
use Rattle.sj_lane.proofs.BackLemmas.{slice_get_some as there_is}

-- what is there is below the length
pub below_length : {X : Type 0} (xs : List X) (p : ℕ) (x : X) → slice_get xs p ≡ Some x → p < length xs
below_length [] p x is = absurd (cc is)
below_length (y ∷ ys) zero x is = omega arith
below_length (y ∷ ys) (suc p) x is = let lt = below_length ys p x is in omega (arith, lt)

-- what is in a mapped list comes of the list
pub mapped_from : {X Y : Type 0} (f : X → Y) (xs : List X) (p : ℕ) (y : Y) → slice_get (map f xs) p ≡ Some y → (x : X) × (slice_get xs p ≡ Some x) × (f x ≡ y)
mapped_from f [] p y is = absurd (cc is)
mapped_from f (x ∷ xs) zero y is = (x, refl, (let e : Some (f x) ≡ Some y = is in cc e))
mapped_from f (x ∷ xs) (suc p) y is = mapped_from f xs p y is

-- lists that end at the same index are as long
same_length : {X : Type 0} (count : X → ℕ) (R : ℕ → ℕ → Type 0) (xs ys : List X) → ((q : ℕ) → OnLane count R (slice_get xs q) (slice_get ys q)) → length ys ≡ length xs
same_length count R [] [] h = refl
same_length count R [] (y ∷ ys) h = absurd (h zero)
same_length count R (x ∷ xs) [] h = absurd (h zero)
same_length count R (x ∷ xs) (y ∷ ys) h = ap suc (same_length count R xs ys (λ q. h (suc q)))

front_of : {X : Type 0} (xs zs : List X) → take (length xs) (xs ++ zs) ≡ xs
front_of [] zs = refl
front_of (x ∷ xs) zs = ap (λ ys. x ∷ ys) (front_of xs zs)

-- a prefix of a list, taken by its length, is that prefix
pub take_front : {X : Type 0} (xs zs : List X) (n : ℕ) → n ≡ length xs → take n (xs ++ zs) ≡ xs
take_front xs zs n is = ap (λ m. take m (xs ++ zs)) is ∙ front_of xs zs

-- a lane that is there is some party's
out_where : {O I : Type 0} (l : Option (Lanes O I)) (q : ℕ) (o : O) → out_in l q ≡ Some o → (x : Lanes O I) × (l ≡ Some x) × (slice_get x.outs.items q ≡ Some o)
out_where None q o is = absurd (cc is)
out_where (Some x) q o is = (x, refl, is)

in_where : {O I : Type 0} (l : Option (Lanes O I)) (q : ℕ) (i : I) → in_in l q ≡ Some i → (x : Lanes O I) × (l ≡ Some x) × (slice_get x.ins.items q ≡ Some i)
in_where None q i is = absurd (cc is)
in_where (Some x) q i is = (x, refl, is)

-- it is the same lane as before
out_before : {O : Type 0} (pushed : O → Option (List (FrameAt Place))) (same : O → O → Type 0) (a b : Option O) (box left posts : List (FrameAt Place)) (o : O) → OutStep pushed same a b box left posts → b ≡ Some o
    → (x : O) × (a ≡ Some x) × same x o
out_before pushed same None None box left posts o s is = absurd (cc is)
out_before pushed same None (Some b) box left posts o s is = absurd s
out_before pushed same (Some a) None box left posts o s is = absurd s
out_before pushed same (Some a) (Some b) box left posts o s is = let e : b ≡ o = cc is in (a, refl, subst (λ z. same a z) e s.0)

in_before : {I : Type 0} (popped : I → Option (List (FrameAt Place))) (same : I → I → Type 0) (a b : Option I) (came : List (FrameAt Place)) (i : I) → InStep popped same a b came → b ≡ Some i
    → (x : I) × (a ≡ Some x) × same x i
in_before popped same None None came i s is = absurd (cc is)
in_before popped same None (Some b) came i s is = absurd s
in_before popped same (Some a) None came i s is = absurd s
in_before popped same (Some a) (Some b) came i s is = let e : b ≡ i = cc is in (a, refl, subst (λ z. same a z) e s.0)

module _ {O I : Type 0} (outward : OutLane O) (inward : InLane I) (joined : O → I → Type 0)
    (later : (o p : O) (i j : I) → joined o i → outward.same o p → inward.same i j → joined p j)
    (file : FileAt) (looks : ℕ) (tells : Bool) (nodes : List Node) (lanes : List (Lanes O I)) (hired workers : List (Worker O I))
    (first : AreFirst (without_words file) nodes) (square : IsSquare lanes) (many : length lanes ≡ length file.parties) (ends : AllJoined joined lanes)
    (fresh : IsFresh outward.pushed inward.popped outward.vain inward.vain tells lanes) (faultless : NoFault outward.faults inward.faults lanes)
    (hires : AreHired nodes lanes (length nodes) hired) (as_many : length workers ≡ length hired)
    (each : (p : ℕ) (old new : Worker O I) → slice_get hired p ≡ Some old → slice_get workers p ≡ Some new
    → Worked outward inward looks old new) where
  -- a worker before its work
  was : (p : ℕ) (w : Worker O I) → slice_get workers p ≡ Some w → (old : Worker O I) × (slice_get hired p ≡ Some old)
  was p w there = there_is hired p (let lt = below_length workers p w there in omega (arith, lt, as_many))

  is_first : (p : ℕ) (old : Worker O I) → slice_get hired p ≡ Some old → IsFirst file p old
  is_first p old there =
      let at = hires.nodes_are p old there in
      let seat = first.seats.each p (node_of old) at in
      record {
        party = seat.party;
        parties = seat.parties;
        play =
            (λ i. play_with (start_in (seat.table i)) (seat.connects i) (seat.parties i))
            ∙ (λ i. play_with (λ q. first.seats.starts q i) (length file.connects) (length file.parties));
        node = first.first p (node_of old) at ∙ first_same file p;
        log = (first.seats.each p (node_of old) at).log;
        boxes = first.boxes p (node_of old) at;
        idle = hires.idle p old there;
      }

  out_lane : (p q : ℕ) (old : Worker O I) (o : O) → slice_get hired p ≡ Some old → out_of old q ≡ Some o → out_at lanes p q ≡ Some o
  out_lane p q old o there is = ap (λ l. out_in l q) (hires.lanes_are p old there) ∙ is

  in_lane : (p q : ℕ) (old : Worker O I) (i : I) → slice_get hired p ≡ Some old → in_of old q ≡ Some i → in_at lanes q p ≡ Some i
  in_lane p q old i there is = ap (λ l. in_in l q) (hires.lanes_are p old there) ∙ is

  are_new : (p : ℕ) (old : Worker O I) → slice_get hired p ≡ Some old → AreNew outward inward tells old
  are_new p old there = record {
    pushed_none = λ q o is telling. (fresh.outs p q o (out_lane p q old o there is)).0 telling;
    popped_none = λ q i is telling. (fresh.ins q p i (in_lane p q old i there is)).0 telling;
    out_faultless = λ q o is. faultless.outs p q o (out_lane p q old o there is);
    in_faultless = λ q i is. faultless.ins q p i (in_lane p q old i there is);
    out_fresh = λ q o is. (fresh.outs p q o (out_lane p q old o there is)).1;
    in_fresh = λ q i is. (fresh.ins q p i (in_lane p q old i there is)).1;
  }

  turns : (p : ℕ) (old w : Worker O I) → slice_get hired p ≡ Some old → slice_get workers p ≡ Some w → Turned outward inward looks old w
  turns p old w before there =
      (subst (λ (s : Option Stop). WorkedBy outward inward (kept_stop s) looks old w) (hires.idle p old before) (each p old w before there)).1

  all_count : length workers ≡ length file.parties
  all_count = as_many ∙ hires.count ∙ first.seats.count

  same_many : length (map lanes_of workers) ≡ length lanes
  same_many = Rattle.std.proofs.lemmas.List.length-map workers lanes_of ∙ all_count ∙ sym many

  is_square : IsSquare (map lanes_of workers)
  is_square p l at =
      let w = mapped_from lanes_of workers p l at in
      let o = was p w.0 w.1 in
      let t = turns p o.0 w.0 o.1 w.1 in
      let sq = square p (lanes_of o.0) (hires.lanes_are p o.0 o.1) in
      let outs : length (lanes_of w.0).outs.items ≡ length (lanes_of o.0).outs.items = same_length outward.faults Stands (lanes_of o.0).outs.items (lanes_of w.0).outs.items t.went.faults_out in
      let ins : length (lanes_of w.0).ins.items ≡ length (lanes_of o.0).ins.items = same_length inward.faults Stands (lanes_of o.0).ins.items (lanes_of w.0).ins.items t.went.faults_in in
      subst (λ (l : Lanes O I). (vec_len l.outs ≡ length (map lanes_of workers)) × (vec_len l.ins ≡ length (map lanes_of workers))) w.2
      (omega (arith, outs, sq.0, same_many, (lanes_of w.0).outs.ok, (lanes_of o.0).outs.ok), omega (arith, ins, sq.1, same_many, (lanes_of w.0).ins.ok, (lanes_of o.0).ins.ok))

  all_joined : AllJoined joined (map lanes_of workers)
  all_joined p q o i out in_is =
      let x = out_where (slice_get (map lanes_of workers) p) q o out in
      let v = mapped_from lanes_of workers p x.0 x.1 in
      let a = was p v.0 v.1 in
      let s = turns p a.0 v.0 a.1 v.1 in
      let there : out_of v.0 q ≡ Some o = ap (λ (l : Lanes O I). slice_get l.outs.items q) v.2 ∙ x.2 in
      let first_out = out_before outward.pushed outward.same (out_of a.0 q) (out_of v.0 q) _ _ _ o (s.went.work.outs q) there in
      let y = in_where (slice_get (map lanes_of workers) q) p i in_is in
      let u = mapped_from lanes_of workers q y.0 y.1 in
      let b = was q u.0 u.1 in
      let t = turns q b.0 u.0 b.1 u.1 in
      let here : in_of u.0 p ≡ Some i = ap (λ (l : Lanes O I). slice_get l.ins.items p) u.2 ∙ y.2 in
      let first_in = in_before inward.popped inward.same (in_of b.0 p) (in_of u.0 p) _ i (t.went.work.ins p) here in
      later first_out.0 o first_in.0 i
      (ends p q first_out.0 first_in.0 (out_lane p q a.0 first_out.0 a.1 first_out.1) (in_lane q p b.0 first_in.0 b.1 first_in.1)) first_out.2 first_in.2

  -- over the one table of the first nodes
  pub are_over : AreOver file workers
  are_over = record {
    table = first.seats.table;
    starts = first.seats.starts;
    over = λ p w there.
        let o = was p w there in
        (turns p o.0 w o.1 there).went.table ∙ (first.seats.each p (node_of o.0) (hires.nodes_are p o.0 o.1)).table;
    connects = λ p w there.
        let o = was p w there in
        (turns p o.0 w o.1 there).went.connects ∙ (first.seats.each p (node_of o.0) (hires.nodes_are p o.0 o.1)).connects;
  }

  pub all_worked : AllWorked outward inward joined file looks tells workers
  all_worked = record {
    count = all_count;
    square = is_square;
    ends = all_joined;
    each = λ p w there.
        let o = was p w there in
        record { old = o.0; first = is_first p o.0 o.1; new = are_new p o.0 o.1; worked = each p o.0 w o.1 there };
  }
