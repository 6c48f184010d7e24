-- A message comes back to a record of the end that sent it.
use Rattle.std.proofs.Common.{◌≡◌, ℕ, zero, suc, ◌<◌, ◌≤◌, List, [], ◌∷◌, ◌++◌, refl, sym, subst, ap, ◌∙◌, arith, append_assoc}
use Rattle.std.specs.Prelude.{Bool, true, false, Some}
use Rattle.std.specs.List.{AllByRecursion}
use Rattle.sj_base.specs.declared.EndId.{EndId}
use Rattle.sj_rules.specs.Record.{is_same_end, other_end}
use Rattle.sj_forward_rules.specs.Record.{SentAt, StateAt, Held, Parked, Passing, Closed, FrameAt, Out, stored}
use Rattle.sj_forward_rules.specs.Node.{onward}
use Rattle.sj_forward_rules.specs.Arrivals.{comes, at_record, out_by}
use Rattle.sj_forward_rules.specs.World.{WorldAt, Lanes, lanes_with, with_lane, after_event}
use Rattle.sj_forward_laws.specs.Roads.{Chains, Road, inward, outward, claiming, is_road, behind_of, start_of, IsThere, IsOnRoad}
use Rattle.sj_forward_laws.specs.Roads.{messages_in, message_in}
use Rattle.sj_forward_laws.specs.Pipe.{traffic, from_last, from_first, in_part, out_part, pipe}
use Rattle.sj_forward_laws.specs.Kept.{IsRecorded, IsLeft, IsJoined}
use Rattle.sj_forward_laws.proofs.EndLemmas.{same_is, other_other, other_low, other_apart}
use Rattle.sj_forward_laws.proofs.PartLemmas.{same_last, same_first, push_last, pop_front, move_first}
use Rattle.sj_forward_laws.proofs.RoadLemmas.{pop_same, pop_here, pop_lanes, push_same, push_here, push_lanes, IsPost}
use Rattle.sj_forward_laws.proofs.OpensLemmas.{pop_opens, push_opens, onward_none}
use Rattle.sj_forward_laws.proofs.StayLemmas.{still_there}
use Rattle.sj_forward_laws.proofs.RecordLemmas.{same_pipe, same_part, same_out, kept_records, kept_alone, record_with}
use Rattle.sj_forward_laws.proofs.MovedLemmas.{alike_self, IsMoved, other_hop, other_name, first_message, last_messages, programs_stay, uses_stay}
use Rattle.sj_forward_laws.proofs.InLemmas.{Arrives}

-- the road by which a message leaves the record of its end at that hop
abbrev pub road_onward : EndId → ℕ → Road
road_onward e zero = inward (other_end e) 0
road_onward e (suc k) = outward e k

-- it is on that road
pub onward_post : (c : Chains) (e : EndId) (h : ℕ) (m : SentAt) → AllByRecursion (IsPost c (road_onward e h)) (onward e h (behind_of c e h) m ∷ [])
onward_post c e zero m = (record { road = refl; party = refl }, tt)
onward_post c e (suc k) m = (record { road = refl; party = refl }, tt)

pub onward_start : (c : Chains) (e : EndId) (h : ℕ) → e.side < 2 → start_of c (road_onward e h) ≡ c.at e h
onward_start c e zero low = ap (λ d. c.at d 0) (other_other e low)
onward_start c e (suc k) low = refl

pub onward_there : (c : Chains) (e : EndId) (h : ℕ) → e.side < 2 → h ≤ c.top e → IsThere c (road_onward e h)
onward_there c e zero low le = (other_low e, omega arith)
onward_there c e (suc k) low le = (low, le)

-- no Claim goes there
pub onward_no_claim : (e : EndId) (h : ℕ) (d : EndId) (k : ℕ) → is_road (claiming d k) (road_onward e h) ≡ false
onward_no_claim e zero d k = refl
onward_no_claim e (suc j) d k = refl

-- what is on its way after it left
module _ (c : Chains) (states : EndId → ℕ → StateAt) (lanes popped lanes' : Lanes) (e : EndId) (low : e.side < 2) (m : SentAt) where
  -- from the first record, to the other end
  module _ (below : 0 < c.top e)
      (came : messages_in (traffic lanes c (outward e 0)) ≡ m ∷ messages_in (traffic lanes' c (outward e 0)))
      (sent : messages_in (traffic lanes' c (inward (other_end e) 0)) ≡ messages_in (traffic lanes c (inward (other_end e) 0)) ++ m ∷ [])
      (same : (r : Road) → is_road r (outward e 0) ≡ false → is_road r (inward (other_end e) 0) ≡ false → traffic lanes' c r ≡ traffic lanes c r)
    where
      across : from_last (in_part lanes' c states (other_end e)) (c.top (other_end e)) ++ from_first (out_part lanes' c states e) (c.top e)
          ≡ from_last (in_part lanes c states (other_end e)) (c.top (other_end e)) ++ from_first (out_part lanes c states e) (c.top e)
      across =
          ap (λ z. z ++ from_first (out_part lanes' c states e) (c.top e))
          (push_last (in_part lanes c states (other_end e)) (in_part lanes' c states (other_end e)) (c.top (other_end e)) (m ∷ [])
          (ap (λ l. stored (states (other_end e) 0) ++ l) sent
          ∙ sym (append_assoc (stored (states (other_end e) 0)) (messages_in (traffic lanes c (inward (other_end e) 0))) (m ∷ [])))
          (λ k apart. same_part c states lanes lanes' (other_end e) k
          (same (inward (other_end e) k) refl (other_hop (other_end e) (other_end e) k 0 apart))))
          ∙ append_assoc (from_last (in_part lanes c states (other_end e)) (c.top (other_end e))) (m ∷ [])
          (from_first (out_part lanes' c states e) (c.top e))
          ∙ ap (λ z. from_last (in_part lanes c states (other_end e)) (c.top (other_end e)) ++ z)
          (sym (pop_front (out_part lanes c states e) (out_part lanes' c states e) (c.top e) (m ∷ []) below came
          (λ k apart. same_out c states lanes lanes' states e k (same (outward e k) (other_hop e e k 0 apart) refl))))

      pub pipes_across : (d : EndId) → d.side < 2 → pipe lanes' c states d ≡ pipe lanes c states d
      pipes_across d i = by (is_same_end d (other_end e)) refl
        where
          by : (b : Bool) → is_same_end d (other_end e) ≡ b → pipe lanes' c states d ≡ pipe lanes c states d
          by true t =
              subst (λ x. pipe lanes' c states x ≡ pipe lanes c states x) (sym (same_is d (other_end e) t))
              (subst (λ x. from_last (in_part lanes' c states (other_end e)) (c.top (other_end e)) ++ from_first (out_part lanes' c states x)
              (c.top x)
              ≡ from_last (in_part lanes c states (other_end e)) (c.top (other_end e)) ++ from_first (out_part lanes c states x) (c.top x))
              (sym (other_other e low)) across)
          by false t =
              same_pipe c states lanes lanes' states d
              (λ k l. same_part c states lanes lanes' d k (same (inward d k) refl (other_name d (other_end e) k 0 t)))
              (λ k l. same_out c states lanes lanes' states (other_end d) k
              (same (outward (other_end d) k) (other_name (other_end d) e k 0 (other_apart d e i t)) refl))

  -- from a later record, to the one before
  module _ (j : ℕ) (below : suc j < c.top e)
      (came : messages_in (traffic lanes c (outward e (suc j))) ≡ m ∷ messages_in (traffic lanes' c (outward e (suc j))))
      (sent : messages_in (traffic lanes' c (outward e j)) ≡ messages_in (traffic lanes c (outward e j)) ++ m ∷ [])
      (same : (r : Road) → is_road r (outward e (suc j)) ≡ false → is_road r (outward e j) ≡ false → traffic lanes' c r ≡ traffic lanes c r)
    where
      back : from_first (out_part lanes' c states e) (c.top e) ≡ from_first (out_part lanes c states e) (c.top e)
      back =
          move_first (out_part lanes c states e) (out_part lanes' c states e) (c.top e) j (m ∷ []) below came sent
          (λ k a b. same_out c states lanes lanes' states e k (same (outward e k) (other_hop e e k (suc j) b) (other_hop e e k j a)))

      pub pipes_back : (d : EndId) → pipe lanes' c states d ≡ pipe lanes c states d
      pipes_back d = by (is_same_end (other_end d) e) refl
        where
          ins : from_last (in_part lanes' c states d) (c.top d) ≡ from_last (in_part lanes c states d) (c.top d)
          ins =
              same_last (in_part lanes c states d) (in_part lanes' c states d) (c.top d)
              (λ k l. same_part c states lanes lanes' d k (same (inward d k) refl refl))

          outs : (b : Bool) → is_same_end (other_end d) e ≡ b
              → from_first (out_part lanes' c states (other_end d)) (c.top (other_end d))
              ≡ from_first (out_part lanes c states (other_end d)) (c.top (other_end d))
          outs true t =
              subst (λ x. from_first (out_part lanes' c states x) (c.top x) ≡ from_first (out_part lanes c states x) (c.top x))
              (sym (same_is (other_end d) e t)) back
          outs false t =
              same_first (out_part lanes c states (other_end d)) (out_part lanes' c states (other_end d)) (c.top (other_end d))
              (λ k l. same_out c states lanes lanes' states (other_end d) k
              (same (outward (other_end d) k) (other_name (other_end d) e k (suc j) t) (other_name (other_end d) e k j t)))

          by : (b : Bool) → is_same_end (other_end d) e ≡ b → pipe lanes' c states d ≡ pipe lanes c states d
          by b t =
              ap (λ z. z ++ from_first (out_part lanes' c states (other_end d)) (c.top (other_end d))) ins
              ∙ ap (λ z. from_last (in_part lanes c states d) (c.top d) ++ z) (outs b t)

module _ {Q : Type 0} (w : WorldAt Q) (c : Chains) (states : EndId → ℕ → StateAt) (joined : IsJoined w c states) (q p : ℕ) (e : EndId) (m : SentAt)
    (rest : List FrameAt) where
  -- the lanes once it came and left
  abbrev pub passed : ℕ → Lanes
  passed h = lanes_with p (onward e h (behind_of c e h) m ∷ []) (with_lane q p rest w.lanes)

  module _ (h : ℕ) (front : w.lanes q p ≡ Out e h m ∷ rest) where
    pub on : IsOnRoad c q p (Out e h m)
    on = (subst (λ l. AllByRecursion (IsOnRoad c q p) l) front (joined.lanes q p)).0

    start : start_of c (road_onward e h) ≡ p
    start = onward_start c e h on.there.0 ∙ on.goal

    pub same_roads : (r : Road) → is_road r (outward e h) ≡ false → is_road r (road_onward e h) ≡ false → traffic (passed h) c r ≡ traffic w.lanes c r
    same_roads r i j =
        push_same c (with_lane q p rest w.lanes) p (road_onward e h) start (onward e h (behind_of c e h) m ∷ []) (onward_post c e h m) r j
        ∙ pop_same c w.lanes q p (Out e h m) rest front r i

    -- the road by which it came is another one
    pub came_by : is_road (outward e h) (road_onward e h) ≡ false
        → messages_in (traffic w.lanes c (outward e h)) ≡ m ∷ messages_in (traffic (passed h) c (outward e h))
    came_by apart =
        first_message (Out e h m) m (traffic w.lanes c (outward e h)) (traffic (with_lane q p rest w.lanes) c (outward e h)) refl
        (pop_here c w.lanes q p (Out e h m) rest front on)
        ∙ ap (λ l. m ∷ messages_in l) (sym (push_same c (with_lane q p rest w.lanes) p (road_onward e h) start
        (onward e h (behind_of c e h) m ∷ []) (onward_post c e h m) (outward e h) apart))

    pub left_by : message_in (onward e h (behind_of c e h) m).frame ≡ Some m → is_road (road_onward e h) (outward e h) ≡ false
        → messages_in (traffic (passed h) c (road_onward e h)) ≡ messages_in (traffic w.lanes c (road_onward e h)) ++ m ∷ []
    left_by is apart =
        last_messages (traffic (passed h) c (road_onward e h)) (traffic w.lanes c (road_onward e h)) ((onward e h (behind_of c e h) m).frame ∷ [])
        (m ∷ [])
        (first_message (onward e h (behind_of c e h) m).frame m ((onward e h (behind_of c e h) m).frame ∷ []) [] is refl)
        (push_here c (with_lane q p rest w.lanes) p (road_onward e h) start (onward e h (behind_of c e h) m ∷ []) (onward_post c e h m)
        ∙ ap (λ l. l ++ (onward e h (behind_of c e h) m).frame ∷ []) (pop_same c w.lanes q p (Out e h m) rest front (road_onward e h) apart))

    found : IsRecorded ((w.nodes p).records e h) (behind_of c e h) (states e h)
    found =
        subst (λ (x : ℕ). IsRecorded ((w.nodes x).records e h) (behind_of c e h) (states e h)) on.goal
        (joined.records e h on.there.0 (omega (arith, on.there.1)))

    goes_back : ((d : EndId) → d.side < 2 → pipe (passed h) c states d ≡ pipe w.lanes c states d)
        → IsMoved w (after_event w p (with_lane q p rest w.lanes) (record { node = w.nodes p; posts = onward e h (behind_of c e h) m ∷ [] })) c states
    goes_back pipes = record {
      after = states;
      joined = record {
        records = λ d k low le. kept_records c states w.nodes p (w.nodes p) (λ d k. refl) d k (joined.records d k low le);
        there = λ d k low some le. still_there w.nodes p (w.nodes p) (λ d k has. has) (c.at d k) d k (joined.there d k low some le);
        alone = λ d k x r low is. kept_alone c states w.nodes p (w.nodes p) (λ d k. refl) d k (λ x r is. joined.alone d k x r low is) x r is;
        left = λ d k low lt. subst (λ l. IsLeft d k (c.at d (suc k)) l (states d k))
            (sym (same_roads (claiming d k) refl (onward_no_claim e h d k))) (joined.left d k low lt);
        lanes =
            push_lanes c (with_lane q p rest w.lanes) p (road_onward e h) start (onward_there c e h on.there.0 (omega (arith, on.there.1)))
            (onward e h (behind_of c e h) m ∷ []) (onward_post c e h m)
            (pop_lanes c w.lanes q p (Out e h m) rest front joined.lanes);
      };
      opens = λ d s fit. push_opens c (with_lane q p rest w.lanes) d p (onward e h (behind_of c e h) m ∷ []) (onward_none e h (behind_of c e h) m) s
          (pop_opens c w.lanes d q p (Out e h m) rest front on refl s fit);
      pipes = pipes;
      lasts = λ d low. alike_self (states d (c.top d));
      programs = programs_stay w.nodes p (w.nodes p) refl;
      uses = uses_stay w.nodes p (w.nodes p) (λ d. refl);
    }

    -- a message of the end comes
    arrives_by : ((d : EndId) → d.side < 2 → pipe (passed h) c states d ≡ pipe w.lanes c states d) → Arrives w c states q p (Out e h m) rest
    arrives_by pipes = by (states e h) refl
      where
        left : (st : StateAt) → states e h ≡ st → IsLeft e h (c.at e (suc h)) (traffic w.lanes c (claiming e h)) st
        left st is = subst (λ s. IsLeft e h (c.at e (suc h)) (traffic w.lanes c (claiming e h)) s) is (joined.left e h on.there.0 on.there.1)

        row : (st : StateAt) → (w.nodes p).records e h ≡ record_with (behind_of c e h) st
            → comes (w.nodes p) q (Out e h m) ≡ out_by (w.nodes p) e h m (behind_of c e h) st
        row st there = ap (λ r. at_record (out_by (w.nodes p) e h m) r) there

        there_is : (st : StateAt) → states e h ≡ st → IsRecorded ((w.nodes p).records e h) (behind_of c e h) st
        there_is st is = subst (λ s. IsRecorded ((w.nodes p).records e h) (behind_of c e h) s) is found

        by : (st : StateAt) → states e h ≡ st → Arrives w c states q p (Out e h m) rest
        by (Held ms) is = absurd (left (Held ms) is)
        by (Parked ms) is = record {
          done = record { node = w.nodes p; posts = onward e h (behind_of c e h) m ∷ [] };
          is = row (Parked ms)
              (there_is (Parked ms) is);
          moved = goes_back pipes;
        }
        by (Passing next) is = record {
          done = record { node = w.nodes p; posts = onward e h (behind_of c e h) m ∷ [] };
          is = row (Passing next)
              (there_is (Passing next) is);
          moved = goes_back pipes;
        }
        by Closed is = absurd (left Closed is)

  pub out_arrives : (h : ℕ) → w.lanes q p ≡ Out e h m ∷ rest → Arrives w c states q p (Out e h m) rest
  out_arrives zero front =
      arrives_by zero front
      (pipes_across c states w.lanes w.lanes (passed zero) e (on zero front).there.0 m (on zero front).there.1
      (came_by zero front refl) (left_by zero front refl refl) (same_roads zero front))
  out_arrives (suc j) front =
      arrives_by (suc j) front
      (λ d low. pipes_back c states w.lanes w.lanes (passed (suc j)) e (on (suc j) front).there.0 m j (on (suc j) front).there.1
      (came_by (suc j) front (other_hop e e (suc j) j (λ i. omega (arith, i))))
      (left_by (suc j) front refl (other_hop e e j (suc j) (λ i. omega (arith, i)))) (same_roads (suc j) front) d)
