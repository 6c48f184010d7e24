-- The Claim of an end comes to its Parked record.
use Rattle.std.proofs.Common.{◌≡◌, ℕ, suc, ◌<◌, List, [], ◌∷◌, ◌++◌, refl, sym, subst, ap, ◌∙◌, arith, append_assoc}
use Rattle.std.specs.Prelude.{false, ◌&&◌, ◌==◌, map}
use Rattle.std.specs.List.{AllByRecursion}
use Rattle.sj_base.specs.declared.EndId.{EndId}
use Rattle.sj_rules.specs.Record.{is_same_end}
use Rattle.sj_forward_rules.specs.Record.{SentAt, StateAt, Held, Parked, Passing, Closed, FrameAt, Claim, stored}
use Rattle.sj_forward_rules.specs.Node.{with_record}
use Rattle.sj_forward_rules.specs.Arrivals.{at_record, claim_by, passed_on}
use Rattle.sj_forward_rules.specs.World.{WorldAt, lanes_with, with_lane, after_event}
use Rattle.sj_forward_laws.specs.Roads.{Chains, Road, inward, outward, claiming, is_road, behind_of, IsOnRoad, messages_in}
use Rattle.sj_forward_laws.specs.Pipe.{traffic, in_part}
use Rattle.sj_forward_laws.specs.Kept.{IsRecorded, IsLeft, IsJoined}
use Rattle.sj_forward_laws.proofs.RoadLemmas.{road_self, pop_same, pop_here, pop_lanes, push_same, push_here, push_lanes, IsPost}
use Rattle.sj_forward_laws.proofs.OpensLemmas.{pop_opens, push_opens, passed_none}
use Rattle.sj_forward_laws.proofs.StayLemmas.{written_stays, still_there}
use Rattle.sj_forward_laws.proofs.RecordLemmas.{written, written_here, written_away, for_all, same_in, same_out, written_records, written_alone}
use Rattle.sj_forward_laws.proofs.MovedLemmas.{IsAlike, alike_self, IsMoved, other_hop, last_messages, programs_stay, uses_stay, pipes_on}
use Rattle.sj_forward_laws.proofs.InLemmas.{Arrives}

-- the messages of frames that bring them
passed_messages : (e : EndId) (h p : ℕ) (ms : List SentAt) → messages_in (map (λ m. m.frame) (passed_on e h p ms)) ≡ ms
passed_messages e h p [] = refl
passed_messages e h p (m ∷ ms) = ap (λ l. m ∷ l) (passed_messages e h p ms)

-- they are on the road to that record
passed_mails : (c : Chains) (e : EndId) (h p : ℕ) → p ≡ c.at e h → (ms : List SentAt) → AllByRecursion (IsPost c (inward e h)) (passed_on e h p ms)
passed_mails c e h p at [] = tt
passed_mails c e h p at (m ∷ ms) = (record { road = refl; party = at }, passed_mails c e h p at ms)

-- one Claim is on the road, and it comes
none_left : (f : FrameAt) (fs gs : List FrameAt) → fs ≡ f ∷ [] → fs ≡ f ∷ gs → gs ≡ []
none_left f fs gs a b = grind (arith, a, b)

module _ {Q : Type 0} (w : WorldAt Q) (c : Chains) (states : EndId → ℕ → StateAt) (joined : IsJoined w c states) (q p : ℕ) (e : EndId) (h : ℕ)
    (rest : List FrameAt)
    (front : w.lanes q p ≡ Claim e h ∷ rest) where
  on : IsOnRoad c q p (Claim e h)
  on = (subst (λ l. AllByRecursion (IsOnRoad c q p) l) front (joined.lanes q p)).0

  came : traffic w.lanes c (claiming e h) ≡ Claim e h ∷ traffic (with_lane q p rest w.lanes) c (claiming e h)
  came = pop_here c w.lanes q p (Claim e h) rest front on

  found : IsRecorded ((w.nodes p).records e h) (behind_of c e h) (states e h)
  found =
      subst (λ (x : ℕ). IsRecorded ((w.nodes x).records e h) (behind_of c e h) (states e h)) on.goal
      (joined.records e h on.there.0 (omega (arith, on.there.1)))

  module _ (ms : List SentAt) (is : states e h ≡ Parked ms) where
    passes : IsMoved w (after_event w p (with_lane q p rest w.lanes)
        (record { node = with_record e h (record { behind = behind_of c e h; state = Passing q }) (w.nodes p); posts = passed_on e (suc h) q ms }))
        c states
    passes = record {
      after = written states e h (Passing q);
      joined = record {
        records = λ d k low le. written_records c states w.nodes p
            (with_record e h (record { behind = behind_of c e h; state = Passing q }) (w.nodes p)) e h (Passing q) on.goal (λ d k. refl) d k
            (joined.records d k low le);
        there = λ d k low some le. still_there w.nodes p (with_record e h (record { behind = behind_of c e h; state = Passing q }) (w.nodes p))
            (written_stays (w.nodes p) e h (record { behind = behind_of c e h; state = Passing q }))
            (c.at d k) d k (joined.there d k low some le);
        alone = λ d k x r low is. written_alone c states w.nodes p
            (with_record e h (record { behind = behind_of c e h; state = Passing q }) (w.nodes p)) e h
            (record { behind = behind_of c e h; state = Passing q })
            (omega (arith, on.there.1), on.goal) (λ d k. refl) d k (λ x r is. joined.alone d k x r low is) x r is;
        left = λ d k low lt. for_all (λ d k. k < c.top d → d.side < 2
            → IsLeft d k (c.at d (suc k)) (traffic (lanes_with p (passed_on e (suc h) q ms) (with_lane q p rest w.lanes)) c (claiming d k))
            (written states e h (Passing q) d k))
            e h (λ l i. left_here) d k (λ t l i. left_away d k t l i) lt low;
        lanes = push_lanes c (with_lane q p rest w.lanes) p (inward e (suc h)) on.goal (on.there.0, on.there.1) (passed_on e (suc h) q ms) mails
            (pop_lanes c w.lanes q p (Claim e h) rest front joined.lanes);
      };
      opens = λ d s fit. push_opens c (with_lane q p rest w.lanes) d p (passed_on e (suc h) q ms) (passed_none e (suc h) q ms) s
          (pop_opens c w.lanes d q p (Claim e h) rest front on refl s fit);
      pipes = λ d low. pipes_on c w.lanes (lanes_with p (passed_on e (suc h) q ms) (with_lane q p rest w.lanes)) states
          (written states e h (Passing q)) e h ms on.there.1 pop push
          (λ d k i j. same_in c states w.lanes (lanes_with p (passed_on e (suc h) q ms) (with_lane q p rest w.lanes)) e h (Passing q) d k i
          (same (inward d k) refl j))
          (λ d k. same_out c states w.lanes (lanes_with p (passed_on e (suc h) q ms) (with_lane q p rest w.lanes)) (written states e h (Passing q))
          d k (same (outward d k) refl refl)) d;
      lasts = λ d low. for_all (λ d k. k ≡ c.top d → IsAlike (states d k) (written states e h (Passing q) d k)) e h
          (λ i. absurd (omega (arith, i, on.there.1))) d (c.top d)
          (λ t i. subst (λ s. IsAlike (states d (c.top d)) s) (sym (written_away states e h (Passing q) d (c.top d) t))
          (alike_self (states d (c.top d)))) refl;
      programs = programs_stay w.nodes p (with_record e h (record { behind = behind_of c e h; state = Passing q }) (w.nodes p)) refl;
      uses = uses_stay w.nodes p (with_record e h (record { behind = behind_of c e h; state = Passing q }) (w.nodes p)) (λ d. refl);
    }
      where
        mails : AllByRecursion (IsPost c (inward e (suc h))) (passed_on e (suc h) q ms)
        mails = passed_mails c e (suc h) q (sym on.start) ms

        same : (r : Road) → is_road r (claiming e h) ≡ false → is_road r (inward e (suc h)) ≡ false
            → traffic (lanes_with p (passed_on e (suc h) q ms) (with_lane q p rest w.lanes)) c r ≡ traffic w.lanes c r
        same r i j =
            push_same c (with_lane q p rest w.lanes) p (inward e (suc h)) on.goal (passed_on e (suc h) q ms) mails r j
            ∙ pop_same c w.lanes q p (Claim e h) rest front r i

        left_here : IsLeft e h (c.at e (suc h)) (traffic (lanes_with p (passed_on e (suc h) q ms) (with_lane q p rest w.lanes)) c (claiming e h))
            (written states e h (Passing q) e h)
        left_here =
            let one : traffic w.lanes c (claiming e h) ≡ Claim e h ∷ [] =
            subst (λ s. IsLeft e h (c.at e (suc h)) (traffic w.lanes c (claiming e h)) s) is (joined.left e h on.there.0 on.there.1) in
            let none : traffic (with_lane q p rest w.lanes) c (claiming e h) ≡ [] =
            none_left (Claim e h) (traffic w.lanes c (claiming e h)) (traffic (with_lane q p rest w.lanes) c (claiming e h)) one came in
            subst (λ s. IsLeft e h (c.at e (suc h)) (traffic (lanes_with p (passed_on e (suc h) q ms) (with_lane q p rest w.lanes)) c
            (claiming e h)) s)
            (sym (written_here states e h (Passing q) e h (road_self (claiming e h)))) (
              sym on.start,
              push_same c (with_lane q p rest w.lanes) p (inward e (suc h)) on.goal (passed_on e (suc h) q ms) mails (claiming e h)
                  refl ∙ none,
            )

        left_away : (d : EndId) (k : ℕ) → (is_same_end d e && (k == h)) ≡ false → k < c.top d → d.side < 2
            → IsLeft d k (c.at d (suc k)) (traffic (lanes_with p (passed_on e (suc h) q ms) (with_lane q p rest w.lanes)) c (claiming d k))
            (written states e h (Passing q) d k)
        left_away d k t l i =
            subst (λ s. IsLeft d k (c.at d (suc k)) (traffic (lanes_with p (passed_on e (suc h) q ms) (with_lane q p rest w.lanes)) c
            (claiming d k)) s) (sym (written_away states e h (Passing q) d k t))
            (subst (λ x. IsLeft d k (c.at d (suc k)) x (states d k)) (sym (same (claiming d k) t refl)) (joined.left d k i l))

        pop : in_part w.lanes c states e h
            ≡ ms ++ in_part (lanes_with p (passed_on e (suc h) q ms) (with_lane q p rest w.lanes)) c (written states e h (Passing q)) e h
        pop =
            ap (λ s. stored s ++ messages_in (traffic w.lanes c (inward e h))) is
            ∙ ap (λ l. ms ++ messages_in l) (sym (same (inward e h) refl (other_hop e e h (suc h) (λ i. omega (arith, i)))))
            ∙ ap (λ s. ms ++ (stored s ++ messages_in
            (traffic (lanes_with p (passed_on e (suc h) q ms) (with_lane q p rest w.lanes)) c (inward e h))))
            (sym (written_here states e h (Passing q) e h (road_self (inward e h))))

        push : in_part (lanes_with p (passed_on e (suc h) q ms) (with_lane q p rest w.lanes)) c (written states e h (Passing q)) e (suc h)
            ≡ in_part w.lanes c states e (suc h) ++ ms
        push =
            ap (λ s. stored s ++ messages_in (traffic (lanes_with p (passed_on e (suc h) q ms) (with_lane q p rest w.lanes)) c (inward e (suc h))))
            (written_away states e h (Passing q) e (suc h) (other_hop e e (suc h) h (λ i. omega (arith, i))))
            ∙ ap (λ l. stored (states e (suc h)) ++ l)
            (last_messages (traffic (lanes_with p (passed_on e (suc h) q ms) (with_lane q p rest w.lanes)) c (inward e (suc h)))
            (traffic w.lanes c (inward e (suc h))) (map (λ m. m.frame) (passed_on e (suc h) q ms)) ms (passed_messages e (suc h) q ms)
            (push_here c (with_lane q p rest w.lanes) p (inward e (suc h)) on.goal (passed_on e (suc h) q ms) mails
            ∙ ap (λ l. l ++ map (λ m. m.frame) (passed_on e (suc h) q ms)) (pop_same c w.lanes q p (Claim e h) rest front (inward e (suc h)) refl)))
            ∙ sym (append_assoc (stored (states e (suc h))) (messages_in (traffic w.lanes c (inward e (suc h)))) ms)

  -- a Claim comes
  pub claim_arrives : Arrives w c states q p (Claim e h) rest
  claim_arrives = by (states e h) refl
    where
      left : (st : StateAt) → states e h ≡ st → IsLeft e h (c.at e (suc h)) (traffic w.lanes c (claiming e h)) st
      left st is = subst (λ s. IsLeft e h (c.at e (suc h)) (traffic w.lanes c (claiming e h)) s) is (joined.left e h on.there.0 on.there.1)

      by : (st : StateAt) → states e h ≡ st → Arrives w c states q p (Claim e h) rest
      by (Held ms) is = absurd (left (Held ms) is)
      by (Parked ms) is = record {
        done = record {
          node = with_record e h (record { behind = behind_of c e h; state = Passing q }) (w.nodes p);
          posts = passed_on e (suc h) q
              ms;
        };
        is = ap (λ r. at_record (claim_by (w.nodes p) e h q) r) (subst (λ s. IsRecorded ((w.nodes p).records e h) (behind_of c e h) s) is found);
        moved = passes ms is;
      }
      by (Passing next) is =
          let none : traffic w.lanes c (claiming e h) ≡ [] = (left (Passing next) is).1 in
          absurd (cc (none, came))
      by Closed is = absurd (left Closed is)
