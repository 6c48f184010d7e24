-- A message comes to a record of the end that takes it.
use Rattle.std.proofs.lemmas.Bool.{cases_lt}
use Rattle.std.specs.Prelude.{◌⊎◌}
use Rattle.std.proofs.Common.{inl, inr, ◌≤◌, ◌≡◌, ℕ, suc, ◌<◌, List, [], ◌∷◌, ◌++◌, refl, sym, subst, ap, ◌∙◌, arith, append_assoc}
use Rattle.std.specs.Prelude.{false, Some, ⊤}
use Rattle.std.specs.List.{AllByRecursion}
use Rattle.sj_base.specs.declared.EndId.{EndId}
use Rattle.sj_rules.specs.Record.{other_end}
use Rattle.sj_forward_rules.specs.Record.{SentAt, StateAt, Held, Parked, Passing, Closed, FrameAt, In, stored}
use Rattle.sj_forward_rules.specs.Node.{Worked, quietly, with_record}
use Rattle.sj_forward_rules.specs.Arrivals.{comes, at_record, in_by}
use Rattle.sj_forward_rules.specs.World.{WorldAt, lanes_with, with_lane, after_event}
use Rattle.sj_forward_laws.specs.Roads.{Chains, Road, inward, outward, claiming, is_road, behind_of, start_of, goal_of, on_road, IsOnRoad}
use Rattle.sj_forward_laws.specs.Roads.{messages_in}
use Rattle.sj_forward_laws.specs.Pipe.{traffic, in_part}
use Rattle.sj_forward_laws.specs.Kept.{IsRecorded, IsLeft, IsJoined}
use Rattle.sj_forward_laws.proofs.RoadLemmas.{road_self, pop_same, pop_here, pop_lanes, push_same, push_here, push_lanes, IsPost}
use Rattle.sj_forward_laws.proofs.OpensLemmas.{pop_opens, push_opens}
use Rattle.sj_forward_laws.proofs.StayLemmas.{written_stays, still_there}
use Rattle.sj_forward_laws.proofs.RecordLemmas.{written, written_here, for_all, same_pipe, same_in, same_part, same_out, written_records}
use Rattle.sj_forward_laws.proofs.RecordLemmas.{kept_records, written_alone, kept_alone, record_with}
use Rattle.sj_forward_laws.proofs.MovedLemmas.{IsAlike, alike_self, alike_written, left_alike, IsMoved, quiet_lane, other_hop}
use Rattle.sj_forward_laws.proofs.MovedLemmas.{first_message, last_messages, programs_stay, uses_stay, pipes_on}

-- a frame that comes fits, and what it leaves is kept
pub record Arrives {Q : Type 0} (w : WorldAt Q) (c : Chains) (states : EndId → ℕ → StateAt) (q p : ℕ) (f : FrameAt) (rest : List FrameAt) : Type 0
  where
    pub done : Worked Q
    pub is : comes (w.nodes p) q f ≡ Some done
    pub moved : IsMoved w (after_event w p (with_lane q p rest w.lanes) done) c states

-- what is known of the last records: none of them passes on
abbrev pub IsNoPassing : StateAt → Type 0
IsNoPassing (Passing p) = ⊥
IsNoPassing (Held ms) = ⊤
IsNoPassing (Parked ms) = ⊤
IsNoPassing Closed = ⊤

module _ {Q : Type 0} (w : WorldAt Q) (c : Chains) (states : EndId → ℕ → StateAt) (joined : IsJoined w c states) (q p : ℕ) (e : EndId) (h : ℕ)
    (m : SentAt) (rest : List FrameAt)
    (front : w.lanes q p ≡ In e h m ∷ rest) where
  on : IsOnRoad c q p (In e h m)
  on = (subst (λ l. AllByRecursion (IsOnRoad c q p) l) front (joined.lanes q p)).0

  pub came : messages_in (traffic w.lanes c (inward e h)) ≡ m ∷ messages_in (traffic (with_lane q p rest w.lanes) c (inward e h))
  came =
      first_message (In e h m) m (traffic w.lanes c (inward e h)) (traffic (with_lane q p rest w.lanes) c (inward e h)) refl
      (pop_here c w.lanes q p (In e h m) rest front on)

  found : IsRecorded ((w.nodes p).records e h) (behind_of c e h) (states e h)
  found = subst (λ (x : ℕ). IsRecorded ((w.nodes x).records e h) (behind_of c e h) (states e h)) on.goal (joined.records e h on.there.0 on.there.1)

  -- it is stored there
  module _ (st : StateAt) (more : stored st ≡ stored (states e h) ++ m ∷ []) (alike : IsAlike (states e h) st) where
    stays : IsMoved w (after_event w p (with_lane q p rest w.lanes)
        (quietly (with_record e h (record { behind = behind_of c e h; state = st }) (w.nodes p)))) c states
    stays = record {
      after = written states e h st;
      joined = record {
        records = λ d k low le. written_records c states w.nodes p (with_record e h (record { behind = behind_of c e h; state = st }) (w.nodes p))
            e h st on.goal (λ d k. refl) d k (joined.records d k low le);
        there = λ d k low some le. still_there w.nodes p (with_record e h (record { behind = behind_of c e h; state = st }) (w.nodes p))
            (written_stays (w.nodes p) e h (record { behind = behind_of c e h; state = st }))
            (c.at d k) d k (joined.there d k low some le);
        alone = λ d k x r low is. written_alone c states w.nodes p (with_record e h (record { behind = behind_of c e h; state = st }) (w.nodes p))
            e h (record { behind = behind_of c e h; state = st })
            (on.there.1, on.goal) (λ d k. refl) d k (λ x r is. joined.alone d k x r low is) x r is;
        left = λ d k low lt.
            left_alike d k (c.at d (suc k)) (traffic (lanes_with p [] (with_lane q p rest w.lanes)) c (claiming d k)) (states d k)
            (written states e h st d k) (alike_written states e h st alike d k)
            (subst (λ l. IsLeft d k (c.at d (suc k)) l (states d k)) (sym (same (claiming d k) refl)) (joined.left d k low lt));
        lanes = λ from to. subst (λ l. AllByRecursion (IsOnRoad c from to) l) (sym (quiet_lane p (with_lane q p rest w.lanes) from to))
            (pop_lanes c w.lanes q p (In e h m) rest front joined.lanes from to);
      };
      opens = λ d s fit. push_opens c (with_lane q p rest w.lanes) d p [] tt s (pop_opens c w.lanes d q p (In e h m) rest front on refl s fit);
      pipes = λ d low. same_pipe c states w.lanes (lanes_with p [] (with_lane q p rest w.lanes)) (written states e h st) d
          (λ k le. for_all (λ d k. in_part (lanes_with p [] (with_lane q p rest w.lanes)) c (written states e h st) d k
          ≡ in_part w.lanes c states d k) e h here d k
          (λ t. same_in c states w.lanes (lanes_with p [] (with_lane q p rest w.lanes)) e h st d k t (same (inward d k) t)))
          (λ k lt. same_out c states w.lanes (lanes_with p [] (with_lane q p rest w.lanes)) (written states e h st) (other_end d) k
          (same (outward (other_end d) k) refl));
      lasts = λ d low. alike_written states e h st alike d (c.top d);
      programs = programs_stay w.nodes p (with_record e h (record { behind = behind_of c e h; state = st }) (w.nodes p)) refl;
      uses = uses_stay w.nodes p (with_record e h (record { behind = behind_of c e h; state = st }) (w.nodes p)) (λ d. refl);
    }
      where
        quiet : (r : Road) → traffic (lanes_with p [] (with_lane q p rest w.lanes)) c r ≡ traffic (with_lane q p rest w.lanes) c r
        quiet r = ap (λ l. on_road r l) (quiet_lane p (with_lane q p rest w.lanes) (start_of c r) (goal_of c r))

        same : (r : Road) → is_road r (inward e h) ≡ false → traffic (lanes_with p [] (with_lane q p rest w.lanes)) c r ≡ traffic w.lanes c r
        same r not = quiet r ∙ pop_same c w.lanes q p (In e h m) rest front r not

        here : in_part (lanes_with p [] (with_lane q p rest w.lanes)) c (written states e h st) e h ≡ in_part w.lanes c states e h
        here =
            ap (λ s. stored s ++ messages_in (traffic (lanes_with p [] (with_lane q p rest w.lanes)) c (inward e h)))
            (written_here states e h st e h (road_self (inward e h)))
            ∙ ap (λ l. stored st ++ messages_in l) (quiet (inward e h))
            ∙ ap (λ l. l ++ messages_in (traffic (with_lane q p rest w.lanes) c (inward e h))) more
            ∙ append_assoc (stored (states e h)) (m ∷ []) (messages_in (traffic (with_lane q p rest w.lanes) c (inward e h)))
            ∙ ap (λ l. stored (states e h) ++ l) (sym came)

  -- it goes on to the next record
  module _ (next : ℕ) (is : states e h ≡ Passing next) (below : h < c.top e) where
    goes_on : IsMoved w (after_event w p (with_lane q p rest w.lanes)
        (record { node = w.nodes p; posts = record { party = next; frame = In e (suc h) m } ∷ [] })) c states
    goes_on = record {
      after = states;
      joined = record {
        records = λ d k low le. kept_records c states w.nodes p (w.nodes p) (λ d k. refl) d k (joined.records d k low le);
        there = λ d k low some le. still_there w.nodes p (w.nodes p) (λ d k has. has) (c.at d k) d k (joined.there d k low some le);
        alone = λ d k x r low is. kept_alone c states w.nodes p (w.nodes p) (λ d k. refl) d k (λ x r is. joined.alone d k x r low is) x r is;
        left = λ d k low lt. subst (λ l. IsLeft d k (c.at d (suc k)) l (states d k)) (sym (same (claiming d k) refl refl)) (joined.left d k low lt);
        lanes =
            push_lanes c (with_lane q p rest w.lanes) p (inward e (suc h)) on.goal (on.there.0, below)
            (record { party = next; frame = In e (suc h) m } ∷ []) mails
            (pop_lanes c w.lanes q p (In e h m) rest front joined.lanes);
      };
      opens = λ d s fit. push_opens c (with_lane q p rest w.lanes) d p (record { party = next; frame = In e (suc h) m } ∷ []) (refl, tt) s
          (pop_opens c w.lanes d q p (In e h m) rest front on refl s fit);
      pipes = λ d low. pipes_on c w.lanes (lanes_with p (record { party = next; frame = In e (suc h) m } ∷ []) (with_lane q p rest w.lanes)) states
          states e h (m ∷ []) below pop push
          (λ d k i j. same_part c states w.lanes (lanes_with p (record { party = next; frame = In e (suc h) m } ∷ []) (with_lane q p rest w.lanes))
          d k (same (inward d k) i j))
          (λ d k. same_out c states w.lanes (lanes_with p (record { party = next; frame = In e (suc h) m } ∷ []) (with_lane q p rest w.lanes))
          states d k (same (outward d k) refl refl)) d;
      lasts = λ d low. alike_self (states d (c.top d));
      programs = programs_stay w.nodes p (w.nodes p) refl;
      uses = uses_stay w.nodes p (w.nodes p) (λ d. refl);
    }
      where
        party : next ≡ c.at e (suc h)
        party = (subst (λ s. IsLeft e h (c.at e (suc h)) (traffic w.lanes c (claiming e h)) s) is (joined.left e h on.there.0 below)).0

        mails : AllByRecursion (IsPost c (inward e (suc h))) (record { party = next; frame = In e (suc h) m } ∷ [])
        mails = (record { road = refl; party = party }, tt)

        same : (r : Road) → is_road r (inward e h) ≡ false → is_road r (inward e (suc h)) ≡ false
            → traffic (lanes_with p (record { party = next; frame = In e (suc h) m } ∷ []) (with_lane q p rest w.lanes)) c r ≡ traffic w.lanes c r
        same r i j =
            push_same c (with_lane q p rest w.lanes) p (inward e (suc h)) on.goal (record { party = next; frame = In e (suc h) m } ∷ []) mails r j
            ∙ pop_same c w.lanes q p (In e h m) rest front r i

        pop : in_part w.lanes c states e h
            ≡ m ∷ in_part (lanes_with p (record { party = next; frame = In e (suc h) m } ∷ []) (with_lane q p rest w.lanes)) c states e h
        pop =
            ap (λ s. stored s ++ messages_in (traffic w.lanes c (inward e h))) is
            ∙ came
            ∙ ap (λ l. m ∷ messages_in l) (sym (push_same c (with_lane q p rest w.lanes) p (inward e (suc h)) on.goal
            (record { party = next; frame = In e (suc h) m } ∷ []) mails (inward e h)
            (other_hop e e h (suc h) (λ i. omega (arith, i)))))
            ∙ ap (λ s. m ∷ (stored s ++ messages_in (traffic
            (lanes_with p (record { party = next; frame = In e (suc h) m } ∷ []) (with_lane q p rest w.lanes)) c (inward e h)))) (sym is)

        push : in_part (lanes_with p (record { party = next; frame = In e (suc h) m } ∷ []) (with_lane q p rest w.lanes)) c states e (suc h)
            ≡ in_part w.lanes c states e (suc h) ++ m ∷ []
        push =
            ap (λ l. stored (states e (suc h)) ++ l)
            (last_messages (traffic (lanes_with p (record { party = next; frame = In e (suc h) m } ∷ []) (with_lane q p rest w.lanes)) c
            (inward e (suc h)))
            (traffic w.lanes c (inward e (suc h))) (In e (suc h) m ∷ []) (m ∷ []) refl
            (push_here c (with_lane q p rest w.lanes) p (inward e (suc h)) on.goal (record { party = next; frame = In e (suc h) m } ∷ []) mails
            ∙ ap (λ l. l ++ In e (suc h) m ∷ []) (pop_same c w.lanes q p (In e h m) rest front (inward e (suc h))
            (other_hop e e (suc h) h (λ i. omega (arith, i))))))
            ∙ sym (append_assoc (stored (states e (suc h))) (messages_in (traffic w.lanes c (inward e (suc h)))) (m ∷ []))

  -- a message comes where the record isn't closed
  pub in_arrives : (states e h ≡ Closed → ⊥) → IsNoPassing (states e (c.top e)) → Arrives w c states q p (In e h m) rest
  in_arrives not_closed top = by (states e h) refl
    where
      row : (st : StateAt) → (w.nodes p).records e h ≡ record_with (behind_of c e h) st
          → comes (w.nodes p) q (In e h m) ≡ in_by (w.nodes p) e h m (behind_of c e h) st
      row st there = ap (λ r. at_record (in_by (w.nodes p) e h m) r) there

      there_is : (st : StateAt) → states e h ≡ st → IsRecorded ((w.nodes p).records e h) (behind_of c e h) st
      there_is st is = subst (λ s. IsRecorded ((w.nodes p).records e h) (behind_of c e h) s) is found

      below : (next : ℕ) → states e h ≡ Passing next → (h < c.top e) ⊎ (c.top e ≤ h) → h < c.top e
      below next is (inl lt) = lt
      below next is (inr le) =
          let i : c.top e ≡ h = omega (arith, le, on.there.1) in
          absurd (subst IsNoPassing (ap (λ (x : ℕ). states e x) i ∙ is) top)

      by : (st : StateAt) → states e h ≡ st → Arrives w c states q p (In e h m) rest
      by (Held ms) is = record {
        done = quietly (with_record e h (record { behind = behind_of c e h; state = Held (ms ++ m ∷ []) }) (w.nodes p));
        is = row (Held ms) (there_is (Held ms) is);
        moved = stays (Held (ms ++ m ∷ [])) (ap (λ s. stored s ++ m ∷ []) (sym is)) (subst (λ s. IsAlike s (Held (ms ++ m ∷ []))) (sym is) tt);
      }
      by (Parked ms) is = record {
        done = quietly (with_record e h (record { behind = behind_of c e h; state = Parked (ms ++ m ∷ []) }) (w.nodes p));
        is = row (Parked ms) (there_is (Parked ms) is);
        moved = stays (Parked (ms ++ m ∷ [])) (ap (λ s. stored s ++ m ∷ []) (sym is)) (subst (λ s. IsAlike s (Parked (ms ++ m ∷ []))) (sym is) tt);
      }
      by (Passing next) is = record {
        done = record { node = w.nodes p; posts = record { party = next; frame = In e (suc h) m } ∷ [] };
        is = row (Passing next) (there_is (Passing next) is);
        moved = goes_on next is (below next is (cases_lt h (c.top e)));
      }
      by Closed is = absurd (not_closed is)
