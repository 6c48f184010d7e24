-- A message is sent on an end in use, maybe with another end that leaves: the invariant is kept.
use Rattle.std.proofs.Common.{◌≡◌, ℕ, suc, ◌+◌, ◌<◌, ◌≤◌, List, [], ◌∷◌, ◌++◌, length, drop, refl, sym, subst, ap, ◌∙◌, arith, inl, inr}
use Rattle.std.specs.Prelude.{Bool, true, false, if◌then◌else◌, map, Some, ◌⊎◌, slice_get}
use Rattle.std.proofs.lemmas.List.{map_push, length-map}
use Rattle.sj_base.specs.declared.EndId.{EndId}
use Rattle.sj_base.specs.declared.Msg.{Msg}
use Rattle.sj_rules.specs.Record.{is_same_end, other_end}
use Rattle.sj_rules.specs.Acts.{plain_sent}
use Rattle.sj_rules.specs.Moves.{with_side}
use Rattle.sj_rules.specs.PlainSide.{PlainSide, PlainAt}
use Rattle.sj_rules.specs.PlainChanges.{waits_of}
use Rattle.sj_world_lemmas.proofs.WaitLemmas.{waits_but_other, waits_more}
use Rattle.sj_world_lemmas.proofs.LinkLemmas.{got_in}
use Rattle.sj_forward_rules.specs.Record.{RecordAt, SentAt, StateAt, Held, Parked, Passing, Closed, stored}
use Rattle.sj_forward_rules.specs.Node.{NodeAt, onward}
use Rattle.sj_forward_rules.specs.World.{WorldAt, lanes_with}
use Rattle.sj_forward_laws.specs.Roads.{inward, claiming, behind_of}
use Rattle.sj_forward_laws.specs.Pipe.{traffic, pipe}
use Rattle.sj_forward_laws.specs.Kept.{IsRecorded, IsInChain, Seat, in_use, on_its_way, at_its_end, in_open, IsLeft, IsLast, NamesFit, IsKept}
use Rattle.sj_forward_laws.proofs.EndLemmas.{same_end, same_is, other_low}
use Rattle.sj_forward_laws.proofs.RoadLemmas.{push_lanes}
use Rattle.sj_forward_laws.proofs.OpensLemmas.{OpensLike, push_opens, onward_none}
use Rattle.sj_forward_laws.proofs.StayLemmas.{Stays}
use Rattle.sj_forward_laws.proofs.OutLemmas.{road_onward, onward_post, onward_start, onward_there, onward_no_claim}
use Rattle.sj_forward_laws.proofs.SentLemmas.{sent_same, pipe_more, pipe_else}

-- what is known of a last record, beside another plain side
pub last_by : {P : Type 0} (IsOver : P → Type 0) (x x' : PlainSide P) (waits waits' : List Msg) (top : ℕ) (seat : Seat) (st : StateAt)
    → IsLast IsOver x waits top seat st
    → x'.hops ≡ x.hops → (seat ≡ at_its_end → IsOver x.place → (waits ≡ []) → IsOver x'.place × (waits' ≡ [])) → IsLast IsOver x' waits' top seat st
last_by IsOver x x' waits waits' top in_use (Held ms) last hops over = hops ∙ last
last_by IsOver x x' waits waits' top (on_its_way e n) (Parked ms) last hops over = hops ∙ last
last_by IsOver x x' waits waits' top at_its_end Closed last hops over = over refl last.0 last.1
last_by IsOver x x' waits waits' top in_open Closed last hops over = (hops ∙ last.0, last.1)
last_by IsOver x x' waits waits' top in_use (Parked ms) last hops over = absurd last
last_by IsOver x x' waits waits' top in_use (Passing p) last hops over = absurd last
last_by IsOver x x' waits waits' top in_use Closed last hops over = absurd last
last_by IsOver x x' waits waits' top (on_its_way e n) (Held ms) last hops over = absurd last
last_by IsOver x x' waits waits' top (on_its_way e n) (Passing p) last hops over = absurd last
last_by IsOver x x' waits waits' top (on_its_way e n) Closed last hops over = absurd last
last_by IsOver x x' waits waits' top at_its_end (Held ms) last hops over = absurd last
last_by IsOver x x' waits waits' top at_its_end (Parked ms) last hops over = absurd last
last_by IsOver x x' waits waits' top at_its_end (Passing p) last hops over = absurd last
last_by IsOver x x' waits waits' top in_open (Held ms) last hops over = absurd last
last_by IsOver x x' waits waits' top in_open (Parked ms) last hops over = absurd last
last_by IsOver x x' waits waits' top in_open (Passing p) last hops over = absurd last

-- seats differ
abbrev pub is_at_end : Seat → Bool
is_at_end in_use = false
is_at_end (on_its_way e n) = false
is_at_end at_its_end = true
is_at_end in_open = false

module _ {P Q : Type 0} (IsOver : P → Type 0) (binds : Q → EndId → Bool) (parties : ℕ) (w : WorldAt Q) (plain plain1 : PlainAt P Q)
    (kept : IsKept IsOver binds parties w plain)
    (sent1 : (x : EndId) → (plain1.sides x).sent ≡ (plain.sides x).sent) (taken1 : (x : EndId) → (plain1.sides x).taken ≡ (plain.sides x).taken) where
  -- as much waits
  pub waits_alike : (x : EndId) → waits_of plain1 x ≡ waits_of plain x
  waits_alike x = ap (λ (n : ℕ). drop n (plain1.sides (other_end x)).sent) (taken1 x) ∙ ap (λ l. drop (plain.sides x).taken l) (sent1 (other_end x))

  module _ (nodes' : ℕ → NodeAt Q) (states' : EndId → ℕ → StateAt) (seats' : EndId → Seat) (p : ℕ) (e : EndId) (low : e.side < 2) (place : P)
      (m : SentAt)
      (same : (d : EndId) (k : ℕ) → stored (states' d k) ≡ stored (kept.states d k))
      (records : (d : EndId) (k : ℕ) → d.side < 2 → k ≤ kept.chains.top d
      → IsRecorded ((nodes' (kept.chains.at d k)).records d k) (behind_of kept.chains d k) (states' d k))
      (stays : (x : ℕ) → Stays (w.nodes x) (nodes' x))
      (alone : (d : EndId) (k x : ℕ) (r : RecordAt) → d.side < 2 → (nodes' x).records d k ≡ Some r → IsInChain kept.chains d k x)
      (left : (d : EndId) (k : ℕ) → k < kept.chains.top d → states' d k ≡ kept.states d k)
      (last1 : (d : EndId) → d.side < 2
      → IsLast IsOver (plain1.sides d) (waits_of plain d) (kept.chains.top d) (seats' d) (states' d (kept.chains.top d)))
      (seats_like : (d : EndId) → OpensLike (kept.seats d) (seats' d))
      (names_old : (d : EndId) (n : ℕ) (a : SentAt) → NamesFit kept.chains kept.seats d n a.msg a.hop → NamesFit kept.chains seats' d n a.msg a.hop)
      (names_new : NamesFit kept.chains seats' (other_end e) ((plain.sides (other_end e)).taken + length (waits_of plain (other_end e))) m.msg m.hop)
      (seat : seats' e ≡ in_use) (at : kept.chains.at e (kept.chains.top e) ≡ p)
      (goes_on : IsOver (plain1.sides (other_end e)).place → ⊥) (fewer : (plain.sides (other_end e)).taken ≤ length (plain.sides e).sent)
      (programs : (k : ℕ) → (nodes' k).program ≡ plain1.programs k)
      (uses : (d : EndId) → d.side < 2 → seats' d ≡ in_use → (nodes' (kept.chains.at d (kept.chains.top d))).uses d ≡ Some (kept.chains.top d))
      (bound : (k : ℕ) (d : EndId) → binds (plain1.programs k) d ≡ true → (d.side < 2) × (seats' d ≡ in_use)
      × (kept.chains.at d (kept.chains.top d) ≡ k))
    where
      -- the plain world after it
      abbrev pub plain_after : PlainAt P Q
      plain_after = with_side e (λ x. plain_sent x place m.msg) plain1

      -- the world after it
      abbrev pub world_after : WorldAt Q
      world_after = record {
        nodes = nodes';
        lanes = lanes_with p
            (onward e (kept.chains.top e) (behind_of kept.chains e (kept.chains.top e)) m ∷ []) w.lanes;
      }

      sides_else : (d : EndId) → is_same_end d e ≡ false → plain_after.sides d ≡ plain1.sides d
      sides_else d apart = ap (λ (b : Bool). if b then plain_sent (plain1.sides d) place m.msg else plain1.sides d) apart

      hops_same : (d : EndId) → (plain_after.sides d).hops ≡ (plain1.sides d).hops
      hops_same d = by (is_same_end d e)
        where
          by : (b : Bool) → (if b then plain_sent (plain1.sides d) place m.msg else plain1.sides d).hops ≡ (plain1.sides d).hops
          by true = refl
          by false = refl

      taken_same : (d : EndId) → (plain_after.sides d).taken ≡ (plain1.sides d).taken
      taken_same d = by (is_same_end d e)
        where
          by : (b : Bool) → (if b then plain_sent (plain1.sides d) place m.msg else plain1.sides d).taken ≡ (plain1.sides d).taken
          by true = refl
          by false = refl

      sent_more : (plain_after.sides e).sent ≡ (plain1.sides e).sent ++ m.msg ∷ []
      sent_more = ap (λ (b : Bool). (if b then plain_sent (plain1.sides e) place m.msg else plain1.sides e).sent) (same_end e)

      waits_else : (d : EndId) → d.side < 2 → is_same_end d (other_end e) ≡ false → waits_of plain_after d ≡ waits_of plain d
      waits_else d i apart = waits_but_other plain1 plain_after e low sides_else (taken_same e) d i apart ∙ waits_alike d

      waits_one : waits_of plain_after (other_end e) ≡ waits_of plain (other_end e) ++ m.msg ∷ []
      waits_one =
          waits_more plain1 plain_after e low sides_else m.msg sent_more
          (subst (λ (n : ℕ). n ≤ length (plain1.sides e).sent) (sym (taken1 (other_end e)))
          (subst (λ l. (plain.sides (other_end e)).taken ≤ length l) (sym (sent1 e)) fewer))
          ∙ ap (λ l. l ++ m.msg ∷ []) (waits_alike (other_end e))

      pipe_one : pipe world_after.lanes kept.chains states' (other_end e) ≡ pipe w.lanes kept.chains kept.states (other_end e) ++ m ∷ []
      pipe_one = pipe_more kept.chains w.lanes p e low m kept.states states' same (kept.chains.top e) at refl

      pipe_other : (d : EndId) → d.side < 2 → is_same_end d (other_end e) ≡ false
          → pipe world_after.lanes kept.chains states' d ≡ pipe w.lanes kept.chains kept.states d
      pipe_other d i apart = pipe_else kept.chains w.lanes p e low m kept.states states' same (kept.chains.top e) at d i apart

      length_is : length (pipe w.lanes kept.chains kept.states (other_end e)) ≡ length (waits_of plain (other_end e))
      length_is =
          sym (length-map (pipe w.lanes kept.chains kept.states (other_end e)) (λ (x : SentAt). x.msg))
          ∙ ap (λ l. length l) (kept.waits (other_end e) (other_low e))

      lasts : (d : EndId) → d.side < 2
          → IsLast IsOver (plain_after.sides d) (waits_of plain_after d) (kept.chains.top d) (seats' d) (states' d (kept.chains.top d))
      lasts d i =
          last_by IsOver (plain1.sides d) (plain_after.sides d) (waits_of plain d) (waits_of plain_after d) (kept.chains.top d) (seats' d)
          (states' d (kept.chains.top d)) (last1 d i) (hops_same d)
          (λ closed over none. by (is_same_end d e) refl (is_same_end d (other_end e)) refl closed over none)
        where
          by : (b : Bool) → is_same_end d e ≡ b → (b' : Bool) → is_same_end d (other_end e) ≡ b' → seats' d ≡ at_its_end
              → IsOver (plain1.sides d).place → (waits_of plain d ≡ []) → IsOver (plain_after.sides d).place × (waits_of plain_after d ≡ [])
          by true t b' u closed over none =
              let use_it : seats' d ≡ in_use = ap seats' (same_is d e t) ∙ seat in
              let bad : true ≡ false = ap is_at_end (sym closed ∙ use_it) in
              absurd (cc bad)
          by false t true u closed over none = absurd (goes_on (subst (λ x. IsOver (plain1.sides x).place) (same_is d (other_end e) u) over))
          by false t false u closed over none = (subst (λ (s : PlainSide P). IsOver s.place) (sym (sides_else d t)) over, waits_else d i u ∙ none)

      names_here : (n : ℕ) (a : SentAt) → (slice_get (pipe w.lanes kept.chains kept.states (other_end e)) n ≡ Some a)
          ⊎ ((n ≡ length (pipe w.lanes kept.chains kept.states (other_end e))) × (a ≡ m))
          → NamesFit kept.chains seats' (other_end e) ((plain.sides (other_end e)).taken + n) a.msg a.hop
      names_here n a (inl old) = names_old (other_end e) ((plain.sides (other_end e)).taken + n) a (kept.names (other_end e) n a (other_low e) old)
      names_here n a (inr new) =
          subst (λ (x : SentAt). NamesFit kept.chains seats' (other_end e) ((plain.sides (other_end e)).taken + n) x.msg x.hop) (sym new.1)
          (subst (λ (x : ℕ). NamesFit kept.chains seats' (other_end e) ((plain.sides (other_end e)).taken + x) m.msg m.hop)
          (sym (new.0 ∙ length_is)) names_new)

      names : (d : EndId) (n : ℕ) (a : SentAt) → d.side < 2 → slice_get (pipe world_after.lanes kept.chains states' d) n ≡ Some a
          → NamesFit kept.chains seats' d ((plain_after.sides d).taken + n) a.msg a.hop
      names d n a i got =
          subst (λ (x : ℕ). NamesFit kept.chains seats' d (x + n) a.msg a.hop) (sym (taken_same d ∙ taken1 d)) (by (is_same_end d (other_end e)) refl)
        where
          by : (b : Bool) → is_same_end d (other_end e) ≡ b → NamesFit kept.chains seats' d ((plain.sides d).taken + n) a.msg a.hop
          by true t =
              let is : d ≡ other_end e = same_is d (other_end e) t in
              let there : slice_get (pipe w.lanes kept.chains kept.states (other_end e) ++ m ∷ []) n ≡ Some a =
              ap (λ l. slice_get l n) (sym pipe_one) ∙ ap (λ x. slice_get (pipe world_after.lanes kept.chains states' x) n) (sym is) ∙ got in
              subst (λ x. NamesFit kept.chains seats' x ((plain.sides x).taken + n) a.msg a.hop) (sym is)
              (names_here n a (got_in (pipe w.lanes kept.chains kept.states (other_end e)) m n a there))
          by false t = names_old d ((plain.sides d).taken + n) a (kept.names d n a i (ap (λ l. slice_get l n) (sym (pipe_other d i t)) ∙ got))

      waits : (d : EndId) → d.side < 2 → map (λ (x : SentAt). x.msg) (pipe world_after.lanes kept.chains states' d) ≡ waits_of plain_after d
      waits d i = by (is_same_end d (other_end e)) refl
        where
          by : (b : Bool) → is_same_end d (other_end e) ≡ b
              → map (λ (x : SentAt). x.msg) (pipe world_after.lanes kept.chains states' d) ≡ waits_of plain_after d
          by true t =
              subst (λ x. map (λ (x : SentAt). x.msg) (pipe world_after.lanes kept.chains states' x) ≡ waits_of plain_after x)
              (sym (same_is d (other_end e) t))
              (ap (λ l. map (λ (x : SentAt). x.msg) l) pipe_one
              ∙ map_push (λ (x : SentAt). x.msg) (pipe w.lanes kept.chains kept.states (other_end e)) m
              ∙ ap (λ l. l ++ m.msg ∷ []) (kept.waits (other_end e) (other_low e)) ∙ sym waits_one)
          by false t = ap (λ l. map (λ (x : SentAt). x.msg) l) (pipe_other d i t) ∙ kept.waits d i ∙ sym (waits_else d i t)

      -- the invariant is kept
      pub send_keeps : IsKept IsOver binds parties world_after plain_after
      send_keeps = record {
        chains = kept.chains;
        states = states';
        seats = seats';
        joined = record {
          records = records;
          there = λ d k i some le. stays (kept.chains.at d k) d k (kept.joined.there d k i some le);
          alone = alone;
          left = λ d k i lt.
              subst (λ s. IsLeft d k (kept.chains.at d (suc k)) (traffic world_after.lanes kept.chains (claiming d k)) s) (sym (left d k lt))
              (subst (λ l. IsLeft d k (kept.chains.at d (suc k)) l (kept.states d k))
              (sym (sent_same kept.chains w.lanes p e low m (kept.chains.top e) at (claiming d k) (onward_no_claim e (kept.chains.top e) d k)))
              (kept.joined.left d k i lt));
          lanes =
              push_lanes kept.chains w.lanes p (road_onward e (kept.chains.top e)) (onward_start kept.chains e (kept.chains.top e) low ∙ at)
              (onward_there kept.chains e (kept.chains.top e) low (omega arith))
              (onward e (kept.chains.top e) (behind_of kept.chains e (kept.chains.top e)) m ∷ []) (onward_post kept.chains e (kept.chains.top e) m)
              kept.joined.lanes;
        };
        below = kept.below;
        opens = λ d i. seats_like d d.sess (traffic world_after.lanes kept.chains (inward d 0))
            (push_opens kept.chains w.lanes d p (onward e (kept.chains.top e) (behind_of kept.chains e (kept.chains.top e)) m ∷ [])
            (onward_none e (kept.chains.top e) (behind_of kept.chains e (kept.chains.top e)) m) (kept.seats d) (kept.opens d i));
        last = lasts;
        waits = waits;
        names = names;
        programs = programs;
        uses = uses;
        bound = bound;
      }
