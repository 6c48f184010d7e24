-- The first message of an end in use is taken: the invariant is kept, as far as the end goes.
use Rattle.std.proofs.Common.{◌≡◌, ℕ, suc, ◌+◌, ◌<◌, List, [], ◌∷◌, ◌++◌, drop, refl, sym, subst, ap, ◌∙◌, arith}
use Rattle.std.specs.Prelude.{Bool, true, false, ◌&&◌, ◌==◌, if◌then◌else◌, map, Some, slice_get}
use Rattle.sj_base.specs.declared.EndId.{EndId}
use Rattle.sj_rules.specs.Record.{is_same_end, other_end}
use Rattle.sj_rules.specs.Acts.{plain_taken}
use Rattle.sj_rules.specs.Moves.{with_side}
use Rattle.sj_rules.specs.PlainSide.{PlainSide, PlainAt}
use Rattle.sj_rules.specs.PlainChanges.{waits_of}
use Rattle.sj_world_lemmas.proofs.WaitLemmas.{waits_but_one, waits_less}
use Rattle.sj_forward_rules.specs.Record.{SentAt, StateAt, Held, stored}
use Rattle.sj_forward_rules.specs.Node.{NodeAt, with_record}
use Rattle.sj_forward_rules.specs.World.{WorldAt}
use Rattle.sj_forward_laws.specs.Roads.{inward, claiming, behind_of, messages_in}
use Rattle.sj_forward_laws.specs.Pipe.{traffic, from_first, in_part, out_part, pipe}
use Rattle.sj_forward_laws.specs.Kept.{in_use, IsLeft, IsLast, NamesFit, IsKept}
use Rattle.sj_forward_laws.proofs.EndLemmas.{same_end, same_is}
use Rattle.sj_forward_laws.proofs.PartLemmas.{pop_last}
use Rattle.sj_forward_laws.proofs.RoadLemmas.{road_self}
use Rattle.sj_forward_laws.proofs.StayLemmas.{written_stays, still_there}
use Rattle.sj_forward_laws.proofs.RecordLemmas.{written, written_here, written_away, written_records, written_alone, same_pipe}
use Rattle.sj_forward_laws.proofs.MovedLemmas.{other_hop, other_name, uses_stay, programs_stay}

module _ {P Q : Type 0} (IsOver : P → Type 0) (binds : Q → EndId → Bool) (parties : ℕ) (w : WorldAt Q) (plain : PlainAt P Q)
    (kept : IsKept IsOver binds parties w plain)
    (p : ℕ) (e : EndId) (low : e.side < 2) (place : P) (m : SentAt) (rest : List SentAt)
    (seat : kept.seats e ≡ in_use) (at : kept.chains.at e (kept.chains.top e) ≡ p) (is : kept.states e (kept.chains.top e) ≡ Held (m ∷ rest)) where
  abbrev pub states_taken : EndId → ℕ → StateAt
  states_taken = written kept.states e (kept.chains.top e) (Held rest)

  abbrev pub node_taken : NodeAt Q
  node_taken = with_record e (kept.chains.top e) (record { behind = behind_of kept.chains e (kept.chains.top e); state = Held rest }) (w.nodes p)

  abbrev pub world_taken : WorldAt Q
  world_taken = record { nodes = λ k. if k == p then node_taken else w.nodes k; lanes = w.lanes }

  abbrev pub plain_without : PlainAt P Q
  plain_without = with_side e (λ x. plain_taken x place) plain

  here : (is_same_end e e && (kept.chains.top e == kept.chains.top e)) ≡ true
  here = road_self (inward e (kept.chains.top e))

  away_end : (d : EndId) (k : ℕ) → is_same_end d e ≡ false → states_taken d k ≡ kept.states d k
  away_end d k apart = written_away kept.states e (kept.chains.top e) (Held rest) d k (other_name d e k (kept.chains.top e) apart)

  away_hop : (k : ℕ) → k < kept.chains.top e → states_taken e k ≡ kept.states e k
  away_hop k lt = written_away kept.states e (kept.chains.top e) (Held rest) e k (other_hop e e k (kept.chains.top e) (λ i. omega (arith, lt, i)))

  pub pipe_first : pipe w.lanes kept.chains kept.states e ≡ m ∷ pipe w.lanes kept.chains states_taken e
  pipe_first =
      ap (λ z. z ++ from_first (out_part w.lanes kept.chains kept.states (other_end e)) (kept.chains.top (other_end e)))
      (pop_last (in_part w.lanes kept.chains kept.states e) (in_part w.lanes kept.chains states_taken e) (kept.chains.top e) (m ∷ [])
      (ap (λ s. stored s ++ messages_in (traffic w.lanes kept.chains (inward e (kept.chains.top e)))) is
      ∙ ap (λ s. m ∷ (stored s ++ messages_in (traffic w.lanes kept.chains (inward e (kept.chains.top e)))))
      (sym (written_here kept.states e (kept.chains.top e) (Held rest) e (kept.chains.top e) here)))
      (λ k lt. ap (λ s. stored s ++ messages_in (traffic w.lanes kept.chains (inward e k))) (away_hop k lt)))

  pipe_away : (d : EndId) → is_same_end d e ≡ false → pipe w.lanes kept.chains states_taken d ≡ pipe w.lanes kept.chains kept.states d
  pipe_away d apart =
      same_pipe kept.chains kept.states w.lanes w.lanes states_taken d
      (λ k le. ap (λ s. stored s ++ messages_in (traffic w.lanes kept.chains (inward d k))) (away_end d k apart)) (λ k lt. refl)

  sides_else : (d : EndId) → is_same_end d e ≡ false → plain_without.sides d ≡ plain.sides d
  sides_else d apart = ap (λ (b : Bool). if b then plain_taken (plain.sides d) place else plain.sides d) apart

  side_here : plain_without.sides e ≡ plain_taken (plain.sides e) place
  side_here = ap (λ (b : Bool). if b then plain_taken (plain.sides e) place else plain.sides e) (same_end e)

  waits_else : (d : EndId) → d.side < 2 → is_same_end d e ≡ false → waits_of plain_without d ≡ waits_of plain d
  waits_else d i apart = waits_but_one plain plain_without e low sides_else (ap (λ (x : PlainSide P). x.sent) side_here) d i apart

  waits_were : waits_of plain e ≡ m.msg ∷ map (λ (x : SentAt). x.msg) (pipe w.lanes kept.chains states_taken e)
  waits_were = sym (kept.waits e low) ∙ ap (λ l. map (λ (x : SentAt). x.msg) l) pipe_first

  waits_now : map (λ (x : SentAt). x.msg) (pipe w.lanes kept.chains states_taken e) ≡ waits_of plain_without e
  waits_now =
      let less =
      waits_less plain plain_without e low sides_else m.msg (map (λ (x : SentAt). x.msg) (pipe w.lanes kept.chains states_taken e))
      (ap (λ (x : PlainSide P). x.taken) side_here) waits_were in
      ap (λ l. drop 1 l) (sym waits_were ∙ less)

  last_here : IsLast IsOver (plain_without.sides e) (waits_of plain_without e) (kept.chains.top e) (kept.seats e) (states_taken e (kept.chains.top e))
  last_here =
      let old : IsLast IsOver (plain.sides e) (waits_of plain e) (kept.chains.top e) in_use (Held (m ∷ rest)) =
      subst (λ s. IsLast IsOver (plain.sides e) (waits_of plain e) (kept.chains.top e) s (Held (m ∷ rest))) seat
      (subst (λ s. IsLast IsOver (plain.sides e) (waits_of plain e) (kept.chains.top e) (kept.seats e) s) is (kept.last e low)) in
      let new : IsLast IsOver (plain_without.sides e) (waits_of plain_without e) (kept.chains.top e) in_use (Held rest) =
      ap (λ (x : PlainSide P). x.hops) side_here ∙ old in
      subst (λ s. IsLast IsOver (plain_without.sides e) (waits_of plain_without e) (kept.chains.top e) s (states_taken e (kept.chains.top e)))
      (sym seat)
      (subst (λ s. IsLast IsOver (plain_without.sides e) (waits_of plain_without e) (kept.chains.top e) in_use s)
      (sym (written_here kept.states e (kept.chains.top e) (Held rest) e (kept.chains.top e) here)) new)

  pub lasts : (d : EndId) → d.side < 2
      → IsLast IsOver (plain_without.sides d) (waits_of plain_without d) (kept.chains.top d) (kept.seats d) (states_taken d (kept.chains.top d))
  lasts d i = by (is_same_end d e) refl
    where
      by : (b : Bool) → is_same_end d e ≡ b
          → IsLast IsOver (plain_without.sides d) (waits_of plain_without d) (kept.chains.top d) (kept.seats d) (states_taken d (kept.chains.top d))
      by true t =
          subst (λ x. IsLast IsOver (plain_without.sides x) (waits_of plain_without x) (kept.chains.top x) (kept.seats x)
          (states_taken x (kept.chains.top x))) (sym (same_is d e t)) last_here
      by false t =
          subst (λ (x : PlainSide P). IsLast IsOver x (waits_of plain_without d) (kept.chains.top d) (kept.seats d)
          (states_taken d (kept.chains.top d))) (sym (sides_else d t))
          (subst (λ l. IsLast IsOver (plain.sides d) l (kept.chains.top d) (kept.seats d) (states_taken d (kept.chains.top d)))
          (sym (waits_else d i t))
          (subst (λ s. IsLast IsOver (plain.sides d) (waits_of plain d) (kept.chains.top d) (kept.seats d) s)
          (sym (away_end d (kept.chains.top d) t)) (kept.last d i)))

  pub waits : (d : EndId) → d.side < 2 → map (λ (x : SentAt). x.msg) (pipe w.lanes kept.chains states_taken d) ≡ waits_of plain_without d
  waits d i = by (is_same_end d e) refl
    where
      by : (b : Bool) → is_same_end d e ≡ b → map (λ (x : SentAt). x.msg) (pipe w.lanes kept.chains states_taken d) ≡ waits_of plain_without d
      by true t =
          subst (λ x. map (λ (x : SentAt). x.msg) (pipe w.lanes kept.chains states_taken x) ≡ waits_of plain_without x) (sym (same_is d e t))
          waits_now
      by false t = ap (λ l. map (λ (x : SentAt). x.msg) l) (pipe_away d t) ∙ kept.waits d i ∙ sym (waits_else d i t)

  -- the message that was first
  pub first_fits : NamesFit kept.chains kept.seats e ((plain.sides e).taken) m.msg m.hop
  first_fits =
      let zero_more : (plain.sides e).taken + 0 ≡ (plain.sides e).taken = omega arith in
      subst (λ (x : ℕ). NamesFit kept.chains kept.seats e x m.msg m.hop) zero_more (kept.names e 0 m low (ap (λ l. slice_get l 0) pipe_first))

  pub names : (d : EndId) (n : ℕ) (a : SentAt) → d.side < 2 → slice_get (pipe w.lanes kept.chains states_taken d) n ≡ Some a
      → NamesFit kept.chains kept.seats d ((plain_without.sides d).taken + n) a.msg a.hop
  names d n a i got = by (is_same_end d e) refl
    where
      by : (b : Bool) → is_same_end d e ≡ b → NamesFit kept.chains kept.seats d ((plain_without.sides d).taken + n) a.msg a.hop
      by true t =
          let j : d ≡ e = same_is d e t in
          let one : (plain.sides e).taken + suc n ≡ (plain_without.sides e).taken + n =
          (let s : (plain.sides e).taken + suc n ≡ (plain.sides e).taken + 1 + n = omega arith in s)
          ∙ ap (λ (x : PlainSide P). x.taken + n) (sym side_here) in
          subst (λ x. NamesFit kept.chains kept.seats x ((plain_without.sides x).taken + n) a.msg a.hop) (sym j)
          (subst (λ (x : ℕ). NamesFit kept.chains kept.seats e x a.msg a.hop) one
          (kept.names e (suc n) a low (ap (λ l. slice_get l (suc n)) pipe_first
          ∙ ap (λ x. slice_get (pipe w.lanes kept.chains states_taken x) n) (sym j) ∙ got)))
      by false t =
          subst (λ (x : PlainSide P). NamesFit kept.chains kept.seats d (x.taken + n) a.msg a.hop) (sym (sides_else d t))
          (kept.names d n a i (ap (λ l. slice_get l n) (sym (pipe_away d t)) ∙ got))

  pub alike_here : (d : EndId) (k : ℕ) → k < kept.chains.top d → states_taken d k ≡ kept.states d k
  alike_here d k lt = by (is_same_end d e) refl
    where
      by : (b : Bool) → is_same_end d e ≡ b → states_taken d k ≡ kept.states d k
      by true t =
          written_away kept.states e (kept.chains.top e) (Held rest) d k
          (other_hop d e k (kept.chains.top e) (λ i. let j : kept.chains.top d
          ≡ kept.chains.top e = ap kept.chains.top (same_is d e t) in omega (arith, lt, i, j)))
      by false t = away_end d k t

  -- without its first message the end is kept, and its party's program goes on later
  abbrev pub take_keeps : IsKept IsOver binds parties world_taken plain_without
  take_keeps = record {
    chains = kept.chains;
    states = states_taken;
    seats = kept.seats;
    joined = record {
      records = λ d k i le. written_records kept.chains kept.states w.nodes p node_taken e (kept.chains.top e) (Held rest) at (λ d k. refl) d k
          (kept.joined.records d k i le);
      there = λ d k i some le. still_there w.nodes p node_taken
          (written_stays (w.nodes p) e (kept.chains.top e) (record { behind = behind_of kept.chains e (kept.chains.top e); state = Held rest }))
          (kept.chains.at d k) d k (kept.joined.there d k i some le);
      alone = λ d k x r i is. written_alone kept.chains kept.states w.nodes p node_taken e (kept.chains.top e)
          (record { behind = behind_of kept.chains e (kept.chains.top e); state = Held rest }) (omega arith, at) (λ d k. refl) d k
          (λ x r is. kept.joined.alone d k x r i is) x r is;
      left = λ d k i lt. subst (λ s. IsLeft d k (kept.chains.at d (suc k)) (traffic w.lanes kept.chains (claiming d k)) s)
          (sym (alike_here d k lt)) (kept.joined.left d k i lt);
      lanes = kept.joined.lanes;
    };
    below = kept.below;
    opens = kept.opens;
    last = lasts;
    waits = waits;
    names = names;
    programs = λ k. programs_stay w.nodes p node_taken refl k ∙ kept.programs k;
    uses = λ d i s. uses_stay w.nodes p node_taken (λ d. refl) (kept.chains.at d (kept.chains.top d)) d ∙ kept.uses d i s;
    bound = kept.bound;
  }
