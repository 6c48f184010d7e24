-- What waits for ends after a plain act on one; and how an act is put together.
use Rattle.std.proofs.Common.{◌≡◌, ℕ, ◌+◌, ◌<◌, ◌≤◌, List, [], ◌∷◌, ◌++◌, length, drop, refl, sym, ap, subst, ◌∙◌}
use Rattle.std.specs.Prelude.{Bool, true, false, ◌↔◌, ◌==◌, if◌then◌else◌, Some, None}
use Rattle.std.proofs.lemmas.Bool.{eqb-true, eq-eqb}
use Rattle.std.proofs.lemmas.List.{drop-append-le, drop-drop}
use Rattle.sj_base.specs.declared.EndId.{EndId}
use Rattle.sj_base.specs.declared.Msg.{Msg}
use Rattle.sj_rules.specs.PlainChanges.{Proceeds, waits_of}
use Rattle.sj_rules.specs.Record.{other_end, is_same_end}
use Rattle.sj_rules.specs.Node.{NodeAt}
use Rattle.sj_rules.specs.World.{WorldAt}
use Rattle.sj_rules.specs.Seat.{Seat}
use Rattle.sj_rules.specs.PlainSide.{PlainAt, untaken_of}
use Rattle.sj_rules.specs.Linked.{Sessions, IsKept, IsLinked, user_of}
use Rattle.sj_world_lemmas.proofs.TableLemmas.{with_tables}
use Rattle.sj_world_lemmas.proofs.SwapLemmas.{other_other}
use Rattle.sj_world_lemmas.proofs.EventLemmas.{same_end, other_not}
use Rattle.sj_world_lemmas.proofs.LinkLemmas.{same_is}

module _ {P Q : Type 0} (plain plain' : PlainAt P Q) (c : EndId) (low : c.side < 2) (sides : (e : EndId) → is_same_end e c ≡ false → plain'.sides e ≡ plain.sides e) where
  -- an end whose other end isn't c
  other_apart : (e : EndId) → e.side < 2 → is_same_end e (other_end c) ≡ false → is_same_end (other_end e) c ≡ false
  other_apart e i k = by (is_same_end (other_end e) c) refl
    where
      by : (b : Bool) → is_same_end (other_end e) c ≡ b → is_same_end (other_end e) c ≡ false
      by true j =
          let o : e ≡ other_end c = sym (other_other e i) ∙ ap other_end (same_is (other_end e) c j) in
          let t : is_same_end e (other_end c) ≡ true = ap (λ d. is_same_end d (other_end c)) o ∙ same_end (other_end c) in
          absurd (cc (t, k))
      by false j = j

  -- where the taken count of c stays, the same waits for all ends but the other one
  pub waits_but_other : (plain'.sides c).taken ≡ (plain.sides c).taken → (e : EndId) → e.side < 2 → is_same_end e (other_end c) ≡ false → waits_of plain' e ≡ waits_of plain e
  waits_but_other taken e i k = by (is_same_end e c) refl
    where
      there : plain'.sides (other_end e) ≡ plain.sides (other_end e)
      there = sides (other_end e) (other_apart e i k)

      by : (b : Bool) → is_same_end e c ≡ b → waits_of plain' e ≡ waits_of plain e
      by true j =
          let o : e ≡ c = same_is e c j in
          let t : (plain'.sides e).taken ≡ (plain.sides e).taken = subst (λ d. (plain'.sides d).taken ≡ (plain.sides d).taken) (sym o) taken in
          ap (λ z. untaken_of z (plain'.sides e)) there ∙ ap (λ (n : ℕ). drop n (plain.sides (other_end e)).sent) t
      by false j = ap (λ z. untaken_of z (plain'.sides e)) there ∙ ap (λ z. untaken_of (plain.sides (other_end e)) z) (sides e j)

  -- where what was sent on c stays, the same waits for all ends but c
  pub waits_but_one : (plain'.sides c).sent ≡ (plain.sides c).sent → (e : EndId) → e.side < 2 → is_same_end e c ≡ false → waits_of plain' e ≡ waits_of plain e
  waits_but_one sent e i k = by (is_same_end (other_end e) c) refl
    where
      here : plain'.sides e ≡ plain.sides e
      here = sides e k

      by : (b : Bool) → is_same_end (other_end e) c ≡ b → waits_of plain' e ≡ waits_of plain e
      by true j =
          let o : other_end e ≡ c = same_is (other_end e) c j in
          let t : (plain'.sides (other_end e)).sent ≡ (plain.sides (other_end e)).sent = subst (λ d. (plain'.sides d).sent ≡ (plain.sides d).sent) (sym o) sent in
          ap (λ z. untaken_of (plain'.sides (other_end e)) z) here ∙ ap (λ l. drop (plain.sides e).taken l) t
      by false j = ap (λ z. untaken_of (plain'.sides (other_end e)) z) here ∙ ap (λ z. untaken_of z (plain.sides e)) (sides (other_end e) j)

  -- a message more waits for the other end
  pub waits_more : (msg : Msg) → (plain'.sides c).sent ≡ (plain.sides c).sent ++ msg ∷ [] → (plain.sides (other_end c)).taken ≤ length (plain.sides c).sent →
      waits_of plain' (other_end c) ≡ waits_of plain (other_end c) ++ msg ∷ []
  waits_more msg sent fewer =
      let o : other_end (other_end c) ≡ c = other_other c low in
      let t : (plain'.sides (other_end c)).taken ≡ (plain.sides (other_end c)).taken = ap (λ z. z.taken) (sides (other_end c) (other_not c low)) in
      ap (λ d. untaken_of (plain'.sides d) (plain'.sides (other_end c))) o
      ∙ ap (λ (n : ℕ). drop n (plain'.sides c).sent) t ∙ ap (λ l. drop (plain.sides (other_end c)).taken l) sent
      ∙ drop-append-le (plain.sides (other_end c)).taken (plain.sides c).sent (msg ∷ []) fewer
      ∙ ap (λ d. untaken_of (plain.sides d) (plain.sides (other_end c)) ++ msg ∷ []) (sym o)

  -- the first that waited is taken
  pub waits_less : (msg : Msg) (later : List Msg) → (plain'.sides c).taken ≡ (plain.sides c).taken + 1 → waits_of plain c ≡ msg ∷ later → waits_of plain c ≡ msg ∷ waits_of plain' c
  waits_less msg later taken w =
      let there : plain'.sides (other_end c) ≡ plain.sides (other_end c) = sides (other_end c) (other_not c low) in
      let rest : waits_of plain' c ≡ later =
      ap (λ z. untaken_of z (plain'.sides c)) there ∙ ap (λ (n : ℕ). drop n (plain.sides (other_end c)).sent) taken
      ∙ sym (drop-drop 1 (plain.sides c).taken (plain.sides (other_end c)).sent) ∙ ap (λ l. drop 1 l) w in
      w ∙ ap (λ l. msg ∷ l) (sym rest)

module _ {P Q : Type 0} (IsOver : P → Type 0) (binds : Q → EndId → Bool) (w v : WorldAt P Q) (plain plain' : PlainAt P Q) (kept : IsKept IsOver binds w plain) (p clock : ℕ) (n : NodeAt P Q) (q : Q)
    (proceeds : Proceeds plain plain' p q) (program : n.program ≡ q) (nodes : (k : ℕ) → (v.nodes k).program ≡ ((with_tables w p clock n).nodes k).program) where
  -- programs are the plain ones
  programs_go : (k : ℕ) → (v.nodes k).program ≡ plain'.programs k
  programs_go k = nodes k ∙ by (k == p) refl
    where
      by : (b : Bool) → (k == p) ≡ b → (if b then record n { clock = clock } else w.nodes k).program ≡ plain'.programs k
      by true i = let j : k ≡ p = eqb-true k p i in program ∙ sym proceeds.here ∙ ap plain'.programs (sym j)
      by false i = kept.programs k ∙ sym (proceeds.away k i)

  -- the world after an act is kept, where its sessions, links and bindings are
  pub kept_by : (after : Sessions IsOver v plain'.sides) → IsLinked plain' (λ e. (after.sides e).seat) →
      ((k : ℕ) (e : EndId) → e.side < 2 → (plain'.sides e).offered ≡ false → (binds (plain'.programs k) e ≡ true) ↔ (user_of (after.sides e).seat ≡ Some k)) → IsKept IsOver binds v plain'
  kept_by after linked bound = record { sessions = after; linked = linked; programs = programs_go; bound = bound }

  -- where all ends have the users that they had
  pub bound_same : ((e : EndId) → e.side < 2 → binds (plain'.programs p) e ≡ binds (plain.programs p) e) → (seats' : EndId → Seat P) → ((e : EndId) → e.side < 2 → user_of (seats' e) ≡ user_of (kept.sessions.sides e).seat) →
      (k : ℕ) (e : EndId) → e.side < 2 → (plain'.sides e).offered ≡ false → (binds (plain'.programs k) e ≡ true) ↔ (user_of (seats' e) ≡ Some k)
  bound_same same seats' users k e i o = (
    λ b. users e i ∙ (kept.bound k e i (sym (proceeds.offered e) ∙ o)).0 (sym (binds_is (k == p) refl) ∙ b),
    λ u. binds_is (k == p) refl ∙ (kept.bound k e i (sym (proceeds.offered e) ∙ o)).1 (sym (users e i) ∙ u),
  )
    where
      binds_is : (b : Bool) → (k == p) ≡ b → binds (plain'.programs k) e ≡ binds (plain.programs k) e
      binds_is true j = let o : k ≡ p = eqb-true k p j in subst (λ z. binds (plain'.programs z) e ≡ binds (plain.programs z) e) (sym o) (same e i)
      binds_is false j = ap (λ z. binds z e) (proceeds.away k j)

  -- where one end gets another user, and all others keep theirs
  pub bound_but : (c : EndId) (seats' : EndId → Seat P) → ((e : EndId) → e.side < 2 → is_same_end e c ≡ false → binds (plain'.programs p) e ≡ binds (plain.programs p) e) →
      ((e : EndId) → e.side < 2 → is_same_end e c ≡ false → user_of (seats' e) ≡ user_of (kept.sessions.sides e).seat) →
      ((k : ℕ) → (plain'.sides c).offered ≡ false → (binds (plain'.programs k) c ≡ true) ↔ (user_of (seats' c) ≡ Some k)) →
      (k : ℕ) (e : EndId) → e.side < 2 → (plain'.sides e).offered ≡ false → (binds (plain'.programs k) e ≡ true) ↔ (user_of (seats' e) ≡ Some k)
  bound_but c seats' same users at_c k e i o = by (is_same_end e c) refl
    where
      binds_is : is_same_end e c ≡ false → (b : Bool) → (k == p) ≡ b → binds (plain'.programs k) e ≡ binds (plain.programs k) e
      binds_is away true j = let o : k ≡ p = eqb-true k p j in subst (λ z. binds (plain'.programs z) e ≡ binds (plain.programs z) e) (sym o) (same e i away)
      binds_is away false j = ap (λ z. binds z e) (proceeds.away k j)

      by : (b : Bool) → is_same_end e c ≡ b → (binds (plain'.programs k) e ≡ true) ↔ (user_of (seats' e) ≡ Some k)
      by true j = subst (λ d. (plain'.sides d).offered ≡ false → (binds (plain'.programs k) d ≡ true) ↔ (user_of (seats' d) ≡ Some k)) (sym (same_is e c j)) (at_c k) o
      by false j = (
        λ b. users e i j ∙ (kept.bound k e i (sym (proceeds.offered e) ∙ o)).0 (sym (binds_is j (k == p) refl) ∙ b),
        λ u. binds_is j (k == p) refl ∙ (kept.bound k e i (sym (proceeds.offered e) ∙ o)).1 (sym (users e i j) ∙ u),
      )

  -- the end that this party used has no user
  pub bound_none : (c : EndId) → c.side < 2 → user_of (kept.sessions.sides c).seat ≡ Some p → binds (plain'.programs p) c ≡ false → (seat : Seat P) → user_of seat ≡ None →
      (k : ℕ) → (plain'.sides c).offered ≡ false → (binds (plain'.programs k) c ≡ true) ↔ (user_of seat ≡ Some k)
  bound_none c i user gone seat none k unoffered = (λ b. absurd (by (k == p) refl b), λ u. absurd (cc (none, u)))
    where
      by : (b : Bool) → (k == p) ≡ b → binds (plain'.programs k) c ≡ true → ⊥
      by true j b = let o : k ≡ p = eqb-true k p j in let t : binds (plain'.programs p) c ≡ true = subst (λ z. binds (plain'.programs z) c ≡ true) o b in cc (t, gone)
      by false j b =
          let u : user_of (kept.sessions.sides c).seat ≡ Some k = (kept.bound k c i (sym (proceeds.offered c) ∙ unoffered)).0 (sym (ap (λ z. binds z c) (proceeds.away k j)) ∙ b) in
          let o : p ≡ k = cc (user, u) in
          let t : (k == p) ≡ true = eq-eqb k p (sym o) in
          cc (t, j)

  -- an end without a user is used by this party
  pub bound_new : (c : EndId) → c.side < 2 → user_of (kept.sessions.sides c).seat ≡ None → binds (plain'.programs p) c ≡ true → (seat : Seat P) → user_of seat ≡ Some p →
      (k : ℕ) → (plain'.sides c).offered ≡ false → (binds (plain'.programs k) c ≡ true) ↔ (user_of seat ≡ Some k)
  bound_new c i none binds_it seat user k unoffered = (λ b. user ∙ ap Some (by (k == p) refl b), λ u. back u)
    where
      by : (b : Bool) → (k == p) ≡ b → binds (plain'.programs k) c ≡ true → p ≡ k
      by true j b = sym (eqb-true k p j)
      by false j b =
          let u : user_of (kept.sessions.sides c).seat ≡ Some k = (kept.bound k c i (sym (proceeds.offered c) ∙ unoffered)).0 (sym (ap (λ z. binds z c) (proceeds.away k j)) ∙ b) in
          absurd (cc (none, u))

      back : user_of seat ≡ Some k → binds (plain'.programs k) c ≡ true
      back u = let o : p ≡ k = cc (user, u) in subst (λ z. binds (plain'.programs z) c ≡ true) o binds_it
