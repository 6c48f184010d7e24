-- Every act of a core run keeps the invariant, with the plain act of the same program.
use Rattle.std.proofs.Common.{◌≡◌, ℕ, ◌<◌, List, ◌∷◌, ◌++◌, refl, ap, subst, ◌∙◌, arith}
use Rattle.std.specs.Prelude.{Bool, false, Some}
use Rattle.sj_base.specs.declared.EndId.{EndId}
use Rattle.sj_base.specs.declared.Msg.{Msg}
use Rattle.sj_base.specs.declared.Msg.TheVariants as msgs
use Rattle.sj_rules.specs.PlainChanges.{CountsHold, plain_with_hop, waits_of}
use Rattle.sj_rules.specs.PlainSteps.{NamesEnds, PlainGives, PlainTakes}
use Rattle.sj_rules.specs.Record.{HeldAt, Held, other_end}
use Rattle.sj_rules.specs.Node.{Play, Want, ended, local, sends, delegates, takes, closes, requests, accepts}
use Rattle.sj_rules.specs.World.{WorldAt, Act, happens}
use Rattle.sj_rules.specs.Seat.{held}
use Rattle.sj_rules.specs.PlainSide.{PlainSide, PlainAt, CountsFit, IsFront}
use Rattle.sj_rules.specs.Linked.{IsKept}
use Rattle.sj_world_lemmas.proofs.SwapLemmas.{other_other}
use Rattle.sj_world_lemmas.proofs.ActLaws.{ActLaws}
use Rattle.sj_world_lemmas.proofs.SeenLemmas.{Here, here_held}
use Rattle.sj_world_lemmas.proofs.SendKeeps.{send_keeps, take_keeps, local_keeps}
use Rattle.sj_world_lemmas.proofs.CloseKeeps.{close_keeps}
use Rattle.sj_world_lemmas.proofs.DelegateKeeps.{delegate_keeps}
use Rattle.sj_world_lemmas.proofs.TakeEndKeeps.{take_end_keeps}
use Rattle.sj_world_lemmas.proofs.StepLemmas.{OpensNothing, Needs, needs_met, one_after}
use Rattle.sj_world_lemmas.proofs.FlowLemmas.{untaken_front}

module _ {P Q : Type 0} (IsOver : P → Type 0) (binds : Q → EndId → Bool) (play : Play P Q) (pick : ℕ → ℕ → ℕ) (w : WorldAt P Q) (plain : PlainAt P Q) (kept : IsKept IsOver binds w plain) (p : ℕ) where
  -- what an act that happens had
  met_by : (v : WorldAt P Q) → happens play pick w p Act ≡ Some v → (play.is_worn (plain.programs p) ≡ false) × Needs (w.nodes p) (play.wants (plain.programs p))
  met_by v step = subst (λ z. (play.is_worn z ≡ false) × Needs (w.nodes p) (play.wants z)) (kept.programs p) (needs_met play pick w v p step)

  -- the session of a Held end
  here : (c : EndId) (h : HeldAt P) → c.side < 2 → (w.nodes p).main c ≡ Some (Held h) → Here IsOver w (plain.sides (other_end c)) (plain.sides c) (kept.sessions.sides (other_end c)) (kept.sessions.sides c) c (held p h)
  here c h low main = here_held IsOver w plain.sides kept.sessions c low p h main

  -- the first untaken message is the first that waits
  first_waits : (c : EndId) (h : HeldAt P) (m : Msg) (rest : List Msg) → c.side < 2 → (w.nodes p).main c ≡ Some (Held h) → h.untaken ≡ m ∷ rest → (later : List Msg) × (waits_of plain c ≡ m ∷ later)
  first_waits c h m rest low main u =
      let k : Here IsOver w (plain.sides (other_end c)) (plain.sides c) (kept.sessions.sides (other_end c)) (kept.sessions.sides c) c (held p h) = here c h low main in
      let f : IsFront h.untaken (waits_of plain c) = untaken_front k.pace c (plain.sides (other_end c)) (plain.sides c) (kept.sessions.sides (other_end c)).seat p h (kept.sessions.sides c).live k.sound.numbers k.sound.there.comes in
      (rest ++ f.rest, f.all ∙ ap (λ l. l ++ f.rest) u)

  module _ (plain' : PlainAt P Q) (counts : CountsHold plain) (counts' : CountsHold plain') (laws : (x y : PlainSide P) → CountsFit x y → CountsFit y x → ActLaws IsOver x y) (fresh : play.is_worn (plain.programs p) ≡ false) where
    laws_at : (q : PlainAt P Q) → CountsHold q → (c : EndId) → c.side < 2 → ActLaws IsOver (q.sides (other_end c)) (q.sides c)
    laws_at q k c low = laws (q.sides (other_end c)) (q.sides c) (k c low) (subst (λ d. CountsFit (q.sides d) (q.sides (other_end c))) (other_other c low) (k (other_end c) (omega arith)))

    abbrev Keeps : Type 0
    Keeps = (u : WorldAt P Q) × (happens play pick w p Act ≡ Some u) × IsKept IsOver binds u plain'

    keeps_take : (c : EndId) (place : P) (m : Msg) (rest : List Msg) (h : HeldAt P) (next : P) → play.wants (plain.programs p) ≡ takes c place → (w.nodes p).main c ≡ Some (Held h) → h.untaken ≡ m ∷ rest →
        PlainTakes IsOver binds play plain p plain' c place m next → Keeps
    keeps_take c place (msgs.Sess sess side keeper) rest h next wants main u f =
        take_end_keeps IsOver binds play pick w plain plain' kept p fresh c (record { sess = sess; side = side }) keeper place next h rest wants main u (laws_at plain counts c f.below) f laws counts'
    keeps_take c place (msgs.Int n) rest h next wants main u f = take_keeps IsOver binds play pick w plain plain' kept p fresh c place (msgs.Int n) rest next h (laws_at plain counts c f.below) wants main u f
    keeps_take c place (msgs.Bool n) rest h next wants main u f = take_keeps IsOver binds play pick w plain plain' kept p fresh c place (msgs.Bool n) rest next h (laws_at plain counts c f.below) wants main u f
    keeps_take c place (msgs.Text n) rest h next wants main u f = take_keeps IsOver binds play pick w plain plain' kept p fresh c place (msgs.Text n) rest next h (laws_at plain counts c f.below) wants main u f
    keeps_take c place (msgs.Label n) rest h next wants main u f = take_keeps IsOver binds play pick w plain plain' kept p fresh c place (msgs.Label n) rest next h (laws_at plain counts c f.below) wants main u f
    keeps_take c place (msgs.More n) rest h next wants main u f = take_keeps IsOver binds play pick w plain plain' kept p fresh c place (msgs.More n) rest next h (laws_at plain counts c f.below) wants main u f

    keeps_for : (want : Want P) → OpensNothing want → play.wants (plain.programs p) ≡ want → NamesEnds want → Needs (w.nodes p) want → PlainGives IsOver binds play plain p plain' want → Keeps
    keeps_for ended o e low n g = absurd n
    keeps_for local o e low n g = local_keeps IsOver binds play pick w plain plain' kept p fresh e g
    keeps_for (sends c msg) o e low n g = send_keeps IsOver binds play pick w plain plain' kept p fresh c msg g.0 n.0 (laws_at plain counts c low) counts e n.1 g.1
    keeps_for (delegates c d) o e low n g =
        delegate_keeps IsOver binds play pick w plain plain' kept p fresh c d g.0 n.0 n.1 e n.2 n.3 counts g.1 (laws_at plain counts d low.1) (laws_at (plain_with_hop plain d) g.1.counts c low.0)
    keeps_for (takes c place) o e low n g =
        let f : (later : List Msg) × (waits_of plain c ≡ n.1 ∷ later) = first_waits c n.0 n.1 n.2 low n.3 n.4 in
        let same : g.0 ≡ n.1 = cc (g.2, f.1) in
        keeps_take c place n.1 n.2 n.0 g.3.0 e n.3 n.4 (subst (λ m. PlainTakes IsOver binds play plain p plain' c place m g.3.0) same g.3.1)
    keeps_for (requests place to) o e low n g = absurd o
    keeps_for (accepts place from) o e low n g = absurd o
    keeps_for (closes c) o e low n g = close_keeps IsOver binds play pick w plain plain' kept p fresh c n.0 e n.1 g (laws_at plain counts c low)

    -- an act for which the records are there fits, and keeps the invariant with the plain step
    pub act_fits : OpensNothing (play.wants (plain.programs p)) → NamesEnds (play.wants (plain.programs p)) → Needs (w.nodes p) (play.wants (plain.programs p)) → PlainGives IsOver binds play plain p plain' (play.wants (plain.programs p)) → Keeps
    act_fits old low needs gives = keeps_for (play.wants (plain.programs p)) old refl low needs gives

  -- an act that happens keeps the invariant with the plain step
  pub act_keeps : (v : WorldAt P Q) → happens play pick w p Act ≡ Some v → (plain' : PlainAt P Q) → CountsHold plain → CountsHold plain' → ((x y : PlainSide P) → CountsFit x y → CountsFit y x → ActLaws IsOver x y) →
      OpensNothing (play.wants (plain.programs p)) → NamesEnds (play.wants (plain.programs p)) → PlainGives IsOver binds play plain p plain' (play.wants (plain.programs p)) → IsKept IsOver binds v plain'
  act_keeps v step plain' counts counts' laws old low gives =
      let met : (play.is_worn (plain.programs p) ≡ false) × Needs (w.nodes p) (play.wants (plain.programs p)) = met_by v step in
      one_after IsOver binds play pick w v plain' p Act step (act_fits plain' counts counts' laws met.0 old low met.1 gives)
