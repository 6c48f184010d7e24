-- A delegation, as the tables of its party do it.
use Rattle.std.proofs.Common.{◌≡◌, ℕ, ◌==◌, ◌&&◌, nat_lt, Bool, true, false, if◌then◌else◌, Option, Some, None, option_map, option_and_then, refl, ap, sym, ◌∙◌, subst}
use Rattle.std.specs.Prelude.{IsSome}
use Rattle.sj_base.specs.declared.EndId.{EndId}
use Rattle.sj_semantics.specs.Program.{Program}
use Rattle.sj_semantics.specs.World.{session_message}
use Rattle.sj_rules.specs.Party.{nobody}
use Rattle.sj_rules.specs.Record.{is_same_end}
use Rattle.sj_forward.specs.declared.forwarder.Forwarder.{Forwarder}
use Rattle.sj_forward.specs.declared.records.Use.{Use}
use Rattle.sj_forward.specs.Forwarder.{CanSend, DoesSo, forwarder_at}
use Rattle.sj_forward.specs.Ends.{Writes, held_in}
use Rattle.sj_forward.specs.Views.{use_of}
use Rattle.sj_forward.proofs.ForwarderLemmas.{forwarder_written, does_from}
use Rattle.sj_forward.proofs.SlotLemmas.{some_same}
use Rattle.sj_forward_rules.specs.Acts.{delegate_act, parked, send_act}
use Rattle.sj_forward_rules.specs.Node.{HeldAt, NodeAt, Worked, held_at, held_of}
use Rattle.sj_forward_rules.specs.Record.{Parked, SentAt}
use Rattle.sj_forward.proofs.ActLemmas.{Table, used_is}

record Delegates (d : Forwarder) (party : ℕ) (carrier e : EndId) (g : Program) : Type 0 where
  held : HeldAt
  is : held_in d.ends.items e ≡ Some held
  few : nat_lt held.hop 100 ≡ true
  carries : HeldAt
  carries_is : held_of (parked e held (forwarder_at g d)) carrier ≡ Some carries

delegates_by : (d : Forwarder) (party : ℕ) (carrier e : EndId) (g : Program) → IsSome (delegate_act party (forwarder_at g d) carrier e (held_of (forwarder_at g d) e)) → Delegates d party carrier e g
delegates_by d party carrier e g some = by (held_in d.ends.items e) refl
  where
    n : NodeAt Program
    n = forwarder_at g d

    last : (h : HeldAt) (o : Option HeldAt) → held_in d.ends.items e ≡ Some h → nat_lt h.hop 100 ≡ true → held_of (parked e h n) carrier ≡ o
        → IsSome (send_act (parked e h n) carrier (record { msg = session_message e party; hop = h.hop }) o) → Delegates d party carrier e g
    last h None is few c there = absurd (cc there)
    last h (Some x) is few c there = record { held = h; is = is; few = few; carries = x; carries_is = c }

    mid : (h : HeldAt) (b : Bool) → held_in d.ends.items e ≡ Some h → nat_lt h.hop 100 ≡ b
        → IsSome (if b then send_act (parked e h n) carrier (record { msg = session_message e party; hop = h.hop }) (held_of (parked e h n) carrier) else None) → Delegates d party carrier e g
    mid h false is few there = absurd (cc there)
    mid h true is few there = last h (held_of (parked e h n) carrier) is few refl there

    by : (o : Option HeldAt) → held_in d.ends.items e ≡ o → Delegates d party carrier e g
    by None is = absurd (let it : IsSome (delegate_act party n carrier e None) = subst (λ (o : Option HeldAt). IsSome (delegate_act party n carrier e o)) is some in cc it)
    by (Some h) is = mid h (nat_lt h.hop 100) is refl (subst (λ (o : Option HeldAt). IsSome (delegate_act party n carrier e o)) is some)

-- an end that is Held when another is parked was Held before
still_held : (g : Program) (d : Forwarder) (e carrier : EndId) (h x : HeldAt) → held_of (parked e h (forwarder_at g d)) carrier ≡ Some x → held_in d.ends.items carrier ≡ Some x
still_held g d e carrier h x is = by (is_same_end carrier e) refl
  where
    n : NodeAt Program
    n = forwarder_at g d

    there : Bool → Option HeldAt
    there b = option_and_then (λ k. held_at k (if b && (k == h.hop) then Some (record { behind = h.behind; state = Parked h.untaken }) else n.records carrier k)) (if b then None else n.uses carrier)

    by : (b : Bool) → is_same_end carrier e ≡ b → held_in d.ends.items carrier ≡ Some x
    by true same = absurd (let none : None ≡ Some x = sym (ap there same) ∙ is in cc none)
    by false apart = sym (ap there apart) ∙ is

module _ (d : Forwarder) (ends : Table) (party : ℕ) (carrier e : EndId) (some : IsSome (delegate_act party (forwarder_at nobody d) carrier e (held_of (forwarder_at nobody d) e)))
    (parks : (h : HeldAt) → held_in d.ends.items e ≡ Some h → Writes d.ends.items e None h.hop (record { behind = h.behind; state = Parked h.untaken }) ends.items) where
  it : Delegates d party carrier e nobody
  it = delegates_by d party carrier e nobody some

  forwarder_parked : (g : Program) → forwarder_at g (record d { ends = ends }) ≡ parked e it.held (forwarder_at g d)
  forwarder_parked g = forwarder_written g d ends e None it.held.hop (record { behind = it.held.behind; state = Parked it.held.untaken }) (parks it.held it.is)

  carried : held_in ends.items carrier ≡ Some it.carries
  carried = ap (λ (n : NodeAt Program). held_of n carrier) (forwarder_parked nobody) ∙ it.carries_is

  pub carrier_held : IsSome (held_in ends.items carrier)
  carrier_held = subst IsSome (sym carried) refl

  pub carrier_room : CanSend d carrier → CanSend (record d { ends = ends }) carrier
  carrier_room can h held = can h (still_held nobody d e carrier it.held h (sym (ap (λ (n : NodeAt Program). held_of n carrier) (forwarder_parked nobody)) ∙ held))

  pub delegates_so : (u : Use) (new : Forwarder) → Some u ≡ option_map use_of (held_in d.ends.items e)
      → ((g : Program) → DoesSo (record d { ends = ends }) (send_act (forwarder_at g (record d { ends = ends })) carrier (record { msg = session_message e party; hop = u.hop }) (held_of (forwarder_at g (record d { ends = ends })) carrier)) new)
      → (g : Program) → DoesSo d (delegate_act party (forwarder_at g d) carrier e (held_of (forwarder_at g d) e)) new
  delegates_so u new told sends g =
      let one = used_is (held_in d.ends.items e) u told in
      let same : one.0 ≡ it.held = some_same one.0 it.held (sym one.1 ∙ it.is) in
      let hop : u.hop ≡ it.held.hop = ap (λ (x : Use). x.hop) one.2 ∙ ap (λ (x : HeldAt). x.hop) same in
      let n = forwarder_at g d in
      let sent : ℕ → SentAt = λ k. record { msg = session_message e party; hop = k } in
      let row : delegate_act party n carrier e (held_of n e) ≡ send_act (forwarder_at g (record d { ends = ends })) carrier (sent u.hop) (held_of (forwarder_at g (record d { ends = ends })) carrier) =
      ap (delegate_act party n carrier e) it.is
      ∙ ap (λ (b : Bool). if b then send_act (parked e it.held n) carrier (sent it.held.hop) (held_of (parked e it.held n) carrier) else None) it.few
      ∙ (λ i. send_act (sym (forwarder_parked g) i) carrier (sent (sym hop i)) (held_of (sym (forwarder_parked g) i) carrier)) in
      subst (λ (o : Option (Worked Program)). DoesSo d o new) (sym row) (does_from d (record d { ends = ends }) new _ (λ q. refl) (sends g))
