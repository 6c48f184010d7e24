-- Bodies that are read are spelt so.
use Rattle.std.proofs.Common.{◌≡◌, ℕ, ◌-◌, ◌^◌, ◌<◌, ◌≤◌, Bool, true, false, cond, ltb, List, ◌++◌, length, Option, Some, None, refl, sym, ap, subst, arith}
use Rattle.std.specs.Prelude.{IfSome}
use Rattle.std.proofs.lemmas.Bool.{eqb-true, ltb-false}
use Rattle.std.proofs.lemmas.Option.{cond_some}
use Rattle.sj_base.specs.declared.EndId.{EndId}
use Rattle.sj_rules.specs.Record.{EndAt, BodyAt, Give, Open}
use Rattle.sj_table.specs.declared.table.Spot.{Spot}
use Rattle.sj_wire.specs.declared.kind.Kind.{Kind}
use Rattle.sj_wire.specs.declared.kind.Kind.TheVariants as kinds
use Rattle.sj_wire.specs.Kinds.{end_in, kind_of}
use Rattle.sj_wire.specs.Lawful.{IsWithin, IsTypedBody, cached_in, without_place}
use Rattle.sj_wire.specs.Limits.{limit_of_conns, limit_of_messages, limit_of_hops, most_cached, nowhere}
use Rattle.sj_wire.specs.Spelling.{number, flag, resend, counts, body}
use Rattle.sj_wire.specs.Reading.{◌>>=◌, made, limited_at, resend_at, carry_at, fin_at, signal_at, ack_at, counts_at, give_at, open_at, body_at}
use Rattle.sj_wire.proofs.NumberLemmas.{IsBytes, bind_some, guard_some, some_is, Takes, then_takes, wide1, wide2, wide4, number_takes, limited_takes}
use Rattle.sj_wire.proofs.FieldLemmas.{made_some, flag_takes}
use Rattle.sj_wire.proofs.MessageLemmas.{message_takes, messages_take}

-- what was taken from the front, as the text of a body
pub record TakesBody (kind : Kind) (end : EndId) (bytes : List ℕ) (x : BodyAt Spot × List ℕ) : Type 0 where
  pub took : Takes bytes (body x.0) x.1
  pub kind_is : kind_of x.0 ≡ kind
  pub end_is : end_in x.0 ≡ end
  pub within : IsWithin x.0
  pub typed : IsTypedBody x.0
  pub short : cached_in x.0 ≤ most_cached
  pub nowhere_is : without_place x.0 ≡ x.0

carry_takes : {e : EndId} {bytes : List ℕ} {x : BodyAt Spot × List ℕ} → IsBytes bytes → carry_at e bytes ≡ Some x → TakesBody kinds.Carry e bytes x
unfolding carry_at body
carry_takes {e} {bytes} fits is =
    let a = bind_some is in
    let ta = limited_takes wide4 fits a.1 in
    let b = bind_some a.2 in
    let tb = limited_takes wide4 ta.0.fits b.1 in
    let c = bind_some b.2 in
    let tc = limited_takes wide4 tb.0.fits c.1 in
    let d = bind_some c.2 in
    let td = message_takes tc.0.fits d.1 in
    subst (λ (y : BodyAt Spot × List ℕ). TakesBody kinds.Carry e bytes y) (some_is d.2)
    (record { took = then_takes ta.0 (then_takes tb.0 (then_takes tc.0 td.0)); kind_is = refl; end_is = refl; within = (ta.1, tb.1, tc.1, td.1); typed = td.2; short = omega arith; nowhere_is = refl })

fin_takes : {e : EndId} {bytes : List ℕ} {x : BodyAt Spot × List ℕ} → IsBytes bytes → fin_at e bytes ≡ Some x → TakesBody kinds.Fin e bytes x
unfolding fin_at body
fin_takes {e} {bytes} fits is =
    let a = bind_some is in
    let ta = limited_takes wide4 fits a.1 in
    let b = bind_some a.2 in
    let tb = limited_takes wide4 ta.0.fits b.1 in
    subst (λ (y : BodyAt Spot × List ℕ). TakesBody kinds.Fin e bytes y) (some_is b.2)
    (record { took = then_takes ta.0 tb.0; kind_is = refl; end_is = refl; within = (ta.1, tb.1); typed = tt; short = omega arith; nowhere_is = refl })

signal_takes : {e : EndId} {bytes : List ℕ} {x : BodyAt Spot × List ℕ} → IsBytes bytes → signal_at e bytes ≡ Some x → TakesBody kinds.Signal e bytes x
unfolding signal_at body
signal_takes {e} {bytes} fits is =
    let a = bind_some is in
    let ta = limited_takes wide4 fits a.1 in
    let b = bind_some a.2 in
    let tb = number_takes wide2 ta.0.fits b.1 in
    let c = bind_some b.2 in
    let tc = limited_takes wide4 tb.0.fits c.1 in
    subst (λ (y : BodyAt Spot × List ℕ). TakesBody kinds.Signal e bytes y) (some_is c.2)
    (record { took = then_takes ta.0 (then_takes tb.0 tc.0); kind_is = refl; end_is = refl; within = (ta.1, tc.1); typed = tb.1; short = omega arith; nowhere_is = refl })

ack_takes : {e : EndId} {bytes : List ℕ} {x : BodyAt Spot × List ℕ} → IsBytes bytes → ack_at e bytes ≡ Some x → TakesBody kinds.Ack e bytes x
unfolding ack_at body
ack_takes {e} {bytes} fits is =
    let a = bind_some is in
    let ta = limited_takes wide4 fits a.1 in
    subst (λ (y : BodyAt Spot × List ℕ). TakesBody kinds.Ack e bytes y) (some_is a.2)
    (record { took = ta.0; kind_is = refl; end_is = refl; within = ta.1; typed = tt; short = omega arith; nowhere_is = refl })

-- the number from which a cache goes again, once the flag is read
resend_chosen : (base sent : ℕ) (again : Bool × List ℕ) {bytes : List ℕ} {x : Option ℕ × List ℕ} → Takes bytes (flag again.0) again.1
    → cond again.0 (made Some (limited_at 4 sent again.1 >>= λ r. cond (ltb r.0 base) None (Some r))) (Some (None, again.1)) ≡ Some x
    → Takes bytes (resend x.0) x.1 × IfSome x.0 (λ n. (base ≤ n) × (n ≤ sent))
unfolding resend
resend_chosen base sent (false, rest) {bytes} took is =
    subst (λ (y : Option ℕ × List ℕ). Takes bytes (resend y.0) y.1 × IfSome y.0 (λ n. (base ≤ n) × (n ≤ sent))) (some_is is) (took, tt)
resend_chosen base sent (true, rest) {bytes} took is =
    let a = made_some (λ (n : ℕ). Some n) is in
    let b = bind_some a.1 in
    let tb = limited_takes wide4 took.fits b.1 in
    let g = guard_some b.2 in
    let both : Takes bytes (flag true ++ number 4 b.0.0) b.0.1 × ((base ≤ b.0.0) × (b.0.0 ≤ sent)) = (then_takes took tb.0, (ltb-false _ _ g.0, tb.1)) in
    let at_a : Takes bytes (flag true ++ number 4 a.0.0) a.0.1 × ((base ≤ a.0.0) × (a.0.0 ≤ sent)) = subst (λ (y : ℕ × List ℕ). Takes bytes (flag true ++ number 4 y.0) y.1 × ((base ≤ y.0) × (y.0 ≤ sent))) g.1 both in
    subst (λ (y : Option ℕ × List ℕ). Takes bytes (resend y.0) y.1 × IfSome y.0 (λ n. (base ≤ n) × (n ≤ sent))) a.2 at_a

resend_takes : (base sent : ℕ) {bytes : List ℕ} {x : Option ℕ × List ℕ} → IsBytes bytes → resend_at base sent bytes ≡ Some x → Takes bytes (resend x.0) x.1 × IfSome x.0 (λ n. (base ≤ n) × (n ≤ sent))
unfolding resend_at
resend_takes base sent fits is =
    let a = bind_some is in
    resend_chosen base sent a.0 (flag_takes fits a.1) a.2

record TakesCounts (e : EndId) (bytes : List ℕ) (x : EndAt Spot × List ℕ) : Type 0 where
  took : Takes bytes (counts x.0) x.1
  id_is : x.0.id ≡ e
  place_is : x.0.place ≡ nowhere
  conn : x.0.conn ≤ limit_of_conns
  peer : x.0.peer < 2 ^ 16
  sent : x.0.sent ≤ limit_of_messages
  taken : x.0.taken ≤ limit_of_messages
  hops : x.0.hops ≤ limit_of_hops

counts_take : {e : EndId} {bytes : List ℕ} {x : EndAt Spot × List ℕ} → IsBytes bytes → counts_at e bytes ≡ Some x → TakesCounts e bytes x
unfolding counts_at counts
counts_take {e} {bytes} fits is =
    let a = bind_some is in
    let ta = limited_takes wide4 fits a.1 in
    let b = bind_some a.2 in
    let tb = number_takes wide2 ta.0.fits b.1 in
    let c = bind_some b.2 in
    let tc = limited_takes wide4 tb.0.fits c.1 in
    let d = bind_some c.2 in
    let td = limited_takes wide4 tc.0.fits d.1 in
    let h = bind_some d.2 in
    let th = limited_takes wide1 td.0.fits h.1 in
    subst (λ (y : EndAt Spot × List ℕ). TakesCounts e bytes y) (some_is h.2)
    (record { took = then_takes ta.0 (then_takes tb.0 (then_takes tc.0 (then_takes td.0 th.0))); id_is = refl; place_is = refl; conn = ta.1; peer = tb.1; sent = tc.1; taken = td.1; hops = th.1 })

give_takes : {e : EndId} {bytes : List ℕ} {x : BodyAt Spot × List ℕ} → IsBytes bytes → give_at e bytes ≡ Some x → TakesBody kinds.Give e bytes x
unfolding give_at body counts
give_takes {e} {bytes} fits is =
    let a = bind_some is in
    let ta = counts_take fits a.1 in
    let n = bind_some a.2 in
    let tn = limited_takes wide4 ta.took.fits n.1 in
    let m = bind_some n.2 in
    let tm = messages_take n.0.0 tn.0.fits m.1 in
    let r = bind_some m.2 in
    let tr = resend_takes (a.0.0.sent - n.0.0) a.0.0.sent tm.0.fits r.1 in
    let len : length m.0.0 ≡ n.0.0 = tm.1 in
    let counted : Takes a.0.1 (number 4 (length m.0.0)) n.0.1 = subst (λ (k : ℕ). Takes a.0.1 (number 4 k) n.0.1) (sym len) tn.0 in
    subst (λ (y : BodyAt Spot × List ℕ). TakesBody kinds.Give e bytes y) (some_is r.2)
    (record {
      took = then_takes ta.took (then_takes counted (then_takes tm.0 tr.0));
      kind_is = refl;
      end_is = ta.id_is;
      within = (ta.conn, ta.sent, ta.taken, ta.hops, tm.2, tr.1);
      typed = (ta.peer, omega (arith, len, tn.1), tm.3);
      short = omega (arith, len, tn.1);
      nowhere_is = ap (λ (p : Spot). Give (record a.0.0 { place = p; base = a.0.0.sent - n.0.0; cache = m.0.0 }) r.0.0) (sym ta.place_is);
    })

open_takes : {e : EndId} {bytes : List ℕ} {x : BodyAt Spot × List ℕ} → IsBytes bytes → open_at e bytes ≡ Some x → TakesBody kinds.Open e bytes x
unfolding open_at body
open_takes {e} {bytes} fits is =
    let g = cond_some _ _ _ is in
    let side : e.side ≡ 1 = eqb-true _ _ g.0 in
    subst (λ (y : BodyAt Spot × List ℕ). TakesBody kinds.Open e bytes y) g.1
    (record { took = record { parts = refl; fits = fits }; kind_is = refl; end_is = ap (λ (s : ℕ). record { sess = e.sess; side = s }) (sym side); within = tt; typed = tt; short = omega arith; nowhere_is = refl })

pub body_takes : (kind : Kind) {e : EndId} {bytes : List ℕ} {x : BodyAt Spot × List ℕ} → IsBytes bytes → body_at kind e bytes ≡ Some x → TakesBody kind e bytes x
unfolding body_at body
body_takes kinds.Carry fits is = carry_takes fits is
body_takes kinds.Fin fits is = fin_takes fits is
body_takes kinds.Claim {e} {bytes} fits is =
    subst (λ (y : BodyAt Spot × List ℕ). TakesBody kinds.Claim e bytes y) (some_is is)
    (record { took = record { parts = refl; fits = fits }; kind_is = refl; end_is = refl; within = tt; typed = tt; short = omega arith; nowhere_is = refl })
body_takes kinds.Signal fits is = signal_takes fits is
body_takes kinds.Ack fits is = ack_takes fits is
body_takes kinds.Give fits is = give_takes fits is
body_takes kinds.Open fits is = open_takes fits is
