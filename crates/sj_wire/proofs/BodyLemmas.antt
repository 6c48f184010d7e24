-- Bodies that are spelt are read, as `FieldLemmas`.
use Rattle.std.proofs.Common.{◌≡◌, ℕ, ◌-◌, ◌^◌, ◌<◌, ◌≤◌, min, true, false, List, [], ◌++◌, length, Option, Some, None, refl, ap, ◌∙◌, append_assoc, arith}
use Rattle.std.specs.Prelude.{IfSome}
use Rattle.std.specs.List.{flat_map}
use Rattle.std.proofs.lemmas.Bool.{le-ltb}
use Rattle.sj_base.specs.declared.EndId.{EndId}
use Rattle.sj_base.specs.declared.Msg.{Msg}
use Rattle.sj_rules.specs.Record.{EndAt, BodyAt, Carry, Fin, Claim, Signal, Ack, Give, Open}
use Rattle.sj_table.specs.declared.table.Spot.{Spot}
use Rattle.sj_wire.specs.Kinds.{end_in, kind_of}
use Rattle.sj_wire.specs.Lawful.{HasSide, IsTypedMessage, IsWithin, IsTypedBody, cached_in, without_place}
use Rattle.sj_wire.specs.Limits.{limit_of_conns, limit_of_messages, limit_of_hops, most_cached, nowhere}
use Rattle.sj_wire.specs.Spelling.{number, flag, message, resend, counts, body}
use Rattle.sj_wire.specs.Reading.{resend_at, carry_at, fin_at, signal_at, ack_at, counts_at, give_at, open_at, body_at}
use Rattle.sj_wire.proofs.NumberLemmas.{number_again, limited_again}
use Rattle.sj_wire.proofs.FieldLemmas.{flag_again}
use Rattle.sj_wire.proofs.MessageLemmas.{message_again, messages_again}

resend_again : (base sent : ℕ) (r : Option ℕ) (rest : List ℕ) → sent ≤ limit_of_messages → IfSome r (λ n. (base ≤ n) × (n ≤ sent)) → resend_at base sent (resend r ++ rest) ≡ Some (r, rest)
unfolding resend_at resend
resend_again base sent None rest small h = rw (flag_again false rest) refl
resend_again base sent (Some n) rest small h =
    ap (resend_at base sent) (append_assoc (flag true) (number 4 n) rest)
    ∙ rw (flag_again true (number 4 n ++ rest), limited_again 4 sent n rest h.1 (omega (arith, small)), le-ltb n base h.0) refl

carry_again : (e : EndId) (conn n taken : ℕ) (msg : Msg) (rest : List ℕ) → (conn ≤ limit_of_conns) × (n ≤ limit_of_messages) × (taken ≤ limit_of_messages) × HasSide msg → IsTypedMessage msg
    → carry_at e (body {P = Spot} (Carry e conn n taken msg) ++ rest) ≡ Some (Carry e conn n taken msg, rest)
unfolding carry_at body
carry_again e conn n taken msg rest h typed =
    let parts : (number 4 conn ++ (number 4 n ++ (number 4 taken ++ message msg))) ++ rest ≡ number 4 conn ++ (number 4 n ++ (number 4 taken ++ (message msg ++ rest))) = simp append_assoc refl in
    ap (carry_at e) parts
    ∙ rw (
      limited_again 4 limit_of_conns conn (number 4 n ++ (number 4 taken ++ (message msg ++ rest))) h.0 (omega arith),
      limited_again 4 limit_of_messages n (number 4 taken ++ (message msg ++ rest)) h.1 (omega arith),
      limited_again 4 limit_of_messages taken (message msg ++ rest) h.2 (omega arith),
      message_again msg rest h.3 typed,
    ) refl

fin_again : (e : EndId) (conn n : ℕ) (rest : List ℕ) → (conn ≤ limit_of_conns) × (n ≤ limit_of_messages) → fin_at e (body {P = Spot} (Fin e conn n) ++ rest) ≡ Some (Fin e conn n, rest)
unfolding fin_at body
fin_again e conn n rest h =
    ap (fin_at e) (append_assoc (number 4 conn) (number 4 n) rest)
    ∙ rw (limited_again 4 limit_of_conns conn (number 4 n ++ rest) h.0 (omega arith), limited_again 4 limit_of_messages n rest h.1 (omega arith)) refl

signal_again : (e : EndId) (conn party taken : ℕ) (rest : List ℕ) → (conn ≤ limit_of_conns) × (taken ≤ limit_of_messages) → party < 2 ^ 16 → signal_at e (body {P = Spot} (Signal e conn party taken) ++ rest) ≡ Some (Signal e conn party taken, rest)
unfolding signal_at body
signal_again e conn party taken rest h typed =
    let parts : (number 4 conn ++ (number 2 party ++ number 4 taken)) ++ rest ≡ number 4 conn ++ (number 2 party ++ (number 4 taken ++ rest)) = simp append_assoc refl in
    ap (signal_at e) parts
    ∙ rw (limited_again 4 limit_of_conns conn (number 2 party ++ (number 4 taken ++ rest)) h.0 (omega arith), number_again 2 party (number 4 taken ++ rest) (omega (arith, typed)), limited_again 4 limit_of_messages taken rest h.1 (omega arith)) refl

ack_again : (e : EndId) (conn : ℕ) (rest : List ℕ) → conn ≤ limit_of_conns → ack_at e (body {P = Spot} (Ack e conn) ++ rest) ≡ Some (Ack e conn, rest)
unfolding ack_at body
ack_again e conn rest h = rw (limited_again 4 limit_of_conns conn rest h (omega arith)) refl

counts_again : {P : Type 0} (e : EndAt P) (rest : List ℕ) → e.conn ≤ limit_of_conns → e.peer < 2 ^ 16 → e.sent ≤ limit_of_messages → e.taken ≤ limit_of_messages → e.hops ≤ limit_of_hops
    → counts_at e.id (counts e ++ rest) ≡ Some (record { id = e.id; place = nowhere; conn = e.conn; peer = e.peer; sent = e.sent; taken = e.taken; base = e.sent; cache = []; hops = e.hops }, rest)
unfolding counts_at counts
counts_again e rest conn peer sent taken hops =
    let r4 = number 1 e.hops ++ rest in
    let r3 = number 4 e.taken ++ r4 in
    let r2 = number 4 e.sent ++ r3 in
    let r1 = number 2 e.peer ++ r2 in
    let parts : counts e ++ rest ≡ number 4 e.conn ++ r1 = simp append_assoc refl in
    ap (counts_at e.id) parts
    ∙ rw (
      limited_again 4 limit_of_conns e.conn r1 conn (omega arith),
      number_again 2 e.peer r2 (omega (arith, peer)),
      limited_again 4 limit_of_messages e.sent r3 sent (omega arith),
      limited_again 4 limit_of_messages e.taken r4 taken (omega arith),
      limited_again 1 limit_of_hops e.hops rest hops (omega arith),
    ) refl

give_again : {P : Type 0} (e : EndAt P) (r : Option ℕ) (rest : List ℕ) → IsWithin (Give e r) → IsTypedBody (Give e r) → length e.cache ≤ most_cached → give_at e.id (body (Give e r) ++ rest) ≡ Some (without_place (Give e r), rest)
unfolding give_at body
give_again e r rest h typed short =
    let r3 = resend r ++ rest in
    let r2 = flat_map message e.cache ++ r3 in
    let r1 = number 4 (length e.cache) ++ r2 in
    let parts : body (Give e r) ++ rest ≡ counts e ++ r1 = simp append_assoc refl in
    let base : e.sent - length e.cache ≡ e.base = omega (arith, typed.1) in
    ap (give_at e.id) parts
    ∙ rw (
      counts_again e r1 h.0 typed.0 h.1 h.2 h.3,
      limited_again 4 (min e.sent most_cached) (length e.cache) r2 (omega (arith, typed.1, short)) (omega arith),
      messages_again e.cache r3 h.4 typed.2,
      base,
      resend_again e.base e.sent r rest h.1 h.5,
    ) refl

pub body_again : {P : Type 0} (b : BodyAt P) (rest : List ℕ) → IsWithin b → IsTypedBody b → cached_in b ≤ most_cached → body_at (kind_of b) (end_in b) (body b ++ rest) ≡ Some (without_place b, rest)
unfolding body_at open_at body
body_again (Carry e conn n taken msg) rest h typed short = carry_again e conn n taken msg rest h typed
body_again (Fin e conn n) rest h typed short = fin_again e conn n rest h
body_again (Claim e) rest h typed short = refl
body_again (Signal e conn party taken) rest h typed short = signal_again e conn party taken rest h typed
body_again (Ack e conn) rest h typed short = ack_again e conn rest h
body_again (Give e r) rest h typed short = give_again e r rest h typed short
body_again (Open sess) rest h typed short = refl
