-- How long the parts of a frame are.
use Rattle.std.proofs.Common.{◌≡◌, ℕ, ◌*◌, ◌≤◌, true, false, List, [], ◌∷◌, length, Option, Some, None, refl, arith}
use Rattle.std.specs.List.{flat_map}
use Rattle.std.proofs.lemmas.List.{length-append}
use Rattle.std.proofs.lemmas.List.Concat.{flat_map-cons}
use Rattle.sj_base.specs.declared.EndId.{EndId}
use Rattle.sj_base.specs.declared.Msg.{Msg}
use Rattle.sj_base.specs.declared.Msg.TheVariants as msgs
use Rattle.sj_rules.specs.Frames.{FrameAt}
use Rattle.sj_rules.specs.Record.{EndAt, BodyAt, Carry, Fin, Claim, Signal, Ack, Give, Open}
use Rattle.sj_wire.specs.Lawful.{cached_in}
use Rattle.sj_wire.specs.Limits.{least_length, most_length, most_cached}
use Rattle.sj_wire.specs.Spelling.{flag, end_id, message, resend, counts, body, inside}
use Rattle.sj_wire.proofs.NumberLemmas.{length-number}

length-flag : (b : _) → length (flag b) ≡ 1
unfolding flag
length-flag true = length-number 1 1
length-flag false = length-number 1 0

length-end_id : (e : EndId) → length (end_id e) ≡ 5
unfolding end_id
length-end_id e = simp (length-append, length-number) refl

length-message : (m : Msg) → length (message m) ≤ 9
unfolding message
length-message (msgs.Int i) = simp (length-append, length-number) (omega arith)
length-message (msgs.Bool b) = simp (length-append, length-number, length-flag) (omega arith)
length-message (msgs.Text t) = simp (length-append, length-number) (omega arith)
length-message (msgs.Label l) = simp (length-append, length-number) (omega arith)
length-message (msgs.More b) = simp (length-append, length-number, length-flag) (omega arith)
length-message (msgs.Sess sess side keeper) = simp (length-append, length-number, length-end_id) (omega arith)

length-messages : (ms : List Msg) → length (flat_map message ms) ≤ 9 * length ms
length-messages [] = omega arith
length-messages (m ∷ ms) = rw (flat_map-cons message m ms, length-append (message m) (flat_map message ms)) (let a = length-message m in let b = length-messages ms in omega (arith, a, b))

length-resend : (r : Option ℕ) → length (resend r) ≤ 5
unfolding resend
length-resend None = simp length-flag (omega arith)
length-resend (Some n) = simp (length-append, length-number, length-flag) (omega arith)

length-counts : {P : Type 0} (e : EndAt P) → length (counts e) ≡ 15
unfolding counts
length-counts e = simp (length-append, length-number) refl

length-body : {P : Type 0} (b : BodyAt P) → cached_in b ≤ most_cached → length (body b) ≤ 2000000
unfolding body
length-body (Carry e conn n taken msg) short = let m = length-message msg in simp (length-append, length-number) (omega (arith, m))
length-body (Fin e conn n) short = simp (length-append, length-number) (omega arith)
length-body (Claim e) short = omega arith
length-body (Signal e conn party taken) short = simp (length-append, length-number) (omega arith)
length-body (Ack e conn) short = simp length-number (omega arith)
length-body (Give e r) short =
    let m = length-messages e.cache in
    let n = length-resend r in
    simp (length-append, length-number, length-counts) (omega (arith, m, n, short))
length-body (Open sess) short = omega arith

-- what follows the length of a frame is within the limits
pub length-inside : {P : Type 0} (f : FrameAt P) → cached_in f.body ≤ most_cached → (least_length ≤ length (inside f)) × (length (inside f) ≤ most_length)
unfolding inside
length-inside f short =
    let b = length-body f.body short in
    (simp (length-append, length-number, length-end_id) (omega arith), simp (length-append, length-number, length-end_id) (omega (arith, b)))
