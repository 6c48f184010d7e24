-- Messages, as `FieldLemmas`.
use Rattle.std.proofs.Common.{◌≡◌, ℕ, zero, suc, ◌^◌, ◌<◌, ◌≤◌, List, [], ◌∷◌, ◌++◌, length, Some, None, refl, sym, ap, subst, ◌∙◌, append_assoc, arith}
use Rattle.std.specs.Prelude.{FitsSigned}
use Rattle.std.specs.Int.{w64, cast_signed, cast_unsigned}
use Rattle.std.specs.List.{flat_map, AllByRecursion}
use Rattle.std.proofs.Math.Facts.{Fits-of_z, sfits_to_z}
use Rattle.std.proofs.lemmas.Bool.{ne_eqb}
use Rattle.std.proofs.lemmas.Int.{of_z-to_z, to_z-of_z}
use Rattle.std.proofs.lemmas.List.Concat.{flat_map-cons}
use Rattle.sj_base.specs.declared.EndId.{EndId}
use Rattle.sj_base.specs.declared.Msg.{Msg}
use Rattle.sj_base.specs.declared.Msg.TheVariants as msgs
use Rattle.sj_wire.specs.Lawful.{HasSide, IsTypedMessage}
use Rattle.sj_wire.specs.Tags.{int_tag, bool_tag, text_tag, label_tag, more_tag, sess_tag}
use Rattle.sj_wire.specs.Spelling.{number, flag, end_id, message}
use Rattle.sj_wire.specs.Reading.{sess_at, value_at, message_at, messages_at}
use Rattle.sj_wire.proofs.NumberLemmas.{IsBytes, bind_some, some_is, Takes, then_takes, wide1, wide2, wide4, wide8, number_takes, number_again}
use Rattle.sj_wire.proofs.FieldLemmas.{made_some, flag_takes, flag_again, end_id_takes, end_id_again}

-- ---- what is spelt is read

signed_fits : (z : _) → FitsSigned w64 z → cast_unsigned w64 z < 256 ^ 8
signed_fits z fits = (Fits-of_z fits).fits

-- a tag, and what stands after it
tag_again : (tag : ℕ) (text rest : List ℕ) → tag ≤ 5 → message_at ((number 1 tag ++ text) ++ rest) ≡ value_at tag (text ++ rest)
unfolding message_at
tag_again tag text rest le = ap message_at (append_assoc (number 1 tag) text rest) ∙ rw (number_again 1 tag (text ++ rest) (omega arith)) refl

sess_again : (e : EndId) (keeper : ℕ) (rest : List ℕ) → e.sess < 2 ^ 32 → e.side ≤ 1 → keeper < 2 ^ 16 → sess_at ((end_id e ++ number 2 keeper) ++ rest) ≡ Some (msgs.Sess e.sess e.side keeper, rest)
unfolding sess_at
sess_again e keeper rest sess side fits =
    ap sess_at (append_assoc (end_id e) (number 2 keeper) rest) ∙ rw (end_id_again e (number 2 keeper ++ rest) sess side, number_again 2 keeper rest (omega arith)) refl

pub message_again : (m : Msg) (rest : List ℕ) → HasSide m → IsTypedMessage m → message_at (message m ++ rest) ≡ Some (m, rest)
unfolding message value_at
message_again (msgs.Int i) rest side fits = tag_again int_tag (number 8 (cast_unsigned w64 i)) rest (omega arith) ∙ rw (number_again 8 (cast_unsigned w64 i) rest (signed_fits i fits), to_z-of_z w64 i fits) refl
message_again (msgs.Bool b) rest side fits = tag_again bool_tag (flag b) rest (omega arith) ∙ rw (flag_again b rest) refl
message_again (msgs.Text t) rest side fits = tag_again text_tag (number 4 t) rest (omega arith) ∙ rw (number_again 4 t rest (omega arith)) refl
message_again (msgs.Label l) rest side fits = tag_again label_tag (number 2 l) rest (omega arith) ∙ rw (number_again 2 l rest (omega arith)) refl
message_again (msgs.More b) rest side fits = tag_again more_tag (flag b) rest (omega arith) ∙ rw (flag_again b rest) refl
message_again (msgs.Sess sess side keeper) rest le fits = tag_again sess_tag (end_id (record { sess = sess; side = side }) ++ number 2 keeper) rest (omega arith) ∙ sess_again (record { sess = sess; side = side }) keeper rest fits.0 le fits.1

pub messages_again : (ms : List Msg) (rest : List ℕ) → AllByRecursion HasSide ms → AllByRecursion IsTypedMessage ms → messages_at (length ms) (flat_map message ms ++ rest) ≡ Some (ms, rest)
unfolding messages_at
messages_again [] rest sides fits = refl
messages_again (m ∷ ms) rest sides fits =
    let parts : flat_map message (m ∷ ms) ++ rest ≡ message m ++ (flat_map message ms ++ rest) = ap (λ (t : List ℕ). t ++ rest) (flat_map-cons message m ms) ∙ append_assoc (message m) (flat_map message ms) rest in
    ap (messages_at (suc (length ms))) parts ∙ rw (message_again m (flat_map message ms ++ rest) sides.0 fits.0, messages_again ms rest sides.1 fits.1) refl

-- ---- what is read is spelt so

sess_takes : {bytes : List ℕ} {x : Msg × List ℕ} → IsBytes bytes → sess_at bytes ≡ Some x → (e : EndId) × (keeper : ℕ) × (x.0 ≡ msgs.Sess e.sess e.side keeper) × Takes bytes (end_id e ++ number 2 keeper) x.1 × (e.sess < 2 ^ 32) × (e.side ≤ 1) × (keeper < 2 ^ 16)
unfolding sess_at
sess_takes {bytes} {x} fits e =
    let a = bind_some e in
    let ta = end_id_takes fits a.1 in
    let b = bind_some a.2 in
    let tb = number_takes wide2 ta.0.fits b.1 in
    let is = some_is b.2 in
    (a.0.0, b.0.0, ap (λ (y : Msg × List ℕ). y.0) (sym is), subst (λ (y : Msg × List ℕ). Takes bytes (end_id a.0.0 ++ number 2 b.0.0) y.1) is (then_takes ta.0 tb.0), ta.1, ta.2, omega (arith, tb.1))

-- the text after the tag of a message that was read
record TakesValue (tag : ℕ) (bytes : List ℕ) (x : Msg × List ℕ) : Type 0 where
  text : List ℕ
  took : Takes bytes text x.1
  spelled : message x.0 ≡ number 1 tag ++ text
  side : HasSide x.0
  typed : IsTypedMessage x.0

no_value : (tag : ℕ) (bytes : List ℕ) → 5 < tag → value_at tag bytes ≡ None
unfolding value_at
no_value tag bytes lt = rw (ne_eqb tag 0 (λ e. omega (arith, e, lt)), ne_eqb tag 1 (λ e. omega (arith, e, lt)), ne_eqb tag 2 (λ e. omega (arith, e, lt)), ne_eqb tag 3 (λ e. omega (arith, e, lt)), ne_eqb tag 4 (λ e. omega (arith, e, lt)), ne_eqb tag 5 (λ e. omega (arith, e, lt))) refl

value_takes : (tag : ℕ) {bytes : List ℕ} {x : Msg × List ℕ} → IsBytes bytes → value_at tag bytes ≡ Some x → TakesValue tag bytes x
unfolding value_at message
value_takes zero {bytes} fits e =
    let a = made_some (λ n. msgs.Int (cast_signed w64 n)) e in
    let t = number_takes wide8 fits a.1 in
    subst (λ (y : Msg × List ℕ). TakesValue 0 bytes y) a.2
    (record { text = number 8 a.0.0; took = t.0; spelled = ap (λ (n : ℕ). number 1 0 ++ number 8 n) (of_z-to_z w64 a.0.0 t.1); side = tt; typed = sfits_to_z (record { fits = t.1 }) })
value_takes (suc zero) {bytes} fits e =
    let a = made_some msgs.Bool e in
    subst (λ (y : Msg × List ℕ). TakesValue 1 bytes y) a.2 (record { text = flag a.0.0; took = flag_takes fits a.1; spelled = refl; side = tt; typed = tt })
value_takes (suc (suc zero)) {bytes} fits e =
    let a = made_some msgs.Text e in
    let t = number_takes wide4 fits a.1 in
    subst (λ (y : Msg × List ℕ). TakesValue 2 bytes y) a.2 (record { text = number 4 a.0.0; took = t.0; spelled = refl; side = tt; typed = t.1 })
value_takes (suc (suc (suc zero))) {bytes} fits e =
    let a = made_some msgs.Label e in
    let t = number_takes wide2 fits a.1 in
    subst (λ (y : Msg × List ℕ). TakesValue 3 bytes y) a.2 (record { text = number 2 a.0.0; took = t.0; spelled = refl; side = tt; typed = t.1 })
value_takes (suc (suc (suc (suc zero)))) {bytes} fits e =
    let a = made_some msgs.More e in
    subst (λ (y : Msg × List ℕ). TakesValue 4 bytes y) a.2 (record { text = flag a.0.0; took = flag_takes fits a.1; spelled = refl; side = tt; typed = tt })
value_takes (suc (suc (suc (suc (suc zero))))) {bytes} {x} fits e =
    let s = sess_takes fits e in
    let end = s.0 in
    subst (λ (y : Msg × List ℕ). TakesValue 5 bytes y) (ap (λ (m : Msg). (m, x.1)) (sym s.2))
    (record { text = end_id end ++ number 2 s.1; took = s.3; spelled = refl; side = s.5; typed = (s.4, s.6) })
value_takes (suc (suc (suc (suc (suc (suc n)))))) {bytes} fits e = let none = no_value (suc (suc (suc (suc (suc (suc n)))))) bytes (omega arith) in absurd cc

pub message_takes : {bytes : List ℕ} {x : Msg × List ℕ} → IsBytes bytes → message_at bytes ≡ Some x → Takes bytes (message x.0) x.1 × HasSide x.0 × IsTypedMessage x.0
unfolding message_at
message_takes {bytes} {x} fits e =
    let a = bind_some e in
    let ta = number_takes wide1 fits a.1 in
    let v = value_takes a.0.0 ta.0.fits a.2 in
    (subst (λ (s : List ℕ). Takes bytes s x.1) (sym v.spelled) (then_takes ta.0 v.took), v.side, v.typed)

pub messages_take : (n : ℕ) {bytes : List ℕ} {x : List Msg × List ℕ} → IsBytes bytes → messages_at n bytes ≡ Some x
    → Takes bytes (flat_map message x.0) x.1 × (length x.0 ≡ n) × AllByRecursion HasSide x.0 × AllByRecursion IsTypedMessage x.0
unfolding messages_at
messages_take zero {bytes} fits e =
    subst (λ (y : List Msg × List ℕ). Takes bytes (flat_map message y.0) y.1 × (length y.0 ≡ 0) × AllByRecursion HasSide y.0 × AllByRecursion IsTypedMessage y.0) (some_is e) (record { parts = refl; fits = fits }, refl, tt, tt)
messages_take (suc n) {bytes} fits e =
    let a = bind_some e in
    let ta = message_takes fits a.1 in
    let b = bind_some a.2 in
    let tb = messages_take n ta.0.fits b.1 in
    let both : Takes bytes (flat_map message (a.0.0 ∷ b.0.0)) b.0.1 = subst (λ (s : List ℕ). Takes bytes s b.0.1) (sym (flat_map-cons message a.0.0 b.0.0)) (then_takes ta.0 tb.0) in
    subst (λ (y : List Msg × List ℕ). Takes bytes (flat_map message y.0) y.1 × (length y.0 ≡ suc n) × AllByRecursion HasSide y.0 × AllByRecursion IsTypedMessage y.0) (some_is b.2)
    (both, ap suc tb.1, (ta.1, tb.2), (ta.2, tb.3))
