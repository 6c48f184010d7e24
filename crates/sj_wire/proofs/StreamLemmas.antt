-- What stands at the start stays there, whatever comes after it.
use Rattle.std.proofs.Common.{◌≡◌, ℕ, ◌≤◌, Bool, true, false, ◌||◌, cond, ltb, eqb, List, ◌++◌, length, take, drop, slice_index, Option, Some, None, refl, sym, ap, ◌∙◌, append_assoc, arith}
use Rattle.std.proofs.lemmas.Bool.{ltb-false, le-ltb}
use Rattle.std.proofs.lemmas.List.{drop-append-le, take-append-le, length-append}
use Rattle.byteorder.specs.Endian.{big_number}
use Rattle.byteorder.specs.Numbers.{big_from-append}
use Rattle.sj_rules.specs.Frames.{FrameAt}
use Rattle.sj_table.specs.declared.table.Spot.{Spot}
use Rattle.sj_wire.specs.declared.kind.Kind.{Kind}
use Rattle.sj_wire.specs.declared.refusal.WireRefusal.{WireRefusal}
use Rattle.sj_wire.specs.declared.refusal.WireRefusal.TheVariants as refusals
use Rattle.sj_wire.specs.Kinds.{kind_in}
use Rattle.sj_wire.specs.Limits.{version, open_version, least_length, most_length}
use Rattle.sj_wire.specs.Front.{Front, Cut, Refused, Whole, of_fields, of_kind, whole_of, sized_of, front_of}
use Rattle.sj_wire.specs.Lawful.{IsSpelt, on_wire}
use Rattle.sj_wire.specs.Spelling.{spelling}
use Rattle.sj_wire.specs.Reading.{frame_at}
use Rattle.sj_wire.proofs.NumberLemmas.{IsBytes}
use Rattle.sj_wire.proofs.FrameReadLemmas.{front_again}
use Rattle.sj_wire.proofs.FrameTakesLemmas.{front_takes}

pub whole_stays : (bytes more : List ℕ) {f : FrameAt Spot} {r : List ℕ} → IsBytes bytes → front_of bytes ≡ Whole f r → front_of (bytes ++ more) ≡ Whole f (r ++ more)
whole_stays bytes more {f} {r} fits is =
    let t = front_takes fits is in
    ap (λ (b : List ℕ). front_of (b ++ more)) t.0 ∙ ap front_of (append_assoc (spelling f) r more) ∙ front_again f (r ++ more) t.1.spelt ∙ ap (λ (g : FrameAt Spot). Whole g (r ++ more)) t.1.same

-- the spelling of a frame is a prefix of no other
pub prefix_free : {P Q : Type 0} (f : FrameAt P) (g : FrameAt Q) (x y : List ℕ) → IsSpelt f → IsSpelt g → spelling f ++ x ≡ spelling g ++ y → (on_wire f ≡ on_wire g) × (x ≡ y)
prefix_free f g x y lf lg same =
    let both : Whole (on_wire f) x ≡ Whole (on_wire g) y = sym (front_again f x lf) ∙ ap front_of same ∙ front_again g y lg in
    (cc, cc)

-- a test that is the same in both, before what is refused in both
same_test : (b : Bool) (z : Front) {w : WireRefusal} {x y : Front} → (x ≡ Refused w → y ≡ Refused w) → cond b x z ≡ Refused w → cond b y z ≡ Refused w
same_test true z h e = h e
same_test false z h e = e

same_other : (b : Bool) (z : Front) {w : WireRefusal} {x y : Front} → (x ≡ Refused w → y ≡ Refused w) → cond b z x ≡ Refused w → cond b z y ≡ Refused w
same_other true z h e = e
same_other false z h e = h e

not_cut : {b : Bool} {w : WireRefusal} {x : Front} → cond b Cut x ≡ Refused w → (b ≡ false) × (x ≡ Refused w)
not_cut {b = true} e = absurd cc
not_cut {b = false} e = (refl, e)

fields_refused : (o : Option (FrameAt Spot)) (r s : List ℕ) {w : WireRefusal} → of_fields o r ≡ Refused w → of_fields o s ≡ Refused w
fields_refused None r s e = e
fields_refused (Some f) r s e = absurd cc

kind_refused : (o : Option Kind) (bytes r s : List ℕ) {w : WireRefusal} → of_kind o bytes r ≡ Refused w → of_kind o bytes s ≡ Refused w
kind_refused None bytes r s e = e
kind_refused (Some k) bytes r s e = fields_refused (frame_at k bytes) r s e

whole_refused : (bytes r s : List ℕ) {w : WireRefusal} → whole_of bytes r ≡ Refused w → whole_of bytes s ≡ Refused w
unfolding whole_of
whole_refused bytes r s e = same_test (eqb (slice_index bytes 0) version || eqb (slice_index bytes 0) open_version) (Refused refusals.Version) (kind_refused (kind_in (slice_index bytes 0) (slice_index bytes 1)) (drop 2 bytes) r s) e

sized_refused : (size : ℕ) (bytes more : List ℕ) {w : WireRefusal} → sized_of size bytes ≡ Refused w → sized_of size (bytes ++ more) ≡ Refused w
unfolding sized_of
sized_refused size bytes more {w} e = same_other (ltb size least_length || ltb most_length size) (Refused refusals.Length) there e
  where
    there : cond (ltb (length bytes) size) Cut (whole_of (take size bytes) (drop size bytes)) ≡ Refused w → cond (ltb (length (bytes ++ more)) size) Cut (whole_of (take size (bytes ++ more)) (drop size (bytes ++ more))) ≡ Refused w
    there e =
        let t = not_cut {b = ltb (length bytes) size} e in
        let long : size ≤ length bytes = ltb-false _ _ t.0 in
        rw (le-ltb (length (bytes ++ more)) size (omega (arith, long, length-append bytes more)), take-append-le size bytes more long) (whole_refused (take size bytes) _ _ t.1)

pub refusal_stays : (bytes more : List ℕ) {w : WireRefusal} → front_of bytes ≡ Refused w → front_of (bytes ++ more) ≡ Refused w
unfolding front_of
refusal_stays bytes more e =
    let t = not_cut {b = ltb (length bytes) 4} e in
    let long : 4 ≤ length bytes = ltb-false _ _ t.0 in
    rw (le-ltb (length (bytes ++ more)) 4 (omega (arith, long, length-append bytes more)), big_from-append 4 bytes more long, drop-append-le 4 bytes more long) (sized_refused (big_number 4 bytes) (drop 4 bytes) more t.1)
