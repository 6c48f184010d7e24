-- A frame that is read is spelt so.
use Rattle.std.proofs.Common.{◌≡◌, ℕ, zero, suc, ◌^◌, ◌<◌, ◌≤◌, Bool, true, false, ◌||◌, cond, ltb, eqb, List, [], ◌∷◌, ◌++◌, length, take, drop, Option, Some, None, refl, sym, ap, subst, ◌∙◌, append_assoc, arith}
use Rattle.std.proofs.lemmas.Bool.{eqb-true, ltb-false, ne_eqb}
use Rattle.std.proofs.lemmas.Option.{cond_some}
use Rattle.std.proofs.lemmas.List.{append-nil, nil_from_length, take-append-drop, length-take}
use Rattle.byteorder.specs.Endian.{big_number}
use Rattle.sj_base.specs.declared.EndId.{EndId}
use Rattle.sj_rules.specs.Frames.{FrameAt}
use Rattle.sj_rules.specs.Record.{BodyAt}
use Rattle.sj_table.specs.declared.table.Spot.{Spot}
use Rattle.sj_wire.specs.declared.kind.Kind.{Kind}
use Rattle.sj_wire.specs.declared.kind.Kind.TheVariants as kinds
use Rattle.sj_wire.specs.declared.refusal.WireRefusal.{WireRefusal}
use Rattle.sj_wire.specs.declared.refusal.WireRefusal.TheVariants as refusals
use Rattle.sj_wire.specs.Front.{Front, Cut, Refused, Whole, of_fields, of_kind, whole_of, sized_of, front_of}
use Rattle.sj_wire.specs.Kinds.{code, end_in, kind_named, kind_in, of_version, kind_of, version_of}
use Rattle.sj_wire.specs.Lawful.{IsSpelt, on_wire}
use Rattle.sj_wire.specs.Limits.{version, open_version, least_length, most_length}
use Rattle.sj_wire.specs.Spelling.{number, end_id, body, inside, framed, spelling}
use Rattle.sj_wire.specs.Reading.{number_at, frame_at}
use Rattle.sj_wire.proofs.NumberLemmas.{IsBytes, IsBytes-take, bind_some, then_takes, wide4, wide8, number_takes, limited_takes}
use Rattle.sj_wire.proofs.FieldLemmas.{end_id_takes}
use Rattle.sj_wire.proofs.BodyTakesLemmas.{body_takes}
use Rattle.sj_wire.proofs.FrameReadLemmas.{fields, code_small, version_small, one_byte}

-- a frame that was read, apart from its bytes
pub record IsRead (f : FrameAt Spot) : Type 0 where
  pub spelt : IsSpelt f
  pub same : on_wire f ≡ f

fields_take : (k : Kind) {bytes : List ℕ} {f : FrameAt Spot} → IsBytes bytes → frame_at k bytes ≡ Some f → (bytes ≡ fields f) × (kind_of f.body ≡ k) × IsRead f
unfolding frame_at
fields_take k {bytes} {f} fits is =
    let a = bind_some is in
    let ta = limited_takes wide8 fits a.1 in
    let b = bind_some a.2 in
    let tb = end_id_takes ta.0.fits b.1 in
    let c = bind_some b.2 in
    let tc = body_takes k tb.0.fits c.1 in
    let g = cond_some _ _ _ c.2 in
    let made : FrameAt Spot = record { clock = a.0.0; body = c.0.0 } in
    let end : end_in c.0.0 ≡ b.0.0 = tc.end_is in
    let empty : c.0.1 ≡ [] = nil_from_length c.0.1 (eqb-true _ _ g.0) in
    let all = then_takes ta.0 (then_takes tb.0 tc.took) in
    let parts : bytes ≡ number 8 a.0.0 ++ (end_id b.0.0 ++ body c.0.0) = all.parts ∙ ap (λ (t : List ℕ). (number 8 a.0.0 ++ (end_id b.0.0 ++ body c.0.0)) ++ t) empty ∙ append-nil (number 8 a.0.0 ++ (end_id b.0.0 ++ body c.0.0)) in
    let named : bytes ≡ fields made = subst (λ (e : EndId). bytes ≡ number 8 a.0.0 ++ (end_id e ++ body c.0.0)) (sym end) parts in
    let side : (end_in c.0.0).side ≤ 1 = subst (λ (e : EndId). e.side ≤ 1) (sym end) tb.2 in
    let session : (end_in c.0.0).sess < 2 ^ 32 = subst (λ (e : EndId). e.sess < 2 ^ 32) (sym end) tb.1 in
    let read : IsRead made = record {
      spelt = record { lawful = (ta.1, side, tc.within); short = tc.short; session = session; typed = tc.typed };
      same = ap (λ (b : BodyAt Spot). record { clock = a.0.0; body = b }) tc.nowhere_is;
    } in
    subst (λ (g : FrameAt Spot). (bytes ≡ fields g) × (kind_of g.body ≡ k) × IsRead g) g.1 (named, tc.kind_is, read)

no_kind : (b : ℕ) → 7 < b → kind_named b ≡ None
no_kind b lt = rw (ne_eqb b 1 (λ e. omega (arith, e, lt)), ne_eqb b 2 (λ e. omega (arith, e, lt)), ne_eqb b 3 (λ e. omega (arith, e, lt)), ne_eqb b 4 (λ e. omega (arith, e, lt)), ne_eqb b 5 (λ e. omega (arith, e, lt)), ne_eqb b 6 (λ e. omega (arith, e, lt)), ne_eqb b 7 (λ e. omega (arith, e, lt))) refl

named_code : (b : ℕ) {k : Kind} → kind_named b ≡ Some k → b ≡ code k
named_code zero e = absurd cc
named_code (suc zero) e = ap code (let same : kinds.Carry ≡ _ = cc in same)
named_code (suc (suc zero)) e = ap code (let same : kinds.Fin ≡ _ = cc in same)
named_code (suc (suc (suc zero))) e = ap code (let same : kinds.Claim ≡ _ = cc in same)
named_code (suc (suc (suc (suc zero)))) e = ap code (let same : kinds.Signal ≡ _ = cc in same)
named_code (suc (suc (suc (suc (suc zero))))) e = ap code (let same : kinds.Ack ≡ _ = cc in same)
named_code (suc (suc (suc (suc (suc (suc zero)))))) e = ap code (let same : kinds.Give ≡ _ = cc in same)
named_code (suc (suc (suc (suc (suc (suc (suc zero))))))) e = ap code (let same : kinds.Open ≡ _ = cc in same)
named_code (suc (suc (suc (suc (suc (suc (suc (suc n)))))))) e = let none = no_kind (suc (suc (suc (suc (suc (suc (suc (suc n)))))))) (omega arith) in absurd cc

of_its_version : (v : ℕ) {o : Option Kind} {k : Kind} → of_version v o ≡ Some k → (v ≡ version_of k) × (o ≡ Some k)
of_its_version v {o = None} e = absurd cc
of_its_version v {o = Some l} e =
    let g = cond_some _ _ _ e in
    (sym (eqb-true _ _ g.0) ∙ ap version_of g.1, ap (λ (k : Kind). Some k) g.1)

-- both bytes of a kind
bytes_are : (v b : ℕ) {k : Kind} → kind_in v b ≡ Some k → (v ≡ version_of k) × (b ≡ code k)
bytes_are v b e = let o = of_its_version v e in (o.0, named_code b o.1)

-- the tests before a frame that is there
not_cut : {b : Bool} {y : Front} {f : FrameAt Spot} {r : List ℕ} → cond b Cut y ≡ Whole f r → (b ≡ false) × (y ≡ Whole f r)
not_cut {b = true} e = absurd cc
not_cut {b = false} e = (refl, e)

not_refused : (w : WireRefusal) {b : Bool} {y : Front} {f : FrameAt Spot} {r : List ℕ} → cond b (Refused w) y ≡ Whole f r → (b ≡ false) × (y ≡ Whole f r)
not_refused w {b = true} e = absurd cc
not_refused w {b = false} e = (refl, e)

held_true : (w : WireRefusal) {b : Bool} {y : Front} {f : FrameAt Spot} {r : List ℕ} → cond b y (Refused w) ≡ Whole f r → (b ≡ true) × (y ≡ Whole f r)
held_true w {b = true} e = (refl, e)
held_true w {b = false} e = absurd cc

fields_of : {o : Option (FrameAt Spot)} {behind : List ℕ} {f : FrameAt Spot} {r : List ℕ} → of_fields o behind ≡ Whole f r → (o ≡ Some f) × (r ≡ behind)
fields_of {o = None} e = absurd cc
fields_of {o = Some g} e = (cc, cc)

kind_is : (bytes behind : List ℕ) {o : Option Kind} {f : FrameAt Spot} {r : List ℕ} → of_kind o bytes behind ≡ Whole f r → (k : Kind) × (o ≡ Some k) × (of_fields (frame_at k bytes) behind ≡ Whole f r)
kind_is bytes behind {o = None} e = absurd cc
kind_is bytes behind {o = Some k} e = (k, refl, e)

whole_takes : (bytes : List ℕ) {behind : List ℕ} {f : FrameAt Spot} {r : List ℕ} → IsBytes bytes → 2 ≤ length bytes → whole_of bytes behind ≡ Whole f r → (bytes ≡ inside f) × (r ≡ behind) × IsRead f
unfolding whole_of inside
whole_takes [] fits long is = absurd (omega (arith, long))
whole_takes (v ∷ []) fits long is = absurd (omega (arith, long))
whole_takes (v ∷ b ∷ rest) {f = f} fits long is =
    let t = held_true refusals.Version {b = eqb v version || eqb v open_version} is in
    let k = kind_is rest _ t.1 in
    let both = bytes_are v b k.1 in
    let g = fields_of k.2 in
    let took = fields_take k.0 (λ i. fits (suc (suc i))) g.0 in
    let head : v ≡ version_of (kind_of f.body) = both.0 ∙ ap version_of (sym took.1) in
    let byte : b ≡ code (kind_of f.body) = both.1 ∙ ap code (sym took.1) in
    let first = one_byte (version_of (kind_of f.body)) (version_small (kind_of f.body)) in
    let second = one_byte (code (kind_of f.body)) (code_small (kind_of f.body)) in
    let text : inside f ≡ version_of (kind_of f.body) ∷ code (kind_of f.body) ∷ fields f = rw (first, second) refl in
    let cells : v ∷ b ∷ rest ≡ version_of (kind_of f.body) ∷ code (kind_of f.body) ∷ fields f = rw (head, byte, took.0) refl in
    (cells ∙ sym text, g.1, took.2)

or_no : {a b : Bool} → (a || b) ≡ false → (a ≡ false) × (b ≡ false)
or_no {a = true} e = absurd cc
or_no {a = false} {b = true} e = absurd cc
or_no {a = false} {b = false} e = (refl, refl)

pub front_takes : {bytes : List ℕ} {f : FrameAt Spot} {r : List ℕ} → IsBytes bytes → front_of bytes ≡ Whole f r → (bytes ≡ spelling f ++ r) × IsRead f
unfolding front_of sized_of spelling framed number_at
front_takes {bytes} {f} {r} fits is =
    let size = big_number 4 bytes in
    let rest = drop 4 bytes in
    let a = not_cut {b = ltb (length bytes) 4} is in
    let read : number_at 4 bytes ≡ Some (size, rest) = rw a.0 refl in
    let t = number_takes wide4 {x = (size, rest)} fits read in
    let b = not_refused refusals.Length {b = ltb size least_length || ltb most_length size} a.1 in
    let least : least_length ≤ size = ltb-false _ _ (or_no b.0).0 in
    let c = not_cut {b = ltb (length rest) size} b.1 in
    let long : size ≤ length rest = ltb-false _ _ c.0 in
    let cut : length (take size rest) ≡ size = omega (arith, length-take size rest, long) in
    let w = whole_takes (take size rest) (IsBytes-take size rest t.0.fits) (omega (arith, cut, least)) c.1 in
    let sized : length (inside f) ≡ size = ap length (sym w.0) ∙ cut in
    let tail : rest ≡ inside f ++ r = sym (take-append-drop size rest) ∙ (rw (w.0, w.1) refl) in
    let all : bytes ≡ number 4 (length (inside f)) ++ (inside f ++ r) = rw (sized, ← tail) t.0.parts in
    (all ∙ sym (append_assoc (number 4 (length (inside f))) (inside f) r), w.2)
