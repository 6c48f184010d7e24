use Rattle.std.proofs.Common.{◌≡◌, ◌<◌, ◌+◌, ◌-◌, ap, subst, sym, ℕ, List, length, take, drop, ◌∙◌, arith}
use Rattle.std.proofs.lemmas.List.{take_rest}
use Rattle.byteorder.specs.Endian.{big_number}
use Rattle.sj_wire.specs.Stream.{IsBytes}
use Rattle.sj_wire.proofs.NumberLemmas.{IsBytes-drop, IsBytes-take}
use Rattle.sj_engine.specs.Frames.{IsFront}
use Rattle.sj_engine.proofs.FrameLemmas.{is_front, short_front, uses_one}
use Rattle.sj_engine.proofs.in_lane.front_size.Goals as goal

pub returns-then-left-lt4 : goal.returns-then-left-lt4
returns-then-left-lt4 c = λ f rest is.
    let bytes = c.args.bytes.now in
    let used = c.args.used in
    let all : IsBytes bytes = λ i. omega (arith, c.type_inv.bytes i) in
    let short : length (drop used bytes) < 4 = subst (λ (t : List ℕ). length t < 4) (take_rest bytes used) c.if-left-lt4.true in
    uses_one bytes used 0 f rest (IsBytes-take used bytes all) c.requires.within c.requires.whole c.requires.spelt (short_front (drop used bytes) f rest short (IsBytes-drop used bytes all) is)

pub returns : goal.returns
returns c = λ f rest is.
    let bytes = c.args.bytes.now in
    let used = c.args.used in
    let all : IsBytes bytes = λ i. omega (arith, c.type_inv.bytes i) in
    let part : big_number 4 (take (length bytes - used) (drop used bytes)) ≡ c.read_u32.result = omega (arith, c.read_u32.ensures) in
    let read : big_number 4 (drop used bytes) ≡ c.read_u32.result = ap (big_number 4) (sym (take_rest bytes used)) ∙ part in
    let front = is_front (drop used bytes) f rest (IsBytes-drop used bytes all) is in
    uses_one bytes used (4 + c.read_u32.result) f rest (IsBytes-take used bytes all) c.requires.within c.requires.whole c.requires.spelt
    (subst (λ (n : ℕ). IsFront (drop used bytes) (4 + n) f rest) read front)
