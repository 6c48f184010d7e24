-- The first bytes of pieces, and what may stand after items.
use Rattle.std.proofs.Common.{◌≡◌, ◌≢◌, ℕ, List, [], ◌∷◌, get_or, refl, ap, arith}
use Rattle.std.specs.Prelude.{codes}
use Rattle.sj_lang.specs.declared.proto.Way.{Way}
use Rattle.sj_lang.specs.declared.proto.Way.TheVariants.{Out, Into}
use Rattle.sj_grammar.specs.Positions.{Pieces}
use Rattle.sj_grammar.specs.Protocols.{way_piece, open_piece, close_piece}

-- the first byte of a piece
abbrev pub byte : ℕ → Pieces → ℕ
byte n ps = get_or (get_or ps n []) 0 0

-- what may stand after items: no dot and no item; the first byte is another
abbrev pub Closes : Pieces → Type 0
Closes ps = (byte 0 ps ≢ 46) × (byte 0 ps ≢ 33) × (byte 0 ps ≢ 63)

pub same_way : (w v : Way) → way_piece w ≡ way_piece v → w ≡ v
same_way Out Out e = refl
same_way Into Into e = refl
same_way Out Into e = absurd (omega (arith, ap (λ (l : List ℕ). get_or l 0 0) e))
same_way Into Out e = absurd (omega (arith, ap (λ (l : List ℕ). get_or l 0 0) e))

pub way_byte : (w : Way) → (get_or (way_piece w) 0 0 ≢ 33) → (get_or (way_piece w) 0 0 ≢ 63) → ⊥
way_byte Out a b = a refl
way_byte Into a b = b refl

pub open_byte : (w : Way) → (get_or (open_piece w) 0 0 ≢ 123) × (get_or (open_piece w) 0 0 ≢ 91)
open_byte Out = (λ e. omega (arith, e), λ e. omega (arith, e))
open_byte Into = (λ e. omega (arith, e), λ e. omega (arith, e))

pub close_closes : (w : Way) (ps : Pieces) → Closes (close_piece w ∷ ps)
close_closes Out ps = (λ e. omega (arith, e), λ e. omega (arith, e), λ e. omega (arith, e))
close_closes Into ps = (λ e. omega (arith, e), λ e. omega (arith, e), λ e. omega (arith, e))

pub bracket : (ps : Pieces) → Closes (codes "]" ∷ ps)
bracket ps = (λ e. omega (arith, e), λ e. omega (arith, e), λ e. omega (arith, e))

pub brace : (ps : Pieces) → Closes (codes "}" ∷ ps)
brace ps = (λ e. omega (arith, e), λ e. omega (arith, e), λ e. omega (arith, e))
