-- Which program each party has at the start.
use Rattle.std.proofs.Common.{◌≡◌, ℕ, zero, suc, ◌+◌, List, [], ◌∷◌, slice_get, Some, ap, ◌∙◌, arith}
use Rattle.sj_lang.specs.FileAt.{FileAt, PartyAt}
use Rattle.sj_semantics.specs.World.{program_of, programs_from, start_of}

programs_at : (file : FileAt) (k p : ℕ) (qs : List PartyAt) (q : PartyAt) → slice_get qs p ≡ Some q → slice_get (programs_from file k qs) p ≡ Some (program_of file (k + p) q)
programs_at file k p [] q h = cc
programs_at file k zero (b ∷ qs) q h = let it : b ≡ q = cc in ap (λ t. Some (program_of file k t)) it ∙ ap (λ n. Some (program_of file n q)) (let e : k ≡ k + 0 = omega arith in e)
programs_at file k (suc p) (b ∷ qs) q h = programs_at file (k + 1) p qs q h ∙ ap (λ n. Some (program_of file n q)) (let e : k + 1 + p ≡ k + suc p = omega arith in e)

pub program_at_start : (file : FileAt) (p : ℕ) (q : PartyAt) → slice_get file.parties p ≡ Some q → slice_get (start_of file).parties p ≡ Some (program_of file p q)
program_at_start file p q h = programs_at file 0 p file.parties q h ∙ ap (λ n. Some (program_of file n q)) (let e : 0 + p ≡ p = omega arith in e)
