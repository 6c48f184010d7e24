-- Where an end of a connection begins.
use Rattle.std.proofs.Common.{◌≡◌, ◌∙◌, ℕ, zero, suc, ◌<◌, nat_lt, false, List, [], ◌∷◌, length, get_or, map, Option, Some, None, option_map, refl, ap, sym, arith, ltb-false}
use Rattle.std.specs.Prelude.{slice_get, unwrap_or}
use Rattle.std.proofs.lemmas.Option.{slice_get-map, slice_get_past}
use Rattle.sj_base.specs.declared.EndId.{EndId}
use Rattle.sj_lang.specs.FileAt.{FileAt, body_named}
use Rattle.sj_lang.specs.FileView.{connect_of}
use Rattle.sj_lang.specs.Place.{Place, done}
use Rattle.sj_lang.specs.declared.file.Connect.{Connect}
use Rattle.sj_semantics.specs.Ends.{end_at, end_on, nowhere}
use Rattle.sj_semantics.specs.World.{session_of}

got : (xs : List Connect) (k : ℕ) (c : Connect) → k < length xs → c ≡ get_or xs k c → slice_get xs k ≡ Some c
got [] k c lt is = absurd (omega arith)
got (x ∷ xs) zero c lt is = ap Some (sym is)
got (x ∷ xs) (suc k) c lt is = got xs k c (omega (arith, lt)) is

module _ (file : FileAt) (xs : List Connect) (e : EndId) where
  abbrev place_of : Option Connect → Place
  place_of None = done
  place_of (Some c) = (end_on e.side (session_of file (connect_of c))).place

  both : (o : Option Connect) → (unwrap_or (option_map (end_on e.side) (option_map (session_of file) (option_map connect_of o))) nowhere).place ≡ place_of o
  both None = refl
  both (Some c) = refl

  place_so : (o : Option Connect) → slice_get xs e.sess ≡ o → (end_at (map (session_of file) (map connect_of xs)) e).place ≡ place_of o
  place_so o is =
      ap (λ r. (unwrap_or (option_map (end_on e.side) r) nowhere).place) (slice_get-map (session_of file) (map connect_of xs) e.sess ∙ ap (option_map (session_of file)) (slice_get-map connect_of xs e.sess ∙ ap (option_map connect_of) is))
      ∙ both o

  pub first_place : (c : Connect) → e.sess < length xs → c ≡ get_or xs e.sess c → e.side ≡ 0 → (end_at (map (session_of file) (map connect_of xs)) e).place ≡ body_named file.protocols c.first.protocol
  first_place c lt is side = place_so (Some c) (got xs e.sess c lt is) ∙ ap (λ (s : ℕ). (end_on s (session_of file (connect_of c))).place) side

  pub second_place : (c : Connect) → e.sess < length xs → c ≡ get_or xs e.sess c → (e.side ≡ 0 → ⊥) → (end_at (map (session_of file) (map connect_of xs)) e).place ≡ body_named file.protocols c.second.protocol
  second_place c lt is side = place_so (Some c) (got xs e.sess c lt is) ∙ by e.side side
    where
      by : (s : ℕ) → (s ≡ 0 → ⊥) → (end_on s (session_of file (connect_of c))).place ≡ body_named file.protocols c.second.protocol
      by zero other = absurd (other refl)
      by (suc s) other = refl

  pub no_place : false ≡ nat_lt e.sess (length xs) → (end_at (map (session_of file) (map connect_of xs)) e).place ≡ done
  no_place past = place_so None (slice_get_past xs e.sess (ltb-false e.sess (length xs) (sym past)))
