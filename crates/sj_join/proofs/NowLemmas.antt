-- Where the parties of a world are, one after another.
use Rattle.std.proofs.Common.{◌≡◌, ◌∙◌, ◌<◌, ◌≤◌, ◌+◌, ◌-◌, ◌||◌, ℕ, zero, suc, Bool, true, false, List, [], ◌∷◌, ◌++◌, Option, Some, ap, append-nil, append_assoc, arith, codes, decimal, drop, get_or, length, length-append, map, option_map, refl, sym, take}
use Rattle.std.proofs.Math.ListN.{drop_of_length-le}
use Rattle.std.specs.List.{list_any}
use Rattle.std.specs.Prelude.{slice_get}
use Rattle.sj_lang.specs.FileAt.{FileAt, PartyAt}
use Rattle.sj_lang.specs.FileView.{party_of}
use Rattle.sj_lang.specs.declared.file.Party.{Party}
use Rattle.sj_print.proofs.PartLemmas.{get_map, open_at, party_step}
use Rattle.sj_print.specs.Parts.{party_part}
use Rattle.sj_semantics.specs.Lines.{name_if, name_of, word_at}
use Rattle.sj_semantics.specs.Program.{Program}
use Rattle.sj_semantics.specs.State.{state_if, state_of_program, states_from}
use Rattle.sj_semantics.specs.Transcript.{party_lines}
use Rattle.sj_semantics.specs.World.{World}
use Rattle.sj_semantics.specs.declared.Limit.TheVariants as limits
use Rattle.sj_semantics.specs.declared.State.{State}
use Rattle.sj_semantics.specs.declared.State.TheVariants as states
use Rattle.sj_join.specs.Now.{is_ready, place_lines}
use Rattle.sj_join.specs.Places.{end_part, place_line, told_line}

-- what is there at that index
record Here {X : Type 0} (xs : List X) (i : ℕ) : Type 0 where
  item : X
  is : slice_get xs i ≡ Some item

here : {X : Type 0} (xs : List X) (i : ℕ) → i < length xs → Here xs i
here [] i h = absurd (omega arith)
here (x ∷ xs) zero h = record { item = x; is = refl }
here (x ∷ xs) (suc i) h = let r = here xs i (omega arith) in record { item = r.item; is = r.is }

module _ (w : World) (i : ℕ) where
  same_steps : (steps : ℕ) (o : Option Program) (g : Program) → o ≡ Some g → option_map (λ h. h.steps) o ≡ Some steps → g.steps ≡ steps
  same_steps steps o g e s = cc

  same_state : (state : State) (o : Option Program) (g : Program) → o ≡ Some g → state ≡ state_if w i o → state_of_program w i g ≡ state
  same_state state o g e t = sym (t ∙ ap (state_if w i) e)

-- parts one after another
two_parts : (f h s nl : List ℕ) → f ++ (h ++ s) ++ nl ≡ f ++ (h ++ (s ++ nl))
two_parts f h s nl = simp append_assoc refl

three_parts : (f h s r nl : List ℕ) → f ++ (h ++ s ++ r) ++ nl ≡ f ++ (h ++ (s ++ (r ++ nl)))
three_parts f h s r nl = simp append_assoc refl

four_parts : (f h s m q nl : List ℕ) → f ++ (h ++ s ++ m ++ q) ++ nl ≡ f ++ (h ++ (s ++ (m ++ (q ++ nl))))
four_parts f h s m q nl = simp append_assoc refl

end_parts : (f h s sp x dot y nl : List ℕ) → f ++ (h ++ s ++ (sp ++ x ++ dot ++ y)) ++ nl ≡ f ++ (h ++ (s ++ (sp ++ ((x ++ (dot ++ y)) ++ nl))))
end_parts f h s sp x dot y nl = simp append_assoc refl

-- what comes after the name in a line of a transcript
module _ (file : FileAt) (p name : ℕ) (named : name_of file p ≡ word_at file.words name) where
  after_name : (t u : List ℕ) → ((f : List ℕ) → f ++ t ++ codes "\n" ≡ f ++ u) → codes "party " ++ name_of file p ++ t ++ codes "\n" ≡ codes "party " ++ (word_at file.words name ++ u)
  after_name t u parts =
      ap (λ (n : List ℕ). codes "party " ++ n ++ t ++ codes "\n") named ∙ parts (codes "party " ++ word_at file.words name) ∙ append_assoc (codes "party ") (word_at file.words name) u

  told_is : (steps : ℕ) (state : State) → told_line file p steps state ≡ party_part file name steps state
  told_is steps states.Ready = after_name (codes "") (codes "\n") (λ f. append_assoc f (codes "") (codes "\n"))
  told_is steps states.Ended = after_name (codes " ended " ++ decimal steps) (codes " ended " ++ (decimal steps ++ codes "\n")) (λ f. two_parts f (codes " ended ") (decimal steps) (codes "\n"))
  told_is steps (states.Waits e) =
      after_name (codes " waits " ++ decimal steps ++ end_part e) (codes " waits " ++ (decimal steps ++ (codes " " ++ ((decimal e.sess ++ (codes "." ++ decimal e.side)) ++ codes "\n"))))
      (λ f. end_parts f (codes " waits ") (decimal steps) (codes " ") (decimal e.sess) (codes ".") (decimal e.side) (codes "\n"))
  told_is steps (states.WaitsOpen q) =
      after_name (codes " waits " ++ decimal steps ++ codes " from " ++ name_of file q) (codes " waits " ++ (decimal steps ++ (codes " from " ++ (name_of file q ++ codes "\n"))))
      (λ f. four_parts f (codes " waits ") (decimal steps) (codes " from ") (name_of file q) (codes "\n"))
  told_is steps (states.AtLimit limits.Steps) =
      after_name (codes " limit " ++ decimal steps ++ codes "") (codes " limit " ++ (decimal steps ++ codes "\n")) (λ f. three_parts f (codes " limit ") (decimal steps) (codes "") (codes "\n"))
  told_is steps (states.AtLimit (limits.Hops e)) =
      after_name (codes " limit " ++ decimal steps ++ end_part e) (codes " limit " ++ (decimal steps ++ (codes " " ++ ((decimal e.sess ++ (codes "." ++ decimal e.side)) ++ codes "\n"))))
      (λ f. end_parts f (codes " limit ") (decimal steps) (codes " ") (decimal e.sess) (codes ".") (decimal e.side) (codes "\n"))
  told_is steps (states.AtLimit limits.Requests) =
      after_name (codes " limit " ++ decimal steps ++ codes " request") (codes " limit " ++ (decimal steps ++ (codes " request" ++ codes "\n")))
      (λ f. three_parts f (codes " limit ") (decimal steps) (codes " request") (codes "\n"))

module _ (file : FileAt) (w : World) (qs : List Party) (gs : List Program) (i steps : ℕ) (state : State) (these : file.parties ≡ map party_of qs) (h : i < length qs) (k : i < length gs)
    (s : option_map (λ g. g.steps) (slice_get gs i) ≡ Some steps) (t : state ≡ state_if w i (slice_get gs i)) where
  q : Party
  q = (here qs i h).item

  named : name_of file i ≡ word_at file.words (get_or qs i q).name
  named = ap (λ (ps : List PartyAt). name_if file i (slice_get ps i)) these ∙ ap (name_if file i) (get_map party_of qs i q h)

  -- the line of the next party is ahead, as a transcript has it
  pub told_step : party_lines file w i (drop i (map party_of qs)) (drop i gs) ≡ told_line file i steps state ++ party_lines file w (i + 1) (drop (i + 1) (map party_of qs)) (drop (i + 1) gs)
  told_step =
      party_step file w qs gs i q steps state h k s t
      ∙ ap (λ (l : List ℕ). l ++ party_lines file w (i + 1) (drop (i + 1) (map party_of qs)) (drop (i + 1) gs)) (sym (told_is file i (get_or qs i q).name named steps state))

  -- and where it is
  pub place_step : place_lines file w i (drop i (map party_of qs)) (drop i gs) ≡ place_line file i steps state ++ place_lines file w (i + 1) (drop (i + 1) (map party_of qs)) (drop (i + 1) gs)
  place_step =
      let g : Here gs i = here gs i k in
      (λ j. place_lines file w i (open_at (map party_of qs) i _ (get_map party_of qs i q h) j) (open_at gs i g.item g.is j))
      ∙ (λ j. place_line file i (same_steps w i steps (slice_get gs i) g.item g.is s j) (same_state w i state (slice_get gs i) g.item g.is t j) ++ place_lines file w (i + 1) (drop (i + 1) (map party_of qs)) (drop (i + 1) gs))

-- whether it can act, or one after it
pub ready_step : (w : World) (gs : List Program) (i : ℕ) (state : State) → i < length gs → state ≡ state_if w i (slice_get gs i)
    → list_any is_ready (states_from w i (drop i gs)) ≡ list_any is_ready (state ∷ states_from w (i + 1) (drop (i + 1) gs))
ready_step w gs i state k t =
    let g : Here gs i = here gs i k in
    ap (λ (hs : List Program). list_any is_ready (states_from w i hs)) (open_at gs i g.item g.is)
    ∙ ap (λ (s : State). list_any is_ready (s ∷ states_from w (i + 1) (drop (i + 1) gs))) (same_state w i state (slice_get gs i) g.item g.is t)

pub none_ready : (w : World) (gs : List Program) (i : ℕ) → length gs ≤ i → list_any is_ready (states_from w i (drop i gs)) ≡ list_any is_ready []
none_ready w gs i le = ap (λ (hs : List Program). list_any is_ready (states_from w i hs)) (drop_of_length-le gs le)

-- one line more
pub more_text : (whole text all line ahead new : List ℕ) → whole ≡ text ++ all → all ≡ line ++ ahead → new ≡ text ++ line → whole ≡ new ++ ahead
more_text whole text all line ahead new so_far step put = so_far ∙ ap (λ (l : List ℕ). text ++ l) step ∙ sym (append_assoc text line ahead) ∙ ap (λ (l : List ℕ). l ++ ahead) (sym put)

pub told_end : (file : FileAt) (w : World) (qs : List PartyAt) (gs : List Program) (i : ℕ) (text : List ℕ) → length qs ≤ i → text ++ party_lines file w i (drop i qs) gs ≡ text
told_end file w qs gs i text le = ap (λ (ps : List PartyAt). text ++ party_lines file w i ps gs) (drop_of_length-le qs le) ∙ append-nil text

pub place_end : (file : FileAt) (w : World) (qs : List PartyAt) (gs : List Program) (i : ℕ) (text : List ℕ) → length qs ≤ i → text ++ place_lines file w i (drop i qs) gs ≡ text
place_end file w qs gs i text le = ap (λ (ps : List PartyAt). text ++ place_lines file w i ps gs) (drop_of_length-le qs le) ∙ append-nil text

pub any_first : (a b : Bool) → a ≡ true → (a || b) ≡ true
any_first a b is = ap (λ (x : Bool). x || b) is

pub any_later : (a b : Bool) → a ≡ false → (a || b) ≡ b
any_later a b is = ap (λ (x : Bool). x || b) is

add-sub : (a b : ℕ) → a + b - b ≡ a
add-sub a b = omega arith

take-append-length : (xs ys : List ℕ) → take (length xs) (xs ++ ys) ≡ xs
take-append-length [] ys = refl
take-append-length (x ∷ xs) ys = ap (λ (l : List ℕ). x ∷ l) (take-append-length xs ys)

-- where the last bytes are cut off
pub cut_is : (text front last : List ℕ) → text ≡ front ++ last → take (length text - length last) text ≡ front
cut_is text front last is =
    ap (λ (t : List ℕ). take (length t - length last) t) is
    ∙ ap (λ (n : ℕ). take n (front ++ last)) (ap (λ (n : ℕ). n - length last) (length-append front last) ∙ add-sub (length front) (length last))
    ∙ take-append-length front last

-- the last lines of a transcript
pub last_is : (parties verdict none some all : List ℕ) → none ≡ [] → some ≡ none ++ parties → all ≡ some ++ verdict → all ≡ parties ++ verdict
last_is parties verdict none some all empty put ends = ends ∙ ap (λ (t : List ℕ). t ++ verdict) (put ∙ ap (λ (t : List ℕ). t ++ parties) empty)

pub whole_text : (old sessions parties verdict new last : List ℕ) → new ≡ old ++ (sessions ++ parties ++ verdict) → last ≡ parties ++ verdict → new ≡ old ++ sessions ++ last
whole_text old sessions parties verdict new last put is =
    put ∙ ap (λ (t : List ℕ). old ++ t) (append_assoc sessions parties verdict) ∙ sym (append_assoc old sessions (parties ++ verdict)) ∙ ap (λ (t : List ℕ). old ++ sessions ++ t) (sym is)
