-- A line that is read, and what is then written.
use Rattle.std.proofs.Common.{◌≡◌, ◌+◌, ℕ, List, option_map, refl, ap, sym, subst, ◌∙◌}
use Rattle.std.specs.Prelude.{Option, Result, Ok, Err, IfOk, OnOk}
use Rattle.sj_seat.specs.declared.ask.Ask.{Ask}
use Rattle.sj_seat_lines.specs.Forms.{most_line}
use Rattle.sj_seat_lines.specs.Heard.{HeardAt, came}
use Rattle.sj_seat_lines.specs.Lines.{IsAnswered, LinesAt, after_heard, asks_by, heard_in, line_heard}
use Rattle.sj_seat_lines.specs.Party.{AskAt, SeatAt, ask_at}
use Rattle.sj_seat_lines.specs.Reading.{IsNextLine}
use Rattle.sj_seat_lines.specs.declared.lines.Ended.{Ended}

left_is : (left written : Option (List ℕ)) (h : HeardAt) → (after_heard left written h).left ≡ left
left_is left written (came h t p) = refl

-- v is what is there after the read
module _ (s : SeatAt) (w v : LinesAt) (line : List ℕ) (read : IsNextLine (most_line + 1) w.left line v.left) (party : v.party ≡ w.party) (written : v.written ≡ w.written) where
  answered : (new : LinesAt) (a : Option AskAt) → new ≡ heard_in v (line_heard v.party s line) → a ≡ asks_by (line_heard v.party s line) → IsAnswered s w line a new
  answered new a e f =
      let left : new.left ≡ v.left = ap (λ (x : LinesAt). x.left) e ∙ left_is v.left v.written (line_heard v.party s line) in
      record {
        read = subst (λ (l : Option (List ℕ)). IsNextLine (most_line + 1) w.left line l) (sym left) read;
        heard = e ∙ ap (λ p. after_heard v.left v.written (line_heard p s line)) party
            ∙ ap (λ o. after_heard v.left o (line_heard w.party s line)) written
            ∙ ap (λ l. after_heard l w.written (line_heard w.party s line)) (sym left);
        asks = f ∙ ap (λ p. asks_by (line_heard p s line)) party;
      }

  pub answered_ok : (new : LinesAt) (r : Result (Option Ask) Ended) → OnOk r (new ≡ heard_in v (line_heard v.party s line)) → IfOk r (λ a. option_map ask_at a ≡ asks_by (line_heard v.party s line))
      → IfOk r (λ a. (l : List ℕ) × IsAnswered s w l (option_map ask_at a) new)
  answered_ok new (Ok a) e f = (line, answered new (option_map ask_at a) e f)
  answered_ok new (Err x) e f = tt
