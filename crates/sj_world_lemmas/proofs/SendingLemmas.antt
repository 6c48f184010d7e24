-- A delivery by a row that sends frames.
use Rattle.std.proofs.Common.{◌≡◌, ℕ, ◌+◌, ◌<◌, List, ◌∷◌, max}
use Rattle.std.specs.Prelude.{Some}
use Rattle.sj_base.specs.declared.EndId.{EndId}
use Rattle.sj_rules.specs.Record.{Mail, other_end}
use Rattle.sj_rules.specs.Node.{Play, NodeAt, comes}
use Rattle.sj_rules.specs.Frames.{FrameAt}
use Rattle.sj_rules.specs.World.{WorldAt}
use Rattle.sj_rules.specs.Seat.{Seat, Side}
use Rattle.sj_rules.specs.Shown.{Shows}
use Rattle.sj_rules.specs.PlainSide.{PlainSide}
use Rattle.sj_rules.specs.Numbers.{Pace}
use Rattle.sj_rules.specs.Invariant.{IsSound}
use Rattle.sj_rules.specs.Linked.{subject_of}
use Rattle.sj_world_lemmas.proofs.TableLemmas.{with_tables}
use Rattle.sj_world_lemmas.proofs.PopLemmas.{popped}
use Rattle.sj_world_lemmas.proofs.PostLemmas.{with_posts, AreMails}
use Rattle.sj_world_lemmas.proofs.EventLemmas.{is_step, IsAlike, Delivered, programs_after, apart_after, proper_after}
use Rattle.sj_world_lemmas.proofs.QuietLemmas.{IsOwn}

module _ {P Q : Type 0} (IsOver : P → Type 0) (play : Play P Q) (pick : ℕ → ℕ → ℕ) (w : WorldAt P Q) (q at : ℕ) (f : FrameAt P) (rest : List (FrameAt P)) (front : w.lanes q at ≡ f ∷ rest)
    (id : EndId) (low : id.side < 2) (about : subject_of f.body ≡ id) (n : NodeAt P Q) (own : IsOwn id (w.nodes at) n) (posts : List (Mail P))
    (row : comes pick (w.nodes at) q f.body ≡ Some (record { state = n; posts = posts }))
    (ours : AreMails (λ k. (subject_of k).sess ≡ id.sess) posts) (below : AreMails (λ k. (subject_of k).side < 2) posts)
    (x y : PlainSide P) (seat_s seat_r : Seat P) where
  -- the delivery, from what is then shown
  pub delivers : (pace : Pace) (s r : Side P) → r.id ≡ id → s.id ≡ other_end id → IsSound IsOver pace x y s r →
      Shows (with_posts (with_tables (popped w q at rest) at (max (w.nodes at).clock f.clock + 1) n) at (max (w.nodes at).clock f.clock + 1) posts) s.seat r →
      Shows (with_posts (with_tables (popped w q at rest) at (max (w.nodes at).clock f.clock + 1) n) at (max (w.nodes at).clock f.clock + 1) posts) r.seat s →
      IsAlike seat_r r.seat → IsAlike seat_s s.seat → Delivered IsOver play pick w q at id x y seat_s seat_r
  delivers pace s r r_name s_name sound shows shown alike other_alike =
      let clock : ℕ = max (w.nodes at).clock f.clock + 1 in
      record {
        to = with_posts (with_tables (popped w q at rest) at clock n) at clock posts;
        step = is_step play pick w q at f rest (record { state = n; posts = posts }) front row;
        programs = programs_after (popped w q at rest) at clock n own.program;
        pace = pace;
        other = s;
        side = r;
        outcome = record {
          name = r_name;
          other = s_name;
          shows = shows;
          shown = shown;
          sound = sound;
          apart = apart_after w q at f rest front clock n posts id low about own.mains own.olds ours;
          proper = proper_after w q at f rest front clock n posts id low about own.mains own.olds below;
        };
        alike = alike;
        other_alike = other_alike;
      }
