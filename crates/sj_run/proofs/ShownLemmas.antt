-- What links show of joined lines, from what each worker's own links show.
use Rattle.std.proofs.Common.{◌≡◌, ◌⊎◌, ◌∙◌, ℕ, ◌<◌, max, List, [], ◌++◌, map, length, Some, None, inl, inr, sym, ap, subst}
use Rattle.std.proofs.lemmas.List.{append-nil}
use Rattle.sj_lang.specs.Place.{Place, done}
use Rattle.sj_lang.specs.FileAt.{FileAt}
use Rattle.sj_semantics.specs.Program.{Program}
use Rattle.sj_rules.specs.Frames.{FrameAt}
use Rattle.sj_rules.specs.Halts.{Halt, halt_of}
use Rattle.sj_rules.specs.Joined.{IsJoinedRun, WorkerAt}
use Rattle.sj_rules.specs.Log.{LineAt, body_note}
use Rattle.sj_rules.specs.Node.{NodeAt, acts}
use Rattle.sj_rules.specs.Party.{play_of}
use Rattle.sj_rules.specs.Start.{core_start}
use Rattle.sj_rules.specs.World.{WorldAt}
use Rattle.sj_work.specs.Counts.{RoseBy}
use Rattle.sj_run.specs.Shown.{IsShown, IsWaiting, LinksAt, posted_frames}

-- why a party has nothing to do, and what its lanes show of it
pub record IsAtRest (file : FileAt) (looks : ℕ) (p : ℕ) (w : WorkerAt Place Program) (vain_out vain_in : ℕ → ℕ) : Type 0 where
  pub still : acts (play_of file) p w.node ≡ None
  pub halted : (cause : Halt) × (halt_of (play_of file) w.node ≡ Some cause)
  pub emptied : (q : ℕ) → q < length file.parties → (w.box q ≡ []) ⊎ ((0 < vain_out q) ⊎ (looks ≡ 0))
  pub looked : (q : ℕ) → q < length file.parties → IsWaiting (halt_of (play_of file) w.node) → RoseBy looks 0 (vain_in q)

module _ (file : FileAt) (looks : ℕ) (links : LinksAt) (workers : ℕ → WorkerAt Place Program) (lost : ℕ → ℕ → List (FrameAt Place)) (lines : List LineAt) (core : WorldAt Place Program)
    (joined : IsJoinedRun (play_of file) max done (length file.parties) (core_start file) workers lost lines core)
    (none : (p q : ℕ) → q < length file.parties → lost q p ≡ [])
    (sent : (p q : ℕ) → p < length file.parties → q < length file.parties → (workers p).pushed q ≡ links.sent p q)
    (got : (p q : ℕ) → p < length file.parties → q < length file.parties → (workers q).popped p ≡ links.got p q)
    (rests : (p : ℕ) → p < length file.parties → IsAtRest file looks p (workers p) (λ q. links.vain_out p q) (λ q. links.vain_in q p)) where
  -- what p pushed, and then its outbox
  all_posted : (p q : ℕ) → p < length file.parties → q < length file.parties → posted_frames file p q lines ≡ links.sent p q ++ (workers p).box q
  all_posted p q lt mt = joined.posts p q lt ∙ ap (λ fs. fs ++ (workers p).box q) (sent p q lt mt)

  whole : (p q : ℕ) (box : List (FrameAt Place)) → posted_frames file p q lines ≡ links.sent p q ++ box → (box ≡ []) ⊎ ((0 < links.vain_out p q) ⊎ (looks ≡ 0))
      → (links.sent p q ≡ posted_frames file p q lines) ⊎ ((0 < links.vain_out p q) ⊎ (looks ≡ 0))
  whole p q box is (inl none) = inl (sym (is ∙ ap (λ fs. links.sent p q ++ fs) none ∙ append-nil (links.sent p q)))
  whole p q box is (inr vain) = inr vain

  pub joined_shown : IsShown file looks links lines core
  joined_shown = record {
    popped = λ p q lt mt. joined.noted p q mt (none p q mt) ∙ ap (map (λ f. body_note f.body)) (got p q lt mt);
    pushed = λ p q lt mt. ((workers p).box q, sym (all_posted p q lt mt));
    all = λ p q lt mt. whole p q ((workers p).box q) (all_posted p q lt mt) ((rests p lt).emptied q mt);
    still = λ p lt. ap (acts (play_of file) p) (joined.nodes p lt) ∙ (rests p lt).still;
    halted = λ p lt. let h = (rests p lt).halted in (h.0, ap (halt_of (play_of file)) (joined.nodes p lt) ∙ h.1);
    looked = λ p q lt mt waits.
        (rests q mt).looked p lt (subst (λ (n : NodeAt Place Program). IsWaiting (halt_of (play_of file) n)) (joined.nodes q mt) waits);
  }
