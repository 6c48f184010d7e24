-- Each move keeps a talk world guarded.
use Rattle.std.proofs.Common.{◌≡◌, ℕ, ◌<◌, List, [], ◌∷◌, ◌++◌, map, length, Option, Some, None, option_map, option_and_then, refl, ap, sym, ◌∙◌, subst, inl, inr, Result, Ok, Err, OnOk, OnErr}
use Rattle.sj_lang.specs.FileAt.{FileAt}
use Rattle.sj_acceptance.specs.Accepted.{IsAccepted}
use Rattle.sj_semantics.specs.Balanced.{IsBalanced}
use Rattle.sj_semantics.specs.Run.{after_acts}
use Rattle.sj_semantics.specs.World.{World, act_of}
use Rattle.sj_semantics_laws.proofs.RunLemmas.{between}
use Rattle.sj_headline_laws.proofs.AcceptedLemmas.{next_fits, sound_is_balanced}
use Rattle.sj_talk.specs.Doing.{IsUnsaid, after_line, with_text_of}
use Rattle.sj_talk.specs.Moves.{GoesOn, IsServed, IsTalk, Move, acts, after_move, after_moves, notes, says}
use Rattle.sj_talk.specs.TalkWorld.{OnlyOthers, TalkWorld, others_acted, talk_start, with_world}
use Rattle.sj_talk.proofs.GuardLemmas.{Guarded, act_keeps_guarded}
use Rattle.sj_talk.proofs.SafeLemmas.{line_guarded, start_guarded, texts_guarded}
use Rattle.sj_talk.proofs.SettledLemmas.{settled_leads}

-- the talk world between two moves
record Middle (k : TalkWorld → Option TalkWorld) (o : Option TalkWorld) (v : TalkWorld) : Type 0 where
  world : TalkWorld
  before : o ≡ Some world
  afterwards : k world ≡ Some v

middle : (k : TalkWorld → Option TalkWorld) (o : Option TalkWorld) (v : TalkWorld) → option_and_then k o ≡ Some v → Middle k o v
middle k None v h = cc
middle k (Some u) v h = record { world = u; before = refl; afterwards = h }

-- ---- what is guarded stays so

acted : (file : FileAt) (t u : TalkWorld) (q : ℕ) (o : Option World) → Guarded file t → act_of t.world q ≡ o → option_map (with_world t) o ≡ Some u → Guarded file u
acted file t u q None g at h = cc
acted file t u q (Some v) g at h = subst (Guarded file) (let it : with_world t v ≡ u = cc in it) (act_keeps_guarded file t v q g at)

move_guarded : (file : FileAt) (t u : TalkWorld) (m : Move) → Guarded file t → after_move t m ≡ Some u → Guarded file u
move_guarded file t u (acts q) g h = acted file t u q (act_of t.world q) g refl h
move_guarded file t u (says line) g h = subst (Guarded file) (let it : after_line t line ≡ u = cc in it) (line_guarded file t line g)
move_guarded file t u (notes line) g h = subst (Guarded file) (let it : with_text_of t line ≡ u = cc in it) (texts_guarded file t (after_line t line).file.texts g)

moves_guarded : (file : FileAt) (t u : TalkWorld) (ms : List Move) → Guarded file t → after_moves t ms ≡ Some u → Guarded file u
moves_guarded file t u [] g h = subst (Guarded file) (let it : t ≡ u = cc in it) g
moves_guarded file t u (m ∷ ms) g h =
    let b = middle (λ x. after_moves x ms) (after_move t m) u h in
    moves_guarded file b.world u ms (move_guarded file t b.world m g b.before) b.afterwards

pub talk_guarded : (file : FileAt) (p : ℕ) (ms : List Move) (t : TalkWorld) → IsAccepted file → p < length file.parties → IsTalk file p ms t → Guarded file t
talk_guarded file p ms t accepted there h = moves_guarded file (talk_start file p) t ms (start_guarded file p accepted there) h

pub talk_balanced : (file : FileAt) (p : ℕ) (ms : List Move) (t : TalkWorld) → IsAccepted file → p < length file.parties → IsTalk file p ms t → (s : ℕ) → IsBalanced t.world.sessions s
talk_balanced file p ms t accepted there h s = sound_is_balanced file t.world s (talk_guarded file p ms t accepted there h).sound

pub talk_serves : (file : FileAt) (p : ℕ) (ms : List Move) (t : TalkWorld) → IsAccepted file → p < length file.parties → IsTalk file p ms t → IsServed t.world
talk_serves file p ms t accepted there h = λ q g e a x at want next. next_fits file t.world q g e a x (talk_guarded file p ms t accepted there h).sound at want next

-- ---- what the calls do are moves

moves_then : (t u v : TalkWorld) (ms ns : List Move) → after_moves t ms ≡ Some u → after_moves u ns ≡ Some v → after_moves t (ms ++ ns) ≡ Some v
moves_then t u v [] ns h on = subst (λ (x : TalkWorld). after_moves x ns ≡ Some v) (let it : u ≡ t = cc in it) on
moves_then t u v (m ∷ ms) ns h on =
    let b = middle (λ x. after_moves x ms) (after_move t m) u h in
    ap (option_and_then (λ x. after_moves x (ms ++ ns))) b.before ∙ moves_then b.world u v ms ns b.afterwards on

pub goes_same : (t : TalkWorld) → GoesOn t t
goes_same t = record { moves = []; leads = refl }

pub goes_then : (t u v : TalkWorld) → GoesOn t u → GoesOn u v → GoesOn t v
goes_then t u v a b = record { moves = a.moves ++ b.moves; leads = moves_then t u v a.moves b.moves a.leads b.leads }

-- acts of the others, and then other moves
acts_lead : (t u : TalkWorld) (v : World) (ps : List ℕ) (ms : List Move) → after_acts t.world ps ≡ Some v → after_moves (with_world t v) ms ≡ Some u → after_moves t (map acts ps ++ ms) ≡ Some u
acts_lead t u v [] ms h on = subst (λ (w : World). after_moves (with_world t w) ms ≡ Some u) (let it : v ≡ t.world = cc in it) on
acts_lead t u v (p ∷ ps) ms h on =
    let b = between (λ x. after_acts x ps) (act_of t.world p) v h in
    ap (λ o. option_and_then (λ x. after_moves x (map acts ps ++ ms)) (option_map (with_world t) o)) b.before
    ∙ acts_lead (with_world t b.world) u v ps ms b.afterwards on

pub goes_by_others : (t : TalkWorld) → GoesOn t (others_acted t)
goes_by_others t = let l = settled_leads t.world in record { moves = map acts l.acts ++ []; leads = acts_lead t (others_acted t) _ l.acts [] l.leads refl }

-- the others' acts, and then one move
acts_and : (t u : TalkWorld) (m : Move) → after_move (others_acted t) m ≡ Some u → GoesOn t u
acts_and t u m h =
    let l = settled_leads t.world in
    record { moves = map acts l.acts ++ m ∷ []; leads = acts_lead t u _ l.acts (m ∷ []) l.leads (ap (option_and_then (λ v. after_moves v [])) h) }

pub goes_by_line : (t : TalkWorld) (line : List ℕ) → GoesOn t (after_line (others_acted t) line)
goes_by_line t line = acts_and t (after_line (others_acted t) line) (says line) refl

pub goes_by_some : (t u : TalkWorld) → OnlyOthers t u → GoesOn t u
goes_by_some t u o = record { moves = map acts o.acts ++ []; leads = acts_lead t u u.world o.acts [] o.leads (ap Some (sym o.rest)) }

pub goes_unsaid : (t u : TalkWorld) (line : List ℕ) → IsUnsaid t line u → GoesOn t u
goes_unsaid t u line (inl o) = goes_by_some t u o
goes_unsaid t u line (inr noted) = acts_and t u (notes line) (ap Some (sym noted))

-- whatever a call answers
pub goes_on : {X E : Type 0} {P : Type 0} (r : Result X E) (t u v : TalkWorld) → GoesOn t v → (P → GoesOn t u) → OnOk r (u ≡ v) → OnErr r P → GoesOn t u
goes_on (Ok x) t u v on else ok err = subst (GoesOn t) (sym ok) on
goes_on (Err e) t u v on else ok err = else err
