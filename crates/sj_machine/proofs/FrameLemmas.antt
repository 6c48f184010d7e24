-- What leaving a statement does to what is to do, and to the room that is left.
use Rattle.std.proofs.Common.{◌≡◌, ℕ, suc, ◌+◌, ◌<◌, ◌≤◌, List, [], ◌∷◌, ◌++◌, length, get_or, Option, Some, None, refl, ap, sym, subst, ◌∙◌, arith}
use Rattle.sj_lang.specs.Code.{Code, no_stmt, stmt_then, at}
use Rattle.sj_semantics.specs.Program.{Thing, block}
use Rattle.sj_machine.specs.declared.arena.CodeNode.{CodeNode}
use Rattle.sj_machine.specs.declared.stack.Stage.TheVariants.{Fresh}
use Rattle.sj_machine.specs.declared.stack.StackFrame.{StackFrame}
use Rattle.sj_machine.specs.declared.stack.After.{After}
use Rattle.sj_machine.specs.declared.stack.After.TheVariants.{Past, Stays}
use Rattle.sj_machine.specs.Arena.{code_in, deed_in, node_code, codes_of, IsBelow, IsOpBelow, IsBackward}
use Rattle.sj_machine.specs.Frames.{entry_frames, frames_after, thing_at, staged, todo_from, todo_after, LeadsBelow, Fits}
use Rattle.sj_machine.proofs.ArenaLemmas.{node_code_of, backward_at}

-- ---- what is to do

pub todo_append : (codes : List Code) (fs gs : List StackFrame) (rest : List Thing) → todo_from codes (fs ++ gs) rest ≡ todo_from codes gs (todo_from codes fs rest)
todo_append codes [] gs rest = refl
todo_append codes (f ∷ fs) gs rest = todo_append codes fs gs (staged f.stage (code_in codes (Some f.at)) rest)

staged_fresh : (code : Code) (rest : List Thing) → staged Fresh code rest ≡ block code rest
staged_fresh no_stmt rest = refl
staged_fresh (stmt_then (at line deed) code) rest = refl

pub todo_entered : (codes : List Code) (b : Option ℕ) (rest : List Thing) → todo_from codes (entry_frames b) rest ≡ block (code_in codes b) rest
todo_entered codes None rest = refl
todo_entered codes (Some i) rest = staged_fresh (code_in codes (Some i)) rest

-- the statement of a frame, and what is after it
pub todo_top : (codes : List Code) (fs : List StackFrame) (f : StackFrame) (n : CodeNode) → code_in codes (Some f.at) ≡ node_code codes n
    → todo_from codes (fs ++ f ∷ []) [] ≡ thing_at f.stage (deed_in codes n.op) ∷ block (code_in codes n.next) (todo_from codes fs [])
todo_top codes fs f n e = todo_append codes fs (f ∷ []) [] ∙ ap (λ (c : Code). staged f.stage c (todo_from codes fs [])) e

todo_leave : (codes : List Code) (f : StackFrame) (n : CodeNode) (after : After) (rest : List Thing) → code_in codes (Some f.at) ≡ node_code codes n
    → todo_from codes (frames_after f n.next after) rest ≡ todo_after codes (deed_in codes n.op) after (block (code_in codes n.next) rest)
todo_leave codes f n (Past inside) rest e =
    todo_append codes (entry_frames n.next) (entry_frames inside) rest ∙ todo_entered codes inside (todo_from codes (entry_frames n.next) rest) ∙ ap (block (code_in codes inside)) (todo_entered codes n.next rest)
todo_leave codes f n (Stays stage inside) rest e =
    todo_entered codes inside (staged stage (code_in codes (Some f.at)) rest) ∙ ap (λ (c : Code). block (code_in codes inside) (staged stage c rest)) e

-- ---- room

pub fits_append : (size k : ℕ) (fs gs : List StackFrame) → Fits size k fs → Fits size (k + length fs) gs → Fits size k (fs ++ gs)
fits_append size k [] gs a b = let e : k + 0 ≡ k = omega arith in subst (λ (t : ℕ). Fits size t gs) e b
fits_append size k (f ∷ fs) gs a b =
    let e : k + suc (length fs) ≡ suc k + length fs = omega arith in
    (a.0, fits_append size (suc k) fs gs a.1 (subst (λ (t : ℕ). Fits size t gs) e b))

pub fits_split : (size k : ℕ) (fs gs : List StackFrame) → Fits size k (fs ++ gs) → Fits size k fs × Fits size (k + length fs) gs
fits_split size k [] gs a = let e : k ≡ k + 0 = omega arith in (tt, subst (λ (t : ℕ). Fits size t gs) e a)
fits_split size k (f ∷ fs) gs a =
    let e : suc k + length fs ≡ k + suc (length fs) = omega arith in
    let t = fits_split size (suc k) fs gs a.1 in
    ((a.0, t.0), subst (λ (t : ℕ). Fits size t gs) e t.1)

fits_entered : (size k i : ℕ) (b : Option ℕ) → k + i ≤ size → IsBelow i b → Fits size k (entry_frames b)
fits_entered size k i None l h = tt
fits_entered size k i (Some j) l h = (omega arith, tt)

length_entered : (b : Option ℕ) → length (entry_frames b) ≤ 1
length_entered None = omega arith
length_entered (Some i) = omega arith

fits_leave : (size k : ℕ) (f : StackFrame) (next : Option ℕ) (after : After) → k + f.at < size → IsBelow f.at next → LeadsBelow f.at after → Fits size k (frames_after f next after)
fits_leave size k f None (Past inside) l a b = fits_entered size k f.at inside (omega arith) b
fits_leave size k f (Some j) (Past inside) l a b = (omega arith, fits_entered size (suc k) f.at inside (omega arith) b)
fits_leave size k f next (Stays stage inside) l a b = (l, fits_entered size (suc k) f.at inside (omega arith) b)

pub fits_length : (size k : ℕ) (fs : List StackFrame) → k ≤ size → Fits size k fs → k + length fs ≤ size
fits_length size k [] l h = omega arith
fits_length size k (f ∷ fs) l h = let r = fits_length size (suc k) fs (let u = h.0 in omega arith) h.1 in omega arith

-- ---- a step

-- what is known of a frame that was taken off, and of its node
pub record Popped (nodes : List CodeNode) (fs : List StackFrame) (f : StackFrame) (n : CodeNode) : Type 0 where
  pub code : code_in (codes_of nodes) (Some f.at) ≡ node_code (codes_of nodes) n
  pub below : IsBelow f.at n.next
  pub inside : IsOpBelow f.at n.op
  pub rooms : length fs + f.at < length nodes
  pub fits : Fits (length nodes) 0 fs

pub frame_there : (nodes : List CodeNode) (old fs : List StackFrame) (f : StackFrame) → old ≡ fs ++ f ∷ [] → Fits (length nodes) 0 old → length fs + f.at < length nodes
frame_there nodes old fs f e h =
    let t = fits_split (length nodes) 0 fs (f ∷ []) (subst (Fits (length nodes) 0) e h) in
    let u = t.1.0 in omega arith

pub popped : (nodes : List CodeNode) (old fs : List StackFrame) (f : StackFrame) (n : CodeNode) → old ≡ fs ++ f ∷ [] → IsBackward 0 nodes → Fits (length nodes) 0 old → n ≡ get_or nodes f.at n → Popped nodes fs f n
popped nodes old fs f n e back h is =
    let t = fits_split (length nodes) 0 fs (f ∷ []) (subst (Fits (length nodes) 0) e h) in
    let lt = frame_there nodes old fs f e h in
    let b = backward_at nodes f.at n back (omega arith) is in
    record { code = node_code_of nodes f.at n back (omega arith) is; below = b.0; inside = b.1; rooms = lt; fits = t.0 }

pub top_is : (nodes : List CodeNode) (old fs : List StackFrame) (f : StackFrame) (n : CodeNode) → old ≡ fs ++ f ∷ [] → Popped nodes fs f n
    → todo_from (codes_of nodes) old [] ≡ thing_at f.stage (deed_in (codes_of nodes) n.op) ∷ block (code_in (codes_of nodes) n.next) (todo_from (codes_of nodes) fs [])
top_is nodes old fs f n e p = ap (λ (t : List StackFrame). todo_from (codes_of nodes) t []) e ∙ todo_top (codes_of nodes) fs f n p.code

pub left_is : (nodes : List CodeNode) (new fs : List StackFrame) (f : StackFrame) (n : CodeNode) (after : After) → new ≡ fs ++ frames_after f n.next after → Popped nodes fs f n
    → todo_from (codes_of nodes) new [] ≡ todo_after (codes_of nodes) (deed_in (codes_of nodes) n.op) after (block (code_in (codes_of nodes) n.next) (todo_from (codes_of nodes) fs []))
left_is nodes new fs f n after e p =
    ap (λ (t : List StackFrame). todo_from (codes_of nodes) t []) e ∙ todo_append (codes_of nodes) fs (frames_after f n.next after) [] ∙ todo_leave (codes_of nodes) f n after (todo_from (codes_of nodes) fs []) p.code

pub left_fits : (nodes : List CodeNode) (new fs : List StackFrame) (f : StackFrame) (n : CodeNode) (after : After) → new ≡ fs ++ frames_after f n.next after → Popped nodes fs f n → LeadsBelow f.at after → Fits (length nodes) 0 new
left_fits nodes new fs f n after e p below =
    subst (Fits (length nodes) 0) (sym e) (fits_append (length nodes) 0 fs (frames_after f n.next after) p.fits (fits_leave (length nodes) (0 + length fs) f n.next after (let u = p.rooms in omega arith) p.below below))

pub leave_room : (nodes : List CodeNode) (fs : List StackFrame) (f : StackFrame) (n : CodeNode) (room : ℕ) → Popped nodes fs f n → length nodes < room → length fs + 1 < room
leave_room nodes fs f n room p lt = let u = p.rooms in omega arith

pub fits_first : (size : ℕ) (new old : List StackFrame) (b : Option ℕ) → new ≡ old ++ entry_frames b → old ≡ [] → IsBelow size b → Fits size 0 new
fits_first size new old b e none h = subst (Fits size 0) (sym (e ∙ ap (λ (t : List StackFrame). t ++ entry_frames b) none)) (first b h)
  where
    first : (b : Option ℕ) → IsBelow size b → Fits size 0 (entry_frames b)
    first None h = tt
    first (Some i) h = (omega arith, tt)

pub todo_first : (codes : List Code) (new old : List StackFrame) (b : Option ℕ) → new ≡ old ++ entry_frames b → old ≡ [] → todo_from codes new [] ≡ block (code_in codes b) []
todo_first codes new old b e none = ap (λ (t : List StackFrame). todo_from codes t []) (e ∙ ap (λ (t : List StackFrame). t ++ entry_frames b) none) ∙ todo_entered codes b []
