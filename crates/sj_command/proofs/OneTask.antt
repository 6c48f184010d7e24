-- Words ask for one task.
use Rattle.std.proofs.Common.{◌≡◌, ◌∙◌, ◌⊎◌, ◌≤◌, ℕ, Bool, List, Option, Some, None, ap, ap₂, sym, refl, arith, inl, inr}
use Rattle.std.specs.Prelude.{codes, decimal, true, false}
use Rattle.std.specs.Str.{bytes_eq}
use Rattle.std.proofs.lemmas.Fmt.{decimal_injective}
use Rattle.clap.specs.Words.{Text}
use Rattle.sj_command.specs.declared.tasks.Task.{Task}
use Rattle.sj_command.specs.declared.tasks.Task.TheVariants.{Check, Show, Forest, Sim, Run, Forward, Replay, Talk, Make, Big}
use Rattle.sj_command.specs.Task.{Asks, ArgumentsAt, Means, StandsForLooks, StandsForWorkers, flag_text, forwarding, most_looks, most_messages}

-- the name of a task's command
abbrev name_of : Task → Text
name_of Check = codes "check"
name_of Show = codes "show"
name_of Forest = codes "forest"
name_of Sim = codes "sim"
name_of (Run log looks workers) = codes "run"
name_of Forward = codes "run"
name_of (Replay log) = codes "replay"
name_of (Talk n) = codes "talk"
name_of (Make n) = codes "make"
name_of (Big n) = codes "big"

-- a line that asks for a task has its name
named : (l : ArgumentsAt) (t : Task) → Means l t → l.command ≡ Some (name_of t)
named l Check m = ap (λ k. k.command) m
named l Show m = ap (λ k. k.command) m
named l Forest m = ap (λ k. k.command) m
named l Sim m = ap (λ k. k.command) m
named l (Run log looks workers) m = ap (λ k. k.command) m.0
named l Forward m = ap (λ k. k.command) m
named l (Replay log) m = ap (λ k. k.command) m
named l (Talk n) m = ap (λ k. k.command) m.0
named l (Make n) m = ap (λ k. k.command) m.0
named l (Big n) m = ap (λ k. k.command) m.0

-- names that differ are not those of one line
differ : (l : ArgumentsAt) (x y : Text) → bytes_eq x y ≡ false → bytes_eq x x ≡ true → l.command ≡ Some x → l.command ≡ Some y → ⊥
differ l x y off same e d =
    let both : Some x ≡ Some y = sym e ∙ d in
    let one : x ≡ y = cc in
    let bad : true ≡ false = sym same ∙ ap (bytes_eq x) one ∙ off in
    cc

apart : (l : ArgumentsAt) (t u : Task) → bytes_eq (name_of t) (name_of u) ≡ false → bytes_eq (name_of t) (name_of t) ≡ true → Means l t → Means l u → ⊥
apart l t u off same m n = differ l (name_of t) (name_of u) off same (named l t m) (named l u n)

-- the two texts of a flag differ
pub flags_differ : Some (codes "false") ≡ Some (codes "true") → ⊥
flags_differ e =
    let one : codes "false" ≡ codes "true" = cc in
    let bad : true ≡ false = ap (bytes_eq (codes "false")) one in
    cc

-- a line has the flag or not
one_flag : (f g : Bool) → Some (flag_text f) ≡ Some (flag_text g) → f ≡ g
one_flag false false e = refl
one_flag false true e = absurd (flags_differ e)
one_flag true false e = absurd (flags_differ (sym e))
one_flag true true e = refl

-- a run is forwarded or not
not_both : (l : ArgumentsAt) (f : Bool) (x : ℕ) (w : Option ℕ) → Means l (Run f x w) → Means l Forward → ⊥
not_both l f x w a b = flags_differ (sym (ap (λ k. k.forward) a.0) ∙ ap (λ k. k.forward) b)

-- two numbers up to a million that are written alike are one
one_number : (m n : ℕ) → m ≤ most_looks → n ≤ most_looks → decimal m ≡ decimal n → m ≡ n
one_number m n p q e = decimal_injective m n (omega arith) (omega arith) e

-- the option stands for one number of looks
one_count : (option : Option Text) (m n : ℕ) → StandsForLooks option m → StandsForLooks option n → m ≡ n
one_count None m n a b = a ∙ sym b
one_count (Some text) m n a b = one_number m n a.1 b.1 (sym a.0 ∙ b.0)

-- the option stands for one number of workers, or none
one_team : (option : Option Text) (m n : Option ℕ) → StandsForWorkers option m → StandsForWorkers option n → m ≡ n
one_team None None None a b = refl
one_team None None (Some n) a b = absurd b
one_team None (Some m) n a b = absurd a
one_team (Some text) None n a b = absurd a
one_team (Some text) (Some m) None a b = absurd b
one_team (Some text) (Some m) (Some n) a b = ap Some (one_number m n (omega (arith, a.2)) (omega (arith, b.2)) (sym a.0 ∙ b.0))

-- a line has one number up to 1,000
same_count : (l : ArgumentsAt) (n m : ℕ) → l.number ≡ Some (decimal n) → l.number ≡ Some (decimal m) → n ≤ most_messages → m ≤ most_messages → n ≡ m
same_count l n m a b few few_too =
    let both : Some (decimal n) ≡ Some (decimal m) = sym a ∙ b in
    let digits : decimal n ≡ decimal m = cc in
    one_number n m (omega (arith, few)) (omega (arith, few_too)) digits

-- a line asks for one task, since commands have different names
pub one_of_line : (l : ArgumentsAt) (t u : Task) → Means l t → Means l u → t ≡ u
one_of_line l Check Check a b = refl
one_of_line l Show Show a b = refl
one_of_line l Forest Forest a b = refl
one_of_line l Sim Sim a b = refl
one_of_line l (Run f x w) (Run g y v) a b =
    ap₂ (λ h k. Run h k w) (one_flag f g (sym (ap (λ k. k.log) a.0) ∙ ap (λ k. k.log) b.0)) (one_count l.looks x y a.1 b.1) ∙ ap (λ k. Run g y k) (one_team l.workers w v a.2 b.2)
one_of_line l Forward Forward a b = refl
one_of_line l (Run f x w) Forward a b = absurd (not_both l f x w a b)
one_of_line l Forward (Run f x w) a b = absurd (not_both l f x w b a)
one_of_line l (Replay f) (Replay g) a b = ap Replay (one_flag f g (sym (ap (λ k. k.log) a) ∙ ap (λ k. k.log) b))
one_of_line l (Talk n) (Talk m) a b = ap (λ k. Talk k) (same_count l n m (ap (λ k. k.number) a.0) (ap (λ k. k.number) b.0) (omega (arith, a.1)) (omega (arith, b.1)))
one_of_line l (Make n) (Make m) a b = ap (λ k. Make k) (same_count l n m (ap (λ k. k.number) a.0) (ap (λ k. k.number) b.0) a.1.1 b.1.1)
one_of_line l (Big n) (Big m) a b = ap (λ k. Big k) (same_count l n m (ap (λ k. k.number) a.0) (ap (λ k. k.number) b.0) a.1.1 b.1.1)
one_of_line l t u a b = absurd (apart l t u refl refl a b)

-- the words ask for one task
pub one_task : (words : List Text) (t u : Task) → Asks words t → Asks words u → t ≡ u
one_task words t u a b = one_of_line _ t u a.1 b.1

-- a line that asks for a task has `run` or `replay`, or no flag and no option
pub means_alone : (l : ArgumentsAt) (t : Task) → Means l t
    → (l.command ≡ Some (codes "run")) ⊎ ((l.command ≡ Some (codes "replay")) ⊎ ((l.log ≡ Some (codes "false")) × (l.looks ≡ None) × (l.workers ≡ None)))
means_alone l (Run log looks workers) m = inl (named l (Run log looks workers) m)
means_alone l Forward m = inl (named l Forward m)
means_alone l (Replay log) m = inr (inl (named l (Replay log) m))
means_alone l (Talk n) m = inr (inr (ap (λ k. k.log) m.0, ap (λ k. k.looks) m.0, ap (λ k. k.workers) m.0))
means_alone l (Make n) m = inr (inr (ap (λ k. k.log) m.0, ap (λ k. k.looks) m.0, ap (λ k. k.workers) m.0))
means_alone l (Big n) m = inr (inr (ap (λ k. k.log) m.0, ap (λ k. k.looks) m.0, ap (λ k. k.workers) m.0))
means_alone l t m = inr (inr (ap (λ k. k.log) m, ap (λ k. k.looks) m, ap (λ k. k.workers) m))

-- it is `run` with forwarding, or asks for no forwarding
pub means_forwarding : (l : ArgumentsAt) (t : Task) → Means l t → (l ≡ forwarding) ⊎ (l.forward ≡ Some (codes "false"))
means_forwarding l Forward m = inl m
means_forwarding l (Run log looks workers) m = inr (ap (λ k. k.forward) m.0)
means_forwarding l (Talk n) m = inr (ap (λ k. k.forward) m.0)
means_forwarding l (Make n) m = inr (ap (λ k. k.forward) m.0)
means_forwarding l (Big n) m = inr (ap (λ k. k.forward) m.0)
means_forwarding l t m = inr (ap (λ k. k.forward) m)
