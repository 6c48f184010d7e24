-- A log that is replayed is reported in one way: its first fault, its first entry that isn't due,
-- or how the file ends.
use Rattle.std.proofs.Common.{◌≡◌, ◌∙◌, ◌+◌, ℕ, max, List, [], ◌∷◌, ◌++◌, Option, Some, None, length, ap, ap₂, refl, sym, subst}
use Rattle.sj_lang.specs.FileAt.{FileAt}
use Rattle.sj_lang.specs.Place.{Place}
use Rattle.sj_log.specs.LogText.{fault_of}
use Rattle.sj_rules.specs.History.{IsHistory, IsLog, IsMisfit, due}
use Rattle.sj_rules.specs.Log.{LineAt}
use Rattle.sj_rules.specs.Node.{Play}
use Rattle.sj_rules.specs.Party.{play_of}
use Rattle.sj_rules.specs.Start.{core_start}
use Rattle.sj_rules.specs.World.{WorldAt}
use Rattle.sj_joined_lemmas.proofs.HistoryLemmas.{no_misfit, some_same}
use Rattle.sj_tool.specs.LogAt.{Breaks, LogAt, Spells}
use Rattle.sj_tool.specs.Entries.{IsMisfitText, entry_line, misfit_head}
use Rattle.sj_tool.proofs.OneRun.{same_spelled}

-- ---- the first line that isn't due is one

module _ {P Q : Type 0} (play : Play P Q) (pick : ℕ → ℕ → ℕ) where
  -- the line is another than the one that is due, or none is
  abbrev IsAstray : WorldAt P Q → LineAt → Type 0
  IsAstray w l = due play pick w l.party l.entry.event ≡ Some l → ⊥

  -- the lines before it, the line, and the world there
  abbrev AreSame : (before other : List LineAt) (l k : LineAt) (m n : WorldAt P Q) → Type 0
  AreSame before other l k m n = (before ≡ other) × (l ≡ k) × (m ≡ n)

  first_astray : (before other : List LineAt) (l k : LineAt) (after rest : List LineAt) (w m n : WorldAt P Q) → before ++ l ∷ after ≡ other ++ k ∷ rest
      → IsLog play pick w before m → IsLog play pick w other n → IsAstray m l → IsAstray n k → AreSame before other l k m n
  first_astray [] [] l k after rest w m n e a b off away =
      let one : l ≡ k = cc e in (refl, one, sym a ∙ b)
  first_astray [] (x ∷ other) l k after rest w m n e a b off away =
      let one : l ≡ x = cc e in
      absurd (subst (λ (v : WorldAt P Q). IsAstray v l) (sym a) off (ap (λ z. due play pick w z.party z.entry.event) one ∙ b.2 ∙ ap Some (sym one)))
  first_astray (x ∷ before) [] l k after rest w m n e a b off away =
      let one : x ≡ k = cc e in
      absurd (subst (λ (v : WorldAt P Q). IsAstray v k) (sym b) away (ap (λ z. due play pick w z.party z.entry.event) (sym one) ∙ a.2 ∙ ap Some one))
  first_astray (x ∷ before) (y ∷ other) l k after rest w m n e a b off away =
      let one : x ≡ y = cc e in
      let more : before ++ l ∷ after ≡ other ++ k ∷ rest = cc e in
      let first : Some a.0 ≡ Some b.0 =
      sym a.1 ∙ ap (λ z. Rattle.sj_rules.specs.World.happens play pick w z.party z.entry.event) one ∙ b.1 in
      let mid : a.0 ≡ b.0 = some_same a.0 b.0 first in
      let same = first_astray before other l k after rest b.0 m n more (subst (λ (v : WorldAt P Q). IsLog play pick v before m) mid a.3) b.3 off away in
      (ap₂ (λ z zs. z ∷ zs) one same.0, same.1, same.2)

  -- so a list has one misfit
  pub one_misfit : (w : WorldAt P Q) (lines : List LineAt) (number other : ℕ) (l k : LineAt) (d c : Option LineAt) → IsMisfit play pick w lines number l d → IsMisfit play pick w lines other k c
      → (number ≡ other) × (l ≡ k) × (d ≡ c)
  one_misfit w lines number other l k d c x y =
      let same =
      first_astray x.before y.before l k x.after y.after w x.mid y.mid (sym x.all ∙ y.all) x.done y.done (λ e. x.differs (sym x.found ∙ e)) (λ e. y.differs (sym y.found ∙ e)) in (
        x.count ∙ ap (λ b. length b + 1) same.0 ∙ sym y.count,
        same.1,
        sym x.found ∙ ap₂ (λ v z. due play pick v z.party z.entry.event) same.2 same.1 ∙ y.found,
      )

-- ---- what is reported of a log

pub fault_once : (file : FileAt) (log : LogAt) (r s k l : ℕ) → Breaks file log r k → Breaks file log s l → (r ≡ s) × (k ≡ l)
fault_once file log r s k l a b =
    let both : Some (r, k) ≡ Some (s, l) = sym a ∙ b in
    let one : (r, k) ≡ (s, l) = some_same (r, k) (s, l) both in
    (ap (λ x. x.0) one, ap (λ x. x.1) one)

pub fault_or_lines : (file : FileAt) (log : LogAt) (r k : ℕ) (lines : List LineAt) → Breaks file log r k → Spells file log lines → ⊥
fault_or_lines file log r k lines a b =
    let clash : None ≡ Some (r, k) = sym (ap fault_of b) ∙ a in cc

pub misfit_once : (file : FileAt) (log : LogAt) (s t : List ℕ) → IsMisfitText file log s → IsMisfitText file log t → s ≡ t
misfit_once file log s t x y =
    let lines : x.lines ≡ y.lines = same_spelled file log x.lines y.lines x.spells y.spells in
    let first = subst (λ (ls : List LineAt). IsMisfit (play_of file) max (core_start file) ls x.number x.logged x.other) lines x.misfit in
    let same = one_misfit (play_of file) max (core_start file) y.lines x.number y.number x.logged y.logged x.other y.other first y.misfit in
    x.told ∙ ap (λ (z : (ℕ × LineAt) × Option LineAt). entry_line misfit_head file z.0.0 z.0.1 z.1) (ap₂ (λ a b. (a, b)) (ap₂ (λ a b. (a, b)) same.0 same.1) same.2) ∙ sym y.told

pub misfit_or_history : (file : FileAt) (log : LogAt) (text : List ℕ) (lines : List LineAt) (left : WorldAt Place Rattle.sj_semantics.specs.Program.Program) → IsMisfitText file log text → Spells file log lines → IsHistory max file lines left → ⊥
misfit_or_history file log text lines left x spells leads =
    let same : x.lines ≡ lines = same_spelled file log x.lines lines x.spells spells in
    no_misfit (play_of file) max lines (core_start file) left x.number x.logged x.other leads
    (subst (λ (ls : List LineAt). IsMisfit (play_of file) max (core_start file) ls x.number x.logged x.other) same x.misfit)
