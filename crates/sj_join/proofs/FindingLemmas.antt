-- A run that is found after its file, or isn't.
use Rattle.std.proofs.Common.{◌≡◌, ℕ, List, Option, length, subst}
use Rattle.sj_end.specs.declared.note.Line.{Line}
use Rattle.sj_grammar.specs.Files.{IsFile}
use Rattle.sj_lang.specs.FileAt.{FileAt}
use Rattle.sj_remote.specs.declared.conn.Conn.{Conn}
use Rattle.sj_join.specs.Finding.{IsFoundRun, IsGiven, IsNotFound, IsNotRead, IsReadRun, NoRun}
use Rattle.sj_join.specs.Talk.{Gives, IsAnswered}
use Rattle.sj_join.specs.declared.refusal.JoinRefusal.{JoinRefusal}

module _ {S K : Type 0} (left : S → Option (List ℕ)) (old between new : Conn S K) (run text now : List ℕ) (file : FileAt) (n : ℕ)
    (given : IsAnswered left old between (Gives text)) (same : now ≡ text) (spelt : IsFile now file) (all : n ≡ length file.parties) where
  first : IsGiven left old between text file
  first = record { given = given; spelt = subst (λ t. IsFile t file) same spelt }

  pub run_is_found : (lines : List Line) → IsReadRun left between new run file n lines → IsFoundRun left old new run text file lines
  run_is_found lines read = record { between = between; first = first; read = subst (λ k. IsReadRun left between new run file k lines) all read }

  pub run_is_not_found : (faults : S → ℕ) (has_ended : S → Type 0) (unwritten : K → ℕ) (e : JoinRefusal) →
      IsNotRead left faults has_ended unwritten between new run file n e → IsNotFound left faults has_ended unwritten old new run e
  run_is_not_found faults has_ended unwritten e not = NoRun between text file first (subst (λ k. IsNotRead left faults has_ended unwritten between new run file k e) all not)
