-- Where the status is that of a verdict, the party was played.
use Rattle.std.proofs.Common.{◌≡◌, ◌⊎◌, ℕ, List, Option, Some, None, subst, inl, inr}
use Rattle.std.specs.Prelude.{codes}
use Rattle.sj_lang.specs.FileAt.{FileAt}
use Rattle.sj_semantics.specs.declared.Verdict.{Verdict}
use Rattle.sj_semantics.specs.declared.Verdict.TheVariants as verdicts
use Rattle.sj_text.specs.Statuses.{no_memory_status}
use Rattle.sj_tool.specs.Texts.{verdict_status}
use Rattle.sj_seat_local.specs.Before.{BeginsWith, IsTextOf}
use Rattle.sj_seat_local.specs.Parties.{NamesParty}
use Rattle.sj_seat_local.specs.Played.{IsVerdict, SaidSo}
use Rattle.sj_seat_local.specs.Seated.{HasSeated, IsCheckStatus, PlaysSource, PlaysText, Says, has_text, lacks_party, no_memory, no_party_status, no_party_text, no_talk, no_write, out_of_memory, plays, read_fault, too_large, unaccepted}
use Rattle.sj_seat_local.specs.declared.playing.Played.{Played}
use Rattle.sj_seat_local.proofs.VerdictLemmas.{none_of_10, none_of_11, none_of_12, none_of_14, none_of_2, none_of_3}

none_of_check : (status : ℕ) → IsCheckStatus status → IsVerdict status → ⊥
none_of_check status check (v, ends) = by v (subst IsCheckStatus ends check)
  where
    by : (v : Verdict) → IsCheckStatus (verdict_status v) → ⊥
    by verdicts.Done h = absurd (cc)
    by verdicts.Blocked h = absurd (cc)
    by verdicts.Long h = absurd (cc)

none_said : (before after : Option (List ℕ)) (text : List ℕ) (wanted status : ℕ) → (IsVerdict wanted → ⊥) → SaidSo before after text wanted status → IsVerdict status → ⊥
none_said before after text wanted status none (inl said) verdict = none (subst IsVerdict said.0 verdict)
none_said before after text wanted status none (inr fault) verdict = none_of_10 (subst IsVerdict fault verdict)

module _ {K : Type 0} (written : K → Option (List ℕ)) (before : Option (List ℕ)) where
  none_says : (text : List ℕ) (wanted : ℕ) (out : Option K) (status : ℕ) → (IsVerdict wanted → ⊥) → Says written before text wanted out status → IsVerdict status → ⊥
  none_says text wanted None status none says verdict = says
  none_says text wanted (Some k) status none says verdict = none_said before (written k) text wanted status none says verdict

  text_seated : (left : Option (List ℕ)) (text word : List ℕ) (p : Played K) → BeginsWith left text → PlaysText written text word before p → IsVerdict p.status → HasSeated written left word p
  text_seated left text word p begins (unaccepted none check) verdict = absurd (none_of_check p.status check verdict)
  text_seated left text word p begins (lacks_party f is none says) verdict = absurd (none_says (no_party_text word) 14 p.out p.status none_of_14 says verdict)
  text_seated left text word p begins (no_write fault) verdict = absurd (none_of_10 (subst IsVerdict fault verdict))
  text_seated left text word p begins (out_of_memory fault) verdict = absurd (none_of_11 (subst IsVerdict fault verdict))
  text_seated left text word p begins (plays f party is named done) verdict = record { text = text; begins = begins; file = f; is = is; party = party; named = named; played = done verdict }

  pub source_seated : (left : Option (List ℕ)) (word : List ℕ) (p : Played K) → PlaysSource written left word before p → IsVerdict p.status → HasSeated written left word p
  source_seated left word p (no_talk none says) verdict = absurd (none_says (codes "talk L1 at 0\n") 12 p.out p.status none_of_12 says verdict)
  source_seated left word p (too_large large says) verdict = absurd (none_says (codes "too large\n") 3 p.out p.status none_of_3 says verdict)
  source_seated left word p (read_fault says) verdict = absurd (none_says (codes "read fault\n") 2 p.out p.status none_of_2 says verdict)
  source_seated left word p (no_memory fault) verdict = absurd (none_of_11 (subst IsVerdict fault verdict))
  source_seated left word p (has_text text begins comes) verdict = text_seated left text word p begins comes verdict

  -- the file hasn't the party, which is said where there is memory
  pub no_party_comes : (text word : List ℕ) (f : FileAt) (out : K) (status : ℕ) → IsTextOf text f → NamesParty f word None
      → SaidSo before (written out) (no_party_text word) no_party_status status ⊎ (status ≡ no_memory_status) → PlaysText written text word before (record { status = status; out = Some out })
  no_party_comes text word f out status is none (inl said) = lacks_party f is none said
  no_party_comes text word f out status is none (inr short) = out_of_memory short
