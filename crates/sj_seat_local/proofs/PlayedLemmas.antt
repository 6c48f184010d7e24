-- What was written last, and what status goes with it.
use Rattle.std.proofs.Common.{◌≡◌, ◌∙◌, ℕ, List, Option, Some, Result, Ok, IfOk, ap, subst, inl, inr}
use Rattle.sj_base.specs.Stream.{put_behind}
use Rattle.sj_base.specs.declared.stream.NoMemory.{NoMemory}
use Rattle.sj_lang.specs.FileAt.{FileAt}
use Rattle.sj_seat_end.specs.Alone.{is_party}
use Rattle.sj_seat_end.specs.Told.{IsAtEnd, IsToldUnder}
use Rattle.sj_seat_end.specs.declared.telling.Told.{Told}
use Rattle.sj_seats.specs.declared.seated.SeatedWorld.{SeatedWorld}
use Rattle.sj_tool.specs.Texts.{verdict_status}
use Rattle.sj_seat_local.specs.Played.{HasPlayed, HasTold, IsToldSo, IsVerdict, SaidSo}
use Rattle.sj_seat_local.specs.declared.playing.Played.{Played}
use Rattle.sj_seat_local.proofs.VerdictLemmas.{none_of_10}

-- a transcript that was said is what was told, where the status is that of a verdict
pub told_so : (before after : Option (List ℕ)) (text : List ℕ) (told : Told) (r : Result Told NoMemory) (wanted status : ℕ) → r ≡ Ok told → text ≡ told.text.items → wanted ≡ verdict_status told.verdict
    → SaidSo before after text wanted status → IsVerdict status → IsToldSo before after r status
told_so before after text told r wanted status is same ends (inl said) verdict = record { it = told; there = is; written = said.1 ∙ ap (put_behind before) same; ends = said.0 ∙ ends }
told_so before after text told r wanted status is same ends (inr fault) verdict = absurd (none_of_10 (subst IsVerdict fault verdict))

-- it was written last
pub told_last : {K : Type 0} (written : K → Option (List ℕ)) (before : Option (List ℕ)) (out : K) (r : Result Told NoMemory) (status : ℕ)
    → (IsVerdict status → IsToldSo before (written out) r status) → IsVerdict status → HasTold written r (record { status = status; out = Some out })
told_last written before out r status tells verdict = let x = tells verdict in record { it = x.it; there = x.there; last = (before, x.written); status = x.ends }

-- and what the run told is the transcript of a quiet world
pub played_so : {K : Type 0} (written : K → Option (List ℕ)) (file named : FileAt) (party : ℕ) (w : SeatedWorld) (r : Result Told NoMemory) (p : Played K) → named ≡ file → IsAtEnd file (is_party party) w
    → IfOk r (λ t. IsToldUnder named w t.verdict t.text.items) → (IsVerdict p.status → HasTold written r p) → IsVerdict p.status → HasPlayed written file party p
played_so written file named party w r p same end tells last verdict =
    let x = last verdict in
    record {
      world = w;
      end = end;
      verdict = x.it.verdict;
      text = x.it.text.items;
      told = subst (λ f. IsToldUnder f w x.it.verdict x.it.text.items) same (subst (λ (s : Result Told NoMemory). IfOk s (λ t. IsToldUnder named w t.verdict t.text.items)) x.there tells);
      last = x.last;
      status = x.status;
    }
