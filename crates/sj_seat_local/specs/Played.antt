-- What playing a party by lines writes at last, and its status.
use Rattle.std.specs.Prelude.{◌≡◌, ◌⊎◌, ℕ, List, Option, Some, None, Result, Ok}
use Rattle.sj_base.specs.Stream.{put_behind}
use Rattle.sj_base.specs.declared.stream.NoMemory.{NoMemory}
use Rattle.sj_lang.specs.FileAt.{FileAt}
use Rattle.sj_seat_end.specs.Alone.{is_party}
use Rattle.sj_seat_end.specs.Told.{IsAtEnd, IsToldUnder}
use Rattle.sj_seat_end.specs.declared.telling.Told.{Told}
use Rattle.sj_seats.specs.declared.seated.SeatedWorld.{SeatedWorld}
use Rattle.sj_semantics.specs.declared.Verdict.{Verdict}
use Rattle.sj_tool.specs.Texts.{verdict_status, write_fault_status}
use Rattle.sj_seat_local.specs.declared.playing.Played.{Played}

-- that is the status of a verdict
abbrev pub IsVerdict : ℕ → Type 0
IsVerdict status = (v : Verdict) × (status ≡ verdict_status v)

-- the text was written whole, and the status is the wanted one, or the write failed
abbrev pub SaidSo : (before after : Option (List ℕ)) → List ℕ → (wanted status : ℕ) → Type 0
SaidSo before after text wanted status = ((status ≡ wanted) × (after ≡ put_behind before text)) ⊎ (status ≡ write_fault_status)

-- the sink came back, and the text is what was written there last, where it reports that
abbrev pub IsLast : {K : Type 0} → (written : K → Option (List ℕ)) → Option K → List ℕ → Type 0
IsLast written None text = ⊥
IsLast written (Some k) text = (before : Option (List ℕ)) × (written k ≡ put_behind before text)

-- that transcript was written after what was there, and the status is that of its verdict
pub record IsToldSo (before after : Option (List ℕ)) (told : Result Told NoMemory) (status : ℕ) : Type 0 where
  pub it : Told
  pub there : told ≡ Ok it
  pub written : after ≡ put_behind before it.text.items
  pub ends : status ≡ verdict_status it.verdict

-- that transcript was written last, and the status is that of its verdict
pub record HasTold {K : Type 0} (written : K → Option (List ℕ)) (told : Result Told NoMemory) (p : Played K) : Type 0 where
  pub it : Told
  pub there : told ≡ Ok it
  pub last : IsLast written p.out it.text.items
  pub status : p.status ≡ verdict_status it.verdict

-- what was written last is the transcript of a quiet world of the file, in which that party alone is played by code
pub record HasPlayed {K : Type 0} (written : K → Option (List ℕ)) (file : FileAt) (party : ℕ) (p : Played K) : Type 0 where
  pub world : SeatedWorld
  pub end : IsAtEnd file (is_party party) world
  pub verdict : Verdict
  pub text : List ℕ
  pub told : IsToldUnder file world verdict text
  pub last : IsLast written p.out text
  pub status : p.status ≡ verdict_status verdict
