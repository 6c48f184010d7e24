-- What a call is given and what it leaves: its words, its source, and the links over which parties
-- run.
use Rattle.std.specs.Prelude.{◌≡◌, ℕ, Bool, true, List, Option, map, string_bytes}
use Rattle.std.specs.declared.alloc.Global.{Global}
use Rattle.std.specs.declared.string.String.{String}
use Rattle.sj_base.specs.declared.stream.Source.{Ghosts as Source}
use Rattle.sj_lane.specs.declared.links.Links.{Ghosts as Links}
use Rattle.sj_lane.specs.Told.{Rose}
use Rattle.sj_run.specs.Shown.{LinksAt, keeps_of}

-- whether the links report what they carry, what they count before and after, and what they keep
-- after
pub record LinkUseAt : Type 0 where
  pub tells : Bool
  pub faults : ℕ
  pub faults_after : ℕ
  pub keeps : LinksAt

-- the links counted no fault
abbrev pub CountNone : LinkUseAt → Type 0
CountNone links = ¬ Rose links.faults links.faults_after

-- the links report what they carry, and counted no fault
abbrev pub LinksHold : LinkUseAt → Type 0
LinksHold links = (links.tells ≡ true) × CountNone links

-- the words, what the source has left and counts, before and after, and the links
pub record CallAt : Type 0 where
  pub words : List (List ℕ)
  pub left : Option (List ℕ)
  pub left_after : Option (List ℕ)
  pub faults : ℕ
  pub faults_after : ℕ
  pub links : LinkUseAt

-- the use of links of that kind
abbrev pub link_use : {L Out In : Type 0} → Links L Out In → (before after : L) → LinkUseAt
link_use kind before after = record {
  tells = kind.tells before;
  faults = kind.faults before;
  faults_after = kind.faults after;
  keeps = keeps_of kind.sent kind.got kind.vain_out kind.vain_in after;
}

-- the call that a source and links of those kinds are passed to, by the words, the source before
-- and after, and the links
abbrev pub call : {S L Out In : Type 0} → Source S → Links L Out In → List (String Global) → (before after : S) → (links links_after : L) → CallAt
call source kind words before after links links_after = record {
  words = map string_bytes words;
  left = source.left before;
  left_after = source.left after;
  faults = source.faults before;
  faults_after = source.faults after;
  links = link_use kind links links_after;
}
