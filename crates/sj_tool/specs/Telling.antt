-- What lines, and how parties stand, report of the end of a file in which no session was opened.
use Rattle.std.specs.Prelude.{◌≡◌, ◌≤◌, List, [], length, map}
use Rattle.sj_base.specs.declared.EndId.{EndId}
use Rattle.sj_lang.specs.FileAt.{FileAt}
use Rattle.sj_semantics.specs.Ends.{end_at}
use Rattle.sj_semantics.specs.State.{opened_in}
use Rattle.sj_semantics.specs.World.{World}
use Rattle.sj_rules.specs.Log.{LineAt}
use Rattle.sj_rules_laws.specs.TiedNotes.{sent_told, taken_told, told_in}
use Rattle.sj_told.specs.Counts.{messages_sent, sent_count}
use Rattle.sj_told.specs.declared.told.Stand.{Stand}
use Rattle.sj_told.specs.Told.{AreStands}

-- the Sent notes of each end report what it sent, the Took notes who took on it, and the parties
-- stand so
pub record IsToldIn (file : FileAt) (lines : List LineAt) (stands : List Stand) (w : World) : Type 0 where
  pub opened : opened_in w ≡ []
  pub sessions : length file.connects ≤ length w.sessions
  pub sent : (e : EndId) → (end_at w.sessions e).sent ≡ told_in (sent_told e) lines
  pub takers : (e : EndId) → (end_at w.sessions e).takers ≡ map (λ x. x.by) (told_in (taken_told e) lines)
  pub messages : messages_sent w ≡ sent_count lines
  pub parties : AreStands w stands
