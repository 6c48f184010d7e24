-- What is worked off before an end is installed.
use Rattle.std.specs.Prelude.{◌≡◌, ◌≤◌, ◌+◌, ℕ, max, List, length, map, Option, Some, None}
use Rattle.std.specs.declared.alloc.Global.{Global}
use Rattle.std.specs.declared.collections.VecDeque.{VecDeque}
use Rattle.std.specs.Prelude.{Vec}
use Rattle.sj_base.specs.declared.Msg.{Msg}
use Rattle.sj_table.specs.declared.table.Spot.{Spot}
use Rattle.sj_rules.specs.Record.{EndAt, HeldAt, Mail}
use Rattle.sj_rules.specs.Rows.{Worked, install}
use Rattle.sj_rules.specs.Limits.{limit_of_messages}
use Rattle.sj_end.specs.Views.{deferred_at, post_at}
use Rattle.sj_end.specs.declared.record.Expected.{Expected}
use Rattle.sj_end.specs.declared.frames.Post.{Post}
use Rattle.sj_handover.specs.declared.deferrals.Tally.{Tally}
use Rattle.sj_handover.specs.Working.{held_by}

-- what the rule makes of the end that comes to that record; None where it doesn't fit
abbrev pub installed_work : Expected → EndAt Spot → (resend : Option ℕ) → Option (Worked Spot (HeldAt Spot))
installed_work e end resend = install max e.place (map deferred_at e.deferred.items) end resend

-- the end at its own place is installed with what the tally, the untaken messages and the posts say
pub record InstallsTo (e : EndAt Spot) (deferred : List (Mail Spot)) (resend : Option ℕ) (t : Tally) (untaken : List Msg) (posts : List (Mail Spot)) : Type 0 where
  pub row : install max e.place deferred e resend ≡ Some (record { state = held_by e t untaken; posts = posts })
  pub base : e.base ≤ t.base
  pub upto : t.base ≤ e.sent
  pub room : e.taken + length untaken ≤ limit_of_messages + 1

-- it is, or it doesn't fit
abbrev pub Installs : EndAt Spot → List (Mail Spot) → Option ℕ → Option (Tally × VecDeque Msg Global × Vec Post Global) → Type 0
Installs e deferred resend None = install max e.place deferred e resend ≡ None
Installs e deferred resend (Some r) = InstallsTo e deferred resend r.0 r.1.items (map post_at r.2.items)
