-- The rules by which lines are refused: those of a talk, in the same order.
use Rattle.std.specs.Prelude.{◌≡◌, ℕ, nat_lt, true, List, Option, Some, None, option_and_then, is_none, if◌then◌else◌}
use Rattle.std.specs.Str.{bytes_eq}
use Rattle.sj_base.specs.declared.EndId.{EndId}
use Rattle.sj_lang.specs.FileAt.{FileAt}
use Rattle.sj_seat.specs.Rules.{first_refusal}
use Rattle.sj_seat.specs.Wishes.{tests_of}
use Rattle.sj_seat.specs.declared.refusal.SeatRefusal.{SeatRefusal}
use Rattle.sj_seat.specs.declared.refusal.SeatRefusal.TheVariants as refusals
use Rattle.sj_seat_laws.specs.Calls as laws
use Rattle.sj_seat_laws.specs.Calls.{place_held}
use Rattle.sj_semantics.specs.Ends.{end_at}
use Rattle.sj_talk.specs.Forms as forms
use Rattle.sj_talk.specs.Forms.{FormAt}
use Rattle.sj_talk.specs.Names.{Ends, end_named, number_in}
use Rattle.sj_talk.specs.Rules.{at_limit, begins_otherwise, head_under, is_worn, not_bound, nothing_there, wrong_end, wrong_kind}
use Rattle.sj_talk.specs.TalkWorld.{TalkWorld}
use Rattle.sj_seat_lines.specs.Replies.{not_opened}
use Rattle.sj_seat_lines.specs.Steps.{step_of}
use Rattle.sj_seat_lines.specs.declared.steps.Step.{Step}
use Rattle.sj_seat_lines.specs.declared.steps.Step.TheVariants.{Call, Refused}

-- the number of the rule in a talk
abbrev pub rule_of : SeatRefusal → Option ℕ
rule_of refusals.NotHeld = Some not_bound
rule_of refusals.BeginsOtherwise = Some begins_otherwise
rule_of refusals.WrongEnd = Some wrong_end
rule_of refusals.WrongKind = Some wrong_kind
rule_of refusals.NotOpened = Some not_opened
rule_of refusals.AtLimit = Some at_limit
rule_of _ = None

-- what lines see of a party: the texts of the run, how many of them its guard lets pass, the names of the ends that it holds, those ends at their places, and how many calls it made
pub record Seen : Type 0 where
  pub file : FileAt
  pub texts : List (List ℕ)
  pub known : ℕ
  pub names : Ends
  pub ends : laws.Ends
  pub calls : ℕ

-- the rule that refuses what a line comes to: at once, or as the guard's first
abbrev pub rule_of_step : Seen → Step → Option ℕ
rule_of_step s (Refused n) = Some n
rule_of_step s (Call wish) = option_and_then rule_of (first_refusal (tests_of s.known s.calls s.ends wish))

-- the rule that refuses the line
abbrev pub rule_of_line : Seen → FormAt → Option ℕ
rule_of_line s f = rule_of_step s (step_of s.file s.texts s.names s.ends f)

-- ---- beside a talk

-- the two see the same: names, places, words, and how much was done; the guard lets each text pass
pub record SeesAlike (s : Seen) (t : TalkWorld) : Type 0 where
  pub names : s.names ≡ t.ends
  pub places : (x : List ℕ) (e : EndId) → end_named t.ends x ≡ Some e → place_held s.ends e ≡ Some (end_at t.world.sessions e).place
  pub once : (x y : List ℕ) (e : EndId) → end_named t.ends x ≡ Some e → end_named t.ends y ≡ Some e → bytes_eq x y ≡ true
  pub words : s.file.words ≡ t.file.words
  pub calls : s.calls ≡ t.lines
  pub texts : (x : List ℕ) → nat_lt (number_in s.texts x) s.known ≡ true

-- the rules that come last in a talk, which no guard knows: the sent end was delegated so often, nothing is there to take
abbrev pub last_rule : TalkWorld → FormAt → Option ℕ
last_rule t (forms.delegate x y) = if is_worn t y then Some at_limit else None
last_rule t (forms.take x) = if is_none (head_under t x) then Some nothing_there else None
last_rule t (forms.take_end x y) = if is_none (head_under t x) then Some nothing_there else None
last_rule t _ = None

-- the one rule, or else the other
abbrev pub rule_or : Option ℕ → Option ℕ → Option ℕ
rule_or None other = other
rule_or (Some n) other = Some n
