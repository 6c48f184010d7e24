-- What the parts of a running talk stand for.
use Rattle.std.specs.Prelude.{◌≤◌, List, [], length, map}
use Rattle.sj_lang.specs.Code.{no_stmt}
use Rattle.sj_lang.specs.FileAt.{FileAt, PartyAt}
use Rattle.sj_lang.specs.FileView.{file_of}
use Rattle.sj_lang.specs.Limits.{limits}
use Rattle.sj_plain.specs.Course.{IsOrdered, world_in}
use Rattle.sj_talk.specs.Forms as forms
use Rattle.sj_talk.specs.Forms.{FormAt, ValueAt}
use Rattle.sj_talk.specs.Names.{Ends}
use Rattle.sj_talk.specs.Rules.{limit_of_lines}
use Rattle.sj_talk.specs.TalkWorld.{TalkWorld}
use Rattle.sj_talk.specs.declared.form.Form.{Form}
use Rattle.sj_talk.specs.declared.form.Form.TheVariants.{Send, Select, Turn, Delegate, Take, TakeEnd, Close}
use Rattle.sj_talk.specs.declared.form.Value.{Value}
use Rattle.sj_talk.specs.declared.form.Value.TheVariants.{Int, Bool as Truth, Text}
use Rattle.sj_talk.specs.declared.names.Bound.{Bound}
use Rattle.sj_talk.specs.declared.play.Play.{Play}

-- a value apart from how it lies in memory
abbrev pub value_at : Value → ValueAt
value_at (Int n) = forms.number n
value_at (Truth b) = forms.truth b
value_at (Text t) = forms.text t.now

-- what a line says, apart from how it lies in memory
abbrev pub form_at : Form → FormAt
form_at (Send x v) = forms.send x.now (value_at v)
form_at (Select x l) = forms.select x.now l.now
form_at (Turn x more) = forms.turn x.now more
form_at (Delegate x y) = forms.delegate x.now y.now
form_at (Take x) = forms.take x.now
form_at (TakeEnd x y) = forms.take_end x.now y.now
form_at (Close x) = forms.close x.now

-- the parties with nothing to do
abbrev pub idle_parties : List PartyAt → List PartyAt
idle_parties qs = map (λ q. record { line = q.line; name = q.name; code = no_stmt }) qs

-- the file with these parties alone
abbrev pub idle_file : FileAt → FileAt
idle_file file = record { words = []; texts = []; protocols = []; parties = idle_parties file.parties; connects = [] }

-- ends under their names
abbrev pub ends_at : List Bound → Ends
ends_at bs = map (λ b. (b.name.items, b.end)) bs

-- the talk world of a play
abbrev pub talk_at : Play → TalkWorld
talk_at p = record { file = file_of p.file; party = p.party; world = world_in p.course; ends = ends_at p.ends.items; lines = p.lines }

-- what is true of every play
pub record IsPlayed (p : Play) : Type 0 where
  pub few : length (world_in p.course).parties ≤ limits.parties
  pub ordered : IsOrdered p.course
  pub lines : p.lines ≤ limit_of_lines
