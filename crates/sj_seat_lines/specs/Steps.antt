-- The call that a line of a talk asks for, or the rule that refuses the line before any call.
use Rattle.std.specs.Prelude.{ℕ, Bool, true, false, ◌&&◌, is_some, List, Option, Some, None, if◌then◌else◌}
use Rattle.sj_base.specs.declared.EndId.{EndId}
use Rattle.sj_base.specs.declared.Msg.{Msg}
use Rattle.sj_base.specs.declared.Msg.TheVariants as msgs
use Rattle.sj_lang.specs.FileAt.{FileAt}
use Rattle.sj_lang.specs.Place.{Place, message, text}
use Rattle.sj_lang.specs.declared.proto.Way.TheVariants.{Out}
use Rattle.sj_seat.specs.Rules.{place_at}
use Rattle.sj_seat.specs.declared.wish.Wish.TheVariants.{Send, Delegate, Take, TakeEnd, Close}
use Rattle.sj_seat_laws.specs.Calls as calls
use Rattle.sj_talk.specs.Forms as forms
use Rattle.sj_talk.specs.Forms.{FormAt, ValueAt}
use Rattle.sj_talk.specs.Names.{Ends, end_named, label_number, number_in, with_word}
use Rattle.sj_talk.specs.Rules.{begins_otherwise, not_bound, selects, takes_end, wrong_end, wrong_kind}
use Rattle.sj_seat_lines.specs.declared.steps.Step.{Step}
use Rattle.sj_seat_lines.specs.declared.steps.Step.TheVariants.{Call, Refused}

-- it begins with the sending of a text
abbrev pub sends_text : Place → Bool
sends_text (message Out text next) = true
sends_text _ = false

-- the number of the text; where no text is wanted any number will do
abbrev pub text_number : List (List ℕ) → Place → List ℕ → ℕ
text_number texts p t = if sends_text p then number_in texts t else 0

-- the message that carries the value
abbrev pub message_at : List (List ℕ) → Place → ValueAt → Msg
message_at texts p (forms.number n) = msgs.Int n
message_at texts p (forms.truth b) = msgs.Bool b
message_at texts p (forms.text t) = msgs.Text (text_number texts p t)

-- the texts with the one that is wanted
abbrev pub texts_with : List (List ℕ) → Place → ValueAt → List (List ℕ)
texts_with texts p (forms.text t) = if sends_text p then with_word texts t else texts
texts_with texts p _ = texts

-- a label that no word of the file spells is outside each choice
abbrev pub by_label : Place → Option ℕ → EndId → Step
by_label p (Some l) e = Call (Send e (msgs.Label l))
by_label p None e = Refused (if selects p then wrong_kind else begins_otherwise)

-- the end that is taken gets a name that isn't in use
abbrev pub by_name : Place → Option EndId → EndId → Step
by_name p used e = if takes_end p && is_some used then Refused wrong_end else Call (TakeEnd e)

-- what comes of it where the end is held
abbrev pub at_end : Option EndId → (EndId → Step) → Step
at_end None step = Refused not_bound
at_end (Some e) step = step e

-- what a line comes to, by the file, the texts of the run, the names of the ends that are held, and those ends at their places
abbrev pub step_of : FileAt → List (List ℕ) → Ends → calls.Ends → FormAt → Step
step_of file texts ns bs (forms.send x v) = at_end (end_named ns x) (λ e. Call (Send e (message_at texts (place_at bs e) v)))
step_of file texts ns bs (forms.select x l) = at_end (end_named ns x) (λ e. by_label (place_at bs e) (label_number file l) e)
step_of file texts ns bs (forms.turn x more) = at_end (end_named ns x) (λ e. Call (Send e (msgs.More more)))
step_of file texts ns bs (forms.delegate x y) = at_end (end_named ns x) (λ c. at_end (end_named ns y) (λ e. Call (Delegate c e)))
step_of file texts ns bs (forms.take x) = at_end (end_named ns x) (λ e. Call (Take e))
step_of file texts ns bs (forms.take_end x y) = at_end (end_named ns x) (λ e. by_name (place_at bs e) (end_named ns y) e)
step_of file texts ns bs (forms.close x) = at_end (end_named ns x) (λ e. Call (Close e))

-- the texts after it: that of a sent one is put after the others, where a text is wanted
abbrev pub texts_sent : List (List ℕ) → calls.Ends → Option EndId → ValueAt → List (List ℕ)
texts_sent texts bs None v = texts
texts_sent texts bs (Some e) v = texts_with texts (place_at bs e) v

abbrev pub texts_after : List (List ℕ) → Ends → calls.Ends → FormAt → List (List ℕ)
texts_after texts ns bs (forms.send x v) = texts_sent texts bs (end_named ns x) v
texts_after texts ns bs _ = texts
