-- First words, and what was read on lines in a file.
use Rattle.std.proofs.Common.{◌≡◌, ℕ, ◌+◌, ◌≤◌, Bool, true, false, List, ◌++◌, length, Some, ap, arith, length-append}
use Rattle.std.specs.Prelude.{if◌then◌else◌}
use Rattle.std.specs.Str.{bytes_eq}
use Rattle.sj_grammar.specs.declared.tokens.What.{What}
use Rattle.sj_grammar.specs.declared.tokens.Rule.TheVariants.{P4}
use Rattle.sj_grammar.specs.declared.tokens.Fault.{Fault}
use Rattle.sj_grammar.specs.declared.refusal.ParseRefusal.{ParseRefusal}
use Rattle.sj_grammar.specs.declared.refusal.ParseRefusal.TheVariants as refusals
use Rattle.sj_lang.specs.Limits.{limits}
use Rattle.sj_grammar.specs.Lexis.{token, next_of}
use Rattle.sj_grammar.specs.Literals.{is_largest}
use Rattle.sj_grammar.specs.Reading.{Reading}
use Rattle.sj_grammar.specs.Positions.{Piece, At, BeginsOnLines, spellings}
use Rattle.sj_grammar.specs.Layers.{goes, stops, step}
use Rattle.sj_grammar.specs.FileDues.{Due, file_layer}
use Rattle.sj_grammar.specs.Faults.{Stuck, broken}
use Rattle.sj_grammar.specs.Refusals.{OnFault}
use Rattle.sj_grammar.specs.Asked.{TakesText, is_next, Refuses, refused}
use Rattle.sj_grammar.proofs.SplitLemmas.{next_split}
use Rattle.sj_grammar.proofs.StucknessLemmas.{halts_stuck, stuck_block}
use Rattle.sj_proto.specs.Choices.{but_first}
use Rattle.sj_proto.specs.Parsed.{Stops}
use Rattle.sj_proto.proofs.ExitLemmas.{next_is}
use Rattle.sj_proto.proofs.LineLemmas.{off_lines}
use Rattle.sj_party.specs.Leads.{LeadsTo}
use Rattle.sj_proto.proofs.RuleLemmas.{over_rule as over_first}

-- after pieces that are what is due
pub leads_stuck : (n : ℕ) (a b : At) (ps : List Piece) (ds es : List Due) (f : Fault) → BeginsOnLines a ps b → LeadsTo limits n ds ps es → ((m : ℕ) → Stuck file_layer limits m b es f) → Stuck file_layer limits n a ds f
leads_stuck n a b ps ds es f begins leads st = stuck_block file_layer limits n leads.count a b (spellings ps) ds es f (off_lines ps a b begins) (record { steps = leads.steps }) (st leads.count)

-- one too many of what begins with that word
pub first_fault : (a : At) (w : List ℕ) (full : Bool) (n : ℕ) (ds es : List Due) (f : Fault) → is_largest w ≡ false → bytes_eq w w ≡ true → step file_layer limits n ds w ≡ (if full then stops P4 else goes n es)
    → is_next w (next_of a.text.ahead) ≡ true → Refuses (but_first w full) a.text f → Stuck file_layer limits n a ds f
first_fault a w full n ds es f small same steps here r =
    let x = next_is (next_of a.text.ahead) w here in
    halts_stuck file_layer limits n a ds f (record { rule = r.rule; breaks = at_word x.0 x.1 x.2 r.refused; fault = r.fault })
  where
    at_word : (what : What) (rest : List ℕ) → next_of a.text.ahead ≡ token what w rest → refused (but_first w full) (next_of a.text.ahead) ≡ Some r.rule → broken file_layer limits n ds (next_of a.text.ahead) ≡ Some r.rule
    at_word what rest e h = rw (e, steps) (over_first full n es r.rule (rw (e, small, same) at h))

-- a token is no longer ahead
pub shorter_by : (r t : Reading) (s : List ℕ) → TakesText r s t → length t.ahead + length s ≤ length r.ahead
shorter_by r t s taken =
    let split = next_split r.ahead taken.what s taken.rest taken.token in
    let left : length t.ahead ≡ length taken.rest = ap (λ (x : Reading). length x.ahead) taken.there in
    let whole : length r.ahead ≡ length (split.skipped ++ (s ++ taken.rest)) = ap (λ (x : List ℕ). length x) split.whole in
    omega (arith, left, whole, length-append split.skipped (s ++ taken.rest), length-append s taken.rest)

-- whatever is counted
pub always_stuck : (due : List Due → List Due) (a : At) (e : ParseRefusal) → ((n : ℕ) → Stops due n a e) → OnFault (λ f. (n : ℕ) (ds : List Due) → Stuck file_layer limits n a (due ds) f) e
always_stuck due a (refusals.At f) h = λ n ds. h n ds
always_stuck due a refusals.NoMemory h = tt
