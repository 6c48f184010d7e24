-- A line that no rule refuses fits the places of its ends.
use Rattle.std.proofs.Common.{◌≡◌, ◌≢◌, ℕ, true, false, List, Some, None, length, option_map, refl, ap, sym, ◌∙◌, subst, ◌<◌}
use Rattle.std.specs.Str.{bytes_eq}
use Rattle.sj_base.specs.declared.EndId.{EndId}
use Rattle.sj_base.specs.declared.Msg.{Msg}
use Rattle.sj_base.specs.declared.Msg.TheVariants as msgs
use Rattle.sj_lang.specs.declared.proto.Way.TheVariants.{Into, Out}
use Rattle.sj_lang.specs.After.{after_place}
use Rattle.sj_lang.specs.FileAt.{FileAt}
use Rattle.sj_lang.specs.Meet.{StandsFor}
use Rattle.sj_lang.specs.MeetTests.{stands_for}
use Rattle.sj_lang.specs.Place.{Place, done, message, session}
use Rattle.sj_lang.proofs.MeetTestLemmas.{meets-Decides}
use Rattle.sj_acceptance.specs.Accepted.{IsAccepted}
use Rattle.sj_semantics.specs.declared.Passed.{Passed}
use Rattle.sj_semantics.specs.Balanced.{FitsNext}
use Rattle.sj_semantics.specs.Ends.{Session, end_at, next_for, other_end}
use Rattle.sj_semantics.specs.World.{begun_by, session_message}
use Rattle.sj_headline_laws.proofs.LeadLemmas.{pair_taking}
use Rattle.sj_headline_laws.proofs.TouchedLemmas.{pair_of, side}
use Rattle.sj_talk.specs.Doing.{message_next}
use Rattle.sj_talk.specs.Fits.{FitEach, FitsForm, FitsMessage}
use Rattle.sj_talk.specs.Forms as forms
use Rattle.sj_talk.specs.Forms.{FormAt}
use Rattle.sj_talk.specs.Moves.{IsTalk, Move}
use Rattle.sj_talk.specs.Names.{label_number}
use Rattle.sj_talk.specs.Rules.{carried_next, end_under, is_done, is_next, offers, place_under, refusal_of, selects, sends_end, sends_value, takes_end, tests_of, turns}
use Rattle.sj_talk.specs.TalkWorld.{TalkWorld}
use Rattle.sj_talk.proofs.AllowedLemmas.{SendsOn, carries_in, carries_out, holds_by_not, label_sends, names_by, neither, next_is, next_named, none_applies, stands_full, there_by, turn_sends, value_sends}
use Rattle.sj_talk.proofs.GuardLemmas.{Guarded}
use Rattle.sj_talk.proofs.MoveLemmas.{talk_guarded}

none_ahead : (p : Place) → is_done p ≡ true → p ≡ done
none_ahead done h = refl
none_ahead p h = cc

some_ahead : (p : Place) → is_done p ≡ false → p ≢ done
some_ahead p h e = let both : true ≡ false = sym (ap is_done e) ∙ h in cc

sends_so : (zs : List Session) (e : EndId) (m : Msg) → SendsOn zs (end_at zs e).place m → FitsMessage zs e Out m
sends_so zs e m s = record { next = s.next; after = s.after; fits = s.fits }

-- an end is sent where its place stands for the kind that is next
end_sent : (zs : List Session) (e y : EndId) (p : ℕ) (kind next : Place) → (end_at zs e).place ≡ message Out (session kind) next → kind ≢ done → StandsFor (end_at zs y).place kind
    → FitsMessage zs e Out (session_message y p)
end_sent zs e y p kind next is full stands = record {
  next = next;
  after = ap (λ q. after_place q Out (session_message y p)) is;
  fits = subst (λ (q : Place). FitsNext zs q (session_message y p)) (sym is) (full, stands);
}

-- the end that is taken stands for where it begins
begun_fits : (zs : List Session) (m : Msg) (p kind : Place) (s d k : ℕ) → m ≡ msgs.Sess s d k → p ≡ kind → StandsFor (end_at zs (side s d)).place kind → FitEach zs (begun_by p m)
begun_fits zs m p kind s d k is same stands =
    subst (λ (n : Msg). FitEach zs (begun_by p n)) (sym is) (subst (λ (q : Place). StandsFor (end_at zs (side s d)).place q) (sym same) stands, tt)

module _ (file : FileAt) (t : TalkWorld) (g : Guarded file t) where
  abbrev zs : List Session
  zs = t.world.sessions

  -- what is next for an end is there, and fits
  taken : (x : List ℕ) (m : Passed) → next_for zs (end_under t x) ≡ Some m → FitsMessage zs (end_under t x) Into m.msg
  taken x m is =
      let e = end_under t x in
      let taking = pair_taking zs (end_at zs e) (end_at zs (other_end e)) m (pair_of zs zs e g.sound.pairs) is in
      record { next = taking.next; after = taking.after; fits = taking.fits }

  takes_so : (x : List ℕ) (m : Passed) → next_for zs (end_under t x) ≡ Some m
      → (option_map (λ (y : Passed). y.msg) (next_for zs (end_under t x)) ≡ Some (message_next t x)) × FitsMessage zs (end_under t x) Into (message_next t x)
  takes_so x m is = (
    ap (option_map (λ (y : Passed). y.msg)) is ∙ ap Some (sym (next_is t x m is)),
    subst (FitsMessage zs (end_under t x) Into) (sym (next_is t x m is)) (taken x m is),
  )

  form_fits : (f : FormAt) → refusal_of t (Some f) ≡ None → FitsForm t f
  form_fits (forms.send x v) h =
      let a = none_applies (tests_of t (forms.send x v)) h in
      (sends_so zs (end_under t x) _ (value_sends zs t.file (place_under t x) v (holds_by_not (sends_value (place_under t x)) a.1.0) (holds_by_not (is_next (place_under t x) v) a.1.1.0)), tt)
  form_fits (forms.select x l) h =
      let a = none_applies (tests_of t (forms.select x l)) h in
      let o = label_number t.file l in
      (sends_so zs (end_under t x) _ (label_sends zs (place_under t x) o (holds_by_not (selects (place_under t x)) a.1.0) (holds_by_not (offers (place_under t x) o) a.1.1.0)), tt)
  form_fits (forms.turn x more) h =
      let a = none_applies (tests_of t (forms.turn x more)) h in
      (sends_so zs (end_under t x) _ (turn_sends zs (place_under t x) more (holds_by_not (turns (place_under t x)) a.1.0)), tt)
  form_fits (forms.delegate x y) h =
      let a = none_applies (tests_of t (forms.delegate x y)) h in
      let ends = neither (bytes_eq x y) (is_done (place_under t y)) a.1.1.0 in
      let o = carries_out (place_under t x) (holds_by_not (sends_end (place_under t x)) a.1.0) in
      let fits = holds_by_not (stands_for (place_under t y) (carried_next (place_under t x))) a.1.1.1.0 in
      let stands : StandsFor (place_under t y) o.kind = subst (StandsFor (place_under t y)) o.carried ((meets-Decides _ _).0 fits) in
      let sent = end_sent zs (end_under t x) (end_under t y) t.party o.kind o.next o.is (stands_full (place_under t y) o.kind ends.1 stands) stands in
      (some_ahead (place_under t y) ends.1, (sent, tt))
  form_fits (forms.take x) h =
      let a = none_applies (tests_of t (forms.take x)) h in
      let m = there_by (next_for zs (end_under t x)) a.1.1.1.0 in
      (takes_so x m.passed m.is, tt)
  form_fits (forms.take_end x y) h =
      let a = none_applies (tests_of t (forms.take_end x y)) h in
      let m = there_by (next_for zs (end_under t x)) a.1.1.1.1.0 in
      let i = carries_in (place_under t x) (holds_by_not (takes_end (place_under t x)) a.1.0) in
      let n = names_by zs i.kind i.next m.passed.msg (subst (λ (p : Place). FitsNext zs p m.passed.msg) i.is (taken x m.passed m.is).fits) in
      let begun = begun_fits zs (message_next t x) (carried_next (place_under t x)) i.kind n.sess n.end_side n.keeper (next_named t x m.passed i.kind m.is n) i.carried n.stands in
      (takes_so x m.passed m.is, begun)
  form_fits (forms.close x) h =
      let a = none_applies (tests_of t (forms.close x)) h in
      none_ahead (place_under t x) (holds_by_not (is_done (place_under t x)) a.1.0)

pub line_fits : (file : FileAt) (p : ℕ) (ms : List Move) (t : TalkWorld) (f : FormAt) → IsAccepted file → p < length file.parties → IsTalk file p ms t → refusal_of t (Some f) ≡ None → FitsForm t f
line_fits file p ms t f accepted there h allowed = form_fits file t (talk_guarded file p ms t accepted there h) f allowed
