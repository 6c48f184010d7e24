-- Lines that no rule refuses, and the start, keep a talk world guarded.
use Rattle.std.proofs.Common.{◌≡◌, ℕ, ◌+◌, ◌≤◌, ◌<◌, true, false, cond, List, [], ◌∷◌, ◌++◌, length, slice_get, Option, Some, None, option_map, unwrap_or, refl, ap, sym, ◌∙◌, subst, arith, inl, inr}
use Rattle.std.specs.Str.{bytes_eq}
use Rattle.std.proofs.lemmas.Bool.{cases_eq, false_from_ne_true}
use Rattle.std.proofs.lemmas.List.Sums.{sum_by-cons}
use Rattle.std.proofs.lemmas.Slice.Eq.{bytes_eq-Decides}
use Rattle.sj_base.specs.declared.EndId.{EndId}
use Rattle.sj_base.specs.declared.Msg.{Msg}
use Rattle.sj_base.specs.declared.Msg.TheVariants as msgs
use Rattle.sj_lang.specs.FileAt.{FileAt, ends_from, party_names}
use Rattle.sj_lang.specs.Meet.{StandsFor}
use Rattle.sj_lang.specs.MeetTests.{stands_for}
use Rattle.sj_lang.specs.Place.{Place}
use Rattle.sj_lang.proofs.MeetTestLemmas.{meets-Decides}
use Rattle.sj_acceptance.specs.Accepted.{IsAccepted}
use Rattle.sj_semantics.specs.Balanced.{FitsNext}
use Rattle.sj_semantics.specs.Ends.{end_at, is_end, next_for, other_end}
use Rattle.sj_semantics.specs.Program.{Program}
use Rattle.sj_semantics.specs.Uses.{altered_list, begins, takes}
use Rattle.sj_semantics.specs.World.{World, begun_by, program_of, start_of}
use Rattle.sj_semantics.proofs.StartLemmas.{program_at_start}
use Rattle.sj_semantics_laws.specs.Unshared.{IsToCome, bindings_of, claims_on, to_accept, to_open}
use Rattle.sj_semantics_laws.proofs.AlteredLemmas.{length-altered, slice_get-altered, slice_get-altered_other, sum_by-altered}
use Rattle.sj_semantics_laws.proofs.ClaimLemmas.{one_if}
use Rattle.sj_headline_laws.proofs.AcceptedLemmas.{start_is_sound}
use Rattle.sj_headline_laws.proofs.LeadLemmas.{pair_taking}
use Rattle.sj_headline_laws.proofs.PlacedLemmas.{party_there}
use Rattle.sj_headline_laws.proofs.OriginLemmas.{InTodo}
use Rattle.sj_headline_laws.proofs.TouchedLemmas.{pair_of, side}
use Rattle.sj_headline_laws.proofs.TypedLemmas.{FitsProgram}
use Rattle.sj_headline_laws.proofs.WorldLemmas.{Asks, Sound, Takes}
use Rattle.sj_talk.specs.Doing.{after_by_rule, after_form, after_line, bound_by, message_next, used_by}
use Rattle.sj_talk.specs.Forms as forms
use Rattle.sj_talk.specs.Forms.{FormAt, form_of}
use Rattle.sj_talk.specs.Names.{connected_ends, end_named, ends_without, label_number, message_of, spelled}
use Rattle.sj_talk.specs.Rules.{carried_next, end_under, is_done, is_free, is_next, offers, place_under, refusal_of, selects, sends_end, sends_value, takes_end, tests_of, turns}
use Rattle.sj_talk.specs.TalkWorld.{TalkWorld, no_program, talk_start, with_table, world_without}
use Rattle.sj_talk.proofs.AllowedLemmas.{carries_in, carries_out, holds_by_not, label_sends, names_by, names_nothing, neither, next_is, next_named, none_applies, some_by, stands_full, there_by, turn_sends, value_sends}
use Rattle.sj_talk.proofs.GuardLemmas.{Guarded}
use Rattle.sj_talk.proofs.PassLemmas.{guards_delegate, guards_take_end}
use Rattle.sj_talk.proofs.UseLemmas.{guards_close, guards_send, guards_take}
use Rattle.sj_talk.proofs.HeldLemmas.{held_by_name, holds, holds-without, named-without_other, numbered}

-- texts change nothing of it
tabled : (file : FileAt) (t : TalkWorld) (texts : List (List ℕ)) → Guarded file t → Guarded file (with_table t texts)
tabled file t texts g = record { sound = g.sound; once = g.once; apart = g.apart }

module _ (file : FileAt) (t : TalkWorld) (g : Guarded file t) where
  bound : (x : List ℕ) → is_free t x ≡ false → end_named t.ends x ≡ Some (end_under t x)
  bound x h = some_by (end_named t.ends x) (record { sess = 0; side = 0 }) h

  held : (x : List ℕ) → is_free t x ≡ false → 1 ≤ holds (end_under t x) t.ends
  held x h = held_by_name t.ends x (end_under t x) (bound x h)

  -- two names that are bound stand for two ends
  two_ends : (x y : List ℕ) → is_free t x ≡ false → is_free t y ≡ false → bytes_eq x y ≡ false → is_end (end_under t x) (end_under t y) ≡ false
  two_ends x y fx fy other =
      let apart : (b : List ℕ × EndId) → bytes_eq b.0 y ≡ true → bytes_eq b.0 x ≡ false = λ b hit.
      false_from_ne_true (bytes_eq b.0 x) (λ same.
      let is : x ≡ y = sym ((bytes_eq-Decides b.0 x).0 same) ∙ (bytes_eq-Decides b.0 y).0 hit in
      let both : bytes_eq x y ≡ true = (bytes_eq-Decides x y).1 is in cc) in
      let still = held_by_name (ends_without t.ends y) x (end_under t x) (named-without_other t.ends x y apart ∙ bound x fx) in
      false_from_ne_true (is_end (end_under t x) (end_under t y)) (λ same.
      absurd (omega (arith, still, holds-without (end_under t x) t.ends y (end_under t y) (bound y fy), ap {B = ℕ} one_if same, g.once (end_under t x))))

  -- the end that is taken is the one that the message names
  end_taken : (x y : List ℕ) (m : Msg) (p kind : Place) (s d k : ℕ) → m ≡ msgs.Sess s d k → p ≡ kind
      → Guarded file (used_by t ((end_under t x, takes (msgs.Sess s d k)) ∷ (side s d, begins kind) ∷ []) (t.ends ++ (y, side s d) ∷ []))
      → Guarded file (used_by t ((end_under t x, takes m) ∷ begun_by p m) (t.ends ++ bound_by y m))
  end_taken x y m p kind s d k is same guarded =
      subst (λ (q : Msg). Guarded file (used_by t ((end_under t x, takes q) ∷ begun_by p q) (t.ends ++ bound_by y q))) (sym is)
      (subst (λ (r : Place). Guarded file (used_by t ((end_under t x, takes (msgs.Sess s d k)) ∷ (side s d, begins r) ∷ []) (t.ends ++ (y, side s d) ∷ []))) (sym same) guarded)

  -- what each form leaves
  form_guarded : (f : FormAt) → refusal_of t (Some f) ≡ None → Guarded file (after_form t f)
  form_guarded (forms.send x v) h =
      let a = none_applies (tests_of t (forms.send x v)) h in
      let s = value_sends t.world.sessions t.file (place_under t x) v (holds_by_not (sends_value (place_under t x)) a.1.0) (holds_by_not (is_next (place_under t x) v) a.1.1.0) in
      tabled file _ _ (guards_send file t g (end_under t x) (message_of t.file v) s.next (held x a.0) s.after s.fits (names_nothing t.file v))
  form_guarded (forms.select x l) h =
      let a = none_applies (tests_of t (forms.select x l)) h in
      let o = label_number t.file l in
      let s = label_sends t.world.sessions (place_under t x) o (holds_by_not (selects (place_under t x)) a.1.0) (holds_by_not (offers (place_under t x) o) a.1.1.0) in
      tabled file _ _ (guards_send file t g (end_under t x) (msgs.Label (unwrap_or o 0)) s.next (held x a.0) s.after s.fits (λ f. refl))
  form_guarded (forms.turn x more) h =
      let a = none_applies (tests_of t (forms.turn x more)) h in
      let s = turn_sends t.world.sessions (place_under t x) more (holds_by_not (turns (place_under t x)) a.1.0) in
      tabled file _ _ (guards_send file t g (end_under t x) (msgs.More more) s.next (held x a.0) s.after s.fits (λ f. refl))
  form_guarded (forms.delegate x y) h =
      let a = none_applies (tests_of t (forms.delegate x y)) h in
      let free = neither (is_free t x) (is_free t y) a.0 in
      let ends = neither (bytes_eq x y) (is_done (place_under t y)) a.1.1.0 in
      let o = carries_out (place_under t x) (holds_by_not (sends_end (place_under t x)) a.1.0) in
      let fits = holds_by_not (stands_for (place_under t y) (carried_next (place_under t x))) a.1.1.1.0 in
      let stands : StandsFor (place_under t y) o.kind = subst (StandsFor (place_under t y)) o.carried ((meets-Decides _ _).0 fits) in
      tabled file _ _
      (guards_delegate file t g (end_under t x) (end_under t y) y o.next o.kind (held x free.0) (bound y free.1) (held y free.1) (two_ends x y free.0 free.1 ends.0) o.is stands
      (stands_full (place_under t y) o.kind ends.1 stands))
  form_guarded (forms.take x) h =
      let a = none_applies (tests_of t (forms.take x)) h in
      let m = there_by (next_for t.world.sessions (end_under t x)) a.1.1.1.0 in
      tabled file _ _
      (subst (λ (n : Msg). Guarded file (used_by t ((end_under t x, takes n) ∷ []) t.ends)) (sym (next_is t x m.passed m.is))
      (guards_take file t g (end_under t x) m.passed m.is (held x a.0)))
  form_guarded (forms.take_end x y) h =
      let a = none_applies (tests_of t (forms.take_end x y)) h in
      let e = end_under t x in
      let zs = t.world.sessions in
      let m = there_by (next_for zs e) a.1.1.1.1.0 in
      let i = carries_in (place_under t x) (holds_by_not (takes_end (place_under t x)) a.1.0) in
      let taking = pair_taking zs (end_at zs e) (end_at zs (other_end e)) m.passed (pair_of zs zs e g.sound.pairs) m.is in
      let n = names_by zs i.kind i.next m.passed.msg (subst (λ (p : Place). FitsNext zs p m.passed.msg) i.is taking.fits) in
      tabled file _ _
      (end_taken x y (message_next t x) (carried_next (place_under t x)) i.kind n.sess n.end_side n.keeper (next_named t x m.passed i.kind m.is n) i.carried
      (subst (λ (q : Msg). Guarded file (used_by t ((e, takes q) ∷ (side n.sess n.end_side, begins i.kind) ∷ []) (t.ends ++ (y, side n.sess n.end_side) ∷ []))) n.is
      (guards_take_end file t g e m.passed m.is (held x a.0) y n.sess n.end_side n.keeper i.kind n.is n.stands)))
  form_guarded (forms.close x) h = tabled file _ _ (guards_close file t g x)

-- ---- a line

by_rule_guarded : (file : FileAt) (t : TalkWorld) (o : Option FormAt) (r : Option ℕ) → Guarded file t → refusal_of t o ≡ r → Guarded file (after_by_rule t o r)
by_rule_guarded file t o (Some n) g h = g
by_rule_guarded file t None None g h = g
by_rule_guarded file t (Some f) None g h = form_guarded file t g f h

pub line_guarded : (file : FileAt) (t : TalkWorld) (line : List ℕ) → Guarded file t → Guarded file (after_line t line)
line_guarded file t line g = by_rule_guarded file t (form_of line) (refusal_of t (form_of line)) g refl

pub texts_guarded : (file : FileAt) (t : TalkWorld) (texts : List (List ℕ)) → Guarded file t → Guarded file (with_table t texts)
texts_guarded file t texts g = tabled file t texts g

-- ---- the start

own_program : (w : World) (p : ℕ) (g c h : Program) → slice_get w.parties p ≡ Some g → slice_get (altered_list w.parties p (λ k. c)) p ≡ Some h → c ≡ h
own_program w p g c h there at = let both : Some c ≡ Some h = sym (slice_get-altered w.parties p (λ k. c) ∙ ap (option_map (λ k. c)) there) ∙ at in cc

-- a fact of each party's program, where it holds of the new one and stays for the others
each_program : (P : ℕ → Program → Type 0) (w : World) (p : ℕ) (g c : Program) → slice_get w.parties p ≡ Some g → P p c → ((q : ℕ) (h : Program) → (p ≡ q → ⊥) → slice_get w.parties q ≡ Some h → P q h)
    → (q : ℕ) (h : Program) → slice_get (altered_list w.parties p (λ k. c)) q ≡ Some h → P q h
each_program P w p g c there own others q h at =
    elim (cases_eq p q) [
      | inl it ↦ subst (λ (n : ℕ). P n h) it (subst (P p) (own_program w p g c h there (ap (slice_get (altered_list w.parties p (λ k. c))) it ∙ at)) own)
      | inr other ↦ others q h other (sym (slice_get-altered_other w.parties p q (λ k. c) other) ∙ at)
    ]

numbered-spelled : (ws : List (List ℕ)) (bs : List (ℕ × EndId)) (e : EndId) → bindings_of e (numbered (spelled ws bs)) ≡ bindings_of e bs
numbered-spelled ws [] e = refl
numbered-spelled ws (b ∷ bs) e = omega (
  arith,
  sum_by-cons (λ (c : ℕ × EndId). cond (is_end e c.1) 1 0) (0, b.1) (numbered (spelled ws bs)),
  sum_by-cons (λ (c : ℕ × EndId). cond (is_end e c.1) 1 0) b bs,
  numbered-spelled ws bs e,
)

module _ (file : FileAt) (p : ℕ) (accepted : IsAccepted file) (there : p < length file.parties) where
  sound : Sound file (start_of file)
  sound = start_is_sound file accepted

  abbrev own : Program
  own = program_of file p (party_there file.parties p there).party

  own_there : slice_get (start_of file).parties p ≡ Some own
  own_there = program_at_start file p (party_there file.parties p there).party (party_there file.parties p there).there

  -- what the party's program had bound is held
  claims : (e : EndId) → claims_on e (world_without file p) + holds e (connected_ends file p) ≡ claims_on e (start_of file)
  claims e = omega (
    arith,
    sum_by-altered (λ (g : Program). bindings_of e g.ends) (start_of file).parties p (λ g. no_program file) own own_there,
    numbered-spelled file.words (ends_from file p 0 file.connects) e,
  )

  come : (e : EndId) → IsToCome (world_without file p) e → IsToCome (start_of file) e
  come e (to_open q k le lt is) = to_open q k le lt is
  come e (to_accept q k r at none is second) = to_accept q k r at none is second

  idle_fits : FitsProgram file.protocols (party_names file.parties) (start_of file).sessions (no_program file)
  idle_fits = record { env = record { places = λ n. None; kinds = λ n. None }; agrees = record { places = λ n. refl; kinds = λ n k h. cc }; does = λ n. refl }

  start_sound : Sound file (world_without file p)
  start_sound = record {
    agree = sound.agree;
    unshared = record {
      once = λ e. omega (arith, claims e, sound.unshared.once e);
      to_come = λ e t. omega (arith, claims e, sound.unshared.to_come e (come e t));
      few = sound.unshared.few;
    };
    protocols = sound.protocols;
    many = length-altered (start_of file).parties p (λ g. no_program file) ∙ sound.many;
    pairs = sound.pairs;
    programs = each_program (λ q h. FitsProgram file.protocols (party_names file.parties) (start_of file).sessions h) (start_of file) p own (no_program file) own_there idle_fits (λ q h ne at. sound.programs q h at);
    peers = each_program (λ q h. h.peers ≡ party_names file.parties) (start_of file) p own (no_program file) own_there refl (λ q h ne at. sound.peers q h at);
    origins = each_program (λ q h. InTodo (Asks file q) (Takes file q) h.todo) (start_of file) p own (no_program file) own_there tt (λ q h ne at. sound.origins q h at);
    unopened = sound.unopened;
    offered = λ q k r at none. let o = sound.offered q k r at none in record { protocol = o.protocol; party = o.party; asks = o.asks; to_it = o.to_it; at = o.at };
  }

  pub start_guarded : Guarded file (talk_start file p)
  start_guarded = record {
    sound = start_sound;
    once = λ e. omega (arith, claims e, sound.unshared.once e);
    apart = λ e t. omega (arith, claims e, sound.unshared.to_come e (come e t));
  }
