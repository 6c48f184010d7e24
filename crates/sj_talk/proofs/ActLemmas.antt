-- What an accepted line leaves of a play.
use Rattle.std.proofs.Common.{◌≡◌, ℕ, ◌+◌, ◌<◌, false, List, [], ◌∷◌, Some, None, unwrap_or, ◌++◌, append-nil, refl, ap, sym, ◌∙◌, inr}
use Rattle.std.proofs.lemmas.Bool.{leb-false}
use Rattle.std.proofs.lemmas.List.{map-append}
use Rattle.sj_base.specs.declared.EndId.{EndId}
use Rattle.sj_semantics.specs.Ends.{Session}
use Rattle.sj_base.specs.declared.Msg.{Msg}
use Rattle.sj_base.specs.declared.Msg.TheVariants as msgs
use Rattle.sj_semantics.specs.Uses.{Use, after_uses, sends, takes}
use Rattle.sj_semantics.specs.World.{begun_by}
use Rattle.sj_talk.specs.Doing.{after_form, bound_by, message_next, used_by}
use Rattle.sj_talk.specs.Forms as forms
use Rattle.sj_talk.specs.Forms.{FormAt, ValueAt}
use Rattle.sj_talk.specs.Names.{Ends, label_number, message_of, texts_with}
use Rattle.sj_talk.specs.Play.{ends_at}
use Rattle.sj_talk.specs.Rules.{carried_next, end_under, is_full, is_worn, place_under, refusal_of, tests_of}
use Rattle.sj_talk.specs.TalkWorld.{OnlyTexts, TalkWorld, with_table}
use Rattle.sj_talk.specs.declared.names.Bound.{Bound}
use Rattle.sj_talk.proofs.AllowedLemmas.{neither, none_applies}

-- the talk world with other sessions and ends, one line later
abbrev pub stepped : TalkWorld → List Session → Ends → TalkWorld
stepped t zs es = record {
  file = t.file;
  party = t.party;
  world = record { protocols = t.world.protocols; parties = t.world.parties; sessions = zs; requests = t.world.requests };
  ends = es;
  lines = t.lines + 1;
}

pub stepped_is : (t : TalkWorld) (zs : List Session) (us vs : List (EndId × Use)) (bs es : Ends) → us ≡ vs → zs ≡ after_uses t.party us t.world.sessions → bs ≡ es → stepped t zs bs ≡ used_by t vs es
stepped_is t zs us vs bs es same used ends = λ i. stepped t ((used ∙ ap (λ x. after_uses t.party x t.world.sessions) same) i) (ends i)

-- the talk world with other sessions and ends that are seen as the old ones
pub still : (t : TalkWorld) (zs : List Session) (bs : Ends) → zs ≡ t.world.sessions → bs ≡ t.ends → record {
  file = t.file;
  party = t.party;
  world = record { protocols = t.world.protocols; parties = t.world.parties; sessions = zs; requests = t.world.requests };
  ends = bs;
  lines = t.lines;
} ≡ t
still t zs bs same kept = λ i. record {
  file = t.file;
  party = t.party;
  world = record { protocols = t.world.protocols; parties = t.world.parties; sessions = same i; requests = t.world.requests };
  ends = kept i;
  lines = t.lines;
}

not_full : (t : TalkWorld) → is_full t ≡ false → t.lines < 10000
not_full t h = leb-false 10000 t.lines h

-- where no rule refuses a line there is room for one more
pub room_by : (t : TalkWorld) (f : FormAt) → refusal_of t (Some f) ≡ None → t.lines < 10000
room_by t (forms.send x v) h = let a = none_applies (tests_of t (forms.send x v)) h in not_full t a.1.1.1.0
room_by t (forms.select x l) h = let a = none_applies (tests_of t (forms.select x l)) h in not_full t a.1.1.1.0
room_by t (forms.turn x more) h = let a = none_applies (tests_of t (forms.turn x more)) h in not_full t a.1.1.0
room_by t (forms.delegate x y) h = let a = none_applies (tests_of t (forms.delegate x y)) h in not_full t (neither (is_full t) (is_worn t y) a.1.1.1.1.0).0
room_by t (forms.take x) h = let a = none_applies (tests_of t (forms.take x)) h in not_full t a.1.1.0
room_by t (forms.take_end x y) h = let a = none_applies (tests_of t (forms.take_end x y)) h in not_full t a.1.1.1.0
room_by t (forms.close x) h = let a = none_applies (tests_of t (forms.close x)) h in not_full t a.1.1.0

-- and where no rule refuses a `delegate` the end that is sent may be delegated once more
pub hops_by : (t : TalkWorld) (x y : List ℕ) → refusal_of t (Some (forms.delegate x y)) ≡ None → is_worn t y ≡ false
hops_by t x y h = let a = none_applies (tests_of t (forms.delegate x y)) h in (neither (is_full t) (is_worn t y) a.1.1.1.1.0).1

-- ---- form by form

-- the text of a value is put into the table, and then the value is sent
pub value_used : (t u v : TalkWorld) (x : List ℕ) (w : ValueAt) (m : Msg) → m ≡ message_of t.file w → u ≡ with_table t (texts_with t.file w)
    → v ≡ used_by u ((end_under u x, sends m) ∷ []) u.ends → v ≡ after_form t (forms.send x w)
value_used t u v x w m is noted used = used ∙ (λ i. used_by (noted i) ((end_under (noted i) x, sends (is i)) ∷ []) (noted i).ends)

-- where it isn't sent then, only its text may have been put there
pub value_noted : (t u v : TalkWorld) (w : ValueAt) → u ≡ with_table t (texts_with t.file w) → v ≡ u → OnlyTexts t (texts_with t.file w) v
value_noted t u v w noted same = inr (same ∙ noted)

pub label_used : (t v : TalkWorld) (x l : List ℕ) (n : ℕ) → n ≡ unwrap_or (label_number t.file l) 0
    → v ≡ used_by t ((end_under t x, sends (msgs.Label n)) ∷ []) t.ends → v ≡ after_form t (forms.select x l)
label_used t v x l n is used = used ∙ ap (λ k. used_by t ((end_under t x, sends (msgs.Label k)) ∷ []) t.ends) is

pub take_used : (t v : TalkWorld) (x : List ℕ) (m : Msg) → m ≡ message_next t x
    → v ≡ used_by t ((end_under t x, takes m) ∷ []) t.ends → v ≡ after_form t (forms.take x)
take_used t v x m is used = used ∙ ap (λ k. used_by t ((end_under t x, takes k) ∷ []) t.ends) is

-- the end that the message names gets the name
pub end_used : (t v : TalkWorld) (x y : List ℕ) (m : Msg) → m ≡ message_next t x
    → v ≡ used_by t ((end_under t x, takes m) ∷ begun_by (carried_next (place_under t x)) m) (t.ends ++ bound_by y m) → v ≡ after_form t (forms.take_end x y)
end_used t v x y m is used = used ∙ ap (λ k. used_by t ((end_under t x, takes k) ∷ begun_by (carried_next (place_under t x)) k) (t.ends ++ bound_by y k)) is

-- a message that names no end binds none
pub nothing_used : (t v : TalkWorld) (x y : List ℕ) (m : Msg) → ((s d k : ℕ) → m ≡ msgs.Sess s d k → ⊥) → m ≡ message_next t x
    → v ≡ used_by t ((end_under t x, takes m) ∷ []) t.ends → v ≡ after_form t (forms.take_end x y)
nothing_used t v x y m other is used = end_used t v x y m is (used ∙ sym (as_before m other))
  where
    as_before : (n : Msg) → ((s d k : ℕ) → n ≡ msgs.Sess s d k → ⊥)
        → used_by t ((end_under t x, takes m) ∷ begun_by (carried_next (place_under t x)) n) (t.ends ++ bound_by y n) ≡ used_by t ((end_under t x, takes m) ∷ []) t.ends
    as_before (msgs.Sess s d k) other = absurd (other s d k refl)
    as_before (msgs.Int n) other = ap (used_by t ((end_under t x, takes m) ∷ [])) (append-nil t.ends)
    as_before (msgs.Bool b) other = ap (used_by t ((end_under t x, takes m) ∷ [])) (append-nil t.ends)
    as_before (msgs.Text n) other = ap (used_by t ((end_under t x, takes m) ∷ [])) (append-nil t.ends)
    as_before (msgs.Label n) other = ap (used_by t ((end_under t x, takes m) ∷ [])) (append-nil t.ends)
    as_before (msgs.More b) other = ap (used_by t ((end_under t x, takes m) ∷ [])) (append-nil t.ends)

-- an end under its name after the others
pub ends_more : (xs ys zs : List Bound) (b : Bound) (n : List ℕ) → zs ≡ ys ++ b ∷ [] → ys ≡ xs → b.name.items ≡ n → ends_at zs ≡ ends_at xs ++ (n, b.end) ∷ []
ends_more xs ys zs b n put kept is =
    ap ends_at (put ∙ ap (λ es. es ++ b ∷ []) kept) ∙ map-append (λ (c : Bound). (c.name.items, c.end)) xs (b ∷ []) ∙ ap (λ m. ends_at xs ++ (m, b.end) ∷ []) is
