-- What a lane holds of Opens, once a frame that is none was popped, and once frames that are none
-- were posted.
use Rattle.std.proofs.Common.{◌≡◌, ℕ, List, [], ◌∷◌, ◌++◌, refl, sym, ap, ◌∙◌, append-nil}
use Rattle.std.specs.Prelude.{Bool, true, false, not, ◌&&◌, ◌||◌, ◌==◌, if◌then◌else◌, map, filter, Option, Some, None}
use Rattle.std.proofs.lemmas.Bool.{eqb-true}
use Rattle.sj_base.specs.declared.EndId.{EndId}
use Rattle.sj_rules.specs.Record.{BodyAt, Carry, Fin, Claim, Signal, Ack, Give, Open, Mail}
use Rattle.sj_rules.specs.Opened.{is_open, is_open_of, session_opened, opened_in, opens}
use Rattle.sj_rules.specs.Frames.{FrameAt, frames_for}
use Rattle.sj_rules.specs.World.{with_lane, lanes_with}
use Rattle.sj_rules.specs.Shown.{bodies}
use Rattle.sj_rules.specs.Reading.{without_opens}
use Rattle.sj_opened_lemmas.proofs.PostedLemmas.{AreUnopened}

-- what is no Open is the Open of no end, and opens no session
pub opens_none : {P : Type 0} → (e : EndId) (b : BodyAt P) → is_open b ≡ false → is_open_of e b ≡ false
opens_none e (Carry to conn number taken msg) i = refl
opens_none e (Fin to conn number) i = refl
opens_none e (Claim of) i = refl
opens_none e (Signal to conn party taken) i = refl
opens_none e (Ack of conn) i = refl
opens_none e (Give g resend) i = refl
opens_none e (Open sess) i = absurd (cc i)

pub session_none : {P : Type 0} → (b : BodyAt P) → is_open b ≡ false → session_opened b ≡ None
session_none (Carry to conn number taken msg) i = refl
session_none (Fin to conn number) i = refl
session_none (Claim of) i = refl
session_none (Signal to conn party taken) i = refl
session_none (Ack of conn) i = refl
session_none (Give g resend) i = refl
session_none (Open sess) i = absurd (cc i)

-- a number in front, where there is one
abbrev some_more : (o : Option ℕ) (xs : List ℕ) → List ℕ
some_more None xs = xs
some_more (Some x) xs = x ∷ xs

some_more_append : (o : Option ℕ) (xs ys : List ℕ) → some_more o (xs ++ ys) ≡ some_more o xs ++ ys
some_more_append None xs ys = refl
some_more_append (Some x) xs ys = refl

module _ {P : Type 0} where
  -- a frame more in front
  pub front_opens : (e : EndId) (f : FrameAt P) (rest : List (FrameAt P)) → is_open f.body ≡ false → opens e (bodies (f ∷ rest)) ≡ opens e (bodies rest)
  front_opens e f rest i = ap (λ b. b || opens e (bodies rest)) (opens_none e f.body i)

  pub front_opened : (f : FrameAt P) (rest : List (FrameAt P)) → is_open f.body ≡ false → opened_in (bodies (f ∷ rest)) ≡ opened_in (bodies rest)
  front_opened f rest i = by (session_opened f.body) (session_none f.body i)
    where
      by : (o : Option ℕ) → o ≡ None → opened_in (bodies (f ∷ rest)) ≡ opened_in (bodies rest)
      by o j = rw (session_none f.body i) refl

  pub front_without : (f : FrameAt P) (rest : List (FrameAt P)) → is_open f.body ≡ false → without_opens (f ∷ rest) ≡ f ∷ without_opens rest
  front_without f rest i = rw i refl

  -- one more post that is no Open
  more_opens : (e : EndId) (b : Bool) (clock : ℕ) (m : Mail P) (fs : List (FrameAt P)) → is_open m.body ≡ false → opens e (bodies fs) ≡ false → opens e (bodies (if b then record { clock = clock; body = m.body } ∷ fs else fs)) ≡ false
  more_opens e true clock m fs i j = front_opens e (record { clock = clock; body = m.body }) fs i ∙ j
  more_opens e false clock m fs i j = j

  more_opened : (b : Bool) (clock : ℕ) (m : Mail P) (fs : List (FrameAt P)) → is_open m.body ≡ false → opened_in (bodies fs) ≡ [] → opened_in (bodies (if b then record { clock = clock; body = m.body } ∷ fs else fs)) ≡ []
  more_opened true clock m fs i j = front_opened (record { clock = clock; body = m.body }) fs i ∙ j
  more_opened false clock m fs i j = j

  more_without : (b : Bool) (clock : ℕ) (m : Mail P) (fs : List (FrameAt P)) → is_open m.body ≡ false → without_opens fs ≡ fs →
      without_opens (if b then record { clock = clock; body = m.body } ∷ fs else fs) ≡ (if b then record { clock = clock; body = m.body } ∷ fs else fs)
  more_without true clock m fs i j = front_without (record { clock = clock; body = m.body }) fs i ∙ ap (λ l. record { clock = clock; body = m.body } ∷ l) j
  more_without false clock m fs i j = j

  -- frames of posts, the first of which goes to that party or not
  pub first_frame : (to clock : ℕ) (m : Mail P) (ms : List (Mail P)) → frames_for to clock (m ∷ ms) ≡ (if to == m.party then record { clock = clock; body = m.body } ∷ frames_for to clock ms else frames_for to clock ms)
  first_frame to clock m ms = by (to == m.party)
    where
      by : (b : Bool) → map (λ x. record { clock = clock; body = x.body }) (if b then m ∷ filter (λ x. to == x.party) ms else filter (λ x. to == x.party) ms)
          ≡ (if b then record { clock = clock; body = m.body } ∷ frames_for to clock ms else frames_for to clock ms)
      by true = refl
      by false = refl

  -- frames of posts that are no Opens
  pub posts_open : (e : EndId) (to clock : ℕ) (posts : List (Mail P)) → AreUnopened posts → opens e (bodies (frames_for to clock posts)) ≡ false
  posts_open e to clock [] u = refl
  posts_open e to clock (m ∷ ms) u = ap (λ l. opens e (bodies l)) (first_frame to clock m ms) ∙ more_opens e (to == m.party) clock m (frames_for to clock ms) u.0 (posts_open e to clock ms u.1)

  posts_opened : (to clock : ℕ) (posts : List (Mail P)) → AreUnopened posts → opened_in (bodies (frames_for to clock posts)) ≡ []
  posts_opened to clock [] u = refl
  posts_opened to clock (m ∷ ms) u = ap (λ l. opened_in (bodies l)) (first_frame to clock m ms) ∙ more_opened (to == m.party) clock m (frames_for to clock ms) u.0 (posts_opened to clock ms u.1)

  posts_without : (to clock : ℕ) (posts : List (Mail P)) → AreUnopened posts → without_opens (frames_for to clock posts) ≡ frames_for to clock posts
  posts_without to clock [] u = refl
  posts_without to clock (m ∷ ms) u =
      ap without_opens (first_frame to clock m ms) ∙ more_without (to == m.party) clock m (frames_for to clock ms) u.0 (posts_without to clock ms u.1) ∙ sym (first_frame to clock m ms)

  -- and after others
  pub behind_opens : (e : EndId) (fs gs : List (FrameAt P)) → opens e (bodies gs) ≡ false → opens e (bodies (fs ++ gs)) ≡ opens e (bodies fs)
  behind_opens e [] gs u = u
  behind_opens e (f ∷ fs) gs u = ap (λ b. is_open_of e f.body || b) (behind_opens e fs gs u)

  front_session : (b : BodyAt P) (bs : List (BodyAt P)) → opened_in (b ∷ bs) ≡ some_more (session_opened b) (opened_in bs)
  front_session (Carry to conn number taken msg) bs = refl
  front_session (Fin to conn number) bs = refl
  front_session (Claim of) bs = refl
  front_session (Signal to conn party taken) bs = refl
  front_session (Ack of conn) bs = refl
  front_session (Give g resend) bs = refl
  front_session (Open sess) bs = refl

  pub append_opened : (fs gs : List (FrameAt P)) → opened_in (bodies (fs ++ gs)) ≡ opened_in (bodies fs) ++ opened_in (bodies gs)
  append_opened [] gs = refl
  append_opened (f ∷ fs) gs =
      front_session f.body (bodies (fs ++ gs)) ∙ ap (some_more (session_opened f.body)) (append_opened fs gs) ∙ some_more_append (session_opened f.body) (opened_in (bodies fs)) (opened_in (bodies gs))
      ∙ ap (λ l. l ++ opened_in (bodies gs)) (sym (front_session f.body (bodies fs)))

  kept_if : (b : Bool) (f : FrameAt P) (xs ys : List (FrameAt P)) → (if b then f ∷ (xs ++ ys) else xs ++ ys) ≡ (if b then f ∷ xs else xs) ++ ys
  kept_if true f xs ys = refl
  kept_if false f xs ys = refl

  pub append_without : (fs gs : List (FrameAt P)) → without_opens (fs ++ gs) ≡ without_opens fs ++ without_opens gs
  append_without [] gs = refl
  append_without (f ∷ fs) gs = ap (λ l. if not (is_open f.body) then f ∷ l else l) (append_without fs gs) ∙ kept_if (not (is_open f.body)) f (without_opens fs) (without_opens gs)

-- two tables of lanes hold the same Opens
pub record OpensSame {P : Type 0} (lanes old : ℕ → ℕ → List (FrameAt P)) : Type 0 where
  pub opens : (from to : ℕ) (e : EndId) → opens e (bodies (lanes from to)) ≡ opens e (bodies (old from to))
  pub opened : (from to : ℕ) → opened_in (bodies (lanes from to)) ≡ opened_in (bodies (old from to))

module _ {P : Type 0} (q p : ℕ) (f : FrameAt P) (rest : List (FrameAt P)) (lanes : ℕ → ℕ → List (FrameAt P)) (front : lanes q p ≡ f ∷ rest) where
  -- in the lane of the pop
  at_pop : (from to : ℕ) → ((from == q) && (to == p)) ≡ true → lanes from to ≡ f ∷ rest
  at_pop from to e = by (from == q) (to == p) refl refl e
    where
      by : (a b : Bool) → (from == q) ≡ a → (to == p) ≡ b → (a && b) ≡ true → lanes from to ≡ f ∷ rest
      by true true i j k = let c : from ≡ q = eqb-true from q i in let d : to ≡ p = eqb-true to p j in rw (c, d) front
      by true false i j k = absurd (cc k)
      by false b i j k = absurd (cc k)

  module _ (plain : is_open f.body ≡ false) where
    -- a frame that is no Open was popped
    pub popped_same : OpensSame (with_lane q p rest lanes) lanes
    popped_same = record { opens = λ from to e. at_open from to e ((from == q) && (to == p)) refl; opened = λ from to. at_opened from to ((from == q) && (to == p)) refl }
      where
        at_open : (from to : ℕ) (e : EndId) (b : Bool) → ((from == q) && (to == p)) ≡ b → opens e (bodies (if b then rest else lanes from to)) ≡ opens e (bodies (lanes from to))
        at_open from to e true i = sym (front_opens e f rest plain) ∙ sym (ap (λ l. opens e (bodies l)) (at_pop from to i))
        at_open from to e false i = refl

        at_opened : (from to : ℕ) (b : Bool) → ((from == q) && (to == p)) ≡ b → opened_in (bodies (if b then rest else lanes from to)) ≡ opened_in (bodies (lanes from to))
        at_opened from to true i = sym (front_opened f rest plain) ∙ sym (ap (λ l. opened_in (bodies l)) (at_pop from to i))
        at_opened from to false i = refl

module _ {P : Type 0} (p clock : ℕ) (posts : List (Mail P)) (lanes : ℕ → ℕ → List (FrameAt P)) (none : AreUnopened posts) where
  -- frames that are no Opens were posted
  pub posted_same : OpensSame (lanes_with p clock posts lanes) lanes
  posted_same = record { opens = λ from to e. at_open from to e (from == p); opened = λ from to. at_opened from to (from == p) }
    where
      at_open : (from to : ℕ) (e : EndId) (b : Bool) → opens e (bodies (if b then lanes from to ++ frames_for to clock posts else lanes from to)) ≡ opens e (bodies (lanes from to))
      at_open from to e true = behind_opens e (lanes from to) (frames_for to clock posts) (posts_open e to clock posts none)
      at_open from to e false = refl

      at_opened : (from to : ℕ) (b : Bool) → opened_in (bodies (if b then lanes from to ++ frames_for to clock posts else lanes from to)) ≡ opened_in (bodies (lanes from to))
      at_opened from to true = append_opened (lanes from to) (frames_for to clock posts) ∙ ap (λ l. opened_in (bodies (lanes from to)) ++ l) (posts_opened to clock posts none) ∙ append-nil (opened_in (bodies (lanes from to)))
      at_opened from to false = refl

  -- without Opens they are posted all the same
  pub posted_without : (from to : ℕ) → without_opens (lanes_with p clock posts lanes from to) ≡ lanes_with p clock posts (λ a b. without_opens (lanes a b)) from to
  posted_without from to = by (from == p)
    where
      by : (b : Bool) → without_opens (if b then lanes from to ++ frames_for to clock posts else lanes from to) ≡ (if b then without_opens (lanes from to) ++ frames_for to clock posts else without_opens (lanes from to))
      by true = append_without (lanes from to) (frames_for to clock posts) ∙ ap (λ l. without_opens (lanes from to) ++ l) (posts_without to clock posts none)
      by false = refl

-- a lane that was set, without its Opens
pub set_without : {P : Type 0} → (q p : ℕ) (rest : List (FrameAt P)) (lanes : ℕ → ℕ → List (FrameAt P)) (from to : ℕ) →
    without_opens (with_lane q p rest lanes from to) ≡ with_lane q p (without_opens rest) (λ a b. without_opens (lanes a b)) from to
set_without q p rest lanes from to = by ((from == q) && (to == p))
  where
    by : (b : Bool) → without_opens (if b then rest else lanes from to) ≡ (if b then without_opens rest else without_opens (lanes from to))
    by true = refl
    by false = refl
