-- An act that opens and accepts nothing leaves every end that it doesn't name as it was.
use Rattle.std.proofs.Common.{◌≡◌, ℕ, ◌+◌, List, [], ◌∷◌, refl}
use Rattle.std.specs.Prelude.{⊤, Bool, true, false, ◌&&◌, nat_lt, if◌then◌else◌, Option, Some, None, option_map}
use Rattle.sj_base.specs.declared.EndId.{EndId}
use Rattle.sj_base.specs.declared.Msg.{Msg}
use Rattle.sj_base.specs.declared.Msg.TheVariants as msgs
use Rattle.sj_lang.specs.declared.proto.Way.TheVariants.{Out, Into}
use Rattle.sj_rules.specs.Limits.{limit_of_hops}
use Rattle.sj_rules.specs.Record.{HeldAt, MainAt, Held, Closed, Expected, Parked, is_same_end}
use Rattle.sj_rules.specs.Rows.{Worked}
use Rattle.sj_rules.specs.Node.{Want, ended, local, sends, delegates, takes, closes, requests, accepts, Play, NodeAt, put, with_main, with_old, send_act, delegate_act, take_act, take_from, close_act, work_of_take, is_free, held_behind_take, act_by, acts}

-- the message names another end
abbrev pub MsgApart : EndId → Msg → Type 0
MsgApart e (msgs.Sess sess side keeper) = is_same_end e (record { sess = sess; side = side }) ≡ false
MsgApart e (msgs.Int k) = ⊤
MsgApart e (msgs.Bool k) = ⊤
MsgApart e (msgs.Text k) = ⊤
MsgApart e (msgs.Label k) = ⊤
MsgApart e (msgs.More k) = ⊤

-- m has of the end, and of what is opened and offered, what n has
pub record SameAt {P Q : Type 0} (e : EndId) (n m : NodeAt P Q) : Type 0 where
  pub main : m.main e ≡ n.main e
  pub old : m.old e ≡ n.old e
  pub requests : m.requests ≡ n.requests
  pub offers : (q : ℕ) → m.offers q ≡ n.offers q

module _ {P Q : Type 0} (e : EndId) where
  -- and so does its next step, which opens and accepts nothing
  abbrev pub NamesApart : NodeAt P Q → Want P → Type 0
  NamesApart n ended = ⊤
  NamesApart n local = ⊤
  NamesApart n (sends c msg) = is_same_end e c ≡ false
  NamesApart n (delegates c d) = (is_same_end e c ≡ false) × (is_same_end e d ≡ false)
  NamesApart n (takes c place) = (is_same_end e c ≡ false) × ((h : HeldAt P) (msg : Msg) (rest : List Msg) → n.main c ≡ Some (Held h) → h.untaken ≡ msg ∷ rest → MsgApart e msg)
  NamesApart n (closes c) = is_same_end e c ≡ false
  NamesApart n (requests place to) = ⊥
  NamesApart n (accepts place from) = ⊥

  -- what a rule leaves, where it fits
  abbrev pub ApartBy : NodeAt P Q → Option (Worked P (NodeAt P Q)) → Type 0
  ApartBy n None = ⊤
  ApartBy n (Some w) = SameAt e n w.state

  apart_map : {X : Type 0} → (n : NodeAt P Q) (f : X → Worked P (NodeAt P Q)) → ((x : X) → SameAt e n (f x).state) → (o : Option X) → ApartBy n (option_map f o)
  apart_map n f s None = tt
  apart_map n f s (Some x) = s x

  apart_if : (n : NodeAt P Q) (b : Bool) (o : Option (Worked P (NodeAt P Q))) → ApartBy n o → ApartBy n (if b then o else None)
  apart_if n true o s = s
  apart_if n false o s = tt

  apart_unless : (n : NodeAt P Q) (b : Bool) (o : Option (Worked P (NodeAt P Q))) → ApartBy n o → ApartBy n (if b then None else o)
  apart_unless n true o s = tt
  apart_unless n false o s = s

  same_main : (n m : NodeAt P Q) → SameAt e n m → (c : EndId) (new : Option (MainAt P)) → is_same_end e c ≡ false → SameAt e n (with_main c new m)
  same_main n m s c new i = record { main = rw i s.main; old = s.old; requests = s.requests; offers = s.offers }

  module _ (play : Play P Q) where
    send_apart : (n m : NodeAt P Q) → SameAt e n m → (c : EndId) (msg : Msg) → is_same_end e c ≡ false → (o : Option (MainAt P)) → ApartBy n (send_act play m c msg o)
    send_apart n m s c msg i None = tt
    send_apart n m s c msg i (Some (Closed g)) = tt
    send_apart n m s c msg i (Some (Expected keeper place ds)) = tt
    send_apart n m s c msg i (Some (Held h)) =
        apart_map n _ (λ place. same_main n (record m { program = play.goes m.program None }) (record { main = s.main; old = s.old; requests = s.requests; offers = s.offers }) c _ i) (play.next h.end.place Out msg)

    delegate_apart : (p : ℕ) (n : NodeAt P Q) (c d : EndId) → is_same_end e c ≡ false → is_same_end e d ≡ false → (o : Option (MainAt P)) → ApartBy n (delegate_act play p n c d o)
    delegate_apart p n c d i j None = tt
    delegate_apart p n c d i j (Some (Closed g)) = tt
    delegate_apart p n c d i j (Some (Expected keeper place ds)) = tt
    delegate_apart p n c d i j (Some (Held h)) =
        let m : NodeAt P Q = with_main d None (with_old d (Some (Parked (record h.end { hops = h.end.hops + 1 }))) n) in
        apart_if n (nat_lt h.end.hops limit_of_hops) (send_act play m c (msgs.Sess d.sess d.side p) (put d None n.main c))
        (send_apart n m (record { main = rw j refl; old = rw j refl; requests = refl; offers = λ q. refl }) c (msgs.Sess d.sess d.side p) i (put d None n.main c))

    brought_apart : (n m : NodeAt P Q) → SameAt e n m → (place : P) (msg : Msg) → MsgApart e msg → SameAt e n (work_of_take place msg m).state
    brought_apart n m s place (msgs.Sess sess side keeper) i = same_main n m s (record { sess = sess; side = side }) _ i
    brought_apart n m s place (msgs.Int k) i = s
    brought_apart n m s place (msgs.Bool k) i = s
    brought_apart n m s place (msgs.Text k) i = s
    brought_apart n m s place (msgs.Label k) i = s
    brought_apart n m s place (msgs.More k) i = s

    take_from_apart : (n : NodeAt P Q) (c : EndId) (place : P) → is_same_end e c ≡ false → (h : HeldAt P) (l : List Msg) → ((msg : Msg) (rest : List Msg) → l ≡ msg ∷ rest → MsgApart e msg) → ApartBy n (take_from play n c place h l)
    take_from_apart n c place i h [] heads = tt
    take_from_apart n c place i h (msg ∷ rest) heads =
        apart_if n (play.fits n.program msg && is_free n msg) _
        (apart_map n _ (λ after. brought_apart n (with_main c (Some (Held (held_behind_take h rest after))) (record n { program = play.goes n.program (Some msg) }))
        (same_main n (record n { program = play.goes n.program (Some msg) }) (record { main = refl; old = refl; requests = refl; offers = λ q. refl }) c (Some (Held (held_behind_take h rest after))) i) place msg (heads msg rest refl))
        (play.next h.end.place Into msg))

    take_apart : (n : NodeAt P Q) (c : EndId) (place : P) → is_same_end e c ≡ false → (o : Option (MainAt P)) → ((h : HeldAt P) (msg : Msg) (rest : List Msg) → o ≡ Some (Held h) → h.untaken ≡ msg ∷ rest → MsgApart e msg) → ApartBy n (take_act play n c place o)
    take_apart n c place i None heads = tt
    take_apart n c place i (Some (Closed g)) heads = tt
    take_apart n c place i (Some (Expected keeper q ds)) heads = tt
    take_apart n c place i (Some (Held h)) heads = take_from_apart n c place i h h.untaken (λ msg rest j. heads h msg rest refl j)

    close_apart : (n : NodeAt P Q) (c : EndId) → is_same_end e c ≡ false → (o : Option (MainAt P)) → ApartBy n (close_act play n c o)
    close_apart n c i None = tt
    close_apart n c i (Some (Closed g)) = tt
    close_apart n c i (Some (Expected keeper place ds)) = tt
    close_apart n c i (Some (Held h)) = apart_if n (play.is_over h.end.place) (Some _) (same_main n (record n { program = play.goes n.program None }) (record { main = refl; old = refl; requests = refl; offers = λ q. refl }) c _ i)

    by_apart : (p : ℕ) (n : NodeAt P Q) (want : Want P) → NamesApart n want → ApartBy n (act_by play p n want)
    by_apart p n ended i = tt
    by_apart p n local i = record { main = refl; old = refl; requests = refl; offers = λ q. refl }
    by_apart p n (sends c msg) i = send_apart n n (record { main = refl; old = refl; requests = refl; offers = λ q. refl }) c msg i (n.main c)
    by_apart p n (delegates c d) i = delegate_apart p n c d i.0 i.1 (n.main d)
    by_apart p n (takes c place) i = take_apart n c place i.0 (n.main c) i.1
    by_apart p n (closes c) i = close_apart n c i (n.main c)
    by_apart p n (requests place to) i = absurd i
    by_apart p n (accepts place from) i = absurd i

    -- the act of a party
    pub acts_apart : (p : ℕ) (n : NodeAt P Q) → NamesApart n (play.wants n.program) → ApartBy n (acts play p n)
    acts_apart p n i = apart_unless n (play.is_worn n.program) (act_by play p n (play.wants n.program)) (by_apart p n (play.wants n.program) i)
