-- What becomes of a guest by one thing that its code asks for after another.
use Rattle.std.proofs.Common.{◌≡◌, ◌∙◌, ℕ, length, List, [], ◌∷◌, ◌++◌, append-nil, append_assoc, None, Result, Ok, Err, IfOk, OnErr, refl, sym, ap, arith}
use Rattle.std.proofs.lemmas.List.{map-append}
use Rattle.sj_lang.specs.FileAt.{FileAt}
use Rattle.sj_node.specs.Reading.{parties_of}
use Rattle.sj_seat_laws.specs.Calls.{Call, takes}
use Rattle.sj_seat.specs.Asking.{Tells, calls_made}
use Rattle.sj_seat.specs.Views.{node_of, seat_of, worker_of}
use Rattle.sj_seat.specs.Went.{Keeps, Went}
use Rattle.sj_seat.specs.Wishes.{open_wished, wished}
use Rattle.sj_seat.specs.declared.ask.Ask.{Ask}
use Rattle.sj_seat.specs.declared.ask.Ask.TheVariants as asks
use Rattle.sj_seat.specs.declared.ask.Outcome.{Outcome}
use Rattle.sj_seat.specs.declared.ask.Outcome.TheVariants as outcomes
use Rattle.sj_seat.specs.declared.wish.OpenWish.{OpenWish}
use Rattle.sj_seat.specs.declared.wish.OpenWish.TheVariants.{Request, Accept}
use Rattle.sj_seat.specs.declared.wish.OpenedSession.{OpenedSession}
use Rattle.sj_seat.specs.declared.wish.Wish.{Wish}
use Rattle.sj_seat.specs.declared.wish.Wish.TheVariants.{Send, Delegate, Take, TakeEnd, Close}
use Rattle.sj_seat.specs.declared.guest.Guest.{Guest}
use Rattle.sj_seat.specs.declared.refusal.SeatRefusal.{SeatRefusal}
use Rattle.sj_seat.proofs.AfterLemmas.{done_after, keeps_later, nothing_done}
use Rattle.sj_seat.proofs.CountLemmas.{CountedBy, counted_itself, counted_later}
use Rattle.sj_work.specs.Views.{stop_of}
use Rattle.sj_work.specs.Worked.{kept_stop}
use Rattle.sj_work.proofs.LaneLaws.{LaneLaws}
use Rattle.sj_seats.specs.Calling.{protocol_asked}
use Rattle.sj_seat_run.specs.Asked.{Lists, protocols_in, protocols_of}
use Rattle.sj_seat_run.specs.Played.{Attends, Played, PlayedSo}

module _ {O I G : Type 0} (k : LaneLaws O I) where
  abbrev pub PlayedBy : (a b : Guest O I G) → Type 0
  PlayedBy a b = Played k.outward k.inward a b

  -- the code asks for nothing
  abbrev pub played_none : (a : Guest O I G) → PlayedBy a a
  played_none a = record {
    calls = λ rest. rest;
    went = λ file rest parties. nothing_done k file (seat_of rest a) (seat_of rest a) a.worker refl;
    keeps = record { party = refl; parties = refl; connects = refl; table = refl; clock = omega arith };
    counts = counted_itself k a.worker;
  }

  -- one thing after another, where no stop stays between them
  abbrev pub played_then : (a b c : Guest O I G) → kept_stop (stop_of (worker_of b)) ≡ None → PlayedBy a b → PlayedBy b c → PlayedBy a c
  played_then a b c kept x y = record {
    calls = λ rest. x.calls (y.calls rest);
    went = λ file rest parties.
        done_after k file (seat_of (x.calls (y.calls rest)) a) (seat_of (y.calls rest) b) (seat_of rest c) a.worker b.worker c.worker kept x.keeps.party
        (x.went file (y.calls rest) parties) (y.went file rest (parties ∙ sym x.keeps.parties));
    keeps = keeps_later (node_of a) (node_of b) (node_of c) x.keeps y.keeps;
    counts = counted_later k a.worker b.worker c.worker x.counts y.counts;
  }

  -- what waits, whatever is called later
  abbrev pub played_rest : (a b : Guest O I G) → ((file : FileAt) (rest : List Call) → length file.parties ≡ parties_of (node_of a) → Went k.outward k.inward file rest rest a b)
      → Keeps (node_of a) (node_of b) → CountedBy k a.worker b.worker → PlayedBy a b
  played_rest a b went keeps counts = record { calls = λ rest. rest; went = went; keeps = keeps; counts = counts }

  -- ---- with the sessions that are listed

  abbrev pub PlayedSoBy : (a b : Guest O I G) → (before after : List OpenedSession) → Type 0
  PlayedSoBy a b before after = PlayedSo k.outward k.inward a b before after

  abbrev pub AttendsBy : (a b : Guest O I G) → Type 0
  AttendsBy a b = Attends k.outward k.inward a b

  -- the code asks for nothing
  pub so_none : (a : Guest O I G) (before after : List OpenedSession) → after ≡ before → PlayedSoBy a a before after
  so_none a before after same = record { played = played_none a; sessions = []; listed = same ∙ sym (append-nil before); asked = λ rest. refl }

  -- one thing after another
  pub so_then : (a b c : Guest O I G) (first mid last : List OpenedSession) → kept_stop (stop_of (worker_of b)) ≡ None → PlayedSoBy a b first mid → PlayedSoBy b c mid last → PlayedSoBy a c first last
  so_then a b c first mid last kept x y = record {
    played = played_then a b c kept x.played y.played;
    sessions = x.sessions ++ y.sessions;
    listed = y.listed ∙ ap (λ ss. ss ++ y.sessions) x.listed ∙ append_assoc first x.sessions y.sessions;
    asked = λ rest.
        x.asked (y.played.calls rest) ∙ ap (λ ns. protocols_in x.sessions ++ ns) (y.asked rest)
        ∙ sym (append_assoc (protocols_in x.sessions) (protocols_in y.sessions) (protocols_of rest))
        ∙ ap (λ ns. ns ++ protocols_of rest) (sym (map-append (λ (s : OpenedSession). s.protocol) x.sessions y.sessions));
  }

  -- what waits makes no call
  pub attends_none : (a : Guest O I G) → AttendsBy a a
  attends_none a = record { went = λ file rest parties. (played_none a).went file rest parties; keeps = (played_none a).keeps; counts = (played_none a).counts }

  pub attends_then : (a b c : Guest O I G) → kept_stop (stop_of (worker_of b)) ≡ None → AttendsBy a b → AttendsBy b c → AttendsBy a c
  attends_then a b c kept x y =
      let all = played_then a b c kept (played_rest a b x.went x.keeps x.counts) (played_rest b c y.went y.keeps y.counts) in
      record { went = λ file rest parties. all.went file rest parties; keeps = all.keeps; counts = all.counts }

  pub so_attends : (a b c : Guest O I G) (first last : List OpenedSession) → kept_stop (stop_of (worker_of b)) ≡ None → PlayedSoBy a b first last → AttendsBy b c → PlayedSoBy a c first last
  so_attends a b c first last kept x y = record {
    played = played_then a b c kept x.played (played_rest b c y.went y.keeps y.counts);
    sessions = x.sessions;
    listed = x.listed;
    asked = x.asked;
  }

  -- what it asks for, whatever the answer is
  module _ (a b : Guest O I G) (keeps : Keeps (node_of a) (node_of b)) (counts : CountedBy k a.worker b.worker) (before after : List OpenedSession) where
    abbrev Makes : (List Call → List Call) → Type 0
    Makes calls = (file : FileAt) (rest : List Call) → length file.parties ≡ parties_of (node_of a) → Went k.outward k.inward file (calls rest) rest a b

    -- no session is opened
    so_other : (calls : List Call → List Call) → Makes calls → ((rest : List Call) → protocols_of (calls rest) ≡ protocols_of rest) → after ≡ before → PlayedSoBy a b before after
    so_other calls made none same = record {
      played = record { calls = calls; went = made; keeps = keeps; counts = counts };
      sessions = [];
      listed = same ∙ sym (append-nil before);
      asked = none;
    }

    no_protocol : (w : Wish) (rest : List Call) → protocols_of (wished w ∷ rest) ≡ protocols_of rest
    no_protocol (Send e m) rest = refl
    no_protocol (Delegate c e) rest = refl
    no_protocol (Take e) rest = refl
    no_protocol (TakeEnd e) rest = refl
    no_protocol (Close e) rest = refl

    its_protocol : (w : OpenWish) (n : ℕ) (rest : List Call) → n ≡ protocol_asked w → protocols_of (open_wished w ∷ rest) ≡ (n ∷ []) ++ protocols_of rest
    its_protocol (Request q m) n rest is = ap (λ i. i ∷ protocols_of rest) (sym is)
    its_protocol (Accept q m) n rest is = ap (λ i. i ∷ protocols_of rest) (sym is)

    so_done : (ask : Ask) (o : Outcome) → Makes (calls_made ask o) → Tells (worker_of b) ask o → Lists ask o before after → PlayedSoBy a b before after
    so_done (asks.Step w) o made tells same = so_other (λ rest. wished w ∷ rest) made (no_protocol w) same
    so_done (asks.Open w) (outcomes.Opened e) made tells x = record {
      played = record { calls = λ rest. open_wished w ∷ rest; went = made; keeps = keeps; counts = counts };
      sessions = x.0 ∷ [];
      listed = x.1;
      asked = λ rest. its_protocol w x.0.protocol rest x.3;
    }
    so_done (asks.Open w) outcomes.Done made tells x = absurd tells
    so_done (asks.Open w) (outcomes.Took e m) made tells x = absurd tells
    so_done (asks.Open w) (outcomes.Ready h) made tells x = absurd tells
    so_done (asks.TakeAny es) (outcomes.Took e m) made tells same = so_other (λ rest. takes e ∷ rest) made (λ rest. refl) same
    so_done (asks.TakeAny es) outcomes.Done made tells same = so_other (λ rest. rest) made (λ rest. refl) same
    so_done (asks.TakeAny es) (outcomes.Opened e) made tells same = so_other (λ rest. rest) made (λ rest. refl) same
    so_done (asks.TakeAny es) (outcomes.Ready h) made tells same = so_other (λ rest. rest) made (λ rest. refl) same
    so_done (asks.Ready e) o made tells same = so_other (λ rest. rest) made (λ rest. refl) same

    pub so_call : (ask : Ask) (r : Result Outcome SeatRefusal) → IfOk r (λ o. Makes (calls_made ask o))
        → ((file : FileAt) (rest : List Call) → length file.parties ≡ parties_of (node_of a) → OnErr r (Went k.outward k.inward file rest rest a b))
        → IfOk r (Tells (worker_of b) ask) → IfOk r (λ o. Lists ask o before after) → OnErr r (after ≡ before) → PlayedSoBy a b before after
    so_call ask (Ok o) ok err tells lists same = so_done ask o ok tells lists
    so_call ask (Err e) ok err tells lists same = so_other (λ rest. rest) err (λ rest. refl) same
