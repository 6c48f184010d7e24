-- An act on one end, at the world's level: what the world then shows of its session, and of all
-- others.
use Rattle.std.proofs.Common.{◌≡◌, ℕ, ◌+◌, ◌<◌, List, [], ◌∷◌, refl, subst, ◌∙◌, append-nil, arith}
use Rattle.std.specs.Prelude.{false, ◌&&◌, ◌==◌, if◌then◌else◌, Option, Some, None}
use Rattle.std.specs.List.{filter}
use Rattle.std.proofs.lemmas.Bool.{eq-eqb}
use Rattle.sj_base.specs.declared.EndId.{EndId}
use Rattle.sj_base.specs.declared.Msg.{Msg}
use Rattle.sj_rules.specs.Acts.{plain_parked, plain_sent, plain_taken}
use Rattle.sj_rules.specs.Record.{EndAt, BodyAt, Carry, Fin, Mail, MainAt, HeldAt, Held, Closed, Parked, other_end, is_same_end}
use Rattle.sj_rules.specs.Node.{NodeAt, with_main, with_old, held_behind_send, held_behind_take}
use Rattle.sj_rules.specs.World.{WorldAt}
use Rattle.sj_rules.specs.Seat.{Seat, held, parked, closed, gone, Side, source_for, side_of}
use Rattle.sj_rules.specs.Shown.{Shows, is_lane, goes_to}
use Rattle.sj_rules.specs.PlainSide.{PlainSide}
use Rattle.sj_rules.specs.Numbers.{Pace, level, NumbersFit}
use Rattle.sj_rules.specs.Invariant.{IsSound}
use Rattle.sj_rules.specs.Linked.{subject_of}
use Rattle.sj_world_lemmas.proofs.LaneLemmas.{sent_to}
use Rattle.sj_world_lemmas.proofs.TableLemmas.{with_tables, same_tables, turned_shows}
use Rattle.sj_world_lemmas.proofs.PopLemmas.{IsStream}
use Rattle.sj_world_lemmas.proofs.PostLemmas.{with_posts, posts_apart, posts_proper, sent_cons, AreMails, AreApart, mails_by}
use Rattle.sj_world_lemmas.proofs.SwapLemmas.{IsThere}
use Rattle.sj_world_lemmas.proofs.OutcomeLemmas.{Outcome}
use Rattle.sj_world_lemmas.proofs.ActLaws.{SendAtHeld}
use Rattle.sj_world_lemmas.proofs.SessionLaws.{with_more}
use Rattle.sj_world_lemmas.proofs.EventLemmas.{same_end, other_not, apart_from, apart_back, shown_beside}
use Rattle.sj_world_lemmas.proofs.LeaveLemmas.{there_beside, source_there}
use Rattle.sj_world_lemmas.proofs.PaceLemmas.{posted_by_pace, numbers_level}
use Rattle.sj_world_lemmas.proofs.GoneLemmas.{nothing_is_nothing}

-- only the end's own entries change
pub record OwnTables {P Q : Type 0} (id : EndId) (m n : NodeAt P Q) : Type 0 where
  pub mains : (d : EndId) → is_same_end d id ≡ false → n.main d ≡ m.main d
  pub olds : (d : EndId) → is_same_end d id ≡ false → n.old d ≡ m.old d

-- a post for the other end, as it is seen
pub one_sent : {P : Type 0} → (sid : EndId) (b : BodyAt P) (party number to c : ℕ) → goes_to sid c b ≡ (c == number) →
    filter (goes_to sid c) (sent_to to (record { party = party; body = b } ∷ [])) ≡ (if (to == party) && (c == number) then b ∷ [] else [])
one_sent sid b party number to c e = sent_cons (goes_to sid c) to (record { party = party; body = b }) [] ∙ rw e (append-nil (if (to == party) && (c == number) then b ∷ [] else []))

module _ {P Q : Type 0} (IsOver : P → Type 0) (w : WorldAt P Q) (at clock : ℕ) (n : NodeAt P Q) (posts : List (Mail P)) (id : EndId) (low : id.side < 2) (own : OwnTables id (w.nodes at) n) where
  -- the world with the new tables
  abbrev tabled : WorldAt P Q
  tabled = with_tables w at clock n

  -- and with the posts
  abbrev after : WorldAt P Q
  after = with_posts tabled at clock posts

  -- the other end, in the new tables
  pub other_tabled : (o : Seat P) (s : Side P) → s.id ≡ other_end id → Shows w o s → Shows tabled o s
  other_tabled o s name v =
      let e : is_same_end s.id id ≡ false = rw name (other_not id low) in
      same_tables w at clock n o s (own.mains s.id e) (own.olds s.id e) v

  -- what an act leaves
  pub acted : (ours : AreMails (λ b. (subject_of b).sess ≡ id.sess) posts) (below : AreMails (λ b. (subject_of b).side < 2) posts)
      (pace : Pace) (x y : PlainSide P) (s r : Side P) → r.id ≡ id → s.id ≡ other_end id → IsSound IsOver pace x y s r → Shows after s.seat r → Shows after r.seat s → Outcome IsOver w after id pace x y s r
  acted ours below pace x y s r r_name s_name sound shows shown = record {
    name = r_name;
    other = s_name;
    shows = shows;
    shown = shown;
    sound = sound;
    apart = λ o d away v.
        let none : AreApart d.id posts =
        mails_by (λ b. (subject_of b).sess ≡ id.sess) (λ b. is_same_end (subject_of b) d.id ≡ false) (λ b e. apart_back d.id (subject_of b) (rw e away)) posts ours in
        posts_apart tabled at clock posts o d none (same_tables w at clock n o d (own.mains d.id (apart_from d.id id away)) (own.olds d.id (apart_from d.id id away)) v);
    proper = λ p. posts_proper tabled at clock posts below p;
  }

  -- the same where nothing is sent
  tables_acted : (pace : Pace) (x y : PlainSide P) (s r : Side P) → r.id ≡ id → s.id ≡ other_end id → IsSound IsOver pace x y s r → Shows tabled s.seat r → Shows tabled r.seat s → Outcome IsOver w tabled id pace x y s r
  tables_acted pace x y s r r_name s_name sound shows shown = record {
    name = r_name;
    other = s_name;
    shows = shows;
    shown = shown;
    sound = sound;
    apart = λ o d away v. same_tables w at clock n o d (own.mains d.id (apart_from d.id id away)) (own.olds d.id (apart_from d.id id away)) v;
    proper = λ p. p;
  }

module _ {P Q : Type 0} (IsOver : P → Type 0) (w : WorldAt P Q) (clock : ℕ) (id : EndId) (low : id.side < 2) (x y : PlainSide P) (s : Side P) (place : P) (old live : List (BodyAt P)) (pace : Pace)
    (b : ℕ) (h : HeldAt P) (m : NodeAt P Q) (mains : (d : EndId) → m.main d ≡ (w.nodes b).main d) (olds : (d : EndId) → m.old d ≡ (w.nodes b).old d)
    (shows : Shows w s.seat (side_of id place (held b h) old live)) (shown : Shows w (held b h) s)
    (sound : IsSound IsOver pace x y s (side_of id place (held b h) old live)) where
  -- the new main record is the end's own
  own_held : (e : Option (MainAt P)) → OwnTables id (w.nodes b) (with_main id e m)
  own_held e = record { mains = λ d i. rw i (mains d); olds = λ d i. olds d }

  -- the other end is there
  there : IsThere s.seat
  there = there_beside pace s.seat (held b h) sound.numbers refl

  -- a Held end with another record, at the same number
  held_turns : (g : HeldAt P) (after : P) → g.end.conn ≡ h.end.conn → Shows (with_tables w b clock (with_main id (Some (Held g)) m)) s.seat (side_of id after (held b g) old live)
  held_turns g after same =
      let from : source_for s.seat (held b g) ≡ source_for s.seat (held b h) = source_there s.seat (held b g) (held b h) there in
      let v : Shows (with_tables w b clock (with_main id (Some (Held g)) m)) s.seat (side_of id place (held b g) old live) =
      turned_shows w b clock (with_main id (Some (Held g)) m) id place s.seat s.seat (held b h) (held b g) old old live live
      (record { main = rw (same_end id, eq-eqb b b refl) refl; old = olds id ∙ shows.olds b; mains = λ p i. rw i refl; olds = λ p i. refl })
      (λ p q c. rw (from, same) refl) (λ p q. refl) (λ p q. refl) shows in
      record { mains = v.mains; olds = v.olds; frames = v.frames; claims = v.claims; gives = v.gives }

  -- the name of the other end
  name_is : s.id ≡ other_end id
  name_is = sound.others

  -- one frame goes to the peer
  sent_one : (r : Seat P) (e : Option (MainAt P)) (body : BodyAt P) → ((c : ℕ) → goes_to s.id c body ≡ (c == h.end.conn)) → IsStream body →
      Shows (with_tables w b clock (with_main id e m)) (held b h) s → Shows (with_posts (with_tables w b clock (with_main id e m)) b clock (record { party = h.end.peer; body = body } ∷ [])) (held b h) (with_more pace s (body ∷ []))
  sent_one r e body goes stream v =
      posted_by_pace (with_tables w b clock (with_main id e m)) b clock (record { party = h.end.peer; body = body } ∷ []) (held b h) s.id s.place s.old s.live (body ∷ []) (held b h) (stream, tt)
      (λ to c. one_sent s.id body h.end.peer h.end.conn to c (goes c)) pace s.seat sound.numbers there tt (λ party i. i) refl refl v

  -- a message is sent
  pub sends_on : SendAtHeld IsOver x y s id place → (msg : Msg) (next : P) → (IsOver x.place → ⊥) →
      Outcome IsOver w (with_posts (with_tables w b clock (with_main id (Some (Held (held_behind_send h msg next))) m)) b clock (record { party = h.end.peer; body = Carry (other_end id) h.end.conn h.end.sent h.end.taken msg } ∷ []))
      id pace x (plain_sent y next msg) (with_more pace s (Carry s.id h.end.conn h.end.sent h.end.taken msg ∷ [])) (side_of id next (held b (held_behind_send h msg next)) old live)
  sends_on law msg next never =
      let n : NodeAt P Q = with_main id (Some (Held (held_behind_send h msg next))) m in
      let body : EndId → BodyAt P = λ d. Carry d h.end.conn h.end.sent h.end.taken msg in
      let posts : List (Mail P) = record { party = h.end.peer; body = body (other_end id) } ∷ [] in
      let own : OwnTables id (w.nodes b) n = own_held (Some (Held (held_behind_send h msg next))) in
      acted IsOver w b clock n posts id low own (refl, tt) (omega arith, tt) pace x (plain_sent y next msg) (with_more pace s (body s.id ∷ [])) (side_of id next (held b (held_behind_send h msg next)) old live) refl name_is
      (law pace b h old live msg next never sound)
      (posts_apart (with_tables w b clock n) b clock posts s.seat (side_of id next (held b (held_behind_send h msg next)) old live) (other_not id low, tt) (held_turns (held_behind_send h msg next) next refl))
      (subst (λ d. Shows (with_posts (with_tables w b clock n) b clock (record { party = h.end.peer; body = body d } ∷ [])) (held b (held_behind_send h msg next)) (with_more pace s (body s.id ∷ []))) name_is
      (shown_beside _ (held b h) (held b (held_behind_send h msg next)) (with_more pace s (body s.id ∷ [])) refl
      (sent_one (held b h) (Some (Held (held_behind_send h msg next))) (body s.id) (λ c. rw (same_end s.id) refl) tt (other_tabled IsOver w b clock n posts id low own (held b h) s name_is shown))))

  -- a message is taken
  pub takes_off : (msg : Msg) (rest : List Msg) (next : P) → h.untaken ≡ msg ∷ rest →
      IsSound IsOver pace x (plain_taken y next) s (side_of id next (held b (held_behind_take h rest next)) old live) →
      Outcome IsOver w (with_tables w b clock (with_main id (Some (Held (held_behind_take h rest next))) m))
      id pace x (plain_taken y next) s (side_of id next (held b (held_behind_take h rest next)) old live)
  takes_off msg rest next waits sound1 =
      let n : NodeAt P Q = with_main id (Some (Held (held_behind_take h rest next))) m in
      let own : OwnTables id (w.nodes b) n = own_held (Some (Held (held_behind_take h rest next))) in
      tables_acted IsOver w b clock n [] id low own pace x (plain_taken y next) s (side_of id next (held b (held_behind_take h rest next)) old live) refl name_is sound1
      (held_turns (held_behind_take h rest next) next refl)
      (shown_beside _ (held b h) (held b (held_behind_take h rest next)) s refl (other_tabled IsOver w b clock n [] id low own (held b h) s name_is shown))

  -- the end is closed
  pub closes : IsSound IsOver pace x y (with_more pace s (Fin s.id h.end.conn h.end.sent ∷ [])) (side_of id place (closed b h.end) old live) →
      Outcome IsOver w (with_posts (with_tables w b clock (with_main id (Some (Closed h.end)) m)) b clock (record { party = h.end.peer; body = Fin (other_end id) h.end.conn h.end.sent } ∷ []))
      id pace x y (with_more pace s (Fin s.id h.end.conn h.end.sent ∷ [])) (side_of id place (closed b h.end) old live)
  closes sound1 =
      let n : NodeAt P Q = with_main id (Some (Closed h.end)) m in
      let body : EndId → BodyAt P = λ d. Fin d h.end.conn h.end.sent in
      let posts : List (Mail P) = record { party = h.end.peer; body = body (other_end id) } ∷ [] in
      let own : OwnTables id (w.nodes b) n = own_held (Some (Closed h.end)) in
      let from : source_for s.seat (closed b h.end) ≡ source_for s.seat (held b h) = source_there s.seat (closed b h.end) (held b h) there in
      acted IsOver w b clock n posts id low own (refl, tt) (omega arith, tt) pace x y (with_more pace s (body s.id ∷ [])) (side_of id place (closed b h.end) old live) refl name_is sound1
      (posts_apart (with_tables w b clock n) b clock posts s.seat (side_of id place (closed b h.end) old live) (other_not id low, tt)
      (turned_shows w b clock n id place s.seat s.seat (held b h) (closed b h.end) old old live live
      (record { main = rw (same_end id, eq-eqb b b refl) refl; old = olds id ∙ shows.olds b; mains = λ p i. rw i refl; olds = λ p i. refl })
      (λ p q c. rw from refl) (λ p q. refl) (λ p q. refl) shows))
      (subst (λ d. Shows (with_posts (with_tables w b clock n) b clock (record { party = h.end.peer; body = body d } ∷ [])) (closed b h.end) (with_more pace s (body s.id ∷ []))) name_is
      (shown_beside _ (held b h) (closed b h.end) (with_more pace s (body s.id ∷ [])) refl
      (sent_one (held b h) (Some (Closed h.end)) (body s.id) (λ c. rw (same_end s.id) refl) tt (other_tabled IsOver w b clock n posts id low own (held b h) s name_is shown))))

  -- the end is gone at once, where the Fin of the other was noted
  pub closes_gone : pace ≡ level → live ≡ [] → IsSound IsOver pace x y (with_more pace s (Fin s.id h.end.conn h.end.sent ∷ [])) (side_of id place gone old []) →
      Outcome IsOver w (with_posts (with_tables w b clock (with_main id None m)) b clock (record { party = h.end.peer; body = Fin (other_end id) h.end.conn h.end.sent } ∷ []))
      id pace x y (with_more pace s (Fin s.id h.end.conn h.end.sent ∷ [])) (side_of id place gone old [])
  closes_gone even none sound1 =
      let n : NodeAt P Q = with_main id None m in
      let body : EndId → BodyAt P = λ d. Fin d h.end.conn h.end.sent in
      let posts : List (Mail P) = record { party = h.end.peer; body = body (other_end id) } ∷ [] in
      let own : OwnTables id (w.nodes b) n = own_held None in
      let numbers : NumbersFit level s.seat (held b h) = subst (λ z. NumbersFit z s.seat (held b h)) even sound.numbers in
      acted IsOver w b clock n posts id low own (refl, tt) (omega arith, tt) pace x y (with_more pace s (body s.id ∷ [])) (side_of id place gone old []) refl name_is sound1
      (posts_apart (with_tables w b clock n) b clock posts s.seat (side_of id place gone old []) (other_not id low, tt)
      (turned_shows w b clock n id place s.seat s.seat (held b h) gone old old live []
      (record { main = rw (same_end id) refl; old = olds id ∙ shows.olds b; mains = λ p i. rw i refl; olds = λ p i. refl })
      (λ p q c. nothing_is_nothing (is_lane p q (source_for s.seat (held b h)) b && (c == h.end.conn)) (is_lane p q (source_for s.seat gone) 0 && (c == 0)) live none) (λ p q. refl) (λ p q. refl) shows))
      (subst (λ d. Shows (with_posts (with_tables w b clock n) b clock (record { party = h.end.peer; body = body d } ∷ [])) gone (with_more pace s (body s.id ∷ []))) name_is
      (shown_beside _ (held b h) gone (with_more pace s (body s.id ∷ [])) (numbers_level s.seat (held b h) there tt numbers).1
      (sent_one (held b h) None (body s.id) (λ c. rw (same_end s.id) refl) tt (other_tabled IsOver w b clock n posts id low own (held b h) s name_is shown))))

  -- the end is parked
  pub parks : IsSound IsOver pace x (plain_parked y) s (side_of id place (parked b (record h.end { hops = h.end.hops + 1 })) old live) →
      Outcome IsOver w (with_tables w b clock (with_main id None (with_old id (Some (Parked (record h.end { hops = h.end.hops + 1 }))) m)))
      id pace x (plain_parked y) s (side_of id place (parked b (record h.end { hops = h.end.hops + 1 })) old live)
  parks sound1 =
      let e : EndAt P = record h.end { hops = h.end.hops + 1 } in
      let n : NodeAt P Q = with_main id None (with_old id (Some (Parked e)) m) in
      let own : OwnTables id (w.nodes b) n = record { mains = λ d i. rw i (mains d); olds = λ d i. rw i (olds d) } in
      let from : source_for s.seat (parked b e) ≡ source_for s.seat (held b h) = source_there s.seat (parked b e) (held b h) there in
      tables_acted IsOver w b clock n [] id low own pace x (plain_parked y) s (side_of id place (parked b e) old live) refl name_is sound1
      (turned_shows w b clock n id place s.seat s.seat (held b h) (parked b e) old old live live
      (record { main = rw (same_end id) refl; old = rw (same_end id, eq-eqb b b refl) refl; mains = λ p i. rw i refl; olds = λ p i. rw i refl })
      (λ p q c. rw from refl) (λ p q. refl) (λ p q. refl) shows)
      (shown_beside _ (held b h) (parked b e) s refl (other_tabled IsOver w b clock n [] id low own (held b h) s name_is shown))
