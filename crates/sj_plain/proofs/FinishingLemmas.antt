-- Courses that finish their worlds, or break off.
use Rattle.std.proofs.Common.{◌≡◌, ◌≢◌, ℕ, suc, ◌+◌, ◌-◌, ◌≤◌, ◌<◌, List, [], ◌∷◌, ◌++◌, None, Result, Ok, Err, length, refl, ap, sym, ◌∙◌, subst, append-nil, append_assoc, arith}
use Rattle.std.specs.Result.{OnErr}
use Rattle.sj_semantics.specs.World.{World, act_of}
use Rattle.sj_plain.specs.declared.course.Course.{Course}
use Rattle.sj_plain.specs.Course.{acts_in, world_in}
use Rattle.sj_plain.specs.Finish.{ActInTurn, ActsOut, IsFinished, IsRound}
use Rattle.sj_plain.specs.Finishing.{ActsOnce, Ahead, BreaksOff, GoesBy, Leads, Stays}
use Rattle.sj_plain.specs.Rounds.{steps_left}
use Rattle.sj_plain.proofs.FinishLemmas.{act_in_turn, acts_out, finishes, round_costs}

-- ---- of any relation

-- nothing has happened yet
pub at_first : (R : Leads) (c : Course) → Ahead R R c c
at_first R c = record { acts = []; listed = sym (append-nil (acts_in c)); on = λ ps v r. r }

ahead_on : (R S T : Leads) (c d e : Course) → Ahead R S c d → Ahead S T d e → Ahead R T c e
ahead_on R S T c d e a b = record {
  acts = a.acts ++ b.acts;
  listed = b.listed ∙ ap (λ t. t ++ b.acts) a.listed ∙ append_assoc (acts_in c) a.acts b.acts;
  on = λ ps v r. subst (λ (us : List ℕ). R (world_in c) us v) (sym (append_assoc a.acts b.acts ps)) (a.on (b.acts ++ ps) v (b.on ps v r));
}

pub goes_on_by : (R S : Leads) (c d e : Course) → Ahead R S c d → GoesBy S d e → GoesBy R c e
goes_on_by R S c d e a b = record {
  acts = a.acts ++ b.acts;
  listed = b.listed ∙ ap (λ t. t ++ b.acts) a.listed ∙ append_assoc (acts_in c) a.acts b.acts;
  by = a.on b.acts (world_in e) b.by;
}

pub breaks_on : (R S : Leads) (c d e : Course) → Ahead R S c d → BreaksOff S d e → BreaksOff R c e
breaks_on R S c d e a b = record {
  acts = a.acts ++ b.acts;
  listed = b.listed ∙ ap (λ t. t ++ b.acts) a.listed ∙ append_assoc (acts_in c) a.acts b.acts;
  rest = b.rest;
  last = b.last;
  by = subst (λ (us : List ℕ). R (world_in c) us b.last) (sym (append_assoc a.acts b.acts b.rest)) (a.on (b.acts ++ b.rest) b.last b.by);
}

-- what follows on an Err
pub or_err : {T E P : Type 0} → (r : Result T E) → P → OnErr r P
or_err (Ok x) h = tt
or_err (Err e) h = h

-- ---- a turn

-- without memory the party doesn't act
pub breaks_at_once : (p : ℕ) (c d : Course) → Stays c d → BreaksOff (ActsOut p) c d
breaks_at_once p c d s =
    let on = acts_out p (world_in c) in
    record {
      acts = [];
      listed = s.listed ∙ sym (append-nil (acts_in c));
      rest = on.0;
      last = on.1.0;
      by = on.1.1;
    }

pub acts_no_more : (p : ℕ) (c d : Course) → Stays c d → act_of (world_in c) p ≡ None → GoesBy (ActsOut p) c d
acts_no_more p c d s none = record { acts = []; listed = s.listed ∙ sym (append-nil (acts_in c)); by = (none, sym s.world) }

acts_first : (p : ℕ) (c d : Course) → ActsOnce c p d → Ahead (ActsOut p) (ActsOut p) c d
acts_first p c d o = record { acts = p ∷ []; listed = o.listed; on = λ ps v r. (refl, (world_in d, (o.act, r))) }

pub acts_again : (p : ℕ) (c d e : Course) → Ahead (ActsOut p) (ActsOut p) c d → ActsOnce d p e → Ahead (ActsOut p) (ActsOut p) c e
acts_again p c d e a o = ahead_on (ActsOut p) (ActsOut p) (ActsOut p) c d e a (acts_first p d e o)

-- ---- a round

-- n parties, of which those from k on have still to act
abbrev pub TurnsFrom : (n k : ℕ) → Leads
TurnsFrom n k = ActInTurn (n - k) k

turns_more : (n k : ℕ) (w mid v : World) (ps qs : List ℕ) → k < n → ActsOut k w ps mid → TurnsFrom n (k + 1) mid qs v → TurnsFrom n k w (ps ++ qs) v
turns_more n k w mid v ps qs lt first rest =
    let is : suc (n - (k + 1)) ≡ n - k = omega (arith, lt) in
    subst (λ (m : ℕ). ActInTurn m k w (ps ++ qs) v) is (ps, (qs, (mid, (refl, first, rest))))

pub round_at_first : (c : Course) → Ahead IsRound (TurnsFrom (length (world_in c).parties) 0) c c
round_at_first c =
    let is : length (world_in c).parties - 0 ≡ length (world_in c).parties = omega arith in
    record { acts = []; listed = sym (append-nil (acts_in c)); on = λ ps v r. subst (λ (m : ℕ). ActInTurn m 0 (world_in c) ps v) is r }

pub next_turn : (n k : ℕ) (c d e : Course) → k < n → Ahead IsRound (TurnsFrom n k) c d → GoesBy (ActsOut k) d e → Ahead IsRound (TurnsFrom n (k + 1)) c e
next_turn n k c d e lt a g =
    ahead_on IsRound (TurnsFrom n k) (TurnsFrom n (k + 1)) c d e a
    (record { acts = g.acts; listed = g.listed; on = λ ps v r. turns_more n k (world_in d) (world_in e) v g.acts ps lt g.by r })

pub last_turn : (n k : ℕ) (c d : Course) → n ≤ k → Ahead IsRound (TurnsFrom n k) c d → GoesBy IsRound c d
last_turn n k c d le a =
    let is : 0 ≡ n - k = omega (arith, le) in
    record {
      acts = a.acts;
      listed = a.listed;
      by = subst (λ (us : List ℕ). IsRound (world_in c) us (world_in d)) (append-nil a.acts) (a.on [] (world_in d) (subst (λ (m : ℕ). ActInTurn m k (world_in d) [] (world_in d)) is (refl, refl)));
    }

pub breaks_in_turn : (n k : ℕ) (c d e : Course) → k < n → Ahead IsRound (TurnsFrom n k) c d → BreaksOff (ActsOut k) d e → BreaksOff IsRound c e
breaks_in_turn n k c d e lt a b =
    let on = act_in_turn (n - (k + 1)) (k + 1) b.last in
    breaks_on IsRound (TurnsFrom n k) c d e a
    (record {
      acts = b.acts;
      listed = b.listed;
      rest = b.rest ++ on.0;
      last = on.1.0;
      by = subst (λ (us : List ℕ). TurnsFrom n k (world_in d) us on.1.0) (append_assoc b.acts b.rest on.0) (turns_more n k (world_in d) b.last on.1.0 (b.acts ++ b.rest) on.0 lt b.by on.1.1);
    })

-- ---- rounds

pub next_round : (c d e : Course) → Ahead IsFinished IsFinished c d → GoesBy IsRound d e → steps_left (world_in e) < steps_left (world_in d) → Ahead IsFinished IsFinished c e
next_round c d e a g less =
    let costs = round_costs (world_in d) (world_in e) g.acts g.by in
    let some : g.acts ≢ [] = λ none. absurd (omega (arith, costs, ap length none, less)) in
    ahead_on IsFinished IsFinished IsFinished c d e a
    (record { acts = g.acts; listed = g.listed; on = λ ps v r. (g.acts ∷ r.0, (ps, (world_in e, (some, refl, g.by, r.1)))) })

none_of : (ps : List ℕ) → length ps ≡ 0 → ps ≡ []
none_of [] h = refl
none_of (p ∷ ps) h = absurd (omega (arith, h))

pub last_round : (c d e : Course) → Ahead IsFinished IsFinished c d → GoesBy IsRound d e → world_in e ≡ world_in d → GoesBy IsFinished c e
last_round c d e a g same =
    let costs = round_costs (world_in d) (world_in e) g.acts g.by in
    let none = none_of g.acts (omega (arith, costs, ap steps_left same)) in
    goes_on_by IsFinished IsFinished c d e a
    (record { acts = g.acts; listed = g.listed; by = ([], (none, subst (λ (us : List ℕ). IsRound (world_in d) us (world_in e)) none g.by)) })

breaks_in : (d e : Course) (acts rest us : List ℕ) (last : World) → acts_in e ≡ acts_in d ++ acts → us ≡ acts ++ rest → IsRound (world_in d) us last → BreaksOff IsFinished d e
breaks_in d e acts rest [] last listed is round = record { acts = acts; listed = listed; rest = rest; last = last; by = ([], (sym is, round)) }
breaks_in d e acts rest (u ∷ us) last listed is round =
    let on = finishes last in
    record {
      acts = acts;
      listed = listed;
      rest = rest ++ on.0;
      last = on.1.0;
      by = ((u ∷ us) ∷ on.1.1.0, (on.0, (last, (λ none. absurd (cc none), sym (append_assoc acts rest on.0) ∙ ap (λ t. t ++ on.0) (sym is), round, on.1.1.1))));
    }

pub breaks_in_round : (c d e : Course) → Ahead IsFinished IsFinished c d → BreaksOff IsRound d e → BreaksOff IsFinished c e
breaks_in_round c d e a b = breaks_on IsFinished IsFinished c d e a (breaks_in d e b.acts b.rest (b.acts ++ b.rest) b.last b.listed refl b.by)
