-- What is asked of worlds and acts that a run goes through.
use Rattle.std.specs.Prelude.{◌≡◌, ◌≢◌, ℕ, ◌≤◌, ◌<◌, List, [], ◌∷◌, length, slice_get, Some, None, ⊤}
use Rattle.sj_base.specs.declared.EndId.{EndId}
use Rattle.sj_semantics.specs.Ends.{end_at, other_end}
use Rattle.sj_semantics.specs.Program.{Program}
use Rattle.sj_semantics.specs.Requests.{Request, opened_number}
use Rattle.sj_semantics.specs.World.{World}
use Rattle.sj_semantics_laws.specs.Bound.{IsBound}
use Rattle.sj_semantics_laws.specs.Unshared.{claims_on}

-- the end has a name at the party
abbrev pub IsBoundAt : World → ℕ → EndId → Type 0
IsBoundAt w p e = (g : Program) × (slice_get w.parties p ≡ Some g) × IsBound e g.ends

-- the end has a name at no party
abbrev pub IsBoundNowhere : World → EndId → Type 0
IsBoundNowhere w e = (p : ℕ) → IsBoundAt w p e → ⊥

-- the message with that number, of those that are sent on the end, isn't taken on the other end yet
abbrev pub IsUntaken : World → EndId → ℕ → Type 0
IsUntaken w e n = length (end_at w.sessions (other_end e)).takers ≤ n

-- the party is none of these
abbrev pub IsNoneOf : ℕ → List ℕ → Type 0
IsNoneOf p [] = ⊤
IsNoneOf p (q ∷ qs) = (p ≢ q) × IsNoneOf p qs

-- of the requests to one party those that it accepted come first
abbrev pub AcceptedInOrder : List Request → Type 0
AcceptedInOrder rs = (i j : ℕ) (r s : Request) → i < j → slice_get rs i ≡ Some r → slice_get rs j ≡ Some s → r.to ≡ s.to → r.second ≡ None → s.second ≡ None

-- each end that is bound or on its way, and each session that was opened,
-- has its session in the list
pub record HasSessions (w : World) : Type 0 where
  pub claimed : (e : EndId) → 1 ≤ claims_on e w → e.sess < length w.sessions
  pub opened : (p k : ℕ) → k < length (w.requests p) → opened_number p k < length w.sessions
