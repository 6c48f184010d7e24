-- How a call changes counts.
use Rattle.std.specs.Prelude.{ℕ, ◌+◌, ◌-◌, ◌^◌, min, List, [], ◌∷◌, Option, Result, Ok, Err}
use Rattle.sj_end.specs.declared.frames.Frame.{Frame}
use Rattle.sj_lane.specs.Told.{raised}
use Rattle.sj_lane.specs.declared.lane.Lanes.{Lanes}
use Rattle.sj_lane.specs.declared.lane.PushRefusal.{PushRefusal}
use Rattle.sj_lane.specs.declared.lane.PushRefusal.TheVariants.{Full, Fault, NoMemory}
use Rattle.sj_lane.specs.declared.lane.PopRefusal.{PopRefusal}
use Rattle.sj_lane.specs.declared.lane.PopRefusal.TheVariants as pop
use Rattle.sj_lane.specs.declared.links.MakeRefusal.{MakeRefusal}
use Rattle.sj_lane.specs.declared.links.MakeRefusal.TheVariants as make
use Rattle.sj_socket.specs.Streams.{TcpIn, TcpOut}

-- the count of faults after a push
abbrev pub faults_push : ℕ → Result (Unit {0}) (Frame × PushRefusal) → ℕ
faults_push n (Ok u) = n
faults_push n (Err (f, Full)) = n
faults_push n (Err (f, Fault)) = raised n
faults_push n (Err (f, NoMemory)) = n

-- the count of faults after a pop
abbrev pub faults_pop : ℕ → Result (Option Frame) PopRefusal → ℕ
faults_pop n (Ok o) = n
faults_pop n (Err pop.Fault) = raised n
faults_pop n (Err pop.NoMemory) = n

-- the links' count of faults after a `make`
abbrev pub faults_make : {X : Type 0} → ℕ → Result X MakeRefusal → ℕ
faults_make n (Ok v) = n
faults_make n (Err make.Fault) = raised n
faults_make n (Err make.NoMemory) = n

-- a sum that stops at the last value of a count
abbrev pub capped_sum : ℕ → ℕ → ℕ
capped_sum n m = min (n + m) (2 ^ 64 - 1)

-- the sum of the counts of all elements
abbrev pub total : {X : Type 0} → (X → ℕ) → List X → ℕ
total f [] = 0
total f (x ∷ xs) = f x + total f xs

-- the faults that lanes to parties met
abbrev pub met_out : List TcpOut → ℕ
met_out outs = total (λ (o : TcpOut). o.faults) outs

-- the faults that lanes from parties met
abbrev pub met_in : List TcpIn → ℕ
met_in ins = total (λ (i : TcpIn). i.faults) ins

-- the faults that a party's lanes met
abbrev pub met_by : Lanes TcpOut TcpIn → ℕ
met_by l = met_out l.outs.items + met_in l.ins.items

-- the faults that all lanes met
abbrev pub met : List (Lanes TcpOut TcpIn) → ℕ
met lanes = total met_by lanes
