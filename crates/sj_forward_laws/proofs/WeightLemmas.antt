-- What a frame weighs: as many deliveries as can come of it, where records store n messages at
-- most. The rows post less than that.
use Rattle.std.proofs.Common.{◌≡◌, ℕ, zero, suc, ◌+◌, ◌-◌, ◌*◌, ◌≤◌, List, [], ◌∷◌, ◌++◌, length, Option, Some, None, refl, subst, arith}
use Rattle.std.specs.Prelude.{⊤, Bool, true, false, ◌&&◌, is_none, if◌then◌else◌}
use Rattle.sj_base.specs.declared.EndId.{EndId}
use Rattle.sj_rules.specs.Opened.{is_opened_by}
use Rattle.sj_rules.specs.Record.{offered_end}
use Rattle.sj_forward_rules.specs.Record.{SentAt, StateAt, Held, Parked, Passing, Closed, RecordAt, FrameAt, In, Out, Claim, Open, Mail}
use Rattle.sj_forward_rules.specs.Node.{NodeAt, Worked, onward, quietly, with_record, with_first, with_offers}
use Rattle.sj_forward_rules.specs.Arrivals.{comes, at_record, in_by, out_by, claim_by, passed_on}

-- hop numbers are at most 200 where a message comes; a Claim lets n messages go
abbrev pub weight_of : ℕ → FrameAt → ℕ
weight_of n (In e h m) = 202 - h
weight_of n (Out e h m) = 203 + h
weight_of n (Claim e h) = n * 202 + 1
weight_of n (Open sess) = 1

abbrev pub weight_of_mails : ℕ → List Mail → ℕ
weight_of_mails n [] = 0
weight_of_mails n (m ∷ ms) = weight_of n m.frame + weight_of_mails n ms

abbrev pub weight_of_frames : ℕ → List FrameAt → ℕ
weight_of_frames n [] = 0
weight_of_frames n (f ∷ fs) = weight_of n f + weight_of_frames n fs

pub frames_joined : (n : ℕ) (xs ys : List FrameAt) → weight_of_frames n (xs ++ ys) ≡ weight_of_frames n xs + weight_of_frames n ys
frames_joined n [] ys = omega arith
frames_joined n (x ∷ xs) ys = omega (arith, frames_joined n xs ys)

-- what an act posts weighs no more than this
abbrev pub IsLight : List Mail → Type 0
IsLight posts = (n : ℕ) → weight_of_mails n posts ≤ n * 202 + 403

pub onward_light : (e : EndId) (h behind : ℕ) (m : SentAt) → h ≤ 200 → IsLight (onward e h behind m ∷ [])
onward_light e zero behind m le n = omega arith
onward_light e (suc k) behind m le n = omega (arith, le)

pub claim_light : (e : EndId) (h keeper : ℕ) → IsLight (record { party = keeper; frame = Claim e h } ∷ [])
claim_light e h keeper n = omega arith

pub open_light : (sess to : ℕ) → IsLight (record { party = to; frame = Open sess } ∷ [])
open_light sess to n = omega arith

pub none_light : IsLight []
none_light n = omega arith

-- what the party has for the frame is little
abbrev pub MeetsFew : {Q : Type 0} → ℕ → NodeAt Q → FrameAt → Type 0
MeetsFew n node (In e h m) = h ≤ 200
MeetsFew n node (Out e h m) = ⊤
MeetsFew n node (Open sess) = ⊤
MeetsFew n node (Claim e h) =
    (behind : ℕ) (ms : List SentAt) → node.records e h ≡ Some (record { behind = behind; state = Parked ms }) → length ms ≤ n

by_some : {X : Type 0} (A : X → Type 0) (x y : X) → Some x ≡ Some y → A x → A y
by_some A x y h a = (let it : x ≡ y = cc h in subst A it a)

passed_weigh : (n : ℕ) (e : EndId) (h p : ℕ) (ms : List SentAt) → weight_of_mails n (passed_on e h p ms) ≤ length ms * 202
passed_weigh n e h p [] = omega arith
passed_weigh n e h p (m ∷ ms) = omega (arith, passed_weigh n e h p ms)

module _ {Q : Type 0} (n : ℕ) (node : NodeAt Q) (origin : ℕ) where
  -- the posts weigh less than that
  abbrev Lower : ℕ → Worked Q → Type 0
  Lower weight done = weight_of_mails n done.posts + 1 ≤ weight

  in_lower : (e : EndId) (h : ℕ) (m : SentAt) (behind : ℕ) (st : StateAt) (done : Worked Q) → h ≤ 200 → in_by node e h m behind st ≡ Some done
      → Lower (202 - h) done
  in_lower e h m behind (Held ms) done le k =
      by_some (Lower (202 - h)) (quietly (with_record e h (record { behind = behind; state = Held (ms ++ m ∷ []) }) node)) done k (omega (arith, le))
  in_lower e h m behind (Parked ms) done le k =
      by_some (Lower (202 - h)) (quietly (with_record e h (record { behind = behind; state = Parked (ms ++ m ∷ []) }) node)) done k
      (omega (arith, le))
  in_lower e h m behind (Passing p) done le k =
      by_some (Lower (202 - h)) (record { node = node; posts = record { party = p; frame = In e (suc h) m } ∷ [] }) done k (omega (arith, le))
  in_lower e h m behind Closed done le k = cc

  onward_lower : (e : EndId) (h : ℕ) (m : SentAt) (behind : ℕ) → weight_of_mails n (onward e h behind m ∷ []) + 1 ≤ 203 + h
  onward_lower e zero m behind = omega arith
  onward_lower e (suc k) m behind = omega arith

  out_lower : (e : EndId) (h : ℕ) (m : SentAt) (behind : ℕ) (st : StateAt) (done : Worked Q) → out_by node e h m behind st ≡ Some done
      → Lower (203 + h) done
  out_lower e h m behind (Parked ms) done k =
      by_some (Lower (203 + h)) (record { node = node; posts = onward e h behind m ∷ [] }) done k (onward_lower e h m behind)
  out_lower e h m behind (Passing p) done k =
      by_some (Lower (203 + h)) (record { node = node; posts = onward e h behind m ∷ [] }) done k (onward_lower e h m behind)
  out_lower e h m behind (Held ms) done k = cc
  out_lower e h m behind Closed done k = cc

  claim_lower : (e : EndId) (h : ℕ) (behind : ℕ) (st : StateAt) (done : Worked Q) → ((ms : List SentAt) → st ≡ Parked ms → length ms ≤ n)
      → claim_by node e h origin behind st ≡ Some done → Lower (n * 202 + 1) done
  claim_lower e h behind (Parked ms) done few k =
      let le : length ms ≤ n = few ms refl in
      by_some (Lower (n * 202 + 1)) (record {
        node = with_record e h (record { behind = behind; state = Passing origin }) node;
        posts = passed_on e
            (suc h) origin ms;
      }) done k
      (omega (arith, le, passed_weigh n e (suc h) origin ms))
  claim_lower e h behind (Held ms) done few k = cc
  claim_lower e h behind (Passing p) done few k = cc
  claim_lower e h behind Closed done few k = cc

  at_lower : (f : ℕ → StateAt → Option (Worked Q)) (weight : ℕ) (o : Option RecordAt) (done : Worked Q)
      → ((behind : ℕ) (st : StateAt) → o ≡ Some (record { behind = behind; state = st }) → f behind st ≡ Some done → Lower weight done)
      → at_record f o ≡ Some done → Lower weight done
  at_lower f weight None done rows k = cc
  at_lower f weight (Some r) done rows k = rows r.behind r.state refl k

  -- a frame pays for what comes of it
  pub comes_lower : (f : FrameAt) (done : Worked Q) → MeetsFew n node f → comes node origin f ≡ Some done → Lower (weight_of n f) done
  comes_lower (In e h m) done few k =
      at_lower (in_by node e h m) (202 - h) (node.records e h) done (λ behind st is row. in_lower e h m behind st done few row) k
  comes_lower (Out e h m) done few k =
      at_lower (out_by node e h m) (203 + h) (node.records e h) done (λ behind st is row. out_lower e h m behind st done row) k
  comes_lower (Claim e h) done few k =
      at_lower (claim_by node e h origin) (n * 202 + 1) (node.records e h) done
      (λ behind st is row. claim_lower e h behind st done
      (λ ms parked. few behind ms (subst (λ s. node.records e h ≡ Some (record { behind = behind; state = s })) parked is)) row) k
  comes_lower (Open sess) done few k = by (is_opened_by origin sess && is_none (node.records (offered_end sess) 0)) k
    where
      by : (b : Bool)
          → (if b then Some (quietly (with_offers origin (node.offers origin ++ sess ∷ []) (with_first (offered_end sess) origin node))) else None)
          ≡ Some done
          → Lower 1 done
      by true i =
          by_some (Lower 1) (quietly (with_offers origin (node.offers origin ++ sess ∷ []) (with_first (offered_end sess) origin node))) done i
          (omega arith)
      by false i = absurd (cc i)
