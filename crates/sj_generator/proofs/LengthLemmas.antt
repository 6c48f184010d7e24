-- The generated file is within the limit of a file.
use Rattle.std.proofs.Common.{◌≤◌, ℕ, ◌+◌, List, [], ◌∷◌, ◌++◌, codes, decimal, length, ◌*◌, arith, length-append}
use Rattle.std.proofs.lemmas.Fmt.{length-decimal-le}
use Rattle.sj_generator.specs.Generated.{adder, connections, generated, giver, group, lines, numbered, numbered_twice, of_each, protocols, sender}

-- two parts are at most as long as both bounds
both : (s t : List ℕ) (a b : ℕ) → length s ≤ a → length t ≤ b → length (s ++ t) ≤ a + b
both s t a b x y = omega (arith, length-append s t, x, y)

-- a line with a number of at most four digits
one_number : (front back : List ℕ) (n a b : ℕ) → length front ≤ a → length back ≤ b → length (decimal n) ≤ 4 → length (numbered front n back) ≤ a + b + 5
one_number front back n a b x y few =
    let newline : length (back ++ 10 ∷ []) ≤ b + 1 = both back (10 ∷ []) b 1 y (omega arith) in
    let behind = both (decimal n) (back ++ 10 ∷ []) 4 (b + 1) few newline in
    let all = both front (decimal n ++ (back ++ 10 ∷ [])) a (4 + (b + 1)) x behind in
    omega (arith, all)

two_numbers : (front middle back : List ℕ) (i a m b : ℕ) → length front ≤ a → length middle ≤ m → length back ≤ b → length (decimal i) ≤ 4 → length (numbered_twice front middle back i) ≤ a + m + b + 9
two_numbers front middle back i a m b x z y few =
    let rest : length (numbered middle i back) ≤ m + b + 5 = one_number middle back i m b z y few in
    let behind = both (decimal i) (numbered middle i back) 4 (m + b + 5) few rest in
    let all = both front (decimal i ++ numbered middle i back) a (4 + (m + b + 5)) x behind in
    omega (arith, all)

digits : (n : ℕ) → n ≤ 1000 → length (decimal n) ≤ 4
digits n few = length-decimal-le 4 n (omega arith) (omega (arith, few)) (omega (arith, few))

module _ (n : ℕ) (few : n ≤ 1000) where
  sender_few : (i : ℕ) → i ≤ 5 → length (sender n i) ≤ 200
  sender_few i small =
      let head = one_number (codes "party a") (codes " {") i 7 2 (omega arith) (omega arith) (digits i (omega (arith, small))) in
      let loop = one_number (codes "  outwhile x ") (codes " {") n 13 2 (omega arith) (omega arith) (digits n few) in
      let sends = one_number (codes "    send x ") (codes ";") (i + 1) 11 1 (omega arith) (omega arith) (digits (i + 1) (omega (arith, small))) in
      let tail = lines (codes "  }" ∷ codes "  recv x r int;" ∷ codes "  close x;" ∷ codes "}" ∷ []) in
      let end : length tail ≤ 40 = omega arith in
      let turn = numbered (codes "    send x ") (i + 1) (codes ";") in
      let repeat = numbered (codes "  outwhile x ") n (codes " {") in
      let a = both turn tail 17 40 sends end in
      let b = both repeat (turn ++ tail) 20 57 loop a in
      let c = both (numbered (codes "party a") i (codes " {")) (repeat ++ (turn ++ tail)) 14 77 head b in
      omega (arith, c)

  giver_few : (i : ℕ) → i ≤ 5 → length (giver i) ≤ 100
  giver_few i small =
      let head = one_number (codes "party b") (codes " {") i 7 2 (omega arith) (omega arith) (digits i (omega (arith, small))) in
      let end : length (lines (codes "  delegate z y;" ∷ codes "  close z;" ∷ codes "}" ∷ [])) ≤ 40 = omega arith in
      let all = both (numbered (codes "party b") i (codes " {")) (lines (codes "  delegate z y;" ∷ codes "  close z;" ∷ codes "}" ∷ [])) 14 40 head end in
      omega (arith, all)

  adder_few : (i : ℕ) → i ≤ 5 → length (adder i) ≤ 300
  adder_few i small =
      let head = one_number (codes "party c") (codes " {") i 7 2 (omega arith) (omega arith) (digits i (omega (arith, small))) in
      let tail =
      lines (
      codes "  recv u y session v;" ∷ codes "  let s = 0;" ∷ codes "  inwhile y {" ∷ codes "    recv y k int;" ∷ codes "    let s = s + k;"
      ∷ codes "  }" ∷ codes "  send y s;" ∷ codes "  close y;" ∷ codes "  close u;" ∷ codes "}" ∷ []) in
      let end : length tail ≤ 200 = omega arith in
      let all = both (numbered (codes "party c") i (codes " {")) tail 14 200 head end in
      omega (arith, all)

  group_few : (i : ℕ) → i ≤ 5 → length (group n i) ≤ 600
  unfolding group
  group_few i small =
      let rest = both (giver i) (adder i) 100 300 (giver_few i small) (adder_few i small) in
      let all = both (sender n i) (giver i ++ adder i) 200 400 (sender_few i small) rest in
      omega (arith, all)

connections_few : (i : ℕ) → i ≤ 5 → length (connections i) ≤ 100
unfolding connections
connections_few i small =
    let d = digits i (omega (arith, small)) in
    let first = two_numbers (codes "connect a") (codes " x w to b") (codes " y v;") i 9 9 5 (omega arith) (omega arith) (omega arith) d in
    let second = two_numbers (codes "connect b") (codes " z g to c") (codes " u h;") i 9 9 5 (omega arith) (omega arith) (omega arith) d in
    let all = both (numbered_twice (codes "connect a") (codes " x w to b") (codes " y v;") i) (numbered_twice (codes "connect b") (codes " z g to c") (codes " u h;") i) 32 32 first second in
    omega (arith, all)

each_few : (f : ℕ → List ℕ) (k : ℕ) → ((i : ℕ) → i ≤ 5 → length (f i) ≤ k) → length (of_each f) ≤ 5 * k
each_few f k h =
    let a = both (f 3) (f 4) k k (h 3 (omega arith)) (h 4 (omega arith)) in
    let b = both (f 2) (f 3 ++ f 4) k (k + k) (h 2 (omega arith)) a in
    let c = both (f 1) (f 2 ++ (f 3 ++ f 4)) k (k + (k + k)) (h 1 (omega arith)) b in
    let d = both (f 0) (f 1 ++ (f 2 ++ (f 3 ++ f 4))) k (k + (k + (k + k))) (h 0 (omega arith)) c in
    omega (arith, d)

protocols_few : length protocols ≤ 200
unfolding protocols
protocols_few = omega arith

pub generated_few : (n : ℕ) → n ≤ 1000 → length (generated n) ≤ 65536
generated_few n few =
    let parties = each_few (group n) 600 (group_few n few) in
    let joined = each_few connections 100 connections_few in
    let rest = both (of_each (group n)) (of_each connections) 3000 500 (omega (arith, parties)) (omega (arith, joined)) in
    let all = both protocols (of_each (group n) ++ of_each connections) 200 3500 protocols_few rest in
    omega (arith, all)
