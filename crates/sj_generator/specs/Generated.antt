-- The file that `make` prints: five groups of three parties, in each of which the second delegates its end of the first session to the third.
use Rattle.std.specs.Prelude.{ℕ, ◌+◌, List, [], ◌∷◌, ◌++◌, codes, decimal}

-- lines, each with its newline
abbrev pub lines : List (List ℕ) → List ℕ
lines [] = []
lines (l ∷ ls) = l ++ 10 ∷ lines ls

-- a line with a number in it
abbrev pub numbered : List ℕ → ℕ → List ℕ → List ℕ
numbered front n back = front ++ (decimal n ++ (back ++ 10 ∷ []))

-- a line with a number in it at two positions
abbrev pub numbered_twice : List ℕ → List ℕ → List ℕ → ℕ → List ℕ
numbered_twice front middle back i = front ++ (decimal i ++ (middle ++ (decimal i ++ (back ++ 10 ∷ []))))

unfoldable pub protocols : List ℕ
protocols = lines (
    codes "protocol w { begin.![!<int>]*.?(int) }"
    ∷ codes "protocol v { begin.?[?(int)]*.!<int> }"
    ∷ codes "protocol g { begin.!<?[?(int)]*.!<int>> }"
    ∷ codes "protocol h { begin.?(?[?(int)]*.!<int>) }" ∷ [])

-- it sends its group's number so many times, and takes the sum
abbrev pub sender : ℕ → ℕ → List ℕ
sender n i =
    numbered (codes "party a") i (codes " {")
    ++ (numbered (codes "  outwhile x ") n (codes " {")
    ++ (numbered (codes "    send x ") (i + 1) (codes ";")
    ++ lines (codes "  }" ∷ codes "  recv x r int;" ∷ codes "  close x;" ∷ codes "}" ∷ [])))

-- it delegates its end
abbrev pub giver : ℕ → List ℕ
giver i = numbered (codes "party b") i (codes " {") ++ lines (codes "  delegate z y;" ∷ codes "  close z;" ∷ codes "}" ∷ [])

-- it takes the end, sums what comes on it, and sends the sum
abbrev pub adder : ℕ → List ℕ
adder i =
    numbered (codes "party c") i (codes " {")
    ++ lines (
    codes "  recv u y session v;" ∷ codes "  let s = 0;" ∷ codes "  inwhile y {" ∷ codes "    recv y k int;" ∷ codes "    let s = s + k;"
    ∷ codes "  }" ∷ codes "  send y s;" ∷ codes "  close y;" ∷ codes "  close u;" ∷ codes "}" ∷ [])

unfoldable pub group : ℕ → ℕ → List ℕ
group n i = sender n i ++ (giver i ++ adder i)

-- the two connections of a group
unfoldable pub connections : ℕ → List ℕ
connections i =
    numbered_twice (codes "connect a") (codes " x w to b") (codes " y v;") i
    ++ numbered_twice (codes "connect b") (codes " z g to c") (codes " u h;") i

-- five of them, the groups from 0 to 4
abbrev pub of_each : (ℕ → List ℕ) → List ℕ
of_each f = f 0 ++ (f 1 ++ (f 2 ++ (f 3 ++ f 4)))

-- with n messages in each loop
abbrev pub generated : ℕ → List ℕ
generated n = protocols ++ (of_each (group n) ++ of_each connections)
