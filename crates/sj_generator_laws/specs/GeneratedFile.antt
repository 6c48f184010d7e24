-- The file that `make` prints, as a value: five groups of three parties, in each of which the
-- second delegates its end of the first session to the third.
use Rattle.std.specs.Prelude.{ℕ, ◌+◌, List, [], ◌∷◌, codes, pos}
use Rattle.sj_lang.specs.declared.proto.Way.TheVariants.{Out, Into}
use Rattle.sj_lang.specs.declared.party.Op.TheVariants.{Add}
use Rattle.sj_lang.specs.declared.party.Scalar.TheVariants as scalars
use Rattle.sj_lang.specs.Place.{Place, done, message, repeat, int, session}
use Rattle.sj_lang.specs.Term as term
use Rattle.sj_lang.specs.Code.{at, send, delegate, take_value, take_end, outwhile, inwhile, let_be, close}
use Rattle.sj_lang.specs.CodeView.{in_order}
use Rattle.sj_lang.specs.FileAt.{ProtocolAt, PartyAt, ConnectAt, FileAt}

-- its names, in order of first occurrence
abbrev pub words : List (List ℕ)
words =
    codes "w" ∷ codes "v" ∷ codes "g" ∷ codes "h" ∷ codes "a0" ∷ codes "x" ∷ codes "r" ∷ codes "b0" ∷ codes "z" ∷ codes "y" ∷ codes "c0" ∷ codes "u" ∷ codes "s"
    ∷ codes "k" ∷ codes "a1" ∷ codes "b1" ∷ codes "c1" ∷ codes "a2" ∷ codes "b2" ∷ codes "c2" ∷ codes "a3" ∷ codes "b3" ∷ codes "c3" ∷ codes "a4" ∷ codes "b4"
    ∷ codes "c4" ∷ []

-- the numbers of those that stand in each group: ends and variables
abbrev x : ℕ
x = 5

abbrev r : ℕ
r = 6

abbrev z : ℕ
z = 8

abbrev y : ℕ
y = 9

abbrev u : ℕ
u = 11

abbrev s : ℕ
s = 12

abbrev k : ℕ
k = 13

-- and protocols
abbrev w : ℕ
w = 0

abbrev v : ℕ
v = 1

abbrev g : ℕ
g = 2

abbrev h : ℕ
h = 3

-- the numbers in each loop, and then their sum back
abbrev pub numbers : Place
numbers = repeat Into (message Into int done) (message Out int done)

abbrev pub protocols : List ProtocolAt
protocols =
    record { line = 1; name = w; body = repeat Out (message Out int done) (message Into int done) }
    ∷ record { line = 2; name = v; body = numbers }
    ∷ record { line = 3; name = g; body = message Out (session numbers) done }
    ∷ record { line = 4; name = h; body = message Into (session numbers) done } ∷ []

-- three parties, by the line of the first and their names
module _ (line : ℕ) where
  -- it sends its group's number so many times, and takes the sum
  abbrev pub sender : ℕ → ℕ → ℕ → PartyAt
  sender a n number = record {
    line = line;
    name = a;
    code = in_order (
        at (line + 1) (outwhile x (term.int (pos n)) (in_order (at (line + 2) (send x (term.int (pos number))) ∷ [])))
        ∷ at (line + 4) (take_value x r scalars.Int) ∷ at (line + 5) (close x) ∷ []);
  }

  -- it delegates its end
  abbrev pub giver : ℕ → PartyAt
  giver b = record { line = line + 7; name = b; code = in_order (at (line + 8) (delegate z y) ∷ at (line + 9) (close z) ∷ []) }

  -- it takes the end, sums what comes on it, and sends the sum
  abbrev pub adder : ℕ → PartyAt
  adder c = record {
    line = line + 11;
    name = c;
    code = in_order (
        at (line + 12) (take_end u y v) ∷ at (line + 13) (let_be s (term.int (pos 0)))
        ∷ at (line + 14) (inwhile y (in_order (at (line + 15) (take_value y k scalars.Int) ∷ at (line + 16) (let_be s (term.two Add (term.var s) (term.var k))) ∷ [])))
        ∷ at (line + 18) (send y (term.var s)) ∷ at (line + 19) (close y) ∷ at (line + 20) (close u) ∷ []);
  }

-- those of a group, before other parties
abbrev pub group : ℕ → ℕ → ℕ → ℕ → ℕ → ℕ → List PartyAt → List PartyAt
group line a b c n number others = sender line a n number ∷ giver line b ∷ adder line c ∷ others

-- the two connections of a group, before others
abbrev pub connections : ℕ → ℕ → ℕ → ℕ → List ConnectAt → List ConnectAt
connections line a b c others =
    record { line = line; first = record { party = a; name = x; protocol = w }; second = record { party = b; name = y; protocol = v } }
    ∷ record { line = line + 1; first = record { party = b; name = z; protocol = g }; second = record { party = c; name = u; protocol = h } } ∷ others

-- with n messages in each loop
abbrev pub generated_file : ℕ → FileAt
generated_file n = record {
  words = words;
  texts = [];
  protocols = protocols;
  parties = group 5 4 7 10 n 1 (group 27 14 15 16 n 2 (group 49 17 18 19 n 3 (group 71 20 21 22 n 4 (group 93 23 24 25 n 5 []))));
  connects = connections 115 4 7 10 (connections 117 14 15 16 (connections 119 17 18 19 (connections 121 20 21 22 (connections 123 23 24 25 []))));
}
