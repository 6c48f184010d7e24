-- Files that delegate ends.
use Rattle.std.specs.Prelude.{ℕ, List, [], ◌∷◌, ◌++◌, pos, codes}
use Rattle.sj_lang.specs.declared.proto.Way.TheVariants.{Out, Into}
use Rattle.sj_lang.specs.declared.party.Scalar.TheVariants as kinds
use Rattle.sj_lang.specs.Place.{done, message, session}
use Rattle.sj_lang.specs.Place as places
use Rattle.sj_lang.specs.Term as terms
use Rattle.sj_lang.specs.Code.{send, delegate, take_value, take_end, close}
use Rattle.sj_lang.specs.FileAt.{FileAt}
use Rattle.sj_semantics_laws.specs.Samples.{decl, connects, protocol, party, sends_int, takes_int}

-- an end is delegated between two messages
abbrev pub delegation : FileAt
delegation = record {
  words = codes "p" ∷ codes "q" ∷ codes "r" ∷ codes "g" ∷ codes "h" ∷ codes "a" ∷ codes "x" ∷ codes "b" ∷ codes "y" ∷ codes "n" ∷ codes "z" ∷ codes "c" ∷ codes "u" ∷ [];
  texts = [];
  protocols =
      protocol 0 (message Out places.int (message Out places.int sends_int))
      ∷ protocol 1 (message Into places.int (message Into places.int takes_int))
      ∷ protocol 2 (message Into places.int takes_int)
      ∷ protocol 3 (message Out (session (message Into places.int takes_int)) done)
      ∷ protocol 4 (message Into (session (message Into places.int takes_int)) done) ∷ [];
  parties =
      party 5 (send 6 (terms.int (pos 1)) ∷ send 6 (terms.int (pos 2)) ∷ send 6 (terms.int (pos 3)) ∷ close 6 ∷ [])
      ∷ party 7 (take_value 8 9 kinds.Int ∷ delegate 10 8 ∷ close 10 ∷ [])
      ∷ party 11 (take_end 12 8 2 ∷ take_value 8 9 kinds.Int ∷ take_value 8 9 kinds.Int ∷ close 8 ∷ close 12 ∷ []) ∷ [];
  connects = connects (decl 5 6 0) (decl 7 8 1) ∷ connects (decl 7 10 3) (decl 11 12 4) ∷ [];
}

-- its transcript
abbrev pub delegation_text : List ℕ
delegation_text =
    codes "session 0 a x b y\n0.0 0 a b int 1\n0.0 1 a c int 2\n0.0 2 a c int 3\nsession 1 b z c u\n"
    ++ codes "1.0 0 b c session 0.1 b\nparty a ended 4\nparty b ended 3\nparty c ended 5\ndone\n"

-- an end is delegated and comes back
abbrev pub returning : FileAt
returning = record {
  words = codes "p" ∷ codes "q" ∷ codes "g" ∷ codes "h" ∷ codes "a" ∷ codes "x" ∷ codes "b" ∷ codes "z" ∷ codes "y" ∷ codes "n" ∷ codes "c" ∷ codes "u" ∷ [];
  texts = [];
  protocols =
      protocol 0 sends_int
      ∷ protocol 1 takes_int
      ∷ protocol 2 (message Out (session takes_int) (message Into (session takes_int) done))
      ∷ protocol 3 (message Into (session takes_int) (message Out (session takes_int) done)) ∷ [];
  parties =
      party 4 (send 5 (terms.int (pos 1)) ∷ close 5 ∷ [])
      ∷ party 6 (delegate 7 8 ∷ take_end 7 8 1 ∷ close 7 ∷ take_value 8 9 kinds.Int ∷ close 8 ∷ [])
      ∷ party 10 (take_end 11 8 1 ∷ delegate 11 8 ∷ close 11 ∷ []) ∷ [];
  connects = connects (decl 4 5 0) (decl 6 8 1) ∷ connects (decl 6 7 2) (decl 10 11 3) ∷ [];
}

-- its transcript
abbrev pub returning_text : List ℕ
returning_text =
    codes "session 0 a x b y\n0.0 0 a b int 1\nsession 1 b z c u\n1.0 0 b c session 0.1 b\n1.1 0 c b session 0.1 c\n"
    ++ codes "party a ended 2\nparty b ended 5\nparty c ended 3\ndone\n"

-- both ends of a session are delegated
abbrev pub both_moved : FileAt
both_moved = record {
  words = codes "p" ∷ codes "q" ∷ codes "p1" ∷ codes "gp" ∷ codes "hp" ∷ codes "gq" ∷ codes "hq" ∷ codes "a" ∷ codes "x" ∷ codes "z" ∷ codes "b" ∷ codes "y" ∷ codes "c" ∷ codes "u" ∷ codes "d" ∷ codes "n" ∷ [];
  texts = [];
  protocols =
      protocol 0 (message Out places.int sends_int)
      ∷ protocol 1 (message Into places.int takes_int)
      ∷ protocol 2 sends_int
      ∷ protocol 3 (message Out (session sends_int) done)
      ∷ protocol 4 (message Into (session sends_int) done)
      ∷ protocol 5 (message Out (session (message Into places.int takes_int)) done)
      ∷ protocol 6 (message Into (session (message Into places.int takes_int)) done) ∷ [];
  parties =
      party 7 (send 8 (terms.int (pos 1)) ∷ delegate 9 8 ∷ close 9 ∷ [])
      ∷ party 10 (delegate 9 11 ∷ close 9 ∷ [])
      ∷ party 12 (take_end 13 8 2 ∷ send 8 (terms.int (pos 2)) ∷ close 8 ∷ close 13 ∷ [])
      ∷ party 14 (take_end 13 11 1 ∷ take_value 11 15 kinds.Int ∷ take_value 11 15 kinds.Int ∷ close 11 ∷ close 13 ∷ []) ∷ [];
  connects = connects (decl 7 8 0) (decl 10 11 1) ∷ connects (decl 7 9 3) (decl 12 13 4) ∷ connects (decl 10 9 5) (decl 14 13 6) ∷ [];
}

-- its transcript
abbrev pub both_moved_text : List ℕ
both_moved_text =
    codes "session 0 a x b y\n0.0 0 a d int 1\n0.0 1 c d int 2\nsession 1 a z c u\n1.0 0 a c session 0.0 a\n"
    ++ codes "session 2 b z d u\n2.0 0 b d session 0.1 b\nparty a ended 3\nparty b ended 2\nparty c ended 4\n"
    ++ codes "party d ended 5\ndone\n"

-- an end goes to the party that has the other one
abbrev pub to_its_peer : FileAt
to_its_peer = record {
  words = codes "p" ∷ codes "q" ∷ codes "g" ∷ codes "h" ∷ codes "a" ∷ codes "z" ∷ codes "x" ∷ codes "b" ∷ codes "u" ∷ codes "y" ∷ codes "n" ∷ [];
  texts = [];
  protocols =
      protocol 0 sends_int
      ∷ protocol 1 takes_int
      ∷ protocol 2 (message Out (session sends_int) done)
      ∷ protocol 3 (message Into (session sends_int) done) ∷ [];
  parties =
      party 4 (delegate 5 6 ∷ close 5 ∷ [])
      ∷ party 7 (take_end 8 6 0 ∷ send 6 (terms.int (pos 4)) ∷ take_value 9 10 kinds.Int ∷ close 6 ∷ close 9 ∷ close 8 ∷ []) ∷ [];
  connects = connects (decl 4 6 0) (decl 7 9 1) ∷ connects (decl 4 5 2) (decl 7 8 3) ∷ [];
}

-- its transcript
abbrev pub to_its_peer_text : List ℕ
to_its_peer_text =
    codes "session 0 a x b y\n0.0 0 b b int 4\nsession 1 a z b u\n1.0 0 a b session 0.0 a\nparty a ended 2\n"
    ++ codes "party b ended 6\ndone\n"

-- a party delegates an end to itself
abbrev pub to_itself : FileAt
to_itself = record {
  words = codes "p" ∷ codes "q" ∷ codes "g" ∷ codes "h" ∷ codes "a" ∷ codes "z" ∷ codes "x" ∷ codes "u" ∷ codes "w" ∷ codes "b" ∷ codes "y" ∷ codes "n" ∷ [];
  texts = [];
  protocols =
      protocol 0 sends_int
      ∷ protocol 1 takes_int
      ∷ protocol 2 (message Out (session sends_int) done)
      ∷ protocol 3 (message Into (session sends_int) done) ∷ [];
  parties =
      party 4 (delegate 5 6 ∷ take_end 7 8 0 ∷ send 8 (terms.int (pos 4)) ∷ close 8 ∷ close 5 ∷ close 7 ∷ [])
      ∷ party 9 (take_value 10 11 kinds.Int ∷ close 10 ∷ []) ∷ [];
  connects = connects (decl 4 6 0) (decl 9 10 1) ∷ connects (decl 4 5 2) (decl 4 7 3) ∷ [];
}

-- its transcript
abbrev pub to_itself_text : List ℕ
to_itself_text =
    codes "session 0 a x b y\n0.0 0 a b int 4\nsession 1 a z a u\n1.0 0 a a session 0.0 a\nparty a ended 6\n"
    ++ codes "party b ended 2\ndone\n"
