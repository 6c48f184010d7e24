-- Files whose transcripts are known: sessions opened at run time, and choices of different width.
use Rattle.std.specs.Prelude.{ℕ, List, [], ◌∷◌, ◌++◌, pos, codes}
use Rattle.sj_lang.specs.declared.proto.Way.TheVariants.{Out, Into}
use Rattle.sj_lang.specs.declared.party.Scalar.TheVariants as kinds
use Rattle.sj_lang.specs.Place.{Place, done, message, choice, no_choice, arm}
use Rattle.sj_lang.specs.Place as places
use Rattle.sj_lang.specs.Term as terms
use Rattle.sj_lang.specs.Code.{DeedAt, no_branch, branch, send, delegate, take_value, take_end, outbranch, inbranch, close, request, accept}
use Rattle.sj_lang.specs.FileAt.{FileAt}
use Rattle.sj_semantics_laws.specs.Samples.{connects, decl, in_a_row, party, protocol, sends_int, takes_int}

-- one party requests a session and sends a number; the other one does these acts
abbrev pub requesting : List DeedAt → FileAt
requesting acts = record {
  words = codes "p" ∷ codes "q" ∷ codes "a" ∷ codes "x" ∷ codes "b" ∷ codes "y" ∷ codes "n" ∷ [];
  texts = [];
  protocols = protocol 0 sends_int ∷ protocol 1 takes_int ∷ [];
  parties = party 2 (request 3 0 4 ∷ send 3 (terms.int (pos 5)) ∷ close 3 ∷ []) ∷ party 4 acts ∷ [];
  connects = [];
}

-- it is accepted
abbrev pub accepted : FileAt
accepted = requesting (accept 5 1 2 ∷ take_value 5 6 kinds.Int ∷ close 5 ∷ [])

-- its transcript
abbrev pub accepted_text : List ℕ
accepted_text = codes "session 64 a x b y\n64.0 0 a b int 5\nparty a ended 3\nparty b ended 3\ndone\n"

-- it isn't
abbrev pub unaccepted : FileAt
unaccepted = requesting []

-- its transcript
abbrev pub unaccepted_text : List ℕ
unaccepted_text = codes "session 64 a x b -\n64.0 0 a - int 5\nparty a ended 3\nparty b ended 0\nblocked\n"

-- somebody accepts what nobody requests
abbrev pub unrequested : FileAt
unrequested = record {
  words = codes "p" ∷ codes "a" ∷ codes "x" ∷ codes "b" ∷ [];
  texts = [];
  protocols = protocol 0 done ∷ [];
  parties = party 1 (accept 2 0 3 ∷ close 2 ∷ []) ∷ party 3 [] ∷ [];
  connects = [];
}

-- its transcript
abbrev pub unrequested_text : List ℕ
unrequested_text = codes "party a waits 0 from b\nparty b ended 0\nblocked\n"

-- a selection of one label meets a branching of two
abbrev pub narrower : FileAt
narrower = record {
  words = codes "p" ∷ codes "q" ∷ codes "a" ∷ codes "x" ∷ codes "b" ∷ codes "y" ∷ codes "n" ∷ codes "ACCEPT" ∷ codes "REJECT" ∷ [];
  texts = [];
  protocols = protocol 0 (choice Out (arm 7 sends_int no_choice) done) ∷ protocol 1 (choice Into (arm 7 takes_int (arm 8 done no_choice)) done) ∷ [];
  parties =
      party 2 (outbranch 3 7 ∷ send 3 (terms.int (pos 5)) ∷ close 3 ∷ [])
      ∷ party 4 (inbranch 5 (branch 7 (in_a_row (take_value 5 6 kinds.Int ∷ [])) (branch 8 (in_a_row []) no_branch)) ∷ close 5 ∷ []) ∷ [];
  connects = connects (decl 2 3 0) (decl 4 5 1) ∷ [];
}

-- its transcript
abbrev pub narrower_text : List ℕ
narrower_text = codes "session 0 a x b y\n0.0 0 a b label ACCEPT\n0.0 1 a b int 5\nparty a ended 3\nparty b ended 3\ndone\n"

-- one label
abbrev pub one_label : Place
one_label = choice Out (arm 10 done no_choice) done

-- an end with two labels to choose is taken where one with one label is wanted
abbrev pub standing_in : FileAt
standing_in = record {
  words = codes "p" ∷ codes "q" ∷ codes "r" ∷ codes "g" ∷ codes "h" ∷ codes "a" ∷ codes "x" ∷ codes "b" ∷ codes "y" ∷ codes "z" ∷ codes "A" ∷ codes "B" ∷ codes "c" ∷ codes "u" ∷ [];
  texts = [];
  protocols =
      protocol 0 (choice Into (arm 10 done (arm 11 done no_choice)) done) ∷ protocol 1 (choice Out (arm 10 done (arm 11 done no_choice)) done)
      ∷ protocol 2 one_label ∷ protocol 3 (message Out (places.session one_label) done) ∷ protocol 4 (message Into (places.session one_label) done) ∷ [];
  parties =
      party 5 (inbranch 6 (branch 10 (in_a_row []) (branch 11 (in_a_row []) no_branch)) ∷ close 6 ∷ [])
      ∷ party 7 (delegate 9 8 ∷ close 9 ∷ [])
      ∷ party 12 (take_end 13 8 2 ∷ outbranch 8 10 ∷ close 8 ∷ close 13 ∷ []) ∷ [];
  connects = connects (decl 5 6 0) (decl 7 8 1) ∷ connects (decl 7 9 3) (decl 12 13 4) ∷ [];
}

-- its transcript
abbrev pub standing_in_text : List ℕ
standing_in_text =
    codes "session 0 a x b y\n0.1 0 c a label A\nsession 1 b z c u\n1.0 0 b c session 0.1 b\n"
    ++ codes "party a ended 2\nparty b ended 2\nparty c ended 4\ndone\n"
