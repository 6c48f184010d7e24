-- Customer, agency and supplier.
use Rattle.std.specs.Prelude.{ℕ, List, [], ◌∷◌, ◌++◌, pos, codes}
use Rattle.sj_lang.specs.declared.proto.Way.TheVariants.{Out, Into}
use Rattle.sj_lang.specs.declared.party.Scalar.TheVariants as kinds
use Rattle.sj_lang.specs.declared.party.Op.TheVariants as ops
use Rattle.sj_lang.specs.Place.{Place, done, message, choice, repeat, session, no_choice, arm}
use Rattle.sj_lang.specs.Place as places
use Rattle.sj_lang.specs.Term as terms
use Rattle.sj_lang.specs.Code.{send, delegate, take_value, take_end, outbranch, inbranch, outwhile, inwhile, if_else, let_be, close, no_branch, branch}
use Rattle.sj_lang.specs.FileAt.{FileAt}
use Rattle.sj_semantics_laws.specs.Samples.{in_a_row, decl, connects, protocol, party, sends_int, takes_int}

-- a text is taken and one is sent
abbrev pub asked : Place
asked = message Into places.text (message Out places.text done)

-- the customer takes an offer of at most that price
abbrev pub agency : ℕ → FileAt
agency limit = record {
  words =
      codes "cust" ∷ codes "ACCEPT" ∷ codes "REJECT" ∷ codes "agen" ∷ codes "rest" ∷ codes "asks" ∷ codes "gets" ∷ codes "customer" ∷ codes "last" ∷ codes "x"
      ∷ codes "date" ∷ codes "agency" ∷ codes "price" ∷ codes "y" ∷ codes "place" ∷ codes "z" ∷ codes "supplier" ∷ codes "u" ∷ codes "s" ∷ codes "street" ∷ [];
  texts = codes "Paris" ∷ codes "1 High Street" ∷ codes "3 May" ∷ [];
  protocols =
      protocol 0 (repeat Out (message Out places.text takes_int)
      (choice Out (arm 1 (message Out places.text (message Into places.text done)) (arm 2 done no_choice)) done))
      ∷ protocol 3 (repeat Into (message Into places.text sends_int)
      (choice Into (arm 1 asked (arm 2 done no_choice)) done))
      ∷ protocol 4 asked
      ∷ protocol 5 (choice Out (arm 1 (message Out (session asked) done) (arm 2 done no_choice)) done)
      ∷ protocol 6 (choice Into (arm 1 (message Into (session asked) done) (arm 2 done no_choice)) done) ∷ [];
  parties =
      party 7 (let_be 8 (terms.int (pos 0))
      ∷ outwhile 9 (terms.int (pos 2)) (in_a_row (send 9 (terms.text 0) ∷ take_value 9 8 kinds.Int ∷ []))
      ∷ if_else (terms.two ops.LessEq (terms.var 8) (terms.int (pos limit)))
      (in_a_row (outbranch 9 1 ∷ send 9 (terms.text 1) ∷ take_value 9 10 kinds.Text ∷ close 9 ∷ []))
      (in_a_row (outbranch 9 2 ∷ close 9 ∷ [])) ∷ [])
      ∷ party 11 (let_be 12 (terms.int (pos 500))
      ∷ inwhile 13 (in_a_row (take_value 13 14 kinds.Text ∷ let_be 12 (terms.two ops.Sub (terms.var 12) (terms.int (pos 100))) ∷ send 13 (terms.var 12) ∷ []))
      ∷ inbranch 13 (branch 1 (in_a_row (outbranch 15 1 ∷ delegate 15 13 ∷ close 15 ∷ []))
      (branch 2 (in_a_row (close 13 ∷ outbranch 15 2 ∷ close 15 ∷ [])) no_branch)) ∷ [])
      ∷ party 16 (inbranch 17 (branch 1 (in_a_row (take_end 17 18 4 ∷ close 17 ∷ take_value 18 19 kinds.Text ∷ send 18 (terms.text 2) ∷ close 18 ∷ []))
      (branch 2 (in_a_row (close 17 ∷ [])) no_branch)) ∷ []) ∷ [];
  connects = connects (decl 7 9 0) (decl 11 13 3) ∷ connects (decl 11 15 5) (decl 16 17 6) ∷ [];
}

-- the transcript where the customer takes at most 400
abbrev pub agency_text : List ℕ
agency_text =
    codes "session 0 customer x agency y\n0.0 0 customer agency more\n0.0 1 customer agency String \"Paris\"\n"
    ++ codes "0.0 2 customer agency more\n0.0 3 customer agency String \"Paris\"\n0.0 4 customer agency stop\n"
    ++ codes "0.0 5 customer agency label ACCEPT\n0.0 6 customer supplier String \"1 High Street\"\n"
    ++ codes "0.1 0 agency customer int 400\n0.1 1 agency customer int 300\n0.1 2 supplier customer String \"3 May\"\n"
    ++ codes "session 1 agency z supplier u\n1.0 0 agency supplier label ACCEPT\n1.0 1 agency supplier session 0.1 agency\n"
    ++ codes "party customer ended 13\nparty agency ended 14\nparty supplier ended 6\ndone\n"

-- the transcript where the customer takes at most 200
abbrev pub refused_text : List ℕ
refused_text =
    codes "session 0 customer x agency y\n0.0 0 customer agency more\n0.0 1 customer agency String \"Paris\"\n"
    ++ codes "0.0 2 customer agency more\n0.0 3 customer agency String \"Paris\"\n0.0 4 customer agency stop\n"
    ++ codes "0.0 5 customer agency label REJECT\n0.1 0 agency customer int 400\n0.1 1 agency customer int 300\n"
    ++ codes "session 1 agency z supplier u\n1.0 0 agency supplier label REJECT\nparty customer ended 11\n"
    ++ codes "party agency ended 14\nparty supplier ended 2\ndone\n"
