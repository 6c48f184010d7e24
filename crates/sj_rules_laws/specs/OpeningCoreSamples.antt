-- Histories that are known. A session is opened at run time, and accepted once its messages are
-- there, or never. Its first end is delegated before the second one is accepted.
use Rattle.std.specs.Prelude.{List, [], ◌∷◌, pos, codes, None}
use Rattle.sj_base.specs.declared.Msg.TheVariants as msgs
use Rattle.sj_lang.specs.declared.proto.Way.TheVariants.{Out, Into}
use Rattle.sj_lang.specs.declared.party.Scalar.TheVariants as kinds
use Rattle.sj_lang.specs.Place.{done, message}
use Rattle.sj_lang.specs.Place as places
use Rattle.sj_lang.specs.Term as terms
use Rattle.sj_lang.specs.Code.{send, delegate, take_value, take_end, close, request, accept}
use Rattle.sj_lang.specs.FileAt.{FileAt}
use Rattle.sj_semantics_laws.specs.Samples.{connects, decl, party, protocol, sends_int, takes_int}
use Rattle.sj_rules.specs.Log.{Sent, Took, Shut, Carry, Fin, Claim, Signal, Ack, Give, Request, Accept, Open, LineAt}
use Rattle.sj_rules_laws.specs.CoreSamples.{end, int, does, gets}

-- a requests, sends and closes; b gets it all, accepts, takes and closes
abbrev pub accepted_lines : List LineAt
accepted_lines =
    does 1 0 (Request 64 1)
    ∷ does 2 0 (Sent (end 64 0) (int 5))
    ∷ does 3 0 (Shut (end 64 0))
    ∷ gets 2 1 0 (Open 64)
    ∷ gets 3 1 0 (Carry (end 64 1) 0 0 0 (int 5))
    ∷ gets 4 1 0 (Fin (end 64 1) 0 1)
    ∷ does 5 1 (Accept 64 0)
    ∷ does 6 1 (Took (end 64 1) (int 5))
    ∷ does 7 1 (Shut (end 64 1))
    ∷ gets 8 0 1 (Fin (end 64 0) 0 0)
    ∷ []

-- the same where nobody accepts: the end stays Held and offered
abbrev pub unaccepted_lines : List LineAt
unaccepted_lines =
    does 1 0 (Request 64 1)
    ∷ does 2 0 (Sent (end 64 0) (int 5))
    ∷ does 3 0 (Shut (end 64 0))
    ∷ gets 2 1 0 (Open 64)
    ∷ gets 3 1 0 (Carry (end 64 1) 0 0 0 (int 5))
    ∷ gets 4 1 0 (Fin (end 64 1) 0 1)
    ∷ []

-- a delegates its end of an opened session to c, which sends; b accepts the other end
abbrev pub opened_and_moved : FileAt
opened_and_moved = record {
  words =
      codes "p" ∷ codes "q" ∷ codes "g" ∷ codes "h" ∷ codes "a" ∷ codes "x" ∷ codes "b" ∷ codes "y" ∷ codes "z" ∷ codes "c" ∷ codes "u" ∷ codes "w"
      ∷ codes "n" ∷ [];
  texts = [];
  protocols =
      protocol 0 sends_int ∷ protocol 1 takes_int
      ∷ protocol 2 (message Out (places.session sends_int) done) ∷ protocol 3 (message Into (places.session sends_int) done) ∷ [];
  parties =
      party 4 (request 5 0 6 ∷ delegate 8 5 ∷ close 8 ∷ [])
      ∷ party 6 (accept 7 1 4 ∷ take_value 7 12 kinds.Int ∷ close 7 ∷ [])
      ∷ party 9 (take_end 11 10 0 ∷ send 10 (terms.int (pos 5)) ∷ close 10 ∷ close 11 ∷ []) ∷ [];
  connects = connects (decl 4 8 2) (decl 9 11 3) ∷ [];
}

-- the Signal comes after the Open, and the offered end answers it
abbrev pub opened_and_moved_lines : List LineAt
opened_and_moved_lines =
    does 1 0 (Request 64 1)
    ∷ does 2 0 (Sent (end 0 0) (msgs.Sess 64 0 0))
    ∷ does 3 0 (Shut (end 0 0))
    ∷ gets 3 2 0 (Carry (end 0 1) 0 0 0 (msgs.Sess 64 0 0))
    ∷ gets 4 2 0 (Fin (end 0 1) 0 1)
    ∷ does 5 2 (Took (end 0 1) (msgs.Sess 64 0 0))
    ∷ gets 6 0 2 (Claim (end 64 0))
    ∷ gets 2 1 0 (Open 64)
    ∷ gets 7 1 0 (Signal (end 64 1) 0 2 0)
    ∷ gets 8 0 1 (Ack (end 64 0) 0)
    ∷ gets 9 2 0 (Give (end 64 0) 1 1 0 0 0 None)
    ∷ does 10 2 (Sent (end 64 0) (int 5))
    ∷ does 11 2 (Shut (end 64 0))
    ∷ does 12 2 (Shut (end 0 1))
    ∷ gets 11 1 2 (Carry (end 64 1) 1 0 0 (int 5))
    ∷ gets 12 1 2 (Fin (end 64 1) 1 1)
    ∷ does 13 1 (Accept 64 0)
    ∷ does 14 1 (Took (end 64 1) (int 5))
    ∷ does 15 1 (Shut (end 64 1))
    ∷ gets 13 0 2 (Fin (end 0 0) 0 0)
    ∷ gets 16 2 1 (Fin (end 64 0) 1 0)
    ∷ []
