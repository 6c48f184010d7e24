-- A history that is known: an end that is delegated twice while the Signals cross, and frames that
-- wait for it.
use Rattle.std.specs.Prelude.{List, [], ◌∷◌, ◌++◌, pos, Some, None}
use Rattle.sj_base.specs.declared.Msg.TheVariants as msgs
use Rattle.sj_lang.specs.declared.proto.Way.TheVariants.{Out, Into}
use Rattle.sj_lang.specs.declared.party.Scalar.TheVariants as kinds
use Rattle.sj_lang.specs.Place.{done, message, session}
use Rattle.sj_lang.specs.Place as places
use Rattle.sj_lang.specs.Term as terms
use Rattle.sj_lang.specs.Code.{send, delegate, take_value, take_end, close}
use Rattle.sj_lang.specs.FileAt.{FileAt}
use Rattle.sj_semantics_laws.specs.Samples.{decl, connects, protocol, party, sends_int, takes_int}
use Rattle.sj_rules.specs.Log.{Sent, Took, Shut, Carry, Fin, Claim, Signal, Ack, Give, LineAt}
use Rattle.sj_rules_laws.specs.CoreSamples.{end, int, does, gets}

-- a delegates its end to c, which delegates it to e, while b delegates the other one to d
abbrev pub moved_twice : FileAt
moved_twice = record {
  words = [];
  texts = [];
  protocols =
      protocol 0 (message Out places.int sends_int)
      ∷ protocol 1 (message Into places.int takes_int)
      ∷ protocol 2 sends_int
      ∷ protocol 3 (message Out (session sends_int) done)
      ∷ protocol 4 (message Into (session sends_int) done)
      ∷ protocol 5 (message Out (session (message Into places.int takes_int)) done)
      ∷ protocol 6 (message Into (session (message Into places.int takes_int)) done) ∷ [];
  parties =
      party 7 (send 8 (terms.int (pos 1)) ∷ delegate 9 8 ∷ close 9 ∷ [])
      ∷ party 10 (delegate 9 11 ∷ close 9 ∷ [])
      ∷ party 12 (take_end 13 8 2 ∷ close 13 ∷ delegate 16 8 ∷ close 16 ∷ [])
      ∷ party 14 (take_end 13 11 1 ∷ take_value 11 15 kinds.Int ∷ take_value 11 15 kinds.Int ∷ close 11 ∷ close 13 ∷ [])
      ∷ party 17 (take_end 18 8 2 ∷ send 8 (terms.int (pos 2)) ∷ close 8 ∷ close 18 ∷ []) ∷ [];
  connects =
      connects (decl 7 8 0) (decl 10 11 1)
      ∷ connects (decl 7 9 3) (decl 12 13 4)
      ∷ connects (decl 10 9 5) (decl 14 13 6)
      ∷ connects (decl 12 16 3) (decl 17 18 4) ∷ [];
}

-- up to where the caller drains
abbrev pub moved_twice_given : List LineAt
moved_twice_given =
    does 1 0 (Sent (end 0 0) (int 1))
    ∷ does 2 0 (Sent (end 1 0) (msgs.Sess 0 0 0))
    ∷ does 3 0 (Shut (end 1 0))
    ∷ gets 2 1 0 (Carry (end 0 1) 0 0 0 (int 1))
    ∷ does 3 1 (Sent (end 2 0) (msgs.Sess 0 1 1))
    ∷ does 4 1 (Shut (end 2 0))
    ∷ gets 3 2 0 (Carry (end 1 1) 0 0 0 (msgs.Sess 0 0 0))
    ∷ gets 4 2 0 (Fin (end 1 1) 0 1)
    ∷ does 5 2 (Took (end 1 1) (msgs.Sess 0 0 0))
    ∷ gets 4 3 1 (Carry (end 2 1) 0 0 0 (msgs.Sess 0 1 1))
    ∷ gets 5 3 1 (Fin (end 2 1) 0 1)
    ∷ does 6 3 (Took (end 2 1) (msgs.Sess 0 1 1))
    ∷ gets 6 0 2 (Claim (end 0 0))
    ∷ gets 7 1 3 (Claim (end 0 1))
    ∷ gets 8 0 1 (Signal (end 0 0) 0 3 0)
    ∷ gets 9 2 0 (Give (end 0 0) 1 3 1 0 0 (Some 0))
    ∷ does 10 2 (Shut (end 1 1))
    ∷ does 11 2 (Sent (end 3 0) (msgs.Sess 0 0 2))
    ∷ does 12 2 (Shut (end 3 0))
    ∷ gets 12 4 2 (Carry (end 3 1) 0 0 0 (msgs.Sess 0 0 2))
    ∷ does 13 4 (Took (end 3 1) (msgs.Sess 0 0 2))
    ∷ gets 14 2 4 (Claim (end 0 0))
    ∷ gets 10 3 2 (Carry (end 0 1) 1 0 0 (int 1))
    ∷ gets 15 3 2 (Signal (end 0 1) 1 4 0)
    ∷ []

-- what the caller drains
abbrev pub moved_twice_drained : List LineAt
moved_twice_drained =
    gets 11 0 2 (Fin (end 1 0) 0 0)
    ∷ gets 8 1 0 (Signal (end 0 1) 0 2 0)
    ∷ gets 16 3 1 (Give (end 0 1) 1 2 0 0 0 (Some 0))
    ∷ does 17 3 (Took (end 0 1) (int 1))
    ∷ gets 14 4 2 (Fin (end 3 1) 0 1)
    ∷ gets 17 2 3 (Ack (end 0 0) 1)
    ∷ gets 18 4 2 (Give (end 0 0) 2 3 1 0 0 None)
    ∷ does 19 4 (Sent (end 0 0) (int 2))
    ∷ does 20 4 (Shut (end 0 0))
    ∷ does 21 4 (Shut (end 3 1))
    ∷ gets 22 2 4 (Fin (end 3 0) 0 0)
    ∷ gets 20 3 4 (Carry (end 0 1) 2 1 0 (int 2))
    ∷ gets 21 3 4 (Fin (end 0 1) 2 2)
    ∷ does 22 3 (Took (end 0 1) (int 2))
    ∷ does 23 3 (Shut (end 0 1))
    ∷ does 24 3 (Shut (end 2 1))
    ∷ gets 24 4 3 (Fin (end 0 0) 2 0)
    ∷ gets 25 1 3 (Fin (end 2 0) 0 0)
    ∷ []

abbrev pub moved_twice_lines : List LineAt
moved_twice_lines = moved_twice_given ++ moved_twice_drained
