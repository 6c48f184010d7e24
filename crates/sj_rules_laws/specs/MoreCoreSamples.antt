-- A history that is known: an end that sends after a handover, with nothing resent.
use Rattle.std.specs.Prelude.{List, [], ◌∷◌, pos, None}
use Rattle.sj_base.specs.declared.Msg.TheVariants as msgs
use Rattle.sj_lang.specs.declared.proto.Way.TheVariants.{Out, Into}
use Rattle.sj_lang.specs.declared.party.Scalar.TheVariants as kinds
use Rattle.sj_lang.specs.Place.{done, message, session}
use Rattle.sj_lang.specs.Term as terms
use Rattle.sj_lang.specs.Code.{send, delegate, take_value, take_end, close}
use Rattle.sj_lang.specs.FileAt.{FileAt}
use Rattle.sj_semantics_laws.specs.Samples.{decl, connects, protocol, party, sends_int, takes_int}
use Rattle.sj_rules.specs.Log.{Sent, Took, Shut, Carry, Fin, Claim, Signal, Ack, Give, LineAt}
use Rattle.sj_rules_laws.specs.CoreSamples.{end, int, does, gets}

-- b delegates its end to c, which sends on it
abbrev pub sends_later : FileAt
sends_later = record {
  words = [];
  texts = [];
  protocols =
      protocol 0 takes_int
      ∷ protocol 1 sends_int
      ∷ protocol 2 (message Out (session sends_int) done)
      ∷ protocol 3 (message Into (session sends_int) done) ∷ [];
  parties =
      party 4 (take_value 5 6 kinds.Int ∷ close 5 ∷ [])
      ∷ party 7 (delegate 8 9 ∷ close 8 ∷ [])
      ∷ party 10 (take_end 11 9 1 ∷ send 9 (terms.int (pos 9)) ∷ close 9 ∷ close 11 ∷ []) ∷ [];
  connects = connects (decl 4 5 0) (decl 7 9 1) ∷ connects (decl 7 8 2) (decl 10 11 3) ∷ [];
}

abbrev pub sends_later_lines : List LineAt
sends_later_lines =
    does 1 1 (Sent (end 1 0) (msgs.Sess 0 1 1))
    ∷ does 2 1 (Shut (end 1 0))
    ∷ gets 2 2 1 (Carry (end 1 1) 0 0 0 (msgs.Sess 0 1 1))
    ∷ gets 3 2 1 (Fin (end 1 1) 0 1)
    ∷ does 4 2 (Took (end 1 1) (msgs.Sess 0 1 1))
    ∷ gets 5 1 2 (Claim (end 0 1))
    ∷ gets 6 0 1 (Signal (end 0 0) 0 2 0)
    ∷ gets 7 1 0 (Ack (end 0 1) 0)
    ∷ gets 8 2 1 (Give (end 0 1) 1 0 0 0 0 None)
    ∷ does 9 2 (Sent (end 0 1) (int 9))
    ∷ does 10 2 (Shut (end 0 1))
    ∷ does 11 2 (Shut (end 1 1))
    ∷ gets 10 0 2 (Carry (end 0 0) 1 0 0 (int 9))
    ∷ gets 11 0 2 (Fin (end 0 0) 1 1)
    ∷ does 12 0 (Took (end 0 0) (int 9))
    ∷ does 13 0 (Shut (end 0 0))
    ∷ gets 12 1 2 (Fin (end 1 0) 0 0)
    ∷ gets 14 2 0 (Fin (end 0 1) 1 0)
    ∷ []
