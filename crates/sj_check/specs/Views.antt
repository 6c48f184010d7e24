-- The parts of a file as contracts see them.
use Rattle.std.specs.Prelude.{List, map}
use Rattle.sj_lang.specs.declared.file.ProtocolDef.{ProtocolDef}
use Rattle.sj_lang.specs.declared.file.Party.{Party}
use Rattle.sj_lang.specs.declared.file.Connect.{Connect}
use Rattle.sj_lang.specs.FileAt.{ProtocolAt, PartyAt, ConnectAt}
use Rattle.sj_lang.specs.FileView.{protocol_of, party_of, connect_of}

abbrev pub protocols_of : List ProtocolDef → List ProtocolAt
protocols_of ps = map protocol_of ps

abbrev pub parties_of : List Party → List PartyAt
parties_of ps = map party_of ps

abbrev pub connects_of : List Connect → List ConnectAt
connects_of cs = map connect_of cs
