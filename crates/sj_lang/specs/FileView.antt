-- A file as contracts see it, apart from how it lies in memory.
use Rattle.std.specs.Prelude.{map}
use Rattle.sj_lang.specs.declared.file.ProtocolDef.{ProtocolDef}
use Rattle.sj_lang.specs.declared.file.Party.{Party}
use Rattle.sj_lang.specs.declared.file.EndDecl.{EndDecl}
use Rattle.sj_lang.specs.declared.file.Connect.{Connect}
use Rattle.sj_lang.specs.declared.file.File.{File}
use Rattle.sj_lang.specs.CodeView.{code_of}
use Rattle.sj_lang.specs.FileAt.{ProtocolAt, PartyAt, DeclAt, ConnectAt, FileAt}

abbrev pub protocol_of : ProtocolDef → ProtocolAt
protocol_of p = record { line = p.line; name = p.name; body = p.body }

abbrev pub party_of : Party → PartyAt
party_of q = record { line = q.line; name = q.name; code = code_of q.body.items }

abbrev pub decl_of : EndDecl → DeclAt
decl_of d = record { party = d.party; name = d.name; protocol = d.protocol }

abbrev pub connect_of : Connect → ConnectAt
connect_of c = record { line = c.line; first = decl_of c.first; second = decl_of c.second }

abbrev pub file_of : File → FileAt
file_of f = record {
  words = f.names.words;
  texts = f.names.texts;
  protocols = map protocol_of f.protocols.items;
  parties = map party_of f.parties.items;
  connects = map connect_of f.connects.items;
}
