-- A file but for its lines.
use Rattle.std.specs.Prelude.{◌≡◌, ℕ, List, map}
use Rattle.sj_lang.specs.Code.{Code, StmtAt, DeedAt, Branches, no_stmt, stmt_then, at, send, delegate, take_value, take_end, outbranch, inbranch, outwhile, inwhile, relay, if_else, let_be, close, request, accept, no_branch, branch}
use Rattle.sj_lang.specs.FileAt.{ProtocolAt, PartyAt, ConnectAt, FileAt}
use Rattle.sj_grammar.specs.Files.{IsFile}

-- the same, with line 0 in place of each line
abbrev mutual
  pub unlined_code : Code → Code
  unlined_code no_stmt = no_stmt
  unlined_code (stmt_then s rest) = stmt_then (unlined_stmt s) (unlined_code rest)

  pub unlined_stmt : StmtAt → StmtAt
  unlined_stmt (at line a) = at 0 (unlined_deed a)

  pub unlined_deed : DeedAt → DeedAt
  unlined_deed (send x t) = send x t
  unlined_deed (delegate x y) = delegate x y
  unlined_deed (take_value x v k) = take_value x v k
  unlined_deed (take_end x y p) = take_end x y p
  unlined_deed (outbranch x l) = outbranch x l
  unlined_deed (inbranch x arms) = inbranch x (unlined_branches arms)
  unlined_deed (outwhile x t body) = outwhile x t (unlined_code body)
  unlined_deed (inwhile x body) = inwhile x (unlined_code body)
  unlined_deed (relay x y body) = relay x y (unlined_code body)
  unlined_deed (if_else t first second) = if_else t (unlined_code first) (unlined_code second)
  unlined_deed (let_be v t) = let_be v t
  unlined_deed (close x) = close x
  unlined_deed (request x p b) = request x p b
  unlined_deed (accept x p b) = accept x p b

  pub unlined_branches : Branches → Branches
  unlined_branches no_branch = no_branch
  unlined_branches (branch l code arms) = branch l (unlined_code code) (unlined_branches arms)

abbrev pub unlined_protocol : ProtocolAt → ProtocolAt
unlined_protocol p = record { line = 0; name = p.name; body = p.body }

abbrev pub unlined_party : PartyAt → PartyAt
unlined_party q = record { line = 0; name = q.name; code = unlined_code q.code }

abbrev pub unlined_connect : ConnectAt → ConnectAt
unlined_connect c = record { line = 0; first = c.first; second = c.second }

abbrev pub unlined : FileAt → FileAt
unlined f = record {
  words = f.words;
  texts = f.texts;
  protocols = map unlined_protocol f.protocols;
  parties = map unlined_party f.parties;
  connects = map unlined_connect f.connects;
}

-- the text stands for a file that is the same but for its lines
pub record StandsButLines (text : List ℕ) (f : FileAt) : Type 0 where
  pub file : FileAt
  pub same : unlined file ≡ unlined f
  pub stands : IsFile text file
