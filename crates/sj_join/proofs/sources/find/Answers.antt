use Rattle.std.proofs.Common.{ℕ, List, refl, subst, arith}
use Rattle.sj_grammar.specs.Files.{IsFile}
use Rattle.sj_grammar.specs.Refusals.{OnFault}
use Rattle.sj_lang.specs.FileView.{file_of}
use Rattle.sj_lang.specs.FileAt.{FileAt}
use Rattle.sj_join.specs.Finding.{TooLarge}
use Rattle.sj_join.proofs.FindingLemmas.{run_is_found, run_is_not_found}
use Rattle.sj_join.proofs.sources.find.Goals as goal

pub returns-then-len-gt-FILE_BYTES-clause-refused : goal.returns-then-len-gt-FILE_BYTES-clause-refused
returns-then-len-gt-FILE_BYTES-clause-refused g c = TooLarge c.in-Ok.text.items c.in-Ok.ensures.text (omega (arith, c.if-len-gt-FILE_BYTES.true, c.len.ensures)) refl

pub returns-in-Err-At-clause-found : goal.returns-in-Err-At-clause-found
returns-in-Err-At-clause-found g c = (
  c.in-Ok.ensures.text,
  subst (λ (t : List ℕ). (file : FileAt) → IsFile t file → ⊥) c.deref.ensures.value
      (subst (OnFault (λ f. (file : FileAt) → IsFile c.deref.result.now file → ⊥)) c.in-Err-At.field-0-is c.in-Err-At.ensures.none),
)

pub returns-in-Err-lines_in-clause-refused : goal.returns-in-Err-lines_in-clause-refused
returns-in-Err-lines_in-clause-refused g c =
    run_is_not_found g.S.Source.left c.args.conn.now c.share_of.new.conn c.lines_in.new.conn c.args.run.now c.in-Ok.text.items c.deref.result.now (file_of c.in-Ok-parse_file.file) c.party_count-parties.result
    c.in-Ok.ensures.text c.deref.ensures.value c.in-Ok-parse_file.ensures.found c.party_count-parties.ensures g.S.Source.faults g.S.Source.has_ended g.K.Sink.faults c.in-Err-lines_in.e c.in-Err-lines_in.ensures.refused

pub returns-clause-found : goal.returns-clause-found
returns-clause-found g c =
    run_is_found g.S.Source.left c.args.conn.now c.share_of.new.conn c.lines_in.new.conn c.args.run.now c.in-Ok.text.items c.deref.result.now (file_of c.in-Ok-parse_file.file) c.party_count-parties.result
    c.in-Ok.ensures.text c.deref.ensures.value c.in-Ok-parse_file.ensures.found c.party_count-parties.ensures c.in-Ok-lines_in.lines.items c.in-Ok-lines_in.ensures.read
