use Rattle.std.proofs.Common.{◌≡◌, []}
use Rattle.std.specs.Prelude.{map}
use Rattle.sj_lang.specs.FileView.{protocol_of}
use Rattle.sj_grammar.specs.declared.refusal.ParseRefusal.TheVariants as refusals
use Rattle.sj_lang.specs.Limits.{limits}
use Rattle.sj_grammar.specs.Refusals.{OnFault}
use Rattle.sj_grammar.specs.Positions.{at, start}
use Rattle.sj_proto.specs.Parsed.{standing}
use Rattle.sj_proto.proofs.ExitLemmas.{err_as}
use Rattle.sj_party.proofs.OneFile.{one_file}
use Rattle.sj_party.proofs.FileLemmas.{IsFault, NoFile, at_protocols, at_parties, at_connects, at_last, all_read, stands_for_none, spelled_within}
use Rattle.sj_party.proofs.files.parse_file.Goals as goal

pub returns-in_err-protocols-clause-none : goal.returns-in_err-protocols-clause-none
returns-in_err-protocols-clause-none c =
    let bytes = c.args.bytes.now in
    let e = c.in_err-protocols.field-0.0 in
    let from : at c.over-tokens.result c.new-names.result.words c.new-names.result.texts ≡ start bytes [] [] = λ i. at (c.over-tokens.ensures i) (c.new-names.ensures.words i) (c.new-names.ensures.texts i) in
    err_as _ e (NoFile bytes) c.from_residual.ensures.1 (stands_for_none bytes e (at_protocols bytes (at c.over-tokens.result c.new-names.result.words c.new-names.result.texts) from e c.in_err-protocols.ensures.fault))

pub returns-in_err-parties-clause-fault : goal.returns-in_err-parties-clause-fault
returns-in_err-parties-clause-fault c =
    let bytes = c.args.bytes.now in
    let e = c.in_err-parties.field-0.0 in
    let a = at c.over-tokens.result c.new-names.result.words c.new-names.result.texts in
    let from : a ≡ start bytes [] [] = λ i. at (c.over-tokens.ensures i) (c.new-names.ensures.words i) (c.new-names.ensures.texts i) in
    err_as _ e (OnFault (IsFault bytes)) c.from_residual-in_err-parties.ensures.1
    (at_parties bytes a (standing c.parse_protocols.new.tokens c.parse_protocols.new.names) (map protocol_of c.in_ok-protocols.protocols.items) from c.in_ok-protocols.ensures.found e c.in_err-parties.ensures.fault)

pub returns-in_err-parties-clause-none : goal.returns-in_err-parties-clause-none
returns-in_err-parties-clause-none c =
    let bytes = c.args.bytes.now in
    let e = c.in_err-parties.field-0.0 in
    let a = at c.over-tokens.result c.new-names.result.words c.new-names.result.texts in
    let from : a ≡ start bytes [] [] = λ i. at (c.over-tokens.ensures i) (c.new-names.ensures.words i) (c.new-names.ensures.texts i) in
    err_as _ e (NoFile bytes) c.from_residual-in_err-parties.ensures.1
    (stands_for_none bytes e
    (at_parties bytes a (standing c.parse_protocols.new.tokens c.parse_protocols.new.names) (map protocol_of c.in_ok-protocols.protocols.items) from c.in_ok-protocols.ensures.found e c.in_err-parties.ensures.fault))

pub returns-in_err-connects-clause-fault : goal.returns-in_err-connects-clause-fault
returns-in_err-connects-clause-fault c =
    let bytes = c.args.bytes.now in
    let e = c.in_err-connects.field-0.0 in
    let a = at c.over-tokens.result c.new-names.result.words c.new-names.result.texts in
    let from : a ≡ start bytes [] [] = λ i. at (c.over-tokens.ensures i) (c.new-names.ensures.words i) (c.new-names.ensures.texts i) in
    err_as _ e (OnFault (IsFault bytes)) c.from_residual-in_err-connects.ensures.1
    (at_connects bytes a (standing c.parse_protocols.new.tokens c.parse_protocols.new.names) (map protocol_of c.in_ok-protocols.protocols.items) from c.in_ok-protocols.ensures.found
    (standing c.parse_parties.new.tokens c.parse_parties.new.names) c.in_ok-parties.parties.items c.in_ok-parties.ensures.reads c.in_ok-parties.ensures.few c.in_ok-parties.ensures.ends e c.in_err-connects.ensures.fault)

pub returns-in_err-connects-clause-none : goal.returns-in_err-connects-clause-none
returns-in_err-connects-clause-none c =
    let bytes = c.args.bytes.now in
    let e = c.in_err-connects.field-0.0 in
    let a = at c.over-tokens.result c.new-names.result.words c.new-names.result.texts in
    let from : a ≡ start bytes [] [] = λ i. at (c.over-tokens.ensures i) (c.new-names.ensures.words i) (c.new-names.ensures.texts i) in
    err_as _ e (NoFile bytes) c.from_residual-in_err-connects.ensures.1
    (stands_for_none bytes e
    (at_connects bytes a (standing c.parse_protocols.new.tokens c.parse_protocols.new.names) (map protocol_of c.in_ok-protocols.protocols.items) from c.in_ok-protocols.ensures.found
    (standing c.parse_parties.new.tokens c.parse_parties.new.names) c.in_ok-parties.parties.items c.in_ok-parties.ensures.reads c.in_ok-parties.ensures.few c.in_ok-parties.ensures.ends e c.in_err-connects.ensures.fault))

pub returns-in_err-finish-clause-fault : goal.returns-in_err-finish-clause-fault
returns-in_err-finish-clause-fault c =
    let bytes = c.args.bytes.now in
    let f = c.in_err-finish.field-0.0 in
    let a = at c.over-tokens.result c.new-names.result.words c.new-names.result.texts in
    let from : a ≡ start bytes [] [] = λ i. at (c.over-tokens.ensures i) (c.new-names.ensures.words i) (c.new-names.ensures.texts i) in
    err_as _ (refusals.At f) (OnFault (IsFault bytes)) c.from_residual-in_err-finish.ensures.1
    (at_last bytes a (standing c.parse_protocols.new.tokens c.parse_protocols.new.names) (map protocol_of c.in_ok-protocols.protocols.items) from c.in_ok-protocols.ensures.found (standing c.parse_parties.new.tokens c.parse_parties.new.names)
    c.in_ok-parties.parties.items c.in_ok-parties.ensures.reads c.in_ok-parties.ensures.few c.in_ok-parties.ensures.ends (standing c.parse_connects.new.tokens c.parse_connects.new.names) c.in_ok-connects.connects.items
    c.in_ok-connects.ensures.reads c.in_ok-connects.ensures.few c.in_ok-connects.ensures.ends f c.in_err-finish.ensures.some c.in_err-finish.ensures.fault)

pub returns-in_err-finish-clause-none : goal.returns-in_err-finish-clause-none
returns-in_err-finish-clause-none c =
    let bytes = c.args.bytes.now in
    let f = c.in_err-finish.field-0.0 in
    let a = at c.over-tokens.result c.new-names.result.words c.new-names.result.texts in
    let from : a ≡ start bytes [] [] = λ i. at (c.over-tokens.ensures i) (c.new-names.ensures.words i) (c.new-names.ensures.texts i) in
    err_as _ (refusals.At f) (NoFile bytes) c.from_residual-in_err-finish.ensures.1
    (stands_for_none bytes (refusals.At f)
    (at_last bytes a (standing c.parse_protocols.new.tokens c.parse_protocols.new.names) (map protocol_of c.in_ok-protocols.protocols.items) from c.in_ok-protocols.ensures.found (standing c.parse_parties.new.tokens c.parse_parties.new.names)
    c.in_ok-parties.parties.items c.in_ok-parties.ensures.reads c.in_ok-parties.ensures.few c.in_ok-parties.ensures.ends (standing c.parse_connects.new.tokens c.parse_connects.new.names) c.in_ok-connects.connects.items
    c.in_ok-connects.ensures.reads c.in_ok-connects.ensures.few c.in_ok-connects.ensures.ends f c.in_err-finish.ensures.some c.in_err-finish.ensures.fault))

pub returns-clause-found : goal.returns-clause-found
returns-clause-found c =
    let bytes = c.args.bytes.now in
    let a = at c.over-tokens.result c.new-names.result.words c.new-names.result.texts in
    let from : a ≡ start bytes [] [] = λ i. at (c.over-tokens.ensures i) (c.new-names.ensures.words i) (c.new-names.ensures.texts i) in
    all_read bytes a (standing c.parse_protocols.new.tokens c.parse_protocols.new.names) (map protocol_of c.in_ok-protocols.protocols.items) from c.in_ok-protocols.ensures.found (standing c.parse_parties.new.tokens c.parse_parties.new.names)
    c.in_ok-parties.parties.items c.in_ok-parties.ensures.reads c.in_ok-parties.ensures.few c.in_ok-parties.ensures.ends (standing c.parse_connects.new.tokens c.parse_connects.new.names) c.in_ok-connects.connects.items
    c.in_ok-connects.ensures.reads c.in_ok-connects.ensures.few c.in_ok-connects.ensures.ends c.in_ok-finish.ensures.ok

pub returns-clause-only : goal.returns-clause-only
returns-clause-only c = λ g is. one_file c.args.bytes.now g _ is (returns-clause-found c)

pub returns-clause-limits : goal.returns-clause-limits
returns-clause-limits c = let is = returns-clause-found c in spelled_within limits _ is.pieces is.spelled
