use Rattle.std.proofs.Common.{ℕ, List, ◌∷◌, false, refl}
use Rattle.sj_lang.specs.Limits.{limits}
use Rattle.sj_grammar.specs.FileDues.{Due, name, file_layer}
use Rattle.sj_grammar.specs.Faults.{Stuck}
use Rattle.sj_grammar.specs.Asked.{Refuses, but_name}
use Rattle.sj_grammar.proofs.StucknessLemmas.{refuses_stuck}
use Rattle.sj_proto.specs.Parsed.{standing}
use Rattle.sj_proto.proofs.ExitLemmas.{err_as, on_fault_map}
use Rattle.sj_proto.proofs.NamedPieceLemmas.{name_rule, name_stuck}
use Rattle.sj_party.proofs.ConnectLemmas.{end_due, end_gives}
use Rattle.sj_party.proofs.connects.end_decl.Goals as goal

pub returns-in_err-party-clause-fault : goal.returns-in_err-party-clause-fault
returns-in_err-party-clause-fault c =
    let a = standing c.args.tokens.now c.args.names.now in
    err_as _ c.in_err-party.field-0.0 _ c.from_residual.ensures.1
    (on_fault_map (Refuses (but_name false) c.args.tokens.now) (λ f. (n : ℕ) (ds : List Due) → Stuck file_layer limits n a (end_due ds) f) c.in_err-party.field-0.0
    (λ f h n ds. refuses_stuck file_layer limits (but_name false) n a (end_due ds) f refl (name_rule n (name ∷ name ∷ ds)) h) c.in_err-party.ensures.fault)

pub returns-in_err-name-clause-fault : goal.returns-in_err-name-clause-fault
returns-in_err-name-clause-fault c =
    let a = standing c.args.tokens.now c.args.names.now in
    let b = standing c.take_name.new.tokens c.take_name.new.names in
    err_as _ c.in_err-name.field-0.0 _ c.from_residual-in_err-name.ensures.1
    (on_fault_map (Refuses (but_name false) c.take_name.new.tokens) (λ f. (n : ℕ) (ds : List Due) → Stuck file_layer limits n a (end_due ds) f) c.in_err-name.field-0.0
    (λ f h n ds. name_stuck a b c.in_ok-party.party n (name ∷ name ∷ ds) f c.in_ok-party.ensures.reads
    (refuses_stuck file_layer limits (but_name false) n b (name ∷ name ∷ ds) f refl (name_rule n (name ∷ ds)) h)) c.in_err-name.ensures.fault)

pub returns-in_err-protocol-clause-fault : goal.returns-in_err-protocol-clause-fault
returns-in_err-protocol-clause-fault c =
    let a = standing c.args.tokens.now c.args.names.now in
    let b = standing c.take_name.new.tokens c.take_name.new.names in
    let d = standing c.take_name-2.new.tokens c.take_name-2.new.names in
    err_as _ c.in_err-protocol.field-0.0 _ c.from_residual-in_err-protocol.ensures.1
    (on_fault_map (Refuses (but_name false) c.take_name-2.new.tokens) (λ f. (n : ℕ) (ds : List Due) → Stuck file_layer limits n a (end_due ds) f) c.in_err-protocol.field-0.0
    (λ f h n ds. name_stuck a b c.in_ok-party.party n (name ∷ name ∷ ds) f c.in_ok-party.ensures.reads (name_stuck b d c.in_ok-name.name n (name ∷ ds) f c.in_ok-name.ensures.reads
    (refuses_stuck file_layer limits (but_name false) n d (name ∷ ds) f refl (name_rule n ds) h))) c.in_err-protocol.ensures.fault)

pub returns-clause-reads : goal.returns-clause-reads
returns-clause-reads c =
    end_gives (standing c.args.tokens.now c.args.names.now) (standing c.take_name.new.tokens c.take_name.new.names) (standing c.take_name-2.new.tokens c.take_name-2.new.names)
    (standing c.take_name-3.new.tokens c.take_name-3.new.names) c.in_ok-party.party c.in_ok-name.name c.in_ok-protocol.protocol c.in_ok-party.ensures.reads c.in_ok-name.ensures.reads c.in_ok-protocol.ensures.reads
