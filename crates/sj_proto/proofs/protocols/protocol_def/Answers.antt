use Rattle.std.proofs.Common.{ℕ, false, suc, List, ◌∷◌, refl}
use Rattle.std.specs.Prelude.{codes}
use Rattle.std.proofs.lemmas.Bool.{leb-false}
use Rattle.sj_grammar.specs.declared.refusal.ParseRefusal.TheVariants as refusals
use Rattle.sj_lang.specs.Limits.{limits}
use Rattle.sj_grammar.specs.ProtocolDues.{body}
use Rattle.sj_grammar.specs.FileDues.{Due, fixed, proto, protocols, file_layer}
use Rattle.sj_grammar.specs.Faults.{Stuck}
use Rattle.sj_grammar.specs.Asked.{Refuses, but, but_name}
use Rattle.sj_grammar.proofs.StucknessLemmas.{refuses_stuck}
use Rattle.sj_proto.specs.Parsed.{standing}
use Rattle.sj_proto.proofs.ExitLemmas.{err_as, on_fault_map}
use Rattle.sj_proto.proofs.NamedPieceLemmas.{fixed_rule, name_rule}
use Rattle.sj_proto.proofs.DefinitionLemmas.{behind_word, word_fault, word_stuck, named_stuck, opened_stuck, bodied_stuck, def_gives}
use Rattle.sj_proto.proofs.protocols.protocol_def.Goals as goal

pub returns-in_err-take_first-clause-fault : goal.returns-in_err-take_first-clause-fault
returns-in_err-take_first-clause-fault c =
    err_as _ (refusals.At c.in_err-take_first.field-0.0) _ c.from_residual.ensures.1 (λ n ds. word_fault (standing c.args.tokens.now c.args.names.now) c.args.before n ds c.in_err-take_first.field-0.0 c.requires.first c.in_err-take_first.ensures.fault)

pub returns-in_err-name-clause-fault : goal.returns-in_err-name-clause-fault
returns-in_err-name-clause-fault c =
    err_as _ c.in_err-name.field-0.0 _ c.from_residual-in_err-name.ensures.1
    (on_fault_map (Refuses (but_name false) c.take_first.new.tokens) (λ f. (n : ℕ) (ds : List Due) → Stuck file_layer limits n (standing c.args.tokens.now c.args.names.now) (protocols c.args.before ∷ ds) f) c.in_err-name.field-0.0
    (λ f h n ds. word_stuck c.args.tokens.now c.take_first.new.tokens c.args.names.now c.args.before (leb-false 256 c.args.before c.in_ok-take_first.ensures.room) c.in_ok-take_first.ensures.ok n ds f
    (refuses_stuck file_layer limits (but_name false) n (standing c.take_first.new.tokens c.args.names.now) (behind_word c.args.before ds) f refl (name_rule n (fixed (codes "{") ∷ proto body ∷ fixed (codes "}") ∷ protocols (suc c.args.before) ∷ ds)) h))
    c.in_err-name.ensures.fault)

pub returns-in_err-expect-clause-fault : goal.returns-in_err-expect-clause-fault
returns-in_err-expect-clause-fault c =
    let f = c.in_err-expect.field-0.0 in
    err_as _ (refusals.At f) _ c.from_residual-in_err-expect.ensures.1
    (λ n ds. named_stuck c.args.tokens.now c.take_first.new.tokens c.args.names.now c.args.before (leb-false 256 c.args.before c.in_ok-take_first.ensures.room) c.in_ok-take_first.ensures.ok c.take_name.new.tokens c.take_name.new.names c.in_ok-name.name c.in_ok-name.ensures.reads n ds f
    (refuses_stuck file_layer limits (but (codes "{")) n (standing c.take_name.new.tokens c.take_name.new.names) (fixed (codes "{") ∷ proto body ∷ fixed (codes "}") ∷ protocols (suc c.args.before) ∷ ds) f refl
    (fixed_rule (codes "{") n (proto body ∷ fixed (codes "}") ∷ protocols (suc c.args.before) ∷ ds) refl) c.in_err-expect.ensures.fault))

pub returns-in_err-body-clause-fault : goal.returns-in_err-body-clause-fault
returns-in_err-body-clause-fault c =
    err_as _ c.in_err-body.field-0.0 _ c.from_residual-in_err-body.ensures.1
    (on_fault_map (λ f. (n : ℕ) (ds : List Due) → Stuck file_layer limits n (standing c.expect.new.self c.take_name.new.names) (proto body ∷ ds) f) (λ f. (n : ℕ) (ds : List Due) → Stuck file_layer limits n (standing c.args.tokens.now c.args.names.now) (protocols c.args.before ∷ ds) f) c.in_err-body.field-0.0
    (λ f st n ds. opened_stuck c.args.tokens.now c.take_first.new.tokens c.args.names.now c.args.before (leb-false 256 c.args.before c.in_ok-take_first.ensures.room) c.in_ok-take_first.ensures.ok c.take_name.new.tokens c.take_name.new.names c.in_ok-name.name c.in_ok-name.ensures.reads c.expect.new.self c.in_ok-expect.ensures.ok n ds f (st n (fixed (codes "}") ∷ protocols (suc c.args.before) ∷ ds)))
    c.in_err-body.ensures.fault)

pub returns-in_err-expect-2-clause-fault : goal.returns-in_err-expect-2-clause-fault
returns-in_err-expect-2-clause-fault c =
    let f = c.in_err-expect-2.field-0.0 in
    err_as _ (refusals.At f) _ c.from_residual-in_err-expect-2.ensures.1
    (λ n ds. bodied_stuck c.args.tokens.now c.take_first.new.tokens c.args.names.now c.args.before (leb-false 256 c.args.before c.in_ok-take_first.ensures.room) c.in_ok-take_first.ensures.ok c.take_name.new.tokens c.take_name.new.names c.in_ok-name.name c.in_ok-name.ensures.reads c.expect.new.self c.in_ok-expect.ensures.ok c.body.new.tokens c.body.new.names c.in_ok-body.body c.in_ok-body.ensures.reads c.in_ok-body.ensures.ends n ds f
    (λ m. refuses_stuck file_layer limits (but (codes "}")) m (standing c.body.new.tokens c.body.new.names) (fixed (codes "}") ∷ protocols (suc c.args.before) ∷ ds) f refl (fixed_rule (codes "}") m (protocols (suc c.args.before) ∷ ds) refl) c.in_err-expect-2.ensures.fault))

pub returns-clause-reads : goal.returns-clause-reads
returns-clause-reads c = def_gives c.args.tokens.now c.take_first.new.tokens c.args.names.now c.args.before (leb-false 256 c.args.before c.in_ok-take_first.ensures.room) c.in_ok-take_first.ensures.ok c.take_name.new.tokens c.take_name.new.names c.in_ok-name.name c.in_ok-name.ensures.reads c.expect.new.self c.in_ok-expect.ensures.ok c.body.new.tokens c.body.new.names c.in_ok-body.body c.in_ok-body.ensures.reads c.expect-2.new.self c.line-line.result c.in_ok-expect-2.ensures.ok c.line-line.ensures
