use Rattle.std.proofs.Common.{◌≡◌, ℕ, suc, List, [], ◌∷◌, length, All, sym, subst, ◌∙◌, arith, length-append}
use Rattle.std.specs.Prelude.{codes, map}
use Rattle.std.proofs.lemmas.List.{length-map}
use Rattle.sj_lang.specs.declared.file.ProtocolDef.{ProtocolDef}
use Rattle.sj_lang.specs.FileView.{protocol_of}
use Rattle.sj_lang.specs.ItemCount.{item_count}
use Rattle.sj_grammar.specs.declared.refusal.ParseRefusal.TheVariants as refusals
use Rattle.sj_lang.specs.Limits.{limits}
use Rattle.sj_grammar.specs.Lexis.{next_of}
use Rattle.sj_grammar.specs.Files.{protocols_pieces, IsProtocolDef}
use Rattle.sj_grammar.specs.FileDues.{Due, protocols, file_layer}
use Rattle.sj_grammar.specs.Faults.{Stuck}
use Rattle.sj_proto.specs.Parsed.{standing, GivesOnLines}
use Rattle.sj_proto.specs.Protocols.{IsFaultInProtocols}
use Rattle.sj_proto.proofs.ReadLemmas.{kept_on}
use Rattle.sj_proto.proofs.OnwardLemmas.{advances_on}
use Rattle.sj_proto.proofs.ExitLemmas.{err_as, on_fault_map}
use Rattle.sj_proto.proofs.FrontLemmas.{defs_more, def_stuck, unreadable_stuck, other_next}
use Rattle.sj_proto.proofs.OneFront.{one_front, refused_no_front}
use Rattle.sj_proto.proofs.protocols.parse_protocols.Goals as goal

pub returns-in_err-protocol_def-clause-fault : goal.returns-in_err-protocol_def-clause-fault
returns-in_err-protocol_def-clause-fault c =
    let long : c.len-before.result ≡ length c.loop-alloc.list.items = c.len-before.ensures ∙ c.loop-alloc.list.ok.0 in
    err_as _ c.in_err-protocol_def.field-0.0 _ c.from_residual.ensures.1
    (on_fault_map (λ f. (n : ℕ) (ds : List Due) → Stuck file_layer limits n (standing c.loop-alloc.tokens c.loop-alloc.names) (protocols c.len-before.result ∷ ds) f) (IsFaultInProtocols (standing c.args.tokens.now c.args.names.now)) c.in_err-protocol_def.field-0.0
    (λ f st. c.loop-alloc.invariant.back f (subst (λ (k : ℕ). (m : ℕ) (ds : List Due) → Stuck file_layer limits m (standing c.loop-alloc.tokens c.loop-alloc.names) (protocols k ∷ ds) f) long st))
    c.in_err-protocol_def.ensures.fault)

pub returns-in_err-protocol_def-clause-only : goal.returns-in_err-protocol_def-clause-only
returns-in_err-protocol_def-clause-only c =
    let long : c.len-before.result ≡ length c.loop-alloc.list.items = c.len-before.ensures ∙ c.loop-alloc.list.ok.0 in
    refused_no_front (λ v. map protocol_of v.items) (standing c.args.tokens.now c.args.names.now) c.from_residual.result c.in_err-protocol_def.field-0.0 c.from_residual.ensures.1
    (on_fault_map (λ f. (n : ℕ) (ds : List Due) → Stuck file_layer limits n (standing c.loop-alloc.tokens c.loop-alloc.names) (protocols c.len-before.result ∷ ds) f) (IsFaultInProtocols (standing c.args.tokens.now c.args.names.now)) c.in_err-protocol_def.field-0.0
    (λ f st. c.loop-alloc.invariant.back f (subst (λ (k : ℕ). (m : ℕ) (ds : List Due) → Stuck file_layer limits m (standing c.loop-alloc.tokens c.loop-alloc.names) (protocols k ∷ ds) f) long st))
    c.in_err-protocol_def.ensures.fault)

pub returns-in_err-readable-clause-fault : goal.returns-in_err-readable-clause-fault
returns-in_err-readable-clause-fault c =
    err_as _ (refusals.At c.in_err-readable.field-0.0) _ c.from_residual-in_err-readable.ensures.1 (c.loop-alloc.invariant.back c.in_err-readable.field-0.0 (λ m ds. unreadable_stuck (standing c.loop-alloc.tokens c.loop-alloc.names) m (protocols (length c.loop-alloc.list.items) ∷ ds) c.in_err-readable.field-0.0 c.in_err-readable.ensures.fault))

pub returns-in_err-readable-clause-only : goal.returns-in_err-readable-clause-only
returns-in_err-readable-clause-only c =
    refused_no_front (λ v. map protocol_of v.items) (standing c.args.tokens.now c.args.names.now) c.from_residual-in_err-readable.result (refusals.At c.in_err-readable.field-0.0) c.from_residual-in_err-readable.ensures.1
    (c.loop-alloc.invariant.back c.in_err-readable.field-0.0 (λ m ds. unreadable_stuck (standing c.loop-alloc.tokens c.loop-alloc.names) m (protocols (length c.loop-alloc.list.items) ∷ ds) c.in_err-readable.field-0.0 c.in_err-readable.ensures.fault))

pub returns-clause-found : goal.returns-clause-found
returns-clause-found c =
    (record {
      begins = λ names spells. (c.loop-alloc.invariant.reads names spells).0;
      defined = λ names spells. (c.loop-alloc.invariant.reads names spells).1;
      few = omega (arith, length-map c.loop-alloc.list.items protocol_of, c.loop-alloc.invariant.few);
      ends = other_next (next_of c.loop-alloc.tokens.ahead) (codes "protocol") (sym c.sees.ensures ∙ c.loop-alloc-test.false) c.in_ok-readable.ensures.ok;
    })

pub returns-clause-only : goal.returns-clause-only
returns-clause-only c = λ ps b is. (
  (one_front (standing c.args.tokens.now c.args.names.now) (standing c.loop-alloc.tokens c.loop-alloc.names) b (map protocol_of c.loop-alloc.list.items) ps
      (record {
        begins = λ names spells. (c.loop-alloc.invariant.reads names spells).0;
        defined = λ names spells. (c.loop-alloc.invariant.reads names spells).1;
        few = omega (arith, length-map c.loop-alloc.list.items protocol_of, c.loop-alloc.invariant.few);
        ends = other_next (next_of c.loop-alloc.tokens.ahead) (codes "protocol") (sym c.sees.ensures ∙ c.loop-alloc-test.false) c.in_ok-readable.ensures.ok;
      }) is).0,
  tt,
)

pub loop-alloc-preserved : goal.loop-alloc-preserved
loop-alloc-preserved c =
    let long : c.len-before.result ≡ length c.loop-alloc.list.items = c.len-before.ensures ∙ c.loop-alloc.list.ok.0 in
    let more_long : length c.push.new.self.items ≡ suc (length c.loop-alloc.list.items) = rw c.in_ok-push.ensures.items (omega (arith, length-append c.loop-alloc.list.items (c.in_ok-protocol_def.field-0 ∷ []))) in
    record {
      reads = subst (λ (xs : List ProtocolDef). GivesOnLines (standing c.args.tokens.now c.args.names.now) (standing c.protocol_def.new.tokens c.protocol_def.new.names) (λ names. protocols_pieces names.word (map protocol_of xs)) (λ names. All (IsProtocolDef limits names) (map protocol_of xs))) (sym c.in_ok-push.ensures.items)
          (defs_more (standing c.args.tokens.now c.args.names.now) (standing c.loop-alloc.tokens c.loop-alloc.names) (standing c.protocol_def.new.tokens c.protocol_def.new.names) c.loop-alloc.list.items c.in_ok-protocol_def.field-0 c.loop-alloc.invariant.reads c.in_ok-protocol_def.ensures.reads);
      few = omega (arith, c.in_ok-protocol_def.ensures.few);
      room = omega (arith, c.in_ok-protocol_def.ensures.leaves.room, c.loop-alloc.invariant.room);
      kept = kept_on c.loop-alloc.invariant.kept c.protocol_def.ensures.leaves.kept;
      onward = advances_on c.loop-alloc.invariant.onward c.protocol_def.ensures.leaves.onward;
      back = λ f st. c.loop-alloc.invariant.back f (λ m ds. def_stuck (standing c.loop-alloc.tokens c.loop-alloc.names) (standing c.protocol_def.new.tokens c.protocol_def.new.names) (protocol_of c.in_ok-protocol_def.field-0) (length c.loop-alloc.list.items) m ds f (omega (arith, c.in_ok-protocol_def.ensures.few)) c.in_ok-protocol_def.ensures.reads
          (subst (λ (k : ℕ). Stuck file_layer limits (item_count c.in_ok-protocol_def.field-0.body) (standing c.protocol_def.new.tokens c.protocol_def.new.names) (protocols k ∷ ds) f) more_long (st (item_count c.in_ok-protocol_def.field-0.body) ds)));
    }
