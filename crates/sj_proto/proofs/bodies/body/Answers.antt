use Rattle.std.proofs.Common.{◌≤◌, ℕ, List, [], ◌∷◌, refl, ap, sym, subst, arith}
use Rattle.std.specs.Prelude.{codes}
use Rattle.sj_lang.specs.declared.proto.Item.{Item}
use Rattle.sj_lang.specs.View.{place_of}
use Rattle.sj_lang.specs.ItemCount.{item_count}
use Rattle.sj_grammar.specs.declared.refusal.ParseRefusal.TheVariants as refusals
use Rattle.sj_lang.specs.Limits.{limits}
use Rattle.sj_grammar.specs.Reading.{Reading}
use Rattle.sj_grammar.specs.Positions.{Takes}
use Rattle.sj_grammar.specs.Protocols.{body_pieces, seq_pieces, IsGiven, IsBody}
use Rattle.sj_grammar.specs.ProtocolDues.{body, seq}
use Rattle.sj_grammar.specs.FileDues.{Due, proto, file_layer}
use Rattle.sj_grammar.specs.Faults.{Stuck}
use Rattle.sj_grammar.specs.Asked.{but}
use Rattle.sj_grammar.proofs.StucknessLemmas.{refuses_stuck}
use Rattle.sj_proto.specs.Parsed.{standing, Gives}
use Rattle.sj_proto.proofs.ReadLemmas.{Gives-cons, Gives-as, takes_one}
use Rattle.sj_proto.proofs.RuleLemmas.{begin_rule}
use Rattle.sj_proto.proofs.ExitLemmas.{err_as, on_fault_map, plain}
use Rattle.sj_proto.proofs.BodyLemmas.{took_begin, dotted_some, begun_stuck}
use Rattle.sj_proto.proofs.bodies.body.Goals as goal

pub returns-in_err-expect-clause-fault : goal.returns-in_err-expect-clause-fault
returns-in_err-expect-clause-fault c =
    let f = c.in_err-expect.field-0.0 in
    err_as _ (refusals.At f) _ c.from_residual.ensures.1
    (λ n ds. refuses_stuck file_layer limits (but (codes "begin")) n (standing c.args.tokens.now c.args.names.now) (proto body ∷ ds) f refl (begin_rule n ds) c.in_err-expect.ensures.fault)

pub returns-in_err-p-clause-fault : goal.returns-in_err-p-clause-fault
returns-in_err-p-clause-fault c =
    err_as _ c.in_err-p.field-0.0 _ c.from_residual-in_err-p.ensures.1
    (on_fault_map (λ f. (ds : List Due) → Stuck file_layer limits 0 (standing c.accept.new.self c.args.names.now) (proto (seq 0) ∷ ds) f)
    (λ f. (n : ℕ) (ds : List Due) → Stuck file_layer limits n (standing c.args.tokens.now c.args.names.now) (proto body ∷ ds) f) c.in_err-p.field-0.0
    (λ f st n ds. begun_stuck c.args.tokens.now c.expect.new.self c.accept.new.self c.args.names.now n c.in_ok-expect.ensures.ok (c.accept.ensures.taken c.if-accept.true) ds f (st ds))
    c.in_err-p.ensures.fault)

pub returns-then-accept-clause-reads : goal.returns-then-accept-clause-reads
returns-then-accept-clause-reads c =
    let p = c.in_ok-p.p in
    let names = c.args.names.now in
    let start = standing c.args.tokens.now names in
    let begun = standing c.expect.new.self names in
    let dot = standing c.accept.new.self names in
    let end = standing c.seq.new.tokens c.seq.new.names in
    let few : item_count p ≤ 1024 = omega (arith, c.in_ok-p.ensures.leaves.count, c.in_ok-p.ensures.leaves.few) in
    Gives-as start end (λ word. codes "begin" ∷ codes "." ∷ seq_pieces word p) (λ word. body_pieces word p) (λ word. IsGiven limits word 0 p) (λ word. IsBody limits word p)
    (λ word. ap (λ ps. codes "begin" ∷ ps) (dotted_some word p c.in_ok-p.ensures.some)) (λ word h. record { given = h; few = few })
    (Gives-cons start begun end (codes "begin") (λ word. codes "." ∷ seq_pieces word p) (λ word. IsGiven limits word 0 p) (took_begin c.args.tokens.now c.expect.new.self names c.in_ok-expect.ensures.ok)
    (Gives-cons begun dot end (codes ".") (λ word. seq_pieces word p) (λ word. IsGiven limits word 0 p)
    (plain c.expect.new.self c.accept.new.self names (codes ".") refl refl (c.accept.ensures.taken c.if-accept.true)) c.in_ok-p.ensures.reads))

pub returns-clause-reads : goal.returns-clause-reads
returns-clause-reads c =
    let names = c.args.names.now in
    let start = standing c.args.tokens.now names in
    let end = standing c.accept.new.self names in
    let took : Takes start (codes "begin") end =
    subst (λ (r : Reading). Takes start (codes "begin") (standing r names)) (sym (c.accept.ensures.left c.if-accept.false)) (took_begin c.args.tokens.now c.expect.new.self names c.in_ok-expect.ensures.ok) in
    subst (λ (xs : List Item). Gives start end (λ word. body_pieces word (place_of xs)) (λ word. IsBody limits word (place_of xs))) (sym c.new.ensures.items)
    (Gives-as start end (λ word. codes "begin" ∷ []) (λ word. codes "begin" ∷ []) (λ word. Unit {0}) (λ word. IsBody limits word (place_of [])) (λ word. refl) (λ word h. record { given = tt; few = omega arith }) (takes_one start end (codes "begin") took))
