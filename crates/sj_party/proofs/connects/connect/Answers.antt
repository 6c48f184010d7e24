use Rattle.std.proofs.Common.{◌+◌, ◌≤◌, ℕ, List, ◌∷◌, length, refl, arith}
use Rattle.std.specs.Prelude.{codes}
use Rattle.std.proofs.lemmas.Bool.{leb-false}
use Rattle.sj_lang.specs.FileView.{decl_of}
use Rattle.sj_grammar.specs.declared.refusal.ParseRefusal.TheVariants as refusals
use Rattle.sj_lang.specs.Limits.{limits}
use Rattle.sj_grammar.specs.FileDues.{Due, fixed, connects, file_layer}
use Rattle.sj_grammar.specs.Faults.{Stuck}
use Rattle.sj_grammar.specs.Asked.{but}
use Rattle.sj_grammar.proofs.StucknessLemmas.{refuses_stuck}
use Rattle.sj_proto.specs.Parsed.{standing}
use Rattle.sj_proto.proofs.ReadLemmas.{kept_on}
use Rattle.sj_proto.proofs.OnwardLemmas.{advances_on}
use Rattle.sj_proto.proofs.ExitLemmas.{err_as, on_fault_map}
use Rattle.sj_proto.proofs.NamedPieceLemmas.{fixed_rule}
use Rattle.sj_party.proofs.FileLineLemmas.{shorter_by}
use Rattle.sj_party.proofs.ConnectLemmas.{end_due, behind_first, connect_fault, connect_stuck, first_stuck, to_stuck, second_stuck, connect_gives}
use Rattle.sj_party.proofs.connects.connect.Goals as goal

pub returns-in_err-take_first-clause-fault : goal.returns-in_err-take_first-clause-fault
returns-in_err-take_first-clause-fault c =
    err_as _ (refusals.At c.in_err-take_first.field-0.0) _ c.from_residual.ensures.1
    (λ n ds. connect_fault (standing c.args.tokens.now c.args.names.now) c.args.before n ds c.in_err-take_first.field-0.0 c.requires.first c.in_err-take_first.ensures.fault)

-- the word gives back the room that the names take
pub end_decl-requires : goal.end_decl-requires
end_decl-requires c =
    let seven : length c.take_first.new.tokens.ahead + 7 ≤ length c.args.tokens.now.ahead = shorter_by c.args.tokens.now c.take_first.new.tokens (codes "connect") c.in_ok-take_first.ensures.ok in
    record { room = omega (arith, seven, c.requires.room) }

pub end_decl-requires-2 : goal.end_decl-requires-2
end_decl-requires-2 c =
    let seven : length c.take_first.new.tokens.ahead + 7 ≤ length c.args.tokens.now.ahead = shorter_by c.args.tokens.now c.take_first.new.tokens (codes "connect") c.in_ok-take_first.ensures.ok in
    record { room = omega (arith, seven, c.requires.room, c.in_ok-first.ensures.leaves.room, c.in_ok-expect.ensures.shorter) }

pub returns-clause-leaves : goal.returns-clause-leaves
returns-clause-leaves c =
    let seven : length c.take_first.new.tokens.ahead + 7 ≤ length c.args.tokens.now.ahead = shorter_by c.args.tokens.now c.take_first.new.tokens (codes "connect") c.in_ok-take_first.ensures.ok in
    record {
      onward = advances_on c.take_first.ensures.onward (advances_on c.end_decl.ensures.leaves.onward (advances_on c.expect.ensures.onward (advances_on c.end_decl-2.ensures.leaves.onward c.expect-2.ensures.onward)));
      kept = kept_on c.end_decl.ensures.leaves.kept c.end_decl-2.ensures.leaves.kept;
      room = omega (arith, seven, c.in_ok-first.ensures.leaves.room, c.in_ok-expect.ensures.shorter, c.in_ok-second.ensures.leaves.room, c.in_ok-expect-2.ensures.shorter);
    }

pub returns-in_err-first-clause-fault : goal.returns-in_err-first-clause-fault
returns-in_err-first-clause-fault c =
    let a = standing c.args.tokens.now c.args.names.now in
    let k = c.args.before in
    let room = leb-false 64 k c.in_ok-take_first.ensures.room in
    err_as _ c.in_err-first.field-0.0 _ c.from_residual-in_err-first.ensures.1
    (on_fault_map (λ f. (n : ℕ) (ds : List Due) → Stuck file_layer limits n (standing c.take_first.new.tokens c.args.names.now) (end_due ds) f) (λ f. (n : ℕ) (ds : List Due) → Stuck file_layer limits n a (connects k ∷ ds) f) c.in_err-first.field-0.0
    (λ f st n ds. connect_stuck c.args.tokens.now c.take_first.new.tokens c.args.names.now k room c.in_ok-take_first.ensures.ok n ds f (st n (fixed (codes "to") ∷ end_due (behind_first k ds)))) c.in_err-first.ensures.fault)

pub returns-in_err-expect-clause-fault : goal.returns-in_err-expect-clause-fault
returns-in_err-expect-clause-fault c =
    let k = c.args.before in
    let room = leb-false 64 k c.in_ok-take_first.ensures.room in
    let f = c.in_err-expect.field-0.0 in
    err_as _ (refusals.At f) _ c.from_residual-in_err-expect.ensures.1
    (λ n ds. first_stuck c.args.tokens.now c.take_first.new.tokens c.args.names.now k room c.in_ok-take_first.ensures.ok c.end_decl.new.tokens c.end_decl.new.names (decl_of c.in_ok-first.first) c.in_ok-first.ensures.reads n ds f
    (refuses_stuck file_layer limits (but (codes "to")) n (standing c.end_decl.new.tokens c.end_decl.new.names) (fixed (codes "to") ∷ end_due (behind_first k ds)) f refl
    (fixed_rule (codes "to") n (end_due (behind_first k ds)) refl) c.in_err-expect.ensures.fault))

pub returns-in_err-second-clause-fault : goal.returns-in_err-second-clause-fault
returns-in_err-second-clause-fault c =
    let a = standing c.args.tokens.now c.args.names.now in
    let k = c.args.before in
    let room = leb-false 64 k c.in_ok-take_first.ensures.room in
    err_as _ c.in_err-second.field-0.0 _ c.from_residual-in_err-second.ensures.1
    (on_fault_map (λ f. (n : ℕ) (ds : List Due) → Stuck file_layer limits n (standing c.expect.new.self c.end_decl.new.names) (end_due ds) f) (λ f. (n : ℕ) (ds : List Due) → Stuck file_layer limits n a (connects k ∷ ds) f) c.in_err-second.field-0.0
    (λ f st n ds. to_stuck c.args.tokens.now c.take_first.new.tokens c.args.names.now k room c.in_ok-take_first.ensures.ok c.end_decl.new.tokens c.end_decl.new.names (decl_of c.in_ok-first.first) c.in_ok-first.ensures.reads
    c.expect.new.self c.in_ok-expect.ensures.ok n ds f (st n (behind_first k ds))) c.in_err-second.ensures.fault)

pub returns-in_err-expect-2-clause-fault : goal.returns-in_err-expect-2-clause-fault
returns-in_err-expect-2-clause-fault c =
    let k = c.args.before in
    let room = leb-false 64 k c.in_ok-take_first.ensures.room in
    let f = c.in_err-expect-2.field-0.0 in
    err_as _ (refusals.At f) _ c.from_residual-in_err-expect-2.ensures.1
    (λ n ds. second_stuck c.args.tokens.now c.take_first.new.tokens c.args.names.now k room c.in_ok-take_first.ensures.ok c.end_decl.new.tokens c.end_decl.new.names (decl_of c.in_ok-first.first) c.in_ok-first.ensures.reads
    c.expect.new.self c.in_ok-expect.ensures.ok c.end_decl-2.new.tokens c.end_decl-2.new.names (decl_of c.in_ok-second.second) c.in_ok-second.ensures.reads n ds f
    (refuses_stuck file_layer limits (but (codes ";")) n (standing c.end_decl-2.new.tokens c.end_decl-2.new.names) (behind_first k ds) f refl (fixed_rule (codes ";") n _ refl) c.in_err-expect-2.ensures.fault))

pub returns-clause-reads : goal.returns-clause-reads
returns-clause-reads c =
    let k = c.args.before in
    let room = leb-false 64 k c.in_ok-take_first.ensures.room in
    connect_gives c.args.tokens.now c.take_first.new.tokens c.args.names.now k room c.in_ok-take_first.ensures.ok c.end_decl.new.tokens c.end_decl.new.names (decl_of c.in_ok-first.first) c.in_ok-first.ensures.reads
    c.expect.new.self c.in_ok-expect.ensures.ok c.end_decl-2.new.tokens c.end_decl-2.new.names (decl_of c.in_ok-second.second) c.in_ok-second.ensures.reads c.expect-2.new.self c.line-line.result c.in_ok-expect-2.ensures.ok c.line-line.ensures
