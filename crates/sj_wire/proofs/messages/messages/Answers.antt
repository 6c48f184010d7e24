use Rattle.std.proofs.Common.{◌≡◌, ◌++◌, ◌∷◌, [], arith, length-append}
use Rattle.std.proofs.lemmas.Result.{err_from_is_err_and}
use Rattle.sj_wire.specs.Reading.{messages_at}
use Rattle.sj_wire.proofs.MessageLoopLemmas.{goes_on, ends, is_done}
use Rattle.sj_wire.proofs.messages.messages.Goals as goal

pub returns-in_err-msg-clause-read : goal.returns-in_err-msg-clause-read
returns-in_err-msg-clause-read c =
    let p = err_from_is_err_and c.from_residual.result c.from_residual.ensures.1 in
    rw (p.1, p.2) (ends c.in_err-msg.field-0.0 c.loop.cache.items c.args.count c.loop.counter c.loop.rest.now (messages_at c.args.count c.args.bytes.now) c.loop-test.true c.in_err-msg.ensures c.loop.invariant.read)

pub loop-preserved : goal.loop-preserved
loop-preserved c =
    let e : c.push_back.new.self.items ≡ c.loop.cache.items ++ c.in_ok-msg.msg ∷ [] = c.in_ok-push_back.ensures.items in
    record {
      read = rw e (goes_on c.loop.cache.items c.args.count c.loop.counter c.loop.rest.now c.in_ok-msg.msg c.in_ok-msg.after.now (messages_at c.args.count c.args.bytes.now) c.loop-test.true c.in_ok-msg.ensures c.loop.invariant.read);
      count = rw e (let h = c.loop.invariant.count in omega (arith, h, length-append c.loop.cache.items (c.in_ok-msg.msg ∷ [])));
    }

pub returns-clause-read : goal.returns-clause-read
returns-clause-read c = is_done c.loop.cache.items c.args.count c.loop.counter c.loop.rest.now (messages_at c.args.count c.args.bytes.now) c.loop-test.false c.loop.invariant.read
