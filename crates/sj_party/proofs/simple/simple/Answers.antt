use Rattle.std.proofs.Common.{ℕ, sym, subst}
use Rattle.std.specs.Prelude.{IfOk, IfErr}
use Rattle.sj_lang.specs.CodeView.{deed_of}
use Rattle.sj_proto.specs.Parsed.{standing, Stops}
use Rattle.sj_party.specs.declared.first_words.Word.{Word}
use Rattle.sj_party.specs.Parts.{ReadsDeed}
use Rattle.sj_party.specs.Words.{simple_word, simple_dues}
use Rattle.sj_party.proofs.simple.simple.Goals as goal

pub returns-in-Send-clause-reads : goal.returns-in-Send-clause-reads
returns-in-Send-clause-reads c =
    subst (λ (w : Word). IfOk c.send.result (λ d. (o : ℕ) → ReadsDeed (simple_word w) o (standing c.args.tokens.now c.args.names.now) (standing c.send.new.tokens c.send.new.names) (deed_of d))) (sym c.in-Send.is) c.send.ensures.reads

pub returns-in-Send-clause-fault : goal.returns-in-Send-clause-fault
returns-in-Send-clause-fault c =
    subst (λ (w : Word). IfErr c.send.result (λ e. (n : ℕ) → Stops (λ ds. simple_dues w ds) n (standing c.args.tokens.now c.args.names.now) e)) (sym c.in-Send.is) c.send.ensures.fault

pub returns-in-Delegate-clause-reads : goal.returns-in-Delegate-clause-reads
returns-in-Delegate-clause-reads c =
    subst (λ (w : Word). IfOk c.delegate.result (λ d. (o : ℕ) → ReadsDeed (simple_word w) o (standing c.args.tokens.now c.args.names.now) (standing c.delegate.new.tokens c.delegate.new.names) (deed_of d))) (sym c.in-Delegate.is) c.delegate.ensures.reads

pub returns-in-Delegate-clause-fault : goal.returns-in-Delegate-clause-fault
returns-in-Delegate-clause-fault c =
    subst (λ (w : Word). IfErr c.delegate.result (λ e. (n : ℕ) → Stops (λ ds. simple_dues w ds) n (standing c.args.tokens.now c.args.names.now) e)) (sym c.in-Delegate.is) c.delegate.ensures.fault

pub returns-in-Recv-clause-reads : goal.returns-in-Recv-clause-reads
returns-in-Recv-clause-reads c =
    subst (λ (w : Word). IfOk c.receive.result (λ d. (o : ℕ) → ReadsDeed (simple_word w) o (standing c.args.tokens.now c.args.names.now) (standing c.receive.new.tokens c.receive.new.names) (deed_of d))) (sym c.in-Recv.is) c.receive.ensures.reads

pub returns-in-Recv-clause-fault : goal.returns-in-Recv-clause-fault
returns-in-Recv-clause-fault c =
    subst (λ (w : Word). IfErr c.receive.result (λ e. (n : ℕ) → Stops (λ ds. simple_dues w ds) n (standing c.args.tokens.now c.args.names.now) e)) (sym c.in-Recv.is) c.receive.ensures.fault

pub returns-in-Outbranch-clause-reads : goal.returns-in-Outbranch-clause-reads
returns-in-Outbranch-clause-reads c =
    subst (λ (w : Word). IfOk c.select.result (λ d. (o : ℕ) → ReadsDeed (simple_word w) o (standing c.args.tokens.now c.args.names.now) (standing c.select.new.tokens c.select.new.names) (deed_of d))) (sym c.in-Outbranch.is) c.select.ensures.reads

pub returns-in-Outbranch-clause-fault : goal.returns-in-Outbranch-clause-fault
returns-in-Outbranch-clause-fault c =
    subst (λ (w : Word). IfErr c.select.result (λ e. (n : ℕ) → Stops (λ ds. simple_dues w ds) n (standing c.args.tokens.now c.args.names.now) e)) (sym c.in-Outbranch.is) c.select.ensures.fault

pub returns-in-Let-clause-reads : goal.returns-in-Let-clause-reads
returns-in-Let-clause-reads c =
    subst (λ (w : Word). IfOk c.bind.result (λ d. (o : ℕ) → ReadsDeed (simple_word w) o (standing c.args.tokens.now c.args.names.now) (standing c.bind.new.tokens c.bind.new.names) (deed_of d))) (sym c.in-Let.is) c.bind.ensures.reads

pub returns-in-Let-clause-fault : goal.returns-in-Let-clause-fault
returns-in-Let-clause-fault c =
    subst (λ (w : Word). IfErr c.bind.result (λ e. (n : ℕ) → Stops (λ ds. simple_dues w ds) n (standing c.args.tokens.now c.args.names.now) e)) (sym c.in-Let.is) c.bind.ensures.fault

pub returns-in-Close-clause-reads : goal.returns-in-Close-clause-reads
returns-in-Close-clause-reads c =
    subst (λ (w : Word). IfOk c.close.result (λ d. (o : ℕ) → ReadsDeed (simple_word w) o (standing c.args.tokens.now c.args.names.now) (standing c.close.new.tokens c.close.new.names) (deed_of d))) (sym c.in-Close.is) c.close.ensures.reads

pub returns-in-Close-clause-fault : goal.returns-in-Close-clause-fault
returns-in-Close-clause-fault c =
    subst (λ (w : Word). IfErr c.close.result (λ e. (n : ℕ) → Stops (λ ds. simple_dues w ds) n (standing c.args.tokens.now c.args.names.now) e)) (sym c.in-Close.is) c.close.ensures.fault

pub returns-in-Request-clause-reads : goal.returns-in-Request-clause-reads
returns-in-Request-clause-reads c =
    subst (λ (w : Word). IfOk c.request.result (λ d. (o : ℕ) → ReadsDeed (simple_word w) o (standing c.args.tokens.now c.args.names.now) (standing c.request.new.tokens c.request.new.names) (deed_of d))) (sym c.in-Request.is) c.request.ensures.reads

pub returns-in-Request-clause-fault : goal.returns-in-Request-clause-fault
returns-in-Request-clause-fault c =
    subst (λ (w : Word). IfErr c.request.result (λ e. (n : ℕ) → Stops (λ ds. simple_dues w ds) n (standing c.args.tokens.now c.args.names.now) e)) (sym c.in-Request.is) c.request.ensures.fault

pub returns-in-Accept-clause-reads : goal.returns-in-Accept-clause-reads
returns-in-Accept-clause-reads c =
    subst (λ (w : Word). IfOk c.accept.result (λ d. (o : ℕ) → ReadsDeed (simple_word w) o (standing c.args.tokens.now c.args.names.now) (standing c.accept.new.tokens c.accept.new.names) (deed_of d))) (sym c.in-Accept.is) c.accept.ensures.reads

pub returns-in-Accept-clause-fault : goal.returns-in-Accept-clause-fault
returns-in-Accept-clause-fault c =
    subst (λ (w : Word). IfErr c.accept.result (λ e. (n : ℕ) → Stops (λ ds. simple_dues w ds) n (standing c.args.tokens.now c.args.names.now) e)) (sym c.in-Accept.is) c.accept.ensures.fault
