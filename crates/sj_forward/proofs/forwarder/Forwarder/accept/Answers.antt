use Rattle.std.proofs.Common.{List, ℕ, ap, sym, ◌∙◌}
use Rattle.std.specs.Prelude.{Vec}
use Rattle.std.specs.declared.alloc.Global.{Global}
use Rattle.sj_rules.specs.Opened.{smallest}
use Rattle.sj_offers.specs.Offers.{offers_in}
use Rattle.sj_forward.proofs.ActLemmas.{accepts_so}
use Rattle.sj_forward.proofs.forwarder.Forwarder.accept.Goals as goal

pub returns : goal.returns
returns c =
    accepts_so c.args.self.now c.withdraw.new.offers c.args.from c.in-Some.sess
    (sym (c.in-Some.ensures ∙ ap (λ (lists : List (Vec ℕ Global)). smallest (offers_in lists c.args.from)) c.deref.ensures.value)) c.withdraw.ensures
