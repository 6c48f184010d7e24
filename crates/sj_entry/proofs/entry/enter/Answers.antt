use Rattle.std.proofs.Common.{List, inl, subst, sym}
use Rattle.std.specs.declared.alloc.Global.{Global}
use Rattle.std.specs.declared.string.String.{String}
use Rattle.sj_entry.proofs.entry.enter.Goals as goal

pub returns-in-Ok : goal.returns-in-Ok
returns-in-Ok g c =
    record {
      answer =
          inl (record {
            words = c.deref.result.now;
            given = subst (λ (words : List (String Global)). g.C.Caller.gives c.args.caller.now words) (sym c.deref.ensures.value) c.in-Ok.ensures;
            answered = c.sj.ensures;
          });
    }
