use Rattle.std.proofs.Common.{◌≡◌, ◌∷◌, ◌++◌, [], ◌∙◌, ap, arith, sym, subst, take, length, List}
use Rattle.std.proofs.lemmas.List.{length-map, map-append}
use Rattle.sj_plain.specs.declared.ends.Session.{Session}
use Rattle.sj_plain.specs.Ends.{session_at}
use Rattle.sj_plain.specs.Stepping.{reached, sessions_at}
use Rattle.sj_plain.proofs.ReachLemmas.{front-push, reached-push, reached-there}
use Rattle.sj_plain.proofs.uses.reach.Goals as goal

pub loop-alloc-preserved : goal.loop-alloc-preserved
loop-alloc-preserved c =
    let pushed : c.push.new.self.items ≡ c.loop-alloc.sessions.items ++ c.unopened.result ∷ [] = grind (arith, c.push.ensures.items, c.if-is_err.ensures.value) in
    record {
      same =
          ap (λ zs. reached (sessions_at c.args.table.now zs) c.args.number) pushed
          ∙ ap (λ zs. reached zs c.args.number) (map-append (session_at c.args.table.now) c.loop-alloc.sessions.items (c.unopened.result ∷ []) ∙ ap (λ z. sessions_at c.args.table.now c.loop-alloc.sessions.items ++ z ∷ []) c.unopened.ensures)
          ∙ reached-push (sessions_at c.args.table.now c.loop-alloc.sessions.items) c.args.number (omega (arith, length-map c.loop-alloc.sessions.items (session_at c.args.table.now), c.loop-alloc-test.true, c.len.ensures))
          ∙ c.loop-alloc.invariant.same;
      front =
          subst (λ (zs : List Session). take (length c.args.sessions.now.items) zs ≡ c.args.sessions.now.items) (sym pushed)
          (front-push c.args.sessions.now.items c.loop-alloc.sessions.items c.unopened.result c.loop-alloc.invariant.front);
    }

pub returns-clause-ok : goal.returns-clause-ok
returns-clause-ok c = sym (reached-there (sessions_at c.args.table.now c.loop-alloc.sessions.items) c.args.number (omega (arith, length-map c.loop-alloc.sessions.items (session_at c.args.table.now), c.loop-alloc-test.false, c.len.ensures))) ∙ c.loop-alloc.invariant.same
