use Rattle.std.proofs.Common.{subst, sym}
use Rattle.sj_acceptance.specs.Environment.{Env}
use Rattle.sj_acceptance.specs.EnvAt.{env_of}
use Rattle.sj_acceptance.specs.Follows.{Follows}
use Rattle.sj_acceptance_laws.proofs.CodeLaws.{follows_code, passes_code}
use Rattle.sj_acceptance_laws.proofs.laws.a_block_leads_where_its_tests_pass.Goals as goal

pub returns : goal.returns
returns c = λ ps parties b env next. (
  passes_code ps parties b env next,
  λ h. subst (λ (v : Env). Follows ps parties b (env_of env) v) (sym h.1) (follows_code ps parties b env h.0),
)
