use Rattle.std.proofs.lemmas.Result.{IfOk-weaker}
use Rattle.instances.proofs.jobs.drive_all.Goals as goal

-- what a call of the closure promises for its job holds for the job at its place
pub returns-clause-each : goal.returns-clause-each
returns-clause-each g c =
    IfOk-weaker c.map_vec.result _ _
    (λ done gives k d e within. let gave = gives k e within in rw (← gave.1.job_is d) at gave.1.call.met)
    c.map_vec.ensures.each
