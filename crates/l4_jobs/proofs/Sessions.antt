-- What a session on a text came to, for the source that gives the text.
use Rattle.std.proofs.Common.{◌≡◌, ◌⊎◌, ℕ, Bool, Option, Ok, List, refl, ap, sym, subst, inl, inr, ◌∙◌}
use Rattle.l4_script.specs.Versions.{machine_of_text}
use Rattle.l4_commands.specs.declared.job.Job.TheVariants.{Step}
use Rattle.l4_commands.specs.declared.job.StepJob.{StepJob}
use Rattle.l4_jobs.specs.Inner.Holding.{IsTextHeld}
use Rattle.l4_jobs.specs.Inner.Reading.{IsReadAs}
use Rattle.l4_jobs.specs.Inputs.{Gives, gives_nothing}
use Rattle.l4_jobs.specs.Performing.{IsHeldBy, IsHeldOut, IsPerformed, Sinks}
use Rattle.l4_jobs.specs.Steps.{session_of}
use Rattle.l4_jobs.proofs.Performed.{fault_told}

pub text_held : (explains : Bool) (step : StepJob) (machine : Gives) (known : Option (List ℕ)) (read slice : List ℕ) (s : Sinks) (status : ℕ) →
    (all : List ℕ) × machine (Ok all) × IsReadAs read all → slice ≡ read → s.keeps_list → IsTextHeld explains step slice known s status →
    IsPerformed explains (Step step) machine gives_nothing gives_nothing s status ⊎ IsHeldBy step machine known s status
text_held explains step machine known read slice s status given is kept (inl (f, faulty, left, told, one)) =
    inl (fault_told explains (Step step) machine gives_nothing gives_nothing step.file.now read slice f s status refl given is faulty kept left told one)
text_held explains step machine known read slice s status (all, gives, same) is kept (inr (m, declares, out)) =
    let of_all : machine_of_text all ≡ Ok m = sym same.machine ∙ ap machine_of_text (sym is) ∙ declares in
    let whole : slice ≡ all = is ∙ same.whole m of_all in
    inr (all, m, gives, of_all, subst (λ text. IsHeldOut (session_of step text m) known s status) whole out)
