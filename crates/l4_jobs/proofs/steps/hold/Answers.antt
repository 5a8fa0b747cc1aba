use Rattle.std.proofs.Common.{◌≡◌, List, ℕ, ap, subst, ◌∙◌, rules}
use Rattle.std.proofs.lemmas.Result.{IfErr-weaker, IfOk-weaker}
use Rattle.std.specs.Prelude.{IfErr}
use Rattle.l4_chart.specs.Listings.{listing_of}
use Rattle.l4_steps.specs.Sessions.{session_text}
use Rattle.l4_jobs.specs.Steps.{IsHeld, IsHeldUpTo, session_of}
use Rattle.l4_jobs.specs.declared.fault.Fault.TheVariants as fault
use Rattle.l4_jobs.proofs.Holding.{nothing_told}
use Rattle.l4_jobs.proofs.steps.hold.Goals as goal

pub returns-in_err-listing-clause-err : goal.returns-in_err-listing-clause-err
returns-in_err-listing-clause-err g c =
    let none : IfErr c.from_residual.result (λ f. f ≡ fault.NoMemory) = search rules in
    IfErr-weaker c.from_residual.result (λ f. f ≡ fault.NoMemory) _
    (λ f is. nothing_told (session_of c.args.step.now c.args.text.now c.args.machine.now) (g.R.Read.remaining c.args.input.now) (g.W.Sink.takes c.args.out.now c.args.out.now) f
    (g.met.W.Sink.nothing c.args.out.now) is) none

pub returns-clause-ok : goal.returns-clause-ok
returns-clause-ok g c =
    let m = c.args.machine.now in
    let same = ap (λ l. session_text m l c.text_form-form.result) c.in_ok-listing.ensures ∙ ap (session_text m (listing_of c.args.text.now)) c.text_form-form.ensures in
    IfOk-weaker c.hold_with.result _ _
    (λ x h. subst (λ (tells : List (List ℕ) → List ℕ). IsHeld tells (g.R.Read.remaining c.args.input.now) (g.W.Sink.takes c.args.out.now c.hold_with.new.out)) same h)
    c.hold_with.ensures.ok

pub returns-clause-err : goal.returns-clause-err
returns-clause-err g c =
    let m = c.args.machine.now in
    let same = ap (λ l. session_text m l c.text_form-form.result) c.in_ok-listing.ensures ∙ ap (session_text m (listing_of c.args.text.now)) c.text_form-form.ensures in
    IfErr-weaker c.hold_with.result _ _
    (λ f h. subst (λ (tells : List (List ℕ) → List ℕ). IsHeldUpTo tells (g.R.Read.remaining c.args.input.now) (g.W.Sink.takes c.args.out.now c.hold_with.new.out) f) same h)
    c.hold_with.ensures.err
