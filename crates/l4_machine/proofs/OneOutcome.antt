-- A core run has one outcome.
use Rattle.std.proofs.Common.{◌≡◌, ap, sym, ◌∙◌, refl}
use Rattle.l4_model.specs.Machine.{Machine}
use Rattle.l4_model.specs.World.{World}
use Rattle.l4_model.specs.History.{reached, waiting as undecided_sends}
use Rattle.l4_core_model.specs.Runs.{Run}
use Rattle.l4_types.specs.declared.reports.Ending.{Ending}
use Rattle.l4_types.specs.declared.reports.Ending.TheVariants.{Quiet, Spent}
use Rattle.l4_machine.specs.Outcomes.{Findings, IsOutcomeOf}

same_ending : (e f : Ending) → (e ≡ Quiet → f ≡ Quiet) → (f ≡ Quiet → e ≡ Quiet) → e ≡ f
same_ending Quiet f to from = sym (to refl)
same_ending Spent Quiet to from = from refl
same_ending Spent Spent to from = refl

pub one_outcome : (m : Machine) (r : Run) (a b : Findings) → IsOutcomeOf m r a → IsOutcomeOf m r b → a ≡ b
one_outcome m r a b x y =
    let history = x.history ∙ sym y.history in
    let w : World = x.is_true.possible.0 in
    let there = ap (reached m) (sym history) ∙ x.is_true.possible.1 in
    let waiting = x.is_true.waiting w x.is_true.possible.1 ∙ ap (undecided_sends m w) history ∙ sym (y.is_true.waiting w there) in
    let threads = x.is_true.threads w x.is_true.possible.1 ∙ sym (y.is_true.threads w there) in
    let ending = same_ending a.ending b.ending (λ e. y.quiet.1 (x.quiet.0 e)) (λ e. x.quiet.1 (y.quiet.0 e)) in
    ap (λ h. record a { history = h }) history
    ∙ ap (λ ws. record a { history = b.history; waiting = ws }) waiting
    ∙ ap (λ ts. record a { history = b.history; waiting = b.waiting; threads = ts }) threads
    ∙ ap (λ e. record a { history = b.history; waiting = b.waiting; threads = b.threads; ending = e }) ending
    ∙ ap (λ n. record b { turns = n }) (x.turns ∙ sym y.turns)
