-- An audit stops at the first step that is not possible.
use Rattle.std.proofs.Common.{◌≡◌, ℕ, ◌+◌, Some, None, List, ◌∷◌, drop, refl, ap, sym, ◌∙◌, subst}
use Rattle.std.specs.Prelude.{slice_get}
use Rattle.std.proofs.lemmas.List.{drop_more}
use Rattle.std.proofs.lemmas.Option.{slice_get_within, get_or_from_slice_get}
use Rattle.l4_model.specs.Machine.{Machine}
use Rattle.l4_model.specs.Steps.{Step, next}
use Rattle.l4_model.specs.History.{refused_from, refused_place, place_or_rest}
use Rattle.l4_audit.specs.Inner.Auditing.{Auditing}
use Rattle.l4_audit.specs.Reasons.{reason}
use Rattle.l4_audit.specs.Inner.Taking.{Explains}
use Rattle.l4_audit.specs.declared.reasons.Reason.{Reason}
use Rattle.l4_audit.specs.declared.reasons.StepFault.{StepFault}
use Rattle.l4_audit.specs.declared.reasons.StepFault.TheVariants.{Refused}
use Rattle.l4_audit.proofs.Reasoning.{is_impossible}
use Rattle.l4_audit.proofs.Replaying.{Replayed}
use Rattle.l4_explain.specs.Inner.Accounts.{IsRefused}
use Rattle.l4_explain.specs.Reasons.{cause}
use Rattle.l4_explain.specs.declared.reasons.Cause.{Cause}

rest_is : (xs : List Step) (n : ℕ) (x : Step) → slice_get xs n ≡ Some x → drop n xs ≡ x ∷ drop (n + 1) xs
rest_is xs n x at =
    let lt = slice_get_within xs n x at in
    drop_more xs n x lt ∙ ap (λ y. y ∷ drop (n + 1) xs) (get_or_from_slice_get xs n x x at)

first_is : (m : Machine) (h : List Step) (n : ℕ) (a : Auditing) (x : Step) → Replayed m h n a → slice_get h n ≡ Some x → next m a.at.world x ≡ None →
    refused_place m h ≡ Some (n + 1)
first_is m h n a x r at impossible =
    sym r.faults ∙ ap (refused_from m a.at.world (n + 1)) (rest_is h n x at)
    ∙ ap (λ o. place_or_rest o (n + 1) (λ v. refused_from m v (n + 1 + 1) (drop (n + 1) h))) impossible

refused_here : (m : Machine) (h : List Step) (n : ℕ) (a : Auditing) (x : Step) (why : Reason) → Replayed m h n a → slice_get h n ≡ Some x →
    reason a.at.machine a.at.world x ≡ Some why → IsRefused m h a (record { number = n + 1; cause = cause m x why })
refused_here m h n a x why r at is =
    let here = ap (λ y. reason y a.at.world x) (sym r.machine) ∙ is in
    record {
      taken = n;
      number = refl;
      reached = record { machine = r.machine; reached_by = r.before; begun = r.begun };
      step = x;
      stands = at;
      because = why;
      why = here;
      cause_is = refl;
      first = first_is m h n a x r at (is_impossible m a.at.world x why here);
    }

pub stops_here : (m : Machine) (h : List Step) (n : ℕ) (a b : Auditing) (x : Step) (fault : StepFault) (why : Reason) (told : Cause) → Replayed m h n a → slice_get h n ≡ Some x →
    fault ≡ Refused why → told ≡ cause m x why → Explains a.at x fault × (b ≡ a) → IsRefused m h b (record { number = n + 1; cause = told })
stops_here m h n a b x fault why told r at is same judged =
    rw (judged.1, same) (refused_here m h n a x why r at (subst (Explains a.at x) is judged.0))
