-- A transition of one processor as an event of all processors.
use Rattle.std.proofs.Common.{◌≡◌, ℕ, Bool, true, false, cond, Some, List, [], ◌∷◌, ◌++◌, map, refl, ap, sym, ◌∙◌, subst}
use Rattle.std.specs.Prelude.{slice_get, ◌==◌}
use Rattle.std.specs.Option.{option_map}
use Rattle.std.proofs.lemmas.Bool.{eqb-true, eqb-false}
use Rattle.l4_model.specs.Machine.{Machine}
use Rattle.l4_model.specs.World.{changed}
use Rattle.l4_model.proofs.Chains.{get-changed_same, get-changed_other}
use Rattle.l4_core_model.specs.Letters.{Letter}
use Rattle.l4_core_model.specs.Local.{Local}
use Rattle.l4_core_model.specs.Runs.{System, letters, without_first, posted, taken, Happened, done, happens}
use Rattle.l4_merge.specs.Transitions.{LocalEvent, Handled, Turned, Ticked, work_of, action_of, letter_of, Transition, letters_with, Does}
use Rattle.l4_merge.specs.LocalTraces.{Begins}
use Rattle.l4_merge.proofs.Mail.{letters-append, no_letters, letters-posted, letters-without_first, letters-without_other}
use Rattle.l4_merge.proofs.Own.{if_own}

-- All processors, less the letter that a local event handles.
abbrev pub given : (cpu : ℕ) → LocalEvent → System → System
given cpu (Handled from letter) g = taken from cpu g
given cpu Turned g = g
given cpu (Ticked clock) g = g

-- That letter is the first of its pair.
abbrev pub IsGiven : (cpu : ℕ) → LocalEvent → System → Type 0
IsGiven cpu (Handled from letter) g = Begins (letter ∷ []) (letters g.mail from cpu)
IsGiven cpu Turned g = Unit {0}
IsGiven cpu (Ticked clock) g = Unit {0}

-- What all processors come to by a transition.
abbrev pub done_by : Transition → System → Happened
done_by d g = done d.cpu (given d.cpu d.event g) d.work

pub happens_so : (m : Machine) (g : System) (d : Transition) (l : Local) → slice_get g.locals d.cpu ≡ Some l → Does m d.cpu l d → IsGiven d.cpu d.event g →
    happens m g (action_of d.cpu d.event) ≡ Some (done_by d g)
happens_so m g d l at does = by d.event does.work
  where
    by : (event : LocalEvent) → work_of m d.cpu l event ≡ Some d.work → IsGiven d.cpu event g →
        happens m g (action_of d.cpu event) ≡ Some (done d.cpu (given d.cpu event g) d.work)
    by (Handled from letter) does first = let here = ap (λ ls. slice_get ls 0) first.is in rw (at, here, does)
    by Turned does first = rw (at, does)
    by (Ticked clock) does first = rw (at, does)

-- The local states after it

given-locals : (cpu : ℕ) (event : LocalEvent) (g : System) → (given cpu event g).locals ≡ g.locals
given-locals cpu (Handled from letter) g = refl
given-locals cpu Turned g = refl
given-locals cpu (Ticked clock) g = refl

pub locals_then : (d : Transition) (g : System) → (done_by d g).system.locals ≡ changed (λ l. d.work.local) g.locals d.cpu
locals_then d g = ap (λ ls. changed (λ l. d.work.local) ls d.cpu) (given-locals d.cpu d.event g)

pub own_local_then : (d : Transition) (g : System) (cpu : ℕ) (l : Local) → slice_get g.locals d.cpu ≡ Some l → d.cpu ≡ cpu →
    slice_get (done_by d g).system.locals cpu ≡ Some d.work.local
own_local_then d g cpu l at same =
    ap (λ ls. slice_get ls cpu) (locals_then d g) ∙ ap (slice_get (changed (λ l. d.work.local) g.locals d.cpu)) (sym same)
    ∙ get-changed_same (λ l. d.work.local) g.locals d.cpu ∙ ap (option_map (λ l. d.work.local)) at

pub other_local_then : (d : Transition) (g : System) (cpu : ℕ) → (d.cpu ≡ cpu → ⊥) → slice_get (done_by d g).system.locals cpu ≡ slice_get g.locals cpu
other_local_then d g cpu other = ap (λ ls. slice_get ls cpu) (locals_then d g) ∙ get-changed_other (λ l. d.work.local) g.locals d.cpu cpu other

-- The letters under way of a pair: those before it are what it handles and what stays, to which come those that it posts

pub given-mail : (cpu : ℕ) (event : LocalEvent) (g : System) → IsGiven cpu event g → (from to : ℕ) →
    letters g.mail from to ≡ cond (cpu == to) (letters_with from (letter_of event)) [] ++ letters (given cpu event g).mail from to
given-mail cpu Turned g first from to = ap (λ ls. ls ++ letters g.mail from to) (no_letters (cpu == to))
given-mail cpu (Ticked clock) g first from to = ap (λ ls. ls ++ letters g.mail from to) (no_letters (cpu == to))
given-mail cpu (Handled poster letter) g first from to = by (cpu == to) (poster == from) refl refl
  where
    stays : (from to : ℕ) → List Letter
    stays from to = letters (without_first poster cpu g.mail) from to

    same : letters g.mail poster cpu ≡ letter ∷ stays poster cpu
    same = first.is ∙ ap (λ ls. letter ∷ ls) (sym (letters-without_first poster cpu g.mail letter first.rest first.is))

    by : (b c : Bool) → (cpu == to) ≡ b → (poster == from) ≡ c →
        letters g.mail from to ≡ cond b (map (λ (p : ℕ × Letter). p.1) (cond c ((poster, letter) ∷ []) [])) [] ++ stays from to
    by true true s t =
        subst (λ to. letters g.mail from to ≡ letter ∷ stays from to) (eqb-true cpu to s)
        (subst (λ from. letters g.mail from cpu ≡ letter ∷ stays from cpu) (eqb-true poster from t) same)
    by true false s t = sym (letters-without_other poster cpu from to g.mail (λ e _. eqb-false poster from t e))
    by false c s t = sym (letters-without_other poster cpu from to g.mail (λ _ e. eqb-false cpu to s e))

pub mail_then : (d : Transition) (g : System) (from to : ℕ) →
    letters (done_by d g).system.mail from to ≡ letters (given d.cpu d.event g).mail from to ++ if_own from d (letters_with to d.work.letters)
mail_then d g from to =
    let stays = (given d.cpu d.event g).mail in
    letters-append from to stays (map (posted d.cpu) d.work.letters) ∙ ap (λ ls. letters stays from to ++ ls) (letters-posted d.cpu from to d.work.letters)
