-- Threads that share a processor.
use Rattle.std.proofs.Common.{◌≡◌, ℕ, ◌≤◌, ◌-◌, Bool, true, false, List, [], ◌∷◌, get_or, take, drop, length, ap, ap₂, sym, ◌∙◌, arith}
use Rattle.std.specs.Prelude.{◌||◌}
use Rattle.std.proofs.lemmas.List.{take_all}
use Rattle.l4_model.specs.Machine.{Declaration}
use Rattle.l4_questions.specs.Placed.{has_thread_on, share_processor}

-- All but the first of these, as a slice has them.
abbrev others : List Declaration → List Declaration
others threads = take (length threads - 1) (drop 1 threads)

others_are : (d : Declaration) (threads : List Declaration) → others (d ∷ threads) ≡ threads
others_are d threads = take_all (length (d ∷ threads) - 1) threads (omega arith)

shared : (threads : List Declaration) (first : Declaration) (cpu : ℕ) → 1 ≤ length threads →
    first ≡ get_or threads 0 first → cpu ≡ first.cpu →
    share_processor threads ≡ (has_thread_on cpu (others threads) || share_processor (others threads))
shared [] first cpu some is same = absurd (omega arith)
shared (d ∷ threads) first cpu some is same =
    let on : cpu ≡ d.cpu = same ∙ ap (λ (e : Declaration). e.cpu) is in
    sym (ap₂ (λ (p : ℕ) (es : List Declaration). has_thread_on p es || share_processor es) on
    (others_are d threads))

pub shared_by_first : (threads : List Declaration) (first : Declaration) (cpu : ℕ) (found : Bool) →
    1 ≤ length threads → first ≡ get_or threads 0 first → cpu ≡ first.cpu →
    found ≡ has_thread_on cpu (others threads) → found ≡ true → found ≡ share_processor threads
shared_by_first threads first cpu found some is same told found_is =
    found_is
    ∙ sym (shared threads first cpu some is same
    ∙ ap (λ (b : Bool). b || share_processor (others threads)) (sym told ∙ found_is))

pub shared_by_others : (threads : List Declaration) (first : Declaration) (cpu : ℕ)
    (found rest : Bool) → 1 ≤ length threads → first ≡ get_or threads 0 first → cpu ≡ first.cpu →
    found ≡ has_thread_on cpu (others threads) → found ≡ false →
    rest ≡ share_processor (others threads) → rest ≡ share_processor threads
shared_by_others threads first cpu found rest some is same told none behind =
    behind
    ∙ sym (shared threads first cpu some is same
    ∙ ap (λ (b : Bool). b || share_processor (others threads)) (sym told ∙ none))
