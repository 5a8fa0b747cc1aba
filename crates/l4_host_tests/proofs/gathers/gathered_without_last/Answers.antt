use Rattle.std.proofs.Common.{◌≡◌, ℕ, zero, suc, Some, List, [], ◌∷◌, ◌++◌, subst}
use Rattle.std.specs.Prelude.{slice_get}
use Rattle.std.specs.Option.{option_to_list}
use Rattle.l4_proc.proofs.Rested.{one_of_first}
use Rattle.l4_machine.specs.Gathers.{AreOfOne}
use Rattle.l4_host_tests.proofs.gathers.gathered_without_last.Goals as goal

still_there : {A : Type 0} (xs ys : List A) (i : ℕ) (x : A) → slice_get xs i ≡ Some x → slice_get (xs ++ ys) i ≡ Some x
still_there [] ys i x at = absurd cc
still_there (y ∷ xs) ys zero x at = at
still_there (y ∷ xs) ys (suc i) x at = still_there xs ys i x at

pub gather_once-requires : goal.gather_once-requires
gather_once-requires c =
    let firsts = c.pop-last.new.self.items in
    let last = option_to_list c.pop-last.result in
    let all = subst (AreOfOne c.args.machine.now) c.pop-last.ensures.items c.requires in
    record {
      each = λ i p at. all.each i p (still_there firsts last i p at);
      one = one_of_first firsts last all.one;
    }
